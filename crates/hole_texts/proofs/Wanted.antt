-- What crowded declarations want is spelled.
use Rattle.std.proofs.Common.{◌≡◌, ◌∙◌, sym, ap, subst, refl, arith, ℕ, zero, suc, ◌<◌, Bool, true, false, List, [], ◌∷◌, length, map, slice_get, get_or, is_some, IsUtf8, None, Some, option_map}
use Rattle.std.specs.List.{AllByRecursion, list_all}
use Rattle.std.proofs.lemmas.Bool.{both_ways, and_parts, or_right}
use Rattle.type_names.specs.declared.kinds.Erased.{Erased}
use Rattle.terms.specs.Apart.{Wants}
use Rattle.terms.specs.declared.parts.Decl.{Decl}
use Rattle.offers.specs.Scenes.{Scene, of_class}
use Rattle.offers.specs.Spellings.{class_spelling, spelling, with_dims, type_text}
use Rattle.offers.specs.declared.member.Kind.{Kind}
use Rattle.offers.specs.declared.member.Kind.TheVariants as kind
use Rattle.offers.specs.declared.member.Member.{Member}
use Rattle.offers.specs.Candidates.{is_static}
use Rattle.offers.specs.Omissions.{is_crowded, needs_owner, is_written}
use Rattle.scopes.specs.Kinds.{Kinds, listed, count, type_number, kind_text}
use Rattle.scopes.specs.Declarations.{wants_by, member_decl}
use Rattle.scopes.proofs.Numbered.{Has, type-among, number-below}
use Rattle.hole_texts.proofs.Pairs.{all-both}
use Rattle.hole_texts.proofs.Spelled.{IsTypeSpelled, type-spelled}
use Rattle.hole_texts.proofs.Left.{IsLeft, IsSome, Stands, some-text, owner-spelled, params-spelled}
use Rattle.hole_texts.proofs.Origins.{Origin, this, local, literal, made, lambda}
use Rattle.hole_texts.proofs.Shown.{args-are, crowded-is, IsWanted, wanted-one, number-get}

-- a type that stands among these and is spelled
abbrev pub IsSpelledAmong : Scene → Kinds → Erased → Type 0
IsSpelledAmong v ks t = Stands ks t × IsSome (spelling v t)

all-some : (v : Scene) (xs : List Erased) → list_all (λ p. is_some (spelling v p)) xs ≡ true → AllByRecursion (λ p. IsSome (spelling v p)) xs
all-some v [] e = tt
all-some v (x ∷ xs) e = let k = and_parts (is_some (spelling v x)) (list_all (λ p. is_some (spelling v p)) xs) e in (some-text (spelling v x) k.0, all-some v xs k.1)

class-some : (v : Scene) (name : List ℕ) → IsSome (class_spelling v name) → IsSome (spelling v (of_class name))
unfolding spelling
class-some v name h = record { text = with_dims 0 h.text; is = ap (option_map (with_dims 0)) h.is }

all-wants : (P : Erased → Type 0) (m : Member) (k : Kind) (s : Bool) → P (of_class m.owner) → AllByRecursion P m.params → AllByRecursion P (wants_by m k s)
all-wants P m kind.Field true h k = tt
all-wants P m kind.Field false h k = (h, tt)
all-wants P m kind.Method true h k = k
all-wants P m kind.Method false h k = (h, k)
all-wants P m kind.Constructor s h k = k

made-wants : (v : Scene) (ks : Kinds) (ms : List Member) (m : Member) (a : ℕ) → IsLeft v ks ms m → is_crowded v ks.types ms m ≡ true → Wants (member_decl v ks ms m).args a → IsWanted (IsSpelledAmong v ks) ks a
made-wants v ks ms m a h c w =
    let written : is_written v true m ≡ true = subst (λ b. is_written v b m ≡ true) c h.written in
    let owner = class-some v m.owner (owner-spelled v true m written (or_right (needs_owner m) true refl)) in
    let params = all-both (Stands ks) (λ p. IsSome (spelling v p)) m.params h.params (all-some v m.params (params-spelled v m written)) in
    wanted-one (IsSpelledAmong v ks) ks (wants_by m m.kind (is_static m)) a (all-wants (IsSpelledAmong v ks) m m.kind (is_static m) (h.own, owner) params) (subst (λ xs. Wants xs a) (args-are v ks ms m) w)

no-crowd : (d : Decl) → d.crowded ≡ false → d.crowded ≡ true → ⊥
no-crowd d e f = both_ways d.crowded e f

-- what a crowded declaration wants
pub crowded-wants : (v : Scene) (ks : Kinds) (ms : List Member) (d : Decl) (a : ℕ) → Origin v ks ms d → d.crowded ≡ true → Wants d.args a → IsWanted (IsSpelledAmong v ks) ks a
crowded-wants v ks ms d a (this h) c w = absurd (no-crowd d h.plain c)
crowded-wants v ks ms d a (local h) c w = absurd (no-crowd d h.plain c)
crowded-wants v ks ms d a (literal h) c w = absurd (no-crowd d h.plain c)
crowded-wants v ks ms d a (made h) c w =
    made-wants v ks ms h.member a h.shown.left (sym (crowded-is v ks ms h.member) ∙ sym (ap (λ (x : Decl). x.crowded) h.is) ∙ c) (subst (λ (x : Decl). Wants x.args a) h.is w)
crowded-wants v ks ms d a (lambda h) c w = absurd (no-crowd d h.plain c)

-- its text among the texts of the types
pub record IsTextAt (v : Scene) (texts : List (List ℕ)) (ks : Kinds) (a : ℕ) : Type 0 where
  pub kind : Erased
  pub is : type_number ks kind ≡ a
  pub text : List ℕ
  pub place : slice_get texts a ≡ Some text
  pub at : get_or texts a [] ≡ text
  pub utf8 : IsUtf8 text
  pub spelled : IsTypeSpelled v kind text

stands-has : (ks : Kinds) (t : Erased) → Stands ks t → Has ks.types t
unfolding Has
stands-has ks t h = h

map-at : {A B : Type 0} (f : A → B) (xs : List A) (i : ℕ) (d : A) → i < length xs → slice_get (map f xs) i ≡ Some (f (get_or xs i d))
map-at f [] i d l = absurd (omega (arith, l))
map-at f (x ∷ xs) zero d l = refl
map-at f (x ∷ xs) (suc i) d l = map-at f xs i d (omega arith)

get-at : (xs : List (List ℕ)) (i : ℕ) (x : List ℕ) → slice_get xs i ≡ Some x → get_or xs i [] ≡ x
get-at [] i x e = absurd cc
get-at (y ∷ ys) zero x e = cc
get-at (y ∷ ys) (suc i) x e = get-at ys i x e

pub text-at : (v : Scene) (ks : Kinds) (a : ℕ) → ((i : ℕ) (t : List ℕ) → slice_get (map (kind_text v) (listed ks)) i ≡ Some t → IsUtf8 t) → IsWanted (IsSpelledAmong v ks) ks a → IsTextAt v (map (kind_text v) (listed ks)) ks a
text-at v ks a texts h =
    let t = h.kind in
    let below : a < count ks = subst (λ n. n < count ks) h.is (number-below ks (Some t) (type-among ks t (stands-has ks t h.holds.0))) in
    let one : get_or (listed ks) a None ≡ Some t = ap (λ n. get_or (listed ks) n None) (sym h.is) ∙ number-get ks t h.holds.0 in
    let place : slice_get (map (kind_text v) (listed ks)) a ≡ Some (type_text v t) = map-at (kind_text v) (listed ks) a None below ∙ ap (λ x. Some (kind_text v x)) one in
    let s = type-spelled v t h.holds.1.text h.holds.1.is in
    record {
      kind = t;
      is = h.is;
      text = h.holds.1.text;
      place = place ∙ ap Some s.0;
      at = get-at (map (kind_text v) (listed ks)) a (type_text v t) place ∙ s.0;
      utf8 = subst IsUtf8 s.0 (texts a (type_text v t) place);
      spelled = s.1;
    }
