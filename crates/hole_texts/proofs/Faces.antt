-- The functional interfaces that are offered at a hole, and its variables: each has a name of its own.
use Rattle.std.proofs.Common.{◌≡◌, ◌∙◌, sym, ap, subst, refl, arith, ℕ, ◌+◌, ◌≤◌, ◌&&◌, if◌then◌else◌, Bool, true, false, cond, List, [], ◌∷◌, bytes_eq, count_by, is_some, Option, Some, None}
use Rattle.std.specs.List.{AllByRecursion}
use Rattle.std.proofs.lemmas.Bool.{false≢true, and_parts}
use Rattle.std.proofs.lemmas.List.Sums.{sum_by-cons}
use Rattle.std.proofs.lemmas.Slice.Eq.{bytes_eq-Decides}
use Rattle.known_classes.specs.declared.summary.ClassSummary.{ClassSummary}
use Rattle.known_classes.specs.declared.summary.MethodSummary.{MethodSummary}
use Rattle.java_bodies.specs.declared.site.Local.{Local}
use Rattle.offers.specs.Scenes.{Scene}
use Rattle.offers.specs.Spellings.{class_spelling}
use Rattle.offers.specs.Reach.{offered}
use Rattle.offers.specs.declared.member.Face.{Face}
use Rattle.offers.specs.Functional.{is_interface, is_whole, faces_above, group, one_method, method_in, faces_by, faces}
use Rattle.hole_texts.proofs.Pairs.{Each2, all-on, all-flat, each-flat}
use Rattle.hole_texts.proofs.Members.{IsPlaced, HaveOthers, offered-placed, offered-once}
use Rattle.hole_texts.proofs.Left.{IsSome, some-text}

-- of this class, which is spelled
pub record IsFaceOf (v : Scene) (c : ClassSummary) (f : Face) : Type 0 where
  pub name_is : f.name ≡ c.name
  pub spelled : IsSome (class_spelling v c.name)

taken : (b : Bool) (o : Option MethodSummary) (m : MethodSummary) → (if b then o else None) ≡ Some m → b ≡ true
taken true o m e = refl
taken false o m e = absurd cc

method-spelled : (v : Scene) (c : ClassSummary) (m : MethodSummary) → method_in v c ≡ Some m → IsSome (class_spelling v c.name)
unfolding method_in
method-spelled v c m e =
    let k = and_parts (is_interface c && is_some (class_spelling v c.name)) (is_whole v c) (taken ((is_interface c && is_some (class_spelling v c.name)) && is_whole v c) (one_method (group v (faces_above v c))) m e) in
    some-text (class_spelling v c.name) (and_parts (is_interface c) (is_some (class_spelling v c.name)) k.0).1

faces-of-by : (v : Scene) (c : ClassSummary) (o : Option MethodSummary) → method_in v c ≡ o → AllByRecursion (IsFaceOf v c) (faces_by c.name o)
faces-of-by v c None e = tt
faces-of-by v c (Some m) e = (record { name_is = refl; spelled = method-spelled v c m e }, tt)

faces-of : (v : Scene) (c : ClassSummary) → AllByRecursion (IsFaceOf v c) (faces_by c.name (method_in v c))
faces-of v c = faces-of-by v c (method_in v c) refl

abbrev pub HaveOwnNames : Face → Face → Type 0
HaveOwnNames f g = f.name ≡ g.name → ⊥

one-face : (name : List ℕ) (o : Option MethodSummary) → Each2 HaveOwnNames (faces_by name o)
unfolding Each2
one-face name None = tt
one-face name (Some m) = (tt, tt)

pub faces-once : (v : Scene) → Each2 HaveOwnNames (faces v)
unfolding faces
faces-once v =
    each-flat (IsPlaced v.known) (HaveOthers (λ (c : ClassSummary). c.name)) (λ c f. f.name ≡ c.name) HaveOwnNames (λ c. faces_by c.name (method_in v c))
    (λ c p. one-face c.name (method_in v c))
    (λ c p. all-on (IsFaceOf v c) (λ f. f.name ≡ c.name) (λ f k. k.name_is) (faces_by c.name (method_in v c)) (faces-of v c))
    (λ c d f g o a b same. o (sym a ∙ same ∙ b))
    (offered v) (offered-placed v) (offered-once v)

pub faces-spelled : (v : Scene) → AllByRecursion (λ f. IsSome (class_spelling v f.name)) (faces v)
unfolding faces
faces-spelled v =
    all-flat (IsPlaced v.known) (λ f. IsSome (class_spelling v f.name)) (λ c. faces_by c.name (method_in v c))
    (λ c p. all-on (IsFaceOf v c) (λ f. IsSome (class_spelling v f.name)) (λ f k. subst (λ n. IsSome (class_spelling v n)) (sym k.name_is) k.spelled) (faces_by c.name (method_in v c)) (faces-of v c))
    (offered v) (offered-placed v)

-- variables
abbrev pub HaveNames : Local → Local → Type 0
HaveNames k l = k.name ≡ l.name → ⊥

abbrev one_if : Bool → ℕ
one_if b = cond b 1 0

zero-step : (b : Bool) (n : ℕ) → one_if b + n ≤ 0 → (b ≡ false) × (n ≤ 0)
zero-step true n l = absurd (omega (arith, l))
zero-step false n l = (refl, omega (arith, l))

named-none : (name : List ℕ) (ls : List Local) → count_by (λ l. bytes_eq l.name name) ls ≤ 0 → AllByRecursion (λ l. l.name ≡ name → ⊥) ls
named-none name [] h = tt
named-none name (l ∷ ls) h =
    let s = sum_by-cons (λ (x : Local). one_if (bytes_eq x.name name)) l ls in
    let k = zero-step (bytes_eq l.name name) (count_by (λ x. bytes_eq x.name name) ls) (omega (arith, s, h)) in
    ((λ e. false≢true (sym k.0 ∙ (bytes_eq-Decides l.name name).1 e)), named-none name ls k.1)

rest-once : (b : Bool) (n m k : ℕ) → m ≡ one_if b + n → m + k ≤ 1 → n + k ≤ 1
rest-once true n m k e l = omega (arith, e, l)
rest-once false n m k e l = omega (arith, e, l)

pub locals-once : (ls : List Local) (k : List ℕ → ℕ) → ((name : List ℕ) → count_by (λ l. bytes_eq l.name name) ls + k name ≤ 1) → Each2 HaveNames ls
unfolding Each2
locals-once [] k h = tt
locals-once (l ∷ ls) k h =
    let s : count_by (λ x. bytes_eq x.name l.name) (l ∷ ls) ≡ one_if (bytes_eq l.name l.name) + count_by (λ x. bytes_eq x.name l.name) ls = sum_by-cons (λ (x : Local). one_if (bytes_eq x.name l.name)) l ls in
    let own : one_if (bytes_eq l.name l.name) ≡ 1 = ap one_if ((bytes_eq-Decides l.name l.name).1 refl) in
    let none : count_by (λ x. bytes_eq x.name l.name) ls ≤ 0 = omega (arith, s, own, h l.name) in (
      all-on (λ x. x.name ≡ l.name → ⊥) (HaveNames l) (λ x f e. f (sym e)) ls (named-none l.name ls none),
      locals-once ls k (λ name. rest-once (bytes_eq l.name name) (count_by (λ x. bytes_eq x.name name) ls) (count_by (λ x. bytes_eq x.name name) (l ∷ ls)) (k name) (sum_by-cons (λ (x : Local). one_if (bytes_eq x.name name)) l ls) (h name)),
    )
