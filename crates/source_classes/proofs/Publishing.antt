-- Classes read from the last to the first, each name once.
use Rattle.std.proofs.Common.{◌≡◌, ◌∙◌, ap, sym, ℕ, true, false, cond, List, [], ◌∷◌, ◌++◌, map, bytes_eq, Option, Some, None, inl, inr}
use Rattle.std.specs.Prelude.{is_some, reverse}
use Rattle.std.proofs.lemmas.Bool.{false_from_ne_true}
use Rattle.known_classes.specs.declared.summary.ClassSummary.{ClassSummary}
use Rattle.known_classes.specs.Known.{class_named}
use Rattle.known_classes.proofs.Merging.{two, equal, itself, class-none, class-hit, class-on, added-none, added-skip, added-take}
use Rattle.known_classes.proofs.NumberTables.{Puts}
use Rattle.source_classes.specs.SourceClasses.{last_ones, without_private}
use Rattle.source_classes.proofs.Backwards.{IsReadBack, back_first, back_skip, back_keep, back_end}

abbrev pub published_of : List ClassSummary → List ClassSummary
published_of cs = map without_private (last_ones cs)

-- what is kept so far, and which names were met
pub record IsPublishing (whole left kept : List ClassSummary) (t : List ℕ → Option ℕ) : Type 0 where
  pub back : IsReadBack published_of whole left kept
  pub has : (n : List ℕ) → is_some (t n) ≡ is_some (class_named back.done n)

pub publishing_first : (whole left kept : List ClassSummary) (t : List ℕ → Option ℕ) → left ≡ whole → kept ≡ [] → ((n : List ℕ) → t n ≡ None) → IsPublishing whole left kept t
publishing_first whole left kept t e k h = record {
  back = back_first published_of whole left kept (ap (map without_private) (added-none [])) e k;
  has = λ n. ap is_some (h n) ∙ sym (ap is_some (class-none n));
}

same-has : (x : ClassSummary) (done : List ClassSummary) (n : List ℕ) → is_some (class_named done x.name) ≡ true → is_some (class_named (x ∷ done) n) ≡ is_some (class_named done n)
same-has x done n h = elim (two (bytes_eq n x.name)) [
  | inl t ↦ ap is_some (class-hit x done n t) ∙ sym (ap (λ (m : List ℕ). is_some (class_named done m)) (equal n x.name t) ∙ h)
  | inr f ↦ ap is_some (class-on x done n f)
]

-- a class whose name was met
pub publishing_skip : (whole left more kept : List ClassSummary) (t : List ℕ → Option ℕ) (x : ClassSummary) → left ≡ more ++ x ∷ [] → is_some (t x.name) ≡ true → IsPublishing whole left kept t → IsPublishing whole more kept t
publishing_skip whole left more kept t x e s h =
    let met : is_some (class_named h.back.done x.name) ≡ true = sym (h.has x.name) ∙ s in
    record {
      back = back_skip published_of whole left more kept x h.back e (ap (map without_private) (added-skip [] x h.back.done met));
      has = λ n. h.has n ∙ sym (same-has x h.back.done n met);
    }

flip : (a b : List ℕ) → bytes_eq a b ≡ false → bytes_eq b a ≡ false
flip a b e = false_from_ne_true (bytes_eq b a) (λ t. let q : bytes_eq a b ≡ true = ap (bytes_eq a) (equal b a t) ∙ itself a in absurd cc)

has-on : (x : ClassSummary) (done : List ClassSummary) (k : ℕ) (t u : List ℕ → Option ℕ) (n : List ℕ) → Puts x.name k t u → is_some (t n) ≡ is_some (class_named done n) → is_some (u n) ≡ is_some (class_named (x ∷ done) n)
has-on x done k t u n p h = elim (two (bytes_eq n x.name)) [
  | inl w ↦ ap is_some (p n ∙ ap (λ b. cond b (Some k) (t n)) (ap (bytes_eq x.name) (equal n x.name w) ∙ itself x.name)) ∙ sym (ap is_some (class-hit x done n w))
  | inr f ↦ ap is_some (p n ∙ ap (λ b. cond b (Some k) (t n)) (flip n x.name f)) ∙ h ∙ sym (ap is_some (class-on x done n f))
]

-- a class with a new name
pub publishing_keep : (whole left more kept new : List ClassSummary) (t u : List ℕ → Option ℕ) (x y : ClassSummary) (k : ℕ) → left ≡ more ++ x ∷ [] → is_some (t x.name) ≡ false → Puts x.name k t u → y ≡ without_private x → new ≡ kept ++ y ∷ [] → IsPublishing whole left kept t → IsPublishing whole more new u
publishing_keep whole left more kept new t u x y k e s p v n h =
    let new_name : is_some (class_named h.back.done x.name) ≡ false = sym (h.has x.name) ∙ s in
    let gives : published_of (x ∷ h.back.done) ≡ y ∷ published_of h.back.done = ap (map without_private) (added-take [] x h.back.done new_name) ∙ ap (λ (r : ClassSummary). r ∷ published_of h.back.done) (sym v) in
    record {
      back = back_keep published_of whole left more kept new x y h.back e n gives;
      has = λ m. has-on x h.back.done k t u m p (h.has m);
    }

pub publishing_end : (whole left kept : List ClassSummary) (t : List ℕ → Option ℕ) → left ≡ [] → IsPublishing whole left kept t → reverse kept ≡ map without_private (last_ones whole)
publishing_end whole left kept t e h = back_end published_of whole left kept e h.back
