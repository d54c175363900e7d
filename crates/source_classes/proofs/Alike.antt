-- Two lists of known classes that have the same class under each name tell the same of names.
use Rattle.std.proofs.Common.{◌≡◌, ◌∙◌, ap, sym, subst, refl, ℕ, Bool, false, List, slice_get, bytes_eq, Option, Some, None}
use Rattle.known_classes.specs.declared.summary.ClassSummary.{ClassSummary}
use Rattle.known_classes.specs.Known.{class_named, class_by_canonical, canonical, HasEachOnce, outer_in, simple_in, nesting_at}
use Rattle.known_classes.specs.Nested.{nested_class, is_nested}
use Rattle.known_classes.specs.Least.{IsLeast}
use Rattle.known_classes.proofs.Sets.{set-names}
use Rattle.known_classes.proofs.Leasts.{is-least, called-by, nested-by, called-least, nested-least}
use Rattle.known_classes.proofs.TextPlaces.{named-place, named_at}

-- the same class under each name, and each name once
pub record IsAlike (ks ls : List ClassSummary) : Type 0 where
  pub once : HasEachOnce ks
  pub again : HasEachOnce ls
  pub named : (n : List ℕ) → class_named ks n ≡ class_named ls n

back : (ks ls : List ClassSummary) → IsAlike ks ls → IsAlike ls ks
back ks ls h = record { once = h.again; again = h.once; named = λ n. sym (h.named n) }

pub canonical-same : (ks ls : List ClassSummary) (n : List ℕ) → IsAlike ks ls → canonical ls n ≡ canonical ks n
canonical-same ks ls n h =
    set-names ks ls (λ m. false) n (record {
      same = λ m e. record {
        outer = ap (λ (o : Option ClassSummary). outer_in (nesting_at o)) (sym (h.named m));
        simple = ap (λ (o : Option ClassSummary). simple_in (nesting_at o)) (sym (h.named m));
      };
      closed = λ m o e t. absurd cc;
    }) refl

there : (ks ls : List ClassSummary) (i : ℕ) (c : ClassSummary) → IsAlike ks ls → slice_get ks i ≡ Some c → (j : ℕ) × (slice_get ls j ≡ Some c)
there ks ls i c h e = named-place ls c.name c (sym (h.named c.name) ∙ named_at ks i c h.once e)

-- the least class of those that pass is the same
least-over : (f g : ClassSummary → Bool) (ks ls : List ClassSummary) (r : Option ClassSummary) → ((d : ClassSummary) → g d ≡ f d) → IsAlike ks ls → IsLeast f ks r → IsLeast g ls r
least-over f g ks ls None s h k = λ j d e. let p = there ls ks j d (back ks ls h) e in s d ∙ k p.0 d p.1
least-over f g ks ls (Some c) s h k =
    let p = there ks ls k.place c h k.there in
    record {
      place = p.0;
      there = p.1;
      passes = s c ∙ k.passes;
      least = λ j d e t. let q = there ls ks j d (back ks ls h) e in k.least q.0 d q.1 (sym (s d) ∙ t);
    }

pub called-same : (ks ls : List ClassSummary) (n : List ℕ) → IsAlike ks ls → class_by_canonical ls ls n ≡ class_by_canonical ks ks n
called-same ks ls n h =
    let f : ClassSummary → Bool = λ c. bytes_eq n (canonical ks c.name) in
    let g : ClassSummary → Bool = λ c. bytes_eq n (canonical ls c.name) in
    let r : Option ClassSummary = class_by_canonical ks ks n in
    let least : IsLeast f ks r = subst (IsLeast f ks) (sym (called-by ks ks n)) (is-least f ks) in
    sym (called-least ls ls n r h.again (least-over f g ks ls r (λ d. ap (bytes_eq n) (canonical-same ks ls d.name h)) h least))

pub nested-same : (outer name : List ℕ) (ks ls : List ClassSummary) → IsAlike ks ls → nested_class outer name ls ≡ nested_class outer name ks
nested-same outer name ks ls h =
    let f : ClassSummary → Bool = λ c. is_nested outer name c.nesting in
    let r : Option ClassSummary = nested_class outer name ks in
    let least : IsLeast f ks r = subst (IsLeast f ks) (sym (nested-by outer name ks)) (is-least f ks) in
    sym (nested-least outer name ls r h.again (least-over f f ks ls r (λ d. refl) h least))
