-- The states in which the wants of a source are sought.
use Rattle.std.proofs.Common.{◌≡◌, ℕ, zero, suc, ◌+◌, ◌<◌, ◌==◌, List, [], ◌∷◌, ◌++◌, length, map, take, get_or, slice_get, Some, refl, sym, ap, ◌∙◌}
use Rattle.std.proofs.lemmas.Bool.{or_left, or_right, eq-eqb}
use Rattle.std.proofs.lemmas.List.{take_more, map-append, length-map}
use Rattle.terms.specs.declared.parts.Arg.{Arg}
use Rattle.succinct.specs.Compression.{Compression, need_of, AreNeedsOf, AreDistinct}
use Rattle.succinct.specs.Sets.{has}
use Rattle.succinct.specs.declared.need.Need.{Need}
use Rattle.patterns.specs.Patterned.{Patterned, state_sought}
use Rattle.edges.specs.Edges.{IsTail, AreTails}
use Rattle.edges.specs.Made.{tail_in, tails_at, AreFound}
use Rattle.edges.proofs.Options.{some_eq}

-- one tail more
pub tails_at-more : (d : Patterned) (i k n t : ℕ) (needs tails tails' : List ℕ) → k < length needs → n ≡ get_or needs k 0 → state_sought d i n ≡ Some t → tails' ≡ tails ++ t ∷ [] → tails ≡ tails_at d i (take k needs) → tails' ≡ tails_at d i (take (k + 1) needs)
tails_at-more d i k n t needs tails tails' low at found pushed before =
    pushed ∙ ap (λ l. l ++ t ∷ []) before ∙ ap (λ x. tails_at d i (take k needs) ++ x ∷ []) (sym (ap tail_in found))
    ∙ sym (map-append (λ x. tail_in (state_sought d i x)) (take k needs) (n ∷ []))
    ∙ ap (λ x. tails_at d i (take k needs ++ x ∷ [])) at
    ∙ sym (ap (tails_at d i) (take_more needs k 0 low))

-- the tail of each want
tails-each : (c : Compression) (d : Patterned) (i : ℕ) (args : List Arg) (ns : List ℕ) → AreNeedsOf c.needs args ns → AreFound d i ns → (k : ℕ) (a : Arg) (t : ℕ) → slice_get args k ≡ Some a → slice_get (tails_at d i ns) k ≡ Some t → IsTail c d i a t
tails-each c d i [] ns named found k a t h h' = cc
tails-each c d i (b ∷ args) [] named found k a t h h' = cc
tails-each c d i (b ∷ args) (n ∷ ns) named found zero a t h h' =
    let first : slice_get c.needs n ≡ Some (need_of b) = cc in
    let f = found n (or_left (n == n) (has n ns) (eq-eqb n n refl)) in
    record {
      need = n;
      is = first ∙ ap (λ x. Some (need_of x)) (some_eq b a h);
      to = f.1 ∙ ap (λ x. Some x) (sym (ap tail_in f.1) ∙ some_eq (tail_in (state_sought d i n)) t h');
    }
tails-each c d i (b ∷ args) (n ∷ ns) named found (suc k) a t h h' =
    let later : map (λ j. slice_get c.needs j) ns ≡ map (λ x. Some (need_of x)) args = cc in
    tails-each c d i args ns later (λ m has_m. found m (or_right (m == n) (has m ns) has_m)) k a t h h'

pub tails-are : (c : Compression) (d : Patterned) (i : ℕ) (args : List Arg) (ns : List ℕ) → AreNeedsOf c.needs args ns → AreFound d i ns → AreTails c d i args (tails_at d i ns)
tails-are c d i args ns named found = record {
  as_many = length-map ns (λ n. tail_in (state_sought d i n)) ∙ sym (length-map ns (λ j. slice_get c.needs j)) ∙ ap length named ∙ length-map args (λ x. Some (need_of x));
  each = tails-each c d i args ns named found;
}

-- numbers that name the same needs are the same
pub same-numbers : (needs : List Need) (args : List Arg) (ns ms : List ℕ) → AreDistinct needs → AreNeedsOf needs args ns → AreNeedsOf needs args ms → ns ≡ ms
same-numbers needs [] [] [] distinct a b = refl
same-numbers needs [] (n ∷ ns) ms distinct a b = cc
same-numbers needs [] [] (m ∷ ms) distinct a b = cc
same-numbers needs (x ∷ args) [] ms distinct a b = cc
same-numbers needs (x ∷ args) (n ∷ ns) [] distinct a b = cc
same-numbers needs (x ∷ args) (n ∷ ns) (m ∷ ms) distinct a b =
    let first : slice_get needs n ≡ Some (need_of x) = cc in
    let other : slice_get needs m ≡ Some (need_of x) = cc in
    let later : map (λ j. slice_get needs j) ns ≡ map (λ y. Some (need_of y)) args = cc in
    let rest : map (λ j. slice_get needs j) ms ≡ map (λ y. Some (need_of y)) args = cc in
    ap (λ k. k ∷ ns) (distinct n m (need_of x) first other) ∙ ap (λ l. m ∷ l) (same-numbers needs args ns ms distinct later rest)
