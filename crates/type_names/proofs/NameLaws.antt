-- The loop over a name.
use Rattle.std.proofs.Common.{◌≡◌, ℕ, suc, ◌+◌, ◌<◌, ◌≤◌, Bool, false, not, List, ◌∷◌, length, drop, get_or, Option, Some, None, sym, ap, ◌∙◌, arith}
use Rattle.std.proofs.lemmas.List.{drop_all}
use Rattle.std.proofs.Math.Seq.{drop-cons}
use Rattle.type_names.specs.Names.{part_step, goes_on, is_internal}

drop_one : (xs : List ℕ) (i : ℕ) → i < length xs → drop i xs ≡ get_or xs i 0 ∷ drop (i + 1) xs
drop_one xs i lt = let k : suc i ≡ i + 1 = omega arith in drop-cons xs i 0 lt ∙ ap (λ (n : ℕ). get_or xs i 0 ∷ drop n xs) k

pub part_go : (xs : List ℕ) (i : ℕ) (start next w : Bool) → i < length xs → part_step start (get_or xs i 0) ≡ Some next → is_internal start (drop i xs) ≡ w → is_internal next (drop (i + 1) xs) ≡ w
unfolding is_internal
part_go xs i start next w lt e so_far =
    let one : is_internal start (drop i xs) ≡ is_internal next (drop (i + 1) xs) = ap (is_internal start) (drop_one xs i lt) ∙ ap (λ (o : Option Bool). goes_on o (λ s. is_internal s (drop (i + 1) xs))) e in
    sym one ∙ so_far

pub part_stop : (xs : List ℕ) (i : ℕ) (start w : Bool) → i < length xs → part_step start (get_or xs i 0) ≡ None → is_internal start (drop i xs) ≡ w → false ≡ w
unfolding is_internal
part_stop xs i start w lt e so_far =
    let one : is_internal start (drop i xs) ≡ false = ap (is_internal start) (drop_one xs i lt) ∙ ap (λ (o : Option Bool). goes_on o (λ s. is_internal s (drop (i + 1) xs))) e in
    sym one ∙ so_far

pub part_end : (xs : List ℕ) (i : ℕ) (start w : Bool) → length xs ≤ i → is_internal start (drop i xs) ≡ w → not start ≡ w
unfolding is_internal
part_end xs i start w le so_far = sym (ap (is_internal start) (drop_all i xs le)) ∙ so_far
