-- The attributes that are written are spelled as class files spell them.
use Rattle.std.proofs.Common.{◌≡◌, ℕ, ◌+◌, ◌*◌, ◌<◌, List, [], ◌∷◌, ◌++◌, length, map, refl, sym, ap, ◌∙◌, arith, false}
use Rattle.std.specs.Prelude.{◌==◌}
use Rattle.std.specs.List.{flat_map}
use Rattle.std.proofs.lemmas.List.{length-append, length-map, append-nil}
use Rattle.byteorder.specs.Endian.{big_bytes}
use Rattle.class_shape.specs.declared.shapes.InnerRow.{InnerRow}
use Rattle.class_shape.specs.Parts.{row, attribute, counted}
use Rattle.class_shape.specs.Shapes.{inner_classes}
use Rattle.workload.specs.Needs.{Needed}
use Rattle.workload.specs.Layout.{row_in, attributes_in, inner_bytes, text_place}

pub rows_length : (pool : List Needed) (rs : List InnerRow) → length (flat_map row (map (row_in pool) rs)) ≡ 8 * length rs
rows_length pool [] = refl
rows_length pool (r ∷ rs) = omega (arith, rows_length pool rs, length-append (row (row_in pool r)) (flat_map row (map (row_in pool) rs)))

-- the length of the body of an attribute that holds the rows
pub body_length : (pool : List Needed) (rs : List InnerRow) → length (counted row (map (row_in pool) rs)) ≡ 2 + 8 * length rs
body_length pool rs = omega (arith, rows_length pool rs, length-append (big_bytes 2 (length (map (row_in pool) rs))) (flat_map row (map (row_in pool) rs)))

pub attributes_none : (pool : List Needed) (rs : List InnerRow) → length rs ≡ 0 → big_bytes 2 0 ≡ counted attribute (attributes_in pool rs)
attributes_none pool [] e = refl
attributes_none pool (r ∷ rs) e = absurd (omega (arith, e))

pub attributes_some : (pool : List Needed) (rs : List InnerRow) → 0 < length rs → big_bytes 2 1 ++ inner_bytes pool rs ≡ counted attribute (attributes_in pool rs)
attributes_some pool [] lt = absurd (omega (arith, lt))
attributes_some pool (r ∷ rs) lt =
    let name = big_bytes 2 (text_place pool inner_classes) in
    let rows = flat_map row (map (row_in pool) (r ∷ rs)) in
    let n : ℕ = length (r ∷ rs) in
    let count : length (map (row_in pool) (r ∷ rs)) ≡ n = length-map (r ∷ rs) (row_in pool) in
    let long : length (counted row (map (row_in pool) (r ∷ rs))) ≡ 2 + 8 * n = body_length pool (r ∷ rs) in
    ap (λ (t : List ℕ). big_bytes 2 1 ++ t)
    (ap (λ (k : ℕ). name ++ (big_bytes 4 (2 + 8 * n) ++ (big_bytes 2 k ++ rows))) (sym count)
    ∙ ap (λ (k : ℕ). name ++ (big_bytes 4 k ++ (big_bytes 2 (length (map (row_in pool) (r ∷ rs))) ++ rows))) (sym long)
    ∙ sym (append-nil _))

pub not_empty : (rs : List InnerRow) → false ≡ (length rs == 0) → 0 < length rs
not_empty [] h = absurd cc
not_empty (r ∷ rs) h = omega arith
