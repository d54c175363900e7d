-- The pieces of a body tile it.
use Rattle.std.proofs.Common.{◌≡◌, ◌≢◌, ◌<◌, ◌≤◌, ◌∙◌, ℕ, zero, suc, List, [], ◌∷◌, ◌++◌, length, drop, take, refl, ap, arith}
use Rattle.std.proofs.lemmas.List.{length-drop}
use Rattle.std.specs.List.{flat_map}
use Rattle.java_units.specs.Signs.{Sign}
use Rattle.java_units.specs.Forms.{starts}
use Rattle.java_units.specs.Pieces.{pieces, piece, piece_len, PiecesTile}
use Rattle.java_units.proofs.Bounds.{piece_some, next_piece}

cut : (n : ℕ) (ss : List Sign) → take n ss ++ drop n ss ≡ ss
cut zero ss = refl
cut (suc n) [] = refl
cut (suc n) (s ∷ ss) = ap (λ r. s ∷ r) (cut n ss)

tile_none : flat_map piece (pieces []) ≡ []
unfolding starts
tile_none = refl

tile_next : (ss : List Sign) → 0 < length ss → flat_map piece (pieces (drop (piece_len ss) ss)) ≡ drop (piece_len ss) ss → flat_map piece (pieces ss) ≡ ss
unfolding piece
tile_next ss l h = ap (flat_map piece) (next_piece ss l) ∙ (ap (λ r. take (piece_len ss) ss ++ r) h ∙ cut (piece_len ss) ss)

tile_by : (n : ℕ) (ss : List Sign) → length ss ≤ n → flat_map piece (pieces ss) ≡ ss
tile_by n [] l = tile_none
tile_by zero (s ∷ ss) l = absurd (omega arith)
tile_by (suc n) (s ∷ ss) l =
    let all = s ∷ ss in
    let some : 0 < length all = omega arith in
    let p : piece_len all ≢ 0 = piece_some all some in
    let k : length (drop (piece_len all) all) ≤ n = omega (arith, length-drop (piece_len all) all, l, p) in
    tile_next all some (tile_by n (drop (piece_len all) all) k)

pub tiled : PiecesTile
tiled body = let l : length body ≤ length body = omega arith in tile_by (length body) body l
