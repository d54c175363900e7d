-- The types of a unit have few dimensions.
use Rattle.std.proofs.Common.{◌≡◌, ◌≤◌, ◌<◌, ◌^◌, ℕ, suc, ◌+◌, ◌*◌, Bool, true, false, if◌then◌else◌, List, [], ◌∷◌, length, refl, sym, ap, subst, arith, None}
use Rattle.java_tokens.specs.declared.token.Token.{Token}
use Rattle.java_tokens.specs.Tokens.{Tile}
use Rattle.java_units.specs.declared.types.Unit as unit
use Rattle.java_units.specs.declared.types.ClassKind.TheVariants.{ClassDecl}
use Rattle.java_units.specs.Signs.{Sign, is_blank, sign_of, signs_from, with_blocks, signs_of}
use Rattle.java_units.specs.Units.{IsUnit, listed}
use Rattle.java_units.specs.Dimensions.{greatest, type_dims, dims_of_bounds, HasFewDims}
use Rattle.java_units.proofs.ClassTypes.{body_few}
use Rattle.java_units.proofs.Bounds.{body_pays}

signs_or : (b : Bool) (s : Sign) (ss : List Sign) (n : ℕ) → length ss ≤ n → length (if b then ss else s ∷ ss) ≤ suc n
signs_or true s ss n l = omega (arith, l)
signs_or false s ss n l = omega (arith, l)

signs_within : (text : List ℕ) (n : ℕ) (ts : List Token) → length (signs_from text n ts) ≤ length ts
unfolding signs_from
signs_within text n [] = omega arith
signs_within text n (t ∷ ts) = signs_or (is_blank t.kind) (sign_of text n t) (signs_from text (n + 1) ts) (length ts) (signs_within text (n + 1) ts)

blocks_length : (ss : List Sign) → length (with_blocks ss) ≡ length ss
unfolding with_blocks
blocks_length [] = refl
blocks_length (s ∷ ss) = ap suc (blocks_length ss)

pub signs_few : (text : List ℕ) (tokens : List Token) → length (signs_of text tokens) ≤ length tokens
signs_few text tokens = omega (arith, blocks_length (signs_from text 0 tokens), signs_within text 0 tokens)

-- each token takes a byte of the text at least
tile_length : (ts : List Token) (at end : ℕ) → Tile at end ts → at + length ts ≤ end
tile_length [] at end h = omega (arith, h)
tile_length (t ∷ ts) at end h = omega (arith, h.1, tile_length ts t.end end h.2)

pub few_dims : (text : List ℕ) (tokens : List Token) (u : unit.Unit) → IsUnit text tokens u → HasFewDims text tokens u.classes
few_dims text tokens u is =
    let all = is.all_classes in
    let ss = signs_of text tokens in
    let n = length tokens in
    let l = signs_few text tokens in
    let a = body_few all.body n 0 n None ss l all.is in
    let b = body_pays all.body n 0 None ss ClassDecl [] all.is in
    let few : greatest type_dims (listed all.body) + dims_of_bounds (listed all.body) ≤ 2 * n = omega (arith, a, b, l) in
    let bounds : 2 * dims_of_bounds (listed all.body) ≤ n = omega (arith, b, l) in
    let fits : length text ≤ 16777216 → Tile 0 (length text) tokens → greatest type_dims (listed all.body) + dims_of_bounds (listed all.body) < 2 ^ 64 = λ h t. omega (arith, few, h, tile_length tokens 0 (length text) t) in
    let h : HasFewDims text tokens (listed all.body) = record { few = few; bounds = bounds; fits = fits } in
    subst (HasFewDims text tokens) (sym all.are) h
