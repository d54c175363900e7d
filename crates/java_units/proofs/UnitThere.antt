-- Each text has a unit.
use Rattle.std.proofs.Common.{◌≡◌, ◌≢◌, ◌≤◌, ℕ, zero, suc, ◌+◌, Bool, true, false, List, [], ◌∷◌, length, drop, refl, arith, Option, Some, None}
use Rattle.std.proofs.lemmas.List.{length-drop}
use Rattle.std.specs.List.{flat_map}
use Rattle.java_tokens.specs.declared.token.Token.{Token}
use Rattle.java_units.specs.declared.class.Around.{Around}
use Rattle.java_units.specs.declared.types.Unit as unit
use Rattle.java_units.specs.Signs.{Sign, signs_of}
use Rattle.java_units.specs.Pieces.{end, pieces, piece_len}
use Rattle.java_units.specs.Units.{Body, none, plain, class, IsBody, is_class, class_of, members_of, package_of, import_in, size, listed}
use Rattle.java_units.specs.UnitLaws.{HasUnit}
use Rattle.java_units.proofs.Bounds.{piece_some, piece_within, members_within, class_block, head_within, end_is, end_within, some_signs}

abbrev Bodies : ℕ → ℕ → Option Around → List Sign → Type 0
Bodies count next around ss = (b : Body) × IsBody count around next ss b

abbrev Further : ℕ → ℕ → Type 0
Further n count = (next : ℕ) (around : Option Around) (ss : List Sign) → length ss ≤ n → Bodies count next around ss

plain_there : (n count next : ℕ) (around : Option Around) (ss : List Sign) → Further n count → ss ≢ [] → length (drop (piece_len ss) ss) ≤ n → is_class ss ≡ false → Bodies count next around ss
unfolding IsBody
plain_there n count next around ss more z l e = let m = more next around (drop (piece_len ss) ss) l in (plain m.0, (z, e, m.1))

class_there : (n count next : ℕ) (around : Option Around) (ss : List Sign) → Further n count → length (drop (piece_len ss) ss) ≤ n → (is_class ss ≡ true → length (members_of (class_of around count ss).kind ss) ≤ n) → is_class ss ≡ true → Bodies count next around ss
unfolding IsBody
class_there n count next around ss more l k e =
    let c = class_of around count ss in
    let i = more (suc next) (Some (record { number = next; kind = c.kind })) (members_of c.kind ss) (k e) in
    let m = more (suc next + size i.0) around (drop (piece_len ss) ss) l in
    (class c i.0 m.0, (e, refl, i.1, m.1))

-- what a class is made of ends before the class does
members_less : (n : ℕ) (around : Option Around) (count : ℕ) (ss : List Sign) → length ss ≤ suc n → is_class ss ≡ true → length (members_of (class_of around count ss).kind ss) ≤ n
members_less n around count ss l e =
    omega (arith, members_within (class_of around count ss).kind ss (class_block ss e), end_is ss, end_within (end ss), head_within ss 0 false, l)

either_there : (n count next : ℕ) (around : Option Around) (ss : List Sign) (b : Bool) → Further n count → ss ≢ [] → length ss ≤ suc n → is_class ss ≡ b → Bodies count next around ss
either_there n count next around ss false more z l e =
    let p = some_signs ss z in
    let s = piece_some ss p in
    let d : length (drop (piece_len ss) ss) ≤ n = omega (arith, s, length-drop (piece_len ss) ss, piece_within ss, l) in
    plain_there n count next around ss more z d e
either_there n count next around ss true more z l e =
    let p = some_signs ss z in
    let s = piece_some ss p in
    let d : length (drop (piece_len ss) ss) ≤ n = omega (arith, s, length-drop (piece_len ss) ss, piece_within ss, l) in
    class_there n count next around ss more d (members_less n around count ss l) e

body_there : (n count next : ℕ) (around : Option Around) (ss : List Sign) → length ss ≤ n → Bodies count next around ss
unfolding IsBody
body_there n count next around [] l = (none, refl)
body_there zero count next around (s ∷ ss) l = absurd (omega (arith, l))
body_there (suc n) count next around (s ∷ ss) l =
    let z : (s ∷ ss) ≢ [] = λ e. absurd (cc) in
    either_there n count next around (s ∷ ss) (is_class (s ∷ ss)) (λ next around ss l. body_there n count next around ss l) z l refl

pub unit_there : (text : List ℕ) (tokens : List Token) → HasUnit text tokens
unit_there text tokens =
    let ss = signs_of text tokens in
    let k : length ss ≤ length ss = omega arith in
    let b = body_there (length ss) (length tokens) 0 None ss k in
    let u : unit.Unit = record { «package» = package_of (pieces ss); imports = flat_map import_in (pieces ss); classes = listed b.0 } in
    record { one = u; is = record { own_package = refl; all_imports = refl; all_classes = record { body = b.0; is = b.1; are = refl } } }
