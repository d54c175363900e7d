-- A unit has few classes, and each class few methods.
use Rattle.std.proofs.Common.{◌≡◌, ◌≢◌, ◌<◌, ◌≤◌, ◌∙◌, ℕ, zero, suc, ◌+◌, Bool, true, false, ◌&&◌, not, if◌then◌else◌, All, List, [], ◌∷◌, ◌++◌, length, drop, refl, sym, ap, subst, arith, length-append, Option, Some, None}
use Rattle.std.proofs.lemmas.List.{length-drop}
use Rattle.std.proofs.lemmas.List.Elements.{All-nil, All-cons, All-append}
use Rattle.std.specs.List.{flat_map, list_any}
use Rattle.java_tokens.specs.declared.token.Token.{Token}
use Rattle.java_units.specs.declared.access.Modifiers.{Modifiers}
use Rattle.java_units.specs.declared.class.Around.{Around}
use Rattle.java_units.specs.declared.pieces.Form.{Form}
use Rattle.java_units.specs.declared.pieces.Form.TheVariants as form
use Rattle.java_units.specs.declared.types.ClassKind.{ClassKind}
use Rattle.java_units.specs.declared.types.Unit as unit
use Rattle.java_units.specs.Signs.{Sign, signs_of}
use Rattle.java_units.specs.Forms.{starts}
use Rattle.java_units.specs.Pieces.{end, bare, pieces, piece_len, form_of, kind_len}
use Rattle.java_units.specs.Values.{first_text}
use Rattle.java_units.specs.Members.{modifiers_of, is_plain, nested, methods_by, methods_in, has_constructor, default_constructor}
use Rattle.java_units.specs.Units.{Body, none, plain, class, IsBody, IsUnit, kind_of, kind_in, members_of, methods_of, class_by, class_of, size, listed}
use Rattle.java_units.specs.UnitLaws.{AreFew}
use Rattle.java_units.proofs.Bounds.{piece_is, piece_some, piece_within, end_is, end_within, next_piece, members_within, class_block}
use Rattle.java_units.proofs.FewDims.{signs_few}

size_listed : (b : Body) → length (listed b) ≡ size b
unfolding listed size
size_listed none = refl
size_listed (plain more) = size_listed more
size_listed (class c inner more) = omega (arith, length-append (listed inner) (listed more), size_listed inner, size_listed more)

-- each class takes a sign at least
size_within : (b : Body) (count next : ℕ) (around : Option Around) (ss : List Sign) → IsBody count around next ss b → size b ≤ length ss
unfolding IsBody size
size_within none count next around ss is = omega arith
size_within (plain more) count next around ss is = omega (arith, size_within more count next around (drop (piece_len ss) ss) is.2, length-drop (piece_len ss) ss)
size_within (class c inner more) count next around ss is =
    let b = class_block ss is.0 in
    let i = size_within inner count (suc next) (Some (record { number = next; kind = c.kind })) (members_of c.kind ss) is.2 in
    let m = size_within more count (suc next + size inner) around (drop (piece_len ss) ss) is.3 in
    omega (arith, i, m, members_within c.kind ss b, piece_is ss, piece_within ss, length-drop (piece_len ss) ss)

-- a piece gives one method at most
by_form : (f : Form) (kind : ClassKind) (count : ℕ) (ss : List Sign) → length (methods_by f kind count ss) ≤ 1
by_form form.Package kind count ss = omega arith
by_form form.Import kind count ss = omega arith
by_form form.Class kind count ss = omega arith
by_form form.Constructor kind count ss = omega arith
by_form form.Method kind count ss = omega arith
by_form form.Field kind count ss = omega arith
by_form form.Nothing kind count ss = omega arith

one_method : (kind : ClassKind) (name : List ℕ) (count : ℕ) (ss : List Sign) → length (methods_in kind name count ss) ≤ 1
unfolding methods_in
one_method kind name count ss = by_form (form_of name ss) kind count ss

no_pieces : (kind : ClassKind) (name : List ℕ) (count : ℕ) → length (flat_map (methods_in kind name count) (pieces [])) ≡ 0
unfolding starts
no_pieces kind name count = refl

pieces_methods : (n : ℕ) (kind : ClassKind) (name : List ℕ) (count : ℕ) (ss : List Sign) → length ss ≤ n → length (flat_map (methods_in kind name count) (pieces ss)) ≤ length ss
pieces_methods n kind name count [] l = omega (arith, no_pieces kind name count)
pieces_methods zero kind name count (s ∷ ss) l = absurd (omega arith)
pieces_methods (suc n) kind name count (s ∷ ss) l =
    let all = s ∷ ss in
    let some : 0 < length all = omega arith in
    let r = drop (piece_len all) all in
    let d = length-drop (piece_len all) all in
    let p : piece_len all ≢ 0 = piece_some all some in
    let k : length r ≤ n = omega (arith, d, l, p) in
    let e = ap (λ ps. length (flat_map (methods_in kind name count) ps)) (next_piece all some) in
    omega (arith, e, length-append (methods_in kind name count all) (flat_map (methods_in kind name count) (pieces r)), one_method kind name count all, pieces_methods n kind name count r k, d, p, piece_within all)

default_few : (b : Bool) (m : Modifiers) → length (if b then default_constructor m ∷ [] else []) ≤ 1
default_few true m = omega arith
default_few false m = omega arith

class_methods : (kind : ClassKind) (name : List ℕ) (count : ℕ) (m : Modifiers) (ss : List Sign) → length (methods_of kind name count m (pieces ss)) ≤ length ss + 1
unfolding methods_of
class_methods kind name count m ss =
    let b = is_plain kind && not (list_any (has_constructor name) (pieces ss)) in
    let enough : length ss ≤ length ss = omega arith in
    omega (
      arith,
      length-append (flat_map (methods_in kind name count) (pieces ss)) (if b then default_constructor m ∷ [] else []),
      default_few b m,
      pieces_methods (length ss) kind name count ss enough,
    )

kind_is : (around : Option Around) (count : ℕ) (ss : List Sign) → (class_of around count ss).kind ≡ kind_of (bare ss)
unfolding class_of class_by
kind_is around count ss = refl

methods_within : (around : Option Around) (count : ℕ) (ss : List Sign) → length (class_of around count ss).methods ≤ length (members_of (kind_of (bare ss)) ss) + 1
unfolding class_of class_by
methods_within around count ss =
    class_methods (kind_of (bare ss)) (first_text (drop (kind_len (bare ss)) (bare ss))) count (nested (kind_in around) (kind_of (bare ss)) (modifiers_of ss)) (members_of (kind_of (bare ss)) ss)

methods_few : (b : Body) (n count next : ℕ) (around : Option Around) (ss : List Sign) → length ss ≤ n → IsBody count around next ss b → All (λ c. length c.methods ≤ n) (listed b)
unfolding IsBody listed
methods_few none n count next around ss l is = All-nil (λ c. length c.methods ≤ n)
methods_few (plain more) n count next around ss l is =
    let k : length (drop (piece_len ss) ss) ≤ n = omega (arith, length-drop (piece_len ss) ss, l) in
    methods_few more n count next around (drop (piece_len ss) ss) k is.2
methods_few (class c inner more) n count next around ss l is =
    let b = class_block ss is.0 in
    let kinds : c.kind ≡ kind_of (bare ss) = ap (λ x. x.kind) is.1 ∙ kind_is around count ss in
    let w = members_within (kind_of (bare ss)) ss b in
    let v = members_within c.kind ss b in
    let own : length c.methods ≤ n = omega (arith, ap (λ x. length x.methods) is.1, methods_within around count ss, w, end_within (end ss), end_is ss, l) in
    let k : length (members_of c.kind ss) ≤ n = omega (arith, v, end_within (end ss), end_is ss, l) in
    let j : length (drop (piece_len ss) ss) ≤ n = omega (arith, length-drop (piece_len ss) ss, l) in
    let i = methods_few inner n count (suc next) (Some (record { number = next; kind = c.kind })) (members_of c.kind ss) k is.2 in
    let m = methods_few more n count (suc next + size inner) around (drop (piece_len ss) ss) j is.3 in
    All-cons (λ x. length x.methods ≤ n) c (listed inner ++ listed more) own (All-append (λ x. length x.methods ≤ n) (listed inner) (listed more) i m)

pub few_unit : (text : List ℕ) (tokens : List Token) (u : unit.Unit) → IsUnit text tokens u → AreFew tokens u.classes
few_unit text tokens u is =
    let all = is.all_classes in
    let ss = signs_of text tokens in
    let l = signs_few text tokens in
    let few : length (listed all.body) ≤ length tokens = omega (arith, size_listed all.body, size_within all.body (length tokens) 0 None ss all.is, l) in
    let methods = methods_few all.body (length tokens) (length tokens) 0 None ss l all.is in
    let h : AreFew tokens (listed all.body) = record { few_classes = few; few_methods = methods } in
    subst (AreFew tokens) (sym all.are) h
