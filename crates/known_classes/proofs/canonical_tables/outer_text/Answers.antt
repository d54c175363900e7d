use Rattle.std.proofs.Common.{rules, ◌≡◌, ◌∙◌, ◌-◌, ◌+◌, ◌<◌, ap, sym, refl, arith, ℕ, length, slice_get, Some, None}
use Rattle.std.proofs.lemmas.Option.{slice_get_within, slice_get_read}
use Rattle.known_classes.specs.Known.{class_named, canonical, dotted, IsPlaceOf}
use Rattle.known_classes.proofs.TextPlaces.{found_class, unknown_dotted, ok_then}
use Rattle.known_classes.proofs.canonical_tables.outer_text.Goals as goal

pub returns-in_default : goal.returns-in_default
returns-in_default g c =
    let known = g.L.ClassList.listed c.args.classes.now in
    let none : class_named known c.args.outer.now ≡ None = search rules in
    ok_then (λ t. t ≡ dotted c.args.outer.now) (λ t. t ≡ canonical known c.args.outer.now) c.dotted_text.result c.dotted_text.ensures (λ t e. unknown_dotted known c.args.outer.now t none e)

pub canonical_name-requires : goal.canonical_name-requires
canonical_name-requires g c =
    let known = g.L.ClassList.listed c.args.classes.now in
    let at : IsPlaceOf known (class_named known c.args.outer.now) (Some c.in-Some.around) = search rules in
    let d = found_class known c.args.outer.now c.in-Some.around at in
    let b = c.requires.behind.named c.in-Some.around d.0 c.if-around-from.true d.1 in
    slice_get_within (g.C.Classes.listed c.args.base.now) c.in-Some.around b.0 b.1

pub returns-then-around-from : goal.returns-then-around-from
returns-then-around-from g c =
    let known = g.L.ClassList.listed c.args.classes.now in
    let at : IsPlaceOf known (class_named known c.args.outer.now) (Some c.in-Some.around) = search rules in
    let d = found_class known c.args.outer.now c.in-Some.around at in
    let b = c.requires.behind.named c.in-Some.around d.0 c.if-around-from.true d.1 in
    ok_then (λ t. t ≡ c.canonical_name.result.now) (λ t. t ≡ canonical known c.args.outer.now) c.from_str.result c.from_str.ensures (λ t e. e ∙ c.canonical_name.ensures b.0 b.1 ∙ b.2 ∙ ap (canonical known) d.2)

pub returns : goal.returns
returns g c =
    let known = g.L.ClassList.listed c.args.classes.now in
    let texts = c.args.texts.now in
    let i : ℕ = c.in-Some.around - c.args.from in
    let at : IsPlaceOf known (class_named known c.args.outer.now) (Some c.in-Some.around) = search rules in
    let d = found_class known c.args.outer.now c.in-Some.around at in
    let b : c.in-Some.around < c.args.from + length texts = c.requires.before c.in-Some.around at in
    let l : i < length texts = omega (arith, b, c.if-around-from.false) in
    let p : c.args.from + i ≡ c.in-Some.around = omega (arith, c.if-around-from.false) in
    let named : slice_get texts i ≡ Some (canonical known d.0.name) = c.requires.names.each i d.0 l (ap (slice_get known) p ∙ d.1) in
    let read : slice_get texts i ≡ Some c.index-texts-around.result = slice_get_read texts (length texts) i c.index-texts-around.result refl l c.index-texts-around.is in
    let same : c.index-texts-around.result ≡ canonical known d.0.name = (let q : Some c.index-texts-around.result ≡ Some (canonical known d.0.name) = sym read ∙ named in cc) in
    ok_then (λ t. t ≡ c.index-texts-around.result) (λ t. t ≡ canonical known c.args.outer.now) c.copy.result c.copy.ensures.equal (λ t e. e ∙ same ∙ ap (canonical known) d.2)
