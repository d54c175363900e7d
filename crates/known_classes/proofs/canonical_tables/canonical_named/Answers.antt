use Rattle.std.proofs.Common.{rules, ◌≡◌, ◌∙◌, ap, Some, None}
use Rattle.known_classes.specs.Known.{class_named, canonical, dotted, IsPlaceOf}
use Rattle.known_classes.proofs.TextPlaces.{found_class, unknown_dotted, ok_then}
use Rattle.known_classes.proofs.canonical_tables.canonical_named.Goals as goal

pub returns-in_default : goal.returns-in_default
returns-in_default g c =
    let known = g.C.Classes.listed c.args.known.now in
    let none : class_named known c.args.name.now ≡ None = search rules in
    ok_then (λ t. t ≡ dotted c.args.name.now) (λ t. t ≡ canonical known c.args.name.now) c.dotted_text.result c.dotted_text.ensures (λ t e. unknown_dotted known c.args.name.now t none e)

pub returns : goal.returns
returns g c =
    let known = g.C.Classes.listed c.args.known.now in
    let at : IsPlaceOf known (class_named known c.args.name.now) (Some c.in-Some.place) = search rules in
    let d = found_class known c.args.name.now c.in-Some.place at in
    ok_then (λ t. t ≡ c.canonical_name.result.now) (λ t. t ≡ canonical known c.args.name.now) c.from_str.result c.from_str.ensures (λ t e. e ∙ c.canonical_name.ensures d.0 d.1 ∙ ap (canonical known) d.2)
