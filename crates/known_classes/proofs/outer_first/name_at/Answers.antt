use Rattle.std.proofs.Common.{◌≡◌, refl, length, slice_get, IfSome, Some}
use Rattle.std.proofs.lemmas.Option.{slice_get_read}
use Rattle.known_classes.specs.NameTables.{IsNameAt}
use Rattle.known_classes.proofs.TextPlaces.{ok_then}
use Rattle.known_classes.proofs.NearNames.{kept_name}
use Rattle.known_classes.proofs.outer_first.name_at.Goals as goal

pub returns-in-Some : goal.returns-in-Some
returns-in-Some g c =
    let known = g.L.ClassList.listed c.args.classes.now in
    let named = c.args.named.now in
    let text = c.in-Some.text.now in
    let at : slice_get named c.args.place ≡ Some text = slice_get_read named (length named) c.args.place text refl c.in-Some.ensures.lookup.3.0 c.in-Some.ensures.lookup.1 in
    ok_then (λ copy. copy ≡ text) (λ copy. IfSome copy (λ t. IsNameAt known c.args.place t)) c.copy_text.result c.copy_text.ensures (λ copy e. kept_name known (length known) c.args.place named text copy c.requires at e)
