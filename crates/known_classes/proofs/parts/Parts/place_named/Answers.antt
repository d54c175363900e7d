use Rattle.std.proofs.Common.{rules, ◌≡◌, ◌-◌, ap, sym, subst, length, Some, None, ℕ}
use Rattle.known_classes.specs.Known.{class_named, IsPlaceOf}
use Rattle.known_classes.specs.Merging.{added}
use Rattle.std.specs.BTreeMap.{get_by_text}
use Rattle.known_classes.proofs.NumberTables.{new_place, new_none}
use Rattle.known_classes.proofs.MergedPlaces.{found_base, found_added, found_none}
use Rattle.known_classes.proofs.parts.Parts.place_named.Goals as goal

pub returns-in-Some : goal.returns-in-Some
returns-in-Some g c =
    let base = g.C.Classes.listed c.self.inside.base.now in
    let at : IsPlaceOf base (class_named base c.args.name.now) (Some c.in-Some.place) = subst (IsPlaceOf base (class_named base c.args.name.now)) c.in-Some.is c.find.ensures in
    found_base base c.self.inside.extra c.args.self.now c.args.name.now c.in-Some.place c.self.view_is at

pub returns-in-None : goal.returns-in-None
returns-in-None g c =
    let base = g.C.Classes.listed c.self.inside.base.now in
    let away : c.find.result ≡ None = search rules in
    let b : class_named base c.args.name.now ≡ None = subst (IsPlaceOf base (class_named base c.args.name.now)) away c.find.ensures in
    let gone : get_by_text c.self.inside.by_name c.args.name.now ≡ None = search rules in
    found_none base c.self.inside.extra c.args.self.now c.args.name.now c.self.view_is b (new_none base c.self.inside.extra (get_by_text c.self.inside.by_name) c.args.name.now c.self.invariant.1 b gone)

pub returns-in-Some-copied : goal.returns-in-Some-copied
returns-in-Some-copied g c =
    let base = g.C.Classes.listed c.self.inside.base.now in
    let extra = c.self.inside.extra in
    let numbers = c.self.inside.added.items in
    let k = c.in-Some-copied.number in
    let away : c.find.result ≡ None = search rules in
    let b : class_named base c.args.name.now ≡ None = subst (IsPlaceOf base (class_named base c.args.name.now)) away c.find.ensures in
    let here : get_by_text c.self.inside.by_name c.args.name.now ≡ Some k = search rules in
    let p = new_place base extra numbers (get_by_text c.self.inside.by_name) c.args.name.now k c.self.invariant.0 c.self.invariant.1 b here in
    let n : c.len.result ≡ length numbers = search rules in
    let e : length numbers - 1 - k ≡ c.len.result - 1 - k = ap (λ (x : ℕ). x - 1 - k) (sym n) in
    let a : IsPlaceOf (added base extra) (class_named (added base extra) c.args.name.now) (Some (c.len.result - 1 - k)) = subst (λ (i : ℕ). IsPlaceOf (added base extra) (class_named (added base extra) c.args.name.now) (Some i)) e p.1 in
    found_added base extra c.args.self.now c.args.name.now c.count.result (c.len.result - 1 - k) c.self.view_is b c.count.ensures.size a
