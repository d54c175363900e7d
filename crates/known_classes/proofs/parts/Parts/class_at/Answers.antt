use Rattle.std.proofs.Common.{rules, ◌≡◌, ◌<◌, ◌-◌, arith, length, ℕ, get_or, Some, None}
use Rattle.known_classes.proofs.MergedPlaces.{behind, picked_within, at_added, at_replaced, at_kept}
use Rattle.std.specs.Vec.{vec_len}
use Rattle.std.specs.BTreeMap.{get_by_text}
use Rattle.known_classes.proofs.NumberTables.{kept_place}
use Rattle.known_classes.specs.Merging.{last_named}
use Rattle.known_classes.proofs.parts.Parts.class_at.Goals as goal

pub index-requires : goal.index-requires
index-requires g c =
    let v : vec_len c.self.inside.added ≡ length c.self.inside.added.items = search rules in
    let l = behind (g.C.Classes.listed c.self.inside.base.now) c.self.inside.extra c.args.self.now c.self.inside.added.items c.args.place c.count-kept.result c.self.invariant.0 c.self.view_is c.count-kept.ensures.size (omega arith) c.requires in
    omega (arith, v, l)

pub bounds-as_slice-index : goal.bounds-as_slice-index
bounds-as_slice-index g c =
    let base = g.C.Classes.listed c.self.inside.base.now in
    let extra = c.self.inside.extra in
    let numbers = c.self.inside.added.items in
    let k : ℕ = c.args.place - c.count-kept.result in
    let l : k < length numbers = behind base extra c.args.self.now numbers c.args.place c.count-kept.result c.self.invariant.0 c.self.view_is c.count-kept.ensures.size (omega arith) c.requires in
    let i : c.index.result.now ≡ get_or numbers k c.index.result.now = search rules in
    let w : c.index.result.now < length extra = picked_within base extra numbers k c.index.result.now c.self.invariant.0 l i in
    let s : length c.as_slice.result.now ≡ length extra = search rules in
    omega (arith, w, s)

pub offset_bounds-as_slice-index : goal.offset_bounds-as_slice-index
offset_bounds-as_slice-index g c =
    let base = g.C.Classes.listed c.self.inside.base.now in
    let extra = c.self.inside.extra in
    let numbers = c.self.inside.added.items in
    let k : ℕ = c.args.place - c.count-kept.result in
    let l : k < length numbers = behind base extra c.args.self.now numbers c.args.place c.count-kept.result c.self.invariant.0 c.self.view_is c.count-kept.ensures.size (omega arith) c.requires in
    let i : c.index.result.now ≡ get_or numbers k c.index.result.now = search rules in
    let w : c.index.result.now < length extra = picked_within base extra numbers k c.index.result.now c.self.invariant.0 l i in
    let s : length c.as_slice.result.now ≡ length extra = search rules in
    let b : c.index.result.now < length c.as_slice.result.now = omega (arith, w, s) in
    search rules

pub returns-then-place-kept : goal.returns-then-place-kept
returns-then-place-kept g c =
    let base = g.C.Classes.listed c.self.inside.base.now in
    let extra = c.self.inside.extra in
    let numbers = c.self.inside.added.items in
    let k : ℕ = c.args.place - c.count-kept.result in
    let l : k < length numbers = behind base extra c.args.self.now numbers c.args.place c.count-kept.result c.self.invariant.0 c.self.view_is c.count-kept.ensures.size (omega arith) c.requires in
    let i : c.index.result.now ≡ get_or numbers k c.index.result.now = search rules in
    let x = c.index-as_slice-index.result in
    let f : x ≡ get_or extra c.index.result.now x = search rules in
    at_added base extra c.args.self.now numbers c.args.place c.count-kept.result c.index.result.now x c.self.invariant.0 c.self.view_is c.count-kept.ensures.size (omega arith) c.requires i f

pub bounds-as_slice-number : goal.bounds-as_slice-number
bounds-as_slice-number g c =
    let base = g.C.Classes.listed c.self.inside.base.now in
    let extra = c.self.inside.extra in
    let name : get_by_text c.self.inside.by_name c.at-class.result.now.name ≡ Some c.in-Some.number = search rules in
    let at = kept_place base extra (get_by_text c.self.inside.by_name) c.at-class.result.now c.args.place (Some c.in-Some.number) c.self.invariant.1 c.at-class.ensures name in
    let l : c.in-Some.number < length extra = at.0 in
    let s : length c.as_slice-in-Some.result.now ≡ length extra = search rules in
    omega (arith, l, s)

pub returns-in-Some : goal.returns-in-Some
returns-in-Some g c =
    let base = g.C.Classes.listed c.self.inside.base.now in
    let extra = c.self.inside.extra in
    let name : get_by_text c.self.inside.by_name c.at-class.result.now.name ≡ Some c.in-Some.number = search rules in
    let at = kept_place base extra (get_by_text c.self.inside.by_name) c.at-class.result.now c.args.place (Some c.in-Some.number) c.self.invariant.1 c.at-class.ensures name in
    let x = c.index-as_slice-number.result in
    let f : x ≡ get_or extra c.in-Some.number x = search rules in
    at_replaced base extra c.args.self.now c.args.place c.in-Some.number c.at-class.result.now x c.self.view_is c.at-class.ensures at f

pub returns-in-None : goal.returns-in-None
returns-in-None g c =
    let base = g.C.Classes.listed c.self.inside.base.now in
    let extra = c.self.inside.extra in
    let name : get_by_text c.self.inside.by_name c.at-class.result.now.name ≡ None = search rules in
    let gone : last_named extra c.at-class.result.now.name ≡ None = kept_place base extra (get_by_text c.self.inside.by_name) c.at-class.result.now c.args.place None c.self.invariant.1 c.at-class.ensures name in
    at_kept base extra c.args.self.now c.args.place c.at-class.result.now c.self.view_is c.at-class.ensures gone

pub offset_bounds-as_slice-number : goal.offset_bounds-as_slice-number
offset_bounds-as_slice-number g c =
    let base = g.C.Classes.listed c.self.inside.base.now in
    let extra = c.self.inside.extra in
    let name : get_by_text c.self.inside.by_name c.at-class.result.now.name ≡ Some c.in-Some.number = search rules in
    let at = kept_place base extra (get_by_text c.self.inside.by_name) c.at-class.result.now c.args.place (Some c.in-Some.number) c.self.invariant.1 c.at-class.ensures name in
    let l : c.in-Some.number < length extra = at.0 in
    let s : length c.as_slice-in-Some.result.now ≡ length extra = search rules in
    let b : c.in-Some.number < length c.as_slice-in-Some.result.now = omega (arith, l, s) in
    search rules
