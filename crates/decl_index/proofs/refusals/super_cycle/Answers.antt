use Rattle.std.proofs.Common.{rules, ◌≡◌, length, subst, sym, Some}
use Rattle.std.specs.Prelude.{MatchOption, unwrap_or}
use Rattle.graphs.specs.Graph.{InRange, IsLeastCycle, IsAcyclic}
use Rattle.type_names.specs.Names.{object_name}
use Rattle.decl_index.specs.Refusals.{supers_of, IsLeastNamedCycle}
use Rattle.decl_index.proofs.Results.{some_of, none_of}
use Rattle.decl_index.proofs.Cycles.{IsSkip, graph_range, cycle_within, skip-found, no_cycle, least_named_cycle}
use Rattle.decl_index.proofs.refusals.super_cycle.Goals as goal

pub least_cycle-requires : goal.least_cycle-requires
least_cycle-requires c = record { range = subst InRange (sym c.as_slice.ensures.value) (graph_range supers_of c.args.classes.now c.in_ok-rows.rows.items c.in_ok-rows.ensures) }

pub at-requires : goal.at-requires
at-requires c =
    let exact : MatchOption c.in_ok-place.field-0 (IsAcyclic c.as_slice.result.now c.unwrap_or-object.result) (λ a. IsLeastCycle c.as_slice.result.now c.unwrap_or-object.result a) = c.in_ok-place.ensures.exact in
    let least : IsLeastCycle c.in_ok-rows.rows.items c.unwrap_or-object.result c.in-Some.place = subst (λ g. IsLeastCycle g c.unwrap_or-object.result c.in-Some.place) c.as_slice.ensures.value (some_of (IsAcyclic c.as_slice.result.now c.unwrap_or-object.result) (λ a. IsLeastCycle c.as_slice.result.now c.unwrap_or-object.result a) c.in_ok-place.field-0 c.in-Some.place exact c.in-Some.is) in
    cycle_within supers_of c.args.classes.now c.in_ok-rows.rows.items c.in_ok-rows.ensures c.in-Some.place least.1

pub returns-in-Some : goal.returns-in-Some
returns-in-Some c =
    let exact : MatchOption c.in_ok-place.field-0 (IsAcyclic c.as_slice.result.now c.unwrap_or-object.result) (λ a. IsLeastCycle c.as_slice.result.now c.unwrap_or-object.result a) = c.in_ok-place.ensures.exact in
    let least : IsLeastCycle c.in_ok-rows.rows.items c.unwrap_or-object.result c.in-Some.place = subst (λ g. IsLeastCycle g c.unwrap_or-object.result c.in-Some.place) c.as_slice.ensures.value (some_of (IsAcyclic c.as_slice.result.now c.unwrap_or-object.result) (λ a. IsLeastCycle c.as_slice.result.now c.unwrap_or-object.result a) c.in_ok-place.field-0 c.in-Some.place exact c.in-Some.is) in
    let here : unwrap_or c.find.result (length c.args.classes.now) ≡ c.unwrap_or-object.result = search rules in
    let skip : IsSkip (Some object_name) c.args.classes.now c.unwrap_or-object.result = subst (IsSkip (Some object_name) c.args.classes.now) here (skip-found c.args.classes.now object_name c.find.result c.find.ensures.rises c.find.ensures.place) in
    let name : c.at.result.now.name ≡ c.in_ok-copy-in-Some.field-0 = search rules in
    subst (IsLeastNamedCycle supers_of (Some object_name) c.args.classes.now) name
    (least_named_cycle supers_of (Some object_name) c.args.classes.now c.in_ok-rows.rows.items c.unwrap_or-object.result c.in-Some.place c.at.result.now c.find.ensures.rises c.in_ok-rows.ensures skip c.at.ensures least)

pub returns : goal.returns
returns c =
    let exact : MatchOption c.in_ok-place.field-0 (IsAcyclic c.as_slice.result.now c.unwrap_or-object.result) (λ a. IsLeastCycle c.as_slice.result.now c.unwrap_or-object.result a) = c.in_ok-place.ensures.exact in
    let free : IsAcyclic c.in_ok-rows.rows.items c.unwrap_or-object.result = subst (λ g. IsAcyclic g c.unwrap_or-object.result) c.as_slice.ensures.value (none_of (IsAcyclic c.as_slice.result.now c.unwrap_or-object.result) (λ a. IsLeastCycle c.as_slice.result.now c.unwrap_or-object.result a) c.in_ok-place.field-0 exact c.in-None.is) in
    let here : unwrap_or c.find.result (length c.args.classes.now) ≡ c.unwrap_or-object.result = search rules in
    let skip : IsSkip (Some object_name) c.args.classes.now c.unwrap_or-object.result = subst (IsSkip (Some object_name) c.args.classes.now) here (skip-found c.args.classes.now object_name c.find.result c.find.ensures.rises c.find.ensures.place) in
    no_cycle supers_of (Some object_name) c.args.classes.now c.in_ok-rows.rows.items c.unwrap_or-object.result c.find.ensures.rises c.in_ok-rows.ensures skip free
