use Rattle.std.proofs.Common.{rules, ◌≡◌, subst, sym, None}
use Rattle.std.specs.Prelude.{MatchOption}
use Rattle.graphs.specs.Graph.{InRange, IsLeastCycle, IsAcyclic}
use Rattle.decl_index.specs.Refusals.{outers_of, IsLeastNamedCycle}
use Rattle.decl_index.proofs.Results.{some_of, none_of}
use Rattle.decl_index.proofs.Cycles.{IsSkip, graph_range, cycle_within, skip-none, no_cycle, least_named_cycle}
use Rattle.decl_index.proofs.refusals.outer_cycle.Goals as goal

pub least_cycle-requires : goal.least_cycle-requires
least_cycle-requires c = record { range = subst InRange (sym c.as_slice.ensures.value) (graph_range outers_of c.args.classes.now c.in_ok-rows.rows.items c.in_ok-rows.ensures) }

pub at-requires : goal.at-requires
at-requires c =
    let exact : MatchOption c.in_ok-place.field-0 (IsAcyclic c.as_slice.result.now c.count.result) (λ a. IsLeastCycle c.as_slice.result.now c.count.result a) = c.in_ok-place.ensures.exact in
    let least : IsLeastCycle c.in_ok-rows.rows.items c.count.result c.in-Some.place = subst (λ g. IsLeastCycle g c.count.result c.in-Some.place) c.as_slice.ensures.value (some_of (IsAcyclic c.as_slice.result.now c.count.result) (λ a. IsLeastCycle c.as_slice.result.now c.count.result a) c.in_ok-place.field-0 c.in-Some.place exact c.in-Some.is) in
    cycle_within outers_of c.args.classes.now c.in_ok-rows.rows.items c.in_ok-rows.ensures c.in-Some.place least.1

pub returns-in-Some : goal.returns-in-Some
returns-in-Some c =
    let exact : MatchOption c.in_ok-place.field-0 (IsAcyclic c.as_slice.result.now c.count.result) (λ a. IsLeastCycle c.as_slice.result.now c.count.result a) = c.in_ok-place.ensures.exact in
    let least : IsLeastCycle c.in_ok-rows.rows.items c.count.result c.in-Some.place = subst (λ g. IsLeastCycle g c.count.result c.in-Some.place) c.as_slice.ensures.value (some_of (IsAcyclic c.as_slice.result.now c.count.result) (λ a. IsLeastCycle c.as_slice.result.now c.count.result a) c.in_ok-place.field-0 c.in-Some.place exact c.in-Some.is) in
    let skip : IsSkip None c.args.classes.now c.count.result = subst (IsSkip None c.args.classes.now) (sym c.count.ensures.size) (skip-none c.args.classes.now) in
    let name : c.at.result.now.name ≡ c.in_ok-copy-in-Some.field-0 = search rules in
    subst (IsLeastNamedCycle outers_of None c.args.classes.now) name
    (least_named_cycle outers_of None c.args.classes.now c.in_ok-rows.rows.items c.count.result c.in-Some.place c.at.result.now c.count.ensures.rises c.in_ok-rows.ensures skip c.at.ensures least)

pub returns : goal.returns
returns c =
    let exact : MatchOption c.in_ok-place.field-0 (IsAcyclic c.as_slice.result.now c.count.result) (λ a. IsLeastCycle c.as_slice.result.now c.count.result a) = c.in_ok-place.ensures.exact in
    let free : IsAcyclic c.in_ok-rows.rows.items c.count.result = subst (λ g. IsAcyclic g c.count.result) c.as_slice.ensures.value (none_of (IsAcyclic c.as_slice.result.now c.count.result) (λ a. IsLeastCycle c.as_slice.result.now c.count.result a) c.in_ok-place.field-0 exact c.in-None.is) in
    let skip : IsSkip None c.args.classes.now c.count.result = subst (IsSkip None c.args.classes.now) (sym c.count.ensures.size) (skip-none c.args.classes.now) in
    no_cycle outers_of None c.args.classes.now c.in_ok-rows.rows.items c.count.result c.count.ensures.rises c.in_ok-rows.ensures skip free
