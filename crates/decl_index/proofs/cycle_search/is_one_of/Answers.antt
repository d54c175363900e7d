use Rattle.graphs.proofs.Elements.{none_in}
use Rattle.std.proofs.Common.{rules, ◌≡◌, true, false}
use Rattle.decl_index.proofs.Names.{same}
use Rattle.decl_index.proofs.Searches.{one-at, not-next}
use Rattle.decl_index.proofs.cycle_search.is_one_of.Goals as goal

pub loop-one-init : goal.loop-one-init
loop-one-init c = λ h. none_in c.args.name.now h

pub loop-one-preserved : goal.loop-one-preserved
loop-one-preserved c =
    let apart : same c.one-item.result c.args.name.now ≡ false = search rules in
    not-next c.args.name.now c.args.names.now c.loop-one.one-index c.one-item.result (search rules) c.one-item.is apart c.loop-one.invariant

pub returns-then-eq-clause-sound : goal.returns-then-eq-clause-sound
returns-then-eq-clause-sound c =
    let here : same c.one-item.result c.args.name.now ≡ true = search rules in
    λ t. one-at c.args.name.now c.args.names.now c.loop-one.one-index c.one-item.result (search rules) c.one-item.is here
