use Rattle.std.proofs.Common.{rules, ◌≡◌, ◌++◌, ◌∷◌, [], Contains}
use Rattle.decl_index.proofs.Searches.{met-none, met-there, met-push}
use Rattle.decl_index.proofs.cycle_search.meet.Goals as goal

pub loop-name-init : goal.loop-name-init
loop-name-init c = met-none c.args.found.now

pub loop-name-preserved-then-is_one_of : goal.loop-name-preserved-then-is_one_of
loop-name-preserved-then-is_one_of c =
    let there : Contains c.loop-name.found c.name-item.result = search rules in
    met-there c.args.names.now c.args.found.now c.loop-name.found c.loop-name.name-index c.name-item.result (search rules) c.name-item.is there c.loop-name.invariant

pub loop-name-preserved : goal.loop-name-preserved
loop-name-preserved c =
    let pushed : c.push.new.self ≡ c.loop-name.found ++ c.name-item.result ∷ [] = search rules in
    met-push c.args.names.now c.args.found.now c.loop-name.found c.push.new.self c.loop-name.name-index c.name-item.result (search rules) c.name-item.is pushed c.loop-name.invariant
