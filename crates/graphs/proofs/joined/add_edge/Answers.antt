use Rattle.std.proofs.Common.{rules, ◌≡◌, ◌<◌, ◌++◌, ◌∷◌, [], ◌∙◌, ap, length}
use Rattle.std.proofs.lemmas.List.{get_or_default}
use Rattle.graphs.specs.Graph.{edges}
use Rattle.graphs.proofs.Turning.{set-edge}
use Rattle.graphs.proofs.joined.add_edge.Goals as goal

pub returns-clause-added : goal.returns-clause-added
returns-clause-added c =
    let inside : c.args.from < length c.args.rows.now.items = search rules in
    let row : c.index_mut-row.result.now ≡ edges c.args.rows.now.items c.args.from = c.index_mut-row.ensures.value ∙ get_or_default c.args.rows.now.items c.args.from c.index_mut-row.result.now [] inside in
    set-edge c.args.rows.now.items c.args.from c.args.to c.push.new.self inside (c.in_ok-push.ensures.ok ∙ ap (λ r. r ++ c.args.to ∷ []) row)
