use Rattle.std.proofs.Common.{◌++◌, get_or, refl, sym, ap, ◌∙◌, append-nil}
use Rattle.edges.proofs.Lists.{has-at, edges_at-none, edges_at-more}
use Rattle.edges.proofs.state_edges.add_sources.Goals as goal

pub loop-number-init : goal.loop-number-init
loop-number-init c = sym (ap (λ l. c.args.table.now ++ l) (edges_at-none c.args.env.now c.args.compressed.now c.args.patterns.now c.args.state) ∙ append-nil c.args.table.now)

pub add_source-requires : goal.add_source-requires
add_source-requires c = record { found = c.requires.found (get_or c.args.sources.now c.loop-number.number-index 0) (has-at c.args.sources.now c.loop-number.number-index 0 c.loop-number-test.true) }

pub loop-number-preserved : goal.loop-number-preserved
loop-number-preserved c = edges_at-more c.args.env.now c.args.compressed.now c.args.patterns.now c.args.state c.loop-number.number-index (get_or c.args.sources.now c.loop-number.number-index 0) c.args.sources.now c.args.table.now c.loop-number.table _ c.loop-number-test.true refl c.in_ok-add_source.ensures.added c.loop-number.invariant
