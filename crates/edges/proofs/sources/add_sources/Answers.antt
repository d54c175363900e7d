use Rattle.std.proofs.Common.{◌++◌, get_or, refl, sym, ap, ◌∙◌, append-nil}
use Rattle.edges.proofs.Lists.{has-at, sources_in-none, sources_in-more}
use Rattle.edges.proofs.sources.add_sources.Goals as goal

pub loop-kind-init : goal.loop-kind-init
loop-kind-init c = sym (ap (λ l. c.args.numbers.now.items ++ l) (sources_in-none c.args.compressed.now.selected) ∙ append-nil c.args.numbers.now.items)

pub select-requires : goal.select-requires
select-requires c = record { in_range = c.requires.in_range (get_or c.args.kinds.now c.loop-kind.kind-index 0) (has-at c.args.kinds.now c.loop-kind.kind-index 0 c.loop-kind-test.true) }

pub loop-kind-preserved : goal.loop-kind-preserved
loop-kind-preserved c = sources_in-more c.args.compressed.now.selected c.loop-kind.kind-index (get_or c.args.kinds.now c.loop-kind.kind-index 0) c.args.kinds.now _ c.loop-kind.numbers.items _ c.loop-kind-test.true refl (c.in_ok-extend_from_slice.ensures.items ∙ ap (λ l. c.loop-kind.numbers.items ++ l) c.select.ensures.value) c.loop-kind.invariant
