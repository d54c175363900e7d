use Rattle.std.proofs.Common.{◌∙◌, ap, arith, length, List}
use Rattle.type_names.specs.declared.kinds.Erased.{Erased}
use Rattle.offers.specs.Pairs.{pairs_of}
use Rattle.offers.specs.Types.{is_below_at}
use Rattle.offers.specs.Views.{scene}
use Rattle.offers.proofs.pairs.pairs_of.Goals as goal

pub placed_pairs-requires : goal.placed_pairs-requires
placed_pairs-requires c = record { placed = c.in_ok-types.ensures.placed; few = omega (arith, ap length c.in_ok-types.ensures.types) }

pub returns : goal.returns
returns c = c.in_ok-pairs.ensures ∙ ap (λ (ts : List Erased). pairs_of (length ts) (is_below_at (scene c.args.view.now) ts)) c.in_ok-types.ensures.types
