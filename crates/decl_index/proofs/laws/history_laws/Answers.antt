use Rattle.decl_index.proofs.HistoryLaws.{has_state, one_state, one_classes, one_refusal, uses_of_state, weights_in_range}
use Rattle.decl_index.proofs.laws.history_laws.Goals as goal

pub returns : goal.returns
returns c = record {
  has_state = has_state;
  one_state = one_state;
  one_list = one_classes;
  one_refusal = one_refusal;
  uses = uses_of_state;
  weights = weights_in_range;
}
