use Rattle.terms.proofs.Fronts.{list_total, whole_prefix}
use Rattle.terms.proofs.Lists.{one_place, one_whole, prefix_front}
use Rattle.terms.proofs.Sorting.{has_whole}
use Rattle.terms.proofs.laws.list_laws.Goals as goal

pub returns-clause-before_joins : goal.returns-clause-before_joins
returns-clause-before_joins c = λ g. (list_total g).trans

pub returns-clause-ties_are_one : goal.returns-clause-ties_are_one
returns-clause-ties_are_one c = one_place

pub returns-clause-whole_list_exists : goal.returns-clause-whole_list_exists
returns-clause-whole_list_exists c = has_whole

pub returns-clause-one_whole_list : goal.returns-clause-one_whole_list
returns-clause-one_whole_list c = one_whole

pub returns-clause-fronts_are_prefixes : goal.returns-clause-fronts_are_prefixes
returns-clause-fronts_are_prefixes c = whole_prefix

pub returns-clause-prefixes_are_fronts : goal.returns-clause-prefixes_are_fronts
returns-clause-prefixes_are_fronts c = prefix_front
