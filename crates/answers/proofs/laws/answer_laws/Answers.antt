use Rattle.answers.proofs.Headlines.{headline, lists_follow}
use Rattle.answers.proofs.Environments.{one_site, one_environment}
use Rattle.answers.proofs.Tells.{replies_tell}
use Rattle.answers.proofs.Withdrawn.{withdrawn_stays}
use Rattle.answers.proofs.laws.answer_laws.Goals as goal

pub returns : goal.returns
returns c = record {
  headline = headline;
  lists_follow = lists_follow;
  replies_tell = replies_tell;
  one_site = one_site;
  one_environment = one_environment;
  withdrawn_stays = withdrawn_stays;
}
