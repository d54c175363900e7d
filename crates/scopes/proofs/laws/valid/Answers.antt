use Rattle.scopes.proofs.Declared.{environment-right}
use Rattle.scopes.proofs.Ordered.{ordered}
use Rattle.scopes.proofs.Numbered.{Among}
use Rattle.scopes.proofs.PairLaws.{pairs-are}
use Rattle.scopes.proofs.Making.{kinds-rise}
use Rattle.scopes.specs.Kinds.{environment_kinds}
use Rattle.scopes.specs.Environments.{environment_of}
use Rattle.scopes.proofs.laws.valid.Goals as goal

pub returns : goal.returns
unfolding environment_of Among
returns c = record { order = ordered; valid = environment-right; pairs = λ v limit depth a b h k. pairs-are v (environment_kinds v) a b h k; types = kinds-rise }
