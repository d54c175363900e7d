use Rattle.offers.specs.Scenes.{of_class}
use Rattle.offers.proofs.Rivals.{typed-at, typed-within}
use Rattle.offers.proofs.interfaces.KnownInterfaces.is_kind_over.Goals as goal

pub is_over-requires-clause-within : goal.is_over-requires-clause-within
is_over-requires-clause-within c = typed-within (λ k. of_class k.name) c.args.self.now.classes c.args.self.now.kinds.types c.args.at c.args.other.now c.requires.kept.kinds c.requires.there

pub returns : goal.returns
returns c = c.is_over.ensures (of_class c.args.other.now.name) (typed-at (λ k. of_class k.name) c.args.self.now.classes c.args.self.now.kinds.types c.args.at c.args.other.now c.requires.kept.kinds c.requires.there)
