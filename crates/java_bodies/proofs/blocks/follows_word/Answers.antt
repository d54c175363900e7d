use Rattle.std.proofs.Common.{ap, ◌∙◌}
use Rattle.java_bodies.specs.Blocks.{block_words, follows}
use Rattle.java_bodies.proofs.blocks.follows_word.Goals as goal

pub returns : goal.returns
returns c = c.follows.ensures ∙ ap (λ ss. follows block_words ss c.args.k) c.before-2.ensures
