use Rattle.std.proofs.Common.{subst}
use Rattle.decl_index.specs.Weighing.{AreWeights}
use Rattle.scopes.proofs.HoleSites.{hole_site}
use Rattle.hole_texts.specs.Texts.{HasTexts}
use Rattle.hole_texts.proofs.Apart.{apart}
use Rattle.hole_texts.proofs.environments.apart_environment.Goals as goal

pub environment-requires-clause-site : goal.environment-requires-clause-site
environment-requires-clause-site c = hole_site c.args.unit.now c.args.site.now c.requires.hole.hole

pub returns-clause-apart : goal.returns-clause-apart
returns-clause-apart c =
    apart c.in_ok-env.env record {
      state = c.args.index.now;
      unit = c.args.unit.now;
      site = c.args.site.now;
      limit = c.args.limit;
      depth = c.args.depth;
      once = c.count-count.ensures.once;
      weights = subst AreWeights c.weights-weights.ensures.last c.weights-weights.ensures.ranges;
      hole = c.requires.hole.hole;
      utf8 = c.requires.hole.utf8;
      limits = c.requires.limit;
      shallow = c.requires.depth;
      is_environment = c.in_ok-env.ensures.exact;
      texts = subst HasTexts c.parts.ensures.value c.look_at_texts.ensures;
    }
