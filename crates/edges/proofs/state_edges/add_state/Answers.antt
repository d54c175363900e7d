use Rattle.std.proofs.Common.{sym, ap, ◌∙◌}
use Rattle.succinct.specs.Sets.{has}
use Rattle.edges.proofs.Offered.{listed-in_range, offered-by, offered-found}
use Rattle.edges.proofs.Options.{there}
use Rattle.edges.proofs.state_edges.add_state.Goals as goal

pub find_sources-requires-clause-kinds : goal.find_sources-requires-clause-kinds
find_sources-requires-clause-kinds c k h = (let s = there c.args.patterns.now.states c.args.state c.requires.in_range in listed-in_range c.args.env.now c.args.compressed.now c.requires.compressed c.args.patterns.now c.requires.patterns.1 c.args.state k s.0 s.1 h)

pub add_sources-requires : goal.add_sources-requires
add_sources-requires c = record {
  found = λ n h. (
      let s = there c.args.patterns.now.states c.args.state c.requires.in_range in
      let among = ap (has n) (sym (c.as_slice.ensures.value ∙ c.in_ok-find_sources.ensures.sources)) ∙ h in
      offered-found c.args.env.now c.args.compressed.now c.requires.compressed c.args.patterns.now c.requires.patterns.1 c.args.state n s.0 s.1 (offered-by c.args.env.now c.args.compressed.now c.requires.compressed c.args.patterns.now c.args.state n among));
}
