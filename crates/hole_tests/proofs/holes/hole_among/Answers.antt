use Rattle.hole_tests.proofs.holes.hole_among.Goals as goal

pub returns : goal.returns
returns c = record {
  text = c.args.text.now;
  tokens = c.args.tokens.now;
  place = c.args.place;
  short = c.requires.short;
  are_tokens = c.requires.own_tokens;
  tile = c.requires.tile;
  is_unit = c.in_ok-unit.ensures.exact;
  is_site = c.in_ok-site.ensures;
}
