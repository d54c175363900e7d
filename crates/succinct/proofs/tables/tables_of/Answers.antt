use Rattle.succinct.proofs.Needs.{numbered-none, numbered-both}
use Rattle.succinct.proofs.Wants.{wants-none, wants-both}
use Rattle.succinct.proofs.tables.tables_of.Goals as goal

pub returns : goal.returns
returns c = record {
  numbered = numbered-both c.args.parts.now _ _ _ _ _ _ _ _ _ _ _ c.as_slice.ensures c.as_slice-2.ensures
      (numbered-none _ _ _ c.new.ensures.empty c.new-2.ensures.empty c.new-3.ensures) c.in_ok-add_decls.ensures.more c.in_ok-add_pairs.ensures.more;
  wants = wants-both c.args.parts.now _ _ _ _ _ _ _ _ c.as_slice.ensures c.as_slice-2.ensures (wants-none _ _ c.new-4.ensures.empty) c.in_ok-add_decls.ensures.wants c.in_ok-add_pairs.ensures.wants;
}
