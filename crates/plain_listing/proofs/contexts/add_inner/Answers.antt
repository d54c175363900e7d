use Rattle.plain_listing.proofs.contexts.add_inner.Goals as goal

pub returns-clause-shallow : goal.returns-clause-shallow
returns-clause-shallow c before = c.in_ok-add_decls.ensures.shallow c.args.depth c.if-outer-depth.false before
