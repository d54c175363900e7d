use Rattle.terms.proofs.Closings.{members-more}
use Rattle.terms.proofs.marks.Marks.put_members.Goals as goal

pub returns : goal.returns
returns c = record {
  right = record {
    members = members-more c.args.rows.now c.args.self.now.members.items c.put_marks.new.marks.items c.row.result.now c.args.lower c.requires.right.members c.row.ensures.row c.put_marks.ensures;
    covered = c.requires.right.covered;
    closed = c.requires.right.closed;
  };
}
