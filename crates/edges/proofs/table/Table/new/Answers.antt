use Rattle.std.proofs.Common.{◌≡◌, [], rules}
use Rattle.edges.proofs.Tables.{edges_of-none}
use Rattle.edges.proofs.table.Table.new.Goals as goal

pub returns : goal.returns
returns c = (let none : c.new.result.items ≡ [] = search rules in record { empty = edges_of-none c.new.result.items c.new-2.result none })
