use Rattle.std.proofs.Common.{rules, ◌≡◌}
use Rattle.usage_counts.proofs.TallyLaws.{all-told}
use Rattle.usage_counts.proofs.tallies.key_tallies.Goals as goal

pub returns-in-Ok : goal.returns-in-Ok
returns-in-Ok c = all-told c.args.pool.now.entries c.args.members.now c.in_ok-tallies.tallies.items c.in-Ok.keys.items c.in_ok-tallies.ensures (let e : c.deref.result.now ≡ c.in_ok-tallies.tallies.items = search rules in rw e at c.in-Ok.ensures)
