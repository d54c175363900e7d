use Rattle.std.proofs.Common.{◌≡◌, ◌∙◌, sym, subst, arith, rules, ℕ, suc, ◌+◌, ◌-◌, ◌/◌, take}
use Rattle.std.specs.List.{AllByRecursion}
use Rattle.offers.proofs.Searches.{IsPast, past-on, ahead-from, place-same, place-between}
use Rattle.offers.proofs.key_order.place.Goals as goal

pub loop-low-preserved-in-Less : goal.loop-low-preserved-in-Less
loop-low-preserved-in-Less g c = record {
  ordered = search (rules, arith);
  within = search (rules, arith);
  past = c.loop-low.invariant.past;
  ahead = ahead-from g.T.Keyed.key_of c.args.all.now.items _ c.index.result.now (g.T.Keyed.key_of c.args.item.now) c.requires (search (rules, arith)) c.index.ensures (sym c.compare_keys.ensures ∙ c.in-Less.is);
}

pub returns-in-Equal : goal.returns-in-Equal
returns-in-Equal g c = place-same g.T.Keyed.key_of c.args.all.now.items (c.loop-low.low + (c.loop-low.high - c.loop-low.low) / 2) c.index.result.now (g.T.Keyed.key_of c.args.item.now) c.requires (search (rules, arith)) c.index.ensures (sym c.compare_keys.ensures ∙ c.in-Equal.is)

pub loop-low-preserved : goal.loop-low-preserved
loop-low-preserved g c =
    let m = c.loop-low.low + (c.loop-low.high - c.loop-low.low) / 2 in
    let s : suc m ≡ m + 1 = omega arith in
    let P : ℕ → Type 0 = λ n. AllByRecursion (IsPast g.T.Keyed.key_of (g.T.Keyed.key_of c.args.item.now)) (take n c.args.all.now.items) in
    record {
      ordered = search (rules, arith);
      within = c.loop-low.invariant.within;
      past = subst P s (past-on g.T.Keyed.key_of c.args.all.now.items m c.index.result.now (g.T.Keyed.key_of c.args.item.now) c.requires (search (rules, arith)) c.index.ensures (sym c.compare_keys.ensures ∙ c.in-Greater.is));
      ahead = c.loop-low.invariant.ahead;
    }

pub returns : goal.returns
returns g c = place-between g.T.Keyed.key_of c.args.all.now.items c.loop-low.low c.loop-low.high (g.T.Keyed.key_of c.args.item.now) (search rules) (search (rules, arith)) (search rules) c.loop-low.invariant.past c.loop-low.invariant.ahead
