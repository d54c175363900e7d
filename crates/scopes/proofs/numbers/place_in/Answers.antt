use Rattle.std.proofs.Common.{◌≡◌, ◌∙◌, sym, subst, arith, rules, ℕ, suc, ◌+◌, ◌-◌, ◌/◌, take}
use Rattle.std.specs.List.{AllByRecursion}
use Rattle.std.proofs.lemmas.Map.Lookups.{exact_bytes}
use Rattle.type_names.specs.Descriptors.{field}
use Rattle.offers.proofs.Searches.{IsPast, past-on, ahead-from}
use Rattle.scopes.proofs.Halving.{number-at, number-none}
use Rattle.scopes.proofs.numbers.place_in.Goals as goal

pub loop-low-preserved-in-Less : goal.loop-low-preserved-in-Less
loop-low-preserved-in-Less c = record {
  ordered = search (rules, arith);
  within = search (rules, arith);
  past = c.loop-low.invariant.past;
  ahead = ahead-from field c.args.types.now _ c.index-types-middle.result (field c.args.kind.now) c.requires (search (rules, arith)) c.index-types-middle.is (sym c.compare.ensures.is ∙ c.in-Less.is);
}

pub returns-in-Equal-clause-exact : goal.returns-in-Equal-clause-exact
returns-in-Equal-clause-exact c =
    let h = sym c.compare.ensures.is ∙ c.in-Equal.is in
    number-at c.args.types.now (c.loop-low.low + (c.loop-low.high - c.loop-low.low) / 2) c.index-types-middle.result c.args.kind.now c.requires (search (rules, arith)) c.index-types-middle.is h (sym (exact_bytes _ _ h))

pub loop-low-preserved : goal.loop-low-preserved
loop-low-preserved c =
    let m = c.loop-low.low + (c.loop-low.high - c.loop-low.low) / 2 in
    let s : suc m ≡ m + 1 = omega arith in
    let P : ℕ → Type 0 = λ n. AllByRecursion (IsPast field (field c.args.kind.now)) (take n c.args.types.now) in
    record {
      ordered = search (rules, arith);
      within = c.loop-low.invariant.within;
      past = subst P s (past-on field c.args.types.now m c.index-types-middle.result (field c.args.kind.now) c.requires (search (rules, arith)) c.index-types-middle.is (sym c.compare.ensures.is ∙ c.in-Greater.is));
      ahead = c.loop-low.invariant.ahead;
    }

pub returns-clause-exact : goal.returns-clause-exact
returns-clause-exact c = number-none c.args.types.now c.loop-low.low c.loop-low.high c.args.kind.now (search rules) (search (rules, arith)) (search rules) c.loop-low.invariant.past c.loop-low.invariant.ahead
