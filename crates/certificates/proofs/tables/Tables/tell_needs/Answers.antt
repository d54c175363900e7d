use Rattle.std.proofs.Common.{◌≡◌, ◌-◌, ◌∙◌, List, ℕ, drop, get_or, refl, subst, arith, ◌+◌}
use Rattle.succinct.specs.Numbering.{IsGrown}
use Rattle.succinct.proofs.Needs.{grown-trans}
use Rattle.certificates.specs.Told.{number_of, AreTold}
use Rattle.certificates.proofs.Steps.{told-enough, told-more}
use Rattle.certificates.proofs.tables.Tables.tell_needs.Goals as goal

pub returns-then-rest-eq0-clause-told : goal.returns-then-rest-eq0-clause-told
returns-then-rest-eq0-clause-told c =
    subst (λ (ns : List ℕ). (all : List ℕ) → IsGrown c.loop-need.told.states all → AreTold c.args.env.now c.args.self.now.patterns c.args.self.now.least all c.args.state ns c.args.most) c.wanted-need-items.ensures.value
    (told-enough c.args.env.now c.args.self.now.patterns c.args.self.now.least c.args.state c.wanted-need-items.result.now c.loop-need.need-index c.loop-need.rest c.args.most c.loop-need.told.states c.if-rest-eq0.true c.loop-need.invariant.told)

pub loop-need-preserved : goal.loop-need-preserved
loop-need-preserved c =
    let rest : c.saturating_sub-rest.result ≡ c.loop-need.rest - number_of c.args.env.now c.args.self.now.least c.in-Some.next = omega (arith, c.saturating_sub-rest.ensures, c.number_of.ensures.value) in
    record {
      later = record {
        as_many = c.in_ok-add.ensures.later.as_many ∙ c.loop-need.invariant.later.as_many;
        grown = grown-trans c.args.told.now.states c.loop-need.told.states c.add.new.self.states c.loop-need.invariant.later.grown c.in_ok-add.ensures.later.grown;
      };
      told = λ all grown are.
          told-more c.args.env.now c.args.self.now.patterns c.args.self.now.least c.args.state c.wanted-need-items.result.now c.loop-need.need-index (get_or c.wanted-need-items.result.now c.loop-need.need-index 0) c.in-Some.next c.loop-need.rest c.args.most c.loop-need.told.states c.add.new.self.states
          c.loop-need-test.true refl c.in-Some.ensures.value c.in_ok-add.ensures.added c.in_ok-add.ensures.later.grown c.loop-need.invariant.told all grown
          (subst (λ (r : ℕ). AreTold c.args.env.now c.args.self.now.patterns c.args.self.now.least all c.args.state (drop (c.loop-need.need-index + 1) c.wanted-need-items.result.now) r) rest are);
    }
