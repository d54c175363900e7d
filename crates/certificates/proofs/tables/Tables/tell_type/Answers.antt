use Rattle.std.proofs.Common.{◌∙◌, get_or, map, refl, subst}
use Rattle.terms.specs.Faults.{IsValid}
use Rattle.succinct.proofs.Needs.{grown-trans}
use Rattle.certificates.proofs.Steps.{heads-more, type-told}
use Rattle.certificates.proofs.tables.Tables.tell_type.Goals as goal

pub loop-head-preserved : goal.loop-head-preserved
loop-head-preserved c = record {
  later = record {
    as_many = c.in_ok-tell_head.ensures.later.as_many ∙ c.loop-head.invariant.later.as_many;
    grown = grown-trans c.args.told.now.states c.loop-head.told.states c.tell_head.new.told.states c.loop-head.invariant.later.grown c.in_ok-tell_head.ensures.later.grown;
  };
  told = heads-more c.args.env.now c.args.self.now.compressed c.args.self.now.patterns c.args.self.now.least c.args.state c.args.most c.list_at-head-items.result.now c.loop-head.head-index (get_or c.list_at-head-items.result.now c.loop-head.head-index 0) c.loop-head.told.states c.tell_head.new.told.states
      c.loop-head-test.true refl c.in_ok-tell_head.ensures.later.grown c.loop-head.invariant.told c.in_ok-tell_head.ensures.told;
}

pub returns-clause-told : goal.returns-clause-told
returns-clause-told c =
    let valid : IsValid c.args.env.now = subst (λ g. IsValid g) c.parts-parts.ensures.value c.parts-parts.ensures.valid in
    type-told c.args.env.now c.args.self.now.compressed c.args.self.now.patterns c.args.self.now.least c.args.state c.args.most (map (λ l. l.items) c.args.self.now.by_result.items) c.args.goal c.loop-head.head-index c.list_at-head-items.result.now c.loop-head.told.states
    valid c.requires.tables.by_result c.list_at-head-items.ensures.value c.loop-head-test.false c.loop-head.invariant.told
