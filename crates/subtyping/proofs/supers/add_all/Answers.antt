use Rattle.graphs.proofs.Elements.{none_in}
use Rattle.std.proofs.Common.{subst}
use Rattle.name_places.specs.Places.{IsPlaced}
use Rattle.subtyping.proofs.Searching.{each-more}
use Rattle.name_places.proofs.Places.{grown-then, placed-grown}
use Rattle.subtyping.proofs.supers.add_all.Goals as goal

pub loop-name-init : goal.loop-name-init
loop-name-init c = record { placed = λ b h. none_in b h; grown = λ name i h. h }

pub loop-name-preserved : goal.loop-name-preserved
loop-name-preserved c = record {
  placed = each-more (IsPlaced c.add.new.self) c.args.supers.now c.loop-name.name-index c.name-item.result c.loop-name-test.true c.name-item.is (λ b h. placed-grown c.loop-name.names c.add.new.self b c.add.ensures.grown (c.loop-name.invariant.placed b h)) (subst (IsPlaced c.add.new.self) c.as_str.ensures c.in_ok-add.ensures.placed);
  grown = grown-then c.args.names.now c.loop-name.names c.add.new.self c.loop-name.invariant.grown c.add.ensures.grown;
}

pub returns-in_err-add-clause-grown : goal.returns-in_err-add-clause-grown
returns-in_err-add-clause-grown c = grown-then c.args.names.now c.loop-name.names c.add.new.self c.loop-name.invariant.grown c.add.ensures.grown
