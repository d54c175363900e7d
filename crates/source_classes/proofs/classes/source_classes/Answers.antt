use Rattle.source_classes.specs.SourceClasses.{AreSourceClasses}
use Rattle.source_classes.proofs.OrderOfTexts.{order_plays_no_part}
use Rattle.source_classes.proofs.Whole.{classes_are, classes_there, one_list, classes_once}
use Rattle.source_classes.proofs.classes.source_classes.Goals as goal

pub returns-in_err-sources-clause-total : goal.returns-in_err-sources-clause-total
returns-in_err-sources-clause-total g c = classes_there c.args.texts.now (g.C.Classes.listed c.args.known.now)

pub returns-in_err-outlines-clause-total : goal.returns-in_err-outlines-clause-total
returns-in_err-outlines-clause-total g c = classes_there c.args.texts.now (g.C.Classes.listed c.args.known.now)

pub returns-in_err-in_sight-clause-total : goal.returns-in_err-in_sight-clause-total
returns-in_err-in_sight-clause-total g c = classes_there c.args.texts.now (g.C.Classes.listed c.args.known.now)

pub returns-in_err-all-clause-total : goal.returns-in_err-all-clause-total
returns-in_err-all-clause-total g c = classes_there c.args.texts.now (g.C.Classes.listed c.args.known.now)

pub returns-in_err-classes-clause-total : goal.returns-in_err-classes-clause-total
returns-in_err-classes-clause-total g c = classes_there c.args.texts.now (g.C.Classes.listed c.args.known.now)

pub returns-clause-total : goal.returns-clause-total
returns-clause-total g c = classes_there c.args.texts.now (g.C.Classes.listed c.args.known.now)

pub returns-clause-exact : goal.returns-clause-exact
returns-clause-exact g c = record {
  units = c.in_ok-sources.sources.items;
  read = c.in_ok-sources.ensures;
  are = classes_are c.in_ok-sources.sources.items c.as_slice.result.now c.as_slice-2.result.now (g.C.Classes.listed c.args.known.now) c.in_ok-outlines.outlines c.in_ok-in_sight.in_sight c.in_ok-all.all c.in_ok-classes.classes c.as_slice.ensures.value c.as_slice-2.ensures.value c.in_ok-outlines.ensures c.in_ok-in_sight.ensures c.in_ok-all.ensures c.in_ok-classes.ensures;
}

pub returns-clause-only : goal.returns-clause-only
returns-clause-only g c =
    let known = g.C.Classes.listed c.args.known.now in
    let are : AreSourceClasses c.args.texts.now known c.in_ok-classes.classes = record {
      units = c.in_ok-sources.sources.items;
      read = c.in_ok-sources.ensures;
      are = classes_are c.in_ok-sources.sources.items c.as_slice.result.now c.as_slice-2.result.now known c.in_ok-outlines.outlines c.in_ok-in_sight.in_sight c.in_ok-all.all c.in_ok-classes.classes c.as_slice.ensures.value c.as_slice-2.ensures.value c.in_ok-outlines.ensures c.in_ok-in_sight.ensures c.in_ok-all.ensures c.in_ok-classes.ensures;
    } in
    λ others h. one_list c.args.texts.now known c.in_ok-classes.classes others are h

pub returns-clause-once : goal.returns-clause-once
returns-clause-once g c = classes_once c.in_ok-all.all c.in_ok-classes.classes c.in_ok-classes.ensures

pub returns-clause-order : goal.returns-clause-order
returns-clause-order g c =
    let known = g.C.Classes.listed c.args.known.now in
    let are : AreSourceClasses c.args.texts.now known c.in_ok-classes.classes = record {
      units = c.in_ok-sources.sources.items;
      read = c.in_ok-sources.ensures;
      are = classes_are c.in_ok-sources.sources.items c.as_slice.result.now c.as_slice-2.result.now known c.in_ok-outlines.outlines c.in_ok-in_sight.in_sight c.in_ok-all.all c.in_ok-classes.classes c.as_slice.ensures.value c.as_slice-2.ensures.value c.in_ok-outlines.ensures c.in_ok-in_sight.ensures c.in_ok-all.ensures c.in_ok-classes.ensures;
    } in
    λ own once. order_plays_no_part c.args.texts.now known c.in_ok-classes.classes own once are
