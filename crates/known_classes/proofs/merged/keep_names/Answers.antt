use Rattle.std.proofs.Common.{rules, ◌≡◌, ◌∙◌, ap, sym, subst, refl, arith, length, slice_get, Some, inl, inr}
use Rattle.std.proofs.lemmas.Option.{slice_get_within, slice_get_read}
use Rattle.known_classes.specs.Merging.{KeepsName}
use Rattle.known_classes.proofs.TextPlaces.{last-or}
use Rattle.known_classes.proofs.merged.keep_names.Goals as goal

pub loop-class-preserved : goal.loop-class-preserved
loop-class-preserved g c = λ i e l at. elim (last-or i c.loop-class.class-index l) [
  | inl b ↦ c.loop-class.invariant i e b at
  | inr s ↦
      let here : slice_get c.args.extra.now c.loop-class.class-index ≡ Some c.class-item.result = slice_get_read c.args.extra.now (length c.args.extra.now) c.loop-class.class-index c.class-item.result refl (search rules) c.class-item.is in
      let same : c.class-item.result ≡ e = (let q : Some c.class-item.result ≡ Some e = sym here ∙ ap (slice_get c.args.extra.now) (sym s) ∙ at in cc) in
      let keeps : KeepsName (g.C.Classes.listed c.args.base.now) c.class-item.result = c.keeps_name.ensures c.if-not-keeps_name.false in
      subst (KeepsName (g.C.Classes.listed c.args.base.now)) same keeps
]

pub returns : goal.returns
returns g c = λ t i e at. c.loop-class.invariant i e (let w = slice_get_within c.args.extra.now i e at in omega (arith, w, c.loop-class-test.false, c.loop-class.auto.class-index-end)) at
