use Rattle.std.proofs.Common.{rules, ◌≡◌, ◌≢◌, ◌-◌, ◌∷◌, ◌++◌, [], length, slice_get, Some, None, refl, sym, ap, subst, ◌∙◌}
use Rattle.terms.specs.Typing.{type_in}
use Rattle.terms.specs.Text.{text_of}
use Rattle.terms.specs.Code.{prefix_code}
use Rattle.terms.specs.View.{expr}
use Rattle.terms.specs.declared.parts.Parts.{Parts}
use Rattle.listing.specs.declared.item.Keyed.{Keyed}
use Rattle.listing.specs.Found.{IsKept, IsKeyed}
use Rattle.listing.proofs.Keeping.{kept_moved, waits_at, last_taken}
use Rattle.listing.proofs.Orders.{typed}
use Rattle.listing.proofs.growth.Growing.make_text.Goals as goal

pub words_of-requires : goal.words_of-requires
words_of-requires g c =
    let last : slice_get c.self.inside.waiting (length c.self.inside.waiting - 1) ≡ Some c.in-Some.term.now = search rules in
    let inside = waits_at _ c.self.inside.found.items c.self.inside.waiting c.self.inside.keyed.items c.self.inside.weight c.self.inside.below c.self.inside.at_end c.self.invariant.0 _ c.in-Some.term.now last in
    let P : Parts → Type 0 = λ p. type_in p [] (expr c.in-Some.term.now) ≢ None in
    record { typed = subst P (sym c.env.ensures.same) (typed _ (expr c.in-Some.term.now) inside) }

pub invariant_of-self-2 : goal.invariant_of-self-2
invariant_of-self-2 g c =
    let last : slice_get c.self.inside.waiting (length c.self.inside.waiting - 1) ≡ Some c.in-Some.term.now = search rules in
    let same = last_taken c.self.inside.waiting c.pop.new.self c.in-Some.term.now c.in-Some-pop.term c.in-Some-pop.ensures last in
    let start = c.self.inside in
    let p = g.E.Levels.progress start.levels in
    let words = c.in_ok-words.words in
    let keyed : Keyed = record { item = record { weight = start.weight; text = words.text; term = c.in-Some-pop.term }; code = words.code } in
    let items : c.push_reserved.new.self.items ≡ start.keyed.items ++ keyed ∷ [] = search rules in
    let right : IsKeyed p.parts start.weight keyed = record {
      weight = refl;
      text = c.in_ok-words.ensures.text ∙ ap (λ q. text_of q (expr c.in-Some.term.now)) c.env.ensures.same ∙ ap (λ t. text_of p.parts (expr t)) same;
      code = c.in_ok-words.ensures.code ∙ ap (λ t. prefix_code (expr t)) same;
    } in
    let before : IsKept p start.found.items (c.pop.new.self ++ c.in-Some-pop.term ∷ []) start.keyed.items start.weight start.below start.at_end
    = subst (λ ws. IsKept p start.found.items ws start.keyed.items start.weight start.below start.at_end) c.in-Some-pop.ensures c.self.invariant.0 in (
      subst (λ ks. IsKept p start.found.items c.pop.new.self ks start.weight start.below start.at_end) (sym items)
          (kept_moved p start.found.items c.pop.new.self c.in-Some-pop.term start.keyed.items keyed start.weight start.below start.at_end refl right before),
      c.self.invariant.1,
    )
