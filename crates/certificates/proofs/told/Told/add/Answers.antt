use Rattle.std.proofs.Common.{◌≡◌, ◌<◌, ◌++◌, [], ◌∷◌, List, ℕ, false, true, length, length-set, slice_get, slice_set, sym, ap, subst, ◌∙◌, arith, rules}
use Rattle.std.proofs.lemmas.List.{get_or_read}
use Rattle.certificates.specs.Told.{ToldStates, IsTold}
use Rattle.certificates.proofs.Marking.{told-push, grown-push}
use Rattle.certificates.proofs.told.Told.add.Goals as goal

pub invariant_of-self-2 : goal.invariant_of-self-2
invariant_of-self-2 c =
    let shown = ap (λ (t : ToldStates). t.count) c.self.view_is in
    let low : c.args.state < length c.self.inside.marks.items = omega (arith, shown, c.requires.in_range) in
    let items : c.push.new.self.items ≡ c.self.inside.states.items ++ c.args.state ∷ [] = search rules in
    let new = sym (get_or_read c.self.inside.marks.items c.args.state c.index.result.now low c.index.ensures false) ∙ c.if-index.false in
    subst (λ (l : List ℕ). IsTold l (slice_set c.self.inside.marks.items c.args.state true)) (sym items) (told-push c.self.inside.states.items c.self.inside.marks.items c.args.state low new c.self.invariant)

pub returns-clause-later : goal.returns-clause-later
returns-clause-later c =
    let items : c.push.new.self.items ≡ c.self.inside.states.items ++ c.args.state ∷ [] = search rules in
    record {
      as_many = length-set c.self.inside.marks.items c.args.state true ∙ ap (λ (t : ToldStates). t.count) c.self.view_is;
      grown = λ i x at. ap (λ (l : List ℕ). slice_get l i) items ∙ grown-push c.self.inside.states.items c.args.state i x (ap (λ (t : ToldStates). slice_get t.states i) c.self.view_is ∙ at);
    }
