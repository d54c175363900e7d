use Rattle.std.proofs.Common.{◌∙◌, subst, sym, ap, get_or, List, ℕ, drop}
use Rattle.class_pool.specs.Spelling.{Head}
use Rattle.class_pool.specs.Index.{IsAt}
use Rattle.class_pool.specs.Views.{index_seen}
use Rattle.class_pool.proofs.IndexLaws.{none_at, something_at, within}
use Rattle.class_pool.proofs.pool.Pool.entry_bytes.Goals as goal

pub returns-then-start-eq0 : goal.returns-then-start-eq0
returns-then-start-eq0 c =
    let none = none_at c.self.inside.bytes.now (index_seen c.self.inside.index) c.args.place c.self.invariant (sym (ap (λ (xs : List ℕ). get_or xs c.args.place 0) c.deref.ensures.value) ∙ sym c.start_of-start.ensures ∙ c.if-start-eq0.true) in
    rw (← c.self.view_is) none

pub bytes_from-requires : goal.bytes_from-requires
bytes_from-requires c =
    within _ _ c.args.place _ (something_at c.self.inside.bytes.now (index_seen c.self.inside.index) c.args.place c.start_of-start.result c.self.invariant (sym (ap (λ (xs : List ℕ). get_or xs c.args.place 0) c.deref.ensures.value) ∙ sym c.start_of-start.ensures) c.if-start-eq0.false)

pub returns : goal.returns
returns c =
    let some = something_at c.self.inside.bytes.now (index_seen c.self.inside.index) c.args.place c.start_of-start.result c.self.invariant (sym (ap (λ (xs : List ℕ). get_or xs c.args.place 0) c.deref.ensures.value) ∙ sym c.start_of-start.ensures) c.if-start-eq0.false in
    rw c.bytes_from.ensures (subst (λ (h : Head). IsAt h.entries c.args.place (drop c.start_of-start.result c.self.inside.bytes.now)) c.self.view_is some)
