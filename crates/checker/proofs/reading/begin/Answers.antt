use Rattle.std.proofs.Common.{◌≡◌, ◌∙◌, ℕ, ◌+◌, ◌≤◌, sym, ap, arith, Some, true, false}
use Rattle.terms.specs.declared.parts.Parts.{Parts}
use Rattle.terms.specs.Weights.{step_in}
use Rattle.checker.specs.OpenParts.{frames_of, frames_if, spot_view, head_view}
use Rattle.checker.proofs.Steps.{begun-none, begun-typed, begun-wanted, begun-heavy, begun-entered, entered-closed}
use Rattle.checker.proofs.reading.begin.Goals as goal

pub returns-then-head-row-clause-read : goal.returns-then-head-row-clause-read
returns-then-head-row-clause-read c =
    sym (begun-typed c.args.env.now c.args.sum (spot_view c.args.spot) c.args.row (frames_of c.args.parts.now.items) (head_view c.in-Some.head) (sym c.in-Some.ensures) c.if-head-row.true)

pub returns-then-not-is_below-clause-read : goal.returns-then-not-is_below-clause-read
returns-then-not-is_below-clause-read c =
    sym (begun-wanted c.args.env.now c.args.sum (spot_view c.args.spot) c.args.row (frames_of c.args.parts.now.items) (head_view c.in-Some.head) (sym c.in-Some.ensures) (sym c.is_below.ensures.value ∙ c.if-not-is_below.true))

pub returns-then-reached-from-clause-read : goal.returns-then-reached-from-clause-read
returns-then-reached-from-clause-read c =
    sym (begun-heavy c.args.env.now c.args.sum (spot_view c.args.spot) c.args.row (frames_of c.args.parts.now.items) (head_view c.in-Some.head) (sym c.in-Some.ensures)
    (omega (arith, ap (λ (g : Parts). g.limit) c.parts.ensures.value)))

pub returns-then-close-clause-read : goal.returns-then-close-clause-read
returns-then-close-clause-read c =
    let s = spot_view c.args.spot in
    let h = head_view c.in-Some.head in
    let own = c.saturating_add-reached.result in
    let low : own ≤ c.args.env.now.limit = omega (arith, ap (λ (g : Parts). g.limit) c.parts.ensures.value) in
    let sum : own ≡ c.args.sum + s.binders + step_in c.args.env.now (Some h.result) s.wanted + h.weight = omega arith in
    let start : c.saturating_add-start.result ≡ c.args.sum + s.binders + step_in c.args.env.now (Some h.result) s.wanted = omega arith in
    let heavy : c.args.sum + s.binders + step_in c.args.env.now (Some h.result) s.wanted + h.weight ≤ c.args.env.now.limit = omega (arith, low, sum) in
    entered-closed c.args.env.now c.args.sum s c.args.row c.args.parts.now.items c.push.new.self.items h _ own true c.close.new.parts.items sum c.in_ok-push.ensures.items
    (ap (λ (e : ℕ). record { ctx = s.ctx; left = s.left; wanted = h.args; end = e }) (omega (arith, start)))
    (ap (λ b. frames_if b c.close.new.parts.items) (sym c.if-close.true) ∙ c.close.ensures)
    ∙ sym (begun-entered c.args.env.now c.args.sum s c.args.row (frames_of c.args.parts.now.items) h (sym c.in-Some.ensures) c.if-head-row.false (sym c.is_below.ensures.value ∙ c.if-not-is_below.false) heavy)

pub returns-clause-read : goal.returns-clause-read
returns-clause-read c =
    let s = spot_view c.args.spot in
    let h = head_view c.in-Some.head in
    let own = c.saturating_add-reached.result in
    let low : own ≤ c.args.env.now.limit = omega (arith, ap (λ (g : Parts). g.limit) c.parts.ensures.value) in
    let sum : own ≡ c.args.sum + s.binders + step_in c.args.env.now (Some h.result) s.wanted + h.weight = omega arith in
    let start : c.saturating_add-start.result ≡ c.args.sum + s.binders + step_in c.args.env.now (Some h.result) s.wanted = omega arith in
    let heavy : c.args.sum + s.binders + step_in c.args.env.now (Some h.result) s.wanted + h.weight ≤ c.args.env.now.limit = omega (arith, low, sum) in
    entered-closed c.args.env.now c.args.sum s c.args.row c.args.parts.now.items c.push.new.self.items h _ own false c.close.new.parts.items sum c.in_ok-push.ensures.items
    (ap (λ (e : ℕ). record { ctx = s.ctx; left = s.left; wanted = h.args; end = e }) (omega (arith, start)))
    (ap (λ b. frames_if b c.close.new.parts.items) (sym c.if-close.false) ∙ c.close.ensures)
    ∙ sym (begun-entered c.args.env.now c.args.sum s c.args.row (frames_of c.args.parts.now.items) h (sym c.in-Some.ensures) c.if-head-row.false (sym c.is_below.ensures.value ∙ c.if-not-is_below.false) heavy)

pub returns-in-None-clause-read : goal.returns-in-None-clause-read
returns-in-None-clause-read c =
    sym (begun-none c.args.env.now c.args.sum (spot_view c.args.spot) c.args.row (frames_of c.args.parts.now.items) (sym c.in-None.ensures))
