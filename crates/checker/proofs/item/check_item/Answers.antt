use Rattle.std.proofs.Common.{◌≡◌, ◌∙◌, ◌+◌, ◌≤◌, sym, ap, subst, arith, [], ◌∷◌, Some, IfSome}
use Rattle.terms.specs.declared.parts.Parts.{Parts}
use Rattle.terms.specs.declared.parts.Arg.TheVariants.{Plain}
use Rattle.terms.specs.Weights.{step_in}
use Rattle.terms.proofs.Valid.{valid-limit}
use Rattle.checker.specs.Frames.{read_rows, goal_frame}
use Rattle.checker.specs.OpenParts.{frames_of}
use Rattle.checker.proofs.RowItems.{first_total, item-found, item-none, item-heavy, item-lost}
use Rattle.checker.proofs.Steps.{goal_frames}
use Rattle.checker.proofs.item.check_item.Goals as goal

pub returns-in_default-clause-no_item : goal.returns-in_default-clause-no_item
returns-in_default-clause-no_item c = λ w item. item-none c.args.env.now c.args.rows.now w (sym c.in_default.ensures.value) item

pub returns-then-total-from-clause-no_item : goal.returns-then-total-from-clause-no_item
returns-then-total-from-clause-no_item c = λ w item.
    let step : c.step.result ≡ step_in c.args.env.now (Some c.in-Some.first.now.result) c.args.env.now.goal = c.step.ensures.value ∙ ap (λ (g : Parts). step_in c.args.env.now (Some c.in-Some.first.now.result) g.goal) c.parts-parts.ensures.value in
    item-heavy c.args.env.now c.args.rows.now c.in-Some.first.now w (sym c.in-Some.ensures.value) (omega (arith, step, ap (λ (g : Parts). g.limit) c.parts-parts.ensures.value)) item

pub overflow_cast-result : goal.overflow_cast-result
overflow_cast-result c =
    let low = subst (λ o. IfSome o (λ w. w ≤ c.args.env.now.limit)) c.in-Some-2.is c.in_ok-sum.ensures.within in
    let valid = valid-limit c.parts-parts.result.now c.parts-parts.ensures.valid in
    omega (arith, low, valid.1, ap (λ (g : Parts). g.limit) c.parts-parts.ensures.value)

pub returns-in-Some-2-clause-item : goal.returns-in-Some-2-clause-item
returns-in-Some-2-clause-item c =
    let step : c.step.result ≡ step_in c.args.env.now (Some c.in-Some.first.now.result) c.args.env.now.goal = c.step.ensures.value ∙ ap (λ (g : Parts). step_in c.args.env.now (Some c.in-Some.first.now.result) g.goal) c.parts-parts.ensures.value in
    let total : c.from.result + c.from-2.result ≡ first_total c.args.env.now c.in-Some.first.now = omega (arith, step) in
    let frames : frames_of c.push.new.self.items ≡ goal_frame c.args.env.now (first_total c.args.env.now c.in-Some.first.now) ∷ [] =
    goal_frames c.args.env.now c.new-open.result.items c.push.new.self.items _ (first_total c.args.env.now c.in-Some.first.now) c.in_ok-push.ensures.items c.new-open.ensures.items c.empty.ensures.rows
    (ap (λ (g : Parts). g.depth) c.parts-parts.ensures.value) (ap (λ (g : Parts). Plain g.goal ∷ []) c.parts-parts.ensures.value) total in
    item-found c.args.env.now c.args.rows.now c.in-Some.first.now c.in-Some-2.sum
    (ap (λ fs. read_rows c.args.env.now 0 fs c.args.rows.now) (sym frames) ∙ sym c.in_ok-sum.ensures.read ∙ c.in-Some-2.is)
    (omega (arith, step, ap (λ (g : Parts). g.limit) c.parts-parts.ensures.value))

pub returns-clause-no_item : goal.returns-clause-no_item
returns-clause-no_item c = λ w item.
    let step : c.step.result ≡ step_in c.args.env.now (Some c.in-Some.first.now.result) c.args.env.now.goal = c.step.ensures.value ∙ ap (λ (g : Parts). step_in c.args.env.now (Some c.in-Some.first.now.result) g.goal) c.parts-parts.ensures.value in
    let total : c.from.result + c.from-2.result ≡ first_total c.args.env.now c.in-Some.first.now = omega (arith, step) in
    let frames : frames_of c.push.new.self.items ≡ goal_frame c.args.env.now (first_total c.args.env.now c.in-Some.first.now) ∷ [] =
    goal_frames c.args.env.now c.new-open.result.items c.push.new.self.items _ (first_total c.args.env.now c.in-Some.first.now) c.in_ok-push.ensures.items c.new-open.ensures.items c.empty.ensures.rows
    (ap (λ (g : Parts). g.depth) c.parts-parts.ensures.value) (ap (λ (g : Parts). Plain g.goal ∷ []) c.parts-parts.ensures.value) total in
    item-lost c.args.env.now c.args.rows.now c.in-Some.first.now w (sym c.in-Some.ensures.value)
    (ap (λ fs. read_rows c.args.env.now 0 fs c.args.rows.now) (sym frames) ∙ sym c.in_ok-sum.ensures.read ∙ c.in-None.is) item
