use Rattle.std.proofs.Common.{rules, ◌≡◌, ◌+◌, ◌*◌, ◌++◌, List, [], ◌∷◌, length, take, drop, refl, sym, ap, subst, ◌∙◌}
use Rattle.weight_bounds.proofs.Steps.{first-supported}
use Rattle.weight_bounds.specs.Numbers.{IsSettled, AreSupported}
use Rattle.weight_bounds.proofs.solving.solve.Goals as goal

take-whole : {X : Type 0} (xs ys : List X) → take (length xs) (xs ++ ys) ≡ xs
take-whole [] ys = refl
take-whole (x ∷ xs) ys = ap (λ l. x ∷ l) (take-whole xs ys)

pub empty_queue-requires-clause-settled : goal.empty_queue-requires-clause-settled
empty_queue-requires-clause-settled c r rule =
    let shown : c.relax_all.new.numbers ≡ c.as_mut_slice-2.result.now =
    sym (take-whole c.relax_all.new.numbers (drop (length c.relax_all.new.numbers) c.in_ok-numbers.numbers.items))
    ∙ ap (λ n. take n (c.relax_all.new.numbers ++ drop (length c.relax_all.new.numbers) c.in_ok-numbers.numbers.items)) (c.relax_all.auto.numbers ∙ c.as_mut_slice.ensures.len)
    ∙ sym c.as_mut_slice-2.ensures.value in
    subst (λ ns. IsSettled c.args.setting.now.parts.now c.args.setting.now.limit.value ns c.relax_all.new.queue.items r) shown (c.in_ok-relax_all.ensures.settled r rule)

pub empty_queue-requires-clause-supported : goal.empty_queue-requires-clause-supported
empty_queue-requires-clause-supported c =
    let g = c.args.setting.now.parts.now in
    let limit = c.args.setting.now.limit.value in
    let shown : c.relax_all.new.numbers ≡ c.as_mut_slice-2.result.now =
    sym (take-whole c.relax_all.new.numbers (drop (length c.relax_all.new.numbers) c.in_ok-numbers.numbers.items))
    ∙ ap (λ n. take n (c.relax_all.new.numbers ++ drop (length c.relax_all.new.numbers) c.in_ok-numbers.numbers.items)) (c.relax_all.auto.numbers ∙ c.as_mut_slice.ensures.len)
    ∙ sym c.as_mut_slice-2.ensures.value in
    let first : AreSupported g limit c.as_mut_slice.result.now = first-supported g limit c.as_mut_slice.result.now (limit + 1) (4 * c.len.result) refl (search rules) in
    subst (λ ns. AreSupported g limit ns) shown (c.in_ok-relax_all.ensures.step.supported first)
