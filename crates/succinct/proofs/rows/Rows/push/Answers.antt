use Rattle.std.proofs.Common.{◌≡◌, ◌+◌, ◌<◌, List, [], ◌∷◌, ◌++◌, length, if◌then◌else◌, Result, Ok, Err, IsOk, is_ok, sym, ap, subst, ◌∙◌, arith, rules, vec_len, vec_capacity}
use Rattle.std.proofs.lemmas.Bool.{false≢true}
use Rattle.succinct.specs.Rows.{AreCuts, rows_from}
use Rattle.succinct.proofs.Cuts.{cuts-more, rows-more}
use Rattle.succinct.proofs.rows.Rows.push.Goals as goal

done : {X A E : Type 0} (r : Result A E) (xs new : List X) (x : X) → new ≡ (if is_ok r then xs ++ x ∷ [] else xs) → IsOk r → new ≡ xs ++ x ∷ []
done (Ok a) xs new x e ok = e
done (Err b) xs new x e ok = absurd (false≢true ok)

end_is : (c : goal.After-push) → c.len.result ≡ length c.self.inside.flat.items + length c.args.row.now
end_is c = search rules

roomy : (c : goal.After-push) → vec_len c.reserve.new.self < vec_capacity c.reserve.new.self
roomy c = (let r = c.in_ok-reserve.ensures.ok in omega (arith, r))

ends_are : (c : goal.After-push) → c.push.new.self.items ≡ c.self.inside.ends.items ++ (length c.self.inside.flat.items + length c.args.row.now) ∷ []
ends_are c = done c.push.result c.reserve.new.self.items c.push.new.self.items c.len.result c.push.ensures.items (c.push.ensures.succeeds (roomy c)) ∙ ap (λ l. l ++ c.len.result ∷ []) c.in_ok-reserve.ensures.items ∙ ap (λ n. c.self.inside.ends.items ++ n ∷ []) (end_is c)

pub invariant_of-self-2 : goal.invariant_of-self-2
invariant_of-self-2 c =
    subst (λ ends. AreCuts 0 ends c.extend_from_slice.new.self.items) (sym (ends_are c)) (subst (λ flat. AreCuts 0 (c.self.inside.ends.items ++ (length c.self.inside.flat.items + length c.args.row.now) ∷ []) flat) (sym c.in_ok-extend_from_slice.ensures.items)
    (cuts-more 0 c.self.inside.ends.items c.self.inside.flat.items c.args.row.now c.self.invariant))

pub returns-clause-added : goal.returns-clause-added
returns-clause-added c =
    ap (λ ends. rows_from 0 ends c.extend_from_slice.new.self.items) (ends_are c) ∙ ap (λ flat. rows_from 0 (c.self.inside.ends.items ++ (length c.self.inside.flat.items + length c.args.row.now) ∷ []) flat) c.in_ok-extend_from_slice.ensures.items
    ∙ rows-more 0 c.self.inside.ends.items c.self.inside.flat.items c.args.row.now c.self.invariant ∙ ap (λ rs. rs ++ c.args.row.now ∷ []) c.self.view_is
