-- What is withdrawn stays so, and the newest version isn't withdrawn.
use Rattle.std.proofs.Common.{◌≡◌, ◌+◌, ◌≤◌, ◌<◌, ℕ, suc, Bool, true, false, List, [], ◌∷◌, ◌++◌, length, refl, ap, ◌∙◌, arith, inl, inr, Option, None, Some, ⊎_elim, length-append}
use Rattle.std.specs.Prelude.{if◌then◌else◌, nat_le, option_map}
use Rattle.std.proofs.lemmas.Bool.Decides.{leb_tells}
use Rattle.decl_index.specs.declared.change.Change.{Change}
use Rattle.decl_index.specs.declared.change.Change.TheVariants.{Publish, Withdraw, SetWeights}
use Rattle.decl_index.specs.declared.change.ChangeFault.{ChangeFault}
use Rattle.decl_index.specs.declared.change.ChangeFault.TheVariants.{JournalFull, TooHigh}
use Rattle.decl_index.specs.History.{first_withdrawal}
use Rattle.decl_index.specs.Refusals.{Refuses}
use Rattle.version_board.specs.Versions.{AreAllowed}
use Rattle.version_board.specs.Laws.{WithdrawalsStay, NewestStands}

-- One more is counted in both.
suc-both : (o p : Option ℕ) (n : ℕ) → ((m : ℕ) → o ≡ Some m → p ≡ Some m) → option_map suc o ≡ Some n → option_map suc p ≡ Some n
suc-both None p n same e = absurd cc
suc-both (Some m) p n same e = ap (option_map suc) (same m refl) ∙ e

stays-by : (b : Bool) (o p : Option ℕ) (n : ℕ) → ((m : ℕ) → o ≡ Some m → p ≡ Some m) → (if b then Some 1 else option_map suc o) ≡ Some n → (if b then Some 1 else option_map suc p) ≡ Some n
stays-by true o p n same e = e
stays-by false o p n same e = suc-both o p n same e

pub withdrawals_stay : WithdrawalsStay
unfolding first_withdrawal
withdrawals_stay [] more version number e = absurd cc
withdrawals_stay (Publish puts removes counts ∷ history) more version number e = suc-both (first_withdrawal history version) (first_withdrawal (history ++ more) version) number (withdrawals_stay history more version) e
withdrawals_stay (SetWeights w ∷ history) more version number e = suc-both (first_withdrawal history version) (first_withdrawal (history ++ more) version) number (withdrawals_stay history more version) e
withdrawals_stay (Withdraw through ∷ history) more version number e = stays-by (nat_le version through) (first_withdrawal history version) (first_withdrawal (history ++ more) version) number (withdrawals_stay history more version) e

-- A withdrawal that isn't refused speaks of earlier versions alone.
too-high : (before : List Change) (m : ℕ) → ((fault : ChangeFault) → Refuses before (Withdraw m) fault → ⊥) → length before + 1 ≤ m → ⊥
too-high before m allowed high =
    ⊎_elim
    (λ (t : (nat_le 100000 (length before) ≡ true) × (100000 ≤ length before)). allowed JournalFull (inl (t.1, refl)))
    (λ (t : (nat_le 100000 (length before) ≡ false) × (length before < 100000)). allowed (TooHigh m) (inr (t.1, (refl, high))))
    (leb_tells 100000 (length before))

none-yet : (before history : List Change) (version : ℕ) → AreAllowed before history → length before + length history ≤ version → first_withdrawal history version ≡ None
unfolding AreAllowed first_withdrawal
none-yet before [] version allowed within = refl
none-yet before (Publish puts removes counts ∷ history) version allowed within =
    ap (option_map suc) (none-yet (before ++ Publish puts removes counts ∷ []) history version allowed.1 (omega (arith, within, length-append before (Publish puts removes counts ∷ []))))
none-yet before (SetWeights w ∷ history) version allowed within =
    ap (option_map suc) (none-yet (before ++ SetWeights w ∷ []) history version allowed.1 (omega (arith, within, length-append before (SetWeights w ∷ []))))
none-yet before (Withdraw m ∷ history) version allowed within =
    let rest = none-yet (before ++ Withdraw m ∷ []) history version allowed.1 (omega (arith, within, length-append before (Withdraw m ∷ []))) in
    ⊎_elim
    (λ (t : (nat_le version m ≡ true) × (version ≤ m)). let high : length before + 1 ≤ m = omega (arith, within, t.1) in absurd (too-high before m allowed.0 high))
    (λ (t : (nat_le version m ≡ false) × (m < version)). ap (λ b. if b then Some 1 else option_map suc (first_withdrawal history version)) t.0 ∙ ap (option_map suc) rest)
    (leb_tells version m)

within-itself : (n : ℕ) → 0 + n ≤ n
within-itself n = omega arith

pub newest_stands : NewestStands
newest_stands history allowed = none-yet [] history (length history) allowed (within-itself (length history))
