-- The journal of a history, and what it says of withdrawals.
use Rattle.std.proofs.Common.{◌≡◌, ◌+◌, ℕ, suc, Bool, true, false, List, [], ◌∷◌, ◌++◌, length, refl, sym, ap, ◌∙◌, arith, Option, None, Some, append_assoc, append-nil, length-append}
use Rattle.std.specs.Prelude.{if◌then◌else◌, nat_le, option_map, find}
use Rattle.decl_index.specs.declared.change.Change.{Change}
use Rattle.decl_index.specs.declared.change.Change.TheVariants.{Publish, Withdraw, SetWeights}
use Rattle.decl_index.specs.History.{State, IsState, first_withdrawal}
use Rattle.version_board.specs.declared.journal.Journal.{Journal}
use Rattle.version_board.specs.declared.journal.Withdrawal.{Withdrawal}
use Rattle.version_board.specs.declared.snapshot.Snapshot.{Snapshot}
use Rattle.version_board.specs.Withdrawals.{withdrawal_of, withdrawals_after, withdrawals_of}
use Rattle.version_board.specs.Versions.{IsVersion}

-- One change more is the last withdrawal, if it is one.
after-one : (n : ℕ) (history : List Change) (c : Change) → withdrawals_after n (history ++ c ∷ []) ≡ withdrawals_after n history ++ withdrawal_of (suc (n + length history)) c
unfolding withdrawals_after
after-one n [] c = append-nil (withdrawal_of (suc n) c) ∙ ap (λ k. withdrawal_of (suc k) c) (omega arith)
after-one n (d ∷ history) c =
    let same : suc n + length history ≡ n + length (d ∷ history) = omega arith in
    ap (λ ws. withdrawal_of (suc n) d ++ ws) (after-one (suc n) history c ∙ ap (λ k. withdrawals_after (suc n) history ++ withdrawal_of (suc k) c) same)
    ∙ sym (append_assoc (withdrawal_of (suc n) d) (withdrawals_after (suc n) history) (withdrawal_of (suc (n + length (d ∷ history))) c))

of-one : (number : ℕ) (history : List Change) (c : Change) → number ≡ length (history ++ c ∷ []) → withdrawals_of (history ++ c ∷ []) ≡ withdrawals_of history ++ withdrawal_of number c
of-one number history c is =
    let same : suc (0 + length history) ≡ number = omega (arith, is, length-append history (c ∷ [])) in
    after-one 0 history c ∙ ap (λ k. withdrawals_of history ++ withdrawal_of k c) same

-- The version of no change.
pub begins : (journal : Journal) (state : State) → journal.withdrawals ≡ [] → IsState [] state → IsVersion [] (record { number = 0; journal = journal; index = state })
unfolding withdrawals_after
begins journal state empty is = record { number = refl; withdrawals = empty; state = is }

-- The version after one change more.
pub follows : (history : List Change) (c : Change) (s : Snapshot) (number : ℕ) (state : State) (journal : Journal)
    → IsVersion history s
    → IsState (history ++ c ∷ []) state
    → number ≡ state.number
    → journal.withdrawals ≡ s.journal.withdrawals ++ withdrawal_of number c
    → IsVersion (history ++ c ∷ []) (record { number = number; journal = journal; index = state })
follows history c s number state journal is next number_is added = record {
  number = number_is ∙ next.number;
  withdrawals = added ∙ ap (λ ws. ws ++ withdrawal_of number c) is.withdrawals ∙ sym (of-one number history c (number_is ∙ next.number));
  state = next;
}

-- The number of the first withdrawal of a version, in a journal.
first : ℕ → List Withdrawal → Option ℕ
first version ws = option_map (λ (w : Withdrawal). w.number) (find (λ (w : Withdrawal). nat_le version w.through) ws)

plus-suc : (n : ℕ) (o : Option ℕ) → option_map (λ i. suc n + i) o ≡ option_map (λ i. n + i) (option_map suc o)
plus-suc n None = refl
plus-suc n (Some i) = let same : suc n + i ≡ n + suc i = omega arith in ap (λ k. Some k) same

first-by : (b : Bool) (n : ℕ) (w : Withdrawal) (ws : List Withdrawal) (version : ℕ) (o : Option ℕ)
    → nat_le version w.through ≡ b
    → w.number ≡ n + 1
    → first version ws ≡ option_map (λ i. n + i) o
    → first version (w ∷ ws) ≡ option_map (λ i. n + i) (if b then Some 1 else o)
unfolding first
first-by true n w ws version o test number rest = ap (λ t. option_map (λ (x : Withdrawal). x.number) (if t then Some w else find (λ (x : Withdrawal). nat_le version x.through) ws)) test ∙ ap (λ k. Some k) number
first-by false n w ws version o test number rest = ap (λ t. option_map (λ (x : Withdrawal). x.number) (if t then Some w else find (λ (x : Withdrawal). nat_le version x.through) ws)) test ∙ rest

first-after : (n : ℕ) (history : List Change) (version : ℕ) → first version (withdrawals_after n history) ≡ option_map (λ i. n + i) (first_withdrawal history version)
unfolding first withdrawals_after first_withdrawal
first-after n [] version = refl
first-after n (Publish puts removes counts ∷ history) version = first-after (suc n) history version ∙ plus-suc n (first_withdrawal history version)
first-after n (SetWeights w ∷ history) version = first-after (suc n) history version ∙ plus-suc n (first_withdrawal history version)
first-after n (Withdraw through ∷ history) version =
    let number : suc n ≡ n + 1 = omega arith in
    first-by (nat_le version through) n (record { number = suc n; through = through }) (withdrawals_after (suc n) history) version (option_map suc (first_withdrawal history version)) refl number (first-after (suc n) history version ∙ plus-suc n (first_withdrawal history version))

none-more : (o : Option ℕ) → option_map (λ i. 0 + i) o ≡ o
none-more None = refl
none-more (Some i) = let same : 0 + i ≡ i = omega arith in ap (λ k. Some k) same

-- What the journal of a history says of a version.
pub first-of : (history : List Change) (ws : List Withdrawal) (version : ℕ) → ws ≡ withdrawals_of history → option_map (λ (w : Withdrawal). w.number) (find (λ (w : Withdrawal). nat_le version w.through) ws) ≡ first_withdrawal history version
unfolding first
first-of history ws version is = ap (first version) is ∙ first-after 0 history version ∙ none-more (first_withdrawal history version)
