-- Once a version is withdrawn, no page of its lists comes any more.
use Rattle.std.proofs.Common.{◌≡◌, ℕ, List, [], ◌∷◌, sym, subst, Option, None, Some}
use Rattle.decl_index.specs.declared.change.Change.{Change}
use Rattle.decl_index.specs.History.{first_withdrawal}
use Rattle.version_board.proofs.WithdrawalLaws.{withdrawals_stay}
use Rattle.answers.specs.Histories.{IsPrefix}
use Rattle.answers.specs.Asks.{Answer, opened, turned, withdrawn, explained, accepted, refused, quiet, ended}
use Rattle.answers.specs.Turns.{answer, next, change_of, Sees, AllSee}
use Rattle.answers.specs.Told.{Heeds, AllHeed, Shuts, AllShut}
use Rattle.answers.specs.Laws.{WithdrawnStays}
use Rattle.answers.proofs.Chains.{sees_later}

pub later : (known history : List Change) (v n : ℕ) → IsPrefix known history → first_withdrawal known v ≡ Some n → first_withdrawal history v ≡ Some n
later known history v n (more, is) gone = subst (λ h. first_withdrawal h v ≡ Some n) is (withdrawals_stay known more v n gone)

pub none_some : (n : ℕ) (o : Option ℕ) → o ≡ None → o ≡ Some n → ⊥
none_some n o none some = cc

pub some_same : (m n : ℕ) (o : Option ℕ) → o ≡ Some m → o ≡ Some n → m ≡ n
some_same m n o a b = cc

-- The history at which an answer was decided includes what was known before, where a page was asked for.
read_gone : (known at after : List Change) (v n : ℕ) → (at ≡ after) × IsPrefix known after → first_withdrawal known v ≡ Some n → first_withdrawal at v ≡ Some n
read_gone known at after v n sees gone = later known at v n (subst (IsPrefix known) (sym sees.0) sees.1) gone

shuts : (k v n : ℕ) (a : Answer) (known at made after : List Change) → Sees known a at made after → Heeds k v a at → first_withdrawal known v ≡ Some n → Shuts k n a
shuts k v n (turned c p) known at made after sees heeds gone = λ e. none_some n (first_withdrawal at v) (heeds e).1 (read_gone known at after v n sees gone)
shuts k v n (withdrawn j x m) known at made after sees heeds gone = λ e. some_same m n (first_withdrawal at v) (heeds e).1 (read_gone known at after v n sees gone)
shuts k v n (opened c p) known at made after sees heeds gone = tt
shuts k v n (explained c x) known at made after sees heeds gone = tt
shuts k v n (accepted x) known at made after sees heeds gone = tt
shuts k v n (refused f) known at made after sees heeds gone = tt
shuts k v n quiet known at made after sees heeds gone = tt
shuts k v n ended known at made after sees heeds gone = tt

pub withdrawn_stays : WithdrawnStays
unfolding AllSee AllHeed AllShut
withdrawn_stays k v n known end l [] sees heeds gone = tt
withdrawn_stays k v n known end l (t ∷ ts) sees heeds gone = (
  shuts k v n (answer l t) known t.met.at (change_of t.ask) sees.0 sees.1 heeds.0 gone,
  withdrawn_stays k v n sees.0 end (next l t) ts sees.2 heeds.1 (later known sees.0 v n (sees_later (answer l t) known t.met.at (change_of t.ask) sees.0 sees.1) gone),
)
