-- A history has one version.
use Rattle.std.proofs.Common.{◌≡◌, length, refl, sym, ◌∙◌}
use Rattle.decl_index.proofs.HistoryLaws.{has_state, one_state}
use Rattle.version_board.specs.declared.snapshot.Snapshot.{Snapshot}
use Rattle.version_board.specs.Withdrawals.{withdrawals_of}
use Rattle.version_board.specs.Laws.{HasVersion, OneVersion}

pub has_version : HasVersion
has_version history =
    let h = has_state history in
    (record { number = length history; journal = record { withdrawals = withdrawals_of history }; index = h.0 }, record { number = refl; withdrawals = refl; state = h.1 })

version-by : (s t : Snapshot) → s.number ≡ t.number → s.journal.withdrawals ≡ t.journal.withdrawals → s.index ≡ t.index → s ≡ t
version-by s t p q r = λ i. record { number = p i; journal = record { withdrawals = q i }; index = r i }

pub one_version : OneVersion
one_version history s t a b = version-by s t (a.number ∙ sym b.number) (a.withdrawals ∙ sym b.withdrawals) (one_state history s.index t.index a.state b.state)
