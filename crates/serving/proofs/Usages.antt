-- Words and ends that don't fit are told by one status.
use Rattle.std.proofs.Common.{◌≡◌, ◌≢◌, inl, inr, ℕ, List, refl, sym, ap, ◌∙◌}
use Rattle.command_line.specs.Words.{Asked, AskFor, IsFirstWrong, ends_for}
use Rattle.command_line.proofs.Asked.{same-place, one-ends}
use Rattle.serving.specs.Usages.{IsUsage}
use Rattle.statuses.specs.declared.status.Status.{Status}

-- the words are wrong
pub wrong-words : (ws : List (List ℕ)) (n place : ℕ) (status : Status) → IsFirstWrong ws place → IsUsage ws n status → record { code = 2; end = 0; place = place; cause = 1 } ≡ status
wrong-words ws n place status wrong (inl u) = ap (λ p. record { code = 2; end = 0; place = p; cause = 1 }) (same-place ws place u.0 wrong u.1) ∙ sym u.2
wrong-words ws n place status wrong (inr u) = absurd (wrong.nothing u.0 u.1)

-- the number of ends is wrong
pub wrong-ends : (ws : List (List ℕ)) (n : ℕ) (asked : Asked) (status : Status) → AskFor asked ws → IsUsage ws n status → record { code = 2; end = 0; place = n; cause = 2 } ≡ status
wrong-ends ws n asked status ask (inl u) = absurd (u.1.nothing asked ask)
wrong-ends ws n asked status ask (inr u) = sym u.3

pub is-wrong-ends : (ws : List (List ℕ)) (n : ℕ) (asked : Asked) → AskFor asked ws → n ≢ ends_for asked → IsUsage ws n (record { code = 2; end = 0; place = n; cause = 2 })
is-wrong-ends ws n asked ask other = inr (asked, ask, other, refl)

-- the words and the ends fit
pub no-usage-fits : (ws : List (List ℕ)) (n : ℕ) (asked : Asked) (status : Status) → AskFor asked ws → n ≡ ends_for asked → IsUsage ws n status → ⊥
no-usage-fits ws n asked status ask fits (inl u) = u.1.nothing asked ask
no-usage-fits ws n asked status ask fits (inr u) = u.2 (fits ∙ one-ends ws asked u.0 ask u.1)
