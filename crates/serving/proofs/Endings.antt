-- How a run over a sheet ends, and which status it has.
use Rattle.std.proofs.Common.{◌≡◌, ◌⊎◌, inl, inr, ℕ, List, Option, refl, ap, arith}
use Rattle.outside.specs.Gathered.{WrotePrefix}
use Rattle.terms.specs.Expr.{Expr}
use Rattle.terms.specs.Listing.{IsWhole}
use Rattle.terms.specs.Faults.{IsValid}
use Rattle.terms.specs.declared.parts.Parts.{Parts}
use Rattle.terms.proofs.Sorting.{has_whole}
use Rattle.command_line.specs.Words.{Asked, list, upgrade, serve, count, sample, Pair, AskFor, IsFirstWrong, ends_for}
use Rattle.command_line.proofs.Asked.{not-served, not-counted, not-sampled, upgrade-not-served, upgrade-not-counted, upgrade-not-sampled}
use Rattle.serving.specs.Runs.{AskForSheet, HasBegun, status_of, list_text}
use Rattle.sheet_runs.specs.declared.ending.Ending.{Ending}
use Rattle.sheet_runs.specs.declared.ending.Ending.TheVariants.{Whole, NotSheet, ReadFault, WriteFault, OutOfMemory}

-- a prefix of each list is one of the list that there is
pub begun : (g : Parts) (w w' : Option (List ℕ)) → IsValid g → ((list : List Expr) → IsWhole g list → WrotePrefix w w' (list_text g list)) → HasBegun g w w'
begun g w w' valid prefix =
    let whole = has_whole g valid in
    record {
      list = whole.0;
      front = whole.1.front;
      wrote = prefix whole.0 whole.1;
    }

-- the status of a whole run, and of one that lacked memory
pub whole-or-no-memory : (ending : Ending) → (ending ≡ Whole) ⊎ (ending ≡ OutOfMemory) → ((status_of ending).code ≡ 0) ⊎ ((status_of ending).code ≡ 6)
unfolding status_of
whole-or-no-memory ending (inl is) = inl (ap (λ x. (status_of x).code) is)
whole-or-no-memory ending (inr is) = inr (ap (λ x. (status_of x).code) is)

-- the status of a refusal
pub refused-or-no-memory : (ending : Ending) (line cause : ℕ) → (ending ≡ NotSheet line cause) ⊎ (ending ≡ OutOfMemory) → (status_of ending ≡ status_of (NotSheet line cause)) ⊎ ((status_of ending).code ≡ 6)
unfolding status_of
refused-or-no-memory ending line cause (inl is) = inl (ap status_of is)
refused-or-no-memory ending line cause (inr is) = inr (ap (λ x. (status_of x).code) is)

-- no ending has the status of words or ends that don't fit
pub no-usage : (ending : Ending) → (status_of ending).code ≡ 2 → ⊥
unfolding status_of
no-usage Whole e = omega (arith, e)
no-usage (NotSheet line cause) e = omega (arith, e)
no-usage ReadFault e = omega (arith, e)
no-usage WriteFault e = omega (arith, e)
no-usage OutOfMemory e = omega (arith, e)

-- words that ask for a run over a sheet ask for nothing else, and for one end
pub sheet-asked : (ws : List (List ℕ)) → AskForSheet ws → (asked : Asked) × AskFor asked ws × (ends_for asked ≡ 1)
sheet-asked ws (inl l) = (list, l, refl)
sheet-asked ws (inr u) = (upgrade, u, refl)

pub sheet-not-wrong : (ws : List (List ℕ)) (place : ℕ) → AskForSheet ws → IsFirstWrong ws place → ⊥
sheet-not-wrong ws place words wrong = let asked = sheet-asked ws words in wrong.nothing asked.0 asked.1

pub sheet-not-served : (ws : List (List ℕ)) (start : Option (List ℕ)) (pairs : List Pair) (workers : Option ℕ) → AskForSheet ws → AskFor (serve start pairs workers) ws → ⊥
sheet-not-served ws start pairs workers (inl l) h = not-served ws start pairs workers l h
sheet-not-served ws start pairs workers (inr u) h = upgrade-not-served ws start pairs workers u h

pub sheet-not-counted : (ws : List (List ℕ)) (name : List ℕ) → AskForSheet ws → AskFor (count name) ws → ⊥
sheet-not-counted ws name (inl l) h = not-counted ws name l h
sheet-not-counted ws name (inr u) h = upgrade-not-counted ws name u h

pub sheet-not-sampled : (ws : List (List ℕ)) (n : ℕ) → AskForSheet ws → AskFor (sample n) ws → ⊥
sheet-not-sampled ws n (inl l) h = not-sampled ws n l h
sheet-not-sampled ws n (inr u) h = upgrade-not-sampled ws n u h
