-- A file more in a batch.
use Rattle.std.proofs.Common.{◌≡◌, ◌≤◌, ℕ, List, [], ◌∷◌, ◌++◌, length, sym, subst}
use Rattle.std.proofs.lemmas.List.Elements.{All-push}
use Rattle.class_batches.specs.Batches.{AreShort}

pub short_more : (old new : List (ℕ × List ℕ)) (file : ℕ × List ℕ) → new ≡ old ++ file ∷ [] → AreShort old → length file.1 ≤ 16777216 → AreShort new
short_more old new file is all one = subst AreShort (sym is) (All-push (λ (f : ℕ × List ℕ). length f.1 ≤ 16777216) old file all one)
