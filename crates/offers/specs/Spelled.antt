-- Spellings of classes that are kept.
use Rattle.std.specs.Prelude.{◌≡◌, ℕ, List, map, Option}
use Rattle.offers.specs.Spellings.{class_spelling}
use Rattle.offers.specs.Views.{Outlook, scene}

-- These are the spellings of the classes of these names.
abbrev pub AreSpelled : Outlook → List (List ℕ) → List (Option (List ℕ)) → Type 0
AreSpelled o names texts = texts ≡ map (class_spelling (scene o)) names
