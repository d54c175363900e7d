-- The texts of classes.
use Rattle.std.specs.Prelude.{ℕ, List, unwrap_or}
use Rattle.known_classes.specs.Known.{canonical}
use Rattle.offers.specs.Scenes.{Scene}
use Rattle.offers.specs.Spellings.{class_spelling}

-- The spelling of a class, or its canonical name.
abbrev pub class_text : Scene → List ℕ → List ℕ
class_text v name = unwrap_or (class_spelling v name) (canonical v.known name)
