use Rattle.std.proofs.Common.{◌≡◌, ◌++◌, length}
use denote.Text.{Utf8}
use denote.Shadow.{shadow}
use Rattle.known_classes.specs.Known.{dotted}
use Rattle.known_classes.proofs.canonical_text.push_dotted.Given as goal

abbrev pub invariant-loop-prefix : goal.invariant-loop-prefix
invariant-loop-prefix l = shadow (Utf8 l.rest) × (l.fn.text ++ dotted l.name ≡ l.text ++ dotted l.rest)

abbrev pub decreases-loop-prefix : goal.decreases-loop-prefix
decreases-loop-prefix l = length l.rest
