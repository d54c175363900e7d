use Rattle.std.proofs.Common.{◌≡◌, ◌||◌, ℕ, List, chars, drop, IsUtf8}
use Rattle.indexmap.specs.IndexSet.{contains_text}
use Rattle.java_units.specs.Signs.{has}
use Rattle.java_resolve.specs.Known.{wanted_words}
use Rattle.java_resolve.proofs.declared.add_wanted.Given as goal

abbrev pub invariant-loop-arg : goal.invariant-loop-arg
invariant-loop-arg l = (b : List ℕ) → IsUtf8 b → (contains_text l.set b || has (wanted_words l.parts (drop l.arg-index l.args)) (chars b)) ≡ (contains_text l.fn.set b || has (wanted_words l.parts l.args) (chars b))
