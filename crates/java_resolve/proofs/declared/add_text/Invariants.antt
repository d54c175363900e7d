use Rattle.std.proofs.Common.{◌≡◌, ◌||◌, ℕ, List, chars, length, IsUtf8}
use denote.Shadow.{shadow}
use denote.Text.{Utf8}
use Rattle.indexmap.specs.IndexSet.{contains_text}
use Rattle.java_units.specs.Signs.{has}
use Rattle.java_resolve.specs.Known.{words, words_of}
use Rattle.java_resolve.proofs.declared.add_text.Given as goal

abbrev pub invariant-loop-c : goal.invariant-loop-c
invariant-loop-c l = record {
  owed : (b : List ℕ) → IsUtf8 b → (contains_text l.set b || has (words l.word (chars l.rest)) (chars b)) ≡ (contains_text l.fn.set b || has (words_of l.fn.text) (chars b));
  text : shadow (Utf8 l.rest);
}

abbrev pub decreases-loop-c : goal.decreases-loop-c
decreases-loop-c l = length l.rest
