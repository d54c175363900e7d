use Rattle.std.proofs.Common.{◌≡◌, ◌||◌, ℕ, List, chars, drop, IsUtf8}
use Rattle.indexmap.specs.IndexSet.{contains_text}
use Rattle.java_units.specs.Signs.{has}
use Rattle.java_resolve.specs.Known.{decls_words}
use Rattle.java_resolve.proofs.declared.add_decls.Given as goal

abbrev pub invariant-loop-decl : goal.invariant-loop-decl
invariant-loop-decl l = (b : List ℕ) → IsUtf8 b → (contains_text l.set b || has (decls_words l.parts (drop l.decl-index l.decls)) (chars b)) ≡ (contains_text l.fn.set b || has (decls_words l.parts l.decls) (chars b))
