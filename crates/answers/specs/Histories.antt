-- Lists of changes of which one is a prefix of the other.
use Rattle.std.specs.Prelude.{◌≡◌, List, ◌++◌}
use Rattle.decl_index.specs.declared.change.Change.{Change}

-- The second list begins with the first.
abbrev pub IsPrefix : List Change → List Change → Type 0
IsPrefix known history = (more : List Change) × (known ++ more ≡ history)
