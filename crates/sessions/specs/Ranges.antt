-- Bounds of what is counted.
use Rattle.std.specs.Prelude.{◌<◌, ◌^◌, List, All}
use Rattle.answers.specs.declared.types.Cursor.{Cursor}

-- No list has 2^62 items, so no cursor has answered as many.
abbrev pub AreFew : List Cursor → Type 0
AreFew cs = All (λ c. c.answered < 2 ^ 62) cs
