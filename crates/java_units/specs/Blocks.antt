-- Blocks counted from the end of the text: the places of the closing braces that are still open there.
use Rattle.std.specs.Prelude.{ℕ, zero, suc, ◌+◌, ◌-◌, List, [], ◌∷◌, ◌++◌, drop, if◌then◌else◌, codes, bytes_eq}
use Rattle.java_units.specs.declared.lexemes.Lexeme.{Lexeme}
use Rattle.java_units.specs.Signs.{Sign, sign}

unfoldable pub nth : ℕ → List ℕ → ℕ
nth d [] = 0
nth zero (x ∷ xs) = x
nth (suc d) (x ∷ xs) = nth d xs

-- How many signs the block of a `{` holds, where so many signs follow it and so many stand from each of
-- the open closing braces on.
unfoldable pub block_len : List ℕ → ℕ → List ℕ → ℕ
block_len w count closers = if bytes_eq (codes "{") w then count - nth 0 closers else 0

-- These closing braces with the sign before them.
unfoldable pub closers_after : List ℕ → ℕ → List ℕ → List ℕ
closers_after w count closers =
    if bytes_eq (codes "}") w then (count + 1) ∷ closers
    else if bytes_eq (codes "{") w then drop 1 closers
    else closers

-- Lexemes from the last one on.
unfoldable pub seen_back : List Lexeme → List Sign
seen_back [] = []
seen_back (l ∷ ls) = seen_back ls ++ sign l ∷ []
