-- What was read of the words after `serve`.
use Rattle.std.specs.Prelude.{◌≡◌, ℕ, List, [], ◌∷◌, ◌++◌, length, codes, Option, None, MatchOption, MatchResult, Result, option_map, option_to_list, string_bytes, String}
use denote.Ref.{Bor}
use Rattle.json_rpc.specs.declared.message.Refused.{Refused}
use Rattle.json_rpc.specs.declared.message.Refused.TheVariants.{Fault, OutOfMemory}
use Rattle.command_line.specs.declared.scan.Next.{Next}
use Rattle.command_line.specs.declared.scan.Next.TheVariants as next
use Rattle.command_line.specs.declared.scan.Scan.{Scan}
use Rattle.command_line.specs.declared.scan.Taken.{Taken}
use Rattle.command_line.specs.declared.command.UsageFault.{UsageFault}
use Rattle.command_line.specs.Words.{Pair, serve, AreParts, AskFor, IsFirstWrong}

-- The option before the word that comes next.
abbrev pub opening : Next → List (List ℕ)
opening next.Part = []
opening next.Name = codes "--start" ∷ []
opening next.Number = codes "--ahead" ∷ []

-- These words were read: parts with these pairs, and behind them the option whose name or number comes next.
pub record Scanned (rest : List (List ℕ)) (scan : Scan) (pairs : List Pair) : Type 0 where
  pub before : List (List ℕ)
  pub parts : AreParts (option_map (λ s. s.now) scan.start) pairs scan.ahead before
  pub words : rest ≡ before ++ opening scan.next
  pub no_start : scan.next ≡ next.Name → scan.start ≡ None
  pub no_ahead : scan.next ≡ next.Number → scan.ahead ≡ None
  pub many : scan.pairs ≡ length pairs
  pub read : scan.words ≡ length rest

-- No words of a server begin with these.
abbrev pub IsStuck : List (List ℕ) → Type 0
IsStuck words = (told : Option (List ℕ)) (pairs : List Pair) (workers : Option ℕ) (more : List (List ℕ)) → AreParts told pairs workers (words ++ more) → ⊥

-- The names of a pair that was found.
abbrev pub names_in : Option (Bor (List ℕ) × Bor (List ℕ)) → List Pair
names_in found = option_to_list (option_map (λ x. (x.0.now, x.1.now)) found)

-- One word more was read, or no words of a server begin with it and those before.
abbrev pub Takes : Scan → List ℕ → Option Taken → Type 0
Takes scan word taken = (words : List (List ℕ)) (pairs : List Pair) → Scanned words scan pairs
    → MatchOption taken (IsStuck (words ++ word ∷ [])) (λ t. Scanned (words ++ word ∷ []) t.scan (pairs ++ names_in t.pair))

-- The words that were read ask for a server, or end where a name or a number is missing.
abbrev pub Reads : Scan → Result (Unit {0}) UsageFault → Type 0
Reads scan result = (words : List (List ℕ)) (pairs : List Pair) → Scanned words scan pairs
    → MatchResult result (λ _. AskFor (serve (option_map (λ s. s.now) scan.start) pairs scan.ahead) (codes "serve" ∷ words)) (λ fault. IsFirstWrong (codes "serve" ∷ words) fault.word)

-- The names of a pair that is kept.
abbrev pub named : {Y : Type 0} → String Y × String Y → Pair
named names = (string_bytes names.0, string_bytes names.1)

-- The words ask for nothing, by the first wrong one; want of memory says nothing.
abbrev pub RefusesWords : List (List ℕ) → Refused UsageFault → Type 0
RefusesWords words (Fault fault) = IsFirstWrong words fault.word
RefusesWords words OutOfMemory = Unit {0}
