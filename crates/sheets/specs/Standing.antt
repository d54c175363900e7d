-- What a reader of a sheet has kept of the lines that it read.
use Rattle.std.specs.Prelude.{◌≡◌, MatchResult, Result, ℕ, List, [], ◌∷◌, ◌++◌, option_map, Option, Some, None, is_some, unwrap_or, codes}
use Rattle.std.specs.List.{flat_map}
use Rattle.sheets.specs.Words.{index_of, number}
use Rattle.sheets.specs.SheetLines.{Line, blank, other, type_line, sub_line, decl_line, goal_line, number_line, binder_line}
use Rattle.sheets.specs.Sheets.{Seen, Fault, cause, types_of, goals_of, binders_of, numbers_of, value_of, steps_of, line_with, step_word, pair_in, decl_in, decl_of, first, places_where, is_sub, is_decl}
use Rattle.sheets.specs.declared.kind.NumberWord.TheVariants as number_word
use Rattle.sheets.specs.declared.sheet.Sheet.{Sheet}
use Rattle.sheets.specs.declared.reading.SheetFault.{SheetFault}
use Rattle.sheets.specs.declared.reading.SheetFault.TheVariants.{At, OutOfMemory}
use Rattle.sheets.specs.Sheets.{nth}
use Rattle.sheets.specs.declared.places.Places.{Places}
use Rattle.terms.specs.declared.parts.Parts.{Parts}
use Rattle.terms.specs.declared.fault.EnvFault.{EnvFault}
use Rattle.terms.specs.declared.fault.EnvFault.TheVariants.{TypeRange, PairRange, PairTwice, Weight, Limit, NotTransitive, Depth, Step}
use Rattle.terms.specs.declared.fault.EnvFault.TheVariants as fault

-- the sheet holds what these lines say, whatever types follow them
pub record Stands (s : Sheet) (ls : List Line) : Type 0 where
  pub types : s.names ≡ types_of ls
  pub pairs : (more : List (List ℕ)) → s.pairs ≡ flat_map (pair_in (types_of ls ++ more)) ls
  pub decls : (more : List (List ℕ)) → s.decls ≡ flat_map (decl_in (types_of ls ++ more)) ls
  pub goal : (more : List (List ℕ)) → s.goal ≡ option_map (index_of (types_of ls ++ more)) (first (goals_of ls))
  pub numbers : s.numbers ≡ numbers_of ls
  pub binder : s.binder ≡ first (binders_of ls)
  pub pair_lines : s.pair_lines ≡ places_where is_sub 2 ls
  pub decl_lines : s.decl_lines ≡ places_where is_decl 2 ls

-- which lines that stand once a sheet has
abbrev pub seen_by : Sheet → Seen
seen_by s = record { goal = is_some s.goal; numbers = s.numbers; binder = is_some s.binder }

-- one line more, of number n
unfoldable pub added : ℕ → Sheet → Line → Sheet
added n s blank = s
added n s other = s
added n s (type_line t) = record s { names = s.names ++ t ∷ [] }
added n s (sub_line a b) = record s { pairs = s.pairs ++ (index_of s.names a, index_of s.names b) ∷ []; pair_lines = s.pair_lines ++ n ∷ [] }
added n s (decl_line d) = record s { decls = s.decls ++ decl_of s.names d ∷ []; decl_lines = s.decl_lines ++ n ∷ [] }
added n s (goal_line t) = record s { goal = Some (index_of s.names t) }
added n s (number_line w t) = record s { numbers = s.numbers ++ record { word = w; value = number t; line = n } ∷ [] }
added n s (binder_line t) = record s { binder = Some t }

-- the parts that a sheet holds
abbrev pub parts_by : Sheet → Parts
parts_by s = record {
  types = s.names;
  pairs = s.pairs;
  decls = s.decls;
  goal = unwrap_or s.goal 0;
  limit = value_of number_word.Limit s.numbers;
  depth = value_of number_word.Depth s.numbers;
  binder = unwrap_or s.binder (codes "p");
  steps = steps_of s.numbers;
}

-- a refusal says the fault
abbrev pub Refuses : Option Fault → SheetFault → Type 0
Refuses fault (At n c) = fault ≡ Some (record { line = n; cause = c })
Refuses fault OutOfMemory = Unit {0}

-- a refusal says the cause at line n
abbrev pub RefusesAt : ℕ → Option ℕ → SheetFault → Type 0
RefusesAt n found (At m c) = (m ≡ n) × (found ≡ Some c)
RefusesAt n found OutOfMemory = Unit {0}

-- a line of number n is taken where it has no cause, else refused
abbrev pub Takes : {X : Type 0} → ℕ → Sheet → Sheet → Line → Result X SheetFault → Type 0
Takes n old new l result = MatchResult result (λ _. (cause old.names (seen_by old) l ≡ None) × (new ≡ added n old l)) (λ fault. RefusesAt n (cause old.names (seen_by old) l) fault)

-- the fault of the environment, by the lines that were kept
unfoldable pub fault_by : Places → EnvFault → Option Fault
fault_by p (TypeRange i) = Some (record { line = nth p.decls i; cause = 11 })
fault_by p (PairRange i) = Some (record { line = nth p.pairs i; cause = 12 })
fault_by p (PairTwice i) = Some (record { line = nth p.pairs i; cause = 13 })
fault_by p (Weight i) = Some (record { line = nth p.decls i; cause = 14 })
fault_by p (Limit n) = Some (record { line = line_with number_word.Limit p.numbers; cause = 15 })
fault_by p (NotTransitive a b c) = Some (record { line = p.after; cause = 16 })
fault_by p (Depth n) = Some (record { line = line_with number_word.Depth p.numbers; cause = 17 })
fault_by p (fault.Form i) = Some (record { line = nth p.decls i; cause = 18 })
fault_by p (Step i) = Some (record { line = line_with (step_word i) p.numbers; cause = 19 })
fault_by p fault.OutOfMemory = None

-- the lines that a sheet keeps, where this line comes after its last
abbrev pub places_by : Sheet → ℕ → Places
places_by s after = record { pairs = s.pair_lines; decls = s.decl_lines; numbers = s.numbers; after = after }
