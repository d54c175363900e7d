-- The code's terms, as the definitions see them.
use Rattle.std.specs.Prelude.{List, [], ◌∷◌, map}
use Rattle.terms.specs.Expr.{Expr, var, head, Args, no_args, plain, lam}
use Rattle.terms.specs.declared.term.Term.{Term, fold-Term}
use Rattle.terms.specs.declared.term.Term.TheOpen.{Term-F, TermArg-F}
use Rattle.terms.specs.declared.term.Term.TheFolds.{fold-TermArg}
use Rattle.terms.specs.declared.term.TermArg.{TermArg}

-- arguments that each put themselves before the rest
abbrev pub args_of : List (Args → Args) → Args
args_of [] = no_args
args_of (a ∷ more) = a (args_of more)

-- one constructor of a term
abbrev pub term_step : Term-F Expr (Args → Args) → Expr
term_step (Term-F.Var n) = var n
term_step (Term-F.Head d xs) = head d (args_of xs)

-- one constructor of an argument
abbrev pub arg_step : TermArg-F Expr (Args → Args) → Args → Args
arg_step (TermArg-F.Plain e) = plain e
arg_step (TermArg-F.Lam e) = lam e

-- the expression that a term is
abbrev pub expr : Term → Expr
expr = fold-Term Expr (Args → Args) term_step arg_step

-- an argument, before the rest
abbrev pub arg : TermArg → Args → Args
arg = fold-TermArg Expr (Args → Args) term_step arg_step

-- the arguments that a list of them is
abbrev pub args_view : List TermArg → Args
args_view xs = args_of (map arg xs)
