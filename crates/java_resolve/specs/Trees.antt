-- Terms that share parts, and what is found, as the definitions see them.
use Rattle.std.specs.Prelude.{ℕ, List, map}
use Rattle.terms.specs.Expr.{Expr, var, head, Args, plain, lam}
use Rattle.terms.specs.View.{args_of}
use Rattle.java_resolve.specs.declared.tree.Tree.{Tree, fold-Tree}
use Rattle.java_resolve.specs.declared.tree.Tree.TheOpen.{Tree-F, TreeArg-F}
use Rattle.java_resolve.specs.declared.tree.Tree.TheFolds.{fold-TreeArg}
use Rattle.java_resolve.specs.declared.tree.TreeArg.{TreeArg}
use Rattle.java_resolve.specs.declared.found.Found as code
use Rattle.java_resolve.specs.declared.found.Found.TheVariants as some
use Rattle.java_resolve.specs.declared.found.Entry.{Entry}
use Rattle.java_resolve.specs.declared.found.Row as code_row
use Rattle.java_resolve.specs.declared.found.Place.{Place}
use Rattle.java_resolve.specs.declared.heads.FoundArgs.{FoundArgs}
use Rattle.java_resolve.specs.declared.heads.FoundArgs.TheVariants as args
use Rattle.java_resolve.specs.Found.{Found, none, one, two, Row, Spot}

-- one constructor of a term
abbrev pub tree_step : Tree-F Expr (Args → Args) → Expr
tree_step (Tree-F.Var n) = var n
tree_step (Tree-F.Head d xs) = head d (args_of xs)

-- one constructor of an argument
abbrev pub tree_arg_step : TreeArg-F Expr (Args → Args) → Args → Args
tree_arg_step (TreeArg-F.Plain e) = plain e.value
tree_arg_step (TreeArg-F.Lam e) = lam e.value

-- the expression that a term is
abbrev pub tree_view : Tree → Expr
tree_view = fold-Tree Expr (Args → Args) tree_step tree_arg_step

-- an argument, before the rest
abbrev pub tree_arg_view : TreeArg → Args → Args
tree_arg_view = fold-TreeArg Expr (Args → Args) tree_step tree_arg_step

-- the arguments that a list of them is
abbrev pub tree_args_view : List TreeArg → Args
tree_args_view xs = args_of (map tree_arg_view xs)

-- what is found
abbrev pub found_view : code.Found → Found Expr
found_view some.Nothing = none
found_view (some.One e) = one (tree_view e.value)
found_view some.Two = two

-- which arguments are found
abbrev pub args_found_view : FoundArgs → Found Args
args_found_view args.Nothing = none
args_found_view (args.One xs) = one (tree_args_view xs)
args_found_view args.Two = two

abbrev pub entry_view : Entry → ℕ × Found Expr
entry_view x = (x.kind, found_view x.found)

abbrev pub row_view : code_row.Row → Row
row_view r = map entry_view r.entries

abbrev pub place_view : Place → Spot
place_view p = record { cast = p.cast; row = row_view p.row }
