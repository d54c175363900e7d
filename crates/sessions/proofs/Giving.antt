-- What the files of a publication give, the class files first.
use Rattle.std.proofs.Common.{◌≡◌, ap, subst, inr, List, ℕ, length, Result, Ok, Err}
use Rattle.std.specs.Prelude.{IfOk}
use Rattle.std.specs.declared.alloc.AllocError.{AllocError}
use Rattle.known_classes.specs.declared.summary.ClassSummary.{ClassSummary}
use Rattle.answers.specs.Asks.{classes}
use Rattle.answers.specs.declared.types.NamedFiles.{NamedFiles}
use Rattle.sessions.specs.Worlds.{WorldState}
use Rattle.sessions.specs.Publications.{LeavesFiles}
use Rattle.sessions.specs.Loads.{Give, GiveAll, SourcesGive, loads_of}
use Rattle.sessions.specs.declared.loading.Files as code
use Rattle.sessions.specs.declared.loading.Files.TheVariants as variant

-- The class files gave classes, and the sources are loaded behind them.
pub given_then : {P : Type 0} (files : NamedFiles) (listed : List (List ℕ)) (puts : List ClassSummary) (given : code.Files) (r : Result code.Files AllocError) (old mid : WorldState)
    → listed ≡ files.puts → Give old.holds listed (loads_of given) → given ≡ variant.Classes puts → LeavesFiles P old mid
    → IfOk r (λ g. SourcesGive mid.holds (length files.puts) files.sources files.known puts (loads_of g)) → IfOk r (λ g. GiveAll old.holds files (loads_of g))
given_then files listed puts given (Err e) old mid l g is leaves s = tt
given_then files listed puts given (Ok all) old mid l g is leaves s = inr (record {
  puts = puts;
  first = subst (λ ns. Give old.holds ns (classes puts)) l (subst (λ f. Give old.holds listed (loads_of f)) is g);
  behind = subst (λ h. SourcesGive h (length files.puts) files.sources files.known puts (loads_of all)) (ap (λ (w : WorldState). w.holds) leaves.same) s;
})
