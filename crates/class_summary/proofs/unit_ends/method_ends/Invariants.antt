use Rattle.std.proofs.Common.{◌≡◌, ℕ, List, length, slice_get, Option, Some}
use Rattle.class_summary.specs.Variables.{scopes_at}
use Rattle.class_summary.specs.VariableEnds.{Reach, AreEnds}
use Rattle.class_summary.proofs.unit_ends.method_ends.Given as goal

abbrev pub invariant-loop-m : goal.invariant-loop-m
invariant-loop-m l = record { size : l.m ≡ length l.each.items; ends : (m : ℕ) (ends : List (Option Reach)) → slice_get l.each.items m ≡ Some ends → AreEnds (scopes_at l.classes l.class (Some m)) ends }
