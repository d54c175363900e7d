use Rattle.std.proofs.Common.{◌≤◌}
use Rattle.reconstruction.specs.Tabled.{front_of, Grew}
use Rattle.reconstruction.specs.Variables.{variables, bound_at}
use Rattle.reconstruction.proofs.variables.grow_variables.Given as goal

abbrev pub invariant-loop-number : goal.invariant-loop-number
invariant-loop-number l = record {
  grew : Grew l.initial.tables l.fn.arena l.arena (front_of l.fn.arena l.initial.parent.front) (variables l.number) l.fn.children.items l.children.items;
  most : l.number ≤ bound_at l.initial.tables l.initial.parent.place;
}
