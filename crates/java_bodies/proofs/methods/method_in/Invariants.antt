use Rattle.std.proofs.Common.{◌≡◌, drop}
use Rattle.std.specs.List.{position_from}
use Rattle.java_units.specs.Signs.{seen}
use Rattle.java_bodies.specs.Methods.{holds_hole}
use Rattle.java_bodies.proofs.methods.method_in.Given as goal

abbrev pub invariant-loop-i : goal.invariant-loop-i
invariant-loop-i l =
    let p = holds_hole l.split.passed l.split.count (seen l.split.lexemes.now) in
    position_from p 0 l.methods ≡ position_from p l.i (drop l.i l.methods)
