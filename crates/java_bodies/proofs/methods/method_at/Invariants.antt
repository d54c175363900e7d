use Rattle.std.proofs.Common.{◌≡◌, drop}
use Rattle.java_units.specs.Signs.{seen}
use Rattle.java_bodies.specs.Methods.{holds_hole, first_method}
use Rattle.java_bodies.proofs.methods.method_at.Given as goal

abbrev pub invariant-loop-class : goal.invariant-loop-class
invariant-loop-class l =
    let p = holds_hole l.split.passed l.split.count (seen l.split.lexemes.now) in
    first_method p 0 l.classes ≡ first_method p l.class (drop l.class l.classes)
