-- Brackets among the signs of a body.
use Rattle.std.specs.Prelude.{if◌then◌else◌, codes}
use Rattle.java_units.specs.Signs.{Sign, is}
use Rattle.java_bodies.specs.declared.mark.Mark.{Mark}
use Rattle.java_bodies.specs.declared.mark.Mark.TheVariants as mark

-- What the sign is among brackets.
unfoldable pub mark_of : Sign → Mark
mark_of s =
    if is (codes "{") s then mark.OpensBlock
    else if is (codes "}") s then mark.ClosesBlock
    else if is (codes "(") s then mark.OpensRound
    else if is (codes ")") s then mark.ClosesRound
    else mark.Plain
