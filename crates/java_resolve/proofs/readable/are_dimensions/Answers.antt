use Rattle.std.proofs.Common.{rules, ◌≡◌, ◌∙◌, []}
use Rattle.java_resolve.proofs.Reading.{char_shorter}
use Rattle.java_resolve.proofs.Readables.{dims_end}
use Rattle.java_resolve.proofs.readable.are_dimensions.Goals as goal

pub loop-c-smaller : goal.loop-c-smaller
loop-c-smaller c = char_shorter c.loop-c.rest.now c.in-Some.more.now c.in-Some.c c.in-Some.ensures.1

pub returns : goal.returns
returns c =
    let end : c.loop-c.rest.now ≡ [] = search rules in
    dims_end c.loop-c.is_open c.loop-c.rest.now end ∙ c.loop-c.invariant.owed
