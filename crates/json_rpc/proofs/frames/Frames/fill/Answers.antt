use Rattle.std.proofs.Common.{ℕ, ◌+◌, ◌≤◌, List, arith, ap, sym, subst, length}
use Rattle.std.proofs.lemmas.List.{length-append}
use Rattle.json_rpc.specs.Prefixes.{IsPrefixOf}
use Rattle.json_rpc.specs.Streams.{budget}
use Rattle.json_rpc.proofs.Scans.{prefix-more}
use Rattle.json_rpc.proofs.frames.Frames.fill.Goals as goal

pub invariant_of-self-2 : goal.invariant_of-self-2
invariant_of-self-2 g c =
    let old = c.self.inside in
    let h = c.in_ok-count.ensures.bytes in
    let P : List ℕ → Type 0 = λ v. IsPrefixOf v old.prefix in
    let bound : old.place + length c.fill.new.self ≤ budget = omega (arith, c.self.invariant.0, ap length h.held, length-append old.held h.taken, h.many, h.few) in
    (bound, c.self.invariant.1, subst P (sym h.held) (prefix-more old.held h.taken old.prefix c.self.invariant.2))
