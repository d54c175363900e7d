use Rattle.std.proofs.Common.{rules, ◌≡◌, sym, subst}
use Rattle.std.specs.Prelude.{IfErr}
use Rattle.std.specs.Arc.{arc_value}
use Rattle.decl_index.proofs.Results.{err_then}
use Rattle.sessions.specs.Publications.{Declines}
use Rattle.sessions.specs.MemStates.{mem_state}
use Rattle.sessions.proofs.MemWorlds.{version_accepts, version_declines}
use Rattle.sessions.proofs.mem_world.MemWorldWorld.publish.Goals as goal

pub returns-clause-accepted : goal.returns-clause-accepted
returns-clause-accepted g c =
    let w = c.self.inside in
    let next = arc_value c.in_ok-next.next in
    let number : c.deref.result.now.number ≡ next.number = cc in
    rw (sym c.self.view_is)
    (version_accepts w.history c.push.new.self w.reads.items w.shelf.files w.shelf.plan.faults c.deref.result.now.number (arc_value w.at) next c.args.change
    c.self.invariant c.in_ok-next.ensures.version c.in_ok-next.ensures.lawful c.in_ok-push.ensures.ok number)

pub returns-in_err-next-clause-refused : goal.returns-in_err-next-clause-refused
returns-in_err-next-clause-refused g c =
    let w = c.self.inside in
    let s = mem_state w.history w.reads.items w.shelf.files w.shelf.plan.faults in
    let why = c.in_err-next.field-0.0 in
    let same : IfErr c.from_residual.result (λ fault. fault ≡ why) = search rules in
    let told : Declines c.args.change why s s = version_declines w.history w.reads.items w.shelf.files w.shelf.plan.faults (arc_value w.at) c.args.change why c.self.invariant c.in_err-next.ensures.refused in
    rw (sym c.self.view_is) (err_then (λ fault. fault ≡ why) (λ fault. Declines c.args.change fault s s) c.from_residual.result same (λ fault e. subst (λ f. Declines c.args.change f s s) (sym e) told))
