use Rattle.std.proofs.Common.{arith, rules, inl, ◌≢◌}
use Rattle.std.proofs.lemmas.Result.{err_from_is_err_and}
use Rattle.code_walk.specs.declared.fault.WalkCause.TheVariants.{OutOfMemory}
use Rattle.code_walk.specs.Walk.{AreInstructions}
use Rattle.std.specs.List.{flat_map}
use Rattle.usage_counts.specs.Files.{code_in}
use Rattle.usage_counts.specs.Tallies.{key_at}
use Rattle.usage_counts.proofs.UseLaws.{code-found, code-first, places-small}
use Rattle.usage_counts.proofs.code_members.add_code.Goals as goal

pub add_members-requires : goal.add_members-requires
add_members-requires c =
    let t : AreInstructions c.args.code.0 (code_in c.args.bytes.now c.args.code) c.deref.result.now = search rules in
    places-small c.args.bytes.now c.args.code c.deref.result.now c.requires.in_order (omega arith) t

pub returns-clause-found : goal.returns-clause-found
returns-clause-found c =
    let t : AreInstructions c.args.code.0 (code_in c.args.bytes.now c.args.code) c.deref.result.now = search rules in
    code-found c.add_members.result c.args.pool.now.entries c.args.bytes.now c.args.code c.deref.result.now (flat_map (key_at c.args.pool.now.entries) c.args.members.now.items) (flat_map (key_at c.args.pool.now.entries) c.add_members.new.members.items) t c.add_members.ensures.named c.add_members.ensures.used

pub returns-clause-first : goal.returns-clause-first
returns-clause-first c =
    let t : AreInstructions c.args.code.0 (code_in c.args.bytes.now c.args.code) c.deref.result.now = search rules in
    code-first c.add_members.result c.args.pool.now.entries c.args.bytes.now c.args.code c.deref.result.now t c.add_members.ensures.first

pub returns-in_err-list-clause-first : goal.returns-in_err-list-clause-first
returns-in_err-list-clause-first c =
    let p = err_from_is_err_and c.from_residual.result c.from_residual.ensures.1 in
    let fault = c.in_err-list.field-0.0 in
    rw (p.1, p.2) (λ (h : fault.cause ≢ OutOfMemory). inl (c.in_err-list.ensures.first h))
