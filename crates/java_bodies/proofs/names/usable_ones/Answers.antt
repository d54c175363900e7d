use Rattle.std.proofs.Common.{rules, arith, sym, ap, ◌∙◌, ◌++◌, ◌≤◌, length, false}
use Rattle.std.specs.List.{flat_map}
use Rattle.java_bodies.specs.Scopes.{local_of, locals_of, last_ones}
use Rattle.java_bodies.proofs.LastOnes.{last_marks-length, ones_skip, ones_take, ones_end}
use Rattle.java_bodies.proofs.names.usable_ones.Goals as goal

pub loop-k-init : goal.loop-k-init
loop-k-init c = ap (λ xs. xs ++ flat_map local_of (last_ones c.args.variables.now)) c.new-all.ensures

pub is_set-requires : goal.is_set-requires
is_set-requires c = omega (arith, ap length c.requires, last_marks-length c.args.variables.now)

pub loop-k-preserved-then-not-is_set : goal.loop-k-preserved-then-not-is_set
loop-k-preserved-then-not-is_set c = ones_skip local_of c.args.variables.now c.args.marks.now c.loop-k.k false c.index-variables-k.result c.loop-k.all _ (search rules) c.index-variables-k.is c.requires (sym (c.is_set.ensures false) ∙ c.if-not-is_set.true) c.loop-k.invariant

pub loop-k-preserved : goal.loop-k-preserved
loop-k-preserved c = ones_take local_of c.args.variables.now c.args.marks.now c.loop-k.k false c.index-variables-k.result c.loop-k.all c.add_local.new.all _ (search rules) c.index-variables-k.is c.requires (sym (c.is_set.ensures false) ∙ c.if-not-is_set.false) c.in_ok-add_local.ensures c.loop-k.invariant

pub returns : goal.returns
unfolding locals_of
returns c = let l : length c.args.variables.now ≤ c.loop-k.k = search (rules, arith) in ones_end local_of c.args.variables.now c.loop-k.k c.loop-k.all _ l c.loop-k.invariant
