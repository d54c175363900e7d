use Rattle.std.proofs.Common.{refl, rules}
use Rattle.std.specs.Option.{option_copied}
use Rattle.std.proofs.lemmas.Option.{slice_get_read}
use Rattle.class_summary.specs.Variables.{variable_in}
use Rattle.class_summary.proofs.Bounds.{scope_past, scope_hit, scope_end}
use Rattle.class_summary.proofs.variables.variable_in.Goals as goal

pub loop-i-preserved : goal.loop-i-preserved
loop-i-preserved c = scope_past c.args.name.now (variable_in c.args.name.now c.args.scopes.now) c.args.scopes.now c.loop-i.i c.index-scopes-i.result (search rules) c.index-scopes-i.is c.in_default.ensures.none c.loop-i.invariant

pub returns-in-loop-i : goal.returns-in-loop-i
returns-in-loop-i c =
    let var = c.in-Some.var in
    let f = scope_hit c.args.name.now (variable_in c.args.name.now c.args.scopes.now) c.args.scopes.now c.loop-i.i c.index-scopes-i.result (option_copied var.bound) (search rules) c.index-scopes-i.is c.in-Some.ensures.some.0 c.loop-i.invariant in
    record {
      none = tt;
      found = cc (f, c.class.ensures);
      stands = record {
        scope = c.index-scopes-i.result;
        there = slice_get_read c.args.scopes.now _ c.loop-i.i c.index-scopes-i.result refl (search rules) c.index-scopes-i.is;
        class_is = c.class.ensures;
        bound_is = c.in-Some.ensures.some.1;
      };
    }

pub returns : goal.returns
returns c = record {
  none = scope_end c.args.name.now (variable_in c.args.name.now c.args.scopes.now) c.args.scopes.now c.loop-i.i (search rules) c.loop-i.invariant;
  found = tt;
  stands = tt;
}
