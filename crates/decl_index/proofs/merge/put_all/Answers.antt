use Rattle.std.proofs.Common.{rules, ◌≡◌, map, subst}
use Rattle.std.specs.Arc.{arc_value}
use Rattle.decl_index.specs.Merging.{IsMerge}
use Rattle.decl_index.proofs.Merges.{puts-over}
use Rattle.decl_index.proofs.merge.put_all.Goals as goal

pub returns : goal.returns
returns c =
    let older : c.deref.result.now ≡ c.args.classes.now.items = search rules in
    let newer : c.deref-2.result.now ≡ c.in_ok-newer.newer.items = search rules in
    puts-over c.args.puts.now (map arc_value c.args.classes.now.items) (map arc_value c.in_ok-newer.newer.items) (map arc_value c.in_ok-all.all.items) c.in_ok-newer.ensures
    (subst (λ ys. IsMerge (map arc_value c.args.classes.now.items) (map arc_value ys) (map arc_value c.in_ok-all.all.items)) newer (subst (λ xs. IsMerge (map arc_value xs) (map arc_value c.deref-2.result.now) (map arc_value c.in_ok-all.all.items)) older c.in_ok-all.ensures))
