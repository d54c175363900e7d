use Rattle.std.proofs.Common.{rules, ◌≡◌, ◌/◌, [], map, length, take, drop, sym, subst}
use Rattle.std.specs.Arc.{arc_value}
use Rattle.std.proofs.lemmas.List.{take-append-drop, take_rest}
use Rattle.decl_index.specs.History.{Rises, put}
use Rattle.decl_index.specs.Places.{Leaves}
use Rattle.decl_index.specs.Merging.{IsMerge}
use Rattle.decl_index.proofs.Results.{ok_then}
use Rattle.decl_index.proofs.Merges.{rises-nothing, sorted-join}
use Rattle.decl_index.proofs.merge.+sorted.Goals as goal

pub put_each-requires : goal.put_each-requires
put_each-requires t c = subst (λ xs. Rises (map arc_value xs)) (sym c.new-all.ensures.items) rises-nothing

pub returns : goal.returns
returns t c =
    let middle = length c.args.puts.now / 2 in
    let first : Leaves (map put (take middle c.args.puts.now)) [] (map arc_value c.deref.result.now) = search rules in
    let handed : c.in_ok-second.second.items ≡ c.deref-2.result.now = search rules in
    let second : Leaves (map put (drop middle c.args.puts.now)) [] (map arc_value c.deref-2.result.now) = subst (λ ys. Leaves (map put (drop middle c.args.puts.now)) [] (map arc_value ys)) handed (subst (λ ps. Leaves (map put ps) [] (map arc_value c.in_ok-second.second.items)) (take_rest c.args.puts.now middle) c.in_ok-second.ensures) in
    ok_then (λ all. IsMerge (map arc_value c.deref.result.now) (map arc_value c.deref-2.result.now) (map arc_value all.items)) (λ all. Leaves (map put c.args.puts.now) [] (map arc_value all.items)) c.merged.result c.merged.ensures
    (λ all m. sorted-join (take middle c.args.puts.now) (drop middle c.args.puts.now) c.args.puts.now (map arc_value c.deref.result.now) (map arc_value c.deref-2.result.now) (map arc_value all.items) (take-append-drop middle c.args.puts.now) first second m)
