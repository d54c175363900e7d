use Rattle.std.proofs.Common.{rules, tests, ◌∙◌, ap, ◌≡◌, ◌++◌, map, ◌-◌, ◌+◌, drop, take, ◌<◌, ◌≤◌, ◌^◌, List, ℕ, subst, sym, length, true, is_ok, if◌then◌else◌}
use Rattle.std.proofs.lemmas.List.Elements.{All-same}
use Rattle.std.proofs.Math.Seq.{take-append_seam}
use Rattle.documents.specs.Places.{ends_in}
use Rattle.documents.proofs.Moves.{cut-counted, later-above, later-below, rising-edited, starts-edited}
use Rattle.documents.proofs.starts.move_starts.Goals as goal

pub count_upto-low-requires : goal.count_upto-low-requires
count_upto-low-requires c = rising-edited c.args.starts.now.items c.as_slice.result.now c.args.text.now c.args.edge c.args.to c.args.end c.requires.edited c.as_slice.ensures.value c.requires.some

pub count_upto-high-requires : goal.count_upto-high-requires
count_upto-high-requires c = rising-edited c.args.starts.now.items c.as_slice-2.result.now c.args.text.now c.args.edge c.args.to c.args.end c.requires.edited c.as_slice-2.ensures.value c.requires.some

pub shift-requires-clause-low : goal.shift-requires-clause-low
shift-requires-clause-low c =
    let cut = cut-counted c.args.starts.now.items c.as_slice.result.now c.as_slice-2.result.now c.args.text.now c.args.edge c.args.to c.args.end c.count_upto-low.result c.count_upto-high.result c.requires.edited c.as_slice.ensures.value c.as_slice-2.ensures.value c.requires.some
    c.count_upto-low.ensures.within c.count_upto-low.ensures.before c.count_upto-low.ensures.after c.count_upto-high.ensures.before c.count_upto-high.ensures.after in
    All-same (λ a. c.args.to ≤ a) c.as_mut_slice.result.now (drop c.count_upto-high.result c.args.starts.now.items) (c.as_mut_slice.ensures.value ∙ c.in-Ok.ensures.tail)
    (later-above c.args.starts.now.items c.args.text.now c.args.edge c.args.to c.args.end c.count_upto-low.result c.count_upto-high.result c.requires.edited cut)

pub shift-requires-clause-high : goal.shift-requires-clause-high
shift-requires-clause-high c =
    let cut = cut-counted c.args.starts.now.items c.as_slice.result.now c.as_slice-2.result.now c.args.text.now c.args.edge c.args.to c.args.end c.count_upto-low.result c.count_upto-high.result c.requires.edited c.as_slice.ensures.value c.as_slice-2.ensures.value c.requires.some
    c.count_upto-low.ensures.within c.count_upto-low.ensures.before c.count_upto-low.ensures.after c.count_upto-high.ensures.before c.count_upto-high.ensures.after in
    All-same (λ a. a - c.args.to + c.args.end < 2 ^ 32) c.as_mut_slice.result.now (drop c.count_upto-high.result c.args.starts.now.items) (c.as_mut_slice.ensures.value ∙ c.in-Ok.ensures.tail)
    (later-below c.args.starts.now.items c.args.text.now c.args.edge c.args.to c.args.end c.count_upto-low.result c.count_upto-high.result c.requires.edited cut c.requires.size)

pub returns : goal.returns
returns c = λ done.
    let cut = cut-counted c.args.starts.now.items c.as_slice.result.now c.as_slice-2.result.now c.args.text.now c.args.edge c.args.to c.args.end c.count_upto-low.result c.count_upto-high.result c.requires.edited c.as_slice.ensures.value c.as_slice-2.ensures.value c.requires.some
    c.count_upto-low.ensures.within c.count_upto-low.ensures.before c.count_upto-low.ensures.after c.count_upto-high.ensures.before c.count_upto-high.ensures.after in
    let first : c.truncate.new.self.items ≡ take c.count_upto-low.result (take c.count_upto-high.result c.args.starts.now.items) = search rules in
    let P : List ℕ → Type 0 = λ x. c.find_ends.new.ends.items ≡ c.truncate.new.self.items ++ ends_in c.args.edge (take (c.args.end - c.args.edge) (drop c.args.edge x)) (drop c.args.end x) in
    let found : P c.args.text.now = subst P c.as_bytes.ensures.value (c.if-not-find_ends.ensures (search (rules, tests))) in
    let moved : c.shift.new.starts ≡ map (λ a. a - c.args.to + c.args.end) (drop c.count_upto-high.result c.args.starts.now.items) =
    c.shift.ensures ∙ ap (map (λ a. a - c.args.to + c.args.end)) (c.as_mut_slice.ensures.value ∙ c.in-Ok.ensures.tail) in
    let past : List ℕ = drop (length c.shift.new.starts) c.in-Ok.later.items in
    let ok : is_ok c.append.result ≡ true = search (rules, tests) in
    let long : c.in-Ok.later.len ≡ length c.shift.new.starts = sym (c.shift.auto.starts ∙ c.as_mut_slice.ensures.len) in
    let new : c.append.new.self.items ≡ c.find_ends.new.ends.items ++ c.shift.new.starts =
    c.append.ensures.items ∙ ap (λ b. if b then c.find_ends.new.ends.items ++ take c.in-Ok.later.len (c.shift.new.starts ++ past) else c.find_ends.new.ends.items) ok
    ∙ ap (λ n. c.find_ends.new.ends.items ++ take n (c.shift.new.starts ++ past)) long ∙ ap (λ x. c.find_ends.new.ends.items ++ x) (take-append_seam c.shift.new.starts past) in
    starts-edited c.args.starts.now.items c.args.text.now c.truncate.new.self.items c.find_ends.new.ends.items c.shift.new.starts c.append.new.self.items c.args.edge c.args.to c.args.end c.count_upto-low.result c.count_upto-high.result c.requires.edited cut first found moved new
