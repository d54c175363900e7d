use Rattle.std.proofs.Common.{rules, ◌≡◌, ◌<◌, ◌≤◌, ◌++◌, ◌∷◌, [], map, length, get_or, drop, Less, Equal, Greater, subst, sym, ap, ◌∙◌, arith}
use Rattle.std.specs.Arc.{arc_value}
use Rattle.std.proofs.lemmas.List.{length-map, drop-map, take_rest, get_or_default}
use Rattle.decl_index.specs.Merging.{prefix_order}
use Rattle.decl_index.proofs.Places.{mapped}
use Rattle.decl_index.proofs.Merges.{goes-first, goes-older, goes-newer, goes-both, goes-end, inside, no-less, no-equal, pushed, read-again}
use Rattle.decl_index.proofs.merge.merged.Goals as goal

pub loop-new-init : goal.loop-new-init
loop-new-init c = record {
  old = search rules;
  new = search rules;
  goes = goes-first (map arc_value c.args.older.now) (map arc_value c.args.newer.now) (map arc_value c.new-all.result.items) (search rules);
}

pub loop-new-preserved-in-Less : goal.loop-new-preserved-in-Less
loop-new-preserved-in-Less c =
    let older = c.args.older.now in
    let newer = c.args.newer.now in
    let n = arc_value c.index-newer-new.result in
    let new_within : c.loop-new.new < length newer = search rules in
    let new_there : c.loop-new.new < length (map arc_value newer) = search (rules, length-map) in
    let n_at = mapped arc_value newer c.loop-new.new c.index-newer-new.result new_within c.index-newer-new.is in
    let name : c.as_str.result.now ≡ n.name = search rules in
    let prefix : prefix_order n.name (drop c.loop-new.old (map arc_value older)) ≡ Less = subst (λ k. prefix_order k (drop c.loop-new.old (map arc_value older)) ≡ Less) name (sym c.order_at.ensures ∙ c.in-Less.is) in
    let o = arc_value c.index-older-old.result in
    let there : c.loop-new.old < length (map arc_value older) = inside n.name (map arc_value older) c.loop-new.old Less no-less prefix in
    let within : c.loop-new.old < length older = subst (λ k. c.loop-new.old < k) (length-map older arc_value) there in
    let o_at = mapped arc_value older c.loop-new.old c.index-older-old.result within c.index-older-old.is in
    let clone : arc_value c.in_ok-try_clone-in-Less.field-0 ≡ o = search rules in
    let grown : c.push.new.self.items ≡ c.loop-new.all.items ++ c.in_ok-try_clone-in-Less.field-0 ∷ [] = search rules in
    record {
      old = omega (arith, within);
      new = c.loop-new.invariant.new;
      goes = goes-older (map arc_value older) (map arc_value newer) (map arc_value c.loop-new.all.items) (map arc_value c.push.new.self.items) c.loop-new.old c.loop-new.new o n there o_at new_there n_at prefix (pushed arc_value c.loop-new.all.items c.push.new.self.items c.in_ok-try_clone-in-Less.field-0 o grown clone) c.loop-new.invariant.goes;
    }

pub loop-new-preserved-in-Equal : goal.loop-new-preserved-in-Equal
loop-new-preserved-in-Equal c =
    let older = c.args.older.now in
    let newer = c.args.newer.now in
    let n = arc_value c.index-newer-new.result in
    let new_within : c.loop-new.new < length newer = search rules in
    let new_there : c.loop-new.new < length (map arc_value newer) = search (rules, length-map) in
    let n_at = mapped arc_value newer c.loop-new.new c.index-newer-new.result new_within c.index-newer-new.is in
    let name : c.as_str.result.now ≡ n.name = search rules in
    let prefix : prefix_order n.name (drop c.loop-new.old (map arc_value older)) ≡ Equal = subst (λ k. prefix_order k (drop c.loop-new.old (map arc_value older)) ≡ Equal) name (sym c.order_at.ensures ∙ c.in-Equal.is) in
    let there : c.loop-new.old < length (map arc_value older) = inside n.name (map arc_value older) c.loop-new.old Equal no-equal prefix in
    let within : c.loop-new.old < length older = subst (λ k. c.loop-new.old < k) (length-map older arc_value) there in
    let o = get_or (map arc_value older) c.loop-new.old n in
    let clone : arc_value c.in_ok-try_clone-in-Equal.field-0 ≡ arc_value c.index-newer-new-in-Equal.result = search rules in
    let again : arc_value c.index-newer-new-in-Equal.result ≡ n = read-again arc_value newer c.loop-new.new c.index-newer-new-in-Equal.result c.index-newer-new.result new_within c.index-newer-new-in-Equal.is c.index-newer-new.is in
    let grown : c.push-in-Equal.new.self.items ≡ c.loop-new.all.items ++ c.in_ok-try_clone-in-Equal.field-0 ∷ [] = search rules in
    record {
      old = omega (arith, within);
      new = omega (arith, new_within);
      goes = goes-both (map arc_value older) (map arc_value newer) (map arc_value c.loop-new.all.items) (map arc_value c.push-in-Equal.new.self.items) c.loop-new.old c.loop-new.new o n there (get_or_default (map arc_value older) c.loop-new.old n o there) new_there n_at prefix (pushed arc_value c.loop-new.all.items c.push-in-Equal.new.self.items c.in_ok-try_clone-in-Equal.field-0 n grown (clone ∙ again)) c.loop-new.invariant.goes;
    }

pub loop-new-preserved : goal.loop-new-preserved
loop-new-preserved c =
    let older = c.args.older.now in
    let newer = c.args.newer.now in
    let n = arc_value c.index-newer-new.result in
    let new_within : c.loop-new.new < length newer = search rules in
    let new_there : c.loop-new.new < length (map arc_value newer) = search (rules, length-map) in
    let n_at = mapped arc_value newer c.loop-new.new c.index-newer-new.result new_within c.index-newer-new.is in
    let name : c.as_str.result.now ≡ n.name = search rules in
    let prefix : prefix_order n.name (drop c.loop-new.old (map arc_value older)) ≡ Greater = subst (λ k. prefix_order k (drop c.loop-new.old (map arc_value older)) ≡ Greater) name (sym c.order_at.ensures ∙ c.in-Greater.is) in
    let clone : arc_value c.in_ok-try_clone-in-Greater.field-0 ≡ arc_value c.index-newer-new-in-Greater.result = search rules in
    let again : arc_value c.index-newer-new-in-Greater.result ≡ n = read-again arc_value newer c.loop-new.new c.index-newer-new-in-Greater.result c.index-newer-new.result new_within c.index-newer-new-in-Greater.is c.index-newer-new.is in
    let grown : c.push-in-Greater.new.self.items ≡ c.loop-new.all.items ++ c.in_ok-try_clone-in-Greater.field-0 ∷ [] = search rules in
    record {
      old = c.loop-new.invariant.old;
      new = omega (arith, new_within);
      goes = goes-newer (map arc_value older) (map arc_value newer) (map arc_value c.loop-new.all.items) (map arc_value c.push-in-Greater.new.self.items) c.loop-new.old c.loop-new.new n new_there n_at prefix (pushed arc_value c.loop-new.all.items c.push-in-Greater.new.self.items c.in_ok-try_clone-in-Greater.field-0 n grown (clone ∙ again)) c.loop-new.invariant.goes;
    }

pub returns : goal.returns
returns c =
    let past : length c.args.newer.now ≤ c.loop-new.new = search rules in
    let done : length (map arc_value c.args.newer.now) ≤ c.loop-new.new = subst (λ k. k ≤ c.loop-new.new) (sym (length-map c.args.newer.now arc_value)) past in
    let whole : map arc_value c.add_all.new.all.items ≡ map arc_value c.loop-new.all.items ++ map arc_value (drop c.loop-new.old c.args.older.now) = c.in_ok-add_all.ensures ∙ ap (λ r. map arc_value c.loop-new.all.items ++ map arc_value r) (take_rest c.args.older.now c.loop-new.old) in
    goes-end (map arc_value c.args.older.now) (map arc_value c.args.newer.now) (map arc_value c.loop-new.all.items) (map arc_value c.add_all.new.all.items) c.loop-new.old c.loop-new.new c.requires.older c.requires.newer done
    (whole ∙ ap (λ r. map arc_value c.loop-new.all.items ++ r) (sym (drop-map arc_value c.loop-new.old c.args.older.now))) c.loop-new.invariant.goes
