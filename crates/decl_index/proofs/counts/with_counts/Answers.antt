use Rattle.std.proofs.Common.{rules, ◌≡◌, ◌∙◌, [], ap, sym, subst, length}
use Rattle.std.specs.Arc.{arc_value}
use Rattle.std.specs.BTreeMap.{get_by_text}
use Rattle.std.specs.Option.{option_or}
use Rattle.decl_index.specs.History.{Name, counted, CountsRise}
use Rattle.decl_index.specs.Places.{count_pairs}
use Rattle.decl_index.proofs.Results.{ok_then}
use Rattle.decl_index.proofs.CountLemmas.{copied-get, with-none, no-length}
use Rattle.decl_index.proofs.counts.with_counts.Goals as goal

pub returns-then-is_empty : goal.returns-then-is_empty
returns-then-is_empty c =
    let zero : length c.args.more.now ≡ 0 = search rules in
    let none : c.args.more.now ≡ [] = no-length c.args.more.now zero in
    let handed : c.deref.result.now ≡ arc_value c.args.counts.now = search rules in
    record {
      keys = ok_then (λ all. arc_value all ≡ arc_value c.args.counts.now) (λ all. CountsRise (count_pairs (arc_value all))) c.try_clone.result c.try_clone.ensures (λ all e. subst (λ m. CountsRise (count_pairs m)) (handed ∙ sym e) c.have_order.ensures);
      counts = ok_then (λ all. arc_value all ≡ arc_value c.args.counts.now) (λ all. (key : Name) → get_by_text (arc_value all) key ≡ option_or (counted key c.args.more.now) (get_by_text (arc_value c.args.counts.now) key)) c.try_clone.result c.try_clone.ensures (λ all e. with-none (arc_value c.args.counts.now) (arc_value all) c.args.more.now none e);
    }

pub returns : goal.returns
returns c =
    let shared : arc_value c.in_ok-shared.shared ≡ c.set_all.new.counts = search rules in
    let source : c.deref-2.result.now ≡ arc_value c.args.counts.now = search rules in
    record {
      keys = subst (λ m. CountsRise (count_pairs m)) (sym shared) c.have_order-2.ensures;
      counts = λ key. ap (λ m. get_by_text m key) shared ∙ c.in_ok-set_all.ensures key ∙ ap (option_or (counted key c.args.more.now)) (copied-get c.deref-2.result.now c.in_ok-all.all c.in_ok-all.ensures.cases key ∙ ap (λ m. get_by_text m key) source);
    }
