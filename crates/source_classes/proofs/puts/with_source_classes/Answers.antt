use Rattle.std.proofs.Common.{rules, ◌≡◌, sym, subst, List, ℕ, [], length}
use Rattle.source_classes.specs.KnownNames.{ArePuts}
use Rattle.source_classes.proofs.PutsLeft.{no_text, puts_alone, puts_more, one_state_left}
use Rattle.source_classes.proofs.puts.with_source_classes.Goals as goal

pub returns-then-is_empty-clause-exact : goal.returns-then-is_empty-clause-exact
returns-then-is_empty-clause-exact g c =
    let none : length c.args.texts.now ≡ 0 = search rules in
    subst (λ (ts : List (List ℕ)). ArePuts c.args.puts c.args.known.now ts c.args.puts) (sym (no_text c.args.texts.now none)) (puts_alone c.args.puts c.args.known.now)

pub returns-then-is_empty-clause-order : goal.returns-then-is_empty-clause-order
returns-then-is_empty-clause-order g c = λ own.
    let none : length c.args.texts.now ≡ 0 = search rules in
    one_state_left c.args.puts c.args.known.now c.args.texts.now c.args.puts own
    (subst (λ (ts : List (List ℕ)). ArePuts c.args.puts c.args.known.now ts c.args.puts) (sym (no_text c.args.texts.now none)) (puts_alone c.args.puts c.args.known.now))

pub returns-clause-exact : goal.returns-clause-exact
returns-clause-exact g c = puts_more c.args.puts c.as_slice.result.now c.in_ok-classes.classes c.append.new.self c.args.known.now c.args.texts.now c.as_slice.ensures c.in_ok-classes.ensures c.in_ok-append.ensures

pub returns-clause-order : goal.returns-clause-order
returns-clause-order g c = λ own.
    one_state_left c.args.puts c.args.known.now c.args.texts.now c.append.new.self own
    (puts_more c.args.puts c.as_slice.result.now c.in_ok-classes.classes c.append.new.self c.args.known.now c.args.texts.now c.as_slice.ensures c.in_ok-classes.ensures c.in_ok-append.ensures)
