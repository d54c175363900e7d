use Rattle.std.proofs.Common.{rules, ◌≡◌, ◌∙◌, ◌||◌, ap, sym, chars, []}
use Rattle.indexmap.specs.IndexSet.{contains_text}
use Rattle.java_units.specs.Signs.{has}
use Rattle.java_resolve.specs.Known.{words}
use Rattle.java_resolve.proofs.Adding.{text_first, text_last, on_ok}
use Rattle.java_resolve.proofs.Reading.{char_shorter, text_behind}
use Rattle.java_resolve.proofs.declared.add_text.Goals as goal

pub loop-c-init : goal.loop-c-init
loop-c-init c = record {
  owed = text_first c.args.set.now c.new-word.result c.args.text.now c.new-word.ensures;
  text = c.utf8.text;
}

pub loop-c-smaller : goal.loop-c-smaller
loop-c-smaller c = char_shorter c.loop-c.rest.now c.in-Some.more.now c.in-Some.c c.in-Some.ensures.1

pub loop-c-preserved : goal.loop-c-preserved
loop-c-preserved c = record {
  owed = λ b u.
      c.in_ok-word.ensures b (chars c.in-Some.more.now) u
      ∙ ap (λ x. contains_text c.loop-c.set b || has (words c.loop-c.word x) (chars b)) (sym c.in-Some.ensures.0)
      ∙ c.loop-c.invariant.owed b u;
  text = text_behind c.loop-c.rest.now c.in-Some.more.now c.in-Some.c c.loop-c.invariant.text c.in-Some.ensures.1;
}

pub returns : goal.returns
returns c =
    let end : c.loop-c.rest.now ≡ [] = search rules in
    on_ok c.add_word.result (text_last c.args.set.now c.loop-c.set c.add_word.new.set c.loop-c.word c.loop-c.rest.now c.args.text.now end c.loop-c.invariant.owed) c.add_word.ensures.added
