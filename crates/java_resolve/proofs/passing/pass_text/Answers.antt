use Rattle.std.proofs.Common.{rules, ◌≡◌, ◌∙◌, ◌∷◌, ℕ, List, Bool, false, [], subst, sym, chars, refl}
use Rattle.java_resolve.specs.Pieces.{cut, word}
use Rattle.java_resolve.specs.Known.{Passes}
use Rattle.java_resolve.proofs.Pieces.{over_pieces, piece_last, if_some, if_none}
use Rattle.java_resolve.proofs.TextFacts.{if_map}
use Rattle.java_resolve.proofs.Reading.{char_shorter, text_behind}
use Rattle.java_resolve.proofs.passing.pass_text.Goals as goal

pub loop-c-init : goal.loop-c-init
loop-c-init c = record {
  passes = λ d bound k to r h. subst (λ w. Passes d (cut bound w (chars c.args.text.now)) c.args.at.now to r) c.new-name.ensures h;
  text = c.utf8.text;
}

pub loop-c-smaller : goal.loop-c-smaller
loop-c-smaller c = char_shorter c.loop-c.rest.now c.in-Some.more.now c.in-Some.c c.in-Some.ensures.1

pub loop-c-preserved : goal.loop-c-preserved
loop-c-preserved c = record {
  passes = λ d bound k to r h.
      c.loop-c.invariant.passes d bound k to r
      (subst (λ x. Passes d (cut bound c.loop-c.name x) c.loop-c.at to r) (sym c.in-Some.ensures.0)
      (if_some (λ w. (rest : List ℕ) (end : ℕ) (q : Bool) → Passes d (cut bound w rest) c.pass_char.new.at end q → Passes d (cut bound c.loop-c.name (c.in-Some.c ∷ rest)) c.loop-c.at end q) _ c.in-Some-2.next c.in-Some-2.is
      (c.in_ok-next.ensures.known d bound k) (chars c.in-Some.more.now) to r h));
  text = text_behind c.loop-c.rest.now c.in-Some.more.now c.in-Some.c c.loop-c.invariant.text c.in-Some.ensures.1;
}

pub returns-in-None : goal.returns-in-None
returns-in-None c = λ d bound k.
    c.loop-c.invariant.passes d bound k c.pass_char.new.at false
    (subst (λ x. Passes d (cut bound c.loop-c.name x) c.loop-c.at c.pass_char.new.at false) (sym c.in-Some.ensures.0)
    (if_none ((rest : List ℕ) → Passes d (cut bound c.loop-c.name (c.in-Some.c ∷ rest)) c.loop-c.at c.pass_char.new.at false) _ c.in-None.is
    (c.in_ok-next.ensures.unknown d bound k) (chars c.in-Some.more.now)))

pub returns : goal.returns
returns c = λ d bound k.
    let end : c.loop-c.rest.now ≡ [] = search rules in
    if_map (Passes d (word bound c.loop-c.name ∷ []) c.loop-c.at c.pass_word.new.at) (Passes d (cut bound [] (chars c.args.text.now)) c.args.at.now c.pass_word.new.at) c.pass_word.result
    (λ r h. c.loop-c.invariant.passes d bound k c.pass_word.new.at r
    (over_pieces d (word bound c.loop-c.name ∷ []) (cut bound c.loop-c.name (chars c.loop-c.rest.now)) c.loop-c.at c.pass_word.new.at r (piece_last bound c.loop-c.name c.loop-c.rest.now end) h))
    (c.pass_word.ensures d bound k)
