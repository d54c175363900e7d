use Rattle.std.proofs.Common.{rules, ◌≡◌, ◌++◌, ◌∷◌, [], ◌∙◌, ap, sym, refl, append_assoc}
use Rattle.std.specs.Str.{chars}
use Rattle.java_resolve.proofs.Reading.{char_shorter, text_behind}
use Rattle.java_resolve.proofs.NameLinks.{text_all}
use Rattle.java_resolve.proofs.links.Name.read.Goals as goal

pub loop-c-init : goal.loop-c-init
loop-c-init c = record {
  right = λ b set ok bare named. named;
  all = refl;
  text = c.utf8.more;
}

pub loop-c-smaller : goal.loop-c-smaller
loop-c-smaller c = char_shorter c.loop-c.rest.now c.in-Some.after.now c.in-Some.c c.in-Some.ensures.1

pub loop-c-preserved : goal.loop-c-preserved
loop-c-preserved c = record {
  right = λ b set ok bare named. c.in_ok-name.ensures.right b set ok bare (c.loop-c.invariant.right b set ok bare named);
  all =
      ap (λ z. z ++ chars c.in-Some.after.now) c.in_ok-name.ensures.text ∙ append_assoc c.loop-c.name.text (c.in-Some.c ∷ []) (chars c.in-Some.after.now)
      ∙ sym (ap (λ z. c.loop-c.name.text ++ z) c.in-Some.ensures.0) ∙ c.loop-c.invariant.all;
  text = text_behind c.loop-c.rest.now c.in-Some.after.now c.in-Some.c c.loop-c.invariant.text c.in-Some.ensures.1;
}

pub returns-clause-text : goal.returns-clause-text
returns-clause-text c =
    let none : c.loop-c.rest.now ≡ [] = search rules in
    text_all c.loop-c.name.text c.loop-c.rest.now (c.args.self.text ++ chars c.args.more.now) none c.loop-c.invariant.all
