use Rattle.std.proofs.Common.{rules, ◌≡◌, ◌∙◌, ap, sym, chars, []}
use Rattle.java_shapes.specs.Readable.{is_free}
use Rattle.java_resolve.specs.Readable.{are_parts, parts_option}
use Rattle.java_resolve.proofs.Reading.{char_shorter, text_behind}
use Rattle.java_resolve.proofs.Readables.{path_start, parts_stop}
use Rattle.java_resolve.proofs.readable.is_free_path.Goals as goal

pub loop-c-init : goal.loop-c-init
loop-c-init c = record {
  owed = path_start (chars c.args.binder.now) c.new-part.result (chars c.args.text.now) c.new-part.ensures;
  text = c.utf8.text;
}

pub loop-c-smaller : goal.loop-c-smaller
loop-c-smaller c = char_shorter c.loop-c.rest.now c.in-Some.more.now c.in-Some.c c.in-Some.ensures.1

pub loop-c-preserved : goal.loop-c-preserved
loop-c-preserved c = record {
  owed =
      sym (ap (λ x. parts_option (is_free (chars c.args.binder.now)) x (chars c.in-Some.more.now)) c.in-Some-2.is)
      ∙ c.in_ok-next.ensures (chars c.in-Some.more.now)
      ∙ ap (are_parts (is_free (chars c.args.binder.now)) c.loop-c.part) (sym c.in-Some.ensures.0)
      ∙ c.loop-c.invariant.owed;
  text = text_behind c.loop-c.rest.now c.in-Some.more.now c.in-Some.c c.loop-c.invariant.text c.in-Some.ensures.1;
}

pub returns-in-None : goal.returns-in-None
returns-in-None c =
    sym (ap (λ x. parts_option (is_free (chars c.args.binder.now)) x (chars c.in-Some.more.now)) c.in-None.is)
    ∙ c.in_ok-next.ensures (chars c.in-Some.more.now)
    ∙ ap (are_parts (is_free (chars c.args.binder.now)) c.loop-c.part) (sym c.in-Some.ensures.0)
    ∙ c.loop-c.invariant.owed

pub returns : goal.returns
returns c =
    let end : c.loop-c.rest.now ≡ [] = search rules in
    c.is_free.ensures ∙ ap (is_free (chars c.args.binder.now)) c.as_str.ensures ∙ parts_stop (is_free (chars c.args.binder.now)) c.loop-c.part c.loop-c.rest.now end ∙ c.loop-c.invariant.owed
