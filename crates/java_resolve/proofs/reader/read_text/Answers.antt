use Rattle.std.proofs.Common.{◌∙◌, ap, sym, None, ◌-◌, length}
use Rattle.std.specs.Str.{chars}
use Rattle.java_shapes.specs.Reader.{start}
use Rattle.java_resolve.specs.View.{around, spot_part, spot_option}
use Rattle.java_resolve.proofs.Frames.{around_nil}
use Rattle.java_resolve.proofs.Reading.{start_at, read_part, more_read, stuck_read, syntax_by, rest_place, char_shorter, text_behind}
use Rattle.java_resolve.proofs.reader.read_text.Goals as goal

pub loop-c-init : goal.loop-c-init
loop-c-init c = record {
  read = start_at (chars c.args.binder.now) c.args.text.now (spot_part (around c.args.frames.now) c.here-spot.result)
      (c.here-spot.ensures (around c.args.frames.now)
      ∙ c.start.ensures (around c.args.frames.now) None
      ∙ ap (λ a. start a None) (ap around c.requires.none ∙ around_nil));
  text = c.utf8.text;
}

pub step-requires : goal.step-requires
step-requires c = read_part (chars c.args.binder.now) c.args.text.now c.loop-c.rest.now (spot_part (around c.loop-c.frames) c.loop-c.spot) c.loop-c.invariant.read

pub returns-in-None-clause-syntax : goal.returns-in-None-clause-syntax
returns-in-None-clause-syntax c =
    syntax_by (chars c.args.binder.now) (chars c.args.text.now) c.syntax_at.result (length c.args.text.now - length c.loop-c.rest.now) c.syntax_at.ensures
    (stuck_read (chars c.args.binder.now) c.args.text.now c.loop-c.rest.now c.in-Some.more.now (spot_part (around c.loop-c.frames) c.loop-c.spot) c.in-Some.c (length c.args.text.now - length c.loop-c.rest.now)
    c.requires.binder
    c.in-Some.ensures.0
    (sym c.in_ok-next.ensures ∙ ap (spot_option (around c.step.new.frames)) c.in-None.is)
    (rest_place (chars c.args.binder.now) c.args.text.now c.loop-c.rest.now (spot_part (around c.loop-c.frames) c.loop-c.spot) c.loop-c.invariant.read)
    c.loop-c.invariant.read)

pub loop-c-smaller : goal.loop-c-smaller
loop-c-smaller c = char_shorter c.loop-c.rest.now c.in-Some.more.now c.in-Some.c c.in-Some.ensures.1

pub loop-c-preserved : goal.loop-c-preserved
loop-c-preserved c = record {
  read = more_read (chars c.args.binder.now) c.args.text.now c.loop-c.rest.now c.in-Some.more.now (spot_part (around c.loop-c.frames) c.loop-c.spot) (spot_part (around c.step.new.frames) c.in-Some-2.next) c.in-Some.c
      c.in-Some.ensures.0
      c.in-Some.ensures.1
      (sym c.in_ok-next.ensures ∙ ap (spot_option (around c.step.new.frames)) c.in-Some-2.is)
      c.loop-c.invariant.read;
  text = text_behind c.loop-c.rest.now c.in-Some.more.now c.in-Some.c c.loop-c.invariant.text c.in-Some.ensures.1;
}
