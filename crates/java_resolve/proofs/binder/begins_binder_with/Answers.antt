use Rattle.std.proofs.Common.{refl}
use Rattle.std.specs.Str.{chars}
use Rattle.java_resolve.proofs.BinderWords.{next_some, next_none, next_past}
use Rattle.java_resolve.proofs.binder.begins_binder_with.Goals as goal

pub returns-in-Some-first : goal.returns-in-Some-first
returns-in-Some-first c = next_some (chars c.args.binder.now) (chars c.args.word.now) (chars c.in-Some.rest.now) (chars c.in-Some-first.field-0-1.now) c.in-Some-first.next c.args.c _ c.in-Some.ensures c.in-Some-first.ensures.0 refl

pub returns-in-None-first : goal.returns-in-None-first
returns-in-None-first c = next_none (chars c.args.binder.now) (chars c.args.word.now) c.in-Some.rest.now c.args.c c.is_digit.result c.in-Some.ensures c.in-None-first.ensures c.is_digit.ensures

pub returns-in-None : goal.returns-in-None
returns-in-None c = next_past (chars c.args.binder.now) (chars c.args.word.now) c.args.c c.is_digit-in-None.result c.requires c.in-None.ensures c.is_digit-in-None.ensures
