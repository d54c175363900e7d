use Rattle.std.proofs.Common.{rules, ap, inr, Err}
use Rattle.counting.proofs.Endings.{told, stopped}
use Rattle.counting.proofs.command.count.Goals as goal

pub returns-in-Err-clause-ending : goal.returns-in-Err-clause-ending
returns-in-Err-clause-ending g c =
    stopped c.of_fault.result c.in-Err.fault _ _ _ _ _ _ c.of_fault.ensures c.in-Err.ensures.counted (λ e. c.in-Err.ensures.shelf.cause (ap Err e))

pub returns-in-Ok-write_lines-clause-ending : goal.returns-in-Ok-write_lines-clause-ending
returns-in-Ok-write_lines-clause-ending g c = record {
  numbers = c.in-Ok.counts;
  told = told _ _ c.in-Ok.counts c.write_lines.ensures.rise c.in-Ok.ensures.counted;
  wrote = c.in-Ok-write_lines.ensures.whole;
}

pub returns-in-Err-Failed-clause-ending : goal.returns-in-Err-Failed-clause-ending
returns-in-Err-Failed-clause-ending g c = (
  c.in-Err-Failed.ensures.cause (search rules),
  record {
    numbers = c.in-Ok.counts;
    told = told _ _ c.in-Ok.counts c.write_lines.ensures.rise c.in-Ok.ensures.counted;
    wrote = c.in-Err-Failed.ensures.prefix;
  },
)

pub returns-clause-ending : goal.returns-clause-ending
returns-clause-ending g c = inr (record {
  numbers = c.in-Ok.counts;
  told = told _ _ c.in-Ok.counts c.write_lines.ensures.rise c.in-Ok.ensures.counted;
  wrote = c.in-Err-OutOfMemory.ensures.prefix;
})
