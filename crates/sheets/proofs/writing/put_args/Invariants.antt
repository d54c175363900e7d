use Rattle.std.proofs.Common.{◌≡◌, ◌++◌, drop}
use Rattle.std.specs.List.{flat_map}
use Rattle.sheets.specs.Writing.{spaced, arg_words}
use Rattle.sheets.proofs.writing.put_args.Given as goal

abbrev pub invariant-loop-arg : goal.invariant-loop-arg
invariant-loop-arg l = l.text ++ flat_map (λ a. flat_map spaced (arg_words l.types a)) (drop l.arg-index l.args) ≡ l.fn.text ++ flat_map (λ a. flat_map spaced (arg_words l.types a)) l.args
