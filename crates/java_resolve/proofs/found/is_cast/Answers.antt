use Rattle.java_resolve.proofs.Casting.{cast_test}
use Rattle.java_resolve.proofs.found.is_cast.Goals as goal

pub returns-else-not-is_printed : goal.returns-else-not-is_printed
returns-else-not-is_printed c = record { value = cast_test c.args.parts.now c.args.crowded c.args.kind c.args.wanted c.args.cast.now c.in-Some.word c.type_text.result.now c.as_str.result.now c.is_printed-is_printed.result c.same.result c.in-Some.is c.if-not-is_printed.false c.is_printed-is_printed.ensures c.type_text.ensures c.type_text.utf8 c.as_str.utf8 c.as_str.ensures c.same.ensures }
