use Rattle.std.proofs.Common.{◌≡◌, chars, length}
use denote.Shadow.{shadow}
use denote.Text.{Utf8}
use Rattle.java_shapes.specs.Readable.{is_free}
use Rattle.java_resolve.specs.Readable.{are_parts, is_free_path}
use Rattle.java_resolve.proofs.readable.is_free_path.Given as goal

abbrev pub invariant-loop-c : goal.invariant-loop-c
invariant-loop-c l = record {
  owed : are_parts (is_free (chars l.binder)) l.part (chars l.rest) ≡ is_free_path (chars l.binder) (chars l.fn.text);
  text : shadow (Utf8 l.rest);
}

abbrev pub decreases-loop-c : goal.decreases-loop-c
decreases-loop-c l = length l.rest
