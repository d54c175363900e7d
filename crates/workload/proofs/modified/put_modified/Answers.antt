use Rattle.std.proofs.Common.{sym, ap, ◌∙◌, ◌++◌, List, ℕ, ◌≡◌}
use Rattle.std.specs.List.{flat_map}
use Rattle.std.specs.Str.{chars}
use Rattle.std.specs.Char.Escape.{encode_utf16}
use Rattle.std.proofs.lemmas.Iterator.{YieldsList-from_chars}
use Rattle.std.proofs.lemmas.Iterator.Consumers.{YieldsList-end}
use Rattle.workload.specs.Modified.{unit_bytes, modified}
use Rattle.workload.proofs.UnitLaws.{map_same}
use Rattle.workload.proofs.modified.put_modified.Goals as goal

pub returns : goal.returns
unfolding modified
returns c =
    let t = YieldsList-end (YieldsList-from_chars c.args.text.now c.utf8.text cc) c.loop-c.yielded _ c.loop-c.yielded_by _ _ c.in-None.is c.next.ensures.steps in
    let all : c.loop-c.yielded ≡ chars c.args.text.now = sym (map_same c.loop-c.yielded) ∙ t.0 in
    c.loop-c.invariant ∙ ap (λ (cs : List ℕ). c.args.out.now.items ++ flat_map unit_bytes (flat_map encode_utf16 cs)) all
