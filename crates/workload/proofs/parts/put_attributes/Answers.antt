use Rattle.std.proofs.Common.{List, ℕ, ◌++◌, ◌<◌, length, ap, ◌∙◌, append_assoc}
use Rattle.byteorder.specs.Endian.{big_bytes}
use Rattle.workload.specs.Layout.{inner_bytes}
use Rattle.workload.proofs.RowLaws.{attributes_some, not_empty}
use Rattle.workload.proofs.parts.put_attributes.Goals as goal

pub returns : goal.returns
returns c =
    let some : 0 < length c.args.shapes.now = not_empty c.args.shapes.now c.if-is_empty.ensures in
    record {
      written = c.in_ok-put_inner_classes.ensures.written ∙ ap (λ (t : List ℕ). t ++ inner_bytes c.args.plan.now c.args.shapes.now) c.in_ok-put_u16-2.ensures.written
          ∙ append_assoc c.args.out.now.items (big_bytes 2 1) (inner_bytes c.args.plan.now c.args.shapes.now)
          ∙ ap (λ (t : List ℕ). c.args.out.now.items ++ t) (attributes_some c.args.plan.now c.args.shapes.now some);
      short = c.in_ok-put_inner_classes.ensures.short;
    }
