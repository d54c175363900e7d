use Rattle.std.proofs.Common.{ℕ, leb, get_or, refl, rules}
use Rattle.std.proofs.lemmas.Bool.{leb-false}
use Rattle.std.proofs.lemmas.List.Sorted.{IsPartitionPoint-from_clause, IsPartitionedBy-leb}
use Rattle.reconstruction.proofs.usable.within.Goals as goal

pub returns : goal.returns
returns c =
    let floor : ℕ → ℕ = λ m. get_or c.args.floors.now m 0 in
    let parted = IsPartitionedBy-leb floor c.args.row.now c.args.room c.requires.rising in
    let point = IsPartitionPoint-from_clause (λ m. leb (floor m) c.args.room) _ _ c.partition_point-many.ensures.partitioned parted (λ a r q k. search rules) in
    record {
      within = record {
        many = c.partition_point-many.result;
        is = refl;
        rest = λ k low high. leb-false _ _ (point.1 k 0 low high);
      };
    }
