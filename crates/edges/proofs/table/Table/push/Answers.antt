use Rattle.std.proofs.Common.{◌≡◌, ◌<◌, [], ◌∷◌, ◌++◌, if◌then◌else◌, ap, ◌∙◌, arith, vec_len, vec_capacity}
use Rattle.edges.specs.Made.{edge_of, edges_of}
use Rattle.edges.proofs.Tables.{edges_of-more}
use Rattle.edges.proofs.table.Table.push.Goals as goal

pub returns : goal.returns
returns c =
    let room = c.in_ok-reserve.ensures.ok in
    let roomy : vec_len c.reserve.new.self < vec_capacity c.reserve.new.self = omega (arith, room) in
    let heads : c.push-2.new.self.items ≡ c.self.inside.heads.items ++ c.args.head ∷ [] = c.push-2.ensures.items ∙ ap (λ b. if b then c.reserve.new.self.items ++ c.args.head ∷ [] else c.reserve.new.self.items) (c.push-2.ensures.succeeds roomy) ∙ ap (λ l. l ++ c.args.head ∷ []) c.in_ok-reserve.ensures.items in
    record {
      added = ap (λ l. edges_of l c.push.new.self) heads ∙ ap (λ l. edges_of (c.self.inside.heads.items ++ c.args.head ∷ []) l) c.in_ok-push.ensures.added
          ∙ edges_of-more c.self.inside.heads.items c.self.inside.tails c.args.head c.args.tails.now c.self.invariant ∙ ap (λ l. l ++ edge_of c.args.head c.args.tails.now ∷ []) c.self.view_is;
    }
