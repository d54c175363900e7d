use Rattle.std.proofs.Common.{◌≡◌, ◌<◌, ◌≤◌, [], ◌∷◌, length, get_or, sym, ap, subst, ◌∙◌, arith}
use Rattle.std.specs.List.{slice_range}
use Rattle.std.proofs.lemmas.List.{get_or_past}
use Rattle.succinct.specs.Rows.{rows_from}
use Rattle.succinct.proofs.Cuts.{length-rows, row-at, cut-low, cut-high}
use Rattle.succinct.proofs.rows.Rows.row.Goals as goal

pub returns-then-place-ends : goal.returns-then-place-ends
returns-then-place-ends c =
    let long = length-rows 0 c.self.inside.ends.items c.self.inside.flat.items in
    let past = c.if-place-ends.true in
    let ends = ap length c.as_slice-ends.ensures.value in
    record { value = sym (ap (λ rs. get_or rs c.args.place []) (sym c.self.view_is) ∙ get_or_past (rows_from 0 c.self.inside.ends.items c.self.inside.flat.items) c.args.place [] (omega (arith, long, past, ends))) }

pub part-requires : goal.part-requires
part-requires c =
    let within = c.if-place-ends.false in
    let ends = ap length c.as_slice-ends.ensures.value in
    let low : c.args.place < length c.self.inside.ends.items = omega (arith, within, ends) in
    record {
      order = subst (λ n. n ≤ get_or c.as_slice-ends.result.now c.args.place 0) (sym c.start_of.ensures.value) (subst (λ ends. get_or (0 ∷ ends) c.args.place 0 ≤ get_or ends c.args.place 0) (sym c.as_slice-ends.ensures.value) (cut-low 0 c.self.inside.ends.items c.self.inside.flat.items c.args.place c.self.invariant low));
      in_range = subst (λ ends. get_or ends c.args.place 0 ≤ length c.as_slice.result.now) (sym c.as_slice-ends.ensures.value) (subst (λ flat. get_or c.self.inside.ends.items c.args.place 0 ≤ length flat) (sym c.as_slice.ensures.value) (cut-high 0 c.self.inside.ends.items c.self.inside.flat.items c.args.place c.self.invariant low));
    }

pub returns : goal.returns
returns c = record {
  value = c.part.ensures.value
      ∙ ap (λ n. slice_range c.as_slice.result.now n (get_or c.as_slice-ends.result.now c.args.place 0)) c.start_of.ensures.value
      ∙ ap (λ ends. slice_range c.as_slice.result.now (get_or (0 ∷ ends) c.args.place 0) (get_or ends c.args.place 0)) c.as_slice-ends.ensures.value
      ∙ ap (λ flat. slice_range flat (get_or (0 ∷ c.self.inside.ends.items) c.args.place 0) (get_or c.self.inside.ends.items c.args.place 0)) c.as_slice.ensures.value
      ∙ sym (row-at 0 c.self.inside.ends.items c.self.inside.flat.items c.args.place (let within = c.if-place-ends.false in let ends = ap length c.as_slice-ends.ensures.value in omega (arith, within, ends)))
      ∙ ap (λ rs. get_or rs c.args.place []) c.self.view_is;
}
