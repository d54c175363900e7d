use Rattle.std.proofs.Common.{◌≡◌, ◌≢◌, ◌∙◌, ap, sym, subst, arith, ℕ, ◌<◌, ◌≤◌, ◌^◌, ◌++◌, length, slice_get}
use Rattle.std.specs.Fmt.{decimal}
use Rattle.std.specs.Str.{chars}
use Rattle.terms.specs.Typing.{rows, joined}
use Rattle.java_resolve.specs.Reading.{variable_in, IsVariableRow}
use Rattle.java_resolve.specs.Trees.{row_view}
use Rattle.java_resolve.proofs.Pieces.{if_some, if_none}
use Rattle.java_resolve.proofs.TextFacts.{if_map}
use Rattle.java_resolve.proofs.VariableRows.{variable_right, no_variable}
use Rattle.java_resolve.proofs.variables.variable_row.Goals as goal

pub returns-in-Some : goal.returns-in-Some
returns-in-Some c = record {
  right = λ readable.
      let g = c.args.setting.now.env.now in
      let ctx = rows c.args.setting.now.ctx in
      let t = c.args.text.now in
      let n = c.in-Some.number in
      let most : length (joined ctx) ≤ 4294967295 = omega (arith, c.variables-count.ensures.value) in
      let h = if_some (λ m. (m < 2 ^ 32) × (chars t ≡ chars c.as_str.result.now ++ decimal m)) c.in_ok-found.found n c.in-Some.is c.in_ok-found.ensures.some in
      if_map (λ row. row_view row ≡ variable_in n (slice_get (joined ctx) n)) (λ row. IsVariableRow g ctx (chars t) (row_view row)) c.numbered.result
      (λ row e. subst (λ z. IsVariableRow g ctx (chars t) z) (sym e) (variable_right g readable ctx most (chars t) n h.0 (h.1 ∙ ap (λ z. chars z ++ decimal n) (c.as_str.ensures ∙ ap (λ p. p.binder) c.parts.ensures.value)))) c.numbered.ensures.value;
}

pub returns-in-None : goal.returns-in-None
returns-in-None c = record {
  right = λ readable.
      let g = c.args.setting.now.env.now in
      let ctx = rows c.args.setting.now.ctx in
      let t = c.args.text.now in
      let most : length (joined ctx) ≤ 4294967295 = omega (arith, c.variables-count.ensures.value) in
      let h = if_none ((m : ℕ) → m < 2 ^ 32 → chars t ≢ chars c.as_str.result.now ++ decimal m) c.in_ok-found.found c.in-None.is c.in_ok-found.ensures.none in
      subst (λ z. IsVariableRow g ctx (chars t) z) (sym c.none.ensures.value) (no_variable g readable ctx most (chars t) (subst (λ z. (m : ℕ) → m < 2 ^ 32 → chars t ≢ chars z ++ decimal m) (c.as_str.ensures ∙ ap (λ p. p.binder) c.parts.ensures.value) h));
}
