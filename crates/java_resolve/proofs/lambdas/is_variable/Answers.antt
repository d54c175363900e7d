use Rattle.std.proofs.Common.{◌∙◌, ap₂, refl, bytes_eq}
use Rattle.std.specs.Str.{chars}
use Rattle.java_resolve.proofs.Casting.{chars_test}
use Rattle.java_resolve.proofs.lambdas.is_variable.Goals as goal

pub returns : goal.returns
returns c = record {
  value =
      let t = c.as_str-wanted.result.now in
      let b = c.as_str-found.result.now in
      c.same.ensures ∙ chars_test t b c.as_str-wanted.utf8 c.as_str-found.utf8 (bytes_eq t b) (bytes_eq (chars t) (chars b)) refl refl
      ∙ ap₂ (λ x y. bytes_eq (chars x) y) (c.as_str-wanted.ensures.value ∙ c.in_ok-text.ensures.value) c.as_str-found.ensures;
}
