use Rattle.std.proofs.Common.{rules, ◌≡◌, ◌∙◌, ap, subst, Some}
use Rattle.java_units.specs.Units.{IsUnit}
use Rattle.java_bodies.specs.Sites.{hole_of}
use Rattle.samples.proofs.Holes.{site_of_text}
use Rattle.samples.proofs.hole.environment_at.Goals as goal

pub environment-requires-clause-site : goal.environment-requires-clause-site
environment-requires-clause-site c =
    let text = c.args.text.now in
    let tokens = c.in_ok-tokens.tokens in
    let unit = c.in_ok-unit.unit in
    let read : c.as_slice.result.now ≡ tokens = search rules in
    let again : c.as_slice-2.result.now ≡ tokens = search rules in
    let some : c.in_ok-site.field-0 ≡ Some c.in-Some.site = search rules in
    site_of_text text tokens c.args.place unit c.in_ok-site.field-0 c.in-Some.site c.requires.short c.in_ok-tokens.ensures.by_the_rules c.in_ok-tokens.ensures.tiling
    (subst (λ ts. IsUnit text ts unit) read c.in_ok-unit.ensures.exact) (c.in_ok-site.ensures.exact ∙ ap (λ ts. hole_of text ts unit c.args.place) again) some
