use Rattle.std.proofs.Common.{sym, subst, Option, IfSome}
use Rattle.java_tokens.specs.declared.token.Token.{Token}
use Rattle.java_tokens.specs.Tokens.{IsWithin}
use Rattle.java_tokens.proofs.Total.{all_within}
use Rattle.java_bodies.specs.Places.{touches, touched}
use Rattle.java_bodies.proofs.Loops.{within_found}
use Rattle.java_bodies.proofs.site.hole_at.Goals as goal

pub is_free-requires : goal.is_free-requires
unfolding touched
is_free-requires c =
    subst (λ (o : Option Token). IfSome o (λ t. IsWithin c.args.text.now t)) (sym c.touched-touched.ensures)
    (within_found c.args.text.now (touches c.args.place) c.args.tokens.now (all_within c.args.text.now c.args.tokens.now c.utf8.text c.requires.own_tokens))
