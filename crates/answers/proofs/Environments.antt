-- A hole has one site, and in a version one environment.
use Rattle.std.proofs.Common.{◌≡◌, ◌∙◌, ℕ, List, sym, ap, subst}
use Rattle.decl_index.proofs.HistoryLaws.{one_state}
use Rattle.java_tokens.specs.declared.token.Token.{Token}
use Rattle.java_tokens.specs.Tokens.{AreTokensOf}
use Rattle.java_tokens.proofs.Total.{only_tokens}
use Rattle.java_units.specs.declared.types.Unit as unit
use Rattle.java_units.specs.Units.{IsUnit}
use Rattle.java_units.proofs.UnitLaws.{one_unit}
use Rattle.java_bodies.specs.Sites.{hole_of}
use Rattle.offers.specs.Offers.{IsSceneAt}
use Rattle.offers.proofs.OneScene.{one-scene}
use Rattle.scopes.specs.Environments.{environment_of}
use Rattle.answers.specs.Laws.{OneSite, OneEnvironment}

-- A text has one list of tokens, and one unit.
same_tokens : (text : List ℕ) (xs ys : List Token) → AreTokensOf text xs → AreTokensOf text ys → xs ≡ ys
same_tokens text xs ys a b = only_tokens text ys b xs a

same_unit : (text : List ℕ) (xs ys : List Token) (u w : unit.Unit) → xs ≡ ys → IsUnit text xs u → IsUnit text ys w → u ≡ w
same_unit text xs ys u w same a b = one_unit text ys w b u (subst (λ ts. IsUnit text ts u) same a)

pub one_site : OneSite
one_site hole a b p q =
    let tokens : p.tokens ≡ q.tokens = same_tokens hole.text p.tokens q.tokens p.lexed q.lexed in
    let units : p.unit ≡ q.unit = same_unit hole.text p.tokens q.tokens p.unit q.unit tokens p.parsed q.parsed in
    p.is ∙ ap (λ ts. hole_of hole.text ts p.unit hole.place) tokens ∙ ap (λ u. hole_of hole.text q.tokens u hole.place) units ∙ sym q.is

pub one_environment : OneEnvironment
one_environment history hole site g h a b =
    let states : a.state ≡ b.state = one_state history a.state b.state a.is_state b.is_state in
    let tokens : a.tokens ≡ b.tokens = same_tokens hole.text a.tokens b.tokens a.lexed b.lexed in
    let units : a.unit ≡ b.unit = same_unit hole.text a.tokens b.tokens a.unit b.unit tokens a.parsed b.parsed in
    let other : IsSceneAt a.state a.unit site b.gives.scene = subst (λ s. IsSceneAt s a.unit site b.gives.scene) (sym states) (subst (λ (u : unit.Unit). IsSceneAt b.state u site b.gives.scene) (sym units) b.gives.is_scene) in
    let scenes : a.gives.scene ≡ b.gives.scene = one-scene a.state a.unit site a.gives.scene b.gives.scene a.gives.is_scene other in
    a.gives.exact ∙ ap (λ v. environment_of v hole.limit hole.depth) scenes ∙ sym b.gives.exact
