-- A hole has one scene.
use Rattle.std.proofs.Common.{◌≡◌, ◌∙◌, ap, sym, subst, ℕ, List, Bool, true}
use Rattle.std.proofs.Math.Path.{fun_ext}
use Rattle.type_names.specs.declared.kinds.Erased.{Erased}
use Rattle.java_units.specs.declared.types.Unit as unit
use Rattle.known_classes.specs.Known.{KnownClasses}
use Rattle.subtyping.specs.Steps.{IsStrictSubtype}
use Rattle.decl_index.specs.History.{State}
use Rattle.java_bodies.specs.declared.site.HoleSite.{HoleSite}
use Rattle.decl_index.specs.declared.weights.Weights.{Weights}
use Rattle.offers.specs.Scenes.{Scene}
use Rattle.offers.specs.Offers.{IsOrder, IsSceneAt}
use Rattle.offers.proofs.Lists.{same-test}

below-on : (v w : Scene) → v.known ≡ w.known → IsOrder v → IsOrder w → (a b : Erased) → v.below a b ≡ true → w.below a b ≡ true
below-on v w k h i a b e = i.complete a b (subst (λ (known : KnownClasses). IsStrictSubtype known a b) k (h.sound a b e))

one-below : (v w : Scene) → v.known ≡ w.known → IsOrder v → IsOrder w → v.below ≡ w.below
one-below v w k h i = fun_ext (λ a. fun_ext (λ b. same-test (v.below a b) (w.below a b) (below-on v w k h i a b) (below-on w v (sym k) i h a b)))

abbrev seen : unit.Unit → HoleSite → KnownClasses → (Erased → Erased → Bool) → (List ℕ → ℕ) → Weights → (List ℕ → Bool) → Scene
seen u site known below usage weights word = record { unit = u; site = site; known = known; below = below; usage = usage; weights = weights; word = word }

pub one-scene : (state : State) (u : unit.Unit) (site : HoleSite) (v w : Scene) → IsSceneAt state u site v → IsSceneAt state u site w → v ≡ w
one-scene state u site v w h i =
    let k : v.known ≡ w.known = h.known ∙ sym i.known in
    ap (λ (x : unit.Unit). seen x v.site v.known v.below v.usage v.weights v.word) (h.unit ∙ sym i.unit)
    ∙ ap (λ (x : HoleSite). seen w.unit x v.known v.below v.usage v.weights v.word) (h.place ∙ sym i.place)
    ∙ ap (λ (x : KnownClasses). seen w.unit w.site x v.below v.usage v.weights v.word) k
    ∙ ap (λ (x : Erased → Erased → Bool). seen w.unit w.site w.known x v.usage v.weights v.word) (one-below v w k h.order i.order)
    ∙ ap (λ (x : List ℕ → ℕ). seen w.unit w.site w.known w.below x v.weights v.word) (h.usage ∙ sym i.usage)
    ∙ ap (λ (x : Weights). seen w.unit w.site w.known w.below w.usage x v.word) (h.weights ∙ sym i.weights)
    ∙ ap (λ (x : List ℕ → Bool). seen w.unit w.site w.known w.below w.usage w.weights x) (h.word ∙ sym i.word)
