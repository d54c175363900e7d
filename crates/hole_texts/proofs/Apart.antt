-- The environment of a hole tells its terms apart.
use Rattle.std.proofs.Common.{◌≡◌, sym, subst, ℕ, ◌<◌, true, length, count_by, bytes_eq, IsUtf8}
use Rattle.std.specs.List.{AllByRecursion}
use Rattle.java_units.specs.declared.types.Unit as unit
use Rattle.java_units.specs.Identifiers.{is_identifier}
use Rattle.java_bodies.specs.declared.site.HoleSite.{HoleSite}
use Rattle.java_bodies.proofs.SiteLaws.{once}
use Rattle.known_classes.specs.Known.{HasEachOnce}
use Rattle.known_classes.proofs.Merging.{merged_once}
use Rattle.class_summary.specs.SourceSummaries.{summaries_of}
use Rattle.decl_index.specs.History.{State}
use Rattle.decl_index.specs.Weighing.{AreWeights}
use Rattle.terms.specs.Faults.{IsValid}
use Rattle.terms.specs.Apart.{IsToldApart}
use Rattle.terms.specs.declared.parts.Parts.{Parts}
use Rattle.java_shapes.specs.Readable.{IsReadable, IsApart}
use Rattle.offers.specs.Scenes.{Scene}
use Rattle.offers.specs.Omissions.{after_three}
use Rattle.offers.specs.Functional.{faces}
use Rattle.scopes.specs.Kinds.{kinds_of}
use Rattle.offers.specs.Offers.{IsSceneAt}
use Rattle.scopes.specs.Holes.{IsHoleIn}
use Rattle.scopes.specs.Declarations.{decls_of}
use Rattle.scopes.specs.Environments.{environment_of}
use Rattle.scopes.proofs.HoleSites.{hole_site}
use Rattle.scopes.proofs.Right.{right}
use Rattle.hole_texts.specs.Texts.{HasTexts}
use Rattle.hole_texts.specs.Holes.{IsOfHole}
use Rattle.hole_texts.proofs.Pairs.{Each2}
use Rattle.hole_texts.proofs.Faces.{HaveNames, locals-once}
use Rattle.hole_texts.proofs.Locals.{hole-named}
use Rattle.hole_texts.proofs.Origins.{IsSite}
use Rattle.hole_texts.proofs.Told.{are-origins, told-by}
use Rattle.hole_texts.proofs.Readable.{readable-by}

site-once : (u : unit.Unit) (s : HoleSite) → IsHoleIn u s → Each2 HaveNames s.locals
site-once u s h = locals-once s.locals (λ name. count_by (λ x. bytes_eq x name) s.hidden) (λ name. once h.text h.tokens u h.place s name h.is_site)

pub is-site : (state : State) (u : unit.Unit) (s : HoleSite) (v : Scene) → HasEachOnce state.classes → (h : IsHoleIn u s) → IsUtf8 h.text → IsSceneAt state u s v → IsSite v
is-site state u s v known h utf8 scene =
    let class : s.class < length u.classes = (hole_site u s h).class in
    record {
      word = scene.word;
      named = subst (λ (x : HoleSite). AllByRecursion (λ l. is_identifier l.name ≡ true) x.locals) (sym scene.place) (hole-named h.text h.tokens u h.place s utf8 h.are_tokens h.is_unit h.is_site);
      once = subst (λ (x : HoleSite). Each2 HaveNames x.locals) (sym scene.place) (site-once u s h);
      known = subst HasEachOnce (sym scene.known) (merged_once state.classes (summaries_of u state.classes) known);
      class = subst (λ (x : HoleSite). x.class < length v.unit.classes) (sym scene.place) (subst (λ (x : unit.Unit). s.class < length x.classes) (sym scene.unit) class);
    }

abbrev Both : Parts → Type 0
Both g = IsReadable g × IsToldApart g

both-by : (v : Scene) (limit depth : ℕ) → IsSite v → HasTexts (environment_of v limit depth) → Both (environment_of v limit depth)
unfolding environment_of
both-by v limit depth s texts =
    let ms = after_three v in
    let fs = faces v in
    let ks = kinds_of v ms fs in
    let o = are-origins v limit depth s texts in
    (readable-by v ks ms (decls_of v ks ms fs) limit depth o, told-by v ks ms (decls_of v ks ms fs) limit depth o)

both : (g : Parts) → IsOfHole g → Both g
both g h =
    let e = h.is_environment in
    subst Both (sym e.exact) (both-by e.scene h.limit h.depth (is-site h.state h.unit h.site e.scene h.once h.hole h.utf8 e.is_scene) (subst HasTexts e.exact h.texts))

pub readable : (g : Parts) → IsOfHole g → IsReadable g
readable g h = (both g h).0

pub told : (g : Parts) → IsOfHole g → IsToldApart g
told g h = (both g h).1

pub apart : (g : Parts) → IsOfHole g → IsApart g
apart g h = let k = both g h in record { readable = k.0; told = k.1 }

pub valid : (g : Parts) → IsOfHole g → IsValid g
valid g h = let e = h.is_environment in right h.state h.unit h.site e.scene h.limit h.depth g e.is_scene (subst AreWeights (sym e.is_scene.weights) h.weights) h.limits.0 h.limits.1 h.shallow e.exact
