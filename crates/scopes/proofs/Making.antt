-- What is made of what is seen of a scene is its environment.
use Rattle.std.proofs.Common.{◌≡◌, ◌∙◌, ap, refl, ℕ, true, false, Bool, List, [], ◌∷◌, map, Some, None}
use Rattle.std.specs.List.{AllByRecursion}
use Rattle.type_names.specs.declared.kinds.Erased.{Erased}
use Rattle.type_names.specs.Descriptors.{field, outcome}
use Rattle.terms.specs.declared.parts.Decl.{Decl}
use Rattle.terms.specs.declared.parts.Parts.{Parts}
use Rattle.offers.specs.Scenes.{Scene}
use Rattle.offers.specs.declared.member.Member.{Member}
use Rattle.offers.specs.declared.member.Face.{Face}
use Rattle.offers.specs.Omissions.{after_three}
use Rattle.offers.specs.Functional.{faces}
use Rattle.offers.specs.Sorting.{Rises, IsBefore}
use Rattle.offers.specs.Types.{types_of, mentioned, environment_types}
use Rattle.offers.proofs.Searches.{sorted-rises, put-rises}
use Rattle.scopes.specs.Kinds.{Kinds, listed, environment_kinds}
use Rattle.scopes.specs.Declarations.{decls_of}
use Rattle.scopes.specs.Environments.{IsSeen, parts_by, environment_by, environment_of}

types-rise : (v : Scene) → Rises field (environment_types v)
unfolding types_of
types-rise v = sorted-rises field (mentioned v (after_three v) (faces v))

before-some : (t : Erased) (ts : List Erased) → AllByRecursion (IsBefore field t) ts → AllByRecursion (IsBefore outcome (Some t)) (map Some ts)
before-some t [] h = h
before-some t (u ∷ us) h = (h.0, before-some t us h.1)

some-rise : (ts : List Erased) → Rises field ts → Rises outcome (map Some ts)
unfolding Rises
some-rise [] r = r
some-rise (t ∷ ts) r = (before-some t ts r.0, some-rise ts r.1)

listed-rise : (ts : List Erased) (b : Bool) → Rises field ts → Rises outcome (listed (record { types = ts; void = b }))
unfolding listed
listed-rise ts true r = put-rises outcome None (map Some ts) (some-rise ts r)
listed-rise ts false r = some-rise ts r

pub kinds-rise : (v : Scene) → Rises outcome (listed (environment_kinds v))
kinds-rise v = listed-rise (environment_types v) (environment_kinds v).void (types-rise v)

pub seen-rises : (v : Scene) (ms : List Member) (fs : List Face) (ks : Kinds) (us : List Erased) → us ≡ ks.types → IsSeen v ms fs ks → Rises field us
seen-rises v ms fs ks us e h = rw (e, h.kinds) (types-rise v)

pub made : (v : Scene) (ms : List Member) (fs : List Face) (ks us : Kinds) (ds : List Decl) (parts : Parts) (limit depth : ℕ) → IsSeen v ms fs ks → us ≡ ks → ds ≡ decls_of v us ms fs → parts ≡ parts_by v us ds limit depth → parts ≡ environment_of v limit depth
unfolding environment_of
made v ms fs ks us ds parts limit depth h e d p =
    let q : us ≡ environment_kinds v = e ∙ h.kinds in
    let o : environment_by v us ms fs limit depth ≡ environment_by v (environment_kinds v) (after_three v) (faces v) limit depth = rw (q, h.members, h.lambdas) refl in
    p ∙ ap (λ (x : List Decl). parts_by v us x limit depth) d ∙ o
