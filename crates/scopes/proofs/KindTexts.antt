-- The texts of an environment's types.
use Rattle.std.proofs.Common.{◌≡◌, ◌∙◌, ap, ap₂, sym, refl, ℕ, Bool, true, false, cond, List, [], ◌∷◌, ◌++◌, map, take, drop, codes, Some, None}
use Rattle.std.proofs.lemmas.List.{map-append}
use Rattle.type_names.specs.declared.kinds.Erased.{Erased}
use Rattle.offers.specs.Scenes.{Scene}
use Rattle.offers.specs.Spellings.{type_text}
use Rattle.scopes.specs.Kinds.{listed, number_in, kind_text}
use Rattle.scopes.proofs.Listed.{voids, listed-split}

of-types : (v : Scene) (ts : List Erased) → map (kind_text v) (map Some ts) ≡ map (type_text v) ts
of-types v [] = refl
of-types v (t ∷ ts) = ap (λ (zs : List (List ℕ)). type_text v t ∷ zs) (of-types v ts)

of-void : (v : Scene) (b : Bool) → map (kind_text v) (voids b) ≡ cond b (codes "void" ∷ []) []
of-void v true = refl
of-void v false = refl

pub texts-split : (v : Scene) (ts : List Erased) (b : Bool) (p : ℕ) → p ≡ number_in (record { types = ts; void = b }) None → map (type_text v) (take p ts) ++ cond b (codes "void" ∷ []) [] ++ map (type_text v) (drop p ts) ≡ map (kind_text v) (listed (record { types = ts; void = b }))
texts-split v ts b p e = sym (
    ap (map (kind_text v)) (sym (listed-split ts b p e))
    ∙ map-append (kind_text v) (map Some (take p ts) ++ voids b) (map Some (drop p ts))
    ∙ ap₂ (λ (xs ys : List (List ℕ)). xs ++ ys)
    (map-append (kind_text v) (map Some (take p ts)) (voids b) ∙ ap₂ (λ (xs ys : List (List ℕ)). xs ++ ys) (of-types v (take p ts)) (of-void v b))
    (of-types v (drop p ts)))
