-- The classes that a publication makes known: by which names those are made that are known by their names alone.
use Rattle.std.proofs.Common.{◌≡◌, ◌∙◌, ap, refl, ℕ, Bool, List, [], ◌∷◌, map, cond, Option, Some, None}
use Rattle.std.specs.Path.{rsplit_once}
use Rattle.known_classes.specs.declared.summary.Nesting.{Nesting}
use Rattle.known_classes.specs.declared.summary.ClassSummary.{ClassSummary}
use Rattle.source_classes.specs.KnownNames.{if_any, nesting_by, named_class}

nesting-by : (f g : List ℕ → Bool) (parts : Option (List ℕ × List ℕ)) → ((n : List ℕ) → f n ≡ g n) → nesting_by f parts ≡ nesting_by g parts
nesting-by f g None h = refl
nesting-by f g (Some p) h = ap (λ b. cond b (Some (record { outer = Some p.0; simple = if_any p.1; flags = 9 })) None) (h p.0)

class-by : (f g : List ℕ → Bool) (name : List ℕ) → ((n : List ℕ) → f n ≡ g n) → named_class f name ≡ named_class g name
unfolding named_class
class-by f g name h = ap (λ (n : Option Nesting). record { name = name; flags = 1; nesting = n; supers = []; fields = []; methods = [] }) (nesting-by f g (rsplit_once 36 name) h)

-- Two tests that say the same of each name make the same classes.
pub named_among : (f g : List ℕ → Bool) (names : List (List ℕ)) → ((n : List ℕ) → f n ≡ g n) → map (named_class f) names ≡ map (named_class g) names
named_among f g [] h = refl
named_among f g (n ∷ ns) h = ap (λ c. c ∷ map (named_class f) ns) (class-by f g n h) ∙ ap (λ cs. named_class g n ∷ cs) (named_among f g ns h)
