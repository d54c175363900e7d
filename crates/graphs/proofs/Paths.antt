-- Paths, one step further, joined, and under a map.
use Rattle.std.proofs.Common.{List, [], ◌∷◌, ◌++◌, map}
use Rattle.graphs.specs.Paths.{IsPathBy, Leads}

pub one-step : {A : Type 0} (step : A → A → Type 0) (a b : A) → step a b → Leads step a b
unfolding IsPathBy
one-step step a b h = ([], h)

pub step-then : {A : Type 0} (step : A → A → Type 0) (a b c : A) → step a b → Leads step b c → Leads step a c
unfolding IsPathBy
step-then step a b c h p = (b ∷ p.0, (h, p.1))

path-join : {A : Type 0} (step : A → A → Type 0) (a : A) (via : List A) (b : A) (more : List A) (c : A) → IsPathBy step a via b → IsPathBy step b more c → IsPathBy step a (via ++ b ∷ more) c
unfolding IsPathBy
path-join step a [] b more c p q = (p, q)
path-join step a (d ∷ via) b more c p q = (p.0, path-join step d via b more c p.1 q)

pub leads-join : {A : Type 0} (step : A → A → Type 0) (a b c : A) → Leads step a b → Leads step b c → Leads step a c
leads-join step a b c p q = (p.0 ++ b ∷ q.0, path-join step a p.0 b q.0 c p.1 q.1)

pub then-step : {A : Type 0} (step : A → A → Type 0) (a b c : A) → Leads step a b → step b c → Leads step a c
then-step step a b c p h = leads-join step a b c p (one-step step b c h)

pub first-step : {A : Type 0} (step : A → A → Type 0) (a : A) (via : List A) (b : A) → IsPathBy step a via b → (c : A) × step a c
unfolding IsPathBy
first-step step a [] b h = (b, h)
first-step step a (c ∷ via) b h = (c, h.0)

pub path-map : {A B : Type 0} (f : A → B) (step : A → A → Type 0) (step' : B → B → Type 0) → ((x y : A) → step x y → step' (f x) (f y)) → (a : A) (via : List A) (b : A) → IsPathBy step a via b → IsPathBy step' (f a) (map f via) (f b)
unfolding IsPathBy
path-map f step step' each a [] b h = each a b h
path-map f step step' each a (c ∷ via) b h = (each a c h.0, path-map f step step' each c via b h.1)

-- Each step on the way from a place of which P holds is also a step of the other relation.
pub along : {A : Type 0} (P : A → Type 0) (s t : A → A → Type 0) → ((x y : A) → P x → s x y → t x y) → ((x y : A) → P x → s x y → P y) → (a : A) (via : List A) (b : A) → P a → IsPathBy s a via b → IsPathBy t a via b
unfolding IsPathBy
along P s t f g a [] b h p = f a b h p
along P s t f g a (c ∷ via) b h p = (f a c h p.0, along P s t f g c via b (g a c h p.0) p.1)

pub path-by : {A : Type 0} (s t : A → A → Type 0) → ((x y : A) → s x y → t x y) → (a : A) (via : List A) (b : A) → IsPathBy s a via b → IsPathBy t a via b
unfolding IsPathBy
path-by s t f a [] b p = f a b p
path-by s t f a (c ∷ via) b p = (f a c p.0, path-by s t f c via b p.1)

pub leads-by : {A : Type 0} (s t : A → A → Type 0) → ((x y : A) → s x y → t x y) → (a b : A) → Leads s a b → Leads t a b
leads-by s t f a b p = (p.0, path-by s t f a p.0 b p.1)

path-turned : {A : Type 0} (s t : A → A → Type 0) → ((x y : A) → s x y → t y x) → (a : A) (via : List A) (b : A) → IsPathBy s a via b → Leads t b a
unfolding IsPathBy
path-turned s t f a [] b p = one-step t b a (f a b p)
path-turned s t f a (c ∷ via) b p = then-step t b c a (path-turned s t f c via b p.1) (f a c p.0)

-- Each step turned round.
pub leads-turned : {A : Type 0} (s t : A → A → Type 0) → ((x y : A) → s x y → t y x) → (a b : A) → Leads s a b → Leads t b a
leads-turned s t f a b p = path-turned s t f a p.0 b p.1
