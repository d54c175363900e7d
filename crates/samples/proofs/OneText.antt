-- The lines of a sample are a function of its number.
use Rattle.std.proofs.Common.{◌≡◌, ◌∙◌, ℕ, zero, suc, ◌+◌, ◌-◌, List, [], ◌∷◌, length, map, refl, sym, ap, ap₂, subst, Some, Bool, arith}
use Rattle.std.specs.Prelude.{◌++◌, All, codes, decimal, leb, sum, sum_by, slice_get}
use Rattle.std.specs.List.{AllByRecursion}
use Rattle.std.proofs.lemmas.List.Elements.{All-head, All-tail}
use Rattle.std.proofs.lemmas.List.Sums.{sum-map}
use Rattle.terms.specs.Place.{total_of}
use Rattle.terms.specs.Text.{text_of}
use Rattle.terms.specs.Faults.{IsValid}
use Rattle.terms.specs.declared.parts.Parts.{Parts}
use Rattle.terms.proofs.Sorting.{has_whole}
use Rattle.listing.specs.declared.item.Item.{Item}
use Rattle.listing.specs.Found.{term_of, terms_of, IsItem}
use Rattle.decl_index.specs.declared.change.Change.{Change}
use Rattle.decl_index.specs.History.{KeepsRanges}
use Rattle.decl_index.specs.Weighing.{AreWeights}
use Rattle.decl_index.proofs.HistoryLaws.{weights_in_range}
use Rattle.java_bodies.specs.declared.site.HoleSite.{HoleSite}
use Rattle.scopes.proofs.Right.{right}
use Rattle.answers.specs.declared.types.Hole.{Hole}
use Rattle.answers.specs.declared.types.Page.{Page}
use Rattle.answers.specs.Cursors.{IsPageOf}
use Rattle.answers.specs.Holes.{IsEnvironmentIn}
use Rattle.answers.proofs.Environments.{one_site, one_environment}
use Rattle.workload.specs.Samples.{sample_of}
use Rattle.samples.specs.Samples.{history_of, hole_of, goal_of, HasEnvironment}
use Rattle.samples.specs.Lines.{yes_or_no, weight_of, first_weight, last_weight, text_length, page_lines}
use Rattle.samples.specs.Runs.{OneText}

-- Items that say the same, one by one.
abbrev Alike : List Item → List Item → Type 0
Alike [] [] = Unit {0}
Alike [] (y ∷ ys) = ⊥
Alike (x ∷ xs) [] = ⊥
Alike (x ∷ xs) (y ∷ ys) = (x.weight ≡ y.weight) × (x.text ≡ y.text) × Alike xs ys

alike : (g : Parts) (xs ys : List Item) → All (IsItem g) xs → All (IsItem g) ys → terms_of xs ≡ terms_of ys → Alike xs ys
alike g [] [] a b e = tt
alike g [] (y ∷ ys) a b e = cc
alike g (x ∷ xs) [] a b e = cc
alike g (x ∷ xs) (y ∷ ys) a b e =
    let p = All-head (IsItem g) x xs a in
    let q = All-head (IsItem g) y ys b in
    let term : term_of x ≡ term_of y = cc in
    let rest : terms_of xs ≡ terms_of ys = cc in
    (p.weight ∙ ap (total_of g) term ∙ sym q.weight, p.text ∙ ap (text_of g) term ∙ sym q.text, alike g xs ys (All-tail (IsItem g) x xs a) (All-tail (IsItem g) y ys b) rest)

-- They are as many, weigh the same, and their texts are as long.
as-many : (xs ys : List Item) → Alike xs ys → length xs ≡ length ys
as-many [] [] h = refl
as-many [] (y ∷ ys) h = absurd h
as-many (x ∷ xs) [] h = absurd h
as-many (x ∷ xs) (y ∷ ys) h = ap suc (as-many xs ys h.2)

weigh-same : (xs ys : List Item) (i : ℕ) → Alike xs ys → weight_of (slice_get xs i) ≡ weight_of (slice_get ys i)
weigh-same [] [] i h = refl
weigh-same [] (y ∷ ys) i h = absurd h
weigh-same (x ∷ xs) [] i h = absurd h
weigh-same (x ∷ xs) (y ∷ ys) zero h = h.0
weigh-same (x ∷ xs) (y ∷ ys) (suc i) h = weigh-same xs ys i h.2

same-lengths : (xs ys : List Item) → Alike xs ys → map text_length xs ≡ map text_length ys
same-lengths [] [] h = refl
same-lengths [] (y ∷ ys) h = absurd h
same-lengths (x ∷ xs) [] h = absurd h
same-lengths (x ∷ xs) (y ∷ ys) h = ap₂ (λ n ns. n ∷ ns) (ap length h.1) (same-lengths xs ys h.2)

as-long : (xs ys : List Item) → Alike xs ys → sum_by text_length xs ≡ sum_by text_length ys
as-long xs ys h = sym (sum-map text_length xs) ∙ ap sum (same-lengths xs ys h) ∙ sum-map text_length ys

-- So the same is told of them.
abbrev told : ℕ → Bool → ℕ → ℕ → ℕ → List ℕ
told many last first heaviest long =
    codes "items " ++ (decimal many ++ (codes "\nlast " ++ (yes_or_no last ++ (codes "\nweights " ++ (decimal first ++ (codes " " ++ (decimal heaviest ++ (codes "\nbytes " ++ (decimal long ++ codes "\n")))))))))

same-lines : (xs ys : List Item) (b c : Bool) → Alike xs ys → b ≡ c → page_lines xs b ≡ page_lines ys c
same-lines xs ys b c h e =
    let many = as-many xs ys h in
    let last : last_weight xs ≡ last_weight ys = weigh-same xs ys (length xs - 1) h ∙ ap (λ n. weight_of (slice_get ys (n - 1))) many in
    ap (λ n. told n b (first_weight xs) (last_weight xs) (sum_by text_length xs)) many
    ∙ ap (λ l. told (length ys) l (first_weight xs) (last_weight xs) (sum_by text_length xs)) e
    ∙ ap (λ w. told (length ys) c w (last_weight xs) (sum_by text_length xs)) (weigh-same xs ys 0 h)
    ∙ ap (λ w. told (length ys) c (first_weight ys) w (sum_by text_length xs)) last
    ∙ ap (λ n. told (length ys) c (first_weight ys) (last_weight ys) n) (as-long xs ys h)

-- An environment's list has one first page.
one-page : (g : Parts) (p q : Page) → IsValid g → IsPageOf g 0 100 p → IsPageOf g 0 100 q → page_lines p.items p.last ≡ page_lines q.items q.last
one-page g p q valid a b =
    let (ws, whole) = has_whole g valid in
    let items : Alike p.items q.items = alike g p.items q.items a.says b.says (a.slice ws whole ∙ sym (b.slice ws whole)) in
    let last : p.last ≡ q.last = a.ends ws whole ∙ ap (λ n. leb (length ws) (0 + n)) (as-many p.items q.items items) ∙ sym (b.ends ws whole) in
    same-lines p.items q.items p.last q.last items last

valid : (history : List Change) (hole : Hole) (site : HoleSite) (g : Parts) → AllByRecursion KeepsRanges history → hole.limit ≡ 4000 → hole.depth ≡ 1 → IsEnvironmentIn history hole site g → IsValid g
valid history hole site g ranges limit depth e =
    let weights : AreWeights e.gives.scene.weights = subst AreWeights (sym (e.gives.is_scene.weights ∙ e.is_state.weights)) (weights_in_range history ranges) in
    right e.state e.unit site e.gives.scene hole.limit hole.depth g e.gives.is_scene weights (omega (arith, limit)) (omega (arith, limit)) (omega (arith, depth)) e.gives.exact

one-place : (history : List Change) (hole : Hole) (g h : Parts) → HasEnvironment history hole g → HasEnvironment history hole h → g ≡ h
one-place history hole g h a b =
    let sites : Some a.site ≡ Some b.site = one_site hole (Some a.site) (Some b.site) a.place b.place in
    let same : a.site ≡ b.site = cc in
    one_environment history hole a.site g h a.environment (subst (λ s. IsEnvironmentIn history hole s h) (sym same) b.environment)

pub one-text : OneText
one-text n lines other a b =
    let history = history_of (sample_of n).classes in
    let hole = hole_of (sample_of n) in
    let envs : a.env ≡ b.env = one-place history hole a.env b.env a.place b.place in
    let there : IsPageOf a.env 0 100 b.page = subst (λ g. IsPageOf g 0 100 b.page) (sym envs) b.first in
    let pages = one-page a.env a.page b.page (valid history hole a.place.site a.env (tt, tt) refl refl a.place.environment) a.first there in
    a.told ∙ ap (λ lines. codes "classes " ++ (decimal (length (sample_of n).classes) ++ (codes "\ngoal C" ++ (decimal (goal_of n) ++ (codes "\n" ++ lines))))) pages ∙ sym b.told
