-- Lists of edges: what each of them is, which stand there, and that they rise.
use Rattle.std.proofs.Common.{◌≡◌, ◌⊎◌, inl, inr, ℕ, zero, suc, ◌+◌, ◌<◌, List, [], ◌∷◌, ◌++◌, length, slice_get, Option, Some, refl, subst, arith}
use Rattle.std.proofs.lemmas.Option.{slice_get_within}
use Rattle.succinct.proofs.Numberings.{get_append}
use Rattle.edges.specs.Edges.{Edge, HasEdge, ComesBefore}
use Rattle.edges.proofs.Options.{some_eq, get-either, get-second}

abbrev pub Each : (Edge → Type 0) → List Edge → Type 0
Each P es = (m : ℕ) (e : Edge) → slice_get es m ≡ Some e → P e

abbrev pub Rises : List Edge → Type 0
Rises es = (m m' : ℕ) (e e' : Edge) → m < m' → slice_get es m ≡ Some e → slice_get es m' ≡ Some e' → ComesBefore e e'

pub each-none : (P : Edge → Type 0) → Each P []
each-none P m e h = cc

pub each-one : (P : Edge → Type 0) (x : Edge) → P x → Each P (x ∷ [])
each-one P x p zero e h = subst P (some_eq x e h) p
each-one P x p (suc m) e h = cc

pub each-both : (P : Edge → Type 0) (xs ys : List Edge) → Each P xs → Each P ys → Each P (xs ++ ys)
each-both P xs ys p q m e h = elim (get-either xs ys m e h) [ inl first ↦ p m e first | inr second ↦ q second.0 e second.2 ]

pub rises-none : Rises []
rises-none m m' e e' low h h' = cc

pub rises-one : (x : Edge) → Rises (x ∷ [])
rises-one x m m' e e' low h h' = (let l = slice_get_within (x ∷ []) m' e' h' in absurd (omega (arith, low, l)))

pub rises-both : (xs ys : List Edge) → Rises xs → Rises ys → Each (λ e. Each (λ e'. ComesBefore e e') ys) xs → Rises (xs ++ ys)
rises-both xs ys p q between m m' e e' low h h' = go (get-either xs ys m e h) (get-either xs ys m' e' h')
  where
    go : (slice_get xs m ≡ Some e) ⊎ ((k : ℕ) × (m ≡ length xs + k) × (slice_get ys k ≡ Some e)) → (slice_get xs m' ≡ Some e') ⊎ ((k : ℕ) × (m' ≡ length xs + k) × (slice_get ys k ≡ Some e')) → ComesBefore e e'
    go (inl a) (inl b) = p m m' e e' low a b
    go (inl a) (inr b) = between m e a b.0 e' b.2
    go (inr a) (inl b) = (let l = slice_get_within xs m' e' b in let s = a.1 in absurd (omega (arith, low, l, s)))
    go (inr a) (inr b) = (let s = a.1 in let t = b.1 in q a.0 b.0 e e' (omega (arith, low, s, t)) a.2 b.2)

pub has-one : (i : ℕ) (source : Option ℕ) (x : Edge) → x.state ≡ i → x.source ≡ source → HasEdge i source (x ∷ [])
has-one i source x a b = record { number = 0; edge = x; is = refl; at_state = a; of_source = b }

pub has-first : (i : ℕ) (source : Option ℕ) (xs ys : List Edge) → HasEdge i source xs → HasEdge i source (xs ++ ys)
has-first i source xs ys h = record { number = h.number; edge = h.edge; is = get_append xs ys h.number h.edge h.is; at_state = h.at_state; of_source = h.of_source }

pub has-second : (i : ℕ) (source : Option ℕ) (xs ys : List Edge) → HasEdge i source ys → HasEdge i source (xs ++ ys)
has-second i source xs ys h = record { number = length xs + h.number; edge = h.edge; is = get-second xs ys h.number h.edge h.is; at_state = h.at_state; of_source = h.of_source }
