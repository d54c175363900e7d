-- Edges by their heads and tails: one more at the end, and what stands at a number.
use Rattle.std.proofs.Common.{◌≡◌, ℕ, zero, suc, List, [], ◌∷◌, ◌++◌, length, slice_get, Some, refl, sym, ap, ◌∙◌, arith}
use Rattle.edges.specs.Edges.{Edge}
use Rattle.edges.specs.Made.{edge_of, edges_of}
use Rattle.edges.specs.declared.head.Head.{Head}
use Rattle.edges.proofs.Options.{some_eq}

pub edges_of-none : (hs : List Head) (rows : List (List ℕ)) → hs ≡ [] → edges_of hs rows ≡ []
unfolding edges_of
edges_of-none hs rows e = ap (λ l. edges_of l rows) e

pub edges_of-more : (hs : List Head) (rows : List (List ℕ)) (h : Head) (row : List ℕ) → length hs ≡ length rows → edges_of (hs ++ h ∷ []) (rows ++ row ∷ []) ≡ edges_of hs rows ++ edge_of h row ∷ []
unfolding edges_of
edges_of-more [] [] h row e = refl
edges_of-more [] (r ∷ rows) h row e = absurd (omega (arith, e))
edges_of-more (x ∷ hs) [] h row e = absurd (omega (arith, e))
edges_of-more (x ∷ hs) (r ∷ rows) h row e = ap (λ l. edge_of x r ∷ l) (edges_of-more hs rows h row (omega (arith, e)))

pub length-edges_of : (hs : List Head) (rows : List (List ℕ)) → length hs ≡ length rows → length (edges_of hs rows) ≡ length hs
unfolding edges_of
length-edges_of [] rows e = refl
length-edges_of (x ∷ hs) [] e = absurd (omega (arith, e))
length-edges_of (x ∷ hs) (r ∷ rows) e = ap (λ n. suc n) (length-edges_of hs rows (omega (arith, e)))

-- the head and the tails of an edge
pub record StandsAt (hs : List Head) (rows : List (List ℕ)) (m : ℕ) (e : Edge) : Type 0 where
  pub head : Head
  pub is : slice_get hs m ≡ Some head
  pub row : slice_get rows m ≡ Some e.tails
  pub edge : edge_of head e.tails ≡ e

pub stands-at : (hs : List Head) (rows : List (List ℕ)) (m : ℕ) (e : Edge) → slice_get (edges_of hs rows) m ≡ Some e → StandsAt hs rows m e
unfolding edges_of
stands-at [] rows m e h = cc
stands-at (x ∷ hs) [] m e h = cc
stands-at (x ∷ hs) (r ∷ rows) zero e h =
    let same : edge_of x r ≡ e = some_eq (edge_of x r) e h in
    record { head = x; is = refl; row = ap (λ (z : Edge). Some z.tails) same; edge = ap (λ (z : Edge). edge_of x z.tails) (sym same) ∙ same }
stands-at (x ∷ hs) (r ∷ rows) (suc m) e h =
    let later : StandsAt hs rows m e = stands-at hs rows m e h in
    record { head = later.head; is = later.is; row = later.row; edge = later.edge }
