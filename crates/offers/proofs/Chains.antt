-- Walks from a class to the classes around it.
use Rattle.std.proofs.Common.{◌≡◌, ◌∙◌, ap, sym, arith, refl, ℕ, zero, suc, ◌+◌, ◌-◌, ◌<◌, ◌≤◌, Bool, true, false, ◌||◌, ◌&&◌, List, [], ◌∷◌, Some, None}
use Rattle.std.specs.List.{list_any, list_all}
use Rattle.known_classes.specs.declared.summary.ClassSummary.{ClassSummary}
use Rattle.known_classes.specs.Known.{outer_of}
use Rattle.offers.specs.Reach.{chain_by, on_from}

-- a chain, by whether it goes on
chain-suc : (n : ℕ) (cs : List ClassSummary) (name : List ℕ) → chain_by (suc n) cs name ≡ name ∷ on_from (outer_of cs name) (chain_by n cs)
unfolding chain_by
chain-suc n cs name = refl

chain-zero : (cs : List ClassSummary) (name : List ℕ) → chain_by 0 cs name ≡ name ∷ []
unfolding chain_by
chain-zero cs name = refl

left-over : (n k : ℕ) → k < n → n - k ≡ suc (n - (k + 1))
left-over n k l = omega arith

chain-end : (n k : ℕ) (cs : List ClassSummary) (name : List ℕ) → k < n → outer_of cs name ≡ None → chain_by (n - k) cs name ≡ name ∷ []
chain-end n k cs name l e = ap (λ m. chain_by m cs name) (left-over n k l) ∙ chain-suc (n - (k + 1)) cs name ∙ ap (λ o. name ∷ on_from o (chain_by (n - (k + 1)) cs)) e

chain-on : (n k : ℕ) (cs : List ClassSummary) (name outer : List ℕ) → k < n → outer_of cs name ≡ Some outer → chain_by (n - k) cs name ≡ name ∷ chain_by (n - (k + 1)) cs outer
chain-on n k cs name outer l e = ap (λ m. chain_by m cs name) (left-over n k l) ∙ chain-suc (n - (k + 1)) cs name ∙ ap (λ o. name ∷ on_from o (chain_by (n - (k + 1)) cs)) e

chain-last : (n k : ℕ) (cs : List ClassSummary) (name : List ℕ) → n ≤ k → chain_by (n - k) cs name ≡ name ∷ []
chain-last n k cs name l = let z : n - k ≡ 0 = omega arith in ap (λ m. chain_by m cs name) z ∙ chain-zero cs name

prefix : (n : ℕ) (cs : List ClassSummary) (name : List ℕ) → (rest : List (List ℕ)) × (chain_by n cs name ≡ name ∷ rest)
prefix zero cs name = ([], chain-zero cs name)
prefix (suc n) cs name = (on_from (outer_of cs name) (chain_by n cs), chain-suc n cs name)

-- every class of the chain passes
one-all : (t : List ℕ → Bool) (x : List ℕ) → list_all t (x ∷ []) ≡ t x
one-all t x = elim (t x) as (λ b. (b && true) ≡ b) [ true ↦ refl | false ↦ refl ]

one-any : (t : List ℕ → Bool) (x : List ℕ) → list_any t (x ∷ []) ≡ t x
one-any t x = elim (t x) as (λ b. (b || false) ≡ b) [ true ↦ refl | false ↦ refl ]

pub all-no : (whole : Bool) (t : List ℕ → Bool) (n k : ℕ) (cs : List ClassSummary) (name : List ℕ) → whole ≡ list_all t (chain_by (n - k) cs name) → t name ≡ false → false ≡ whole
all-no whole t n k cs name h e = let f = prefix (n - k) cs name in sym (h ∙ ap (list_all t) f.1 ∙ ap (λ b. b && list_all t f.0) e)

pub all-end : (whole : Bool) (t : List ℕ → Bool) (n k : ℕ) (cs : List ClassSummary) (name : List ℕ) → k < n → whole ≡ list_all t (chain_by (n - k) cs name) → t name ≡ true → outer_of cs name ≡ None → true ≡ whole
all-end whole t n k cs name l h e o = sym (h ∙ ap (list_all t) (chain-end n k cs name l o) ∙ one-all t name ∙ e)

pub all-on : (whole : Bool) (t : List ℕ → Bool) (n k : ℕ) (cs : List ClassSummary) (name outer : List ℕ) → k < n → whole ≡ list_all t (chain_by (n - k) cs name) → t name ≡ true → outer_of cs name ≡ Some outer → whole ≡ list_all t (chain_by (n - (k + 1)) cs outer)
all-on whole t n k cs name outer l h e o = h ∙ ap (list_all t) (chain-on n k cs name outer l o) ∙ ap (λ b. b && list_all t (chain_by (n - (k + 1)) cs outer)) e

pub all-last : (whole : Bool) (t : List ℕ → Bool) (n k : ℕ) (cs : List ClassSummary) (name : List ℕ) → n ≤ k → whole ≡ list_all t (chain_by (n - k) cs name) → t name ≡ whole
all-last whole t n k cs name l h = sym (h ∙ ap (list_all t) (chain-last n k cs name l) ∙ one-all t name)

-- some class of the chain passes
pub any-yes : (whole : Bool) (t : List ℕ → Bool) (n k : ℕ) (cs : List ClassSummary) (name : List ℕ) → whole ≡ list_any t (chain_by (n - k) cs name) → t name ≡ true → true ≡ whole
any-yes whole t n k cs name h e = let f = prefix (n - k) cs name in sym (h ∙ ap (list_any t) f.1 ∙ ap (λ b. b || list_any t f.0) e)

pub any-end : (whole : Bool) (t : List ℕ → Bool) (n k : ℕ) (cs : List ClassSummary) (name : List ℕ) → k < n → whole ≡ list_any t (chain_by (n - k) cs name) → t name ≡ false → outer_of cs name ≡ None → false ≡ whole
any-end whole t n k cs name l h e o = sym (h ∙ ap (list_any t) (chain-end n k cs name l o) ∙ one-any t name ∙ e)

pub any-on : (whole : Bool) (t : List ℕ → Bool) (n k : ℕ) (cs : List ClassSummary) (name outer : List ℕ) → k < n → whole ≡ list_any t (chain_by (n - k) cs name) → t name ≡ false → outer_of cs name ≡ Some outer → whole ≡ list_any t (chain_by (n - (k + 1)) cs outer)
any-on whole t n k cs name outer l h e o = h ∙ ap (list_any t) (chain-on n k cs name outer l o) ∙ ap (λ b. b || list_any t (chain_by (n - (k + 1)) cs outer)) e

pub any-last : (whole : Bool) (t : List ℕ → Bool) (n k : ℕ) (cs : List ClassSummary) (name : List ℕ) → n ≤ k → whole ≡ list_any t (chain_by (n - k) cs name) → t name ≡ whole
any-last whole t n k cs name l h = sym (h ∙ ap (list_any t) (chain-last n k cs name l) ∙ one-any t name)
