-- Chains of links to which one is added, and chains that are gone along.
use Rattle.std.proofs.Common.{◌≡◌, ◌≢◌, ◌⊎◌, inl, inr, ℕ, zero, suc, ◌+◌, ◌<◌, ◌≤◌, List, [], ◌∷◌, ◌++◌, length, set, get_or, slice_get, replicate, Some, refl, sym, ap, subst, ◌∙◌, arith, length-append, get_or-set_other, get_or-set_same}
use Rattle.std.proofs.lemmas.Bool.{cases_eq}
use Rattle.std.proofs.lemmas.Option.{slice_get_within}
use Rattle.succinct.proofs.Numberings.{get_append}
use Rattle.edges.proofs.Options.{some_eq, get-either, get-second}
use Rattle.least_weights.specs.Users.{Leads, here, later, AreChains}
use Rattle.least_weights.specs.declared.users.Link.{Link}

pub leads-grown : (links more : List Link) (at m : ℕ) → Leads links at m → Leads (links ++ more) at m
leads-grown links more at m (here k l is) = here k l (get_append links more k l is)
leads-grown links more at m (later k m' l is rest) = later k m' l (get_append links more k l is) (leads-grown links more l.next m' rest)

-- from a link either its edge or the rest of the chain
pub split-chain : (links : List Link) (at m : ℕ) → Leads links at m → (k : ℕ) (l : Link) → at ≡ suc k → slice_get links k ≡ Some l → (m ≡ l.edge) ⊎ Leads links l.next m
split-chain links at m (here k' l' is') k l e is =
    let same : k' ≡ k = omega (arith, e) in
    let one : l' ≡ l = some_eq l' l (sym is' ∙ ap (slice_get links) same ∙ is) in
    inl (ap (λ (x : Link). x.edge) one)
split-chain links at m (later k' m' l' is' rest) k l e is =
    let same : k' ≡ k = omega (arith, e) in
    let one : l' ≡ l = some_eq l' l (sym is' ∙ ap (slice_get links) same ∙ is) in
    inr (subst (λ (x : Link). Leads links x.next m') one rest)

pub end-chain : (links : List Link) (at m : ℕ) → Leads links at m → at ≡ 0 → ⊥
end-chain links at m (here k l is) e = omega (arith, e)
end-chain links at m (later k m' l is rest) e = omega (arith, e)

pub no-chains : (count : ℕ) (firsts : List ℕ) (links : List Link) → firsts ≡ replicate count 0 → links ≡ [] → AreChains firsts links
no-chains count firsts links f l = record {
  falling = λ k x at. absurd (let w = slice_get_within links k x at in let n = ap length l in omega (arith, w, n));
  within = λ t. (let z : get_or firsts t 0 ≡ get_or {A = ℕ} (replicate count 0) t 0 = ap (λ fs. get_or fs t 0) f in let n = all-zero count t in omega (arith, z, n));
}
  where
    all-zero : (k j : ℕ) → get_or {A = ℕ} (replicate k 0) j 0 ≡ 0
    all-zero zero j = refl
    all-zero (suc k) zero = refl
    all-zero (suc k) (suc j) = all-zero k j

-- a link more before the chain of a state
module _ (firsts firsts' : List ℕ) (links links' : List Link) (s edge first : ℕ) (low : s < length firsts) (next : ℕ) (is_next : next ≡ get_or firsts s 0) (grown : links' ≡ links ++ record { edge = edge; next = next } ∷ []) (is_first : first ≡ length links + 1) (is : firsts' ≡ set firsts s first) where
  abbrev link : Link
  link = record { edge = edge; next = next }

  last : slice_get links' (length links) ≡ Some link
  last = (let e : length links ≡ length links + 0 = omega arith in ap (λ ls. slice_get ls (length links)) grown ∙ ap (slice_get (links ++ link ∷ [])) e ∙ get-second links (link ∷ []) 0 link refl)

  at-first : get_or firsts' s 0 ≡ suc (length links)
  at-first = (let there : get_or (set firsts s first) s 0 ≡ first = rw get_or-set_same refl in let e : first ≡ suc (length links) = omega (arith, is_first) in ap (λ fs. get_or fs s 0) is ∙ there ∙ e)

  at-others : (t : ℕ) → t ≢ s → get_or firsts' t 0 ≡ get_or firsts t 0
  at-others t apart = (let there : get_or (set firsts s first) t 0 ≡ get_or firsts t 0 = rw get_or-set_other refl in ap (λ fs. get_or fs t 0) is ∙ there)

  old-leads : (at m : ℕ) → Leads links at m → Leads links' at m
  old-leads at m h = subst (λ ls. Leads ls at m) (sym grown) (leads-grown links (link ∷ []) at m h)

  pub user-added : Leads links' (get_or firsts' s 0) edge
  user-added = subst (λ at. Leads links' at edge) (sym at-first) (here (length links) link last)

  pub user-kept : (t m : ℕ) → Leads links (get_or firsts t 0) m → Leads links' (get_or firsts' t 0) m
  user-kept t m h = elim (cases_eq t s) [
    | inl same ↦ (
        let old : Leads links next m = subst (λ at. Leads links at m) (ap (λ k. get_or firsts k 0) same ∙ sym is_next) h in
        let new : Leads links' (suc (length links)) m = later (length links) m link last (old-leads next m old) in
        subst (λ at. Leads links' at m) (sym (ap (λ k. get_or firsts' k 0) same ∙ at-first)) new)
    | inr apart ↦ subst (λ at. Leads links' at m) (sym (at-others t apart)) (old-leads (get_or firsts t 0) m h)
  ]

  long : length links' ≡ length links + 1
  long = ap length grown ∙ length-append links (link ∷ [])

  pub chains-more : AreChains firsts links → AreChains firsts' links'
  chains-more chains = record {
    falling = λ k l at. falls k l (get-either links (link ∷ []) k l (ap (λ ls. slice_get ls k) (sym grown) ∙ at));
    within = λ t. inside t (cases_eq t s);
  }
    where
      falls : (k : ℕ) (l : Link) → (slice_get links k ≡ Some l) ⊎ ((j : ℕ) × (k ≡ length links + j) × (slice_get (link ∷ []) j ≡ Some l)) → l.next ≤ k
      falls k l (inl before) = chains.falling k l before
      falls k l (inr now) =
          let j = slice_get_within (link ∷ []) now.0 l now.2 in
          let zero_at : now.0 ≡ 0 = omega (arith, j) in
          let one : link ≡ l = some_eq link l (ap (slice_get (link ∷ [])) (sym zero_at) ∙ now.2) in
          let n : next ≡ l.next = ap (λ (x : Link). x.next) one in
          let w = chains.within s in
          let at = now.1 in
          omega (arith, n, w, is_next, at)

      inside : (t : ℕ) → (t ≡ s) ⊎ (t ≡ s → ⊥) → get_or firsts' t 0 ≤ length links'
      inside t (inl same) = (let e : get_or firsts' t 0 ≡ suc (length links) = ap (λ k. get_or firsts' k 0) same ∙ at-first in omega (arith, e, long))
      inside t (inr apart) = (let e = at-others t apart in let w = chains.within t in omega (arith, e, w, long))
