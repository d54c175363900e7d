-- The number of a context, and the contexts that were met.
use Rattle.std.proofs.Common.{◌≡◌, ◌⊎◌, inl, inr, ℕ, zero, suc, ◌+◌, ◌<◌, ◌≤◌, Bool, true, false, List, [], ◌∷◌, ◌++◌, length, get_or, None, Some, slice_get, refl, sym, ap, ◌∙◌, subst, arith}
use Rattle.std.proofs.lemmas.Bool.{true≢false, cases_lt}
use Rattle.std.proofs.lemmas.Option.{slice_get_within, slice_get-get_or}
use Rattle.terms.specs.declared.parts.Arg.{Arg}
use Rattle.terms.specs.declared.parts.Arg.TheVariants.{Plain, Fun}
use Rattle.terms.specs.declared.parts.Decl.{Decl}
use Rattle.terms.specs.declared.parts.Parts.{Parts}
use Rattle.plain_listing.specs.Tables.{same_rows, number_from, number_of}
use Rattle.plain_listing.specs.Contexts.{IsAmong, Keeps, IsMet, AreMet, AreAllMet, AreShallow, AreClosed}
use Rattle.plain_listing.proofs.Numbers.{number-cons, number-nil, if_yes, if_no, rows-same, rows-itself, length-extended}

-- the context has a number, counted from k
pub record HasNumber (k : ℕ) (cs : List (List (List ℕ))) (ctx : List (List ℕ)) : Type 0 where
  pub number : ℕ
  pub is : number_from k cs ctx ≡ Some number

-- where it stands
pub record StandsAt (k n : ℕ) (cs : List (List (List ℕ))) (ctx : List (List ℕ)) : Type 0 where
  pub place : ℕ
  pub counted : n ≡ k + place
  pub there : slice_get cs place ≡ Some ctx

some_same : {X : Type 0} (a b : X) → Some a ≡ Some b → a ≡ b
some_same a b h = cc

pub number-there : (k : ℕ) (cs : List (List (List ℕ))) (ctx : List (List ℕ)) (n : ℕ) → number_from k cs ctx ≡ Some n → StandsAt k n cs ctx
number-there k [] ctx n h =
    let e : None ≡ Some n = sym (number-nil k ctx) ∙ h in
    let f : true ≡ false = cc in
    absurd (true≢false f)
number-there k (c ∷ more) ctx n h = go (same_rows c ctx) refl (number-there (k + 1) more ctx n)
  where
    go : (b : Bool) → same_rows c ctx ≡ b → (number_from (k + 1) more ctx ≡ Some n → StandsAt (k + 1) n more ctx) → StandsAt k n (c ∷ more) ctx
    go true is later =
        let e : Some k ≡ Some n = sym (number-cons k c more ctx ∙ if_yes _ _ _ is) ∙ h in
        let n_is = some_same k n e in
        record { place = 0; counted = omega arith; there = ap (λ r. Some r) (rows-same c ctx is) }
    go false is later =
        let s = later (sym (number-cons k c more ctx ∙ if_no _ _ _ is) ∙ h) in
        record { place = suc s.place; counted = omega (arith, s.counted); there = s.there }

-- what stands among the contexts has a number
number-some : (k : ℕ) (cs : List (List (List ℕ))) (ctx : List (List ℕ)) (j : ℕ) → slice_get cs j ≡ Some ctx → HasNumber k cs ctx
number-some k [] ctx j h = cc
number-some k (c ∷ more) ctx zero h =
    let same : c ≡ ctx = some_same c ctx h in
    record { number = k; is = number-cons k c more ctx ∙ if_yes _ _ _ (ap (λ x. same_rows x ctx) same ∙ rows-itself ctx) }
number-some k (c ∷ more) ctx (suc j) h = go (same_rows c ctx) refl (number-some (k + 1) more ctx j h)
  where
    go : (b : Bool) → same_rows c ctx ≡ b → HasNumber (k + 1) more ctx → HasNumber k (c ∷ more) ctx
    go true is later = record { number = k; is = number-cons k c more ctx ∙ if_yes _ _ _ is }
    go false is later = record { number = later.number; is = number-cons k c more ctx ∙ if_no _ _ _ is ∙ later.is }

pub among-number : (cs : List (List (List ℕ))) (ctx : List (List ℕ)) → IsAmong cs ctx → HasNumber 0 cs ctx
among-number cs ctx at = number-some 0 cs ctx at.0 at.1

-- a context with a number is among them
pub number-among : (cs : List (List (List ℕ))) (ctx : List (List ℕ)) (n : ℕ) → number_of cs ctx ≡ Some n → IsAmong cs ctx
number-among cs ctx n h = (let s = number-there 0 cs ctx n h in (s.place, s.there))

pub keeps-same : (cs : List (List (List ℕ))) → Keeps cs cs
keeps-same cs n ctx h = h

pub keeps-both : (a b c : List (List (List ℕ))) → Keeps a b → Keeps b c → Keeps a c
keeps-both a b c h k n ctx at = k n ctx (h n ctx at)

slice_get-push : {X : Type 0} (xs : List X) (y x : X) (n : ℕ) → slice_get xs n ≡ Some x → slice_get (xs ++ y ∷ []) n ≡ Some x
slice_get-push [] y x n h = cc
slice_get-push (z ∷ xs) y x zero h = h
slice_get-push (z ∷ xs) y x (suc n) h = slice_get-push xs y x n h

slice_get-last : {X : Type 0} (xs : List X) (y : X) → slice_get (xs ++ y ∷ []) (length xs) ≡ Some y
slice_get-last [] y = refl
slice_get-last (x ∷ xs) y = slice_get-last xs y

slice_get-pushed : {X : Type 0} (xs : List X) (y x : X) (n : ℕ) → slice_get (xs ++ y ∷ []) n ≡ Some x → (slice_get xs n ≡ Some x) ⊎ (y ≡ x)
slice_get-pushed [] y x zero h = inr (some_same y x h)
slice_get-pushed [] y x (suc n) h = cc
slice_get-pushed (z ∷ xs) y x zero h = inl h
slice_get-pushed (z ∷ xs) y x (suc n) h = slice_get-pushed xs y x n h

-- one context more
pub keeps-push : (old new : List (List (List ℕ))) (c : List (List ℕ)) → new ≡ old ++ c ∷ [] → Keeps old new
keeps-push old new c is n ctx at = ap (λ cs. slice_get cs n) is ∙ slice_get-push old c ctx n at

pub among-push : (old new : List (List (List ℕ))) (c ctx : List (List ℕ)) → new ≡ old ++ c ∷ [] → c ≡ ctx → IsAmong new ctx
among-push old new c ctx is same = (length old, ap (λ cs. slice_get cs (length old)) is ∙ slice_get-last old c ∙ ap (λ x. Some x) same)

pub shallow-push : (old new : List (List (List ℕ))) (c outer : List (List ℕ)) (ps : List ℕ) (depth : ℕ) → new ≡ old ++ c ∷ [] → c ≡ outer ++ ps ∷ [] → length outer < depth → AreShallow depth old → AreShallow depth new
shallow-push old new c outer ps depth is more low before n ctx at = elim (slice_get-pushed old c ctx n (sym (ap (λ cs. slice_get cs n) is) ∙ at)) [
  | inl was ↦ before n ctx was
  | inr last ↦ (let long : length ctx ≡ length outer + 1 = ap length (sym last ∙ more) ∙ length-extended outer ps in omega (arith, long, low))
]

-- what was met stays so
met-kept : (g : Parts) (old new : List (List (List ℕ))) (ctx : List (List ℕ)) (a : Arg) → Keeps old new → IsMet g old ctx a → IsMet g new ctx a
met-kept g old new ctx (Plain b) keeps h = tt
met-kept g old new ctx (Fun ps r) keeps (inl at) = inl (at.0, keeps at.0 (ctx ++ ps ∷ []) at.1)
met-kept g old new ctx (Fun ps r) keeps (inr long) = inr long

all_met-kept : (g : Parts) (old new : List (List (List ℕ))) (ctx : List (List ℕ)) (decls : List Decl) (count : ℕ) → Keeps old new → AreAllMet g old ctx decls count → AreAllMet g new ctx decls count
all_met-kept g old new ctx decls count keeps h n d low at i a within is = met-kept g old new ctx a keeps (h n d low at i a within is)

-- one argument more
pub met-next : (g : Parts) (old new : List (List (List ℕ))) (ctx : List (List ℕ)) (args : List Arg) (i : ℕ) (a : Arg) → slice_get args i ≡ Some a → Keeps old new → AreMet g old ctx args i → IsMet g new ctx a → AreMet g new ctx args (i + 1)
met-next g old new ctx args i a at keeps before here j b low is = elim (cases_lt j i) [
  | inl earlier ↦ met-kept g old new ctx b keeps (before j b earlier is)
  | inr last ↦ (let same : j ≡ i = omega (arith, low, last) in subst (λ x. IsMet g new ctx x) (some_same a b (sym at ∙ ap (slice_get args) (sym same) ∙ is)) here)
]

-- one declaration more
pub all_met-next : (g : Parts) (old new : List (List (List ℕ))) (ctx : List (List ℕ)) (decls : List Decl) (n : ℕ) (d : Decl) → slice_get decls n ≡ Some d → Keeps old new → AreAllMet g old ctx decls n → AreMet g new ctx d.args (length d.args) → AreAllMet g new ctx decls (n + 1)
all_met-next g old new ctx decls n d at keeps before here m e low is = elim (cases_lt m n) [
  | inl earlier ↦ (λ i a within there. met-kept g old new ctx a keeps (before m e earlier is i a within there))
  | inr last ↦ (let same : m ≡ n = omega (arith, low, last) in subst (λ (x : Decl). AreMet g new ctx x.args (length x.args)) (some_same d e (sym at ∙ ap (slice_get decls) (sym same) ∙ is)) here)
]

-- one context more is closed
pub closed-next : (g : Parts) (depth : ℕ) (old new : List (List (List ℕ))) (n : ℕ) (outer : List (List ℕ)) → slice_get old n ≡ Some outer → Keeps old new → AreClosed g depth old n → (length outer < depth → AreAllMet g new outer g.decls (length g.decls)) → AreClosed g depth new (n + 1)
closed-next g depth old new n outer at keeps before here m ctx low is room = elim (cases_lt m n) [
  | inl earlier ↦ (
      let within : m < length old = (let w = slice_get_within old n outer at in omega (arith, w, earlier)) in
      let there : slice_get old m ≡ Some (get_or old m []) = slice_get-get_or old m [] within in
      let same : get_or old m [] ≡ ctx = some_same (get_or old m []) ctx (sym (keeps m (get_or old m []) there) ∙ is) in
      all_met-kept g old new ctx g.decls (length g.decls) keeps (before m ctx earlier (there ∙ ap (λ x. Some x) same) room))
  | inr last ↦ (
      let last_is : m ≡ n = omega (arith, low, last) in
      let same : outer ≡ ctx = some_same outer ctx (sym (keeps n outer at) ∙ ap (slice_get new) (sym last_is) ∙ is) in
      subst (λ x. AreAllMet g new x g.decls (length g.decls)) same (here (subst (λ x. length x < depth) (sym same) room)))
]

-- the empty context alone
pub shallow-first : (depth : ℕ) (cs : List (List (List ℕ))) → cs ≡ [] ∷ [] → AreShallow depth cs
shallow-first depth cs is n ctx at = go n (sym (ap (λ x. slice_get x n) is) ∙ at)
  where
    go : (m : ℕ) → slice_get ([] ∷ []) m ≡ Some ctx → length ctx ≤ depth
    go zero h = (let e : [] ≡ ctx = some_same [] ctx h in let z = ap length e in omega (arith, z))
    go (suc m) h = cc
