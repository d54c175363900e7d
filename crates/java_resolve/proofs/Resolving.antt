-- What texts resolve to, by what is found for their shapes.
use Rattle.std.proofs.Common.{◌≡◌, ◌∙◌, ap, sym, subst, arith, ℕ, zero, suc, ◌+◌, ◌<◌, ◌≤◌, List, [], ◌∷◌, ◌++◌, length, take, get_or, slice_get, Some, chars, inl, inr}
use Rattle.std.proofs.lemmas.List.{take_more, take_all}
use Rattle.std.proofs.Math.Nat.{eq-or-lt_of_le}
use Rattle.terms.specs.Expr.{Expr}
use Rattle.terms.specs.declared.parts.Arg.{Arg}
use Rattle.terms.specs.declared.parts.Arg.TheVariants.{Plain, Fun}
use Rattle.terms.specs.declared.parts.Decl.{Decl}
use Rattle.terms.specs.declared.parts.Parts.{Parts}
use Rattle.java_shapes.specs.Readable.{AreShort}
use Rattle.java_resolve.specs.Found.{Found, none, one, two, IsFound}
use Rattle.java_resolve.specs.Faults.{FaultAt}
use Rattle.java_resolve.specs.Reading.{IsReading}
use Rattle.java_resolve.specs.Resolved.{IsKnownText, ResolvesTo, IsFaultOf}
use Rattle.java_resolve.specs.declared.fault.TextFault.{TextFault}
use Rattle.java_resolve.specs.declared.fault.TextFault.TheVariants as fault

-- rows of lambdas, argument by argument and declaration by declaration
pub short_more : (xs : List Arg) (x : Arg) → AreShort xs → AreShort (x ∷ []) → AreShort (xs ++ x ∷ [])
short_more [] x h k = k
short_more (Plain b ∷ xs) x h k = short_more xs x h k
short_more (Fun ps r ∷ xs) x h k = (h.0, short_more xs x h.1 k)

pub short_step : (xs : List Arg) (i : ℕ) (x : Arg) → i < length xs → x ≡ get_or xs i x → AreShort (take i xs) → AreShort (x ∷ []) → AreShort (take (i + 1) xs)
short_step xs i x l e h k = subst (λ z. AreShort z) (ap (λ z. take i xs ++ z ∷ []) e ∙ sym (take_more xs i x l)) (short_more (take i xs) x h k)

pub short_end : (xs : List Arg) (i : ℕ) → length xs ≤ i → AreShort (take i xs) → AreShort xs
short_end xs i l h = subst (λ z. AreShort z) (take_all i xs l) h

-- the declarations before a place
abbrev pub AreShortTo : ℕ → List Decl → Type 0
AreShortTo i ds = (k : ℕ) (d : Decl) → k < i → slice_get ds k ≡ Some d → AreShort d.args

get_some : (ds : List Decl) (k : ℕ) (c d : Decl) → slice_get ds k ≡ Some d → get_or ds k c ≡ d
get_some [] k c d e = absurd cc
get_some (x ∷ ds) zero c d e = cc
get_some (x ∷ ds) (suc k) c d e = get_some ds k c d e

get_below : (ds : List Decl) (k : ℕ) (d : Decl) → slice_get ds k ≡ Some d → k < length ds
get_below [] k d e = absurd cc
get_below (x ∷ ds) zero d e = omega arith
get_below (x ∷ ds) (suc k) d e = let h = get_below ds k d e in omega (arith, h)

pub decls_step : (ds : List Decl) (i : ℕ) (c : Decl) → c ≡ get_or ds i c → AreShortTo i ds → AreShort c.args → AreShortTo (i + 1) ds
decls_step ds i c e h s = λ k d l at. elim (eq-or-lt_of_le {n = k} {m = i} (omega (arith, l))) [
  | inr m ↦ h k d m at
  | inl q ↦ subst (λ z. AreShort z.args) (e ∙ ap (λ z. get_or ds z c) (sym q) ∙ get_some ds k c d at) s
]

pub decls_end : (ds : List Decl) (i : ℕ) → length ds ≤ i → AreShortTo i ds → (k : ℕ) (d : Decl) → slice_get ds k ≡ Some d → AreShort d.args
decls_end ds i l h k d at = let m = get_below ds k d at in h k d (omega (arith, m, l)) at

-- faults
pub fault_of : (g : Parts) (text : List ℕ) (f : TextFault) → FaultAt g (chars g.binder) (chars text) f → IsFaultOf g text f
fault_of g text fault.OutOfMemory h = tt
fault_of g text (fault.Syntax at) h = h
fault_of g text (fault.Unknown at) h = h
fault_of g text fault.WrongType h = absurd h
fault_of g text fault.TwoWays h = absurd h

-- what is found, by its cases
pub resolves : (g : Parts) (text : List ℕ) (f : Found Expr) (e t : Expr) → IsKnownText g text → IsFound (IsReading g text) f → f ≡ one e → t ≡ e → ResolvesTo g text t
unfolding IsFound
resolves g text f e t known h is same =
    let one_is : IsFound (IsReading g text) (one e) = subst (IsFound (IsReading g text)) is h in
    subst (ResolvesTo g text) (sym same) (record { known = known; reading = one_is.0; only = one_is.1 })

pub wrong_type : (g : Parts) (text : List ℕ) (f : Found Expr) → IsKnownText g text → IsFound (IsReading g text) f → f ≡ none → IsFaultOf g text fault.WrongType
unfolding IsFound
wrong_type g text f known h is = let none_is : IsFound (IsReading g text) none = subst (IsFound (IsReading g text)) is h in (known, none_is)

pub two_ways : (g : Parts) (text : List ℕ) (f : Found Expr) → IsKnownText g text → IsFound (IsReading g text) f → f ≡ two → IsFaultOf g text fault.TwoWays
unfolding IsFound
two_ways g text f known h is = let two_are : IsFound (IsReading g text) two = subst (IsFound (IsReading g text)) is h in (known, two_are)
