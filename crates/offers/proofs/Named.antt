-- Classes by their canonical names.
use Rattle.std.proofs.Common.{◌≡◌, ◌∙◌, ap, sym, arith, refl, ℕ, suc, ◌+◌, ◌-◌, ◌<◌, ◌≤◌, Bool, true, false, cond, List, Option, Some, None}
use Rattle.std.specs.Prelude.{codes, option_map, unwrap_or}
use Rattle.java_units.specs.declared.types.Unit as unit
use Rattle.known_classes.specs.declared.summary.ClassSummary.{ClassSummary}
use Rattle.known_classes.specs.Known.{class_by_canonical}
use Rattle.class_summary.specs.Sources.{joined, internal_name}
use Rattle.class_summary.specs.declared.rules.Denoted.{Denoted}
use Rattle.class_summary.specs.declared.rules.Denoted.TheVariants.{Other}
use Rattle.class_summary.specs.Names.{first_from, own_by_canonical, other, class_with, spelled, internal_of}

-- a search from a number on
first-zero : (i : ℕ) (t : ℕ → Bool) → first_from 0 i t ≡ None
unfolding first_from
first-zero i t = refl

first-suc : (n i : ℕ) (t : ℕ → Bool) → first_from (suc n) i t ≡ cond (t i) (Some i) (first_from n (suc i) t)
unfolding first_from
first-suc n i t = refl

first-more : (n k : ℕ) (t : ℕ → Bool) → k < n → first_from (n - k) k t ≡ cond (t k) (Some k) (first_from (n - (k + 1)) (k + 1) t)
first-more n k t l =
    let a : n - k ≡ suc (n - (k + 1)) = omega arith in
    let b : suc k ≡ k + 1 = omega arith in
    ap (λ m. first_from m k t) a ∙ first-suc (n - (k + 1)) k t ∙ ap (λ i. cond (t k) (Some k) (first_from (n - (k + 1)) i t)) b

pub first-hit : (whole : Option ℕ) (n k : ℕ) (t : ℕ → Bool) → k < n → whole ≡ first_from (n - k) k t → t k ≡ true → Some k ≡ whole
first-hit whole n k t l h e = sym (h ∙ first-more n k t l ∙ ap (λ b. cond b (Some k) (first_from (n - (k + 1)) (k + 1) t)) e)

pub first-on : (whole : Option ℕ) (n k : ℕ) (t : ℕ → Bool) → k < n → whole ≡ first_from (n - k) k t → t k ≡ false → whole ≡ first_from (n - (k + 1)) (k + 1) t
first-on whole n k t l h e = h ∙ first-more n k t l ∙ ap (λ b. cond b (Some k) (first_from (n - (k + 1)) (k + 1) t)) e

pub first-end : (whole : Option ℕ) (n k : ℕ) (t : ℕ → Bool) → n ≤ k → whole ≡ first_from (n - k) k t → None ≡ whole
first-end whole n k t l h = let a : n - k ≡ 0 = omega arith in sym (h ∙ ap (λ m. first_from m k t) a ∙ first-zero k t)

-- a class of the text comes before a known one
pub with-own : (u : unit.Unit) (known : List ClassSummary) (name : List ℕ) (i : ℕ) (text : List ℕ) → own_by_canonical u name ≡ Some i → text ≡ internal_name u i → Some text ≡ option_map (internal_of u) (class_with u known name)
unfolding class_with
with-own u known name i text e f = rw e (ap Some f)

other-name : (u : unit.Unit) (c : Option ClassSummary) → option_map (λ c. c.name) c ≡ option_map (internal_of u) (other c)
other-name u None = refl
other-name u (Some c) = refl

pub with-other : (u : unit.Unit) (known : List ClassSummary) (name : List ℕ) (found : Option (List ℕ)) → own_by_canonical u name ≡ None → found ≡ option_map (λ c. c.name) (class_by_canonical known known name) → found ≡ option_map (internal_of u) (class_with u known name)
unfolding class_with
with-other u known name found e f = rw e (f ∙ other-name u (class_by_canonical known known name))

spelled-by : (u : unit.Unit) (o : Option Denoted) (d : Denoted) (text : List ℕ) → Some text ≡ option_map (internal_of u) o → text ≡ internal_of u (unwrap_or o d)
spelled-by u None d text e = absurd (let h = e in cc)
spelled-by u (Some x) d text e = let h = e in cc

-- where such a class is, its name is what is spelled, else the parts joined by `/`
pub spelled-some : (u : unit.Unit) (known : List ClassSummary) (parts : List (List ℕ)) (dotted : List ℕ) (found : Option (List ℕ)) (text : List ℕ) → dotted ≡ joined (codes ".") parts → found ≡ option_map (internal_of u) (class_with u known dotted) → found ≡ Some text → text ≡ internal_of u (spelled u known parts)
unfolding spelled
spelled-some u known parts dotted found text d e f =
    spelled-by u (class_with u known (joined (codes ".") parts)) (Other (joined (codes "/") parts)) text (sym f ∙ e ∙ ap (λ t. option_map (internal_of u) (class_with u known t)) d)

spelled-not : (u : unit.Unit) (o : Option Denoted) (name text : List ℕ) → None ≡ option_map (internal_of u) o → text ≡ name → text ≡ internal_of u (unwrap_or o (Other name))
spelled-not u None name text e f = f
spelled-not u (Some x) name text e f = absurd (let h = e in cc)

pub spelled-none : (u : unit.Unit) (known : List ClassSummary) (parts : List (List ℕ)) (dotted : List ℕ) (found : Option (List ℕ)) (text : List ℕ) → dotted ≡ joined (codes ".") parts → found ≡ option_map (internal_of u) (class_with u known dotted) → found ≡ None → text ≡ joined (codes "/") parts → text ≡ internal_of u (spelled u known parts)
unfolding spelled
spelled-none u known parts dotted found text d e f g =
    spelled-not u (class_with u known (joined (codes ".") parts)) (joined (codes "/") parts) text (sym f ∙ e ∙ ap (λ t. option_map (internal_of u) (class_with u known t)) d) g
