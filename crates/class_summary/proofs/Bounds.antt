-- Variables, their bounds and their scopes.
use Rattle.std.proofs.Common.{◌≡◌, ◌∙◌, ap, sym, refl, arith, ℕ, zero, suc, ◌+◌, ◌<◌, ◌≤◌, Bool, true, false, List, [], ◌∷◌, length, take, drop, get_or, add-one, bytes_eq, if◌then◌else◌, Option, Some, None, Result, Ok, Err, IfOk}
use Rattle.std.specs.Option.{option_copied, option_map}
use Rattle.std.proofs.lemmas.List.{drop_all, drop_more}
use Rattle.std.proofs.lemmas.Option.{slice_get_read}
use Rattle.java_units.specs.declared.types.TypeText.{TypeText}
use Rattle.java_units.specs.declared.types.TypeVar.{TypeVar}
use Rattle.known_classes.specs.NameTables.{Table}
use Rattle.known_classes.proofs.TableLemmas.{swap}
use Rattle.class_summary.specs.declared.ends.Ending.{Ending}
use Rattle.class_summary.specs.VariableTables.{bound_at}
use Rattle.class_summary.specs.Variables.{Scope, End, Found, bound_of, found_here, variable_in, end_at, variables}

bound-nil : (name : List ℕ) → bound_of name [] ≡ None
unfolding bound_of
bound-nil name = refl

bound-cons : (name : List ℕ) (v : TypeVar) (vs : List TypeVar) → bound_of name (v ∷ vs) ≡ (if bytes_eq name v.name then Some v.bound else bound_of name vs)
unfolding bound_of
bound-cons name v vs = refl

-- the table of the variables from this place on
pub record GiveBoundsFrom (vars : List TypeVar) (left : ℕ) (table : Table) : Type 0 where
  pub within : left ≤ length vars
  pub each : (name : List ℕ) → bound_at vars (table name) ≡ bound_of name (drop left vars)

pub bounds_none : (vars : List TypeVar) (n : ℕ) (table : Table) → n ≡ length vars → ((name : List ℕ) → table name ≡ None) → GiveBoundsFrom vars n table
bounds_none vars n table e h = record {
  within = omega arith;
  each = λ name. ap (bound_at vars) (h name) ∙ sym (ap (bound_of name) (drop_all n vars (omega arith)) ∙ bound-nil name);
}

bound-if : (vars : List TypeVar) (b : Bool) (k : ℕ) (o : Option ℕ) → bound_at vars (if b then Some k else o) ≡ (if b then bound_at vars (Some k) else bound_at vars o)
bound-if vars true k o = refl
bound-if vars false k o = refl

pub bounds_on : (vars : List TypeVar) (left k : ℕ) (v : TypeVar) (text : List ℕ) (old new : Table) → k + 1 ≡ left → v ≡ get_or vars k v → text ≡ v.name → ((name : List ℕ) → new name ≡ (if bytes_eq text name then Some k else old name)) → GiveBoundsFrom vars left old → GiveBoundsFrom vars k new
bounds_on vars left k v text old new e at t p h = record {
  within = omega (arith, h.within);
  each = λ name.
      let l : k < length vars = omega (arith, h.within) in
      let d : drop k vars ≡ v ∷ drop (k + 1) vars = drop_more vars k v l ∙ ap (λ (y : TypeVar). y ∷ drop (k + 1) vars) (sym at) in
      let b : bytes_eq text name ≡ bytes_eq name v.name = swap text name ∙ ap (bytes_eq name) t in
      let got : bound_at vars (Some k) ≡ Some v.bound = ap (option_map (λ (x : TypeVar). x.bound)) (slice_get_read vars (length vars) k v refl l at) in
      let more : bound_at vars (old name) ≡ bound_of name (drop (k + 1) vars) = h.each name ∙ ap (λ (j : ℕ). bound_of name (drop j vars)) (sym e) in
      ap (bound_at vars) (p name) ∙ (bound-if vars (bytes_eq text name) k (old name) ∙ (ap (λ (y : Bool). if y then bound_at vars (Some k) else bound_at vars (old name)) b ∙ (ap (λ (q : Option (Option TypeText)). if bytes_eq name v.name then q else bound_at vars (old name)) got ∙ (ap (λ (q : Option (Option TypeText)). if bytes_eq name v.name then Some v.bound else q) more ∙ sym (ap (bound_of name) d ∙ bound-cons name v (drop (k + 1) vars))))));
}

pub bounds_end : (vars : List TypeVar) (left : ℕ) (table : Table) → left ≤ 0 → GiveBoundsFrom vars left table → (name : List ℕ) → bound_at vars (table name) ≡ bound_of name vars
bounds_end vars left table l h name =
    let z : left ≡ 0 = omega arith in
    h.each name ∙ ap (λ (k : ℕ). bound_of name (drop k vars)) z

variable-cons : (name : List ℕ) (s : Scope) (ss : List Scope) → variable_in name (s ∷ ss) ≡ found_here s ss (bound_of name s.vars) (variable_in name ss)
unfolding variable_in
variable-cons name s ss = refl

variable-nil : (name : List ℕ) → variable_in name [] ≡ None
unfolding variable_in
variable-nil name = refl

-- the scope at this place declares no such variable
pub scope_past : (name : List ℕ) (whole : Option Found) (ss : List Scope) (i : ℕ) (s : Scope) → i < length ss → s ≡ get_or ss i s → bound_of name s.vars ≡ None → whole ≡ variable_in name (drop i ss) → whole ≡ variable_in name (drop (i + 1) ss)
scope_past name whole ss i s l at e h =
    let d : drop i ss ≡ s ∷ drop (i + 1) ss = drop_more ss i s l ∙ ap (λ (y : Scope). y ∷ drop (i + 1) ss) (sym at) in
    h ∙ (ap (variable_in name) d ∙ (variable-cons name s (drop (i + 1) ss) ∙ ap (λ (q : Option (Option TypeText)). found_here s (drop (i + 1) ss) q (variable_in name (drop (i + 1) ss))) e))

-- it declares one
pub scope_hit : (name : List ℕ) (whole : Option Found) (ss : List Scope) (i : ℕ) (s : Scope) (b : Option TypeText) → i < length ss → s ≡ get_or ss i s → bound_of name s.vars ≡ Some b → whole ≡ variable_in name (drop i ss) → whole ≡ Some (record { bound = b; class = s.class; scopes = drop i ss })
scope_hit name whole ss i s b l at e h =
    let d : drop i ss ≡ s ∷ drop (i + 1) ss = drop_more ss i s l ∙ ap (λ (y : Scope). y ∷ drop (i + 1) ss) (sym at) in
    h ∙ (ap (variable_in name) d ∙ (variable-cons name s (drop (i + 1) ss) ∙ (ap (λ (q : Option (Option TypeText)). found_here s (drop (i + 1) ss) q (variable_in name (drop (i + 1) ss))) e ∙ ap (λ (q : List Scope). let f : Found = record { bound = b; class = s.class; scopes = q } in Some f) (sym d))))

pub scope_end : (name : List ℕ) (whole : Option Found) (ss : List Scope) (i : ℕ) → length ss ≤ i → whole ≡ variable_in name (drop i ss) → whole ≡ None
scope_end name whole ss i l h = h ∙ (ap (variable_in name) (drop_all i ss l) ∙ variable-nil name)

variables-take : (ss : List Scope) (i : ℕ) (d : Scope) → i < length ss → variables (take (suc i) ss) ≡ variables (take i ss) + length (get_or ss i d).vars
variables-take [] i d l = absurd (omega arith)
variables-take (s ∷ ss) zero d l = omega arith
variables-take (s ∷ ss) (suc i) d l = omega (arith, variables-take ss i d (omega arith))

-- one more than the variables of the scopes up to here, with those of the next
pub steps_on : (ss : List Scope) (i : ℕ) (s : Scope) (old new : ℕ) → i < length ss → s ≡ get_or ss i s → new ≡ old + length s.vars → old ≡ suc (variables (take i ss)) → new ≡ suc (variables (take (i + 1) ss))
steps_on ss i s old new l at e h =
    let t : variables (take (i + 1) ss) ≡ variables (take i ss) + length (get_or ss i s).vars = ap (λ (k : ℕ). variables (take k ss)) (add-one i) ∙ variables-take ss i s l in
    let v : length s.vars ≡ length (get_or ss i s).vars = ap (λ (x : Scope). length x.vars) at in
    omega (arith, t, v, e, h)

-- an end that was made so
pub ended_with : {E : Type 0} (r : Result Ending E) (dims : Option ℕ) (class : ℕ) (parts : Option (List (List ℕ))) (whole : End) → IfOk r (λ end. (dims ≡ Some end.dims) × (end.class ≡ class) × (option_copied end.parts ≡ parts)) → ((d : ℕ) → dims ≡ Some d → end_at d class parts ≡ whole) → IfOk r (λ end. end_at end.dims end.class (option_copied end.parts) ≡ whole)
ended_with (Ok e) dims class parts whole h f =
    ap (λ (k : ℕ). end_at e.dims k (option_copied e.parts)) h.1 ∙ (ap (end_at e.dims class) h.2 ∙ f e.dims h.0)
ended_with (Err e) dims class parts whole h f = tt
