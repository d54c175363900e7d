-- One item of a list of parameters more: what was said of the items before, and then what is said of the rest.
use Rattle.std.proofs.Common.{◌≡◌, ◌∙◌, ap, sym, ℕ, suc, ◌+◌, Bool, true, false, ◌&&◌, List, [], ◌∷◌, ◌++◌, length, Option, Some, None, Result, Ok, Err, refl, append_assoc, append-nil, arith}
use Rattle.std.proofs.lemmas.List.{length-append}
use Rattle.serde_json.specs.Data.{Data, no_items}
use Rattle.serde_json.specs.View.{view, items_view}
use Rattle.serde_json.specs.declared.value.Value.{Value}
use Rattle.lsp_forms.specs.Commands.{size}
use Rattle.lsp_forms.specs.Params.{both, each, every, first_or, numbered, item_fault}
use Rattle.lsp_forms.specs.declared.forms.ParamFault.{ParamFault}

-- What was read before, and then what is to come, where it is well formed.
abbrev pub after : {X : Type 0} → List X → Option (List X) → Option (List X)
after done None = None
after done (Some more) = Some (done ++ more)

pub after-none : {X : Type 0} (o : Option (List X)) → o ≡ after [] o
after-none None = refl
after-none (Some xs) = refl

no_values : (vs : List Value) → length vs ≡ 0 → items_view vs ≡ no_items
no_values [] e = refl
no_values (v ∷ vs) e = absurd (omega arith)

with_step : {X : Type 0} (done : List X) (x : X) (o : Option (List X)) → after done (both (Some x) o) ≡ after (done ++ x ∷ []) o
unfolding both
with_step done x None = refl
with_step done x (Some xs) = ap Some (sym (append_assoc done (x ∷ []) xs))

pub each-more : {X : Type 0} (f : Data → Option X) (all : Option (List X)) (done new : List X) (v : Value) (rest more : List Value) (x : X) → all ≡ after done (each f (items_view rest)) → rest ≡ v ∷ more → f (view v) ≡ Some x → new ≡ done ++ x ∷ [] → all ≡ after new (each f (items_view more))
unfolding each
each-more f all done new v rest more x e r w n =
    e ∙ ap (λ vs. after done (each f (items_view vs))) r ∙ ap (λ o. after done (both o (each f (items_view more)))) w
    ∙ with_step done x (each f (items_view more)) ∙ ap (λ l. after l (each f (items_view more))) (sym n)

pub each-stop : {X : Type 0} (f : Data → Option X) (all : Option (List X)) (done : List X) (v : Value) (rest more : List Value) → all ≡ after done (each f (items_view rest)) → rest ≡ v ∷ more → f (view v) ≡ None → None ≡ all
unfolding each both
each-stop f all done v rest more e r w =
    sym (e ∙ ap (λ vs. after done (each f (items_view vs))) r ∙ ap (λ o. after done (both o (each f (items_view more)))) w)

pub each-end : {X : Type 0} (f : Data → Option X) (all : Option (List X)) (done : List X) (rest : List Value) → all ≡ after done (each f (items_view rest)) → length rest ≡ 0 → Some done ≡ all
unfolding each
each-end f all done rest e n = sym (e ∙ ap (λ ds. after done (each f ds)) (no_values rest n) ∙ ap Some (append-nil done))

-- The same of a test.
pub every-more : (p : Data → Bool) (all : Bool) (v : Value) (rest more : List Value) → all ≡ every p (items_view rest) → rest ≡ v ∷ more → p (view v) ≡ true → all ≡ every p (items_view more)
unfolding every
every-more p all v rest more e r w = e ∙ ap (λ vs. every p (items_view vs)) r ∙ ap (λ b. b && every p (items_view more)) w

pub every-stop : (p : Data → Bool) (all : Bool) (v : Value) (rest more : List Value) → all ≡ every p (items_view rest) → rest ≡ v ∷ more → p (view v) ≡ false → false ≡ all
unfolding every
every-stop p all v rest more e r w = sym (e ∙ ap (λ vs. every p (items_view vs)) r ∙ ap (λ b. b && every p (items_view more)) w)

pub every-end : (p : Data → Bool) (all : Bool) (rest : List Value) → all ≡ every p (items_view rest) → length rest ≡ 0 → true ≡ all
unfolding every
every-end p all rest e n = sym (e ∙ ap (every p) (no_values rest n))

-- The same of the first item that is refused.
abbrev pub from : {X : Type 0} → List X → Result (List X) ParamFault → Result (List X) ParamFault
from done (Err e) = Err e
from done (Ok more) = Ok (done ++ more)

pub from-none : {X : Type 0} (o : Result (List X) ParamFault) → o ≡ from [] o
from-none (Err e) = refl
from-none (Ok xs) = refl

from_step : {X : Type 0} (done : List X) (x : X) (e : ParamFault) (o : Result (List X) ParamFault) → from done (first_or (Some x) e o) ≡ from (done ++ x ∷ []) o
unfolding first_or
from_step done x e (Err f) = refl
from_step done x e (Ok xs) = ap Ok (sym (append_assoc done (x ∷ []) xs))

pub numbered-more : {X : Type 0} (cause : ℕ) (f : Data → Option X) (n : ℕ) (all : Result (List X) ParamFault) (done new : List X) (v : Value) (rest more : List Value) (x : X) → all ≡ from done (numbered cause f (n + length done) (items_view rest)) → rest ≡ v ∷ more → f (view v) ≡ Some x → new ≡ done ++ x ∷ [] → all ≡ from new (numbered cause f (n + length new) (items_view more))
unfolding numbered
numbered-more {X} cause f n all done new v rest more x e r w m =
    let longer : n + length new ≡ n + length done + 1 = omega (arith, ap length m, length-append done (x ∷ [])) in
    e ∙ ap (λ vs. from done (numbered cause f (n + length done) (items_view vs))) r
    ∙ ap (λ o. from done (first_or o (item_fault cause (n + length done)) (numbered cause f (n + length done + 1) (items_view more)))) w
    ∙ from_step done x (item_fault cause (n + length done)) (numbered cause f (n + length done + 1) (items_view more))
    ∙ ap (λ l. from l (numbered cause f (n + length done + 1) (items_view more))) (sym m)
    ∙ ap (λ k. from new (numbered cause f k (items_view more))) (sym longer)

pub numbered-start : {X : Type 0} (cause : ℕ) (f : Data → Option X) (n : ℕ) (done : List X) (rest : List Value) → done ≡ [] → numbered cause f n (items_view rest) ≡ from done (numbered cause f (n + length done) (items_view rest))
numbered-start cause f n done rest e =
    let none : n ≡ n + length done = omega (arith, ap length e) in
    ap (λ k. numbered cause f k (items_view rest)) none ∙ from-none (numbered cause f (n + length done) (items_view rest)) ∙ ap (λ l. from l (numbered cause f (n + length done) (items_view rest))) (sym e)

pub numbered-stop : {X : Type 0} (cause : ℕ) (f : Data → Option X) (n : ℕ) (all : Result (List X) ParamFault) (done : List X) (v : Value) (rest more : List Value) → all ≡ from done (numbered cause f (n + length done) (items_view rest)) → rest ≡ v ∷ more → f (view v) ≡ None → all ≡ Err (item_fault cause (n + length done))
unfolding numbered first_or
numbered-stop cause f n all done v rest more e r w =
    e ∙ ap (λ vs. from done (numbered cause f (n + length done) (items_view vs))) r
    ∙ ap (λ o. from done (first_or o (item_fault cause (n + length done)) (numbered cause f (n + length done + 1) (items_view more)))) w

pub numbered-end : {X : Type 0} (cause : ℕ) (f : Data → Option X) (n : ℕ) (all : Result (List X) ParamFault) (done : List X) (rest : List Value) → all ≡ from done (numbered cause f (n + length done) (items_view rest)) → length rest ≡ 0 → all ≡ Ok done
unfolding numbered
numbered-end cause f n all done rest e k = e ∙ ap (λ ds. from done (numbered cause f (n + length done) ds)) (no_values rest k) ∙ ap Ok (append-nil done)

-- How many items a list has.
pub size-is : (vs : List Value) → size (items_view vs) ≡ length vs
unfolding size
size-is [] = refl
size-is (v ∷ vs) = ap suc (size-is vs)

pub ruleset starts = (after-none, from-none)
