-- Weights within their ranges, as a test and as what it tells.
use Rattle.std.proofs.Common.{◌≡◌, ◌∙◌, ◌≤◌, ◌+◌, ℕ, Bool, true, false, ◌&&◌, nat_le, sym, ap, subst, refl, Option, Some, None, Result, Ok, Err}
use Rattle.std.specs.Prelude.{if◌then◌else◌}
use Rattle.std.specs.List.{list_all}
use Rattle.std.proofs.lemmas.Bool.{le-leb, leb-true, and_parts, false≢true}
use Rattle.serde_json.specs.Data.{Data}
use Rattle.decl_index.specs.declared.weights.Weights.{Weights}
use Rattle.decl_index.specs.Weighing.{AreWeights}
use Rattle.json_rpc.specs.declared.message.Refused.{Refused}
use Rattle.json_rpc.specs.declared.message.Refused.TheVariants.{Fault}
use Rattle.lsp_forms.specs.Params.{RefusedAs, fault}
use Rattle.lsp_forms.specs.declared.forms.ParamFault.{ParamFault}
use Rattle.lsp_forms.specs.declared.forms.Command.{Command}
use Rattle.lsp_forms.specs.declared.forms.Command.TheVariants.{SetWeights}
use Rattle.lsp_forms.specs.Weighing.{weight_names, is_number, is_word, weights_in, is_within, may_weigh, weights_of}

both_true : (a b : Bool) → a ≡ true → b ≡ true → (a && b) ≡ true
both_true true b p q = q
both_true false b p q = absurd (false≢true p)

within_true : (low high n : ℕ) → (low ≤ n) × (n ≤ high) → is_within low high n ≡ true
within_true low high n p = both_true (nat_le low n) (nat_le n high) (le-leb low n p.0) (le-leb n high p.1)

true_within : (low high n : ℕ) → is_within low high n ≡ true → (low ≤ n) × (n ≤ high)
true_within low high n e = let p = and_parts (nat_le low n) (nat_le n high) e in (leb-true low n p.0, leb-true n high p.1)

pub may-from-are : (w : Weights) → AreWeights w → may_weigh w ≡ true
unfolding may_weigh
may-from-are w a =
    both_true _ _ (within_true 1 100 w.bound a.bound) (both_true _ _ (within_true 1 100 w.binder a.binder) (both_true _ _ (within_true 1 10000 w.step a.step)
    (both_true _ _ (within_true 5 10000 w.local a.local) (both_true _ _ (within_true 5 10000 w.lambda a.lambda) (both_true _ _ (within_true 5 10000 w.own a.own)
    (both_true _ _ (within_true 5 10000 w.«package» a.near) (both_true _ _ (within_true 5 10000 w.literal a.literal)
    (both_true _ _ (le-leb 5 w.far a.far.0) (le-leb (w.far + w.span) 10000 a.far.1)))))))))

pub are-from-may : (w : Weights) → may_weigh w ≡ true → AreWeights w
unfolding may_weigh
are-from-may w e =
    let a = and_parts _ _ e in
    let b = and_parts _ _ a.1 in
    let c = and_parts _ _ b.1 in
    let d = and_parts _ _ c.1 in
    let f = and_parts _ _ d.1 in
    let g = and_parts _ _ f.1 in
    let h = and_parts _ _ g.1 in
    let i = and_parts _ _ h.1 in
    let j = and_parts _ _ i.1 in
    record {
      bound = true_within 1 100 w.bound a.0;
      binder = true_within 1 100 w.binder b.0;
      step = true_within 1 10000 w.step c.0;
      local = true_within 5 10000 w.local d.0;
      lambda = true_within 5 10000 w.lambda f.0;
      own = true_within 5 10000 w.own g.0;
      near = true_within 5 10000 w.«package» h.0;
      literal = true_within 5 10000 w.literal i.0;
      far = (leb-true 5 w.far j.0, leb-true (w.far + w.span) 10000 j.1);
    }

may-not : (b : Bool) → (b ≡ true → ⊥) → b ≡ false
may-not true denied = absurd (denied refl)
may-not false denied = refl

-- What is read, by whether all ten are numbers, are of 32 bits, and are in their ranges.
pub weights-missing : (o : Option Data) → list_all (is_number o) weight_names ≡ false → weights_of o ≡ Err (fault 1)
unfolding weights_of
weights-missing o e = rw e refl

some_of : {X : Type 0} (b : Bool) (x y : X) → Some y ≡ (if b then Some x else None) → (b ≡ true) × (y ≡ x)
some_of true x y e = (refl, cc)
some_of false x y e = absurd cc

none_of : {X : Type 0} (b : Bool) (x : X) → None ≡ (if b then Some x else None) → b ≡ false
none_of true x e = absurd cc
none_of false x e = refl

pub weights-wide : (o : Option Data) → list_all (is_number o) weight_names ≡ true → None ≡ (if list_all (is_word o) weight_names then Some (weights_in o) else None) → weights_of o ≡ Err (fault 2)
unfolding weights_of
weights-wide o e n = rw (e, none_of (list_all (is_word o) weight_names) (weights_in o) n) refl

pub weights-refused : (o : Option Data) (w : Weights) → list_all (is_number o) weight_names ≡ true → Some w ≡ (if list_all (is_word o) weight_names then Some (weights_in o) else None) → (AreWeights w → ⊥) → weights_of o ≡ Err (fault 2)
unfolding weights_of
weights-refused o w e s denied =
    let t = some_of (list_all (is_word o) weight_names) (weights_in o) w s in
    let f : may_weigh (weights_in o) ≡ false = may-not (may_weigh (weights_in o)) (λ y. denied (are-from-may w (ap may_weigh t.1 ∙ y))) in
    rw (e, t.0, f) refl

pub weights-set : (o : Option Data) (w x : Weights) → list_all (is_number o) weight_names ≡ true → Some w ≡ (if list_all (is_word o) weight_names then Some (weights_in o) else None) → (x ≡ w) × AreWeights w → weights_of o ≡ Ok (SetWeights x)
unfolding weights_of
weights-set o w x e s a =
    let t = some_of (list_all (is_word o) weight_names) (weights_in o) w s in
    let f : may_weigh (weights_in o) ≡ true = ap may_weigh (sym t.1) ∙ may-from-are w a.1 in
    rw (e, t.0, f) (ap (λ y. Ok (SetWeights y)) (sym t.1 ∙ sym a.0))

-- A refusal is the fault that it tells.
pub refused-as : (wanted : Result Command ParamFault) (e : Refused ParamFault) (n : ℕ) → e ≡ Fault (fault n) → wanted ≡ Err (fault n) → RefusedAs wanted e
refused-as wanted e n is w = subst (RefusedAs wanted) (sym is) w
