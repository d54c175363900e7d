-- What stands around a place within frames.
use Rattle.std.proofs.Common.{◌≡◌, ◌∙◌, ap, sym, refl, arith, ℕ, suc, ◌-◌, ◌<◌, List, [], ◌∷◌, ◌++◌, length, slice_get, Option, Some, None, is_some, not, Bool, true, false}
use Rattle.std.proofs.lemmas.Option.{slice_get-get_or}
use Rattle.java_shapes.specs.Reader.{Around, top, may_cast, is_barred}
use Rattle.java_resolve.specs.declared.place.Frame.{Frame}
use Rattle.java_resolve.specs.declared.place.Frame.TheVariants.{Call, Body, Group}
use Rattle.java_resolve.specs.declared.place.Call.{Call as OpenCall}
use Rattle.java_resolve.specs.View.{framed, around_in, around}

-- one frame more, the innermost
pub around_in-append : (a : Around) (fs : List Frame) (f : Frame) → around_in a (fs ++ f ∷ []) ≡ framed f (around_in a fs)
unfolding around_in
around_in-append a [] f = refl
around_in-append a (g ∷ fs) f = around_in-append (framed g a) fs f

pub around_append : (fs : List Frame) (f : Frame) → around (fs ++ f ∷ []) ≡ framed f (around fs)
around_append fs f = around_in-append top fs f

pub around_nil : around [] ≡ top
unfolding around_in
around_nil = refl

-- the innermost frame
last_in : (a : Around) (f : Frame) (fs : List Frame) (m : Frame) → slice_get (f ∷ fs) (length fs) ≡ Some m → (b : Around) × (around_in a (f ∷ fs) ≡ framed m b)
unfolding around_in
last_in a f [] m e = (a, ap (λ x. framed x a) (cc))
last_in a f (g ∷ fs) m e = last_in (framed f a) g fs m e

before_last : (n : ℕ) → suc n - 1 ≡ n
before_last n = omega arith

pub last_of : (fs : List Frame) (m : Frame) → slice_get fs (length fs - 1) ≡ Some m → (b : Around) × (around fs ≡ framed m b)
last_of [] m e = absurd (cc)
last_of (f ∷ fs) m e = last_in top f fs m (sym (ap (slice_get (f ∷ fs)) (before_last (length fs))) ∙ e)

pub none_of : (fs : List Frame) → slice_get fs (length fs - 1) ≡ None → around fs ≡ top
unfolding around_in
none_of [] e = refl
none_of (f ∷ fs) e =
    let l : length fs < length (f ∷ fs) = omega arith in
    let s = slice_get-get_or (f ∷ fs) (length fs) f l in
    let n : slice_get (f ∷ fs) (length fs) ≡ None = sym (ap (slice_get (f ∷ fs)) (before_last (length fs))) ∙ e in
    absurd (cc)

cast_framed : (m : Frame) (b : Around) (c : Option (List ℕ)) → may_cast (framed m b) c ≡ not (is_some c)
cast_framed (Call d o) b None = refl
cast_framed (Call d o) b (Some t) = refl
cast_framed (Body d s bs) b None = refl
cast_framed (Body d s bs) b (Some t) = refl
cast_framed (Group d) b None = refl
cast_framed (Group d) b (Some t) = refl

pub cast_none : (fs : List Frame) (c : Option (List ℕ)) → slice_get fs (length fs - 1) ≡ None → false ≡ may_cast (around fs) c
cast_none fs c e = sym (ap (λ a. may_cast a c) (none_of fs e))

pub cast_some : (fs : List Frame) (m : Frame) (c : Option (List ℕ)) → slice_get fs (length fs - 1) ≡ Some m → not (is_some c) ≡ may_cast (around fs) c
cast_some fs m c e = let h = last_of fs m e in sym (cast_framed m h.0 c) ∙ sym (ap (λ a. may_cast a c) h.1)

pub barred_none : (fs : List Frame) (c : Option (List ℕ)) → slice_get fs (length fs - 1) ≡ None → false ≡ is_barred (around fs) c
barred_none fs c e = sym (ap (λ a. is_barred a c) (none_of fs e))

group_barred : (d c : Option (List ℕ)) (b : Around) → is_barred (framed (Group d) b) c ≡ not (is_some c)
group_barred d None b = refl
group_barred d (Some t) b = refl

pub barred_call : (fs : List Frame) (d : Option (List ℕ)) (o : OpenCall) (c : Option (List ℕ)) → slice_get fs (length fs - 1) ≡ Some (Call d o) → false ≡ is_barred (around fs) c
barred_call fs d o c e = let h = last_of fs (Call d o) e in sym (ap (λ a. is_barred a c) h.1)

pub barred_body : (fs : List Frame) (d : Option (List ℕ)) (s : List ℕ) (bs : List (List ℕ)) (c : Option (List ℕ)) → slice_get fs (length fs - 1) ≡ Some (Body d s bs) → false ≡ is_barred (around fs) c
barred_body fs d s bs c e = let h = last_of fs (Body d s bs) e in sym (ap (λ a. is_barred a c) h.1)

pub barred_group : (fs : List Frame) (d c : Option (List ℕ)) → slice_get fs (length fs - 1) ≡ Some (Group d) → not (is_some c) ≡ is_barred (around fs) c
barred_group fs d c e = let h = last_of fs (Group d) e in sym (group_barred d c h.0) ∙ sym (ap (λ a. is_barred a c) h.1)

-- what says that there is none, the other way round
pub none_is : (r s : Bool) → s ≡ not r → r ≡ not s
none_is true s e = sym (ap not e)
none_is false s e = sym (ap not e)
