-- Where the last word of a name stands tells its receiver, and which fields and methods it may be.
use Rattle.std.proofs.Common.{◌≡◌, ◌∙◌, ap, ap₂, sym, refl, ℕ, ◌&&◌, not, Bool, true, false, List, Option, Some, None, is_some, codes}
use Rattle.std.proofs.lemmas.Bool.{and_parts, false≢true}
use Rattle.terms.specs.declared.parts.Form.TheVariants as form
use Rattle.java_shapes.specs.Shape.{Shape, named, called, Before, nothing, Shapes, shapes}
use Rattle.java_shapes.specs.ShapeOf.{before_of, path_of, method_shape, field_shape}
use Rattle.java_shapes.proofs.WordFacts.{and_both, Lacks, lacks_not}
use Rattle.java_shapes.proofs.Shaped.{named_is, called_is, nothing_left, path_left}
use Rattle.java_shapes.proofs.Told.{link_same}
use Rattle.java_resolve.specs.Found.{accepts, accepts_field}
use Rattle.java_resolve.specs.Reading.{Site, first, after_this, after, this_shape, IsSite, fields_of, methods_of}

none_cast : (c : Option (List ℕ)) → not (is_some c) ≡ true → c ≡ None
none_cast None q = refl
none_cast (Some k) q = absurd (false≢true q)

flag_true : (this h : Bool) (c : Option (List ℕ)) → ((this && not (is_some c)) && not h) ≡ true → (this ≡ true) × (c ≡ None) × (not h ≡ true)
flag_true this h c e =
    let a = and_parts (this && not (is_some c)) (not h) e in
    let b = and_parts this (not (is_some c)) a.0 in
    (b.0, none_cast c b.1, a.1)

hidden_by : (this h : Bool) (c : Option (List ℕ)) → this ≡ true → c ≡ None → ((this && not (is_some c)) && not h) ≡ false → h ≡ true
hidden_by this true c t n e = refl
hidden_by true false None t n e = absurd (false≢true (sym e))
hidden_by true false (Some k) t n e = absurd cc
hidden_by false false c t n e = absurd (false≢true t)

never_bare : (this : Bool) (c : Option (List ℕ)) → (this ≡ true → c ≡ None → ⊥) → (this && not (is_some c)) ≡ false
never_bare false c no_bare = refl
never_bare true (Some k) no_bare = refl
never_bare true None no_bare = absurd (no_bare refl refl)

never_left_out : (b h : Bool) → b ≡ false → (b && not h) ≡ false
never_left_out false h e = refl
never_left_out true h e = absurd (false≢true (sym e))

and_hidden : (b h : Bool) → h ≡ true → (b && not h) ≡ false
and_hidden true true e = refl
and_hidden false true e = refl
and_hidden b false e = absurd (false≢true e)

-- a field's receiver and word
pub record FieldBack (site : Site) (c d : Option (List ℕ)) (e f : Shape) (w v : List ℕ) (h : Bool) : Type 0 where
  pub casts : d ≡ c
  pub shapes : f ≡ e
  pub words : v ≡ w
  pub accepted : accepts_field (fields_of site) h ≡ true

pub field_back : (site : Site) (b : Before) (t : List ℕ) (c : Option (List ℕ)) (e : Shape) (w : List ℕ) → IsSite site b t c e w → Lacks 46 w → (d : Option (List ℕ)) (f : Shape) (v : List ℕ) (rest : Shapes) → Lacks 46 v → (this h flag : Bool) → (this ≡ true → f ≡ this_shape) → (f ≡ this_shape → this ≡ true) → ((this && not (is_some d)) && not h) ≡ flag → field_shape flag v (shapes d f rest) ≡ named b t → FieldBack site c d e f w v h
field_back first b t c e w s lw d f v rest lv this h true to from z q =
    let n = named_is nothing b v t q in
    let y = flag_true this h d z in
    record { casts = y.1 ∙ sym s.2; shapes = to y.0 ∙ sym s.3; words = n.1 ∙ s.1; accepted = y.2 }
field_back first b t c e w s lw d f v rest lv this h false to from z q =
    let n = named_is (before_of d f) b (path_of d f v) t q in
    let k = nothing_left d f (n.0 ∙ s.0) in
    absurd (lacks_not 46 w k.text v lw (sym s.1 ∙ sym n.1 ∙ path_left d f v k))
field_back after_this b t c e w s lw d f v rest lv this h true to from z q =
    let n = named_is nothing b v t q in
    absurd (lacks_not 46 v (codes "this") w lv (n.1 ∙ s.1))
field_back after_this b t c e w s lw d f v rest lv this h false to from z q =
    let n = named_is (before_of d f) b (path_of d f v) t q in
    let k = link_same d None f this_shape v w lv lw (n.0 ∙ s.0) (n.1 ∙ s.1) in
    record { casts = k.casts ∙ sym s.2; shapes = k.shapes ∙ sym s.3; words = k.words; accepted = hidden_by this h d (from k.shapes) k.casts z }
field_back after b t c e w s lw d f v rest lv this h true to from z q =
    let n = named_is nothing b v t q in
    let k = nothing_left c e (s.0 ∙ sym n.0) in
    absurd (lacks_not 46 v k.text w lv (n.1 ∙ sym s.1 ∙ path_left c e w k))
field_back after b t c e w s lw d f v rest lv this h false to from z q =
    let n = named_is (before_of d f) b (path_of d f v) t q in
    let k = link_same d c f e v w lv lw (n.0 ∙ sym s.0) (n.1 ∙ sym s.1) in
    record { casts = k.casts; shapes = k.shapes; words = k.words; accepted = refl }

pub field_fore : (site : Site) (b : Before) (t : List ℕ) (c : Option (List ℕ)) (e : Shape) (w : List ℕ) → IsSite site b t c e w → (rest : Shapes) (this h : Bool) → (this ≡ true → e ≡ this_shape) → (e ≡ this_shape → this ≡ true) → accepts_field (fields_of site) h ≡ true → field_shape ((this && not (is_some c)) && not h) w (shapes c e rest) ≡ named b t
field_fore first b t c e w s rest this h to from a =
    let flag : ((this && not (is_some c)) && not h) ≡ true = and_both (this && not (is_some c)) (not h) (and_both this (not (is_some c)) (from s.3) (ap (λ x. not (is_some x)) s.2)) a in
    ap (λ x. field_shape x w (shapes c e rest)) flag ∙ ap₂ named (sym s.0) (sym s.1)
field_fore after_this b t c e w s rest this h to from a =
    ap (λ x. field_shape x w (shapes c e rest)) (and_hidden (this && not (is_some c)) h a)
    ∙ ap₂ (λ x y. named (before_of x y) (path_of x y w)) s.2 s.3 ∙ ap₂ named (sym s.0) (sym s.1)
field_fore after b t c e w s rest this h to from a =
    ap (λ x. field_shape x w (shapes c e rest)) (never_left_out (this && not (is_some c)) h (never_bare this c (λ p n. s.2 n (to p))))
    ∙ ap₂ named s.0 s.1

-- a method's receiver, word and arguments
pub record MethodBack (site : Site) (c d : Option (List ℕ)) (e f : Shape) (w v : List ℕ) (args rest : Shapes) : Type 0 where
  pub casts : d ≡ c
  pub shapes : f ≡ e
  pub words : v ≡ w
  pub others : rest ≡ args
  pub accepted : (s : List ℕ) → accepts (methods_of site) (form.Method s) ≡ true

pub method_back : (site : Site) (b : Before) (t : List ℕ) (args : Shapes) (c : Option (List ℕ)) (e : Shape) (w : List ℕ) → IsSite site b t c e w → Lacks 46 w → (d : Option (List ℕ)) (f : Shape) (v : List ℕ) (rest : Shapes) → Lacks 46 v → (this flag : Bool) → (this ≡ true → f ≡ this_shape) → (f ≡ this_shape → this ≡ true) → (this && not (is_some d)) ≡ flag → method_shape flag v (shapes d f rest) ≡ called b t args → MethodBack site c d e f w v args rest
method_back first b t args c e w s lw d f v rest lv this true to from z q =
    let n = called_is nothing b v t rest args q in
    let y = and_parts this (not (is_some d)) z in
    record { casts = none_cast d y.1 ∙ sym s.2; shapes = to y.0 ∙ sym s.3; words = n.1 ∙ s.1; others = n.2; accepted = λ x. refl }
method_back first b t args c e w s lw d f v rest lv this false to from z q =
    let n = called_is (before_of d f) b (path_of d f v) t rest args q in
    let k = nothing_left d f (n.0 ∙ s.0) in
    absurd (lacks_not 46 w k.text v lw (sym s.1 ∙ sym n.1 ∙ path_left d f v k))
method_back after_this b t args c e w s lw d f v rest lv this true to from z q =
    let n = called_is nothing b v t rest args q in
    absurd (lacks_not 46 v (codes "this") w lv (n.1 ∙ s.1))
method_back after_this b t args c e w s lw d f v rest lv this false to from z q =
    let n = called_is (before_of d f) b (path_of d f v) t rest args q in
    let k = link_same d None f this_shape v w lv lw (n.0 ∙ s.0) (n.1 ∙ s.1) in
    let yes : (this && not (is_some d)) ≡ true = and_both this (not (is_some d)) (from k.shapes) (ap (λ x. not (is_some x)) k.casts) in
    absurd (false≢true (sym z ∙ yes))
method_back after b t args c e w s lw d f v rest lv this true to from z q =
    let n = called_is nothing b v t rest args q in
    let k = nothing_left c e (s.0 ∙ sym n.0) in
    absurd (lacks_not 46 v k.text w lv (n.1 ∙ sym s.1 ∙ path_left c e w k))
method_back after b t args c e w s lw d f v rest lv this false to from z q =
    let n = called_is (before_of d f) b (path_of d f v) t rest args q in
    let k = link_same d c f e v w lv lw (n.0 ∙ sym s.0) (n.1 ∙ sym s.1) in
    record { casts = k.casts; shapes = k.shapes; words = k.words; others = n.2; accepted = λ x. refl }

pub method_fore : (site : Site) (b : Before) (t : List ℕ) (args : Shapes) (c : Option (List ℕ)) (e : Shape) (w s : List ℕ) → IsSite site b t c e w → (this : Bool) → (this ≡ true → e ≡ this_shape) → (e ≡ this_shape → this ≡ true) → accepts (methods_of site) (form.Method s) ≡ true → method_shape (this && not (is_some c)) w (shapes c e args) ≡ called b t args
method_fore first b t args c e w m s this to from a =
    let flag : (this && not (is_some c)) ≡ true = and_both this (not (is_some c)) (from s.3) (ap (λ x. not (is_some x)) s.2) in
    ap (λ x. method_shape x w (shapes c e args)) flag ∙ ap₂ (λ x y. called x y args) (sym s.0) (sym s.1)
method_fore after_this b t args c e w m s this to from a = absurd (false≢true a)
method_fore after b t args c e w m s this to from a =
    ap (λ x. method_shape x w (shapes c e args)) (never_bare this c (λ p n. s.2 n (to p)))
    ∙ ap₂ (λ x y. called x y args) s.0 s.1
