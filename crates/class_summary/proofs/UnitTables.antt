-- The tables of a unit's names, one class further.
use Rattle.std.proofs.Common.{◌≡◌, ◌∙◌, ap, sym, refl, arith, ℕ, zero, suc, ◌+◌, ◌-◌, ◌<◌, ◌≤◌, Bool, true, false, List, [], ◌∷◌, ◌++◌, length, drop, get_or, slice_get, add-zero, add-one, bytes_eq, if◌then◌else◌, Option, Some, None, Result, Ok, Err, IfOk}
use Rattle.std.specs.Prelude.{◌==◌, ◌&&◌, is_some}
use Rattle.std.proofs.lemmas.List.{drop_all, drop_more}
use Rattle.std.proofs.lemmas.Option.{slice_get_read}
use Rattle.java_units.specs.declared.types.SourceClass.{SourceClass}
use Rattle.class_summary.specs.Names.{first_from, is_member, member_from, same_number}
use Rattle.known_classes.specs.NameTables.{Table, PutsAt}
use Rattle.known_classes.proofs.TableLemmas.{swap}
use Rattle.class_summary.specs.UnitTables.{numbered}

numbered-snoc : {A : Type 0} (f : ℕ → A) (k n : ℕ) → numbered f k n ++ f (k + n) ∷ [] ≡ numbered f k (suc n)
numbered-snoc {A} f k zero = ap (λ (j : ℕ). f j ∷ []) (add-zero k)
numbered-snoc {A} f k (suc n) =
    let s : k + suc n ≡ suc k + n = omega arith in
    ap (λ (r : List A). f k ∷ r) (ap (λ (j : ℕ). numbered f (suc k) n ++ f j ∷ []) s ∙ numbered-snoc f (suc k) n)

-- the value at one more number
pub numbered_on : {A : Type 0} (f : ℕ → A) (i : ℕ) (v : A) (old new : List A) → v ≡ f i → new ≡ old ++ v ∷ [] → old ≡ numbered f 0 i → new ≡ numbered f 0 (i + 1)
numbered_on {A} f i v old new e n h =
    let z : f i ≡ f (0 + i) = ap f (let y : i ≡ 0 + i = omega arith in y) in
    n ∙ (ap (λ (r : List A). r ++ v ∷ []) h ∙ (ap (λ (x : A). numbered f 0 i ++ x ∷ []) (e ∙ z) ∙ (numbered-snoc f 0 i ∙ ap (numbered f 0) (sym (add-one i)))))

pub numbered_end : {A : Type 0} (f : ℕ → A) (i n : ℕ) (old : List A) → i ≡ n → old ≡ numbered f 0 i → old ≡ numbered f 0 n
numbered_end f i n old e h = h ∙ ap (numbered f 0) e

numbered-get : {A : Type 0} (f : ℕ → A) (k n i : ℕ) (v : A) → slice_get (numbered f k n) i ≡ Some v → v ≡ f (k + i)
numbered-get f k zero i v e = absurd (cc)
numbered-get f k (suc n) zero v e = let q : f k ≡ v = cc in sym q ∙ ap f (sym (add-zero k))
numbered-get f k (suc n) (suc i) v e =
    let s : suc k + i ≡ k + suc i = omega arith in
    numbered-get f (suc k) n i v e ∙ ap f s

pub numbered_at : {A : Type 0} (f : ℕ → A) (n i : ℕ) (v : A) (xs : List A) → xs ≡ numbered f 0 n → slice_get xs i ≡ Some v → v ≡ f i
numbered_at {A} f n i v xs e g =
    let z : 0 + i ≡ i = omega arith in
    numbered-get f 0 n i v (ap (λ (r : List A). slice_get r i) (sym e) ∙ g) ∙ ap f z

-- what stands in a list at a number stands there in an equal one
pub at_there : {A : Type 0} (xs ys : List A) (i : ℕ) (x : A) → ys ≡ xs → i < length ys → x ≡ get_or ys i x → slice_get xs i ≡ Some x
at_there {A} xs ys i x e l g = ap (λ (r : List A). slice_get r i) (sym e) ∙ slice_get_read ys (length ys) i x refl l g

-- a copy of one text is a copy of an equal one
pub same_copy : {E : Type 0} (r : Result (List ℕ) E) (x y : List ℕ) → IfOk r (λ copy. copy ≡ x) → x ≡ y → IfOk r (λ copy. copy ≡ y)
same_copy (Ok c) x y h e = h ∙ e
same_copy (Err f) x y h e = tt

first-suc : (n i : ℕ) (test : ℕ → Bool) → first_from (suc n) i test ≡ (if test i then Some i else first_from n (suc i) test)
unfolding first_from
first-suc n i test = refl

first-zero : (i : ℕ) (test : ℕ → Bool) → first_from 0 i test ≡ None
unfolding first_from
first-zero i test = refl

-- the table of the numbers from this one on gives the first that the test holds of
pub record IsFirsts (n left : ℕ) (named : ℕ → List ℕ) (table : Table) : Type 0 where
  pub within : left ≤ n
  pub each : (name : List ℕ) → table name ≡ first_from (n - left) left (λ i. bytes_eq name (named i))

pub firsts_none : (n left : ℕ) (named : ℕ → List ℕ) (table : Table) → left ≡ n → ((name : List ℕ) → table name ≡ None) → IsFirsts n left named table
firsts_none n left named table e h = record {
  within = omega (arith, e);
  each = λ name. let z : n - left ≡ 0 = omega (arith, e) in h name ∙ sym (ap (λ (k : ℕ). first_from k left (λ i. bytes_eq name (named i))) z ∙ first-zero left (λ i. bytes_eq name (named i)));
}

pub firsts_on : (n left k : ℕ) (named : ℕ → List ℕ) (text : List ℕ) (old new : Table) → k + 1 ≡ left → text ≡ named k → ((name : List ℕ) → new name ≡ (if bytes_eq text name then Some k else old name)) → IsFirsts n left named old → IsFirsts n k named new
firsts_on n left k named text old new e t p h = record {
  within = omega (arith, h.within);
  each = λ name.
      let test : ℕ → Bool = λ i. bytes_eq name (named i) in
      let b : bytes_eq text name ≡ test k = swap text name ∙ ap (bytes_eq name) t in
      let s : n - k ≡ suc (n - left) = omega (arith, h.within) in
      let x : suc k ≡ left = omega arith in
      p name ∙ (ap (λ (y : Bool). if y then Some k else old name) b ∙ (ap (λ (o : Option ℕ). if test k then Some k else o) (h.each name ∙ ap (λ (j : ℕ). first_from (n - left) j test) (sym x)) ∙ sym (ap (λ (m : ℕ). first_from m k test) s ∙ first-suc (n - left) k test)));
}

pub firsts_end : (n left : ℕ) (named : ℕ → List ℕ) (table : Table) → left ≤ 0 → IsFirsts n left named table → (name : List ℕ) → table name ≡ first_from n 0 (λ i. bytes_eq name (named i))
firsts_end n left named table l h name =
    let z : left ≡ 0 = omega arith in
    let m : n - left ≡ n = omega (arith, z) in
    h.each name ∙ (ap (λ (k : ℕ). first_from k left (λ i. bytes_eq name (named i))) m ∙ ap (λ (k : ℕ). first_from n k (λ i. bytes_eq name (named i))) z)

member-suc : (i : ℕ) (o : Option ℕ) (name : List ℕ) (c : SourceClass) (cs : List SourceClass) → member_from i o name (c ∷ cs) ≡ (if is_member o name c then Some i else member_from (suc i) o name cs)
unfolding member_from
member-suc i o name c cs = refl

member-nil : (i : ℕ) (o : Option ℕ) (name : List ℕ) → member_from i o name [] ≡ None
unfolding member_from
member-nil i o name = refl

member-down : (o : Option ℕ) (name : List ℕ) (cs : List SourceClass) (left k : ℕ) (c : SourceClass) (rest : Option ℕ) → k + 1 ≡ left → k < length cs → c ≡ get_or cs k c → rest ≡ member_from left o name (drop left cs) → (if is_member o name c then Some k else rest) ≡ member_from k o name (drop k cs)
member-down o name cs left k c rest e l at h =
    let d : drop k cs ≡ c ∷ drop (k + 1) cs = drop_more cs k c l ∙ ap (λ (y : SourceClass). y ∷ drop (k + 1) cs) (sym at) in
    let x : left ≡ suc k = omega arith in
    let r : rest ≡ member_from (suc k) o name (drop (k + 1) cs) = h ∙ (ap (λ (j : ℕ). member_from j o name (drop left cs)) x ∙ ap (λ (j : ℕ). member_from (suc k) o name (drop j cs)) (sym e)) in
    ap (λ (y : Option ℕ). if is_member o name c then Some k else y) r ∙ sym (ap (member_from k o name) d ∙ member-suc k o name c (drop (k + 1) cs))

no-outer : (c : SourceClass) (o : Option ℕ) (i : ℕ) → c.outer ≡ None → same_number c.outer (Some i) ≡ false
no-outer c o i e = ap (λ (x : Option ℕ). same_number x (Some i)) e

is-outer : (o : Option ℕ) → is_some o ≡ true → same_number o None ≡ false
is-outer None e = absurd (cc)
is-outer (Some i) e = refl

is-top : (o : Option ℕ) → is_some o ≡ false → same_number o None ≡ true
is-top None e = refl
is-top (Some i) e = absurd (cc)

other-place : (o : Option ℕ) (name : List ℕ) (c : SourceClass) → same_number c.outer o ≡ false → is_member o name c ≡ false
other-place o name c e = ap (λ (b : Bool). b && bytes_eq name c.name) e

-- the table of the classes from this number on gives the top-level ones
pub record IsTop (cs : List SourceClass) (left : ℕ) (table : Table) : Type 0 where
  pub within : left ≤ length cs
  pub each : (name : List ℕ) → table name ≡ member_from left None name (drop left cs)

pub top_none : (cs : List SourceClass) (n : ℕ) (table : Table) → n ≡ length cs → ((name : List ℕ) → table name ≡ None) → IsTop cs n table
top_none cs n table e h = record {
  within = omega arith;
  each = λ name. h name ∙ sym (ap (member_from n None name) (drop_all n cs (omega arith)) ∙ member-nil n None name);
}

pub top_skip : (cs : List SourceClass) (left k : ℕ) (c : SourceClass) (table : Table) → k + 1 ≡ left → c ≡ get_or cs k c → is_some c.outer ≡ true → IsTop cs left table → IsTop cs k table
top_skip cs left k c table e at o h = record {
  within = omega (arith, h.within);
  each = λ name.
      let f : is_member None name c ≡ false = other-place None name c (is-outer c.outer o) in
      sym (ap (λ (b : Bool). if b then Some k else table name) f) ∙ member-down None name cs left k c (table name) e (omega (arith, h.within)) at (h.each name);
}

pub top_put : (cs : List SourceClass) (left k : ℕ) (c : SourceClass) (text : List ℕ) (old new : Table) → k + 1 ≡ left → c ≡ get_or cs k c → is_some c.outer ≡ false → text ≡ c.name → ((name : List ℕ) → new name ≡ (if bytes_eq text name then Some k else old name)) → IsTop cs left old → IsTop cs k new
top_put cs left k c text old new e at o t p h = record {
  within = omega (arith, h.within);
  each = λ name.
      let b : bytes_eq text name ≡ is_member None name c = swap text name ∙ (ap (bytes_eq name) t ∙ sym (ap (λ (y : Bool). y && bytes_eq name c.name) (is-top c.outer o))) in
      p name ∙ (ap (λ (y : Bool). if y then Some k else old name) b ∙ member-down None name cs left k c (old name) e (omega (arith, h.within)) at (h.each name));
}

pub top_end : (cs : List SourceClass) (left : ℕ) (table : Table) → left ≤ 0 → IsTop cs left table → (name : List ℕ) → table name ≡ member_from 0 None name cs
top_end cs left table l h name =
    let z : left ≡ 0 = omega arith in
    h.each name ∙ ap (λ (k : ℕ). member_from k None name (drop k cs)) z

-- no table has a name
abbrev pub AllEmpty : List Table → Type 0
AllEmpty [] = Unit {0}
AllEmpty (t ∷ ts) = ((name : List ℕ) → t name ≡ None) × AllEmpty ts

pub empty_on : (ts : List Table) (t : Table) → AllEmpty ts → ((name : List ℕ) → t name ≡ None) → AllEmpty (ts ++ t ∷ [])
empty_on [] t h e = (e, tt)
empty_on (x ∷ ts) t h e = (h.0, empty_on ts t h.1 e)

pub empty_at : (ts : List Table) (k : ℕ) (t : Table) (name : List ℕ) → AllEmpty ts → slice_get ts k ≡ Some t → t name ≡ None
empty_at [] k t name h e = absurd (cc)
empty_at (x ∷ ts) zero t name h e = let q : x ≡ t = cc in ap (λ (y : Table). y name) (sym q) ∙ h.0 name
empty_at (x ∷ ts) (suc k) t name h e = empty_at ts k t name h.1 e

-- the tables of the classes from this number on give their members
pub record AreMembersFrom (cs : List SourceClass) (left : ℕ) (tables : List Table) : Type 0 where
  pub within : left ≤ length cs
  pub each : (i : ℕ) (table : Table) (name : List ℕ) → slice_get tables i ≡ Some table → table name ≡ member_from left (Some i) name (drop left cs)

pub members_none : (cs : List SourceClass) (n : ℕ) (tables : List Table) → n ≡ length cs → ((k : ℕ) (table : Table) (name : List ℕ) → slice_get tables k ≡ Some table → table name ≡ None) → AreMembersFrom cs n tables
members_none cs n tables e h = record {
  within = omega arith;
  each = λ i table name g. h i table name g ∙ sym (ap (member_from n (Some i) name) (drop_all n cs (omega arith)) ∙ member-nil n (Some i) name);
}

pub members_skip : (cs : List SourceClass) (left k : ℕ) (c : SourceClass) (tables : List Table) → k + 1 ≡ left → c ≡ get_or cs k c → c.outer ≡ None → AreMembersFrom cs left tables → AreMembersFrom cs k tables
members_skip cs left k c tables e at o h = record {
  within = omega (arith, h.within);
  each = λ i table name g.
      let f : is_member (Some i) name c ≡ false = other-place (Some i) name c (no-outer c None i o) in
      sym (ap (λ (b : Bool). if b then Some k else table name) f) ∙ member-down (Some i) name cs left k c (table name) e (omega (arith, h.within)) at (h.each i table name g);
}

pub members_put : (cs : List SourceClass) (left k : ℕ) (c : SourceClass) (outer : ℕ) (text : List ℕ) (old new : List Table) → k + 1 ≡ left → c ≡ get_or cs k c → c.outer ≡ Some outer → text ≡ c.name → PutsAt outer text k old new → AreMembersFrom cs left old → AreMembersFrom cs k new
members_put cs left k c outer text old new e at o t p h = record {
  within = omega (arith, h.within);
  each = λ i table name g.
      let q = p.each i table g in
      let b : (outer == i && bytes_eq name text) ≡ is_member (Some i) name c = ap (λ (y : List ℕ). outer == i && bytes_eq name y) t ∙ sym (ap (λ (y : Option ℕ). same_number y (Some i) && bytes_eq name c.name) o) in
      q.2 name ∙ (ap (λ (y : Bool). if y then Some k else q.0 name) b ∙ member-down (Some i) name cs left k c (q.0 name) e (omega (arith, h.within)) at (h.each i q.0 name q.1));
}

pub members_end : (cs : List SourceClass) (left : ℕ) (tables : List Table) → left ≤ 0 → AreMembersFrom cs left tables → (i : ℕ) (table : Table) (name : List ℕ) → slice_get tables i ≡ Some table → table name ≡ member_from 0 (Some i) name cs
members_end cs left tables l h i table name g =
    let z : left ≡ 0 = omega arith in
    h.each i table name g ∙ ap (λ (k : ℕ). member_from k (Some i) name (drop k cs)) z
