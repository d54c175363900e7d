-- Tables of members by numbers of outer classes, one class further.
use Rattle.std.proofs.Common.{◌≡◌, ◌∙◌, ap, sym, subst, refl, arith, ℕ, zero, suc, ◌+◌, ◌<◌, ◌≤◌, Bool, true, false, List, [], ◌∷◌, ◌++◌, length, length-append, drop, slice_get, bytes_eq, if◌then◌else◌, Option, Some, None, Result, Ok, Err, OnOk, inl, inr}
use Rattle.std.specs.Prelude.{◌==◌, ◌&&◌, ◌||◌, is_some}
use Rattle.std.proofs.lemmas.Bool.Decides.{eqb_tells}
use Rattle.std.proofs.lemmas.Bool.{false_from_ne_true}
use Rattle.std.proofs.lemmas.List.{drop_all}
use Rattle.known_classes.specs.declared.summary.ClassSummary.{ClassSummary}
use Rattle.known_classes.specs.Known.{outer_in, simple_in, IsPlaceOf}
use Rattle.known_classes.specs.Nested.{same_text, is_nested, nested_class, surrounds, IsLesser}
use Rattle.known_classes.specs.NameTables.{Table, in_table, in_numbered, member_place, IsNumbered, PutsAt, AreMemberTables}
use Rattle.known_classes.proofs.Merging.{equal, itself}
use Rattle.known_classes.proofs.MergedPlaces.{there}
use Rattle.known_classes.proofs.NestedPlaces.{best_first, best_past, best_hit, prefix}

and-false : (b : Bool) → (b && false) ≡ false
and-false true = refl
and-false false = refl

and-both : (a b : Bool) → (a && b) ≡ true → (a ≡ true) × (b ≡ true)
and-both true b e = (refl, e)
and-both false b e = absurd cc

no-true : false ≡ true → ⊥
no-true e = absurd cc

-- a new outer class gets the next table
pub get-prefix : {A : Type 0} (xs ys : List A) (i : ℕ) → i < length xs → slice_get (xs ++ ys) i ≡ slice_get xs i
get-prefix [] ys i l = absurd (omega (arith, l))
get-prefix (x ∷ xs) ys zero l = refl
get-prefix (x ∷ xs) ys (suc i) l = get-prefix xs ys i (omega (arith, l))

pub get-next : {A : Type 0} (xs : List A) (y : A) → slice_get (xs ++ y ∷ []) (length xs) ≡ Some y
get-next [] y = refl
get-next (x ∷ xs) y = get-next xs y

-- how the tables stand after a new outer class has the next number
pub record IsNewOuter (outer : List ℕ) (numbers : Table) (tables : List Table) (after : Table) (more : List Table) : Type 0 where
  pub fresh : numbers outer ≡ None
  pub empty : Table
  pub none : (name : List ℕ) → empty name ≡ None
  pub grown : more ≡ tables ++ empty ∷ []
  pub put : (other : List ℕ) → after other ≡ (if bytes_eq outer other then Some (length tables) else numbers other)

after-by : (b : Bool) (numbers : Table) (n i : ℕ) (other : List ℕ) → (if b then Some n else numbers other) ≡ Some i → (b ≡ true → n ≡ i → ⊥) → numbers other ≡ Some i
after-by true numbers n i other e f = absurd (f refl (let q : n ≡ i = cc in q))
after-by false numbers n i other e f = e

within-by : (b : Bool) (numbers : Table) (n i : ℕ) (other : List ℕ) → (if b then Some n else numbers other) ≡ Some i → (numbers other ≡ Some i → i < n) → i < suc n
within-by true numbers n i other e f = let q : n ≡ i = cc in omega (arith, q)
within-by false numbers n i other e f = let l = f e in omega (arith, l)

pub new_within : (outer : List ℕ) (numbers after : Table) (tables more : List Table) → IsNewOuter outer numbers tables after more → IsNumbered numbers tables → (name : List ℕ) (i : ℕ) → after name ≡ Some i → i < length more
new_within outer numbers after tables more h n name i e =
    let s : length more ≡ length tables + 1 = ap length h.grown ∙ length-append tables (h.empty ∷ []) in
    let l = within-by (bytes_eq outer name) numbers (length tables) i name (sym (h.put name) ∙ e) (n.within name i) in
    omega (arith, s, l)

-- the number of a name, old or new
new-case : (outer : List ℕ) (numbers after : Table) (tables more : List Table) → IsNewOuter outer numbers tables after more → IsNumbered numbers tables → (name : List ℕ) (i : ℕ) → after name ≡ Some i → i < length tables → numbers name ≡ Some i
new-case outer numbers after tables more h n name i e l =
    after-by (bytes_eq outer name) numbers (length tables) i name (sym (h.put name) ∙ e) (λ t q. omega (arith, l, q))

last-by : (b : Bool) (numbers : Table) (n i : ℕ) (other : List ℕ) → (if b then Some n else numbers other) ≡ Some i → (numbers other ≡ Some i → i < n) → n ≤ i → b ≡ true
last-by true numbers n i other e f l = refl
last-by false numbers n i other e f l = let m = f e in absurd (omega (arith, l, m))

new-last : (outer : List ℕ) (numbers after : Table) (tables more : List Table) → IsNewOuter outer numbers tables after more → IsNumbered numbers tables → (name : List ℕ) (i : ℕ) → after name ≡ Some i → length tables ≤ i → outer ≡ name
new-last outer numbers after tables more h n name i e l = equal outer name (last-by (bytes_eq outer name) numbers (length tables) i name (sym (h.put name) ∙ e) (n.within name i) l)

apart-by : (outer : List ℕ) (numbers after : Table) (tables more : List Table) → IsNewOuter outer numbers tables after more → IsNumbered numbers tables → (b : Bool) (i : ℕ) → (b ≡ true → i < length tables) → (b ≡ false → length tables ≤ i) → (one other : List ℕ) → after one ≡ Some i → after other ≡ Some i → one ≡ other
apart-by outer numbers after tables more h n true i f g one other e d =
    n.apart one other i (new-case outer numbers after tables more h n one i e (f refl)) (new-case outer numbers after tables more h n other i d (f refl))
apart-by outer numbers after tables more h n false i f g one other e d =
    sym (new-last outer numbers after tables more h n one i e (g refl)) ∙ new-last outer numbers after tables more h n other i d (g refl)

less-or : (i n : ℕ) → (b : Bool) × (b ≡ true → i < n) × (b ≡ false → n ≤ i)
less-or i zero = (false, (λ e. absurd cc), λ e. omega arith)
less-or zero (suc n) = (true, (λ e. omega arith), λ e. absurd cc)
less-or (suc i) (suc n) = let r = less-or i n in (r.0, (λ e. omega (arith, r.1 e)), λ e. omega (arith, r.2 e))

pub new_numbered : (outer : List ℕ) (numbers after : Table) (tables more : List Table) → IsNewOuter outer numbers tables after more → IsNumbered numbers tables → IsNumbered after more
new_numbered outer numbers after tables more h n = record {
  within = new_within outer numbers after tables more h n;
  apart = λ one other i e d. let r = less-or i (length tables) in apart-by outer numbers after tables more h n r.0 i r.1 r.2 one other e d;
}

stays-old : (tables more : List Table) (empty : Table) (o : Option ℕ) (name : List ℕ) → ((i : ℕ) → o ≡ Some i → i < length tables) → more ≡ tables ++ empty ∷ [] → in_numbered o more name ≡ in_numbered o tables name
stays-old tables more empty None name f e = refl
stays-old tables more empty (Some i) name f e = ap (λ t. in_table t name) (ap (λ (ts : List Table). slice_get ts i) e ∙ get-prefix tables (empty ∷ []) i (f i refl))

stays-by : (b : Bool) (outer : List ℕ) (numbers after : Table) (tables more : List Table) → IsNewOuter outer numbers tables after more → IsNumbered numbers tables → (other name : List ℕ) → bytes_eq outer other ≡ b → in_numbered (if b then Some (length tables) else numbers other) more name ≡ member_place numbers tables other name
stays-by true outer numbers after tables more h n other name e =
    ap (λ t. in_table t name) (ap (λ (ts : List Table). slice_get ts (length tables)) h.grown ∙ get-next tables h.empty)
    ∙ h.none name ∙ sym (ap (λ o. in_numbered o tables name) (ap numbers (sym (equal outer other e)) ∙ h.fresh))
stays-by false outer numbers after tables more h n other name e = stays-old tables more h.empty (numbers other) name (n.within other) h.grown

pub new_stays : (outer : List ℕ) (numbers after : Table) (tables more : List Table) → IsNewOuter outer numbers tables after more → IsNumbered numbers tables → (other name : List ℕ) → member_place after more other name ≡ member_place numbers tables other name
new_stays outer numbers after tables more h n other name = ap (λ o. in_numbered o more name) (h.put other) ∙ stays-by (bytes_eq outer other) outer numbers after tables more h n other name refl

-- a member is put into the table of its outer class
placed-at : (tables more : List Table) (n i place : ℕ) (name text : List ℕ) → PutsAt n name place tables more → i < length tables → in_table (slice_get more i) text ≡ (if n == i && bytes_eq text name then Some place else in_table (slice_get tables i) text)
placed-at tables more n i place name text h l =
    let t = there more i (omega (arith, l, h.size)) in
    let b = h.each i t.0 t.1 in
    ap (λ o. in_table o text) t.1 ∙ (b.2 text ∙ ap (λ o. if n == i && bytes_eq text name then Some place else in_table o text) (sym b.1))

placed-by : (o : Option ℕ) (numbers : Table) (tables more : List Table) (outer other name text : List ℕ) (n place : ℕ) → numbers other ≡ o → IsNumbered numbers tables → numbers outer ≡ Some n → PutsAt n name place tables more → in_numbered o more text ≡ (if bytes_eq other outer && bytes_eq text name then Some place else in_numbered o tables text)
placed-by None numbers tables more outer other name text n place e h m p =
    let f : bytes_eq other outer ≡ false = false_from_ne_true (bytes_eq other outer) (λ t. let q : numbers outer ≡ None = ap numbers (sym (equal other outer t)) ∙ e in absurd cc) in
    sym (ap (λ (b : Bool). if b && bytes_eq text name then Some place else None) f)
placed-by (Some i) numbers tables more outer other name text n place e h m p =
    let b : (n == i) ≡ bytes_eq other outer = elim (eqb_tells n i) [
      | inl t ↦ t.0 ∙ sym (subst (λ x. bytes_eq x outer ≡ true) (sym (h.apart other outer n (subst (λ j. numbers other ≡ Some j) (sym t.1) e) m)) (itself outer))
      | inr f ↦ f.0 ∙ sym (false_from_ne_true (bytes_eq other outer) (λ t. f.1 (let q : numbers outer ≡ Some i = ap numbers (sym (equal other outer t)) ∙ e in let r : Some n ≡ Some i = sym m ∙ q in cc)))
    ] in
    placed-at tables more n i place name text p (h.within other i e)
    ∙ ap (λ (x : Bool). if x && bytes_eq text name then Some place else in_numbered (Some i) tables text) b

pub placed : (numbers : Table) (tables more : List Table) (outer name : List ℕ) (n place : ℕ) → IsNumbered numbers tables → numbers outer ≡ Some n → PutsAt n name place tables more → (other text : List ℕ) → member_place numbers more other text ≡ (if bytes_eq other outer && bytes_eq text name then Some place else member_place numbers tables other text)
placed numbers tables more outer name n place h m p other text = placed-by (numbers other) numbers tables more outer other name text n place refl h m p

pub numbered_on : (numbers : Table) (tables more : List Table) (name : List ℕ) (n place : ℕ) → IsNumbered numbers tables → PutsAt n name place tables more → IsNumbered numbers more
numbered_on numbers tables more name n place h p = record { within = λ x i e. let l = h.within x i e in omega (arith, l, p.size); apart = h.apart }

-- the tables of no class
nothing-nested : (outer name : List ℕ) → nested_class outer name [] ≡ None
unfolding nested_class
nothing-nested outer name = refl

nothing-surrounds : (name : List ℕ) → surrounds [] name ≡ false
unfolding surrounds
nothing-surrounds name = refl

pub members_first : (known : List ClassSummary) (n : ℕ) (numbers : Table) (tables : List Table) → n ≡ length known → ((name : List ℕ) → numbers name ≡ None) → AreMemberTables known n numbers tables
members_first known n numbers tables e h = record {
  within = omega arith;
  numbered = record { within = λ name i g. let q : numbers name ≡ None = h name in absurd cc; apart = λ one other i g d. let q : numbers one ≡ None = h one in absurd cc };
  nested = λ outer name. subst (IsPlaceOf known (nested_class outer name (drop n known))) (sym (ap (λ o. in_numbered o tables name) (h outer))) (best_first known outer name n e).place;
  outers = λ name. ap is_some (h name) ∙ sym (ap (λ cs. surrounds cs name) (drop_all n known (omega arith)) ∙ nothing-surrounds name);
}

surrounds-cons : (c : ClassSummary) (cs : List ClassSummary) (name : List ℕ) → surrounds (c ∷ cs) name ≡ (same_text (outer_in c.nesting) name || surrounds cs name)
unfolding surrounds
surrounds-cons c cs name = refl

surrounds-on : (known : List ClassSummary) (k : ℕ) (c : ClassSummary) (name : List ℕ) → slice_get known k ≡ Some c → surrounds (drop k known) name ≡ (same_text (outer_in c.nesting) name || surrounds (drop (k + 1) known) name)
surrounds-on known k c name g = ap (λ cs. surrounds cs name) (prefix known (k + 1) k c refl g) ∙ surrounds-cons c (drop (k + 1) known) name

-- a class that stands in none
pub members_none : (known : List ClassSummary) (k : ℕ) (c : ClassSummary) (numbers : Table) (tables : List Table) → slice_get known k ≡ Some c → outer_in c.nesting ≡ None → AreMemberTables known (k + 1) numbers tables → AreMemberTables known k numbers tables
members_none known k c numbers tables g e h = record {
  within = omega (arith, h.within);
  numbered = h.numbered;
  nested = λ outer name. (best_past known outer name (k + 1) k c (member_place numbers tables outer name) refl g (ap (λ o. same_text o outer && same_text (simple_in c.nesting) name) e) (record { within = h.within; place = h.nested outer name })).place;
  outers = λ name. h.outers name ∙ sym (surrounds-on known k c name g ∙ ap (λ o. same_text o name || surrounds (drop (k + 1) known) name) e);
}

-- a class with an outer class, and no simple name
pub members_outer : (known : List ClassSummary) (k : ℕ) (c : ClassSummary) (outer : List ℕ) (numbers after : Table) (tables more : List Table) → slice_get known k ≡ Some c → outer_in c.nesting ≡ Some outer → simple_in c.nesting ≡ None → IsNumbered after more → ((other name : List ℕ) → member_place after more other name ≡ member_place numbers tables other name) → ((other : List ℕ) → is_some (after other) ≡ (bytes_eq other outer || is_some (numbers other))) → AreMemberTables known (k + 1) numbers tables → AreMemberTables known k after more
members_outer known k c outer numbers after tables more g e s n stays outers h = record {
  within = omega (arith, h.within);
  numbered = n;
  nested = λ other name.
      let f : is_nested other name c.nesting ≡ false = ap (λ o. same_text (outer_in c.nesting) other && same_text o name) s ∙ and-false (same_text (outer_in c.nesting) other) in
      (best_past known other name (k + 1) k c (member_place after more other name) refl g f (record { within = h.within; place = subst (IsPlaceOf known (nested_class other name (drop (k + 1) known))) (sym (stays other name)) (h.nested other name) })).place;
  outers = λ name. outers name ∙ ap (λ (b : Bool). bytes_eq name outer || b) (h.outers name) ∙ sym (surrounds-on known k c name g ∙ ap (λ o. same_text o name || surrounds (drop (k + 1) known) name) e);
}

-- a class with both names
hit-by : (b : Bool) (known : List ClassSummary) (k : ℕ) (c : ClassSummary) (other name : List ℕ) (r : ℕ) (best : Option ℕ) (asked : Option ℕ) → slice_get known k ≡ Some c → is_nested other name c.nesting ≡ b → r < length known → (b ≡ true → IsLesser known k best r) → k + 1 ≤ length known → IsPlaceOf known (nested_class other name (drop (k + 1) known)) best → IsPlaceOf known (nested_class other name (drop k known)) (if b then Some r else best)
hit-by true known k c other name r best asked g e l s w p = (best_hit known other name (k + 1) k c best r refl g e l (s refl) (record { within = w; place = p })).place
hit-by false known k c other name r best asked g e l s w p = (best_past known other name (k + 1) k c best refl g e (record { within = w; place = p })).place

pub members_hit : (known : List ClassSummary) (k : ℕ) (c : ClassSummary) (outer simple : List ℕ) (r : ℕ) (numbers after : Table) (tables more : List Table) → slice_get known k ≡ Some c → outer_in c.nesting ≡ Some outer → simple_in c.nesting ≡ Some simple → r < length known → IsLesser known k (member_place numbers tables outer simple) r → IsNumbered after more → ((other name : List ℕ) → member_place after more other name ≡ (if bytes_eq other outer && bytes_eq name simple then Some r else member_place numbers tables other name)) → ((other : List ℕ) → is_some (after other) ≡ (bytes_eq other outer || is_some (numbers other))) → AreMemberTables known (k + 1) numbers tables → AreMemberTables known k after more
members_hit known k c outer simple r numbers after tables more g e s l lesser n put outers h = record {
  within = omega (arith, h.within);
  numbered = n;
  nested = λ other name.
      let same : is_nested other name c.nesting ≡ (bytes_eq other outer && bytes_eq name simple) = ap (λ o. same_text o other && same_text (simple_in c.nesting) name) e ∙ ap (λ o. bytes_eq other outer && same_text o name) s in
      subst (IsPlaceOf known (nested_class other name (drop k known))) (sym (put other name))
      (hit-by (bytes_eq other outer && bytes_eq name simple) known k c other name r (member_place numbers tables other name) None g same l
      (λ t. let both = and-both (bytes_eq other outer) (bytes_eq name simple) t in
      subst (λ o. IsLesser known k o r) (ap (λ x. member_place numbers tables x simple) (sym (equal other outer both.0)) ∙ ap (member_place numbers tables other) (sym (equal name simple both.1))) lesser)
      h.within (h.nested other name));
  outers = λ name. outers name ∙ ap (λ (b : Bool). bytes_eq name outer || b) (h.outers name) ∙ sym (surrounds-on known k c name g ∙ ap (λ o. same_text o name || surrounds (drop (k + 1) known) name) e);
}

pub hit_ok : {E : Type 0} (r : Result Unit E) (known : List ClassSummary) (k : ℕ) (c : ClassSummary) (outer simple : List ℕ) (least : ℕ) (numbers after : Table) (tables more : List Table) → slice_get known k ≡ Some c → outer_in c.nesting ≡ Some outer → simple_in c.nesting ≡ Some simple → least < length known → IsLesser known k (member_place numbers tables outer simple) least → (x y : List ℕ) → x ≡ outer → y ≡ simple
    → OnOk r (IsNumbered after more) → OnOk r ((other name : List ℕ) → member_place after more other name ≡ (if bytes_eq other x && bytes_eq name y then Some least else member_place numbers tables other name)) → OnOk r ((other : List ℕ) → is_some (after other) ≡ (bytes_eq other x || is_some (numbers other)))
    → AreMemberTables known (k + 1) numbers tables → OnOk r (AreMemberTables known k after more)
hit_ok (Ok u) known k c outer simple least numbers after tables more g o s l less x y a b n p q h =
    members_hit known k c outer simple least numbers after tables more g o s l less n
    (λ other name. p other name ∙ ap (λ z. if bytes_eq other z && bytes_eq name y then Some least else member_place numbers tables other name) a ∙ ap (λ z. if bytes_eq other outer && bytes_eq name z then Some least else member_place numbers tables other name) b)
    (λ other. q other ∙ ap (λ z. bytes_eq other z || is_some (numbers other)) a) h
hit_ok (Err e) known k c outer simple least numbers after tables more g o s l less x y a b n p q h = tt
