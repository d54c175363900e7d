-- Names with `.` in place of `/`, and canonical names along outer classes.
use Rattle.std.proofs.Common.{◌≡◌, ◌≢◌, ◌∙◌, ap, sym, refl, arith, ℕ, zero, suc, ◌+◌, ◌-◌, ◌<◌, ◌≤◌, Bool, true, false, eqb, if◌then◌else◌, List, [], ◌∷◌, ◌++◌, length, length-append, get_or, append-nil, append_assoc, bytes_eq, Option, Some, None}
use Rattle.std.specs.Borrow.{Bor}
use Rattle.std.specs.Str.{IsUtf8}
use Rattle.type_names.proofs.TextLaws.{utf8_past}
use Rattle.std.specs.Option.{MatchOption}
use Rattle.std.proofs.lemmas.Bool.{eqb-true}
use Rattle.std.proofs.lemmas.List.{map-append}
use Rattle.known_classes.specs.declared.summary.ClassSummary.{ClassSummary}
use Rattle.known_classes.specs.Known.{dotted, comes_to, cycles, outer_of, nested_name, canonical_by, nesting_at, class_named, simple_in}
use Rattle.known_classes.specs.Outwards.{both, outwards}

decided : (b : Bool) → (b ≡ true → ⊥) → b ≡ false
decided true h = absurd (h refl)
decided false h = refl

no_first : (c : ℕ) (bs : List ℕ) → ((i : ℕ) → i < length bs → get_or bs i 0 ≢ c) → (d : ℕ) (cs : List ℕ) → bs ≡ d ∷ cs → (eqb d c ≡ false) × ((i : ℕ) → i < length cs → get_or cs i 0 ≢ c)
no_first c bs h d cs e = (decided (eqb d c) (λ t. h 0 (rw e (omega arith)) (rw e (eqb-true _ _ t))), λ i lt. rw e at h (suc i) (omega (arith, lt)))

dots-clean : (bs : List ℕ) → ((i : ℕ) → i < length bs → get_or bs i 0 ≢ 47) → dotted bs ≡ bs
dots-clean [] h = refl
dots-clean (d ∷ ds) h = let n = no_first 47 (d ∷ ds) h d ds refl in rw (n.0, dots-clean ds n.1) refl

dots-cut : (bs xs ys : List ℕ) → bs ≡ xs ++ (47 ∷ ys) → ((i : ℕ) → i < length xs → get_or xs i 0 ≢ 47) → dotted bs ≡ xs ++ (46 ∷ dotted ys)
dots-cut bs xs ys e h = ap dotted e ∙ (map-append (λ b. if eqb b 47 then 46 else b) xs (47 ∷ ys) ∙ ap (λ (r : List ℕ). r ++ (46 ∷ dotted ys)) (dots-clean xs h))

pub cut_dots : (bs : List ℕ) (r : Option (Bor (List ℕ) × Bor (List ℕ))) → IsUtf8 bs → MatchOption r ((i : ℕ) → i < length bs → get_or bs i 0 ≢ 47) (λ x. (bs ≡ x.0.now ++ (47 ∷ x.1.now)) × ((i : ℕ) → i < length x.0.now → get_or x.0.now i 0 ≢ 47)) → MatchOption r (dotted bs ≡ bs) (λ x. (dotted bs ≡ x.0.now ++ (46 ∷ dotted x.1.now)) × (length x.1.now < length bs) × IsUtf8 x.1.now)
cut_dots bs None text h = dots-clean bs h
cut_dots bs (Some x) text h = (dots-cut bs x.0.now x.1.now h.0 h.1, omega (arith, simp length-append at (ap length h.0)), utf8_past x.0.now 47 x.1.now bs (omega arith) text h.0)

pub dots_on : (whole old rest prefix more mid new : List ℕ) → dotted rest ≡ prefix ++ (46 ∷ dotted more) → mid ≡ old ++ prefix → new ≡ mid ++ (46 ∷ []) → whole ≡ old ++ dotted rest → whole ≡ new ++ dotted more
dots_on whole old rest prefix more mid new e m n h =
    h ∙ (ap (λ (r : List ℕ). old ++ r) e ∙ (sym (append_assoc old prefix (46 ∷ dotted more)) ∙ (ap (λ (r : List ℕ). r ++ (46 ∷ dotted more)) (sym m) ∙ (sym (append_assoc mid (46 ∷ []) (dotted more)) ∙ ap (λ (r : List ℕ). r ++ dotted more) (sym n)))))

pub dots_end : (whole old rest new : List ℕ) → dotted rest ≡ rest → new ≡ old ++ rest → whole ≡ old ++ dotted rest → new ≡ whole
dots_end whole old rest new e n h = n ∙ (ap (λ (r : List ℕ). old ++ r) (sym e) ∙ sym h)

come-none : (n : ℕ) (cs : List ClassSummary) (name : List ℕ) → comes_to n cs name None ≡ false
unfolding comes_to
come-none zero cs name = refl
come-none (suc n) cs name = refl

come-zero : (cs : List ClassSummary) (name : List ℕ) (o : Option (List ℕ)) → comes_to 0 cs name o ≡ false
unfolding comes_to
come-zero cs name o = refl

come-hit : (n : ℕ) (cs : List ClassSummary) (name outer : List ℕ) → bytes_eq name outer ≡ true → comes_to (suc n) cs name (Some outer) ≡ true
unfolding comes_to
come-hit n cs name outer e = rw e refl

come-on : (n : ℕ) (cs : List ClassSummary) (name outer : List ℕ) → bytes_eq name outer ≡ false → comes_to (suc n) cs name (Some outer) ≡ comes_to n cs name (outer_of cs outer)
unfolding comes_to
come-on n cs name outer e = rw e refl

pub come_first : (n : ℕ) (cs : List ClassSummary) (name : List ℕ) (o p : Option (List ℕ)) → p ≡ o → comes_to n cs name o ≡ comes_to (n - 0) cs name p
come_first n cs name o p e = let z : n ≡ n - 0 = omega arith in ap (λ (k : ℕ). comes_to k cs name o) z ∙ ap (comes_to (n - 0) cs name) (sym e)

pub come_none : (m : ℕ) (cs : List ClassSummary) (name : List ℕ) (whole : Bool) (o : Option (List ℕ)) → o ≡ None → whole ≡ comes_to m cs name o → false ≡ whole
come_none m cs name whole o e h = sym (h ∙ (ap (comes_to m cs name) e ∙ come-none m cs name))

pub come_hit : (n k : ℕ) (cs : List ClassSummary) (name outer : List ℕ) (whole : Bool) (o : Option (List ℕ)) → k < n → o ≡ Some outer → bytes_eq name outer ≡ true → whole ≡ comes_to (n - k) cs name o → true ≡ whole
come_hit n k cs name outer whole o l e b h =
    let s : n - k ≡ suc (n - (k + 1)) = omega arith in
    sym (h ∙ (ap (λ (m : ℕ). comes_to m cs name o) s ∙ (ap (comes_to (suc (n - (k + 1))) cs name) e ∙ come-hit (n - (k + 1)) cs name outer b)))

pub come_on : (n k : ℕ) (cs : List ClassSummary) (name outer : List ℕ) (whole : Bool) (o p : Option (List ℕ)) → k < n → o ≡ Some outer → bytes_eq name outer ≡ false → p ≡ outer_of cs outer → whole ≡ comes_to (n - k) cs name o → whole ≡ comes_to (n - (k + 1)) cs name p
come_on n k cs name outer whole o p l e b x h =
    let s : n - k ≡ suc (n - (k + 1)) = omega arith in
    h ∙ (ap (λ (m : ℕ). comes_to m cs name o) s ∙ (ap (comes_to (suc (n - (k + 1))) cs name) e ∙ (come-on (n - (k + 1)) cs name outer b ∙ ap (comes_to (n - (k + 1)) cs name) (sym x))))

pub come_end : (n k : ℕ) (cs : List ClassSummary) (name : List ℕ) (whole : Bool) (o : Option (List ℕ)) → n ≤ k → whole ≡ comes_to (n - k) cs name o → false ≡ whole
come_end n k cs name whole o l h =
    let z : n - k ≡ 0 = omega arith in
    sym (h ∙ (ap (λ (m : ℕ). comes_to m cs name o) z ∙ come-zero cs name o))

some-case : (b : Bool) (o s : Option (List ℕ)) (f : List ℕ → List ℕ) (own : List ℕ) (x : List ℕ × List ℕ) → (if b then None else both o s) ≡ Some x → (if b then own else nested_name o s f own) ≡ f x.0 ++ (46 ∷ x.1)
some-case true o s f own x e = absurd (cc)
some-case false None s f own x e = absurd (cc)
some-case false (Some o) None f own x e = absurd (cc)
some-case false (Some o) (Some s) f own x e = let q : (o, s) ≡ x = cc in ap (λ (y : List ℕ × List ℕ). f y.0 ++ (46 ∷ y.1)) q

none-case : (b : Bool) (o s : Option (List ℕ)) (f : List ℕ → List ℕ) (own : List ℕ) → (if b then None else both o s) ≡ None → (if b then own else nested_name o s f own) ≡ own
none-case true o s f own e = refl
none-case false None s f own e = refl
none-case false (Some o) None f own e = refl
none-case false (Some o) (Some s) f own e = absurd (cc)

canonical-some : (n : ℕ) (cs : List ClassSummary) (name outer simple : List ℕ) → outwards cs name ≡ Some (outer, simple) → canonical_by (suc n) cs name ≡ canonical_by n cs outer ++ (46 ∷ simple)
unfolding outwards canonical_by
canonical-some n cs name outer simple e = some-case (cycles cs name) (outer_of cs name) (simple_in (nesting_at (class_named cs name))) (λ o. canonical_by n cs o) (dotted name) (outer, simple) e

canonical-none : (n : ℕ) (cs : List ClassSummary) (name : List ℕ) → outwards cs name ≡ None → canonical_by (suc n) cs name ≡ dotted name
unfolding outwards canonical_by
canonical-none n cs name e = none-case (cycles cs name) (outer_of cs name) (simple_in (nesting_at (class_named cs name))) (λ o. canonical_by n cs o) (dotted name) e

canonical-zero : (cs : List ClassSummary) (name : List ℕ) → canonical_by 0 cs name ≡ dotted name
unfolding canonical_by
canonical-zero cs name = refl

pub named_first : (n : ℕ) (cs : List ClassSummary) (name here tail : List ℕ) → here ≡ name → tail ≡ [] → canonical_by n cs name ≡ canonical_by (n - 0) cs here ++ tail
named_first n cs name here tail e t =
    let z : n ≡ n - 0 = omega arith in
    ap (λ (k : ℕ). canonical_by k cs name) z ∙ (ap (canonical_by (n - 0) cs) (sym e) ∙ (sym (append-nil (canonical_by (n - 0) cs here)) ∙ ap (λ (r : List ℕ). canonical_by (n - 0) cs here ++ r) (sym t)))

pub named_on : (n k : ℕ) (cs : List ClassSummary) (whole here outer simple tail longer next : List ℕ) → k < n → outwards cs here ≡ Some (outer, simple) → longer ≡ (46 ∷ simple) ++ tail → next ≡ outer → whole ≡ canonical_by (n - k) cs here ++ tail → whole ≡ canonical_by (n - (k + 1)) cs next ++ longer
named_on n k cs whole here outer simple tail longer next l o t x h =
    let s : n - k ≡ suc (n - (k + 1)) = omega arith in
    h ∙ (ap (λ (r : List ℕ). r ++ tail) (ap (λ (m : ℕ). canonical_by m cs here) s ∙ canonical-some (n - (k + 1)) cs here outer simple o) ∙ (append_assoc (canonical_by (n - (k + 1)) cs outer) (46 ∷ simple) tail ∙ (ap (λ (r : List ℕ). canonical_by (n - (k + 1)) cs outer ++ r) (sym t) ∙ ap (λ (r : List ℕ). canonical_by (n - (k + 1)) cs r ++ longer) (sym x))))

pub named_none : (n k : ℕ) (cs : List ClassSummary) (whole here tail text : List ℕ) → k < n → outwards cs here ≡ None → text ≡ dotted here ++ tail → whole ≡ canonical_by (n - k) cs here ++ tail → text ≡ whole
named_none n k cs whole here tail text l o t h =
    let s : n - k ≡ suc (n - (k + 1)) = omega arith in
    t ∙ (ap (λ (r : List ℕ). r ++ tail) (sym (ap (λ (m : ℕ). canonical_by m cs here) s ∙ canonical-none (n - (k + 1)) cs here o)) ∙ sym h)

pub named_end : (n k : ℕ) (cs : List ClassSummary) (whole here tail text : List ℕ) → n ≤ k → text ≡ dotted here ++ tail → whole ≡ canonical_by (n - k) cs here ++ tail → text ≡ whole
named_end n k cs whole here tail text l t h =
    let z : n - k ≡ 0 = omega arith in
    t ∙ (ap (λ (r : List ℕ). r ++ tail) (sym (ap (λ (m : ℕ). canonical_by m cs here) z ∙ canonical-zero cs here)) ∙ sym h)
