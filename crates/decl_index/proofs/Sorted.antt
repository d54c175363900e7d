-- A list of classes in strictly rising order, with one put in or taken out.
use Rattle.std.proofs.Common.{◌≡◌, Bool, true, false, cond, List, [], ◌∷◌, Option, Some, None, Ordering, Less, Equal, Greater, refl, sym, ap, subst, ◌∙◌}
use Rattle.std.specs.List.{AllByRecursion}
use Rattle.known_classes.specs.declared.summary.ClassSummary.{ClassSummary}
use Rattle.known_classes.specs.Known.{class_named}
use Rattle.decl_index.specs.History.{Name, order, Rises}
use Rattle.decl_index.proofs.Names.{same, before_after, greater, exact, same-true, apart, apart_back}

abbrev pub put_by : Ordering → ClassSummary → ClassSummary → List ClassSummary → List ClassSummary → List ClassSummary
put_by Less c d ds rest = d ∷ rest
put_by Equal c d ds rest = c ∷ ds
put_by Greater c d ds rest = c ∷ d ∷ ds

unfoldable pub put_in : ClassSummary → List ClassSummary → List ClassSummary
put_in c [] = c ∷ []
put_in c (d ∷ ds) = put_by (order d.name c.name) c d ds (put_in c ds)

abbrev pub cut_by : Ordering → ClassSummary → List ClassSummary → List ClassSummary → List ClassSummary
cut_by Less d ds rest = d ∷ rest
cut_by Equal d ds rest = ds
cut_by Greater d ds rest = d ∷ ds

unfoldable pub cut_out : Name → List ClassSummary → List ClassSummary
cut_out n [] = []
cut_out n (d ∷ ds) = cut_by (order d.name n) d ds (cut_out n ds)

-- two tests that don't both hold may change places
swap : (x y : Bool) (a b c : Option ClassSummary) → (x ≡ true → y ≡ true → ⊥) → cond x a (cond y b c) ≡ cond y b (cond x a c)
swap true true a b c h = absurd (h refl refl)
swap true false a b c h = refl
swap false true a b c h = refl
swap false false a b c h = refl

twice : (x : Bool) (a b c : Option ClassSummary) → cond x a c ≡ cond x a (cond x b c)
twice true a b c = refl
twice false a b c = refl

true-false : {P : Type 0} (b : Bool) → b ≡ true → b ≡ false → P
true-false true h e = absurd cc
true-false false h e = absurd cc

not_both : (a b m : Name) → order a b ≡ Less → same a m ≡ true → same b m ≡ true → ⊥
not_both a b m l x y = true-false (same a b) (subst (λ k. same a k ≡ true) (sym (same-true b m y)) x) (apart a b l)

put_one : (o : Ordering) (c d : ClassSummary) (ds rest : List ClassSummary) (m : Name) → order d.name c.name ≡ o → class_named rest m ≡ cond (same c.name m) (Some c) (class_named ds m)
    → class_named (put_by o c d ds rest) m ≡ cond (same c.name m) (Some c) (class_named (d ∷ ds) m)
unfolding class_named
put_one Less c d ds rest m e h = ap (cond (same d.name m) (Some d)) h ∙ swap (same d.name m) (same c.name m) (Some d) (Some c) (class_named ds m) (not_both d.name c.name m e)
put_one Equal c d ds rest m e h = twice (same c.name m) (Some c) (Some d) (class_named ds m) ∙ ap (λ k. cond (same c.name m) (Some c) (cond (same k m) (Some d) (class_named ds m))) (sym (exact d.name c.name e))
put_one Greater c d ds rest m e h = refl

pub put_at : (c : ClassSummary) (cs : List ClassSummary) (m : Name) → class_named (put_in c cs) m ≡ cond (same c.name m) (Some c) (class_named cs m)
unfolding put_in class_named
put_at c [] m = refl
put_at c (d ∷ ds) m = put_one (order d.name c.name) c d ds (put_in c ds) m refl (put_at c ds m)

abbrev pub Above : Name → List ClassSummary → Type 0
Above n cs = AllByRecursion (λ d. order n d.name ≡ Less) cs

pub above_more : (a b : Name) (cs : List ClassSummary) → order a b ≡ Less → Above b cs → Above a cs
above_more a b [] l h = h
above_more a b (c ∷ cs) l h = (before_after a b c.name l h.0, above_more a b cs l h.1)

above_put : (o : Ordering) (n : Name) (c d : ClassSummary) (ds rest : List ClassSummary) → order n c.name ≡ Less → Above n (d ∷ ds) → Above n rest → Above n (put_by o c d ds rest)
above_put Less n c d ds rest l h r = (h.0, r)
above_put Equal n c d ds rest l h r = (l, h.1)
above_put Greater n c d ds rest l h r = (l, h)

above_in : (n : Name) (c : ClassSummary) (cs : List ClassSummary) → order n c.name ≡ Less → Above n cs → Above n (put_in c cs)
unfolding put_in
above_in n c [] l h = (l, h)
above_in n c (d ∷ ds) l h = above_put (order d.name c.name) n c d ds (put_in c ds) l h (above_in n c ds l h.1)

rises_put : (o : Ordering) (c d : ClassSummary) (ds rest : List ClassSummary) → order d.name c.name ≡ o → Rises (d ∷ ds) → (order d.name c.name ≡ Less → Above d.name rest) → Rises rest → Rises (put_by o c d ds rest)
unfolding Rises
rises_put Less c d ds rest e h a r = (a e, r)
rises_put Equal c d ds rest e h a r = (subst (λ n. Above n ds) (exact d.name c.name e) h.0, h.1)
rises_put Greater c d ds rest e h a r = ((greater d.name c.name e, above_more c.name d.name ds (greater d.name c.name e) h.0), h)

pub put_rises : (c : ClassSummary) (cs : List ClassSummary) → Rises cs → Rises (put_in c cs)
unfolding put_in Rises
put_rises c [] h = (h, h)
put_rises c (d ∷ ds) h = rises_put (order d.name c.name) c d ds (put_in c ds) refl h (λ l. above_in d.name c ds l h.0) (put_rises c ds h.1)

pub none_above : (n : Name) (cs : List ClassSummary) → Above n cs → class_named cs n ≡ None
unfolding class_named
none_above n [] h = refl
none_above n (c ∷ cs) h = subst (λ (b : Bool). cond b (Some c) (class_named cs n) ≡ None) (sym (apart_back n c.name h.0)) (none_above n cs h.1)

gone : (x : Bool) (n m : Name) (cs : List ClassSummary) → same n m ≡ x → Above n cs → class_named cs m ≡ cond x None (class_named cs m)
gone true n m cs e h = subst (λ k. class_named cs k ≡ None) (same-true n m e) (none_above n cs h)
gone false n m cs e h = refl

nothing : (x : Bool) (c : Option ClassSummary) → c ≡ None → c ≡ cond x None c
nothing true c e = e
nothing false c e = refl

cut_one : (o : Ordering) (n : Name) (d : ClassSummary) (ds rest : List ClassSummary) (m : Name) → order d.name n ≡ o → Rises (d ∷ ds) → class_named rest m ≡ cond (same n m) None (class_named ds m)
    → class_named (cut_by o d ds rest) m ≡ cond (same n m) None (class_named (d ∷ ds) m)
unfolding class_named Rises
cut_one Less n d ds rest m e r h = ap (cond (same d.name m) (Some d)) h ∙ swap (same d.name m) (same n m) (Some d) None (class_named ds m) (not_both d.name n m e)
cut_one Equal n d ds rest m e r h = gone (same n m) n m ds refl (subst (λ k. Above k ds) (exact d.name n e) r.0) ∙ twice (same n m) None (Some d) (class_named ds m) ∙ ap (λ k. cond (same n m) None (cond (same k m) (Some d) (class_named ds m))) (sym (exact d.name n e))
cut_one Greater n d ds rest m e r h = gone (same n m) n m (d ∷ ds) refl (greater d.name n e, above_more n d.name ds (greater d.name n e) r.0)

pub cut_at : (n : Name) (cs : List ClassSummary) (m : Name) → Rises cs → class_named (cut_out n cs) m ≡ cond (same n m) None (class_named cs m)
unfolding cut_out class_named Rises
cut_at n [] m r = nothing (same n m) None refl
cut_at n (d ∷ ds) m r = cut_one (order d.name n) n d ds (cut_out n ds) m refl r (cut_at n ds m r.1)

above_cut : (o : Ordering) (a : Name) (d : ClassSummary) (ds rest : List ClassSummary) → Above a (d ∷ ds) → Above a rest → Above a (cut_by o d ds rest)
above_cut Less a d ds rest h r = (h.0, r)
above_cut Equal a d ds rest h r = h.1
above_cut Greater a d ds rest h r = h

above_out : (a n : Name) (cs : List ClassSummary) → Above a cs → Above a (cut_out n cs)
unfolding cut_out
above_out a n [] h = h
above_out a n (d ∷ ds) h = above_cut (order d.name n) a d ds (cut_out n ds) h (above_out a n ds h.1)

rises_cut : (o : Ordering) (d : ClassSummary) (ds rest : List ClassSummary) → Rises (d ∷ ds) → Above d.name rest → Rises rest → Rises (cut_by o d ds rest)
unfolding Rises
rises_cut Less d ds rest h a r = (a, r)
rises_cut Equal d ds rest h a r = h.1
rises_cut Greater d ds rest h a r = h

pub cut_rises : (n : Name) (cs : List ClassSummary) → Rises cs → Rises (cut_out n cs)
unfolding cut_out Rises
cut_rises n [] h = h
cut_rises n (d ∷ ds) h = rises_cut (order d.name n) d ds (cut_out n ds) h (above_out d.name n ds h.0) (cut_rises n ds h.1)
