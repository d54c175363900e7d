-- Sorted lists of classes merged, and classes of some names left out.
use Rattle.std.proofs.Common.{◌≡◌, ℕ, zero, suc, ◌+◌, ◌<◌, ◌≤◌, Bool, true, false, cond, List, [], ◌∷◌, ◌++◌, length, map, get_or, take, drop, Option, Some, None, Ordering, Less, Equal, Greater, refl, sym, ap, subst, ◌∙◌, append_assoc, append-nil, arith}
use Rattle.std.specs.Prelude.{bytes_eq, not, String, string_bytes, string_cmp}
use Rattle.std.specs.BTreeSet.{BTreeSet, contains_text, UpdatesBy}
use Rattle.std.specs.Cmp.Lexicographic.{slice_cmp}
use Rattle.std.specs.Ordering.{nat_cmp}
use Rattle.std.proofs.lemmas.List.{take_more, take_all, drop_more, drop_all, map-append, get_or_default}
use Rattle.std.proofs.lemmas.List.Elements.{filter-append}
use Rattle.std.proofs.lemmas.Cmp.{nat_list_eq_equiv}
use Rattle.std.proofs.lemmas.Map.Text.{btree_set_updates_text}
use Rattle.std.specs.Option.{option_or}
use Rattle.known_classes.specs.declared.summary.ClassSummary.{ClassSummary}
use Rattle.known_classes.specs.Known.{class_named}
use Rattle.decl_index.specs.History.{Name, order, Rises, remove, put, decided}
use Rattle.decl_index.specs.Places.{told_or, Leaves}
use Rattle.decl_index.specs.Merging.{is_among, others, prefix_order, IsMerge}
use Rattle.decl_index.proofs.Names.{same, same-true, greater, exact}
use Rattle.decl_index.proofs.Sorted.{Above, above_more, none_above}
use Rattle.decl_index.proofs.Places.{leaves-then}

-- Removed names.
by-remove : (a b : Bool) (o : Option (Option ClassSummary)) → o ≡ cond a (Some None) None → option_or o (cond b (Some None) None) ≡ cond (cond b true a) (Some None) None
by-remove true true o e = ap (λ x. option_or x (Some None)) e
by-remove true false o e = ap (λ x. option_or x None) e
by-remove false true o e = ap (λ x. option_or x (Some None)) e
by-remove false false o e = ap (λ x. option_or x None) e

decided-removes : (ns : List Name) (n : Name) → decided n (map remove ns) ≡ cond (is_among ns n) (Some None) None
unfolding decided is_among
decided-removes [] n = refl
decided-removes (m ∷ ns) n = by-remove (is_among ns n) (bytes_eq n m) (decided n (map remove ns)) (decided-removes ns n)

told-cond : (b : Bool) (d : Option ClassSummary) → told_or (cond b (Some None) None) d ≡ cond b None d
told-cond true d = refl
told-cond false d = refl

told-removes : (ns : List Name) (n : Name) (d : Option ClassSummary) → told_or (decided n (map remove ns)) d ≡ cond (is_among ns n) None d
told-removes ns n d = ap (λ o. told_or o d) (decided-removes ns n) ∙ told-cond (is_among ns n) d

swap-true : (a b c : Bool) → cond a true (cond b true c) ≡ cond b true (cond a true c)
swap-true true true c = refl
swap-true true false c = refl
swap-true false true c = refl
swap-true false false c = refl

among-append : (ms : List Name) (m n : Name) → is_among (ms ++ m ∷ []) n ≡ cond (bytes_eq n m) true (is_among ms n)
unfolding is_among
among-append [] m n = refl
among-append (k ∷ ms) m n = ap (cond (bytes_eq n k) true) (among-append ms m n) ∙ swap-true (bytes_eq n k) (bytes_eq n m) (is_among ms n)

pub among-none : {Y : Type 0} (s : BTreeSet (String Y)) → ((n : Name) → contains_text s n ≡ false) → (n : Name) → contains_text s n ≡ is_among [] n
unfolding is_among
among-none s h n = h n

pub among-more : {Y : Type 0} (s t : BTreeSet (String Y)) (bs : Name) (ns : List Name) (i : ℕ) (m : Name) → UpdatesBy string_cmp (λ k. slice_cmp nat_cmp bs (string_bytes k)) s t true → bs ≡ m → i < length ns → m ≡ get_or ns i m
    → ((n : Name) → contains_text s n ≡ is_among (take i ns) n) → (n : Name) → contains_text t n ≡ is_among (take (i + 1) ns) n
among-more s t bs ns i m u e l at old n =
    let more : take (i + 1) ns ≡ take i ns ++ m ∷ [] = take_more ns i m l ∙ ap (λ q. take i ns ++ q ∷ []) (sym at) in
    btree_set_updates_text bs s t true u n
    ∙ ap (λ b. cond b true (contains_text s n)) (nat_list_eq_equiv.symm bs n ∙ ap (bytes_eq n) e)
    ∙ ap (cond (bytes_eq n m) true) (old n)
    ∙ sym (among-append (take i ns) m n)
    ∙ ap (λ ks. is_among ks n) (sym more)

pub among-all : {Y : Type 0} (s : BTreeSet (String Y)) (ns : List Name) (i : ℕ) → length ns ≤ i → ((n : Name) → contains_text s n ≡ is_among (take i ns) n) → (n : Name) → contains_text s n ≡ is_among ns n
among-all s ns i l h n = h n ∙ ap (λ ks. is_among ks n) (take_all i ns l)

-- Classes left out.
none-any : (q : Bool) (x y : Option ClassSummary) → q ≡ true → cond q None x ≡ cond q None y
none-any true x y e = refl
none-any false x y e = absurd cc

some-any : (q : Bool) (c : ClassSummary) → q ≡ false → Some c ≡ cond q None (Some c)
some-any true c e = absurd cc
some-any false c e = refl

named-by : (passes : Name → Bool) (p b : Bool) (c : ClassSummary) (n : Name) (rest : List ClassSummary) (x : Option ClassSummary) → passes c.name ≡ p → same c.name n ≡ b → class_named rest n ≡ cond (passes n) None x → class_named (cond (not p) (c ∷ rest) rest) n ≡ cond (passes n) None (cond b (Some c) x)
unfolding class_named
named-by passes true true c n rest x e s h = h ∙ none-any (passes n) x (Some c) (ap passes (sym (same-true c.name n s)) ∙ e)
named-by passes true false c n rest x e s h = h
named-by passes false true c n rest x e s h = ap (λ k. cond k (Some c) (class_named rest n)) s ∙ some-any (passes n) c (ap passes (sym (same-true c.name n s)) ∙ e)
named-by passes false false c n rest x e s h = ap (λ k. cond k (Some c) (class_named rest n)) s ∙ h

named-nothing : (q : Bool) (d : Option ClassSummary) → d ≡ None → d ≡ cond q None d
named-nothing true d e = e
named-nothing false d e = refl

others-named : (passes : Name → Bool) (cs : List ClassSummary) (n : Name) → class_named (others passes cs) n ≡ cond (passes n) None (class_named cs n)
unfolding class_named
others-named passes [] n = named-nothing (passes n) None refl
others-named passes (c ∷ cs) n = named-by passes (passes c.name) (same c.name n) c n (others passes cs) (class_named cs n) refl refl (others-named passes cs n)

above-by : (p : Bool) (a : Name) (c : ClassSummary) (rest : List ClassSummary) → order a c.name ≡ Less → Above a rest → Above a (cond (not p) (c ∷ rest) rest)
above-by true a c rest l h = h
above-by false a c rest l h = (l, h)

others-above : (passes : Name → Bool) (a : Name) (cs : List ClassSummary) → Above a cs → Above a (others passes cs)
others-above passes a [] h = h
others-above passes a (c ∷ cs) h = above-by (passes c.name) a c (others passes cs) h.0 (others-above passes a cs h.1)

rises-by : (p : Bool) (c : ClassSummary) (rest : List ClassSummary) → Above c.name rest → Rises rest → Rises (cond (not p) (c ∷ rest) rest)
unfolding Rises
rises-by true c rest a r = r
rises-by false c rest a r = (a, r)

others-rises : (passes : Name → Bool) (cs : List ClassSummary) → Rises cs → Rises (others passes cs)
unfolding Rises
others-rises passes [] r = r
others-rises passes (c ∷ cs) r = rises-by (passes c.name) c (others passes cs) (others-above passes c.name cs r.0) (others-rises passes cs r.1)

pub others-leaves : (passes : Name → Bool) (ns : List Name) (cs ds : List ClassSummary) → ((n : Name) → passes n ≡ is_among ns n) → Rises cs → ds ≡ others passes cs → Leaves (map remove ns) cs ds
others-leaves passes ns cs ds h r e = rw e (record {
  rises = others-rises passes cs r;
  each = λ n. others-named passes cs n ∙ ap (λ b. cond b None (class_named cs n)) (h n) ∙ sym (told-removes ns n (class_named cs n));
})

others-next : {A : Type 0} (f : A → ClassSummary) (passes : Name → Bool) (xs : List A) (i : ℕ) (x : A) → i < length xs → x ≡ get_or xs i x → others passes (map f (take (i + 1) xs)) ≡ others passes (map f (take i xs)) ++ others passes (f x ∷ [])
others-next f passes xs i x l e =
    ap (λ ys. others passes (map f ys)) (take_more xs i x l ∙ ap (λ y. take i xs ++ y ∷ []) (sym e))
    ∙ ap (others passes) (map-append f (take i xs) (x ∷ []))
    ∙ filter-append (λ c. not (passes c.name)) (map f (take i xs)) (f x ∷ [])

pub others-skip : {A : Type 0} (f : A → ClassSummary) (passes : Name → Bool) (xs : List A) (i : ℕ) (x : A) (all : List ClassSummary) → i < length xs → x ≡ get_or xs i x → passes (f x).name ≡ true → all ≡ others passes (map f (take i xs)) → all ≡ others passes (map f (take (i + 1) xs))
others-skip f passes xs i x all l e p h =
    h ∙ sym (append-nil (others passes (map f (take i xs)))) ∙ ap (λ b. others passes (map f (take i xs)) ++ cond (not b) (f x ∷ []) []) (sym p) ∙ sym (others-next f passes xs i x l e)

pub others-keep : {A : Type 0} (f : A → ClassSummary) (passes : Name → Bool) (xs : List A) (i : ℕ) (x : A) (all new : List ClassSummary) → i < length xs → x ≡ get_or xs i x → passes (f x).name ≡ false → all ≡ others passes (map f (take i xs)) → new ≡ all ++ f x ∷ [] → new ≡ others passes (map f (take (i + 1) xs))
others-keep f passes xs i x all new l e p h n =
    n ∙ ap (λ ys. ys ++ f x ∷ []) h ∙ ap (λ b. others passes (map f (take i xs)) ++ cond (not b) (f x ∷ []) []) (sym p) ∙ sym (others-next f passes xs i x l e)

pub pushed : {A : Type 0} (f : A → ClassSummary) (xs ys : List A) (x : A) (c : ClassSummary) → ys ≡ xs ++ x ∷ [] → f x ≡ c → map f ys ≡ map f xs ++ c ∷ []
pushed f xs ys x c e s = ap (map f) e ∙ map-append f xs (x ∷ []) ∙ ap (λ d. map f xs ++ d ∷ []) s

pub read-again : {A : Type 0} (f : A → ClassSummary) (xs : List A) (i : ℕ) (x y : A) → i < length xs → x ≡ get_or xs i x → y ≡ get_or xs i y → f x ≡ f y
read-again f xs i x y l e s = ap f (e ∙ get_or_default xs i x y l ∙ sym s)

-- A merge, whatever stood before.
pub record Merges (xs ys zs : List ClassSummary) : Type 0 where
  pub above : (a : Name) → Above a xs → Above a ys → Above a zs
  pub rises : Rises xs → Rises ys → Rises zs
  pub each : Rises xs → Rises ys → (n : Name) → class_named zs n ≡ option_or (class_named ys n) (class_named xs n)

merges-rest : (xs : List ClassSummary) → Merges xs [] xs
unfolding class_named
merges-rest xs = record { above = λ a h k. h; rises = λ r s. r; each = λ r s n. refl }

older-by : (b : Bool) (o : ClassSummary) (x y z : Option ClassSummary) → (b ≡ true → y ≡ None) → x ≡ option_or y z → cond b (Some o) x ≡ option_or y (cond b (Some o) z)
older-by true o x y z h e = sym (ap (λ q. option_or q (Some o)) (h refl))
older-by false o x y z h e = e

merges-older : (o n : ClassSummary) (os ns ts : List ClassSummary) → order o.name n.name ≡ Less → Merges os (n ∷ ns) ts → Merges (o ∷ os) (n ∷ ns) (o ∷ ts)
unfolding Rises class_named
merges-older o n os ns ts l m = record {
  above = λ a h k. (h.0, m.above a h.1 k);
  rises = λ r s. (m.above o.name r.0 (l, above_more o.name n.name ns l s.0), m.rises r.1 s);
  each = λ r s k. older-by (same o.name k) o (class_named ts k) (class_named (n ∷ ns) k) (class_named os k) (λ e. none_above k (n ∷ ns) (subst (λ q. Above q (n ∷ ns)) (same-true o.name k e) (l, above_more o.name n.name ns l s.0))) (m.each r.1 s k);
}

newer-by : (b : Bool) (n : ClassSummary) (x y z : Option ClassSummary) → x ≡ option_or y z → cond b (Some n) x ≡ option_or (cond b (Some n) y) z
newer-by true n x y z e = refl
newer-by false n x y z e = e

prefix-above : (n : Name) (xs : List ClassSummary) → Rises xs → prefix_order n xs ≡ Greater → Above n xs
unfolding Rises
prefix-above n [] r e = r
prefix-above n (c ∷ cs) r e = (greater c.name n e, above_more n c.name cs (greater c.name n e) r.0)

merges-newer : (n : ClassSummary) (xs ns ts : List ClassSummary) → prefix_order n.name xs ≡ Greater → Merges xs ns ts → Merges xs (n ∷ ns) (n ∷ ts)
unfolding Rises class_named
merges-newer n xs ns ts e m = record {
  above = λ a h k. (k.0, m.above a h k.1);
  rises = λ r s. (m.above n.name (prefix-above n.name xs r e) s.0, m.rises r s.1);
  each = λ r s k. newer-by (same n.name k) n (class_named ts k) (class_named ns k) (class_named xs k) (m.each r s.1 k);
}

both-by : (a b : Bool) (o n : ClassSummary) (x y z : Option ClassSummary) → a ≡ b → x ≡ option_or y z → cond b (Some n) x ≡ option_or (cond b (Some n) y) (cond a (Some o) z)
both-by true true o n x y z s e = refl
both-by true false o n x y z s e = absurd cc
both-by false true o n x y z s e = absurd cc
both-by false false o n x y z s e = e

merges-both : (o n : ClassSummary) (os ns ts : List ClassSummary) → order o.name n.name ≡ Equal → Merges os ns ts → Merges (o ∷ os) (n ∷ ns) (n ∷ ts)
unfolding Rises class_named
merges-both o n os ns ts e m =
    let one : o.name ≡ n.name = exact o.name n.name e in
    record {
      above = λ a h k. (k.0, m.above a h.1 k.1);
      rises = λ r s. (m.above n.name (subst (λ q. Above q os) one r.0) s.0, m.rises r.1 s.1);
      each = λ r s k. both-by (same o.name k) (same n.name k) o n (class_named ts k) (class_named ns k) (class_named os k) (ap (λ q. same q k) one) (m.each r.1 s.1 k);
    }

-- What completes the rest completes the whole.
pub record Goes (xs ys all : List ClassSummary) (i j : ℕ) : Type 0 where
  pub goes : (ts : List ClassSummary) → Merges (drop i xs) (drop j ys) ts → Merges xs ys (all ++ ts)

pub goes-first : (xs ys all : List ClassSummary) → all ≡ [] → Goes xs ys all 0 0
goes-first xs ys all e = record { goes = λ ts m. rw e m }

prefix-at : (xs : List ClassSummary) (i : ℕ) (x : ClassSummary) → i < length xs → x ≡ get_or xs i x → drop i xs ≡ x ∷ drop (i + 1) xs
prefix-at xs i x l e = drop_more xs i x l ∙ ap (λ c. c ∷ drop (i + 1) xs) (sym e)

longer : (all new ts : List ClassSummary) (x : ClassSummary) → new ≡ all ++ x ∷ [] → new ++ ts ≡ all ++ x ∷ ts
longer all new ts x e = ap (λ q. q ++ ts) e ∙ append_assoc all (x ∷ []) ts

pub goes-older : (xs ys all new : List ClassSummary) (i j : ℕ) (o n : ClassSummary) → i < length xs → o ≡ get_or xs i o → j < length ys → n ≡ get_or ys j n → prefix_order n.name (drop i xs) ≡ Less → new ≡ all ++ o ∷ [] → Goes xs ys all i j → Goes xs ys new (i + 1) j
goes-older xs ys all new i j o n l e k f w is g = record {
  goes = λ ts m.
      let dx = prefix-at xs i o l e in
      let dy = prefix-at ys j n k f in
      let less : order o.name n.name ≡ Less = subst (λ q. prefix_order n.name q ≡ Less) dx w in
      let one = merges-older o n (drop (i + 1) xs) (drop (j + 1) ys) ts less (subst (λ q. Merges (drop (i + 1) xs) q ts) dy m) in
      subst (Merges xs ys) (sym (longer all new ts o is)) (g.goes (o ∷ ts) (subst (λ q. Merges (drop i xs) q (o ∷ ts)) (sym dy) (subst (λ q. Merges q (n ∷ drop (j + 1) ys) (o ∷ ts)) (sym dx) one)));
}

pub goes-newer : (xs ys all new : List ClassSummary) (i j : ℕ) (n : ClassSummary) → j < length ys → n ≡ get_or ys j n → prefix_order n.name (drop i xs) ≡ Greater → new ≡ all ++ n ∷ [] → Goes xs ys all i j → Goes xs ys new i (j + 1)
goes-newer xs ys all new i j n k f w is g = record {
  goes = λ ts m.
      let dy = prefix-at ys j n k f in
      let one = merges-newer n (drop i xs) (drop (j + 1) ys) ts w m in
      subst (Merges xs ys) (sym (longer all new ts n is)) (g.goes (n ∷ ts) (subst (λ q. Merges (drop i xs) q (n ∷ ts)) (sym dy) one));
}

pub goes-both : (xs ys all new : List ClassSummary) (i j : ℕ) (o n : ClassSummary) → i < length xs → o ≡ get_or xs i o → j < length ys → n ≡ get_or ys j n → prefix_order n.name (drop i xs) ≡ Equal → new ≡ all ++ n ∷ [] → Goes xs ys all i j → Goes xs ys new (i + 1) (j + 1)
goes-both xs ys all new i j o n l e k f w is g = record {
  goes = λ ts m.
      let dx = prefix-at xs i o l e in
      let dy = prefix-at ys j n k f in
      let equal : order o.name n.name ≡ Equal = subst (λ q. prefix_order n.name q ≡ Equal) dx w in
      let one = merges-both o n (drop (i + 1) xs) (drop (j + 1) ys) ts equal m in
      subst (Merges xs ys) (sym (longer all new ts n is)) (g.goes (n ∷ ts) (subst (λ q. Merges (drop i xs) q (n ∷ ts)) (sym dy) (subst (λ q. Merges q (n ∷ drop (j + 1) ys) (n ∷ ts)) (sym dx) one)));
}

pub goes-end : (xs ys all whole : List ClassSummary) (i j : ℕ) → Rises xs → Rises ys → length ys ≤ j → whole ≡ all ++ drop i xs → Goes xs ys all i j → IsMerge xs ys whole
goes-end xs ys all whole i j r s l is g =
    let m : Merges xs ys whole = subst (Merges xs ys) (sym is) (g.goes (drop i xs) (subst (λ q. Merges (drop i xs) q (drop i xs)) (sym (drop_all j ys l)) (merges-rest (drop i xs)))) in
    record { rises = m.rises r s; each = m.each r s }

-- A class stands where the order isn't that of no class.
pub inside : (n : Name) (xs : List ClassSummary) (i : ℕ) (o : Ordering) → (o ≡ Greater → ⊥) → prefix_order n (drop i xs) ≡ o → i < length xs
inside n [] zero o h e = absurd (h (sym e))
inside n [] (suc i) o h e = absurd (h (sym e))
inside n (x ∷ xs) zero o h e = omega arith
inside n (x ∷ xs) (suc i) o h e = omega (arith, inside n xs i o h e)

pub no-less : Less ≡ Greater → ⊥
no-less e = cc

pub no-equal : Equal ≡ Greater → ⊥
no-equal e = cc

pub prefix-order-at : (cs : List ClassSummary) (i : ℕ) (d : ClassSummary) (n : Name) → i < length cs → d ≡ get_or cs i d → prefix_order n (drop i cs) ≡ order d.name n
prefix-order-at [] i d n l e = absurd (omega (arith, l))
prefix-order-at (c ∷ cs) zero d n l e = ap (λ x. order x.name n) (sym e)
prefix-order-at (c ∷ cs) (suc i) d n l e = prefix-order-at cs i d n (omega arith) e

pub prefix-order-end : (cs : List ClassSummary) (i : ℕ) (n : Name) → length cs ≤ i → prefix_order n (drop i cs) ≡ Greater
prefix-order-end cs i n l = ap (prefix_order n) (drop_all i cs l)

-- Puts.
by-put : (o : Option (Option ClassSummary)) (b : Bool) (q : ClassSummary) (d : Option ClassSummary) → told_or o d ≡ option_or (told_or o None) d → told_or (option_or o (cond b (Some (Some q)) None)) d ≡ option_or (told_or (option_or o (cond b (Some (Some q)) None)) None) d
by-put (Some x) b q d h = h
by-put None true q d h = refl
by-put None false q d h = refl

only-puts : (qs : List ClassSummary) (n : Name) (d : Option ClassSummary) → told_or (decided n (map put qs)) d ≡ option_or (told_or (decided n (map put qs)) None) d
unfolding decided
only-puts [] n d = refl
only-puts (q ∷ qs) n d = by-put (decided n (map put qs)) (bytes_eq n q.name) q d (only-puts qs n d)

nothing-named : (n : Name) → class_named [] n ≡ None
unfolding class_named
nothing-named n = refl

pub puts-over : (qs xs ys zs : List ClassSummary) → Leaves (map put qs) [] ys → IsMerge xs ys zs → Leaves (map put qs) xs zs
puts-over qs xs ys zs l m = record {
  rises = m.rises;
  each = λ n. m.each n ∙ ap (λ o. option_or o (class_named xs n)) (l.each n ∙ ap (told_or (decided n (map put qs))) (nothing-named n)) ∙ sym (only-puts qs n (class_named xs n));
}

pub sorted-join : (ps qs rs xs ys zs : List ClassSummary) → ps ++ qs ≡ rs → Leaves (map put ps) [] xs → Leaves (map put qs) [] ys → IsMerge xs ys zs → Leaves (map put rs) [] zs
sorted-join ps qs rs xs ys zs e a b m =
    subst (λ es. Leaves es [] zs) (sym (map-append put ps qs) ∙ ap (map put) e) (leaves-then (map put ps) (map put qs) [] xs zs a (puts-over qs xs ys zs b m))

pub rises-nothing : Rises []
unfolding Rises
rises-nothing = tt

pub sorted-few : {A : Type 0} (f : A → ClassSummary) (qs : List ClassSummary) (xs : List A) (zs : List ClassSummary) → xs ≡ [] → Leaves (map put qs) (map f xs) zs → Leaves (map put qs) [] zs
sorted-few f qs xs zs e l = subst (λ ys. Leaves (map put qs) (map f ys) zs) e l
