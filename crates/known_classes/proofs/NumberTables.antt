-- Tables of extra classes by name, one class further.
use Rattle.std.proofs.Common.{◌≡◌, ◌∙◌, ap, sym, refl, arith, subst, ℕ, suc, ◌+◌, ◌-◌, ◌<◌, ◌≤◌, true, false, cond, List, [], ◌∷◌, ◌++◌, length, map, drop, slice_get, bytes_eq, Option, Some, None, inl, inr}
use Rattle.std.specs.Prelude.{is_some, reverse}
use Rattle.std.specs.Option.{option_or}
use Rattle.std.proofs.lemmas.Bool.{false_from_ne_true}
use Rattle.std.proofs.lemmas.List.{drop_all, drop_more, length-map, length-reverse, reverse-append}
use Rattle.std.proofs.lemmas.Option.{slice_get_within, get_or_from_slice_get}
use Rattle.known_classes.specs.declared.summary.ClassSummary.{ClassSummary}
use Rattle.known_classes.specs.Known.{class_named, IsPlaceOf}
use Rattle.known_classes.specs.Merging.{last_named, added, IsMerging, IsPlaceFromEnd, IsTable}
use Rattle.known_classes.proofs.Merging.{two, equal, itself, class-none, class-hit, class-on, class-append, class-there, last-none, last-on, last-later, last-here, not-some, added-none, added-skip, added-take}
use Rattle.known_classes.proofs.MergedPlaces.{picked_length}

flip : (a b : List ℕ) → bytes_eq a b ≡ false → bytes_eq b a ≡ false
flip a b e = false_from_ne_true (bytes_eq b a) (λ t. let q : bytes_eq a b ≡ true = ap (bytes_eq a) (equal b a t) ∙ itself a in absurd cc)

or-later : (o p : Option ClassSummary) → is_some p ≡ true → is_some (option_or o p) ≡ true
or-later None p h = h
or-later (Some x) p h = refl

or-first : (o p : Option ClassSummary) → is_some o ≡ true → is_some (option_or o p) ≡ true
or-first None p h = absurd cc
or-first (Some x) p h = refl

or-neither : (o p : Option ClassSummary) → o ≡ None → is_some p ≡ false → is_some (option_or o p) ≡ false
or-neither None p g h = h
or-neither (Some x) p g h = absurd cc

known-later : (base part : List ClassSummary) (n : List ℕ) → is_some (class_named part n) ≡ true → is_some (class_named (base ++ part) n) ≡ true
known-later base part n h = ap is_some (class-append base part n) ∙ or-later (class_named base n) (class_named part n) h

known-first : (base part : List ClassSummary) (n : List ℕ) → is_some (class_named base n) ≡ true → is_some (class_named (base ++ part) n) ≡ true
known-first base part n h = ap is_some (class-append base part n) ∙ or-first (class_named base n) (class_named part n) h

not-known : (base part : List ClassSummary) (n : List ℕ) → class_named base n ≡ None → is_some (class_named part n) ≡ false → is_some (class_named (base ++ part) n) ≡ false
not-known base part n g h = ap is_some (class-append base part n) ∙ or-neither (class_named base n) (class_named part n) g h

same-last : (e : ClassSummary) (part : List ClassSummary) (n : List ℕ) → is_some (class_named part e.name) ≡ true → last_named (e ∷ part) n ≡ last_named part n
same-last e part n h = elim (two (bytes_eq n e.name)) [
  | inl t ↦ last-later e part n (ap (λ (m : List ℕ). is_some (class_named part m)) (equal n e.name t) ∙ h)
  | inr f ↦ last-on e part n f
]

same-has : (e : ClassSummary) (part : List ClassSummary) (n : List ℕ) → is_some (class_named part e.name) ≡ true → is_some (class_named (e ∷ part) n) ≡ is_some (class_named part n)
same-has e part n h = elim (two (bytes_eq n e.name)) [
  | inl t ↦ ap is_some (class-hit e part n t) ∙ sym (ap (λ (m : List ℕ). is_some (class_named part m)) (equal n e.name t) ∙ h)
  | inr f ↦ ap is_some (class-on e part n f)
]

place-from : (cs : List ClassSummary) (o p : Option ClassSummary) (i j : Option ℕ) → o ≡ p → i ≡ j → IsPlaceOf cs p j → IsPlaceOf cs o i
place-from cs o p i j e f h = subst (λ (x : Option ClassSummary). IsPlaceOf cs x i) (sym e) (subst (IsPlaceOf cs p) (sym f) h)

end-from : (cs ds : List ClassSummary) (n : List ℕ) (i j : Option ℕ) → cs ≡ ds → i ≡ j → IsPlaceFromEnd ds (class_named ds n) j → IsPlaceFromEnd cs (class_named cs n) i
end-from cs ds n i j e f h = subst (λ (x : List ClassSummary). IsPlaceFromEnd x (class_named x n) i) (sym e) (subst (IsPlaceFromEnd ds (class_named ds n)) (sym f) h)

end-on : (x : ClassSummary) (xs : List ClassSummary) (o p : Option ClassSummary) (i : Option ℕ) → o ≡ p → IsPlaceFromEnd xs p i → IsPlaceFromEnd (x ∷ xs) o i
end-on x xs o p None e h = e ∙ h
end-on x xs o p (Some n) e h =
    let l : n < length xs = h.0 in
    let z : length (x ∷ xs) - 1 - n ≡ suc (length xs - 1 - n) = omega (arith, l) in
    (omega (arith, l), e ∙ h.1 ∙ sym (ap (slice_get (x ∷ xs)) z))

end-first : (x : ClassSummary) (xs : List ClassSummary) (o : Option ClassSummary) (k : ℕ) → k ≡ length xs → o ≡ Some x → IsPlaceFromEnd (x ∷ xs) o (Some k)
end-first x xs o k e h =
    let z : length (x ∷ xs) - 1 - k ≡ 0 = omega (arith, e) in
    (omega (arith, e), h ∙ sym (ap (slice_get (x ∷ xs)) z))

-- the table t with the number k at the name
abbrev pub Puts : List ℕ → ℕ → (List ℕ → Option ℕ) → (List ℕ → Option ℕ) → Type 0
Puts name k t u = (n : List ℕ) → u n ≡ cond (bytes_eq name n) (Some k) (t n)

put-here : (name : List ℕ) (k : ℕ) (t u : List ℕ → Option ℕ) (n : List ℕ) → Puts name k t u → bytes_eq n name ≡ true → u n ≡ Some k
put-here name k t u n h e = h n ∙ ap (λ b. cond b (Some k) (t n)) (ap (bytes_eq name) (equal n name e) ∙ itself name)

put-else : (name : List ℕ) (k : ℕ) (t u : List ℕ → Option ℕ) (n : List ℕ) → Puts name k t u → bytes_eq n name ≡ false → u n ≡ t n
put-else name k t u n h e = h n ∙ ap (λ b. cond b (Some k) (t n)) (flip n name e)

put-has : (base extra : List ClassSummary) (e : ClassSummary) (part : List ClassSummary) (t u : List ℕ → Option ℕ) (k : ℕ) (n : List ℕ) → Puts e.name k t u → IsTable base extra part t → is_some (u n) ≡ is_some (class_named (e ∷ part) n)
put-has base extra e part t u k n p h = elim (two (bytes_eq n e.name)) [
  | inl s ↦ ap is_some (put-here e.name k t u n p s) ∙ sym (ap is_some (class-hit e part n s))
  | inr f ↦ ap is_some (put-else e.name k t u n p f) ∙ h.has n ∙ sym (ap is_some (class-on e part n f))
]

table-skip : (base extra : List ClassSummary) (e : ClassSummary) (part : List ClassSummary) (t : List ℕ → Option ℕ) → is_some (t e.name) ≡ true → IsTable base extra part t → IsTable base extra (e ∷ part) t
table-skip base extra e part t s h =
    let g : is_some (class_named part e.name) ≡ true = sym (h.has e.name) ∙ s in
    record {
      has = λ n. h.has n ∙ sym (same-has e part n g);
      kept = λ n c b. place-from extra (last_named (e ∷ part) n) (last_named part n) (t n) (t n) (same-last e part n g) refl (h.kept n c b);
      new = λ n b. end-from (added base (e ∷ part)) (added base part) n (t n) (t n) (added-skip base e part (known-later base part e.name g)) refl (h.new n b);
    }

both-there : (base : List ClassSummary) (m n : List ℕ) (c : ClassSummary) → class_named base m ≡ None → class_named base n ≡ Some c → m ≡ n → ⊥
both-there base m n c g h e = let q : class_named base m ≡ Some c = ap (class_named base) e ∙ h in absurd cc

kept-on : (base extra : List ClassSummary) (e : ClassSummary) (part : List ClassSummary) (t u : List ℕ → Option ℕ) (k : ℕ) (n : List ℕ) (c : ClassSummary) → Puts e.name k t u → class_named base n ≡ Some c → bytes_eq n e.name ≡ false → IsTable base extra part t → IsPlaceOf extra (last_named (e ∷ part) n) (u n)
kept-on base extra e part t u k n c p b f h = place-from extra (last_named (e ∷ part) n) (last_named part n) (u n) (t n) (last-on e part n f) (put-else e.name k t u n p f) (h.kept n c b)

table-base : (base extra : List ClassSummary) (e d : ClassSummary) (part : List ClassSummary) (t u : List ℕ → Option ℕ) (k : ℕ) → is_some (t e.name) ≡ false → class_named base e.name ≡ Some d → slice_get extra k ≡ Some e → Puts e.name k t u → IsTable base extra part t → IsTable base extra (e ∷ part) u
table-base base extra e d part t u k s b g p h =
    let gone : class_named part e.name ≡ None = not-some (class_named part e.name) (sym (h.has e.name) ∙ s) in
    let there : is_some (class_named base e.name) ≡ true = ap is_some b in
    record {
      has = λ n. put-has base extra e part t u k n p h;
      kept = λ n c q. elim (two (bytes_eq n e.name)) [
        | inl w ↦ place-from extra (last_named (e ∷ part) n) (Some e) (u n) (Some k) (last-here e part n w (ap (class_named part) (equal n e.name w) ∙ gone)) (put-here e.name k t u n p w) (slice_get_within extra k e g, sym g)
        | inr f ↦ kept-on base extra e part t u k n c p q f h
      ];
      new = λ n q. elim (two (bytes_eq n e.name)) [
        | inl w ↦ absurd (both-there base n e.name d q b (equal n e.name w))
        | inr f ↦ end-from (added base (e ∷ part)) (added base part) n (u n) (t n) (added-skip base e part (known-first base part e.name there)) (put-else e.name k t u n p f) (h.new n q)
      ];
    }

table-new : (base extra : List ClassSummary) (e : ClassSummary) (part : List ClassSummary) (t u : List ℕ → Option ℕ) (k : ℕ) → is_some (t e.name) ≡ false → class_named base e.name ≡ None → k ≡ length (added base part) → Puts e.name k t u → IsTable base extra part t → IsTable base extra (e ∷ part) u
table-new base extra e part t u k s b l p h =
    let gone : is_some (class_named part e.name) ≡ false = sym (h.has e.name) ∙ s in
    let more : added base (e ∷ part) ≡ e ∷ added base part = added-take base e part (not-known base part e.name b gone) in
    record {
      has = λ n. put-has base extra e part t u k n p h;
      kept = λ n c q. elim (two (bytes_eq n e.name)) [
        | inl w ↦ absurd (both-there base e.name n c b q (sym (equal n e.name w)))
        | inr f ↦ kept-on base extra e part t u k n c p q f h
      ];
      new = λ n q. elim (two (bytes_eq n e.name)) [
        | inl w ↦ end-from (added base (e ∷ part)) (e ∷ added base part) n (u n) (Some k) more (put-here e.name k t u n p w) (end-first e (added base part) (class_named (e ∷ added base part) n) k l (class-hit e (added base part) n w))
        | inr f ↦ end-from (added base (e ∷ part)) (e ∷ added base part) n (u n) (t n) more (put-else e.name k t u n p f) (end-on e (added base part) (class_named (e ∷ added base part) n) (class_named (added base part) n) (t n) (class-on e (added base part) n f) (h.new n q))
      ];
    }

table-none : (base extra : List ClassSummary) (t : List ℕ → Option ℕ) → ((n : List ℕ) → t n ≡ None) → IsTable base extra [] t
table-none base extra t e = record {
  has = λ n. ap is_some (e n) ∙ sym (ap is_some (class-none n));
  kept = λ n c b. place-from extra (last_named [] n) None (t n) None (last-none n) (e n) refl;
  new = λ n b. end-from (added base []) [] n (t n) None (added-none base) (e n) (class-none n);
}

-- what is known of the extra classes from this one on
pub record IsMade (base extra : List ClassSummary) (numbers : List ℕ) (t : List ℕ → Option ℕ) (left : ℕ) : Type 0 where
  pub within : left ≤ length extra
  pub each : map (slice_get extra) (reverse numbers) ≡ map Some (added base (drop left extra))
  pub table : IsTable base extra (drop left extra) t

prefix : (extra : List ClassSummary) (left k : ℕ) (e : ClassSummary) → k + 1 ≡ left → slice_get extra k ≡ Some e → drop k extra ≡ e ∷ drop left extra
prefix extra left k e l g =
    drop_more extra k e (slice_get_within extra k e g) ∙ (ap (λ (x : ClassSummary). x ∷ drop (k + 1) extra) (get_or_from_slice_get extra k e e g) ∙ ap (λ (n : ℕ). e ∷ drop n extra) l)

picked-length : (extra new : List ClassSummary) (numbers : List ℕ) → map (slice_get extra) (reverse numbers) ≡ map Some new → length numbers ≡ length new
picked-length extra new numbers e = sym (length-reverse numbers) ∙ sym (length-map (reverse numbers) (slice_get extra)) ∙ ap length e ∙ length-map new Some

pub made_first : (base extra : List ClassSummary) (numbers : List ℕ) (t : List ℕ → Option ℕ) (n : ℕ) → n ≡ length extra → numbers ≡ [] → ((name : List ℕ) → t name ≡ None) → IsMade base extra numbers t n
made_first base extra numbers t n l z e =
    let d : drop n extra ≡ [] = drop_all n extra (omega arith) in
    record {
      within = omega arith;
      each = ap (λ (r : List ℕ). map (slice_get extra) (reverse r)) z ∙ sym (ap (λ (r : List ClassSummary). map Some (added base r)) d ∙ ap (map Some) (added-none base));
      table = subst (λ (r : List ClassSummary). IsTable base extra r t) (sym d) (table-none base extra t e);
    }

pub made_skip : (base extra : List ClassSummary) (numbers : List ℕ) (t : List ℕ → Option ℕ) (left k : ℕ) (e : ClassSummary) → k + 1 ≡ left → slice_get extra k ≡ Some e → is_some (t e.name) ≡ true → IsMade base extra numbers t left → IsMade base extra numbers t k
made_skip base extra numbers t left k e l g s h =
    let part : List ClassSummary = drop left extra in
    let d : drop k extra ≡ e ∷ part = prefix extra left k e l g in
    let a : added base (e ∷ part) ≡ added base part = added-skip base e part (known-later base part e.name (sym (h.table.has e.name) ∙ s)) in
    record {
      within = omega (arith, h.within);
      each = h.each ∙ sym (ap (λ (r : List ClassSummary). map Some (added base r)) d ∙ ap (map Some) a);
      table = subst (λ (r : List ClassSummary). IsTable base extra r t) (sym d) (table-skip base extra e part t s h.table);
    }

pub made_base : (base extra : List ClassSummary) (numbers : List ℕ) (t u : List ℕ → Option ℕ) (left k : ℕ) (e c : ClassSummary) → k + 1 ≡ left → slice_get extra k ≡ Some e → is_some (t e.name) ≡ false → class_named base e.name ≡ Some c → Puts e.name k t u → IsMade base extra numbers t left → IsMade base extra numbers u k
made_base base extra numbers t u left k e c l g s b p h =
    let part : List ClassSummary = drop left extra in
    let d : drop k extra ≡ e ∷ part = prefix extra left k e l g in
    let a : added base (e ∷ part) ≡ added base part = added-skip base e part (known-first base part e.name (ap is_some b)) in
    record {
      within = omega (arith, h.within);
      each = h.each ∙ sym (ap (λ (r : List ClassSummary). map Some (added base r)) d ∙ ap (map Some) a);
      table = subst (λ (r : List ClassSummary). IsTable base extra r u) (sym d) (table-base base extra e c part t u k s b g p h.table);
    }

pub made_new : (base extra : List ClassSummary) (numbers more : List ℕ) (t u : List ℕ → Option ℕ) (left k n : ℕ) (e : ClassSummary) → k + 1 ≡ left → slice_get extra k ≡ Some e → is_some (t e.name) ≡ false → class_named base e.name ≡ None → n ≡ length numbers → more ≡ numbers ++ k ∷ [] → Puts e.name n t u → IsMade base extra numbers t left → IsMade base extra more u k
made_new base extra numbers more t u left k n e l g s b m q p h =
    let part : List ClassSummary = drop left extra in
    let d : drop k extra ≡ e ∷ part = prefix extra left k e l g in
    let a : added base (e ∷ part) ≡ e ∷ added base part = added-take base e part (not-known base part e.name b (sym (h.table.has e.name) ∙ s)) in
    record {
      within = omega (arith, h.within);
      each =
          ap (λ (r : List ℕ). map (slice_get extra) (reverse r)) q
          ∙ ap (map (slice_get extra)) (reverse-append numbers (k ∷ []))
          ∙ ap (λ (o : Option ClassSummary). o ∷ map (slice_get extra) (reverse numbers)) g
          ∙ ap (λ (r : List (Option ClassSummary)). Some e ∷ r) h.each
          ∙ sym (ap (λ (r : List ClassSummary). map Some (added base r)) d ∙ ap (map Some) a);
      table = subst (λ (r : List ClassSummary). IsTable base extra r u) (sym d) (table-new base extra e part t u n s b (m ∙ picked-length extra (added base part) numbers h.each) p h.table);
    }

pub some-there : (o : Option ClassSummary) → is_some o ≡ true → (c : ClassSummary) × (o ≡ Some c)
some-there None e = absurd cc
some-there (Some c) e = (c, refl)

-- the last extra class of the name of a base class
pub kept_place : (base extra : List ClassSummary) (t : List ℕ → Option ℕ) (c : ClassSummary) (place : ℕ) (o : Option ℕ) → IsTable base extra extra t → slice_get base place ≡ Some c → t c.name ≡ o → IsPlaceOf extra (last_named extra c.name) o
kept_place base extra t c place o h g e =
    let d = some-there (class_named base c.name) (class-there base place c g) in
    subst (IsPlaceOf extra (last_named extra c.name)) e (h.kept c.name d.0 d.1)

-- the added class of a name
pub new_place : (base extra : List ClassSummary) (numbers : List ℕ) (t : List ℕ → Option ℕ) (n : List ℕ) (k : ℕ) → IsMerging base extra numbers → IsTable base extra extra t → class_named base n ≡ None → t n ≡ Some k → (k < length numbers) × IsPlaceOf (added base extra) (class_named (added base extra) n) (Some (length numbers - 1 - k))
new_place base extra numbers t n k m h b e =
    let p : IsPlaceFromEnd (added base extra) (class_named (added base extra) n) (Some k) = subst (IsPlaceFromEnd (added base extra) (class_named (added base extra) n)) e (h.new n b) in
    let l : length (added base extra) ≡ length numbers = picked_length extra (added base extra) numbers m.each in
    let z : length (added base extra) - 1 - k ≡ length numbers - 1 - k = ap (λ (x : ℕ). x - 1 - k) l in
    let w : k < length (added base extra) = p.0 in
    (omega (arith, l, w), (omega (arith, l, w), p.1 ∙ ap (slice_get (added base extra)) z))

pub new_none : (base extra : List ClassSummary) (t : List ℕ → Option ℕ) (n : List ℕ) → IsTable base extra extra t → class_named base n ≡ None → t n ≡ None → class_named (added base extra) n ≡ None
new_none base extra t n h b e = subst (IsPlaceFromEnd (added base extra) (class_named (added base extra) n)) e (h.new n b)
