-- A step shows one character more: in words, and in the brackets of a cast or an interface.
use Rattle.std.proofs.Common.{◌≡◌, ◌∙◌, ◌⊎◌, inl, inr, ap, ap₂, sym, subst, refl, ℕ, zero, suc, ◌==◌, ◌&&◌, ◌||◌, not, Bool, true, false, List, [], ◌∷◌, ◌++◌, Option, Some, None, codes, append_assoc, append-nil, eqb-true, if◌then◌else◌}
use Rattle.std.proofs.lemmas.Bool.{false≢true, and_parts, or_cases}
use Rattle.java_tokens.specs.Words.{is_word}
use Rattle.java_units.specs.Signs.{has}
use Rattle.java_units.specs.Forms.{primitives}
use Rattle.java_shapes.specs.Words.{spells_identifier, begins_name, literals, IsQualified, IsNamePath, IsCallPath}
use Rattle.java_shapes.specs.Shape.{named, Before, nothing, fresh, behind, in_brackets, shown, shown_before}
use Rattle.java_shapes.specs.Grammar.{dimensions, IsType, IsNameBehind, IsCallBehind, IsShape, IsBefore}
use Rattle.java_shapes.specs.Reader.{Around, in_group, Part, first, later, opened, typing, sized, either, binders_opened, call_opened, due, start, is_barred, may_cast, close, is_sign, is_empty, is_fresh, is_this_dot, begins_first, begins_binder, when, first_sign, first_step, later_step, type_closed, typing_step, step}
use Rattle.java_shapes.proofs.WordFacts.{identifier_word}
use Rattle.java_shapes.proofs.Shaped.{has_one, one_word, path_more, qualified_call, more_call, identifier_begins}
use Rattle.java_shapes.proofs.RunWords.{no_empty_word}
use Rattle.java_shapes.proofs.RunForms.{may_none}
use Rattle.java_shapes.proofs.Ends.{IsFront, IsFrontBehind, IsPart, own_qualified, front_more, type_cast}
use Rattle.java_shapes.proofs.Sound.{place_text, site_text, Next, by_none, by_some, by_when, by_if, by_eq, site_with, site_none, close_sound}

-- texts
pub push : (a w x : List ℕ) → a ++ (w ++ x) ≡ (a ++ w) ++ x
push a w x = sym (append_assoc a w x)

pub named_push : (a w : List ℕ) (k : ℕ) → a ++ ([] ++ (w ++ k ∷ [])) ≡ (a ++ w) ++ k ∷ []
named_push a w k = simp append_assoc

pub dot_push : (a w : List ℕ) → a ++ ([] ++ ((w ++ 46 ∷ []) ++ [])) ≡ (a ++ w) ++ 46 ∷ []
dot_push a w = simp (append_assoc, append-nil)

pub later_push : (a b d w : List ℕ) (k : ℕ) → a ++ (b ++ (d ++ (w ++ k ∷ []))) ≡ (a ++ (b ++ (d ++ w))) ++ k ∷ []
later_push a b d w k = simp append_assoc

pub later_dot_push : (a b d w : List ℕ) → a ++ (b ++ ((d ++ (w ++ 46 ∷ [])) ++ [])) ≡ (a ++ (b ++ (d ++ w))) ++ 46 ∷ []
later_dot_push a b d w = simp (append_assoc, append-nil)

pub later_call_push : (a b d w : List ℕ) → a ++ (b ++ ((d ++ w) ++ 40 ∷ [])) ≡ (a ++ (b ++ (d ++ w))) ++ 40 ∷ []
later_call_push a b d w = simp append_assoc

pub typing_push : (a d w : List ℕ) (k : ℕ) → a ++ 40 ∷ (d ++ (w ++ k ∷ [])) ≡ (a ++ 40 ∷ (d ++ w)) ++ k ∷ []
typing_push a d w k = simp append_assoc

pub typing_dot_push : (a d w : List ℕ) → a ++ 40 ∷ ((d ++ (w ++ 46 ∷ [])) ++ []) ≡ (a ++ 40 ∷ (d ++ w)) ++ 46 ∷ []
typing_dot_push a d w = simp (append_assoc, append-nil)

pub sized_push : (a d w : List ℕ) → a ++ 40 ∷ ((d ++ w) ++ 91 ∷ 93 ∷ []) ≡ ((a ++ 40 ∷ (d ++ w)) ++ 91 ∷ []) ++ 93 ∷ []
sized_push a d w = simp append_assoc

pub more_sized_push : (a t : List ℕ) → a ++ 40 ∷ (t ++ 91 ∷ 93 ∷ []) ≡ ((a ++ 40 ∷ t) ++ 91 ∷ []) ++ 93 ∷ []
more_sized_push a t = simp append_assoc

pub cast_push : (a t : List ℕ) → (a ++ ((40 ∷ (t ++ 41 ∷ [])) ++ 32 ∷ [])) ++ [] ≡ ((a ++ 40 ∷ t) ++ 41 ∷ []) ++ 32 ∷ []
cast_push a t = simp (append_assoc, append-nil)

pub either_push : (a t : List ℕ) → a ++ ((40 ∷ (t ++ 41 ∷ [])) ++ 32 ∷ []) ≡ ((a ++ 40 ∷ t) ++ 41 ∷ []) ++ 32 ∷ []
either_push a t = simp append_assoc

pub head_push : (a t : List ℕ) → a ++ ((40 ∷ (t ++ 41 ∷ [])) ++ (32 ∷ 40 ∷ [])) ≡ (((a ++ 40 ∷ t) ++ 41 ∷ []) ++ 32 ∷ []) ++ 40 ∷ []
head_push a t = simp append_assoc

pub word_push : (a w : List ℕ) (k : ℕ) → a ++ 40 ∷ (w ++ k ∷ []) ≡ (a ++ 40 ∷ w) ++ k ∷ []
word_push a w k = simp append_assoc

pub closed_push : (a w : List ℕ) → a ++ 40 ∷ (w ++ (41 ∷ 32 ∷ [])) ≡ ((a ++ 40 ∷ w) ++ 41 ∷ []) ++ 32 ∷ []
closed_push a w = simp append_assoc

pub binder_push : (a s b w : List ℕ) (k : ℕ) → a ++ (s ++ (b ++ (w ++ k ∷ []))) ≡ (a ++ (s ++ (b ++ w))) ++ k ∷ []
binder_push a s b w k = simp append_assoc

pub comma_push : (a s b w : List ℕ) → a ++ (s ++ ((b ++ (w ++ (44 ∷ 32 ∷ []))) ++ [])) ≡ ((a ++ (s ++ (b ++ w))) ++ 44 ∷ []) ++ 32 ∷ []
comma_push a s b w = simp (append_assoc, append-nil)

-- behind `)` of the binders
pub arrow_push : (a s l : List ℕ) → ((a ++ (((40 ∷ (s ++ 41 ∷ [])) ++ (32 ∷ (40 ∷ (l ++ 41 ∷ [])))) ++ (32 ∷ 45 ∷ 62 ∷ 32 ∷ []))) ++ []) ++ [] ≡ ((((a ++ (((40 ∷ (s ++ 41 ∷ [])) ++ (32 ∷ 40 ∷ [])) ++ l)) ++ 41 ∷ []) ++ 32 ∷ []) ++ 45 ∷ []) ++ 62 ∷ [] ++ 32 ∷ []
arrow_push a s l = simp (append_assoc, append-nil)

-- no character yet
pub begins_nothing : (p : List ℕ) → begins_binder p [] ≡ true
unfolding begins_binder
begins_nothing [] = refl
begins_nothing (b ∷ p) = refl

-- words
pub no_name_empty : begins_name [] ≡ true → ⊥
unfolding begins_name spells_identifier has
no_name_empty h = elim (or_cases (spells_identifier []) (has (codes "this" ∷ literals) []) h) [ inl i ↦ no_empty_word (identifier_word [] i) | inr l ↦ false≢true l ]

pub first_open : (p : List ℕ) (a : Around) (c : Option (List ℕ)) (w : List ℕ) → IsPart p (first a c w) → begins_name w ≡ true → is_barred a c ≡ false
first_open p a c w (h, k, inl e) n = absurd (no_name_empty (subst (λ x. begins_name x ≡ true) e n))
first_open p a c w (h, k, inr b) n = b.0

pub empty_is : (w : List ℕ) → is_empty w ≡ true → w ≡ []
empty_is [] h = refl
empty_is (c ∷ w) h = absurd (false≢true h)

pub not_is : (b : Bool) → not b ≡ true → b ≡ false
not_is true h = absurd (false≢true h)
not_is false h = refl

pub no_cons : (x : ℕ) (w : List ℕ) → x ∷ w ≡ [] → ⊥
no_cons x w e = cc

pub more_open : (p : List ℕ) (a : Around) (c : Option (List ℕ)) (w : List ℕ) → IsPart p (first a c w) → not (is_empty w && is_barred a c) ≡ true → is_barred a c ≡ false
more_open p a c [] h n = not_is (is_barred a c) n
more_open p a c (x ∷ w) (h, k, inl e) n = absurd (no_cons x w e)
more_open p a c (x ∷ w) (h, k, inr b) n = b.0

-- the first word
pub first_left : (p : List ℕ) (a : Around) (c : Option (List ℕ)) (w : List ℕ) → IsPart p (first a c w) → (r : Part) → (if is_empty w then Some (opened a c) else when (spells_identifier w) (call_opened a c nothing w)) ≡ Some r → Next p (site_text a c ++ w) 40 r
unfolding IsBefore shown_before
first_left p a c w h =
    by_if (Next p (site_text a c ++ w) 40) (is_empty w) (Some (opened a c)) (when (spells_identifier w) (call_opened a c nothing w))
    (λ e. by_some (Next p (site_text a c ++ w) 40) (opened a c) ((h.0, h.1), subst (λ x. site_text a c ++ 40 ∷ [] ≡ (site_text a c ++ x) ++ 40 ∷ []) (sym (empty_is w e)) (ap (λ y. y ++ 40 ∷ []) (sym (append-nil (site_text a c))))))
    (λ e. by_when (Next p (site_text a c ++ w) 40) (spells_identifier w) (call_opened a c nothing w)
    (λ s. ((h.0, h.1, first_open p a c w h (identifier_begins w s), tt, qualified_call w (own_qualified w s)), named_push (site_text a c) w 40)))

pub no_new : codes "new" ≡ [] → ⊥
no_new z = cc

pub fresh_sound : (p : List ℕ) (a : Around) (c : Option (List ℕ)) (w : List ℕ) → IsPart p (first a c w) → codes "new" ≡ w → Next p (site_text a c ++ w) 32 (later a c fresh [] [])
unfolding IsBefore shown_before
fresh_sound p a c w (h, k, inl e) n = absurd (no_new (n ∙ e))
fresh_sound p a c w (h, k, inr b) n =
    ((h, k, b.0, tt, inl refl, inl refl), subst (λ x. site_text a c ++ (codes "new " ++ ([] ++ [])) ≡ (site_text a c ++ x) ++ 32 ∷ []) n (push (site_text a c) (codes "new") (32 ∷ [])))

pub first_sound : (p : List ℕ) (a : Around) (c : Option (List ℕ)) (w : List ℕ) (k : ℕ) → IsPart p (first a c w) → (r : Part) → first_step a c w k ≡ Some r → Next p (site_text a c ++ w) k r
unfolding IsBefore IsShape shown shown_before
first_sound p a c w k h =
    let P = Next p (site_text a c ++ w) in
    by_if (P k) (is_sign k) (first_sign a c w k) (when (not (is_empty w && is_barred a c) && begins_first (w ++ k ∷ [])) (first a c (w ++ k ∷ [])))
    (λ s. by_eq P k 40 (if is_empty w then Some (opened a c) else when (spells_identifier w) (call_opened a c nothing w)) (if k == 46 then when (begins_name w) (later a c nothing (w ++ 46 ∷ []) []) else (if k == 32 then when (has (codes "new" ∷ []) w) (later a c fresh [] []) else (if begins_name w then close a c (named nothing w) k else None)))
    (first_left p a c w h)
    (by_eq P k 46 (when (begins_name w) (later a c nothing (w ++ 46 ∷ []) [])) (if k == 32 then when (has (codes "new" ∷ []) w) (later a c fresh [] []) else (if begins_name w then close a c (named nothing w) k else None))
    (by_when (P 46) (begins_name w) (later a c nothing (w ++ 46 ∷ []) []) (λ n. ((h.0, h.1, first_open p a c w h n, tt, (w, (one_word begins_name spells_identifier w n, refl)), inl refl), dot_push (site_text a c) w)))
    (by_eq P k 32 (when (has (codes "new" ∷ []) w) (later a c fresh [] [])) (if begins_name w then close a c (named nothing w) k else None)
    (by_when (P 32) (has (codes "new" ∷ []) w) (later a c fresh [] []) (λ n. fresh_sound p a c w h (has_one (codes "new") w n)))
    (by_if (P k) (begins_name w) (close a c (named nothing w) k) None
    (λ n r q. subst (λ x. Next p x k r) (sym (site_with a c w)) (close_sound p a h.0 c h.1 (named nothing w) (tt, one_word begins_name spells_identifier w n) k r q))
    (λ n. by_none (P k))))))
    (λ s. by_when (P k) (not (is_empty w && is_barred a c) && begins_first (w ++ k ∷ [])) (first a c (w ++ k ∷ []))
    (λ n. let b = and_parts (not (is_empty w && is_barred a c)) (begins_first (w ++ k ∷ [])) n in
    ((h.0, h.1, inr (more_open p a c w h b.0, b.1)), push (site_text a c) w (k ∷ []))))

-- a later word
pub path_behind : (b : Before) (done w : List ℕ) → is_fresh b ≡ false → IsFrontBehind b done → spells_identifier w ≡ true → IsNameBehind b (done ++ w)
path_behind nothing done w f (t, (q, e)) h = subst IsNamePath (sym (append_assoc t (46 ∷ []) w) ∙ ap (λ x. x ++ w) (sym e)) (path_more begins_name t w q h)
path_behind fresh done w f q h = absurd (false≢true (sym f))
path_behind (behind b t args) done w f q h = front_more done w q h
path_behind (in_brackets c e) done w f q h = front_more done w q h

pub front_behind : (b : Before) (done w : List ℕ) → IsFrontBehind b done → spells_identifier w ≡ true → IsFrontBehind b (done ++ (w ++ 46 ∷ []))
front_behind nothing done w (t, (q, e)) h =
    (done ++ w, (path_behind nothing done w refl (t, (q, e)) h, sym (append_assoc done w (46 ∷ []))))
front_behind fresh done w q h = inr (done ++ w, (front_more done w q h, sym (append_assoc done w (46 ∷ []))))
front_behind (behind b t args) done w q h = inr (done ++ w, (front_more done w q h, sym (append_assoc done w (46 ∷ []))))
front_behind (in_brackets c e) done w q h = inr (done ++ w, (front_more done w q h, sym (append_assoc done w (46 ∷ []))))

pub no_this_text : (t done : List ℕ) → done ≡ t ++ 46 ∷ [] → has (codes "this." ∷ []) done ≡ false → t ≡ codes "this" → ⊥
unfolding has
no_this_text t done e n same = false≢true (sym n ∙ ap (has (codes "this." ∷ [])) (e ∙ ap (λ x. x ++ 46 ∷ []) same))

pub call_behind : (b : Before) (done w : List ℕ) → IsFrontBehind b done → spells_identifier w ≡ true → is_this_dot b done ≡ false → IsCallBehind b (done ++ w)
call_behind nothing done w (t, (q, e)) h n =
    subst IsCallPath (sym (append_assoc t (46 ∷ []) w) ∙ ap (λ x. x ++ w) (sym e)) (more_call t w q (no_this_text t done e n) h)
call_behind fresh done w q h n = front_more done w q h
call_behind (behind b t args) done w q h n = front_more done w q h
call_behind (in_brackets c e) done w q h n = front_more done w q h

pub later_sound : (p : List ℕ) (a : Around) (c : Option (List ℕ)) (b : Before) (done w : List ℕ) (k : ℕ) → IsPart p (later a c b done w) → (r : Part) → later_step a c b done w k ≡ Some r → Next p (site_text a c ++ (shown_before b ++ (done ++ w))) k r
unfolding IsShape shown
later_sound p a c b done w k h =
    let P = Next p (site_text a c ++ (shown_before b ++ (done ++ w))) in
    by_eq P k 40 (when (spells_identifier w && not (is_this_dot b done)) (call_opened a c b (done ++ w))) (if k == 46 then when (spells_identifier w) (later a c b (done ++ (w ++ 46 ∷ [])) []) else (if is_sign k then (if spells_identifier w && not (is_fresh b) then close a c (named b (done ++ w)) k else None) else when (is_word (w ++ k ∷ [])) (later a c b done (w ++ k ∷ []))))
    (by_when (P 40) (spells_identifier w && not (is_this_dot b done)) (call_opened a c b (done ++ w))
    (λ n. let m = and_parts (spells_identifier w) (not (is_this_dot b done)) n in
    ((h.0, h.1, h.2, h.3, call_behind b done w h.4 m.0 (not_is (is_this_dot b done) m.1)), later_call_push (site_text a c) (shown_before b) done w)))
    (by_eq P k 46 (when (spells_identifier w) (later a c b (done ++ (w ++ 46 ∷ [])) [])) (if is_sign k then (if spells_identifier w && not (is_fresh b) then close a c (named b (done ++ w)) k else None) else when (is_word (w ++ k ∷ [])) (later a c b done (w ++ k ∷ [])))
    (by_when (P 46) (spells_identifier w) (later a c b (done ++ (w ++ 46 ∷ [])) []) (λ n. ((h.0, h.1, h.2, h.3, front_behind b done w h.4 n, inl refl), later_dot_push (site_text a c) (shown_before b) done w)))
    (by_if (P k) (is_sign k) (if spells_identifier w && not (is_fresh b) then close a c (named b (done ++ w)) k else None) (when (is_word (w ++ k ∷ [])) (later a c b done (w ++ k ∷ [])))
    (λ s. by_if (P k) (spells_identifier w && not (is_fresh b)) (close a c (named b (done ++ w)) k) None
    (λ n r q. let m = and_parts (spells_identifier w) (not (is_fresh b)) n in
    subst (λ x. Next p x k r) (sym (site_with a c (shown_before b ++ (done ++ w)))) (close_sound p a h.0 c h.1 (named b (done ++ w)) (h.3, path_behind b done w (not_is (is_fresh b) m.1) h.4 m.0) k r q))
    (λ n. by_none (P k)))
    (λ s. by_when (P k) (is_word (w ++ k ∷ [])) (later a c b done (w ++ k ∷ [])) (λ n. ((h.0, h.1, h.2, h.3, h.4, inr n), later_push (site_text a c) (shown_before b) done w k)))))

-- in brackets
pub opened_sound : (p : List ℕ) (a : Around) (c : Option (List ℕ)) (k : ℕ) → IsPart p (opened a c) → (r : Part) → step p (opened a c) k ≡ Some r → Next p (site_text a c ++ codes "(") k r
unfolding step place_text
opened_sound p a c k h =
    let P = Next p (site_text a c ++ codes "(") in
    by_eq P k 40 (when (not (is_barred a c)) (opened (in_group a c) None)) (when (is_word (k ∷ [])) (typing a c [] (k ∷ [])))
    (by_when (P 40) (not (is_barred a c)) (opened (in_group a c) None) (λ n. (((h.0, h.1, not_is (is_barred a c) n), tt), ap (λ x. x ++ 40 ∷ []) (append-nil (site_text a c ++ 40 ∷ [])))))
    (by_when (P k) (is_word (k ∷ [])) (typing a c [] (k ∷ [])) (λ n. ((h.0, h.1, inl refl, inr n), push (site_text a c) (40 ∷ []) (k ∷ []))))

pub base_type : (done w : List ℕ) → IsFront done → (spells_identifier w || (is_empty done && has primitives w)) ≡ true → IsType ((done ++ w) ++ 91 ∷ 93 ∷ [])
unfolding dimensions
base_type done w f h = record { base = done ++ w; count = suc zero; base_is = by_cases (or_cases (spells_identifier w) (is_empty done && has primitives w) h); is = refl }
  where
    by_cases : (spells_identifier w ≡ true) ⊎ ((is_empty done && has primitives w) ≡ true) → IsQualified (done ++ w) ⊎ (has primitives (done ++ w) ≡ true)
    by_cases (inl n) = inl (front_more done w f n)
    by_cases (inr n) = let m = and_parts (is_empty done) (has primitives w) n in inr (subst (λ x. has primitives (x ++ w) ≡ true) (sym (empty_is done m.0)) m.1)

pub primitive_type : (w : List ℕ) → has primitives w ≡ true → IsType w
unfolding dimensions
primitive_type w h = record { base = w; count = zero; base_is = inr h; is = sym (append-nil w) }

pub site_uncast : (a : Around) (c : Option (List ℕ)) → may_cast a c ≡ true → site_text a c ≡ place_text a
site_uncast a c m = ap (site_text a) (may_none a c m) ∙ site_none a

pub may_same : (a : Around) (c : Option (List ℕ)) → may_cast a c ≡ true → may_cast a None ≡ true
may_same a c m = ap (may_cast a) (sym (may_none a c m)) ∙ m

pub type_closed_sound : (p : List ℕ) (a : Around) (c : Option (List ℕ)) (done w : List ℕ) → IsPart p (typing a c done w) → (r : Part) → type_closed a c done w ≡ Some r → Next p (site_text a c ++ 40 ∷ (done ++ w)) 41 r
type_closed_sound p a c done w h =
    let P = Next p (site_text a c ++ 40 ∷ (done ++ w)) 41 in
    by_if P (spells_identifier w) (Some (due 32 (if may_cast a c then either a (done ++ w) else due 40 (binders_opened a c (done ++ w))))) (when (may_cast a c && (is_empty done && has primitives w)) (due 32 (start a (Some w))))
    (λ n. by_some P (due 32 (if may_cast a c then either a (done ++ w) else due 40 (binders_opened a c (done ++ w)))) (by_may (may_cast a c) refl n))
    (λ n. by_when P (may_cast a c && (is_empty done && has primitives w)) (due 32 (start a (Some w))) cast)
  where
    by_may : (m : Bool) → may_cast a c ≡ m → spells_identifier w ≡ true → Next p (site_text a c ++ 40 ∷ (done ++ w)) 41 (due 32 (if m then either a (done ++ w) else due 40 (binders_opened a c (done ++ w))))
    by_may true m n = ((h.0, may_same a c m, front_more done w h.2 n), either_push (place_text a) (done ++ w) ∙ ap (λ x. ((x ++ 40 ∷ (done ++ w)) ++ 41 ∷ []) ++ 32 ∷ []) (sym (site_uncast a c m)))
    by_may false m n = ((h.0, h.1, front_more done w h.2 n), head_push (site_text a c) (done ++ w))

    cast : (may_cast a c && (is_empty done && has primitives w)) ≡ true → Next p (site_text a c ++ 40 ∷ (done ++ w)) 41 (due 32 (start a (Some w)))
    cast n =
        let m = and_parts (may_cast a c) (is_empty done && has primitives w) n in
        let q = and_parts (is_empty done) (has primitives w) m.1 in (
          (h.0, type_cast a w (may_same a c m.0) (primitive_type w q.1), inl refl),
          cast_push (place_text a) w ∙ ap₂ (λ x y. ((x ++ 40 ∷ (y ++ w)) ++ 41 ∷ []) ++ 32 ∷ []) (sym (site_uncast a c m.0)) (sym (empty_is done q.0)),
        )

pub typing_sound : (p : List ℕ) (a : Around) (c : Option (List ℕ)) (done w : List ℕ) (k : ℕ) → IsPart p (typing a c done w) → (r : Part) → typing_step a c done w k ≡ Some r → Next p (site_text a c ++ 40 ∷ (done ++ w)) k r
typing_sound p a c done w k h =
    let P = Next p (site_text a c ++ 40 ∷ (done ++ w)) in
    by_eq P k 46 (when (spells_identifier w) (typing a c (done ++ (w ++ 46 ∷ [])) [])) (if k == 91 then when (may_cast a c && (spells_identifier w || (is_empty done && has primitives w))) (due 93 (sized a ((done ++ w) ++ 91 ∷ 93 ∷ []))) else (if k == 41 then type_closed a c done w else when (is_word (w ++ k ∷ [])) (typing a c done (w ++ k ∷ []))))
    (by_when (P 46) (spells_identifier w) (typing a c (done ++ (w ++ 46 ∷ [])) []) (λ n. ((h.0, h.1, inr (done ++ w, (front_more done w h.2 n, sym (append_assoc done w (46 ∷ [])))), inl refl), typing_dot_push (site_text a c) done w)))
    (by_eq P k 91 (when (may_cast a c && (spells_identifier w || (is_empty done && has primitives w))) (due 93 (sized a ((done ++ w) ++ 91 ∷ 93 ∷ [])))) (if k == 41 then type_closed a c done w else when (is_word (w ++ k ∷ [])) (typing a c done (w ++ k ∷ [])))
    (by_when (P 91) (may_cast a c && (spells_identifier w || (is_empty done && has primitives w))) (due 93 (sized a ((done ++ w) ++ 91 ∷ 93 ∷ [])))
    (λ n. let m = and_parts (may_cast a c) (spells_identifier w || (is_empty done && has primitives w)) n in
    ((h.0, may_same a c m.0, base_type done w h.2 m.1), sized_push (place_text a) done w ∙ ap (λ x. ((x ++ 40 ∷ (done ++ w)) ++ 91 ∷ []) ++ 93 ∷ []) (sym (site_uncast a c m.0)))))
    (by_eq P k 41 (type_closed a c done w) (when (is_word (w ++ k ∷ [])) (typing a c done (w ++ k ∷ [])))
    (type_closed_sound p a c done w h)
    (by_when (P k) (is_word (w ++ k ∷ [])) (typing a c done (w ++ k ∷ [])) (λ n. ((h.0, h.1, h.2, inr n), typing_push (site_text a c) done w k)))))

pub turned : (n : ℕ) → dimensions n ++ 91 ∷ 93 ∷ [] ≡ dimensions (suc n)
unfolding dimensions
turned zero = refl
turned (suc n) = ap (λ x. 91 ∷ 93 ∷ x) (turned n)

pub type_more : (t : List ℕ) → IsType t → IsType (t ++ 91 ∷ 93 ∷ [])
type_more t h = record { base = h.base; count = suc h.count; base_is = h.base_is; is = ap (λ x. x ++ 91 ∷ 93 ∷ []) h.is ∙ append_assoc h.base (dimensions h.count) (91 ∷ 93 ∷ []) ∙ ap (λ x. h.base ++ x) (turned h.count) }

pub sized_sound : (p : List ℕ) (a : Around) (t : List ℕ) (k : ℕ) → IsPart p (sized a t) → (r : Part) → step p (sized a t) k ≡ Some r → Next p (place_text a ++ 40 ∷ t) k r
unfolding step
sized_sound p a t k h =
    let P = Next p (place_text a ++ 40 ∷ t) in
    by_eq P k 91 (Some (due 93 (sized a (t ++ 91 ∷ 93 ∷ [])))) (when (k == 41) (due 32 (start a (Some t))))
    (by_some (P 91) (due 93 (sized a (t ++ 91 ∷ 93 ∷ []))) ((h.0, h.1, type_more t h.2), more_sized_push (place_text a) t))
    (by_when (P k) (k == 41) (due 32 (start a (Some t))) (λ n. subst (λ z. P z (due 32 (start a (Some t)))) (sym (eqb-true k 41 n)) ((h.0, type_cast a t h.1 h.2, inl refl), cast_push (place_text a) t)))
