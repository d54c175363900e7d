-- A step shows one character more: in what may be a cast or a lambda, in binders and in calls; so each step does.
use Rattle.std.proofs.Common.{◌≡◌, ◌∙◌, inl, inr, ap, sym, subst, refl, ℕ, ◌==◌, ◌&&◌, ◌||◌, true, false, List, [], ◌∷◌, ◌++◌, Option, Some, None, codes, append_assoc, append-nil, eqb-true, if◌then◌else◌}
use Rattle.std.specs.List.{list_all}
use Rattle.std.proofs.lemmas.Bool.{and_parts, or_cases}
use Rattle.std.proofs.lemmas.List.Folds.{list_all-append}
use Rattle.java_tokens.specs.Words.{is_word}
use Rattle.terms.specs.Text.{listed, bracketed}
use Rattle.java_shapes.specs.Words.{spells_identifier, is_binder, IsQualified}
use Rattle.java_shapes.specs.Shape.{called, Before, behind, Shapes, no_shapes, shown, shown_before, argument_texts}
use Rattle.java_shapes.specs.Grammar.{IsShape, IsBefore, AreShapes}
use Rattle.java_shapes.specs.Reader.{Around, top, in_call, in_body, in_group, Part, first, later, opened, typing, sized, either, either_opened, either_word, either_closed, binders_opened, in_binder, call_opened, call_closed, due, start, arrow, is_barred, may_cast, close, begins_binder, when, first_step, binder_step, step}
use Rattle.java_shapes.proofs.WordFacts.{and_both}
use Rattle.java_shapes.proofs.Ends.{HasCast, IsPart, own_qualified, none_cast, type_cast, name_type}
use Rattle.java_shapes.proofs.Sound.{args_before, binders_before, place_text, site_text, Shows, Next, by_some, by_when, by_eq, site_with, binders_more, binders_last, close_sound}
use Rattle.java_shapes.proofs.WordSteps.{push, word_push, closed_push, binder_push, comma_push, arrow_push, begins_nothing, first_sound, later_sound, opened_sound, typing_sound, sized_sound}

-- what may be a cast or a lambda
pub either_arrow_push : (a s : List ℕ) → (((a ++ []) ++ (((40 ∷ (s ++ 41 ∷ [])) ++ (32 ∷ (40 ∷ 41 ∷ []))) ++ (32 ∷ 45 ∷ 62 ∷ 32 ∷ []))) ++ []) ++ [] ≡ (((((a ++ ((40 ∷ (s ++ 41 ∷ [])) ++ 32 ∷ [])) ++ 40 ∷ []) ++ 41 ∷ []) ++ 32 ∷ []) ++ 45 ∷ []) ++ 62 ∷ [] ++ 32 ∷ []
either_arrow_push a s = simp (append_assoc, append-nil)

pub opened_arrow_push : (a s : List ℕ) → ((a ++ (((40 ∷ (s ++ 41 ∷ [])) ++ (32 ∷ (40 ∷ 41 ∷ []))) ++ (32 ∷ 45 ∷ 62 ∷ 32 ∷ []))) ++ []) ++ [] ≡ ((((a ++ ((40 ∷ (s ++ 41 ∷ [])) ++ (32 ∷ 40 ∷ []))) ++ 41 ∷ []) ++ 32 ∷ []) ++ 45 ∷ []) ++ 62 ∷ [] ++ 32 ∷ []
opened_arrow_push a s = simp (append_assoc, append-nil)

pub closed_arrow_push : (a s w : List ℕ) → (((a ++ []) ++ (((40 ∷ (s ++ 41 ∷ [])) ++ (32 ∷ (40 ∷ (w ++ 41 ∷ [])))) ++ (32 ∷ 45 ∷ 62 ∷ 32 ∷ []))) ++ []) ++ [] ≡ (((a ++ ((40 ∷ (s ++ 41 ∷ [])) ++ 32 ∷ [])) ++ 40 ∷ (w ++ (41 ∷ 32 ∷ []))) ++ 45 ∷ []) ++ 62 ∷ [] ++ 32 ∷ []
closed_arrow_push a s w = simp (append_assoc, append-nil)

pub closed_open_push : (a w : List ℕ) → a ++ ((40 ∷ (w ++ 41 ∷ [])) ++ (32 ∷ 40 ∷ [])) ≡ (a ++ 40 ∷ (w ++ (41 ∷ 32 ∷ []))) ++ 40 ∷ []
closed_open_push a w = simp append_assoc

pub word_dot_push : (a w : List ℕ) → a ++ 40 ∷ ((w ++ 46 ∷ []) ++ []) ≡ (a ++ 40 ∷ w) ++ 46 ∷ []
word_dot_push a w = simp (append_assoc, append-nil)

pub word_comma_push : (a s w : List ℕ) → (a ++ []) ++ (((40 ∷ (s ++ 41 ∷ [])) ++ (32 ∷ 40 ∷ [])) ++ ((w ++ ((44 ∷ 32 ∷ []) ++ [])) ++ [])) ≡ (((a ++ ((40 ∷ (s ++ 41 ∷ [])) ++ 32 ∷ [])) ++ 40 ∷ w) ++ 44 ∷ []) ++ 32 ∷ []
word_comma_push a s w = simp (append_assoc, append-nil)

pub either_cast : (a : Around) (s : List ℕ) → may_cast a None ≡ true → IsQualified s → HasCast a (Some s)
either_cast a s m q = type_cast a s m (name_type s q)

pub may_unbarred : (a : Around) (s : List ℕ) → is_barred a (Some s) ≡ false
may_unbarred top s = refl
may_unbarred (in_call a d b t args) s = refl
may_unbarred (in_body a d n bs) s = refl
may_unbarred (in_group a d) s = refl

pub either_sound : (p : List ℕ) (a : Around) (s : List ℕ) (k : ℕ) → IsPart p (either a s) → (r : Part) → step p (either a s) k ≡ Some r → Next p (site_text a (Some s)) k r
unfolding step
either_sound p a s k h =
    let P = Next p (site_text a (Some s)) in
    by_eq P k 40 (Some (either_opened a s)) (first_step a (Some s) [] k)
    (by_some (P 40) (either_opened a s) ((h.0, h.1, h.2), refl))
    (λ r q. subst (λ x. Next p x k r) (append-nil (site_text a (Some s))) (first_sound p a (Some s) [] k (h.0, either_cast a s h.1 h.2, inl refl) r q))

pub either_opened_sound : (p : List ℕ) (a : Around) (s : List ℕ) (k : ℕ) → IsPart p (either_opened a s) → (r : Part) → step p (either_opened a s) k ≡ Some r → Next p (site_text a (Some s) ++ codes "(") k r
unfolding step place_text listed
either_opened_sound p a s k h =
    let P = Next p (site_text a (Some s) ++ codes "(") in
    by_eq P k 41 (Some (arrow a None s [])) (if k == 40 then Some (opened (in_group a (Some s)) None) else when (is_word (k ∷ [])) (either_word a s (k ∷ [])))
    (by_some (P 41) (arrow a None s []) (((h.0, none_cast a, h.2, refl), tt, inl refl), either_arrow_push (place_text a) s))
    (by_eq P k 40 (Some (opened (in_group a (Some s)) None)) (when (is_word (k ∷ [])) (either_word a s (k ∷ [])))
    (by_some (P 40) (opened (in_group a (Some s)) None) (((h.0, either_cast a s h.1 h.2, may_unbarred a s), tt), ap (λ x. x ++ 40 ∷ []) (append-nil (site_text a (Some s) ++ 40 ∷ []))))
    (by_when (P k) (is_word (k ∷ [])) (either_word a s (k ∷ [])) (λ n. ((h.0, h.1, h.2, n), push (site_text a (Some s)) (40 ∷ []) (k ∷ [])))))

pub either_word_sound : (p : List ℕ) (a : Around) (s w : List ℕ) (k : ℕ) → IsPart p (either_word a s w) → (r : Part) → step p (either_word a s w) k ≡ Some r → Next p (site_text a (Some s) ++ 40 ∷ w) k r
unfolding step binders_before
either_word_sound p a s w k h =
    let P = Next p (site_text a (Some s) ++ 40 ∷ w) in
    by_eq P k 46 (when (spells_identifier w) (typing a (Some s) (w ++ 46 ∷ []) [])) (if k == 44 then when (is_binder p w) (due 32 (in_binder a None s (w ∷ []) [])) else (if k == 41 then when (spells_identifier w || is_binder p w) (due 32 (either_closed a s w)) else when (is_word (w ++ k ∷ [])) (either_word a s (w ++ k ∷ []))))
    (by_when (P 46) (spells_identifier w) (typing a (Some s) (w ++ 46 ∷ []) []) (λ n. ((h.0, either_cast a s h.1 h.2, inr (w, (own_qualified w n, refl)), inl refl), word_dot_push (site_text a (Some s)) w)))
    (by_eq P k 44 (when (is_binder p w) (due 32 (in_binder a None s (w ∷ []) []))) (if k == 41 then when (spells_identifier w || is_binder p w) (due 32 (either_closed a s w)) else when (is_word (w ++ k ∷ [])) (either_word a s (w ++ k ∷ [])))
    (by_when (P 44) (is_binder p w) (due 32 (in_binder a None s (w ∷ []) [])) (λ n. ((h.0, none_cast a, h.2, and_both (is_binder p w) true n refl, begins_nothing p), word_comma_push (place_text a) s w)))
    (by_eq P k 41 (when (spells_identifier w || is_binder p w) (due 32 (either_closed a s w))) (when (is_word (w ++ k ∷ [])) (either_word a s (w ++ k ∷ [])))
    (by_when (P 41) (spells_identifier w || is_binder p w) (due 32 (either_closed a s w)) (λ n. ((h.0, h.1, h.2, or_cases (spells_identifier w) (is_binder p w) n), closed_push (site_text a (Some s)) w)))
    (by_when (P k) (is_word (w ++ k ∷ [])) (either_word a s (w ++ k ∷ [])) (λ n. ((h.0, h.1, h.2, n), word_push (site_text a (Some s)) w k)))))

pub either_closed_sound : (p : List ℕ) (a : Around) (s w : List ℕ) (k : ℕ) → IsPart p (either_closed a s w) → (r : Part) → step p (either_closed a s w) k ≡ Some r → Next p (site_text a (Some s) ++ 40 ∷ (w ++ codes ") ")) k r
unfolding step place_text listed
either_closed_sound p a s w k h =
    let P = Next p (site_text a (Some s) ++ 40 ∷ (w ++ codes ") ")) in
    by_eq P k 45 (when (is_binder p w) (due 62 (due 32 (start (in_body a None s (w ∷ [])) None)))) (when ((k == 40) && spells_identifier w) (binders_opened a (Some s) w))
    (by_when (P 45) (is_binder p w) (due 62 (due 32 (start (in_body a None s (w ∷ [])) None))) (λ n. (((h.0, none_cast a, h.2, and_both (is_binder p w) true n refl), tt, inl refl), closed_arrow_push (place_text a) s w)))
    (by_when (P k) ((k == 40) && spells_identifier w) (binders_opened a (Some s) w)
    (λ n. let m = and_parts (k == 40) (spells_identifier w) n in
    subst (λ z. P z (binders_opened a (Some s) w)) (sym (eqb-true k 40 m.0)) ((h.0, either_cast a s h.1 h.2, own_qualified w m.1), closed_open_push (site_text a (Some s)) w)))

-- binders
pub binder_sound : (p : List ℕ) (a : Around) (c : Option (List ℕ)) (s : List ℕ) (bs : List (List ℕ)) (w : List ℕ) (k : ℕ) → IsPart p (in_binder a c s bs w) → (r : Part) → binder_step p a c s bs w k ≡ Some r → Next p (site_text a c ++ ((bracketed s ++ codes " (") ++ (binders_before bs ++ w))) k r
unfolding place_text
binder_sound p a c s bs w k h =
    let P = Next p (site_text a c ++ ((bracketed s ++ codes " (") ++ (binders_before bs ++ w))) in
    let all = λ (n : is_binder p w ≡ true). list_all-append (is_binder p) bs (w ∷ []) ∙ and_both (list_all (is_binder p) bs) (is_binder p w && true) h.3 (and_both (is_binder p w) true n refl) in
    by_eq P k 44 (when (is_binder p w) (due 32 (in_binder a c s (bs ++ w ∷ []) []))) (if k == 41 then when (is_binder p w) (arrow a c s (bs ++ w ∷ [])) else when (begins_binder p (w ++ k ∷ [])) (in_binder a c s bs (w ++ k ∷ [])))
    (by_when (P 44) (is_binder p w) (due 32 (in_binder a c s (bs ++ w ∷ []) []))
    (λ n. ((h.0, h.1, h.2, all n, begins_nothing p), ap (λ x. site_text a c ++ ((bracketed s ++ codes " (") ++ (x ++ []))) (binders_more bs w) ∙ comma_push (site_text a c) (bracketed s ++ codes " (") (binders_before bs) w)))
    (by_eq P k 41 (when (is_binder p w) (arrow a c s (bs ++ w ∷ []))) (when (begins_binder p (w ++ k ∷ [])) (in_binder a c s bs (w ++ k ∷ [])))
    (by_when (P 41) (is_binder p w) (arrow a c s (bs ++ w ∷ []))
    (λ n. (
      ((h.0, h.1, h.2, all n), tt, inl refl),
      ap (λ x. ((site_text a c ++ ((bracketed s ++ (codes " " ++ bracketed x)) ++ codes " -> ")) ++ []) ++ []) (binders_last bs w) ∙ arrow_push (site_text a c) s (binders_before bs ++ w),
    )))
    (by_when (P k) (begins_binder p (w ++ k ∷ [])) (in_binder a c s bs (w ++ k ∷ [])) (λ n. ((h.0, h.1, h.2, h.3, n), binder_push (site_text a c) (bracketed s ++ codes " (") (binders_before bs) w k))))

pub binders_sound : (p : List ℕ) (a : Around) (c : Option (List ℕ)) (s : List ℕ) (k : ℕ) → IsPart p (binders_opened a c s) → (r : Part) → step p (binders_opened a c s) k ≡ Some r → Next p (site_text a c ++ (bracketed s ++ codes " (")) k r
unfolding step place_text listed binders_before
binders_sound p a c s k h =
    let P = Next p (site_text a c ++ (bracketed s ++ codes " (")) in
    by_eq P k 41 (Some (arrow a c s [])) (binder_step p a c s [] [] k)
    (by_some (P 41) (arrow a c s []) (((h.0, h.1, h.2, refl), tt, inl refl), opened_arrow_push (site_text a c) s))
    (λ r q. subst (λ x. Next p (site_text a c ++ x) k r) (append-nil (bracketed s ++ codes " (")) (binder_sound p a c s [] [] k (h.0, h.1, h.2, refl, begins_nothing p) r q))

-- calls
pub call_push : (a b t : List ℕ) → a ++ (b ++ (t ++ (40 ∷ 41 ∷ []))) ≡ (a ++ (b ++ (t ++ 40 ∷ []))) ++ 41 ∷ []
call_push a b t = simp append_assoc

pub call_place : (a b t : List ℕ) → ((a ++ (b ++ (t ++ 40 ∷ []))) ++ []) ++ [] ≡ a ++ (b ++ (t ++ 40 ∷ []))
call_place a b t = simp append-nil

pub call_opened_sound : (p : List ℕ) (a : Around) (c : Option (List ℕ)) (b : Before) (t : List ℕ) (k : ℕ) → IsPart p (call_opened a c b t) → (r : Part) → step p (call_opened a c b t) k ≡ Some r → Next p (site_text a c ++ (shown_before b ++ (t ++ codes "("))) k r
unfolding step place_text args_before shown listed argument_texts AreShapes
call_opened_sound p a c b t k h =
    let P = Next p (site_text a c ++ (shown_before b ++ (t ++ codes "("))) in
    by_eq P k 41 (Some (call_closed a c b t no_shapes)) (first_step (in_call a c b t no_shapes) None [] k)
    (by_some (P 41) (call_closed a c b t no_shapes) ((h.0, h.1, h.2, h.3, h.4, tt), call_push (site_text a c) (shown_before b) t))
    (λ r q. subst (λ x. Next p x k r) (call_place (site_text a c) (shown_before b) t) (first_sound p (in_call a c b t no_shapes) None [] k ((h.0, h.1, h.2, h.3, h.4, tt), tt, inl refl) r q))

pub call_closed_sound : (p : List ℕ) (a : Around) (c : Option (List ℕ)) (b : Before) (t : List ℕ) (args : Shapes) (k : ℕ) → IsPart p (call_closed a c b t args) → (r : Part) → step p (call_closed a c b t args) k ≡ Some r → Next p (site_text a c ++ shown (called b t args)) k r
unfolding step IsShape IsBefore shown shown_before
call_closed_sound p a c b t args k h =
    let P = Next p (site_text a c ++ (shown_before b ++ (t ++ bracketed (listed (argument_texts args))))) in
    by_eq P k 46 (Some (later a c (behind b t args) [] [])) (close a c (called b t args) k)
    (by_some (P 46) (later a c (behind b t args) [] []) ((h.0, h.1, h.2, (h.3, h.4, h.5), inl refl, inl refl), ap (λ x. site_text a c ++ x) (append-nil ((shown_before b ++ (t ++ bracketed (listed (argument_texts args)))) ++ 46 ∷ [])) ∙ push (site_text a c) (shown_before b ++ (t ++ bracketed (listed (argument_texts args)))) (46 ∷ [])))
    (λ r q. subst (λ x. Next p x k r) (sym (site_with a c (shown_before b ++ (t ++ bracketed (listed (argument_texts args)))))) (close_sound p a h.0 c h.1 (called b t args) (h.3, h.4, h.5) k r q))

pub due_sound : (p : List ℕ) (j : ℕ) (q : Part) (t : List ℕ) (k : ℕ) → IsPart p q → Shows q (t ++ j ∷ []) → (r : Part) → step p (due j q) k ≡ Some r → Next p t k r
unfolding step
due_sound p j q t k h s = by_when (Next p t k) (j == k) q (λ n. (h, subst (λ x. Shows q (t ++ x ∷ [])) (eqb-true j k n) s))

-- a step keeps both
pub step_sound : (p : List ℕ) (q : Part) (t : List ℕ) (k : ℕ) → IsPart p q → Shows q t → (r : Part) → step p q k ≡ Some r → Next p t k r
unfolding step
step_sound p (first a c w) t k h s r e = subst (λ x. Next p x k r) s (first_sound p a c w k h r e)
step_sound p (later a c b done w) t k h s r e = subst (λ x. Next p x k r) s (later_sound p a c b done w k h r e)
step_sound p (opened a c) t k h s r e = subst (λ x. Next p x k r) s (opened_sound p a c k h r e)
step_sound p (typing a c done w) t k h s r e = subst (λ x. Next p x k r) s (typing_sound p a c done w k h r e)
step_sound p (sized a n) t k h s r e = subst (λ x. Next p x k r) s (sized_sound p a n k h r e)
step_sound p (either a n) t k h s r e = subst (λ x. Next p x k r) s (either_sound p a n k h r e)
step_sound p (either_opened a n) t k h s r e = subst (λ x. Next p x k r) s (either_opened_sound p a n k h r e)
step_sound p (either_word a n w) t k h s r e = subst (λ x. Next p x k r) s (either_word_sound p a n w k h r e)
step_sound p (either_closed a n w) t k h s r e = subst (λ x. Next p x k r) s (either_closed_sound p a n w k h r e)
step_sound p (binders_opened a c n) t k h s r e = subst (λ x. Next p x k r) s (binders_sound p a c n k h r e)
step_sound p (in_binder a c n bs w) t k h s r e = subst (λ x. Next p x k r) s (binder_sound p a c n bs w k h r e)
step_sound p (call_opened a c b n) t k h s r e = subst (λ x. Next p x k r) s (call_opened_sound p a c b n k h r e)
step_sound p (call_closed a c b n args) t k h s r e = subst (λ x. Next p x k r) s (call_closed_sound p a c b n args k h r e)
step_sound p (due j q) t k h s r e = due_sound p j q t k h s r e
