-- A reader that isn't stuck has read what an expression begins with, and one that is stuck hasn't.
use Rattle.std.proofs.Common.{◌≡◌, ◌∙◌, inl, ap, sym, subst, refl, ℕ, ◌&&◌, not, Bool, true, false, List, [], ◌∷◌, ◌++◌, Option, Some, None, append_assoc, append-nil, if◌then◌else◌}
use Rattle.std.proofs.lemmas.Bool.{and_parts}
use Rattle.java_units.specs.Signs.{has}
use Rattle.terms.specs.Text.{listed, bracketed, with_cast}
use Rattle.java_shapes.specs.Words.{spells_identifier, begins_name}
use Rattle.java_shapes.specs.Shape.{Shape, named, called, lambda, nothing, shown, shown_before, argument_texts}
use Rattle.java_shapes.specs.Grammar.{IsBegun, IsShape, IsBefore}
use Rattle.java_shapes.specs.Reader.{Around, top, in_call, in_body, in_group, Part, first, later, opened, typing, sized, either, either_opened, either_word, either_closed, binders_opened, in_binder, call_opened, call_closed, due, start, is_fresh, step, on, run, unwrapped, ended}
use Rattle.java_shapes.proofs.Shaped.{one_word}
use Rattle.java_shapes.proofs.Runs.{some_part, some_shape, whole_read, read_to, over_whole}
use Rattle.java_shapes.proofs.Ends.{HasCast, IsAround, IsPart, part_ends}
use Rattle.java_shapes.proofs.Sound.{body_text, place_text, Shows, no_some, site_with}
use Rattle.java_shapes.proofs.WordSteps.{not_is, path_behind}
use Rattle.java_shapes.proofs.Steps.{step_sound}

pub on_sound : (p : List ℕ) (k : ℕ) (ks : List ℕ) (q : Part) (t : List ℕ) → IsPart p q → Shows q t → (m : Option Part) → step p q k ≡ m → (r : Part) → on m (λ x. run p x ks) ≡ Some r → ((x : Part) (u : List ℕ) → IsPart p x → Shows x u → (y : Part) → run p x ks ≡ Some y → IsPart p y × Shows y (u ++ ks)) → IsPart p r × Shows r (t ++ k ∷ ks)
on_sound p k ks q t h s None e r f further = absurd (no_some r f)
on_sound p k ks q t h s (Some x) e r f further =
    let n = step_sound p q t k h s x e in
    let m = further x (t ++ k ∷ []) n.0 n.1 r f in
    (m.0, subst (λ y. Shows r y) (append_assoc t (k ∷ []) ks) m.1)

pub run_sound : (p ks : List ℕ) (q : Part) (t : List ℕ) → IsPart p q → Shows q t → (r : Part) → run p q ks ≡ Some r → IsPart p r × Shows r (t ++ ks)
unfolding run
run_sound p [] q t h s r e = (subst (IsPart p) (some_part q r e) h, subst (λ x. Shows x (t ++ [])) (some_part q r e) (subst (λ y. Shows q y) (sym (append-nil t)) s))
run_sound p (k ∷ ks) q t h s r e = on_sound p k ks q t h s (step p q k) refl r e (λ x u a b y f. run_sound p ks x u a b y f)

pub start_shows : Shows (start top None) []
unfolding place_text
start_shows = refl

-- the expression that was read
pub unwrapped_right : (p : List ℕ) (a : Around) → IsAround p a → (c : Option (List ℕ)) → HasCast a c → (e : Shape) → IsShape p e → (s : Shape) → unwrapped a c e ≡ Some s → IsShape p s × (shown s ≡ place_text a ++ with_cast c (shown e))
unfolding unwrapped IsShape place_text
unwrapped_right p top h None has e k s q = (subst (IsShape p) (some_shape e s q) k, ap shown (sym (some_shape e s q)))
unwrapped_right p top h (Some t) has e k s q = absurd has
unwrapped_right p (in_call a d b t args) h c has e k s q = absurd (no_some s q)
unwrapped_right p (in_body a d n bs) h c has e k s q =
    let r = unwrapped_right p a h.0 d h.1 (lambda n bs c e) (h.2, h.3, has, k) s q in
    (r.0, r.1 ∙ sym (body_text a d n bs c e))
unwrapped_right p (in_group a d) h c has e k s q = absurd (no_some s q)

pub by_ended : (b : Bool) (x : Option Shape) (s : Shape) → (if b then x else None) ≡ Some s → (b ≡ true) × (x ≡ Some s)
by_ended true x s e = (refl, e)
by_ended false x s e = absurd (no_some s e)

pub ended_right : (p : List ℕ) (q : Part) (t : List ℕ) → IsPart p q → Shows q t → (s : Shape) → ended q ≡ Some s → IsShape p s × (shown s ≡ t)
unfolding IsShape shown shown_before IsBefore
ended_right p (first a c w) t h k s e =
    let m = by_ended (begins_name w) (unwrapped a c (named nothing w)) s e in
    let r = unwrapped_right p a h.0 c h.1 (named nothing w) (tt, one_word begins_name spells_identifier w m.0) s m.1 in
    (r.0, r.1 ∙ sym (site_with a c w) ∙ k)
ended_right p (later a c b done w) t h k s e =
    let m = by_ended (spells_identifier w && not (is_fresh b)) (unwrapped a c (named b (done ++ w))) s e in
    let n = and_parts (spells_identifier w) (not (is_fresh b)) m.0 in
    let r = unwrapped_right p a h.0 c h.1 (named b (done ++ w)) (h.3, path_behind b done w (not_is (is_fresh b) n.1) h.4 n.0) s m.1 in
    (r.0, r.1 ∙ sym (site_with a c (shown_before b ++ (done ++ w))) ∙ k)
ended_right p (call_closed a c b n args) t h k s e =
    let r = unwrapped_right p a h.0 c h.1 (called b n args) (h.3, h.4, h.5) s e in
    (r.0, r.1 ∙ sym (site_with a c (shown_before b ++ (n ++ bracketed (listed (argument_texts args))))) ∙ k)
ended_right p (opened a c) t h k s e = absurd (no_some s e)
ended_right p (typing a c done w) t h k s e = absurd (no_some s e)
ended_right p (sized a n) t h k s e = absurd (no_some s e)
ended_right p (either a n) t h k s e = absurd (no_some s e)
ended_right p (either_opened a n) t h k s e = absurd (no_some s e)
ended_right p (either_word a n w) t h k s e = absurd (no_some s e)
ended_right p (either_closed a n w) t h k s e = absurd (no_some s e)
ended_right p (binders_opened a c n) t h k s e = absurd (no_some s e)
ended_right p (in_binder a c n bs w) t h k s e = absurd (no_some s e)
ended_right p (call_opened a c b n) t h k s e = absurd (no_some s e)
ended_right p (due j q) t h k s e = absurd (no_some s e)

pub start_part : (p : List ℕ) → IsPart p (start top None)
start_part p = (tt, tt, inl refl)

pub whole_right : (p t : List ℕ) (q : Part) (s : Shape) → run p (start top None) t ≡ Some q → ended q ≡ Some s → IsShape p s × (shown s ≡ t)
whole_right p t q s e f = let r = run_sound p t (start top None) [] (start_part p) start_shows q e in ended_right p q t r.0 r.1 s f

-- runs, one after the other
pub run_on_by : (p : List ℕ) (k : ℕ) (ks more : List ℕ) (q r s : Part) (m : Option Part) → step p q k ≡ m → on m (λ x. run p x ks) ≡ Some r → run p r more ≡ Some s → ((x : Part) → run p x ks ≡ Some r → run p r more ≡ Some s → run p x (ks ++ more) ≡ Some s) → on m (λ x. run p x (ks ++ more)) ≡ Some s
run_on_by p k ks more q r s None h e f further = absurd (no_some r e)
run_on_by p k ks more q r s (Some x) h e f further = further x e f

pub run_on : (p ks more : List ℕ) (q r s : Part) → run p q ks ≡ Some r → run p r more ≡ Some s → run p q (ks ++ more) ≡ Some s
unfolding run
run_on p [] more q r s e f = ap (λ x. run p x more) (some_part q r e) ∙ f
run_on p (k ∷ ks) more q r s e f = run_on_by p k ks more q r s (step p q k) refl e f (λ x a b. run_on p ks more x r s a b)

pub stuck_by : (p ks more : List ℕ) (m : Option Part) → on m (λ x. run p x ks) ≡ None → ((x : Part) → run p x ks ≡ None → run p x (ks ++ more) ≡ None) → on m (λ x. run p x (ks ++ more)) ≡ None
stuck_by p ks more None e further = refl
stuck_by p ks more (Some x) e further = further x e

pub stuck_on : (p ks more : List ℕ) (q : Part) → run p q ks ≡ None → run p q (ks ++ more) ≡ None
unfolding run
stuck_on p [] more q e = absurd (no_some q (sym e))
stuck_on p (k ∷ ks) more q e = stuck_by p ks more (step p q k) e (λ x. stuck_on p ks more x)

-- both ways
pub begun : (p : List ℕ) → spells_identifier p ≡ true → (t : List ℕ) (q : Part) → run p (start top None) t ≡ Some q → IsBegun p t
begun p id t q e =
    let r = run_sound p t (start top None) [] (start_part p) start_shows q e in
    let end = part_ends p id q r.0 in
    let whole = whole_right p (t ++ end.more) end.state end.shape (run_on p t end.more (start top None) q end.state e end.runs) end.over in
    record { shape = end.shape; well_formed = whole.0; rest = end.more; is = whole.1 }

pub stuck : (p : List ℕ) → spells_identifier p ≡ true → (t : List ℕ) → run p (start top None) t ≡ None → IsBegun p t → ⊥
stuck p id t e b =
    let r = whole_read p id b.shape b.well_formed in
    no_some r.state (sym (stuck_on p t b.rest (start top None) e) ∙ ap (run p (start top None)) (sym b.is) ∙ read_to p b.shape r)

pub whole : (p : List ℕ) → spells_identifier p ≡ true → (e : Shape) → IsShape p e → (q : Part) × ((run p (start top None) (shown e) ≡ Some q) × (ended q ≡ Some e))
whole p id e h = let r = whole_read p id e h in (r.state, (read_to p e r, r.behind.over ∙ over_whole e))
