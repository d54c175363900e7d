-- Each place of the reader goes on to the end of an expression.
use Rattle.std.proofs.Common.{◌≡◌, ◌∙◌, ◌⊎◌, inl, inr, ap, sym, subst, refl, ℕ, zero, ◌==◌, ◌&&◌, true, false, List, [], ◌∷◌, ◌++◌, Option, Some, None, codes, append_assoc, append-nil, eq-eqb, if◌then◌else◌}
use Rattle.std.specs.List.{list_all}
use Rattle.std.proofs.lemmas.Bool.{false≢true, and_parts, or_cases}
use Rattle.std.proofs.lemmas.List.Folds.{list_all-append}
use Rattle.java_tokens.specs.Classes.{is_digit}
use Rattle.java_tokens.specs.Words.{is_word}
use Rattle.java_units.specs.Signs.{has}
use Rattle.terms.specs.Text.{listed}
use Rattle.java_shapes.specs.Words.{spells_identifier, begins_name, are_digits, is_binder, IsQualified, IsNamePath}
use Rattle.java_shapes.specs.Shape.{Shape, named, called, lambda, Before, nothing, fresh, behind, in_brackets, Shapes, no_shapes}
use Rattle.java_shapes.specs.Grammar.{dimensions, IsType, IsCast, IsCallBehind, NeedsBrackets, IsBefore, AreShapes}
use Rattle.java_shapes.specs.Reader.{Around, top, in_call, in_body, in_group, with_last, Part, first, later, opened, typing, sized, either, either_opened, either_word, either_closed, binders_opened, in_binder, call_opened, call_closed, due, start, is_barred, may_cast, begins_first, begins_binder, when, step, run, unwrapped, ended}
use Rattle.java_shapes.proofs.WordFacts.{and_both, identifier_word, has_cases, has_none, numbered_word}
use Rattle.java_shapes.proofs.Shaped.{identifier_begins, literal_begins, one_word, path_more}
use Rattle.java_shapes.proofs.RunWords.{step_runs, first_word, later_word, typing_word, either_words, first_more, quotes_begin}
use Rattle.java_shapes.proofs.RunForms.{due_runs, arrow_runs, binder_word, binder_right, binders_runs, lambda_by, lambda_opened, either_lambda, either_right, word_right, closed_arrow, closed_open, type_right, sized_right}
use Rattle.java_shapes.proofs.RunNames.{Behind, first_behind, later_behind, closed_behind, body_behind, later_call}
use Rattle.java_shapes.proofs.Runs.{call_right, close_right, group_right, IsLambda}

-- the casts that may stand at a place
abbrev pub HasCast : Around → Option (List ℕ) → Type 0
HasCast top None = Unit {0}
HasCast top (Some t) = ⊥
HasCast (in_call a d b t args) c = IsCast c
HasCast (in_body a d s bs) c = IsCast c
HasCast (in_group a d) c = IsCast c

-- what stands around a place is well formed
abbrev pub IsAround : List ℕ → Around → Type 0
IsAround p top = Unit {0}
IsAround p (in_call a d b t args) = IsAround p a × HasCast a d × (is_barred a d ≡ false) × IsBefore p b × IsCallBehind b t × AreShapes p args
IsAround p (in_body a d s bs) = IsAround p a × HasCast a d × IsQualified s × (list_all (is_binder p) bs ≡ true)
IsAround p (in_group a d) = IsAround p a × HasCast a d × (is_barred a d ≡ false)

-- a word that may go on: nothing yet, or a word
abbrev pub IsPartial : List ℕ → Type 0
IsPartial w = (w ≡ []) ⊎ (is_word w ≡ true)

-- identifiers with their dots behind them, or nothing
abbrev pub IsFront : List ℕ → Type 0
IsFront done = (done ≡ []) ⊎ ((t : List ℕ) × (IsQualified t × (done ≡ t ++ 46 ∷ [])))

abbrev pub IsFrontBehind : Before → List ℕ → Type 0
IsFrontBehind nothing done = (t : List ℕ) × (IsNamePath t × (done ≡ t ++ 46 ∷ []))
IsFrontBehind fresh done = IsFront done
IsFrontBehind (behind b s args) done = IsFront done
IsFrontBehind (in_brackets c e) done = IsFront done

-- a place is well formed
abbrev pub IsPart : List ℕ → Part → Type 0
IsPart p (first a c w) = IsAround p a × HasCast a c × ((w ≡ []) ⊎ ((is_barred a c ≡ false) × (begins_first w ≡ true)))
IsPart p (later a c b done w) = IsAround p a × HasCast a c × (is_barred a c ≡ false) × IsBefore p b × IsFrontBehind b done × IsPartial w
IsPart p (opened a c) = IsAround p a × HasCast a c
IsPart p (typing a c done w) = IsAround p a × HasCast a c × IsFront done × IsPartial w
IsPart p (sized a t) = IsAround p a × (may_cast a None ≡ true) × IsType t
IsPart p (either a s) = IsAround p a × (may_cast a None ≡ true) × IsQualified s
IsPart p (either_opened a s) = IsAround p a × (may_cast a None ≡ true) × IsQualified s
IsPart p (either_word a s w) = IsAround p a × (may_cast a None ≡ true) × IsQualified s × (is_word w ≡ true)
IsPart p (either_closed a s w) = IsAround p a × (may_cast a None ≡ true) × IsQualified s × ((spells_identifier w ≡ true) ⊎ (is_binder p w ≡ true))
IsPart p (binders_opened a c s) = IsAround p a × HasCast a c × IsQualified s
IsPart p (in_binder a c s bs w) = IsAround p a × HasCast a c × IsQualified s × (list_all (is_binder p) bs ≡ true) × (begins_binder p w ≡ true)
IsPart p (call_opened a c b t) = IsAround p a × HasCast a c × (is_barred a c ≡ false) × IsBefore p b × IsCallBehind b t
IsPart p (call_closed a c b t args) = IsAround p a × HasCast a c × (is_barred a c ≡ false) × IsBefore p b × IsCallBehind b t × AreShapes p args
IsPart p (due k q) = IsPart p q

-- the end of an expression can be reached
pub record Ends (p : List ℕ) (q : Part) : Type 0 where
  pub more : List ℕ
  pub state : Part
  pub shape : Shape
  pub runs : run p q more ≡ Some state
  pub over : ended state ≡ Some shape

pub ends_run : (p : List ℕ) (q r : Part) (text : List ℕ) → ((ks : List ℕ) → run p q (text ++ ks) ≡ run p r ks) → Ends p r → Ends p q
ends_run p q r text h e = record { more = text ++ e.more; state = e.state; shape = e.shape; runs = h e.more ∙ e.runs; over = e.over }

pub ends_step : (p : List ℕ) (q r : Part) (k : ℕ) → step p q k ≡ Some r → Ends p r → Ends p q
ends_step p q r k h e = record { more = k ∷ e.more; state = e.state; shape = e.shape; runs = step_runs p q r k e.more h ∙ e.runs; over = e.over }

pub nothing_runs : (p : List ℕ) (q : Part) → run p q [] ≡ Some q
unfolding run
nothing_runs p q = refl

pub over_top : (c : Option (List ℕ)) (e : Shape) → unwrapped top c e ≡ Some e
unfolding unwrapped
over_top c e = refl

pub group_cast : (a : Around) (d : Option (List ℕ)) (c : Option (List ℕ)) (e : Shape) → (is_barred (in_group a d) c ≡ true → IsLambda e) → NeedsBrackets c e
group_cast a d (Some t) e h = tt
group_cast a d None (named b t) h = h refl
group_cast a d None (called b t args) h = h refl
group_cast a d None (lambda s bs c e) h = tt

pub barred_never : (a : Around) (c : Option (List ℕ)) (e : Shape) → is_barred a c ≡ false → is_barred a c ≡ true → IsLambda e
barred_never a c e f t = absurd (false≢true (sym f ∙ t))

-- behind a whole expression
pub ends_behind : (p : List ℕ) → spells_identifier p ≡ true → (a : Around) → IsAround p a → (c : Option (List ℕ)) (e : Shape) (r : Part) → (is_barred a c ≡ true → IsLambda e) → Behind p r a c e → Ends p r
ends_behind p id top h c e r bar k = record { more = []; state = r; shape = e; runs = nothing_runs p r; over = k.over ∙ over_top c e }
ends_behind p id (in_call a d b t args) h c e r bar k =
    ends_step p r (call_closed a d b t (with_last args c e)) 41 (k.right ∙ close_right a d b t args c e)
    (ends_behind p id a h.0 d (called b t (with_last args c e)) (call_closed a d b t (with_last args c e)) (barred_never a d (called b t (with_last args c e)) h.2) (closed_behind p a d b t (with_last args c e)))
ends_behind p id (in_body a d s bs) h c e r bar k = ends_behind p id a h.0 d (lambda s bs c e) r (λ z. tt) (body_behind p r a d c s bs e k)
ends_behind p id (in_group a d) h c e r bar k =
    let need = group_cast a d c e bar in
    let next = later a d (in_brackets c e) [] in
    ends_step p r (due 46 (next [])) 41 (k.right ∙ group_right a d c e need)
    (ends_run p (due 46 (next [])) (next p) (46 ∷ p) (λ ks. due_runs p 46 (next []) (p ++ ks) ∙ later_word p a d (in_brackets c e) [] p [] ks (identifier_word p id))
    (ends_behind p id a h.0 d (named (in_brackets c e) p) (next p) (barred_never a d (named (in_brackets c e) p) h.2) (later_behind p a d (in_brackets c e) [] p id refl)))

-- the body of a lambda
pub ends_body : (p : List ℕ) → spells_identifier p ≡ true → (a : Around) → IsAround p a → (c : Option (List ℕ)) → HasCast a c → (s : List ℕ) (bs : List (List ℕ)) → IsQualified s → list_all (is_binder p) bs ≡ true → Ends p (start (in_body a c s bs) None)
ends_body p id a h c k s bs q all =
    let place = in_body a c s bs in
    ends_run p (start place None) (first place None p) p (λ ks. first_word p place None p [] ks refl (identifier_word p id))
    (ends_behind p id place (h, k, q, all) None (named nothing p) (first place None p) (λ z. false≢true z) (first_behind p place None p (identifier_begins p id)))

pub own_qualified : (p : List ℕ) → spells_identifier p ≡ true → IsQualified p
own_qualified p id = one_word spells_identifier spells_identifier p id

pub ends_opened : (p : List ℕ) → spells_identifier p ≡ true → (a : Around) (c : Option (List ℕ)) → IsAround p a → HasCast a c → Ends p (opened a c)
unfolding listed
ends_opened p id a c h k =
    ends_run p (opened a c) (start (in_body a c p []) None) (p ++ 41 ∷ 32 ∷ 40 ∷ 41 ∷ codes " -> ") (λ ks. ap (run p (opened a c)) (append_assoc p (41 ∷ 32 ∷ 40 ∷ 41 ∷ codes " -> ") ks) ∙ lambda_opened p id a c p [] ks (own_qualified p id) refl) (ends_body p id a h c k p [] (own_qualified p id) refl)

pub ends_start : (p : List ℕ) → spells_identifier p ≡ true → (a : Around) (c : Option (List ℕ)) → IsAround p a → HasCast a c → Ends p (start a c)
unfolding step
ends_start p id a c h k = ends_step p (start a c) (opened a c) 40 refl (ends_opened p id a c h k)

-- partial words
pub zero_digits : are_digits (48 ∷ []) ≡ true
unfolding are_digits is_digit
zero_digits = refl

pub numbered : (w : List ℕ) → is_word w ≡ true → spells_identifier (w ++ 48 ∷ []) ≡ true
numbered w h = numbered_word w (48 ∷ []) h zero_digits

pub ends_first : (p : List ℕ) → spells_identifier p ≡ true → (a : Around) (c : Option (List ℕ)) (w : List ℕ) → IsAround p a → is_barred a c ≡ false → begins_name w ≡ true → Ends p (first a c w)
ends_first p id a c w h bar n = ends_behind p id a h c (named nothing w) (first a c w) (barred_never a c (named nothing w) bar) (first_behind p a c w n)

pub ends_first_word : (p : List ℕ) → spells_identifier p ≡ true → (a : Around) (c : Option (List ℕ)) (w : List ℕ) → IsAround p a → is_barred a c ≡ false → is_word w ≡ true → Ends p (first a c w)
ends_first_word p id a c w h bar n =
    ends_run p (first a c w) (first a c (w ++ 48 ∷ [])) (48 ∷ []) (λ ks. first_word p a c (48 ∷ []) w ks bar (identifier_word (w ++ 48 ∷ []) (numbered w n)))
    (ends_first p id a c (w ++ 48 ∷ []) h bar (identifier_begins (w ++ 48 ∷ []) (numbered w n)))

pub zero_name : begins_name (48 ∷ []) ≡ true
unfolding has
zero_name = literal_begins (48 ∷ []) refl

pub quotes_name : begins_name (34 ∷ 34 ∷ []) ≡ true
unfolding has
quotes_name = literal_begins (34 ∷ 34 ∷ []) refl

pub ends_firsts : (p : List ℕ) → spells_identifier p ≡ true → (a : Around) (c : Option (List ℕ)) (w : List ℕ) → IsAround p a → is_barred a c ≡ false → begins_first w ≡ true → Ends p (first a c w)
unfolding begins_first
ends_firsts p id a c w h bar n = elim (or_cases (is_word w) (has (codes "0" ∷ (34 ∷ []) ∷ (34 ∷ 34 ∷ []) ∷ []) w) n) [
  | inl x ↦ ends_first_word p id a c w h bar x
  | inr l ↦ (elim (has_cases (codes "0") ((34 ∷ []) ∷ (34 ∷ 34 ∷ []) ∷ []) w l) [
    | inl e ↦ subst (λ x. Ends p (first a c x)) e (ends_first p id a c (48 ∷ []) h bar zero_name)
    | inr l1 ↦ (elim (has_cases (34 ∷ []) ((34 ∷ 34 ∷ []) ∷ []) w l1) [
      | inl e ↦ subst (λ x. Ends p (first a c x)) e (ends_step p (first a c (34 ∷ [])) (first a c (34 ∷ 34 ∷ [])) 34 (first_more p a c (34 ∷ []) 34 bar refl quotes_begin) (ends_first p id a c (34 ∷ 34 ∷ []) h bar quotes_name))
      | inr l2 ↦ (elim (has_cases (34 ∷ 34 ∷ []) [] w l2) [
        | inl e ↦ subst (λ x. Ends p (first a c x)) e (ends_first p id a c (34 ∷ 34 ∷ []) h bar quotes_name)
        | inr l3 ↦ absurd (has_none w l3)
      ])
    ])
  ])
]

pub ends_call : (p : List ℕ) → spells_identifier p ≡ true → (a : Around) (c : Option (List ℕ)) (b : Before) (t : List ℕ) (args : Shapes) → IsAround p a → is_barred a c ≡ false → Ends p (call_closed a c b t args)
ends_call p id a c b t args h bar = ends_behind p id a h c (called b t args) (call_closed a c b t args) (barred_never a c (called b t args) bar) (closed_behind p a c b t args)

pub ends_later_by : (p : List ℕ) → spells_identifier p ≡ true → (a : Around) (c : Option (List ℕ)) (b : Before) (done w : List ℕ) → IsAround p a → is_barred a c ≡ false → spells_identifier w ≡ true → Ends p (later a c b done w)
ends_later_by p id a c nothing done w h bar n = ends_behind p id a h c (named nothing (done ++ w)) (later a c nothing done w) (barred_never a c (named nothing (done ++ w)) bar) (later_behind p a c nothing done w n refl)
ends_later_by p id a c (behind b t args) done w h bar n = ends_behind p id a h c (named (behind b t args) (done ++ w)) (later a c (behind b t args) done w) (barred_never a c (named (behind b t args) (done ++ w)) bar) (later_behind p a c (behind b t args) done w n refl)
ends_later_by p id a c (in_brackets d e) done w h bar n = ends_behind p id a h c (named (in_brackets d e) (done ++ w)) (later a c (in_brackets d e) done w) (barred_never a c (named (in_brackets d e) (done ++ w)) bar) (later_behind p a c (in_brackets d e) done w n refl)
ends_later_by p id a c fresh done w h bar n =
    ends_step p (later a c fresh done w) (call_opened a c fresh (done ++ w)) 40 (later_call p a c fresh done w n refl)
    (ends_step p (call_opened a c fresh (done ++ w)) (call_closed a c fresh (done ++ w) no_shapes) 41 (call_right p a c fresh (done ++ w)) (ends_call p id a c fresh (done ++ w) no_shapes h bar))

pub ends_later : (p : List ℕ) → spells_identifier p ≡ true → (a : Around) (c : Option (List ℕ)) (b : Before) (done w : List ℕ) → IsAround p a → is_barred a c ≡ false → IsPartial w → Ends p (later a c b done w)
ends_later p id a c b done w h bar (inl e) =
    subst (λ x. Ends p (later a c b done x)) (sym e) (ends_run p (later a c b done []) (later a c b done p) p (λ ks. later_word p a c b done p [] ks (identifier_word p id)) (ends_later_by p id a c b done p h bar id))
ends_later p id a c b done w h bar (inr n) =
    ends_run p (later a c b done w) (later a c b done (w ++ 48 ∷ [])) (48 ∷ []) (λ ks. later_word p a c b done (48 ∷ []) w ks (identifier_word (w ++ 48 ∷ []) (numbered w n))) (ends_later_by p id a c b done (w ++ 48 ∷ []) h bar (numbered w n))

pub front_more : (done w : List ℕ) → IsFront done → spells_identifier w ≡ true → IsQualified (done ++ w)
front_more done w (inl e) h = subst (λ x. IsQualified (x ++ w)) (sym e) (own_qualified w h)
front_more done w (inr (t, (q, e))) h = subst IsQualified (sym (append_assoc t (46 ∷ []) w) ∙ ap (λ x. x ++ w) (sym e)) (path_more spells_identifier t w q h)

pub lambda_none : (p : List ℕ) → spells_identifier p ≡ true → (a : Around) (c : Option (List ℕ)) (n ks : List ℕ) → run p (if may_cast a c then either a n else due 40 (binders_opened a c n)) (40 ∷ 41 ∷ (codes " -> " ++ ks)) ≡ run p (start (in_body a c n []) None) ks
unfolding listed
lambda_none p id a c n ks = lambda_by p id a c n [] ks refl (may_cast a c) refl

pub ends_typing_by : (p : List ℕ) → spells_identifier p ≡ true → (a : Around) (c : Option (List ℕ)) (done w : List ℕ) → IsAround p a → HasCast a c → IsFront done → spells_identifier w ≡ true → Ends p (typing a c done w)
ends_typing_by p id a c done w h k f n =
    let next = if may_cast a c then either a (done ++ w) else due 40 (binders_opened a c (done ++ w)) in
    ends_step p (typing a c done w) (due 32 next) 41 (type_right p a c done w n)
    (ends_run p (due 32 next) (start (in_body a c (done ++ w) []) None) (32 ∷ 40 ∷ 41 ∷ codes " -> ")
    (λ ks. due_runs p 32 next (40 ∷ 41 ∷ (codes " -> " ++ ks)) ∙ lambda_none p id a c (done ++ w) ks)
    (ends_body p id a h c k (done ++ w) [] (front_more done w f n) refl))

pub ends_typing : (p : List ℕ) → spells_identifier p ≡ true → (a : Around) (c : Option (List ℕ)) (done w : List ℕ) → IsAround p a → HasCast a c → IsFront done → IsPartial w → Ends p (typing a c done w)
ends_typing p id a c done w h k f (inl e) =
    subst (λ x. Ends p (typing a c done x)) (sym e) (ends_run p (typing a c done []) (typing a c done p) p (λ ks. typing_word p a c done p [] ks (identifier_word p id)) (ends_typing_by p id a c done p h k f id))
ends_typing p id a c done w h k f (inr n) =
    ends_run p (typing a c done w) (typing a c done (w ++ 48 ∷ [])) (48 ∷ []) (λ ks. typing_word p a c done (48 ∷ []) w ks (identifier_word (w ++ 48 ∷ []) (numbered w n))) (ends_typing_by p id a c done (w ++ 48 ∷ []) h k f (numbered w n))

pub none_cast : (a : Around) → HasCast a None
none_cast top = tt
none_cast (in_call a d b t args) = tt
none_cast (in_body a d s bs) = tt
none_cast (in_group a d) = tt

pub type_cast : (a : Around) (t : List ℕ) → may_cast a None ≡ true → IsType t → HasCast a (Some t)
type_cast top t m h = absurd (false≢true m)
type_cast (in_call a d b n args) t m h = h
type_cast (in_body a d n bs) t m h = h
type_cast (in_group a d) t m h = h

pub name_type : (t : List ℕ) → IsQualified t → IsType t
unfolding dimensions
name_type t h = record { base = t; count = zero; base_is = inl h; is = sym (append-nil t) }

pub ends_either : (p : List ℕ) → spells_identifier p ≡ true → (a : Around) (s : List ℕ) → IsAround p a → IsQualified s → Ends p (either a s)
unfolding listed
ends_either p id a s h q =
    ends_run p (either a s) (start (in_body a None s []) None) (40 ∷ 41 ∷ codes " -> ") (λ ks. either_lambda p id a s [] ks refl) (ends_body p id a h None (none_cast a) s [] q refl)

pub ends_either_opened : (p : List ℕ) → spells_identifier p ≡ true → (a : Around) (s : List ℕ) → IsAround p a → IsQualified s → Ends p (either_opened a s)
ends_either_opened p id a s h q =
    ends_run p (either_opened a s) (start (in_body a None s []) None) (41 ∷ codes " -> ") (λ ks. either_right p a s (codes " -> " ++ ks) ∙ arrow_runs p a None s [] ks) (ends_body p id a h None (none_cast a) s [] q refl)

pub ends_binders : (p : List ℕ) → spells_identifier p ≡ true → (a : Around) (c : Option (List ℕ)) (s : List ℕ) → IsAround p a → HasCast a c → IsQualified s → Ends p (binders_opened a c s)
unfolding listed
ends_binders p id a c s h k q =
    ends_run p (binders_opened a c s) (start (in_body a c s []) None) (41 ∷ codes " -> ") (λ ks. binders_runs p id a c s [] ks refl) (ends_body p id a h c k s [] q refl)

pub ends_either_closed : (p : List ℕ) → spells_identifier p ≡ true → (a : Around) (s w : List ℕ) → IsAround p a → may_cast a None ≡ true → IsQualified s → (spells_identifier w ≡ true) ⊎ (is_binder p w ≡ true) → Ends p (either_closed a s w)
ends_either_closed p id a s w h m q (inl n) =
    ends_run p (either_closed a s w) (binders_opened a (Some s) w) (40 ∷ []) (λ ks. closed_open p a s w ks n) (ends_binders p id a (Some s) w h (type_cast a s m (name_type s q)) (own_qualified w n))
ends_either_closed p id a s w h m q (inr n) =
    ends_run p (either_closed a s w) (start (in_body a None s (w ∷ [])) None) (45 ∷ 62 ∷ 32 ∷ []) (λ ks. closed_arrow p a s w ks n) (ends_body p id a h None (none_cast a) s (w ∷ []) q (and_both (is_binder p w) true n refl))

pub ends_either_word : (p : List ℕ) → spells_identifier p ≡ true → (a : Around) (s w : List ℕ) → IsAround p a → may_cast a None ≡ true → IsQualified s → is_word w ≡ true → Ends p (either_word a s w)
ends_either_word p id a s w h m q n =
    let v = w ++ 48 ∷ [] in
    let is = numbered w n in
    ends_run p (either_word a s w) (either_word a s v) (48 ∷ []) (λ ks. either_words p a s (48 ∷ []) w ks (identifier_word v is))
    (ends_run p (either_word a s v) (either_closed a s v) (41 ∷ 32 ∷ []) (λ ks. word_right p a s v ks is) (ends_either_closed p id a s v h m q (inl is)))

pub ends_sized : (p : List ℕ) → spells_identifier p ≡ true → (a : Around) (t : List ℕ) → IsAround p a → may_cast a None ≡ true → IsType t → Ends p (sized a t)
ends_sized p id a t h m q = ends_run p (sized a t) (start a (Some t)) (41 ∷ 32 ∷ []) (λ ks. sized_right p a t ks) (ends_start p id a (Some t) h (type_cast a t m q))

-- the rest of a binder
pub no_begins : (p : List ℕ) → begins_binder p [] ≡ true
unfolding begins_binder
no_begins [] = refl
no_begins (b ∷ p) = refl

pub binder_rest : (p w : List ℕ) → begins_binder p w ≡ true → (ds : List ℕ) × (is_binder p (w ++ ds) ≡ true)
unfolding begins_binder is_binder
binder_rest [] [] h = (48 ∷ [], zero_digits)
binder_rest [] (c ∷ w) h = ([], ap (λ x. are_digits x) (append-nil (c ∷ w)) ∙ h)
binder_rest (b ∷ p) [] h = let r = binder_rest p [] (no_begins p) in (b ∷ r.0, and_both (b == b) (is_binder p r.0) (eq-eqb b b refl) r.1)
binder_rest (b ∷ p) (c ∷ w) h = let k = and_parts (b == c) (begins_binder p w) h in let r = binder_rest p w k.1 in (r.0, and_both (b == c) (is_binder p (w ++ r.0)) k.0 r.1)

pub ends_binder : (p : List ℕ) → spells_identifier p ≡ true → (a : Around) (c : Option (List ℕ)) (s : List ℕ) (bs : List (List ℕ)) (w : List ℕ) → IsAround p a → HasCast a c → IsQualified s → list_all (is_binder p) bs ≡ true → begins_binder p w ≡ true → Ends p (in_binder a c s bs w)
ends_binder p id a c s bs w h k q all n =
    let r = binder_rest p w n in
    let v = w ++ r.0 in
    ends_run p (in_binder a c s bs w) (in_binder a c s bs v) r.0 (λ ks. binder_word p id a c s bs r.0 w ks r.1)
    (ends_run p (in_binder a c s bs v) (start (in_body a c s (bs ++ v ∷ [])) None) (41 ∷ codes " -> ") (λ ks. binder_right p a c s bs v ks r.1)
    (ends_body p id a h c k s (bs ++ v ∷ []) q (list_all-append (is_binder p) bs (v ∷ []) ∙ and_both (list_all (is_binder p) bs) (is_binder p v && true) all (and_both (is_binder p v) true r.1 refl))))

pub due_step : (p : List ℕ) (k : ℕ) (q : Part) → step p (due k q) k ≡ Some q
unfolding step
due_step p k q = ap (λ x. when x q) (eq-eqb k k refl)

pub part_ends : (p : List ℕ) → spells_identifier p ≡ true → (q : Part) → IsPart p q → Ends p q
part_ends p id (first a c w) (h, k, inl e) = subst (λ x. Ends p (first a c x)) (sym e) (ends_start p id a c h k)
part_ends p id (first a c w) (h, k, inr (bar, n)) = ends_firsts p id a c w h bar n
part_ends p id (later a c b done w) h = ends_later p id a c b done w h.0 h.2 h.5
part_ends p id (opened a c) h = ends_opened p id a c h.0 h.1
part_ends p id (typing a c done w) h = ends_typing p id a c done w h.0 h.1 h.2 h.3
part_ends p id (sized a t) h = ends_sized p id a t h.0 h.1 h.2
part_ends p id (either a s) h = ends_either p id a s h.0 h.2
part_ends p id (either_opened a s) h = ends_either_opened p id a s h.0 h.2
part_ends p id (either_word a s w) h = ends_either_word p id a s w h.0 h.1 h.2 h.3
part_ends p id (either_closed a s w) h = ends_either_closed p id a s w h.0 h.1 h.2 h.3
part_ends p id (binders_opened a c s) h = ends_binders p id a c s h.0 h.1 h.2
part_ends p id (in_binder a c s bs w) h = ends_binder p id a c s bs w h.0 h.1 h.2 h.3 h.4
part_ends p id (call_opened a c b t) h = ends_step p (call_opened a c b t) (call_closed a c b t no_shapes) 41 (call_right p a c b t) (ends_call p id a c b t no_shapes h.0 h.2)
part_ends p id (call_closed a c b t args) h = ends_call p id a c b t args h.0 h.2
part_ends p id (due k q) h = ends_step p (due k q) q k (due_step p k q) (part_ends p id q h)
