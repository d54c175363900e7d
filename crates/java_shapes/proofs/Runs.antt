-- The reader reads the text of each expression to its end; so one text is the text of one expression.
use Rattle.std.proofs.Common.{◌≡◌, ◌∙◌, ◌⊎◌, inl, inr, ap, sym, subst, refl, ℕ, zero, suc, ◌&&◌, Bool, true, false, List, [], ◌∷◌, ◌++◌, Option, Some, None, codes, append_assoc, append-nil, if◌then◌else◌}
use Rattle.std.proofs.lemmas.Bool.{false≢true, or_left, or_right}
use Rattle.java_units.specs.Signs.{has}
use Rattle.java_units.specs.Forms.{primitives}
use Rattle.terms.specs.Text.{listed, bracketed, with_cast}
use Rattle.java_shapes.specs.Words.{spells_identifier, IsQualified}
use Rattle.java_shapes.specs.Shape.{Shape, named, called, lambda, Before, nothing, fresh, behind, in_brackets, Shapes, no_shapes, shapes, shown, shown_before, argument_texts}
use Rattle.java_shapes.specs.Grammar.{dimensions, IsType, IsCast, IsNameBehind, IsCallBehind, NeedsBrackets, IsShape, IsBefore, AreShapes}
use Rattle.java_shapes.specs.Reader.{Around, top, in_call, in_body, in_group, with_last, Part, first, later, opened, sized, either, binders_opened, call_opened, call_closed, due, start, is_barred, may_cast, close, is_empty, step, run, unwrapped, ended}
use Rattle.java_shapes.proofs.RunWords.{step_runs, last_of, front_of, last_spells, StartsWords, first_by_word, word_new}
use Rattle.java_shapes.proofs.RunForms.{due_runs, opened_runs, opened_path, named_runs, head_rest, path_whole, type_left, sized_more, primitive_right, primitive_word}
use Rattle.java_shapes.proofs.RunNames.{Starts, Begins, start_left, plain_starts, begins_starts, plain_begins, call_begins, either_starts, Behind, Read, closed_behind, body_behind, name_first, name_after, CallNamed, call_first, call_after}

-- casts
pub record CastRead (p : List ℕ) (q : Part) (a : Around) (t : List ℕ) : Type 0 where
  pub state : Part
  pub runs : (ks : List ℕ) → run p q (bracketed t ++ (codes " " ++ ks)) ≡ run p state ks
  pub starts : Starts p state a (Some t)

pub bracketed_text : (t ks : List ℕ) → bracketed t ++ (codes " " ++ ks) ≡ 40 ∷ (t ++ 41 ∷ 32 ∷ ks)
bracketed_text t ks = ap (λ x. 40 ∷ x) (append_assoc t (41 ∷ []) (32 ∷ ks))

pub cast_opened : (p : List ℕ) (q : Part) (a : Around) → Begins p q a → (t ks : List ℕ) → run p q (bracketed t ++ (codes " " ++ ks)) ≡ run p (opened a None) (t ++ 41 ∷ 32 ∷ ks)
cast_opened p q a b t ks = ap (run p q) (bracketed_text t ks) ∙ step_runs p q (opened a None) 40 (t ++ 41 ∷ 32 ∷ ks) b.left

pub named_cast : (p : List ℕ) → spells_identifier p ≡ true → (q : Part) (a : Around) → Begins p q a → may_cast a None ≡ true → (t : List ℕ) → IsQualified t → CastRead p q a t
named_cast p id q a b m t s = record {
  state = either a t;
  runs = λ ks. cast_opened p q a b t ks ∙ named_runs p a None t s ks ∙ ap (λ x. run p (if x then either a t else due 40 (binders_opened a None t)) ks) m;
  starts = either_starts p id a t;
}

pub sized_cast : (p : List ℕ) → spells_identifier p ≡ true → (q : Part) (a : Around) → Begins p q a → (base : List ℕ) (n : ℕ) → ((ks : List ℕ) → run p (opened a None) (base ++ 91 ∷ ks) ≡ run p (due 93 (sized a (base ++ 91 ∷ 93 ∷ []))) ks) → CastRead p q a (base ++ dimensions (suc n))
unfolding dimensions
sized_cast p id q a b base n left = record {
  state = start a (Some (base ++ dimensions (suc n)));
  runs = λ ks. cast_opened p q a b (base ++ dimensions (suc n)) ks
      ∙ ap (run p (opened a None)) (append_assoc base (91 ∷ 93 ∷ dimensions n) (41 ∷ 32 ∷ ks))
      ∙ left (93 ∷ (dimensions n ++ 41 ∷ 32 ∷ ks))
      ∙ due_runs p 93 (sized a (base ++ 91 ∷ 93 ∷ [])) (dimensions n ++ 41 ∷ 32 ∷ ks)
      ∙ sized_more p a (base ++ 91 ∷ 93 ∷ []) n ks
      ∙ ap (λ x. run p (start a (Some x)) ks) (append_assoc base (91 ∷ 93 ∷ []) (dimensions n));
  starts = plain_starts p id a (Some (base ++ dimensions (suc n)));
}

pub named_left : (p : List ℕ) (a : Around) → may_cast a None ≡ true → (t : List ℕ) (s : IsQualified t) (ks : List ℕ) → run p (opened a None) (t ++ 91 ∷ ks) ≡ run p (due 93 (sized a (t ++ 91 ∷ 93 ∷ []))) ks
named_left p a m t s ks =
    let done = front_of [] s.first s.rest in
    let w = last_of s.first s.rest in
    opened_path p a None t s (91 ∷ ks)
    ∙ type_left p a done w ks m (or_left (spells_identifier w) (is_empty done && has primitives w) (last_spells s.first s.rest s.first_is s.rest_are))
    ∙ ap (λ x. run p (due 93 (sized a (x ++ 91 ∷ 93 ∷ []))) ks) (path_whole t s)

pub primitive_left : (p : List ℕ) (a : Around) → may_cast a None ≡ true → (t : List ℕ) → has primitives t ≡ true → (ks : List ℕ) → run p (opened a None) (t ++ 91 ∷ ks) ≡ run p (due 93 (sized a (t ++ 91 ∷ 93 ∷ []))) ks
primitive_left p a m t h ks = opened_runs p a None t (91 ∷ ks) (primitive_word t h).word ∙ type_left p a [] t ks m (or_right (spells_identifier t) (has primitives t) h)

pub cast_by : (p : List ℕ) → spells_identifier p ≡ true → (q : Part) (a : Around) → Begins p q a → may_cast a None ≡ true → (base : List ℕ) (n : ℕ) → IsQualified base ⊎ (has primitives base ≡ true) → CastRead p q a (base ++ dimensions n)
unfolding dimensions
cast_by p id q a b m base zero (inl s) = subst (CastRead p q a) (sym (append-nil base)) (named_cast p id q a b m base s)
cast_by p id q a b m base zero (inr h) = subst (CastRead p q a) (sym (append-nil base)) (record {
  state = start a (Some base);
  runs = λ ks. cast_opened p q a b base ks ∙ opened_runs p a None base (41 ∷ 32 ∷ ks) (primitive_word base h).word ∙ primitive_right p a base ks m h;
  starts = plain_starts p id a (Some base);
})
cast_by p id q a b m base (suc n) (inl s) = sized_cast p id q a b base n (λ ks. named_left p a m base s ks)
cast_by p id q a b m base (suc n) (inr h) = sized_cast p id q a b base n (λ ks. primitive_left p a m base h ks)

pub cast_read : (p : List ℕ) → spells_identifier p ≡ true → (q : Part) (a : Around) → Begins p q a → may_cast a None ≡ true → (t : List ℕ) → IsType t → CastRead p q a t
cast_read p id q a b m t s = subst (CastRead p q a) (sym s.is) (cast_by p id q a b m s.base s.count s.base_is)

-- an expression with its cast, where the expression alone is read
abbrev pub IsLambda : Shape → Type 0
IsLambda (named b t) = ⊥
IsLambda (called b t args) = ⊥
IsLambda (lambda s bs c e) = Unit {0}

abbrev pub Reads : List ℕ → Shape → Type 0
Reads p e = (q : Part) (a : Around) (c : Option (List ℕ)) → Starts p q a c → (is_barred a c ≡ true → IsLambda e) → Read p q a c (shown e) e

pub no_bar : (a : Around) (t : List ℕ) → is_barred a (Some t) ≡ true → ⊥
no_bar top t h = false≢true h
no_bar (in_call a d b n args) t h = false≢true h
no_bar (in_body a d n bs) t h = false≢true h
no_bar (in_group a d) t h = false≢true h

pub argument_read : (p : List ℕ) → spells_identifier p ≡ true → (c : Option (List ℕ)) (e : Shape) → IsCast c → Reads p e → (q : Part) (a : Around) → Begins p q a → may_cast a None ≡ true → (is_barred a None ≡ true → c ≡ None → IsLambda e) → Read p q a c (with_cast c (shown e)) e
argument_read p id None e cast reads q a b m bar = reads q a None (begins_starts p id q a b) (λ h. bar h refl)
argument_read p id (Some t) e cast reads q a b m bar =
    let k = cast_read p id q a b m t cast in
    let r = reads k.state a (Some t) k.starts (λ h. absurd (no_bar a t h)) in
    record {
      state = r.state;
      runs = λ ks. ap (run p q) (append_assoc (bracketed t) (codes " " ++ shown e) ks ∙ ap (λ x. bracketed t ++ x) (append_assoc (codes " ") (shown e) ks)) ∙ k.runs (shown e ++ ks) ∙ r.runs ks;
      behind = r.behind;
    }

-- lists of arguments
unfoldable pub tail_text : Shapes → List ℕ
tail_text no_shapes = []
tail_text (shapes c e rest) = codes ", " ++ (with_cast c (shown e) ++ tail_text rest)

pub tail_is : (c : Option (List ℕ)) (e : Shape) (rest : Shapes) → listed (argument_texts (shapes c e rest)) ≡ with_cast c (shown e) ++ tail_text rest
unfolding listed tail_text argument_texts
tail_is c e no_shapes = sym (append-nil (with_cast c (shown e)))
tail_is c e (shapes d f rest) = append_assoc (with_cast c (shown e)) (codes ", ") (listed (argument_texts (shapes d f rest))) ∙ ap (λ x. with_cast c (shown e) ++ (codes ", " ++ x)) (tail_is d f rest)

unfoldable pub with_all : Shapes → Shapes → Shapes
with_all done no_shapes = done
with_all done (shapes c e rest) = with_all (with_last done c e) rest

pub with_all-first : (d : Option (List ℕ)) (f : Shape) (done xs : Shapes) → with_all (shapes d f done) xs ≡ shapes d f (with_all done xs)
unfolding with_all with_last
with_all-first d f done no_shapes = refl
with_all-first d f done (shapes c e rest) = with_all-first d f (with_last done c e) rest

pub with_all-none : (xs : Shapes) → with_all no_shapes xs ≡ xs
unfolding with_all with_last
with_all-none no_shapes = refl
with_all-none (shapes c e rest) = with_all-first c e no_shapes rest ∙ ap (shapes c e) (with_all-none rest)

pub close_right : (a : Around) (d : Option (List ℕ)) (b : Before) (t : List ℕ) (args : Shapes) (c : Option (List ℕ)) (e : Shape) → close (in_call a d b t args) c e 41 ≡ Some (call_closed a d b t (with_last args c e))
unfolding close
close_right a d b t args c e = refl

pub close_comma : (a : Around) (d : Option (List ℕ)) (b : Before) (t : List ℕ) (args : Shapes) (c : Option (List ℕ)) (e : Shape) → close (in_call a d b t args) c e 44 ≡ Some (due 32 (start (in_call a d b t (with_last args c e)) None))
unfolding close
close_comma a d b t args c e = refl

pub call_right : (p : List ℕ) (a : Around) (c : Option (List ℕ)) (b : Before) (t : List ℕ) → step p (call_opened a c b t) 41 ≡ Some (call_closed a c b t no_shapes)
unfolding step
call_right p a c b t = refl

-- what stands before a name, read
pub record BeforeRead (p : List ℕ) (q : Part) (a : Around) (c : Option (List ℕ)) (b : Before) : Type 0 where
  pub runs : (ks : List ℕ) → run p q (shown_before b ++ ks) ≡ run p (later a c b [] []) ks

abbrev pub BeforeGives : List ℕ → Part → Around → Option (List ℕ) → Before → Type 0
BeforeGives p q a c nothing = Unit {0}
BeforeGives p q a c fresh = BeforeRead p q a c fresh
BeforeGives p q a c (behind b t args) = BeforeRead p q a c (behind b t args)
BeforeGives p q a c (in_brackets d e) = BeforeRead p q a c (in_brackets d e)

pub behind_runs : (p : List ℕ) (q : Part) (a : Around) (c : Option (List ℕ)) (b : Before) (t : List ℕ) → BeforeRead p q a c b → (e : Shape) → Read p (later a c b [] []) a c t e → Read p q a c (shown_before b ++ t) e
behind_runs p q a c b t h e r = record { state = r.state; runs = λ ks. ap (run p q) (append_assoc (shown_before b) t ks) ∙ h.runs (t ++ ks) ∙ r.runs ks; behind = r.behind }

pub name_read : (p : List ℕ) (q : Part) (a : Around) (c : Option (List ℕ)) → StartsWords p q a c → is_barred a c ≡ false → (b : Before) (t : List ℕ) → IsNameBehind b t → BeforeGives p q a c b → Read p q a c (shown_before b ++ t) (named b t)
unfolding shown_before
name_read p q a c s bar nothing t n h = name_first p q a c s bar t n
name_read p q a c s bar fresh t n h = absurd n
name_read p q a c s bar (behind b m args) t n h = behind_runs p q a c (behind b m args) t h (named (behind b m args) t) (name_after p a c (behind b m args) refl t n)
name_read p q a c s bar (in_brackets d e) t n h = behind_runs p q a c (in_brackets d e) t h (named (in_brackets d e) t) (name_after p a c (in_brackets d e) refl t n)

pub behind_call : (p : List ℕ) (q : Part) (a : Around) (c : Option (List ℕ)) (b : Before) (t : List ℕ) → BeforeRead p q a c b → CallNamed p (later a c b [] []) a c b t t → CallNamed p q a c b (shown_before b ++ t) t
behind_call p q a c b t h r = record { state = r.state; runs = λ ks. ap (run p q) (append_assoc (shown_before b) t ks) ∙ h.runs (t ++ ks) ∙ r.runs ks; opens = r.opens }

pub call_named : (p : List ℕ) (q : Part) (a : Around) (c : Option (List ℕ)) → StartsWords p q a c → is_barred a c ≡ false → (b : Before) (t : List ℕ) → IsCallBehind b t → BeforeGives p q a c b → CallNamed p q a c b (shown_before b ++ t) t
unfolding shown_before
call_named p q a c s bar nothing t n h = call_first p q a c s bar t n
call_named p q a c s bar fresh t n h = behind_call p q a c fresh t h (call_after p a c fresh (λ done. refl) t n)
call_named p q a c s bar (behind b m args) t n h = behind_call p q a c (behind b m args) t h (call_after p a c (behind b m args) (λ done. refl) t n)
call_named p q a c s bar (in_brackets d e) t n h = behind_call p q a c (in_brackets d e) t h (call_after p a c (in_brackets d e) (λ done. refl) t n)

-- a call, read up to its `)`
pub call_text : Before → List ℕ → Shapes → List ℕ
call_text b t args = shown_before b ++ (t ++ bracketed (listed (argument_texts args)))

abbrev pub ArgsRead : List ℕ → Shapes → Type 0
ArgsRead p args = (a : Around) (c : Option (List ℕ)) (b : Before) (t ks : List ℕ) → run p (call_opened a c b t) (listed (argument_texts args) ++ 41 ∷ ks) ≡ run p (call_closed a c b t args) ks

pub regroup : (x t l ks : List ℕ) → (x ++ (t ++ bracketed l)) ++ ks ≡ (x ++ t) ++ (40 ∷ (l ++ 41 ∷ ks))
regroup x t l ks = ap (λ y. y ++ ks) (sym (append_assoc x t (bracketed l))) ∙ append_assoc (x ++ t) (bracketed l) ks ∙ ap (λ y. (x ++ t) ++ (40 ∷ y)) (append_assoc l (41 ∷ []) ks)

pub call_whole : (p : List ℕ) (q : Part) (a : Around) (c : Option (List ℕ)) (b : Before) (t : List ℕ) (args : Shapes) → CallNamed p q a c b (shown_before b ++ t) t → ArgsRead p args → (ks : List ℕ) → run p q ((shown_before b ++ (t ++ bracketed (listed (argument_texts args)))) ++ ks) ≡ run p (call_closed a c b t args) ks
call_whole p q a c b t args n r ks =
    let inside = listed (argument_texts args) ++ 41 ∷ ks in
    ap (run p q) (regroup (shown_before b) t (listed (argument_texts args)) ks) ∙ n.runs (40 ∷ inside) ∙ step_runs p n.state (call_opened a c b t) 40 inside n.opens ∙ r a c b t ks

pub new_step : (p : List ℕ) (a : Around) (c : Option (List ℕ)) → step p (first a c (codes "new")) 32 ≡ Some (later a c fresh [] [])
unfolding step has
new_step p a c = refl

pub dot_step : (p : List ℕ) (a : Around) (c : Option (List ℕ)) (b : Before) (t : List ℕ) (args : Shapes) → step p (call_closed a c b t args) 46 ≡ Some (later a c (behind b t args) [] [])
unfolding step
dot_step p a c b t args = refl

pub not_barred : (b : Bool) → (b ≡ true → ⊥) → b ≡ false
not_barred true h = absurd (h refl)
not_barred false h = refl

-- an expression in brackets
pub group_right : (a : Around) (d : Option (List ℕ)) (c : Option (List ℕ)) (e : Shape) → NeedsBrackets c e → close (in_group a d) c e 41 ≡ Some (due 46 (later a d (in_brackets c e) [] []))
unfolding close
group_right a d (Some t) e h = refl
group_right a d None (named b t) h = absurd h
group_right a d None (called b t args) h = absurd h
group_right a d None (lambda s bs c e) h = refl

pub needs_lambda : (c : Option (List ℕ)) (e : Shape) → NeedsBrackets c e → c ≡ None → IsLambda e
needs_lambda (Some t) e h n = cc
needs_lambda None (named b t) h n = h
needs_lambda None (called b t args) h n = h
needs_lambda None (lambda s bs c e) h n = tt

-- such a text begins with `(`
pub inside_left : (c : Option (List ℕ)) (e : Shape) → NeedsBrackets c e → (x : List ℕ) × (with_cast c (shown e) ≡ 40 ∷ x)
unfolding shown
inside_left (Some t) e h = ((t ++ codes ")") ++ (codes " " ++ shown e), refl)
inside_left None (named b t) h = absurd h
inside_left None (called b t args) h = absurd h
inside_left None (lambda s bs c e) h = (((s ++ codes ")") ++ (codes " " ++ bracketed (listed bs))) ++ (codes " -> " ++ with_cast c (shown e)), refl)

pub group_read : (p : List ℕ) (q : Part) (a : Around) (c : Option (List ℕ)) → Starts p q a c → is_barred a c ≡ false → (d : Option (List ℕ)) (e : Shape) → NeedsBrackets d e → Read p (start (in_group a c) None) (in_group a c) d (with_cast d (shown e)) e → (ks : List ℕ) → run p q ((bracketed (with_cast d (shown e)) ++ codes ".") ++ ks) ≡ run p (later a c (in_brackets d e) [] []) ks
group_read p q a c s bar d e h r ks =
    let text = with_cast d (shown e) in
    let left = inside_left d e h in
    let inner = start (in_group a c) None in
    ap (run p q) (append_assoc (bracketed text) (codes ".") ks ∙ ap (λ y. 40 ∷ y) (append_assoc text (41 ∷ []) (46 ∷ ks)))
    ∙ ap (λ y. run p q (40 ∷ (y ++ 41 ∷ 46 ∷ ks))) left.1
    ∙ s.group bar (left.0 ++ 41 ∷ 46 ∷ ks)
    ∙ sym (step_runs p inner (opened (in_group a c) None) 40 (left.0 ++ 41 ∷ 46 ∷ ks) (start_left p (in_group a c) None))
    ∙ ap (λ y. run p inner (y ++ 41 ∷ 46 ∷ ks)) (sym left.1)
    ∙ r.runs (41 ∷ 46 ∷ ks)
    ∙ step_runs p r.state (due 46 (later a c (in_brackets d e) [] [])) 41 (46 ∷ ks) (r.behind.right ∙ group_right a c d e h)
    ∙ due_runs p 46 (later a c (in_brackets d e) [] []) ks

pub head_text : (s : List ℕ) (bs : List (List ℕ)) (t ks : List ℕ) → ((bracketed s ++ (codes " " ++ bracketed (listed bs))) ++ (codes " -> " ++ t)) ++ ks ≡ 40 ∷ head_rest s bs (t ++ ks)
head_text s bs t ks =
    append_assoc (bracketed s ++ (codes " " ++ bracketed (listed bs))) (codes " -> " ++ t) ks
    ∙ append_assoc (bracketed s) (codes " " ++ bracketed (listed bs)) ((codes " -> " ++ t) ++ ks)
    ∙ ap (λ y. 40 ∷ y) (append_assoc s (41 ∷ []) ((codes " " ++ bracketed (listed bs)) ++ ((codes " -> " ++ t) ++ ks)))
    ∙ ap (λ y. 40 ∷ (s ++ 41 ∷ 32 ∷ 40 ∷ y)) (append_assoc (listed bs) (41 ∷ []) ((codes " -> " ++ t) ++ ks))

mutual
  unfolding IsShape IsBefore AreShapes shown shown_before argument_texts tail_text with_all with_last listed

  pub shape_read : (p : List ℕ) → spells_identifier p ≡ true → (e : Shape) → IsShape p e → Reads p e
  shape_read p id (named b t) h q a c s bar =
      let free = not_barred (is_barred a c) bar in
      name_read p q a c s.words free b t h.1 (before_read p id b h.0 q a c s free)
  shape_read p id (called b t args) h q a c s bar =
      let free = not_barred (is_barred a c) bar in
      record {
        state = call_closed a c b t args;
        runs = λ ks. call_whole p q a c b t args (call_named p q a c s.words free b t h.1 (before_read p id b h.0 q a c s free)) (args_read p id args h.2) ks;
        behind = closed_behind p a c b t args;
      }
  shape_read p id (lambda n bs d e) h q a c s bar =
      let inner = start (in_body a c n bs) None in
      let r = argument_read p id d e h.2 (shape_read p id e h.3) inner (in_body a c n bs) (plain_begins p (in_body a c n bs)) refl (λ z. absurd (false≢true z)) in
      record {
        state = r.state;
        runs = λ ks. ap (run p q) (head_text n bs (with_cast d (shown e)) ks) ∙ s.to_lambda n bs (with_cast d (shown e) ++ ks) h.0 h.1 ∙ r.runs ks;
        behind = body_behind p r.state a c d n bs e r.behind;
      }

  before_read : (p : List ℕ) → spells_identifier p ≡ true → (b : Before) → IsBefore p b → (q : Part) (a : Around) (c : Option (List ℕ)) → Starts p q a c → is_barred a c ≡ false → BeforeGives p q a c b
  before_read p id nothing h q a c s bar = tt
  before_read p id fresh h q a c s bar = record { runs = λ ks. first_by_word p q a c s.words bar (codes "new") (32 ∷ ks) word_new ∙ step_runs p (first a c (codes "new")) (later a c fresh [] []) 32 ks (new_step p a c) }
  before_read p id (behind b t args) h q a c s bar = record {
    runs = λ ks. ap (run p q) (append_assoc (shown_before b ++ (t ++ bracketed (listed (argument_texts args)))) (codes ".") ks)
        ∙ call_whole p q a c b t args (call_named p q a c s.words bar b t h.1 (before_read p id b h.0 q a c s bar)) (args_read p id args h.2) (46 ∷ ks)
        ∙ step_runs p (call_closed a c b t args) (later a c (behind b t args) [] []) 46 ks (dot_step p a c b t args);
  }
  before_read p id (in_brackets d e) h q a c s bar = record {
    runs = λ ks. group_read p q a c s bar d e h.2
        (argument_read p id d e h.0 (shape_read p id e h.1) (start (in_group a c) None) (in_group a c) (plain_begins p (in_group a c)) refl (λ z n. needs_lambda d e h.2 n)) ks;
  }

  args_read : (p : List ℕ) → spells_identifier p ≡ true → (args : Shapes) → AreShapes p args → ArgsRead p args
  args_read p id no_shapes h a c b t ks = step_runs p (call_opened a c b t) (call_closed a c b t no_shapes) 41 ks (call_right p a c b t)
  args_read p id (shapes d e rest) h a c b t ks =
      let place = in_call a c b t no_shapes in
      let r = argument_read p id d e h.0 (shape_read p id e h.1) (call_opened a c b t) place (call_begins p a c b t) refl (λ z. absurd (false≢true z)) in
      ap (λ x. run p (call_opened a c b t) (x ++ 41 ∷ ks)) (tail_is d e rest)
      ∙ ap (run p (call_opened a c b t)) (append_assoc (with_cast d (shown e)) (tail_text rest) (41 ∷ ks))
      ∙ r.runs (tail_text rest ++ 41 ∷ ks)
      ∙ tail_read p id rest h.2 a c b t no_shapes d e r.state r.behind ks
      ∙ ap (λ x. run p (call_closed a c b t x) ks) (with_all-first d e no_shapes rest ∙ ap (shapes d e) (with_all-none rest))

  tail_read : (p : List ℕ) → spells_identifier p ≡ true → (args : Shapes) → AreShapes p args → (a : Around) (c : Option (List ℕ)) (b : Before) (t : List ℕ) (done : Shapes) (d : Option (List ℕ)) (e : Shape) (r : Part) → Behind p r (in_call a c b t done) d e → (ks : List ℕ) → run p r (tail_text args ++ 41 ∷ ks) ≡ run p (call_closed a c b t (with_all (with_last done d e) args)) ks
  tail_read p id no_shapes h a c b t done d e r k ks = step_runs p r (call_closed a c b t (with_last done d e)) 41 ks (k.right ∙ close_right a c b t done d e)
  tail_read p id (shapes f g rest) h a c b t done d e r k ks =
      let place = in_call a c b t (with_last done d e) in
      let next = argument_read p id f g h.0 (shape_read p id g h.1) (start place None) place (plain_begins p place) refl (λ z. absurd (false≢true z)) in
      ap (run p r) (append_assoc (codes ", ") (with_cast f (shown g) ++ tail_text rest) (41 ∷ ks) ∙ ap (λ x. codes ", " ++ x) (append_assoc (with_cast f (shown g)) (tail_text rest) (41 ∷ ks)))
      ∙ step_runs p r (due 32 (start place None)) 44 (32 ∷ (with_cast f (shown g) ++ (tail_text rest ++ 41 ∷ ks))) (k.comma ∙ close_comma a c b t done d e)
      ∙ due_runs p 32 (start place None) (with_cast f (shown g) ++ (tail_text rest ++ 41 ∷ ks))
      ∙ next.runs (tail_text rest ++ 41 ∷ ks)
      ∙ tail_read p id rest h.2 a c b t (with_last done d e) f g next.state next.behind ks

-- a whole text
pub whole_read : (p : List ℕ) → spells_identifier p ≡ true → (e : Shape) → IsShape p e → Read p (start top None) top None (shown e) e
whole_read p id e h = shape_read p id e h (start top None) top None (plain_starts p id top None) (λ z. absurd (false≢true z))

pub run_none : (p : List ℕ) (q : Part) → run p q [] ≡ Some q
unfolding run
run_none p q = refl

pub some_part : (q r : Part) → Some q ≡ Some r → q ≡ r
some_part q r e = cc

pub some_shape : (e f : Shape) → Some e ≡ Some f → e ≡ f
some_shape e f z = cc

pub over_whole : (e : Shape) → unwrapped top None e ≡ Some e
unfolding unwrapped
over_whole e = refl

pub read_to : (p : List ℕ) (e : Shape) (r : Read p (start top None) top None (shown e) e) → run p (start top None) (shown e) ≡ Some r.state
read_to p e r = ap (run p (start top None)) (sym (append-nil (shown e))) ∙ r.runs [] ∙ run_none p r.state

pub one_shape : (p : List ℕ) → spells_identifier p ≡ true → (e f : Shape) → IsShape p e → IsShape p f → shown e ≡ shown f → e ≡ f
one_shape p id e f h k same =
    let r = whole_read p id e h in
    let u = whole_read p id f k in
    let states = some_part r.state u.state (sym (read_to p e r) ∙ ap (run p (start top None)) same ∙ read_to p f u) in
    some_shape e f (sym (over_whole e) ∙ sym r.behind.over ∙ ap ended states ∙ u.behind.over ∙ over_whole f)
