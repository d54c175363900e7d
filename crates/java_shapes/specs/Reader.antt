-- A reader of expressions that goes forward by characters. What it has read is a text with a hole: the brackets
-- around the place, outwards, each with what stands before the place in it, and the word that it is in.
use Rattle.std.specs.Prelude.{ℕ, Bool, true, false, ◌&&◌, ◌||◌, not, ◌==◌, if◌then◌else◌, List, [], ◌∷◌, ◌++◌, Option, Some, None, codes}
use Rattle.java_tokens.specs.Words.{is_word}
use Rattle.java_units.specs.Signs.{has}
use Rattle.java_units.specs.Forms.{primitives}
use Rattle.java_shapes.specs.Words.{spells_identifier, begins_name, is_binder}
use Rattle.java_shapes.specs.Shape.{Shape, named, called, lambda, Before, nothing, fresh, behind, in_brackets, Shapes, no_shapes, shapes}

-- what stands around an expression, from the innermost outwards; each frame has the cast before the expression that
-- it is a part of
pub data Around : Type 0 where
  top : Around
  -- an argument of a call, with the arguments before it
  in_call : Around → Option (List ℕ) → Before → List ℕ → Shapes → Around
  -- the body of a lambda
  in_body : Around → Option (List ℕ) → List ℕ → List (List ℕ) → Around
  -- the brackets of a receiver
  in_group : Around → Option (List ℕ) → Around

-- one more argument
unfoldable pub with_last : Shapes → Option (List ℕ) → Shape → Shapes
with_last no_shapes c e = shapes c e no_shapes
with_last (shapes d f rest) c e = shapes d f (with_last rest c e)

-- where the reader is
pub data Part : Type 0 where
  -- in the first word of a name, maybe before it
  first : Around → Option (List ℕ) → List ℕ → Part
  -- in a later word, behind this text with its dot
  later : Around → Option (List ℕ) → Before → List ℕ → List ℕ → Part
  -- behind the `(` that begins an expression
  opened : Around → Option (List ℕ) → Part
  -- in the type of a cast or the interface of a lambda, behind this text with its dot
  typing : Around → Option (List ℕ) → List ℕ → List ℕ → Part
  -- behind the dimensions of a cast's type
  sized : Around → List ℕ → Part
  -- behind `(T) `, which may be a cast or the interface of a lambda; behind `(T) (`; in a word there; behind it and `) `
  either : Around → List ℕ → Part
  either_opened : Around → List ℕ → Part
  either_word : Around → List ℕ → List ℕ → Part
  either_closed : Around → List ℕ → List ℕ → Part
  -- behind the `(` of binders; in a binder, behind these
  binders_opened : Around → Option (List ℕ) → List ℕ → Part
  in_binder : Around → Option (List ℕ) → List ℕ → List (List ℕ) → List ℕ → Part
  -- behind the `(` of a call, and behind its `)`
  call_opened : Around → Option (List ℕ) → Before → List ℕ → Part
  call_closed : Around → Option (List ℕ) → Before → List ℕ → Shapes → Part
  -- this character is due
  due : ℕ → Part → Part

-- before an expression with this cast
abbrev pub start : Around → Option (List ℕ) → Part
start a c = first a c []

-- behind the binders of a lambda
abbrev pub arrow : Around → Option (List ℕ) → List ℕ → List (List ℕ) → Part
arrow a c s binders = due 32 (due 45 (due 62 (due 32 (start (in_body a c s binders) None))))

-- whether a cast may stand here
abbrev pub may_cast : Around → Option (List ℕ) → Bool
may_cast top c = false
may_cast (in_call a d b t args) None = true
may_cast (in_call a d b t args) (Some c) = false
may_cast (in_body a d s binders) None = true
may_cast (in_body a d s binders) (Some c) = false
may_cast (in_group a d) None = true
may_cast (in_group a d) (Some c) = false

-- whether only a cast or a lambda may stand here
abbrev pub is_barred : Around → Option (List ℕ) → Bool
is_barred top c = false
is_barred (in_call a d b t args) c = false
is_barred (in_body a d s binders) c = false
is_barred (in_group a d) None = true
is_barred (in_group a d) (Some c) = false

-- a receiver in brackets, where it needs them
abbrev pub grouped : Around → Option (List ℕ) → Option (List ℕ) → Shape → Option Part
grouped a d (Some c) e = Some (due 46 (later a d (in_brackets (Some c) e) [] []))
grouped a d None (named b t) = None
grouped a d None (called b t args) = None
grouped a d None (lambda s binders c e) = Some (due 46 (later a d (in_brackets None (lambda s binders c e)) [] []))

-- behind an expression with its cast: `)` or `,`
unfoldable pub close : Around → Option (List ℕ) → Shape → ℕ → Option Part
close top c e k = None
close (in_call a d b t args) c e k =
    if k == 41 then Some (call_closed a d b t (with_last args c e))
    else if k == 44 then Some (due 32 (start (in_call a d b t (with_last args c e)) None)) else None
close (in_body a d s binders) c e k = close a d (lambda s binders c e) k
close (in_group a d) c e k = if k == 41 then grouped a d c e else None

-- whether a character is a sign that stands between words
abbrev pub is_sign : ℕ → Bool
is_sign k = (((((k == 40) || (k == 41)) || (k == 44)) || (k == 46)) || (k == 32)) || (k == 91)

abbrev pub is_empty : List ℕ → Bool
is_empty [] = true
is_empty (c ∷ cs) = false

abbrev pub is_fresh : Before → Bool
is_fresh nothing = false
is_fresh fresh = true
is_fresh (behind b t args) = false
is_fresh (in_brackets c e) = false

-- whether only `this` stands before a word
abbrev pub is_this_dot : Before → List ℕ → Bool
is_this_dot nothing done = has (codes "this." ∷ []) done
is_this_dot fresh done = false
is_this_dot (behind b t args) done = false
is_this_dot (in_brackets c e) done = false

-- whether these characters begin a word or a literal
unfoldable pub begins_first : List ℕ → Bool
begins_first w = is_word w || has (codes "0" ∷ (34 ∷ []) ∷ (34 ∷ 34 ∷ []) ∷ []) w

-- whether these characters begin a binder
unfoldable pub begins_binder : List ℕ → List ℕ → Bool
begins_binder p [] = true
begins_binder [] (c ∷ cs) = is_binder [] (c ∷ cs)
begins_binder (b ∷ p) (c ∷ cs) = (b == c) && begins_binder p cs

abbrev pub when : Bool → Part → Option Part
when true q = Some q
when false q = None

-- a sign behind the first word
abbrev pub first_sign : Around → Option (List ℕ) → List ℕ → ℕ → Option Part
first_sign a c w k =
    if k == 40 then (if is_empty w then Some (opened a c) else when (spells_identifier w) (call_opened a c nothing w))
    else if k == 46 then when (begins_name w) (later a c nothing (w ++ 46 ∷ []) [])
    else if k == 32 then when (has (codes "new" ∷ []) w) (later a c fresh [] [])
    else if begins_name w then close a c (named nothing w) k else None

abbrev pub first_step : Around → Option (List ℕ) → List ℕ → ℕ → Option Part
first_step a c w k =
    if is_sign k then first_sign a c w k
    else when (not (is_empty w && is_barred a c) && begins_first (w ++ k ∷ [])) (first a c (w ++ k ∷ []))

-- a sign behind a later word
abbrev pub later_step : Around → Option (List ℕ) → Before → List ℕ → List ℕ → ℕ → Option Part
later_step a c b done w k =
    if k == 40 then when (spells_identifier w && not (is_this_dot b done)) (call_opened a c b (done ++ w))
    else if k == 46 then when (spells_identifier w) (later a c b (done ++ (w ++ 46 ∷ [])) [])
    else if is_sign k then (if spells_identifier w && not (is_fresh b) then close a c (named b (done ++ w)) k else None)
    else when (is_word (w ++ k ∷ [])) (later a c b done (w ++ k ∷ []))

-- in the brackets of a cast or an interface
abbrev pub type_closed : Around → Option (List ℕ) → List ℕ → List ℕ → Option Part
type_closed a c done w =
    if spells_identifier w then Some (due 32 (if may_cast a c then either a (done ++ w) else due 40 (binders_opened a c (done ++ w))))
    else when (may_cast a c && (is_empty done && has primitives w)) (due 32 (start a (Some w)))

abbrev pub typing_step : Around → Option (List ℕ) → List ℕ → List ℕ → ℕ → Option Part
typing_step a c done w k =
    if k == 46 then when (spells_identifier w) (typing a c (done ++ (w ++ 46 ∷ [])) [])
    else if k == 91 then when (may_cast a c && (spells_identifier w || (is_empty done && has primitives w))) (due 93 (sized a ((done ++ w) ++ 91 ∷ 93 ∷ [])))
    else if k == 41 then type_closed a c done w
    else when (is_word (w ++ k ∷ [])) (typing a c done (w ++ k ∷ []))

abbrev pub binder_step : List ℕ → Around → Option (List ℕ) → List ℕ → List (List ℕ) → List ℕ → ℕ → Option Part
binder_step p a c s bs w k =
    if k == 44 then when (is_binder p w) (due 32 (in_binder a c s (bs ++ w ∷ []) []))
    else if k == 41 then when (is_binder p w) (arrow a c s (bs ++ w ∷ []))
    else when (begins_binder p (w ++ k ∷ [])) (in_binder a c s bs (w ++ k ∷ []))

-- one character more, where binders begin with the text p; None where no expression goes on so
unfoldable pub step : List ℕ → Part → ℕ → Option Part
step p (first a c w) k = first_step a c w k
step p (later a c b done w) k = later_step a c b done w k
step p (opened a c) k =
    if k == 40 then when (not (is_barred a c)) (opened (in_group a c) None)
    else when (is_word (k ∷ [])) (typing a c [] (k ∷ []))
step p (typing a c done w) k = typing_step a c done w k
step p (sized a t) k =
    if k == 91 then Some (due 93 (sized a (t ++ 91 ∷ 93 ∷ [])))
    else when (k == 41) (due 32 (start a (Some t)))
step p (either a s) k = if k == 40 then Some (either_opened a s) else first_step a (Some s) [] k
step p (either_opened a s) k =
    if k == 41 then Some (arrow a None s [])
    else if k == 40 then Some (opened (in_group a (Some s)) None)
    else when (is_word (k ∷ [])) (either_word a s (k ∷ []))
step p (either_word a s w) k =
    if k == 46 then when (spells_identifier w) (typing a (Some s) (w ++ 46 ∷ []) [])
    else if k == 44 then when (is_binder p w) (due 32 (in_binder a None s (w ∷ []) []))
    else if k == 41 then when (spells_identifier w || is_binder p w) (due 32 (either_closed a s w))
    else when (is_word (w ++ k ∷ [])) (either_word a s (w ++ k ∷ []))
step p (either_closed a s w) k =
    if k == 45 then when (is_binder p w) (due 62 (due 32 (start (in_body a None s (w ∷ [])) None)))
    else when ((k == 40) && spells_identifier w) (binders_opened a (Some s) w)
step p (binders_opened a c s) k = if k == 41 then Some (arrow a c s []) else binder_step p a c s [] [] k
step p (in_binder a c s bs w) k = binder_step p a c s bs w k
step p (call_opened a c b t) k = if k == 41 then Some (call_closed a c b t no_shapes) else first_step (in_call a c b t no_shapes) None [] k
step p (call_closed a c b t args) k = if k == 46 then Some (later a c (behind b t args) [] []) else close a c (called b t args) k
step p (due j q) k = when (j == k) q

abbrev pub on : Option Part → (Part → Option Part) → Option Part
on None f = None
on (Some q) f = f q

-- these characters more
unfoldable pub run : List ℕ → Part → List ℕ → Option Part
run p q [] = Some q
run p q (k ∷ ks) = on (step p q k) (λ r. run p r ks)

-- an expression with no bracket left open around it
unfoldable pub unwrapped : Around → Option (List ℕ) → Shape → Option Shape
unwrapped top c e = Some e
unwrapped (in_call a d b t args) c e = None
unwrapped (in_body a d s binders) c e = unwrapped a d (lambda s binders c e)
unwrapped (in_group a d) c e = None

-- the expression that was read, where one ends here
abbrev pub ended : Part → Option Shape
ended (first a c w) = if begins_name w then unwrapped a c (named nothing w) else None
ended (later a c b done w) = if spells_identifier w && not (is_fresh b) then unwrapped a c (named b (done ++ w)) else None
ended (call_closed a c b t args) = unwrapped a c (called b t args)
ended _ = None
