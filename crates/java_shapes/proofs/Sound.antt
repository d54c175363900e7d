-- What the reader has read is shown by its place, and a place is well formed.
use Rattle.std.proofs.Common.{◌≡◌, ◌∙◌, inl, ap, sym, subst, refl, ℕ, ◌==◌, Bool, true, false, List, [], ◌∷◌, ◌++◌, Option, Some, None, codes, append_assoc, append-nil, eqb-true, if◌then◌else◌}
use Rattle.java_units.specs.Signs.{has}
use Rattle.terms.specs.Text.{listed, bracketed, with_cast}
use Rattle.java_shapes.specs.Shape.{Shape, named, called, lambda, in_brackets, Shapes, no_shapes, shapes, shown, shown_before, argument_texts}
use Rattle.java_shapes.specs.Grammar.{IsCast, IsShape, IsBefore, AreShapes}
use Rattle.java_shapes.specs.Reader.{Around, top, in_call, in_body, in_group, with_last, Part, first, later, opened, typing, sized, either, either_opened, either_word, either_closed, binders_opened, in_binder, call_opened, call_closed, due, start, grouped, close, when}
use Rattle.java_shapes.proofs.Runs.{some_part}
use Rattle.java_shapes.proofs.Ends.{HasCast, IsAround, IsPart}

-- a cast before an expression
abbrev pub cast_text : Option (List ℕ) → List ℕ
cast_text None = []
cast_text (Some t) = bracketed t ++ codes " "

-- arguments and binders, each with the `, ` behind it
unfoldable pub args_before : Shapes → List ℕ
args_before no_shapes = []
args_before (shapes c e rest) = with_cast c (shown e) ++ (codes ", " ++ args_before rest)

unfoldable pub binders_before : List (List ℕ) → List ℕ
binders_before [] = []
binders_before (b ∷ bs) = b ++ (codes ", " ++ binders_before bs)

-- the text before a place, without the cast at it
unfoldable pub place_text : Around → List ℕ
place_text top = []
place_text (in_call a d b t args) = (place_text a ++ cast_text d) ++ (shown_before b ++ (t ++ 40 ∷ args_before args))
place_text (in_body a d s bs) = (place_text a ++ cast_text d) ++ ((bracketed s ++ (codes " " ++ bracketed (listed bs))) ++ codes " -> ")
place_text (in_group a d) = (place_text a ++ cast_text d) ++ codes "("

abbrev pub site_text : Around → Option (List ℕ) → List ℕ
site_text a c = place_text a ++ cast_text c

-- the text of a place
abbrev pub part_text : Part → List ℕ
part_text (first a c w) = site_text a c ++ w
part_text (later a c b done w) = site_text a c ++ (shown_before b ++ (done ++ w))
part_text (opened a c) = site_text a c ++ codes "("
part_text (typing a c done w) = site_text a c ++ 40 ∷ (done ++ w)
part_text (sized a t) = place_text a ++ 40 ∷ t
part_text (either a s) = site_text a (Some s)
part_text (either_opened a s) = site_text a (Some s) ++ codes "("
part_text (either_word a s w) = site_text a (Some s) ++ 40 ∷ w
part_text (either_closed a s w) = site_text a (Some s) ++ 40 ∷ (w ++ codes ") ")
part_text (binders_opened a c s) = site_text a c ++ (bracketed s ++ codes " (")
part_text (in_binder a c s bs w) = site_text a c ++ ((bracketed s ++ codes " (") ++ (binders_before bs ++ w))
part_text (call_opened a c b t) = site_text a c ++ (shown_before b ++ (t ++ codes "("))
part_text (call_closed a c b t args) = site_text a c ++ shown (called b t args)
part_text (due k q) = []

-- a place shows a text; with what is due, it shows that too
abbrev pub Shows : Part → List ℕ → Type 0
Shows (first a c w) t = part_text (first a c w) ≡ t
Shows (later a c b done w) t = part_text (later a c b done w) ≡ t
Shows (opened a c) t = part_text (opened a c) ≡ t
Shows (typing a c done w) t = part_text (typing a c done w) ≡ t
Shows (sized a s) t = part_text (sized a s) ≡ t
Shows (either a s) t = part_text (either a s) ≡ t
Shows (either_opened a s) t = part_text (either_opened a s) ≡ t
Shows (either_word a s w) t = part_text (either_word a s w) ≡ t
Shows (either_closed a s w) t = part_text (either_closed a s w) ≡ t
Shows (binders_opened a c s) t = part_text (binders_opened a c s) ≡ t
Shows (in_binder a c s bs w) t = part_text (in_binder a c s bs w) ≡ t
Shows (call_opened a c b s) t = part_text (call_opened a c b s) ≡ t
Shows (call_closed a c b s args) t = part_text (call_closed a c b s args) ≡ t
Shows (due k q) t = Shows q (t ++ k ∷ [])

abbrev pub Next : List ℕ → List ℕ → ℕ → Part → Type 0
Next p t k r = IsPart p r × Shows r (t ++ k ∷ [])

-- branches of a step
pub no_some : {X : Type 0} (r : X) → None ≡ Some r → ⊥
no_some r e = cc

pub by_none : (P : Part → Type 0) (r : Part) → None ≡ Some r → P r
by_none P r e = absurd (no_some r e)

pub by_some : (P : Part → Type 0) (q : Part) → P q → (r : Part) → Some q ≡ Some r → P r
by_some P q h r e = subst P (some_part q r e) h

pub by_when : (P : Part → Type 0) (b : Bool) (q : Part) → (b ≡ true → P q) → (r : Part) → when b q ≡ Some r → P r
by_when P true q h r e = by_some P q (h refl) r e
by_when P false q h r e = by_none P r e

pub by_if : (P : Part → Type 0) (b : Bool) (x y : Option Part) → (b ≡ true → (r : Part) → x ≡ Some r → P r) → (b ≡ false → (r : Part) → y ≡ Some r → P r) → (r : Part) → (if b then x else y) ≡ Some r → P r
by_if P true x y f g r e = f refl r e
by_if P false x y f g r e = g refl r e

pub by_eq_at : (P : ℕ → Part → Type 0) (k j : ℕ) (x y : Option Part) → ((r : Part) → x ≡ Some r → P j r) → ((r : Part) → y ≡ Some r → P k r) → (b : Bool) → (k == j) ≡ b → (r : Part) → (if b then x else y) ≡ Some r → P k r
by_eq_at P k j x y f g true h r e = subst (λ z. P z r) (sym (eqb-true k j h)) (f r e)
by_eq_at P k j x y f g false h r e = g r e

pub by_eq : (P : ℕ → Part → Type 0) (k j : ℕ) (x y : Option Part) → ((r : Part) → x ≡ Some r → P j r) → ((r : Part) → y ≡ Some r → P k r) → (r : Part) → (if k == j then x else y) ≡ Some r → P k r
by_eq P k j x y f g r e = by_eq_at P k j x y f g (k == j) refl r e

-- texts
pub site_with : (a : Around) (c : Option (List ℕ)) (x : List ℕ) → site_text a c ++ x ≡ place_text a ++ with_cast c x
site_with a None x = ap (λ y. y ++ x) (append-nil (place_text a))
site_with a (Some t) x = append_assoc (place_text a) (bracketed t ++ codes " ") x ∙ ap (λ y. place_text a ++ y) (append_assoc (bracketed t) (codes " ") x)

pub site_none : (a : Around) → site_text a None ≡ place_text a
site_none a = append-nil (place_text a)

pub args_more : (args : Shapes) (c : Option (List ℕ)) (e : Shape) → args_before (with_last args c e) ≡ args_before args ++ (with_cast c (shown e) ++ codes ", ")
unfolding args_before with_last
args_more no_shapes c e = refl
args_more (shapes d f rest) c e = ap (λ x. with_cast d (shown f) ++ (codes ", " ++ x)) (args_more rest c e) ∙ sym (append_assoc (with_cast d (shown f)) (codes ", " ++ args_before rest) (with_cast c (shown e) ++ codes ", "))

pub some_last : (d : Option (List ℕ)) (f : Shape) (args : Shapes) (c : Option (List ℕ)) (e : Shape) → listed (argument_texts (shapes d f (with_last args c e))) ≡ with_cast d (shown f) ++ (codes ", " ++ listed (argument_texts (with_last args c e)))
unfolding listed argument_texts with_last
some_last d f no_shapes c e = append_assoc (with_cast d (shown f)) (codes ", ") (with_cast c (shown e))
some_last d f (shapes x y rest) c e = append_assoc (with_cast d (shown f)) (codes ", ") (listed (argument_texts (shapes x y (with_last rest c e))))

pub args_last : (args : Shapes) (c : Option (List ℕ)) (e : Shape) → listed (argument_texts (with_last args c e)) ≡ args_before args ++ with_cast c (shown e)
unfolding args_before with_last listed argument_texts
args_last no_shapes c e = refl
args_last (shapes d f rest) c e =
    some_last d f rest c e ∙ ap (λ x. with_cast d (shown f) ++ (codes ", " ++ x)) (args_last rest c e) ∙ sym (append_assoc (with_cast d (shown f)) (codes ", " ++ args_before rest) (with_cast c (shown e)))

pub binders_more : (bs : List (List ℕ)) (w : List ℕ) → binders_before (bs ++ w ∷ []) ≡ binders_before bs ++ (w ++ codes ", ")
unfolding binders_before
binders_more [] w = refl
binders_more (b ∷ bs) w = ap (λ x. b ++ (codes ", " ++ x)) (binders_more bs w) ∙ sym (append_assoc b (codes ", " ++ binders_before bs) (w ++ codes ", "))

pub last_binder : (b : List ℕ) (bs : List (List ℕ)) (w : List ℕ) → listed (b ∷ (bs ++ w ∷ [])) ≡ b ++ (codes ", " ++ listed (bs ++ w ∷ []))
unfolding listed
last_binder b [] w = append_assoc b (codes ", ") w
last_binder b (c ∷ bs) w = append_assoc b (codes ", ") (listed (c ∷ (bs ++ w ∷ [])))

pub binders_last : (bs : List (List ℕ)) (w : List ℕ) → listed (bs ++ w ∷ []) ≡ binders_before bs ++ w
unfolding listed binders_before
binders_last [] w = refl
binders_last (b ∷ bs) w = last_binder b bs w ∙ ap (λ x. b ++ (codes ", " ++ x)) (binders_last bs w) ∙ sym (append_assoc b (codes ", " ++ binders_before bs) w)

pub last_shaped : (p : List ℕ) (args : Shapes) (c : Option (List ℕ)) (e : Shape) → AreShapes p args → IsCast c → IsShape p e → AreShapes p (with_last args c e)
unfolding AreShapes with_last
last_shaped p no_shapes c e h k s = (k, s, tt)
last_shaped p (shapes d f rest) c e h k s = (h.0, h.1, last_shaped p rest c e h.2 k s)

-- behind a whole expression
pub call_assoc : (a b t l : List ℕ) (x : List ℕ) → a ++ (b ++ (t ++ ((40 ∷ (l ++ x)) ++ 41 ∷ []))) ≡ ((a ++ (b ++ (t ++ 40 ∷ l))) ++ x) ++ 41 ∷ []
call_assoc a b t l x = simp append_assoc

pub comma_assoc : (a b t l x : List ℕ) → ((a ++ (b ++ (t ++ 40 ∷ (l ++ (x ++ codes ", "))))) ++ []) ++ [] ≡ (((a ++ (b ++ (t ++ 40 ∷ l))) ++ x) ++ 44 ∷ []) ++ 32 ∷ []
comma_assoc a b t l x = simp (append_assoc, append-nil)

pub body_assoc : (a h w x : List ℕ) → (a ++ (h ++ w)) ++ x ≡ a ++ (h ++ (w ++ x))
body_assoc a h w x = append_assoc a (h ++ w) x ∙ ap (λ y. a ++ y) (append_assoc h w x)

pub group_assoc : (a x : List ℕ) → a ++ ((((40 ∷ x) ++ 41 ∷ []) ++ 46 ∷ []) ++ []) ≡ (((a ++ 40 ∷ []) ++ x) ++ 41 ∷ []) ++ 46 ∷ []
group_assoc a x =
    ap (λ y. a ++ y) (append-nil (((40 ∷ x) ++ 41 ∷ []) ++ 46 ∷ [])) ∙ sym (append_assoc a ((40 ∷ x) ++ 41 ∷ []) (46 ∷ []))
    ∙ ap (λ y. y ++ 46 ∷ []) (sym (append_assoc a (40 ∷ x) (41 ∷ []))) ∙ ap (λ y. (y ++ 41 ∷ []) ++ 46 ∷ []) (sym (append_assoc a (40 ∷ []) x))

pub body_text : (a : Around) (d : Option (List ℕ)) (s : List ℕ) (bs : List (List ℕ)) (c : Option (List ℕ)) (e : Shape) → place_text (in_body a d s bs) ++ with_cast c (shown e) ≡ place_text a ++ with_cast d (shown (lambda s bs c e))
unfolding place_text shown
body_text a d s bs c e = body_assoc (site_text a d) (bracketed s ++ (codes " " ++ bracketed (listed bs))) (codes " -> ") (with_cast c (shown e)) ∙ site_with a d (shown (lambda s bs c e))

pub has_is : (a : Around) (c : Option (List ℕ)) → HasCast a c → IsCast c
has_is top None h = tt
has_is top (Some t) h = absurd h
has_is (in_call a d b t args) c h = h
has_is (in_body a d s bs) c h = h
has_is (in_group a d) c h = h

pub grouped_sound : (p : List ℕ) (a : Around) (d c : Option (List ℕ)) (e : Shape) → IsAround p (in_group a d) → IsCast c → IsShape p e → (r : Part) → grouped a d c e ≡ Some r → Next p (place_text (in_group a d) ++ with_cast c (shown e)) 41 r
unfolding place_text shown_before IsBefore
grouped_sound p a d (Some t) e h k s =
    by_some (Next p (place_text (in_group a d) ++ with_cast (Some t) (shown e)) 41) (due 46 (later a d (in_brackets (Some t) e) [] []))
    ((h.0, h.1, h.2, (k, s, tt), inl refl, inl refl), group_assoc (site_text a d) (with_cast (Some t) (shown e)))
grouped_sound p a d None (named b t) h k s = by_none (Next p (place_text (in_group a d) ++ shown (named b t)) 41)
grouped_sound p a d None (called b t args) h k s = by_none (Next p (place_text (in_group a d) ++ shown (called b t args)) 41)
grouped_sound p a d None (lambda n bs c e) h k s =
    by_some (Next p (place_text (in_group a d) ++ shown (lambda n bs c e)) 41) (due 46 (later a d (in_brackets None (lambda n bs c e)) [] []))
    ((h.0, h.1, h.2, (k, s, tt), inl refl, inl refl), group_assoc (site_text a d) (shown (lambda n bs c e)))

pub close_sound : (p : List ℕ) (a : Around) → IsAround p a → (c : Option (List ℕ)) → HasCast a c → (e : Shape) → IsShape p e → (k : ℕ) (r : Part) → close a c e k ≡ Some r → Next p (place_text a ++ with_cast c (shown e)) k r
unfolding close place_text shown IsShape
close_sound p top h c has e s k r q = absurd (no_some r q)
close_sound p (in_call a d b t args) h c has e s k r q =
    let text = (site_text a d ++ (shown_before b ++ (t ++ 40 ∷ args_before args))) ++ with_cast c (shown e) in
    let all = last_shaped p args c e h.5 has s in
    by_eq (Next p text) k 41 (Some (call_closed a d b t (with_last args c e))) (if k == 44 then Some (due 32 (start (in_call a d b t (with_last args c e)) None)) else None)
    (by_some (Next p text 41) (call_closed a d b t (with_last args c e))
    ((h.0, h.1, h.2, h.3, h.4, all), ap (λ x. site_text a d ++ (shown_before b ++ (t ++ bracketed x))) (args_last args c e) ∙ call_assoc (site_text a d) (shown_before b) t (args_before args) (with_cast c (shown e))))
    (by_eq (Next p text) k 44 (Some (due 32 (start (in_call a d b t (with_last args c e)) None))) None
    (by_some (Next p text 44) (due 32 (start (in_call a d b t (with_last args c e)) None))
    (((h.0, h.1, h.2, h.3, h.4, all), tt, inl refl), ap (λ x. ((site_text a d ++ (shown_before b ++ (t ++ 40 ∷ x))) ++ []) ++ []) (args_more args c e) ∙ comma_assoc (site_text a d) (shown_before b) t (args_before args) (with_cast c (shown e))))
    (by_none (Next p text k))) r q
close_sound p (in_body a d n bs) h c has e s k r q =
    subst (λ x. Next p x k r) (sym (body_text a d n bs c e)) (close_sound p a h.0 d h.1 (lambda n bs c e) (h.2, h.3, has, s) k r q)
close_sound p (in_group a d) h c has e s k r q =
    by_eq (Next p (place_text (in_group a d) ++ with_cast c (shown e))) k 41 (grouped a d c e) None (grouped_sound p a d c e h has s) (by_none (Next p (place_text (in_group a d) ++ with_cast c (shown e)) k)) r q
