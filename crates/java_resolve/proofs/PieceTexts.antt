-- The pieces of an expression are its text.
use Rattle.std.proofs.Common.{◌≡◌, ◌∙◌, ap, ap₂, sym, refl, ℕ, Bool, true, false, List, [], ◌∷◌, ◌++◌, Option, Some, None, append-nil, append_assoc, codes, if◌then◌else◌}
use Rattle.java_tokens.specs.Classes.{is_word_part}
use Rattle.terms.specs.Text.{listed, bracketed, with_cast}
use Rattle.java_shapes.specs.Shape.{Shape, named, called, lambda, Before, nothing, fresh, behind, in_brackets, Shapes, no_shapes, shapes, shown, shown_before, argument_texts}
use Rattle.java_resolve.specs.Pieces.{Piece, sign, word, cut, cast_pieces, binder_pieces, header_pieces, call_pieces, shape_pieces, before_pieces, args_pieces, separator, joined}
use Rattle.java_resolve.proofs.Pieces.{joined_append}

cut_by : (bound : List (List ℕ)) (w cs : List ℕ) (c : ℕ) (b : Bool) → is_word_part c ≡ b → joined (cut bound (w ++ c ∷ []) cs) ≡ (w ++ c ∷ []) ++ cs → joined (cut bound [] cs) ≡ cs → joined (cut bound w (c ∷ cs)) ≡ w ++ c ∷ cs
unfolding cut joined
cut_by bound w cs c true e h k = ap (λ t. joined (if t then cut bound (w ++ c ∷ []) cs else word bound w ∷ sign (c ∷ []) ∷ cut bound [] cs)) e ∙ h ∙ append_assoc w (c ∷ []) cs
cut_by bound w cs c false e h k = ap (λ t. joined (if t then cut bound (w ++ c ∷ []) cs else word bound w ∷ sign (c ∷ []) ∷ cut bound [] cs)) e ∙ ap (λ x. w ++ c ∷ x) k

pub cut_text : (bound : List (List ℕ)) (w cs : List ℕ) → joined (cut bound w cs) ≡ w ++ cs
unfolding cut joined
cut_text bound w [] = refl
cut_text bound w (c ∷ cs) = cut_by bound w cs c (is_word_part c) refl (cut_text bound (w ++ c ∷ []) cs) (cut_text bound [] cs)

-- a sign before other pieces, and behind them
led_by : (t : List ℕ) (ps : List Piece) (u : List ℕ) → joined ps ≡ u → joined (sign t ∷ ps) ≡ t ++ u
unfolding joined
led_by t ps u e = ap (λ x. t ++ x) e

one_sign : (t : List ℕ) → joined (sign t ∷ []) ≡ t
unfolding joined
one_sign t = append-nil t

both : (ps qs : List Piece) (t u : List ℕ) → joined ps ≡ t → joined qs ≡ u → joined (ps ++ qs) ≡ t ++ u
both ps qs t u e f = joined_append ps qs ∙ ap₂ (λ x y. x ++ y) e f

none : joined [] ≡ []
unfolding joined
none = refl

cast_text : (bound : List (List ℕ)) (c : Option (List ℕ)) (ps : List Piece) (t : List ℕ) → joined ps ≡ t → joined (cast_pieces bound c ++ ps) ≡ with_cast c t
cast_text bound None ps t e = e
cast_text bound (Some c) ps t e =
    both (cast_pieces bound (Some c)) ps (40 ∷ (c ++ 41 ∷ 32 ∷ [])) t (led_by (40 ∷ []) (cut bound [] c ++ sign (41 ∷ 32 ∷ []) ∷ []) (c ++ 41 ∷ 32 ∷ []) (both (cut bound [] c) (sign (41 ∷ 32 ∷ []) ∷ []) c (41 ∷ 32 ∷ []) (cut_text bound [] c) (one_sign (41 ∷ 32 ∷ [])))) e
    ∙ ap (λ x. 40 ∷ x) (append_assoc c (41 ∷ 32 ∷ []) t ∙ sym (append_assoc c (41 ∷ []) (32 ∷ t)))

-- texts behind their separators
led : Bool → List (List ℕ) → List ℕ
led f [] = []
led f (t ∷ ts) = separator f ++ listed (t ∷ ts)

led_more : (f : Bool) (t : List ℕ) (ts : List (List ℕ)) → (separator f ++ t) ++ led false ts ≡ led f (t ∷ ts)
unfolding led listed
led_more f t [] = append-nil (separator f ++ t)
led_more f t (u ∷ more) = append_assoc (separator f) t (44 ∷ 32 ∷ listed (u ∷ more)) ∙ ap (λ x. separator f ++ x) (sym (append_assoc t (44 ∷ 32 ∷ []) (listed (u ∷ more))))

led_all : (ts : List (List ℕ)) → led true ts ≡ listed ts
unfolding led listed
led_all [] = refl
led_all (t ∷ ts) = refl

no_led : (f : Bool) → [] ≡ led f []
unfolding led
no_led f = refl

binders_text : (bound : List (List ℕ)) (f : Bool) (ws : List (List ℕ)) → joined (binder_pieces bound f ws) ≡ led f ws
unfolding binder_pieces joined
binders_text bound f [] = no_led f
binders_text bound f (w ∷ ws) =
    both (sign (separator f) ∷ cut bound [] w) (binder_pieces bound false ws) (separator f ++ w) (led false ws) (led_by (separator f) (cut bound [] w) w (cut_text bound [] w)) (binders_text bound false ws)
    ∙ led_more f w ws

header_text : (bound : List (List ℕ)) (s : List ℕ) (bs : List (List ℕ)) → joined (header_pieces bound s bs) ≡ 40 ∷ ((s ++ 41 ∷ 32 ∷ 40 ∷ []) ++ (listed bs ++ 41 ∷ 32 ∷ 45 ∷ 62 ∷ 32 ∷ []))
header_text bound s bs =
    led_by (40 ∷ []) ((cut bound [] s ++ sign (41 ∷ 32 ∷ 40 ∷ []) ∷ []) ++ (binder_pieces bound true bs ++ sign (41 ∷ 32 ∷ 45 ∷ 62 ∷ 32 ∷ []) ∷ [])) ((s ++ 41 ∷ 32 ∷ 40 ∷ []) ++ (listed bs ++ 41 ∷ 32 ∷ 45 ∷ 62 ∷ 32 ∷ []))
    (both (cut bound [] s ++ sign (41 ∷ 32 ∷ 40 ∷ []) ∷ []) (binder_pieces bound true bs ++ sign (41 ∷ 32 ∷ 45 ∷ 62 ∷ 32 ∷ []) ∷ []) (s ++ 41 ∷ 32 ∷ 40 ∷ []) (listed bs ++ 41 ∷ 32 ∷ 45 ∷ 62 ∷ 32 ∷ [])
    (both (cut bound [] s) (sign (41 ∷ 32 ∷ 40 ∷ []) ∷ []) s (41 ∷ 32 ∷ 40 ∷ []) (cut_text bound [] s) (one_sign (41 ∷ 32 ∷ 40 ∷ [])))
    (both (binder_pieces bound true bs) (sign (41 ∷ 32 ∷ 45 ∷ 62 ∷ 32 ∷ []) ∷ []) (listed bs) (41 ∷ 32 ∷ 45 ∷ 62 ∷ 32 ∷ []) (binders_text bound true bs ∙ led_all bs) (one_sign (41 ∷ 32 ∷ 45 ∷ 62 ∷ 32 ∷ []))))

lambda_text : (s l w : List ℕ) → (40 ∷ ((s ++ 41 ∷ 32 ∷ 40 ∷ []) ++ (l ++ 41 ∷ 32 ∷ 45 ∷ 62 ∷ 32 ∷ []))) ++ w ≡ bracketed s ++ (codes " " ++ bracketed l) ++ (codes " -> " ++ w)
lambda_text s l w =
    let a : List ℕ = 41 ∷ 32 ∷ 40 ∷ [] in
    let b : List ℕ = 41 ∷ 32 ∷ 45 ∷ 62 ∷ 32 ∷ [] in
    let end : List ℕ = 32 ∷ 45 ∷ 62 ∷ 32 ∷ w in
    ap (λ x. 40 ∷ x)
    ((append_assoc (s ++ a) (l ++ b) w ∙ append_assoc s a ((l ++ b) ++ w) ∙ ap (λ x. s ++ (a ++ x)) (append_assoc l b w))
    ∙ sym (append_assoc (s ++ 41 ∷ []) (32 ∷ 40 ∷ (l ++ 41 ∷ [])) end ∙ append_assoc s (41 ∷ []) (32 ∷ 40 ∷ ((l ++ 41 ∷ []) ++ end)) ∙ ap (λ x. s ++ (41 ∷ 32 ∷ 40 ∷ x)) (append_assoc l (41 ∷ []) end)))

call_text : (bound : List (List ℕ)) (xs : Shapes) (t : List ℕ) → joined (args_pieces bound true xs) ≡ t → joined (call_pieces bound xs) ≡ bracketed t
call_text bound xs t e = led_by (40 ∷ []) (args_pieces bound true xs ++ sign (41 ∷ []) ∷ []) (t ++ 41 ∷ []) (both (args_pieces bound true xs) (sign (41 ∷ []) ∷ []) t (41 ∷ []) e (one_sign (41 ∷ [])))

mutual
  unfolding shape_pieces before_pieces args_pieces shown shown_before argument_texts joined

  pub shape_text : (bound : List (List ℕ)) (s : Shape) → joined (shape_pieces bound s) ≡ shown s
  shape_text bound (named b t) = both (before_pieces bound b) (cut bound [] t) (shown_before b) t (before_text bound b) (cut_text bound [] t)
  shape_text bound (called b t xs) =
      both (before_pieces bound b ++ cut bound [] t) (call_pieces bound xs) (shown_before b ++ t) (bracketed (listed (argument_texts xs)))
      (both (before_pieces bound b) (cut bound [] t) (shown_before b) t (before_text bound b) (cut_text bound [] t))
      (call_text bound xs (listed (argument_texts xs)) (args_text bound true xs ∙ led_all (argument_texts xs)))
      ∙ append_assoc (shown_before b) t (bracketed (listed (argument_texts xs)))
  shape_text bound (lambda s bs c e) =
      both (header_pieces (bound ++ bs) s bs) (cast_pieces (bound ++ bs) c ++ shape_pieces (bound ++ bs) e) (40 ∷ ((s ++ 41 ∷ 32 ∷ 40 ∷ []) ++ (listed bs ++ 41 ∷ 32 ∷ 45 ∷ 62 ∷ 32 ∷ []))) (with_cast c (shown e))
      (header_text (bound ++ bs) s bs)
      (cast_text (bound ++ bs) c (shape_pieces (bound ++ bs) e) (shown e) (shape_text (bound ++ bs) e))
      ∙ lambda_text s (listed bs) (with_cast c (shown e))

  pub before_text : (bound : List (List ℕ)) (b : Before) → joined (before_pieces bound b) ≡ shown_before b
  before_text bound nothing = none
  before_text bound fresh = one_sign (codes "new ")
  before_text bound (behind b t xs) =
      both ((before_pieces bound b ++ cut bound [] t) ++ call_pieces bound xs) (sign (46 ∷ []) ∷ []) (shown_before b ++ (t ++ bracketed (listed (argument_texts xs)))) (46 ∷ [])
      (both (before_pieces bound b ++ cut bound [] t) (call_pieces bound xs) (shown_before b ++ t) (bracketed (listed (argument_texts xs)))
      (both (before_pieces bound b) (cut bound [] t) (shown_before b) t (before_text bound b) (cut_text bound [] t))
      (call_text bound xs (listed (argument_texts xs)) (args_text bound true xs ∙ led_all (argument_texts xs)))
      ∙ append_assoc (shown_before b) t (bracketed (listed (argument_texts xs))))
      (one_sign (46 ∷ []))
  before_text bound (in_brackets c e) =
      led_by (40 ∷ []) ((cast_pieces bound c ++ shape_pieces bound e) ++ sign (41 ∷ 46 ∷ []) ∷ []) (with_cast c (shown e) ++ 41 ∷ 46 ∷ [])
      (both (cast_pieces bound c ++ shape_pieces bound e) (sign (41 ∷ 46 ∷ []) ∷ []) (with_cast c (shown e)) (41 ∷ 46 ∷ []) (cast_text bound c (shape_pieces bound e) (shown e) (shape_text bound e)) (one_sign (41 ∷ 46 ∷ [])))
      ∙ ap (λ x. 40 ∷ x) (sym (append_assoc (with_cast c (shown e)) (41 ∷ []) (46 ∷ [])))

  args_text : (bound : List (List ℕ)) (f : Bool) (xs : Shapes) → joined (args_pieces bound f xs) ≡ led f (argument_texts xs)
  args_text bound f no_shapes = no_led f
  args_text bound f (shapes c e rest) =
      both (sign (separator f) ∷ (cast_pieces bound c ++ shape_pieces bound e)) (args_pieces bound false rest) (separator f ++ with_cast c (shown e)) (led false (argument_texts rest))
      (led_by (separator f) (cast_pieces bound c ++ shape_pieces bound e) (with_cast c (shown e)) (cast_text bound c (shape_pieces bound e) (shown e) (shape_text bound e)))
      (args_text bound false rest)
      ∙ led_more f (with_cast c (shown e)) (argument_texts rest)
