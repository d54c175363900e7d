-- Where declarations are told apart, so are well typed terms by their shapes.
use Rattle.std.proofs.Common.{◌≡◌, ◌≢◌, ◌∙◌, ◌⊎◌, inl, inr, ap, ap₂, sym, subst, refl, ℕ, zero, suc, ◌<◌, ◌==◌, Bool, true, false, List, [], ◌∷◌, length, Option, Some, None, chars, encode_utf8_all, IsUtf8, arith, eqb-true, eq-eqb, ne_eqb, ltb-true, nat_lt}
use Rattle.std.specs.List.{list_all}
use Rattle.std.proofs.lemmas.Bool.{false≢true, and_parts, or_cases}
use Rattle.std.proofs.lemmas.Str.{encodes-chars}
use Rattle.terms.specs.Expr.{head, Args, no_args, plain, lam}
use Rattle.terms.specs.Typing.{type_in, fits, is_below, is_pair, some_below}
use Rattle.terms.specs.Faults.{is_well_formed, are_plain, is_arg_known, IsValid}
use Rattle.terms.specs.Apart.{Wants, IsOf, AreAlike, HasReceiver, AreTold, IsToldApart}
use Rattle.terms.specs.Text.{type_text}
use Rattle.terms.specs.declared.parts.Parts.{Parts}
use Rattle.terms.specs.declared.parts.Decl.{Decl}
use Rattle.terms.specs.declared.parts.Arg.{Arg}
use Rattle.terms.specs.declared.parts.Arg.TheVariants.{Plain, Fun}
use Rattle.terms.specs.declared.parts.Form.{Form}
use Rattle.terms.specs.declared.parts.Form.TheVariants.{Name, This, Call, New, Method, Field, Lambda}
use Rattle.terms.proofs.Valid.{valid-decl, valid-pair}
use Rattle.java_shapes.specs.Shape.{Shape, named, called, lambda, Before, behind, in_brackets, Shapes}
use Rattle.java_shapes.specs.ShapeOf.{cast_shape, before_of, path_of, shape_in, shapes_in}
use Rattle.java_shapes.specs.Readable.{IsReadable}
use Rattle.java_shapes.proofs.Typed.{plain_fits, lam_fits, no_fit-plain_none, no_fit-lam_none, no_fit-none_some, no_fit-plain_fun, no_fit-lam_plain}
use Rattle.java_shapes.proofs.WordFacts.{Lacks, lacks_not, last_same}
use Rattle.java_shapes.proofs.Shaped.{shapes_is, Heads}

pub decide : (i j : ℕ) → (i ≡ j) ⊎ (i ≢ j)
decide zero zero = inl refl
decide zero (suc j) = inr (omega arith)
decide (suc i) zero = inr (omega arith)
decide (suc i) (suc j) = elim (decide i j) [ inl a ↦ inl (ap suc a) | inr b ↦ inr (omega (arith, b)) ]

pub same_bytes : (s t : List ℕ) → IsUtf8 s → IsUtf8 t → chars s ≡ chars t → s ≡ t
same_bytes s t u v e = sym (encodes-chars s u) ∙ ap encode_utf8_all e ∙ encodes-chars t v

pub same_heads : (i j : ℕ) (xs ys : Args) → i ≡ j → xs ≡ ys → head i xs ≡ head j ys
same_heads i j xs ys p q = ap (λ n. head n xs) p ∙ ap (head j) q

-- what stands before a word behind a dot tells the receiver, its cast and the word
pub record SameLink (c d : Option (List ℕ)) (e f : Shape) (w v : List ℕ) : Type 0 where
  pub casts : c ≡ d
  pub shapes : e ≡ f
  pub words : w ≡ v

pub behind_is : (b c : Before) (t s : List ℕ) (xs ys : Shapes) → behind b t xs ≡ behind c s ys → (b ≡ c) × (t ≡ s) × (xs ≡ ys)
behind_is b c t s xs ys e = (cc, cc, cc)

pub in_brackets_is : (c d : Option (List ℕ)) (e f : Shape) → in_brackets c e ≡ in_brackets d f → (c ≡ d) × (e ≡ f)
in_brackets_is c d e f q = (cc, cc)

pub behind_brackets : (b : Before) (t : List ℕ) (xs : Shapes) (c : Option (List ℕ)) (e : Shape) → behind b t xs ≡ in_brackets c e → ⊥
behind_brackets b t xs c e q = cc

pub some_not_none : (k : List ℕ) → Some k ≡ None → ⊥
some_not_none k e = cc

pub link_same : (c d : Option (List ℕ)) (e f : Shape) (w v : List ℕ) → Lacks 46 w → Lacks 46 v → before_of c e ≡ before_of d f → path_of c e w ≡ path_of d f v → SameLink c d e f w v
link_same (Some k) (Some l) e f w v lw lv b p = let h = in_brackets_is (Some k) (Some l) e f b in record { casts = h.0; shapes = h.1; words = p }
link_same (Some k) None e (named bf t) w v lw lv b p = absurd (lacks_not 46 w t v lw p)
link_same (Some k) None e (called bf t xs) w v lw lv b p = absurd (behind_brackets bf t xs (Some k) e (sym b))
link_same (Some k) None e (lambda s bs cf f) w v lw lv b p = absurd (some_not_none k (in_brackets_is (Some k) None e (lambda s bs cf f) b).0)
link_same None (Some l) (named be s) f w v lw lv b p = absurd (lacks_not 46 v s w lv (sym p))
link_same None (Some l) (called be s xs) f w v lw lv b p = absurd (behind_brackets be s xs (Some l) f b)
link_same None (Some l) (lambda s bs ce e) f w v lw lv b p = absurd (some_not_none l (sym (in_brackets_is None (Some l) (lambda s bs ce e) f b).0))
link_same None None (named be s) (named bf t) w v lw lv b p = let h = last_same 46 s t w v lw lv p in record { casts = refl; shapes = ap₂ named b h.0; words = h.1 }
link_same None None (named be s) (called bf t xs) w v lw lv b p = absurd (lacks_not 46 v s w lv (sym p))
link_same None None (named be s) (lambda t bs cf f) w v lw lv b p = absurd (lacks_not 46 v s w lv (sym p))
link_same None None (called be s xs) (named bf t) w v lw lv b p = absurd (lacks_not 46 w t v lw p)
link_same None None (called be s xs) (called bf t ys) w v lw lv b p =
    let h = behind_is be bf s t xs ys b in
    record { casts = refl; shapes = ap (λ x. called x s xs) h.0 ∙ ap (λ x. called bf x xs) h.1 ∙ ap (called bf t) h.2; words = p }
link_same None None (called be s xs) (lambda t bs cf f) w v lw lv b p = absurd (behind_brackets be s xs None (lambda t bs cf f) b)
link_same None None (lambda s bs ce e) (named bf t) w v lw lv b p = absurd (lacks_not 46 w t v lw p)
link_same None None (lambda s bs ce e) (called bf t xs) w v lw lv b p = absurd (behind_brackets bf t xs None (lambda s bs ce e) (sym b))
link_same None None (lambda s bs ce e) (lambda t ds cf f) w v lw lv b p = record { casts = refl; shapes = (in_brackets_is None None (lambda s bs ce e) (lambda t ds cf f) b).1; words = p }

-- wanted types of crowded declarations, by the casts of the same arguments
pub shown_cast : (g : Parts) (t b : ℕ) → t ≢ b → cast_shape g true (Some t) b ≡ Some (chars (type_text g b))
shown_cast g t b n = let h : (t == b) ≡ false = ne_eqb t b n in rw h refl

pub hidden_cast : (g : Parts) (t b : ℕ) → t ≡ b → cast_shape g true (Some t) b ≡ None
hidden_cast g t b e = let h : (t == b) ≡ true = eq-eqb t b e in rw h refl

pub some_is : (m n : List ℕ) → Some m ≡ Some n → m ≡ n
some_is m n e = cc

pub cast_told : (g : Parts) (t : Option ℕ) (a b : ℕ) → some_below g t a ≡ true → cast_shape g true t a ≡ cast_shape g true t b → (chars (type_text g a) ≡ chars (type_text g b) → a ≡ b) → a ≡ b
cast_told g None a b k e h = absurd (false≢true k)
cast_told g (Some t) a b k e h = elim (decide t a) [
  | inl p ↦ (elim (decide t b) [
    | inl q ↦ sym p ∙ q
    | inr q ↦ absurd (some_not_none (chars (type_text g b)) (sym (shown_cast g t b q) ∙ sym e ∙ hidden_cast g t a p))
  ])
  | inr p ↦ (elim (decide t b) [
    | inl q ↦ absurd (some_not_none (chars (type_text g a)) (sym (shown_cast g t a p) ∙ e ∙ hidden_cast g t b q))
    | inr q ↦ h (some_is (chars (type_text g a)) (chars (type_text g b)) (sym (shown_cast g t a p) ∙ e ∙ shown_cast g t b q))
  ])
]

pub wants_told : (g : Parts) (ctx : List (List ℕ)) (xs : Args) (cs bs : List Arg) → are_plain cs ≡ true → are_plain bs ≡ true → fits g ctx xs cs ≡ true → fits g ctx xs bs ≡ true → shapes_in g ctx true xs cs ≡ shapes_in g ctx true xs bs → ((a b : ℕ) → Wants cs a → Wants bs b → chars (type_text g a) ≡ chars (type_text g b) → a ≡ b) → cs ≡ bs
unfolding shapes_in
wants_told g ctx xs (Fun ps q ∷ cs) bs pc pb k l e h = absurd (false≢true pc)
wants_told g ctx xs cs (Fun ps q ∷ bs) pc pb k l e h = absurd (false≢true pb)
wants_told g ctx no_args [] [] pc pb k l e h = refl
wants_told g ctx no_args [] (Plain b ∷ bs) pc pb k l e h = absurd (no_fit-none_some g ctx (Plain b) bs l)
wants_told g ctx no_args (Plain a ∷ cs) bs pc pb k l e h = absurd (no_fit-none_some g ctx (Plain a) cs k)
wants_told g ctx (lam x xs) [] bs pc pb k l e h = absurd (no_fit-lam_none g ctx x xs k)
wants_told g ctx (lam x xs) (Plain a ∷ cs) bs pc pb k l e h = absurd (no_fit-lam_plain g ctx x xs a cs k)
wants_told g ctx (plain x xs) [] bs pc pb k l e h = absurd (no_fit-plain_none g ctx x xs k)
wants_told g ctx (plain x xs) (Plain a ∷ cs) [] pc pb k l e h = absurd (no_fit-plain_none g ctx x xs l)
wants_told g ctx (plain x xs) (Plain a ∷ cs) (Plain b ∷ bs) pc pb k l e h =
    let q = shapes_is (cast_shape g true (type_in g ctx x) a) (cast_shape g true (type_in g ctx x) b) (shape_in g ctx x) (shape_in g ctx x) (shapes_in g ctx true xs cs) (shapes_in g ctx true xs bs) e in
    let fc = plain_fits g ctx x xs a cs k in
    let fb = plain_fits g ctx x xs b bs l in
    let one : a ≡ b = cast_told g (type_in g ctx x) a b fc.0 q.0 (h a b (inl refl) (inl refl)) in
    let rest : cs ≡ bs = wants_told g ctx xs cs bs pc pb fc.1 fb.1 q.2 (λ c d u v. h c d (inr u) (inr v)) in
    ap (λ z. Plain z ∷ cs) one ∙ ap (λ zs. Plain b ∷ zs) rest

pub same_long : (g : Parts) (ctx : List (List ℕ)) (xs : Args) (bs cs : List Arg) → fits g ctx xs bs ≡ true → fits g ctx xs cs ≡ true → length bs ≡ length cs
same_long g ctx no_args [] [] k l = refl
same_long g ctx no_args [] (c ∷ cs) k l = absurd (no_fit-none_some g ctx c cs l)
same_long g ctx no_args (b ∷ bs) cs k l = absurd (no_fit-none_some g ctx b bs k)
same_long g ctx (plain x xs) [] cs k l = absurd (no_fit-plain_none g ctx x xs k)
same_long g ctx (plain x xs) (Fun ps r ∷ bs) cs k l = absurd (no_fit-plain_fun g ctx x xs ps r bs k)
same_long g ctx (plain x xs) (Plain b ∷ bs) [] k l = absurd (no_fit-plain_none g ctx x xs l)
same_long g ctx (plain x xs) (Plain b ∷ bs) (Fun ps r ∷ cs) k l = absurd (no_fit-plain_fun g ctx x xs ps r cs l)
same_long g ctx (plain x xs) (Plain b ∷ bs) (Plain c ∷ cs) k l = ap suc (same_long g ctx xs bs cs (plain_fits g ctx x xs b bs k).1 (plain_fits g ctx x xs c cs l).1)
same_long g ctx (lam x xs) [] cs k l = absurd (no_fit-lam_none g ctx x xs k)
same_long g ctx (lam x xs) (Plain b ∷ bs) cs k l = absurd (no_fit-lam_plain g ctx x xs b bs k)
same_long g ctx (lam x xs) (Fun ps r ∷ bs) [] k l = absurd (no_fit-lam_none g ctx x xs l)
same_long g ctx (lam x xs) (Fun ps r ∷ bs) (Plain c ∷ cs) k l = absurd (no_fit-lam_plain g ctx x xs c cs l)
same_long g ctx (lam x xs) (Fun ps r ∷ bs) (Fun qs u ∷ cs) k l = ap suc (same_long g ctx xs bs cs (lam_fits g ctx x xs ps r bs k).others (lam_fits g ctx x xs qs u cs l).others)

-- forms that look alike have plain arguments alone
pub alike_plain : (f h : Form) (ws : List Arg) → AreAlike f h → is_well_formed f ws ≡ true → are_plain ws ≡ true
alike_plain (Call s) h ws a w = alike_call s ws w
  where
    alike_call : (s : List ℕ) (ws : List Arg) → is_well_formed (Call s) ws ≡ true → are_plain ws ≡ true
    alike_call s [] w = refl
    alike_call s (Plain b ∷ more) w = w
    alike_call s (Fun ps r ∷ more) w = w
alike_plain (New s) h ws a w = alike_new s ws w
  where
    alike_new : (s : List ℕ) (ws : List Arg) → is_well_formed (New s) ws ≡ true → are_plain ws ≡ true
    alike_new s [] w = refl
    alike_new s (Plain b ∷ more) w = w
    alike_new s (Fun ps r ∷ more) w = w
alike_plain (Method s) h [] a w = absurd (false≢true w)
alike_plain (Method s) h (Plain b ∷ more) a w = w
alike_plain (Method s) h (Fun ps r ∷ more) a w = absurd (false≢true w)
alike_plain (Field s k) h [] a w = absurd (false≢true w)
alike_plain (Field s k) h (Plain b ∷ []) a w = refl
alike_plain (Field s k) h (Plain b ∷ c ∷ more) a w = absurd (false≢true w)
alike_plain (Field s k) h (Fun ps r ∷ more) a w = absurd (false≢true w)
alike_plain (Name s) h ws a w = absurd a
alike_plain This h ws a w = absurd a
alike_plain (Lambda s) h ws a w = absurd a

pub alike_turn : (f h : Form) → AreAlike f h → AreAlike h f
alike_turn (Call s) (Call t) a = sym a
alike_turn (New s) (New t) a = sym a
alike_turn (Method s) (Method t) a = sym a
alike_turn (Field s h) (Field t k) a = sym a
alike_turn (Name s) h a = absurd a
alike_turn This h a = absurd a
alike_turn (Lambda s) h a = absurd a
alike_turn (Call s) (Name t) a = absurd a
alike_turn (Call s) This a = absurd a
alike_turn (Call s) (New t) a = absurd a
alike_turn (Call s) (Method t) a = absurd a
alike_turn (Call s) (Field t k) a = absurd a
alike_turn (Call s) (Lambda t) a = absurd a
alike_turn (New s) (Name t) a = absurd a
alike_turn (New s) This a = absurd a
alike_turn (New s) (Call t) a = absurd a
alike_turn (New s) (Method t) a = absurd a
alike_turn (New s) (Field t k) a = absurd a
alike_turn (New s) (Lambda t) a = absurd a
alike_turn (Method s) (Name t) a = absurd a
alike_turn (Method s) This a = absurd a
alike_turn (Method s) (Call t) a = absurd a
alike_turn (Method s) (New t) a = absurd a
alike_turn (Method s) (Field t k) a = absurd a
alike_turn (Method s) (Lambda t) a = absurd a
alike_turn (Field s h) (Name t) a = absurd a
alike_turn (Field s h) This a = absurd a
alike_turn (Field s h) (Call t) a = absurd a
alike_turn (Field s h) (New t) a = absurd a
alike_turn (Field s h) (Method t) a = absurd a
alike_turn (Field s h) (Lambda t) a = absurd a

-- the one type of a receiver is below both owners
pub record Between (g : Parts) (bs cs : List Arg) : Type 0 where
  pub first : ℕ
  pub second : ℕ
  pub kind : ℕ
  pub first_is : IsOf bs first
  pub second_is : IsOf cs second
  pub low : kind < length g.types
  pub below_first : is_below g kind first ≡ true
  pub below_second : is_below g kind second ≡ true

pub below_known : (g : Parts) → IsValid g → (t a : ℕ) → a < length g.types → is_below g t a ≡ true → t < length g.types
unfolding is_below
below_known g valid t a l h = elim (or_cases (t == a) (is_pair g.pairs t a) h) [
  | inl e ↦ subst (λ x. x < length g.types) (sym (eqb-true t a e)) l
  | inr p ↦ (valid-pair g valid t a p).0
]

pub between_by : (g : Parts) → IsValid g → (t : Option ℕ) (a b : ℕ) (us ds : List Arg) → a < length g.types → some_below g t a ≡ true → some_below g t b ≡ true → Between g (Plain a ∷ us) (Plain b ∷ ds)
between_by g valid None a b us ds l h k = absurd (false≢true h)
between_by g valid (Some t) a b us ds l h k = record { first = a; second = b; kind = t; first_is = refl; second_is = refl; low = below_known g valid t a l h; below_first = h; below_second = k }

pub receiver_wanted : (f : Form) (ws : List Arg) → HasReceiver f → is_well_formed f ws ≡ true → (b : ℕ) × (more : List Arg) × (ws ≡ Plain b ∷ more)
receiver_wanted (Method s) [] h w = absurd (false≢true w)
receiver_wanted (Method s) (Plain b ∷ more) h w = (b, more, refl)
receiver_wanted (Method s) (Fun ps r ∷ more) h w = absurd (false≢true w)
receiver_wanted (Field s k) [] h w = absurd (false≢true w)
receiver_wanted (Field s k) (Plain b ∷ more) h w = (b, more, refl)
receiver_wanted (Field s k) (Fun ps r ∷ more) h w = absurd (false≢true w)
receiver_wanted (Name s) ws h w = absurd h
receiver_wanted This ws h w = absurd h
receiver_wanted (Call s) ws h w = absurd h
receiver_wanted (New s) ws h w = absurd h
receiver_wanted (Lambda s) ws h w = absurd h

pub alike_receiver : (f h : Form) → AreAlike f h → HasReceiver f → HasReceiver h
alike_receiver (Method s) (Method t) a r = tt
alike_receiver (Field s h) (Field t k) a r = tt
alike_receiver (Method s) (Name t) a r = absurd a
alike_receiver (Method s) This a r = absurd a
alike_receiver (Method s) (Call t) a r = absurd a
alike_receiver (Method s) (New t) a r = absurd a
alike_receiver (Method s) (Field t k) a r = absurd a
alike_receiver (Method s) (Lambda t) a r = absurd a
alike_receiver (Field s h) (Name t) a r = absurd a
alike_receiver (Field s h) This a r = absurd a
alike_receiver (Field s h) (Call t) a r = absurd a
alike_receiver (Field s h) (New t) a r = absurd a
alike_receiver (Field s h) (Method t) a r = absurd a
alike_receiver (Field s h) (Lambda t) a r = absurd a
alike_receiver (Name s) h a r = absurd r
alike_receiver This h a r = absurd r
alike_receiver (Call s) h a r = absurd r
alike_receiver (New s) h a r = absurd r
alike_receiver (Lambda s) h a r = absurd r

pub between_plain : (g : Parts) → IsValid g → (ctx : List (List ℕ)) (xs : Args) (a b : ℕ) (us ds : List Arg) → a < length g.types → fits g ctx xs (Plain a ∷ us) ≡ true → fits g ctx xs (Plain b ∷ ds) ≡ true → Between g (Plain a ∷ us) (Plain b ∷ ds)
between_plain g valid ctx no_args a b us ds l k m = absurd (no_fit-none_some g ctx (Plain a) us k)
between_plain g valid ctx (lam x xs) a b us ds l k m = absurd (no_fit-lam_plain g ctx x xs a us k)
between_plain g valid ctx (plain x xs) a b us ds l k m = between_by g valid (type_in g ctx x) a b us ds l (plain_fits g ctx x xs a us k).0 (plain_fits g ctx x xs b ds m).0

pub first_known : (n a : ℕ) (us : List Arg) → list_all (is_arg_known n) (Plain a ∷ us) ≡ true → a < n
first_known n a us h = ltb-true a n (and_parts (nat_lt a n) (list_all (is_arg_known n) us) h).0

pub between : (g : Parts) → IsValid g → (ctx : List (List ℕ)) (i j : ℕ) (c d : Decl) (k l : Bool) (f h : Form) (bs cs : List Arg) (xs : Args) → Heads g ctx i c k f bs xs → Heads g ctx j d l h cs xs → AreAlike f h → HasReceiver f → Between g bs cs
between g valid ctx i j c d k l f h bs cs xs a b alike r =
    let p = receiver_wanted f bs r a.well_formed in
    let q = receiver_wanted h cs (alike_receiver f h alike r) b.well_formed in
    let known = subst (λ z. list_all (is_arg_known (length g.types)) z ≡ true) (a.args ∙ p.2) (valid-decl g valid i c a.declared).args in
    let fp = subst (λ z. fits g ctx xs z ≡ true) p.2 a.fit in
    let fq = subst (λ z. fits g ctx xs z ≡ true) q.2 b.fit in
    let both = between_plain g valid ctx xs p.0 q.0 p.1 q.1 (first_known (length g.types) p.0 p.1 known) fp fq in
    subst (λ z. Between g bs z) (sym q.2) (subst (λ z. Between g z (Plain q.0 ∷ q.1)) (sym p.2) both)

-- two declarations that look alike, over the same arguments with the same shapes, are one
pub by_told : (g : Parts) → IsValid g → IsReadable g → IsToldApart g → (ctx : List (List ℕ)) (i j : ℕ) (c d : Decl) (k l : Bool) (f h : Form) (bs cs : List Arg) (xs : Args) → Heads g ctx i c k f bs xs → Heads g ctx j d l h cs xs → AreAlike f h → shapes_in g ctx k xs bs ≡ shapes_in g ctx l xs cs → AreTold g c d → ⊥
by_told g valid read told ctx i j c d k l f h bs cs xs a b alike same (inl crowded) =
    let sk = subst (λ z. shapes_in g ctx z xs bs ≡ shapes_in g ctx l xs cs) (sym a.crowded ∙ crowded.0) same in
    let sl = subst (λ z. shapes_in g ctx true xs bs ≡ shapes_in g ctx z xs cs) (sym b.crowded ∙ crowded.1) sk in
    let eq = wants_told g ctx xs bs cs (alike_plain f h bs alike a.well_formed) (alike_plain h f cs (alike_turn f h alike) b.well_formed) a.fit b.fit sl
    (λ p q u v z. let wa = subst (λ y. Wants y p) (sym a.args) u in let wb = subst (λ y. Wants y q) (sym b.args) v in
    told.types i j c d p q a.declared b.declared crowded.0 crowded.1 wa wb (same_bytes (type_text g p) (type_text g q) (read.types i c p a.declared crowded.0 wa).utf8 (read.types j d q b.declared crowded.1 wb).utf8 z)) in
    crowded.2 (a.args ∙ eq ∙ sym b.args)
by_told g valid read told ctx i j c d k l f h bs cs xs a b alike same (inr apart) =
    let r = subst HasReceiver a.form apart.0 in
    let w = between g valid ctx i j c d k l f h bs cs xs a b alike r in
    apart.1 w.first w.second w.kind (subst (λ y. IsOf y w.first) (sym a.args) w.first_is) (subst (λ y. IsOf y w.second) (sym b.args) w.second_is) w.low w.below_first w.below_second

pub decl_told : (g : Parts) → IsValid g → IsReadable g → IsToldApart g → (ctx : List (List ℕ)) (i j : ℕ) (c d : Decl) (k l : Bool) (f h : Form) (bs cs : List Arg) (xs : Args) → Heads g ctx i c k f bs xs → Heads g ctx j d l h cs xs → AreAlike f h → shapes_in g ctx k xs bs ≡ shapes_in g ctx l xs cs → i ≡ j
decl_told g valid read told ctx i j c d k l f h bs cs xs a b alike same = elim (decide i j) [
  | inl e ↦ e
  | inr n ↦
      let forms = subst (λ z. AreAlike c.form z) (sym b.form) (subst (λ z. AreAlike z h) (sym a.form) alike) in
      let long = ap length a.args ∙ same_long g ctx xs bs cs a.fit b.fit ∙ ap length (sym b.args) in
      absurd (by_told g valid read told ctx i j c d k l f h bs cs xs a b alike same (told.overloads i j c d a.declared b.declared n forms long))
]

-- two heads that look alike
pub heads_told : (g : Parts) → IsValid g → IsReadable g → IsToldApart g → (ctx : List (List ℕ)) (i j : ℕ) (c d : Decl) (k l : Bool) (f h : Form) (bs cs : List Arg) (xs ys : Args) → Heads g ctx i c k f bs xs → Heads g ctx j d l h cs ys → AreAlike f h → shapes_in g ctx k xs bs ≡ shapes_in g ctx l ys cs → xs ≡ ys → head i xs ≡ head j ys
heads_told g valid read told ctx i j c d k l f h bs cs xs ys a b alike same args =
    same_heads i j xs ys (decl_told g valid read told ctx i j c d k l f h bs cs xs a (subst (Heads g ctx j d l h cs) (sym args) b) alike (subst (λ z. shapes_in g ctx k xs bs ≡ shapes_in g ctx l z cs) (sym args) same)) args
