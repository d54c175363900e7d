-- How the code's parts follow the definitions.
use Rattle.std.proofs.Common.{◌≡◌, ◌≢◌, ℕ, zero, suc, ◌+◌, ◌-◌, ◌*◌, ◌/◌, ◌%◌, ◌<◌, ◌≤◌, ◌==◌, ◌&&◌, nat_le, drop, get_or, Bool, true, false, nat_lt, List, [], ◌∷◌, ◌++◌, length, slice_get, map, Option, Some, None, refl, sym, ap, subst, ◌∙◌, arith}
use Rattle.std.specs.Prelude.{if◌then◌else◌, reverse}
use Rattle.std.proofs.lemmas.Bool.{lt-ltb, lt-leb, eqb-true, eq-eqb, ne_eqb, false≢true}
use Rattle.terms.specs.Typing.{most_rows, rows, joined}
use Rattle.terms.specs.Weights.{binders_weight}
use Rattle.terms.specs.Reading.{symbol}
use Rattle.terms.specs.declared.parts.Parts.{Parts}
use Rattle.terms.specs.declared.parts.Arg.{Arg}
use Rattle.terms.specs.declared.parts.Arg.TheVariants.{Plain, Fun}
use Rattle.terms.specs.declared.context.Ctx.{Ctx}
use Rattle.terms.proofs.Typings.{length-rows}
use Rattle.terms.proofs.Halves.{symbol-even, symbol-odd}
use Rattle.std.proofs.lemmas.List.{reverse-append}
use Rattle.checker.specs.OpenParts.{frame_of, frames_of, frames_if, walk_if}
use Rattle.std.specs.Option.{option_to_list}
use Rattle.checker.specs.declared.row.Row.{Row}
use Rattle.terms.specs.Weights.{step_in}
use Rattle.terms.specs.Typing.{is_below}
use Rattle.terms.specs.Reading.{and_then}
use Rattle.std.proofs.lemmas.List.{drop_more, drop_all, append-nil, length-append, length-map, length-reverse, nil_from_length}
use Rattle.std.proofs.lemmas.Bool.{and_from, le-leb}
use Rattle.checker.specs.declared.open_part.OpenPart.{OpenPart}
use Rattle.checker.specs.Frames.{Frame, Spot, Head, spot_of, head_of, head_by, variable_head, declared_head, closed_by, closed, may_stand, entered, begun, row_read, sum_if, read_rows, goal_frame}

pub spot-Plain : (g : Parts) (ctx : List (List ℕ)) (left b : ℕ) → spot_of g ctx left (Plain b) ≡ Some (record { ctx = ctx; left = left; wanted = b; binders = 0 })
unfolding spot_of
spot-Plain g ctx left b = refl

pub spot-none : (g : Parts) (ctx : List (List ℕ)) (left : ℕ) (ps : List ℕ) (r : ℕ) → left ≡ 0 → spot_of g ctx left (Fun ps r) ≡ None
unfolding spot_of
spot-none g ctx left ps r e = rw e refl

pub spot-full : (g : Parts) (c : Ctx) (left : ℕ) (ps : List ℕ) (r : ℕ) → c.used ≡ 3 → spot_of g (rows c) left (Fun ps r) ≡ None
unfolding spot_of
spot-full g c zero ps r e = refl
spot-full g c (suc left) ps r e =
    let long : length (rows c) ≡ c.used = length-rows c (omega (arith, e)) in
    let not : nat_lt (length (rows c)) most_rows ≡ false = lt-leb (suc (length (rows c))) 3 (omega (arith, long, e)) in
    rw not refl

pub spot-Fun : (g : Parts) (c : Ctx) (left : ℕ) (ps : List ℕ) (r : ℕ) → 0 < left → c.used < 3 → spot_of g (rows c) left (Fun ps r) ≡ Some (record { ctx = rows c ++ ps ∷ []; left = left - 1; wanted = r; binders = binders_weight g (length ps) })
unfolding spot_of
spot-Fun g c zero ps r some few = absurd (omega (arith, some))
spot-Fun g c (suc left) ps r some few =
    let long : length (rows c) ≡ c.used = length-rows c (omega (arith, few)) in
    let is : nat_lt (length (rows c)) most_rows ≡ true = lt-ltb (length (rows c)) 3 (omega (arith, long, few)) in
    let e : suc left - 1 ≡ left = omega arith in
    rw (is, e) refl

pub ruleset spots = (spot-Plain, spot-none, spot-full, spot-Fun)

even : (n : ℕ) → n % 2 ≡ 0 → n ≡ 2 * (n / 2)
even n e = omega (arith, e)

odd : (n : ℕ) → n % 2 ≡ 1 → n ≡ 2 * (n / 2) + 1
odd n e = omega (arith, e)

pub head-even : (g : Parts) (ctx : List (List ℕ)) (n : ℕ) → n % 2 ≡ 0 → head_of g ctx n ≡ variable_head g (slice_get (joined ctx) (n / 2))
unfolding head_of
head-even g ctx n e = ap (λ m. head_by g ctx (symbol m)) (even n e) ∙ ap (head_by g ctx) (symbol-even (n / 2))

pub head-odd : (g : Parts) (ctx : List (List ℕ)) (n : ℕ) → n % 2 ≡ 1 → head_of g ctx n ≡ declared_head (slice_get g.decls (n / 2))
unfolding head_of
head-odd g ctx n e = ap (λ m. head_by g ctx (symbol m)) (odd n e) ∙ ap (head_by g ctx) (symbol-odd (n / 2))

pub ruleset heads = (head-even, head-odd)

-- the part that was begun last
pub frames_of-push : (ps : List OpenPart) (p : OpenPart) → frames_of (ps ++ p ∷ []) ≡ frame_of p ∷ frames_of ps
frames_of-push ps p = ap (map frame_of) (reverse-append ps (p ∷ []))

split_last : (xs : List OpenPart) (p : OpenPart) → Some p ≡ slice_get xs (length xs - 1) → (ys : List OpenPart) × (xs ≡ ys ++ p ∷ [])
split_last [] p e = absurd cc
split_last (x ∷ []) p e = let same : x ≡ p = cc in ([], ap (λ y. y ∷ []) same)
split_last (x ∷ y ∷ ys) p e =
    let back : suc (suc (length ys)) - 1 ≡ suc (length ys) = omega arith in
    let one : suc (length ys) - 1 ≡ length ys = omega arith in
    let r = split_last (y ∷ ys) p (e ∙ ap (slice_get (x ∷ y ∷ ys)) back ∙ ap (slice_get (y ∷ ys)) (sym one)) in
    (x ∷ r.0, ap (λ t. x ∷ t) r.1)

pub no_last : (xs : List OpenPart) → None ≡ slice_get xs (length xs - 1) → xs ≡ []
no_last [] e = refl
no_last (x ∷ []) e = absurd cc
no_last (x ∷ y ∷ ys) e =
    let back : suc (suc (length ys)) - 1 ≡ suc (length ys) = omega arith in
    let one : suc (length ys) - 1 ≡ length ys = omega arith in
    let r : y ∷ ys ≡ [] = no_last (y ∷ ys) (e ∙ ap (slice_get (x ∷ y ∷ ys)) back ∙ ap (slice_get (y ∷ ys)) (sym one)) in
    absurd cc

last_at : (ys : List OpenPart) (q : OpenPart) → slice_get (ys ++ q ∷ []) (length ys) ≡ Some q
last_at [] q = refl
last_at (y ∷ ys) q = last_at ys q

empty : (xs : List Arg) → (length xs == 0) ≡ true → xs ≡ []
empty [] e = refl
empty (x ∷ xs) e = absurd (let z : length (x ∷ xs) ≡ 0 = eqb-true (length (x ∷ xs)) 0 e in omega (arith, z))

pub closed-none : (w : ℕ) (ps : List OpenPart) → None ≡ slice_get ps (length ps - 1) → closed w (frames_of ps) ≡ Some (frames_of ps)
unfolding closed
closed-none w ps e = let none = no_last ps e in rw none refl

pub closed-open : (w : ℕ) (ps : List OpenPart) (p : OpenPart) → Some p ≡ slice_get ps (length ps - 1) → (length p.wanted.now == 0) ≡ false → closed w (frames_of ps) ≡ Some (frames_of ps)
unfolding closed
closed-open w ps p e some =
    let s = split_last ps p e in
    let is = ap frames_of s.1 ∙ frames_of-push s.0 p in rw is (go s.0 p.wanted.now some)
  where
    go : (qs : List OpenPart) (xs : List Arg) → (length xs == 0) ≡ false → closed_by xs w p.end (closed w (frames_of qs)) (frame_of p ∷ frames_of qs) ≡ Some (frame_of p ∷ frames_of qs)
    go qs [] h = absurd (let z : (0 == 0) ≡ true = eq-eqb 0 0 refl in false≢true (sym h ∙ z))
    go qs (x ∷ xs) h = refl

wrong : (w : ℕ) (qs : List OpenPart) (p : OpenPart) → (length p.wanted.now == 0) ≡ true → (p.end ≡ w → ⊥) → closed w (frames_of (qs ++ p ∷ [])) ≡ None
unfolding closed
wrong w qs p over apart =
    let is = frames_of-push qs p in
    let none = empty p.wanted.now over in
    let no_end : (w == p.end) ≡ false = ne_eqb w p.end (λ t. apart (sym t)) in
    rw (is, none, no_end) refl

pub closed-bad : (w : ℕ) (ps : List OpenPart) (p : OpenPart) → Some p ≡ slice_get ps (length ps - 1) → (length p.wanted.now == 0) ≡ true → (p.end ≡ w → ⊥) → closed w (frames_of ps) ≡ None
closed-bad w ps p e over apart = let s = split_last ps p e in ap (λ xs. closed w (frames_of xs)) s.1 ∙ wrong w s.0 p over apart

ended : (w : ℕ) (qs : List OpenPart) (p : OpenPart) → (length p.wanted.now == 0) ≡ true → p.end ≡ w → closed w (frames_of (qs ++ p ∷ [])) ≡ closed w (frames_of qs)
unfolding closed
ended w qs p over same =
    let is = frames_of-push qs p in
    let none = empty p.wanted.now over in
    let at : (w == p.end) ≡ true = eq-eqb w p.end (sym same) in
    rw (is, none, at) refl

pub closed-on : (w : ℕ) (ps qs : List OpenPart) (o : Option OpenPart) (p : OpenPart) → ps ≡ qs ++ option_to_list o → Some p ≡ slice_get ps (length ps - 1) → (length p.wanted.now == 0) ≡ true → p.end ≡ w → closed w (frames_of ps) ≡ closed w (frames_of qs)
closed-on w ps qs None p e last over same = ap (λ xs. closed w (frames_of xs)) (e ∙ append-nil qs)
closed-on w ps qs (Some q) p e last over same =
    let long : length (qs ++ q ∷ []) - 1 ≡ length qs = omega (arith, length-append qs (q ∷ [])) in
    let there : Some p ≡ Some q = last ∙ ap (λ xs. slice_get xs (length xs - 1)) e ∙ ap (slice_get (qs ++ q ∷ [])) long ∙ last_at qs q in
    let is : p ≡ q = cc in
    ap (λ xs. closed w (frames_of xs)) e ∙ ended w qs q (subst (λ x. (length x.wanted.now == 0) ≡ true) is over) (subst (λ x. x.end ≡ w) is same)

-- a row where nothing is wanted, and where an argument is
pub read-none : (g : Parts) (w : ℕ) (ps : List OpenPart) (r : Row) → ps ≡ [] → row_read g w (frames_of ps) r ≡ None
unfolding row_read
read-none g w ps r e = rw e refl

pub read-over : (g : Parts) (w : ℕ) (ps qs : List OpenPart) (p : OpenPart) (r : Row) → ps ≡ qs ++ p ∷ [] → p.wanted.now ≡ [] → row_read g w (frames_of ps) r ≡ None
unfolding row_read
read-over g w ps qs p r e none = let is = ap frames_of e ∙ frames_of-push qs p in rw (is, none) refl

pub read-no_spot : (g : Parts) (w : ℕ) (ps qs : List OpenPart) (p : OpenPart) (r : Row) (a : Arg) (more : List Arg) → ps ≡ qs ++ p ∷ [] → p.wanted.now ≡ a ∷ more → spot_of g (rows p.ctx) p.left a ≡ None → row_read g w (frames_of ps) r ≡ None
unfolding row_read
read-no_spot g w ps qs p r a more e is none = let at = ap frames_of e ∙ frames_of-push qs p in rw (at, is, none) refl

pub read-begun : (g : Parts) (w : ℕ) (ps qs : List OpenPart) (p : OpenPart) (r : Row) (a : Arg) (more : List Arg) (s : Spot) (fs : List Frame) → ps ≡ qs ++ p ∷ [] → p.wanted.now ≡ a ∷ more → spot_of g (rows p.ctx) p.left a ≡ Some s
    → fs ≡ record { ctx = rows p.ctx; left = p.left; wanted = more; end = p.end } ∷ frames_of qs → row_read g w (frames_of ps) r ≡ begun g w s r fs
unfolding row_read
read-begun g w ps qs p r a more s fs e is spot new = let at = ap frames_of e ∙ frames_of-push qs p in rw (at, is, spot, new) refl

pub ruleset reading = (read-none, read-over, read-no_spot, read-begun, frames_of-push)

-- a head that can't stand
pub begun-none : (g : Parts) (w : ℕ) (s : Spot) (r : Row) (fs : List Frame) → head_of g s.ctx r.code ≡ None → begun g w s r fs ≡ None
unfolding begun
begun-none g w s r fs e = rw e refl

stops : (g : Parts) (w : ℕ) (s : Spot) (r : Row) (fs : List Frame) (h : Head) → head_of g s.ctx r.code ≡ Some h → may_stand g w s h r ≡ false → begun g w s r fs ≡ None
unfolding begun
stops g w s r fs h is bad = rw (is, bad) refl

pub begun-typed : (g : Parts) (w : ℕ) (s : Spot) (r : Row) (fs : List Frame) (h : Head) → head_of g s.ctx r.code ≡ Some h → h.result ≢ r.result → begun g w s r fs ≡ None
unfolding may_stand
begun-typed g w s r fs h is apart = stops g w s r fs h is (let e : (h.result == r.result) ≡ false = ne_eqb h.result r.result apart in rw e refl)

and_no : (a : Bool) → a && false ≡ false
and_no true = refl
and_no false = refl

and_left : (a b : Bool) → a ≡ false → a && b ≡ false
and_left a b e = rw e refl

pub begun-wanted : (g : Parts) (w : ℕ) (s : Spot) (r : Row) (fs : List Frame) (h : Head) → head_of g s.ctx r.code ≡ Some h → is_below g h.result s.wanted ≡ false → begun g w s r fs ≡ None
unfolding may_stand
begun-wanted g w s r fs h is apart =
    stops g w s r fs h is (and_left (h.result == r.result && is_below g h.result s.wanted) (nat_le (w + s.binders + step_in g (Some h.result) s.wanted + h.weight) g.limit) (ap (λ b. (h.result == r.result) && b) apart ∙ and_no (h.result == r.result)))

pub begun-heavy : (g : Parts) (w : ℕ) (s : Spot) (r : Row) (fs : List Frame) (h : Head) → head_of g s.ctx r.code ≡ Some h → g.limit < w + s.binders + step_in g (Some h.result) s.wanted + h.weight → begun g w s r fs ≡ None
unfolding may_stand
begun-heavy g w s r fs h is heavy =
    stops g w s r fs h is (ap (λ b. (h.result == r.result && is_below g h.result s.wanted) && b) (lt-leb (w + s.binders + step_in g (Some h.result) s.wanted + h.weight) g.limit heavy) ∙ and_no (h.result == r.result && is_below g h.result s.wanted))

pub begun-entered : (g : Parts) (w : ℕ) (s : Spot) (r : Row) (fs : List Frame) (h : Head) → head_of g s.ctx r.code ≡ Some h → h.result ≡ r.result → is_below g h.result s.wanted ≡ true
    → w + s.binders + step_in g (Some h.result) s.wanted + h.weight ≤ g.limit → begun g w s r fs ≡ entered g w s h r fs
unfolding begun may_stand
begun-entered g w s r fs h is same below low =
    let may : may_stand g w s h r ≡ true = and_from (h.result == r.result && is_below g h.result s.wanted) (nat_le (w + s.binders + step_in g (Some h.result) s.wanted + h.weight) g.limit) (and_from (h.result == r.result) (is_below g h.result s.wanted) (eq-eqb h.result r.result same) below) (le-leb (w + s.binders + step_in g (Some h.result) s.wanted + h.weight) g.limit low) in
    rw (is, may) refl

pub entered-closed : (g : Parts) (w : ℕ) (s : Spot) (r : Row) (ps qs : List OpenPart) (h : Head) (p : OpenPart) (own : ℕ) (b : Bool) (after : List OpenPart) → own ≡ w + s.binders + step_in g (Some h.result) s.wanted + h.weight
    → qs ≡ ps ++ p ∷ [] → frame_of p ≡ record { ctx = s.ctx; left = s.left; wanted = h.args; end = w + s.binders + step_in g (Some h.result) s.wanted + r.weight } → frames_if b after ≡ closed own (frames_of qs)
    → walk_if (if b then Some own else None) after ≡ entered g w s h r (frames_of ps)
unfolding entered
entered-closed g w s r ps qs h p own b after sum pushed new done = go b done ∙ ap (λ xs. and_then xs (λ gs. Some (record { sum = own; frames = gs }))) (ap (closed own) (ap frames_of pushed ∙ frames_of-push ps p ∙ ap (λ f. f ∷ frames_of ps) new)) ∙ ap (λ v. and_then (closed v (record { ctx = s.ctx; left = s.left; wanted = h.args; end = w + s.binders + step_in g (Some h.result) s.wanted + r.weight } ∷ frames_of ps)) (λ gs. Some (record { sum = v; frames = gs }))) sum
  where
    go : (c : Bool) → frames_if c after ≡ closed own (frames_of qs) → walk_if (if c then Some own else None) after ≡ and_then (closed own (frames_of qs)) (λ gs. Some (record { sum = own; frames = gs }))
    go true e = ap (λ o. and_then o (λ gs. Some (record { sum = own; frames = gs }))) e
    go false e = ap (λ o. and_then o (λ gs. Some (record { sum = own; frames = gs }))) e

pub ruleset beginning = (begun-none, begun-typed, begun-wanted, begun-heavy, begun-entered)

-- the rows one by one
pub rows-end : (g : Parts) (w : ℕ) (fs : List Frame) (rs : List Row) (i : ℕ) → length rs ≤ i → read_rows g w fs (drop i rs) ≡ sum_if w fs
unfolding read_rows
rows-end g w fs rs i l = rw (drop_all i rs l) refl

pub rows-off : (g : Parts) (w : ℕ) (fs : List Frame) (rs : List Row) (i : ℕ) (d : Row) → i < length rs → row_read g w fs (get_or rs i d) ≡ None → read_rows g w fs (drop i rs) ≡ None
unfolding read_rows
rows-off g w fs rs i d l none = rw (drop_more rs i d l) (ap (λ o. and_then o (λ s. read_rows g s.sum s.frames (drop (i + 1) rs))) none)

pub rows-on : (g : Parts) (w v : ℕ) (fs gs : List Frame) (rs : List Row) (i : ℕ) (d : Row) → i < length rs → row_read g w fs (get_or rs i d) ≡ Some (record { sum = v; frames = gs }) → read_rows g w fs (drop i rs) ≡ read_rows g v gs (drop (i + 1) rs)
unfolding read_rows
rows-on g w v fs gs rs i d l some = rw (drop_more rs i d l) (ap (λ o. and_then o (λ s. read_rows g s.sum s.frames (drop (i + 1) rs))) some)

sum_some : (w : ℕ) (fs : List Frame) → (length fs ≡ 0 → ⊥) → sum_if w fs ≡ None
sum_some w [] l = absurd (l refl)
sum_some w (f ∷ fs) l = refl

pub sum-none : (w : ℕ) (ps : List OpenPart) → (length ps == 0) ≡ true → sum_if w (frames_of ps) ≡ Some w
sum-none w ps e = ap (λ xs. sum_if w (frames_of xs)) (nil_from_length ps (eqb-true (length ps) 0 e))

pub sum-some : (w : ℕ) (ps : List OpenPart) → (length ps == 0) ≡ false → sum_if w (frames_of ps) ≡ None
sum-some w ps e = sum_some w (frames_of ps) (λ z. false≢true (sym e ∙ eq-eqb (length ps) 0 (sym (length-reverse ps) ∙ sym (length-map (reverse ps) frame_of) ∙ z)))

-- the parts before the first row
pub goal_frames : (g : Parts) (ps qs : List OpenPart) (p : OpenPart) (total : ℕ) → qs ≡ ps ++ p ∷ [] → ps ≡ [] → rows p.ctx ≡ [] → p.left ≡ g.depth → p.wanted.now ≡ Plain g.goal ∷ [] → p.end ≡ total → frames_of qs ≡ goal_frame g total ∷ []
goal_frames g ps qs p total pushed none ctx left wanted end =
    ap frames_of (pushed ∙ ap (λ xs. xs ++ p ∷ []) none)
    ∙ ap (λ (x : List (List ℕ)). record { ctx = x; left = p.left; wanted = p.wanted.now; end = p.end } ∷ []) ctx
    ∙ ap (λ (x : ℕ). record { ctx = []; left = x; wanted = p.wanted.now; end = p.end } ∷ []) left
    ∙ ap (λ (x : List Arg). record { ctx = []; left = g.depth; wanted = x; end = p.end } ∷ []) wanted
    ∙ ap (λ (x : ℕ). record { ctx = []; left = g.depth; wanted = Plain g.goal ∷ []; end = x } ∷ []) end
