-- The starts of lines: those that are found, counted or known, and what an edit makes of them.
use Rattle.std.proofs.Common.{◌≡◌, ◌∙◌, sym, ap, subst, ℕ, zero, suc, ◌+◌, ◌-◌, ◌^◌, ◌≤◌, ◌<◌, List, [], ◌∷◌, ◌++◌, length, drop, take, get_or, map, refl, arith, None, IsUtf8, All, append_assoc, append-nil}
use Rattle.std.proofs.lemmas.List.{take-append-drop, length-take-le, length-append, length-drop, drop-drop, drop_all, take_all, get_or-take, get_or-drop, ext_get_or, length-map, get_or-map}
use Rattle.std.proofs.lemmas.List.Elements.{All-nil, All-cons, All-append, All-from_get_or, All-get_or, All-weaker, All-same, All-push}
use Rattle.std.proofs.Math.Seq.{take-append_seam, drop-append_seam}
use Rattle.std.specs.Str.{chars}
use Rattle.documents.specs.Places.{starts_with_lf, from_line, ends_in, line_starts, AreStarts, EndsAfter, EndsNever, IsEdited, IsRising}
use Rattle.documents.proofs.LineStarts.{line-le}
use Rattle.documents.proofs.Ends.{ends-append, ends-above, ends-below, ends-context, ends-moved, split_same}
use Rattle.documents.proofs.Begins.{LineAt, line-none, line-some, rising-starts}

-- What a search for line ends has found on its way.
pub record FoundEnds (text old new : List ℕ) (from at to : ℕ) : Type 0 where
  pub found : List ℕ
  pub new_is : new ≡ old ++ found
  pub all : ends_in from (drop from text) [] ≡ found ++ ends_in at (drop at text) []
  pub few : All (λ a. a ≤ to) found

pub found-start : (text old : List ℕ) (from to : ℕ) → FoundEnds text old old from from to
found-start text old from to = record { found = []; new_is = sym (append-nil old); all = refl; few = All-nil (λ a. a ≤ to) }

further : (text : List ℕ) (at n : ℕ) → EndsAfter (drop at text) n → ends_in at (drop at text) [] ≡ (at + n) ∷ ends_in (at + n) (drop (at + n) text) []
further text at n h = h.is at ∙ ap (λ x. (at + n) ∷ ends_in (at + n) x []) (drop-drop n at text)

pub found-more : (text old new more : List ℕ) (from at to n : ℕ) → FoundEnds text old new from at to → EndsAfter (drop at text) n → at + n ≤ to → more ≡ new ++ (at + n) ∷ [] → FoundEnds text old more from (at + n) to
found-more text old new more from at to n h e le m = record {
  found = h.found ++ (at + n) ∷ [];
  new_is = m ∙ ap (λ x. x ++ (at + n) ∷ []) h.new_is ∙ append_assoc old h.found ((at + n) ∷ []);
  all = h.all ∙ ap (λ x. h.found ++ x) (further text at n e) ∙ sym (append_assoc h.found ((at + n) ∷ []) (ends_in (at + n) (drop (at + n) text) []));
  few = All-push (λ a. a ≤ to) h.found (at + n) h.few le;
}

slice_rest : (text : List ℕ) (at : ℕ) → take (length text - at) (drop at text) ≡ drop at text
slice_rest text at = take_all (length text - at) (drop at text) (omega (arith, length-drop at text))

pub slice-after : (text : List ℕ) (at n : ℕ) → EndsAfter (take (length text - at) (drop at text)) n → EndsAfter (drop at text) n
slice-after text at n h = subst (λ x. EndsAfter x n) (slice_rest text at) h

pub slice-never : (text : List ℕ) (at : ℕ) → EndsNever (take (length text - at) (drop at text)) → EndsNever (drop at text)
slice-never text at h = subst (λ x. EndsNever x) (slice_rest text at) h

-- No line end is left up to the place.
pub none-never : (text : List ℕ) (at to : ℕ) → EndsNever (drop at text) → All (λ a. to < a) (ends_in at (drop at text) [])
none-never text at to h = All-same (λ a. to < a) (ends_in at (drop at text) []) [] (h at) (All-nil (λ a. to < a))

pub none-past : (text : List ℕ) (at to n : ℕ) → EndsAfter (drop at text) n → to < at + n → All (λ a. to < a) (ends_in at (drop at text) [])
none-past text at to n h lt =
    All-same (λ a. to < a) (ends_in at (drop at text) []) ((at + n) ∷ ends_in (at + n) (drop (at + n) text) []) (further text at n h)
    (All-cons (λ a. to < a) (at + n) (ends_in (at + n) (drop (at + n) text) []) lt (All-weaker (λ a. at + n < a) (λ a. to < a) (λ a k. omega arith) (ends_in (at + n) (drop (at + n) text) []) (ends-above (at + n) (drop (at + n) text) [])))

-- Line ends up to a place, and those behind it.
ends-parts : (text : List ℕ) (from to : ℕ) → from ≤ to → to ≤ length text → ends_in from (drop from text) [] ≡ ends_in from (take (to - from) (drop from text)) (drop to text) ++ ends_in to (drop to text) []
ends-parts text from to l m =
    let x : List ℕ = take (to - from) (drop from text) in
    let rest : drop (to - from) (drop from text) ≡ drop to text = drop-drop (to - from) from text ∙ ap (λ n. drop n text) (omega (arith, l)) in
    let long : from + length x ≡ to = omega (arith, l, m, length-take-le (to - from) (drop from text) (omega (arith, l, m, length-drop from text))) in
    ap (λ y. ends_in from y []) (sym (take-append-drop (to - from) (drop from text)) ∙ ap (λ y. x ++ y) rest)
    ∙ ends-append from x (drop to text) [] ∙ ap (λ y. ends_in from x y ++ ends_in (from + length x) (drop to text) []) (append-nil (drop to text))
    ∙ ap (λ n. ends_in from x (drop to text) ++ ends_in n (drop to text) []) long

pub found-all : (text old new : List ℕ) (from at to : ℕ) → FoundEnds text old new from at to → All (λ a. to < a) (ends_in at (drop at text) []) → from ≤ to → to ≤ length text → new ≡ old ++ ends_in from (take (to - from) (drop from text)) (drop to text)
found-all text old new from at to h left l m =
    let x : List ℕ = take (to - from) (drop from text) in
    let long : from + length x ≡ to = omega (arith, l, m, length-take-le (to - from) (drop from text) (omega (arith, l, m, length-drop from text))) in
    let same = split_same to h.found (ends_in at (drop at text) []) (ends_in from x (drop to text)) (ends_in to (drop to text) []) (sym h.all ∙ ends-parts text from to l m) h.few left
    (All-weaker (λ a. a ≤ from + length x) (λ a. a ≤ to) (λ a k. omega (arith, k, long)) (ends_in from x (drop to text)) (ends-below from x (drop to text))) (ends-above to (drop to text) []) in
    h.new_is ∙ ap (λ y. old ++ y) same.0

-- All line ends of a text.
pub found-whole : (text new : List ℕ) → new ≡ (0 ∷ []) ++ ends_in 0 (take (length text - 0) (drop 0 text)) (drop (length text) text) → new ≡ line_starts text
found-whole text new e =
    let all : take (length text - 0) text ≡ text = take_all (length text - 0) text (omega arith) in
    e ∙ ap (λ x. 0 ∷ ends_in 0 x (drop (length text) text)) all ∙ ap (λ x. 0 ∷ ends_in 0 text x) (drop_all (length text) text (omega arith))

-- What a search by halving says of the parts of a list.
pub all-before : (xs : List ℕ) (r b : ℕ) → r ≤ length xs → ((k : ℕ) → k < r → get_or xs k 0 ≤ b) → All (λ a. a ≤ b) (take r xs)
all-before xs r b l h =
    let long : length (take r xs) ≡ r = length-take-le r xs l in
    All-from_get_or (λ a. a ≤ b) (take r xs) 0 (λ i lt. let less : i < r = omega (arith, lt, long) in subst (λ a. a ≤ b) (sym (get_or-take r xs i 0 less)) (h i less))

pub all-after : (xs : List ℕ) (r b : ℕ) → ((k : ℕ) → r ≤ k → k < length xs → b < get_or xs k 0) → All (λ a. b < a) (drop r xs)
all-after xs r b h =
    All-from_get_or (λ a. b < a) (drop r xs) 0 (λ i lt. subst (λ a. b < a) (sym (get_or-drop r xs i 0)) (h (r + i) (omega arith) (omega (arith, lt, length-drop r xs))))

pub rising-before : (xs : List ℕ) (m b k : ℕ) → IsRising xs → m < length xs → get_or xs m 0 ≤ b → k < m + 1 → get_or xs k 0 ≤ b
rising-before xs m b k h lt l n = omega (arith, l, h k m (omega (arith, n)) lt)

pub rising-after : (xs : List ℕ) (m b k : ℕ) → IsRising xs → b < get_or xs m 0 → m ≤ k → k < length xs → b < get_or xs k 0
rising-after xs m b k h l n lt = omega (arith, l, h m k n lt)

pub rising-known : (text starts : List ℕ) → starts ≡ line_starts text → IsRising starts
rising-known text starts e = subst (λ x. IsRising x) (sym e) (rising-starts text)

-- A line by the starts.
pub line-at : (text starts : List ℕ) (l : ℕ) → IsUtf8 text → starts ≡ line_starts text → l < length starts → LineAt text l (get_or starts l 0)
line-at text starts l u e lt = subst (λ x. LineAt text l x) (ap (λ x. get_or x l 0) (sym e)) (line-some text l u (omega (arith, lt, ap length e)))

pub no_line : (text starts : List ℕ) (l : ℕ) → IsUtf8 text → starts ≡ line_starts text → length starts ≤ l → from_line l (chars text) ≡ None
no_line text starts l u e le = line-none text l u (omega (arith, le, ap length e))

pub few_lines : (text : List ℕ) (l at : ℕ) → IsUtf8 text → LineAt text l at → l ≤ length text
few_lines text l at u h = line-le l text (chars (drop at text)) u h.is

-- The first line begins at or before every offset.
pub count-some : (text starts : List ℕ) (r offset : ℕ) → starts ≡ line_starts text → All (λ a. offset < a) (drop r starts) → 0 < r
count-some text starts zero offset e h = absurd (omega (arith, ap (λ x. get_or x 0 0) e, All-get_or (λ a. offset < a) starts 0 0 (omega (arith, ap length e)) h))
count-some text starts (suc r) offset e h = omega arith

pub at-before : (starts : List ℕ) (r offset : ℕ) → 0 < r → r ≤ length starts → All (λ a. a ≤ offset) (take r starts) → get_or starts (r - 1) 0 ≤ offset
at-before starts r offset some l h =
    subst (λ a. a ≤ offset) (get_or-take r starts (r - 1) 0 (omega (arith, some))) (All-get_or (λ a. a ≤ offset) (take r starts) (r - 1) 0 (omega (arith, some, length-take-le r starts l)) h)

-- The starts of a text in three parts.
starts-parts : (f b r : List ℕ) → line_starts (f ++ (b ++ r)) ≡ (0 ∷ ends_in 0 f (b ++ r)) ++ (ends_in (length f) b r ++ ends_in (length f + length b) r [])
starts-parts f b r =
    ap (λ x. 0 ∷ x) (ends-append 0 f (b ++ r) [] ∙ ap (λ x. ends_in 0 f x ++ ends_in (0 + length f) (b ++ r) []) (append-nil (b ++ r))
    ∙ ap (λ n. ends_in 0 f (b ++ r) ++ ends_in n (b ++ r) []) (omega arith)
    ∙ ap (λ x. ends_in 0 f (b ++ r) ++ x) (ends-append (length f) b r [] ∙ ap (λ x. ends_in (length f) b x ++ ends_in (length f + length b) r []) (append-nil r)))

-- What is cut off the starts before an edit: those up to its edge stay, and those behind it move.
pub record CutStarts (starts f b r : List ℕ) (low high : ℕ) : Type 0 where
  pub first : take low (take high starts) ≡ 0 ∷ ends_in 0 f (b ++ r)
  pub later : drop high starts ≡ ends_in (length f + length b) r []

first-below : (f b r : List ℕ) (edge : ℕ) → edge ≡ length f → All (λ a. a ≤ edge) (0 ∷ ends_in 0 f (b ++ r))
first-below f b r edge e = All-cons (λ a. a ≤ edge) 0 (ends_in 0 f (b ++ r)) (omega arith) (All-weaker (λ a. a ≤ 0 + length f) (λ a. a ≤ edge) (λ a k. omega (arith, k, e)) (ends_in 0 f (b ++ r)) (ends-below 0 f (b ++ r)))

pub cut-starts : (starts text : List ℕ) (edge to end low high : ℕ) (h : IsEdited starts text edge to end) → 0 < length starts → low ≤ length starts
    → All (λ a. a ≤ edge) (take low starts) → All (λ a. edge < a) (drop low starts) → All (λ a. a ≤ to) (take high starts) → All (λ a. to < a) (drop high starts) → CutStarts starts h.prefix h.before h.rest low high
cut-starts starts text edge to end low high h some le lb la hb ha =
    let f : List ℕ = h.prefix in
    let b : List ℕ = h.before in
    let r : List ℕ = h.rest in
    let x : List ℕ = 0 ∷ ends_in 0 f (b ++ r) in
    let y : List ℕ = ends_in (length f) b r in
    let z : List ℕ = ends_in (length f + length b) r [] in
    let all : starts ≡ x ++ (y ++ z) = h.were some ∙ starts-parts f b r in
    let y_above : All (λ a. edge < a) y = All-weaker (λ a. length f < a) (λ a. edge < a) (λ a k. omega (arith, k, h.edge_is)) y (ends-above (length f) b r) in
    let y_below : All (λ a. a ≤ to) y = All-weaker (λ a. a ≤ length f + length b) (λ a. a ≤ to) (λ a k. omega (arith, k, h.to_is)) y (ends-below (length f) b r) in
    let z_edge : All (λ a. edge < a) z = All-weaker (λ a. length f + length b < a) (λ a. edge < a) (λ a k. omega (arith, k, h.edge_is)) z (ends-above (length f + length b) r []) in
    let z_above : All (λ a. to < a) z = All-weaker (λ a. length f + length b < a) (λ a. to < a) (λ a k. omega (arith, k, h.to_is)) z (ends-above (length f + length b) r []) in
    let x_edge : All (λ a. a ≤ edge) x = first-below f b r edge h.edge_is in
    let x_below : All (λ a. a ≤ to) x = All-weaker (λ a. a ≤ edge) (λ a. a ≤ to) (λ a k. omega (arith, k, h.edge_is, h.to_is)) x x_edge in
    let at_low = split_same edge (take low starts) (drop low starts) x (y ++ z) (take-append-drop low starts ∙ all) lb la x_edge (All-append (λ a. edge < a) y z y_above z_edge) in
    let at_high = split_same to (take high starts) (drop high starts) (x ++ y) z (take-append-drop high starts ∙ all ∙ sym (append_assoc x y z)) hb ha (All-append (λ a. a ≤ to) x y x_below y_below) z_above in
    let count : low ≡ length x = sym (length-take-le low starts le) ∙ ap length at_low.0 in
    record { first = ap (take low) at_high.0 ∙ ap (λ n. take n (x ++ y)) count ∙ take-append_seam x y; later = at_high.1 }

-- The same of copies of the starts that are the arguments of the searches.
pub cut-counted : (starts s t text : List ℕ) (edge to end low high : ℕ) (h : IsEdited starts text edge to end) → s ≡ starts → t ≡ starts → 0 < length starts → low ≤ length s
    → All (λ a. a ≤ edge) (take low s) → All (λ a. edge < a) (drop low s) → All (λ a. a ≤ to) (take high t) → All (λ a. to < a) (drop high t) → CutStarts starts h.prefix h.before h.rest low high
cut-counted starts s t text edge to end low high h e f some le lb la hb ha =
    cut-starts starts text edge to end low high h some (omega (arith, le, ap length e)) (subst (λ x. All (λ a. a ≤ edge) (take low x)) e lb) (subst (λ x. All (λ a. edge < a) (drop low x)) e la)
    (subst (λ x. All (λ a. a ≤ to) (take high x)) f hb) (subst (λ x. All (λ a. to < a) (drop high x)) f ha)

pub rising-edited : (starts s text : List ℕ) (edge to end : ℕ) → IsEdited starts text edge to end → s ≡ starts → 0 < length starts → IsRising s
rising-edited starts s text edge to end h e some = rising-known (h.prefix ++ (h.before ++ h.rest)) s (e ∙ h.were some)

context : (f b a r : List ℕ) → (0 < length f → starts_with_lf (b ++ r) ≡ starts_with_lf (a ++ r)) → ends_in 0 f (b ++ r) ≡ ends_in 0 f (a ++ r)
unfolding ends_in
context [] b a r h = refl
context (x ∷ f) b a r h = ends-context 0 (x ∷ f) (b ++ r) (a ++ r) (h (omega arith))

-- The starts after an edit.
pub starts-edited : (starts text first found later new : List ℕ) (edge to end low high : ℕ) (h : IsEdited starts text edge to end) → CutStarts starts h.prefix h.before h.rest low high
    → first ≡ take low (take high starts) → found ≡ first ++ ends_in edge (take (end - edge) (drop edge text)) (drop end text) → later ≡ map (λ a. a - to + end) (drop high starts) → new ≡ found ++ later → new ≡ line_starts text
starts-edited starts text first found later new edge to end low high h c e g m n =
    let f : List ℕ = h.prefix in
    let b : List ℕ = h.before in
    let a : List ℕ = h.after in
    let r : List ℕ = h.rest in
    let from_edge : drop edge text ≡ a ++ r = ap (drop edge) h.is ∙ ap (λ k. drop k (f ++ (a ++ r))) h.edge_is ∙ drop-append_seam f (a ++ r) in
    let part : take (end - edge) (drop edge text) ≡ a = ap (take (end - edge)) from_edge ∙ ap (λ k. take k (a ++ r)) (omega (arith, h.end_is, h.edge_is)) ∙ take-append_seam a r in
    let left : drop end text ≡ r =
    ap (λ k. drop k text) (omega (arith, h.end_is, h.edge_is)) ∙ sym (drop-drop (length a) edge text) ∙ ap (drop (length a)) from_edge ∙ drop-append_seam a r in
    let x : first ≡ 0 ∷ ends_in 0 f (a ++ r) = e ∙ c.first ∙ ap (λ t. 0 ∷ t) (context f b a r h.seam) in
    let y : ends_in edge (take (end - edge) (drop edge text)) (drop end text) ≡ ends_in (length f) a r = ap (λ t. ends_in edge t (drop end text)) part ∙ ap (λ t. ends_in edge a t) left ∙ ap (λ k. ends_in k a r) h.edge_is in
    let z : later ≡ ends_in (length f + length a) r [] =
    m ∙ ap (map (λ q. q - to + end)) (c.later ∙ ap (λ k. ends_in k r []) (sym h.to_is ∙ omega arith)) ∙ ends-moved to end 0 r [] ∙ ap (λ k. ends_in k r []) (omega (arith, h.end_is)) in
    n ∙ ap (λ t. t ++ later) (g ∙ ap (λ t. t ++ ends_in edge (take (end - edge) (drop edge text)) (drop end text)) x ∙ ap (λ t. (0 ∷ ends_in 0 f (a ++ r)) ++ t) y)
    ∙ ap (λ t. ((0 ∷ ends_in 0 f (a ++ r)) ++ ends_in (length f) a r) ++ t) z
    ∙ append_assoc (0 ∷ ends_in 0 f (a ++ r)) (ends_in (length f) a r) (ends_in (length f + length a) r [])
    ∙ sym (starts-parts f a r) ∙ ap line_starts (sym h.is)

-- The bounds of what moves.
pub later-above : (starts text : List ℕ) (edge to end low high : ℕ) (h : IsEdited starts text edge to end) → CutStarts starts h.prefix h.before h.rest low high → All (λ a. to ≤ a) (drop high starts)
later-above starts text edge to end low high h c =
    All-same (λ a. to ≤ a) (drop high starts) (ends_in (length h.prefix + length h.before) h.rest []) c.later
    (All-weaker (λ a. length h.prefix + length h.before < a) (λ a. to ≤ a) (λ a k. omega (arith, k, h.to_is)) (ends_in (length h.prefix + length h.before) h.rest []) (ends-above (length h.prefix + length h.before) h.rest []))

text-long : (starts text : List ℕ) (edge to end : ℕ) (h : IsEdited starts text edge to end) → length text ≡ end + length h.rest
text-long starts text edge to end h = ap length h.is ∙ length-append h.prefix (h.after ++ h.rest) ∙ omega (arith, h.end_is, length-append h.after h.rest)

pub later-below : (starts text : List ℕ) (edge to end low high : ℕ) (h : IsEdited starts text edge to end) → CutStarts starts h.prefix h.before h.rest low high → length text ≤ 16777216 → All (λ a. a - to + end < 2 ^ 32) (drop high starts)
later-below starts text edge to end low high h c l =
    All-same (λ a. a - to + end < 2 ^ 32) (drop high starts) (ends_in (length h.prefix + length h.before) h.rest []) c.later
    (All-weaker (λ a. a ≤ length h.prefix + length h.before + length h.rest) (λ a. a - to + end < 2 ^ 32) (λ a k. omega (arith, k, h.to_is, l, text-long starts text edge to end h)) (ends_in (length h.prefix + length h.before) h.rest []) (ends-below (length h.prefix + length h.before) h.rest []))

pub edited-range : (starts text : List ℕ) (edge to end : ℕ) → IsEdited starts text edge to end → edge ≤ end
edited-range starts text edge to end h = omega (arith, h.edge_is, h.end_is)

pub edited-end : (starts text : List ℕ) (edge to end : ℕ) → IsEdited starts text edge to end → end ≤ length text
edited-end starts text edge to end h = omega (arith, text-long starts text edge to end h)

take-nil : (n : ℕ) → take {A = ℕ} n [] ≡ []
take-nil zero = refl
take-nil (suc n) = refl

take-parts : (xs : List ℕ) (a b : ℕ) → a ≤ b → take b xs ≡ take a xs ++ take (b - a) (drop a xs)
take-parts [] zero b l = ap (λ n. take n []) (omega arith)
take-parts [] (suc a) zero l = absurd (omega arith)
take-parts [] (suc a) (suc b) l = sym (take-nil (suc b - suc a))
take-parts (x ∷ xs) zero b l = ap (λ n. take n (x ∷ xs)) (omega arith)
take-parts (x ∷ xs) (suc a) zero l = absurd (omega arith)
take-parts (x ∷ xs) (suc a) (suc b) l = ap (λ t. x ∷ t) (take-parts xs a b (omega arith) ∙ ap (λ n. take a xs ++ take n (drop a xs)) (omega arith))

same_seam : (m c n r : List ℕ) → 0 < length m → starts_with_lf ((m ++ c) ++ r) ≡ starts_with_lf ((m ++ n) ++ r)
same_seam [] c n r h = absurd (omega arith)
same_seam (x ∷ m) c n r h = refl

-- The texts before and after an edit have its seam.
pub edited : (starts old new text : List ℕ) (from to edge end : ℕ) → AreStarts old starts → from ≤ to → to ≤ length old → text ≡ (take from old ++ new) ++ drop to old → edge ≡ from - 1 → end ≡ from + length new → IsEdited starts text edge to end
edited starts old new text from to edge end are l m e g n =
    let f : List ℕ = take (from - 1) old in
    let s : List ℕ = take (from - (from - 1)) (drop (from - 1) old) in
    let c : List ℕ = take (to - from) (drop from old) in
    let fl : length f ≡ from - 1 = length-take-le (from - 1) old (omega (arith, l, m)) in
    let sl : length s ≡ from - (from - 1) = length-take-le (from - (from - 1)) (drop (from - 1) old) (omega (arith, l, m, length-drop (from - 1) old)) in
    let cl : length c ≡ to - from = length-take-le (to - from) (drop from old) (omega (arith, l, m, length-drop from old)) in
    let rest_from : drop from old ≡ c ++ drop to old = sym (take-append-drop (to - from) (drop from old)) ∙ ap (λ x. c ++ x) (drop-drop (to - from) from old ∙ ap (λ k. drop k old) (omega (arith, l))) in
    let behind : drop (from - 1) old ≡ s ++ drop from old =
    sym (take-append-drop (from - (from - 1)) (drop (from - 1) old)) ∙ ap (λ x. s ++ x) (drop-drop (from - (from - 1)) (from - 1) old ∙ ap (λ k. drop k old) (omega arith)) in
    let whole : old ≡ f ++ ((s ++ c) ++ drop to old) =
    sym (take-append-drop (from - 1) old) ∙ ap (λ x. f ++ x) (behind ∙ ap (λ x. s ++ x) rest_from ∙ sym (append_assoc s c (drop to old))) in
    let prefix : take from old ≡ f ++ s = take-parts old (from - 1) from (omega arith) in
    record {
      prefix = f;
      before = s ++ c;
      after = s ++ new;
      rest = drop to old;
      were = λ some. are some ∙ ap line_starts whole;
      is = e ∙ ap (λ x. (x ++ new) ++ drop to old) prefix ∙ ap (λ x. x ++ drop to old) (append_assoc f s new) ∙ append_assoc f (s ++ new) (drop to old);
      seam = λ some. same_seam s c new (drop to old) (omega (arith, some, fl, sl));
      edge_is = g ∙ sym fl;
      to_is = omega (arith, fl, sl, cl, l, length-append s c);
      end_is = omega (arith, n, fl, sl, length-append s new);
    }

pub moved-all : (from to : ℕ) (xs ys : List ℕ) → length ys ≡ length xs → ((k : ℕ) → k < length xs → get_or ys k 0 ≡ get_or xs k 0 - from + to) → ys ≡ map (λ a. a - from + to) xs
moved-all from to xs ys l h = ext_get_or 0 ys (map (λ a. a - from + to) xs) (l ∙ sym (length-map xs (λ a. a - from + to))) (λ i lt. h i (omega (arith, lt, l)) ∙ sym (get_or-map (λ a. a - from + to) xs i 0 0 (omega (arith, lt, l))))
