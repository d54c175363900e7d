-- A search that lists the nodes as it marks them, and follows the list from its first node on.
use Rattle.graphs.proofs.Paths.{one-step, then-step}
use Rattle.graphs.proofs.Elements.{none_in}
use Rattle.std.proofs.lemmas.List.Elements.{Contains-get_or}
use Rattle.std.proofs.Common.{◌≡◌, ℕ, ◌+◌, ◌-◌, ◌<◌, ◌≤◌, Bool, true, false, cond, List, [], ◌∷◌, ◌++◌, length, get_or, refl, sym, subst, ◌∙◌, arith, inl, inr, Contains, below_more}
use lib.ListN.{set}
use Rattle.std.proofs.lemmas.List.{length_push, get_or_append_left}
use Rattle.graphs.specs.Graph.{edges, Reaches, is_marked, AreAncestors, IsEdge}
use Rattle.graphs.specs.Marking.{Work, mark, mark_row, AreListed}
use Rattle.graphs.proofs.Marks.{IsMarked, all_marked, both, free}
use Rattle.graphs.proofs.Once.{AreOnce, IsFresh, once-none, place-in}

-- the list goes on behind what it has
pub record IsLonger (ws vs : List ℕ) : Type 0 where
  pub within : length ws ≤ length vs
  pub same : (j : ℕ) → j < length ws → get_or vs j 0 ≡ get_or ws j 0

longer-one : (t : Bool) (w : Work) (b : ℕ) → IsLonger w.1 (cond t w (set w.0 b true, w.1 ++ b ∷ [])).1
longer-one true w b = record { within = omega arith; same = λ j l. refl }
longer-one false w b = record {
  within = omega (arith, length_push w.1 b);
  same = λ j l. get_or_append_left w.1 (b ∷ []) 0 j l;
}

longer-mark : (w : Work) (b : ℕ) → IsLonger w.1 (mark w b).1
unfolding mark
longer-mark w b = longer-one (is_marked w.0 b) w b

longer-then : (us vs ws : List ℕ) → IsLonger us vs → IsLonger vs ws → IsLonger us ws
longer-then us vs ws p q = record {
  within = omega (arith, p.within, q.within);
  same = λ j l. q.same j (omega (arith, l, p.within)) ∙ p.same j l;
}

row-longer : (bs : List ℕ) (w : Work) → IsLonger w.1 (mark_row w bs).1
unfolding mark_row
row-longer [] w = record { within = omega arith; same = λ j l. refl }
row-longer (b ∷ bs) w = longer-then w.1 (mark w b).1 (mark_row (mark w b) bs).1 (longer-mark w b) (row-longer bs (mark w b))

pub longer-is : (bs : List ℕ) (w v : Work) → v ≡ mark_row w bs → IsLonger w.1 v.1
longer-is bs w v e = subst (λ (u : Work). IsLonger w.1 u.1) (sym e) (row-longer bs w)

-- the marked nodes are those in the list, each once and each reached; the edges of the first ones were followed
pub record IsListing (g : List (List ℕ)) (from : ℕ) (marks : List Bool) (found : List ℕ) (next : ℕ) : Type 0 where
  pub long : length marks ≡ length g
  pub start : (b : ℕ) → Contains (edges g from) b → is_marked marks b ≡ true
  pub sound : (k : ℕ) → is_marked marks k ≡ true → Reaches g from k
  pub listed : AreListed marks found
  pub marked : (k : ℕ) → Contains found k → is_marked marks k ≡ true
  pub closed : (j : ℕ) → j < next → (b : ℕ) → Contains (edges g (get_or found j 0)) b → is_marked marks b ≡ true
  pub once : AreOnce found

pub listing-first : (g : List (List ℕ)) (from : ℕ) (w v : Work) → IsMarked w (edges g from) v → IsFresh w v → length w.0 ≡ length g → ((k : ℕ) → is_marked w.0 k ≡ false) → w.1 ≡ [] → IsListing g from v.0 v.1 0
listing-first g from w v m f long free none = record {
  long = m.long ∙ long;
  start = λ b h. m.here b h;
  sound = λ k h. elim (m.only k h) [
    | inl a ↦ both (is_marked w.0 k) a (free k)
    | inr a ↦ one-step (IsEdge g) from k a.0
  ];
  listed = λ k h. elim (m.only k h) [
    | inl a ↦ both (is_marked w.0 k) a (free k)
    | inr a ↦ a.1
  ];
  marked = λ k h. elim (m.waits k h) [
    | inl a ↦ none_in k (subst (λ l. Contains l k) none a)
    | inr a ↦ m.here k a
  ];
  closed = λ j l b h. absurd (omega (arith, l));
  once = f.once (λ k h. none_in k (subst (λ l. Contains l k) none h)) (subst AreOnce (sym none) once-none);
}

pub listing-more : (g : List (List ℕ)) (from node : ℕ) (ms : List Bool) (fs : List ℕ) (next : ℕ) (v : Work) → IsListing g from ms fs next → next < length fs → node ≡ get_or fs next 0 → IsMarked (ms, fs) (edges g node) v → IsFresh (ms, fs) v → IsLonger fs v.1 → IsListing g from v.0 v.1 (next + 1)
listing-more g from node ms fs next v s l is m f p =
    let at : is_marked ms node ≡ true = s.marked node (rw is (Contains-get_or fs next 0 l)) in
    record {
      long = m.long ∙ s.long;
      start = λ b h. m.kept b (s.start b h);
      sound = λ k h. elim (m.only k h) [
        | inl a ↦ s.sound k a
        | inr a ↦ then-step (IsEdge g) from node k (s.sound node at) a.0
      ];
      listed = λ k h. elim (m.only k h) [
        | inl a ↦ m.stays k (s.listed k a)
        | inr a ↦ a.1
      ];
      marked = λ k h. elim (m.waits k h) [
        | inl a ↦ m.kept k (s.marked k a)
        | inr a ↦ m.here k a
      ];
      closed =
          let P : ℕ → Type 0 = λ j. (b : ℕ) → Contains (edges g (get_or v.1 j 0)) b → is_marked v.0 b ≡ true in
          let before : (j : ℕ) → j < next → P j = λ j i b h. m.kept b (s.closed j i b (subst (λ n. Contains (edges g n) b) (p.same j (omega (arith, i, l))) h)) in
          let here : P next = λ b h. m.here b (subst (λ n. Contains (edges g n) b) (p.same next l ∙ sym is) h) in
          below_more P next before here;
      once = f.once s.marked s.once;
    }

pub listing-all : (g : List (List ℕ)) (from : ℕ) (ms : List Bool) (fs : List ℕ) (next : ℕ) → IsListing g from ms fs next → length fs ≤ next → AreAncestors g from fs
listing-all g from ms fs next s l b = (
  λ h. s.sound b (s.marked b h),
  λ r. s.listed b (all_marked g ms from r.0 b (λ k c h e. let a = place-in k fs (s.listed k h) in s.closed a.place (omega (arith, a.inside, l)) c (subst (λ n. Contains (edges g n) c) (sym a.is) e)) s.start r.1),
)

pub listing-smaller : (ms : List Bool) (fs bs : List ℕ) (next : ℕ) (v : Work) → IsMarked (ms, fs) bs v → next < length fs → IsLonger fs v.1 → free v.0 + (length v.1 - (next + 1)) < free ms + (length fs - next)
listing-smaller ms fs bs next v m l p = omega (arith, m.less, l, p.within)
