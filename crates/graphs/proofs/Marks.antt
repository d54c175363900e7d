-- What marking does, and that marks which are closed say what is reached.
use Rattle.graphs.proofs.Paths.{one-step, then-step}
use Rattle.graphs.proofs.Elements.{in-one, single, first_in, rest_in, none_in}
use Rattle.std.proofs.lemmas.List.Elements.{Contains-append_left, Contains-append_right, Contains-append_cases}
use Rattle.graphs.specs.Paths.{IsPathBy}
use Rattle.std.proofs.Common.{◌≡◌, ℕ, zero, suc, ◌+◌, ◌<◌, ◌≤◌, Bool, true, false, cond, List, [], ◌∷◌, ◌++◌, length, get_or, drop, replicate, refl, sym, ap, subst, ◌∙◌, arith, inl, inr, ◌⊎◌, Contains}
use lib.ListN.{set}
use Rattle.std.proofs.lemmas.List.{length_push, drop_more, drop_all, length-set, get_or-set_same, get_or-set_other}
use Rattle.std.proofs.lemmas.Bool.{cases_eq}
use Rattle.graphs.specs.Graph.{edges, Reaches, is_marked, AreMarked, IsEdge}
use Rattle.graphs.specs.Marking.{Work, mark, mark_row, AreListed}

-- how many marks are free
abbrev pub free : List Bool → ℕ
free [] = 0
free (true ∷ ms) = free ms
free (false ∷ ms) = suc (free ms)

free-set : (ms : List Bool) (b : ℕ) → b < length ms → is_marked ms b ≡ false → suc (free (set ms b true)) ≡ free ms
free-set [] b l e = absurd (omega (arith, l))
free-set (true ∷ ms) zero l e = absurd cc
free-set (false ∷ ms) zero l e = refl
free-set (true ∷ ms) (suc b) l e = free-set ms b (omega arith) e
free-set (false ∷ ms) (suc b) l e = ap suc (free-set ms b (omega arith) e)

-- what marking the nodes of a row does
pub record IsMarked (w : Work) (bs : List ℕ) (v : Work) : Type 0 where
  pub long : length v.0 ≡ length w.0
  pub kept : (k : ℕ) → is_marked w.0 k ≡ true → is_marked v.0 k ≡ true
  pub here : (k : ℕ) → Contains bs k → is_marked v.0 k ≡ true
  pub only : (k : ℕ) → is_marked v.0 k ≡ true → (is_marked w.0 k ≡ true) ⊎ (Contains bs k × Contains v.1 k)
  pub stays : (k : ℕ) → Contains w.1 k → Contains v.1 k
  pub waits : (k : ℕ) → Contains v.1 k → Contains w.1 k ⊎ Contains bs k
  pub less : free v.0 + length v.1 ≡ free w.0 + length w.1

set-kept : (ms : List Bool) (b k : ℕ) → b < length ms → is_marked ms k ≡ true → is_marked (set ms b true) k ≡ true
set-kept ms b k l e = elim (cases_eq k b) [
  | inl h ↦ rw h (get_or-set_same ms b true false l)
  | inr h ↦ get_or-set_other ms b k true false h ∙ e
]

set-only : (ms : List Bool) (b k : ℕ) → b < length ms → is_marked (set ms b true) k ≡ true → (is_marked ms k ≡ true) ⊎ (b ≡ k)
set-only ms b k l e = elim (cases_eq k b) [
  | inl h ↦ inr (sym h)
  | inr h ↦ inl (sym (get_or-set_other ms b k true false h) ∙ e)
]

one : (t : Bool) (w : Work) (b : ℕ) → b < length w.0 → is_marked w.0 b ≡ t → IsMarked w (b ∷ []) (cond t w (set w.0 b true, w.1 ++ b ∷ []))
one true w b l e = record {
  long = refl;
  kept = λ k h. h;
  here = λ k h. subst (λ n. is_marked w.0 n ≡ true) (in-one k b h) e;
  only = λ k h. inl h;
  stays = λ k h. h;
  waits = λ k h. inl h;
  less = refl;
}
one false w b l e = record {
  long = length-set w.0 b true;
  kept = λ k h. set-kept w.0 b k l h;
  here = λ k h. subst (λ n. is_marked (set w.0 b true) n ≡ true) (in-one k b h) (get_or-set_same w.0 b true false l);
  only = λ k h. elim (set-only w.0 b k l h) [
    | inl a ↦ inl a
    | inr a ↦ inr (single k b a, Contains-append_right w.1 (b ∷ []) k (single k b a))
  ];
  stays = λ k h. Contains-append_left w.1 (b ∷ []) k h;
  waits = λ k h. Contains-append_cases w.1 (b ∷ []) k h;
  less = omega (arith, free-set w.0 b l e, length_push w.1 b);
}

-- a node is listed as it is marked
pub listed_more : (ms : List Bool) (ws vs : List ℕ) (b : ℕ) → vs ≡ ws ++ b ∷ [] → b < length ms → AreListed ms ws → AreListed (set ms b true) vs
listed_more ms ws vs b e l h k m = elim (set-only ms b k l m) [
  | inl a ↦ rw e (Contains-append_left ws (b ∷ []) k (h k a))
  | inr a ↦ rw e (Contains-append_right ws (b ∷ []) k (single k b a))
]

nothing : (w : Work) → IsMarked w [] w
nothing w = record {
  long = refl;
  kept = λ k h. h;
  here = λ k h. none_in k h;
  only = λ k h. inl h;
  stays = λ k h. h;
  waits = λ k h. inl h;
  less = refl;
}

joined : (u v w : Work) (b : ℕ) (bs : List ℕ) → IsMarked u (b ∷ []) v → IsMarked v bs w → IsMarked u (b ∷ bs) w
joined u v w b bs p q = record {
  long = q.long ∙ p.long;
  kept = λ k h. q.kept k (p.kept k h);
  here = λ k h. elim (Contains-append_cases (b ∷ []) bs k h) [
    | inl a ↦ q.kept k (p.here k a)
    | inr a ↦ q.here k a
  ];
  only = λ k h. elim (q.only k h) [
    | inl a ↦ elim (p.only k a) [
      | inl c ↦ inl c
      | inr c ↦ inr (Contains-append_left (b ∷ []) bs k c.0, q.stays k c.1)
    ]
    | inr a ↦ inr (Contains-append_right (b ∷ []) bs k a.0, a.1)
  ];
  stays = λ k h. q.stays k (p.stays k h);
  waits = λ k h. elim (q.waits k h) [
    | inl a ↦ elim (p.waits k a) [
      | inl c ↦ inl c
      | inr c ↦ inr (Contains-append_left (b ∷ []) bs k c)
    ]
    | inr a ↦ inr (Contains-append_right (b ∷ []) bs k a)
  ];
  less = q.less ∙ p.less;
}

pub marked : (w : Work) (b : ℕ) → b < length w.0 → IsMarked w (b ∷ []) (mark w b)
unfolding mark
marked w b l = one (is_marked w.0 b) w b l refl

pub row_marked : (bs : List ℕ) (w : Work) → ((b : ℕ) → Contains bs b → b < length w.0) → IsMarked w bs (mark_row w bs)
unfolding mark_row
row_marked [] w l = nothing w
row_marked (b ∷ bs) w l =
    let p = marked w b (l b (first_in b bs)) in
    joined w (mark w b) (mark_row (mark w b) bs) b bs p (row_marked bs (mark w b) (λ c h. rw p.long (l c (rest_in c b bs h))))

pub both : {P : Type 0} (b : Bool) → b ≡ true → b ≡ false → P
both true h e = absurd cc
both false h e = absurd cc

-- what the search keeps: marked nodes are reached, and a marked node waits or has only marked successors
pub record IsSearch (g : List (List ℕ)) (from : ℕ) (marks : List Bool) (worklist : List ℕ) : Type 0 where
  pub long : length marks ≡ length g
  pub start : (b : ℕ) → Contains (edges g from) b → is_marked marks b ≡ true
  pub sound : (k : ℕ) → is_marked marks k ≡ true → Reaches g from k
  pub waits : (k : ℕ) → Contains worklist k → is_marked marks k ≡ true
  pub closed : (k : ℕ) → is_marked marks k ≡ true → Contains worklist k ⊎ ((b : ℕ) → Contains (edges g k) b → is_marked marks b ≡ true)

pub begins : (g : List (List ℕ)) (from : ℕ) (w v : Work) → IsMarked w (edges g from) v → length w.0 ≡ length g → ((k : ℕ) → is_marked w.0 k ≡ false) → w.1 ≡ [] → IsSearch g from v.0 v.1
begins g from w v m long free none = record {
  long = m.long ∙ long;
  start = λ b h. m.here b h;
  sound = λ k h. elim (m.only k h) [
    | inl a ↦ both _ a (free k)
    | inr a ↦ one-step (IsEdge g) from k a.0
  ];
  waits = λ k h. elim (m.waits k h) [
    | inl a ↦ none_in k (subst (λ l. Contains l k) none a)
    | inr a ↦ m.here k a
  ];
  closed = λ k h. elim (m.only k h) [
    | inl a ↦ both _ a (free k)
    | inr a ↦ inl a.1
  ];
}

pub goes_on : (g : List (List ℕ)) (from node : ℕ) (ms : List Bool) (old worklist : List ℕ) (v : Work) → IsSearch g from ms old → old ≡ worklist ++ node ∷ [] → IsMarked (ms, worklist) (edges g node) v → IsSearch g from v.0 v.1
goes_on g from node ms old worklist v s e m =
    let at : is_marked ms node ≡ true = s.waits node (rw e (Contains-append_right worklist (node ∷ []) node (first_in node []))) in
    record {
      long = m.long ∙ s.long;
      start = λ b h. m.kept b (s.start b h);
      sound = λ k h. elim (m.only k h) [
        | inl a ↦ s.sound k a
        | inr a ↦ then-step (IsEdge g) from node k (s.sound node at) a.0
      ];
      waits = λ k h. elim (m.waits k h) [
        | inl a ↦ m.kept k (s.waits k (rw e (Contains-append_left worklist (node ∷ []) k a)))
        | inr a ↦ m.here k a
      ];
      closed = λ k h. elim (m.only k h) [
        | inl a ↦ elim (s.closed k a) [
          | inl c ↦ elim (Contains-append_cases worklist (node ∷ []) k (subst (λ l. Contains l k) e c)) [
            | inl d ↦ inl (m.stays k d)
            | inr d ↦ inr (λ b f. m.here b (subst (λ n. Contains (edges g n) b) (sym (in-one k node d)) f))
          ]
          | inr c ↦ inr (λ b f. m.kept b (c b f))
        ]
        | inr a ↦ inl a.1
      ];
    }

pub all_marked : (g : List (List ℕ)) (ms : List Bool) (a : ℕ) (cs : List ℕ) (b : ℕ) → ((k c : ℕ) → is_marked ms k ≡ true → Contains (edges g k) c → is_marked ms c ≡ true) → ((c : ℕ) → Contains (edges g a) c → is_marked ms c ≡ true) → IsPathBy (IsEdge g) a cs b → is_marked ms b ≡ true
unfolding IsPathBy
all_marked g ms a [] b closed start h = start b h
all_marked g ms a (c ∷ cs) b closed start h = all_marked g ms c cs b closed (λ d e. closed c d (start c h.0) e) h.1

pub ends : (g : List (List ℕ)) (from : ℕ) (ms : List Bool) (worklist : List ℕ) → IsSearch g from ms worklist → worklist ≡ [] → AreMarked g from ms
ends g from ms worklist s none b = (
  s.sound b,
  λ r. all_marked g ms from r.0 b (λ k c h e. elim (s.closed k h) [
    | inl a ↦ none_in k (subst (λ l. Contains l k) none a)
    | inr a ↦ a c e
  ]) s.start r.1,
)

row_first : (w : Work) (b : ℕ) (bs : List ℕ) → mark_row w (b ∷ bs) ≡ mark_row (mark w b) bs
unfolding mark_row
row_first w b bs = refl

pub row_step : (bs : List ℕ) (i : ℕ) (w v all : Work) → i < length bs → mark_row w (drop i bs) ≡ all → v ≡ mark w (get_or bs i 0) → mark_row v (drop (i + 1) bs) ≡ all
row_step bs i w v all l h e = rw e (sym (row_first w (get_or bs i 0) (drop (i + 1) bs)) ∙ (sym (ap (mark_row w) (drop_more bs i 0 l)) ∙ h))

pub row_end : (bs : List ℕ) (i : ℕ) (w : Work) → length bs ≤ i → mark_row w (drop i bs) ≡ w
unfolding mark_row
row_end bs i w l = rw (drop_all i bs l) refl

pub row_is : (bs : List ℕ) (w v : Work) → ((b : ℕ) → Contains bs b → b < length w.0) → v ≡ mark_row w bs → IsMarked w bs v
row_is bs w v l e = subst (IsMarked w bs) (sym e) (row_marked bs w l)

pub none_marked : (n k : ℕ) → is_marked (replicate n false) k ≡ false
none_marked zero zero = refl
none_marked zero (suc k) = refl
none_marked (suc n) zero = refl
none_marked (suc n) (suc k) = none_marked n k

pub smaller : (ms : List Bool) (old worklist bs : List ℕ) (node : ℕ) (v : Work) → IsMarked (ms, worklist) bs v → old ≡ worklist ++ node ∷ [] → free v.0 + length v.1 < free ms + length old
smaller ms old worklist bs node v m e = omega (arith, m.less, length_push worklist node, ap length e)
