-- The pages of a cursor, joined over a whole run.
use Rattle.std.proofs.Common.{◌≡◌, ◌≢◌, ◌⊎◌, ◌≤◌, ◌<◌, ℕ, suc, zero, ◌+◌, ◌==◌, List, [], ◌∷◌, ◌++◌, length, take, drop, refl, sym, ap, ◌∙◌, arith, true, false, Bool, Option, None, Some, inl, inr, subst, ⊎_elim, length-append, append_assoc, append-nil}
use Rattle.std.specs.Prelude.{if◌then◌else◌}
use Rattle.std.proofs.lemmas.Bool.{ne_eqb, eq-eqb}
use Rattle.std.proofs.lemmas.Bool.Decides.{eqb_tells}
use Rattle.std.proofs.lemmas.List.{map-append, length-map}
use Rattle.std.proofs.lemmas.List.Elements.{All-append}
use Rattle.std.proofs.Math.Dec.{leb}
use Rattle.std.proofs.Math.Seq.{take-add}
use Rattle.decl_index.specs.declared.change.Change.{Change}
use Rattle.decl_index.specs.History.{first_withdrawal}
use Rattle.terms.specs.declared.parts.Parts.{Parts}
use Rattle.terms.specs.Expr.{Expr}
use Rattle.listing.specs.declared.item.Item.{Item}
use Rattle.listing.specs.Found.{term_of, terms_of, IsItem}
use Rattle.answers.specs.declared.types.Page.{Page}
use Rattle.answers.specs.declared.types.Cursor.{Cursor}
use Rattle.answers.specs.Cursors.{IsPageOf, Lists, look, moved, without}
use Rattle.answers.specs.Asks.{Ask, Answer, opened, turned, withdrawn, explained, accepted, refused, quiet, ended}
use Rattle.answers.specs.Turns.{Turn, answer, next, answers_to, AllMet}
use Rattle.answers.specs.Told.{items_of, joined, last_by, newest, IsTold, Heeds, AllHeed, IsPaged, PagedBy, AllPaged}
use Rattle.answers.specs.Sessions.{start}
use Rattle.answers.proofs.Looks.{on, look_hit, look_miss, look_other, look_same, look_take, look_without, look_empty, not_none}
use Rattle.answers.proofs.Shapes.{Opens, Turns, Steps, shape}

-- A kept cursor of the list, so far as it was given.
abbrev Stands : Parts → ℕ → List Item → Option Cursor → Type 0
Stands g v given None = Unit {0}
Stands g v given (Some c) = (c.env ≡ g) × (length given ≡ c.answered) × (c.version ≡ v)

-- The list of number k, so far as it was given.
record Given (k : ℕ) (g : Parts) (v : ℕ) (given : List Item) (last : Bool) (l : Lists) : Type 0 where
  made : k ≤ l.made
  cursor : Stands g v given (look k l.cursors)
  told : IsTold g given last

taken : (a m : ℕ) (ws : List Expr) → take a ws ++ take m (drop a ws) ≡ take (a + m) ws
taken a m ws = sym (take-add a m ws)

shorter : (n : ℕ) (ys : List Expr) → take n ys ≡ take (length (take n ys)) ys
shorter zero ys = refl
shorter (suc n) [] = refl
shorter (suc n) (y ∷ ys) = ap (λ zs. y ∷ zs) (shorter n ys)

-- As many as there are of so many.
as_many : (n : ℕ) (xs ys : List Expr) → xs ≡ take n ys → xs ≡ take (length xs) ys
as_many n xs ys e = subst (λ zs. zs ≡ take (length zs) ys) (sym e) (shorter n ys)

page_items : (n : ℕ) (items : List Item) (ys : List Expr) → terms_of items ≡ take n ys → terms_of items ≡ take (length items) ys
page_items n items ys e = as_many n (terms_of items) ys e ∙ ap (λ k. take k ys) (length-map items term_of)

further : (g : Parts) (given : List Item) (last : Bool) (p : Page) (c : Cursor) (n : ℕ) → c.env ≡ g → length given ≡ c.answered → IsTold g given last → IsPageOf c.env c.answered n p → IsTold g (given ++ p.items) p.last
further g given last p c n env count told page =
    let here : IsPageOf g (length given) n p = rw (← env, count) page in
    record {
      says = All-append (IsItem g) given p.items told.says here.says;
      prefix = λ ws w.
          map-append term_of given p.items ∙ ap (λ xs. xs ++ terms_of p.items) (told.prefix ws w) ∙ ap (λ xs. take (length given) ws ++ xs) (page_items n p.items (drop (length given) ws) (here.slice ws w))
          ∙ taken (length given) (length p.items) ws ∙ ap (λ n. take n ws) (sym (length-append given p.items));
      ends = λ ws w. here.ends ws w ∙ ap (λ n. leb (length ws) n) (sym (length-append given p.items));
    }

-- Nothing more of the list is given.
still : (k : ℕ) (g : Parts) (v : ℕ) (given : List Item) (last : Bool) (l t : Lists) → Given k g v given last l → k ≤ t.made → (look k t.cursors ≡ look k l.cursors) ⊎ (look k t.cursors ≡ None) → Given k g v (given ++ []) last t
still k g v given last l t so made left =
    let stands : Stands g v given (look k t.cursors) = ⊎_elim (λ e. subst (Stands g v given) (sym e) so.cursor) (λ e. subst (Stands g v given) (sym e) tt) left in
    subst (λ xs. Given k g v xs last t) (sym (append-nil given)) (record { made = made; cursor = stands; told = so.told })

same_still : (k : ℕ) (g : Parts) (v : ℕ) (given : List Item) (last : Bool) (l t : Lists) → Given k g v given last l → t ≡ l → Given k g v (given ++ []) last t
same_still k g v given last l t so is = still k g v given last l t so (subst (λ (x : Lists). k ≤ x.made) (sym is) so.made) (inl (ap (λ (x : Lists). look k x.cursors) is))

is_same : (o : Option Cursor) (g : Parts) (v : ℕ) (given : List Item) (c : Cursor) → o ≡ Some c → Stands g v given o → (c.env ≡ g) × (length given ≡ c.answered) × (c.version ≡ v)
is_same o g v given c is stands = subst (Stands g v given) is stands

on_opened : (k : ℕ) (g : Parts) (v : ℕ) (given : List Item) (last : Bool) (l t : Lists) (ask : Ask) (at : List Change) (c : Cursor) (p : Page) → Given k g v given last l → Opens l ask at c p t
    → Given k g v (given ++ items_of k (opened c p)) (last_by k last (opened c p)) t
on_opened k g v given last l t ask at c p so opens =
    let made : k ≤ l.made = so.made in
    let not : (c.number == k) ≡ false = ne_eqb c.number k (λ e. omega (arith, e, opens.number, made)) in
    let looks : look k t.cursors ≡ look k (take 63 l.cursors) = ap (λ (x : Lists). look k x.cursors) opens.gives ∙ look_miss k c (take 63 l.cursors) not in
    let left : (look k t.cursors ≡ look k l.cursors) ⊎ (look k t.cursors ≡ None) = ⊎_elim (λ e. inl (looks ∙ e)) (λ e. inr (looks ∙ e)) (look_take k 63 l.cursors) in
    let more : k ≤ t.made = subst (λ (x : Lists). k ≤ x.made) (sym opens.gives) (omega (arith, made, opens.number)) in
    rw not (still k g v given last l t so more left)

on_turned : (k : ℕ) (g : Parts) (v : ℕ) (given : List Item) (last : Bool) (l t : Lists) (at : List Change) (c : Cursor) (p : Page) → Given k g v given last l → Turns l at c p t
    → Given k g v (given ++ items_of k (turned c p)) (last_by k last (turned c p)) t
on_turned k g v given last l t at c p so turns =
    let made : k ≤ t.made = subst (λ (x : Lists). k ≤ x.made) (sym turns.gives) so.made in
    ⊎_elim
    (λ (e : ((c.number == k) ≡ true) × (c.number ≡ k)).
    let here : look k l.cursors ≡ Some c = subst (λ i. look i l.cursors ≡ Some c) e.1 turns.is in
    let fits = is_same (look k l.cursors) g v given c here so.cursor in
    let now : look k t.cursors ≡ Some (on c (length p.items)) = ap (λ (x : Lists). look k x.cursors) turns.gives ∙ ap (λ i. look k (moved i (length p.items) l.cursors)) e.1 ∙ look_same k (length p.items) l.cursors c here in
    rw e.0 (record {
      made = made;
      cursor = subst (Stands g v (given ++ p.items)) (sym now) (fits.0, length-append given p.items ∙ ap (λ n. n + length p.items) fits.1, fits.2);
      told = further g given last p c turns.count fits.0 fits.1 so.told turns.page_is;
    }))
    (λ (e : ((c.number == k) ≡ false) × (c.number ≢ k)).
    rw e.0 (still k g v given last l t so made (inl (ap (λ (x : Lists). look k x.cursors) turns.gives ∙ look_other k c.number (length p.items) l.cursors e.1))))
    (eqb_tells c.number k)

on_quiet : (k : ℕ) (g : Parts) (v : ℕ) (given : List Item) (last : Bool) (l t : Lists) → Given k g v given last l → (t ≡ l) ⊎ ((j : ℕ) × (t ≡ record l { cursors = without j l.cursors })) → Given k g v (given ++ []) last t
on_quiet k g v given last l t so step =
    ⊎_elim
    (λ e. same_still k g v given last l t so e)
    (λ (e : (j : ℕ) × (t ≡ record l { cursors = without j l.cursors })).
    still k g v given last l t so (subst (λ (x : Lists). k ≤ x.made) (sym e.1) so.made)
    (⊎_elim (λ o. inl (ap (λ (x : Lists). look k x.cursors) e.1 ∙ o)) (λ o. inr (ap (λ (x : Lists). look k x.cursors) e.1 ∙ o)) (look_without k e.0 l.cursors)))
    step

goes : (k : ℕ) (g : Parts) (v : ℕ) (given : List Item) (last : Bool) (l t : Lists) (ask : Ask) (at : List Change) (a : Answer) → Given k g v given last l → Steps l ask at a t
    → Given k g v (given ++ items_of k a) (last_by k last a) t
goes k g v given last l t ask at (opened c p) so step = on_opened k g v given last l t ask at c p so step
goes k g v given last l t ask at (turned c p) so step = on_turned k g v given last l t at c p so step
goes k g v given last l t ask at (withdrawn j x n) so step = same_still k g v given last l t so step.gives
goes k g v given last l t ask at (explained c x) so step = same_still k g v given last l t so step.gives
goes k g v given last l t ask at (accepted x) so step = same_still k g v given last l t so step
goes k g v given last l t ask at (refused f) so step = same_still k g v given last l t so step
goes k g v given last l t ask at quiet so step = on_quiet k g v given last l t so step
goes k g v given last l t ask at ended so step = same_still k g v given last l t so step

-- What is given of the list to the end of the run.
follows : (k : ℕ) (g : Parts) (v : ℕ) (given : List Item) (last : Bool) (l : Lists) (ts : List Turn) → Given k g v given last l → AllMet l ts → IsTold g (given ++ joined k (answers_to l ts)) (newest k last (answers_to l ts))
unfolding AllMet answers_to joined newest
follows k g v given last l [] so met = rw (append-nil given) so.told
follows k g v given last l (t ∷ ts) so met =
    let a : Answer = answer l t in
    let now : Given k g v (given ++ items_of k a) (last_by k last a) (next l t) = goes k g v given last l (next l t) t.ask t.met.at a so (shape l t met.0) in
    rw (← append_assoc given (items_of k a) (joined k (answers_to (next l t) ts))) (follows k g v (given ++ items_of k a) (last_by k last a) (next l t) ts now met.1)

heeds_by : (k : ℕ) (g : Parts) (v : ℕ) (given : List Item) (last : Bool) (l t : Lists) (ask : Ask) (at : List Change) (a : Answer) → Given k g v given last l → Steps l ask at a t → Heeds k v a at
heeds_by k g v given last l t ask at (turned c p) so step = λ e.
    let fits = is_same (look k l.cursors) g v given c (subst (λ i. look i l.cursors ≡ Some c) e step.is) so.cursor in
    (fits.2, ap (first_withdrawal at) (sym fits.2) ∙ step.stands)
heeds_by k g v given last l t ask at (withdrawn j x n) so step = λ e.
    let fits = is_same (look k l.cursors) g v given step.cursor (subst (λ i. look i l.cursors ≡ Some step.cursor) e step.is) so.cursor in
    (step.version ∙ fits.2, ap (first_withdrawal at) (sym fits.2) ∙ step.gone)
heeds_by k g v given last l t ask at (opened c p) so step = tt
heeds_by k g v given last l t ask at (explained c x) so step = tt
heeds_by k g v given last l t ask at (accepted x) so step = tt
heeds_by k g v given last l t ask at (refused f) so step = tt
heeds_by k g v given last l t ask at quiet so step = tt
heeds_by k g v given last l t ask at ended so step = tt

all_heed : (k : ℕ) (g : Parts) (v : ℕ) (given : List Item) (last : Bool) (l : Lists) (ts : List Turn) → Given k g v given last l → AllMet l ts → AllHeed k v l ts
unfolding AllMet AllHeed
all_heed k g v given last l [] so met = tt
all_heed k g v given last l (t ∷ ts) so met =
    let a : Answer = answer l t in
    let step = shape l t met.0 in
    (heeds_by k g v given last l (next l t) t.ask t.met.at a so step, all_heed k g v (given ++ items_of k a) (last_by k last a) (next l t) ts (goes k g v given last l (next l t) t.ask t.met.at a so step) met.1)

-- A number that was not made yet has no cursor.
abbrev IsFresh : Lists → Type 0
IsFresh l = (k : ℕ) → l.made < k → look k l.cursors ≡ None

-- After a step numbers not made yet have no cursor, and no page came of them.
record StaysFresh (l t : Lists) (a : Answer) : Type 0 where
  none : IsFresh t
  later : l.made ≤ t.made
  items : (k : ℕ) → t.made < k → items_of k a ≡ []
  last : (k : ℕ) (b : Bool) → t.made < k → last_by k b a ≡ b

same_fresh : (l t : Lists) → IsFresh l → t ≡ l → IsFresh t
same_fresh l t fresh is k less = ap (λ (x : Lists). look k x.cursors) is ∙ fresh k (subst (λ (x : Lists). x.made < k) is less)

same_made : (l t : Lists) → t ≡ l → l.made ≤ t.made
same_made l t is = subst (λ (x : Lists). l.made ≤ x.made) (sym is) (omega arith)

fresh_opened : (l t : Lists) (ask : Ask) (at : List Change) (c : Cursor) (p : Page) → IsFresh l → Opens l ask at c p t → StaysFresh l t (opened c p)
fresh_opened l t ask at c p fresh opens =
    let made : t.made ≡ c.number = ap (λ (x : Lists). x.made) opens.gives in
    let number : c.number ≡ suc l.made = opens.number in
    let not : (k : ℕ) → t.made < k → (c.number == k) ≡ false = λ k less. ne_eqb c.number k (λ e. omega (arith, e, less, made)) in
    record {
      none = λ k less.
          let before : l.made < k = omega (arith, less, made, number) in
          ap (λ (x : Lists). look k x.cursors) opens.gives ∙ look_miss k c (take 63 l.cursors) (not k less) ∙ ⊎_elim (λ e. e ∙ fresh k before) (λ e. e) (look_take k 63 l.cursors);
      later = omega (arith, made, number);
      items = λ k less. rw (not k less) refl;
      last = λ k b less. rw (not k less) refl;
    }

fresh_turned : (l t : Lists) (at : List Change) (c : Cursor) (p : Page) → IsFresh l → Turns l at c p t → StaysFresh l t (turned c p)
fresh_turned l t at c p fresh turns =
    let made : t.made ≡ l.made = ap (λ (x : Lists). x.made) turns.gives in
    let others : (k : ℕ) → t.made < k → c.number ≢ k = λ k less e. not_none (look k l.cursors) c (fresh k (omega (arith, less, made))) (subst (λ i. look i l.cursors ≡ Some c) e turns.is) in
    record {
      none = λ k less. ap (λ (x : Lists). look k x.cursors) turns.gives ∙ look_other k c.number (length p.items) l.cursors (others k less) ∙ fresh k (omega (arith, less, made));
      later = omega (arith, made);
      items = λ k less. rw (ne_eqb c.number k (others k less)) refl;
      last = λ k b less. rw (ne_eqb c.number k (others k less)) refl;
    }

fresh_quiet : (l t : Lists) → IsFresh l → (t ≡ l) ⊎ ((j : ℕ) × (t ≡ record l { cursors = without j l.cursors })) → StaysFresh l t quiet
fresh_quiet l t fresh step =
    ⊎_elim
    (λ e. record { none = same_fresh l t fresh e; later = same_made l t e; items = λ k less. refl; last = λ k b less. refl })
    (λ (e : (j : ℕ) × (t ≡ record l { cursors = without j l.cursors })).
    let made : t.made ≡ l.made = ap (λ (x : Lists). x.made) e.1 in
    record {
      none = λ k less. ap (λ (x : Lists). look k x.cursors) e.1 ∙ ⊎_elim (λ x. x ∙ fresh k (omega (arith, less, made))) (λ x. x) (look_without k e.0 l.cursors);
      later = omega (arith, made);
      items = λ k less. refl;
      last = λ k b less. refl;
    })
    step

fresh_same : (l t : Lists) (a : Answer) → IsFresh l → t ≡ l → ((k : ℕ) → items_of k a ≡ []) → ((k : ℕ) (b : Bool) → last_by k b a ≡ b) → StaysFresh l t a
fresh_same l t a fresh is items last = record { none = same_fresh l t fresh is; later = same_made l t is; items = λ k less. items k; last = λ k b less. last k b }

stays_fresh : (l t : Lists) (ask : Ask) (at : List Change) (a : Answer) → IsFresh l → Steps l ask at a t → StaysFresh l t a
stays_fresh l t ask at (opened c p) fresh step = fresh_opened l t ask at c p fresh step
stays_fresh l t ask at (turned c p) fresh step = fresh_turned l t at c p fresh step
stays_fresh l t ask at (withdrawn j x n) fresh step = fresh_same l t (withdrawn j x n) fresh step.gives (λ k. refl) (λ k b. refl)
stays_fresh l t ask at (explained c x) fresh step = fresh_same l t (explained c x) fresh step.gives (λ k. refl) (λ k b. refl)
stays_fresh l t ask at (accepted x) fresh step = fresh_same l t (accepted x) fresh step (λ k. refl) (λ k b. refl)
stays_fresh l t ask at (refused f) fresh step = fresh_same l t (refused f) fresh step (λ k. refl) (λ k b. refl)
stays_fresh l t ask at quiet fresh step = fresh_quiet l t fresh step
stays_fresh l t ask at ended fresh step = fresh_same l t ended fresh step (λ k. refl) (λ k b. refl)

-- Of a number that was not made yet all pages are still to come.
record ToCome (all : List Answer) (l : Lists) (ts : List Turn) : Type 0 where
  items : (k : ℕ) → l.made < k → joined k all ≡ joined k (answers_to l ts)
  last : (k : ℕ) → l.made < k → newest k false all ≡ newest k false (answers_to l ts)

none_more : (n : ℕ) → 0 + n ≡ n
none_more n = omega arith

first_page : (g : Parts) (n : ℕ) (p : Page) → IsPageOf g 0 n p → IsTold g p.items p.last
first_page g n p page = record {
  says = page.says;
  prefix = λ ws w. page_items n p.items ws (page.slice ws w);
  ends = λ ws w. page.ends ws w ∙ ap (λ k. leb (length ws) k) (none_more (length p.items));
}

opened_given : (l t : Lists) (ask : Ask) (at : List Change) (c : Cursor) (p : Page) → Opens l ask at c p t → Given c.number c.env c.version p.items p.last t
opened_given l t ask at c p opens =
    let here : look c.number t.cursors ≡ Some c = ap (λ (x : Lists). look c.number x.cursors) opens.gives ∙ look_hit c.number c (take 63 l.cursors) (eq-eqb c.number c.number refl) in
    let made : t.made ≡ c.number = ap (λ (x : Lists). x.made) opens.gives in
    record {
      made = omega (arith, made);
      cursor = subst (Stands c.env c.version p.items) (sym here) (refl, sym opens.answered, refl);
      told = first_page c.env opens.count p opens.page_is;
    }

paged_opened : (all : List Answer) (l t : Lists) (ask : Ask) (at : List Change) (c : Cursor) (p : Page) (ts : List Turn) → Opens l ask at c p t → AllMet t ts
    → joined c.number all ≡ joined c.number (opened c p ∷ answers_to t ts) → newest c.number false all ≡ newest c.number false (opened c p ∷ answers_to t ts) → IsPaged ask at c all t ts
unfolding joined newest
paged_opened all l t ask at c p ts opens met items last =
    let self : (c.number == c.number) ≡ true = eq-eqb c.number c.number refl in
    let more : joined c.number all ≡ p.items ++ joined c.number (answers_to t ts) = items ∙ ap (λ x. (if x then p.items else []) ++ joined c.number (answers_to t ts)) self in
    let end : newest c.number false all ≡ newest c.number p.last (answers_to t ts) = last ∙ ap (λ x. newest c.number (if x then p.last else false) (answers_to t ts)) self in
    let given = opened_given l t ask at c p opens in
    record {
      hole = opens.hole;
      site = opens.site;
      count = opens.count;
      asked = opens.asked;
      place = opens.place;
      environment = opens.environment;
      version = opens.version;
      told = rw (more, end) (follows c.number c.env c.version p.items p.last t ts given met);
      heeds = all_heed c.number c.env c.version p.items p.last t ts given met;
    }

paged_by : (all : List Answer) (l t : Lists) (ask : Ask) (at : List Change) (a : Answer) (ts : List Turn) → Steps l ask at a t → AllMet t ts
    → ((k : ℕ) → l.made < k → joined k all ≡ joined k (a ∷ answers_to t ts)) → ((k : ℕ) → l.made < k → newest k false all ≡ newest k false (a ∷ answers_to t ts)) → PagedBy a ask at all t ts
paged_by all l t ask at (opened c p) ts step met items last = let new : l.made < c.number = omega (arith, step.number) in paged_opened all l t ask at c p ts step met (items c.number new) (last c.number new)
paged_by all l t ask at (turned c p) ts step met items last = tt
paged_by all l t ask at (withdrawn j x n) ts step met items last = tt
paged_by all l t ask at (explained c x) ts step met items last = tt
paged_by all l t ask at (accepted x) ts step met items last = tt
paged_by all l t ask at (refused f) ts step met items last = tt
paged_by all l t ask at quiet ts step met items last = tt
paged_by all l t ask at ended ts step met items last = tt

pages : (all : List Answer) (l : Lists) (ts : List Turn) → IsFresh l → ToCome all l ts → AllMet l ts → AllPaged all l ts
unfolding AllMet AllPaged answers_to joined newest
pages all l [] fresh come met = tt
pages all l (t ∷ ts) fresh come met =
    let step = shape l t met.0 in
    let new = stays_fresh l (next l t) t.ask t.met.at (answer l t) fresh step in (
      paged_by all l (next l t) t.ask t.met.at (answer l t) ts step met.1 come.items come.last,
      pages all (next l t) ts new.none (record {
        items = λ k less. let before : l.made < k = omega (arith, less, new.later) in come.items k before ∙ ap (λ xs. xs ++ joined k (answers_to (next l t) ts)) (new.items k less);
        last = λ k less. let before : l.made < k = omega (arith, less, new.later) in come.last k before ∙ ap (λ b. newest k b (answers_to (next l t) ts)) (new.last k false less);
      }) met.1,
    )

-- In a run from a new session each completion that is answered by a list is paged as it should be.
pub every_page : (ts : List Turn) → AllMet start.lists ts → AllPaged (answers_to start.lists ts) start.lists ts
every_page ts met = pages (answers_to start.lists ts) start.lists ts (λ k less. look_empty k) (record { items = λ k less. refl; last = λ k less. refl }) met
