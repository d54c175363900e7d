-- Each answer has one of eight shapes; nothing above looks at a question again.
use Rattle.std.proofs.Common.{◌≡◌, ◌⊎◌, ℕ, suc, List, length, refl, sym, ap, subst, true, false, Bool, Option, None, Some, inl, inr}
use Rattle.std.specs.Prelude.{if◌then◌else◌, leb}
use Rattle.decl_index.specs.declared.change.Change.{Change}
use Rattle.decl_index.specs.declared.change.ChangeFault.{ChangeFault}
use Rattle.decl_index.specs.History.{first_withdrawal}
use Rattle.java_bodies.specs.declared.site.HoleSite.{HoleSite}
use Rattle.answers.specs.declared.types.Hole.{Hole}
use Rattle.answers.specs.declared.types.Page.{Page}
use Rattle.answers.specs.declared.types.Cursor.{Cursor}
use Rattle.answers.specs.Holes.{IsSite, IsEnvironmentIn}
use Rattle.answers.specs.Cursors.{IsPageOf, Lists, look, moved, without, with_cursor}
use Rattle.answers.specs.Certificates.{Certificate, spelled, bounded, IsItemAt, AreFloorsOf}
use Rattle.terms.specs.Expr.{Expr}
use Rattle.answers.specs.Asks.{Ask, complete, page, close, explain, change, exit, other, Short, Enough, Lacking, Ending, Met, Answer, opened, turned, withdrawn, explained, accepted, refused, quiet, ended, new_cursor, is_used_up, completed_at, completed, turned_or, paged, spelled_or, item_explained, explained_by, explained_in, changed, by_short, OpensBy, ExplainsBy, IsMetIf, IsMetBy}
use Rattle.answers.specs.Turns.{Turn, answer, next}
use Rattle.answers.proofs.Looks.{look_number}

-- A new cursor and its page.
pub record Opens (l : Lists) (ask : Ask) (at : List Change) (c : Cursor) (p : Page) (t : Lists) : Type 0 where
  pub hole : Hole
  pub site : HoleSite
  pub count : ℕ
  pub asked : ask ≡ complete hole count
  pub number : c.number ≡ suc l.made
  pub version : c.version ≡ length at
  pub answered : c.answered ≡ length p.items
  pub place : IsSite hole (Some site)
  pub environment : IsEnvironmentIn at hole site c.env
  pub page_is : IsPageOf c.env 0 count p
  pub gives : t ≡ with_cursor c l

-- A further page of a cursor.
pub record Turns (l : Lists) (at : List Change) (c : Cursor) (p : Page) (t : Lists) : Type 0 where
  pub count : ℕ
  pub is : look c.number l.cursors ≡ Some c
  pub stands : first_withdrawal at c.version ≡ None
  pub page_is : IsPageOf c.env c.answered count p
  pub gives : t ≡ record l { cursors = moved c.number (length p.items) l.cursors }

-- A page that is refused, since the cursor's version was withdrawn.
pub record Withdraws (l : Lists) (at : List Change) (k v n : ℕ) (t : Lists) : Type 0 where
  pub cursor : Cursor
  pub is : look k l.cursors ≡ Some cursor
  pub version : v ≡ cursor.version
  pub gone : first_withdrawal at cursor.version ≡ Some n
  pub gives : t ≡ l

-- What a certificate of a cursor says: a term that was answered, at its place in the list, or floors of the list.
abbrev pub Certifies : Ask → Cursor → Certificate → Type 0
Certifies ask c (spelled term) = (i : ℕ) × (ask ≡ explain c.number (Some i)) × (leb c.answered i ≡ false) × IsItemAt c.env i (Some term)
Certifies ask c (bounded floors) = (ask ≡ explain c.number None) × AreFloorsOf c.env floors

-- An explanation of a cursor that is kept.
pub record Explains (l : Lists) (ask : Ask) (c : Cursor) (x : Certificate) (t : Lists) : Type 0 where
  pub is : look c.number l.cursors ≡ Some c
  pub certifies : Certifies ask c x
  pub gives : t ≡ l

abbrev pub Steps : Lists → Ask → List Change → Answer → Lists → Type 0
Steps l ask at (opened c p) t = Opens l ask at c p t
Steps l ask at (turned c p) t = Turns l at c p t
Steps l ask at (withdrawn k v n) t = Withdraws l at k v n t
Steps l ask at (explained c x) t = Explains l ask c x t
Steps l ask at (accepted v) t = t ≡ l
Steps l ask at (refused f) t = t ≡ l
Steps l ask at quiet t = (t ≡ l) ⊎ ((k : ℕ) × (t ≡ record l { cursors = without k l.cursors }))
Steps l ask at ended t = t ≡ l

abbrev StepsTo : Lists → Ask → List Change → Lists × Answer → Type 0
StepsTo l ask at r = Steps l ask at r.1 r.0

opening : (l : Lists) (m : Met) (hole : Hole) (count : ℕ) (site : HoleSite) (x : Bool) → IsSite hole (Some site) → (x ≡ false → IsEnvironmentIn m.at hole site m.env × IsPageOf m.env 0 count m.page)
    → StepsTo l (complete hole count) m.at (if x then (l, quiet) else (with_cursor (new_cursor l m hole site) l, opened (new_cursor l m hole site) m.page))
opening l m hole count site true place may = inl refl
opening l m hole count site false place may = record {
  hole = hole;
  site = site;
  count = count;
  asked = refl;
  number = refl;
  version = refl;
  answered = refl;
  place = place;
  environment = (may refl).0;
  page_is = (may refl).1;
  gives = refl;
}

completing : (l : Lists) (m : Met) (hole : Hole) (count : ℕ) (site : Option HoleSite) → IsSite hole site → OpensBy l m hole count site → StepsTo l (complete hole count) m.at (completed l m hole site)
unfolding completed_at
completing l m hole count None place may = inl refl
completing l m hole count (Some site) place may = opening l m hole count site (is_used_up l) place may

turning : (l : Lists) (m : Met) (k count : ℕ) (c : Cursor) → look c.number l.cursors ≡ Some c → (o : Option ℕ) → first_withdrawal m.at c.version ≡ o → (o ≡ None → IsPageOf c.env c.answered count m.page) → StepsTo l (page k count) m.at (turned_or l m c o)
turning l m k count c is (Some through) e may = record { cursor = c; is = is; version = refl; gone = e; gives = refl }
turning l m k count c is None e may = record { count = count; is = is; stands = e; page_is = may refl; gives = refl }

paging : (l : Lists) (m : Met) (k count : ℕ) → ((c : Cursor) → look k l.cursors ≡ Some c → first_withdrawal m.at c.version ≡ None → IsPageOf c.env c.answered count m.page) → (o : Option Cursor) → look k l.cursors ≡ o → StepsTo l (page k count) m.at (paged l m o)
paging l m k count may None e = inl refl
paging l m k count may (Some c) e = turning l m k count c (subst (λ j. look j l.cursors ≡ Some c) (sym (look_number k l.cursors c e)) e) (first_withdrawal m.at c.version) refl (may c e)

spelling : (l : Lists) (at : List Change) (k i : ℕ) (c : Cursor) → look k l.cursors ≡ Some c → k ≡ c.number → leb c.answered i ≡ false → (o : Option Expr) → IsItemAt c.env i o → StepsTo l (explain k (Some i)) at (spelled_or l c o)
spelling l at k i c is same low None there = inl refl
spelling l at k i c is same low (Some term) there = record {
  is = subst (λ j. look j l.cursors ≡ Some c) same is;
  certifies = (i, ap (λ j. explain j (Some i)) same, low, there);
  gives = refl;
}

of_item : (l : Lists) (m : Met) (k i : ℕ) (c : Cursor) → look k l.cursors ≡ Some c → k ≡ c.number → (b : Bool) → leb c.answered i ≡ b → (leb c.answered i ≡ false → IsItemAt c.env i m.term)
    → StepsTo l (explain k (Some i)) m.at (if b then (l, quiet) else spelled_or l c m.term)
of_item l m k i c is same true e may = inl refl
of_item l m k i c is same false e may = spelling l m.at k i c is same e m.term (may e)

of_cursor : (l : Lists) (m : Met) (k : ℕ) (item : Option ℕ) (c : Cursor) → look k l.cursors ≡ Some c → k ≡ c.number → ExplainsBy m c item → StepsTo l (explain k item) m.at (explained_by l m c item)
unfolding item_explained
of_cursor l m k None c is same may = record { is = subst (λ j. look j l.cursors ≡ Some c) same is; certifies = (ap (λ j. explain j None) same, may); gives = refl }
of_cursor l m k (Some i) c is same may = of_item l m k i c is same (leb c.answered i) refl may

explaining : (l : Lists) (m : Met) (k : ℕ) (item : Option ℕ) → ((c : Cursor) → look k l.cursors ≡ Some c → ExplainsBy m c item) → (o : Option Cursor) → look k l.cursors ≡ o → StepsTo l (explain k item) m.at (explained_in l m item o)
explaining l m k item may None e = inl refl
explaining l m k item may (Some c) e = of_cursor l m k item c e (sym (look_number k l.cursors c e)) (may c e)

changing : (l : Lists) (m : Met) (c : Change) (o : Option ChangeFault) → StepsTo l (change c) m.at (changed l m o)
changing l m c None = refl
changing l m c (Some f) = refl

shaped : (h : Short) (l : Lists) (m : Met) (ask : Ask) → IsMetIf h l m ask → StepsTo l ask m.at (by_short h l ask m)
shaped Enough l m (complete hole count) may = completing l m hole count m.site may.0 may.1
shaped Enough l m (page k count) may = paging l m k count may (look k l.cursors) refl
shaped Enough l m (close k) may = inr (k, refl)
shaped Enough l m (explain k item) may = explaining l m k item may (look k l.cursors) refl
shaped Enough l m (change c) may = changing l m c m.fault
shaped Enough l m exit may = refl
shaped Enough l m other may = inl refl
shaped Lacking l m (complete hole count) may = inl refl
shaped Lacking l m (page k count) may = inl refl
shaped Lacking l m (close k) may = inl refl
shaped Lacking l m (explain k item) may = inl refl
shaped Lacking l m (change c) may = inl refl
shaped Lacking l m exit may = refl
shaped Lacking l m other may = inl refl
shaped Ending l m ask may = refl

-- The shape of an answer to a question that met what it may.
pub shape : (l : Lists) (t : Turn) → IsMetBy l t.ask t.met → Steps l t.ask t.met.at (answer l t) (next l t)
shape l t may = shaped t.met.short l t.met t.ask may
