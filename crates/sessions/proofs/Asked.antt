-- Each way to answer a question.
use Rattle.std.proofs.Common.{◌≡◌, ◌∙◌, ℕ, Vec, Global, Result, Ok, Err, suc, sym, ap, subst, refl, List, [], length, true, false, Option, Some, None, add-one}
use Rattle.std.proofs.lemmas.Bool.{true≢false}
use Rattle.std.specs.declared.alloc.AllocError.{AllocError}
use Rattle.std.specs.Prelude.{IfOk, if◌then◌else◌, is_some, slice_get}
use Rattle.std.specs.Str.{chars}
use Rattle.serde_json.specs.Data.{null}
use Rattle.decl_index.specs.History.{first_withdrawal}
use Rattle.documents.specs.Places.{position_of}
use Rattle.java_units.specs.declared.types.Unit as unit
use Rattle.java_bodies.specs.declared.site.HoleSite.{HoleSite}
use Rattle.json_rpc.specs.declared.message.Id.{Id}
use Rattle.lsp_forms.specs.declared.forms.Initialize.{Initialize}
use Rattle.terms.specs.Weights.{usual_steps}
use Rattle.terms.specs.declared.parts.Parts.{Parts}
use Rattle.answers.specs.declared.types.Page.{Page}
use Rattle.answers.specs.declared.types.Cursor.{Cursor}
use Rattle.answers.specs.declared.types.Hole.{Hole}
use Rattle.answers.specs.Cursors.{Lists, IsPageOf, look, moved, without, with_cursor}
use Rattle.answers.specs.Holes.{IsSite}
use Rattle.answers.specs.Asks.{complete, page, close, Enough, Met, classes, opened, turned, withdrawn, quiet, new_cursor, is_used_up, completed_at, turned_or, paged}
use Rattle.answers.specs.Failures.{invalid_params, version_withdrawn}
use Rattle.answers.specs.Replies.{reply_text, reply_of, result, failure, page_data}
use Rattle.sessions.specs.Kept.{StandsAt}
use Rattle.sessions.specs.Worlds.{WorldState, IsRead}
use Rattle.sessions.specs.Spots.{hole_in, IsSpot, IsMade}
use Rattle.sessions.specs.Opened.{answering, IsNewAt, Opens}
use Rattle.sessions.specs.Questions.{Answers, Leaves}
use Rattle.sessions.proofs.Sited.{site_of_unit}
use Rattle.sessions.proofs.KeptCursors.{look_at, numbered}
use Rattle.sessions.proofs.WorldReads.{read_then, may_read, stays, read_and, may_then}

abbrev no_env : Parts
no_env = record { types = []; pairs = []; decls = []; goal = 0; limit = 0; depth = 0; binder = []; steps = usual_steps }

abbrev no_page : Page
no_page = record { items = []; last = false; grown = 0 }

-- What is met where the world isn't touched.
abbrev met_at : Option HoleSite → Met
met_at site = record { at = []; loads = classes []; site = site; env = no_env; page = no_page; term = None; floors = []; fault = None; short = Enough }

site_of : (text : List ℕ) (place : ℕ) (options : Initialize) (u : unit.Unit) (site : Option HoleSite) → IsSpot text place u site → IsSite (hole_in text place options) site
site_of text place options u site h = record { tokens = h.tokens; unit = u; lexed = h.lexed; parsed = h.parsed; is = h.is }

-- No hole.
pub no_hole : (l : Lists) (id : Id) (text : List ℕ) (place : ℕ) (options : Initialize) (u : unit.Unit) (site : Option HoleSite) (reply : List ℕ) (old new : WorldState)
    → IsSpot text place u site → site ≡ None → reply ≡ reply_text (Some id) (result null) → new ≡ old
    → Answers l (complete (hole_in text place options) options.count) id l reply old new
no_hole l id text place options u site reply old new h none told same = record {
  met = met_at None;
  enough = refl;
  no_file = refl;
  lawful = (site_of text place options u None (subst (λ o. IsSpot text place u o) none h), tt);
  lists = refl;
  told = sym told;
  leaves = same;
}

full : (l : Lists) (m : Met) (hole : Hole) (site : HoleSite) → is_used_up l ≡ true → completed_at l m hole site ≡ (l, quiet)
unfolding completed_at
full l m hole site e = rw e refl

-- All cursors were made.
pub used_up : (l : Lists) (id : Id) (text : List ℕ) (place : ℕ) (options : Initialize) (u : unit.Unit) (site : Option HoleSite) (s : HoleSite) (reply : List ℕ) (old new : WorldState)
    → IsSpot text place u site → site ≡ Some s → is_used_up l ≡ true → reply ≡ reply_text (Some id) (failure (invalid_params 2 0)) → new ≡ old
    → Answers l (complete (hole_in text place options) options.count) id l reply old new
used_up l id text place options u site s reply old new h some e told same =
    let met : Met = met_at (Some s) in
    let hole : Hole = hole_in text place options in
    let is : completed_at l met hole s ≡ (l, quiet) = full l met hole s e in
    record {
      met = met;
      enough = refl;
      no_file = refl;
      lawful = (site_of text place options u (Some s) (subst (λ o. IsSpot text place u o) some h), λ f. absurd (true≢false (sym e ∙ f)));
      lists = ap (λ p. p.0) is;
      told = ap (λ p. reply_text (Some id) (reply_of l met (complete hole options.count) p.1)) is ∙ sym told;
      leaves = subst (λ p. Leaves p.1 [] [] old new) (sym is) same;
    }

room : (l : Lists) (m : Met) (hole : Hole) (site : HoleSite) → is_used_up l ≡ false → completed_at l m hole site ≡ (with_cursor (new_cursor l m hole site) l, opened (new_cursor l m hole site) m.page)
unfolding completed_at
room l m hole site e = rw e refl

-- A new cursor and its first page.
pub opens : (l next : Lists) (id : Id) (text : List ℕ) (place : ℕ) (options : Initialize) (u : unit.Unit) (site : Option HoleSite) (s : HoleSite) (c : Cursor) (reply : List ℕ) (old mid new : WorldState)
    → IsSpot text place u site → site ≡ Some s → is_used_up l ≡ false → IsMade mid.known u s options c.env c.version → IsRead old mid → new ≡ mid
    → IsNewAt l.made text s c
    → Opens l id c options.count next reply
    → Answers l (complete (hole_in text place options) options.count) id next reply old new
opens l next id text place options u site s c reply old mid new h some e made read same is op =
    let hole : Hole = hole_in text place options in
    let start : ℕ × ℕ = position_of (chars text) s.prefix.0 in
    let end : ℕ × ℕ = position_of (chars text) s.prefix.1 in
    let met : Met = record { at = mid.known; loads = classes []; site = Some s; env = c.env; page = op.page; term = None; floors = []; fault = None; short = Enough } in
    let spot : IsSpot text place u (Some s) = subst (λ o. IsSpot text place u o) some h in
    let cursor : answering c op.page ≡ new_cursor l met hole s =
    let n : ℕ = length op.page.items in
    ap (λ k. record { number = k; env = c.env; version = c.version; start = c.start; end = c.end; answered = n }) (is.number ∙ add-one l.made)
    ∙ ap (λ v. record { number = suc l.made; env = c.env; version = v; start = c.start; end = c.end; answered = n }) made.number
    ∙ ap (λ p. record { number = suc l.made; env = c.env; version = length mid.known; start = p; end = c.end; answered = n }) is.start
    ∙ ap (λ p. record { number = suc l.made; env = c.env; version = length mid.known; start = start; end = p; answered = n }) is.end in
    let answer : completed_at l met hole s ≡ (with_cursor (new_cursor l met hole s) l, opened (new_cursor l met hole s) op.page) = room l met hole s e in
    record {
      met = met;
      enough = refl;
      no_file = refl;
      lawful = (
        site_of text place options u (Some s) spot,
        λ f. (
          record { state = made.state; tokens = spot.tokens; unit = u; is_state = made.is_state; lexed = spot.lexed; parsed = spot.parsed; gives = made.gives },
          op.is_page,
        ),
      );
      lists = ap (λ p. p.0) answer ∙ ap (λ x. with_cursor x l) (sym cursor) ∙ sym op.lists;
      told = ap (λ p. reply_text (Some id) (reply_of l met (complete hole options.count) p.1)) answer ∙ ap (λ x. reply_text (Some id) (result (page_data x 0 op.page))) (sym cursor) ∙ sym op.told;
      leaves = subst (λ p. Leaves p.1 mid.known [] old new) (sym answer) (ap (λ w. w.known) (sym same), read_then old mid new read same);
    }

-- The cursor of a number by whether its version is withdrawn.
found : (l : Lists) (m : Met) (k : ℕ) (c : Cursor) (o : Option ℕ) → look k l.cursors ≡ Some c → first_withdrawal m.at c.version ≡ o → paged l m (look k l.cursors) ≡ turned_or l m c o
found l m k c o is e = ap (paged l m) is ∙ ap (turned_or l m c) e

some_same : (c d : Cursor) → Some c ≡ Some d → c ≡ d
some_same c d e = cc

-- A further page.
pub turns : (l next : Lists) (id : Id) (k i n : ℕ) (c : Cursor) (p : Page) (reply : List ℕ) (old mid new : WorldState)
    → StandsAt l.cursors k i → slice_get l.cursors i ≡ Some c → None ≡ first_withdrawal mid.known c.version → IsRead old mid → new ≡ mid → IsPageOf c.env c.answered n p
    → next ≡ record l { cursors = moved k (length p.items) l.cursors } → reply ≡ reply_text (Some id) (result (page_data c c.answered p))
    → Answers l (page k n) id next reply old new
turns l next id k i n c p reply old mid new stands at stays_on read same is_page to told =
    let met : Met = record { at = mid.known; loads = classes []; site = None; env = no_env; page = p; term = None; floors = []; fault = None; short = Enough } in
    let here : look k l.cursors ≡ Some c = look_at k i l.cursors c stands at in
    let number : c.number ≡ k = numbered k i l.cursors c stands at in
    let answer : paged l met (look k l.cursors) ≡ (record l { cursors = moved c.number (length p.items) l.cursors }, turned c p) = found l met k c None here (sym stays_on) in
    record {
      met = met;
      enough = refl;
      no_file = refl;
      lawful = λ d e f. subst (λ x. IsPageOf x.env x.answered n p) (some_same c d (sym here ∙ e)) is_page;
      lists = ap (λ q. q.0) answer ∙ ap (λ x. record l { cursors = moved x (length p.items) l.cursors }) number ∙ sym to;
      told = ap (λ q. reply_text (Some id) (reply_of l met (page k n) q.1)) answer ∙ sym told;
      leaves = subst (λ q. Leaves q.1 mid.known [] old new) (sym answer) (ap (λ w. w.known) (sym same), read_then old mid new read same);
    }

none_some : (o : Option ℕ) (n : ℕ) → o ≡ None → o ≡ Some n → ⊥
none_some o n p q = absurd cc

-- A page of a version that is withdrawn.
pub gone : (l : Lists) (id : Id) (k i n through : ℕ) (c : Cursor) (reply : List ℕ) (old new : WorldState)
    → StandsAt l.cursors k i → slice_get l.cursors i ≡ Some c → Some through ≡ first_withdrawal new.known c.version → IsRead old new
    → reply ≡ reply_text (Some id) (failure (version_withdrawn through c.version))
    → Answers l (page k n) id l reply old new
gone l id k i n through c reply old new stands at out read told =
    let met : Met = record { at = new.known; loads = classes []; site = None; env = no_env; page = no_page; term = None; floors = []; fault = None; short = Enough } in
    let here : look k l.cursors ≡ Some c = look_at k i l.cursors c stands at in
    let answer : paged l met (look k l.cursors) ≡ (l, withdrawn c.number c.version through) = found l met k c (Some through) here (sym out) in
    record {
      met = met;
      enough = refl;
      no_file = refl;
      lawful = λ d e f. absurd (none_some (first_withdrawal new.known c.version) through (ap (λ x. first_withdrawal new.known x.version) (some_same c d (sym here ∙ e)) ∙ f) (sym out));
      lists = ap (λ q. q.0) answer;
      told = ap (λ q. reply_text (Some id) (reply_of l met (page k n) q.1)) answer ∙ sym told;
      leaves = subst (λ q. Leaves q.1 new.known [] old new) (sym answer) (refl, read);
    }

nothing_here : {P : Type 0} (c : Cursor) → None ≡ Some c → P
nothing_here c e = absurd cc

-- A page of a cursor that isn't kept.
pub missing : (l : Lists) (id : Id) (k n : ℕ) (reply : List ℕ) (old new : WorldState)
    → look k l.cursors ≡ None → reply ≡ reply_text (Some id) (failure (invalid_params 6 0)) → new ≡ old
    → Answers l (page k n) id l reply old new
missing l id k n reply old new none told same =
    let met : Met = met_at None in
    let answer : paged l met (look k l.cursors) ≡ (l, quiet) = ap (paged l met) none in
    record {
      met = met;
      enough = refl;
      no_file = refl;
      lawful = λ c e f. nothing_here c (sym none ∙ e);
      lists = ap (λ q. q.0) answer;
      told = ap (λ q. reply_text (Some id) (reply_of l met (page k n) q.1)) answer ∙ sym told;
      leaves = subst (λ q. Leaves q.1 [] [] old new) (sym answer) same;
    }

-- A cursor is closed, kept or not.
pub shuts : (l next : Lists) (id : Id) (k : ℕ) (reply : List ℕ) (w : WorldState)
    → next ≡ record l { cursors = without k l.cursors } → reply ≡ reply_text (Some id) (if is_some (look k l.cursors) then result null else failure (invalid_params 6 0))
    → Answers l (close k) id next reply w w
shuts l next id k reply w to told = record {
  met = met_at None;
  enough = refl;
  no_file = refl;
  lawful = tt;
  lists = sym to;
  told = sym told;
  leaves = refl;
}

pub no_hole_by : (l : Lists) (id : Id) (text : List ℕ) (place : ℕ) (options : Initialize) (u : unit.Unit) (site : Option HoleSite) (r : Result (Vec ℕ Global) AllocError) (old new : WorldState)
    → IsSpot text place u site → site ≡ None → new ≡ old → IfOk r (λ b. b.items ≡ reply_text (Some id) (result null))
    → IfOk r (λ b. Answers l (complete (hole_in text place options) options.count) id l b.items old new)
no_hole_by l id text place options u site (Ok b) old new h none same told = no_hole l id text place options u site b.items old new h none told same
no_hole_by l id text place options u site (Err e) old new h none same told = tt

pub missing_by : (l : Lists) (id : Id) (k n : ℕ) (r : Result (Vec ℕ Global) AllocError) (old new : WorldState)
    → look k l.cursors ≡ None → new ≡ old → IfOk r (λ b. b.items ≡ reply_text (Some id) (failure (invalid_params 6 0)))
    → IfOk r (λ b. Answers l (page k n) id l b.items old new)
missing_by l id k n (Ok b) old new none same told = missing l id k n b.items old new none told same
missing_by l id k n (Err e) old new none same told = tt

pub ruleset asked = (may_read, stays, read_and, may_then, no_hole, used_up, opens, turns, gone, missing, shuts, site_of_unit)
