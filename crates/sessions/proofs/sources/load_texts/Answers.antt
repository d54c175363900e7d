use Rattle.std.proofs.Common.{◌≡◌, ◌≤◌, ◌++◌, ◌∷◌, [], length, subst, sym, List, ℕ, refl, rules}
use Rattle.std.specs.Prelude.{All}
use Rattle.std.proofs.lemmas.List.Elements.{All-push}
use Rattle.outside.specs.Held.{longest_load}
use Rattle.sessions.proofs.Filing.{files_start, files_then, files_as, not_empty, smaller}
use Rattle.sessions.proofs.Sourcing.{up_to_start, read_text, unread_here, texts_all}
use Rattle.sessions.proofs.sources.load_texts.Goals as goal

pub loop-name-init : goal.loop-name-init
loop-name-init g c = record { files = files_start _; read = up_to_start _ _ _ _ (search rules); short = search rules; none = λ e. (e, refl) }

pub loop-name-preserved : goal.loop-name-preserved
loop-name-preserved g c =
    let found = c.in-Ok.ensures.found in
    let grown : c.push.new.self ≡ c.loop-name.texts ++ c.in-Ok.text ∷ [] = search rules in
    record {
      files = files_then {R = ⊥} _ _ _ c.loop-name.invariant.files c.load_text.ensures.files (λ e. absurd e);
      read = read_text _ _ _ _ _ _ _ _ c.loop-name.index c.loop-name.texts c.in-Ok.text _ found.0 (c.in-Some.ensures.cases).0 (search rules) grown c.loop-name.invariant.files c.loop-name.invariant.read found.1 found.2.0 found.2.1;
      short = subst (All (λ (text : List ℕ). length text ≤ longest_load)) (sym grown) (All-push (λ (text : List ℕ). length text ≤ longest_load) c.loop-name.texts c.in-Ok.text c.loop-name.invariant.short c.in-Ok.ensures.short);
      none = λ e. not_empty _ _ _ (c.in-Some.ensures.cases).0 (c.loop-name.invariant.none e).0;
    }

pub loop-name-smaller : goal.loop-name-smaller
loop-name-smaller g c = smaller _ _ _ (c.in-Some.ensures.cases).0

pub returns-in-Err-clause-texts : goal.returns-in-Err-clause-texts
returns-in-Err-clause-texts g c =
    let found = c.in-Err.ensures.found in
    unread_here _ _ _ _ _ _ _ _ c.loop-name.index c.loop-name.texts found.0 c.in-Err.unread (c.in-Some.ensures.cases).0 (search rules) c.loop-name.invariant.files c.loop-name.invariant.read found.1 found.2

pub returns-clause-texts : goal.returns-clause-texts
returns-clause-texts g c = texts_all _ _ _ _ c.loop-name.index c.loop-name.texts c.in_default.ensures.cases c.loop-name.invariant.read
