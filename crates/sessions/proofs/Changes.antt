-- Changes of one document.
use Rattle.std.proofs.Common.{◌≡◌, ◌∙◌, sym, ap, refl, ℕ, List, [], ◌∷◌, length, Some, None, arith}
use Rattle.documents.specs.Edits.{within, edit_of}
use Rattle.lsp_forms.specs.declared.forms.ChangeForm.{ChangeForm}
use Rattle.answers.specs.declared.types.DocumentState.{DocumentState}
use Rattle.answers.specs.declared.types.DocumentState.TheVariants.{Sure, Unsure, NoMemory}
use Rattle.answers.specs.Sessions.{state_of, state_after, changed_state}

-- A change without a range sets the text.
pub whole : (s t : DocumentState) (form : ChangeForm) → form.range ≡ None → t ≡ state_of (within form.text) → t ≡ state_after s form
unfolding edit_of
whole (Sure text) t form e is = rw e is
whole Unsure t form e is = rw e is
whole NoMemory t form e is = rw e is

-- A change with a range.
pub ranged : (s t : DocumentState) (form : ChangeForm) (range : (ℕ × ℕ) × (ℕ × ℕ)) (text : List ℕ) → form.range ≡ Some range → text ≡ form.text → t ≡ state_after s (record { range = Some range; text = text }) → t ≡ state_after s form
ranged s t form range text e same is =
    is ∙ ap (λ x. state_after s (record { range = Some range; text = x })) same ∙ ap (λ r. state_after s (record { range = r; text = form.text })) (sym e)

pub changed_more : (all s t : DocumentState) (form : ChangeForm) (rest more : List ChangeForm) → all ≡ changed_state s rest → rest ≡ form ∷ more → t ≡ state_after s form → all ≡ changed_state t more
unfolding changed_state
changed_more all s t form rest more e r is = e ∙ ap (changed_state s) r ∙ ap (λ x. changed_state x more) (sym is)

no_more : (s : DocumentState) (rest : List ChangeForm) → length rest ≡ 0 → changed_state s rest ≡ s
unfolding changed_state
no_more s [] e = refl
no_more s (x ∷ xs) e = absurd (omega arith)

pub changed_end : (all s : DocumentState) (rest : List ChangeForm) → all ≡ changed_state s rest → length rest ≡ 0 → s ≡ all
changed_end all s rest e n = sym (e ∙ no_more s rest n)

pub ruleset changes = (whole, ranged)
