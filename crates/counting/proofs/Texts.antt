-- The files of a text's lines, one after the other, and the text itself.
use Rattle.std.proofs.Common.{◌≡◌, ◌∙◌, sym, ap, subst, inl, inr, ⊎_elim, ℕ, ◌+◌, ◌<◌, ◌≤◌, ◌⊎◌, List, [], ◌++◌, length, get_or, Option, Some, None, Result, Ok, Err}
use Rattle.std.specs.Str.Lines.{lines}
use Rattle.std.proofs.lemmas.List.{map-append}
use Rattle.outside.specs.Held.{held_under}
use Rattle.outside.specs.declared.shelf.HeldFile.{HeldFile}
use Rattle.usage_counts.specs.Counts.{Numbers}
use Rattle.start_text.specs.Lines.{paths_in, paths_of}
use Rattle.start_text.specs.Starts.{text_fault}
use Rattle.start_text.specs.Faults as start
use Rattle.start_text.specs.declared.fault.StartFault.{StartFault}
use Rattle.start_text.proofs.Reading.{path_at, paths_after, after-more, after-all}
use Rattle.start_text.specs.Taken.{held_for}
use Rattle.counting.specs.Counted.{CountsLines, IsTextFault, CountsText}
use Rattle.counting.specs.declared.fault.CountFault.{CountFault}
use Rattle.counting.specs.declared.fault.CountFault.TheVariants.{Start, Code}
use Rattle.counting.proofs.FileUses.{counts-none, counts-then, counts-stop}

-- So many lines were counted: what counts the rest counts the whole.
abbrev pub IsCounted : List HeldFile → List ℕ → ℕ → Numbers → Numbers → Type 0
IsCounted files text i old now = (new : Numbers) (r : Result (Unit {0}) CountFault) → CountsLines (held_for files (paths_after text i)) now new r → CountsLines (held_for files (paths_in text)) old new r

held-more : (files : List HeldFile) (text : List ℕ) (i : ℕ) (x : List ℕ) → i < length (lines text) → x ≡ get_or (lines text) i x → held_for files (paths_after text i) ≡ held_for files (path_at (i + 1) x) ++ held_for files (paths_after text (i + 1))
held-more files text i x l e = ap (held_for files) (after-more text i x l e) ∙ map-append (λ (p : ℕ × List ℕ). (p.0, held_under files p.1)) (path_at (i + 1) x) (paths_after text (i + 1))

pub counted-none : (files : List HeldFile) (text : List ℕ) (old : Numbers) → IsCounted files text 0 old old
counted-none files text old new r h = h

pub counted-more : (files : List HeldFile) (text : List ℕ) (i : ℕ) (x : List ℕ) (old now next : Numbers) → i < length (lines text) → x ≡ get_or (lines text) i x → IsCounted files text i old now
    → CountsLines (held_for files (path_at (i + 1) x)) now next (Ok tt) → IsCounted files text (i + 1) old next
counted-more files text i x old now next l e counted one new r h =
    counted new r (subst (λ ls. CountsLines ls now new r) (sym (held-more files text i x l e)) (counts-then (held_for files (path_at (i + 1) x)) (held_for files (paths_after text (i + 1))) now next new r one h))

pub counted-stop : (files : List HeldFile) (text : List ℕ) (i : ℕ) (x : List ℕ) (old now new : Numbers) (fault : CountFault) → i < length (lines text) → x ≡ get_or (lines text) i x → IsCounted files text i old now
    → CountsLines (held_for files (path_at (i + 1) x)) now new (Err fault) → CountsLines (held_for files (paths_in text)) old new (Err fault)
counted-stop files text i x old now new fault l e counted one =
    counted new (Err fault) (subst (λ ls. CountsLines ls now new (Err fault)) (sym (held-more files text i x l e)) (counts-stop (held_for files (path_at (i + 1) x)) (held_for files (paths_after text (i + 1))) now new fault one))

pub counted-all : (files : List HeldFile) (text : List ℕ) (i : ℕ) (old now : Numbers) → length (lines text) ≤ i → IsCounted files text i old now → CountsLines (held_for files (paths_in text)) old now (Ok tt)
counted-all files text i old now l counted =
    counted now (Ok tt) (subst (λ ps. CountsLines (held_for files ps) now now (Ok tt)) (sym (after-all text i l)) (counts-none now))

-- A text that isn't read.
same-some : {X : Type 0} (x y : X) (a : Option X) → a ≡ Some x → a ≡ Some y → x ≡ y
same-some x y a e f = cc

some-none : {X : Type 0} (x : X) (a : Option X) → a ≡ Some x → a ≡ None → ⊥
some-none x a e f = cc

refused-text : (held : Option (List ℕ)) (fault : StartFault) (other : CountFault) → text_fault held ≡ Some fault → IsTextFault held other → Start fault ≡ other
refused-text held fault (Start other) e h = ap Start (same-some fault other (text_fault held) e h)
refused-text held fault (Code line why) e h = absurd h

pub no-text : (files : List HeldFile) (name : List ℕ) (fault : StartFault) → start.IsOutside fault ⊎ (text_fault (held_under files name) ≡ Some fault) → CountsText files name (Err (Start fault))
no-text files name fault (inl free) = record {
  counted = tt;
  only = λ numbers h. free;
  first = inl free;
  refused = λ other h. inl free;
}
no-text files name fault (inr wrong) = record {
  counted = tt;
  only = λ numbers h. absurd (some-none fault (text_fault (held_under files name)) wrong h.sound);
  first = inr (inl wrong);
  refused = λ other h. ⊎_elim (λ f. inr (refused-text (held_under files name) fault other wrong f)) (λ g. absurd (some-none fault (text_fault (held_under files name)) wrong g.0)) h;
}

-- A text of which the files were counted.
sound-text : (held : Option (List ℕ)) (fault : CountFault) → text_fault held ≡ None → IsTextFault held fault → ⊥
sound-text held (Start fault) sound h = some-none fault (text_fault held) h sound
sound-text held (Code line why) sound h = h

pub text-counted : (files : List HeldFile) (name text : List ℕ) (numbers : Numbers) → held_under files name ≡ Some text → text_fault (held_under files name) ≡ None → CountsLines (held_for files (paths_in text)) [] numbers (Ok tt) → CountsText files name (Ok numbers)
text-counted files name text numbers is sound counts =
    let h : CountsLines (held_for files (paths_of (held_under files name))) [] numbers (Ok tt) = subst (λ o. CountsLines (held_for files (paths_of o)) [] numbers (Ok tt)) (sym is) counts in
    record {
      counted = record { sound = sound; keys = h.added.0; uses = h.added.1; counts = h.added.2 };
      only = λ other c. tt;
      first = tt;
      refused = λ fault f. ⊎_elim (λ t. sound-text (held_under files name) fault sound t) (λ g. h.refused fault g.1) f;
    }

pub text-stopped : (files : List HeldFile) (name text : List ℕ) (numbers : Numbers) (fault : CountFault) → held_under files name ≡ Some text → text_fault (held_under files name) ≡ None → CountsLines (held_for files (paths_in text)) [] numbers (Err fault) → CountsText files name (Err fault)
text-stopped files name text numbers fault is sound counts =
    let h : CountsLines (held_for files (paths_of (held_under files name))) [] numbers (Err fault) = subst (λ o. CountsLines (held_for files (paths_of o)) [] numbers (Err fault)) (sym is) counts in
    record {
      counted = tt;
      only = λ other c. h.only c.keys c.uses;
      first = ⊎_elim inl (λ f. inr (inr (sound, f))) h.first;
      refused = λ other f. ⊎_elim (λ t. absurd (sound-text (held_under files name) other sound t)) (λ g. h.refused other g.1) f;
    }
