-- Files one after the other: the keys that they use, and their first fault.
use Rattle.std.proofs.Common.{◌≡◌, ◌≢◌, ◌∙◌, refl, sym, ap, subst, arith, inl, inr, ⊎_elim, ℕ, zero, suc, ◌+◌, ◌⊎◌, List, [], ◌∷◌, ◌++◌, append_assoc, append-nil, Option, Some, None, Result, Ok, Err}
use Rattle.std.specs.Prelude.{MatchResult, IfErr, OnOk, IsErrOf}
use Rattle.std.specs.Option.{unwrap_or}
use Rattle.std.proofs.lemmas.List.Sums.{sum_by-append}
use Rattle.std.specs.Prelude.{bytes_eq, if◌then◌else◌}
use Rattle.code_walk.specs.declared.fault.WalkFault.{WalkFault}
use Rattle.code_walk.specs.declared.fault.WalkCause.{WalkCause}
use Rattle.code_walk.specs.declared.fault.WalkCause.TheVariants as walk
use Rattle.code_walk.specs.Faults.{no_memory}
use Rattle.usage_counts.specs.Counts.{Key, Numbers, held, times, with_uses, AreAdded}
use Rattle.usage_counts.specs.Files.{AreUses, IsUseFault}
use Rattle.start_text.specs.Starts.{file_fault}
use Rattle.start_text.specs.Faults as start
use Rattle.start_text.specs.declared.fault.StartFault.{StartFault}
use Rattle.start_text.specs.declared.fault.StartFault.TheVariants.{Failed, OutOfMemory}
use Rattle.counting.specs.Faults.{IsOutside, of_walk}
use Rattle.counting.specs.Counted.{Lines, UsesOfFiles, IsFileFault, IsFirstFault, CountsLines}
use Rattle.counting.specs.declared.fault.CountFault.{CountFault}
use Rattle.counting.specs.declared.fault.CountFault.TheVariants.{Start, Code}

-- Uses that are added twice.
held-more : (v m n : ℕ) → held (held (v + m) + n) ≡ held (v + (m + n))
held-more v m n = omega arith

with-is : (o : Option ℕ) (n k : ℕ) → k ≡ suc n → with_uses o k ≡ Some (held (unwrap_or o 0 + k))
with-is o n k e = subst (λ j. with_uses o j ≡ Some (held (unwrap_or o 0 + j))) (sym e) refl

with-more : (o : Option ℕ) (m n : ℕ) → with_uses (with_uses o m) n ≡ with_uses o (m + n)
with-more o m zero = ap (with_uses o) (let e : m ≡ m + 0 = omega arith in e)
with-more o zero (suc n) = ap (with_uses o) (let e : suc n ≡ 0 + suc n = omega arith in e)
with-more o (suc m) (suc n) = ap Some (held-more (unwrap_or o 0) (suc m) (suc n)) ∙ sym (with-is o (m + suc n) (suc m + suc n) (omega arith))

times-then : (key : Key) (ks ls : List Key) → times key (ks ++ ls) ≡ times key ks + times key ls
times-then key ks ls = sum_by-append (λ k. if bytes_eq key k then 1 else 0) ks ls

added-then : (a b c : Numbers) (ks ls : List Key) → AreAdded a ks b → AreAdded b ls c → AreAdded a (ks ++ ls) c
added-then a b c ks ls first second key =
    second key ∙ ap (λ o. with_uses o (times key ls)) (first key) ∙ with-more _ (times key ks) (times key ls) ∙ ap (with_uses _) (sym (times-then key ks ls))

-- The uses of some files and of others.
uses-join : (fs bs : Lines) (ks ls : List Key) → UsesOfFiles fs ks → UsesOfFiles bs ls → UsesOfFiles (fs ++ bs) (ks ++ ls)
uses-join [] bs ks ls none u = subst (λ k. UsesOfFiles bs (k ++ ls)) (sym none) u
uses-join (f ∷ fs) bs ks ls (first, rest, e, one, more) u =
    (first, rest ++ ls, ap (λ k. k ++ ls) e ∙ append_assoc first rest ls, one, uses-join fs bs rest ls more u)

pub record Split (fs bs : Lines) (keys : List Key) : Type 0 where
  pub front : List Key
  pub back : List Key
  pub whole : keys ≡ front ++ back
  pub of_front : UsesOfFiles fs front
  pub of_back : UsesOfFiles bs back

uses-split : (fs bs : Lines) (keys : List Key) → UsesOfFiles (fs ++ bs) keys → Split fs bs keys
uses-split [] bs keys u = record { front = []; back = keys; whole = refl; of_front = refl; of_back = u }
uses-split (f ∷ fs) bs keys (first, rest, e, one, more) =
    let s = uses-split fs bs rest more in
    record {
      front = first ++ s.front;
      back = s.back;
      whole = e ∙ ap (λ k. first ++ k) s.whole ∙ sym (append_assoc first s.front s.back);
      of_front = (first, s.front, refl, one, s.of_front);
      of_back = s.of_back;
    }

-- The first fault of some files and others.
fault-front : (fs bs : Lines) (fault : CountFault) → IsFirstFault fs fault → IsFirstFault (fs ++ bs) fault
fault-front [] bs fault h = absurd h
fault-front (f ∷ fs) bs fault (inl h) = inl h
fault-front (f ∷ fs) bs fault (inr h) = inr (h.0, fault-front fs bs fault h.1)

fault-back : (fs bs : Lines) (keys : List Key) (fault : CountFault) → UsesOfFiles fs keys → IsFirstFault bs fault → IsFirstFault (fs ++ bs) fault
fault-back [] bs keys fault u h = h
fault-back (f ∷ fs) bs keys fault (first, rest, e, one, more) h = inr ((first, one), fault-back fs bs rest fault more h)

abbrev AllHaveUses : Lines → Type 0
AllHaveUses fs = (keys : List Key) × UsesOfFiles fs keys

fault-split : (fs bs : Lines) (fault : CountFault) → IsFirstFault (fs ++ bs) fault → IsFirstFault fs fault ⊎ (AllHaveUses fs × IsFirstFault bs fault)
fault-split [] bs fault h = inr (([], refl), h)
fault-split (f ∷ fs) bs fault (inl h) = inl (inl h)
fault-split (f ∷ fs) bs fault (inr (uses, h)) =
    ⊎_elim (λ g. inl (inr (uses, g))) (λ g. inr ((uses.0 ++ g.0.0, (uses.0, g.0.0, refl, uses.1, g.0.1)), g.1)) (fault-split fs bs fault h)

-- No file was counted yet.
pub counts-none : (old : Numbers) → CountsLines [] old old (Ok tt)
counts-none old = record {
  added = ([], refl, λ key. refl);
  only = λ keys none. subst (λ ks. AreAdded old ks old) (sym none) (λ key. refl);
  first = tt;
  refused = λ fault h. h;
}

-- Some files were counted, and then others.
only-then : (fs bs : Lines) (old mid new : Numbers) (r : Result (Unit {0}) CountFault) → CountsLines fs old mid (Ok tt) → CountsLines bs mid new r
    → (keys : List Key) → UsesOfFiles (fs ++ bs) keys → MatchResult r (λ _. AreAdded old keys new) IsOutside
only-then fs bs old mid new (Ok x) a b keys u =
    let s = uses-split fs bs keys u in
    subst (λ ks. AreAdded old ks new) (sym s.whole) (added-then old mid new s.front s.back (a.only s.front s.of_front) (b.only s.back s.of_back))
only-then fs bs old mid new (Err fault) a b keys u =
    let s = uses-split fs bs keys u in
    b.only s.back s.of_back

added-both : (fs bs : Lines) (old mid new : Numbers) (r : Result (Unit {0}) CountFault) → CountsLines fs old mid (Ok tt) → CountsLines bs mid new r
    → OnOk r ((keys : List Key) × UsesOfFiles (fs ++ bs) keys × AreAdded old keys new)
added-both fs bs old mid new (Ok x) a b =
    (a.added.0 ++ b.added.0, uses-join fs bs a.added.0 b.added.0 a.added.1 b.added.1, added-then old mid new a.added.0 b.added.0 a.added.2 b.added.2)
added-both fs bs old mid new (Err fault) a b = tt

first-both : (fs bs : Lines) (old mid new : Numbers) (r : Result (Unit {0}) CountFault) → CountsLines fs old mid (Ok tt) → CountsLines bs mid new r
    → IfErr r (λ fault. IsOutside fault ⊎ IsFirstFault (fs ++ bs) fault)
first-both fs bs old mid new (Ok x) a b = tt
first-both fs bs old mid new (Err fault) a b = ⊎_elim inl (λ h. inr (fault-back fs bs a.added.0 fault a.added.1 h)) b.first

pub counts-then : (fs bs : Lines) (old mid new : Numbers) (r : Result (Unit {0}) CountFault) → CountsLines fs old mid (Ok tt) → CountsLines bs mid new r → CountsLines (fs ++ bs) old new r
counts-then fs bs old mid new r a b = record {
  added = added-both fs bs old mid new r a b;
  only = only-then fs bs old mid new r a b;
  first = first-both fs bs old mid new r a b;
  refused = λ fault h. ⊎_elim (λ f. absurd (a.refused fault f)) (λ g. b.refused fault g.1) (fault-split fs bs fault h);
}

-- Counting stopped at some files, before others.
pub counts-stop : (fs bs : Lines) (old new : Numbers) (fault : CountFault) → CountsLines fs old new (Err fault) → CountsLines (fs ++ bs) old new (Err fault)
counts-stop fs bs old new fault a = record {
  added = tt;
  only = λ keys u. let s = uses-split fs bs keys u in a.only s.front s.of_front;
  first = ⊎_elim inl (λ h. inr (fault-front fs bs fault h)) a.first;
  refused = λ other h. ⊎_elim (λ f. a.refused other f) (λ g. inl (a.only g.0.0 g.0.1)) (fault-split fs bs other h);
}

-- A file that isn't read, or is no class file.
some-none : {X : Type 0} (x : X) (a : Option X) → a ≡ Some x → a ≡ None → ⊥
some-none x a e f = cc

same-some : {X : Type 0} (x y : X) (a : Option X) → a ≡ Some x → a ≡ Some y → x ≡ y
same-some x y a e f = cc

refused-start : (line : ℕ) (held : Option (List ℕ)) (fault : StartFault) (other : CountFault) → file_fault line held ≡ Some fault → IsFileFault line held other → Start fault ≡ other
refused-start line held fault (Start other) e h = ap Start (same-some fault other (file_fault line held) e h)
refused-start line held fault (Code at why) e h = absurd (some-none fault (file_fault line held) e h.1.sound)

pub counts-no-file : (line : ℕ) (held : Option (List ℕ)) (old new : Numbers) (fault : StartFault) → start.IsOutside fault ⊎ (file_fault line held ≡ Some fault) → CountsLines ((line, held) ∷ []) old new (Err (Start fault))
counts-no-file line held old new fault (inl free) = record {
  added = tt;
  only = λ keys u. free;
  first = inl free;
  refused = λ other h. inl free;
}
counts-no-file line held old new fault (inr wrong) = record {
  added = tt;
  only = λ keys u. absurd (some-none fault (file_fault line held) wrong u.3.sound);
  first = inr (inl wrong);
  refused = λ other h. ⊎_elim (λ f. inr (refused-start line held fault other wrong f)) (λ g. absurd g.1) h;
}

-- A class file whose code was walked.
same-bytes : (b c : List ℕ) → Some b ≡ Some c → c ≡ b
same-bytes b c e = cc

refused-file : (line : ℕ) (bytes : List ℕ) (fault : CountFault) → file_fault line (Some bytes) ≡ None → ((other : WalkFault) → IsUseFault bytes other → ⊥) → IsFileFault line (Some bytes) fault → ⊥
refused-file line bytes (Start other) sound refused h = some-none other (file_fault line (Some bytes)) h sound
refused-file line bytes (Code at why) sound refused h = refused why (subst (λ bs. IsUseFault bs why) (same-bytes bytes h.1.bytes h.1.is_held) h.1.first)

pub counts-file : (line : ℕ) (bytes : List ℕ) (old new : Numbers) → file_fault line (Some bytes) ≡ None → (keys : List Key) × AreUses bytes keys × AreAdded old keys new
    → ((keys : List Key) → AreUses bytes keys → AreAdded old keys new) → ((fault : WalkFault) → IsUseFault bytes fault → ⊥) → CountsLines ((line, Some bytes) ∷ []) old new (Ok tt)
counts-file line bytes old new sound added only refused = record {
  added = (added.0, (added.0, [], sym (append-nil added.0), record { sound = sound; bytes = bytes; is_held = refl; uses = added.1 }, refl), added.2);
  only = λ keys u.
      let uses = subst (λ bs. AreUses bs u.0) (same-bytes bytes u.3.bytes u.3.is_held) u.3.uses in
      let all : keys ≡ u.0 = u.2 ∙ ap (λ ks. u.0 ++ ks) u.4 ∙ append-nil u.0 in
      subst (λ ks. AreAdded old ks new) (sym all) (only u.0 uses);
  first = tt;
  refused = λ fault h. ⊎_elim (λ f. refused-file line bytes fault sound refused f) (λ g. g.1) h;
}

-- Its code has a fault.
refused-code : (line : ℕ) (bytes : List ℕ) (fault : WalkFault) (other : CountFault) → file_fault line (Some bytes) ≡ None → ((why : WalkFault) → IsUseFault bytes why → fault ≡ why) → IsFileFault line (Some bytes) other → Code line fault ≡ other
refused-code line bytes fault (Start other) sound one h = absurd (some-none other (file_fault line (Some bytes)) h sound)
refused-code line bytes fault (Code at why) sound one h =
    let same : fault ≡ why = one why (subst (λ bs. IsUseFault bs why) (same-bytes bytes h.1.bytes h.1.is_held) h.1.first) in
    let here : line ≡ at = sym h.0 in
    cc

code-fault : (line : ℕ) (bytes : List ℕ) (old new : Numbers) (fault : WalkFault) → file_fault line (Some bytes) ≡ None → fault ≢ no_memory → IsUseFault bytes fault → ((keys : List Key) → AreUses bytes keys → fault ≡ no_memory)
    → ((why : WalkFault) → IsUseFault bytes why → fault ≢ no_memory → fault ≡ why) → CountsLines ((line, Some bytes) ∷ []) old new (Err (Code line fault))
code-fault line bytes old new fault sound told first only one = record {
  added = tt;
  only = λ keys u. told (only u.0 (subst (λ bs. AreUses bs u.0) (same-bytes bytes u.3.bytes u.3.is_held) u.3.uses));
  first = inr (inl (refl, record { sound = sound; bytes = bytes; is_held = refl; first = first }));
  refused = λ other h. ⊎_elim (λ f. inr (refused-code line bytes fault other sound (λ why w. one why w told) f)) (λ g. absurd g.1) h;
}

no-memory : (line : ℕ) (held : Option (List ℕ)) (old new : Numbers) → CountsLines ((line, held) ∷ []) old new (Err (Start OutOfMemory))
no-memory line held old new = counts-no-file line held old new OutOfMemory (inl tt)

told-cause : (fault : WalkFault) (cause : WalkCause) → cause ≡ fault.cause → cause ≢ walk.OutOfMemory → fault ≢ no_memory
told-cause fault cause is told e = told (is ∙ ap (λ f. f.cause) e)

pub counts-code : (line : ℕ) (bytes : List ℕ) (old new : Numbers) (fault : WalkFault) (cause : WalkCause) → cause ≡ fault.cause → file_fault line (Some bytes) ≡ None → (cause ≢ walk.OutOfMemory → IsUseFault bytes fault)
    → ((keys : List Key) → AreUses bytes keys → fault ≡ no_memory) → ((why : WalkFault) → IsUseFault bytes why → fault ≢ no_memory → fault ≡ why) → CountsLines ((line, Some bytes) ∷ []) old new (Err (of_walk line fault cause))
counts-code line bytes old new fault walk.OutOfMemory is sound first only one = no-memory line (Some bytes) old new
counts-code line bytes old new fault walk.Attribute is sound first only one = let told : walk.Attribute ≢ walk.OutOfMemory = λ e. cc in code-fault line bytes old new fault sound (told-cause fault walk.Attribute is told) (first told) only one
counts-code line bytes old new fault walk.Opcode is sound first only one = let told : walk.Opcode ≢ walk.OutOfMemory = λ e. cc in code-fault line bytes old new fault sound (told-cause fault walk.Opcode is told) (first told) only one
counts-code line bytes old new fault walk.Cut is sound first only one = let told : walk.Cut ≢ walk.OutOfMemory = λ e. cc in code-fault line bytes old new fault sound (told-cause fault walk.Cut is told) (first told) only one
counts-code line bytes old new fault walk.Switch is sound first only one = let told : walk.Switch ≢ walk.OutOfMemory = λ e. cc in code-fault line bytes old new fault sound (told-cause fault walk.Switch is told) (first told) only one
counts-code line bytes old new fault walk.Place is sound first only one = let told : walk.Place ≢ walk.OutOfMemory = λ e. cc in code-fault line bytes old new fault sound (told-cause fault walk.Place is told) (first told) only one

-- It is no failure of the shelf.
pub walk-inside : {T : Type 0} (line : ℕ) (fault : WalkFault) (cause : WalkCause) (r : Result T CountFault) → r ≡ Err (of_walk line fault cause) → IsErrOf r (Start Failed) → ⊥
walk-inside line fault walk.OutOfMemory r is e = cc
walk-inside line fault walk.Attribute r is e = cc
walk-inside line fault walk.Opcode r is e = cc
walk-inside line fault walk.Cut r is e = cc
walk-inside line fault walk.Switch r is e = cc
walk-inside line fault walk.Place r is e = cc
