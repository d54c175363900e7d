-- Where a pool can't be read, good entries stand up to there, and no entry stands there.
use Rattle.std.proofs.Common.{◌≡◌, ◌≢◌, ℕ, zero, suc, ◌+◌, ◌-◌, ◌≤◌, Bool, true, false, List, [], ◌∷◌, ◌++◌, length, Result, Ok, Err, refl, sym, ap, subst, ◌∙◌, append_assoc, arith, inl, inr, ◌⊎◌}
use Rattle.std.proofs.lemmas.List.Concat.{flat_map-cons}
use Rattle.class_pool.specs.declared.fault.ClassFault.{ClassFault}
use Rattle.class_pool.specs.Spelling.{Entry, takes_two, width, entry, entries, places, FileHeader, header_bytes, IsFileHeader, Head}
use Rattle.class_pool.specs.Faults.{Room, gap, Stops}
use Rattle.class_pool.specs.Reading.{IsBytes, ◌>>=◌, entry_at, entries_at, Gives, header_at, head_at, head_read}
use Rattle.class_pool.proofs.Heads.{header_takes, header_again}
use Rattle.class_pool.specs.declared.fault.ClassCause.TheVariants.{OutOfMemory}
use Rattle.std.specs.Prelude.{IfErr}
use Rattle.class_pool.proofs.Entries.{gap_fits, width-gap, entry_takes, entry_again}

abbrev done : {A : Type 0} → A → Result A ClassFault
done x = Ok x

abbrev failed : {A : Type 0} → ClassFault → Result A ClassFault
failed d = Err d

differ : {A : Type 0} (x : A) (d : ClassFault) → done x ≡ failed {A = A} d → ⊥
differ x d e = cc

-- a read that failed: at its first step or after it
bind_err : {A B : Type 0} (r : Result A ClassFault) (f : A → Result B ClassFault) (d : ClassFault) → (r >>= f) ≡ failed {A = B} d → (r ≡ failed {A = A} d) ⊎ ((x : A) × (r ≡ Ok x) × (f x ≡ failed {A = B} d))
bind_err (Ok x) f d e = inr (x, refl, e)
bind_err (Err b) f d e = inl cc

no_entry : (total left : ℕ) (bytes : List ℕ) (d : ClassFault) → entry_at total left bytes ≡ failed {A = Entry × List ℕ} d → (e : Entry) (more : List ℕ) → Room left e → bytes ≡ entry e ++ more → ⊥
no_entry total left bytes d stop e more room is = differ (e, more) d (sym (entry_again total left e more room) ∙ ap (entry_at total left) (sym is) ∙ stop)

pub stops : (total : ℕ) (skip : Bool) (left : ℕ) (bytes : List ℕ) (d : ClassFault) → gap skip ≤ left → IsBytes bytes → entries_at total skip left bytes ≡ failed {A = List Entry × List ℕ} d → Stops total skip left bytes d
unfolding entries_at places
stops total true zero bytes d le fits e = absurd (omega (arith, le))
stops total false zero bytes d le fits e = absurd (differ ([], bytes) d e)
stops total true (suc left) bytes d le fits e =
    let s = stops total false left bytes d (omega arith) fits e in
    let k : suc left - suc (1 + places s.good) ≡ left - suc (0 + places s.good) = omega arith in
    record {
      good = s.good;
      rest = s.rest;
      parts = s.parts;
      each = s.each;
      due = omega (arith, s.due);
      none = λ x more room is. s.none x more (subst (λ (n : ℕ). Room n x) k room) is;
      fault_is = ap (λ (n : ℕ). entry_at total n s.rest) k ∙ s.fault_is;
    }
stops total false (suc left) bytes d le fits e =
    elim (bind_err (entry_at total left bytes) _ d e) [
      | inl h ↦
          let k : suc left - suc (0 + 0) ≡ left = omega arith in
          record {
            good = [];
            rest = bytes;
            parts = refl;
            each = tt;
            due = omega arith;
            none = λ x more room is. no_entry total left bytes d h x more (subst (λ (n : ℕ). Room n x) k room) is;
            fault_is = ap (λ (n : ℕ). entry_at total n bytes) k ∙ h;
          }
      | inr h ↦
          let t = entry_takes total left bytes h.0.0 h.0.1 fits h.1 in
          elim (bind_err (entries_at total (takes_two h.0.0) left h.0.1) _ d h.2) [
            | inl m ↦
                let s = stops total (takes_two h.0.0) left h.0.1 d (gap_fits (takes_two h.0.0) left t.1.1) t.0.rest_fits m in
                let w = width-gap (takes_two h.0.0) in
                let k : suc left - suc (0 + (width (takes_two h.0.0) + places s.good)) ≡ left - suc (gap (takes_two h.0.0) + places s.good) = omega (arith, w) in
                record {
                  good = h.0.0 ∷ s.good;
                  rest = s.rest;
                  parts = t.0.parts ∙ ap (λ (x : List ℕ). entry h.0.0 ++ x) s.parts ∙ sym (append_assoc (entry h.0.0) (entries s.good) s.rest) ∙ ap (λ (x : List ℕ). x ++ s.rest) (sym (flat_map-cons entry h.0.0 s.good));
                  each = (t.1.0, s.each);
                  due = omega (arith, s.due, w);
                  none = λ x more room is. s.none x more (subst (λ (n : ℕ). Room n x) k room) is;
                  fault_is = ap (λ (n : ℕ). entry_at total n s.rest) k ∙ s.fault_is;
                }
            | inr m ↦ absurd (differ (h.0.0 ∷ m.0.0, m.0.1) d m.2)
          ]
    ]

-- ---- the whole pool
read_err : (r : Result (Head × List ℕ) ClassFault) (d : ClassFault) → head_read r ≡ failed {A = Head} d → r ≡ failed {A = Head × List ℕ} d
read_err (Ok x) d e = absurd cc
read_err (Err b) d e = cc

after_header : (bytes : List ℕ) (f : FileHeader) (rest : List ℕ) (d : ClassFault) → header_at (length bytes) bytes ≡ Ok (f, rest) → head_at (length bytes) bytes ≡ failed {A = Head × List ℕ} d → entries_at (length bytes) false (f.count - 1) rest ≡ failed {A = List Entry × List ℕ} d
unfolding head_at
after_header bytes f rest d first e =
    elim (bind_err (entries_at (length bytes) false (f.count - 1) rest) _ d (rw first at e)) [
      | inl h ↦ h
      | inr h ↦ absurd (differ (record { header = f; entries = h.0.0 }, h.0.1) d h.2)
    ]

before_header : (bytes : List ℕ) (d : ClassFault) → header_at (length bytes) bytes ≡ failed {A = FileHeader × List ℕ} d → head_at (length bytes) bytes ≡ failed {A = Head × List ℕ} d
unfolding head_at
before_header bytes d e = rw e refl

pub entry_fault : {P : Type 0} (view : P → Head) (bytes : List ℕ) (r : Result P ClassFault) (f : FileHeader) (rest : List ℕ) → IsBytes bytes → Gives view r (head_read (head_at (length bytes) bytes)) → IsFileHeader f → bytes ≡ header_bytes f ++ rest → IfErr r (λ e. e.cause ≢ OutOfMemory → Stops (length bytes) false (f.count - 1) rest e)
entry_fault view bytes (Ok p) f rest fits given is parts = tt
entry_fault view bytes (Err d) f rest fits given is parts = λ some.
    let first : header_at (length bytes) bytes ≡ Ok (f, rest) = ap (header_at (length bytes)) parts ∙ header_again (length bytes) f rest is in
    let t = header_takes (length bytes) bytes f rest fits first in
    stops (length bytes) false (f.count - 1) rest d (omega arith) t.0.rest_fits (after_header bytes f rest d first (read_err _ d (given (λ e. some (ap (λ (f : ClassFault). f.cause) e)))))

pub header_fault : {P : Type 0} (view : P → Head) (bytes : List ℕ) (r : Result P ClassFault) (d : ClassFault) → header_at (length bytes) bytes ≡ failed {A = FileHeader × List ℕ} d → Gives view r (head_read (head_at (length bytes) bytes)) → Gives view r (failed {A = Head} d)
header_fault view bytes r d e given = subst (λ (x : Result Head ClassFault). Gives view r x) (ap head_read (before_header bytes d e)) given
