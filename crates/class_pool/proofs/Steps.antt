-- One more entry of the pool.
use Rattle.std.proofs.Common.{◌≡◌, ◌≢◌, ℕ, suc, ◌+◌, ◌-◌, ◌<◌, ◌≤◌, Bool, true, false, List, ◌∷◌, ◌++◌, length, Result, Ok, Err, refl, sym, ap, subst, ◌∙◌, append_assoc, arith}
use Rattle.std.proofs.lemmas.List.{length-append, append-nil}
use Rattle.class_pool.specs.declared.fault.ClassFault.{ClassFault}
use Rattle.class_pool.specs.Spelling.{Entry, takes_two, entry}
use Rattle.class_pool.specs.Reading.{IsBytes, ◌>>=◌, no_memory, on_ok, passed, entry_at, entries_at}
use Rattle.class_pool.specs.Index.{after, blank, starts}
use Rattle.class_pool.proofs.Entries.{entry_takes}

on_ok_is : {A B : Type 0} (f : A → B) (r : Result A ClassFault) (y : B) → on_ok f r ≡ Ok y → (x : A) × (r ≡ Ok x) × (f x ≡ y)
on_ok_is f (Ok x) y e = (x, refl, cc)
on_ok_is f (Err d) y e = absurd cc

on_err_is : {A B : Type 0} (f : A → B) (r : Result A ClassFault) (d : ClassFault) → on_ok f r ≡ Err d → r ≡ Err d
on_err_is f (Ok x) d e = absurd cc
on_err_is f (Err b) d e = cc

after_more : (prefix : List ℕ) (at : ℕ) (e : Entry) (r : Result (List Entry × List ℕ) ClassFault) → after prefix at (r >>= λ es. Ok (e ∷ es.0, es.1)) ≡ after (prefix ++ (at ∷ blank 0 (takes_two e))) (at + length (entry e)) r
unfolding starts
after_more prefix at e (Ok r) = ap (λ (t : List ℕ). Ok (t, r.1)) (sym (append_assoc prefix (at ∷ blank 0 (takes_two e)) (starts (at + length (entry e)) r.0)))
after_more prefix at e (Err d) = refl

pub skip_step : (total count place at : ℕ) (prefix bytes : List ℕ) (whole : Result (List ℕ × List ℕ) ClassFault) → place < count → after prefix at (entries_at total true (count - place) bytes) ≡ whole → after prefix at (entries_at total false (count - (place + 1)) bytes) ≡ whole
unfolding entries_at
skip_step total count place at prefix bytes whole lt so_far =
    let k : count - place ≡ suc (count - (place + 1)) = omega arith in
    let one : after prefix at (entries_at total true (count - place) bytes) ≡ after prefix at (entries_at total false (count - (place + 1)) bytes) = rw k refl in
    sym one ∙ so_far

pub record IsPassed (total left : ℕ) (bytes : List ℕ) (wide : Bool) (next : List ℕ) : Type 0 where
  pub value : Entry
  pub is : entry_at total left bytes ≡ Ok (value, next)
  pub two : takes_two value ≡ wide
  pub fits : IsBytes next
  pub long : length bytes ≡ length (entry value) + length next

pub is_passed : (total left : ℕ) (bytes : List ℕ) (wide : Bool) (next : List ℕ) → IsBytes bytes → on_ok passed (entry_at total left bytes) ≡ Ok (wide, next) → IsPassed total left bytes wide next
is_passed total left bytes wide next fits e =
    let a = on_ok_is passed (entry_at total left bytes) (wide, next) e in
    let two : takes_two a.0.0 ≡ wide = ap (λ (p : Bool × List ℕ). p.0) a.2 in
    let rest : a.0.1 ≡ next = ap (λ (p : Bool × List ℕ). p.1) a.2 in
    let t = entry_takes total left bytes a.0.0 a.0.1 fits a.1 in
    record {
      value = a.0.0;
      is = a.1 ∙ ap (λ (r : List ℕ). Ok (a.0.0, r)) rest;
      two = two;
      fits = subst IsBytes rest t.0.rest_fits;
      long = ap length t.0.parts ∙ length-append (entry a.0.0) a.0.1 ∙ ap (λ (r : List ℕ). length (entry a.0.0) + length r) rest;
    }

pub entry_step : (total count place : ℕ) (prefix bytes next : List ℕ) (wide : Bool) (whole : Result (List ℕ × List ℕ) ClassFault) → place < count → length bytes ≤ total → IsPassed total (count - place - 1) bytes wide next
    → after prefix (total - length bytes) (entries_at total false (count - place) bytes) ≡ whole
    → after (prefix ++ ((total - length bytes) ∷ blank 0 wide)) (total - length next) (entries_at total wide (count - (place + 1)) next) ≡ whole
unfolding entries_at
entry_step total count place prefix bytes next wide whole lt le p so_far =
    let k : count - place ≡ suc (count - place - 1) = omega arith in
    let k2 : count - (place + 1) ≡ count - place - 1 = omega arith in
    let at : total - length next ≡ (total - length bytes) + length (entry p.value) = omega (arith, p.long) in
    let one : after prefix (total - length bytes) (entries_at total false (count - place) bytes) ≡ after (prefix ++ ((total - length bytes) ∷ blank 0 wide)) (total - length next) (entries_at total wide (count - (place + 1)) next)
    = rw (k, p.is, k2, at, ← p.two) (after_more prefix (total - length bytes) p.value (entries_at total (takes_two p.value) (count - place - 1) next)) in
    sym one ∙ so_far

pub entry_ends : (total count place : ℕ) (prefix bytes : List ℕ) (d : ClassFault) (whole : Result (List ℕ × List ℕ) ClassFault) → place < count
    → (d ≢ no_memory → on_ok passed (entry_at total (count - place - 1) bytes) ≡ Err d)
    → after prefix (total - length bytes) (entries_at total false (count - place) bytes) ≡ whole → d ≢ no_memory → whole ≡ Err d
unfolding entries_at
entry_ends total count place prefix bytes d whole lt given so_far some =
    let k : count - place ≡ suc (count - place - 1) = omega arith in
    let h = on_err_is passed (entry_at total (count - place - 1) bytes) d (given some) in
    let one : after prefix (total - length bytes) (entries_at total false (count - place) bytes) ≡ Err d = rw (k, h) refl in
    sym so_far ∙ one

pub is_done : (total count place at : ℕ) (skip : Bool) (prefix bytes : List ℕ) (whole : Result (List ℕ × List ℕ) ClassFault) → count ≤ place → after prefix at (entries_at total skip (count - place) bytes) ≡ whole → whole ≡ Ok (prefix, bytes)
unfolding entries_at starts
is_done total count place at skip prefix bytes whole le so_far =
    let k : count - place ≡ 0 = omega arith in
    let one : after prefix at (entries_at total skip (count - place) bytes) ≡ Ok (prefix, bytes) = rw k (ap (λ (t : List ℕ). Ok (t, bytes)) (append-nil prefix)) in
    sym so_far ∙ one
