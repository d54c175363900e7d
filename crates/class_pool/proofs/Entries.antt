-- A constant pool that is read is spelled so, and one that is spelled so is read.
use Rattle.std.proofs.Common.{◌≡◌, ℕ, zero, suc, ◌+◌, ◌<◌, ◌≤◌, ◌&&◌, Bool, true, false, cond, eqb, List, [], ◌∷◌, ◌++◌, length, rules, Option, Some, None, Result, Ok, Err, refl, sym, ap, subst, ◌∙◌, append_assoc, arith, inl, inr, ◌⊎◌}
use Rattle.std.specs.List.{AllByRecursion}
use Rattle.byteorder.specs.Endian.{big_bytes}
use Rattle.std.proofs.lemmas.Bool.{eqb-true}
use Rattle.std.proofs.lemmas.List.Concat.{flat_map-cons}
use Rattle.class_pool.specs.declared.fault.ClassFault.{ClassFault}
use Rattle.class_pool.specs.Spelling.{Entry, utf8, fixed, tag_size, is_wide, takes_two, width, entry, entries, IsEntry, places}
use Rattle.class_pool.specs.Faults.{Room, gap}
use Rattle.class_pool.specs.Reading.{IsBytes, text_at, fixed_at, entry_at, entries_at}
use Rattle.class_pool.proofs.Codec.{IsBytes-rest, Takes, Takes-then, Codec, bind_ok, ok_is, step, number_2, block_codec, block_again}

text : List ℕ → List ℕ
text x = big_bytes 2 (length x) ++ x

text_takes : (total : ℕ) (bytes x rest : List ℕ) → IsBytes bytes → text_at total bytes ≡ Ok (x, rest) → Takes bytes (big_bytes 2 (length x) ++ x) rest × (length x < 65536)
unfolding text_at
text_takes total bytes x rest fits e =
    let a = step (number_2 total) _ bytes (x, rest) fits e in
    let b = (block_codec total a.value).takes a.rest x rest a.takes.rest_fits a.next in
    let both = Takes-then bytes (big_bytes 2 a.value) a.rest x rest a.takes b.0 in
    (subst (λ (k : ℕ). Takes bytes (big_bytes 2 k ++ x) rest) (sym b.1) both, omega (arith, a.fits, b.1))

pub text_again : (total : ℕ) (x rest : List ℕ) → length x < 65536 → text_at total ((big_bytes 2 (length x) ++ x) ++ rest) ≡ Ok (x, rest)
unfolding text_at
text_again total x rest lt =
    ap (text_at total) (append_assoc (big_bytes 2 (length x)) x rest) ∙ rw ((number_2 total).again (length x) (x ++ rest) lt) (block_again total (length x) x rest refl)

test_ok : {A : Type 0} (b : Bool) (d : ClassFault) (r : Result A ClassFault) (y : A) → cond b (Err d) r ≡ Ok y → (b ≡ false) × (r ≡ Ok y)
test_ok true d r y e = absurd cc
test_ok false d r y e = (refl, e)

room : (b : Bool) (left : ℕ) → (b && eqb left 0) ≡ false → width b ≤ suc left
room true zero e = absurd cc
room true (suc left) e = omega arith
room false left e = omega arith

pub no_test : (b : Bool) (left : ℕ) → width b ≤ suc left → (b && eqb left 0) ≡ false
no_test true zero e = absurd (omega (arith, e))
no_test true (suc left) e = search rules
no_test false left e = refl

fixed_takes : (total left tag : ℕ) (size : Option ℕ) (rest : List ℕ) (x : Entry) (after : List ℕ) → tag_size tag ≡ size → IsBytes rest → fixed_at total left tag size rest ≡ Ok (x, after) → Takes (tag ∷ rest) (entry x) after × Room left x
unfolding fixed_at
fixed_takes total left tag None rest x after size-is fits e = absurd cc
fixed_takes total left tag (Some size) rest x after size-is fits e =
    let t = test_ok (is_wide tag && eqb left 0) _ _ (x, after) e in
    let a = step (block_codec total size) _ rest (x, after) fits t.1 in
    let found : Takes (tag ∷ rest) (tag ∷ a.value) a.rest = record { parts = ap (λ (w : List ℕ). tag ∷ w) a.takes.parts; rest_fits = a.takes.rest_fits } in
    subst (λ (p : Entry × List ℕ). Takes (tag ∷ rest) (entry p.0) p.1 × Room left p.0) (ok_is (fixed tag a.value, a.rest) (x, after) a.next) (found, (size-is ∙ ap Some (sym a.fits), room (is_wide tag) left t.0))

fixed_again : (total left tag : ℕ) (body rest : List ℕ) → Room left (fixed tag body) → fixed_at total left tag (tag_size tag) (body ++ rest) ≡ Ok (fixed tag body, rest)
unfolding fixed_at
fixed_again total left tag body rest fits =
    rw (fits.0, no_test (is_wide tag) left fits.1, block_again total (length body) body rest refl) refl

chosen : {A : Type 0} (b : Bool) (x y z : A) → cond b x y ≡ z → ((b ≡ true) × (x ≡ z)) ⊎ ((b ≡ false) × (y ≡ z))
chosen true x y z e = inl (refl, e)
chosen false x y z e = inr (refl, e)

pub decided : (b : Bool) → (b ≡ true → ⊥) → b ≡ false
decided true h = absurd (h refl)
decided false h = refl

pub none_some : (n : ℕ) → None ≡ Some n → ⊥
none_some n e = cc

pub not_text : (tag n : ℕ) → tag_size tag ≡ Some n → eqb tag 1 ≡ false
not_text tag n e = decided (eqb tag 1) (λ h. none_some n (subst (λ (t : ℕ). tag_size t ≡ Some n) (eqb-true _ _ h) e))

pub entry_takes : (total left : ℕ) (bytes : List ℕ) (x : Entry) (rest : List ℕ) → IsBytes bytes → entry_at total left bytes ≡ Ok (x, rest) → Takes bytes (entry x) rest × Room left x
unfolding entry_at
entry_takes total left [] x rest fits e = absurd cc
entry_takes total left (tag ∷ more) x rest fits e =
    elim (chosen (eqb tag 1) _ _ (Ok (x, rest)) e) [
      | inl h ↦
          let b = bind_ok (text_at total more) _ (x, rest) h.1 in
          let t = text_takes total more b.0.0 b.0.1 (IsBytes-rest tag more fits) b.1 in
          let found : Takes (tag ∷ more) (1 ∷ big_bytes 2 (length b.0.0) ++ b.0.0) b.0.1 = record { parts = ap (λ (w : List ℕ). tag ∷ w) t.0.parts ∙ ap (λ (k : ℕ). k ∷ (big_bytes 2 (length b.0.0) ++ b.0.0) ++ b.0.1) (eqb-true _ _ h.0); rest_fits = t.0.rest_fits } in
          subst (λ (p : Entry × List ℕ). Takes (tag ∷ more) (entry p.0) p.1 × Room left p.0) (ok_is (utf8 b.0.0, b.0.1) (x, rest) b.2) (found, (t.1, omega arith))
      | inr h ↦ fixed_takes total left tag (tag_size tag) more x rest refl (IsBytes-rest tag more fits) h.1
    ]

pub entry_again : (total left : ℕ) (x : Entry) (rest : List ℕ) → Room left x → entry_at total left (entry x ++ rest) ≡ Ok (x, rest)
unfolding entry_at
entry_again total left (utf8 x) rest fits = rw (text_again total x rest fits.0) refl
entry_again total left (fixed tag body) rest fits = rw (not_text tag (length body) fits.0) (fixed_again total left tag body rest fits)

pub entry_codec : (total left : ℕ) → Codec entry (Room left) (entry_at total left)
entry_codec total left = record { takes = entry_takes total left; again = entry_again total left }

-- ---- the entries
abbrev pub Fills : Bool → ℕ → List Entry → Type 0
Fills skip left es = AllByRecursion IsEntry es × (gap skip + places es ≡ left)

pub width-gap : (b : Bool) → width b ≡ suc (gap b)
width-gap true = refl
width-gap false = refl

pub gap_fits : (b : Bool) (left : ℕ) → width b ≤ suc left → gap b ≤ left
gap_fits b left le = omega (arith, le, width-gap b)

pub entries_take : (total : ℕ) (skip : Bool) (left : ℕ) (bytes : List ℕ) (x : List Entry) (rest : List ℕ) → gap skip ≤ left → IsBytes bytes → entries_at total skip left bytes ≡ Ok (x, rest) → Takes bytes (entries x) rest × Fills skip left x
unfolding entries_at places
entries_take total true zero bytes x rest le fits e = absurd (omega (arith, le))
entries_take total false zero bytes x rest le fits e =
    subst (λ (p : List Entry × List ℕ). Takes bytes (entries p.0) p.1 × Fills false 0 p.0) (ok_is ([], bytes) (x, rest) e) (record { parts = refl; rest_fits = fits }, (tt, refl))
entries_take total true (suc left) bytes x rest le fits e =
    let t = entries_take total false left bytes x rest (omega arith) fits e in
    (t.0, (t.1.0, omega (arith, t.1.1)))
entries_take total false (suc left) bytes x rest le fits e =
    let a = step (entry_codec total left) _ bytes (x, rest) fits e in
    let b = bind_ok (entries_at total (takes_two a.value) left a.rest) _ (x, rest) a.next in
    let t = entries_take total (takes_two a.value) left a.rest b.0.0 b.0.1 (gap_fits (takes_two a.value) left a.fits.1) a.takes.rest_fits b.1 in
    let both = Takes-then bytes (entry a.value) a.rest (entries b.0.0) b.0.1 a.takes t.0 in
    subst (λ (p : List Entry × List ℕ). Takes bytes (entries p.0) p.1 × Fills false (suc left) p.0) (ok_is (a.value ∷ b.0.0, b.0.1) (x, rest) b.2) (rw flat_map-cons both, ((a.fits.0, t.1.0), omega (arith, t.1.1, width-gap (takes_two a.value))))

pub entries_again : (total : ℕ) (skip : Bool) (left : ℕ) (x : List Entry) (rest : List ℕ) → Fills skip left x → entries_at total skip left (entries x ++ rest) ≡ Ok (x, rest)
unfolding entries_at places
entries_again total true zero x rest fits = absurd (omega (arith, fits.1))
entries_again total true (suc left) x rest fits = entries_again total false left x rest (fits.0, omega (arith, fits.1))
entries_again total false zero [] rest fits = refl
entries_again total false zero (e ∷ es) rest fits = absurd (omega (arith, fits.1, width-gap (takes_two e)))
entries_again total false (suc left) [] rest fits = absurd (omega (arith, fits.1))
entries_again total false (suc left) (e ∷ es) rest fits =
    let w = width-gap (takes_two e) in
    let regrouped : entries (e ∷ es) ++ rest ≡ entry e ++ (entries es ++ rest) = ap (λ (x : List ℕ). x ++ rest) (flat_map-cons entry e es) ∙ append_assoc (entry e) (entries es) rest in
    ap (entries_at total false (suc left)) regrouped ∙ rw (entry_again total left e (entries es ++ rest) (fits.0.0, omega (arith, fits.1, w)), entries_again total (takes_two e) left es rest (fits.0.1, omega (arith, fits.1, w))) refl
