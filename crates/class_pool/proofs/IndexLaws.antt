-- Where an entry stands by the index of a pool, and what stands there.
use Rattle.std.proofs.Common.{◌≡◌, ◌≢◌, ℕ, zero, suc, ◌+◌, ◌-◌, ◌<◌, ◌≤◌, Bool, true, false, eqb, List, [], ◌∷◌, ◌++◌, length, take, drop, get_or, Option, Some, None, Result, Ok, Err, refl, sym, ap, subst, ◌∙◌, append_assoc, arith}
use Rattle.std.specs.List.{slice_get, AllByRecursion}
use Rattle.std.proofs.lemmas.Bool.{eqb-true}
use Rattle.std.proofs.Math.Seq.{drop-append-add}
use Rattle.std.proofs.lemmas.List.{length-append, length-drop, take_all}
use Rattle.std.proofs.lemmas.List.Concat.{flat_map-cons}
use Rattle.byteorder.specs.Endian.{big_bytes, big_number}
use Rattle.class_pool.specs.declared.fault.ClassFault.{ClassFault}
use Rattle.class_pool.specs.declared.fault.ClassCause.TheVariants.{Truncated, OutOfMemory}
use Rattle.class_pool.specs.Spelling.{Entry, utf8, fixed, tag_size, takes_two, entry, entries, IsEntry, header_bytes, Head, head}
use Rattle.class_pool.specs.Reading.{no_memory, cut, text_at, head_at}
use Rattle.class_pool.specs.Index.{Kept, starts, slots, slot, flat, blank, kept, head_found, head_of, IsKept, start_in, IsAt, text_in, class_index}
use Rattle.class_pool.proofs.Codec.{ok_is}
use Rattle.class_pool.proofs.Entries.{text_again, none_some, decided}
use Rattle.class_pool.proofs.Heads.{head_takes}

-- what stands at s, where the bytes begin at base; 0 says nothing does
pub record StandsAt (base : ℕ) (bytes : List ℕ) (s : ℕ) (e : Entry) : Type 0 where
  pub some : 0 < s
  pub after : base ≤ s
  pub rest : List ℕ
  pub parts : drop (s - base) bytes ≡ entry e ++ rest
  pub fits : IsEntry e

abbrev pub Stands : ℕ → List ℕ → ℕ → Option Entry → Type 0
Stands base bytes s None = s ≡ 0
Stands base bytes s (Some e) = StandsAt base bytes s e

shift : (base : ℕ) (x bytes : List ℕ) (s : ℕ) (o : Option Entry) → Stands (base + length x) bytes s o → Stands base (x ++ bytes) s o
shift base x bytes s None h = h
shift base x bytes s (Some e) h =
    let k : s - base ≡ length x + (s - (base + length x)) = omega (arith, h.after) in
    record { some = h.some; after = omega (arith, h.after); rest = h.rest; parts = ap (λ (n : ℕ). drop n (x ++ bytes)) k ∙ drop-append-add x bytes (s - (base + length x)) ∙ h.parts; fits = h.fits }

-- behind a second place, where there is one
past_blank : (two : Bool) (base : ℕ) (bytes ss : List ℕ) (os : List (Option Entry)) → ((i : ℕ) → Stands base bytes (get_or ss i 0) (flat (slice_get os i))) → (i : ℕ) → Stands base bytes (get_or (blank 0 two ++ ss) i 0) (flat (slice_get (blank None two ++ os) i))
past_blank false base bytes ss os h i = h i
past_blank true base bytes ss os h zero = refl
past_blank true base bytes ss os h (suc i) = h i

stand : (base : ℕ) (es : List Entry) (rest : List ℕ) → 0 < base → AllByRecursion IsEntry es → (i : ℕ) → Stands base (entries es ++ rest) (get_or (starts base es) i 0) (flat (slice_get (slots es) i))
unfolding starts slots
stand base [] rest lt fits zero = refl
stand base [] rest lt fits (suc i) = refl
stand base (e ∷ es) rest lt fits zero =
    let here : base - base ≡ 0 = omega arith in
    record { some = lt; after = omega arith; rest = entries es ++ rest; parts = rw here (ap (λ (x : List ℕ). x ++ rest) (flat_map-cons entry e es) ∙ append_assoc (entry e) (entries es) rest); fits = fits.0 }
stand base (e ∷ es) rest lt fits (suc i) =
    let later = shift base (entry e) (entries es ++ rest) _ _ (past_blank (takes_two e) (base + length (entry e)) (entries es ++ rest) (starts (base + length (entry e)) es) (slots es) (stand (base + length (entry e)) es rest (omega (arith, lt)) fits.1) i) in
    let regrouped : entries (e ∷ es) ++ rest ≡ entry e ++ (entries es ++ rest) = ap (λ (x : List ℕ). x ++ rest) (flat_map-cons entry e es) ∙ append_assoc (entry e) (entries es) rest in
    subst (λ (b : List ℕ). Stands base b (get_or (blank 0 (takes_two e) ++ starts (base + length (entry e)) es) i 0) (flat (slice_get (blank None (takes_two e) ++ slots es) i))) (sym regrouped) later

abbrev kept_of : Head × List ℕ → ℕ → Kept
kept_of x total = record { minor = x.0.header.minor; major = x.0.header.major; starts = 0 ∷ starts 10 x.0.entries; end = total - length x.1 }

abbrev some_kept : Kept → Result Kept ClassFault
some_kept k = Ok k

kept_is : (total : ℕ) (r : Result (Head × List ℕ) ClassFault) (k : Kept) → kept total r ≡ Ok k → (x : Head × List ℕ) × (r ≡ Ok x) × (k ≡ kept_of x total)
kept_is total (Ok x) k e = (x, refl, sym (ok_is _ _ e))
kept_is total (Err d) k e = absurd cc

pub record Found (bytes : List ℕ) (k : Kept) : Type 0 where
  pub value : Head
  pub rest : List ℕ
  pub read : head_at (length bytes) bytes ≡ Ok (value, rest)
  pub is : head_of bytes ≡ value
  pub starts_is : k.starts ≡ 0 ∷ starts 10 value.entries
  pub end_is : k.end ≡ length bytes - length rest
  pub minor_is : k.minor ≡ value.header.minor
  pub major_is : k.major ≡ value.header.major

pub found_in : (bytes : List ℕ) (k : Kept) → IsKept bytes k → Found bytes k
found_in bytes k keep =
    let a = kept_is (length bytes) (head_at (length bytes) bytes) k keep.kept in
    record {
      value = a.0.0;
      rest = a.0.1;
      read = a.1;
      is = ap head_found a.1;
      starts_is = ap (λ (x : Kept). x.starts) a.2;
      end_is = ap (λ (x : Kept). x.end) a.2;
      minor_is = ap (λ (x : Kept). x.minor) a.2;
      major_is = ap (λ (x : Kept). x.major) a.2;
    }

pub place_stands : (bytes : List ℕ) (k : Kept) (n : ℕ) → IsKept bytes k → Stands 0 bytes (get_or k.starts n 0) (slot (head_of bytes).entries n)
place_stands bytes k zero keep = ap (λ (xs : List ℕ). get_or xs 0 0) (found_in bytes k keep).starts_is
place_stands bytes k (suc n) keep =
    let f = found_in bytes k keep in
    let h = f.value in
    let t = head_takes (length bytes) bytes h f.rest keep.fits f.read in
    let s = shift 0 (header_bytes h.header) (entries h.entries ++ f.rest) _ _ (stand 10 h.entries f.rest (omega arith) t.1.each n) in
    let whole : header_bytes h.header ++ (entries h.entries ++ f.rest) ≡ bytes = sym (t.0.parts ∙ append_assoc (header_bytes h.header) (entries h.entries) f.rest) in
    subst (λ (es : Head). Stands 0 bytes (get_or k.starts (suc n) 0) (slot es.entries (suc n))) (sym f.is)
    (subst (λ (xs : List ℕ). Stands 0 bytes (get_or xs (suc n) 0) (slot h.entries (suc n))) (sym f.starts_is)
    (subst (λ (b : List ℕ). Stands 0 b (get_or (starts 10 h.entries) n 0) (slot h.entries (suc n))) whole s))

pub nothing_at : (base : ℕ) (bytes : List ℕ) (s : ℕ) (o : Option Entry) → s ≡ 0 → Stands base bytes s o → o ≡ None
nothing_at base bytes s None z h = refl
nothing_at base bytes s (Some e) z h = absurd (omega (arith, h.some, z))

pub something_at : (bytes : List ℕ) (k : Kept) (n s : ℕ) → IsKept bytes k → get_or k.starts n 0 ≡ s → s ≢ 0 → IsAt (head_of bytes).entries n (drop s bytes)
something_at bytes k n s keep is not = found (slot (head_of bytes).entries n) refl (subst (λ (i : ℕ). Stands 0 bytes i (slot (head_of bytes).entries n)) is (place_stands bytes k n keep))
  where
    found : (o : Option Entry) → slot (head_of bytes).entries n ≡ o → Stands 0 bytes s o → IsAt (head_of bytes).entries n (drop s bytes)
    found None o-is h = absurd (not h)
    found (Some x) o-is h = let far : s ≡ s - 0 = omega arith in record { value = x; is = o-is; rest = h.rest; parts = ap (λ (i : ℕ). drop i bytes) far ∙ h.parts; fits = h.fits }

filled : (e : Entry) → 0 < length (entry e)
filled (utf8 text) = omega arith
filled (fixed tag body) = omega arith

-- it isn't the end of the bytes
pub within : (bytes : List ℕ) (es : List Entry) (n s : ℕ) → IsAt es n (drop s bytes) → s ≤ length bytes
within bytes es n s a = omega (arith, length-drop s bytes, ap length a.parts, length-append (entry a.value) a.rest, filled a.value)

abbrev done : {A : Type 0} → A → Result A ClassFault
done x = Ok x

differ : {A : Type 0} (x : A) (d : ClassFault) → done x ≡ Err d → ⊥
differ x d e = cc

header_number : (body rest : List ℕ) → 2 ≡ length body → big_number 2 (body ++ rest) ≡ big_number 2 body
header_number [] rest len = absurd (omega (arith, len))
header_number (a ∷ []) rest len = absurd (omega (arith, len))
header_number (a ∷ b ∷ more) rest len = refl

-- ---- a text
pub text_is : (total n : ℕ) (es : List Entry) (bytes x after : List ℕ) → IsAt es n (1 ∷ bytes) → text_at total bytes ≡ Ok (x, after) → text_in es n ≡ Some x
text_is total n es bytes x after a e = found a.value a.is a.parts a.fits
  where
    found : (v : Entry) → slot es n ≡ Some v → 1 ∷ bytes ≡ entry v ++ a.rest → IsEntry v → text_in es n ≡ Some x
    found (utf8 t) is parts fits =
        let tail : bytes ≡ (big_bytes 2 (length t) ++ t) ++ a.rest = cc in
        let got = ok_is (t, a.rest) (x, after) (sym (text_again total t a.rest fits) ∙ ap (text_at total) (sym tail) ∙ e) in
        rw is (ap (λ (p : List ℕ × List ℕ). Some p.0) got)
    found (fixed tag body) is parts fits =
        let one : tag ≡ 1 = cc in
        absurd (none_some (length body) (subst (λ (t : ℕ). tag_size t ≡ Some (length body)) one fits))

pub no_fault : (total n : ℕ) (es : List Entry) (bytes : List ℕ) (d : ClassFault) → IsAt es n (1 ∷ bytes) → text_at total bytes ≡ Err d → ⊥
no_fault total n es bytes d a e = found a.value a.parts a.fits
  where
    found : (v : Entry) → 1 ∷ bytes ≡ entry v ++ a.rest → IsEntry v → ⊥
    found (utf8 t) parts fits =
        let tail : bytes ≡ (big_bytes 2 (length t) ++ t) ++ a.rest = cc in
        differ (t, a.rest) d (sym (text_again total t a.rest fits) ∙ ap (text_at total) (sym tail) ∙ e)
    found (fixed tag body) parts fits =
        let one : tag ≡ 1 = cc in
        none_some (length body) (subst (λ (t : ℕ). tag_size t ≡ Some (length body)) one fits)

pub no_text : (tag n : ℕ) (es : List Entry) (bytes : List ℕ) → IsAt es n (tag ∷ bytes) → tag ≢ 1 → text_in es n ≡ None
no_text tag n es bytes a not = found a.value a.is a.parts
  where
    found : (v : Entry) → slot es n ≡ Some v → tag ∷ bytes ≡ entry v ++ a.rest → text_in es n ≡ None
    found (utf8 t) is parts = let one : tag ≡ 1 = cc in absurd (not one)
    found (fixed k body) is parts = rw is refl

pub not_empty : (n : ℕ) (es : List Entry) → IsAt es n [] → ⊥
not_empty n es a = found a.value a.parts
  where
    found : (v : Entry) → [] ≡ entry v ++ a.rest → ⊥
    found (utf8 t) parts = cc
    found (fixed k body) parts = cc

-- ---- a class
pub class_is : (n : ℕ) (es : List Entry) (bytes : List ℕ) → IsAt es n (7 ∷ bytes) → (2 ≤ length bytes) × (class_index (slot es n) ≡ Some (big_number 2 bytes))
class_is n es bytes a = found a.value a.is a.parts a.fits
  where
    found : (v : Entry) → slot es n ≡ Some v → 7 ∷ bytes ≡ entry v ++ a.rest → IsEntry v → (2 ≤ length bytes) × (class_index (slot es n) ≡ Some (big_number 2 bytes))
    found (utf8 t) is parts fits = absurd cc
    found (fixed tag body) is parts fits =
        let seven : tag ≡ 7 = cc in
        let tail : bytes ≡ body ++ a.rest = cc in
        let two : Some 2 ≡ Some (length body) = subst (λ (t : ℕ). tag_size t ≡ Some (length body)) seven fits in
        let len : 2 ≡ length body = cc in
        (omega (arith, len, ap length tail, length-append body a.rest), rw (is, seven) (ap Some (sym (ap (big_number 2) tail ∙ header_number body a.rest len))))

pub no_class : (tag n : ℕ) (es : List Entry) (bytes : List ℕ) → IsAt es n (tag ∷ bytes) → tag ≢ 7 → class_index (slot es n) ≡ None
no_class tag n es bytes a not = found a.value a.is a.parts
  where
    found : (v : Entry) → slot es n ≡ Some v → tag ∷ bytes ≡ entry v ++ a.rest → class_index (slot es n) ≡ None
    found (utf8 t) is parts = rw is refl
    found (fixed k body) is parts =
        let same : tag ≡ k = cc in
        let other : eqb k 7 ≡ false = decided (eqb k 7) (λ h. not (same ∙ eqb-true _ _ h)) in
        rw (is, other) refl

pub none_at : (bytes : List ℕ) (k : Kept) (n : ℕ) → IsKept bytes k → get_or k.starts n 0 ≡ 0 → slot (head_of bytes).entries n ≡ None
none_at bytes k n keep is = nothing_at 0 bytes (get_or k.starts n 0) _ is (place_stands bytes k n keep)

pub uncons : (b : List ℕ) → 1 ≤ length b → b ≡ get_or b 0 0 ∷ take (length b - 1) (drop 1 b)
uncons [] le = absurd (omega (arith, le))
uncons (x ∷ b) le = ap (λ (t : List ℕ). x ∷ t) (sym (take_all (length (x ∷ b) - 1) b (omega arith)))

pub no_want : (total : ℕ) (d : ClassFault) → d ≡ cut total → d ≢ no_memory
no_want total d is h = other (sym (ap (λ (f : ClassFault). f.cause) is) ∙ ap (λ (f : ClassFault). f.cause) h)
  where
    other : Truncated ≡ OutOfMemory → ⊥
    other e = cc

pub end_of : (bytes : List ℕ) (k : Kept) → IsKept bytes k → k.end ≡ 10 + length (entries (head_of bytes).entries)
end_of bytes k keep =
    let f = found_in bytes k keep in
    let h = f.value in
    let t = head_takes (length bytes) bytes h f.rest keep.fits f.read in
    let len : length bytes ≡ (10 + length (entries h.entries)) + length f.rest = ap length t.0.parts ∙ length-append (head h) f.rest ∙ ap (λ (n : ℕ). n + length f.rest) (length-append (header_bytes h.header) (entries h.entries)) in
    ap (λ (n : ℕ). n) f.end_is ∙ (omega (arith, len) ∙ sym (ap (λ (x : Head). 10 + length (entries x.entries)) f.is))

pub end_within : (bytes : List ℕ) (k : Kept) → IsKept bytes k → k.end ≤ length bytes
end_within bytes k keep = omega (arith, (found_in bytes k keep).end_is)

pub start_is : (bytes : List ℕ) (k : Kept) (n : ℕ) → IsKept bytes k → get_or k.starts n 0 ≡ start_in (head_of bytes).entries n
start_is bytes k n keep =
    let f = found_in bytes k keep in
    ap (λ (xs : List ℕ). get_or xs n 0) f.starts_is ∙ sym (ap (λ (x : Head). start_in x.entries n) f.is)

pub start_small : (bytes : List ℕ) (k : Kept) (n : ℕ) → IsKept bytes k → get_or k.starts n 0 ≤ 16777216
start_small bytes k n keep = go (slot (head_of bytes).entries n) (place_stands bytes k n keep)
  where
    go : (o : Option Entry) → Stands 0 bytes (get_or k.starts n 0) o → get_or k.starts n 0 ≤ 16777216
    go None h = omega (arith, h)
    go (Some e) h = omega (arith, keep.small, length-drop (get_or k.starts n 0 - 0) bytes, ap length h.parts, length-append (entry e) h.rest, filled e)
