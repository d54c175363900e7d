-- A header part that tells no length, or one that is too long.
use Rattle.std.proofs.Common.{◌≡◌, ℕ, ◌+◌, ◌<◌, ◌≤◌, ap, sym, ◌∙◌, arith, List, [], ◌∷◌, refl, Bool, true, false, ◌++◌, length, nat_le, if◌then◌else◌, subst, append_assoc}
use Rattle.std.proofs.lemmas.List.{length-append}
use Rattle.std.specs.List.{flat_map}
use Rattle.json_rpc.specs.Heads.{start, scan_from}
use Rattle.json_rpc.specs.Spelled.{line_text, AreHeaderLines, IsHeaderPart, BeginsPart}
use Rattle.json_rpc.specs.Streams.{partial, whole, wrong, by_length, by_reading, next_of}
use Rattle.json_rpc.proofs.Lines.{known, pick_false, run-none}
use Rattle.json_rpc.proofs.Parts.{line-last, part-scan, scan-done, scan-run}
use Rattle.json_rpc.proofs.Wholes.{AtWhole, Ends, start-ends}
use Rattle.json_rpc.specs.declared.fault.FrameFault.TheVariants.{NoLength, TooLong}
use Rattle.json_rpc.specs.declared.header.Mode.TheVariants.{LastEnd}
use Rattle.json_rpc.specs.declared.header.Head.{Head}
use Rattle.json_rpc.specs.declared.header.Reading.{Reading}
use Rattle.json_rpc.specs.declared.header.Reading.TheVariants.{More, Whole, Bad}

-- what a whole header part is by its length
none-told : (a b c : Bool) (x y : List ℕ) (n m k : ℕ) → (if a then (if b then (if c then whole x y else partial) else wrong (TooLong n)) else wrong (NoLength m)) ≡ wrong (NoLength k) → (a ≡ false) × (k ≡ m)
none-told true true true x y n m k e = absurd cc
none-told true true false x y n m k e = absurd cc
none-told true false c x y n m k e = absurd cc
none-told false b c x y n m k e = (refl, cc)

long-told : (a b c : Bool) (x y : List ℕ) (n m k : ℕ) → (if a then (if b then (if c then whole x y else partial) else wrong (TooLong n)) else wrong (NoLength m)) ≡ wrong (TooLong k) → (a ≡ true) × (b ≡ false) × (n ≡ k)
long-told true true true x y n m k e = absurd cc
long-told true true false x y n m k e = absurd cc
long-told true false c x y n m k e = (refl, refl, cc)
long-told false b c x y n m k e = absurd cc

part-begins : (bytes : List ℕ) (k : ℕ) (h : Head) (lengths : List ℕ) → (w : AtWhole [] bytes 0 k h) → w.part.lengths ≡ lengths → BeginsPart bytes lengths k
part-begins bytes k h lengths w e =
    let P : List ℕ → Type 0 = λ v. AreHeaderLines w.prefix v in
    record { part = w.prefix; rest = w.rest; lines = subst P e w.part.lines; many = omega (arith, w.place); short = w.short; spelled = w.spelled }

reading-no_length : (at : ℕ) (bytes : List ℕ) (k : ℕ) (r : Reading) → Ends [] bytes 0 r → by_reading at bytes r ≡ wrong (NoLength k) → (count : ℕ) × (k ≡ at + count) × BeginsPart bytes [] count
unfolding by_reading by_length
reading-no_length at bytes k More e q = absurd cc
reading-no_length at bytes k (Whole n h) e q =
    let p = none-told h.told (nat_le h.length 16777216) (nat_le (n + h.length) (length bytes)) _ _ _ _ k q in
    (n, p.1, part-begins bytes n h [] e (e.part.none p.0))
reading-no_length at bytes k (Bad n) e q = absurd cc

reading-too_long : (at : ℕ) (bytes : List ℕ) (k : ℕ) (r : Reading) → Ends [] bytes 0 r → by_reading at bytes r ≡ wrong (TooLong k) → (16777216 < k) × ((count : ℕ) × BeginsPart bytes (k ∷ []) count)
unfolding by_reading by_length
reading-too_long at bytes k More e q = absurd cc
reading-too_long at bytes k (Whole n h) e q =
    let p = long-told h.told (nat_le h.length 16777216) (nat_le (n + h.length) (length bytes)) _ _ _ _ k q in
    let long : 16777216 < h.length = grind (arith, p.1) in
    (omega (arith, long, p.2), (n, part-begins bytes n h (k ∷ []) e (e.part.told p.0 ∙ ap (λ v. v ∷ []) p.2)))
reading-too_long at bytes k (Bad n) e q = absurd cc

pub next-no_length : (at : ℕ) (bytes : List ℕ) (k : ℕ) → next_of at bytes ≡ wrong (NoLength k) → (count : ℕ) × (k ≡ at + count) × BeginsPart bytes [] count
next-no_length at bytes k q = reading-no_length at bytes k (scan_from 0 0 start bytes) (start-ends bytes) q

pub next-too_long : (at : ℕ) (bytes : List ℕ) (k : ℕ) → next_of at bytes ≡ wrong (TooLong k) → (16777216 < k) × ((count : ℕ) × BeginsPart bytes (k ∷ []) count)
next-too_long at bytes k q = reading-too_long at bytes k (scan_from 0 0 start bytes) (start-ends bytes) q

-- lines that tell no length are read to their end
none-scan : (part rest : List ℕ) → AreHeaderLines part [] → length part ≤ 8192 → scan_from 0 0 start (part ++ rest) ≡ Whole (length part) (known LastEnd 0 false 0 0)
none-scan part rest p l =
    let flat = flat_map line_text p.lines in
    let prefix : List ℕ = flat ++ (13 ∷ []) in
    let split : part ≡ prefix ++ (10 ∷ []) = p.spelled ∙ sym (append_assoc flat (13 ∷ []) (10 ∷ [])) in
    let long : length prefix + 1 ≡ length part = omega (arith, ap length split, length-append prefix (10 ∷ [])) in
    let ran = run-none p.lines (13 ∷ []) 0 0 false p.each p.tell ∙ line-last 0 0 0 false in
    let s = scan-run prefix (10 ∷ rest) 0 0 start (known LastEnd 0 false 0 0) ran (omega (arith, long, l)) in
    let end : 0 + length prefix + 1 ≡ length part = omega (arith, long) in
    let all : part ++ rest ≡ prefix ++ (10 ∷ rest) = ap (λ t. t ++ rest) split ∙ append_assoc prefix (10 ∷ []) rest in
    ap (scan_from 0 0 start) all ∙ s.1 ∙ scan-done (0 + length prefix) (s.0) 0 0 0 false rest (omega (arith, long, l)) ∙ ap (λ m. Whole m (known LastEnd 0 false 0 0)) end

pub no_length-next : (at : ℕ) (bytes : List ℕ) (count : ℕ) → BeginsPart bytes [] count → next_of at bytes ≡ wrong (NoLength (at + count))
unfolding by_reading by_length
no_length-next at bytes count b =
    ap (by_reading at bytes) (ap (scan_from 0 0 start) b.spelled ∙ none-scan b.part b.rest b.lines (omega (arith, b.many, b.short))) ∙ ap (λ v. wrong (NoLength (at + v))) b.many

pub too_long-next : (at : ℕ) (bytes : List ℕ) (n : ℕ) → 16777216 < n → (count : ℕ) → BeginsPart bytes (n ∷ []) count → next_of at bytes ≡ wrong (TooLong n)
unfolding by_reading by_length
too_long-next at bytes n l count b =
    let header : IsHeaderPart b.part n = record { lines = b.lines; short = omega (arith, b.many, b.short) } in
    let s = part-scan b.part b.rest n header in
    let big : nat_le n 16777216 ≡ false = grind (arith, l) in
    ap (by_reading at bytes) (ap (scan_from 0 0 start) b.spelled ∙ s.1) ∙ pick_false (nat_le n 16777216) _ _ big
