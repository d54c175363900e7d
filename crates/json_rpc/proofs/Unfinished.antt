-- Bytes that begin a frame, and aren't all of it.
use Rattle.std.proofs.Common.{◌≡◌, ℕ, ◌+◌, ◌<◌, ◌≤◌, ◌⊎◌, inl, inr, ap, sym, ◌∙◌, arith, List, [], refl, Bool, true, false, length, nat_le, if◌then◌else◌, subst, append-nil}
use Rattle.std.proofs.lemmas.List.{length-append}
use Rattle.json_rpc.specs.Heads.{start, scan_from}
use Rattle.json_rpc.specs.Spelled.{AreHeaderLines, BeginsBody, GoesOn}
use Rattle.json_rpc.specs.Streams.{partial, whole, wrong, by_length, by_reading, next_of}
use Rattle.json_rpc.proofs.Lines.{pick_false, pick_true}
use Rattle.json_rpc.proofs.Parts.{part-scan}
use Rattle.json_rpc.proofs.Wholes.{Ends, start-ends}
use Rattle.json_rpc.proofs.Stops.{read-goes}
use Rattle.json_rpc.proofs.Backs.{goes-run, prefix-led}
use Rattle.json_rpc.specs.declared.fault.FrameFault.TheVariants.{NoLength, TooLong}
use Rattle.json_rpc.specs.declared.header.Head.{Head}
use Rattle.json_rpc.specs.declared.header.Reading.{Reading}
use Rattle.json_rpc.specs.declared.header.Reading.TheVariants.{More, Whole, Bad}

part-told : (a b c : Bool) (x y : List ℕ) (n m : ℕ) → (if a then (if b then (if c then whole x y else partial) else wrong (TooLong n)) else wrong (NoLength m)) ≡ partial → (a ≡ true) × (b ≡ true) × (c ≡ false)
part-told true true true x y n m e = absurd cc
part-told true true false x y n m e = (refl, refl, refl)
part-told true false c x y n m e = absurd cc
part-told false b c x y n m e = absurd cc

reading-unfinished : (at : ℕ) (bytes : List ℕ) (r : Reading) → Ends [] bytes 0 r → by_reading at bytes r ≡ partial → ((length bytes ≤ 8192) × GoesOn bytes) ⊎ BeginsBody bytes
unfolding by_reading by_length
reading-unfinished at bytes More e q = inl (omega (arith, e.fits), read-goes e.head e.line bytes e.read.read)
reading-unfinished at bytes (Whole n h) e q =
    let p = part-told h.told (nat_le h.length 16777216) (nat_le (n + h.length) (length bytes)) _ _ _ _ q in
    let small : h.length ≤ 16777216 = grind (arith, p.1) in
    let few : length bytes < n + h.length = grind (arith, p.2) in
    let P : List ℕ → Type 0 = λ v. AreHeaderLines e.prefix v in
    inr (record {
      count = h.length;
      part = e.prefix;
      body = e.rest;
      header = record { lines = subst P (e.part.told p.0) e.part.lines; short = omega (arith, e.place, e.short) };
      small = small;
      few = omega (arith, few, e.place, ap length e.spelled, length-append e.prefix e.rest);
      spelled = e.spelled;
    })
reading-unfinished at bytes (Bad n) e q = absurd cc

pub next-unfinished : (at : ℕ) (bytes : List ℕ) → next_of at bytes ≡ partial → ((length bytes ≤ 8192) × GoesOn bytes) ⊎ BeginsBody bytes
next-unfinished at bytes q = reading-unfinished at bytes (scan_from 0 0 start bytes) (start-ends bytes) q

scan-none : (n line : ℕ) (h : Head) → scan_from n line h [] ≡ More
unfolding scan_from
scan-none n line h = refl

goes-scan : (bytes : List ℕ) → length bytes ≤ 8192 → GoesOn bytes → scan_from 0 0 start bytes ≡ More
goes-scan bytes l g =
    let r = goes-run bytes g in
    let led = prefix-led bytes (r.0) (r.1) l in
    ap (scan_from 0 0 start) (sym (append-nil bytes)) ∙ led.scan [] ∙ scan-none (0 + length bytes) led.end (r.0)

body-next : (at : ℕ) (bytes : List ℕ) → BeginsBody bytes → next_of at bytes ≡ partial
unfolding by_reading by_length
body-next at bytes b =
    let s = part-scan b.part b.body b.count b.header in
    let small : nat_le b.count 16777216 ≡ true = grind (arith, b.small) in
    let few : nat_le (length b.part + b.count) (length bytes) ≡ false = grind (arith, b.few, ap length b.spelled, length-append b.part b.body) in
    ap (by_reading at bytes) (ap (scan_from 0 0 start) b.spelled ∙ s.1) ∙ pick_true (nat_le b.count 16777216) _ _ small ∙ pick_false (nat_le (length b.part + b.count) (length bytes)) _ _ few

goes-next : (at : ℕ) (bytes : List ℕ) → length bytes ≤ 8192 → GoesOn bytes → next_of at bytes ≡ partial
unfolding by_reading
goes-next at bytes l g = ap (by_reading at bytes) (goes-scan bytes l g)

pub unfinished-next : (at : ℕ) (bytes : List ℕ) → ((length bytes ≤ 8192) × GoesOn bytes) ⊎ BeginsBody bytes → next_of at bytes ≡ partial
unfinished-next at bytes w = elim w [ inl p ↦ goes-next at bytes p.0 p.1 | inr b ↦ body-next at bytes b ]
