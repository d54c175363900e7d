-- A header part is refused wherever its lines say that it is.
use Rattle.std.proofs.Common.{◌≡◌, ℕ, ◌+◌, ◌<◌, ◌≤◌, inl, inr, ap, sym, ◌∙◌, drop, take, get_or, arith, List, [], ◌∷◌, refl, Bool, true, false, ◌++◌, length, nat_le, subst, append_assoc, append-nil, lit≤, All, Some}
use Rattle.std.proofs.lemmas.List.{length-append, length-take, take-append-le, take-append-drop, take_more}
use Rattle.std.proofs.Math.Seq.{take-append_seam}
use Rattle.std.specs.List.{list_all, flat_map}
use Rattle.json_rpc.specs.Heads.{start, step, after, line_after, scan_from, is_name}
use Rattle.json_rpc.specs.Spelled.{HeaderLine, line_text, IsHeaderLine, lengths_of, AreHeaderLines, BeginsLines, GoesOn, SecondLength, IsUnfit, IsRefusedAt}
use Rattle.json_rpc.specs.Streams.{wrong, by_reading, next_of}
use Rattle.json_rpc.proofs.Lines.{known, onward, run, run-none, run-one, both, pick_false, line_on, name_on, matched_by, matched-is, length-some, length-visible}
use Rattle.json_rpc.proofs.Parsed.{Read, read-start, read-on, read-done, IsRead}
use Rattle.json_rpc.proofs.Parts.{line-last}
use Rattle.json_rpc.proofs.Scans.{scan-one, scan-long, scan-byte}
use Rattle.json_rpc.proofs.Wholes.{Ends, start-ends, run-nil}
use Rattle.json_rpc.proofs.Stops.{read-goes, second-met, bad-place, colon-twice}
use Rattle.json_rpc.specs.declared.fault.FrameFault.TheVariants.{Header}
use Rattle.json_rpc.specs.declared.header.Mode.TheVariants.{Line, Name}
use Rattle.json_rpc.specs.declared.header.Head.{Head}
use Rattle.json_rpc.specs.declared.header.Step.{Step}
use Rattle.json_rpc.specs.declared.header.Step.TheVariants.{On, Done, Stop, Twice}
use Rattle.json_rpc.specs.declared.header.Reading.{Reading}
use Rattle.json_rpc.specs.declared.header.Reading.TheVariants.{More, Whole, Bad}

-- a prefix of what leads on leads on
prefix-step : (s : Step) (xs ys : List ℕ) (k : Head) → onward s (λ g. run g (xs ++ ys)) ≡ Some k → ((g : Head) → run g (xs ++ ys) ≡ Some k → (m : Head) × (run g xs ≡ Some m)) → (m : Head) × (onward s (λ g. run g xs) ≡ Some m)
prefix-step (On g) xs ys k e f = f g e
prefix-step Done xs ys k e f = absurd cc
prefix-step Stop xs ys k e f = absurd cc
prefix-step Twice xs ys k e f = absurd cc

run-prefix : (xs ys : List ℕ) (h k : Head) → run h (xs ++ ys) ≡ Some k → (m : Head) × (run h xs ≡ Some m)
unfolding run
run-prefix [] ys h k e = (h, refl)
run-prefix (b ∷ xs) ys h k e = prefix-step (step h b) xs ys k e (λ g q. run-prefix xs ys g k q)

lines-run : (lines : List HeaderLine) (lengths : List ℕ) → All IsHeaderLine lines → lengths_of lines ≡ lengths → length lengths ≤ 1 → (h : Head) × (run start (flat_map line_text lines ++ (13 ∷ [])) ≡ Some h)
lines-run lines [] a e l = (_, run-none lines (13 ∷ []) 0 0 false a e ∙ line-last 0 0 0 false)
lines-run lines (n ∷ []) a e l = let one = run-one lines (13 ∷ []) n 0 a e in (_, one.1 ∙ line-last 0 (one.0) n true)
lines-run lines (n ∷ m ∷ more) a e l = absurd (omega (arith, l))

pub goes-run : (prefix : List ℕ) → GoesOn prefix → (h : Head) × (run start prefix ≡ Some h)
goes-run prefix g =
    let lines = g.begins.lines.lines in
    let all : List ℕ = flat_map line_text lines ++ (13 ∷ []) in
    let spelled : prefix ++ g.more ≡ all ++ (10 ∷ []) = g.begins.lines.spelled ∙ sym (append_assoc (flat_map line_text lines) (13 ∷ []) (10 ∷ [])) in
    let short : length prefix ≤ length all = omega (arith, ap length spelled, length-append prefix g.more, length-append all (10 ∷ []), g.some) in
    let same : prefix ≡ take (length prefix) all = sym (take-append_seam prefix g.more) ∙ ap (take (length prefix)) spelled ∙ take-append-le (length prefix) all (10 ∷ []) short in
    let split : prefix ++ drop (length prefix) all ≡ all = ap (λ v. v ++ drop (length prefix) all) same ∙ take-append-drop (length prefix) all in
    let r = lines-run lines g.begins.lengths g.begins.lines.each g.begins.lines.tell g.begins.one in
    run-prefix prefix (drop (length prefix) all) start (r.0) (ap (run start) split ∙ r.1)

-- what is known where bytes have led on, and how a reading goes on from there
pub record Led (done xs : List ℕ) (n line : ℕ) (h g : Head) : Type 0 where
  pub end : ℕ
  pub read : Read g end (done ++ xs)
  pub scan : (ys : List ℕ) → scan_from n line h (xs ++ ys) ≡ scan_from (n + length xs) end g ys

led-step : (done xs : List ℕ) (n line b : ℕ) (h g : Head) (s : Step) → step h b ≡ s → onward s (λ k. run k xs) ≡ Some g → n + length (b ∷ xs) ≤ 8192 → ((k : Head) → step h b ≡ On k → run k xs ≡ Some g → Led (done ++ (b ∷ [])) xs (n + 1) (line_after n line k.mode) k g) → Led done (b ∷ xs) n line h g
led-step done xs n line b h g (On k) q e l more =
    let r = more k q e in
    let i : n + 1 + length xs ≡ n + length (b ∷ xs) = omega arith in
    let P : List ℕ → Type 0 = λ v. Read g r.end v in
    record {
      end = r.end;
      read = subst P (append_assoc done (b ∷ []) xs) r.read;
      scan = λ ys. scan-one n line h k b (xs ++ ys) (omega (arith, l)) q ∙ r.scan ys ∙ ap (λ m. scan_from m r.end g ys) i;
    }
led-step done xs n line b h g Done q e l more = absurd cc
led-step done xs n line b h g Stop q e l more = absurd cc
led-step done xs n line b h g Twice q e l more = absurd cc

run-led : (xs done : List ℕ) (n line : ℕ) (h g : Head) → Read h line done → length done ≡ n → run h xs ≡ Some g → n + length xs ≤ 8192 → Led done xs n line h g
unfolding run
run-led [] done n line h g r q e l =
    let same : h ≡ g = cc in
    let i : n ≡ n + length {A = ℕ} [] = omega arith in
    let P : List ℕ → Type 0 = λ v. Read h line v in
    let Q : Head → Type 0 = λ v. Read v line (done ++ []) in
    record {
      end = line;
      read = subst Q same (subst P (sym (append-nil done)) r);
      scan = λ ys. ap (λ k. scan_from n line k ys) same ∙ ap (λ m. scan_from m line g ys) i;
    }
run-led (b ∷ xs) done n line h g r q e l =
    led-step done xs n line b h g (step h b) refl e l (λ k f u.
    let P : ℕ → Type 0 = λ v. Read k (line_after v line k.mode) (done ++ (b ∷ [])) in
    run-led xs (done ++ (b ∷ [])) (n + 1) (line_after n line k.mode) k g (subst P q (read-on h k line b done r f)) (omega (arith, q, length-append done (b ∷ []))) u (omega (arith, l)))

pub prefix-led : (prefix : List ℕ) (g : Head) → run start prefix ≡ Some g → length prefix ≤ 8192 → Led [] prefix 0 0 start g
prefix-led prefix g e l = run-led prefix [] 0 0 start g read-start refl e (omega (arith, l))

-- the 8,193rd byte
long-back : (bytes : List ℕ) → 8192 < length bytes → GoesOn (take 8192 bytes) → scan_from 0 0 start bytes ≡ Bad 8192
long-back bytes l g =
    let prefix = take 8192 bytes in
    let many : length (take 8192 bytes) ≡ 8192 = omega (arith, length-take 8192 bytes, l) in
    let place : 0 + length (take 8192 bytes) ≡ 8192 = omega (arith, many) in
    let r = goes-run prefix g in
    let led = prefix-led prefix (r.0) (r.1) (omega (arith, many)) in
    ap (scan_from 0 0 start) (sym (take-append-drop 8192 bytes)) ∙ led.scan (drop 8192 bytes) ∙ ap (λ m. scan_from m led.end (r.0) (drop 8192 bytes)) place
    ∙ scan-long 8192 led.end (r.0) bytes 8192 l (lit≤ tt)

-- a byte that can't stand where it does
one-told : (t : Bool) (l : ℕ) (lengths : List ℕ) → (t ≡ true → lengths ≡ l ∷ []) → (t ≡ false → lengths ≡ []) → length lengths ≤ 1
one-told true l lengths e f = omega (arith, ap length (e refl))
one-told false l lengths e f = omega (arith, ap length (f refl))

whole-begins : (bytes : List ℕ) (h : Head) → IsRead bytes h → BeginsLines bytes []
whole-begins bytes h r =
    let P : List ℕ → Type 0 = λ v. AreHeaderLines v r.lengths in
    record { lengths = r.lengths; one = one-told h.told h.length r.lengths r.told r.none; lines = subst P (sym (append-nil bytes)) r.lines }

unfit-stop : (bytes prefix : List ℕ) (place line b : ℕ) (h : Head) (s : Step) → IsUnfit bytes place → take (place + 1) bytes ≡ prefix ++ (b ∷ []) → length prefix ≡ place → Read h line prefix → step h b ≡ s → s ≡ Stop
unfit-stop bytes prefix place line b h (On g) u next many r q =
    let P : List ℕ → Type 0 = λ v. GoesOn v in
    let on : GoesOn (take (place + 1) bytes) = subst P (sym next) (read-goes g _ (prefix ++ (b ∷ [])) (read-on h g line b prefix r q)) in
    absurd (u.none on.more on.begins)
unfit-stop bytes prefix place line b h Done u next many r q =
    let P : List ℕ → Type 0 = λ v. BeginsLines v [] in
    absurd (u.none [] (subst P (sym next) (whole-begins (prefix ++ (b ∷ [])) h (read-done h line b prefix r q))))
unfit-stop bytes prefix place line b h Stop u next many r q = refl
unfit-stop bytes prefix place line b h Twice u next many r q =
    let P : List ℕ → Type 0 = λ v. SecondLength v line (length prefix) in
    let Q : ℕ → Type 0 = λ v. SecondLength (take (place + 1) bytes) line v in
    absurd (u.no_second line (subst Q many (subst P (sym next) (second-met h line b prefix [] r q))))

unfit-back : (bytes : List ℕ) (place : ℕ) → IsUnfit bytes place → scan_from 0 0 start bytes ≡ Bad place
unfit-back bytes place u =
    let prefix = take place bytes in
    let many : length (take place bytes) ≡ place = omega (arith, length-take place bytes, u.within) in
    let at : 0 + length (take place bytes) ≡ place = omega (arith, many) in
    let r = goes-run prefix u.before in
    let led = prefix-led prefix (r.0) (r.1) (omega (arith, many, u.short)) in
    let b = get_or bytes place 0 in
    let stop : step (r.0) b ≡ Stop = unfit-stop bytes prefix place led.end b (r.0) (step (r.0) b) u (take_more bytes place 0 u.within) many led.read refl in
    ap (scan_from 0 0 start) (sym (take-append-drop place bytes)) ∙ led.scan (drop place bytes) ∙ ap (λ m. scan_from m led.end (r.0) (drop place bytes)) at
    ∙ scan-byte place led.end (r.0) bytes place u.within u.short
    ∙ ap (λ s. after place led.end (r.0) s (λ g. scan_from (place + 1) (line_after place led.end g.mode) g (drop (place + 1) bytes))) stop

-- a second line with the length
scan-name : (name ys : List ℕ) (n line k d l : ℕ) (t : Bool) → list_all is_name name ≡ true → n + length name ≤ 8192 → scan_from n line (known Name k t d l) (name ++ ys) ≡ scan_from (n + length name) line (known Name (matched_by k name) t d l) ys
scan-name [] ys n line k d l t e m = let i : n ≡ n + length {A = ℕ} [] = omega arith in ap (λ v. scan_from v line (known Name k t d l) ys) i
scan-name (b ∷ name) ys n line k d l t e m =
    let p = both (is_name b) (list_all is_name name) e in
    let i : n + 1 + length name ≡ n + length (b ∷ name) = omega arith in
    scan-one n line (known Name k t d l) _ b (name ++ ys) (omega (arith, m)) (name_on k d l b t p.0) ∙ scan-name name ys (n + 1) line _ d l t p.1 (omega (arith, m))
    ∙ ap (λ v. scan_from v line (known Name (matched_by k (b ∷ name)) t d l) ys) i

scan-line : (name ys : List ℕ) (n line k d l : ℕ) (t : Bool) → 0 < length name → list_all is_name name ≡ true → n + length name ≤ 8192 → scan_from n line (known Line k t d l) (name ++ ys) ≡ scan_from (n + length name) line (known Name (matched_by 0 name) t d l) ys
scan-line [] ys n line k d l t s e m = absurd (omega (arith, s))
scan-line (b ∷ name) ys n line k d l t s e m =
    let p = both (is_name b) (list_all is_name name) e in
    let i : n + 1 + length name ≡ n + length (b ∷ name) = omega arith in
    scan-one n line (known Line k t d l) _ b (name ++ ys) (omega (arith, m)) (line_on k d l b t p.0) ∙ scan-name name ys (n + 1) line _ d l t p.1 (omega (arith, m))
    ∙ ap (λ v. scan_from v line (known Name (matched_by 0 (b ∷ name)) t d l) ys) i

scan-twice : (n line b : ℕ) (h : Head) (bs : List ℕ) → n < 8192 → step h b ≡ Twice → scan_from n line h (b ∷ bs) ≡ Bad line
unfolding scan_from
scan-twice n line b h bs l q =
    let f : nat_le 8192 n ≡ false = grind (arith, l) in
    pick_false (nat_le 8192 n) (Bad n) _ f ∙ ap (λ s. after n line h s (λ g. scan_from (n + 1) (line_after n line g.mode) g bs)) q

-- where a line begins nothing of it is read
line-begin : (bytes : List ℕ) (k d l line : ℕ) (t : Bool) → Read (known Line k t d l) line bytes → line ≡ length bytes
line-begin bytes k d l line t r = r.at ∙ ap length (sym (append-nil (flat_map line_text r.lines)) ∙ ap (λ v. flat_map line_text r.lines ++ v) (sym r.says.0) ∙ sym r.spelled)

second-back : (bytes : List ℕ) (place colon : ℕ) → colon < 8192 → SecondLength bytes place colon → scan_from 0 0 start bytes ≡ Bad place
second-back bytes place colon l s =
    let flat = flat_map line_text s.lines in
    let one = run-one s.lines [] s.first 0 s.each s.told in
    let h : Head = known Line 0 true (one.0) s.first in
    let ran : run start flat ≡ Some h = ap (run start) (sym (append-nil flat)) ∙ one.1 ∙ run-nil h in
    let short : length flat + length s.name < 8192 = omega (arith, l, s.colon_place, s.place) in
    let led = prefix-led flat h ran (omega (arith, short)) in
    let begin : led.end ≡ length flat = line-begin flat 0 (one.0) s.first led.end true led.read in
    let twice : step (known Name (matched_by 0 s.name) true (one.0) s.first) 58 ≡ Twice = ap (λ k. step (known Name k true (one.0) s.first) 58) (matched-is s.name 0 (lit≤ tt) s.named) ∙ colon-twice (one.0) s.first in
    ap (scan_from 0 0 start) s.spelled ∙ led.scan (s.name ++ (58 ∷ s.rest))
    ∙ scan-line s.name (58 ∷ s.rest) (0 + length flat) led.end 0 (one.0) s.first true (omega (arith, length-some s.name s.named)) (length-visible s.name s.named) (omega (arith, short))
    ∙ scan-twice (0 + length flat + length s.name) led.end 58 _ s.rest (omega (arith, short)) twice
    ∙ ap (λ v. Bad v) (begin ∙ sym s.place)

refused-scan : (bytes : List ℕ) (place : ℕ) → IsRefusedAt bytes place → scan_from 0 0 start bytes ≡ Bad place
refused-scan bytes place r =
    elim r [
      | inl w ↦ long-back bytes w.1 w.2 ∙ ap (λ v. Bad v) (sym w.0)
      | inr v ↦ elim v [ inl w ↦ unfit-back bytes place w | inr w ↦ second-back bytes place (w.0) (w.1) (w.2) ]
    ]

pub refused-next : (at : ℕ) (bytes : List ℕ) (place : ℕ) → IsRefusedAt bytes place → next_of at bytes ≡ wrong (Header (at + place))
unfolding by_reading
refused-next at bytes place r = ap (by_reading at bytes) (refused-scan bytes place r)

-- the place is the only one
pub one-place : (bytes : List ℕ) (a b : ℕ) → IsRefusedAt bytes a → IsRefusedAt bytes b → a ≡ b
one-place bytes a b p q = let same : Bad a ≡ Bad b = sym (refused-scan bytes a p) ∙ refused-scan bytes b q in cc

-- bytes that aren't of header lines are refused
ends-broken : (bytes : List ℕ) (r : Reading) → Ends [] bytes 0 r → ((more : List ℕ) → BeginsLines bytes more → ⊥) → ((prefix rest lengths : List ℕ) → bytes ≡ prefix ++ rest → AreHeaderLines prefix lengths → ⊥) → (place : ℕ) × IsRefusedAt bytes place
ends-broken bytes More e none whole = let g = read-goes e.head e.line bytes e.read.read in absurd (none g.more g.begins)
ends-broken bytes (Whole n h) e none whole = absurd (whole e.prefix e.rest e.part.lengths e.spelled e.part.lines)
ends-broken bytes (Bad n) e none whole = (n, bad-place bytes n e)

pub broken-refused : (bytes : List ℕ) → ((more : List ℕ) → BeginsLines bytes more → ⊥) → ((prefix rest lengths : List ℕ) → bytes ≡ prefix ++ rest → AreHeaderLines prefix lengths → ⊥) → (place : ℕ) × IsRefusedAt bytes place
broken-refused bytes none whole = ends-broken bytes (scan_from 0 0 start bytes) (start-ends bytes) none whole
