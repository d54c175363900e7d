-- How a header part ends, in the words of its lines, and so that what is read is a frame.
use Rattle.std.proofs.Common.{◌≡◌, ℕ, ◌+◌, ◌<◌, ◌≤◌, ◌⊎◌, inl, inr, ap, sym, ◌∙◌, drop, take, arith, List, [], ◌∷◌, refl, Bool, true, false, ◌++◌, length, nat_le, if◌then◌else◌, subst, append_assoc, append-nil, lit≤, Some}
use Rattle.std.proofs.lemmas.List.{length-append, length-drop, length-take, take-append-drop}
use Rattle.std.proofs.Math.Seq.{drop-append_seam, drop-append-add}
use Rattle.json_rpc.specs.Heads.{start, step, after, line_after, scan_from}
use Rattle.json_rpc.specs.Spelled.{BeginsFrame, AreHeaderLines}
use Rattle.json_rpc.specs.Streams.{whole, by_length, by_reading, next_of}
use Rattle.json_rpc.proofs.Lines.{onward, run, run-on}
use Rattle.json_rpc.proofs.Parsed.{Read, read-start, read-on, read-done, IsRead}
use Rattle.json_rpc.proofs.Tails.{length_whole}
use Rattle.json_rpc.specs.declared.header.Head.{Head}
use Rattle.json_rpc.specs.declared.header.Step.{Step}
use Rattle.json_rpc.specs.declared.header.Step.TheVariants.{On, Done, Stop, Twice}
use Rattle.json_rpc.specs.declared.header.Reading.{Reading}
use Rattle.json_rpc.specs.declared.header.Reading.TheVariants.{More, Whole, Bad}

-- runs one after the other
pub run-nil : (h : Head) → run h [] ≡ Some h
unfolding run
run-nil h = refl

append-step : (s : Step) (xs ys : List ℕ) (k : Head) → onward s (λ g. run g xs) ≡ Some k → ((g : Head) → run g xs ≡ Some k → run g (xs ++ ys) ≡ run k ys) → onward s (λ g. run g (xs ++ ys)) ≡ run k ys
append-step (On g) xs ys k e f = f g e
append-step Done xs ys k e f = absurd cc
append-step Stop xs ys k e f = absurd cc
append-step Twice xs ys k e f = absurd cc

pub run-append : (xs ys : List ℕ) (h k : Head) → run h xs ≡ Some k → run h (xs ++ ys) ≡ run k ys
unfolding run
run-append [] ys h k e = let same : h ≡ k = cc in ap (λ g. run g ys) same
run-append (b ∷ xs) ys h k e = append-step (step h b) xs ys k e (λ g f. run-append xs ys g k f)

-- these bytes have led to h, and say what they say
pub record Reached (h : Head) (line : ℕ) (bytes : List ℕ) : Type 0 where
  pub read : Read h line bytes
  pub ran : run start bytes ≡ Some h

pub record AtMore (bytes bs : List ℕ) (n : ℕ) : Type 0 where
  pub head : Head
  pub line : ℕ
  pub read : Reached head line (bytes ++ bs)
  pub fits : n + length bs ≤ 8192

pub record AtWhole (bytes bs : List ℕ) (n k : ℕ) (h : Head) : Type 0 where
  pub prefix : List ℕ
  pub rest : List ℕ
  pub spelled : bs ≡ prefix ++ rest
  pub place : k ≡ n + length prefix
  pub short : k ≤ 8192
  pub part : IsRead (bytes ++ prefix) h

-- why a reading stops at k, where the byte at `at` can't be read: there are too many, or it can't stand there, or it
-- begins the value of a second length
abbrev pub Stops : ℕ → ℕ → ℕ → Step → Type 0
Stops k at line s = ((k ≡ at) × (8192 ≤ at)) ⊎ (((k ≡ at) × (at < 8192) × (s ≡ Stop)) ⊎ ((k ≡ line) × (at < 8192) × (s ≡ Twice)))

pub record AtBad (bytes bs : List ℕ) (n k : ℕ) : Type 0 where
  pub prefix : List ℕ
  pub byte : ℕ
  pub rest : List ℕ
  pub spelled : bs ≡ prefix ++ (byte ∷ rest)
  pub head : Head
  pub line : ℕ
  pub read : Reached head line (bytes ++ prefix)
  pub at : ℕ
  pub place : at ≡ n + length prefix
  pub fits : at ≤ 8192
  pub why : Stops k at line (step head byte)

-- how a reading ends
abbrev pub Ends : List ℕ → List ℕ → ℕ → Reading → Type 0
Ends bytes bs n More = AtMore bytes bs n
Ends bytes bs n (Whole k h) = AtWhole bytes bs n k h
Ends bytes bs n (Bad k) = AtBad bytes bs n k

ends-later : (bytes bs : List ℕ) (n b : ℕ) (r : Reading) → Ends (bytes ++ (b ∷ [])) bs (n + 1) r → Ends bytes (b ∷ bs) n r
ends-later bytes bs n b More e = record {
  head = e.head;
  line = e.line;
  read = let P : List ℕ → Type 0 = λ v. Reached e.head e.line v in subst P (append_assoc bytes (b ∷ []) bs) e.read;
  fits = omega (arith, e.fits);
}
ends-later bytes bs n b (Whole k h) e = record {
  prefix = b ∷ e.prefix;
  rest = e.rest;
  spelled = ap (λ v. b ∷ v) e.spelled;
  place = omega (arith, e.place);
  short = e.short;
  part = let P : List ℕ → Type 0 = λ v. IsRead v h in subst P (append_assoc bytes (b ∷ []) e.prefix) e.part;
}
ends-later bytes bs n b (Bad k) e = record {
  prefix = b ∷ e.prefix;
  byte = e.byte;
  rest = e.rest;
  spelled = ap (λ v. b ∷ v) e.spelled;
  head = e.head;
  line = e.line;
  read = let P : List ℕ → Type 0 = λ v. Reached e.head e.line v in subst P (append_assoc bytes (b ∷ []) e.prefix) e.read;
  at = e.at;
  place = omega (arith, e.place);
  fits = e.fits;
  why = e.why;
}

ends-here : (h : Head) (line n k b : ℕ) (bytes bs : List ℕ) → Reached h line bytes → n ≤ 8192 → Stops k n line (step h b) → AtBad bytes (b ∷ bs) n k
ends-here h line n k b bytes bs r l w = record {
  prefix = [];
  byte = b;
  rest = bs;
  spelled = refl;
  head = h;
  line = line;
  read = let P : List ℕ → Type 0 = λ v. Reached h line v in subst P (sym (append-nil bytes)) r;
  at = n;
  place = omega arith;
  fits = l;
  why = w;
}

step-ends : (h : Head) (line n b : ℕ) (bytes bs : List ℕ) (f : Head → Reading) (s : Step) → Reached h line bytes → n < 8192 → step h b ≡ s → ((k : Head) → step h b ≡ On k → Ends (bytes ++ (b ∷ [])) bs (n + 1) (f k)) → Ends bytes (b ∷ bs) n (after n line h s f)
step-ends h line n b bytes bs f (On k) r l q more = ends-later bytes bs n b (f k) (more k q)
step-ends h line n b bytes bs f Done r l q more = record {
  prefix = b ∷ [];
  rest = bs;
  spelled = refl;
  place = omega arith;
  short = omega (arith, l);
  part = read-done h line b bytes r.read q;
}
step-ends h line n b bytes bs f Stop r l q more = ends-here h line n n b bytes bs r (omega (arith, l)) (inr (inl (refl, l, q)))
step-ends h line n b bytes bs f Twice r l q more = ends-here h line n line b bytes bs r (omega (arith, l)) (inr (inr (refl, l, q)))

test-ends : (bytes bs : List ℕ) (n : ℕ) (c : Bool) (y : Reading) → nat_le 8192 n ≡ c → (8192 ≤ n → AtBad bytes bs n n) → (n < 8192 → Ends bytes bs n y) → Ends bytes bs n (if c then Bad n else y)
test-ends bytes bs n true y q f g = f (grind (arith, q))
test-ends bytes bs n false y q f g = g (grind (arith, q))

pub scan-ends : (bs : List ℕ) (n line : ℕ) (h : Head) (bytes : List ℕ) → Reached h line bytes → length bytes ≡ n → n ≤ 8192 → Ends bytes bs n (scan_from n line h bs)
unfolding scan_from
scan-ends [] n line h bytes r e l = record {
  head = h;
  line = line;
  read = let P : List ℕ → Type 0 = λ v. Reached h line v in subst P (sym (append-nil bytes)) r;
  fits = omega (arith, l);
}
scan-ends (b ∷ bs) n line h bytes r e l =
    test-ends bytes (b ∷ bs) n (nat_le 8192 n) _ refl
    (λ m. ends-here h line n n b bytes bs r l (inl (refl, m)))
    (λ m. step-ends h line n b bytes bs (λ g. scan_from (n + 1) (line_after n line g.mode) g bs) (step h b) r m refl (λ k q.
    let grown = read-on h k line b bytes r.read q in
    let P : ℕ → Type 0 = λ v. Read k (line_after v line k.mode) (bytes ++ (b ∷ [])) in
    let ran : run start (bytes ++ (b ∷ [])) ≡ Some k = run-append bytes (b ∷ []) start h r.ran ∙ run-on h k b [] q ∙ run-nil k in
    scan-ends bs (n + 1) (line_after n line k.mode) k (bytes ++ (b ∷ [])) (record { read = subst P e grown; ran = ran }) (omega (arith, e, length-append bytes (b ∷ []))) (omega (arith, m))))

pub start-ends : (bs : List ℕ) → Ends [] bs 0 (scan_from 0 0 start bs)
start-ends bs = scan-ends bs 0 0 start [] (record { read = read-start; ran = run-nil start }) refl (lit≤ tt)

reading-frame : (at : ℕ) (bytes body rest : List ℕ) (r : Reading) → Ends [] bytes 0 r → by_reading at bytes r ≡ whole body rest → BeginsFrame bytes body rest
unfolding by_reading by_length
reading-frame at bytes body rest More e q = absurd cc
reading-frame at bytes body rest (Bad k) e q = absurd cc
reading-frame at bytes body rest (Whole k h) e q =
    let s = length_whole h.told (nat_le h.length 16777216) (nat_le (k + h.length) (length bytes)) _ _ body rest _ _ q in
    let place : length e.prefix ≡ k = omega (arith, e.place) in
    let within : k + h.length ≤ length bytes = grind (arith, s.2) in
    let left : drop k bytes ≡ e.rest = ap (drop k) e.spelled ∙ ap (λ v. drop v (e.prefix ++ e.rest)) (sym place) ∙ drop-append_seam e.prefix e.rest in
    let body_is : take h.length e.rest ≡ body = ap (take h.length) (sym left) ∙ s.3 in
    let rest_is : drop h.length e.rest ≡ rest = sym (drop-append-add e.prefix e.rest h.length) ∙ ap (λ v. drop (v + h.length) (e.prefix ++ e.rest)) place ∙ ap (drop (k + h.length)) (sym e.spelled) ∙ s.4 in
    let long : length body ≡ h.length = omega (arith, ap length (sym body_is), length-take h.length e.rest, ap length left, length-drop k bytes, within) in
    let split : e.rest ≡ body ++ rest = sym (take-append-drop h.length e.rest) ∙ ap (λ v. v ++ drop h.length e.rest) body_is ∙ ap (λ v. body ++ v) rest_is in
    let told : e.part.lengths ≡ length body ∷ [] = e.part.told s.0 ∙ ap (λ v. v ∷ []) (sym long) in
    let P : List ℕ → Type 0 = λ v. AreHeaderLines e.prefix v in
    record {
      frame = e.prefix ++ body;
      is = record {
        part = e.prefix;
        header = record { lines = subst P told e.part.lines; short = omega (arith, place, e.short) };
        short = grind (arith, s.1, long);
        spelled = refl;
      };
      spelled = e.spelled ∙ ap (λ v. e.prefix ++ v) split ∙ sym (append_assoc e.prefix body rest);
    }

pub next-frame : (at : ℕ) (bytes body rest : List ℕ) → next_of at bytes ≡ whole body rest → BeginsFrame bytes body rest
next-frame at bytes body rest q = reading-frame at bytes body rest (scan_from 0 0 start bytes) (start-ends bytes) q
