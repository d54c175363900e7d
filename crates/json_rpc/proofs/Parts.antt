-- A frame is read as its body, and what is written is a frame.
use Rattle.std.proofs.Common.{◌≡◌, ℕ, ◌+◌, ◌^◌, ◌<◌, ◌≤◌, ap, sym, ◌∙◌, drop, take, arith, List, [], ◌∷◌, refl, Bool, true, false, ◌++◌, length, nat_le, append_assoc, Some, append-nil, codes, decimal, lit<}
use Rattle.std.proofs.lemmas.List.{length-append}
use Rattle.std.proofs.lemmas.List.Elements.{All-nil, All-cons}
use Rattle.std.proofs.lemmas.List.Sums.{AllPass-from_list_all}
use Rattle.std.proofs.lemmas.Fmt.{digits_value-decimal, digits_decimal, decimal_nonempty, length-decimal-le}
use Rattle.std.proofs.lemmas.Str.Parse.{IsDigitsTest, numerals_by_value}
use Rattle.std.proofs.Math.Seq.{take-append_seam, drop-append_seam, drop-append-add}
use Rattle.std.specs.List.{list_all, flat_map}
use Rattle.std.specs.Str.Parse.{digits_value}
use Rattle.json_rpc.specs.Heads.{start, step, line_after, scan_from, is_digit, is_blank, at_line}
use Rattle.json_rpc.specs.Replies.{frame_of, head_of, length_mark}
use Rattle.json_rpc.specs.Streams.{whole, by_length, by_reading, next_of}
use Rattle.json_rpc.specs.Spelled.{HeaderLine, length_line, line_text, line_end, IsHeaderLine, TellsLength, IsHeaderPart, IsFrame, BeginsFrame}
use Rattle.json_rpc.proofs.Scans.{scan-one}
use Rattle.json_rpc.proofs.Lines.{known, onward, run, pick_true, pick_false, both, all-and, run-one, digit-bounds}
use Rattle.json_rpc.specs.declared.header.Mode.TheVariants.{Line, LastEnd}
use Rattle.json_rpc.specs.declared.header.Head.{Head}
use Rattle.json_rpc.specs.declared.header.Step.{Step}
use Rattle.json_rpc.specs.declared.header.Step.TheVariants.{On, Done, Stop, Twice}
use Rattle.json_rpc.specs.declared.header.Reading.TheVariants.{Whole, Bad}

-- a reading goes on where all bytes may stand
scan-on : (n line : ℕ) (h g : Head) (b : ℕ) (xs ys : List ℕ) (s : Step) → step h b ≡ s → onward s (λ k. run k xs) ≡ Some g → n + length (b ∷ xs) ≤ 8192 → ((k : Head) → run k xs ≡ Some g → (e : ℕ) × (scan_from (n + 1) (line_after n line k.mode) k (xs ++ ys) ≡ scan_from (n + 1 + length xs) e g ys)) → (e : ℕ) × (scan_from n line h (b ∷ (xs ++ ys)) ≡ scan_from (n + length (b ∷ xs)) e g ys)
scan-on n line h g b xs ys (On k) q e l more =
    let r = more k e in
    let i : n + 1 + length xs ≡ n + length (b ∷ xs) = omega arith in
    (r.0, scan-one n line h k b (xs ++ ys) (omega (arith, l)) q ∙ r.1 ∙ ap (λ m. scan_from m (r.0) g ys) i)
scan-on n line h g b xs ys Done q e l more = absurd cc
scan-on n line h g b xs ys Stop q e l more = absurd cc
scan-on n line h g b xs ys Twice q e l more = absurd cc

pub scan-run : (xs ys : List ℕ) (n line : ℕ) (h g : Head) → run h xs ≡ Some g → n + length xs ≤ 8192 → (e : ℕ) × (scan_from n line h (xs ++ ys) ≡ scan_from (n + length xs) e g ys)
unfolding run
scan-run [] ys n line h g e l =
    let same : h ≡ g = cc in
    let i : n ≡ n + length {A = ℕ} [] = omega arith in
    (line, ap (λ k. scan_from n line k ys) same ∙ ap (λ m. scan_from m line g ys) i)
scan-run (b ∷ xs) ys n line h g e l = scan-on n line h g b xs ys (step h b) refl e l (λ k f. scan-run xs ys (n + 1) (line_after n line k.mode) k g f (omega (arith, l)))

pub scan-done : (n line k d v : ℕ) (t : Bool) (bs : List ℕ) → n < 8192 → scan_from n line (known LastEnd k t d v) (10 ∷ bs) ≡ Whole (n + 1) (known LastEnd k t d v)
unfolding scan_from step
scan-done n line k d v t bs l = let f : nat_le 8192 n ≡ false = grind (arith, l) in pick_false (nat_le 8192 n) (Bad n) _ f

pub line-last : (k d v : ℕ) (t : Bool) → run (known Line k t d v) (13 ∷ []) ≡ Some (known LastEnd k t d v)
unfolding run step at_line
line-last k d v t = refl

-- a header part is read to its end
pub part-scan : (part rest : List ℕ) (n : ℕ) → IsHeaderPart part n → (e : ℕ) × (scan_from 0 0 start (part ++ rest) ≡ Whole (length part) (known LastEnd 0 true e n))
part-scan part rest n p =
    let flat = flat_map line_text p.lines.lines in
    let prefix : List ℕ = flat ++ (13 ∷ []) in
    let one = run-one p.lines.lines (13 ∷ []) n 0 p.lines.each p.lines.tell in
    let split : part ≡ prefix ++ (10 ∷ []) = p.lines.spelled ∙ sym (append_assoc flat (13 ∷ []) (10 ∷ [])) in
    let long : length prefix + 1 ≡ length part = omega (arith, ap length split, length-append prefix (10 ∷ [])) in
    let s = scan-run prefix (10 ∷ rest) 0 0 start (known LastEnd 0 true (one.0) n) (one.1 ∙ line-last 0 (one.0) n true) (omega (arith, long, p.short)) in
    let end : 0 + length prefix + 1 ≡ length part = omega (arith, long) in
    let all : part ++ rest ≡ prefix ++ (10 ∷ rest) = ap (λ t. t ++ rest) split ∙ append_assoc prefix (10 ∷ []) rest in (
      one.0,
      ap (scan_from 0 0 start) all ∙ s.1
          ∙ scan-done (0 + length prefix) (s.0) 0 (one.0) n true rest (omega (arith, long, p.short))
          ∙ ap (λ m. Whole m (known LastEnd 0 true (one.0) n)) end,
    )

-- a frame is read as its body
length-whole : (at d : ℕ) (part body rest : List ℕ) → length body ≤ 16777216 → by_length at (part ++ (body ++ rest)) (length part) (known LastEnd 0 true d (length body)) ≡ whole body rest
unfolding by_length
length-whole at d part body rest l =
    let small : nat_le (length body) 16777216 ≡ true = grind (arith, l) in
    let all : List ℕ = part ++ (body ++ rest) in
    let within : nat_le (length part + length body) (length all) ≡ true = grind (arith, length-append part (body ++ rest), length-append body rest) in
    let after_part : drop (length part) all ≡ body ++ rest = drop-append_seam part (body ++ rest) in
    let body_is : take (length body) (drop (length part) all) ≡ body = ap (take (length body)) after_part ∙ take-append_seam body rest in
    let rest_is : drop (length part + length body) all ≡ rest = drop-append-add part (body ++ rest) (length body) ∙ drop-append_seam body rest in
    pick_true (nat_le (length body) 16777216) _ _ small ∙ pick_true (nat_le (length part + length body) (length all)) _ _ within
    ∙ ap (λ t. whole t (drop (length part + length body) all)) body_is ∙ ap (whole body) rest_is

pub frame-next : (at : ℕ) (frame body rest : List ℕ) → IsFrame frame body → next_of at (frame ++ rest) ≡ whole body rest
unfolding by_reading
frame-next at frame body rest f =
    let all : frame ++ rest ≡ f.part ++ (body ++ rest) = ap (λ t. t ++ rest) f.spelled ∙ append_assoc f.part body rest in
    let s = part-scan f.part (body ++ rest) (length body) f.header in
    ap (next_of at) all ∙ ap (by_reading at (f.part ++ (body ++ rest))) s.1 ∙ length-whole at (s.0) f.part body rest f.short

pub frame-at : (at : ℕ) (bytes body rest : List ℕ) → BeginsFrame bytes body rest → next_of at bytes ≡ whole body rest
frame-at at bytes body rest f = ap (next_of at) f.spelled ∙ frame-next at f.frame body rest f.is

-- what is written is a frame
all_digits : IsDigitsTest (λ ds. list_all is_digit ds ≡ true)
all_digits = record {
  empty = refl;
  parts = λ c cs e. let p = both (is_digit c) (list_all is_digit cs) e in (digit-bounds c p.0, p.1);
  more = λ c cs r e. all-and (is_digit c) (list_all is_digit cs) (grind (arith, r.0, r.1)) e;
}

pub frame_of-frame : (body : List ℕ) → length body ≤ 16777216 → IsFrame (frame_of body) body
unfolding frame_of head_of length_mark
frame_of-frame body l =
    let n : ℕ = length body in
    let small : length body < 2 ^ 64 = omega (arith, l) in
    let model = numerals_by_value (λ ds. list_all is_digit ds ≡ true) all_digits in
    let value : digits_value 10 (decimal (length body)) ≡ length body = digits_value-decimal model (length body) small in
    let passes : list_all is_digit (decimal (length body)) ≡ true = digits_decimal model (length body) small in
    let few : length (decimal (length body)) ≤ 18 = length-decimal-le 18 (length body) (lit< tt) (omega (arith, l)) small in
    let tail : (decimal (length body) ++ codes "\r\n\r\n") ≡ ((decimal (length body) ++ line_end) ++ []) ++ line_end =
    sym (append_assoc (decimal (length body)) line_end line_end) ∙ ap (λ t. t ++ line_end) (sym (append-nil (decimal (length body) ++ line_end))) in
    let line : HeaderLine = length_line (codes "Content-Length") (32 ∷ []) (decimal (length body)) [] in
    let told : TellsLength (codes "Content-Length") (32 ∷ []) (decimal (length body)) [] = record {
      named = refl;
      blank = AllPass-from_list_all is_blank (32 ∷ []) refl;
      digit = AllPass-from_list_all is_digit (decimal (length body)) passes;
      some = decimal_nonempty (length body) small;
      few = few;
      space = AllPass-from_list_all _ [] refl;
    } in
    let header : IsHeaderPart (head_of (length body)) (length body) = record {
      lines = record {
        lines = line ∷ [];
        each = All-cons IsHeaderLine line [] told (All-nil IsHeaderLine);
        tell = ap (λ v. v ∷ []) value;
        spelled = ap (λ t. codes "Content-Length: " ++ t) tail;
      };
      short = omega (arith, few, length-append (decimal (length body)) (codes "\r\n\r\n"));
    } in
    record { part = head_of (length body); header = header; short = l; spelled = refl }
