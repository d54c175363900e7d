-- Bytes that are written in two parts.
use Rattle.std.proofs.Common.{◌≡◌, ℕ, ◌+◌, ◌≤◌, ◌<◌, List, [], ◌∷◌, ◌++◌, take, drop, length, get_or, Option, Some, None, sym, ap, ◌∙◌, append_assoc, append-nil, arith, refl, subst, nat_lt, true, false, ◌/◌, ◌%◌, ◌-◌, OnErr, OnOk}
use Rattle.std.proofs.lemmas.List.{get_or-drop, length-append, length-drop, take-append-le, take_more, take_all, drop_more, drop_all, take-append-drop}
use Rattle.std.proofs.lemmas.Grind.{flat_map-append}
use Rattle.std.proofs.Math.Seq.{take-append-add}
use Rattle.std.specs.List.{flat_map}
use Rattle.std.specs.Fmt.{signed_decimal}
use Rattle.std.specs.Prelude.{ℤ, Result, Ok, Err}
use Rattle.std.specs.Io.KnownBytes.{Appends}
use Rattle.outside.specs.Causes.{HasCause, Rose}
use Rattle.outside.specs.Gathered.{WrotePrefix}
use Rattle.std.specs.Char.{digit_char}
use Rattle.json.specs.Print.{escape, escape_byte, escape_letter}
use Rattle.json_rpc.specs.Replies.{HasRun, after_id, before_id, frame_of, head_of, id_text, no_memory_reply, piece_text}
use Rattle.json_rpc.specs.declared.message.Id.TheVariants.{Number, Text}
use Rattle.json_rpc.specs.declared.write.Piece.{Piece}

pub appends-none : (a : Option (List ℕ)) → Appends a a []
appends-none None = tt
appends-none (Some xs) = sym (append-nil xs)

pub appends-both : (a b c : Option (List ℕ)) (xs ys : List ℕ) → Appends a b xs → Appends b c ys → Appends a c (xs ++ ys)
appends-both None b c xs ys h k = tt
appends-both (Some p) None c xs ys h k = absurd h
appends-both (Some p) (Some q) None xs ys h k = k
appends-both (Some p) (Some q) (Some r) xs ys h k = k ∙ ap (λ t. t ++ ys) h ∙ append_assoc p xs ys

pub prefix-left : (a b : Option (List ℕ)) (xs ys : List ℕ) → WrotePrefix a b xs → WrotePrefix a b (xs ++ ys)
prefix-left a b xs ys w = record {
  count = w.count;
  within = omega (arith, w.within, length-append xs ys);
  wrote = let P : List ℕ → Type 0 = λ t. Appends a b t in subst P (sym (take-append-le w.count xs ys w.within)) w.wrote;
}

pub prefix-right : (a b c : Option (List ℕ)) (xs ys : List ℕ) → Appends a b xs → WrotePrefix b c ys → WrotePrefix a c (xs ++ ys)
prefix-right a b c xs ys h w = record {
  count = length xs + w.count;
  within = omega (arith, w.within, length-append xs ys);
  wrote = let P : List ℕ → Type 0 = λ t. Appends a c t in subst P (sym (take-append-add xs ys w.count)) (appends-both a b c xs (take w.count ys) h w.wrote);
}

pub rose-later : (a b c : ℕ) → a ≤ b → Rose b c → Rose a c
rose-later a b c l r = grind (arith, l, r)

pub cause-later : {T E : Type 0} (a b c : ℕ) (r : Result T E) → a ≤ b → HasCause b c r → HasCause a c r
cause-later a b c (Ok x) l h = record { later = omega (arith, l, h.later); failed = tt }
cause-later a b c (Err e) l h = record { later = omega (arith, l, h.later); failed = rose-later a b c l h.failed }

pub escape-more : (bs : List ℕ) (i : ℕ) → i < length bs → escape (take (i + 1) bs) ≡ escape (take i bs) ++ escape_byte (get_or bs i 0)
escape-more bs i l = ap escape (take_more bs i 0 l) ∙ flat_map-append escape_byte (take i bs) (get_or bs i 0 ∷ []) ∙ ap (λ t. escape (take i bs) ++ t) (append-nil (escape_byte (get_or bs i 0)))

pub escape-all : (bs : List ℕ) → escape (take (length bs) bs) ≡ escape bs
escape-all bs = ap escape (take_all (length bs) bs (omega arith))

pub escape-split : (bs : List ℕ) (i : ℕ) → escape bs ≡ escape (take i bs) ++ escape (drop i bs)
escape-split bs i = ap escape (sym (take-append-drop i bs)) ∙ flat_map-append escape_byte (take i bs) (drop i bs)

pub escape-rest : (bs : List ℕ) (i : ℕ) → i < length bs → escape (drop i bs) ≡ escape_byte (get_or bs i 0) ++ escape (drop (i + 1) bs)
escape-rest bs i l = ap escape (drop_more bs i 0 l)

pub escape-end : (bs : List ℕ) (i : ℕ) → length bs ≤ i → escape (drop i bs) ≡ []
escape-end bs i l = ap escape (drop_all i bs l)

-- What stands for a byte, by its three cases.
pub escape-short : (b : ℕ) → 0 < escape_letter b → escape_byte b ≡ 92 ∷ escape_letter b ∷ []
unfolding escape_byte
escape-short b l = let e : nat_lt 0 (escape_letter b) ≡ true = grind (arith, l) in rw e refl

pub escape-hex : (b : ℕ) → escape_letter b ≡ 0 → b < 32 → escape_byte b ≡ 92 ∷ 117 ∷ 48 ∷ 48 ∷ digit_char (b / 16) ∷ digit_char (b % 16) ∷ []
unfolding escape_byte
escape-hex b z l =
    let e : nat_lt 0 (escape_letter b) ≡ false = grind (arith, z) in
    let f : nat_lt b 32 ≡ true = grind (arith, l) in
    rw (e, f) refl

pub escape-plain : (b : ℕ) → escape_letter b ≡ 0 → 32 ≤ b → escape_byte b ≡ b ∷ []
unfolding escape_byte
escape-plain b z l =
    let e : nat_lt 0 (escape_letter b) ≡ false = grind (arith, z) in
    let f : nat_lt b 32 ≡ false = grind (arith, l) in
    rw (e, f) refl

-- The same for a letter that the code has found.
pub short-is : (b letter : ℕ) → letter ≡ escape_letter b → 0 < letter → escape_byte b ≡ 92 ∷ letter ∷ []
short-is b letter e l = escape-short b (omega (arith, e, l)) ∙ ap (λ x. 92 ∷ x ∷ []) (sym e)

pub length-more : (bs : List ℕ) (i : ℕ) → i < length bs → length (escape (take (i + 1) bs)) ≡ length (escape (take i bs)) + length (escape_byte (get_or bs i 0))
length-more bs i l = ap length (escape-more bs i l) ∙ length-append (escape (take i bs)) (escape_byte (get_or bs i 0))

-- A run of bytes that stand for themselves, by one byte more.
slice-more : (bs : List ℕ) (d i : ℕ) → d ≤ i → i < length bs → take (i + 1 - d) (drop d bs) ≡ take (i - d) (drop d bs) ++ (get_or bs i 0 ∷ [])
slice-more bs d i o l =
    let k : i + 1 - d ≡ i - d + 1 = omega (arith, o) in
    let n : d + (i - d) ≡ i = omega (arith, o) in
    let m : i - d < length (drop d bs) = omega (arith, o, l, length-drop d bs) in
    ap (λ v. take v (drop d bs)) k ∙ take_more (drop d bs) (i - d) 0 m ∙ ap (λ v. take (i - d) (drop d bs) ++ (v ∷ [])) (get_or-drop d bs (i - d) 0 ∙ ap (λ v. get_or bs v 0) n)

pub run-start : (a : Option (List ℕ)) (bs : List ℕ) → HasRun a a bs 0 0
run-start a bs = record { order = omega arith; wrote = appends-none a; run = refl }

pub run-plain : (a b : Option (List ℕ)) (bs : List ℕ) (d i : ℕ) → i < length bs → escape_byte (get_or bs i 0) ≡ get_or bs i 0 ∷ [] → HasRun a b bs d i → HasRun a b bs d (i + 1)
run-plain a b bs d i l p h = record {
  order = omega (arith, h.order);
  wrote = h.wrote;
  run =
      escape-more bs i l ∙ ap (λ t. t ++ escape_byte (get_or bs i 0)) h.run
      ∙ ap (λ t. (escape (take d bs) ++ take (i - d) (drop d bs)) ++ t) p
      ∙ append_assoc (escape (take d bs)) (take (i - d) (drop d bs)) (get_or bs i 0 ∷ [])
      ∙ ap (λ t. escape (take d bs) ++ t) (sym (slice-more bs d i h.order l));
}

run_is : (a b : Option (List ℕ)) (bs : List ℕ) (d i : ℕ) → i < length bs → HasRun a b bs d i → escape (take d bs) ++ (take (i - d) (drop d bs) ++ escape_byte (get_or bs i 0)) ≡ escape (take (i + 1) bs)
run_is a b bs d i l h =
    sym (append_assoc (escape (take d bs)) (take (i - d) (drop d bs)) (escape_byte (get_or bs i 0)))
    ∙ ap (λ t. t ++ escape_byte (get_or bs i 0)) (sym h.run) ∙ sym (escape-more bs i l)

pub run-written : (a b c : Option (List ℕ)) (bs : List ℕ) (d i : ℕ) → i < length bs → Appends b c (take (i - d) (drop d bs) ++ escape_byte (get_or bs i 0)) → HasRun a b bs d i → HasRun a c bs (i + 1) (i + 1)
run-written a b c bs d i l w h = record {
  order = omega arith;
  wrote =
      let P : List ℕ → Type 0 = λ t. Appends a c t in
      subst P (run_is a b bs d i l h) (appends-both a b c (escape (take d bs)) _ h.wrote w);
  run = let z : i + 1 - (i + 1) ≡ 0 = omega arith in sym (ap (λ n. escape (take (i + 1) bs) ++ take n (drop (i + 1) bs)) z ∙ append-nil (escape (take (i + 1) bs)));
}

-- A fault while a run is written.
pub run-prefix : (a b c : Option (List ℕ)) (bs : List ℕ) (d i : ℕ) → i < length bs → WrotePrefix b c (take (i - d) (drop d bs) ++ escape_byte (get_or bs i 0)) → HasRun a b bs d i → WrotePrefix a c (escape bs)
run-prefix a b c bs d i l w h =
    let all : escape bs ≡ (escape (take d bs) ++ (take (i - d) (drop d bs) ++ escape_byte (get_or bs i 0))) ++ escape (drop (i + 1) bs) =
    escape-split bs (i + 1) ∙ ap (λ t. t ++ escape (drop (i + 1) bs)) (sym (run_is a b bs d i l h)) in
    let P : List ℕ → Type 0 = λ t. WrotePrefix a c t in
    subst P (sym all) (prefix-left a c _ (escape (drop (i + 1) bs)) (prefix-right a b c (escape (take d bs)) _ h.wrote w))

-- What holds anyhow.
pub on_err : {T E : Type 0} (result : Result T E) {P : Type 0} → P → OnErr result P
on_err (Ok x) p = tt
on_err (Err e) p = p

-- The last run.
run_all : (a b : Option (List ℕ)) (bs : List ℕ) (d : ℕ) → HasRun a b bs d (length bs) → escape (take d bs) ++ take (length bs - d) (drop d bs) ≡ escape bs
run_all a b bs d h = sym h.run ∙ escape-all bs

pub run-end : (a b c : Option (List ℕ)) (bs : List ℕ) (d : ℕ) → HasRun a b bs d (length bs) → Appends b c (take (length bs - d) (drop d bs)) → Appends a c (escape bs)
run-end a b c bs d h w = let P : List ℕ → Type 0 = λ t. Appends a c t in subst P (run_all a b bs d h) (appends-both a b c (escape (take d bs)) _ h.wrote w)

pub run-end_prefix : (a b c : Option (List ℕ)) (bs : List ℕ) (d : ℕ) → HasRun a b bs d (length bs) → WrotePrefix b c (take (length bs - d) (drop d bs)) → WrotePrefix a c (escape bs)
run-end_prefix a b c bs d h w = let P : List ℕ → Type 0 = λ t. WrotePrefix a c t in subst P (run_all a b bs d h) (prefix-right a b c (escape (take d bs)) _ h.wrote w)

-- What follows of a result.
pub on_ok_map : {T E : Type 0} (result : Result T E) {P Q : Type 0} → (P → Q) → OnOk result P → OnOk result Q
on_ok_map (Ok x) f p = f p
on_ok_map (Err e) f p = tt

pub on_err_map : {T E : Type 0} (result : Result T E) {P Q : Type 0} → (P → Q) → OnErr result P → OnErr result Q
on_err_map (Ok x) f p = tt
on_err_map (Err e) f p = f p

-- A frame, whose header part is written first.
pub framed : (a b c : Option (List ℕ)) (head body : List ℕ) (n : ℕ) → head ≡ head_of n → n ≡ length body → Appends a b head → Appends b c body → Appends a c (frame_of body)
unfolding frame_of
framed a b c head body n is count h w =
    let P : List ℕ → Type 0 = λ t. Appends a b t in
    appends-both a b c (head_of (length body)) body (subst P (is ∙ ap head_of count) h) w

pub framed-head : (a b : Option (List ℕ)) (head body : List ℕ) (n : ℕ) → head ≡ head_of n → n ≡ length body → WrotePrefix a b head → WrotePrefix a b (frame_of body)
unfolding frame_of
framed-head a b head body n is count w =
    let P : List ℕ → Type 0 = λ t. WrotePrefix a b t in
    prefix-left a b (head_of (length body)) body (subst P (is ∙ ap head_of count) w)

pub framed-prefix : (a b c : Option (List ℕ)) (head body : List ℕ) (n : ℕ) → head ≡ head_of n → n ≡ length body → Appends a b head → WrotePrefix b c body → WrotePrefix a c (frame_of body)
unfolding frame_of
framed-prefix a b c head body n is count h w =
    let P : List ℕ → Type 0 = λ t. Appends a b t in
    prefix-right a b c (head_of (length body)) body (subst P (is ∙ ap head_of count) h) w

-- The pieces up to one, and those behind it.
text-more : (ps : List Piece) (i : ℕ) (d : Piece) → i < length ps → flat_map piece_text (take (i + 1) ps) ≡ flat_map piece_text (take i ps) ++ piece_text (get_or ps i d)
text-more ps i d l =
    ap (flat_map piece_text) (take_more ps i d l)
    ∙ flat_map-append piece_text (take i ps) (get_or ps i d ∷ [])
    ∙ ap (λ t. flat_map piece_text (take i ps) ++ t) (append-nil (piece_text (get_or ps i d)))

text-split : (ps : List Piece) (i : ℕ) (d : Piece) → i < length ps → flat_map piece_text ps ≡ (flat_map piece_text (take i ps) ++ piece_text (get_or ps i d)) ++ flat_map piece_text (drop (i + 1) ps)
text-split ps i d l =
    ap (flat_map piece_text) (sym (take-append-drop (i + 1) ps))
    ∙ flat_map-append piece_text (take (i + 1) ps) (drop (i + 1) ps)
    ∙ ap (λ t. t ++ flat_map piece_text (drop (i + 1) ps)) (text-more ps i d l)

pub length-next : (ps : List Piece) (i : ℕ) (d : Piece) (n m : ℕ) → i < length ps → n ≡ length (flat_map piece_text (take i ps)) → m ≡ length (piece_text (get_or ps i d)) → n + m ≡ length (flat_map piece_text (take (i + 1) ps))
length-next ps i d n m l e f = omega (arith, e, f, ap length (text-more ps i d l), length-append (flat_map piece_text (take i ps)) (piece_text (get_or ps i d)))

pub pieces-next : (a b c : Option (List ℕ)) (ps : List Piece) (i : ℕ) (d : Piece) → i < length ps → Appends a b (flat_map piece_text (take i ps)) → Appends b c (piece_text (get_or ps i d)) → Appends a c (flat_map piece_text (take (i + 1) ps))
pieces-next a b c ps i d l h w =
    let P : List ℕ → Type 0 = λ t. Appends a c t in
    subst P (sym (text-more ps i d l)) (appends-both a b c (flat_map piece_text (take i ps)) (piece_text (get_or ps i d)) h w)

-- A fault while a piece is written.
pub pieces-prefix : (a b c : Option (List ℕ)) (ps : List Piece) (i : ℕ) (d : Piece) → i < length ps → Appends a b (flat_map piece_text (take i ps)) → WrotePrefix b c (piece_text (get_or ps i d)) → WrotePrefix a c (flat_map piece_text ps)
pieces-prefix a b c ps i d l h w =
    let P : List ℕ → Type 0 = λ t. WrotePrefix a c t in
    subst P (sym (text-split ps i d l)) (prefix-left a c _ (flat_map piece_text (drop (i + 1) ps)) (prefix-right a b c (flat_map piece_text (take i ps)) (piece_text (get_or ps i d)) h w))

pub pieces-all : (ps : List Piece) (i : ℕ) → length ps ≤ i → flat_map piece_text (take i ps) ≡ flat_map piece_text ps
pieces-all ps i l = ap (flat_map piece_text) (take_all i ps l)

-- The reply for which there was no memory, from its pieces.
pub reply-number : (z : ℤ) (digits : List ℕ) → digits ≡ signed_decimal z → before_id ++ (digits ++ (after_id ++ [])) ≡ no_memory_reply (Number z)
unfolding no_memory_reply id_text
reply-number z digits is = ap (λ t. before_id ++ (digits ++ t)) (append-nil after_id) ∙ ap (λ t. before_id ++ (t ++ after_id)) is

pub reply-text : (s bytes : List ℕ) → bytes ≡ s → before_id ++ ((34 ∷ []) ++ (escape bytes ++ ((34 ∷ []) ++ (after_id ++ [])))) ≡ no_memory_reply (Text s)
unfolding no_memory_reply id_text
reply-text s bytes is =
    ap (λ t. before_id ++ (34 ∷ t))
    (ap (λ t. escape bytes ++ (34 ∷ t)) (append-nil after_id)
    ∙ ap (λ t. escape t ++ (34 ∷ after_id)) is
    ∙ sym (append_assoc (escape s) (34 ∷ []) after_id))

pub ruleset escapes = (escape-short, escape-hex, escape-plain, short-is, length-more, escape-all)

pub ruleset pieces = (appends-none, appends-both, prefix-left, prefix-right, cause-later, escape-all, run-start, run-end, run-end_prefix, pieces-all)
