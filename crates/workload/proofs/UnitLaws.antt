-- Modified UTF-8 of a text spells the text.
use Rattle.std.proofs.Common.{◌≡◌, ℕ, ◌+◌, ◌-◌, ◌*◌, ◌/◌, ◌%◌, ◌<◌, ◌≤◌, Bool, true, false, cond, ◌&&◌, ltb, leb, List, [], ◌∷◌, ◌++◌, map, refl, sym, ap, subst, ◌∙◌, Option, Some, get_or, arith, ◌⊎◌, inl, inr}
use Rattle.std.specs.List.{flat_map, AllByRecursion, list_any}
use Rattle.std.specs.Option.{is_some, unwrap_or}
use Rattle.std.specs.Prelude.{not}
use Rattle.std.specs.Str.{chars, IsUtf8, encode_utf8_all, all_scalars}
use Rattle.std.specs.Char.Escape.{encode_utf16}
use Rattle.std.specs.Char.Utf16.{utf16_chars, lone_unit_char}
use Rattle.std.proofs.lemmas.Bool.{ltb-false, ltb-true, le-ltb, le-leb, lt-leb, leb-true}
use Rattle.std.proofs.lemmas.Str.{utf16_chars-nil, utf16_chars_lone, utf16_chars_pair, chars-encodes}
use Rattle.class_pool.specs.Units.{IsUnit, AreUnits, IsText}
use Rattle.workload.specs.Modified.{unit_bytes, modified}

pub map_same : (cs : List ℕ) → map (λ (c : ℕ). c) cs ≡ cs
map_same [] = refl
map_same (c ∷ cs) = ap (λ (t : List ℕ). c ∷ t) (map_same cs)

-- ---- one unit
unit_is : (u : ℕ) → u < 65536 → IsUnit (unit_bytes u) u
unfolding unit_bytes
unit_is u lt = go (ltb 0 u) (ltb u 128) (ltb u 2048) refl refl refl
  where
    go : (a b c : Bool) → ltb 0 u ≡ a → ltb u 128 ≡ b → ltb u 2048 ≡ c → IsUnit (cond (a && b) (u ∷ []) (cond c ((192 + u / 64) ∷ (128 + u % 64) ∷ []) ((224 + u / 4096) ∷ (128 + u / 64 % 64) ∷ (128 + u % 64) ∷ []))) u
    go true true c p q r = (ltb-true _ _ p, ltb-true _ _ q, refl)
    go true false true p q r = let h = ltb-true _ _ r in (omega arith, omega arith, omega arith, omega arith, omega arith)
    go true false false p q r = (omega arith, omega arith, omega arith, omega arith, omega arith, omega arith, omega arith)
    go false b true p q r = let h = ltb-true _ _ r in (omega arith, omega arith, omega arith, omega arith, omega arith)
    go false b false p q r = (omega arith, omega arith, omega arith, omega arith, omega arith, omega arith, omega arith)

are_units : (us : List ℕ) → AllByRecursion (λ u. u < 65536) us → AreUnits (flat_map unit_bytes us) us
are_units [] all = refl
are_units (u ∷ us) all = (unit_bytes u, flat_map unit_bytes us, refl, unit_is u all.0, are_units us all.1)

-- ---- characters
pub record IsChar (c : ℕ) : Type 0 where
  pub below : c < 1114112
  pub scalar : (c < 55296) ⊎ (57344 ≤ c)

all_short : (cs : List ℕ) → AllByRecursion IsChar cs → AllByRecursion (λ u. u < 65536) (flat_map encode_utf16 cs)
all_short [] all = tt
all_short (c ∷ cs) all = go (ltb c 65536) refl (all_short cs all.1)
  where
    go : (b : Bool) → ltb c 65536 ≡ b → AllByRecursion (λ u. u < 65536) (flat_map encode_utf16 cs) → AllByRecursion (λ u. u < 65536) (cond b (c ∷ []) ((55296 + (c - 65536) / 1024) ∷ (56320 + (c - 65536) % 1024) ∷ []) ++ flat_map encode_utf16 cs)
    go true e more = (ltb-true _ _ e, more)
    go false e more = let below = all.0.below in (omega arith, (omega arith, more))

abbrev known : ℕ → Option ℕ
known c = Some c

lone_char : (c : ℕ) → IsChar c → lone_unit_char c ≡ Some c
lone_char c h = go h.scalar
  where
    go : (c < 55296) ⊎ (57344 ≤ c) → lone_unit_char c ≡ Some c
    go (inl lt) = rw (lt-leb 55296 c lt) refl
    go (inr le) = let low : 55296 ≤ c = omega arith in rw (le-leb 55296 c low, le-ltb c 57344 le) refl

decoded : (cs : List ℕ) → AllByRecursion IsChar cs → utf16_chars (flat_map encode_utf16 cs) ≡ map known cs
decoded [] all = utf16_chars-nil
decoded (c ∷ cs) all = go (ltb c 65536) refl (decoded cs all.1)
  where
    scalar : ℕ → Type 0
    scalar c = (c < 55296) ⊎ (57344 ≤ c)

    apart : (v : ℕ) → (c < 55296) ⊎ (57344 ≤ c) → (55296 ≤ c) × (c < 56320) × (56320 ≤ v) × (v < 57344) → ⊥
    apart v (inl lt) p = omega (arith, p.0)
    apart v (inr le) p = omega (arith, p.1)

    go : (b : Bool) → ltb c 65536 ≡ b → utf16_chars (flat_map encode_utf16 cs) ≡ map known cs
        → utf16_chars (cond b (c ∷ []) ((55296 + (c - 65536) / 1024) ∷ (56320 + (c - 65536) % 1024) ∷ []) ++ flat_map encode_utf16 cs) ≡ known c ∷ map known cs
    go true e more = utf16_chars_lone c (flat_map encode_utf16 cs) (apart (get_or (flat_map encode_utf16 cs) 0 0) all.0.scalar) ∙ rw (lone_char c all.0, more) refl
    go false e more =
        let below = all.0.below in
        let high = ltb-false _ _ e in
        let same : 65536 + (55296 + (c - 65536) / 1024 - 55296) * 1024 + (56320 + (c - 65536) % 1024 - 56320) ≡ c = omega arith in
        utf16_chars_pair (55296 + (c - 65536) / 1024) (56320 + (c - 65536) % 1024) (flat_map encode_utf16 cs) (omega arith, omega arith, omega arith, omega arith) ∙ rw (same, more) refl

none_unpaired : (cs : List ℕ) → list_any (λ (o : Option ℕ). not (is_some o)) (map known cs) ≡ false
none_unpaired [] = refl
none_unpaired (c ∷ cs) = none_unpaired cs

all_known : (cs : List ℕ) → map (λ (o : Option ℕ). unwrap_or o 65533) (map known cs) ≡ cs
all_known [] = refl
all_known (c ∷ cs) = ap (λ (t : List ℕ). c ∷ t) (all_known cs)

chars_spell : (cs : List ℕ) → AllByRecursion IsChar cs → IsText (flat_map unit_bytes (flat_map encode_utf16 cs)) (encode_utf8_all cs)
chars_spell cs all = record {
  units = flat_map encode_utf16 cs;
  are = are_units (flat_map encode_utf16 cs) (all_short cs all);
  paired = ap (list_any (λ (o : Option ℕ). not (is_some o))) (decoded cs all) ∙ none_unpaired cs;
  spelled = ap encode_utf8_all (sym (ap (map (λ (o : Option ℕ). unwrap_or o 65533)) (decoded cs all) ∙ all_known cs));
}

-- ---- a text
char_is : (c : ℕ) (a b d : Bool) → ltb c 55296 ≡ a → leb 57344 c ≡ b → ltb c 1114112 ≡ d → cond a true (b && d) ≡ true → IsChar c
char_is c true b d p q r e = let lt = ltb-true c 55296 p in record { below = omega (arith, lt); scalar = inl lt }
char_is c false true true p q r e = record { below = ltb-true c 1114112 r; scalar = inr (leb-true 57344 c q) }
char_is c false true false p q r e = absurd cc
char_is c false false d p q r e = absurd cc

both : (a b : Bool) → (a && b) ≡ true → (a ≡ true) × (b ≡ true)
both true b e = (refl, e)
both false b e = absurd cc

all_chars : (cs : List ℕ) → all_scalars cs ≡ true → AllByRecursion IsChar cs
all_chars [] e = tt
all_chars (c ∷ cs) e = let p = both _ _ e in (char_is c _ _ _ refl refl refl p.0, all_chars cs p.1)

pub text_spells : (bytes : List ℕ) → IsUtf8 bytes → IsText (modified bytes) bytes
unfolding modified
text_spells bytes u =
    let cs = u.0 in
    let read : chars bytes ≡ cs = sym (ap chars u.1.1) ∙ chars-encodes cs u.1.0 in
    let spelled : IsText (flat_map unit_bytes (flat_map encode_utf16 cs)) (encode_utf8_all cs) = chars_spell cs (all_chars cs u.1.0) in
    subst (λ (ds : List ℕ). IsText (flat_map unit_bytes (flat_map encode_utf16 ds)) bytes) (sym read) (subst (IsText (flat_map unit_bytes (flat_map encode_utf16 cs))) u.1.1 spelled)
