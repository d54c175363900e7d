-- Reading and spelling, one part at a time.
use Rattle.std.proofs.Common.{◌≡◌, ℕ, suc, ◌+◌, ◌*◌, ◌/◌, ◌%◌, ◌^◌, ◌<◌, ◌≤◌, Bool, true, false, cond, ltb, List, [], ◌∷◌, ◌++◌, length, take, drop, Result, Ok, Err, refl, sym, ap, ◌∙◌, append_assoc, arith}
use Rattle.byteorder.specs.Endian.{big_bytes, big_number}
use Rattle.std.proofs.lemmas.Bool.{ltb-false, le-ltb}
use Rattle.std.proofs.lemmas.List.{take_at, drop_at, take-append-drop, length-append, length-take, get_or-drop}
use Rattle.class_pool.specs.declared.fault.ClassFault.{ClassFault}
use Rattle.class_pool.specs.Reading.{IsBytes, ◌>>=◌, number_at, block_at, need, cut}

pub IsBytes-drop : (n : ℕ) (bytes : List ℕ) → IsBytes bytes → IsBytes (drop n bytes)
IsBytes-drop n bytes h i = rw get_or-drop (h (n + i))

pub IsBytes-rest : (b : ℕ) (bytes : List ℕ) → IsBytes (b ∷ bytes) → IsBytes bytes
IsBytes-rest b bytes h i = h (suc i)

pub record Takes (bytes text rest : List ℕ) : Type 0 where
  pub parts : bytes ≡ text ++ rest
  pub rest_fits : IsBytes rest

pub Takes-then : (a x b y c : List ℕ) → Takes a x b → Takes b y c → Takes a (x ++ y) c
Takes-then a x b y c p q = record { parts = p.parts ∙ ap (λ (t : List ℕ). x ++ t) q.parts ∙ sym (append_assoc x y c); rest_fits = q.rest_fits }

-- what is read is spelled so, and what is spelled so is read
pub record Codec {A : Type 0} (spell : A → List ℕ) (Fits : A → Type 0) (read : List ℕ → Result (A × List ℕ) ClassFault) : Type 0 where
  pub takes : (bytes : List ℕ) (x : A) (rest : List ℕ) → IsBytes bytes → read bytes ≡ Ok (x, rest) → Takes bytes (spell x) rest × Fits x
  pub again : (x : A) (rest : List ℕ) → Fits x → read (spell x ++ rest) ≡ Ok (x, rest)

pub bind_ok : {A B : Type 0} (r : Result A ClassFault) (f : A → Result B ClassFault) (y : B) → (r >>= f) ≡ Ok y → (x : A) × (r ≡ Ok x) × (f x ≡ Ok y)
bind_ok (Ok x) f y e = (x, refl, e)
bind_ok (Err d) f y e = absurd cc

abbrev done : {A : Type 0} → A → Result A ClassFault
done x = Ok x

pub ok_is : {A : Type 0} (x y : A) → done x ≡ done y → x ≡ y
ok_is x y e = cc

pub guard_ok : {A : Type 0} (b : Bool) (d : ClassFault) (x y : A) → cond b (Err d) (Ok x) ≡ Ok y → (b ≡ false) × (x ≡ y)
guard_ok true d x y e = absurd cc
guard_ok false d x y e = (refl, cc)

-- the test that was met, and what came after it
pub need_ok : {B : Type 0} (b : Bool) (d : ClassFault) (f : Bool → Result B ClassFault) (y : B) → (need b d >>= f) ≡ Ok y → (b ≡ true) × (f true ≡ Ok y)
need_ok true d f y e = (refl, e)
need_ok false d f y e = absurd cc

-- a part that was read, and what came after it
pub record Step {A B : Type 0} (spell : A → List ℕ) (Fits : A → Type 0) (f : A × List ℕ → Result B ClassFault) (bytes : List ℕ) (y : B) : Type 0 where
  pub value : A
  pub rest : List ℕ
  pub takes : Takes bytes (spell value) rest
  pub fits : Fits value
  pub next : f (value, rest) ≡ Ok y

pub step : {A B : Type 0} {spell : A → List ℕ} {Fits : A → Type 0} {read : List ℕ → Result (A × List ℕ) ClassFault} (codec : Codec spell Fits read) (f : A × List ℕ → Result B ClassFault) (bytes : List ℕ) (y : B) → IsBytes bytes → (read bytes >>= f) ≡ Ok y → Step spell Fits f bytes y
step codec f bytes y fits e =
    let b = bind_ok _ f y e in
    let t = codec.takes bytes b.0.0 b.0.1 fits b.1 in
    record { value = b.0.0; rest = b.0.1; takes = t.0; fits = t.1; next = b.2 }

-- ---- numbers
big_2 : (a b : ℕ) → a < 256 → b < 256 → (a * 256 + (b * 1 + 0)) / 256 % 256 ≡ a
big_2 a b p q = omega arith

big_2-last : (a b : ℕ) → a < 256 → b < 256 → (a * 256 + (b * 1 + 0)) % 256 ≡ b
big_2-last a b p q = omega arith

abbrev four : ℕ → ℕ → ℕ → ℕ → ℕ
four a b c d = a * 16777216 + (b * 65536 + (c * 256 + (d * 1 + 0)))

big_4-0 : (a b c d : ℕ) → a < 256 → b < 256 → c < 256 → d < 256 → four a b c d / 16777216 % 256 ≡ a
big_4-0 a b c d p q r s = omega arith

big_4-1 : (a b c d : ℕ) → a < 256 → b < 256 → c < 256 → d < 256 → four a b c d / 65536 % 256 ≡ b
big_4-1 a b c d p q r s = omega arith

big_4-2 : (a b c d : ℕ) → a < 256 → b < 256 → c < 256 → d < 256 → four a b c d / 256 % 256 ≡ c
big_4-2 a b c d p q r s = omega arith

big_4-3 : (a b c d : ℕ) → a < 256 → b < 256 → c < 256 → d < 256 → four a b c d % 256 ≡ d
big_4-3 a b c d p q r s = omega arith

pub record IsWide (n limit : ℕ) : Type 0 where
  pub len : (x : ℕ) → length (big_bytes n x) ≡ n
  pub back : (bytes : List ℕ) → n ≤ length bytes → IsBytes bytes → big_bytes n (big_number n bytes) ≡ take n bytes
  pub again : (x : ℕ) (rest : List ℕ) → x < limit → big_number n (big_bytes n x ++ rest) ≡ x
  pub below : (bytes : List ℕ) → IsBytes bytes → big_number n bytes < limit

back_2 : (bytes : List ℕ) → 2 ≤ length bytes → IsBytes bytes → big_bytes 2 (big_number 2 bytes) ≡ take 2 bytes
back_2 [] le fits = absurd (omega (arith, le))
back_2 (a ∷ []) le fits = absurd (omega (arith, le))
back_2 (a ∷ b ∷ rest) le fits = rw (big_2 a b (fits 0) (fits 1), big_2-last a b (fits 0) (fits 1)) refl

back_4 : (bytes : List ℕ) → 4 ≤ length bytes → IsBytes bytes → big_bytes 4 (big_number 4 bytes) ≡ take 4 bytes
back_4 [] le fits = absurd (omega (arith, le))
back_4 (a ∷ []) le fits = absurd (omega (arith, le))
back_4 (a ∷ b ∷ []) le fits = absurd (omega (arith, le))
back_4 (a ∷ b ∷ c ∷ []) le fits = absurd (omega (arith, le))
back_4 (a ∷ b ∷ c ∷ d ∷ rest) le fits = rw (big_4-0 a b c d (fits 0) (fits 1) (fits 2) (fits 3), big_4-1 a b c d (fits 0) (fits 1) (fits 2) (fits 3), big_4-2 a b c d (fits 0) (fits 1) (fits 2) (fits 3), big_4-3 a b c d (fits 0) (fits 1) (fits 2) (fits 3)) refl

again_2 : (x : ℕ) (rest : List ℕ) → x < 65536 → big_number 2 (big_bytes 2 x ++ rest) ≡ x
again_2 x rest lt = omega (arith, lt)

again_4 : (x : ℕ) (rest : List ℕ) → x < 2 ^ 32 → big_number 4 (big_bytes 4 x ++ rest) ≡ x
again_4 x rest lt = omega (arith, lt)

pub wide_2 : IsWide 2 65536
wide_2 = record { len = λ x. refl; back = back_2; again = again_2; below = λ bytes fits. omega (arith, fits 0, fits 1) }

pub wide_4 : IsWide 4 (2 ^ 32)
wide_4 = record { len = λ x. refl; back = back_4; again = again_4; below = λ bytes fits. omega (arith, fits 0, fits 1, fits 2, fits 3) }

number_takes : (total n limit : ℕ) → IsWide n limit → (bytes : List ℕ) (x : ℕ) (rest : List ℕ) → IsBytes bytes → number_at total n bytes ≡ Ok (x, rest) → Takes bytes (big_bytes n x) rest × (x < limit)
number_takes total n limit wide bytes x rest fits e =
    let g = guard_ok (ltb (length bytes) n) (cut total) (big_number n bytes, drop n bytes) (x, rest) e in
    let long : n ≤ length bytes = ltb-false _ _ g.0 in
    let x-is : big_number n bytes ≡ x = ap (λ (p : ℕ × List ℕ). p.0) g.1 in
    let rest-is : drop n bytes ≡ rest = ap (λ (p : ℕ × List ℕ). p.1) g.1 in
    let prefix : big_bytes n x ≡ take n bytes = rw (← x-is) (wide.back bytes long fits) in
    (record { parts = rw (prefix, ← rest-is) (sym (take-append-drop n bytes)); rest_fits = rw (← rest-is) (IsBytes-drop n bytes fits) }, rw (← x-is) (wide.below bytes fits))

number_again : (total n limit : ℕ) → IsWide n limit → (x : ℕ) (rest : List ℕ) → x < limit → number_at total n (big_bytes n x ++ rest) ≡ Ok (x, rest)
number_again total n limit wide x rest lt =
    let len = wide.len x in
    let long : ltb (length (big_bytes n x ++ rest)) n ≡ false = le-ltb _ _ (omega (arith, length-append (big_bytes n x) rest)) in
    rw (long, wide.again x rest lt, drop_at (big_bytes n x) rest n len) refl

pub number_codec : (total n limit : ℕ) → IsWide n limit → Codec (big_bytes n) (λ x. x < limit) (number_at total n)
number_codec total n limit wide = record { takes = number_takes total n limit wide; again = number_again total n limit wide }

pub number_2 : (total : ℕ) → Codec (big_bytes 2) (λ x. x < 65536) (number_at total 2)
number_2 total = number_codec total 2 65536 wide_2

pub number_4 : (total : ℕ) → Codec (big_bytes 4) (λ x. x < 2 ^ 32) (number_at total 4)
number_4 total = number_codec total 4 (2 ^ 32) wide_4

-- ---- blocks
pub block_takes : (total n : ℕ) (bytes x rest : List ℕ) → IsBytes bytes → block_at total n bytes ≡ Ok (x, rest) → Takes bytes x rest × (length x ≡ n)
block_takes total n bytes x rest fits e =
    let g = guard_ok (ltb (length bytes) n) (cut total) (take n bytes, drop n bytes) (x, rest) e in
    let long : n ≤ length bytes = ltb-false _ _ g.0 in
    let x-is : take n bytes ≡ x = ap (λ (p : List ℕ × List ℕ). p.0) g.1 in
    let rest-is : drop n bytes ≡ rest = ap (λ (p : List ℕ × List ℕ). p.1) g.1 in
    (record { parts = rw (← x-is, ← rest-is) (sym (take-append-drop n bytes)); rest_fits = rw (← rest-is) (IsBytes-drop n bytes fits) }, rw (← x-is) (omega (arith, length-take n bytes)))

pub block_again : (total n : ℕ) (x rest : List ℕ) → length x ≡ n → block_at total n (x ++ rest) ≡ Ok (x, rest)
block_again total n x rest len =
    let long : ltb (length (x ++ rest)) n ≡ false = le-ltb _ _ (omega (arith, length-append x rest)) in
    rw (long, take_at x rest n len, drop_at x rest n len) refl

pub block_codec : (total n : ℕ) → Codec (λ x. x) (λ x. length x ≡ n) (block_at total n)
block_codec total n = record { takes = block_takes total n; again = block_again total n }
