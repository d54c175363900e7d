-- Whether a token is closed, asked of bytes and of characters.
use Rattle.std.proofs.Common.{◌≡◌, ◌∙◌, ap, sym, ◌++◌, ℕ, suc, ◌+◌, ◌/◌, ◌%◌, ◌<◌, ◌≤◌, get_or, drop, arith, List, [], ◌∷◌, refl, Bool, true, false, length, if◌then◌else◌, ◌==◌, ◌&&◌, ◌||◌, codes, rules, tests, ◌⊎◌, inl, inr}
use Rattle.std.proofs.lemmas.List.{drop_more, drop_all}
use Rattle.std.proofs.lemmas.Bool.{cases_lt, le-ltb}
use Rattle.std.proofs.lemmas.Str.{encode_ascii}
use Rattle.std.proofs.Math.Dec.{ltb}
use lib.Utf8.{encodes, encode}
use Rattle.java_tokens.specs.Classes.{is_newline}
use Rattle.java_tokens.specs.Rules.{begins, has_mark, has_quote, has_quote_in_line, is_closed_at}

-- one character further
pub has_mark-end : (ms cs : List ℕ) (i : ℕ) → length cs ≤ i → has_mark ms (drop i cs) ≡ false
unfolding has_mark
has_mark-end ms cs i l = rw (drop_all i cs l) refl

pub has_mark-more : (ms cs : List ℕ) (i : ℕ) → i < length cs → has_mark ms (drop i cs) ≡ (begins ms (drop i cs) || has_mark ms (drop (i + 1) cs))
unfolding has_mark
has_mark-more ms cs i l = rw (drop_more cs i 0 l) refl

pub has_quote-end : (ms : List ℕ) (t : Bool) (cs : List ℕ) (i : ℕ) → length cs ≤ i → has_quote ms t (drop i cs) ≡ false
unfolding has_quote
has_quote-end ms true cs i l = rw (drop_all i cs l) refl
has_quote-end ms false cs i l = rw (drop_all i cs l) refl

pub has_quote-taken : (ms cs : List ℕ) (i : ℕ) → i < length cs → has_quote ms true (drop i cs) ≡ has_quote ms false (drop (i + 1) cs)
unfolding has_quote
has_quote-taken ms cs i l = rw (drop_more cs i 0 l) refl

pub has_quote-more : (ms cs : List ℕ) (i : ℕ) → i < length cs → has_quote ms false (drop i cs) ≡ (if get_or cs i 0 == 92 then has_quote ms true (drop (i + 1) cs) else if begins ms (drop i cs) then true else has_quote ms false (drop (i + 1) cs))
unfolding has_quote
has_quote-more ms cs i l = rw (drop_more cs i 0 l) refl

pub has_quote_in_line-end : (m : ℕ) (t : Bool) (cs : List ℕ) (i : ℕ) → length cs ≤ i → has_quote_in_line m t (drop i cs) ≡ false
unfolding has_quote_in_line
has_quote_in_line-end m true cs i l = rw (drop_all i cs l) refl
has_quote_in_line-end m false cs i l = rw (drop_all i cs l) refl

pub has_quote_in_line-taken : (m : ℕ) (cs : List ℕ) (i : ℕ) → i < length cs → has_quote_in_line m true (drop i cs) ≡ (if is_newline (get_or cs i 0) then false else has_quote_in_line m false (drop (i + 1) cs))
unfolding has_quote_in_line
has_quote_in_line-taken m cs i l = rw (drop_more cs i 0 l) refl

pub has_quote_in_line-more : (m : ℕ) (cs : List ℕ) (i : ℕ) → i < length cs → has_quote_in_line m false (drop i cs) ≡ (if is_newline (get_or cs i 0) then false else if get_or cs i 0 == 92 then has_quote_in_line m true (drop (i + 1) cs) else if get_or cs i 0 == m then true else has_quote_in_line m false (drop (i + 1) cs))
unfolding has_quote_in_line
has_quote_in_line-more m cs i l = rw (drop_more cs i 0 l) refl

pub ruleset marks = (has_mark-end, has_mark-more, has_quote-end, has_quote-taken, has_quote-more, has_quote_in_line-end, has_quote_in_line-taken, has_quote_in_line-more)

-- bytes that are no ASCII
abbrev High : List ℕ → Type 0
High [] = Unit {0}
High (b ∷ bs) = (128 ≤ b) × High bs

-- a character is one byte of ASCII, or some bytes that are none
data Spelled (c : ℕ) : Type 0 where
  plain : encode c ≡ c ∷ [] → Spelled c
  wide : 128 ≤ c → (b : ℕ) → (bs : List ℕ) → encode c ≡ b ∷ bs → 128 ≤ b → High bs → Spelled c

wide_by : (c : ℕ) (x y : Bool) → 128 ≤ c → ltb c 2048 ≡ x → ltb c 65536 ≡ y → Spelled c
unfolding encode
wide_by c true y l p q = wide l (192 + c / 64) ((128 + c % 64) ∷ []) (rw (le-ltb c 128 l, p) refl) (omega arith) (omega arith, tt)
wide_by c false true l p q = wide l (224 + c / 4096) ((128 + (c / 64) % 64) ∷ (128 + c % 64) ∷ []) (rw (le-ltb c 128 l, p, q) refl) (omega arith) (omega arith, (omega arith, tt))
wide_by c false false l p q = wide l (240 + c / 262144) ((128 + (c / 4096) % 64) ∷ (128 + (c / 64) % 64) ∷ (128 + c % 64) ∷ []) (rw (le-ltb c 128 l, p, q) refl) (omega arith) (omega arith, (omega arith, (omega arith, tt)))

by_size : (c : ℕ) → (c < 128) ⊎ (128 ≤ c) → Spelled c
by_size c (inl l) = plain (encode_ascii c l)
by_size c (inr l) = wide_by c (ltb c 2048) (ltb c 65536) l refl refl

spelled : (c : ℕ) → Spelled c
spelled c = by_size c (cases_lt c 128)

less : (a b : ℕ) → a < b → (a == b) ≡ false
less a b l = search (rules, tests)

greater : (a b : ℕ) → b < a → (a == b) ≡ false
greater a b l = search (rules, tests)

abbrev Low : List ℕ → Type 0
Low [] = Unit {0}
Low (m ∷ ms) = (m < 128) × Low ms

-- a mark of ASCII begins the bytes where it begins the characters
begins-spelled : (m : ℕ) (ms : List ℕ) (c : ℕ) (cs : List ℕ) → m < 128 → begins ms (encodes cs) ≡ begins ms cs → Spelled c → begins (m ∷ ms) (encode c ++ encodes cs) ≡ begins (m ∷ ms) (c ∷ cs)
unfolding begins
begins-spelled m ms c cs l h (plain e) = rw (e) (ap (λ b. (m == c) && b) h)
begins-spelled m ms c cs l h (wide k b bs e j high) = rw (e, less m b (omega arith), less m c (omega arith)) refl

begins-encodes : (ms cs : List ℕ) → Low ms → begins ms (encodes cs) ≡ begins ms cs
unfolding begins
begins-encodes [] cs l = refl
begins-encodes (m ∷ ms) [] l = refl
begins-encodes (m ∷ ms) (c ∷ cs) l = begins-spelled m ms c cs l.0 (begins-encodes ms cs l.1) (spelled c)

begins-cons : (ms : List ℕ) (c : ℕ) (cs : List ℕ) → Low ms → encode c ≡ c ∷ [] → begins ms (c ∷ encodes cs) ≡ begins ms (c ∷ cs)
begins-cons ms c cs l e = ap (λ x. begins ms (x ++ encodes cs)) (sym e) ∙ begins-encodes ms (c ∷ cs) l

-- bytes that are no ASCII hide no mark
has_mark-high : (m : ℕ) (ms bs ys : List ℕ) → m < 128 → High bs → has_mark (m ∷ ms) (bs ++ ys) ≡ has_mark (m ∷ ms) ys
unfolding has_mark begins
has_mark-high m ms [] ys l h = refl
has_mark-high m ms (b ∷ bs) ys l h = rw (less m b (omega (arith, h.0))) (has_mark-high m ms bs ys l h.1)

has_mark-plain : (m : ℕ) (ms : List ℕ) (c : ℕ) (xs ys : List ℕ) → begins (m ∷ ms) (c ∷ xs) ≡ begins (m ∷ ms) (c ∷ ys) → has_mark (m ∷ ms) xs ≡ has_mark (m ∷ ms) ys → has_mark (m ∷ ms) (c ∷ xs) ≡ has_mark (m ∷ ms) (c ∷ ys)
unfolding has_mark
has_mark-plain m ms c xs ys a b = ap (λ x. x || has_mark (m ∷ ms) xs) a ∙ ap (λ x. begins (m ∷ ms) (c ∷ ys) || x) b

has_mark-spelled : (m : ℕ) (ms : List ℕ) (c : ℕ) (cs : List ℕ) → Low (m ∷ ms) → has_mark (m ∷ ms) (encodes cs) ≡ has_mark (m ∷ ms) cs → Spelled c → has_mark (m ∷ ms) (encode c ++ encodes cs) ≡ has_mark (m ∷ ms) (c ∷ cs)
has_mark-spelled m ms c cs l h (plain e) = ap (λ x. has_mark (m ∷ ms) (x ++ encodes cs)) e ∙ has_mark-plain m ms c (encodes cs) cs (begins-cons (m ∷ ms) c cs l e) h
has_mark-spelled m ms c cs l h (wide k b bs e j high) =
    ap (λ x. has_mark (m ∷ ms) (x ++ encodes cs)) e ∙ (has_mark-high m ms (b ∷ bs) (encodes cs) l.0 (j, high) ∙ (h ∙ sym (has_mark-high m ms (c ∷ []) cs l.0 (k, tt))))

has_mark-encodes : (m : ℕ) (ms cs : List ℕ) → Low (m ∷ ms) → has_mark (m ∷ ms) (encodes cs) ≡ has_mark (m ∷ ms) cs
unfolding has_mark
has_mark-encodes m ms [] l = refl
has_mark-encodes m ms (c ∷ cs) l = has_mark-spelled m ms c cs l (has_mark-encodes m ms cs l) (spelled c)

has_quote-high : (m : ℕ) (ms bs ys : List ℕ) → m < 128 → High bs → has_quote (m ∷ ms) false (bs ++ ys) ≡ has_quote (m ∷ ms) false ys
unfolding has_quote begins
has_quote-high m ms [] ys l h = refl
has_quote-high m ms (b ∷ bs) ys l h = rw (greater b 92 (omega (arith, h.0)), less m b (omega (arith, h.0))) (has_quote-high m ms bs ys l h.1)

-- the same of a list that begins with such a byte, which a backslash may take
has_quote-wide : (m : ℕ) (ms : List ℕ) (t : Bool) (b : ℕ) (bs ys : List ℕ) → m < 128 → High (b ∷ bs) → has_quote (m ∷ ms) t ((b ∷ bs) ++ ys) ≡ has_quote (m ∷ ms) false ys
unfolding has_quote
has_quote-wide m ms true b bs ys l h = has_quote-high m ms bs ys l h.1
has_quote-wide m ms false b bs ys l h = has_quote-high m ms (b ∷ bs) ys l h

has_quote-plain : (m : ℕ) (ms : List ℕ) (t : Bool) (c : ℕ) (xs ys : List ℕ) → begins (m ∷ ms) (c ∷ xs) ≡ begins (m ∷ ms) (c ∷ ys) → ((s : Bool) → has_quote (m ∷ ms) s xs ≡ has_quote (m ∷ ms) s ys) → has_quote (m ∷ ms) t (c ∷ xs) ≡ has_quote (m ∷ ms) t (c ∷ ys)
unfolding has_quote
has_quote-plain m ms true c xs ys a h = h false
has_quote-plain m ms false c xs ys a h =
    ap (λ x. if c == 92 then x else if begins (m ∷ ms) (c ∷ xs) then true else has_quote (m ∷ ms) false xs) (h true)
    ∙ (ap (λ x. if c == 92 then has_quote (m ∷ ms) true ys else if x then true else has_quote (m ∷ ms) false xs) a
    ∙ ap (λ x. if c == 92 then has_quote (m ∷ ms) true ys else if begins (m ∷ ms) (c ∷ ys) then true else x) (h false))

has_quote-spelled : (m : ℕ) (ms : List ℕ) (t : Bool) (c : ℕ) (cs : List ℕ) → Low (m ∷ ms) → ((s : Bool) → has_quote (m ∷ ms) s (encodes cs) ≡ has_quote (m ∷ ms) s cs) → Spelled c → has_quote (m ∷ ms) t (encode c ++ encodes cs) ≡ has_quote (m ∷ ms) t (c ∷ cs)
has_quote-spelled m ms t c cs l h (plain e) = ap (λ x. has_quote (m ∷ ms) t (x ++ encodes cs)) e ∙ has_quote-plain m ms t c (encodes cs) cs (begins-cons (m ∷ ms) c cs l e) h
has_quote-spelled m ms t c cs l h (wide k b bs e j high) =
    ap (λ x. has_quote (m ∷ ms) t (x ++ encodes cs)) e ∙ (has_quote-wide m ms t b bs (encodes cs) l.0 (j, high) ∙ (h false ∙ sym (has_quote-wide m ms t c [] cs l.0 (k, tt))))

has_quote-encodes : (m : ℕ) (ms : List ℕ) (t : Bool) (cs : List ℕ) → Low (m ∷ ms) → has_quote (m ∷ ms) t (encodes cs) ≡ has_quote (m ∷ ms) t cs
has_quote-encodes m ms t [] l = refl
has_quote-encodes m ms t (c ∷ cs) l = has_quote-spelled m ms t c cs l (λ s. has_quote-encodes m ms s cs l) (spelled c)

no_newline : (b : ℕ) → 128 ≤ b → is_newline b ≡ false
unfolding is_newline
no_newline b l = rw (greater b 13 (omega arith), greater b 10 (omega arith)) refl

line-high : (m : ℕ) (bs ys : List ℕ) → m < 128 → High bs → has_quote_in_line m false (bs ++ ys) ≡ has_quote_in_line m false ys
unfolding has_quote_in_line
line-high m [] ys l h = refl
line-high m (b ∷ bs) ys l h = rw (no_newline b h.0, greater b 92 (omega (arith, h.0)), greater b m (omega (arith, h.0))) (line-high m bs ys l h.1)

line-wide : (m : ℕ) (t : Bool) (b : ℕ) (bs ys : List ℕ) → m < 128 → High (b ∷ bs) → has_quote_in_line m t ((b ∷ bs) ++ ys) ≡ has_quote_in_line m false ys
unfolding has_quote_in_line
line-wide m true b bs ys l h = rw (no_newline b h.0) (line-high m bs ys l h.1)
line-wide m false b bs ys l h = line-high m (b ∷ bs) ys l h

line-plain : (m : ℕ) (t : Bool) (c : ℕ) (xs ys : List ℕ) → ((s : Bool) → has_quote_in_line m s xs ≡ has_quote_in_line m s ys) → has_quote_in_line m t (c ∷ xs) ≡ has_quote_in_line m t (c ∷ ys)
unfolding has_quote_in_line
line-plain m true c xs ys h = ap (λ x. if is_newline c then false else x) (h false)
line-plain m false c xs ys h =
    ap (λ x. if is_newline c then false else if c == 92 then x else if c == m then true else has_quote_in_line m false xs) (h true)
    ∙ ap (λ x. if is_newline c then false else if c == 92 then has_quote_in_line m true ys else if c == m then true else x) (h false)

line-spelled : (m : ℕ) (t : Bool) (c : ℕ) (cs : List ℕ) → m < 128 → ((s : Bool) → has_quote_in_line m s (encodes cs) ≡ has_quote_in_line m s cs) → Spelled c → has_quote_in_line m t (encode c ++ encodes cs) ≡ has_quote_in_line m t (c ∷ cs)
line-spelled m t c cs l h (plain e) = ap (λ x. has_quote_in_line m t (x ++ encodes cs)) e ∙ line-plain m t c (encodes cs) cs h
line-spelled m t c cs l h (wide k b bs e j high) =
    ap (λ x. has_quote_in_line m t (x ++ encodes cs)) e ∙ (line-wide m t b bs (encodes cs) l (j, high) ∙ (h false ∙ sym (line-wide m t c [] cs l (k, tt))))

line-encodes : (m : ℕ) (t : Bool) (cs : List ℕ) → m < 128 → has_quote_in_line m t (encodes cs) ≡ has_quote_in_line m t cs
line-encodes m t [] l = refl
line-encodes m t (c ∷ cs) l = line-spelled m t c cs l (λ s. line-encodes m s cs l) (spelled c)

-- what follows a mark of ASCII
and_left : (a b : Bool) → (a && b) ≡ true → a ≡ true
and_left true b e = refl
and_left false b e = absurd cc

and_right : (a b : Bool) → (a && b) ≡ true → b ≡ true
and_right true b e = e
and_right false b e = absurd cc

past-one : (m : ℕ) (ms : List ℕ) (c : ℕ) (cs : List ℕ) → encode c ≡ c ∷ [] → drop (length ms) (encodes cs) ≡ encodes (drop (length ms) cs) → drop (suc (length ms)) (encode c ++ encodes cs) ≡ encodes (drop (length ms) cs)
past-one m ms c cs e h = ap (λ x. drop (suc (length ms)) (x ++ encodes cs)) e ∙ h

same_number : (a b : ℕ) → (a == b) ≡ true → a ≡ b
same_number a b e = search (rules, tests)

past-mark : (ms cs : List ℕ) → Low ms → begins ms cs ≡ true → drop (length ms) (encodes cs) ≡ encodes (drop (length ms) cs)
unfolding begins
past-mark [] cs l e = refl
past-mark (m ∷ ms) [] l e = absurd cc
past-mark (m ∷ ms) (c ∷ cs) l e =
    let same : m ≡ c = same_number m c (and_left (m == c) (begins ms cs) e) in
    past-one m ms c cs (encode_ascii c (omega (arith, l.0))) (past-mark ms cs l.1 (and_right (m == c) (begins ms cs) e))

either : (b : Bool) (x y z w : Bool) → (b ≡ true → x ≡ z) → y ≡ w → (if b then x else y) ≡ (if b then z else w)
either true x y z w h k = h refl
either false x y z w h k = k

choose : (ms cs : List ℕ) (x y z w : Bool) → Low ms → (begins ms cs ≡ true → x ≡ z) → y ≡ w → (if begins ms (encodes cs) then x else y) ≡ (if begins ms cs then z else w)
choose ms cs x y z w l h k = ap (λ b. if b then x else y) (begins-encodes ms cs l) ∙ either (begins ms cs) x y z w h k

-- A token is closed in bytes where it is closed in characters.
pub closed-encodes : (cs : List ℕ) → is_closed_at (encodes cs) ≡ is_closed_at cs
unfolding is_closed_at
closed-encodes cs =
    let comment : Low (codes "/*") = (omega arith, (omega arith, tt)) in
    let ending : Low (codes "*/") = (omega arith, (omega arith, tt)) in
    let quotes : Low (34 ∷ 34 ∷ 34 ∷ []) = (omega arith, (omega arith, (omega arith, tt))) in
    let quote : Low (34 ∷ []) = (omega arith, tt) in
    let tick : Low (39 ∷ []) = (omega arith, tt) in
    choose (codes "/*") cs _ _ _ _ comment (λ e. ap (has_mark (codes "*/")) (past-mark (codes "/*") cs comment e) ∙ has_mark-encodes 42 (47 ∷ []) (drop 2 cs) ending)
    (choose (34 ∷ 34 ∷ 34 ∷ []) cs _ _ _ _ quotes (λ e. ap (has_quote (34 ∷ 34 ∷ 34 ∷ []) false) (past-mark (34 ∷ 34 ∷ 34 ∷ []) cs quotes e) ∙ has_quote-encodes 34 (34 ∷ 34 ∷ []) false (drop 3 cs) quotes)
    (choose (34 ∷ []) cs _ _ _ _ quote (λ e. ap (has_quote_in_line 34 false) (past-mark (34 ∷ []) cs quote e) ∙ line-encodes 34 false (drop 1 cs) (omega arith))
    (choose (39 ∷ []) cs _ _ _ _ tick (λ e. ap (has_quote_in_line 39 false) (past-mark (39 ∷ []) cs tick e) ∙ line-encodes 39 false (drop 1 cs) (omega arith)) refl)))
