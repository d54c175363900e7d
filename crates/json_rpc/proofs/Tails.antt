-- What stands at the front of the bytes stands there whatever follows them.
use Rattle.std.proofs.Common.{◌≡◌, ℕ, ◌+◌, ◌≤◌, ap, ◌∙◌, drop, take, arith, List, [], ◌∷◌, refl, Bool, true, false, ◌++◌, length, nat_le, if◌then◌else◌}
use Rattle.std.proofs.lemmas.List.{drop-append-le, take-append-le, length-append, length-drop}
use Rattle.json_rpc.specs.Heads.{start, step, after, line_after, scan_from, IsWithin}
use Rattle.json_rpc.specs.Streams.{partial, whole, wrong, by_length, by_reading, next_of}
use Rattle.json_rpc.specs.declared.header.Mode.{Mode}
use Rattle.json_rpc.specs.declared.header.Mode.TheVariants.{Line, Name, Value, Blank, Digits, Tail, LineEnd, LastEnd}
use Rattle.json_rpc.specs.declared.header.Head.{Head}
use Rattle.json_rpc.specs.declared.header.Step.{Step}
use Rattle.json_rpc.specs.declared.header.Step.TheVariants.{On, Done, Stop, Twice}
use Rattle.json_rpc.specs.declared.header.Reading.{Reading}
use Rattle.json_rpc.specs.declared.header.Reading.TheVariants.{More, Whole, Bad}
use Rattle.json_rpc.specs.declared.fault.FrameFault.{FrameFault}

-- the places of a reading are within the bytes
after-within : (n line m : ℕ) (h : Head) (s : Step) (f : Head → Reading) → n + 1 ≤ m → line ≤ n → ((g : Head) → IsWithin m (f g)) → IsWithin m (after n line h s f)
after-within n line m h (On g) f a b k = k g
after-within n line m h Done f a b k = a
after-within n line m h Stop f a b k = omega (arith, a)
after-within n line m h Twice f a b k = omega (arith, a, b)

line-le : (n line : ℕ) (m : Mode) → line ≤ n → line_after n line m ≤ n + 1
line-le n line Line b = omega arith
line-le n line Name b = omega (arith, b)
line-le n line Value b = omega (arith, b)
line-le n line Blank b = omega (arith, b)
line-le n line Digits b = omega (arith, b)
line-le n line Tail b = omega (arith, b)
line-le n line LineEnd b = omega (arith, b)
line-le n line LastEnd b = omega (arith, b)

choose : (m : ℕ) (c : Bool) (x y : Reading) → IsWithin m x → IsWithin m y → IsWithin m (if c then x else y)
choose m true x y p q = p
choose m false x y p q = q

pub scan-within : (n line : ℕ) (h : Head) (bs : List ℕ) (m : ℕ) → line ≤ n → n + length bs ≤ m → IsWithin m (scan_from n line h bs)
unfolding scan_from
scan-within n line h [] m b l = tt
scan-within n line h (x ∷ bs) m b l =
    let shorter : n + 1 + length bs ≤ m = omega (arith, l) in
    choose m (nat_le 8192 n) (Bad n) (after n line h (step h x) (λ g. scan_from (n + 1) (line_after n line g.mode) g bs)) (omega (arith, l)) (after-within n line m h (step h x) (λ g. scan_from (n + 1) (line_after n line g.mode) g bs) (omega (arith, shorter)) b (λ g. scan-within (n + 1) (line_after n line g.mode) g bs m (line-le n line g.mode b) shorter))

-- a reading that is settled stays
abbrev pub Settles : Reading → Reading → Type 0
Settles More s = Unit {0}
Settles (Whole n h) s = s ≡ Whole n h
Settles (Bad n) s = s ≡ Bad n

after-settles : (n line : ℕ) (h : Head) (s : Step) (f k : Head → Reading) → ((g : Head) → Settles (f g) (k g)) → Settles (after n line h s f) (after n line h s k)
after-settles n line h (On g) f k e = e g
after-settles n line h Done f k e = refl
after-settles n line h Stop f k e = refl
after-settles n line h Twice f k e = refl

pick-settles : (c : Bool) (n : ℕ) (y z : Reading) → Settles y z → Settles (if c then Bad n else y) (if c then Bad n else z)
pick-settles true n y z e = refl
pick-settles false n y z e = e

pub scan-settles : (n line : ℕ) (h : Head) (xs ys : List ℕ) → Settles (scan_from n line h xs) (scan_from n line h (xs ++ ys))
unfolding scan_from
scan-settles n line h [] ys = tt
scan-settles n line h (x ∷ xs) ys =
    pick-settles (nat_le 8192 n) n _ _ (after-settles n line h (step h x) (λ g. scan_from (n + 1) (line_after n line g.mode) g xs) (λ g. scan_from (n + 1) (line_after n line g.mode) g (xs ++ ys)) (λ g. scan-settles (n + 1) (line_after n line g.mode) g xs ys))

pub length_whole : (a b c : Bool) (x y u v : List ℕ) (f g : FrameFault) → (if a then (if b then (if c then whole x y else partial) else wrong f) else wrong g) ≡ whole u v → (a ≡ true) × (b ≡ true) × (c ≡ true) × (x ≡ u) × (y ≡ v)
length_whole true true true x y u v f g e = (refl, refl, refl, cc, cc)
length_whole true true false x y u v f g e = absurd cc
length_whole true false c x y u v f g e = absurd cc
length_whole false b c x y u v f g e = absurd cc

length_wrong : (a b c : Bool) (x y s t : List ℕ) (f g k : FrameFault) (d : Bool) → (if a then (if b then (if c then whole x y else partial) else wrong f) else wrong g) ≡ wrong k → (if a then (if b then (if d then whole s t else partial) else wrong f) else wrong g) ≡ wrong k
length_wrong true true true x y s t f g k d e = absurd cc
length_wrong true true false x y s t f g k d e = absurd cc
length_wrong true false c x y s t f g k d e = e
length_wrong false b c x y s t f g k d e = e

length-more : (at : ℕ) (bytes more : List ℕ) (n : ℕ) (h : Head) (body rest : List ℕ) → n ≤ length bytes → by_length at bytes n h ≡ whole body rest → by_length at (bytes ++ more) n h ≡ whole body (rest ++ more)
unfolding by_length
length-more at bytes more n h body rest l e =
    let k = length_whole h.told (nat_le h.length 16777216) (nat_le (n + h.length) (length bytes)) _ _ body rest _ _ e in
    let within : n + h.length ≤ length bytes = grind (arith, k.2) in
    let room : nat_le (n + h.length) (length (bytes ++ more)) ≡ true = grind (arith, length-append bytes more, within) in
    let body_is : take h.length (drop n (bytes ++ more)) ≡ body = ap (take h.length) (drop-append-le n bytes more l) ∙ take-append-le h.length (drop n bytes) more (omega (arith, length-drop n bytes, within)) ∙ k.3 in
    let rest_is : drop (n + h.length) (bytes ++ more) ≡ rest ++ more = drop-append-le (n + h.length) bytes more within ∙ ap (λ t. t ++ more) k.4 in
    rw (k.0, k.1, room, body_is, rest_is) refl

reading-more : (at : ℕ) (bytes more : List ℕ) (r s : Reading) (body rest : List ℕ) → Settles r s → IsWithin (length bytes) r → by_reading at bytes r ≡ whole body rest → by_reading at (bytes ++ more) s ≡ whole body (rest ++ more)
unfolding by_reading
reading-more at bytes more More s body rest t l e = absurd cc
reading-more at bytes more (Whole n h) s body rest t l e = rw t (length-more at bytes more n h body rest l e)
reading-more at bytes more (Bad n) s body rest t l e = absurd cc

pub next-more : (at : ℕ) (bytes more body rest : List ℕ) → next_of at bytes ≡ whole body rest → next_of at (bytes ++ more) ≡ whole body (rest ++ more)
next-more at bytes more body rest e = reading-more at bytes more (scan_from 0 0 start bytes) _ body rest (scan-settles 0 0 start bytes more) (scan-within 0 0 start bytes (length bytes) (omega arith) (omega arith)) e

reading-wrong : (at : ℕ) (bytes more : List ℕ) (r s : Reading) (f : FrameFault) → Settles r s → by_reading at bytes r ≡ wrong f → by_reading at (bytes ++ more) s ≡ wrong f
unfolding by_reading by_length
reading-wrong at bytes more More s f t e = absurd cc
reading-wrong at bytes more (Whole n h) s f t e = rw t (length_wrong h.told (nat_le h.length 16777216) (nat_le (n + h.length) (length bytes)) _ _ _ _ _ _ f (nat_le (n + h.length) (length (bytes ++ more))) e)
reading-wrong at bytes more (Bad n) s f t e = rw t e

pub next-wrong : (at : ℕ) (bytes more : List ℕ) (f : FrameFault) → next_of at bytes ≡ wrong f → next_of at (bytes ++ more) ≡ wrong f
next-wrong at bytes more f e = reading-wrong at bytes more (scan_from 0 0 start bytes) _ f (scan-settles 0 0 start bytes more) e
