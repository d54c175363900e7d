-- The lines of keys, one after the other.
use Rattle.std.proofs.Common.{◌≡◌, ◌∙◌, sym, ap, subst, arith, ℕ, ◌+◌, ◌<◌, ◌≤◌, List, [], ◌∷◌, ◌++◌, length, take, drop, get_or, map, append_assoc, append-nil, length-append, Option, Some, None, Result, Ok, Err}
use Rattle.std.specs.Prelude.{OnErr, String, string_bytes}
use Rattle.std.specs.Io.KnownBytes.{Appends}
use Rattle.std.proofs.lemmas.List.{take-append-le, take_more, take_all, take-append-drop, get_or-map, length-map}
use Rattle.std.proofs.lemmas.List.Concat.{flat_map-append}
use Rattle.std.proofs.Math.Seq.{take-append_seam}
use Rattle.outside.specs.Gathered.{Gathered, WrotePrefix}
use Rattle.usage_counts.specs.Counts.{Key, Numbers}
use Rattle.counting.specs.Lines.{line_text, lines_text}

-- Where nothing was handed over.
nothing : (a : Option (List ℕ)) → Appends a a []
nothing None = tt
nothing (Some xs) = sym (append-nil xs)

pub gathered-none : (a : Option (List ℕ)) (held : List ℕ) → held ≡ [] → Gathered a a held []
gathered-none a held is = record { handed = []; wrote = nothing a; whole = is }

-- What was handed over is a prefix, and a prefix of the first lines is one of all.
pub prefix-handed : (start now : Option (List ℕ)) (held all : List ℕ) → Gathered start now held all → WrotePrefix start now all
prefix-handed start now held all g = record {
  count = length g.handed;
  within = omega (arith, ap length g.whole, length-append g.handed held);
  wrote = rw (sym g.whole, take-append_seam g.handed held) g.wrote;
}

pub prefix-more : (start now : Option (List ℕ)) (all more : List ℕ) → WrotePrefix start now all → WrotePrefix start now (all ++ more)
prefix-more start now all more w = record {
  count = w.count;
  within = omega (arith, w.within, length-append all more);
  wrote = rw (take-append-le w.count all more w.within) w.wrote;
}

pub prefix-lines : (start now : Option (List ℕ)) (all : List ℕ) (numbers : Numbers) (i : ℕ) → WrotePrefix start now (all ++ lines_text (take i numbers)) → WrotePrefix start now (all ++ lines_text numbers)
prefix-lines start now all numbers i w =
    let lines : all ++ lines_text (take i numbers) ++ lines_text (drop i numbers) ≡ all ++ lines_text numbers =
    append_assoc all (lines_text (take i numbers)) (lines_text (drop i numbers))
    ∙ ap (λ t. all ++ t) (sym (flat_map-append line_text (take i numbers) (drop i numbers)) ∙ ap lines_text (take-append-drop i numbers)) in
    subst (λ t. WrotePrefix start now t) lines (prefix-more start now (all ++ lines_text (take i numbers)) (lines_text (drop i numbers)) w)

-- One line more.
pub one-line : (all : List ℕ) (numbers : Numbers) (i : ℕ) (d : Key × ℕ) (line : List ℕ) → i < length numbers → line ≡ line_text (get_or numbers i d) → all ++ lines_text (take i numbers) ++ line ≡ all ++ lines_text (take (i + 1) numbers)
one-line all numbers i d line l is =
    append_assoc all (lines_text (take i numbers)) line
    ∙ ap (λ t. all ++ t) (ap (λ t. lines_text (take i numbers) ++ t) (is ∙ sym (append-nil (line_text (get_or numbers i d))))
    ∙ sym (flat_map-append line_text (take i numbers) (get_or numbers i d ∷ [])) ∙ ap lines_text (sym (take_more numbers i d l)))

pub all-lines : (all : List ℕ) (numbers : Numbers) (i : ℕ) → length numbers ≤ i → all ++ lines_text (take i numbers) ≡ all ++ lines_text numbers
all-lines all numbers i l = ap (λ ns. all ++ lines_text ns) (take_all i numbers l)

-- What holds anyhow.
pub on-err : {T E : Type 0} (result : Result T E) {P : Type 0} → P → OnErr result P
on-err (Ok x) p = tt
on-err (Err e) p = p

-- The entry of a map at a place, as a key with its number.
pub one-entry : {Y : Type 0} (es : List (String Y × ℕ)) (numbers : Numbers) (i : ℕ) (k : String Y) (n : ℕ) (key : List ℕ) → map (λ e. (string_bytes e.0, e.1)) es ≡ numbers → i < length es → (k, n) ≡ get_or es i (k, n) → key ≡ string_bytes k
    → (i < length numbers) × ((key, n) ≡ get_or numbers i (key, n))
one-entry {Y} es numbers i k n key same l at is =
    let f : String Y × ℕ → Key × ℕ = λ e. (string_bytes e.0, e.1) in
    let here : get_or (map f es) i (key, n) ≡ f (get_or es i (k, n)) = get_or-map f es i (k, n) (key, n) l in
    let long : length (map f es) ≡ length es = length-map es f in
    (omega (arith, l, long, ap length same), ap (λ t. (t, n)) is ∙ ap f at ∙ sym here ∙ ap (λ ns. get_or ns i (key, n)) same)

-- There are no more keys than entries.
pub few-numbers : {Y : Type 0} (es : List (String Y × ℕ)) (numbers : Numbers) (i : ℕ) → map (λ e. (string_bytes e.0, e.1)) es ≡ numbers → i ≡ length es → length numbers ≤ i
few-numbers {Y} es numbers i same e =
    let f : String Y × ℕ → Key × ℕ = λ p. (string_bytes p.0, p.1) in
    let long : length (map f es) ≡ length es = length-map es f in
    omega (arith, e, long, ap length same)
