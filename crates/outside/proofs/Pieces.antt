-- Pieces that are written one after the other.
use Rattle.std.proofs.Common.{◌≡◌, ℕ, ◌+◌, List, [], ◌++◌, take, drop, length, Option, Some, None, sym, ap, ◌∙◌, append_assoc, append-nil, ◌-◌, arith, length-drop, length-append}
use Rattle.std.proofs.lemmas.List.{take_all}
use Rattle.std.specs.Prelude.{Result, Ok, Err, OnErr}
use Rattle.std.proofs.Math.Seq.{take-add, take-append-add, take-append_seam}
use Rattle.std.specs.Io.KnownBytes.{Appends}
use Rattle.outside.specs.Gathered.{Gathered, WrotePrefix}

pub appends_more : (a b c : Option (List ℕ)) (d n : ℕ) (p rest : List ℕ) → rest ≡ drop d p → Appends a b (take d p) → Appends b c (take n rest) → Appends a c (take (d + n) p)
appends_more None b c d n p rest is h k = tt
appends_more (Some xs) None c d n p rest is h k = absurd h
appends_more (Some xs) (Some ys) None d n p rest is h k = k
appends_more (Some xs) (Some ys) (Some zs) d n p rest is h k =
    k ∙ ap (λ t. t ++ take n rest) h ∙ append_assoc xs (take d p) (take n rest) ∙ ap (λ t. xs ++ (take d p ++ take n t)) is ∙ ap (λ t. xs ++ t) (sym (take-add d n p))

-- `&p[d..]`
pub rest_is : (p : List ℕ) (d : ℕ) → take (length p - d) (drop d p) ≡ drop d p
rest_is p d = take_all (length p - d) (drop d p) (omega (arith, length-drop d p))

-- what is appended twice
pub appends_both : (a b c : Option (List ℕ)) (p q : List ℕ) → Appends a b p → Appends b c q → Appends a c (p ++ q)
appends_both None b c p q h k = tt
appends_both (Some xs) None c p q h k = absurd h
appends_both (Some xs) (Some ys) None p q h k = k
appends_both (Some xs) (Some ys) (Some zs) p q h k = k ∙ ap (λ t. t ++ q) h ∙ append_assoc xs p q

-- what is held is written up to a place
pub prefix_of_held : (start now later : Option (List ℕ)) (held all : List ℕ) → Gathered start now held all → WrotePrefix now later held → WrotePrefix start later all
prefix_of_held start now later held all g w = record {
  count = length g.handed + w.count;
  within = omega (arith, ap length g.whole, length-append g.handed held, w.within);
  wrote =
      let joined = appends_both start now later g.handed (take w.count held) g.wrote w.wrote in
      let prefix = take-append-add g.handed held w.count in
      rw (sym g.whole, prefix) joined;
}

-- nothing more is written
pub prefix_stands : (start now : Option (List ℕ)) (held all more : List ℕ) → Gathered start now held all → WrotePrefix start now (all ++ more)
prefix_stands start now held all more g = record {
  count = length g.handed;
  within = omega (arith, ap length g.whole, length-append g.handed held, length-append all more);
  wrote =
      let prefix = take-append_seam g.handed (held ++ more) in
      rw (sym g.whole, append_assoc g.handed held more, prefix) g.wrote;
}

-- bytes are held in addition
pub gathered_more : (start now : Option (List ℕ)) (held all more : List ℕ) → Gathered start now held all → Gathered start now (held ++ more) (all ++ more)
gathered_more start now held all more g = record {
  handed = g.handed;
  wrote = g.wrote;
  whole = sym (append_assoc g.handed held more) ∙ ap (λ t. t ++ more) g.whole;
}

-- all that is held is handed over
pub gathered_all : (start now later : Option (List ℕ)) (held all : List ℕ) → Gathered start now held all → Appends now later held → Appends start later all
gathered_all start now later held all g w = rw (sym g.whole) (appends_both start now later g.handed held g.wrote w)

-- all is written, and nothing is held
pub gathered_none : (start now : Option (List ℕ)) (all : List ℕ) → Appends start now all → Gathered start now [] all
gathered_none start now all w = record {
  handed = all;
  wrote = w;
  whole = append-nil all;
}

-- what holds anyhow
pub on_err : {T E : Type 0} (result : Result T E) {P : Type 0} → P → OnErr result P
on_err (Ok x) p = tt
on_err (Err e) p = p
