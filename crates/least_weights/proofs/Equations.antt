-- The equations that least weights solve, in the words of the search: heads at places and what they open.
use Rattle.std.proofs.Common.{◌≡◌, ℕ, ◌+◌, ◌*◌, ◌≤◌, true, List, [], ◌∷◌, ◌++◌, length, Option, Some, None, refl, ap, ◌∙◌, arith}
use Rattle.terms.specs.Code.{prefix_code, args_code}
use Rattle.terms.specs.Expr.{Expr, var, head}
use Rattle.terms.specs.Place.{Place, HasRoom, weigh}
use Rattle.terms.specs.Reading.{Reading, turn, and_then, read, fit_all, weigh_all}
use Rattle.terms.specs.declared.parts.Parts.{Parts}
use Rattle.terms.proofs.Forests.{Grown, turned, Filled, filled, whole}
use Rattle.terms.proofs.Readings.{read-term}
use Rattle.least_weights.specs.LeastWeight.{IsLeast, IsLeastWeight}

-- what a head gives with terms at the places that it opens is at least the least weight
pub record IsAtLeast (o : Option ℕ) (v : ℕ) : Type 0 where
  pub weight : ℕ
  pub is : o ≡ Some weight
  pub low : weight ≤ v

pub closed-at : (g : Parts) (limit : ℕ) (p : Place) (o : Option ℕ) → HasRoom p → IsLeastWeight g limit p o → (n : ℕ) (t : Reading) → turn g p n ≡ Some t → (es : List Expr) → fit_all g t.open_places es ≡ true → t.weight + weigh_all g t.open_places es ≤ limit → IsAtLeast o (t.weight + weigh_all g t.open_places es)
closed-at g limit p o room least n t is es fit within = go o least
  where
    term : Grown g p n t es
    term = (turned g p n t room is).grows es fit

    go : (q : Option ℕ) → IsLeastWeight g limit p q → IsAtLeast q (t.weight + weigh_all g t.open_places es)
    go None above = (let w = term.weight in let h = above term.term term.fit in absurd (omega (arith, w, h, within)))
    go (Some w) l = (let e = term.weight in let h = l.least term.term term.fit in record { weight = w; is = refl; low = omega (arith, e, h) })

-- some head reaches the least weight, with terms at the places that it opens
pub record IsReachedBy (g : Parts) (p : Place) (w : ℕ) : Type 0 where
  pub number : ℕ
  pub turn_is : Reading
  pub is : turn g p number ≡ Some turn_is
  pub terms : List Expr
  pub fit : fit_all g turn_is.open_places terms ≡ true
  pub weighs : turn_is.weight + weigh_all g turn_is.open_places terms ≡ w

abbrev weight_read : Option Reading → ℕ
weight_read None = 0
weight_read (Some r) = r.weight

-- what is read with no place open is nothing
read-end : (g : Parts) (v w : ℕ) (ns : List ℕ) → read g v [] ns ≡ whole w → v ≡ w
unfolding read
read-end g v w [] h = ap weight_read h
read-end g v w (n ∷ ns) h = cc

first-read : (g : Parts) (p : Place) (w n : ℕ) (ns : List ℕ) → HasRoom p → read g 0 (p ∷ []) (n ∷ ns) ≡ whole w → IsReachedBy g p w
unfolding read
first-read g p w n ns room h = go (turn g p n) refl h
  where
    go : (o : Option Reading) → turn g p n ≡ o → and_then o (λ t. read g (0 + t.weight) (t.open_places ++ []) ns) ≡ whole w → IsReachedBy g p w
    go None is h' = cc
    go (Some t) is h' =
        let f : Filled g (0 + t.weight) w t.open_places [] ns = filled g (length ns) (0 + t.weight) w t.open_places [] ns (omega arith) (turned g p n t room is).room h' in
        let sum = read-end g (0 + t.weight + weigh_all g t.open_places f.terms) w f.more f.after in
        record { number = n; turn_is = t; is = is; terms = f.terms; fit = f.fit; weighs = omega (arith, sum) }

-- a reading that ended
read-nothing : (g : Parts) (v w : ℕ) → v ≡ w → read g (0 + v) [] [] ≡ whole w
unfolding read
read-nothing g v w is = (let e : 0 + v ≡ w = omega (arith, is) in ap whole e)

pub supported-at : (g : Parts) (limit w : ℕ) (p : Place) → HasRoom p → IsLeast g limit p w → IsReachedBy g p w
supported-at g limit w p room least = go least.term (read-term g p least.term 0 [] [] least.fits)
  where
    go : (e : Expr) → read g 0 (p ∷ []) (prefix_code e ++ []) ≡ read g (0 + weigh g p least.term) [] [] → IsReachedBy g p w
    go (var n) h = first-read g p w (2 * n) [] room (h ∙ read-nothing g (weigh g p least.term) w least.weighs)
    go (head d xs) h = first-read g p w (2 * d + 1) (args_code xs ++ []) room (h ∙ read-nothing g (weigh g p least.term) w least.weighs)
