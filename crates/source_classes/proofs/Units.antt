-- The units of texts: one more text, and that they are there and are the only ones.
use Rattle.std.proofs.Common.{◌≡◌, ◌∙◌, ap, sym, refl, subst, ℕ, ◌+◌, ◌<◌, ◌≤◌, List, [], ◌∷◌, ◌++◌, length, take, take_all, get_or, add-one}
use Rattle.std.proofs.Math.Seq.{take-suc}
use Rattle.java_tokens.specs.declared.token.Token.{Token}
use Rattle.java_tokens.proofs.Total.{has_tokens, only_tokens}
use Rattle.java_units.specs.declared.types.Unit as unit
use Rattle.java_units.specs.Units.{IsUnit}
use Rattle.java_units.proofs.UnitLaws.{one_unit}
use Rattle.java_units.proofs.UnitThere.{unit_there}
use Rattle.source_classes.specs.TextUnits.{IsUnitOf, AreUnitsOf}

-- one more text behind them
units_push : (ts : List (List ℕ)) (us : List unit.Unit) (t : List ℕ) (u : unit.Unit) → AreUnitsOf ts us → IsUnitOf t u → AreUnitsOf (ts ++ t ∷ []) (us ++ u ∷ [])
units_push [] [] t u h k = (k, h)
units_push [] (v ∷ vs) t u h k = absurd h
units_push (s ∷ ss) [] t u h k = absurd h
units_push (s ∷ ss) (v ∷ vs) t u h k = (h.0, units_push ss vs t u h.1 k)

-- the unit of the text at this place
pub units_on : (texts : List (List ℕ)) (i : ℕ) (d : List ℕ) (old new : List unit.Unit) (u : unit.Unit) → i < length texts → new ≡ old ++ u ∷ [] → IsUnitOf (get_or texts i d) u → AreUnitsOf (take i texts) old → AreUnitsOf (take (i + 1) texts) new
units_on texts i d old new u l n k h =
    let e : take (i + 1) texts ≡ take i texts ++ get_or texts i d ∷ [] = ap (λ m. take m texts) (add-one i) ∙ take-suc texts i d l in
    subst (λ (ts : List (List ℕ)). AreUnitsOf ts new) (sym e) (subst (λ (us : List unit.Unit). AreUnitsOf (take i texts ++ get_or texts i d ∷ []) us) (sym n) (units_push (take i texts) old (get_or texts i d) u h k))

pub units_end : (texts : List (List ℕ)) (i : ℕ) (us : List unit.Unit) → length texts ≤ i → AreUnitsOf (take i texts) us → AreUnitsOf texts us
units_end texts i us l h = subst (λ (ts : List (List ℕ)). AreUnitsOf ts us) (take_all i texts l) h

-- a text has one unit
pub same_unit : (text : List ℕ) (u v : unit.Unit) → IsUnitOf text u → IsUnitOf text v → u ≡ v
same_unit text u v a b =
    let e : a.tokens ≡ b.tokens = only_tokens text b.tokens b.lexed a.tokens a.lexed in
    one_unit text b.tokens v b.parsed u (subst (λ (ts : List Token). IsUnit text ts u) e a.parsed)

pub same_units : (texts : List (List ℕ)) (us vs : List unit.Unit) → AreUnitsOf texts us → AreUnitsOf texts vs → us ≡ vs
same_units [] [] [] a b = refl
same_units [] [] (v ∷ vs) a b = absurd b
same_units [] (u ∷ us) vs a b = absurd a
same_units (t ∷ ts) [] vs a b = absurd a
same_units (t ∷ ts) (u ∷ us) [] a b = absurd b
same_units (t ∷ ts) (u ∷ us) (v ∷ vs) a b = ap (λ (x : unit.Unit). x ∷ us) (same_unit t u v a.0 b.0) ∙ ap (λ (xs : List unit.Unit). v ∷ xs) (same_units ts us vs a.1 b.1)

unit_of : (text : List ℕ) → (u : unit.Unit) × IsUnitOf text u
unit_of text =
    let ts = has_tokens text in
    let h = unit_there text ts.all in
    (h.one, record { tokens = ts.all; lexed = ts.are; parsed = h.is })

-- texts have units
pub units_there : (texts : List (List ℕ)) → (us : List unit.Unit) × AreUnitsOf texts us
units_there [] = ([], tt)
units_there (t ∷ ts) =
    let p = unit_of t in
    let q = units_there ts in
    (p.0 ∷ q.0, (p.1, q.1))
