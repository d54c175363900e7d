-- Widenings follow one another, and go by numbers.
use Rattle.graphs.proofs.Elements.{one-of, of-one, IsOneOf}
use Rattle.std.proofs.Common.{◌≢◌, ℕ, ◌<◌, List, refl, sym, subst, arith, inl, inr, Contains}
use Rattle.type_names.specs.declared.kinds.Base.{Base}
use Rattle.type_names.specs.declared.kinds.Base.TheVariants.{Byte, Char, Double, Float, Int, Long, Short, Boolean, Class}
use Rattle.subtyping.specs.Steps.{wider}
use Rattle.subtyping.specs.Widening.{rank}

-- what widens to a type that widens on widens on
more : (p q r : Base) → IsOneOf q (wider p) → IsOneOf r (wider q) → IsOneOf r (wider p)
more Byte q r (inl e) s = inr (subst (λ x. IsOneOf r (wider x)) (sym e) s)
more Byte q r (inr (inl e)) s = inr (inr (subst (λ x. IsOneOf r (wider x)) (sym e) s))
more Byte q r (inr (inr (inl e))) s = inr (inr (inr (subst (λ x. IsOneOf r (wider x)) (sym e) s)))
more Byte q r (inr (inr (inr (inl e)))) s = inr (inr (inr (inr (subst (λ x. IsOneOf r (wider x)) (sym e) s))))
more Byte q r (inr (inr (inr (inr (inl e))))) s = inr (inr (inr (inr (inr (subst (λ x. IsOneOf r (wider x)) (sym e) s)))))
more Byte q r (inr (inr (inr (inr (inr h))))) s = absurd h
more Short q r (inl e) s = inr (subst (λ x. IsOneOf r (wider x)) (sym e) s)
more Short q r (inr (inl e)) s = inr (inr (subst (λ x. IsOneOf r (wider x)) (sym e) s))
more Short q r (inr (inr (inl e))) s = inr (inr (inr (subst (λ x. IsOneOf r (wider x)) (sym e) s)))
more Short q r (inr (inr (inr (inl e)))) s = inr (inr (inr (inr (subst (λ x. IsOneOf r (wider x)) (sym e) s))))
more Short q r (inr (inr (inr (inr h)))) s = absurd h
more Char q r (inl e) s = inr (subst (λ x. IsOneOf r (wider x)) (sym e) s)
more Char q r (inr (inl e)) s = inr (inr (subst (λ x. IsOneOf r (wider x)) (sym e) s))
more Char q r (inr (inr (inl e))) s = inr (inr (inr (subst (λ x. IsOneOf r (wider x)) (sym e) s)))
more Char q r (inr (inr (inr (inl e)))) s = inr (inr (inr (inr (subst (λ x. IsOneOf r (wider x)) (sym e) s))))
more Char q r (inr (inr (inr (inr h)))) s = absurd h
more Int q r (inl e) s = inr (subst (λ x. IsOneOf r (wider x)) (sym e) s)
more Int q r (inr (inl e)) s = inr (inr (subst (λ x. IsOneOf r (wider x)) (sym e) s))
more Int q r (inr (inr (inl e))) s = inr (inr (inr (subst (λ x. IsOneOf r (wider x)) (sym e) s)))
more Int q r (inr (inr (inr h))) s = absurd h
more Long q r (inl e) s = inr (subst (λ x. IsOneOf r (wider x)) (sym e) s)
more Long q r (inr (inl e)) s = inr (inr (subst (λ x. IsOneOf r (wider x)) (sym e) s))
more Long q r (inr (inr h)) s = absurd h
more Float q r (inl e) s = inr (subst (λ x. IsOneOf r (wider x)) (sym e) s)
more Float q r (inr h) s = absurd h
more Double q r h s = absurd h
more Boolean q r h s = absurd h
more (Class name) q r h s = absurd h

pub wider-more : (p q r : Base) → Contains (wider p) q → Contains (wider q) r → Contains (wider p) r
wider-more p q r h s = of-one r (wider p) (more p q r (one-of q (wider p) h) (one-of r (wider q) s))

-- a primitive type doesn't widen to a class
ranked : (p q : Base) → IsOneOf q (wider p) → (rank p < rank q) × (rank q < 7) × (rank q ≢ 2)
ranked Byte q (inl e) = subst (λ x. (rank Byte < rank x) × (rank x < 7) × (rank x ≢ 2)) e (omega arith, omega arith, omega arith)
ranked Byte q (inr (inl e)) = subst (λ x. (rank Byte < rank x) × (rank x < 7) × (rank x ≢ 2)) e (omega arith, omega arith, omega arith)
ranked Byte q (inr (inr (inl e))) = subst (λ x. (rank Byte < rank x) × (rank x < 7) × (rank x ≢ 2)) e (omega arith, omega arith, omega arith)
ranked Byte q (inr (inr (inr (inl e)))) = subst (λ x. (rank Byte < rank x) × (rank x < 7) × (rank x ≢ 2)) e (omega arith, omega arith, omega arith)
ranked Byte q (inr (inr (inr (inr (inl e))))) = subst (λ x. (rank Byte < rank x) × (rank x < 7) × (rank x ≢ 2)) e (omega arith, omega arith, omega arith)
ranked Byte q (inr (inr (inr (inr (inr h))))) = absurd h
ranked Short q (inl e) = subst (λ x. (rank Short < rank x) × (rank x < 7) × (rank x ≢ 2)) e (omega arith, omega arith, omega arith)
ranked Short q (inr (inl e)) = subst (λ x. (rank Short < rank x) × (rank x < 7) × (rank x ≢ 2)) e (omega arith, omega arith, omega arith)
ranked Short q (inr (inr (inl e))) = subst (λ x. (rank Short < rank x) × (rank x < 7) × (rank x ≢ 2)) e (omega arith, omega arith, omega arith)
ranked Short q (inr (inr (inr (inl e)))) = subst (λ x. (rank Short < rank x) × (rank x < 7) × (rank x ≢ 2)) e (omega arith, omega arith, omega arith)
ranked Short q (inr (inr (inr (inr h)))) = absurd h
ranked Char q (inl e) = subst (λ x. (rank Char < rank x) × (rank x < 7) × (rank x ≢ 2)) e (omega arith, omega arith, omega arith)
ranked Char q (inr (inl e)) = subst (λ x. (rank Char < rank x) × (rank x < 7) × (rank x ≢ 2)) e (omega arith, omega arith, omega arith)
ranked Char q (inr (inr (inl e))) = subst (λ x. (rank Char < rank x) × (rank x < 7) × (rank x ≢ 2)) e (omega arith, omega arith, omega arith)
ranked Char q (inr (inr (inr (inl e)))) = subst (λ x. (rank Char < rank x) × (rank x < 7) × (rank x ≢ 2)) e (omega arith, omega arith, omega arith)
ranked Char q (inr (inr (inr (inr h)))) = absurd h
ranked Int q (inl e) = subst (λ x. (rank Int < rank x) × (rank x < 7) × (rank x ≢ 2)) e (omega arith, omega arith, omega arith)
ranked Int q (inr (inl e)) = subst (λ x. (rank Int < rank x) × (rank x < 7) × (rank x ≢ 2)) e (omega arith, omega arith, omega arith)
ranked Int q (inr (inr (inl e))) = subst (λ x. (rank Int < rank x) × (rank x < 7) × (rank x ≢ 2)) e (omega arith, omega arith, omega arith)
ranked Int q (inr (inr (inr h))) = absurd h
ranked Long q (inl e) = subst (λ x. (rank Long < rank x) × (rank x < 7) × (rank x ≢ 2)) e (omega arith, omega arith, omega arith)
ranked Long q (inr (inl e)) = subst (λ x. (rank Long < rank x) × (rank x < 7) × (rank x ≢ 2)) e (omega arith, omega arith, omega arith)
ranked Long q (inr (inr h)) = absurd h
ranked Float q (inl e) = subst (λ x. (rank Float < rank x) × (rank x < 7) × (rank x ≢ 2)) e (omega arith, omega arith, omega arith)
ranked Float q (inr h) = absurd h
ranked Double q h = absurd h
ranked Boolean q h = absurd h
ranked (Class name) q h = absurd h

pub wider-rank : (p q : Base) → Contains (wider p) q → (rank p < rank q) × (rank q < 7) × (rank q ≢ 2)
wider-rank p q h = ranked p q (one-of q (wider p) h)

widened : (p q : Base) → rank p < rank q → rank q < 7 → rank q ≢ 2 → IsOneOf q (wider p)
widened Byte Byte l u n = absurd (omega (arith, l))
widened Byte Short l u n = inl refl
widened Byte Char l u n = absurd (n refl)
widened Byte Int l u n = inr (inl refl)
widened Byte Long l u n = inr (inr (inl refl))
widened Byte Float l u n = inr (inr (inr (inl refl)))
widened Byte Double l u n = inr (inr (inr (inr (inl refl))))
widened Byte Boolean l u n = absurd (omega (arith, u))
widened Byte (Class b) l u n = absurd (omega (arith, u))
widened Short Byte l u n = absurd (omega (arith, l))
widened Short Short l u n = absurd (omega (arith, l))
widened Short Char l u n = absurd (n refl)
widened Short Int l u n = inl refl
widened Short Long l u n = inr (inl refl)
widened Short Float l u n = inr (inr (inl refl))
widened Short Double l u n = inr (inr (inr (inl refl)))
widened Short Boolean l u n = absurd (omega (arith, u))
widened Short (Class b) l u n = absurd (omega (arith, u))
widened Char Byte l u n = absurd (omega (arith, l))
widened Char Short l u n = absurd (omega (arith, l))
widened Char Char l u n = absurd (omega (arith, l))
widened Char Int l u n = inl refl
widened Char Long l u n = inr (inl refl)
widened Char Float l u n = inr (inr (inl refl))
widened Char Double l u n = inr (inr (inr (inl refl)))
widened Char Boolean l u n = absurd (omega (arith, u))
widened Char (Class b) l u n = absurd (omega (arith, u))
widened Int Byte l u n = absurd (omega (arith, l))
widened Int Short l u n = absurd (omega (arith, l))
widened Int Char l u n = absurd (omega (arith, l))
widened Int Int l u n = absurd (omega (arith, l))
widened Int Long l u n = inl refl
widened Int Float l u n = inr (inl refl)
widened Int Double l u n = inr (inr (inl refl))
widened Int Boolean l u n = absurd (omega (arith, u))
widened Int (Class b) l u n = absurd (omega (arith, u))
widened Long Byte l u n = absurd (omega (arith, l))
widened Long Short l u n = absurd (omega (arith, l))
widened Long Char l u n = absurd (omega (arith, l))
widened Long Int l u n = absurd (omega (arith, l))
widened Long Long l u n = absurd (omega (arith, l))
widened Long Float l u n = inl refl
widened Long Double l u n = inr (inl refl)
widened Long Boolean l u n = absurd (omega (arith, u))
widened Long (Class b) l u n = absurd (omega (arith, u))
widened Float Byte l u n = absurd (omega (arith, l))
widened Float Short l u n = absurd (omega (arith, l))
widened Float Char l u n = absurd (omega (arith, l))
widened Float Int l u n = absurd (omega (arith, l))
widened Float Long l u n = absurd (omega (arith, l))
widened Float Float l u n = absurd (omega (arith, l))
widened Float Double l u n = inl refl
widened Float Boolean l u n = absurd (omega (arith, u))
widened Float (Class b) l u n = absurd (omega (arith, u))
widened Double Byte l u n = absurd (omega (arith, l))
widened Double Short l u n = absurd (omega (arith, l))
widened Double Char l u n = absurd (omega (arith, l))
widened Double Int l u n = absurd (omega (arith, l))
widened Double Long l u n = absurd (omega (arith, l))
widened Double Float l u n = absurd (omega (arith, l))
widened Double Double l u n = absurd (omega (arith, l))
widened Double Boolean l u n = absurd (omega (arith, u))
widened Double (Class b) l u n = absurd (omega (arith, u))
widened Boolean Byte l u n = absurd (omega (arith, l))
widened Boolean Short l u n = absurd (omega (arith, l))
widened Boolean Char l u n = absurd (omega (arith, l))
widened Boolean Int l u n = absurd (omega (arith, l))
widened Boolean Long l u n = absurd (omega (arith, l))
widened Boolean Float l u n = absurd (omega (arith, l))
widened Boolean Double l u n = absurd (omega (arith, l))
widened Boolean Boolean l u n = absurd (omega (arith, l))
widened Boolean (Class b) l u n = absurd (omega (arith, u))
widened (Class a) Byte l u n = absurd (omega (arith, l))
widened (Class a) Short l u n = absurd (omega (arith, l))
widened (Class a) Char l u n = absurd (omega (arith, l))
widened (Class a) Int l u n = absurd (omega (arith, l))
widened (Class a) Long l u n = absurd (omega (arith, l))
widened (Class a) Float l u n = absurd (omega (arith, l))
widened (Class a) Double l u n = absurd (omega (arith, l))
widened (Class a) Boolean l u n = absurd (omega (arith, l))
widened (Class a) (Class b) l u n = absurd (omega (arith, l))

pub rank-wider : (p q : Base) → rank p < rank q → rank q < 7 → rank q ≢ 2 → Contains (wider p) q
rank-wider p q l u n = of-one q (wider p) (widened p q l u n)

pub never-class : {P : Type 0} (p : Base) (b : List ℕ) → Contains (wider p) (Class b) → P
never-class p b h = let r = wider-rank p (Class b) h in absurd (omega (arith, r.1))
