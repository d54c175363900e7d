-- Going over pieces from one state to another.
use Rattle.std.proofs.Common.{◌≡◌, ◌∙◌, ℕ, Bool, true, false, List, [], ◌∷◌, ◌++◌, Result, Ok, Err, IfOk}
use Rattle.java_resolve.specs.declared.passing.Passing.{Passing}
use Rattle.java_resolve.specs.Pieces.{Piece, sign}
use Rattle.java_resolve.specs.Known.{Passes, Goes}
use Rattle.java_resolve.proofs.Forms.{keys_same}
use Rattle.java_resolve.proofs.Pieces.{over_both, over_first, over_pieces, as_true, as_false, enclosed, opened}

-- where the place alone changes
pub goes_on : (d : List ℕ → Bool) (ps : List Piece) (a b : Passing) (r : Bool) → b.set ≡ a.set → Passes d ps a.at b.at r → Goes d ps a b r
goes_on d ps a b r e h = (h, keys_same a.set b.set e)

pub goes_ok : {E : Type 0} (d : List ℕ → Bool) (ps : List Piece) (a b : Passing) (r : Result Bool E) → b.set ≡ a.set → IfOk r (Passes d ps a.at b.at) → IfOk r (Goes d ps a b)
goes_ok d ps a b (Ok x) e h = goes_on d ps a b x e h
goes_ok d ps a b (Err x) e h = tt

-- with an answer that is known
pub goes_true : (d : List ℕ → Bool) (ps : List Piece) (a b : Passing) (r : Bool) → r ≡ true → Goes d ps a b r → Goes d ps a b true
goes_true d ps a b r e h = (as_true d ps a.at b.at r e h.0, h.1)

pub goes_false : (d : List ℕ → Bool) (ps : List Piece) (a b : Passing) (r : Bool) → r ≡ false → Goes d ps a b r → Goes d ps a b false
goes_false d ps a b r e h = (as_false d ps a.at b.at r e h.0, h.1)

-- over some pieces and others
pub goes_both : (d : List ℕ → Bool) (ps qs : List Piece) (a b c : Passing) (r : Bool) → Goes d ps a b true → Goes d qs b c r → Goes d (ps ++ qs) a c r
goes_both d ps qs a b c r h k = (over_both d ps qs a.at b.at c.at r h.0 k.0, k.1 ∙ h.1)

pub goes_first : (d : List ℕ → Bool) (ps qs : List Piece) (a b : Passing) → Goes d ps a b false → Goes d (ps ++ qs) a b false
goes_first d ps qs a b h = (over_first d ps qs a.at b.at h.0, h.1)

pub goes_call : {E : Type 0} (d : List ℕ → Bool) (ps qs : List Piece) (a b c : Passing) (r : Result Bool E) → Goes d ps a b true → IfOk r (Goes d qs b c) → IfOk r (Goes d (ps ++ qs) a c)
goes_call d ps qs a b c (Ok x) h k = goes_both d ps qs a b c x h k
goes_call d ps qs a b c (Err x) h k = tt

-- over the same pieces
pub goes_by : {E : Type 0} (d : List ℕ → Bool) (ps qs : List Piece) (a b : Passing) (r : Result Bool E) → ps ≡ qs → IfOk r (Goes d ps a b) → IfOk r (Goes d qs a b)
goes_by d ps qs a b (Ok x) e h = (over_pieces d ps qs a.at b.at x e h.0, h.1)
goes_by d ps qs a b (Err x) e h = tt

-- over pieces behind a sign, and between two
pub goes_opened : (d : List ℕ → Bool) (t : List ℕ) (ps qs : List Piece) (a one b : Passing) → Goes d (sign t ∷ []) a one true → Goes d ps one b false → Goes d (sign t ∷ (ps ++ qs)) a b false
goes_opened d t ps qs a one b h k = (opened d t ps qs a.at one.at b.at h.0 k.0, k.1 ∙ h.1)

pub goes_enclosed : (d : List ℕ → Bool) (t u : List ℕ) (ps : List Piece) (a one two b : Passing) → Goes d (sign t ∷ []) a one true → Goes d ps one two true → Goes d (sign u ∷ []) two b true → Goes d (sign t ∷ (ps ++ sign u ∷ [])) a b true
goes_enclosed d t u ps a one two b h k l = (enclosed d t u ps a.at one.at two.at b.at h.0 k.0 l.0, l.1 ∙ k.1 ∙ h.1)
