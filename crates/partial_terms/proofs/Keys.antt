-- A key is the least total of what may come of a reading.
use Rattle.std.proofs.Common.{◌≡◌, ℕ, ◌+◌, ◌≤◌, true, false, List, [], ◌∷◌, ◌++◌, length, Option, Some, None, refl, ap, ◌∙◌, arith, append_assoc, append-nil}
use Rattle.std.proofs.lemmas.Bool.{and_parts, false≢true}
use Rattle.terms.specs.Expr.{Expr}
use Rattle.terms.specs.declared.parts.Parts.{Parts}
use Rattle.terms.specs.Code.{prefix_code}
use Rattle.terms.specs.Count.{total}
use Rattle.terms.specs.Place.{Place, HasRoom, fits_place, weigh}
use Rattle.terms.specs.Reading.{Reading, read, fit_all, weigh_all}
use Rattle.terms.proofs.Readings.{read-term}
use Rattle.terms.proofs.Forests.{HaveRoom, whole, Filled, filled, codes}
use Rattle.partial_terms.specs.Leasts.{AllPlaces, AreLeast}

abbrev pub weight_of : Option Reading → ℕ
weight_of None = 0
weight_of (Some r) = r.weight

pub AllPlaces-append : (P : Place → Type 0) (ps qs : List Place) → AllPlaces P ps → AllPlaces P qs → AllPlaces P (ps ++ qs)
AllPlaces-append P [] qs a b = b
AllPlaces-append P (p ∷ ps) qs a b = (a.0, AllPlaces-append P ps qs a.1 b)

pub have_room : (Kept : Place → Type 0) → ((p : Place) → Kept p → HasRoom p) → (ps : List Place) → AllPlaces Kept ps → HaveRoom ps
have_room Kept room [] k = tt
have_room Kept room (p ∷ ps) k = (room p k.0, have_room Kept room ps k.1)

pub read-end : (g : Parts) (w v : ℕ) (ns : List ℕ) → read g w [] ns ≡ whole v → (ns ≡ []) × (w ≡ v)
unfolding read
read-end g w v [] h = (refl, ap weight_of h)
read-end g w v (n ∷ ns) h = (cc, cc)

-- terms that fit kept places weigh at least the numbers of these
all-low : (g : Parts) (limit : ℕ) (Kept : Place → Type 0) (least : Place → ℕ) → AreLeast g limit Kept least → (ps : List Place) (es : List Expr) → AllPlaces Kept ps → fit_all g ps es ≡ true → weigh_all g ps es ≤ limit → total least ps ≤ weigh_all g ps es
all-low g limit Kept least s [] es k fit l = omega arith
all-low g limit Kept least s (p ∷ ps) [] k fit l = absurd (false≢true fit)
all-low g limit Kept least s (p ∷ ps) (e ∷ es) k fit l =
    let fits = and_parts (fits_place g p e) (fit_all g ps es) fit in
    let first : least p ≤ weigh g p e = s.low p k.0 e fits.0 (omega arith) in
    let rest : total least ps ≤ weigh_all g ps es = all-low g limit Kept least s ps es k.1 fits.1 (omega arith) in
    omega arith

-- nothing that is read to its end within the limit weighs less than the key
pub key-low : (g : Parts) (limit : ℕ) (Kept : Place → Type 0) (least : Place → ℕ) → AreLeast g limit Kept least → (w v : ℕ) (ps : List Place) (ns : List ℕ) → AllPlaces Kept ps → v ≤ limit → read g w ps ns ≡ whole v → w + total least ps ≤ v
key-low g limit Kept least s w v ps ns k l h =
    let f : Filled g w v ps [] ns = filled g (length ns) w v ps [] ns (omega arith) (have_room Kept s.room ps k) (ap (λ q. read g w q ns) (append-nil ps) ∙ h) in
    let end : w + weigh_all g ps f.terms ≡ v = (read-end g (w + weigh_all g ps f.terms) v f.more f.after).1 in
    let low : total least ps ≤ weigh_all g ps f.terms = all-low g limit Kept least s ps f.terms k f.fit (omega arith) in
    omega arith

-- something is read to its end with just the weight of the key
pub record Reached (g : Parts) (least : Place → ℕ) (ps : List Place) : Type 0 where
  pub numbers : List ℕ
  pub reads : (w : ℕ) (rest : List Place) (more : List ℕ) → read g w (ps ++ rest) (numbers ++ more) ≡ read g (w + total least ps) rest more

pub reached : (g : Parts) (limit : ℕ) (Kept : Place → Type 0) (least : Place → ℕ) → AreLeast g limit Kept least → (ps : List Place) → total least ps ≤ limit → Reached g least ps
reached g limit Kept least s [] l = record { numbers = []; reads = λ w rest more. let e : w + 0 ≡ w = omega arith in rw e refl }
reached g limit Kept least s (p ∷ ps) l =
    let m = s.met p (omega arith) in
    let e : Expr = m.0 in
    let weighs : weigh g p e ≡ least p = m.2 in
    let b : Reached g least ps = reached g limit Kept least s ps (omega arith) in
    record {
      numbers = prefix_code e ++ b.numbers;
      reads = λ w rest more.
          let sum : w + weigh g p e + total least ps ≡ w + (least p + total least ps) = omega arith in
          ap (λ c. read g w (p ∷ (ps ++ rest)) c) (append_assoc (prefix_code e) b.numbers more)
          ∙ read-term g p e w (ps ++ rest) (b.numbers ++ more) m.1
          ∙ b.reads (w + weigh g p e) rest more
          ∙ ap (λ v. read g v rest more) sum;
    }

-- one term that is read
pub record OneTerm (g : Parts) (p : Place) (v : ℕ) (ns : List ℕ) : Type 0 where
  pub term : Expr
  pub coded : ns ≡ prefix_code term
  pub fit : fits_place g p term ≡ true
  pub weight : weigh g p term ≡ v

pub one_read : (g : Parts) (p : Place) (v : ℕ) (ns : List ℕ) → HasRoom p → read g 0 (p ∷ []) ns ≡ whole v → OneTerm g p v ns
one_read g p v ns room h =
    let f : Filled g 0 v (p ∷ []) [] ns = filled g (length ns) 0 v (p ∷ []) [] ns (omega arith) (room, tt) h in
    go f.terms f.more f.coded f.fit f.after
  where
    go : (es : List Expr) (more : List ℕ) → ns ≡ codes es ++ more → fit_all g (p ∷ []) es ≡ true → read g (0 + weigh_all g (p ∷ []) es) [] more ≡ whole v → OneTerm g p v ns
    go [] more is fit after = absurd (false≢true fit)
    go (e ∷ f ∷ es) more is fit after = absurd (false≢true (and_parts (fits_place g p e) false fit).1)
    go (e ∷ []) more is fit after =
        let end = read-end g (0 + (weigh g p e + 0)) v more after in
        record {
          term = e;
          coded = is ∙ ap (λ c. (prefix_code e ++ []) ++ c) end.0 ∙ append-nil _ ∙ append-nil _;
          fit = (and_parts (fits_place g p e) true fit).0;
          weight = omega (arith, end.1);
        }
