-- The order of texts plays no part where their classes all have different names.
use Rattle.std.proofs.Common.{◌≡◌, ◌∙◌, ap, sym, refl, subst, ℕ, zero, suc, List, [], ◌∷◌, ◌++◌, map, slice_get, Option, Some, flat_map}
use Rattle.std.specs.Prelude.{option_map}
use Rattle.std.specs.Option.{option_or}
use Rattle.std.specs.List.Sorted.{IsPermutation}
use Rattle.std.proofs.lemmas.List.{map-append}
use Rattle.std.proofs.lemmas.Option.{slice_get-map}
use Rattle.java_units.specs.declared.types.SourceClass.{SourceClass}
use Rattle.java_units.specs.declared.types.Unit as unit
use Rattle.known_classes.specs.declared.summary.ClassSummary.{ClassSummary}
use Rattle.known_classes.specs.Known.{class_named, HasEachOnce}
use Rattle.known_classes.specs.Merging.{last_named}
use Rattle.known_classes.proofs.Merging.{class-none, class-map, added-named, merged_law, merged_once}
use Rattle.class_summary.specs.SourceSummaries.{summary_at, summaries_from, summaries_of}
use Rattle.source_classes.specs.TextUnits.{IsUnitOf, AreUnitsOf}
use Rattle.source_classes.specs.SourceClasses.{outline, outlines_of, in_sight, all_summaries, last_ones, without_private, classes_of}
use Rattle.source_classes.specs.Order.{OrderPlaysNoPart}
use Rattle.source_classes.proofs.Units.{same_unit, same_units}
use Rattle.source_classes.proofs.Alike.{IsAlike}
use Rattle.source_classes.proofs.SameSummaries.{summaries-same}
use Rattle.source_classes.proofs.Same.{Has, HaveSame, same_items, flat_same, agreed_once, last_same}

-- the text of a unit, and the unit of a text
text-of : (texts : List (List ℕ)) (us : List unit.Unit) (u : unit.Unit) (k : ℕ) → AreUnitsOf texts us → slice_get us k ≡ Some u → (t : List ℕ) × (Has texts t × IsUnitOf t u)
text-of [] [] u k h e = absurd cc
text-of [] (v ∷ vs) u k h e = absurd h
text-of (t ∷ ts) [] u k h e = absurd h
text-of (t ∷ ts) (v ∷ vs) u zero h e = let q : v ≡ u = cc in (t, ((0, refl), subst (IsUnitOf t) q h.0))
text-of (t ∷ ts) (v ∷ vs) u (suc k) h e = let p = text-of ts vs u k h.1 e in (p.0, ((suc p.1.0.0, p.1.0.1), p.1.1))

unit-of : (texts : List (List ℕ)) (us : List unit.Unit) (t : List ℕ) (k : ℕ) → AreUnitsOf texts us → slice_get texts k ≡ Some t → (u : unit.Unit) × (Has us u × IsUnitOf t u)
unit-of [] us t k h e = absurd cc
unit-of (s ∷ ss) [] t k h e = absurd h
unit-of (s ∷ ss) (v ∷ vs) t zero h e = let q : s ≡ t = cc in (v, ((0, refl), subst (λ (x : List ℕ). IsUnitOf x v) q h.0))
unit-of (s ∷ ss) (v ∷ vs) t (suc k) h e = let p = unit-of ss vs t k h.1 e in (p.0, ((suc p.1.0.0, p.1.0.1), p.1.1))

moved : (texts others : List (List ℕ)) (us vs : List unit.Unit) (u : unit.Unit) → ((t : List ℕ) → Has texts t → Has others t) → AreUnitsOf texts us → AreUnitsOf others vs → Has us u → Has vs u
moved texts others us vs u f a b h =
    let p = text-of texts us u h.0 a h.1 in
    let q = f p.0 p.1.0 in
    let r = unit-of others vs p.0 q.0 b q.1 in
    subst (Has vs) (sym (same_unit p.0 u r.0 p.1.1 r.1.1)) r.1.0

units-same : (texts others : List (List ℕ)) (us vs : List unit.Unit) → IsPermutation texts others → AreUnitsOf texts us → AreUnitsOf others vs → HaveSame us vs
units-same texts others us vs p a b =
    let s = same_items texts others p in
    record { to = λ u h. moved texts others us vs u s.to a b h; from = λ u h. moved others texts vs us u s.from b a h }

-- the outlines of summaries are the same whatever is known
outlines-from : (u : unit.Unit) (known : List ClassSummary) (i : ℕ) (cs : List SourceClass) → map outline (summaries_from u known i cs) ≡ map outline (summaries_from u [] i cs)
unfolding summaries_from
outlines-from u known i [] = refl
outlines-from u known i (c ∷ cs) = ap (λ (r : List ClassSummary). outline (summary_at u i [] c) ∷ r) (outlines-from u known (suc i) cs)

outlines-any : (u : unit.Unit) (known : List ClassSummary) → map outline (summaries_of u known) ≡ outlines_of u
unfolding outlines_of
outlines-any u known = outlines-from u known 0 u.classes

outlines-all : (us : List unit.Unit) (known : List ClassSummary) → map outline (all_summaries us known) ≡ flat_map outlines_of us
outlines-all [] known = refl
outlines-all (u ∷ us) known =
    map-append outline (summaries_of u known) (all_summaries us known)
    ∙ ap (λ (r : List ClassSummary). r ++ map outline (all_summaries us known)) (outlines-any u known)
    ∙ ap (λ (r : List ClassSummary). outlines_of u ++ r) (outlines-all us known)

-- the summaries stand once each where the outlines do
summaries-once : (us : List unit.Unit) (known : List ClassSummary) → HasEachOnce (flat_map outlines_of us) → HasEachOnce (all_summaries us known)
summaries-once us known h =
    let at : (k : ℕ) (c : ClassSummary) → slice_get (all_summaries us known) k ≡ Some c → slice_get (flat_map outlines_of us) k ≡ Some (outline c) = λ k c e. ap (λ (r : List ClassSummary). slice_get r k) (sym (outlines-all us known)) ∙ slice_get-map outline (all_summaries us known) k ∙ ap (option_map outline) e in
    record { once = λ i j c d e f n. h.once i j (outline c) (outline d) (at i c e) (at j d f) n }

all-same : (us : List unit.Unit) (ks ls : List ClassSummary) → IsAlike ks ls → all_summaries us ls ≡ all_summaries us ks
all-same [] ks ls h = refl
all-same (u ∷ us) ks ls h =
    ap (λ (r : List ClassSummary). r ++ all_summaries us ls) (summaries-same u ks ls h)
    ∙ ap (λ (r : List ClassSummary). summaries_of u ks ++ r) (all-same us ks ls h)

-- what is in sight is alike
sights : (us vs : List unit.Unit) (known : List ClassSummary) → HaveSame us vs → HasEachOnce (flat_map outlines_of us) → HasEachOnce known → IsAlike (in_sight us known) (in_sight vs known)
sights us vs known s o k =
    let same : HaveSame (flat_map outlines_of us) (flat_map outlines_of vs) = flat_same outlines_of us vs s in
    record {
      once = merged_once known (flat_map outlines_of us) k;
      again = merged_once known (flat_map outlines_of vs) k;
      named = λ n. merged_law known (flat_map outlines_of us) n ∙ ap (λ (r : Option ClassSummary). option_or r (class_named known n)) (sym (last_same (flat_map outlines_of us) (flat_map outlines_of vs) n same (agreed_once (flat_map outlines_of us) o))) ∙ sym (merged_law known (flat_map outlines_of vs) n);
    }

plain-name : (c : ClassSummary) → (without_private c).name ≡ c.name
unfolding without_private
plain-name c = refl

-- the class of a name among those that are published
published-named : (cs : List ClassSummary) (n : List ℕ) → class_named (map without_private (last_ones cs)) n ≡ option_map without_private (last_named cs n)
published-named cs n = class-map without_private (last_ones cs) n plain-name ∙ ap (option_map without_private) (added-named [] cs n (class-none n))

units-law : (us vs : List unit.Unit) (known : List ClassSummary) (n : List ℕ) → HaveSame us vs → HasEachOnce (flat_map outlines_of us) → HasEachOnce known → class_named (classes_of vs known) n ≡ class_named (classes_of us known) n
units-law us vs known n s o k =
    let seen = in_sight us known in
    let alike = sights us vs known s o k in
    let all = all_summaries us seen in
    let same : HaveSame all (all_summaries vs seen) = flat_same (λ (u : unit.Unit). summaries_of u seen) us vs s in
    published-named (all_summaries vs (in_sight vs known)) n
    ∙ ap (λ (r : List ClassSummary). option_map without_private (last_named r n)) (all-same vs seen (in_sight vs known) alike)
    ∙ ap (option_map without_private) (last_same all (all_summaries vs seen) n same (agreed_once all (summaries-once us seen o)))
    ∙ sym (published-named all n)

pub order_plays_no_part : OrderPlaysNoPart
order_plays_no_part texts known classes own k a others again p b n =
    let o : HasEachOnce (flat_map outlines_of a.units) = subst (λ (us : List unit.Unit). HasEachOnce (flat_map outlines_of us)) (same_units texts own.units a.units own.read a.read) own.once in
    ap (λ (r : List ClassSummary). class_named r n) b.are
    ∙ units-law a.units b.units known n (units-same texts others a.units b.units p a.read b.read) o k
    ∙ ap (λ (r : List ClassSummary). class_named r n) (sym a.are)
