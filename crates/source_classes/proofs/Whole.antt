-- The classes of source texts: what the parts of the work give, that they are there, the only ones, and of different names.
use Rattle.std.proofs.Common.{◌≡◌, ◌∙◌, ap, sym, refl, subst, ℕ, List, [], map, slice_get, Option, Some, None, flat_map}
use Rattle.std.specs.Prelude.{option_map}
use Rattle.std.proofs.lemmas.Option.{slice_get-map}
use Rattle.java_units.specs.declared.types.Unit as unit
use Rattle.known_classes.specs.declared.summary.ClassSummary.{ClassSummary}
use Rattle.known_classes.specs.Known.{HasEachOnce}
use Rattle.known_classes.specs.Merging.{merged}
use Rattle.known_classes.proofs.Merging.{added-once}
use Rattle.source_classes.specs.SourceClasses.{outlines_of, in_sight, all_summaries, last_ones, without_private, classes_of, AreSourceClasses}
use Rattle.source_classes.specs.Laws.{HaveSourceClasses}
use Rattle.source_classes.proofs.Units.{units_there, same_units}

-- the outlines, what is in sight, the summaries, and the classes
pub classes_are : (us xs ys : List unit.Unit) (known outlines seen all classes : List ClassSummary) → xs ≡ us → ys ≡ us → outlines ≡ flat_map outlines_of xs → seen ≡ merged known outlines → all ≡ all_summaries ys seen → classes ≡ map without_private (last_ones all) → classes ≡ classes_of us known
classes_are us xs ys known outlines seen all classes x y o s a c =
    let sight : seen ≡ in_sight us known = s ∙ ap (merged known) (o ∙ ap (flat_map outlines_of) x) in
    c ∙ ap (λ (r : List ClassSummary). map without_private (last_ones r)) (a ∙ ap (λ (r : List unit.Unit). all_summaries r seen) y ∙ ap (all_summaries us) sight)

pub classes_there : (texts : List (List ℕ)) (known : List ClassSummary) → HaveSourceClasses texts known
classes_there texts known =
    let p = units_there texts in
    record { classes = classes_of p.0 known; are = record { units = p.0; read = p.1; are = refl } }

pub one_list : (texts : List (List ℕ)) (known a b : List ClassSummary) → AreSourceClasses texts known a → AreSourceClasses texts known b → b ≡ a
one_list texts known a b p q = q.are ∙ ap (λ (us : List unit.Unit). classes_of us known) (same_units texts q.units p.units q.read p.read) ∙ sym p.are

mapped-by : (f : ClassSummary → ClassSummary) (o : Option ClassSummary) (d : ClassSummary) → option_map f o ≡ Some d → (c : ClassSummary) × ((o ≡ Some c) × (f c ≡ d))
mapped-by f None d e = absurd cc
mapped-by f (Some c) d e = (c, (refl, cc))

plain-name : (c : ClassSummary) → (without_private c).name ≡ c.name
unfolding without_private
plain-name c = refl

-- the class at this place, with its private members
before : (cs : List ClassSummary) (i : ℕ) (d : ClassSummary) → slice_get (map without_private cs) i ≡ Some d → (c : ClassSummary) × ((slice_get cs i ≡ Some c) × (c.name ≡ d.name))
before cs i d e =
    let p = mapped-by without_private (slice_get cs i) d (sym (slice_get-map without_private cs i) ∙ e) in
    (p.0, (p.1.0, sym (plain-name p.0) ∙ ap (λ (x : ClassSummary). x.name) p.1.1))

pub classes_once : (all classes : List ClassSummary) → classes ≡ map without_private (last_ones all) → HasEachOnce classes
classes_once all classes e =
    let whole : HasEachOnce (map without_private (last_ones all)) = record {
      once = λ i j c d f g n.
          let p = before (last_ones all) i c f in
          let q = before (last_ones all) j d g in
          added-once [] all i j p.0 q.0 p.1.0 q.1.0 (p.1.1 ∙ n ∙ sym q.1.1);
    } in
    subst HasEachOnce (sym e) whole
