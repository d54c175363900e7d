-- The table of the imports without star, one import further.
use Rattle.std.proofs.Common.{◌≡◌, ◌∙◌, ap, sym, refl, arith, ℕ, ◌+◌, ◌-◌, ◌<◌, ◌≤◌, Bool, true, false, List, [], ◌∷◌, length, drop, get_or, slice_get, bytes_eq, if◌then◌else◌, Option, Some, None}
use Rattle.std.specs.Prelude.{◌&&◌, not}
use Rattle.std.proofs.lemmas.List.{drop_all, drop_more}
use Rattle.std.proofs.lemmas.Option.{slice_get_read}
use Rattle.java_units.specs.declared.types.Import.{Import}
use Rattle.known_classes.specs.NameTables.{Table}
use Rattle.known_classes.specs.Nested.{same_text}
use Rattle.known_classes.proofs.TableLemmas.{swap}
use Rattle.class_summary.specs.Names.{ends_with, imported}
use Rattle.class_summary.specs.ImportTables.{single_name, import_at}

imported-cons : (name : List ℕ) (m : Import) (ms : List Import) → imported name (m ∷ ms) ≡ (if ends_with name m then Some m else imported name ms)
unfolding imported
imported-cons name m ms = refl

imported-none : (name : List ℕ) → imported name [] ≡ None
unfolding imported
imported-none name = refl

ends-if : (star : Bool) (text : Option (List ℕ)) (name : List ℕ) → (not star && same_text text name) ≡ same_text (if star then None else text) name
ends-if true text name = refl
ends-if false text name = refl

ends : (name : List ℕ) (m : Import) → ends_with name m ≡ same_text (single_name m) name
ends name m = ends-if m.star (slice_get m.parts (length m.parts - 1)) name

-- the table of the imports from this place on
pub record GiveImportedFrom (imports : List Import) (left : ℕ) (table : Table) : Type 0 where
  pub within : left ≤ length imports
  pub each : (name : List ℕ) → import_at imports (table name) ≡ imported name (drop left imports)

pub singles_none : (ms : List Import) (n : ℕ) (table : Table) → n ≡ length ms → ((name : List ℕ) → table name ≡ None) → GiveImportedFrom ms n table
singles_none ms n table e h = record {
  within = omega arith;
  each = λ name. ap (import_at ms) (h name) ∙ sym (ap (imported name) (drop_all n ms (omega arith)) ∙ imported-none name);
}

imported-down : (name : List ℕ) (ms : List Import) (left k : ℕ) (m : Import) → k + 1 ≡ left → k < length ms → m ≡ get_or ms k m → imported name (drop k ms) ≡ (if same_text (single_name m) name then Some m else imported name (drop left ms))
imported-down name ms left k m e l at =
    let d : drop k ms ≡ m ∷ drop (k + 1) ms = drop_more ms k m l ∙ ap (λ (y : Import). y ∷ drop (k + 1) ms) (sym at) in
    ap (imported name) d ∙ (imported-cons name m (drop (k + 1) ms) ∙ (ap (λ (b : Bool). if b then Some m else imported name (drop (k + 1) ms)) (ends name m) ∙ ap (λ (j : ℕ). if same_text (single_name m) name then Some m else imported name (drop j ms)) e))

pub singles_skip : (ms : List Import) (left k : ℕ) (m : Import) (table : Table) → k + 1 ≡ left → m ≡ get_or ms k m → single_name m ≡ None → GiveImportedFrom ms left table → GiveImportedFrom ms k table
singles_skip ms left k m table e at o h = record {
  within = omega (arith, h.within);
  each = λ name.
      h.each name ∙ sym (imported-down name ms left k m e (omega (arith, h.within)) at ∙ ap (λ (t : Option (List ℕ)). if same_text t name then Some m else imported name (drop left ms)) o);
}

import-if : (ms : List Import) (b : Bool) (k : ℕ) (o : Option ℕ) → import_at ms (if b then Some k else o) ≡ (if b then import_at ms (Some k) else import_at ms o)
import-if ms true k o = refl
import-if ms false k o = refl

pub singles_put : (ms : List Import) (left k : ℕ) (m : Import) (last text : List ℕ) (old new : Table) → k + 1 ≡ left → m ≡ get_or ms k m → single_name m ≡ Some last → text ≡ last → ((name : List ℕ) → new name ≡ (if bytes_eq text name then Some k else old name)) → GiveImportedFrom ms left old → GiveImportedFrom ms k new
singles_put ms left k m last text old new e at o t p h = record {
  within = omega (arith, h.within);
  each = λ name.
      let l : k < length ms = omega (arith, h.within) in
      let b : bytes_eq text name ≡ same_text (single_name m) name = swap text name ∙ (ap (bytes_eq name) t ∙ sym (ap (λ (q : Option (List ℕ)). same_text q name) o)) in
      let got : import_at ms (Some k) ≡ Some m = slice_get_read ms (length ms) k m refl l at in
      ap (import_at ms) (p name) ∙ (import-if ms (bytes_eq text name) k (old name) ∙ (ap (λ (y : Bool). if y then import_at ms (Some k) else import_at ms (old name)) b ∙ (ap (λ (q : Option Import). if same_text (single_name m) name then q else import_at ms (old name)) got ∙ (ap (λ (q : Option Import). if same_text (single_name m) name then Some m else q) (h.each name) ∙ sym (imported-down name ms left k m e l at)))));
}

pub singles_end : (ms : List Import) (left : ℕ) (table : Table) → left ≤ 0 → GiveImportedFrom ms left table → (name : List ℕ) → import_at ms (table name) ≡ imported name ms
singles_end ms left table l h name =
    let z : left ≡ 0 = omega arith in
    h.each name ∙ ap (λ (k : ℕ). imported name (drop k ms)) z
