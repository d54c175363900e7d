-- What the names of a text denote over two lists of known classes that have the same class under each name.
use Rattle.std.proofs.Common.{◌≡◌, ◌∙◌, ap, sym, refl, ℕ, List, [], ◌∷◌, ◌++◌, bytes_eq, Option, Some, None}
use Rattle.std.specs.Prelude.{codes, unwrap_or, if◌then◌else◌, ◌||◌}
use Rattle.std.specs.Option.{option_or}
use Rattle.java_units.specs.declared.types.TypeText.{TypeText}
use Rattle.java_units.specs.declared.types.Import.{Import}
use Rattle.java_units.specs.declared.types.Unit as unit
use Rattle.type_names.specs.declared.kinds.Base.{Base}
use Rattle.type_names.specs.declared.kinds.Base.TheVariants.{Class}
use Rattle.type_names.specs.declared.kinds.Erased.{Erased}
use Rattle.known_classes.specs.declared.summary.ClassSummary.{ClassSummary}
use Rattle.class_summary.specs.Sources.{followed, joined}
use Rattle.class_summary.specs.Variables.{End, end_of, scopes_at}
use Rattle.class_summary.specs.declared.rules.Denoted.{Denoted}
use Rattle.class_summary.specs.declared.rules.Denoted.TheVariants.{Own, Other}
use Rattle.class_summary.specs.Names.{internal_of, canonical_of, own, other, own_by_canonical, class_with, spelled, spelled_by, imported, if_known, known_as, nested_below, below, below_star, starred, of_java_lang, in_package, own_class, named_class, simple_class, member_class, dotted_class, in_package_else, class_of_name, primitive_of, base_of, erased_end, denoted_type}
use Rattle.source_classes.proofs.Alike.{IsAlike, canonical-same, called-same, nested-same}

with-same : (u : unit.Unit) (ks ls : List ClassSummary) (n : List ℕ) → IsAlike ks ls → class_with u ls n ≡ class_with u ks n
unfolding class_with
with-same u ks ls n h = ap (λ (o : Option ClassSummary). option_or (own (own_by_canonical u n)) (other o)) (called-same ks ls n h)

spelled-same : (u : unit.Unit) (ks ls : List ClassSummary) (parts : List (List ℕ)) → IsAlike ks ls → spelled u ls parts ≡ spelled u ks parts
unfolding spelled
spelled-same u ks ls parts h = ap (λ (o : Option Denoted). unwrap_or o (Other (joined (codes "/") parts))) (with-same u ks ls (joined (codes ".") parts) h)

spelled-by-same : (u : unit.Unit) (ks ls : List ClassSummary) (m : Option Import) → IsAlike ks ls → spelled_by u ls m ≡ spelled_by u ks m
spelled-by-same u ks ls None h = refl
spelled-by-same u ks ls (Some m) h = ap Some (spelled-same u ks ls m.parts h)

known-same : (ks ls : List ClassSummary) (n : List ℕ) → IsAlike ks ls → known_as ls n ≡ known_as ks n
known-same ks ls n h = ap (λ (o : Option ClassSummary). if_known o n) (sym (h.named n))

nested-below-same : (u : unit.Unit) (ks ls : List ClassSummary) (n : List ℕ) (o : Option Denoted) → IsAlike ks ls → nested_below u ls n o ≡ nested_below u ks n o
nested-below-same u ks ls n None h = refl
nested-below-same u ks ls n (Some class) h = ap other (nested-same (internal_of u class) n ks ls h)

below-same : (u : unit.Unit) (ks ls : List ClassSummary) (n : List ℕ) (parts : List (List ℕ)) → IsAlike ks ls → below u ls n parts ≡ below u ks n parts
unfolding below
below-same u ks ls n parts h =
    ap (λ (o : Option Denoted). option_or o (nested_below u ls n (class_with u ls (joined (codes ".") parts)))) (known-same ks ls (joined (codes "/") (parts ++ n ∷ [])) h)
    ∙ ap (λ (o : Option Denoted). option_or (known_as ks (joined (codes "/") (parts ++ n ∷ []))) o) (nested-below-same u ks ls n (class_with u ls (joined (codes ".") parts)) h ∙ ap (nested_below u ks n) (with-same u ks ls (joined (codes ".") parts) h))

below-star-same : (u : unit.Unit) (ks ls : List ClassSummary) (n : List ℕ) (m : Import) → IsAlike ks ls → below_star u ls n m ≡ below_star u ks n m
below-star-same u ks ls n m h = ap (λ (o : Option Denoted). if m.star then o else None) (below-same u ks ls n m.parts h)

starred-same : (u : unit.Unit) (ks ls : List ClassSummary) (n : List ℕ) (ms : List Import) → IsAlike ks ls → starred u ls n ms ≡ starred u ks n ms
unfolding starred
starred-same u ks ls n [] h = refl
starred-same u ks ls n (m ∷ ms) h =
    ap (λ (o : Option Denoted). option_or o (starred u ls n ms)) (below-star-same u ks ls n m h)
    ∙ ap (λ (o : Option Denoted). option_or (below_star u ks n m) o) (starred-same u ks ls n ms h)

lang-same : (ks ls : List ClassSummary) (n : List ℕ) → IsAlike ks ls → of_java_lang ls n ≡ of_java_lang ks n
unfolding of_java_lang
lang-same ks ls n h = ap (λ (o : Option Denoted). if bytes_eq n (codes "Object") || bytes_eq n (codes "String") then Some (Other (codes "java/lang/" ++ n)) else o) (known-same ks ls (codes "java/lang/" ++ n) h)

four : (a b c d w x y z : Option Denoted) → a ≡ w → b ≡ x → c ≡ y → d ≡ z → option_or a (option_or b (option_or c d)) ≡ option_or w (option_or x (option_or y z))
four a b c d w x y z p q r s = cc

named-same : (u : unit.Unit) (ks ls : List ClassSummary) (n : List ℕ) → IsAlike ks ls → named_class u ls n ≡ named_class u ks n
unfolding named_class
named-same u ks ls n h =
    four (spelled_by u ls (imported n u.imports)) (known_as ls (in_package u n)) (starred u ls n u.imports) (of_java_lang ls n)
    (spelled_by u ks (imported n u.imports)) (known_as ks (in_package u n)) (starred u ks n u.imports) (of_java_lang ks n)
    (spelled-by-same u ks ls (imported n u.imports) h) (known-same ks ls (in_package u n) h) (starred-same u ks ls n u.imports h) (lang-same ks ls n h)

simple-same : (u : unit.Unit) (i : ℕ) (ks ls : List ClassSummary) (n : List ℕ) → IsAlike ks ls → simple_class u i ls n ≡ simple_class u i ks n
unfolding simple_class
simple-same u i ks ls n h = ap (λ (o : Option Denoted). option_or (own (own_class u i n)) o) (named-same u ks ls n h)

canonical-of-same : (u : unit.Unit) (ks ls : List ClassSummary) (class : Denoted) → IsAlike ks ls → canonical_of u ls class ≡ canonical_of u ks class
canonical-of-same u ks ls (Own i) h = refl
canonical-of-same u ks ls (Other n) h = canonical-same ks ls n h

member-same : (u : unit.Unit) (ks ls : List ClassSummary) (class : Denoted) (rest : List (List ℕ)) → IsAlike ks ls → member_class u ls class rest ≡ member_class u ks class rest
unfolding member_class
member-same u ks ls class rest h =
    ap (λ (o : Option Denoted). unwrap_or o (Other (internal_of u class ++ followed (codes "$") rest)))
    (with-same u ks ls (canonical_of u ls class ++ followed (codes ".") rest) h ∙ ap (λ (n : List ℕ). class_with u ks (n ++ followed (codes ".") rest)) (canonical-of-same u ks ls class h))

dotted-same : (u : unit.Unit) (ks ls : List ClassSummary) (o : Option Denoted) (rest parts : List (List ℕ)) → IsAlike ks ls → dotted_class u ls o rest parts ≡ dotted_class u ks o rest parts
dotted-same u ks ls None rest parts h = spelled-same u ks ls parts h
dotted-same u ks ls (Some class) rest parts h = member-same u ks ls class rest h

class-same : (u : unit.Unit) (i : ℕ) (ks ls : List ClassSummary) (parts : List (List ℕ)) → IsAlike ks ls → class_of_name u i ls parts ≡ class_of_name u i ks parts
unfolding class_of_name
class-same u i ks ls [] h = spelled-same u ks ls [] h
class-same u i ks ls (p ∷ []) h = ap (in_package_else u p) (simple-same u i ks ls p h)
class-same u i ks ls (p ∷ q ∷ ps) h =
    dotted-same u ks ls (simple_class u i ls p) (q ∷ ps) (p ∷ q ∷ ps) h
    ∙ ap (λ (o : Option Denoted). dotted_class u ks o (q ∷ ps) (p ∷ q ∷ ps)) (simple-same u i ks ls p h)

base-same : (u : unit.Unit) (i : ℕ) (ks ls : List ClassSummary) (parts : Option (List (List ℕ))) → IsAlike ks ls → base_of u i ls parts ≡ base_of u i ks parts
unfolding base_of
base-same u i ks ls None h = refl
base-same u i ks ls (Some parts) h = ap (λ (d : Denoted). unwrap_or (primitive_of parts) (Class (internal_of u d))) (class-same u i ks ls parts h)

end-same : (u : unit.Unit) (ks ls : List ClassSummary) (end : End) → IsAlike ks ls → erased_end u ls end ≡ erased_end u ks end
end-same u ks ls end h =
    let made : Base → Erased = λ b. record { dims = end.dims; base = b } in
    ap made (base-same u end.class ks ls end.parts h)

-- a type denotes the same
pub denoted-same : (u : unit.Unit) (i : ℕ) (m : Option ℕ) (type : TypeText) (ks ls : List ClassSummary) → IsAlike ks ls → denoted_type u i m type ls ≡ denoted_type u i m type ks
unfolding denoted_type
denoted-same u i m type ks ls h = end-same u ks ls (end_of (scopes_at u.classes i m) i type) h
