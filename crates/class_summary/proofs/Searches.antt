-- What stands first, by loops over numbers, classes and imports.
use Rattle.std.proofs.Common.{◌≡◌, ◌∙◌, ap, sym, refl, ℕ, suc, ◌+◌, ◌<◌, ◌≤◌, true, false, List, [], ◌∷◌, length, drop, get_or, add-one, bytes_eq, Option, Some, None}
use Rattle.std.specs.Option.{option_or}
use Rattle.std.proofs.lemmas.List.{drop_all, drop_more}
use Rattle.java_units.specs.declared.types.SourceClass.{SourceClass}
use Rattle.java_units.specs.declared.types.Import.{Import}
use Rattle.java_units.specs.declared.types.Unit as unit
use Rattle.known_classes.specs.declared.summary.ClassSummary.{ClassSummary}
use Rattle.class_summary.specs.declared.rules.Denoted.{Denoted}
use Rattle.class_summary.specs.Sources.{name_at}
use Rattle.class_summary.specs.Names.{is_member, member_from, member_named, enclosing, below_star, starred}

member-hit : (i : ℕ) (o : Option ℕ) (name : List ℕ) (c : SourceClass) (cs : List SourceClass) → is_member o name c ≡ true → member_from i o name (c ∷ cs) ≡ Some i
unfolding member_from
member-hit i o name c cs e = rw e refl

member-on : (i : ℕ) (o : Option ℕ) (name : List ℕ) (c : SourceClass) (cs : List SourceClass) → is_member o name c ≡ false → member_from i o name (c ∷ cs) ≡ member_from (suc i) o name cs
unfolding member_from
member-on i o name c cs e = rw e refl

member-none : (i : ℕ) (o : Option ℕ) (name : List ℕ) → member_from i o name [] ≡ None
unfolding member_from
member-none i o name = refl

pub member_hit : (o : Option ℕ) (name : List ℕ) (cs : List SourceClass) (i : ℕ) (d : SourceClass) → i < length cs → is_member o name (get_or cs i d) ≡ true → member_from 0 o name cs ≡ member_from i o name (drop i cs) → Some i ≡ member_from 0 o name cs
member_hit o name cs i d l e h = sym (h ∙ (ap (member_from i o name) (drop_more cs i d l) ∙ member-hit i o name (get_or cs i d) (drop (i + 1) cs) e))

pub member_on : (o : Option ℕ) (name : List ℕ) (cs : List SourceClass) (i : ℕ) (d : SourceClass) → i < length cs → is_member o name (get_or cs i d) ≡ false → member_from 0 o name cs ≡ member_from i o name (drop i cs) → member_from 0 o name cs ≡ member_from (i + 1) o name (drop (i + 1) cs)
member_on o name cs i d l e h = h ∙ (ap (member_from i o name) (drop_more cs i d l) ∙ (member-on i o name (get_or cs i d) (drop (i + 1) cs) e ∙ ap (λ k. member_from k o name (drop (i + 1) cs)) (sym (add-one i))))

pub member_end : (o : Option ℕ) (name : List ℕ) (cs : List SourceClass) (i : ℕ) → length cs ≤ i → member_from 0 o name cs ≡ member_from i o name (drop i cs) → None ≡ member_from 0 o name cs
member_end o name cs i l h = sym (h ∙ (ap (member_from i o name) (drop_all i cs l) ∙ member-none i o name))

enclosing-self : (cs : List SourceClass) (name : List ℕ) (i : ℕ) (is : List ℕ) → bytes_eq name (name_at cs i) ≡ true → enclosing cs name (i ∷ is) ≡ Some i
unfolding enclosing
enclosing-self cs name i is e = rw e refl

enclosing-member : (cs : List SourceClass) (name : List ℕ) (i : ℕ) (is : List ℕ) → bytes_eq name (name_at cs i) ≡ false → enclosing cs name (i ∷ is) ≡ option_or (member_named (Some i) name cs) (enclosing cs name is)
unfolding enclosing
enclosing-member cs name i is e = rw e refl

enclosing-none : (cs : List SourceClass) (name : List ℕ) → enclosing cs name [] ≡ None
unfolding enclosing
enclosing-none cs name = refl

pub enclosing_self : (cs : List SourceClass) (name : List ℕ) (ns : List ℕ) (k : ℕ) → k < length ns → bytes_eq name (name_at cs (get_or ns k 0)) ≡ true → enclosing cs name ns ≡ enclosing cs name (drop k ns) → Some (get_or ns k 0) ≡ enclosing cs name ns
enclosing_self cs name ns k l e h = sym (h ∙ (ap (enclosing cs name) (drop_more ns k 0 l) ∙ enclosing-self cs name (get_or ns k 0) (drop (k + 1) ns) e))

pub enclosing_member : (cs : List SourceClass) (name : List ℕ) (ns : List ℕ) (k j : ℕ) → k < length ns → bytes_eq name (name_at cs (get_or ns k 0)) ≡ false → member_named (Some (get_or ns k 0)) name cs ≡ Some j → enclosing cs name ns ≡ enclosing cs name (drop k ns) → Some j ≡ enclosing cs name ns
enclosing_member cs name ns k j l e m h = sym (h ∙ (ap (enclosing cs name) (drop_more ns k 0 l) ∙ (enclosing-member cs name (get_or ns k 0) (drop (k + 1) ns) e ∙ ap (λ (o : Option ℕ). option_or o (enclosing cs name (drop (k + 1) ns))) m)))

pub enclosing_on : (cs : List SourceClass) (name : List ℕ) (ns : List ℕ) (k : ℕ) → k < length ns → bytes_eq name (name_at cs (get_or ns k 0)) ≡ false → member_named (Some (get_or ns k 0)) name cs ≡ None → enclosing cs name ns ≡ enclosing cs name (drop k ns) → enclosing cs name ns ≡ enclosing cs name (drop (k + 1) ns)
enclosing_on cs name ns k l e m h = h ∙ (ap (enclosing cs name) (drop_more ns k 0 l) ∙ (enclosing-member cs name (get_or ns k 0) (drop (k + 1) ns) e ∙ ap (λ (o : Option ℕ). option_or o (enclosing cs name (drop (k + 1) ns))) m))

pub enclosing_end : (cs : List SourceClass) (name : List ℕ) (ns : List ℕ) (k : ℕ) → length ns ≤ k → enclosing cs name ns ≡ enclosing cs name (drop k ns) → None ≡ enclosing cs name ns
enclosing_end cs name ns k l h = sym (h ∙ (ap (enclosing cs name) (drop_all k ns l) ∙ enclosing-none cs name))

star-cons : (u : unit.Unit) (known : List ClassSummary) (name : List ℕ) (m : Import) (ms : List Import) → starred u known name (m ∷ ms) ≡ option_or (below_star u known name m) (starred u known name ms)
unfolding starred
star-cons u known name m ms = refl

star-none : (u : unit.Unit) (known : List ClassSummary) (name : List ℕ) → starred u known name [] ≡ None
unfolding starred
star-none u known name = refl

pub star_hit : (u : unit.Unit) (known : List ClassSummary) (name : List ℕ) (ms : List Import) (i : ℕ) (d : Import) (o : Option Denoted) (x : Denoted) → i < length ms → o ≡ below_star u known name (get_or ms i d) → o ≡ Some x → starred u known name ms ≡ starred u known name (drop i ms) → Some x ≡ starred u known name ms
star_hit u known name ms i d o x l e s h = sym (h ∙ (ap (starred u known name) (drop_more ms i d l) ∙ (star-cons u known name (get_or ms i d) (drop (i + 1) ms) ∙ ap (λ (q : Option Denoted). option_or q (starred u known name (drop (i + 1) ms))) (sym e ∙ s))))

pub star_on : (u : unit.Unit) (known : List ClassSummary) (name : List ℕ) (ms : List Import) (i : ℕ) (d : Import) (o : Option Denoted) → i < length ms → o ≡ below_star u known name (get_or ms i d) → o ≡ None → starred u known name ms ≡ starred u known name (drop i ms) → starred u known name ms ≡ starred u known name (drop (i + 1) ms)
star_on u known name ms i d o l e s h = h ∙ (ap (starred u known name) (drop_more ms i d l) ∙ (star-cons u known name (get_or ms i d) (drop (i + 1) ms) ∙ ap (λ (q : Option Denoted). option_or q (starred u known name (drop (i + 1) ms))) (sym e ∙ s)))

pub star_end : (u : unit.Unit) (known : List ClassSummary) (name : List ℕ) (ms : List Import) (i : ℕ) → length ms ≤ i → starred u known name ms ≡ starred u known name (drop i ms) → None ≡ starred u known name ms
star_end u known name ms i l h = sym (h ∙ (ap (starred u known name) (drop_all i ms l) ∙ star-none u known name))
