-- Texts with the same signs declare the same.
use Rattle.std.proofs.Common.{◌≡◌, ◌∙◌, ap, sym, subst, ℕ, suc, ◌+◌, List, [], ◌∷◌, ◌++◌, length, drop, map, refl, Option, Some, None}
use Rattle.std.proofs.lemmas.List.{map-append}
use Rattle.std.specs.List.{flat_map}
use Rattle.java_units.specs.declared.class.Around.{Around}
use Rattle.java_units.specs.declared.types.SourceClass.{SourceClass}
use Rattle.java_units.specs.Signs.{Sign, signs_of}
use Rattle.java_units.specs.Pieces.{pieces, piece_len}
use Rattle.java_units.specs.Units.{Body, none, plain, class, IsBody, is_class, class_of, members_of, package_of, import_in, size, listed}
use Rattle.java_units.specs.SameSigns.{unranged_class, OnlySignsCount}
use Rattle.java_units.proofs.PlainForms.{bare_of, drop-u}
use Rattle.java_units.proofs.PlainPieces.{piece_len-u, pieces-u, members-u, class-u, is_class-u, package-u, imports-u}
use Rattle.java_units.proofs.TextSigns.{same_spelling}
use Rattle.java_units.proofs.UnitLaws.{contrary, some_class}

-- what is the same without numbers is the same for signs that are
same : {A : Type 0} → (f : List Sign → A) → ((x : List Sign) → f (bare_of x) ≡ f x) → (ss ts : List Sign) → bare_of ss ≡ bare_of ts → f ss ≡ f ts
same f h ss ts e = sym (h ss) ∙ (ap f e ∙ h ts)

same_list : (f : List Sign → List Sign) → ((x : List Sign) → f (bare_of x) ≡ bare_of (f x)) → (ss ts : List Sign) → bare_of ss ≡ bare_of ts → bare_of (f ss) ≡ bare_of (f ts)
same_list f h ss ts e = sym (h ss) ∙ (ap f e ∙ h ts)

same_drop : (n k : ℕ) (ss ts : List Sign) → n ≡ k → bare_of ss ≡ bare_of ts → bare_of (drop n ss) ≡ bare_of (drop k ts)
same_drop n k ss ts n_is e = ap (λ m. bare_of (drop m ss)) n_is ∙ same_list (drop k) (drop-u k) ss ts e

same_rest : (ss ts : List Sign) → bare_of ss ≡ bare_of ts → bare_of (drop (piece_len ss) ss) ≡ bare_of (drop (piece_len ts) ts)
same_rest ss ts e = same_drop (piece_len ss) (piece_len ts) ss ts (same piece_len piece_len-u ss ts e) e

same_class : (around : Option Around) (n k : ℕ) (ss ts : List Sign) → bare_of ss ≡ bare_of ts → unranged_class (class_of around n ss) ≡ unranged_class (class_of around k ts)
same_class around n k ss ts e = sym (class-u around 0 n ss) ∙ (ap (λ x. unranged_class (class_of around 0 x)) e ∙ class-u around 0 k ts)

kind_kept : (c : SourceClass) → (unranged_class c).kind ≡ c.kind
unfolding unranged_class
kind_kept c = refl

no_signs : (ss ts : List Sign) → bare_of ss ≡ bare_of ts → ss ≡ [] → ts ≡ []
no_signs [] [] e z = refl
no_signs [] (t ∷ ts) e z = absurd (cc)
no_signs (s ∷ ss) ts e z = absurd (cc)

record Alike (b d : Body) : Type 0 where
  sizes : size b ≡ size d
  lists : map unranged_class (listed b) ≡ map unranged_class (listed d)

class_alike : (c e : SourceClass) (i j m n : Body) → unranged_class c ≡ unranged_class e → Alike i j → Alike m n → Alike (class c i m) (class e j n)
unfolding size listed
class_alike c e i j m n s p q = record {
  sizes = ap (λ x. suc (x + size m)) p.sizes ∙ ap (λ x. suc (size j + x)) q.sizes;
  lists = ap (λ x. x ∷ map unranged_class (listed i ++ listed m)) s
      ∙ ap (λ x. unranged_class e ∷ x) (map-append unranged_class (listed i) (listed m)
      ∙ (ap (λ x. x ++ map unranged_class (listed m)) p.lists
      ∙ (ap (λ x. map unranged_class (listed j) ++ x) q.lists
      ∙ sym (map-append unranged_class (listed j) (listed n)))));
}

same_bodies : (b d : Body) (n k next : ℕ) (around : Option Around) (ss ts : List Sign) → bare_of ss ≡ bare_of ts → IsBody n around next ss b → IsBody k around next ts d → Alike b d
unfolding IsBody size listed
same_bodies none none n k next around ss ts e p q = record { sizes = refl; lists = refl }
same_bodies none (plain m) n k next around ss ts e p q = absurd (q.0 (no_signs ss ts e p))
same_bodies none (class c i m) n k next around ss ts e p q = absurd (some_class ts q.0 (no_signs ss ts e p))
same_bodies (plain m) none n k next around ss ts e p q = absurd (p.0 (no_signs ts ss (sym e) q))
same_bodies (plain m) (plain o) n k next around ss ts e p q =
    let r = same_bodies m o n k next around (drop (piece_len ss) ss) (drop (piece_len ts) ts) (same_rest ss ts e) p.2 q.2 in
    record { sizes = r.sizes; lists = r.lists }
same_bodies (plain m) (class c i o) n k next around ss ts e p q = absurd (contrary ts q.0 (sym (same is_class is_class-u ss ts e) ∙ p.1))
same_bodies (class c i m) none n k next around ss ts e p q = absurd (some_class ss p.0 (no_signs ts ss (sym e) q))
same_bodies (class c i m) (plain o) n k next around ss ts e p q = absurd (contrary ss p.0 (same is_class is_class-u ss ts e ∙ q.1))
same_bodies (class c i m) (class d j o) n k next around ss ts e p q =
    let s : unranged_class c ≡ unranged_class d = ap unranged_class p.1 ∙ (same_class around n k ss ts e ∙ sym (ap unranged_class q.1)) in
    let kinds : d.kind ≡ c.kind = sym (kind_kept d) ∙ (ap (λ x. x.kind) (sym s) ∙ kind_kept c) in
    let q2 = subst (λ x. IsBody k (Some (record { number = next; kind = x })) (suc next) (members_of x ts) j) kinds q.2 in
    let inner = same_bodies i j n k (suc next) (Some (record { number = next; kind = c.kind })) (members_of c.kind ss) (members_of c.kind ts) (same_list (members_of c.kind) (members-u c.kind) ss ts e) p.2 q2 in
    let q3 = subst (λ x. IsBody k around (suc next + x) (drop (piece_len ts) ts) o) (sym inner.sizes) q.3 in
    let more = same_bodies m o n k (suc next + size i) around (drop (piece_len ss) ss) (drop (piece_len ts) ts) (same_rest ss ts e) p.3 q3 in
    class_alike c d i j m o s inner more

same_package : (ss ts : List Sign) → bare_of ss ≡ bare_of ts → package_of (pieces ss) ≡ package_of (pieces ts)
same_package ss ts e = same (λ x. package_of (pieces x)) (λ x. ap package_of (pieces-u x) ∙ package-u (pieces x)) ss ts e

same_imports : (ss ts : List Sign) → bare_of ss ≡ bare_of ts → flat_map import_in (pieces ss) ≡ flat_map import_in (pieces ts)
same_imports ss ts e = same (λ x. flat_map import_in (pieces x)) (λ x. ap (flat_map import_in) (pieces-u x) ∙ imports-u (pieces x)) ss ts e

pub only_signs : OnlySignsCount
only_signs text other tokens others u v g h x y e p q =
    let ss = signs_of text tokens in
    let ts = signs_of other others in
    let alike : bare_of ss ≡ bare_of ts = same_spelling text other tokens others g h x y e in
    let a = p.all_classes in
    let b = q.all_classes in
    let c = same_bodies a.body b.body (length tokens) (length others) 0 None ss ts alike a.is b.is in
    record {
      same_package = p.own_package ∙ (same_package ss ts alike ∙ sym q.own_package);
      same_imports = p.all_imports ∙ (same_imports ss ts alike ∙ sym q.all_imports);
      same_classes = ap (map unranged_class) a.are ∙ (c.lists ∙ sym (ap (map unranged_class) b.are));
    }
