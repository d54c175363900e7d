-- The classes and the source text of a sample: all that differs is drawn by a linear congruential generator of 64 bits.
use Rattle.std.specs.Prelude.{ℕ, zero, suc, ◌+◌, ◌*◌, ◌/◌, ◌%◌, ◌^◌, List, [], ◌∷◌, ◌++◌, length, codes, decimal, Some}
use Rattle.class_shape.specs.declared.shapes.ClassShape.{ClassShape}
use Rattle.class_shape.specs.declared.shapes.MemberShape.{MemberShape}
use Rattle.workload.specs.declared.sample.Sample.{Sample}

-- What the generator keeps after one more draw, and which of so many things it draws then.
abbrev pub drawn : ℕ → ℕ
drawn x = (6364136223846793005 * x + 1442695040888963407) % 2 ^ 64

abbrev pub picked : ℕ → ℕ → ℕ
picked x count = (x / 2 ^ 33) % count

abbrev pub class_name : ℕ → List ℕ
class_name number = codes "sample/C" ++ decimal number

abbrev pub class_type : ℕ → List ℕ
class_type number = codes "L" ++ class_name number ++ codes ";"

abbrev pub before_types : List ℕ → List ℕ × ℕ → List ℕ × ℕ
before_types text p = (text ++ p.0, p.1)

-- So many types, one behind the other, and what the generator keeps after them.
unfoldable pub types_drawn : ℕ → ℕ → List ℕ × ℕ
types_drawn zero x = ([], x)
types_drawn (suc n) x = before_types (class_type (picked (drawn x) 200)) (types_drawn n (drawn x))

abbrev pub in_brackets : List ℕ × ℕ → List ℕ × ℕ
in_brackets p = (codes "(" ++ p.0 ++ codes ")", p.1)

-- The parameters of a descriptor: fewer than so many.
abbrev pub parameters : ℕ → ℕ → List ℕ × ℕ
parameters most x = in_brackets (types_drawn (picked (drawn x) most) (drawn x))

abbrev pub public_member : List ℕ → List ℕ → MemberShape
public_member name descriptor = record { flags = 1; name = Some name; descriptor = Some descriptor }

-- Up to two parameters.
abbrev pub constructor : List ℕ × ℕ → MemberShape × ℕ
constructor p = (public_member (codes "<init>") (p.0 ++ codes "V"), p.1)

-- Up to one parameter, and then the result.
abbrev pub method : List ℕ → List ℕ × ℕ → MemberShape × ℕ
method name p = (public_member name (p.0 ++ class_type (picked (drawn p.1) 200)), drawn p.1)

-- The super class is Object for the first class, and else a class before it.
abbrev pub parent : ℕ → ℕ → List ℕ × ℕ
parent zero x = (codes "java/lang/Object", x)
parent (suc n) x = (class_name (picked (drawn x) (suc n)), drawn x)

abbrev pub public_class : List ℕ → List ℕ → List MemberShape → ClassShape
public_class name super methods = record { minor = 0; major = 52; flags = 33; name = name; parent = Some super; interfaces = []; fields = []; methods = methods; inner = [] }

abbrev pub all_members : MemberShape × ℕ → List MemberShape × ℕ
all_members a =
    let b = method (codes "m0") (parameters 2 a.1) in
    let c = method (codes "m1") (parameters 2 b.1) in
    (a.0 ∷ b.0 ∷ c.0 ∷ [], c.1)

abbrev pub class_of : ℕ → List ℕ × ℕ → ClassShape × ℕ
class_of number p =
    let m = all_members (constructor (parameters 3 p.1)) in
    (public_class (class_name number) p.0 m.0, m.1)

abbrev pub before_classes : ClassShape × ℕ → (ℕ → List ClassShape × ℕ) → List ClassShape × ℕ
before_classes c more = (c.0 ∷ (more c.1).0, (more c.1).1)

-- So many classes from this number on.
unfoldable pub classes_drawn : ℕ → ℕ → ℕ → List ClassShape × ℕ
classes_drawn zero number x = ([], x)
classes_drawn (suc n) number x = before_classes (class_of number (parent number x)) (classes_drawn n (suc number))

abbrev pub text_before : ℕ → List ℕ
text_before goal = codes "package app; import sample.*; class Use { static void go(C0 a, C1 b) { C" ++ decimal goal ++ codes " r = "

abbrev pub sample_with : List ClassShape × ℕ → Sample
sample_with p =
    let before = text_before (picked (drawn p.1) 200) in
    record { classes = p.0; source = before ++ codes "} }"; place = length before }

-- The sample of a number.
abbrev pub sample_of : ℕ → Sample
sample_of n = sample_with (classes_drawn 200 0 n)
