-- Holes in small texts and the environments that they have, as the rules give them by hand.
use Rattle.std.specs.Prelude.{ℕ, Bool, true, false, ◌&&◌, ◌||◌, not, nat_le, List, [], ◌∷◌, codes, bytes_eq, Option, Some, None}
use Rattle.std.specs.List.{list_any, list_all}
use Rattle.type_names.specs.declared.kinds.Base.TheVariants.{Int}
use Rattle.type_names.specs.declared.kinds.Erased.{Erased}
use Rattle.type_names.specs.Descriptors.{field}
use Rattle.type_names.specs.Names.{object_name}
use Rattle.java_units.specs.declared.types.TypeText.{TypeText}
use Rattle.java_units.specs.declared.types.Param.{Param}
use Rattle.java_units.specs.declared.types.Import.{Import}
use Rattle.java_units.specs.declared.types.SourceField.{SourceField}
use Rattle.java_units.specs.declared.types.SourceMethod.{SourceMethod}
use Rattle.java_units.specs.declared.types.Unit as unit
use Rattle.java_units.specs.declared.types.ClassKind.TheVariants.{ClassDecl}
use Rattle.java_units.specs.Signs.{has, reserved}
use Rattle.known_classes.specs.declared.summary.FieldSummary.{FieldSummary}
use Rattle.known_classes.specs.declared.summary.MethodSummary.{MethodSummary}
use Rattle.known_classes.specs.declared.summary.ClassSummary.{ClassSummary}
use Rattle.known_classes.specs.Merging.{merged}
use Rattle.terms.specs.Weights.{usual_steps}
use Rattle.terms.specs.declared.parts.Arg.{Arg}
use Rattle.terms.specs.declared.parts.Arg.TheVariants.{Plain, Fun}
use Rattle.terms.specs.declared.parts.Decl.{Decl}
use Rattle.terms.specs.declared.parts.Form.{Form}
use Rattle.terms.specs.declared.parts.Form.TheVariants as form
use Rattle.terms.specs.declared.parts.Parts.{Parts}
use Rattle.java_bodies.specs.declared.site.HoleSite.{HoleSite}
use Rattle.decl_index.specs.Weighing.{usual}
use Rattle.offers.specs.Scenes.{Scene, of_class}

-- All names here are of ASCII letters, so this tells identifiers.
abbrev pub is_letter : ℕ → Bool
is_letter c = (nat_le 65 c && nat_le c 90) || (nat_le 97 c && nat_le c 122)

abbrev pub is_ascii_word : List ℕ → Bool
is_ascii_word text = list_all is_letter text && not (has reserved text)

-- The order of types as pairs of descriptors.
abbrev pub below_by : List (List ℕ × List ℕ) → Erased → Erased → Bool
below_by ps a b = list_any (λ p. bytes_eq p.0 (field a) && bytes_eq p.1 (field b)) ps

abbrev pub int : Erased
int = record { dims = 0; base = Int }

-- A type of one word in a text.
abbrev pub named : List ℕ → TypeText
named word = record { parts = word ∷ []; dims = 0 }

-- The unit of a package, imports and one class with one method, whose parameter is the one variable of the hole; a
-- constructor follows, as in each class that declares none.
abbrev pub method_in : List ℕ → ℕ → Param → SourceMethod
method_in name flags param = record { name = name; flags = flags; vars = []; params = param ∷ []; result = None; body = Some (0, 1) }

abbrev pub maker : SourceMethod
maker = record { name = codes "<init>"; flags = 0; vars = []; params = []; result = None; body = None }

abbrev pub unit_by : List (List ℕ) → List Import → List ℕ → List SourceField → SourceMethod → unit.Unit
unit_by home imports name fields method = record {
  «package» = home;
  imports = imports;
  classes = record {
    name = name;
    outer = None;
    kind = ClassDecl;
    flags = 0;
    vars = [];
    supers = [];
    names_parent = false;
    fields = fields;
    methods = method ∷ maker ∷ [];
  } ∷ [];
}

abbrev pub site_by : Bool → List ℕ → List ℕ → List ℕ → List ℕ → HoleSite
site_by static wanted name kind hidden = record {
  wanted = named wanted;
  class = 0;
  method = 0;
  is_static = static;
  locals = record { name = name; kind = named kind } ∷ [];
  hidden = hidden ∷ [];
  prefix = (1, 1);
}

-- A class that stands in no other.
abbrev pub class_by : List ℕ → ℕ → List (List ℕ) → List FieldSummary → List MethodSummary → ClassSummary
class_by name flags supers fields methods = record { name = name; flags = flags; nesting = None; supers = supers; fields = fields; methods = methods }

abbrev pub method_by : ℕ → List ℕ → List Erased → Option Erased → MethodSummary
method_by flags name params result = record { name = name; flags = flags; params = params; result = result }

-- Of the package q: the method, and the class of the text, with a constructor that any class of it may call.
abbrev pub home : List (List ℕ)
home = codes "q" ∷ []

abbrev pub made : ℕ → MethodSummary
made flags = method_by flags (codes "<init>") [] None

abbrev pub gives_int : ℕ → List Erased → MethodSummary
gives_int flags params = method_by flags (codes "m") params (Some int)

abbrev pub use_class : List Erased → ClassSummary
use_class params = class_by (codes "q/Use") 0 (object_name ∷ []) [] (method_by 8 (codes "go") params None ∷ made 0 ∷ [])

abbrev pub use_unit : List ℕ → List ℕ → unit.Unit
use_unit name kind = unit_by home [] (codes "Use") [] (method_in (codes "go") 8 (record { name = name; kind = named kind }))

-- No member is used anywhere.
abbrev pub never_used : List ℕ → ℕ
never_used key = 0

abbrev pub scene_by : unit.Unit → HoleSite → List ClassSummary → ClassSummary → List (List ℕ × List ℕ) → Scene
scene_by u site base class pairs = record {
  unit = u;
  site = site;
  known = merged base (class ∷ []);
  below = below_by pairs;
  usage = never_used;
  weights = usual;
  word = is_ascii_word;
}

-- Declarations without arguments, and the four literals by the numbers of `int`, `boolean` and `String`.
abbrev pub decl_by : ℕ → Bool → Form → List Arg → ℕ → Decl
decl_by weight crowded f args result = record { args = args; result = result; weight = weight; crowded = crowded; form = f }

abbrev pub literals_by : ℕ → ℕ → ℕ → List Decl → List Decl
literals_by i z s more =
    decl_by 200 false (form.Name (codes "0")) [] i ∷ decl_by 200 false (form.Name (codes "true")) [] z
    ∷ decl_by 200 false (form.Name (codes "false")) [] z ∷ decl_by 200 false (form.Name (34 ∷ 34 ∷ [])) [] s ∷ more

-- Two static methods of one class that differ in the types of their parameters.
unfoldable pub overloads : Scene
overloads = scene_by (use_unit (codes "s") (codes "String")) (site_by true (codes "int") (codes "s") (codes "String") (codes "r"))
    (class_by (codes "q/T") 1 (object_name ∷ []) [] (made 1 ∷ gives_int 9 (of_class object_name ∷ []) ∷ gives_int 9 (of_class (codes "java/lang/String") ∷ []) ∷ []) ∷ [])
    (use_class (of_class (codes "java/lang/String") ∷ []))
    ((codes "Ljava/lang/String;", codes "Ljava/lang/Object;") ∷ (codes "Lq/T;", codes "Ljava/lang/Object;") ∷ (codes "Lq/Use;", codes "Ljava/lang/Object;") ∷ [])

unfoldable pub of_overloads : Parts
of_overloads = record {
  types = codes "int" ∷ codes "Object" ∷ codes "String" ∷ codes "T" ∷ codes "Use" ∷ codes "void" ∷ codes "boolean" ∷ [];
  pairs = (2, 1) ∷ (3, 1) ∷ (4, 1) ∷ [];
  decls = decl_by 5 false (form.Name (codes "s")) [] 2 ∷ literals_by 0 6 2
      (decl_by 25 false (form.New (codes "T")) [] 3 ∷ decl_by 25 true (form.Call (codes "T.m")) (Plain 1 ∷ []) 0
      ∷ decl_by 25 true (form.Call (codes "T.m")) (Plain 2 ∷ []) 0 ∷ decl_by 20 false (form.Call (codes "Use.go")) (Plain 2 ∷ []) 5
      ∷ decl_by 20 false (form.New (codes "Use")) [] 4 ∷ []);
  goal = 0;
  limit = 45;
  depth = 1;
  binder = codes "p";
  steps = usual_steps;
}

-- A method that a class has again from the class above it.
unfoldable pub overriding : Scene
overriding = scene_by (use_unit (codes "b") (codes "B")) (site_by true (codes "int") (codes "b") (codes "B") (codes "r"))
    (class_by (codes "q/A") 1 (object_name ∷ []) [] (made 1 ∷ gives_int 1 [] ∷ []) ∷ class_by (codes "q/B") 1 (codes "q/A" ∷ []) [] (made 1 ∷ gives_int 1 [] ∷ []) ∷ [])
    (use_class (of_class (codes "q/B") ∷ []))
    ((codes "Lq/B;", codes "Lq/A;") ∷ [])

unfoldable pub of_overriding : Parts
of_overriding = record {
  types = codes "int" ∷ codes "String" ∷ codes "A" ∷ codes "B" ∷ codes "Use" ∷ codes "void" ∷ codes "boolean" ∷ [];
  pairs = (3, 2) ∷ [];
  decls = decl_by 5 false (form.Name (codes "b")) [] 3 ∷ literals_by 0 6 1
      (decl_by 25 true (form.New (codes "A")) [] 2 ∷ decl_by 25 false (form.Method (codes "m")) (Plain 2 ∷ []) 0
      ∷ decl_by 25 true (form.New (codes "B")) [] 3 ∷ decl_by 20 false (form.Call (codes "Use.go")) (Plain 3 ∷ []) 5
      ∷ decl_by 20 false (form.New (codes "Use")) [] 4 ∷ []);
  goal = 0;
  limit = 45;
  depth = 1;
  binder = codes "p";
  steps = usual_steps;
}

-- One method of two interfaces of a class; both are functional.
unfoldable pub two_promises : Scene
two_promises = scene_by (use_unit (codes "b") (codes "B")) (site_by true (codes "int") (codes "b") (codes "B") (codes "r"))
    (class_by (codes "q/B") 1 (object_name ∷ codes "q/I" ∷ codes "q/J" ∷ []) [] (made 1 ∷ [])
    ∷ class_by (codes "q/I") 1537 (object_name ∷ []) [] (gives_int 1025 [] ∷ []) ∷ class_by (codes "q/J") 1537 (object_name ∷ []) [] (gives_int 1025 [] ∷ []) ∷ [])
    (use_class (of_class (codes "q/B") ∷ []))
    ((codes "Lq/B;", codes "Lq/I;") ∷ (codes "Lq/B;", codes "Lq/J;") ∷ [])

unfoldable pub of_two_promises : Parts
of_two_promises = record {
  types = codes "int" ∷ codes "String" ∷ codes "B" ∷ codes "I" ∷ codes "J" ∷ codes "Use" ∷ codes "void" ∷ codes "boolean" ∷ [];
  pairs = (2, 3) ∷ (2, 4) ∷ [];
  decls = decl_by 5 false (form.Name (codes "b")) [] 2 ∷ literals_by 0 7 1
      (decl_by 25 false (form.New (codes "B")) [] 2 ∷ decl_by 25 true (form.Method (codes "m")) (Plain 3 ∷ []) 0
      ∷ decl_by 25 true (form.Method (codes "m")) (Plain 4 ∷ []) 0 ∷ decl_by 20 false (form.Call (codes "Use.go")) (Plain 2 ∷ []) 6
      ∷ decl_by 20 false (form.New (codes "Use")) [] 5
      ∷ decl_by 10 false (form.Lambda (codes "I")) (Fun [] 0 ∷ []) 3 ∷ decl_by 10 false (form.Lambda (codes "J")) (Fun [] 0 ∷ []) 4 ∷ []);
  goal = 0;
  limit = 45;
  depth = 1;
  binder = codes "p";
  steps = usual_steps;
}

-- Classes of a package that an import with star names; one is abstract.
abbrev pub reader : List ℕ
reader = codes "java/io/Reader"

abbrev pub made_of : List ℕ → MethodSummary
made_of name = method_by 1 (codes "<init>") (of_class name ∷ []) None

unfoldable pub readers : Scene
readers = scene_by
    (unit_by [] (record { parts = codes "java" ∷ codes "io" ∷ []; star = true } ∷ []) (codes "Demo") [] (method_in (codes "go") 8 (record { name = codes "name"; kind = named (codes "String") })))
    (site_by true (codes "Reader") (codes "name") (codes "String") (codes "r"))
    (class_by (codes "java/io/BufferedReader") 1 (reader ∷ []) [] (made_of reader ∷ [])
    ∷ class_by (codes "java/io/FileReader") 1 (reader ∷ []) [] (made_of (codes "java/lang/String") ∷ []) ∷ class_by reader 1025 (object_name ∷ []) [] [] ∷ [])
    (class_by (codes "Demo") 0 (object_name ∷ []) [] (method_by 8 (codes "go") (of_class (codes "java/lang/String") ∷ []) None ∷ made 0 ∷ []))
    ((codes "Ljava/io/BufferedReader;", codes "Ljava/io/Reader;") ∷ (codes "Ljava/io/FileReader;", codes "Ljava/io/Reader;") ∷ [])

unfoldable pub of_readers : Parts
of_readers = record {
  types = codes "int" ∷ codes "Demo" ∷ codes "BufferedReader" ∷ codes "FileReader" ∷ codes "Reader" ∷ codes "String" ∷ codes "void" ∷ codes "boolean" ∷ [];
  pairs = (2, 4) ∷ (3, 4) ∷ [];
  decls = decl_by 5 false (form.Name (codes "name")) [] 5 ∷ literals_by 0 7 5
      (decl_by 20 false (form.Call (codes "Demo.go")) (Plain 5 ∷ []) 6 ∷ decl_by 20 false (form.New (codes "Demo")) [] 1 ∷ decl_by 1000 false (form.New (codes "BufferedReader")) (Plain 4 ∷ []) 2
      ∷ decl_by 1000 false (form.New (codes "FileReader")) (Plain 5 ∷ []) 3 ∷ []);
  goal = 4;
  limit = 4000;
  depth = 1;
  binder = codes "p";
  steps = usual_steps;
}

-- A parameter that hides a field.
unfoldable pub hidden_field : Scene
hidden_field = scene_by (unit_by [] [] (codes "P") (record { name = codes "k"; flags = 0; kind = named (codes "int") } ∷ []) (method_in (codes "f") 0 (record { name = codes "k"; kind = named (codes "int") })))
    (site_by false (codes "int") (codes "k") (codes "int") (codes "z")) []
    (class_by (codes "P") 0 (object_name ∷ []) (record { name = codes "k"; flags = 0; kind = int } ∷ []) (method_by 0 (codes "f") (int ∷ []) None ∷ made 0 ∷ [])) []

unfoldable pub of_hidden_field : Parts
of_hidden_field = record {
  types = codes "int" ∷ codes "P" ∷ codes "String" ∷ codes "void" ∷ codes "boolean" ∷ [];
  pairs = [];
  decls = decl_by 5 false form.This [] 1 ∷ decl_by 5 false (form.Name (codes "k")) [] 0 ∷ literals_by 0 4 2
      (decl_by 20 false (form.Field (codes "k") true) (Plain 1 ∷ []) 0 ∷ decl_by 20 false (form.Method (codes "f")) (Plain 1 ∷ Plain 0 ∷ []) 3 ∷ decl_by 20 false (form.New (codes "P")) [] 1 ∷ []);
  goal = 0;
  limit = 30;
  depth = 1;
  binder = codes "p";
  steps = usual_steps;
}

-- A functional interface whose method has no result, and a method without result for its lambda to call.
unfoldable pub no_result : Scene
no_result = scene_by (use_unit (codes "k") (codes "int")) (site_by true (codes "K") (codes "k") (codes "int") (codes "c"))
    (class_by (codes "q/K") 1537 (object_name ∷ []) [] (method_by 1025 (codes "put") (int ∷ []) None ∷ []) ∷ [])
    (use_class (int ∷ [])) []

unfoldable pub of_no_result : Parts
of_no_result = record {
  types = codes "int" ∷ codes "String" ∷ codes "K" ∷ codes "Use" ∷ codes "void" ∷ codes "boolean" ∷ [];
  pairs = [];
  decls = decl_by 5 false (form.Name (codes "k")) [] 0 ∷ literals_by 0 5 1
      (decl_by 25 false (form.Method (codes "put")) (Plain 2 ∷ Plain 0 ∷ []) 4 ∷ decl_by 20 false (form.Call (codes "Use.go")) (Plain 0 ∷ []) 4
      ∷ decl_by 20 false (form.New (codes "Use")) [] 3 ∷ decl_by 10 false (form.Lambda (codes "K")) (Fun (0 ∷ []) 4 ∷ []) 2 ∷ []);
  goal = 2;
  limit = 50;
  depth = 1;
  binder = codes "p";
  steps = usual_steps;
}
