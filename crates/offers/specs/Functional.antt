-- Functional interfaces, and what a lambda of one is (JLS 9.8).
use Rattle.std.specs.Prelude.{ℕ, Bool, ◌&&◌, ◌||◌, not, if◌then◌else◌, List, [], ◌∷◌, codes, bytes_eq, is_some, Option, Some, None}
use Rattle.std.specs.List.{list_any, list_all, filter, flat_map}
use Rattle.type_names.specs.declared.kinds.Base.{Base}
use Rattle.type_names.specs.declared.kinds.Base.TheVariants.{Int, Long}
use Rattle.type_names.specs.declared.kinds.Erased.{Erased}
use Rattle.type_names.specs.Descriptors.{outcome}
use Rattle.type_names.specs.Names.{object_name}
use Rattle.known_classes.specs.declared.summary.MethodSummary.{MethodSummary}
use Rattle.known_classes.specs.declared.summary.ClassSummary.{ClassSummary}
use Rattle.class_summary.specs.Flags.{has_flag}
use Rattle.known_classes.specs.Known.{class_named}
use Rattle.offers.specs.declared.member.Face.{Face}
use Rattle.offers.specs.Scenes.{Scene, of_class, at_or_below}
use Rattle.offers.specs.Spellings.{class_spelling}
use Rattle.offers.specs.Reach.{offered}
use Rattle.offers.specs.Omissions.{same_types}

-- An interface at or above a class.
abbrev pub is_interface : ClassSummary → Bool
is_interface c = has_flag c.flags 0x0200

abbrev pub is_face : Scene → ClassSummary → ClassSummary → Bool
is_face v c d = is_interface d && at_or_below v (of_class c.name) (of_class d.name)

unfoldable pub faces_above : Scene → ClassSummary → List ClassSummary
faces_above v c = filter (is_face v c) v.known

-- What stands above the class is known, but for Object.
abbrev pub is_there : Scene → ClassSummary → List ℕ → Bool
is_there v c name = (not (v.below (of_class c.name) (of_class name)) || bytes_eq name object_name) || is_some (class_named v.known name)

unfoldable pub is_whole : Scene → ClassSummary → Bool
is_whole v c = list_all (λ d. list_all (is_there v c) d.supers) v.known

-- The method has this name and these parameter types.
abbrev pub has_call : List ℕ → List Erased → MethodSummary → Bool
has_call name params m = bytes_eq name m.name && same_types params m.params

-- A method has a body for this one.
abbrev pub is_body : MethodSummary → MethodSummary → Bool
is_body m n = not (has_flag n.flags 0x0400 || has_flag n.flags 0x0008) && has_call m.name m.params n

-- A strict sub-interface of the owner, among these, has a body for its method.
abbrev pub is_giver : Scene → ClassSummary → MethodSummary → ClassSummary → Bool
is_giver v owner m d = v.below (of_class d.name) (of_class owner.name) && list_any (is_body m) d.methods

unfoldable pub is_given : Scene → List ClassSummary → ClassSummary → MethodSummary → Bool
is_given v faces owner m = list_any (is_giver v owner m) faces

abbrev pub of_base : Base → Erased
of_base b = record { dims = 0; base = b }

-- The methods of java/lang/Object that an interface may declare anew (JLS 9.8).
abbrev pub is_bare : MethodSummary → Bool
is_bare m =
    has_call (codes "hashCode") [] m || (has_call (codes "toString") [] m || (has_call (codes "getClass") [] m
    || (has_call (codes "notify") [] m || (has_call (codes "notifyAll") [] m || has_call (codes "wait") [] m))))

abbrev pub is_wait : MethodSummary → Bool
is_wait m = has_call (codes "wait") (of_base Long ∷ []) m || has_call (codes "wait") (of_base Long ∷ of_base Int ∷ []) m

unfoldable pub is_of_object : MethodSummary → Bool
is_of_object m = has_call (codes "equals") (of_class object_name ∷ []) m || (is_bare m || is_wait m)

-- The abstract methods of an interface that no body is given for, and that Object hasn't.
abbrev pub is_promise : Scene → List ClassSummary → ClassSummary → MethodSummary → Bool
is_promise v faces owner m = has_flag m.flags 0x0400 && not (is_given v faces owner m || is_of_object m)

abbrev pub promises : Scene → List ClassSummary → ClassSummary → List MethodSummary
promises v faces owner = filter (is_promise v faces owner) owner.methods

abbrev pub group : Scene → List ClassSummary → List MethodSummary
group v faces = flat_map (promises v faces) faces

-- The methods are one, by name and descriptor.
abbrev pub is_same_call : MethodSummary → MethodSummary → Bool
is_same_call m n = has_call m.name m.params n && bytes_eq (outcome m.result) (outcome n.result)

abbrev pub one_method : List MethodSummary → Option MethodSummary
one_method [] = None
one_method (m ∷ ms) = if list_all (is_same_call m) ms then Some m else None

-- The one method of a functional interface.
unfoldable pub method_in : Scene → ClassSummary → Option MethodSummary
method_in v c = if (is_interface c && is_some (class_spelling v c.name)) && is_whole v c then one_method (group v (faces_above v c)) else None

-- A functional interface with what its lambda takes and gives; it may give nothing.
abbrev pub face_of : List ℕ → MethodSummary → Face
face_of name m = record { name = name; params = m.params; result = m.result }

abbrev pub faces_by : List ℕ → Option MethodSummary → List Face
faces_by name None = []
faces_by name (Some m) = face_of name m ∷ []

-- The functional interfaces that are offered, in byte order of their names.
unfoldable pub faces : Scene → List Face
faces v = flat_map (λ c. faces_by c.name (method_in v c)) (offered v)
