-- The declarations of a hole's environment.
use Rattle.std.specs.Prelude.{ℕ, ◌+◌, ◌/◌, Bool, true, false, if◌then◌else◌, List, [], ◌∷◌, ◌++◌, map, codes, bytes_eq, unwrap_or}
use Rattle.type_names.specs.declared.kinds.Base.TheVariants.{Int, Boolean}
use Rattle.type_names.specs.declared.kinds.Erased.{Erased}
use Rattle.terms.specs.declared.parts.Arg.TheVariants.{Plain, Fun}
use Rattle.terms.specs.declared.parts.Decl.{Decl}
use Rattle.terms.specs.declared.parts.Form.{Form}
use Rattle.terms.specs.declared.parts.Form.TheVariants as form
use Rattle.offers.specs.Scenes.{Scene, is_among, edited, package_here, package_of, of_class, denoted}
use Rattle.offers.specs.Spellings.{class_spelling}
use Rattle.offers.specs.declared.member.Kind.{Kind}
use Rattle.offers.specs.declared.member.Kind.TheVariants as kind
use Rattle.offers.specs.declared.member.Member.{Member}
use Rattle.offers.specs.Candidates.{is_static, value, key}
use Rattle.offers.specs.Omissions.{after_five, is_crowded, owner_text, static_text, scope_names}
use Rattle.offers.specs.declared.member.Face.{Face}
use Rattle.offers.specs.Functional.{of_base}
use Rattle.offers.specs.Types.{string_type}
use Rattle.scopes.specs.Kinds.{Kinds, number_in, type_number}

-- Weights of members: of the edited class, of its package, and of others by their usage.
unfoldable pub weight_of : Scene → Member → ℕ
weight_of v m =
    if bytes_eq m.owner (edited v) then v.weights.own
    else if bytes_eq (package_of m.owner) (package_here v) then v.weights.«package»
    else v.weights.far + v.weights.span / (1 + v.usage (key m))

-- The table of forms and arguments: a member by its kind, static or not.
abbrev pub form_by : Scene → Member → Kind → Bool → Form
form_by v m kind.Field true = form.Name (static_text v m)
form_by v m kind.Field false = form.Field m.name (is_among (scope_names v) m.name)
form_by v m kind.Method true = form.Call (static_text v m)
form_by v m kind.Method false = form.Method m.name
form_by v m kind.Constructor static = form.New (owner_text v m)

abbrev pub wants_by : Member → Kind → Bool → List Erased
wants_by m kind.Field true = []
wants_by m kind.Field false = of_class m.owner ∷ []
wants_by m kind.Method true = m.params
wants_by m kind.Method false = of_class m.owner ∷ m.params
wants_by m kind.Constructor static = m.params

unfoldable pub member_decl : Scene → Kinds → List Member → Member → Decl
member_decl v ks ms m = record {
  args = map (λ t. Plain (type_number ks t)) (wants_by m m.kind (is_static m));
  result = number_in ks (value m);
  weight = weight_of v m;
  crowded = is_crowded v ks.types ms m;
  form = form_by v m m.kind (is_static m);
}

abbrev pub simple_decl : Kinds → Form → Erased → ℕ → Decl
simple_decl ks f t weight = record { args = []; result = type_number ks t; weight = weight; crowded = false; form = f }

unfoldable pub face_decl : Scene → Kinds → Face → Decl
face_decl v ks f = record {
  args = Fun (map (type_number ks) f.params) (number_in ks f.result) ∷ [];
  result = type_number ks (of_class f.name);
  weight = v.weights.lambda;
  crowded = false;
  form = form.Lambda (unwrap_or (class_spelling v f.name) []);
}

abbrev pub string_literal : Scene → Kinds → List Decl
string_literal v ks = simple_decl ks (form.Name (34 ∷ 34 ∷ [])) string_type v.weights.literal ∷ []

abbrev pub literals : Scene → Kinds → List Decl
literals v ks =
    simple_decl ks (form.Name (codes "0")) (of_base Int) v.weights.literal ∷ simple_decl ks (form.Name (codes "true")) (of_base Boolean) v.weights.literal
    ∷ simple_decl ks (form.Name (codes "false")) (of_base Boolean) v.weights.literal ∷ string_literal v ks

-- `this`, variables and literals.
abbrev pub site_decls : Scene → Kinds → List Decl
site_decls v ks =
    (if v.site.is_static then [] else simple_decl ks form.This (of_class (edited v)) v.weights.local ∷ [])
    ++ map (λ l. simple_decl ks (form.Name l.name) (denoted v l.kind) v.weights.local) v.site.locals
    ++ literals v ks

-- The declarations in order.
unfoldable pub decls_of : Scene → Kinds → List Member → List Face → List Decl
decls_of v ks ms fs =
    site_decls v ks
    ++ map (member_decl v ks ms) (after_five v ks.types ms)
    ++ map (face_decl v ks) fs
