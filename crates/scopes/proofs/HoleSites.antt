-- The site of a hole in a text is one of the text's unit.
use Rattle.std.proofs.Common.{◌≡◌, ◌≤◌, ◌<◌, ℕ, ◌+◌, ◌*◌, Bool, true, false, if◌then◌else◌, List, [], ◌∷◌, length, drop, take, get_or, refl, sym, ap, subst, arith, slice_get, Option, Some, None}
use Rattle.std.proofs.lemmas.List.{length-drop, length-take}
use Rattle.std.proofs.lemmas.Option.{slice_get_within, get_or_from_slice_get}
use Rattle.java_tokens.specs.declared.token.Token.{Token}
use Rattle.java_tokens.specs.Tokens.{Tile}
use Rattle.java_units.specs.declared.types.TypeText.{TypeText}
use Rattle.java_units.specs.declared.types.SourceMethod.{SourceMethod}
use Rattle.java_units.specs.declared.types.SourceClass.{SourceClass}
use Rattle.java_units.specs.declared.types.Unit as unit
use Rattle.java_units.specs.Signs.{Sign, signs_of}
use Rattle.java_units.specs.Dimensions.{greatest, bound_dims, params_dims, method_dims, type_dims, HasFewDims}
use Rattle.java_units.proofs.FewDims.{signs_few, few_dims}
use Rattle.java_units.proofs.UnitLaws.{nested_unit}
use Rattle.class_summary.specs.Variables.{IsMethodOf, methods_of}
use Rattle.class_summary.proofs.Greatest.{greatest_at}
use Rattle.java_bodies.specs.Bodies.{BodySigns}
use Rattle.java_bodies.specs.Blocks.{is_in_blocks}
use Rattle.java_bodies.specs.Statements.{own_statement}
use Rattle.java_bodies.specs.Scopes.{variables_of, names_of}
use Rattle.java_bodies.specs.Wanted.{wanted}
use Rattle.java_bodies.specs.Places.{touched, is_free, prefix_start, passed}
use Rattle.java_bodies.specs.Methods.{signs_before, signs_from, method_at}
use Rattle.java_bodies.specs.Sites.{body_signs, sighted, sight_in, is_static, site_by, in_body, in_method, in_class, in_classes, hole_behind, hole_from, hole_of}
use Rattle.java_bodies.specs.declared.methods.MethodPlace.{MethodPlace}
use Rattle.java_bodies.specs.declared.names.Names.{Names}
use Rattle.java_bodies.specs.declared.site.Local.{Local}
use Rattle.java_bodies.specs.declared.site.HoleSite.{HoleSite}
use Rattle.offers.specs.Sites.{IsSiteOf}
use Rattle.scopes.specs.Holes.{IsHoleIn}
use Rattle.scopes.proofs.HoleTypes.{locals_dims, locals_few, wanted_few}

drop_short : (k n : ℕ) (ss : List Sign) → length ss ≤ n → length (drop k ss) ≤ n
drop_short k n ss l = omega (arith, length-drop k ss, l)

take_short : (k n : ℕ) (ss : List Sign) → length ss ≤ n → length (take k ss) ≤ n
take_short k n ss l = omega (arith, length-take k ss, l)

body_short : (n gone : ℕ) (ss : List Sign) (number : ℕ) → length ss ≤ n → length (body_signs gone ss number).before ≤ n
unfolding body_signs signs_from
body_short n gone ss number l =
    take_short (signs_before gone (drop 1 (drop (signs_before number ss) ss))) n (drop 1 (drop (signs_before number ss) ss))
    (drop_short 1 n (drop (signs_before number ss) ss) (drop_short (signs_before number ss) n ss l))

own_short : (n : ℕ) (ss : List Sign) → length ss ≤ n → length (own_statement ss) ≤ n
unfolding own_statement
own_short n ss l = drop_short _ n ss l

-- A site at a method, with few dimensions.
record IsAt (m class method : ℕ) (s : HoleSite) : Type 0 where
  pub class_is : s.class ≡ class
  pub method_is : s.method ≡ method
  pub wanted : s.wanted.dims ≤ m
  pub locals : locals_dims s.locals ≤ m

site_sighted : (m : ℕ) (at : MethodPlace) (static : Bool) (prefix : ℕ × ℕ) (n : Names) (o : Option TypeText) → locals_dims n.locals ≤ m → bound_dims o ≤ m → (s : HoleSite) → site_by at static prefix (sighted n o) ≡ Some s → IsAt m at.class at.method s
site_sighted m at static prefix n None l h s e = absurd cc
site_sighted m at static prefix n (Some t) l h s e =
    let r : HoleSite = record { wanted = t; class = at.class; method = at.method; is_static = static; locals = n.locals; hidden = n.hidden; prefix = prefix } in
    let q : r ≡ s = cc in
    subst (IsAt m at.class at.method) q (record { class_is = refl; method_is = refl; wanted = h; locals = l })

site_picked : (m : ℕ) (at : MethodPlace) (static : Bool) (prefix : ℕ × ℕ) (b : Bool) (n : Names) (o : Option TypeText) → locals_dims n.locals ≤ m → bound_dims o ≤ m → (s : HoleSite) → site_by at static prefix (if b then sighted n o else None) ≡ Some s → IsAt m at.class at.method s
site_picked m at static prefix true n o l h s e = site_sighted m at static prefix n o l h s e
site_picked m at static prefix false n o l h s e = absurd cc

site_at : (n m : ℕ) → 4 * n ≤ 3 * m → (at : MethodPlace) (static : Bool) (prefix : ℕ × ℕ) (c : SourceClass) → type_dims c ≤ m → (f : SourceMethod) → method_dims f ≤ m → (b : BodySigns) → length b.before ≤ n → (s : HoleSite) → site_by at static prefix (sight_in c f b) ≡ Some s → IsAt m at.class at.method s
unfolding sight_in
site_at n m e at static prefix c h f k b l s q =
    let names = names_of (variables_of f.params b) in
    let p : params_dims f.params ≤ m = omega (arith, k) in
    let g = locals_few n m e f.params p b l in
    site_picked m at static prefix (is_in_blocks b.before) names (wanted (own_statement b.before) c f names) g (wanted_few n m e (own_statement b.before) (own_short n b.before l) c h f k names g) s q

-- A site of these classes, with few dimensions.
record IsIn (m : ℕ) (cs : List SourceClass) (s : HoleSite) : Type 0 where
  pub class : s.class < length cs
  pub method : IsMethodOf cs s.class (Some s.method)
  pub wanted : s.wanted.dims ≤ m
  pub locals : locals_dims s.locals ≤ m

method_dims_in : (c : SourceClass) (m i : ℕ) (f : SourceMethod) → type_dims c ≤ m → slice_get c.methods i ≡ Some f → method_dims f ≤ m
method_dims_in c m i f h e =
    let l = slice_get_within c.methods i f e in
    let g = greatest_at method_dims c.methods i f l in
    let q : get_or c.methods i f ≡ f = get_or_from_slice_get c.methods i f f e in
    omega (arith, h, g, ap method_dims q)

class_dims_in : (cs : List SourceClass) (m i : ℕ) (c : SourceClass) → greatest type_dims cs ≤ m → slice_get cs i ≡ Some c → type_dims c ≤ m
class_dims_in cs m i c h e =
    let l = slice_get_within cs i c e in
    let g = greatest_at type_dims cs i c l in
    let q : get_or cs i c ≡ c = get_or_from_slice_get cs i c c e in
    omega (arith, h, g, ap type_dims q)

at_in : (m : ℕ) (cs : List SourceClass) (at : MethodPlace) (c : SourceClass) (f : SourceMethod) → slice_get cs at.class ≡ Some c → slice_get c.methods at.method ≡ Some f → (s : HoleSite) → IsAt m at.class at.method s → IsIn m cs s
at_in m cs at c f e g s h =
    let l = slice_get_within cs at.class c e in
    let k = slice_get_within c.methods at.method f g in
    let p : IsMethodOf cs at.class (Some at.method) = subst (λ (o : Option SourceClass). at.method < length (methods_of o)) (sym e) k in
    record {
      class = omega (arith, h.class_is, l);
      method = subst (λ (i : ℕ). IsMethodOf cs i (Some s.method)) (sym h.class_is) (subst (λ (i : ℕ). IsMethodOf cs at.class (Some i)) (sym h.method_is) p);
      wanted = h.wanted;
      locals = h.locals;
    }

body_in : (n m : ℕ) → 4 * n ≤ 3 * m → (gone : ℕ) (ss : List Sign) → length ss ≤ n → (prefix : ℕ × ℕ) (at : MethodPlace) (c : SourceClass) → type_dims c ≤ m → (f : SourceMethod) → method_dims f ≤ m → (o : Option (ℕ × ℕ)) (s : HoleSite) → in_body gone ss prefix at c f o ≡ Some s → IsAt m at.class at.method s
body_in n m e gone ss l prefix at c h f k None s q = absurd cc
body_in n m e gone ss l prefix at c h f k (Some r) s q = site_at n m e at (is_static f.flags) prefix c h f k (body_signs gone ss r.0) (body_short n gone ss r.0 l) s q

method_in : (n m : ℕ) → 4 * n ≤ 3 * m → (gone : ℕ) (ss : List Sign) → length ss ≤ n → (prefix : ℕ × ℕ) (cs : List SourceClass) (at : MethodPlace) (c : SourceClass) → slice_get cs at.class ≡ Some c → type_dims c ≤ m → (o : Option SourceMethod) → slice_get c.methods at.method ≡ o → (s : HoleSite) → in_method gone ss prefix at c o ≡ Some s → IsIn m cs s
method_in n m e gone ss l prefix cs at c g h None k s q = absurd cc
method_in n m e gone ss l prefix cs at c g h (Some f) k s q = at_in m cs at c f g k s (body_in n m e gone ss l prefix at c h f (method_dims_in c m at.method f h k) f.body s q)

class_in : (n m : ℕ) → 4 * n ≤ 3 * m → (gone : ℕ) (ss : List Sign) → length ss ≤ n → (prefix : ℕ × ℕ) (cs : List SourceClass) → greatest type_dims cs ≤ m → (at : MethodPlace) (o : Option SourceClass) → slice_get cs at.class ≡ o → (s : HoleSite) → in_class gone ss prefix at o ≡ Some s → IsIn m cs s
class_in n m e gone ss l prefix cs h at None k s q = absurd cc
class_in n m e gone ss l prefix cs h at (Some c) k s q = method_in n m e gone ss l prefix cs at c k (class_dims_in cs m at.class c h k) (slice_get c.methods at.method) refl s q

classes_in : (n m : ℕ) → 4 * n ≤ 3 * m → (gone : ℕ) (ss : List Sign) → length ss ≤ n → (prefix : ℕ × ℕ) (cs : List SourceClass) → greatest type_dims cs ≤ m → (o : Option MethodPlace) (s : HoleSite) → in_classes gone ss prefix cs o ≡ Some s → IsIn m cs s
classes_in n m e gone ss l prefix cs h None s q = absurd cc
classes_in n m e gone ss l prefix cs h (Some at) s q = class_in n m e gone ss l prefix cs h at (slice_get cs at.class) refl s q

behind_in : (n m : ℕ) → 4 * n ≤ 3 * m → (gone count : ℕ) (ss : List Sign) → length ss ≤ n → (prefix : ℕ × ℕ) (cs : List SourceClass) → greatest type_dims cs ≤ m → (s : HoleSite) → hole_behind gone count ss prefix cs ≡ Some s → IsIn m cs s
unfolding hole_behind
behind_in n m e gone count ss l prefix cs h s q = classes_in n m e gone ss l prefix cs h (method_at gone count ss cs) s q

free_only : (b : Bool) (o : Option HoleSite) (s : HoleSite) → (if b then o else None) ≡ Some s → o ≡ Some s
free_only true o s e = e
free_only false o s e = absurd cc

hole_in : (n m : ℕ) → 4 * n ≤ 3 * m → (text : List ℕ) (tokens : List Token) (u : unit.Unit) (place : ℕ) → length (signs_of text tokens) ≤ n → greatest type_dims u.classes ≤ m → (s : HoleSite) → hole_of text tokens u place ≡ Some s → IsIn m u.classes s
unfolding hole_of
hole_in n m e text tokens u place l h s q =
    let start = prefix_start place (touched tokens place) in
    behind_in n m e (passed tokens start) (length tokens) (signs_of text tokens) l (start, place) u.classes h s
    (free_only (is_free text place (touched tokens place)) (hole_from text tokens u start place) s q)

tile_length : (ts : List Token) (at end : ℕ) → Tile at end ts → at + length ts ≤ end
tile_length [] at end h = omega (arith, h)
tile_length (t ∷ ts) at end h = omega (arith, h.1, tile_length ts t.end end h.2)

pub hole_site : (u : unit.Unit) (s : HoleSite) → IsHoleIn u s → IsSiteOf u s
hole_site u s h =
    let n = length h.tokens in
    let d : HasFewDims h.text h.tokens u.classes = few_dims h.text h.tokens u h.is_unit in
    let b : n ≤ 16777216 = omega (arith, tile_length h.tokens 0 (length h.text) h.tile, h.short) in
    let e : 4 * n ≤ 3 * (2 * n) = omega arith in
    let g : greatest type_dims u.classes ≤ 2 * n = omega (arith, d.few) in
    let i : IsIn (2 * n) u.classes s = hole_in n (2 * n) e h.text h.tokens u h.place (signs_few h.text h.tokens) g s h.is_site in
    record {
      nested = nested_unit h.text h.tokens u h.is_unit;
      class = i.class;
      method = i.method;
      types = d.fits h.short h.tile;
      wanted = omega (arith, i.wanted, d.bounds, b);
      locals = λ k l r. omega (arith, greatest_at (λ (v : Local). v.kind.dims) s.locals k l r, i.locals, d.bounds, b);
    }
