-- What stands before the last word of a name, character by character.
use Rattle.std.proofs.Common.{◌≡◌, ◌∙◌, ap, sym, subst, refl, ℕ, ◌==◌, Bool, true, false, List, [], ◌∷◌, ◌++◌, Option, Some, None, codes, chars, append_assoc, ne_eqb}
use Rattle.std.proofs.lemmas.Bool.{false≢true}
use Rattle.terms.specs.Expr.{Expr, var, head, Args}
use Rattle.terms.specs.Typing.{type_in, fits}
use Rattle.terms.specs.Text.{is_this, is_this_form}
use Rattle.terms.specs.Faults.{is_well_formed}
use Rattle.terms.specs.declared.parts.Arg.{Arg}
use Rattle.terms.specs.declared.parts.Form.{Form}
use Rattle.terms.specs.declared.parts.Form.TheVariants as form
use Rattle.terms.specs.declared.parts.Parts.{Parts}
use Rattle.java_shapes.specs.Shape.{Shape, named, called, lambda, Before, nothing, behind, in_brackets, Shapes, no_shapes}
use Rattle.java_shapes.specs.ShapeOf.{path_of, shapes_in}
use Rattle.java_shapes.specs.Grammar.{NeedsBrackets}
use Rattle.java_shapes.specs.Readable.{IsContext}
use Rattle.java_shapes.proofs.Typed.{Opened, opened, formed}
use Rattle.java_shapes.proofs.WordFacts.{lacks-append}
use Rattle.java_shapes.proofs.Shaped.{named_is, named_called, named_lambda, looks_this}
use Rattle.java_shapes.proofs.ToldPairs.{no_more}
use Rattle.java_resolve.specs.declared.heads.Kind.{Kind}
use Rattle.java_resolve.specs.declared.heads.Kind.TheVariants as kind
use Rattle.java_resolve.specs.Found.{Row, Spot, pick, accepts, headed_in}
use Rattle.java_resolve.specs.Index.{with_key}
use Rattle.java_resolve.specs.Keys.{key}
use Rattle.java_resolve.specs.Reading.{Typed, IsRow, Headed, IsTellable, Site, first, after_this, after, this_shape, IsSite, IsDotless, Linked}
use Rattle.java_resolve.proofs.Algebra.{alike}
use Rattle.java_resolve.proofs.Heading.{headed_right}
use Rattle.java_resolve.proofs.Keys.{keys_rise}
use Rattle.java_resolve.proofs.TextFacts.{this_chars, this_utf8}
use Rattle.java_resolve.proofs.Naming.{Part, headed_of}
use Rattle.java_resolve.proofs.Rows.{alone_typed, typed_some}

-- one more character of the last word
path_longer : (c : Option (List ℕ)) (e : Shape) (w : List ℕ) (k : ℕ) → path_of c e w ++ k ∷ [] ≡ path_of c e (w ++ k ∷ [])
path_longer (Some d) e w k = refl
path_longer None (named b t) w k = append_assoc t (46 ∷ w) (k ∷ [])
path_longer None (called b t args) w k = refl
path_longer None (lambda s bs c e) w k = refl

site_longer : (site : Site) (b : Before) (t : List ℕ) (c : Option (List ℕ)) (e : Shape) (w : List ℕ) (k : ℕ) → IsSite site b t c e w → IsSite site b (t ++ k ∷ []) c e (w ++ k ∷ [])
site_longer first b t c e w k s = (s.0, ap (λ x. x ++ k ∷ []) s.1, s.2, s.3)
site_longer after_this b t c e w k s = (s.0, ap (λ x. x ++ k ∷ []) s.1 ∙ append_assoc (codes "this") (46 ∷ w) (k ∷ []), s.2, s.3)
site_longer after b t c e w k s = (s.0, sym (path_longer c e w k) ∙ ap (λ x. x ++ k ∷ []) s.1, s.2)

dotless_longer : (w : List ℕ) (k : ℕ) → IsDotless w → (k ≡ 46 → ⊥) → IsDotless (w ++ k ∷ [])
dotless_longer w k h n = lacks-append 46 w (k ∷ []) h (let e : (k == 46) ≡ false = ne_eqb k 46 n in rw e refl)

pub linked_char : (g : Parts) (ctx : List (List ℕ)) (b : Before) (t w : List ℕ) (spot : Spot) (fields methods : Kind) (k : ℕ) → (k ≡ 46 → ⊥) → Linked g ctx b t w spot fields methods → Linked g ctx b (t ++ k ∷ []) (w ++ k ∷ []) spot fields methods
linked_char g ctx b t w spot f m k n l = record {
  site = l.site;
  receiver = l.receiver;
  row = l.row;
  is = site_longer l.site b t spot.cast l.receiver w k l.is;
  dotless = dotless_longer w k l.dotless n;
  fields_are = l.fields_are;
  methods_are = l.methods_are;
}

-- a dot behind a name
pub linked_this : (g : Parts) (ctx : List (List ℕ)) (t : List ℕ) (row : Row) → t ≡ codes "this" → IsRow g ctx (named nothing t) row → Linked g ctx nothing (t ++ 46 ∷ []) [] (record { cast = None; row = row }) kind.HiddenField kind.Never
linked_this g ctx t row e r = record {
  site = after_this;
  receiver = named nothing t;
  row = r;
  is = (refl, ap (λ x. x ++ 46 ∷ []) e, refl, ap (named nothing) e);
  dotless = refl;
  fields_are = refl;
  methods_are = refl;
}

pub linked_name : (g : Parts) (ctx : List (List ℕ)) (b : Before) (t : List ℕ) (row : Row) → (b ≡ nothing → t ≡ codes "this" → ⊥) → IsRow g ctx (named b t) row → Linked g ctx b (t ++ 46 ∷ []) [] (record { cast = None; row = row }) kind.Field kind.Method
linked_name g ctx b t row n r = record {
  site = after;
  receiver = named b t;
  row = r;
  is = (refl, refl, λ c e. let q = named_is b nothing t (codes "this") e in n q.0 q.1);
  dotless = refl;
  fields_are = refl;
  methods_are = refl;
}

-- the beginning of a name
pub linked_first : (g : Parts) (ctx : List (List ℕ)) (row : Row) → IsRow g ctx this_shape row → Linked g ctx nothing [] [] (record { cast = None; row = row }) kind.ShownField kind.Method
linked_first g ctx row r = record {
  site = first;
  receiver = this_shape;
  row = r;
  is = (refl, refl, refl, refl);
  dotless = refl;
  fields_are = refl;
  methods_are = refl;
}

pub linked_behind : (g : Parts) (ctx : List (List ℕ)) (b : Before) (t : List ℕ) (args : Shapes) (row : Row) → IsRow g ctx (called b t args) row → Linked g ctx (behind b t args) [] [] (record { cast = None; row = row }) kind.Field kind.Method
linked_behind g ctx b t args row r = record {
  site = after;
  receiver = called b t args;
  row = r;
  is = (refl, refl, λ c e. named_called nothing b (codes "this") t args (sym e));
  dotless = refl;
  fields_are = refl;
  methods_are = refl;
}

bracket_site : (c : Option (List ℕ)) (e : Shape) → NeedsBrackets c e → IsSite after (in_brackets c e) [] c e []
bracket_site (Some k) e n = (refl, refl, λ c q. absurd cc)
bracket_site None (named b t) n = absurd n
bracket_site None (called b t args) n = absurd n
bracket_site None (lambda s bs c e) n = (refl, refl, λ q k. named_lambda nothing (codes "this") s bs c e (sym k))

pub linked_brackets : (g : Parts) (ctx : List (List ℕ)) (c : Option (List ℕ)) (e : Shape) (spot : Spot) → NeedsBrackets c e → spot.cast ≡ c → IsRow g ctx e spot.row → Linked g ctx (in_brackets c e) [] [] spot kind.Field kind.Method
linked_brackets g ctx c e spot n q r = record {
  site = after;
  receiver = e;
  row = r;
  is = subst (λ x. IsSite after (in_brackets c e) [] x e []) (sym q) (bracket_site c e n);
  dotless = refl;
  fields_are = refl;
  methods_are = refl;
}

-- `this`
this_form : (f : Form) → is_this_form f ≡ true → f ≡ form.This
this_form (form.Name s) e = absurd (false≢true e)
this_form form.This e = refl
this_form (form.Call s) e = absurd (false≢true e)
this_form (form.New s) e = absurd (false≢true e)
this_form (form.Method s) e = absurd (false≢true e)
this_form (form.Field s h) e = absurd (false≢true e)
this_form (form.Lambda s) e = absurd (false≢true e)

none_wanted : (ws : List Arg) → is_well_formed form.This ws ≡ true → ws ≡ []
none_wanted [] e = refl
none_wanted (x ∷ ws) e = absurd (false≢true e)

this_part : (g : Parts) → IsTellable g → (ctx : List (List ℕ)) (i : ℕ) (xs : Args) → (o : Opened g ctx i xs) → o.decl.form ≡ form.This → Part g ctx o.decl.crowded o.decl.form o.decl.args xs kind.Alone (codes "this") no_shapes
this_part g good ctx i xs o f =
    let none = none_wanted o.decl.args (subst (λ z. is_well_formed z o.decl.args ≡ true) f (formed g good.valid i o.decl o.declared)) in
    record {
      accepted = subst (λ z. accepts kind.Alone z ≡ true) (sym f) refl;
      word_is = ap (λ z. chars (key z)) f ∙ this_chars;
      read = ap (shapes_in g ctx o.decl.crowded xs) none ∙ no_more g ctx o.decl.crowded xs (subst (λ z. fits g ctx xs z ≡ true) none o.fit);
    }

variable_no_this : (g : Parts) → IsTellable g → (ctx : List (List ℕ)) → IsContext ctx → (p : ℕ → Bool) (n : ℕ) → Typed g ctx this_shape p (var n) → ⊥
variable_no_this g good ctx ok p n h = false≢true (looks_this g good.valid good.readable ctx ok (var n) (typed_some p (type_in g ctx (var n)) h.kind) h.shape)

this_headed : (g : Parts) → IsTellable g → (ctx : List (List ℕ)) → IsContext ctx → (p : ℕ → Bool) (x : Expr) → Typed g ctx this_shape p x → Headed g ctx kind.Alone (with_key 0 (codes "this") g.decls) no_shapes p x
this_headed g good ctx ok p (var n) h = absurd (variable_no_this g good ctx ok p n h)
this_headed g good ctx ok p (head i xs) h =
    let o = opened g ctx i xs (typed_some p (type_in g ctx (head i xs)) h.kind) in
    let t = looks_this g good.valid good.readable ctx ok (head i xs) (typed_some p (type_in g ctx (head i xs)) h.kind) h.shape in
    let f = this_form o.decl.form (subst (λ x. is_this x ≡ true) o.declared t) in
    headed_of g good ctx kind.Alone (codes "this") (codes "this") no_shapes p this_utf8 this_chars i xs o h.kind (this_part g good ctx i xs o f)

pub this_row : (g : Parts) → IsTellable g → (ctx : List (List ℕ)) → IsContext ctx → IsRow g ctx this_shape (headed_in g kind.Alone (with_key 0 (codes "this") g.decls) [])
this_row g good ctx ok = λ p.
    alike (Headed g ctx kind.Alone (with_key 0 (codes "this") g.decls) no_shapes p) (Typed g ctx this_shape p) (pick p (headed_in g kind.Alone (with_key 0 (codes "this") g.decls) []))
    (alone_typed g ctx (codes "this") (codes "this") this_chars p) (this_headed g good ctx ok p)
    (headed_right g good.valid ctx kind.Alone tt 0 (with_key 0 (codes "this") g.decls) (keys_rise 0 (codes "this") g.decls) no_shapes [] tt p)
