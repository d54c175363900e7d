-- Links and names as the code makes them.
use Rattle.std.proofs.Common.{◌≡◌, ◌∙◌, ap, sym, subst, ℕ, ◌&&◌, Bool, true, false, List, [], ◌∷◌, ◌++◌, Option, None, codes, chars, append-nil}
use Rattle.std.proofs.lemmas.Bool.{false≢true}
use Rattle.std.proofs.lemmas.Str.{chars-nil}
use Rattle.terms.specs.declared.parts.Parts.{Parts}
use Rattle.java_units.specs.Signs.{has}
use Rattle.java_shapes.specs.Shape.{Shape, named, called, Before, nothing, behind, in_brackets, Shapes}
use Rattle.java_shapes.specs.Grammar.{NeedsBrackets}
use Rattle.java_shapes.proofs.Shaped.{has_one}
use Rattle.java_resolve.specs.declared.heads.Kind.TheVariants as kind
use Rattle.java_resolve.specs.declared.found.Place.{Place}
use Rattle.java_resolve.specs.declared.links.Link.{Link}
use Rattle.java_resolve.specs.declared.links.Name.{Name}
use Rattle.java_resolve.specs.declared.readings.Start.{Start}
use Rattle.java_resolve.specs.declared.readings.Start.TheVariants as start
use Rattle.java_resolve.specs.Found.{Row}
use Rattle.java_resolve.specs.Trees.{place_view}
use Rattle.java_resolve.specs.Reading.{IsRow, Linked}
use Rattle.java_resolve.specs.Naming.{IsBare, IsLink, IsNamed, IsStart}
use Rattle.java_resolve.proofs.Heading.{has_same}
use Rattle.java_resolve.proofs.Linking.{linked_char, linked_this, linked_name, linked_behind, linked_brackets}

-- a receiver's link
pub link_as : (g : Parts) (ctx : List (List ℕ)) (b : Before) (t w : List ℕ) (l : Link) (p : Place) → l.place ≡ p → l.fields ≡ kind.Field → l.methods ≡ kind.Method → Linked g ctx b t w (place_view p) kind.Field kind.Method → IsLink g ctx b t w l
link_as g ctx b t w l p e f m h =
    subst (λ x. Linked g ctx b t w (place_view x) l.fields l.methods) (sym e)
    (subst (λ x. Linked g ctx b t w (place_view p) x l.methods) (sym f)
    (subst (λ x. Linked g ctx b t w (place_view p) kind.Field x) (sym m) h))

-- a dot behind a name
pub this_link : (g : Parts) (ctx : List (List ℕ)) (b : Before) (t : List ℕ) (row : Row) (bare r : Bool) → r ≡ true → r ≡ (bare && has (codes "this" ∷ []) t) → IsBare bare b → IsRow g ctx (named b t) row → Linked g ctx b (t ++ 46 ∷ []) [] (record { cast = None; row = row }) kind.HiddenField kind.Never
this_link g ctx b t row true r y e h k =
    subst (λ z. Linked g ctx z (t ++ 46 ∷ []) [] (record { cast = None; row = row }) kind.HiddenField kind.Never) (sym h)
    (linked_this g ctx t row (sym (has_one (codes "this") t (sym e ∙ y))) (subst (λ z. IsRow g ctx (named z t) row) h k))
this_link g ctx b t row false r y e h k = absurd (false≢true (sym e ∙ y))

no_this : (b : Before) (t : List ℕ) (bare r : Bool) → r ≡ false → r ≡ (bare && has (codes "this" ∷ []) t) → IsBare bare b → b ≡ nothing → t ≡ codes "this" → ⊥
no_this b t true r n e h q s = false≢true (sym n ∙ e ∙ ap (has (codes "this" ∷ [])) s ∙ has_same (codes "this"))
no_this b t false r n e h q s = h.0 q

pub other_link : (g : Parts) (ctx : List (List ℕ)) (b : Before) (t : List ℕ) (row : Row) (bare r : Bool) → r ≡ false → r ≡ (bare && has (codes "this" ∷ []) t) → IsBare bare b → IsRow g ctx (named b t) row → Linked g ctx b (t ++ 46 ∷ []) [] (record { cast = None; row = row }) kind.Field kind.Method
other_link g ctx b t row bare r n e h k = linked_name g ctx b t row (no_this b t bare r n e h) k

-- names
pub named_as : (g : Parts) (ctx : List (List ℕ)) (b : Before) (n : Name) (l : Link) (t w : List ℕ) → n.link ≡ l → n.text ≡ t → n.word ≡ w → IsLink g ctx b t w l → IsNamed g ctx b n
named_as g ctx b n l t w e f k h = subst (λ x. IsLink g ctx b n.text n.word x) (sym e) (subst (λ x. IsLink g ctx b x n.word l) (sym f) (subst (λ x. IsLink g ctx b t x l) (sym k) h))

pub linked_as : (g : Parts) (ctx : List (List ℕ)) (b : Before) (l : Link) (t u w v : List ℕ) → u ≡ t → v ≡ w → IsLink g ctx b t w l → IsLink g ctx b u v l
linked_as g ctx b l t u w v e f h = subst (λ x. IsLink g ctx b x v l) (sym e) (subst (λ x. IsLink g ctx b t x l) (sym f) h)

pub link_char : (g : Parts) (ctx : List (List ℕ)) (b : Before) (l : Link) (t u w v : List ℕ) (k : ℕ) → u ≡ t ++ k ∷ [] → v ≡ w ++ k ∷ [] → (k ≡ 46 → ⊥) → IsLink g ctx b t w l → IsLink g ctx b u v l
link_char g ctx b l t u w v k e f n h = linked_as g ctx b l (t ++ k ∷ []) u (w ++ k ∷ []) v e f (linked_char g ctx b t w (place_view l.place) l.fields l.methods k n h)

-- the whole text of a name
pub text_all : (new rest all : List ℕ) → rest ≡ [] → new ++ chars rest ≡ all → new ≡ all
text_all new rest all e h = sym (append-nil new) ∙ ap (λ z. new ++ z) (sym (ap chars e ∙ chars-nil)) ∙ h

-- what stands before the first word of a name
no_behind : (b : Before) (t : List ℕ) (args : Shapes) → IsBare false (behind b t args)
no_behind b t args = ((λ e. absurd cc), (λ e. absurd cc))

no_brackets : (c : Option (List ℕ)) (e : Shape) → IsBare false (in_brackets c e)
no_brackets c e = ((λ q. absurd cc), (λ q. absurd cc))

pub behind_start : (g : Parts) (ctx : List (List ℕ)) (x b : Before) (t : List ℕ) (args : Shapes) (p : Place) (l : Link) → x ≡ behind b t args → p.cast ≡ None → IsRow g ctx (called b t args) (place_view p).row → l.place ≡ p → l.fields ≡ kind.Field → l.methods ≡ kind.Method → IsStart g ctx x (start.Behind l)
behind_start g ctx x b t args p l e c r q f m =
    subst (λ z. IsStart g ctx z (start.Behind l)) (sym e)
    (no_behind b t args, link_as g ctx (behind b t args) [] [] l p q f m (subst (λ z. Linked g ctx (behind b t args) [] [] (record { cast = z; row = (place_view p).row }) kind.Field kind.Method) (sym c) (linked_behind g ctx b t args (place_view p).row r)))

pub brackets_start : (g : Parts) (ctx : List (List ℕ)) (x : Before) (c : Option (List ℕ)) (s : Shape) (p : Place) (l : Link) → x ≡ in_brackets c s → NeedsBrackets c s → p.cast ≡ c → IsRow g ctx s (place_view p).row → l.place ≡ p → l.fields ≡ kind.Field → l.methods ≡ kind.Method → IsStart g ctx x (start.Behind l)
brackets_start g ctx x c s p l e n q r h f m =
    subst (λ z. IsStart g ctx z (start.Behind l)) (sym e)
    (no_brackets c s, link_as g ctx (in_brackets c s) [] [] l p h f m (linked_brackets g ctx c s (place_view p) n q r))

pub start_as : (g : Parts) (ctx : List (List ℕ)) (b : Before) (s z : Start) → s ≡ z → IsStart g ctx b s → IsStart g ctx b z
start_as g ctx b s z e h = subst (IsStart g ctx b) e h

pub bare_start : (g : Parts) (ctx : List (List ℕ)) (b : Before) (l : Link) → b ≡ nothing → IsLink g ctx nothing [] [] l → IsStart g ctx b (start.Bare l)
bare_start g ctx b l e h = (e, subst (λ z. IsLink g ctx z [] [] l) (sym e) h)

pub bare_link : (g : Parts) (ctx : List (List ℕ)) (b : Before) (l : Link) → IsStart g ctx b (start.Bare l) → IsLink g ctx nothing [] [] l
bare_link g ctx b l h = subst (λ z. IsLink g ctx z [] [] l) h.0 h.1
