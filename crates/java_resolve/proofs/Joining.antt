-- Rows as the code puts them together.
use Rattle.std.proofs.Common.{◌≡◌, ◌∙◌, ap, ap₂, sym, subst, refl, ℕ, true, false, List, [], ◌∷◌, ◌++◌, chars, IsUtf8}
use Rattle.terms.specs.declared.parts.Parts.{Parts}
use Rattle.java_shapes.specs.Shape.{named, called, Before, nothing, fresh, Shapes}
use Rattle.java_shapes.specs.Readable.{IsContext}
use Rattle.java_resolve.specs.declared.heads.Kind.{Kind}
use Rattle.java_resolve.specs.declared.heads.Kind.TheVariants as kind
use Rattle.java_resolve.specs.declared.index.Index.{Index}
use Rattle.java_resolve.specs.Found.{Row, Spot, headed_in}
use Rattle.java_resolve.specs.Index.{with_key, bucket}
use Rattle.java_resolve.specs.Reading.{IsRow, AreSpots, IsSet, IsAloneRow, IsVariableRow, Linked, fields_of, methods_of}
use Rattle.java_resolve.specs.Naming.{IsBare}
use Rattle.java_resolve.proofs.Rows.{name_behind_row, bare_name_row, call_behind_row, bare_call_row, new_call_row}

headed_as : (g : Parts) (x : Index) (k j : Kind) (t : List ℕ) (ps : List Spot) → IsSet g x → k ≡ j → headed_in g k (bucket x t) ps ≡ headed_in g j (with_key 0 t g.decls) ps
headed_as g x k j t ps set e = ap₂ (λ y z. headed_in g y z ps) e (set.index t)

pub named_behind : (g : Parts) (x : Index) → IsSet g x → (ctx : List (List ℕ)) → IsContext ctx → (b : Before) (t w : List ℕ) (spot : Spot) (f m : Kind) → Linked g ctx b t w spot f m → IsBare false b → (tb wb : List ℕ) → IsUtf8 tb → IsUtf8 wb → chars tb ≡ t → chars wb ≡ w → (row : Row) → row ≡ headed_in g f (bucket x wb) (spot ∷ []) → IsRow g ctx (named b t) row
named_behind g x set ctx ok b t w spot f m l bare tb wb ut uw et ew row e =
    subst (IsRow g ctx (named b t)) (sym (e ∙ headed_as g x f (fields_of l.site) wb (spot ∷ []) set l.fields_are))
    (name_behind_row g set.tellable ctx ok l.site b t spot.cast l.receiver w l.is l.dotless bare.0 tb wb ut uw et ew spot refl l.row)

pub named_bare : (g : Parts) (x : Index) → IsSet g x → (ctx : List (List ℕ)) → IsContext ctx → (b : Before) (t w : List ℕ) (spot : Spot) (f m : Kind) → Linked g ctx b t w spot f m → IsBare true b → (tb wb : List ℕ) → IsUtf8 tb → IsUtf8 wb → chars tb ≡ t → chars wb ≡ w → (all alone fields : Row) → all ≡ alone ++ fields → IsAloneRow g x ctx tb alone → fields ≡ headed_in g f (bucket x wb) (spot ∷ []) → IsRow g ctx (named b t) all
named_bare g x set ctx ok b t w spot f m l bare tb wb ut uw et ew all alone fields e a h =
    let n : Linked g ctx nothing t w spot f m = subst (λ z. Linked g ctx z t w spot f m) bare l in
    subst (λ z. IsRow g ctx (named z t) all) (sym bare)
    (subst (IsRow g ctx (named nothing t)) (sym (e ∙ ap₂ (λ y z. y ++ z) (a.is ∙ ap (λ z. z ++ a.vars) (headed_as g x kind.Alone kind.Alone tb [] set refl)) (h ∙ headed_as g x f (fields_of n.site) wb (spot ∷ []) set n.fields_are)))
    (bare_name_row g set.tellable ctx ok n.site t spot.cast n.receiver w n.is n.dotless tb wb ut uw et ew spot refl n.row a.vars (subst (λ z. IsVariableRow g ctx z a.vars) et a.right)))

pub called_behind : (g : Parts) (x : Index) → IsSet g x → (ctx : List (List ℕ)) → IsContext ctx → (b : Before) (t w : List ℕ) (args : Shapes) (spot : Spot) (f m : Kind) → Linked g ctx b t w spot f m → IsBare false b → (tb wb : List ℕ) → IsUtf8 tb → IsUtf8 wb → chars tb ≡ t → chars wb ≡ w → (spots : List Spot) → AreSpots g ctx args spots → (row : Row) → row ≡ headed_in g m (bucket x wb) (spot ∷ spots) → IsRow g ctx (called b t args) row
called_behind g x set ctx ok b t w args spot f m l bare tb wb ut uw et ew spots all row e =
    subst (IsRow g ctx (called b t args)) (sym (e ∙ headed_as g x m (methods_of l.site) wb (spot ∷ spots) set l.methods_are))
    (call_behind_row g set.tellable ctx ok l.site b t args spot.cast l.receiver w l.is l.dotless bare.0 bare.1 tb wb ut uw et ew spot spots refl l.row all)

pub called_bare : (g : Parts) (x : Index) → IsSet g x → (ctx : List (List ℕ)) → IsContext ctx → (b : Before) (t w : List ℕ) (args : Shapes) (spot : Spot) (f m : Kind) → Linked g ctx b t w spot f m → IsBare true b → (tb wb : List ℕ) → IsUtf8 tb → IsUtf8 wb → chars tb ≡ t → chars wb ≡ w → (spots : List Spot) → AreSpots g ctx args spots → (row calls methods : Row) → row ≡ calls ++ methods → calls ≡ headed_in g kind.Call (bucket x tb) spots → methods ≡ headed_in g m (bucket x wb) (spot ∷ spots) → IsRow g ctx (called b t args) row
called_bare g x set ctx ok b t w args spot f m l bare tb wb ut uw et ew spots all row calls methods e a h =
    let n : Linked g ctx nothing t w spot f m = subst (λ z. Linked g ctx z t w spot f m) bare l in
    subst (λ z. IsRow g ctx (called z t args) row) (sym bare)
    (subst (IsRow g ctx (called nothing t args)) (sym (e ∙ ap₂ (λ y z. y ++ z) (a ∙ headed_as g x kind.Call kind.Call tb spots set refl) (h ∙ headed_as g x m (methods_of n.site) wb (spot ∷ spots) set n.methods_are)))
    (bare_call_row g set.tellable ctx ok n.site t args spot.cast n.receiver w n.is n.dotless tb wb ut uw et ew spot spots refl n.row all))

pub created : (g : Parts) (x : Index) → IsSet g x → (ctx : List (List ℕ)) → IsContext ctx → (t : List ℕ) (args : Shapes) (tb : List ℕ) → IsUtf8 tb → chars tb ≡ t → (spots : List Spot) → AreSpots g ctx args spots → (row : Row) → row ≡ headed_in g kind.New (bucket x tb) spots → IsRow g ctx (called fresh t args) row
created g x set ctx ok t args tb ut et spots all row e =
    subst (IsRow g ctx (called fresh t args)) (sym (e ∙ headed_as g x kind.New kind.New tb spots set refl)) (new_call_row g set.tellable ctx ok t args tb ut et spots all)
