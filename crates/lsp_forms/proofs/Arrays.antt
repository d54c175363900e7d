-- An array in place of options.
use Rattle.std.proofs.Common.{◌≡◌, ◌<◌, List, [], ◌∷◌, length, arith, refl, Some, None, Err}
use Rattle.serde_json.specs.Data.{array}
use Rattle.serde_json.specs.View.{items_view}
use Rattle.serde_json.specs.declared.value.Value.{Value}
use Rattle.lsp_forms.specs.Forms.{initialize_from}
use Rattle.lsp_forms.specs.Params.{fault}

pub array-empty : (items : List Value) → length items ≡ 0 → initialize_from (Some (array (items_view items))) ≡ initialize_from None
unfolding initialize_from
array-empty [] e = refl
array-empty (x ∷ xs) e = absurd (omega arith)

pub array-full : (items : List Value) → 0 < length items → initialize_from (Some (array (items_view items))) ≡ Err (fault 1)
unfolding initialize_from
array-full [] h = absurd (omega arith)
array-full (x ∷ xs) h = refl
