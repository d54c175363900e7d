-- A publication whose lists have items of the right kinds.
use Rattle.std.proofs.Common.{◌≡◌, ◌∙◌, Bool, true, ◌&&◌, List, length, Result, Ok, Err, refl}
use Rattle.std.specs.Prelude.{IfOk}
use Rattle.serde_json.specs.Data.{Items}
use Rattle.serde_json.specs.View.{items_view}
use Rattle.serde_json.specs.declared.value.Value.{Value}
use Rattle.json_rpc.specs.declared.message.Refused.{Refused}
use Rattle.lsp_forms.specs.Params.{every}
use Rattle.lsp_forms.specs.Commands.{is_text, is_pair, counts, pair_of, size, paths_at, names_at, uses_at, published, publish_at}
use Rattle.lsp_forms.specs.declared.forms.ParamFault.{ParamFault}
use Rattle.lsp_forms.proofs.Lists.{size-is}

pub publish-right : (puts : List Value) (removes counted sources known : Items) → (every is_text (items_view puts) && (every is_text removes && (every is_pair counted && (every is_text sources && every is_text known)))) ≡ true → every (λ d. counts (pair_of d)) counted ≡ true
    → publish_at (items_view puts) removes counted sources known ≡ published (paths_at 0 (items_view puts)) (paths_at (length puts) sources) (names_at 12 removes) (uses_at counted) (names_at 22 known)
unfolding publish_at
publish-right puts removes counted sources known a b = rw (a, b, size-is puts) refl

-- The form of one is the form of an equal one.
pub handed_over : {X : Type 0} (a b : Result X ParamFault) (r : Result X (Refused ParamFault)) → a ≡ b → IfOk r (λ x. b ≡ Ok x) → IfOk r (λ x. a ≡ Ok x)
handed_over a b (Ok y) e h = e ∙ h
handed_over a b (Err f) e h = tt
