-- A refusal that is handed on.
use Rattle.std.proofs.Common.{◌≡◌, ◌∙◌, Result, Ok, Err, IfErr}
use Rattle.json_rpc.specs.declared.message.Refused.{Refused}
use Rattle.json_rpc.specs.declared.message.Refused.TheVariants.{Fault, OutOfMemory}
use Rattle.lsp_forms.specs.Params.{RefusedAs}
use Rattle.lsp_forms.specs.declared.forms.ParamFault.{ParamFault}

-- The refusal of one is the refusal of an equal one.
pub handed_on : {X Y : Type 0} (a b : Result X ParamFault) (r : Result Y (Refused ParamFault)) → a ≡ b → IfErr r (λ e. RefusedAs b e) → IfErr r (λ e. RefusedAs a e)
handed_on a b (Ok y) e h = tt
handed_on a b (Err (Fault f)) e h = e ∙ h
handed_on a b (Err OutOfMemory) e h = tt
