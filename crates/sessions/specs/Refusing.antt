-- What is replied to parameters that were refused.
use Rattle.std.specs.Prelude.{◌≡◌, ℕ, Result, Some, IfOk}
use Rattle.std.specs.declared.vec.Vec.{Vec}
use Rattle.std.specs.declared.alloc.Global.{Global}
use Rattle.std.specs.declared.alloc.AllocError.{AllocError}
use Rattle.json_rpc.specs.declared.message.Id.{Id}
use Rattle.json_rpc.specs.declared.message.Refused.{Refused}
use Rattle.json_rpc.specs.declared.message.Refused.TheVariants.{Fault, OutOfMemory}
use Rattle.lsp_forms.specs.declared.forms.ParamFault.{ParamFault}
use Rattle.sessions.specs.declared.failure.Failure.TheVariants.{InvalidParams}
use Rattle.sessions.specs.Texts.{failure_text}

-- A fault is told by its cause and its index; after want of memory there is no reply.
abbrev pub IsRefusal : Id → Refused ParamFault → Result (Vec ℕ Global) AllocError → Type 0
IsRefusal id (Fault f) r = IfOk r (λ b. b.items ≡ failure_text (Some id) (InvalidParams f.cause f.index))
IsRefusal id OutOfMemory r = IfOk r (λ b. ⊥)
