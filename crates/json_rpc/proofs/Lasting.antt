-- A fault that lasts is no read fault.
use Rattle.std.proofs.Common.{◌≡◌, Some, subst}
use Rattle.json_rpc.specs.Streams.{IsLasting}
use Rattle.json_rpc.specs.declared.fault.FrameFault.{FrameFault}
use Rattle.json_rpc.specs.declared.fault.FrameFault.TheVariants.{ReadFault}

pub lasting-read : {P : Type 0} (f : FrameFault) → f ≡ ReadFault → IsLasting (Some f) → P
lasting-read f e l = let P : FrameFault → Type 0 = λ g. IsLasting (Some g) in absurd (subst P e l)

pub ruleset lasting = (lasting-read)
