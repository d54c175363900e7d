-- The fault that says nothing about the bytes.
use Rattle.code_walk.specs.declared.fault.WalkFault.{WalkFault}
use Rattle.code_walk.specs.declared.fault.WalkCause.TheVariants.{OutOfMemory}

-- Memory ran out: the place is 0.
abbrev pub no_memory : WalkFault
no_memory = record { at = 0; cause = OutOfMemory }
