use Rattle.std.proofs.Common.{rules, ◌≡◌, ◌≢◌, Some}
use Rattle.sheets.specs.Standing.{parts_by, places_by}
use Rattle.sheets.proofs.Bodies.{refused-env}
use Rattle.sheets.proofs.reading.checked.Goals as goal
use Rattle.terms.specs.Faults.{first_env_fault}
use Rattle.terms.specs.declared.fault.EnvFault.TheVariants.{OutOfMemory}

pub returns : goal.returns
returns c =
    let s = c.args.read.sheet in
    let told : c.in-Err.fault ≢ OutOfMemory → first_env_fault (parts_by s) ≡ Some c.in-Err.fault = λ ne.
    let first = c.in-Err.ensures.first_fault ne in search rules in
    refused-env (places_by s c.args.read.after) (first_env_fault (parts_by s)) c.in-Err.fault c.fault.result told c.fault.ensures
