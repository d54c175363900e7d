-- The failures that a session answers.
use Rattle.std.specs.Prelude.{ℕ, List, codes}
use Rattle.serde_json.specs.Data.{Data, string, no_members, member}
use Rattle.sessions.specs.declared.failure.Failure as code
use Rattle.sessions.specs.declared.failure.Failure.TheVariants as variant
use Rattle.answers.specs.Failures.{Failure, parse_error, invalid_request, unknown_method, not_initialized, invalid_params, no_class, change_refused, version_withdrawn, read_fault, cause_data}

abbrev pub failure_of : code.Failure → Failure
failure_of variant.ParseError = parse_error
failure_of variant.InvalidRequest = invalid_request
failure_of variant.UnknownMethod = unknown_method
failure_of variant.NotInitialized = not_initialized
failure_of (variant.InvalidParams cause index) = invalid_params cause index
failure_of (variant.NoClass index class_fault place) = no_class index class_fault place
failure_of (variant.ChangeRefused fault) = change_refused fault
failure_of (variant.VersionWithdrawn number version) = version_withdrawn number version
failure_of (variant.ReadFault index) = read_fault index

-- The data of a cycle of classes.
abbrev pub cycle_data : ℕ → List ℕ → Data
cycle_data cause name = cause_data cause 0 (member (codes "name") (string name) no_members)
