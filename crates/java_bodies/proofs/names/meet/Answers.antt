use Rattle.std.proofs.Common.{◌≡◌, ◌∙◌, ap, List, ℕ, Bool, true, false, refl, bytes_eq, ◌||◌, if◌then◌else◌}
use Rattle.std.specs.Prelude.{string_bytes}
use Rattle.std.specs.BTreeSet.{contains_text}
use Rattle.std.proofs.lemmas.Map.Text.{btree_set_updates_text}
use Rattle.java_bodies.proofs.names.meet.Goals as goal

or_is : (a b : Bool) → (if a then true else b) ≡ (a || b)
or_is true b = refl
or_is false b = refl

pub returns-clause-met : goal.returns-clause-met
returns-clause-met c = λ other.
    let key : string_bytes c.in_ok-from_str.field-0 ≡ c.args.name.now = c.in_ok-from_str.ensures.ok in
    btree_set_updates_text (string_bytes c.in_ok-from_str.field-0) c.args.met.now c.insert.new.self true c.in_ok-insert.ensures.updates other
    ∙ ap (λ (b : List ℕ). if bytes_eq b other then true else contains_text c.args.met.now other) key
    ∙ or_is (bytes_eq c.args.name.now other) (contains_text c.args.met.now other)
