-- The environment of a hole is valid.
use Rattle.std.proofs.Common.{◌≡◌, ◌∙◌, sym, subst, arith, ℕ, ◌≤◌}
use Rattle.java_units.specs.declared.types.Unit as unit
use Rattle.java_bodies.specs.declared.site.HoleSite.{HoleSite}
use Rattle.decl_index.specs.History.{State}
use Rattle.terms.specs.declared.parts.Parts.{Parts}
use Rattle.terms.specs.Faults.{IsValid, greatest_depth}
use Rattle.offers.specs.Scenes.{Scene}
use Rattle.offers.specs.Offers.{IsSceneAt}
use Rattle.decl_index.specs.Weighing.{AreWeights}
use Rattle.scopes.specs.Environments.{environment_of, IsEnvironmentAt}
use Rattle.scopes.proofs.Declared.{environment-right}
use Rattle.scopes.proofs.Ordered.{ordered}

pub right : (state : State) (u : unit.Unit) (site : HoleSite) (v : Scene) (limit depth : ℕ) (parts : Parts) → IsSceneAt state u site v → AreWeights v.weights → 1 ≤ limit → limit ≤ 10000 → depth ≤ greatest_depth → parts ≡ environment_of v limit depth → IsValid parts
right state u site v limit depth parts s w a b d e = subst IsValid (sym e) (environment-right v limit depth (ordered v s.order) w (omega arith) (omega arith) (omega arith))

pub at_hole : (state : State) (u : unit.Unit) (site : HoleSite) (v : Scene) (limit depth : ℕ) (parts env : Parts) → IsSceneAt state u site v → parts ≡ environment_of v limit depth → env ≡ parts → IsEnvironmentAt state u site limit depth env
at_hole state u site v limit depth parts env s e f = record { scene = v; is_scene = s; exact = f ∙ e }
