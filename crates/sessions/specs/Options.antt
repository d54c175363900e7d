-- The options of a session.
use Rattle.std.specs.Prelude.{◌≤◌}
use Rattle.terms.specs.Faults.{greatest_depth}
use Rattle.lsp_forms.specs.declared.forms.Initialize.{Initialize}

-- The options are within what a list allows.
pub record AreInRange (o : Initialize) : Type 0 where
  pub some_weight : 1 ≤ o.limit
  pub weight : o.limit ≤ 10000
  pub depth : o.depth ≤ greatest_depth
  pub some_items : 1 ≤ o.count
  pub items : o.count ≤ 1000
