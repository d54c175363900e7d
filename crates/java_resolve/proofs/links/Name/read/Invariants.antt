use Rattle.std.proofs.Common.{◌≡◌, ◌++◌, chars, length}
use denote.Shadow.{shadow}
use denote.Text.{Utf8}
use Rattle.terms.specs.Typing.{rows}
use Rattle.java_shapes.specs.Shape.{Before}
use Rattle.java_shapes.specs.Readable.{IsContext}
use Rattle.java_resolve.specs.Reading.{IsSet}
use Rattle.java_resolve.specs.Naming.{IsBare, IsNamed}
use Rattle.java_resolve.proofs.links.Name.read.Given as goal

abbrev pub invariant-loop-c : goal.invariant-loop-c
invariant-loop-c l = record {
  right : (b : Before) → IsSet l.setting.env.now l.setting.index.now → IsContext (rows l.setting.ctx) → IsBare l.is_bare b → IsNamed l.setting.env.now (rows l.setting.ctx) b l.fn.self → IsNamed l.setting.env.now (rows l.setting.ctx) b l.name;
  all : l.name.text ++ chars l.rest ≡ l.fn.self.text ++ chars l.more;
  text : shadow (Utf8 l.rest);
}

abbrev pub decreases-loop-c : goal.decreases-loop-c
decreases-loop-c l = length l.rest
