use Rattle.std.proofs.Common.{take, map}
use Rattle.terms.specs.View.{expr}
use Rattle.reconstruction.specs.Tabled.{front_of}
use Rattle.partial_terms.specs.Built.{AreTermsOf}
use Rattle.reconstruction.proofs.built_terms.terms_of.Given as goal

abbrev pub invariant-loop-number : goal.invariant-loop-number
invariant-loop-number l = AreTermsOf l.initial.tables.env (map (front_of l.initial.arena) (take l.number l.initial.found)) (map expr l.terms)
