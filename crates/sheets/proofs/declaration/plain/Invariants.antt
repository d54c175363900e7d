use Rattle.std.proofs.Common.{◌≡◌, take, drop, map}
use Rattle.std.specs.List.{list_all}
use Rattle.sheets.specs.Words.{texts, has, index_of}
use Rattle.sheets.proofs.declaration.plain.Given as goal
use Rattle.terms.specs.declared.parts.Arg.TheVariants.{Plain}

abbrev pub invariant-loop-text : goal.invariant-loop-text
invariant-loop-text l = record {
  taken : l.all ≡ map (λ w. Plain (index_of l.names w)) (texts (take l.text-index l.words));
  rest : list_all (has l.names) (texts l.words) ≡ list_all (has l.names) (texts (drop l.text-index l.words));
}
