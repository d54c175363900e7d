use Rattle.std.proofs.Common.{◌≡◌, [], None, slice_get, sym, ap, ◌∙◌, rules}
use Rattle.std.specs.Option.{unwrap_or}
use Rattle.std.proofs.lemmas.Option.{unwrap_or-slice_get}
use Rattle.java_print.proofs.words.type_text.Goals as goal

pub returns-in-None : goal.returns-in-None
returns-in-None c =
    let none : slice_get c.args.parts.now.types c.args.wanted ≡ None = search rules in
    ap (λ o. unwrap_or o []) (sym none) ∙ unwrap_or-slice_get c.args.parts.now.types c.args.wanted []
