use Rattle.std.proofs.Common.{rules, ◌≡◌, ◌∙◌, sym, ap, false}
use Rattle.offers.specs.Scenes.{is_among}
use Rattle.offers.proofs.FieldNames.{not-placed}
use Rattle.offers.proofs.hidden.add_name.Goals as goal

pub push-requires-clause-fresh : goal.push-requires-clause-fresh
push-requires-clause-fresh c =
    let absent : c.is_name.result ≡ false = search rules in
    not-placed c.args.names.now c.as_str-2.result.now c.is_name.result (c.is_name.ensures ∙ ap (is_among c.args.names.now) (c.as_str.ensures ∙ sym c.as_str-2.ensures)) absent
