use Rattle.std.proofs.Common.{rules, ◌≡◌, []}
use Rattle.sheets.specs.Words.{texts}
use Rattle.sheets.specs.SheetLines.{args_in, body_in}
use Rattle.sheets.proofs.Indices.{no-body}
use Rattle.sheets.proofs.declaration.wanted.Goals as goal

pub returns : goal.returns
unfolding body_in
returns c =
    let args : texts c.args_in-args.result.now ≡ args_in c.args.form (texts c.args.words.now) = search rules in
    let body : body_in c.args.form (texts c.args.words.now) ≡ [] = search rules in
    no-body c.args.names.now _ _ _ c.plain.result args body c.plain.ensures
