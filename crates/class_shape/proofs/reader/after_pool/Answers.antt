use Rattle.std.proofs.Common.{◌∙◌, ◌-◌, List, ℕ, Ok, length, drop, sym, ap, arith}
use Rattle.std.proofs.lemmas.List.{take_all, length-drop}
use Rattle.class_shape.proofs.ShapeLaws.{pool_rest}
use Rattle.class_shape.proofs.reader.after_pool.Goals as goal

pub returns-clause-exact : goal.returns-clause-exact
returns-clause-exact c =
    let bytes = c.args.bytes.now in
    let end = c.end.result in
    pool_rest bytes c.args.pool.now end c.requires.pool c.end.ensures.is ∙ ap (λ (t : List ℕ). Ok (c.args.pool.now, t)) (sym (take_all (length bytes - end) (drop end bytes) (omega (arith, length-drop end bytes))))
