use Rattle.std.proofs.Common.{List, refl, subst, length, arith}
use Rattle.std.proofs.lemmas.Option.{slice_get_read}
use Rattle.terms.specs.declared.parts.Arg.{Arg}
use Rattle.plain_listing.specs.Contexts.{AreMet}
use Rattle.plain_listing.proofs.Finding.{keeps-both, all_met-next}
use Rattle.plain_listing.proofs.contexts.add_decls.Goals as goal

pub loop-n-preserved : goal.loop-n-preserved
loop-n-preserved c =
    let M : List Arg → Type 0 = λ args. AreMet c.args.env.now c.add_args.new.contexts c.args.outer.now args (length args) in
    record {
      keeps = keeps-both _ _ _ c.loop-n.invariant.keeps c.in_ok-add_args.ensures.keeps;
      shallow = λ depth low before. c.in_ok-add_args.ensures.shallow depth low (c.loop-n.invariant.shallow depth low before);
      met = all_met-next _ _ _ _ _ c.loop-n.n c.index-decls-n.result (slice_get_read _ _ c.loop-n.n c.index-decls-n.result refl (omega arith) c.index-decls-n.is) c.in_ok-add_args.ensures.keeps c.loop-n.invariant.met (subst M c.as_slice.ensures c.in_ok-add_args.ensures.met);
    }
