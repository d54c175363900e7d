use Rattle.std.proofs.Common.{◌++◌, ◌∷◌, [], refl, sym, ap, subst, ◌∙◌}
use Rattle.succinct.specs.Compression.{IsNumbered}
use Rattle.succinct.proofs.Needs.{numbered-more}
use Rattle.succinct.proofs.Wants.{wants-more}
use Rattle.succinct.proofs.tables.add_source.Goals as goal

pub returns-clause-one_more : goal.returns-clause-one_more
returns-clause-one_more c all before =
    subst (λ ks. IsNumbered (all ++ record { args = c.args.args.now; result = c.args.gives } ∷ []) c.need_numbers.new.needs.keys c.kind_number.new.kinds.keys ks) (sym c.in_ok-push-2.ensures.ok)
    (numbered-more all (record { args = c.args.args.now; result = c.args.gives }) _ _ _ _ _ c.in_ok-numbers.numbers.items c.in_ok-kind.kind _ before
    c.need_numbers.ensures.grown c.in_ok-numbers.ensures.named c.in_ok-numbers.ensures.no_more c.kind_number.ensures.grown c.in_ok-kind.ensures.stands c.in_ok-kind.ensures.one_more c.set_of-needs.ensures.value refl)

pub returns-clause-wants : goal.returns-clause-wants
returns-clause-wants c all before =
    wants-more all (record { args = c.args.args.now; result = c.args.gives }) c.args.tables.now.needs.keys c.need_numbers.new.needs.keys c.args.tables.now.wanted _ c.in_ok-numbers.numbers.items (c.in_ok-push.ensures.added ∙ ap (λ r. c.args.tables.now.wanted ++ r ∷ []) c.as_slice.ensures.value) c.need_numbers.ensures.grown c.in_ok-numbers.ensures.named before
