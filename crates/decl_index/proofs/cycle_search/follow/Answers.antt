use Rattle.std.proofs.Common.{rules, ◌≡◌, subst}
use Rattle.decl_index.specs.Refusals.{supers_of, outers_of}
use Rattle.decl_index.specs.Changed.{Meets}
use Rattle.decl_index.proofs.Searches.{followed}
use Rattle.decl_index.proofs.cycle_search.follow.Goals as goal

pub returns : goal.returns
returns c =
    let supers : c.as_slice.result.now ≡ supers_of c.args.class.now = search rules in
    let outers : c.outer_names.result.now ≡ outers_of c.args.class.now = search rules in
    followed c.args.class.now c.args.found.now c.meet.new.found c.meet-2.new.found
    (subst (λ ns. Meets ns c.args.found.now c.meet.new.found) supers c.in_ok-meet.ensures)
    (subst (λ ns. Meets ns c.meet.new.found c.meet-2.new.found) outers c.in_ok-meet-2.ensures)
