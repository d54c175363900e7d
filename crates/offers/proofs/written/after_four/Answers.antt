use Rattle.std.proofs.Common.{◌≡◌, ◌∙◌, ◌++◌, ◌∷◌, [], ap, cond, List, Some}
use Rattle.std.specs.Prelude.{slice_get}
use Rattle.type_names.specs.declared.kinds.Erased.{Erased}
use Rattle.offers.specs.declared.member.Member.{Member}
use Rattle.offers.specs.Omissions.{is_written, is_crowded}
use Rattle.offers.specs.Views.{scene}
use Rattle.offers.proofs.Lists.{filter-on, at-get}
use Rattle.offers.proofs.written.after_four.Goals as goal

pub loop-member-preserved : goal.loop-member-preserved
loop-member-preserved c = record {
  all =
      let here : slice_get c.args.members.now c.loop-member.member-index ≡ Some c.member-item.result = at-get c.args.members.now c.loop-member.member-index c.member-item.result c.loop-member-test.true c.member-item.is in
      let kept = λ (ts : List Erased) (ms : List Member) (m : Member). is_written (scene c.args.spellings.now) (is_crowded (scene c.args.spellings.now) ts ms m) m in
      filter-on (kept c.args.types.now c.args.members.now) c.args.members.now c.loop-member.member-index c.member-item.result c.loop-member.all c.add_left.new.all here c.loop-member.invariant.all
      (c.in_ok-add_left.ensures.all
      ∙ ap (λ (ts : List Erased). c.loop-member.all ++ cond (kept ts c.loop-member.crowding.members.members c.member-item.result) (c.member-item.result ∷ []) []) c.loop-member.invariant.types
      ∙ ap (λ (ms : List Member). c.loop-member.all ++ cond (kept c.args.types.now ms c.member-item.result) (c.member-item.result ∷ []) []) c.loop-member.invariant.members);
  types = ap (λ x. x.types) c.in_ok-add_left.ensures.types ∙ c.loop-member.invariant.types;
  members = ap (λ x. x.members) c.in_ok-add_left.ensures.members ∙ c.loop-member.invariant.members;
  kept = c.in_ok-add_left.ensures.kept;
}
