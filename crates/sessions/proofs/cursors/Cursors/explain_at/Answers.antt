use Rattle.std.proofs.Common.{refl}
use Rattle.sessions.proofs.Explained.{item_by, list_by}
use Rattle.sessions.proofs.cursors.Cursors.explain_at.Goals as goal

pub returns-in-Some-clause-answers : goal.returns-in-Some-clause-answers
returns-in-Some-clause-answers g c =
    item_by c.args.self.now c.args.id.now c.args.number c.args.place c.in-Some.item c.args.item c.at-cursor.result.now c.explain_item.result _ _ c.in-Some.is c.requires.stands c.at-cursor.ensures.there c.explain_item.ensures.told c.explain_item.ensures.same

pub returns-in-None-clause-answers : goal.returns-in-None-clause-answers
returns-in-None-clause-answers g c =
    list_by c.args.self.now c.args.id.now c.args.number c.args.place c.args.item c.at-cursor.result.now c.explain_list.result _ _ c.in-None.is c.requires.stands c.at-cursor.ensures.there c.explain_list.ensures.told refl
