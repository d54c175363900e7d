use Rattle.std.proofs.Common.{◌≡◌, ◌++◌, ◌∷◌, [], sym, ◌∙◌, rules}
use Rattle.java_units.proofs.BlockLaws.{closer_len, closer_kept, other_len, other_kept, open_len, open_kept, bare_len, bare_kept}
use Rattle.java_units.proofs.reading.block.Goals as goal

pub returns-then-same-clause-len : goal.returns-then-same-clause-len
returns-then-same-clause-len c = closer_len c.args.word.now c.args.count _ (sym c.same.ensures ∙ c.if-same.true)

pub returns-then-same-clause-kept : goal.returns-then-same-clause-kept
returns-then-same-clause-kept c = closer_kept c.args.word.now c.args.count c.args.closers.now.items c.push.new.self.items (sym c.same.ensures ∙ c.if-same.true) c.in_ok-push.ensures.items

pub returns-then-not-same-clause-len : goal.returns-then-not-same-clause-len
returns-then-not-same-clause-len c = other_len c.args.word.now c.args.count _ (sym c.same-2.ensures ∙ c.if-not-same.true)

pub returns-then-not-same-clause-kept : goal.returns-then-not-same-clause-kept
returns-then-not-same-clause-kept c = other_kept c.args.word.now c.args.count _ (sym c.same.ensures ∙ c.if-same.false) (sym c.same-2.ensures ∙ c.if-not-same.true)

pub returns-in-Some-clause-len : goal.returns-in-Some-clause-len
returns-in-Some-clause-len c =
    let e : c.args.closers.now.items ≡ c.pop.new.self.items ++ c.in-Some.after ∷ [] = search rules in
    c.saturating_sub.ensures ∙ open_len c.args.word.now c.args.count c.args.closers.now.items c.pop.new.self.items c.in-Some.after (sym c.same-2.ensures ∙ c.if-not-same.false) e

pub returns-in-Some-clause-kept : goal.returns-in-Some-clause-kept
returns-in-Some-clause-kept c =
    let e : c.args.closers.now.items ≡ c.pop.new.self.items ++ c.in-Some.after ∷ [] = search rules in
    open_kept c.args.word.now c.args.count c.args.closers.now.items c.pop.new.self.items c.in-Some.after (sym c.same.ensures ∙ c.if-same.false) (sym c.same-2.ensures ∙ c.if-not-same.false) e

pub returns-in-None-clause-len : goal.returns-in-None-clause-len
returns-in-None-clause-len c =
    let e : c.args.closers.now.items ≡ [] = search rules in
    bare_len c.args.word.now c.args.count c.args.closers.now.items (sym c.same-2.ensures ∙ c.if-not-same.false) e

pub returns-in-None-clause-kept : goal.returns-in-None-clause-kept
returns-in-None-clause-kept c =
    let e : c.args.closers.now.items ≡ [] = search rules in
    let f : c.pop.new.self.items ≡ [] = search rules in
    bare_kept c.args.word.now c.args.count c.args.closers.now.items c.pop.new.self.items (sym c.same.ensures ∙ c.if-same.false) (sym c.same-2.ensures ∙ c.if-not-same.false) e f
