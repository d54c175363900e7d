use Rattle.std.proofs.Common.{rules, subst, ◌≡◌, List}
use Rattle.std.proofs.lemmas.Result.{err_from_is_err_and}
use Rattle.usage_counts.specs.declared.tallies.KeyTally.{KeyTally}
use Rattle.usage_counts.specs.Counts.{Numbers, AreAdded, numbers_in}
use Rattle.usage_counts.specs.Tallies.{AreTold}
use Rattle.usage_counts.proofs.NumberLaws.{added-numbers}
use Rattle.usage_counts.proofs.counting.count_file.Goals as goal

pub file_tallies-requires-clause-layout : goal.file_tallies-requires-clause-layout
file_tallies-requires-clause-layout c = let f = c.requires.class.1 in (f.head, f.body, f.is_file)

pub returns-in_err-tallies-clause-only : goal.returns-in_err-tallies-clause-only
returns-in_err-tallies-clause-only c =
    let p = err_from_is_err_and c.from_residual.result c.from_residual.ensures.1 in
    rw (p.1, p.2) (λ keys u. c.in_err-tallies.ensures.only keys u)

pub returns-clause-added : goal.returns-clause-added
returns-clause-added c =
    let e : c.in_ok-tallies.tallies.items ≡ c.deref.result.now = search rules in
    let f = c.in_ok-tallies.ensures.found in
    let t = subst (λ (ts : List KeyTally). AreTold ts f.0) e f.2 in
    let h = added-numbers c.counts.inside.uses c.add_all.new.uses c.deref.result.now f.0 c.in_ok-add_all.ensures.added t in
    (f.0, f.1, subst (λ (old : Numbers). AreAdded old f.0 (numbers_in c.add_all.new.uses)) c.counts.view_is h)

pub returns-clause-only : goal.returns-clause-only
returns-clause-only c =
    let e : c.in_ok-tallies.tallies.items ≡ c.deref.result.now = search rules in
    λ keys u.
    let t = subst (λ (ts : List KeyTally). AreTold ts keys) e (c.in_ok-tallies.ensures.only keys u) in
    let h = added-numbers c.counts.inside.uses c.add_all.new.uses c.deref.result.now keys c.in_ok-add_all.ensures.added t in
    subst (λ (old : Numbers). AreAdded old keys (numbers_in c.add_all.new.uses)) c.counts.view_is h
