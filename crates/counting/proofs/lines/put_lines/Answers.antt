use Rattle.std.proofs.Common.{◌+◌, ◌++◌, ap, sym, subst, length, take, arith, ℕ, List}
use Rattle.std.specs.Map.Iter.{deref_pair}
use Rattle.std.proofs.lemmas.List.{length_push}
use Rattle.std.proofs.lemmas.Iterator.Consumers.{YieldsList-from_rest, YieldsList-turn, YieldsList-end}
use Rattle.outside.specs.Gathered.{Gathered, WrotePrefix}
use Rattle.counting.specs.Lines.{line_text, lines_text}
use Rattle.counting.proofs.Written.{on-err, one-entry, few-numbers, one-line, prefix-lines, all-lines}
use Rattle.counting.proofs.lines.put_lines.Goals as goal

pub loop-key-preserved : goal.loop-key-preserved
loop-key-preserved g c =
    let t = YieldsList-turn (YieldsList-from_rest {shows = deref_pair} c.iter-key-items.result cc) c.loop-key.yielded _ c.loop-key.yielded_by _ _ (c.in-Some.key, c.in-Some.number) c.in-Some.is c.next.ensures.steps in
    let numbers = c.args.counts.now in
    let i = length c.loop-key.yielded in
    let e = one-entry c.iter-key-items.result numbers i c.in-Some.key.now c.in-Some.number.now c.as_str.result.now c.iter-key-items.ensures.entries t.0 t.1 c.as_str.ensures.value in
    let written = g.K.Sink.written in
    record {
      gathered = λ start all gathered.
          let more = c.in_ok-put_line.ensures.added start (all ++ lines_text (take i numbers)) (c.loop-key.invariant.gathered start all gathered) in
          let lines = one-line all numbers i (c.as_str.result.now, c.in-Some.number.now) _ e.0 (ap line_text e.1) in
          subst (λ (n : ℕ). Gathered start (written c.put_line.new.sink) c.put_line.new.gathering (all ++ lines_text (take n numbers))) (sym (length_push c.loop-key.yielded (c.in-Some.key, c.in-Some.number)))
          (subst (λ (text : List ℕ). Gathered start (written c.put_line.new.sink) c.put_line.new.gathering text) lines more);
      later = omega (arith, c.loop-key.invariant.later, c.in_ok-put_line.ensures.later);
    }

pub returns-in_err-put_line-clause-prefix : goal.returns-in_err-put_line-clause-prefix
returns-in_err-put_line-clause-prefix g c =
    let t = YieldsList-turn (YieldsList-from_rest {shows = deref_pair} c.iter-key-items.result cc) c.loop-key.yielded _ c.loop-key.yielded_by _ _ (c.in-Some.key, c.in-Some.number) c.in-Some.is c.next.ensures.steps in
    let numbers = c.args.counts.now in
    let i = length c.loop-key.yielded in
    let e = one-entry c.iter-key-items.result numbers i c.in-Some.key.now c.in-Some.number.now c.as_str.result.now c.iter-key-items.ensures.entries t.0 t.1 c.as_str.ensures.value in
    let written = g.K.Sink.written in
    on-err c.from_residual.result (λ start all gathered.
    let less = c.in_err-put_line.ensures.prefix start (all ++ lines_text (take i numbers)) (c.loop-key.invariant.gathered start all gathered) in
    let lines = one-line all numbers i (c.as_str.result.now, c.in-Some.number.now) _ e.0 (ap line_text e.1) in
    prefix-lines start _ all numbers (i + 1) (subst (λ (text : List ℕ). WrotePrefix start (written c.put_line.new.sink) text) lines less))

pub returns-clause-added : goal.returns-clause-added
returns-clause-added g c =
    let t = YieldsList-end (YieldsList-from_rest {shows = deref_pair} c.iter-key-items.result cc) c.loop-key.yielded _ c.loop-key.yielded_by _ _ c.in-None.is c.next.ensures.steps in
    let numbers = c.args.counts.now in
    let i = length c.loop-key.yielded in
    let written = g.K.Sink.written in
    λ start all gathered. subst (λ (text : List ℕ). Gathered start (written c.loop-key.sink) c.loop-key.gathering text) (all-lines all numbers i (few-numbers c.iter-key-items.result numbers i c.iter-key-items.ensures.entries t.1)) (c.loop-key.invariant.gathered start all gathered)
