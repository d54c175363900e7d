use Rattle.std.proofs.Common.{rules, tests, ◌≡◌, ◌<◌, ◌+◌, ◌++◌, length, take, subst, get_or, List, ℕ}
use Rattle.outside.specs.Gathered.{WrotePrefix}
use Rattle.serving.specs.Runs.{item_text, items_text}
use Rattle.serving.proofs.Listed.{on_err, prefix-handed, items-prefix, items-step}
use Rattle.serving.proofs.list.put_items.Goals as goal

pub returns-in_err-line-clause-prefix : goal.returns-in_err-line-clause-prefix
returns-in_err-line-clause-prefix g c =
    let is = c.args.items.now in
    let n = c.loop-item.item-index in
    on_err c.from_residual.result (λ start all gathered. items-prefix start _ is n all (prefix-handed start _ _ _ (c.loop-item.invariant.gathered start all gathered)))

pub returns-in_err-put-clause-prefix : goal.returns-in_err-put-clause-prefix
returns-in_err-put-clause-prefix g c =
    let written = g.K.Sink.written in
    let is = c.args.items.now in
    let n = c.loop-item.item-index in
    let lt : n < length is = search (rules, tests) in
    let at : c.item-item.result ≡ get_or is n c.item-item.result = search rules in
    let line : c.as_bytes.result.now ≡ item_text (get_or is n c.item-item.result) = search rules in
    on_err c.from_residual-in_err-put.result (λ start all gathered.
    let P : List ℕ → Type 0 = λ t. WrotePrefix start (written c.put.new.sink) t in
    items-prefix start _ is (n + 1) all (subst P (items-step is n c.item-item.result _ all lt line) (c.in_err-put.ensures.prefix start (all ++ items_text (take n is)) (c.loop-item.invariant.gathered start all gathered))))
