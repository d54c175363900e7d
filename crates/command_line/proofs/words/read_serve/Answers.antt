use Rattle.std.proofs.Common.{rules, ◌≡◌, ◌∷◌, ◌++◌, ◌<◌, ◌≤◌, [], None, length, map, take, sym, ap, subst, ◌∙◌, arith}
use Rattle.std.specs.Prelude.{codes, string_bytes}
use Rattle.std.proofs.lemmas.List.{take_all, length-map}
use Rattle.command_line.specs.Words.{IsFirstWrong}
use Rattle.command_line.specs.Scanned.{Scanned, IsStuck, names_in}
use Rattle.command_line.proofs.Commands.{few-scanned, mapped-at, wrong-word, next-word, map-long}
use Rattle.command_line.proofs.words.read_serve.Goals as goal

pub take-requires : goal.take-requires
take-requires c = omega (arith, few-scanned _ c.loop-word.scan c.loop-word.invariant.0 c.loop-word.invariant.1)

pub fault-requires : goal.fault-requires
fault-requires c = omega (arith, few-scanned _ c.loop-word.scan c.loop-word.invariant.0 c.loop-word.invariant.1)

pub end-requires : goal.end-requires
end-requires c = omega (arith, few-scanned _ c.loop-word.scan c.loop-word.invariant.0 c.loop-word.invariant.1)

pub returns-in_default : goal.returns-in_default
returns-in_default c =
    let ws = map string_bytes c.args.rest.now in
    let i = c.loop-word.word-index in
    let within : i < length c.args.rest.now = search rules in
    let w = string_bytes c.word-item.result in
    let at = mapped-at c.args.rest.now c.word-item.result i within c.word-item.is in
    let none : c.take.result ≡ None = search rules in
    let stuck : IsStuck (take i ws ++ c.as_str.result.now ∷ []) = rw none at (c.take.ensures (take i ws) c.loop-word.invariant.0 c.loop-word.invariant.1) in
    subst (IsFirstWrong (codes "serve" ∷ ws)) (sym c.fault.ensures)
    (wrong-word ws i c.loop-word.scan c.loop-word.invariant.0 w (map-long c.args.rest.now i within) at c.loop-word.invariant.1 (subst (λ x. IsStuck (take i ws ++ x ∷ [])) c.as_str.ensures.value stuck))

pub loop-word-preserved : goal.loop-word-preserved
loop-word-preserved c =
    let ws = map string_bytes c.args.rest.now in
    let i = c.loop-word.word-index in
    let within : i < length c.args.rest.now = search rules in
    let w = string_bytes c.word-item.result in
    let at = mapped-at c.args.rest.now c.word-item.result i within c.word-item.is in
    let pairs = c.loop-word.invariant.0 ++ names_in c.in-Some.taken.pair in
    let read : Scanned (take i ws ++ c.as_str.result.now ∷ []) c.in-Some.taken.scan pairs = c.in-Some.ensures (take i ws) c.loop-word.invariant.0 c.loop-word.invariant.1 in
    (pairs, subst (λ x. Scanned x c.in-Some.taken.scan pairs) (ap (λ x. take i ws ++ x ∷ []) c.as_str.ensures.value ∙ next-word ws i w (map-long c.args.rest.now i within) at) read)

pub returns-in-Ok : goal.returns-in-Ok
returns-in-Ok c =
    let ws = map string_bytes c.args.rest.now in
    let i = c.loop-word.word-index in
    let end : length c.args.rest.now ≤ i = search rules in
    let whole : take i ws ≡ ws = take_all i ws (omega (arith, end, length-map c.args.rest.now string_bytes)) in
    let all : Scanned ws c.loop-word.scan c.loop-word.invariant.0 = subst (λ x. Scanned x c.loop-word.scan c.loop-word.invariant.0) whole c.loop-word.invariant.1 in
    (c.loop-word.invariant.0, sym all.many, c.in-Ok.ensures ws c.loop-word.invariant.0 all)

pub returns-in-Err : goal.returns-in-Err
returns-in-Err c =
    let ws = map string_bytes c.args.rest.now in
    let i = c.loop-word.word-index in
    let end : length c.args.rest.now ≤ i = search rules in
    let whole : take i ws ≡ ws = take_all i ws (omega (arith, end, length-map c.args.rest.now string_bytes)) in
    let all : Scanned ws c.loop-word.scan c.loop-word.invariant.0 = subst (λ x. Scanned x c.loop-word.scan c.loop-word.invariant.0) whole c.loop-word.invariant.1 in
    c.in-Err.ensures ws c.loop-word.invariant.0 all
