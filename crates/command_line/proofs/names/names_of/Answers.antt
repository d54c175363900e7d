use Rattle.std.proofs.Common.{rules, ◌≡◌, ◌∷◌, ◌++◌, ◌<◌, ◌≤◌, ◌+◌, [], None, length, map, take, refl, sym, ap, subst, ◌∙◌, arith}
use Rattle.std.specs.Prelude.{codes, string_bytes, option_map}
use Rattle.std.proofs.lemmas.List.{take_all, length-map}
use Rattle.command_line.specs.Words.{IsFirstWrong, serve}
use Rattle.command_line.specs.Scanned.{Scanned, IsStuck, names_in, named}
use Rattle.command_line.proofs.Commands.{few-scanned, mapped-at, wrong-word, next-word, map-long}
use Rattle.command_line.proofs.names.names_of.Goals as goal

pub take-requires : goal.take-requires
take-requires c = omega (arith, few-scanned _ c.loop-word.scan (map named c.loop-word.names.items) c.loop-word.invariant)

pub fault-requires : goal.fault-requires
fault-requires c = omega (arith, few-scanned _ c.loop-word.scan (map named c.loop-word.names.items) c.loop-word.invariant)

pub end-requires : goal.end-requires
end-requires c = omega (arith, few-scanned _ c.loop-word.scan (map named c.loop-word.names.items) c.loop-word.invariant)

pub returns-in_default-clause-fault : goal.returns-in_default-clause-fault
returns-in_default-clause-fault c =
    let ws = map string_bytes c.args.rest.now in
    let i = c.loop-word.word-index in
    let within : i < length c.args.rest.now = search rules in
    let w = string_bytes c.word-item.result in
    let at = mapped-at c.args.rest.now c.word-item.result i within c.word-item.is in
    let none : c.take.result ≡ None = search rules in
    let stuck : IsStuck (take i ws ++ c.as_str.result.now ∷ []) = rw none at (c.take.ensures (take i ws) (map named c.loop-word.names.items) c.loop-word.invariant) in
    subst (IsFirstWrong (codes "serve" ∷ ws)) (sym c.fault.ensures)
    (wrong-word ws i c.loop-word.scan (map named c.loop-word.names.items) w (map-long c.args.rest.now i within) at c.loop-word.invariant (subst (λ x. IsStuck (take i ws ++ x ∷ [])) c.as_str.ensures.value stuck))

pub loop-word-preserved : goal.loop-word-preserved
loop-word-preserved c =
    let ws = map string_bytes c.args.rest.now in
    let i = c.loop-word.word-index in
    let within : i < length c.args.rest.now = search rules in
    let w = string_bytes c.word-item.result in
    let at = mapped-at c.args.rest.now c.word-item.result i within c.word-item.is in
    let pairs = (map named c.loop-word.names.items) ++ names_in c.in-Some.taken.pair in
    let kept : map named c.keep.new.names.items ≡ pairs = search rules in
    let read : Scanned (take i ws ++ c.as_str.result.now ∷ []) c.in-Some.taken.scan pairs = c.in-Some.ensures (take i ws) (map named c.loop-word.names.items) c.loop-word.invariant in
    let next : Scanned (take (i + 1) ws) c.in-Some.taken.scan pairs = subst (λ x. Scanned x c.in-Some.taken.scan pairs) (ap (λ x. take i ws ++ x ∷ []) c.as_str.ensures.value ∙ next-word ws i w (map-long c.args.rest.now i within) at) read in
    subst (Scanned (take (i + 1) ws) c.in-Some.taken.scan) (sym kept) next

pub returns-in-Ok-clause-names : goal.returns-in-Ok-clause-names
returns-in-Ok-clause-names c =
    let ws = map string_bytes c.args.rest.now in
    let i = c.loop-word.word-index in
    let end : length c.args.rest.now ≤ i = search rules in
    let whole : take i ws ≡ ws = take_all i ws (omega (arith, end, length-map c.args.rest.now string_bytes)) in
    let all : Scanned ws c.loop-word.scan (map named c.loop-word.names.items) = subst (λ x. Scanned x c.loop-word.scan (map named c.loop-word.names.items)) whole c.loop-word.invariant in
    (serve (option_map (λ s. s.now) c.loop-word.scan.start) (map named c.loop-word.names.items) c.loop-word.scan.ahead, c.in-Ok.ensures ws (map named c.loop-word.names.items) all, refl)

pub returns-in-Err-clause-fault : goal.returns-in-Err-clause-fault
returns-in-Err-clause-fault c =
    let ws = map string_bytes c.args.rest.now in
    let i = c.loop-word.word-index in
    let end : length c.args.rest.now ≤ i = search rules in
    let whole : take i ws ≡ ws = take_all i ws (omega (arith, end, length-map c.args.rest.now string_bytes)) in
    let all : Scanned ws c.loop-word.scan (map named c.loop-word.names.items) = subst (λ x. Scanned x c.loop-word.scan (map named c.loop-word.names.items)) whole c.loop-word.invariant in
    c.in-Err.ensures ws (map named c.loop-word.names.items) all
