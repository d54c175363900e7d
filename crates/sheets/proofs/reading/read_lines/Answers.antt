use Rattle.std.proofs.Common.{rules, tests, ◌≡◌, ◌<◌, ◌≤◌, ◌+◌, ◌∙◌, ap, arith, length, map, refl}
use Rattle.sheets.specs.Words.{texts}
use Rattle.sheets.specs.SheetLines.{line_of}
use Rattle.sheets.specs.Sheets.{no_goal, told, goals_of}
use Rattle.sheets.proofs.Walks.{texts-length}
use Rattle.sheets.proofs.Bodies.{room, refused, stands-next, fault-next, stands-all, stands-none, fault-end}
use Rattle.sheets.proofs.reading.read_lines.Goals as goal

pub loop-number-init : goal.loop-number-init
loop-number-init c = record {
  stands = stands-none c.new-sheet.result c.new-sheet.ensures;
  fault = refl;
}

pub take-requires : goal.take-requires
take-requires c =
    let xs = texts c.args.body.now in
    let i = c.loop-number.number in
    let long : length xs ≡ length c.args.body.now = texts-length c.args.body.now in
    let lt : i < length c.args.body.now = search (rules, tests) in
    record { room = room c.args.version c.loop-number.sheet xs i (omega (arith, long, lt)) (omega (arith, long, c.requires)) c.loop-number.invariant.stands }

pub returns-in-Err : goal.returns-in-Err
returns-in-Err c =
    let xs = texts c.args.body.now in
    let i = c.loop-number.number in
    let long : length xs ≡ length c.args.body.now = texts-length c.args.body.now in
    let lt : i < length c.args.body.now = search (rules, tests) in
    refused c.args.version c.loop-number.sheet xs i _ _ _ (omega (arith, long, lt)) (search rules) c.word.ensures c.loop-number.invariant.stands c.loop-number.invariant.fault c.in-Err.ensures

pub loop-number-preserved : goal.loop-number-preserved
loop-number-preserved c =
    let xs = texts c.args.body.now in
    let i = c.loop-number.number in
    let long : length xs ≡ length c.args.body.now = texts-length c.args.body.now in
    let lt : i < length c.args.body.now = search (rules, tests) in
    record {
      stands = stands-next c.args.version c.loop-number.sheet c.take.new.self xs i _ _ (omega (arith, long, lt)) (search rules) c.word.ensures c.loop-number.invariant.stands c.in-Ok.ensures.0 c.in-Ok.ensures.1;
      fault = fault-next c.args.version c.loop-number.sheet xs i _ (omega (arith, long, lt)) c.word.ensures c.loop-number.invariant.stands c.in-Ok.ensures.0 c.loop-number.invariant.fault;
    }

pub returns : goal.returns
returns c =
    let xs = texts c.args.body.now in
    let i = c.loop-number.number in
    let long : length xs ≡ length c.args.body.now = texts-length c.args.body.now in
    let le : length c.args.body.now ≤ i = search (rules, tests) in
    let same : i ≡ length c.args.body.now = search (rules, tests) in (
      stands-all c.args.version c.loop-number.sheet xs i (omega (arith, long, le)) c.loop-number.invariant.stands,
      c.loop-number.invariant.fault ∙ fault-end c.args.version xs i (i + 2) (omega (arith, long, le)) ∙ ap (λ n. no_goal (told (goals_of (map (line_of c.args.version) xs))) (n + 2)) same,
    )
