-- What is served over one end: which start text was asked for, and that no session ends by words that don't fit.
use Rattle.std.proofs.Common.{◌≡◌, ℕ, true, false, List, [], ◌∷◌, length, Option, refl, sym, ap, ◌∙◌, arith}
use Rattle.json_rpc.specs.declared.fault.FrameFault.TheVariants.{Header, NoLength, TooLong, Cut, ReadFault, Budget, OutOfMemory}
use Rattle.sessions.specs.declared.ending.Ending as ways
use Rattle.sessions.specs.declared.ending.Ending.TheVariants.{Exit, Input, Frames, Sink, Memory}
use Rattle.sessions.specs.Served.{status_of}
use Rattle.serving.specs.Services.{EndView, ServesBy, serving_status, with_loads}
use Rattle.serving.proofs.Begun.{some-within, there}
use Rattle.serving.specs.declared.status.Serving.{Serving}
use Rattle.serving.specs.declared.status.Serving.TheVariants as served

-- no session ends by the code 2
no-session : (way : ways.Ending) → (status_of way).code ≡ 2 → ⊥
no-session (Exit true) is = omega (arith, is)
no-session (Exit false) is = omega (arith, is)
no-session Input is = omega (arith, is)
no-session (Frames (Header at)) is = omega (arith, is)
no-session (Frames (NoLength at)) is = omega (arith, is)
no-session (Frames (TooLong n)) is = omega (arith, is)
no-session (Frames (Cut at)) is = omega (arith, is)
no-session (Frames ReadFault) is = omega (arith, is)
no-session (Frames Budget) is = omega (arith, is)
no-session (Frames OutOfMemory) is = omega (arith, is)
no-session Sink is = omega (arith, is)
no-session Memory is = omega (arith, is)

loads-long : (loads : ℕ) (es : List EndView) → length (with_loads loads es) ≡ length es
loads-long loads [] = refl
loads-long loads (e ∷ es) = refl

pub no-usage-served : (way : Serving) (start : Option (List ℕ)) (es fs : List EndView) → length fs ≡ length es → ServesBy way start es fs → (serving_status way).code ≡ 2 → ⊥
unfolding serving_status
no-usage-served (served.Sessions place ended) start es fs same h is =
    let s = h.served in
    let at = s.greatest.at in
    let within = some-within s.endings place ended at in
    let e = there (with_loads h.loads es) place (omega (arith, within, s.count)) in
    let f = there fs place (omega (arith, within, s.count, same, loads-long h.loads es)) in
    let one = s.each place e.0 f.0 ended e.1 f.1 at in
    no-session one.serves.way (sym (ap (λ x. x.code) one.serves.told) ∙ is)
no-usage-served (served.NotStarted line cause) start es fs same h is = omega (arith, is)
no-usage-served served.ShelfFault start es fs same h is = omega (arith, is)
no-usage-served served.OutOfMemory start es fs same h is = omega (arith, is)
