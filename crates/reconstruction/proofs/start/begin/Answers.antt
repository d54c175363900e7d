use Rattle.std.proofs.Common.{◌∙◌, ◌∷◌, [], List, get_or, refl, ap, arith}
use Rattle.reconstruction.specs.declared.item.Arena.{Arena}
use Rattle.reconstruction.specs.declared.item.Item.{Item}
use Rattle.reconstruction.specs.declared.numbered_place.NumberedPlace.{NumberedPlace}
use Rattle.reconstruction.proofs.Beginning.{first_place_of, begun_one}
use Rattle.reconstruction.proofs.start.begin.Goals as goal

pub returns : goal.returns
returns c =
    let arena : Arena = record { fronts = c.args.arena.now.fronts; stacks = c.cons.new.self } in
    let item : Item = record { front = 0; stack = c.in_ok-stack.stack } in
    record {
      at = begun_one c.args.tables.now arena c.least_at-key.result item c.reserve.new.self.items c.push.new.self.items c.requires.complete c.least_at-key.ensures.value
          (omega (arith, c.if-key-parts.false, ap (λ g. g.limit) c.parts.ensures.value)) c.requires.fronts refl c.in_ok-stack.ensures.within
          (c.in_ok-stack.ensures.kept ∙ ap (λ (l : List (List NumberedPlace)). first_place_of ∷ get_or l 0 []) c.requires.stacks)
          (c.in_ok-reserve.ensures.items ∙ c.requires.queue) c.push.ensures.added;
      pops = c.push.ensures.pops ∙ c.reserve.ensures.pops;
    }
