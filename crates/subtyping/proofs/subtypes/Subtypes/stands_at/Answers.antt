use Rattle.std.proofs.Common.{rules, ◌≡◌, ◌∙◌, sym, Some, None, slice_get}
use Rattle.subtyping.specs.Places.{AllRise}
use Rattle.subtyping.proofs.Searching.{search-in}
use Rattle.subtyping.proofs.Nodes.{row-rises, stands-sound, stands-found, stands-never, stands-from, stands-to}
use Rattle.subtyping.proofs.subtypes.Subtypes.stands_at.Goals as goal

pub returns-in_default-clause-complete : goal.returns-in_default-clause-complete
returns-in_default-clause-complete c a b from to s = stands-from c.args.self.now a b (from ∙ c.in_default.is) s

pub returns-in_default-high-clause-complete : goal.returns-in_default-high-clause-complete
returns-in_default-high-clause-complete c a b from to s = stands-to c.args.self.now a b (to ∙ c.in_default-high.is) s

pub returns-in-Some-get-clause-sound : goal.returns-in-Some-get-clause-sound
returns-in-Some-get-clause-sound c a b from to h =
    let at : slice_get c.args.self.now.rows c.in-Some.from ≡ Some c.as_slice.result.now = search rules in
    let rises : AllRise c.args.self.now.rows = search rules in
    let found = search-in c.as_slice.result.now c.in-Some-high.to c.binary_search.result c.binary_search.ensures.position (row-rises c.args.self.now.rows c.in-Some.from c.as_slice.result.now rises at) in
    stands-sound c.args.self.now a b c.in-Some.from c.in-Some-high.to c.as_slice.result.now (from ∙ c.in-Some.is) (to ∙ c.in-Some-high.is) at (found.0 (sym c.is_ok.ensures.value ∙ h))

pub returns-in-Some-get-clause-complete : goal.returns-in-Some-get-clause-complete
returns-in-Some-get-clause-complete c a b from to s =
    let at : slice_get c.args.self.now.rows c.in-Some.from ≡ Some c.as_slice.result.now = search rules in
    let rises : AllRise c.args.self.now.rows = search rules in
    let found = search-in c.as_slice.result.now c.in-Some-high.to c.binary_search.result c.binary_search.ensures.position (row-rises c.args.self.now.rows c.in-Some.from c.as_slice.result.now rises at) in
    c.is_ok.ensures.value ∙ found.1 (stands-found c.args.self.now a b c.in-Some.from c.in-Some-high.to c.as_slice.result.now (from ∙ c.in-Some.is) (to ∙ c.in-Some-high.is) at s)

pub returns-in-None-clause-complete : goal.returns-in-None-clause-complete
returns-in-None-clause-complete c a b from to s =
    let at : slice_get c.args.self.now.rows c.in-Some.from ≡ None = search rules in
    stands-never c.args.self.now a b c.in-Some.from c.in-Some-high.to (from ∙ c.in-Some.is) (to ∙ c.in-Some-high.is) at s
