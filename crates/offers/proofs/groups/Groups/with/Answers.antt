use Rattle.std.proofs.Common.{arith, ◌≡◌, ◌∙◌, sym, ap, ◌%◌, ◌++◌, ◌∷◌, [], ℕ, List, length}
use Rattle.std.specs.Prelude.{slice_set, slice_index_or}
use Rattle.offers.proofs.Grouping.{groups-on, as-many}
use Rattle.offers.proofs.groups.Groups.with.Goals as goal

pub returns : goal.returns
returns c = λ hashes g p.
    let long : length c.args.self ≡ length c.self.inside.rows.items = ap length (sym c.self.view_is) ∙ as-many _ c.self.inside.rows.items in
    groups-on hashes c.args.self _ c.args.hash c.args.place c.place_in-at.result
    (c.place_in-at.ensures.value ∙ ap (λ (n : ℕ). c.args.hash % n) (omega (arith, c.len.ensures, long)))
    (omega (arith, c.place_in-at.ensures.within, c.len.ensures, long))
    (c.in_ok-add_place.ensures ∙ ap (λ (rows : List (List ℕ)). slice_set rows c.place_in-at.result (slice_index_or rows c.place_in-at.result [] ++ c.args.place ∷ [])) c.self.view_is) g p
