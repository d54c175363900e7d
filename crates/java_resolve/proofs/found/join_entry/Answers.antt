use Rattle.std.proofs.Common.{◌≡◌, ◌∙◌, sym, ◌∷◌, []}
use Rattle.java_resolve.specs.Found.{join, suits, pick}
use Rattle.java_resolve.specs.Trees.{found_view, entry_view}
use Rattle.java_resolve.proofs.TextFacts.{if_map}
use Rattle.java_resolve.proofs.Gathering.{entry_out, entry_joined}
use Rattle.java_resolve.proofs.found.join_entry.Goals as goal

pub returns-then-not-suits : goal.returns-then-not-suits
returns-then-not-suits c = record { joined = entry_out (suits c.args.env.now c.args.crowded c.args.cast.now c.args.wanted) (entry_view c.args.entry.now) (found_view c.args.found) (sym c.suits.ensures.value ∙ c.if-not-suits.true) }

pub returns : goal.returns
returns c = record {
  joined = if_map (λ f. found_view f ≡ join (found_view c.args.found) (found_view c.args.entry.now.found)) (λ f. found_view f ≡ join (found_view c.args.found) (pick (suits c.args.env.now c.args.crowded c.args.cast.now c.args.wanted) (entry_view c.args.entry.now ∷ []))) c.join.result
      (λ f h. entry_joined (suits c.args.env.now c.args.crowded c.args.cast.now c.args.wanted) (entry_view c.args.entry.now) (found_view c.args.found) (found_view f) (sym c.suits.ensures.value ∙ c.if-not-suits.false) h) c.join.ensures.joined;
}
