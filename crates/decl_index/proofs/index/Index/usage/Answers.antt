use Rattle.std.proofs.Common.{rules, ◌≡◌, ◌∙◌, sym, ap}
use Rattle.std.specs.Prelude.{unwrap_or}
use Rattle.std.specs.Arc.{arc_value}
use Rattle.std.specs.BTreeMap.{get_by_text}
use Rattle.decl_index.specs.History.{use_of}
use Rattle.decl_index.specs.Places.{count_pairs}
use Rattle.decl_index.proofs.CountLemmas.{pairs-use}
use Rattle.decl_index.proofs.index.Index.usage.Goals as goal

pub returns : goal.returns
returns c =
    let view : c.args.self.now.counts ≡ count_pairs (arc_value c.self.inside.counts) = search rules in
    let got : c.unwrap_or.result ≡ unwrap_or (get_by_text (arc_value c.self.inside.counts) c.args.key.now) 0 = search rules in
    record { count = got ∙ sym (ap (λ ps. use_of ps c.args.key.now) view ∙ pairs-use (arc_value c.self.inside.counts) c.args.key.now) }
