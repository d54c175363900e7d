use Rattle.std.proofs.Common.{rules, ◌≡◌, ◌∙◌, ◌++◌, ap, length}
use Rattle.std.specs.Prelude.{codes, decimal}
use Rattle.workload.specs.Samples.{text_before}
use Rattle.samples.specs.Samples.{history_of, goal_of}
use Rattle.samples.proofs.Told.{on_ok, lines_from}
use Rattle.samples.proofs.sample.sample_lines.Goals as goal

pub returns : goal.returns
returns c =
    let n = c.args.n in
    let sample = c.in_ok-sample.sample in
    let drawn = c.in_ok-sample.ensures.sample in
    let whole : c.as_str.result.now ≡ text_before (goal_of n) ++ codes "} }" = c.as_str.ensures ∙ ap (λ s. s.source) drawn in
    let digits : c.in-Some.goal.now ≡ decimal (goal_of n) = (let found = c.in-Some.ensures.exact (goal_of n) whole in search rules) in
    let counted : c.len.result ≡ length sample.classes = search rules in
    record {
      exact = on_ok c.lines_of.result c.lines_of.ensures
          (λ lines e. lines_from n sample c.as_slice.result.now c.as_str-2.result.now c.len.result c.in_ok-env.env c.in-Some.goal.now c.in_ok-page.page lines
          drawn c.as_slice.ensures c.as_str-2.ensures counted c.in_ok-version.ensures.lawful
          (c.in_ok-env.ensures.exact (history_of c.as_slice.result.now) c.in_ok-version.ensures.version) c.in_ok-page.ensures.exact digits e);
    }
