-- What contracts see of an adapter over a reader or a writer of std.
use Rattle.std.specs.Prelude.{ℕ, List, Option}

-- the bytes that the reader has left, where it tells them, and how often it has failed
pub record SourceView : Type 0 where
  pub left : Option (List ℕ)
  pub faults : ℕ

-- the bytes that the writer holds, where it tells them, and how often it has failed
pub record SinkView : Type 0 where
  pub written : Option (List ℕ)
  pub faults : ℕ
