use Rattle.std.proofs.Common.{◌≡◌, ℕ, ◌<◌, length, slice_get}
use Rattle.plain_listing.specs.Generate.{made}
use Rattle.plain_listing.specs.Tables.{listed}
use Rattle.plain_listing.specs.Reads.{here, deeper}
use Rattle.plain_listing.proofs.rows.column.Given as goal

abbrev pub invariant-loop-wanted : goal.invariant-loop-wanted
invariant-loop-wanted l = record {
  long : length l.all ≡ l.wanted;
  each : (b : ℕ) → b < l.wanted → listed (slice_get l.all b) ≡ made l.place.env.now l.place.variables.now (here l.place) (deeper l.place) l.weight b;
}
