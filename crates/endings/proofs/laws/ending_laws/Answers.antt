use Rattle.endings.proofs.Readings.{one_reading, first_of_all}
use Rattle.endings.proofs.Decisions.{frames_decide, exit_decides, exit_alone_fails, shutdown_ends_well}
use Rattle.endings.proofs.Stops.{stopped_stays, shutdown_stops}
use Rattle.endings.proofs.laws.ending_laws.Goals as goal

pub returns : goal.returns
returns c = record {
  one_reading = one_reading;
  first_of_all = first_of_all;
  frames_decide = frames_decide;
  exit_decides = exit_decides;
  stopped_stays = stopped_stays;
  shutdown_stops = shutdown_stops;
  exit_alone_fails = exit_alone_fails;
  shutdown_ends_well = shutdown_ends_well;
}
