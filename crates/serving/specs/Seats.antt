-- The seats of clients that are served side by side.
use Rattle.std.specs.Prelude.{◌≡◌, ℕ, ◌<◌, List, ◌++◌, ◌∷◌, [], length, slice_index_or}
use Rattle.outside.specs.Causes.{Rose}
use Rattle.outside.specs.declared.end.End.{End}
use Rattle.version_board.specs.declared.view.View.{View}
use Rattle.answers.specs.Sessions.{Seen}
use Rattle.answers.specs.Sessions as new
use Rattle.sessions.specs.declared.ending.Ended.{Ended}
use Rattle.sessions.specs.RunningStates.{running_state}
use Rattle.sessions.specs.Served.{ServesWith}
use Rattle.serving.specs.declared.seats.Seat.{Seat}
use Rattle.serving.specs.Services.{EndView, Lasts}

-- What is seen of a seat: its end, what its pass has seen, and how its session ended.
pub record SeatView : Type 0 where
  pub end : EndView
  pub pass : View
  pub ended : Ended

module _ {J S K H : Type 0} where
  abbrev pub end_of : Seat J S K H → End S K H
  end_of seat = seat.end

  abbrev pub seat_view : (End S K H → EndView) → Seat J S K H → SeatView
  seat_view seen seat = record { end = seen seat.end; pass = seat.pass; ended = seat.ended }

-- A new session was served at the seat.
pub record IsSeatServed (c d : SeatView) : Type 0 where
  pub next : Seen
  pub serves : ServesWith new.start next c.end.left c.end.written d.end.written (running_state c.pass c.end.held c.end.load_faults) (running_state d.pass d.end.held d.end.load_faults) d.ended
  pub lasts : Lasts c.end d.end
  pub read_cause : d.ended.code ≡ 4 → Rose c.end.read_faults d.end.read_faults
  pub write_cause : d.ended.code ≡ 5 → Rose c.end.write_faults d.end.write_faults

-- At each place of the first list the second one has what its item became.
module _ {T : Type 0} where
  abbrev pub EachBecomes : (T → T → Type 0) → List T → List T → Type 0
  EachBecomes R xs ys = (i : ℕ) (d : T) → i < length xs → R (slice_index_or xs i d) (slice_index_or ys i d)
