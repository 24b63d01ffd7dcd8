use Rattle.std.specs.Prelude.{◌+◌, ◌*◌, min}
use Rattle.qc_turn.proofs.seat.Seat.store_filled.Given as goal

abbrev pub ghosts-store_place : goal.ghosts-store_place
ghosts-store_place g a = record { index = a.index; count = min (8 * a.index + 8) a.bytes }
