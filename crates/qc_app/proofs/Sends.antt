-- Which types of a session and of the server may cross threads.
use denote.Builtin.{u32, u64}
use denote.Struct.Field.{u64-field}
use denote.Param.Send.{IsSend, IsSync, sendable, view_send}
use denote.Param.SendFields.{declared_send, as_row_send}
use Rattle.std.proofs.Crossing.{crosses}
use Rattle.std.proofs.Crossing as std
use Rattle.qc_turn.proofs.seat.Seat.TheSendSync as seat
use Rattle.qc_turn.proofs.turn.Turn.TheSendSync as turn
use Rattle.qc_turn.specs.contracts.seat.Seat as Seat
use Rattle.qc_turn.specs.contracts.turn.Turn as Turn
use Rattle.qc_types.proofs.options.Options.TheSendSync as options
use Rattle.qc_dir.proofs.dir.Dir.TheSendSync as dir
use Rattle.qc_dir.specs.contracts.dir.Dir as Dir
use Rattle.qc_table.proofs.database.Database.TheSendSync as database
use Rattle.qc_table.specs.contracts.database.Database as Database
use Rattle.qc_journal.proofs.journal.Journal.TheSendSync as journal
use Rattle.qc_journal.specs.contracts.journal.Journal as Journal
use Rattle.qc_tiles.proofs.tiles.Tiles.TheSendSync as tiles
use Rattle.qc_tiles.specs.contracts.tiles.Tiles as Tiles
use Rattle.qc_chain.proofs.chains.Chains.TheSendSync as chains
use Rattle.qc_chain.specs.contracts.chains.Chains as Chains
use Rattle.qc_core.proofs.reserved_list.ReservedList.TheSendSync as reserved
use Rattle.qc_core.proofs.server_state.RunningTask.TheSendSync as running
use Rattle.qc_core.proofs.chain_pins.Unpinner.TheSendSync as unpinner
use Rattle.qc_core.specs.contracts.reserved_list.ReservedList as Reserved
use Rattle.qc_core.specs.contracts.server_state.RunningTask as RunningTask
use Rattle.qc_core.specs.contracts.chain_pins.Unpinner as Unpinner
use Rattle.qc_core.specs.contracts.server_state.ServerState as Parts
use Rattle.qc_core.specs.contracts.server.Server as Server
use Rattle.qc_core.specs.contracts.server.Server.TheInside as InServer
use Rattle.qc_core.specs.contracts.server.ServerKept.TheImpl as kept
use Rattle.std.proofs.option.Option.TheSendSync as option
use Rattle.qc_types.proofs.text.Text.TheSendSync as text
use Rattle.qc_types.specs.contracts.text.Text as Text
use Rattle.qc_types.proofs.owned_list.OwnedList.TheSendSync as list
use Rattle.qc_types.specs.contracts.owned_list.OwnedList as OwnedList
use Rattle.qc_model.specs.contracts.events.Event as Event
use Rattle.qc_model.proofs.reports.ReportLine.TheSendSync as line
use Rattle.qc_model.specs.contracts.reports.ReportLine as ReportLine
use Rattle.qc_model.proofs.reports.Ending.TheSendSync as ending
use Rattle.qc_trx.proofs.state.SessionState.TheSendSync as state
use Rattle.qc_trx.specs.contracts.state.SessionState as State
use Rattle.qc_serve.proofs.log.Log.TheSendSync as log
use Rattle.qc_serve.specs.contracts.log.Log as Log
use Rattle.qc_serve.proofs.ending.End.TheSendSync as end
use Rattle.qc_serve.specs.contracts.session.Session as Session
use Rattle.qc_app.specs.contracts.sessions.Slot as Slot

u32_send : IsSend u32
u32_send = search sendable

parts_send : IsSend Parts.the_row
parts_send =
    declared_send Parts.the_type (
      options.the_send,
      (
        as_row_send Journal.the_field journal.the_send,
        (
          as_row_send Database.the_field database.the_send,
          (
            as_row_send Dir.the_field dir.the_send,
            (
              as_row_send Chains.the_field chains.the_send,
              (
                as_row_send Tiles.the_field tiles.the_send,
                (
                  as_row_send (Reserved.the_field u32) (reserved.the_send u32 u32_send),
                  (
                    as_row_send (Reserved.the_field RunningTask.the_row) (reserved.the_send RunningTask.the_row running.the_send),
                    (as_row_send Unpinner.the_field unpinner.the_send, (std.send, tt)),
                  ),
                ),
              ),
            ),
          ),
        ),
      ),
    )

pub server_send : IsSend Server.the_row
server_send = let p = parts_send in view_send _ _ _ _ _ (declared_send InServer.the_type (search (sendable, crosses) depth 20, tt))

pub seat_send : IsSend (Seat.the_row Server.the_row Event.the_row kept.ghosts)
seat_send = seat.the_send _ _ _ server_send

pub turn_sync : IsSync (Turn.the_row Server.the_row Event.the_row kept.ghosts)
turn_sync = turn.the_sync _ _ _ server_send

u64_send : IsSend u64
u64_send = search sendable

session_send : IsSend Session.the_row
session_send =
    declared_send Session.the_type (
      options.the_send,
      (
        as_row_send State.the_field state.the_send,
        (
          seat_send,
          (
            as_row_send u64-field u64_send,
            (as_row_send Log.the_field log.the_send, (option.the_send _ end.the_send, tt)),
          ),
        ),
      ),
    )

pub slot_send : IsSend Slot.the_row
slot_send =
    declared_send Slot.the_type (
      session_send,
      (
        as_row_send Text.the_field text.the_send,
        (
          as_row_send (OwnedList.the_field ReportLine.the_row) (list.the_send ReportLine.the_row line.the_send),
          (option.the_send _ ending.the_send, tt),
        ),
      ),
    )
