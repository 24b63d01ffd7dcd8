-- The closure that the threads call may be shared, as what it borrows may.
use mathlib.Core.List.{List, [], ◌∷◌}
use Prim.Native.Nat.{ℕ}
use denote.RattleType.{RattleType}
use denote.Ref.{NamedLft}
use denote.Builtin.{bool}
use denote.Param.{param}
use denote.Struct.Field.{shr_ref_field, row_field}
use denote.Struct.Tuple.{TupleAt, type_at}
use denote.Param.Send.{IsSync, shr_sync, sendable}
use denote.Param.SendFields.{declared_sync, as_row_sync}
use Rattle.std.proofs.Crossing as std
use Rattle.std.specs.contracts.alloc.Global as Global
use Rattle.qc_turn.specs.contracts.turn.Turn as Turn
use Rattle.qc_core.specs.contracts.server.Server as Server
use Rattle.qc_core.specs.contracts.server.ServerKept.TheImpl as kept
use Rattle.qc_model.specs.contracts.events.Event as Event
use Rattle.qc_app.proofs.Sends.{turn_sync}

bool_sync : IsSync bool
bool_sync = search sendable

abbrev five : (A B C D E : RattleType) → List RattleType
five A B C D E = A ∷ B ∷ C ∷ D ∷ E ∷ []

five_sync : (ν : List ℕ) (A B C D E : RattleType) → IsSync A → IsSync B → IsSync C → IsSync D → IsSync E → IsSync (TupleAt ν (five A B C D E))
five_sync ν A B C D E a b c d e =
    declared_sync (type_at ν (five A B C D E)) (as_row_sync (row_field A) a, (as_row_sync (row_field B) b, (as_row_sync (row_field C) c, (as_row_sync (row_field D) d, (as_row_sync (row_field E) e, tt)))))

pub closure_sync : (ν : List ℕ) (a b c d e : NamedLft) (R G : RattleType) → IsSync (param 0 R) → IsSync (param 1 G)
    → IsSync (TupleAt ν (five (shr_ref_field a (param 0 R) tt).row (shr_ref_field b Global.the_row tt).row (shr_ref_field c (Turn.the_row Server.the_row Event.the_row kept.ghosts) tt).row (shr_ref_field d bool tt).row (shr_ref_field e (param 1 G) tt).row))
closure_sync ν a b c d e R G r g =
    five_sync ν (shr_ref_field a (param 0 R) tt).row (shr_ref_field b Global.the_row tt).row (shr_ref_field c (Turn.the_row Server.the_row Event.the_row kept.ghosts) tt).row (shr_ref_field d bool tt).row (shr_ref_field e (param 1 G) tt).row
    (shr_sync a.mir a.lft (param 0 R) r) (shr_sync b.mir b.lft Global.the_row std.sync) (shr_sync c.mir c.lft (Turn.the_row Server.the_row Event.the_row kept.ghosts) turn_sync) (shr_sync d.mir d.lft bool bool_sync) (shr_sync e.mir e.lft (param 1 G) g)
