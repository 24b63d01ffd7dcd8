-- A start, when ended streams of others were struck off.
use Rattle.std.proofs.Common.{◌≡◌, ℕ, ◌+◌, ◌*◌, ◌<◌, ◌≤◌, Bool, true, false, cond, List, [], ◌∷◌, refl, sym, ap, subst, ◌∙◌, append-nil}
use Rattle.std.specs.Prelude.{Option, Some, None, find}
use Rattle.qc_types.specs.declared.names.TableName.{TableName}
use Rattle.qc_types.specs.declared.options.Options.{Options}
use Rattle.qc_journal.specs.Room.{Recorded}
use Rattle.qc_chain.specs.Chains.{Ranged}
use Rattle.qc_dir.specs.Directory.{Directory}
use Rattle.qc_model.specs.Cache.{cache}
use Rattle.qc_model.specs.Choice.{start_count}
use Rattle.qc_model.specs.Licence.{MayStart}
use Rattle.qc_sound.specs.parts.Journal.{reserved}
use Rattle.qc_turn.specs.declared.kept.Kept.{Ghosts}
use Rattle.qc_turn.specs.declared.view.FoundWord.{FoundWord}
use Rattle.qc_turn.specs.Seats.{Held, SameHolder}
use Rattle.qc_core.specs.declared.server_state.RunningTask.{RunningTask}
use Rattle.qc_core.specs.declared.server_state.ServerState.{ServerState}
use Rattle.qc_core.specs.declared.entry_start.Ready.{Ready}
use Rattle.qc_core.specs.TaskEnd.{is_of, without_task_of, with_user_less, let_go, rested_from, rested_by, rested}
use Rattle.qc_core.specs.EndedStreams.{swept, Finds, IsSwept}
use Rattle.qc_core.specs.EntryStart.{MayBegin, HasStartRoom, without_block}
use Rattle.qc_core.specs.EntryInsertion.{IsReady}
use Rattle.qc_core.proofs.Sweeping.{finds_on}

-- ---- the tables keep their blocks

let_go_dir : (on there : Bool) (number : ℕ) (s : ServerState) → (let_go on there number s).dir ≡ s.dir
let_go_dir true there number s = refl
let_go_dir false true number s = refl
let_go_dir false false number s = refl

from_tables : (seat number : ℕ) (o : Option ℕ) (s : ServerState) → (rested_from seat number o s).dir.tables ≡ s.dir.tables
from_tables seat number None s = refl
from_tables seat number (Some n) s = ap (λ (d : Directory). d.tables) (let_go_dir _ _ number (with_user_less n (without_task_of seat s)))

by_tables : (seat : ℕ) (o : Option RunningTask) (s : ServerState) → (rested_by seat o s).dir.tables ≡ s.dir.tables
by_tables seat None s = refl
by_tables seat (Some w) s = from_tables seat w.chain.number _ s

swept_tables : (found : List FoundWord) (s : ServerState) → (swept found s).dir.tables ≡ s.dir.tables
swept_tables [] s = refl
swept_tables (f ∷ fs) s = elim f.set as (λ b. (cond b (swept fs s) (rested f.seat (swept fs s))).dir.tables ≡ s.dir.tables) [
  | true ↦ swept_tables fs s
  | false ↦ by_tables f.seat (find (is_of f.seat) (swept fs s).tasks.items) (swept fs s) ∙ swept_tables fs s
]

-- ---- what a start asks

module _ (own : ℕ) (s t : ServerState) (found : List FoundWord) (sw : IsSwept own s t found) where
  pub may_begin_swept : (key : List ℕ) (tables : List TableName) → MayBegin key tables s → MayBegin key tables t
  may_begin_swept key tables b = record {
    may = subst (λ (p : Options × Recorded). MayStart p.0 p.1.events (start_count p.1.events + 1) key tables) (λ i. (sym sw.options i, sym sw.journal i)) b.may;
    few = b.few;
    once = b.once;
    short = b.short;
  }

  pub start_room_swept : HasStartRoom s → HasStartRoom t
  start_room_swept room = subst (λ (j : Recorded). reserved (cache j.events) + 2 < j.spare) (sym sw.journal) room

  pub ready_swept : (tables : List TableName) (ready : Ready) → IsReady tables s ready → IsReady tables t ready
  ready_swept tables ready r =
      let blocks = ap (λ (x : ServerState). x.dir.tables) sw.value ∙ swept_tables found s in
      r ∙ (λ i. record { serial = start_count (sym sw.journal i).events + 1; hand = record { tables = tables; fresh = [] }; missing = without_block (sym blocks i) tables })

  pub ranges_swept : (r q : Ranged) → q ≡ r → s.options.size ≤ 512 * r.room → t.options.size ≤ 512 * q.room
  ranges_swept r q same fits = subst (λ (p : Options × Ranged). p.0.size ≤ 512 * p.1.room) (λ i. (sym sw.options i, sym same i)) fits

-- ---- the holding

module _ {V E : Type 0} {K : Ghosts V E} where
  -- words were read after a call on the same holding
  pub finds_behind : (h m k : Held V E K) (found : List FoundWord) → SameHolder h m → m.ranges ≡ h.ranges → Finds m k found → Finds h k found
  finds_behind h m k found same ranges f =
      let none : Finds h m [] = record { seat = same.seat; turn = same.turn; holder = same.holder; ranges = ranges } in
      subst (Finds h k) (append-nil found) (finds_on h m k [] found none f)
