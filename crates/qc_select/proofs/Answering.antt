-- What the parts of the call do is what was decided.
use Rattle.std.proofs.Common.{◌≡◌, ℕ, ◌*◌, ◌≤◌, List, [], ◌++◌, length, refl, sym, ap, subst, ◌∙◌}
use Rattle.std.specs.Prelude.{Some, None, Result, Ok, Err, option_map}
use Rattle.qc_types.specs.declared.options.Options.{Options}
use Rattle.qc_types.specs.declared.sql_error.SqlError.{SqlError}
use Rattle.qc_sql.specs.declared.session.Asked.{Asked}
use Rattle.qc_sql.specs.declared.statements.Select.{Select}
use Rattle.qc_sql.specs.Rows.{Rows}
use Rattle.qc_sql.specs.Rules.{select_tables}
use Rattle.qc_sql.specs.Words.{◌or_else◌}
use Rattle.qc_eval.specs.Plans.{PlanView}
use Rattle.qc_chain.specs.Chains.{Ranged}
use Rattle.qc_chain.specs.Words.{words_of}
use Rattle.qc_model.specs.declared.events.Who.{Who}
use Rattle.qc_model.specs.declared.events.Event.{Event}
use Rattle.qc_model.specs.declared.events.Event.TheVariants as event
use Rattle.qc_model.specs.declared.events.How.TheVariants as how
use Rattle.qc_model.specs.declared.events.Reason.{Reason}
use Rattle.qc_model.specs.declared.events.Reason.TheVariants as reason
use Rattle.qc_model.specs.Journal.{Journal}
use Rattle.qc_model.specs.Choice.{refusal_reason}
use Rattle.qc_model.specs.Session.{State}
use Rattle.qc_turn.specs.declared.kept.Kept.{Ghosts}
use Rattle.qc_turn.specs.declared.view.FoundWord.{FoundWord}
use Rattle.qc_turn.specs.declared.view.Holding.TheVariants.{Holds}
use Rattle.qc_turn.specs.declared.task.Task.TheVariants as task
use Rattle.qc_turn.specs.Tasks.{listed_for, own}
use Rattle.qc_turn.specs.Seats.{Held, SameHolder, holder, taken, with_ranges, words}
use Rattle.qc_turn.specs.Views.{with_found, with_holding}
use Rattle.qc_turn.proofs.Holders.{taken_is}
use Rattle.qc_core.specs.declared.hit_stream.Hit.{Hit}
use Rattle.qc_core.specs.declared.server_state.ServerState.{ServerState}
use Rattle.qc_core.specs.Whole.{tasks_of, with_event}
use Rattle.qc_core.specs.Calls.{HasMoreRoom}
use Rattle.qc_core.specs.HitStream.{IsChainOf, hit_server}
use Rattle.qc_core.specs.PlainRun.{MayRunPlain}
use Rattle.qc_core.specs.TaskEnd.{rested}
use Rattle.qc_core.specs.EndedStreams.{Finds}
use Rattle.qc_select.specs.declared.selected.Selected.{Selected}
use Rattle.qc_select.specs.declared.selected.Selected.TheVariants as selected
use Rattle.qc_select.specs.Selects.{Begins, Decided, Does, HasPlan, IsChosen, IsStartWith, answering_asked, given, outside_by, planned, reason_by, selected_tasks}
use Rattle.qc_select.proofs.Rooms.{more_at_rest, more_rested, more_trans}
use Rattle.qc_select.proofs.Sweeping.{keeps_both, more_keeps, rested_keeps}

-- ---- what a plan tells of the rows

planned_err : (r : Result Rows SqlError) (e : SqlError) → ◌≡◌ {A = Result PlanView SqlError} (Err e) (planned r) → r ≡ Err e
planned_err (Ok x) e h = absurd cc
planned_err (Err x) e h = cc

planned_ok : (r : Result Rows SqlError) (p : PlanView) → ◌≡◌ {A = Result PlanView SqlError} (Ok p) (planned r) → (x : Rows) × (r ≡ Ok x)
planned_ok (Ok x) p h = (x, refl)
planned_ok (Err x) p h = absurd cc

module _ (seat : ℕ) (who : Who) (key : List ℕ) (select : Select) (asked : Asked) (s : State) (old : ServerState) where
  -- no entry answers
  abbrev pub IsUnanswered : Type 0
  IsUnanswered = answering_asked old.options asked s old.journal.events key ≡ None

  -- what keeps it out is the first reason, where it isn't refused
  pub outside_first : (plan : PlanView) → ◌≡◌ {A = Result PlanView SqlError} (Ok plan) (planned (given s old.journal.events select))
      → reason_by old.options s asked select old.journal.events key ≡ outside_by old.options s asked select old.journal.events (select_tables s.db select) key
  outside_first plan is = let r = planned_ok (given s old.journal.events select) plan is in ap (λ (x : Result Rows SqlError). refusal_reason x or_else outside_by old.options s asked select old.journal.events (select_tables s.db select) key) r.1

  module _ (free : listed_for seat (tasks_of old) ≡ []) where
    -- nothing was struck off, and no room made
    more_free : HasMoreRoom (rested seat old) old
    more_free = more_at_rest seat old free

    -- it is refused
    pub decided_refused : (new : ServerState) (before after : Ranged) (e : SqlError) → IsUnanswered → ◌≡◌ {A = Result PlanView SqlError} (Err e) (planned (given s old.journal.events select))
        → new ≡ with_event (event.Run who (how.Plain (reason.Error e.code))) old → after ≡ before → listed_for seat (tasks_of new) ≡ [] → Decided seat who key select asked s old new before after [] (selected.Plain (reason.Error e.code) (length new.journal.events) (Err e))
    decided_refused new before after e none is pushed ranges listed =
        let r = planned_err (given s old.journal.events select) e is in
        record {
          chosen = (none, ap (λ (x : Result Rows SqlError). refusal_reason x or_else outside_by old.options s asked select old.journal.events (select_tables s.db select) key) r);
          plan = is;
          room = old;
          more = more_free;
          does = (refl, pushed, refl, ranges);
          listed = listed;
        }

    -- it runs plain
    pub decided_outside : (new : ServerState) (before after : Ranged) (why : Reason) (plan : PlanView) → IsUnanswered → ◌≡◌ {A = Result PlanView SqlError} (Ok plan) (planned (given s old.journal.events select))
        → outside_by old.options s asked select old.journal.events (select_tables s.db select) key ≡ Some why → MayRunPlain old who why → new ≡ with_event (event.Run who (how.Plain why)) old → after ≡ before
        → listed_for seat (tasks_of new) ≡ [] → Decided seat who key select asked s old new before after [] (selected.Plain why (length new.journal.events) (Ok plan))
    decided_outside new before after why plan none is out may pushed ranges listed = by why (outside_first plan is ∙ out) may pushed
      where
        by : (why : Reason) → reason_by old.options s asked select old.journal.events key ≡ Some why → MayRunPlain old who why → new ≡ with_event (event.Run who (how.Plain why)) old
            → Decided seat who key select asked s old new before after [] (selected.Plain why (length new.journal.events) (Ok plan))
        by (reason.NoRoom need largest) first may pushed = absurd may
        by (reason.Error code) first may pushed = record { chosen = (none, first); plan = is; room = old; more = more_free; does = (refl, pushed, refl, ranges); listed = listed }
        by reason.Off first may pushed = record { chosen = (none, first); plan = is; room = old; more = more_free; does = (refl, pushed, refl, ranges); listed = listed }
        by reason.NotAsked first may pushed = record { chosen = (none, first); plan = is; room = old; more = more_free; does = (refl, pushed, refl, ranges); listed = listed }
        by (reason.Rule w) first may pushed = record { chosen = (none, first); plan = is; room = old; more = more_free; does = (refl, pushed, refl, ranges); listed = listed }
        by (reason.Written t) first may pushed = record { chosen = (none, first); plan = is; room = old; more = more_free; does = (refl, pushed, refl, ranges); listed = listed }
        by (reason.NotVisible t changed snapshot) first may pushed = record { chosen = (none, first); plan = is; room = old; more = more_free; does = (refl, pushed, refl, ranges); listed = listed }
        by (reason.Rival n) first may pushed = record { chosen = (none, first); plan = is; room = old; more = more_free; does = (refl, pushed, refl, ranges); listed = listed }

    -- a start is tried
    pub decided_begins : (new : ServerState) (before after : Ranged) (found : List FoundWord) (plan : PlanView) (x : Selected) → IsUnanswered → ◌≡◌ {A = Result PlanView SqlError} (Ok plan) (planned (given s old.journal.events select))
        → outside_by old.options s asked select old.journal.events (select_tables s.db select) key ≡ None → Begins seat who key (select_tables s.db select) plan old new before after found x → Decided seat who key select asked s old new before after found x
    decided_begins new before after found plan x none is out b = by x b.starts b.does b.listed
      where
        by : (x : Selected) → IsStartWith plan x → Does seat who key (select_tables s.db select) b.room new before after found x → listed_for seat (tasks_of new) ≡ selected_tasks seat after x → Decided seat who key select asked s old new before after found x
        by (selected.Hit hit) starts does listed = absurd starts
        by (selected.Start serial place own) starts does listed = record { chosen = (none, outside_first plan is ∙ out); plan = (λ i. Ok (starts i)) ∙ is; room = b.room; more = more_trans (rested seat old) old b.room more_free b.more; does = does; listed = listed }
        by (selected.Plain (reason.NoRoom need largest) place own) starts does listed = record { chosen = (none, outside_first plan is ∙ out); plan = starts ∙ is; room = b.room; more = more_trans (rested seat old) old b.room more_free b.more; does = does; listed = listed }
        by (selected.Plain (reason.Error code) place own) starts does listed = absurd starts
        by (selected.Plain reason.Off place own) starts does listed = absurd starts
        by (selected.Plain reason.NotAsked place own) starts does listed = absurd starts
        by (selected.Plain (reason.Rule w) place own) starts does listed = absurd starts
        by (selected.Plain (reason.Written t) place own) starts does listed = absurd starts
        by (selected.Plain (reason.NotVisible t changed snapshot) place own) starts does listed = absurd starts
        by (selected.Plain (reason.Rival n) place own) starts does listed = absurd starts

    -- an entry answers
    pub decided_hit : (new : ServerState) (before after : Ranged) (hit : Hit) → Some hit.serial ≡ option_map (λ entry. entry.serial) (answering_asked old.options asked s old.journal.events key) → new ≡ hit_server who hit.serial seat old
        → hit.place ≡ length new.journal.events → hit.bytes ≡ after.bytes → IsChainOf hit.serial new after → hit.bytes ≤ 8 * words_of after.blocks → after.room ≡ before.room
        → listed_for seat (tasks_of new) ≡ own seat (task.Stream hit.serial) after.blocks → Decided seat who key select asked s old new before after [] (selected.Hit hit)
    decided_hit new before after hit found server place bytes chain within kept listed = record {
      chosen = sym found;
      plan = tt;
      room = old;
      more = more_free;
      does = (refl, server, place, bytes, chain, within, kept);
      listed = listed;
    }

  -- the own stream was struck off and the room was made before
  pub decided_more : (mid new : ServerState) (before after : Ranged) (found : List FoundWord) (x : Selected) → HasMoreRoom (rested seat old) mid → listed_for seat (tasks_of mid) ≡ [] → Decided seat who key select asked s mid new before after found x → Decided seat who key select asked s old new before after found x
  decided_more mid new before after found x more free d =
      let k = keeps_both old (rested seat old) mid (rested_keeps seat old) (more_keeps (rested seat old) mid more) in
      record {
        chosen = subst (λ (p : Options × Journal). IsChosen (answering_asked p.0 asked s p.1 key) (reason_by p.0 s asked select p.1 key) x) (λ i. (k.options i, k.events i)) d.chosen;
        plan = subst (λ j. HasPlan (given s j select) x) k.events d.plan;
        room = d.room;
        more = more_trans (rested seat old) mid d.room more (more_rested seat mid d.room free d.more);
        does = d.does;
        listed = d.listed;
      }

-- ---- the holding

module _ {K : Ghosts ServerState Event} where
  -- words that were read behind a change of the value alone
  pub finds_behind : (h k m : Held ServerState Event K) (found : List FoundWord) → SameHolder h k → Finds k (with_ranges m k.ranges) found → Finds h (with_ranges m h.ranges) found
  finds_behind h k m found s t = record {
    seat = t.seat ∙ s.seat;
    turn = t.turn ∙ s.turn;
    holder = t.holder
        ∙ (λ i. with_found (with_holding (s.holder i) (Holds (taken k) (words m))) (found ++ (s.holder i).found))
        ∙ ap (λ b. with_found (with_holding (holder h) (Holds b (words m))) (found ++ (holder h).found)) (taken_is h k s);
    ranges = refl;
  }
