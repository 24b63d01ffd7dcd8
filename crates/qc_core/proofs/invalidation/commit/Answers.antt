use Rattle.std.proofs.Common.{◌≡◌, ◌<◌, ◌≤◌, true, arith, sym, subst}
use Rattle.std.specs.Prelude.{OnOk, OnErr}
use Rattle.qc_types.specs.Answers.{Gives}
use Rattle.qc_sql.specs.Database.{apply}
use Rattle.qc_table.specs.declared.database.TableFull.{TableFull}
use Rattle.qc_table.specs.Fitting.{fitting}
use Rattle.qc_model.specs.Licence.{ops_fit}
use Rattle.qc_turn.specs.Views.{idle_of}
use Rattle.qc_turn.specs.Seats.{words, holder}
use Rattle.qc_core.specs.declared.server_state.ServerState.{ServerState}
use Rattle.qc_core.specs.EntriesCut.{HasSoundBlocks}
use Rattle.qc_core.specs.Invalidation.{EntriesHaveTables, IsCommitted}
use Rattle.qc_core.proofs.Standing.{value_stands}
use Rattle.qc_core.proofs.Resetting.{sound_blocks}
use Rattle.qc_core.proofs.Committing.{have_tables, commit_any}
use Rattle.qc_core.proofs.invalidation.commit.Goals as goal

pub commit-requires-clause-blocks : goal.commit-requires-clause-blocks
commit-requires-clause-blocks c = let h = c.args.held.now in subst HasSoundBlocks (sym c.value.ensures.value) (sound_blocks (words h) h.value c.requires.stands.sound)

pub commit-requires-clause-tables : goal.commit-requires-clause-tables
commit-requires-clause-tables c = let h = c.args.held.now in subst EntriesHaveTables (sym c.value.ensures.value) (have_tables (words h) h.value c.requires.stands.sound)

pub commit-requires-clause-fit : goal.commit-requires-clause-fit
commit-requires-clause-fit c = subst (λ (s : ServerState). ops_fit c.args.ops s.database ≡ true) (sym c.value.ensures.value) c.requires.fit

pub commit-requires-clause-room : goal.commit-requires-clause-room
commit-requires-clause-room c = let room = c.requires.room in subst (λ (s : ServerState). 1 ≤ s.journal.spare) (sym c.value.ensures.value) (omega (arith, room))

pub returns-clause-stands : goal.returns-clause-stands
returns-clause-stands c =
    let h = c.args.held.now in
    let x = c.commit.new.self in
    let n = c.requires.next in
    let ps : 0 < (holder h).number = omega (arith, h.seat.now.numbered.0, h.seat.now.numbered.1) in
    let told = subst (λ (s : ServerState). Gives (λ number. x.database) (λ (full : TableFull). full.table) c.commit.result (fitting (apply c.args.ops s.database)) × OnOk c.commit.result (IsCommitted c.args.who c.args.ops s x) × OnErr c.commit.result (x ≡ s)) c.value.ensures.value (c.commit.ensures.made, c.commit.ensures.committed, c.commit.ensures.kept) in
    let left = commit_any (words h) h.value x c.args.who c.args.ops (holder h).number (idle_of (holder h).found) c.commit.result c.requires.stands.sound ps n.session n.number n.free c.requires.room c.requires.some c.requires.fit c.requires.small told.0 told.1 told.2 in
    value_stands h x c.requires.stands left.sound left.follows

pub returns-clause-made : goal.returns-clause-made
returns-clause-made c = let x = c.commit.new.self in subst (λ (s : ServerState). Gives (λ number. x.database) (λ (full : TableFull). full.table) c.commit.result (fitting (apply c.args.ops s.database))) c.value.ensures.value c.commit.ensures.made

pub returns-clause-committed : goal.returns-clause-committed
returns-clause-committed c = subst (λ (s : ServerState). OnOk c.commit.result (IsCommitted c.args.who c.args.ops s c.commit.new.self)) c.value.ensures.value c.commit.ensures.committed

pub returns-clause-kept : goal.returns-clause-kept
returns-clause-kept c = subst (λ (s : ServerState). OnErr c.commit.result (c.commit.new.self ≡ s)) c.value.ensures.value c.commit.ensures.kept

pub returns-clause-listed : goal.returns-clause-listed
returns-clause-listed c =
    let h = c.args.held.now in
    let x = c.commit.new.self in
    let n = c.requires.next in
    let ps : 0 < (holder h).number = omega (arith, h.seat.now.numbered.0, h.seat.now.numbered.1) in
    let told = subst (λ (s : ServerState). Gives (λ number. x.database) (λ (full : TableFull). full.table) c.commit.result (fitting (apply c.args.ops s.database)) × OnOk c.commit.result (IsCommitted c.args.who c.args.ops s x) × OnErr c.commit.result (x ≡ s)) c.value.ensures.value (c.commit.ensures.made, c.commit.ensures.committed, c.commit.ensures.kept) in
    let left = commit_any (words h) h.value x c.args.who c.args.ops (holder h).number (idle_of (holder h).found) c.commit.result c.requires.stands.sound ps n.session n.number n.free c.requires.room c.requires.some c.requires.fit c.requires.small told.0 told.1 told.2 in
    left.listed
