-- The first part of soundness: the journal and the database.
use Rattle.std.specs.Prelude.{◌≡◌, ℕ, ◌+◌, ◌≤◌, true, not, List, length, count_by}
use Rattle.std.specs.List.{list_all}
use Rattle.qc_model.specs.Journal.{present}
use Rattle.qc_model.specs.Cache.{Entry, cache}
use Rattle.qc_model.specs.Licence.{IsLawful}
use Rattle.qc_laws.specs.sizes.Operations.{is_small_event}
use Rattle.qc_sound.specs.PlainServer.{PlainServer}
use Rattle.qc_sound.specs.Moment.{Moment}
use Rattle.qc_sound.specs.Pending.{NeedsOf}

abbrev pub incomplete_count : List Entry → ℕ
incomplete_count entries = count_by (λ entry. not entry.complete) entries

-- the events that the entries may still have: each may leave by one, and one that isn't complete may be completed before
abbrev pub reserved : List Entry → ℕ
reserved entries = length entries + incomplete_count entries

pub record JournalIsSound (m : Moment) (s : PlainServer) : Type 0 where
  -- each event was licensed by those before it
  pub lawful : IsLawful s.options s.journal
  -- what commits stored is short enough for packets: a lawful journal alone doesn't bound it
  pub small : list_all is_small_event s.journal ≡ true
  -- each prune, and each run without room, had a need that a start or a fill may have
  pub needs : NeedsOf s.options m.next s.journal
  -- the database is the one that the journal's commits make
  pub database : s.database ≡ present s.journal
  -- there is room for the events that entries may still have
  pub room : reserved (cache s.journal) ≤ s.spare
