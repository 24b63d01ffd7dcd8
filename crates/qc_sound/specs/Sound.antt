-- When a server is sound over the words of its region.
use Rattle.std.specs.Prelude.{◌≡◌, ℕ, ◌*◌, ◌≤◌, List, [], length, unwrap_or, IsSomeAnd, IfSome}
use Rattle.qc_types.specs.declared.options.Options.{Options}
use Rattle.qc_model.specs.Journal.{Journal, present}
use Rattle.qc_model.specs.Cache.{cache, entry_of}
use Rattle.qc_model.specs.Session.{answer}
use Rattle.qc_model.specs.Licence.{region_words, unit_words}
use Rattle.qc_laws.specs.history.Runs.{IsStarted}
use Rattle.qc_turn.specs.Words.{StartsWith}
use Rattle.qc_sound.specs.PlainServer.{PlainServer}
use Rattle.qc_sound.specs.Moment.{Moment}
use Rattle.qc_sound.specs.parts.Journal.{JournalIsSound}
use Rattle.qc_sound.specs.parts.Directory.{DirectoryIsSound}
use Rattle.qc_sound.specs.parts.Memory.{MemoryIsSound}
use Rattle.qc_sound.specs.parts.Contents.{ContentsAreSound}
use Rattle.qc_sound.specs.parts.Tasks.{TasksAreSound}

-- options as they are taken: the region is whole words, and a unit too, which is at least a least block
pub record AreRounded (options : Options) : Type 0 where
  pub size : options.size ≡ 8 * region_words options
  pub unit : options.unit ≡ 8 * unit_words options
  pub least : 64 ≤ unit_words options

pub record IsSound (m : Moment) (words : List ℕ) (s : PlainServer) : Type 0 where
  pub rounded : AreRounded s.options
  pub region : length words ≡ region_words s.options
  pub journal : JournalIsSound m s
  pub directory : DirectoryIsSound m.hash s.entries (cache s.journal)
  pub memory : MemoryIsSound m s
  pub contents : ContentsAreSound words s.chains s.journal s.entries (cache s.journal)
  pub tasks : TasksAreSound s

-- ---- the bytes of a fill

pub record FitsFill (journal : Journal) (n : ℕ) (bytes : List ℕ) : Type 0 where
  pub start : IsStarted journal n
  -- they begin what its entry answered at its start
  pub front : StartsWith (unwrap_or (answer start.key (present start.earlier)) []) bytes
  -- and, where the entry is in the cache, what it answers now
  pub now : IfSome (entry_of n (cache journal)) (λ entry. IsSomeAnd (answer entry.key (present journal)) (λ all. StartsWith all bytes))
