-- The second part of soundness: the directory.
use Rattle.std.specs.Prelude.{◌≡◌, ℕ, List, length}
use Rattle.std.specs.List.{AllZip}
use Rattle.qc_model.specs.Cache.{Entry}
use Rattle.qc_sound.specs.PlainServer.{StoredEntry}

-- an entry of the directory is one of the cache, under the hash of its key
pub record IsStoredAs (hash : List ℕ → ℕ) (e : StoredEntry) (entry : Entry) : Type 0 where
  pub serial : e.serial ≡ entry.serial
  pub hashed : e.hash ≡ hash entry.key
  pub text_bytes : e.text_bytes ≡ length entry.key
  pub tables : e.tables ≡ entry.tables
  pub complete : e.complete ≡ entry.complete

-- its entries are those that the journal makes, in the same order of use
abbrev pub DirectoryIsSound : (List ℕ → ℕ) → List StoredEntry → List Entry → Type 0
DirectoryIsSound hash entries cached = AllZip (IsStoredAs hash) entries cached
