-- The fourth part of soundness: what the words of the region spell.
use Rattle.std.specs.Prelude.{◌≡◌, ℕ, true, List, [], ◌∷◌, take, Some}
use Rattle.std.specs.List.{AllZip}
use Rattle.qc_model.specs.Journal.{Journal, present}
use Rattle.qc_model.specs.Cache.{Entry}
use Rattle.qc_model.specs.Session.{answer}
use Rattle.qc_tiles.specs.declared.blocks.Block.{Block}
use Rattle.qc_turn.specs.Blocks.{spelled}
use Rattle.qc_turn.specs.Bytes.{bytes_of}
use Rattle.qc_sound.specs.PlainServer.{StoredEntry, EntryChain, blocks_at}

-- the first bytes of the words of blocks
abbrev pub text_of : List ℕ → List Block → ℕ → List ℕ
text_of words blocks bytes = take bytes (bytes_of (spelled words blocks))

pub record IsSpelled (words : List ℕ) (chains : List EntryChain) (journal : Journal) (e : StoredEntry) (entry : Entry) : Type 0 where
  -- its text block spells its key
  pub key : text_of words (e.text ∷ []) e.text_bytes ≡ entry.key
  -- the chain of a complete entry spells what its key answers now
  pub kept_answer : e.complete ≡ true → answer entry.key (present journal) ≡ Some (text_of words (blocks_at e.serial chains) e.bytes)

abbrev pub ContentsAreSound : List ℕ → List EntryChain → Journal → List StoredEntry → List Entry → Type 0
ContentsAreSound words chains journal entries cached = AllZip (IsSpelled words chains journal) entries cached
