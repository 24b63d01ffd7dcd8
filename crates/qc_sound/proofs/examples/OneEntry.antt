-- A server that keeps one entry: a table's block, the block of the answer and that of the key stand one behind the other, and the rest is free.
use Rattle.std.proofs.Common.{◌≡◌, ℕ, ◌++◌, List, [], ◌∷◌, Bool, true, false, refl, arith, replicate, take, true≢false}
use Rattle.std.specs.Prelude.{◌||◌}
use Rattle.std.specs.Fmt.{digits}
use Rattle.std.proofs.lemmas.List.Sorted.{IsPermutation-append_comm}
use Rattle.qc_types.specs.declared.names.TableName.{TableName}
use Rattle.qc_types.specs.declared.options.Options.{Options}
use Rattle.qc_sql.specs.Database.{same_table}
use Rattle.qc_sql.specs.Packets.{packet, encoded_integer, encoded_string}
use Rattle.qc_sql.specs.Tokens.{lexed, trimmed}
use Rattle.qc_sql.specs.Reading.{is_reserved, opened}
use Rattle.qc_sql.specs.Grammar.{meaning, head_of, alias, any_statement, any_text, at_end, cache_word, call_word, column, condition, dotted, ends_value, from, from_part, item, items, joined, limit_part, literal, lock_part, look, member_at, one_too_many, order_part, select, signed, source, table, where_part, whole, call_at, bare_literal, other_statement, one_word, is_unsupported, is_aggregate_word, is_plain_call, is_uncached_call}
use Rattle.qc_sql.specs.Rows.{rows, rows_over}
use Rattle.qc_model.specs.declared.events.Event.TheVariants as event
use Rattle.qc_model.specs.Journal.{present}
use Rattle.qc_model.specs.Cache.{cache}
use Rattle.qc_model.specs.Session.{answer_packets}
use Rattle.qc_model.specs.Licence.{IsLawful}
use Rattle.qc_laws.specs.history.Runs.{IsStarted}
use Rattle.qc_tiles.specs.declared.blocks.Block.{Block}
use Rattle.qc_tiles.specs.Tiles.{tile, free_tile}
use Rattle.qc_model.proofs.FirstRun.{t, id, who, key, journal}
use Rattle.qc_sound.specs.PlainServer.{PlainServer}
use Rattle.qc_sound.specs.Moment.{at_rest}
use Rattle.qc_sound.specs.parts.Journal.{JournalIsSound}
use Rattle.qc_sound.specs.parts.Memory.{ChainFits, TilesAreSound}
use Rattle.qc_sound.specs.parts.Contents.{ContentsAreSound}
use Rattle.qc_sound.specs.Sound.{IsSound}

options : Options
options = record { size = 2048; limit = 1048576; unit = 512; kind = 1 }

-- the words of the region: nothing, the answer, the key, nothing
words : List ℕ
words = replicate 64 0 ++ ((31890148950017 ∷ 100206631008338690 ∷ 7566720726111355252 ∷ 85903477860 ∷ 1407374883554056 ∷ 144117387115758336 ∷ 5733798379520 ∷ 8589999621 ∷ []) ++ replicate 56 0) ++ ((18374686621422347265 ∷ 72057594037927935 ∷ 2329560872168805120 ∷ 2327603797202855017 ∷ 116 ∷ []) ++ replicate 59 0) ++ replicate 64 0

server : PlainServer
server = record {
  options = options;
  journal = journal;
  spare = 1;
  database = present journal;
  entries = record { serial = 1; hash = 9; text = record { first = 128; words = 64 }; text_bytes = 33; tables = t ∷ []; bytes = 62; complete = true; users = 0 } ∷ [];
  chains = record { serial = 1; blocks = record { first = 64; words = 64 } ∷ [] } ∷ [];
  table_blocks = (t, record { first = 0; words = 64 }) ∷ [];
  tiles = tile 0 64 false false ∷ tile 64 64 false false ∷ tile 128 64 false false ∷ free_tile 192 64 ∷ [];
  connected = 2 ∷ [];
  tasks = [];
}

lawful : IsLawful options journal
unfolding options journal who t id key meaning lexed any_text whole any_statement other_statement one_word is_unsupported select cache_word items item call_at call_word is_aggregate_word is_plain_call is_uncached_call column dotted ends_value alias from_part from source table joined where_part condition member_at order_part limit_part lock_part at_end look literal bare_literal signed one_too_many head_of trimmed rows rows_over answer_packets packet encoded_integer encoded_string digits is_reserved opened
lawful = ((record { next = refl; not_filling = refl }, record { some = omega arith; fit = refl; not_full = refl }, refl), ((record { next = refl; not_filling = refl }, tt), ((record { next = refl; not_filling = refl }, record { some = omega arith; fit = refl; not_full = refl }, refl), ((record { next = refl; not_filling = refl }, record { some = omega arith; fit = refl; not_full = refl }, refl), ((record { next = refl; not_filling = refl }, record { next = refl; has_answer = refl; of_select = refl; no_other = refl; has_region = omega arith }), ((refl, omega arith), tt))))))

abbrev block : ℕ → Block
block first = record { first = first; words = 64 }

start : IsStarted journal 1
unfolding journal t id who key
start = record { who = who 5; key = key; tables = t ∷ []; earlier = take 4 journal; later = event.Done 1 ∷ []; split = refl }

fits : ChainFits options journal (record { serial = 1; blocks = block 64 ∷ [] })
unfolding options journal who t id key start meaning lexed any_text whole any_statement other_statement one_word is_unsupported select cache_word items item call_at call_word is_aggregate_word is_plain_call is_uncached_call column dotted ends_value alias from_part from source table joined where_part condition member_at order_part limit_part lock_part at_end look literal bare_literal signed one_too_many head_of trimmed rows rows_over answer_packets packet encoded_integer encoded_string digits is_reserved opened
fits = record { first = omega arith; small = (omega arith, tt); full = tt; start = start; needed = omega arith }

recorded : JournalIsSound (at_rest (λ _. 9)) server
unfolding server journal who t id key
recorded = record { lawful = lawful; small = refl; needs = tt; database = refl; room = omega arith }

tiled : TilesAreSound (at_rest (λ _. 9)) server
unfolding server options
tiled = record {
  tiling = record { covers = (refl, (refl, (refl, (refl, refl)))); large = (omega arith, (omega arith, (omega arith, (omega arith, tt)))); apart = (λ h. refl, (λ h. refl, (λ h. absurd (cc h), tt))); unpinned = (λ h. refl, (λ h. refl, (λ h. refl, (λ h. refl, tt)))) };
  in_use = IsPermutation-append_comm (block 0 ∷ block 64 ∷ []) (block 128 ∷ []);
  pinned = λ b. (λ h. h, λ h. h);
}

spelled : ContentsAreSound words server.chains server.journal server.entries (cache server.journal)
unfolding words server journal who t id key meaning lexed any_text whole any_statement other_statement one_word is_unsupported select cache_word items item call_at call_word is_aggregate_word is_plain_call is_uncached_call column dotted ends_value alias from_part from source table joined where_part condition member_at order_part limit_part lock_part at_end look literal bare_literal signed one_too_many head_of trimmed rows rows_over answer_packets packet encoded_integer encoded_string digits is_reserved opened
spelled = (record { key = refl; kept_answer = λ _. refl }, tt)

or_none : (b : Bool) → ((b || false) || false) ≡ (b || false)
or_none true = refl
or_none false = refl

sound : IsSound (at_rest (λ _. 9)) words server
unfolding words server options journal who t id key
sound = record {
  rounded = record { size = refl; unit = refl; least = omega arith };
  region = refl;
  journal = recorded;
  directory = (record { serial = refl; hashed = refl; text_bytes = refl; tables = refl; complete = refl }, tt);
  memory = record {
    tiles = tiled;
    tables = record { named = λ n. or_none (same_table n t); once = refl; words = (omega arith, tt) };
    chains = record { apart = refl; entered = (refl, tt); wanted = (refl, tt); fitting = (fits, tt); uncut = (λ c. absurd (true≢false c), tt) };
    texts = (omega arith, tt);
  };
  contents = spelled;
  tasks = record { connected = (record { low = omega arith; high = omega arith }, tt); one_each = refl; each = tt; filled = (λ c. absurd (true≢false c), tt); users = (refl, tt) };
}
