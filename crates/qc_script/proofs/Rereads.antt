-- What is written of an event is read again.
use Rattle.std.proofs.Common.{◌≡◌, ℕ, ◌*◌, ◌/◌, ◌^◌, ◌<◌, Bool, true, false, List, [], ◌∷◌, ◌++◌, map, length, length-append, Ok, Option, Some, None, refl, sym, ap, subst, ◌∙◌, append_assoc, arith}
use Rattle.std.specs.Prelude.{◌==◌, codes, decimal, ℤ, IfSome}
use Rattle.std.specs.List.{AllByRecursion, slice_split}
use Rattle.std.proofs.lemmas.Bool.{ne_eqb}
use Rattle.std.proofs.lemmas.List.Splits.{slice_split_at, slice_split_none}
use Rattle.std.proofs.lemmas.List.Elements.{All-from_recursion}
use Rattle.qc_types.specs.declared.names.TableName.{TableName}
use Rattle.qc_types.specs.declared.names.Why.{Why}
use Rattle.qc_types.specs.declared.names.Why.TheVariants as why
use Rattle.qc_types.specs.declared.totals.Totals.{Totals}
use Rattle.qc_model.specs.declared.events.Who.{Who}
use Rattle.qc_model.specs.declared.events.How.{How}
use Rattle.qc_model.specs.declared.events.How.TheVariants as how
use Rattle.qc_model.specs.declared.events.Reason.{Reason}
use Rattle.qc_model.specs.declared.events.Reason.TheVariants as reason
use Rattle.qc_model.specs.declared.events.GoneWhy.{GoneWhy}
use Rattle.qc_model.specs.declared.events.GoneWhy.TheVariants as gone
use Rattle.qc_model.specs.ReportText.{Text, fields, listed, hex, table_text, key_text, why_fields, reason_fields, how_fields, gone_fields}
use Rattle.qc_script.specs.Told.{front, behind, behind_two, members, each, table_among, number_told, number_below, bytes_told, table_told, tables_told, key_told, who_told, why_told, not_visible_told, reason_told, start_told, totals_told, conflict_told, how_told, gone_told}
use Rattle.qc_script.specs.Tellable.{IsName, IsWho, IsWhy, IsReason, IsHow, IsGoneWhy, IsU64, IsI64}
use Rattle.qc_script.proofs.Cuts.{is_byte, Lacks, AllLack, ArePlain, lacks_both, front_at, behind_at, front_joined, behind_joined, plain_lacks_low, plain_lacks_point, plain_lacks_colon, plain_word, are_plain, plain_decimal, plain_signed, plain_hex, minus_plain}
use Rattle.qc_script.proofs.Numbers.{number_again, below_again, signed_again, signed_no_dash, bytes_again}

-- ---- fields

-- a text's first field, and those behind it
pub record Cut (t first rest : Text) : Type 0 where
  pub front : front 32 t ≡ first
  pub behind : behind 32 t ≡ rest

pub lacks_cut : (a : Text) (ts : List Text) → Lacks 32 a → Cut (fields (a ∷ ts)) a (fields ts)
lacks_cut a ts lacks = record { front = front_joined 32 a ts lacks; behind = behind_joined 32 a ts lacks }

pub plain_cut : (a : Text) (ts : List Text) → ArePlain a → Cut (fields (a ∷ ts)) a (fields ts)
plain_cut a ts plain = lacks_cut a ts (plain_lacks_low 32 (omega arith) a plain)

pub word_cut : (a : Text) (ts : List Text) → are_plain a ≡ true → Cut (fields (a ∷ ts)) a (fields ts)
word_cut a ts plain = plain_cut a ts (plain_word a plain)

pub number_cut : (n : ℕ) (ts : List Text) → IsU64 n → Cut (fields (decimal n ∷ ts)) (decimal n) (fields ts)
number_cut n ts lt = plain_cut (decimal n) ts (plain_decimal n lt)

-- ---- names of tables

-- a name's text, with its point
table_is : (t : TableName) → table_text t ≡ hex t.db ++ 46 ∷ hex t.name
table_is t = append_assoc (hex t.db) (codes ".") (hex t.name)

pub table_lacks : (c : ℕ) → c < 45 → (t : TableName) → IsName t → Lacks c (table_text t)
table_lacks c low t is =
    let apart : is_byte c 46 ≡ false = ne_eqb 46 c (λ e. omega (arith, low, e)) in
    subst (Lacks c) (sym (table_is t)) (lacks_both c (hex t.db) (46 ∷ hex t.name) (plain_lacks_low c low (hex t.db) (plain_hex t.db is.db)) (apart, plain_lacks_low c low (hex t.name) (plain_hex t.name is.name)))

pub table_lacks_colon : (t : TableName) → IsName t → Lacks 58 (table_text t)
table_lacks_colon t is =
    subst (Lacks 58) (sym (table_is t)) (lacks_both 58 (hex t.db) (46 ∷ hex t.name) (plain_lacks_colon (hex t.db) (plain_hex t.db is.db)) (refl, plain_lacks_colon (hex t.name) (plain_hex t.name is.name)))

table_from : (t db name : Text) (x : TableName) → front 46 t ≡ db → behind 46 t ≡ name → bytes_told db ≡ Ok x.db → bytes_told name ≡ Ok x.name → table_told t ≡ Ok x
unfolding table_told
table_from t db name x a b c d = rw (a, b, c, d) refl

pub table_again : (t : TableName) → IsName t → table_told (table_text t) ≡ Ok t
table_again t is =
    let point = plain_lacks_point (hex t.db) (plain_hex t.db is.db) in
    table_from (table_text t) (hex t.db) (hex t.name) t (ap (front 46) (table_is t) ∙ front_at 46 (hex t.db) (hex t.name) point) (ap (behind 46) (table_is t) ∙ behind_at 46 (hex t.db) (hex t.name) point) (bytes_again t.db is.db) (bytes_again t.name is.name)

-- ---- lists

is_comma : ℕ → Bool
is_comma c = c == 44

parts_of : (t : Text) (ts : List Text) → AllLack 44 (t ∷ ts) → slice_split (λ c. c == 44) (listed (t ∷ ts)) ≡ t ∷ ts
parts_of t [] all = slice_split_none (λ c. c == 44) t (All-from_recursion (λ x. (x == 44) ≡ false) t all.0)
parts_of t (u ∷ us) all =
    slice_split_at (λ c. c == 44) t 44 (listed (u ∷ us)) (All-from_recursion (λ x. (x == 44) ≡ false) t all.0) refl
    ∙ ap (λ (rest : List Text). t ∷ rest) (parts_of u us all.1)

pub members_are : (t : Text) → 0 < length t → members t ≡ slice_split (λ c. c == 44) t
members_are [] some = absurd (omega arith)
members_are (b ∷ t) some = refl

joined_some : (t : Text) (ts : List Text) → 0 < length t → 0 < length (listed (t ∷ ts))
joined_some t [] some = some
joined_some t (u ∷ us) some = omega (arith, length-append t (44 ∷ listed (u ∷ us)))

pub members_again : (t : Text) (ts : List Text) → 0 < length t → AllLack 44 (t ∷ ts) → members (listed (t ∷ ts)) ≡ t ∷ ts
members_again t ts some all = members_are (listed (t ∷ ts)) (joined_some t ts some) ∙ parts_of t ts all

hex_some : (bs : Text) → 0 < length (hex bs)
hex_some [] = omega arith
hex_some (b ∷ bs) = omega arith

table_some : (t : TableName) → 0 < length (table_text t)
table_some t =
    let whole : length (table_text t) ≡ length (hex t.db ++ 46 ∷ hex t.name) = ap length (table_is t) in
    omega (arith, whole, hex_some t.db, length-append (hex t.db) (46 ∷ hex t.name))

pub tables_lack : (c : ℕ) → c < 45 → (ts : List TableName) → AllByRecursion IsName ts → AllLack c (map table_text ts)
tables_lack c low [] all = tt
tables_lack c low (t ∷ ts) all = (table_lacks c low t all.0, tables_lack c low ts all.1)

each_table : (ts : List TableName) → AllByRecursion IsName ts → each table_among tt (map table_text ts) ≡ Ok (ts, tt)
unfolding each
each_table [] all = refl
each_table (t ∷ ts) all = rw (table_again t all.0, each_table ts all.1) refl

table_members : (ts : List TableName) → AllByRecursion IsName ts → members (listed (map table_text ts)) ≡ map table_text ts
table_members [] all = refl
table_members (t ∷ ts) all = members_again (table_text t) (map table_text ts) (table_some t) (tables_lack 44 (omega arith) (t ∷ ts) all)

pub tables_again : (ts : List TableName) → AllByRecursion IsName ts → tables_told (listed (map table_text ts)) ≡ Ok ts
unfolding tables_told
tables_again ts all = rw (table_members ts all, each_table ts all) refl

-- ---- events

who_from : (t a u b v : Text) (w : Who) → Cut t a u → Cut u b v → number_below (2 ^ 8) a ≡ Ok w.session → number_told b ≡ Ok w.number → who_told t ≡ Ok w
unfolding who_told
who_from t a u b v w c d e f = rw (c.front, c.behind, d.front, e, f) refl

pub who_again : (w : Who) (ts : List Text) → IsWho w → who_told (fields (decimal w.session ∷ decimal w.number ∷ ts)) ≡ Ok w
who_again w ts is =
    who_from _ _ _ _ _ w (number_cut w.session (decimal w.number ∷ ts) (omega (arith, is.session))) (number_cut w.number ts is.number)
    (below_again (2 ^ 8) w.session (omega (arith, is.session)) is.session) (number_again w.number is.number)

pub behind_two_from : (t a u b v : Text) → Cut t a u → Cut u b v → behind_two t ≡ v
behind_two_from t a u b v c d = rw c.behind d.behind

pub behind_who : (w : Who) (ts : List Text) → IsWho w → behind_two (fields (decimal w.session ∷ decimal w.number ∷ ts)) ≡ fields ts
behind_who w ts is = behind_two_from _ _ _ _ _ (number_cut w.session (decimal w.number ∷ ts) (omega (arith, is.session))) (number_cut w.number ts is.number)

-- ---- reasons

module _ (t u : Text) where
  error_from : (n : ℕ) → Cut t (codes "error") u → number_below (2 ^ 16) u ≡ Ok n → reason_told t ≡ Ok (reason.Error n)
  unfolding reason_told
  error_from n c e = rw (c.front, c.behind, e) refl

  off_from : Cut t (codes "off") u → reason_told t ≡ Ok reason.Off
  unfolding reason_told
  off_from c = rw c.front refl

  notasked_from : Cut t (codes "notasked") u → reason_told t ≡ Ok reason.NotAsked
  unfolding reason_told
  notasked_from c = rw c.front refl

  written_from : (x : TableName) → Cut t (codes "written") u → table_told u ≡ Ok x → reason_told t ≡ Ok (reason.Written x)
  unfolding reason_told
  written_from x c e = rw (c.front, c.behind, e) refl

  rival_from : (n : ℕ) → Cut t (codes "rival") u → number_told u ≡ Ok n → reason_told t ≡ Ok (reason.Rival n)
  unfolding reason_told
  rival_from n c e = rw (c.front, c.behind, e) refl

  noroom_from : (a v : Text) (n m : ℕ) → Cut t (codes "noroom") u → Cut u a v → number_below (2 ^ 32) a ≡ Ok n → number_below (2 ^ 32) v ≡ Ok m → reason_told t ≡ Ok (reason.NoRoom n m)
  unfolding reason_told
  noroom_from a v n m c d e f = rw (c.front, c.behind, d.front, d.behind, e, f) refl

  notvisible_from : (a v b w : Text) (x : TableName) (n m : ℕ) → Cut t (codes "notvisible") u → Cut u a v → Cut v b w → table_told a ≡ Ok x → number_told b ≡ Ok n → number_told w ≡ Ok m
      → reason_told t ≡ Ok (reason.NotVisible x n m)
  unfolding reason_told not_visible_told
  notvisible_from a v b w x n m c d d2 e f g = rw (c.front, c.behind, d.front, d.behind, d2.front, d2.behind, e, f, g) refl

  locking_from : Cut t (codes "locking") u → reason_told t ≡ Ok (reason.Rule why.Locking)
  unfolding reason_told why_told
  locking_from c = rw c.front refl

  notables_from : Cut t (codes "notables") u → reason_told t ≡ Ok (reason.Rule why.NoTables)
  unfolding reason_told why_told
  notables_from c = rw c.front refl

  systemtable_from : (x : TableName) → Cut t (codes "systemtable") u → table_told u ≡ Ok x → reason_told t ≡ Ok (reason.Rule (why.SystemTable x))
  unfolding reason_told why_told
  systemtable_from x c e = rw (c.front, c.behind, e) refl

  called_from : (x : Text) → Cut t (codes "function") u → bytes_told u ≡ Ok x → reason_told t ≡ Ok (reason.Rule (why.Function x))
  unfolding reason_told why_told
  called_from x c e = rw (c.front, c.behind, e) refl

below_32 : (n : ℕ) → n < 2 ^ 32 → number_below (2 ^ 32) (decimal n) ≡ Ok n
below_32 n lt = below_again (2 ^ 32) n (omega arith) lt

narrow : (n : ℕ) → n < 2 ^ 32 → IsU64 n
narrow n lt = omega arith

why_again : (y : Why) → IsWhy y → reason_told (fields (why_fields y)) ≡ Ok (reason.Rule y)
why_again why.Locking is = locking_from _ _ (word_cut (codes "locking") [] refl)
why_again why.NoTables is = notables_from _ _ (word_cut (codes "notables") [] refl)
why_again (why.SystemTable t) is = systemtable_from _ _ t (word_cut (codes "systemtable") (table_text t ∷ []) refl) (table_again t is)
why_again (why.Function name) is = called_from _ _ name (word_cut (codes "function") (hex name ∷ []) refl) (bytes_again name is)

pub reason_again : (y : Reason) → IsReason y → reason_told (fields (reason_fields y)) ≡ Ok y
reason_again (reason.Error code) is = error_from _ _ code (word_cut (codes "error") (decimal code ∷ []) refl) (below_again (2 ^ 16) code (omega (arith, is)) is)
reason_again reason.Off is = off_from _ _ (word_cut (codes "off") [] refl)
reason_again reason.NotAsked is = notasked_from _ _ (word_cut (codes "notasked") [] refl)
reason_again (reason.Rule y) is = why_again y is
reason_again (reason.Written t) is = written_from _ _ t (word_cut (codes "written") (table_text t ∷ []) refl) (table_again t is)
reason_again (reason.NotVisible t changed snapshot) is =
    notvisible_from _ _ _ _ _ _ t changed snapshot (word_cut (codes "notvisible") (table_text t ∷ decimal changed ∷ decimal snapshot ∷ []) refl)
    (lacks_cut (table_text t) (decimal changed ∷ decimal snapshot ∷ []) (table_lacks 32 (omega arith) t is.0)) (number_cut changed (decimal snapshot ∷ []) is.1)
    (table_again t is.0) (number_again changed is.1) (number_again snapshot is.2)
reason_again (reason.Rival serial) is = rival_from _ _ serial (word_cut (codes "rival") (decimal serial ∷ []) refl) (number_again serial is)
reason_again (reason.NoRoom need largest) is =
    noroom_from _ _ _ _ need largest (word_cut (codes "noroom") (decimal need ∷ decimal largest ∷ []) refl) (number_cut need (decimal largest ∷ []) (narrow need is.0))
    (below_32 need is.0) (below_32 largest is.1)

-- ---- how a command ran

key_again : (k : Option ℤ) → IfSome k IsI64 → key_told (key_text k) ≡ Ok k
unfolding key_told
key_again None is = refl
key_again (Some z) is = rw (signed_no_dash z is, signed_again z is) refl

pub key_plain : (k : Option ℤ) → IfSome k IsI64 → ArePlain (key_text k)
key_plain None is = (minus_plain, tt)
key_plain (Some z) is = plain_signed z is

module _ (t u : Text) where
  hit_from : (n : ℕ) → Cut t (codes "hit") u → number_told u ≡ Ok n → how_told t ≡ Ok (how.Hit n)
  unfolding how_told
  hit_from n c e = rw (c.front, c.behind, e) refl

  plain_from : (y : Reason) → Cut t (codes "plain") u → reason_told u ≡ Ok y → how_told t ≡ Ok (how.Plain y)
  unfolding how_told
  plain_from y c e = rw (c.front, c.behind, e) refl

  other_from : Cut t (codes "other") u → how_told t ≡ Ok how.Other
  unfolding how_told
  other_from c = rw c.front refl

  start_from : (a v b w : Text) (n : ℕ) (k : Text) (ts : List TableName) → Cut t (codes "start") u → Cut u a v → Cut v b w → number_told a ≡ Ok n → bytes_told b ≡ Ok k → tables_told w ≡ Ok ts
      → how_told t ≡ Ok (how.Start n k ts)
  unfolding how_told start_told
  start_from a v b w n k ts c d d2 e f g = rw (c.front, c.behind, d.front, d.behind, d2.front, d2.behind, e, f, g) refl

  status_from : (a v b w : Text) (blocks free bytes : ℕ) (x : Totals) → bytes / 8 ≡ x.free_words → Cut t (codes "status") u → Cut u a v → Cut v b w
      → number_below (2 ^ 32) a ≡ Ok x.blocks → number_below (2 ^ 32) b ≡ Ok x.free_blocks → number_below (2 ^ 35) w ≡ Ok bytes → how_told t ≡ Ok (how.Status x)
  unfolding how_told totals_told
  status_from a v b w blocks free bytes x words c d d2 e f g = rw (c.front, c.behind, d.front, d.behind, d2.front, d2.behind, e, f, g, words) refl

  conflict_from : (a v b w : Text) (x : TableName) (k : Option ℤ) (n : ℕ) → Cut t (codes "conflict") u → Cut u a v → Cut v b w → table_told a ≡ Ok x → key_told b ≡ Ok k → number_told w ≡ Ok n
      → how_told t ≡ Ok (how.Conflict x k n)
  unfolding how_told conflict_told
  conflict_from a v b w x k n c d d2 e f g = rw (c.front, c.behind, d.front, d.behind, d2.front, d2.behind, e, f, g) refl

pub how_again : (h : How) → IsHow h → how_told (fields (how_fields h)) ≡ Ok h
how_again (how.Hit serial) is = hit_from _ _ serial (word_cut (codes "hit") (decimal serial ∷ []) refl) (number_again serial is)
how_again (how.Start serial key tables) is =
    start_from _ _ _ _ _ _ serial key tables (word_cut (codes "start") (decimal serial ∷ hex key ∷ listed (map table_text tables) ∷ []) refl)
    (number_cut serial (hex key ∷ listed (map table_text tables) ∷ []) is.0) (plain_cut (hex key) (listed (map table_text tables) ∷ []) (plain_hex key is.1))
    (number_again serial is.0) (bytes_again key is.1) (tables_again tables is.2)
how_again (how.Plain y) is = plain_from _ _ y (word_cut (codes "plain") (reason_fields y) refl) (reason_again y is)
how_again how.Other is = other_from _ _ (word_cut (codes "other") [] refl)
how_again (how.Status x) is =
    let bytes : ℕ = 8 * x.free_words in
    status_from _ _ _ _ _ _ x.blocks x.free_blocks bytes x (omega arith)
    (word_cut (codes "status") (decimal x.blocks ∷ decimal x.free_blocks ∷ decimal bytes ∷ []) refl)
    (number_cut x.blocks (decimal x.free_blocks ∷ decimal bytes ∷ []) (narrow x.blocks is.blocks)) (number_cut x.free_blocks (decimal bytes ∷ []) (narrow x.free_blocks is.free_blocks))
    (below_32 x.blocks is.blocks) (below_32 x.free_blocks is.free_blocks) (below_again (2 ^ 35) bytes (omega (arith, is.free_words)) (omega (arith, is.free_words)))
how_again (how.Conflict t key by) is =
    conflict_from _ _ _ _ _ _ t key by (word_cut (codes "conflict") (table_text t ∷ key_text key ∷ decimal by ∷ []) refl)
    (lacks_cut (table_text t) (key_text key ∷ decimal by ∷ []) (table_lacks 32 (omega arith) t is.0)) (plain_cut (key_text key) (decimal by ∷ []) (key_plain key is.1))
    (table_again t is.0) (key_again key is.1) (number_again by is.2)

-- ---- why an entry is gone

module _ (t u a v : Text) where
  toolarge_from : (n m : ℕ) → Cut t (codes "toolarge") u → Cut u a v → number_told a ≡ Ok n → number_below (2 ^ 32) v ≡ Ok m → gone_told t ≡ Ok (gone.TooLarge n m)
  unfolding gone_told
  toolarge_from n m c d e f = rw (c.front, c.behind, d.front, d.behind, e, f) refl

  gone_noroom_from : (n m : ℕ) → Cut t (codes "noroom") u → Cut u a v → number_below (2 ^ 32) a ≡ Ok n → number_below (2 ^ 32) v ≡ Ok m → gone_told t ≡ Ok (gone.NoRoom n m)
  unfolding gone_told
  gone_noroom_from n m c d e f = rw (c.front, c.behind, d.front, d.behind, e, f) refl

  ended_from : Cut t (codes "ended") u → gone_told t ≡ Ok gone.Ended
  unfolding gone_told
  ended_from c = rw c.front refl

pub gone_again : (y : GoneWhy) → IsGoneWhy y → gone_told (fields (gone_fields y)) ≡ Ok y
gone_again (gone.TooLarge size limit) is =
    toolarge_from _ _ _ _ size limit (word_cut (codes "toolarge") (decimal size ∷ decimal limit ∷ []) refl) (number_cut size (decimal limit ∷ []) is.0) (number_again size is.0) (below_32 limit is.1)
gone_again (gone.NoRoom need largest) is =
    gone_noroom_from _ _ _ _ need largest (word_cut (codes "noroom") (decimal need ∷ decimal largest ∷ []) refl) (number_cut need (decimal largest ∷ []) (narrow need is.0)) (below_32 need is.0) (below_32 largest is.1)
gone_again gone.Ended is = ended_from _ _ [] [] (word_cut (codes "ended") [] refl)
