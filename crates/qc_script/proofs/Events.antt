-- Operations and events are read again, with the tables that were made before them.
use Rattle.std.proofs.Common.{◌≡◌, ℕ, ◌^◌, ◌<◌, true, false, List, [], ◌∷◌, ◌++◌, map, length, Ok, refl, sym, ap, subst, ◌∙◌, append_assoc, arith}
use Rattle.std.specs.Prelude.{codes, decimal, ℤ}
use Rattle.std.specs.Fmt.{signed_decimal}
use Rattle.std.specs.List.{flat_map}
use Rattle.std.proofs.lemmas.Bool.{ne_eqb}
use Rattle.qc_types.specs.declared.names.TableName.{TableName}
use Rattle.qc_types.specs.declared.names.Value.{Value}
use Rattle.qc_sql.specs.Packets.{row_payload}
use Rattle.qc_sql.specs.Rows.{text_of}
use Rattle.qc_sql.specs.declared.tables.Column.{Column}
use Rattle.qc_sql.specs.declared.tables.RowOp.{RowOp}
use Rattle.qc_sql.specs.declared.tables.RowOp.TheVariants as op
use Rattle.qc_model.specs.declared.events.Who.{Who}
use Rattle.qc_model.specs.declared.events.How.{How}
use Rattle.qc_model.specs.declared.events.GoneWhy.{GoneWhy}
use Rattle.qc_model.specs.declared.events.Event.{Event}
use Rattle.qc_model.specs.declared.events.Event.TheVariants as event
use Rattle.qc_model.specs.ReportText.{Text, fields, listed, hex, table_text, op_text, column_bytes, who_fields, how_fields, gone_fields, event_fields}
use Rattle.qc_script.specs.Told.{front, behind, behind_two, members, each, number_told, number_below, bytes_told, table_told, signed_told, KindsMade, kinds_at, made_with, row_told, columns_told, put_told, create_told, del_told, change_told, op_told, ops_told, who_told, how_told, gone_told, run_told, commit_told, prune_told, gone_event_told, other_told, event_told}
use Rattle.qc_script.specs.Tellable.{AreBytes, IsName, IsU64, TellsOp, made_by, TellOps, made_by_all, TellsEvent, made_by_event}
use Rattle.qc_script.proofs.Cuts.{is_byte, Lacks, AllLack, lacks_both, front_at, behind_at, are_plain, plain_hex, plain_signed, plain_any, plain_lacks_low, plain_lacks_colon, plain_word}
use Rattle.qc_script.proofs.Numbers.{number_again, below_again, signed_again, bytes_again}
use Rattle.qc_script.proofs.Rows.{row_again, row_bytes, columns_again, columns_bytes}
use Rattle.qc_script.proofs.Rereads.{Cut, plain_cut, word_cut, number_cut, table_again, table_lacks, table_lacks_colon, members_again, who_again, behind_who, how_again, gone_again}

-- ---- operations

-- what stands behind an operation's word, and what stands behind its table there
module _ (t u name rest : Text) (x : TableName) where
  put_from : (made : KindsMade) (payload : Text) (row : List Value) → front 58 t ≡ codes "put" → behind 58 t ≡ u → front 58 u ≡ name → behind 58 u ≡ rest
      → bytes_told rest ≡ Ok payload → row_told (kinds_at (table_text x) made) payload ≡ Ok row → table_told name ≡ Ok x → op_told made t ≡ Ok (op.Put x row, made)
  unfolding op_told change_told put_told
  put_from made payload row a b c d e f g = rw (a, b, c, d, g, e, f) refl

  create_from : (made : KindsMade) (payload : Text) (columns : List Column) → front 58 t ≡ codes "create" → behind 58 t ≡ u → front 58 u ≡ name → behind 58 u ≡ rest
      → bytes_told rest ≡ Ok payload → columns_told payload ≡ Ok columns → table_told name ≡ Ok x → op_told made t ≡ Ok (op.CreateTable x columns, made_with (table_text x) columns made)
  unfolding op_told create_told
  create_from made payload columns a b c d e f g = rw (a, b, c, d, e, f, g) refl

  del_from : (made : KindsMade) (key : ℤ) → front 58 t ≡ codes "del" → behind 58 t ≡ u → front 58 u ≡ name → behind 58 u ≡ rest
      → table_told name ≡ Ok x → signed_told rest ≡ Ok key → op_told made t ≡ Ok (op.Del x key, made)
  unfolding op_told change_told del_told
  del_from made key a b c d e f = rw (a, b, c, d, e, f) refl

  drop_from : (made : KindsMade) → front 58 t ≡ codes "drop" → behind 58 t ≡ u → table_told u ≡ Ok x → op_told made t ≡ Ok (op.DropTable x, made)
  unfolding op_told change_told
  drop_from made a b c = rw (a, b, c) refl

  createdb_from : (made : KindsMade) (db : Text) → front 58 t ≡ codes "createdb" → behind 58 t ≡ u → bytes_told u ≡ Ok db → op_told made t ≡ Ok (op.CreateDb db, made)
  unfolding op_told change_told
  createdb_from made db a b c = rw (a, b, c) refl

  dropdb_from : (made : KindsMade) (db : Text) → front 58 t ≡ codes "dropdb" → behind 58 t ≡ u → bytes_told u ≡ Ok db → op_told made t ≡ Ok (op.DropDb db, made)
  unfolding op_told change_told
  dropdb_from made db a b c = rw (a, b, c) refl

module _ (w : Text) (plain : Lacks 58 w) where
  word_front : (u : Text) → front 58 (w ++ 58 ∷ u) ≡ w
  word_front u = front_at 58 w u plain

  word_behind : (u : Text) → behind 58 (w ++ 58 ∷ u) ≡ u
  word_behind u = behind_at 58 w u plain

no_table : TableName
no_table = record { db = []; name = [] }

plain_colon : (w : Text) → are_plain w ≡ true → Lacks 58 w
plain_colon w plain = plain_lacks_colon w (plain_word w plain)

-- the text of an operation on a table and more, behind its word
grouped : (w : Text) (t : TableName) (rest : Text) → w ++ 58 ∷ (table_text t ++ codes ":" ++ rest) ≡ w ++ 58 ∷ (table_text t ++ 58 ∷ rest)
grouped w t rest = ap (λ (u : Text). w ++ 58 ∷ u) (append_assoc (table_text t) (codes ":") rest)

pub op_again : (made : KindsMade) (o : RowOp) → TellsOp made o → op_told made (op_text o) ≡ Ok (o, made_by o made)
op_again made (op.Put t row) is =
    let name : Text = table_text t in
    let payload : Text = row_payload (map text_of row) in
    let rest : Text = hex payload in
    ap (op_told made) (grouped (codes "put") t rest) ∙ put_from (codes "put" ++ 58 ∷ (name ++ 58 ∷ rest)) (name ++ 58 ∷ rest) name rest t made payload row
    (word_front (codes "put") (plain_colon (codes "put") refl) (name ++ 58 ∷ rest)) (word_behind (codes "put") (plain_colon (codes "put") refl) (name ++ 58 ∷ rest))
    (word_front name (table_lacks_colon t is.0) rest) (word_behind name (table_lacks_colon t is.0) rest)
    (bytes_again payload (row_bytes (kinds_at name made) row is.1)) (row_again (kinds_at name made) row is.1) (table_again t is.0)
op_again made (op.Del t key) is =
    let name : Text = table_text t in
    let rest : Text = signed_decimal key in
    ap (op_told made) (grouped (codes "del") t rest) ∙ del_from (codes "del" ++ 58 ∷ (name ++ 58 ∷ rest)) (name ++ 58 ∷ rest) name rest t made key
    (word_front (codes "del") (plain_colon (codes "del") refl) (name ++ 58 ∷ rest)) (word_behind (codes "del") (plain_colon (codes "del") refl) (name ++ 58 ∷ rest))
    (word_front name (table_lacks_colon t is.0) rest) (word_behind name (table_lacks_colon t is.0) rest)
    (table_again t is.0) (signed_again key is.1)
op_again made (op.CreateTable t columns) is =
    let name : Text = table_text t in
    let payload : Text = flat_map column_bytes columns in
    let rest : Text = hex payload in
    ap (op_told made) (grouped (codes "create") t rest) ∙ create_from (codes "create" ++ 58 ∷ (name ++ 58 ∷ rest)) (name ++ 58 ∷ rest) name rest t made payload columns
    (word_front (codes "create") (plain_colon (codes "create") refl) (name ++ 58 ∷ rest)) (word_behind (codes "create") (plain_colon (codes "create") refl) (name ++ 58 ∷ rest))
    (word_front name (table_lacks_colon t is.0) rest) (word_behind name (table_lacks_colon t is.0) rest)
    (bytes_again payload (columns_bytes columns is.1)) (columns_again columns is.1) (table_again t is.0)
op_again made (op.DropTable t) is =
    drop_from (op_text (op.DropTable t)) (table_text t) [] [] t made
    (word_front (codes "drop") (plain_colon (codes "drop") refl) (table_text t)) (word_behind (codes "drop") (plain_colon (codes "drop") refl) (table_text t)) (table_again t is)
op_again made (op.CreateDb name) is =
    createdb_from (op_text (op.CreateDb name)) (hex name) [] [] no_table made name
    (word_front (codes "createdb") (plain_colon (codes "createdb") refl) (hex name)) (word_behind (codes "createdb") (plain_colon (codes "createdb") refl) (hex name)) (bytes_again name is)
op_again made (op.DropDb name) is =
    dropdb_from (op_text (op.DropDb name)) (hex name) [] [] no_table made name
    (word_front (codes "dropdb") (plain_colon (codes "dropdb") refl) (hex name)) (word_behind (codes "dropdb") (plain_colon (codes "dropdb") refl) (hex name)) (bytes_again name is)

-- no byte of an operation is one that stands between operations, fields or lines
module _ (c : ℕ) (low : c < 45) where
  hex_lacks : (t : Text) → AreBytes t → Lacks c (hex t)
  hex_lacks t all = plain_lacks_low c low (hex t) (plain_hex t all)

  colon_apart : is_byte c 58 ≡ false
  colon_apart = ne_eqb 58 c (λ e. omega (arith, e))

  behind_table : (w rest : Text) (t : TableName) → are_plain w ≡ true → IsName t → Lacks c rest → Lacks c (w ++ 58 ∷ (table_text t ++ 58 ∷ rest))
  behind_table w rest t plain is lacks =
      lacks_both c w (58 ∷ (table_text t ++ 58 ∷ rest)) (plain_lacks_low c low w (plain_word w plain))
      (colon_apart, lacks_both c (table_text t) (58 ∷ rest) (table_lacks c low t is) (colon_apart, lacks))

  behind_word_only : (w rest : Text) → are_plain w ≡ true → Lacks c rest → Lacks c (w ++ 58 ∷ rest)
  behind_word_only w rest plain lacks = lacks_both c w (58 ∷ rest) (plain_lacks_low c low w (plain_word w plain)) (colon_apart, lacks)

  pub op_lacks : (made : KindsMade) (o : RowOp) → TellsOp made o → Lacks c (op_text o)
  op_lacks made (op.Put t row) is =
      let payload : Text = row_payload (map text_of row) in
      subst (Lacks c) (sym (grouped (codes "put") t (hex payload))) (behind_table (codes "put") (hex payload) t refl is.0 (hex_lacks payload (row_bytes (kinds_at (table_text t) made) row is.1)))
  op_lacks made (op.Del t key) is = subst (Lacks c) (sym (grouped (codes "del") t (signed_decimal key))) (behind_table (codes "del") (signed_decimal key) t refl is.0 (plain_lacks_low c low (signed_decimal key) (plain_signed key is.1)))
  op_lacks made (op.CreateTable t columns) is =
      let payload : Text = flat_map column_bytes columns in
      subst (Lacks c) (sym (grouped (codes "create") t (hex payload))) (behind_table (codes "create") (hex payload) t refl is.0 (hex_lacks payload (columns_bytes columns is.1)))
  op_lacks made (op.DropTable t) is = behind_word_only (codes "drop") (table_text t) refl (table_lacks c low t is)
  op_lacks made (op.CreateDb name) is = behind_word_only (codes "createdb") (hex name) refl (hex_lacks name is)
  op_lacks made (op.DropDb name) is = behind_word_only (codes "dropdb") (hex name) refl (hex_lacks name is)

  pub ops_lack : (made : KindsMade) (os : List RowOp) → TellOps made os → AllLack c (map op_text os)
  ops_lack made [] is = tt
  ops_lack made (o ∷ os) is = (op_lacks made o is.0, ops_lack (made_by o made) os is.1)

op_some : (o : RowOp) → 0 < length (op_text o)
op_some (op.Put t row) = omega arith
op_some (op.Del t key) = omega arith
op_some (op.CreateTable t columns) = omega arith
op_some (op.DropTable t) = omega arith
op_some (op.CreateDb name) = omega arith
op_some (op.DropDb name) = omega arith

each_op : (made : KindsMade) (os : List RowOp) → TellOps made os → each op_told made (map op_text os) ≡ Ok (os, made_by_all os made)
unfolding each
each_op made [] is = refl
each_op made (o ∷ os) is = rw (op_again made o is.0, each_op (made_by o made) os is.1) refl

op_members : (made : KindsMade) (os : List RowOp) → TellOps made os → members (listed (map op_text os)) ≡ map op_text os
op_members made [] is = refl
op_members made (o ∷ os) is = members_again (op_text o) (map op_text os) (op_some o) (ops_lack 44 (omega arith) made (o ∷ os) is)

pub ops_again : (made : KindsMade) (os : List RowOp) → TellOps made os → ops_told made (listed (map op_text os)) ≡ Ok (os, made_by_all os made)
ops_again made os is = ap (each op_told made) (op_members made os is) ∙ each_op made os is

-- ---- events

module _ (t u : Text) where
  commit_from : (made after : KindsMade) (v w : Text) (x : Who) (os : List RowOp) → Cut t (codes "commit") u → who_told u ≡ Ok x → behind_two u ≡ v → behind 32 v ≡ w
      → ops_told made w ≡ Ok (os, after) → event_told made t ≡ Ok (event.Commit x os, after)
  unfolding event_told commit_told
  commit_from made after v w x os c a b d e = rw (c.front, c.behind, a, b, d, e) refl

  run_from : (made : KindsMade) (v : Text) (x : Who) (h : How) → Cut t (codes "run") u → who_told u ≡ Ok x → behind_two u ≡ v → how_told v ≡ Ok h → event_told made t ≡ Ok (event.Run x h, made)
  unfolding event_told other_told run_told
  run_from made v x h c a b d = rw (c.front, c.behind, a, b, d) refl

  done_from : (made : KindsMade) (n : ℕ) → Cut t (codes "done") u → number_told u ≡ Ok n → event_told made t ≡ Ok (event.Done n, made)
  unfolding event_told other_told
  done_from made n c a = rw (c.front, c.behind, a) refl

  gone_from : (made : KindsMade) (a v : Text) (n : ℕ) (y : GoneWhy) → Cut t (codes "gone") u → Cut u a v → number_told a ≡ Ok n → gone_told v ≡ Ok y → event_told made t ≡ Ok (event.Gone n y, made)
  unfolding event_told other_told gone_event_told
  gone_from made a v n y c d e f = rw (c.front, c.behind, d.front, d.behind, e, f) refl

  prune_from : (made : KindsMade) (a v b w : Text) (n m k : ℕ) → Cut t (codes "prune") u → Cut u a v → Cut v b w → number_told a ≡ Ok n → number_below (2 ^ 32) b ≡ Ok m
      → number_below (2 ^ 32) w ≡ Ok k → event_told made t ≡ Ok (event.Prune n m k, made)
  unfolding event_told other_told prune_told
  prune_from made a v b w n m k c d d2 e f g = rw (c.front, c.behind, d.front, d.behind, d2.front, d2.behind, e, f, g) refl

  reset_from : (made : KindsMade) (x : Who) → Cut t (codes "reset") u → who_told u ≡ Ok x → event_told made t ≡ Ok (event.Reset x, made)
  unfolding event_told other_told
  reset_from made x c a = rw (c.front, c.behind, a) refl

  flush_from : (made : KindsMade) (x : Who) → Cut t (codes "flush") u → who_told u ≡ Ok x → event_told made t ≡ Ok (event.Flush x, made)
  unfolding event_told other_told
  flush_from made x c a = rw (c.front, c.behind, a) refl

below_32 : (n : ℕ) → n < 2 ^ 32 → number_below (2 ^ 32) (decimal n) ≡ Ok n
below_32 n lt = below_again (2 ^ 32) n (omega arith) lt

narrow : (n : ℕ) → n < 2 ^ 32 → IsU64 n
narrow n lt = omega arith

pub event_again : (made : KindsMade) (e : Event) → TellsEvent made e → event_told made (fields (event_fields e)) ≡ Ok (e, made_by_event e made)
event_again made (event.Run w h) is =
    run_from _ _ made _ w h (word_cut (codes "run") (who_fields w ++ how_fields h) refl) (who_again w (how_fields h) is.0) (behind_who w (how_fields h) is.0) (how_again h is.1)
event_again made (event.Commit w os) is =
    let list : Text = listed (map op_text os) in
    let after : List Text = decimal (length os) ∷ list ∷ [] in
    commit_from _ _ made (made_by_all os made) _ _ w os (word_cut (codes "commit") (who_fields w ++ after) refl) (who_again w after is.0) (behind_who w after is.0)
    ((plain_cut (decimal (length os)) (list ∷ []) (plain_any (length os))).behind) (ops_again made os is.1)
event_again made (event.Done serial) is = done_from _ _ made serial (word_cut (codes "done") (decimal serial ∷ []) refl) (number_again serial is)
event_again made (event.Gone serial y) is =
    gone_from _ _ made _ _ serial y (word_cut (codes "gone") (decimal serial ∷ gone_fields y) refl) (number_cut serial (gone_fields y) is.0) (number_again serial is.0) (gone_again y is.1)
event_again made (event.Prune serial need largest) is =
    prune_from _ _ made _ _ _ _ serial need largest (word_cut (codes "prune") (decimal serial ∷ decimal need ∷ decimal largest ∷ []) refl)
    (number_cut serial (decimal need ∷ decimal largest ∷ []) is.0) (number_cut need (decimal largest ∷ []) (narrow need is.1))
    (number_again serial is.0) (below_32 need is.1) (below_32 largest is.2)
event_again made (event.Reset w) is = reset_from _ _ made w (word_cut (codes "reset") (who_fields w) refl) (who_again w [] is)
event_again made (event.Flush w) is = flush_from _ _ made w (word_cut (codes "flush") (who_fields w) refl) (who_again w [] is)
