-- What is of bounded size fits a packet.
use Rattle.std.proofs.Common.{ℕ, ◌+◌, ◌*◌, ◌≤◌, List, [], ◌∷◌, length, map, arith, Option, Some, None}
use Rattle.std.specs.Prelude.{codes, IfSome}
use Rattle.std.specs.List.{AllByRecursion}
use Rattle.std.proofs.lemmas.List.{length-append}
use Rattle.std.proofs.lemmas.Grind.{common_steps}
use Rattle.qc_types.specs.declared.names.Value.{Value}
use Rattle.qc_sql.specs.declared.replies.ColumnDef.{ColumnDef}
use Rattle.qc_sql.specs.declared.session.Flags.{Flags}
use Rattle.qc_sql.specs.Rows.{text_of}
use Rattle.qc_sql.specs.Packets.{encoded_integer, encoded_string, encoded_cell, column_payload, row_payload, eof_payload, most_payload}
use Rattle.qc_laws.specs.sizes.Replies.{FitsColumn, FitsRow, FitsValue}
use Rattle.qc_laws.specs.sizes.Laws.{ErrorPayloadsFit, RowPayloadsFit, ReplyPayloadsFit}
use Rattle.qc_laws.proofs.sizes.Each.{each_weaker, each_mapped, each_append}

integer_few : (n : ℕ) → length (encoded_integer n) ≤ 9
unfolding encoded_integer
integer_few n = grind (arith, common_steps)

string_few : (bytes : List ℕ) → length (encoded_string bytes) ≤ length bytes + 9
unfolding encoded_string
string_few bytes = simp length-append (omega (arith, integer_few (length bytes)))

pub error_payloads_fit : ErrorPayloadsFit
error_payloads_fit e h = simp length-append (omega (arith, h.state, h.message))

column_fits : (flags : Flags) (c : ColumnDef) → FitsColumn flags c → length (column_payload c) ≤ most_payload
column_fits flags c h =
    simp length-append (omega (arith, h.schema, h.table, h.org_table, h.name, h.org_name, string_few (codes "def"), string_few c.schema, string_few c.table, string_few c.org_table, string_few c.name, string_few c.org_name))

cell_few : (cell : Option (List ℕ)) → IfSome cell (λ text. length text ≤ 65535) → length (encoded_cell cell) ≤ 65544
cell_few None h = omega arith
cell_few (Some text) h = omega (arith, string_few text)

cells_few : (row : List Value) → AllByRecursion FitsValue row → length (row_payload (map text_of row)) ≤ length row * 65544
cells_few [] h = omega arith
cells_few (v ∷ vs) h = simp length-append (omega (arith, cell_few (text_of v) h.0, cells_few vs h.1))

row_fits : (n : ℕ) → n ≤ 64 → (row : List Value) → FitsRow n row → length (row_payload (map text_of row)) ≤ most_payload
row_fits n few row h = omega (arith, cells_few row h.values, h.count)

pub row_payloads_fit : RowPayloadsFit
row_payloads_fit flags r h = (
  each_weaker (FitsColumn flags) (λ c. length (column_payload c) ≤ most_payload) (column_fits flags) r.columns h.columns,
  each_weaker (FitsRow (length r.columns)) (λ row. length (row_payload (map text_of row)) ≤ most_payload) (row_fits (length r.columns) h.few) r.rows h.rows,
)

pub reply_payloads_fit : ReplyPayloadsFit
reply_payloads_fit flags r status h =
    let Fits : List ℕ → Type 0 = λ payload. length payload ≤ most_payload in
    let parts = row_payloads_fit flags r h in
    let end : Fits (eof_payload status) = omega arith in
    let columns = each_mapped (λ c. length (column_payload c) ≤ most_payload) Fits column_payload (λ c g. g) r.columns parts.0 in
    let texts = each_mapped (λ row. length (row_payload (map text_of row)) ≤ most_payload) (λ cells. Fits (row_payload cells)) (map text_of) (λ row g. g) r.rows parts.1 in
    let rows = each_mapped (λ cells. Fits (row_payload cells)) Fits row_payload (λ cells g. g) (map (map text_of) r.rows) texts in (
      omega (arith, integer_few (length r.columns)),
      each_append Fits (map column_payload r.columns) _ columns (end, each_append Fits (map row_payload (map (map text_of) r.rows)) (eof_payload status ∷ []) rows (end, tt)),
    )
