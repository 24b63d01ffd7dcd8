-- The packets of SHOW STATUS.
use Rattle.std.proofs.Common.{◌≡◌, ℕ, ◌+◌, ◌*◌, ◌%◌, ◌<◌, ◌≤◌, List, [], ◌∷◌, ◌++◌, length, ap, ◌∙◌, subst, arith, length-append}
use Rattle.std.specs.Prelude.{codes, decimal}
use Rattle.std.proofs.lemmas.Grind.{common_steps}
use Rattle.qc_types.specs.declared.totals.Totals.{Totals}
use Rattle.qc_sql.specs.Packets.{column_payload, count_payload, encoded_integer, encoded_string, eof_payload, most_payload, packet, packets, row_payload}
use Rattle.qc_laws.proofs.sizes.Decimals.{decimal_few}
use Rattle.qc_model.specs.declared.events.Counters.{Counters}
use Rattle.qc_model.specs.Machine.{status_column, status_reply, status_row}
use Rattle.qc_model.specs.Session.{State, flags_of, status_of}
use Rattle.qc_statements.specs.Answers.{Appends}
use Rattle.qc_statements.proofs.Packets.{all_put, one_more, then_more}
use Rattle.qc_serve.specs.StatusReply.{head_of, rows_of}

-- ---- they fit

integer_few : (n : ℕ) → length (encoded_integer n) ≤ 9
unfolding encoded_integer
integer_few n = grind (arith, common_steps)

string_few : (bytes : List ℕ) → length (encoded_string bytes) ≤ length bytes + 9
unfolding encoded_string
string_few bytes = simp length-append (omega (arith, integer_few (length bytes)))

pub definition_fits : (state : State) (name : List ℕ) (n : ℕ) → length name ≤ 64 → length (column_payload (status_column state name n)) ≤ most_payload
definition_fits state name n h = simp length-append (omega (arith, h, string_few (codes "def"), string_few [], string_few name))

pub variable_fits : (name : List ℕ) (n : ℕ) → length name ≤ 64 → length (row_payload (status_row name n)) ≤ most_payload
variable_fits name n h = simp length-append (omega (arith, h, string_few name, string_few (decimal n), decimal_few n))

-- ---- one behind the other

-- one more, where the number stays a byte
pub one_put : (n : ℕ) (p : List ℕ) (old new : List ℕ) → n < 255 → new ≡ old ++ packet n p → Appends (p ∷ []) n old (n + 1) new
one_put n p old new few is = let next : (n + 1) % 256 ≡ n + 1 = omega (arith, few) in subst (λ (m : ℕ). Appends (p ∷ []) n old m new) next (one_more n p old new is)

-- the eight rows
pub eight_put : (p1 p2 p3 p4 p5 p6 p7 p8 : List ℕ) (o0 o1 o2 o3 o4 o5 o6 o7 o8 : List ℕ) → Appends (p1 ∷ []) 5 o0 6 o1 → Appends (p2 ∷ []) 6 o1 7 o2 → Appends (p3 ∷ []) 7 o2 8 o3 → Appends (p4 ∷ []) 8 o3 9 o4 → Appends (p5 ∷ []) 9 o4 10 o5 → Appends (p6 ∷ []) 10 o5 11 o6 → Appends (p7 ∷ []) 11 o6 12 o7 → Appends (p8 ∷ []) 12 o7 13 o8
    → Appends (p1 ∷ p2 ∷ p3 ∷ p4 ∷ p5 ∷ p6 ∷ p7 ∷ p8 ∷ []) 5 o0 13 o8
eight_put p1 p2 p3 p4 p5 p6 p7 p8 o0 o1 o2 o3 o4 o5 o6 o7 o8 h1 h2 h3 h4 h5 h6 h7 h8 =
    then_more (p1 ∷ []) (p2 ∷ p3 ∷ p4 ∷ p5 ∷ p6 ∷ p7 ∷ p8 ∷ []) 5 6 13 o0 o1 o8 h1 (then_more (p2 ∷ []) (p3 ∷ p4 ∷ p5 ∷ p6 ∷ p7 ∷ p8 ∷ []) 6 7 13 o1 o2 o8 h2 (then_more (p3 ∷ []) (p4 ∷ p5 ∷ p6 ∷ p7 ∷ p8 ∷ []) 7 8 13 o2 o3 o8 h3 (then_more (p4 ∷ []) (p5 ∷ p6 ∷ p7 ∷ p8 ∷ []) 8 9 13 o3 o4 o8 h4 (then_more (p5 ∷ []) (p6 ∷ p7 ∷ p8 ∷ []) 9 10 13 o4 o5 o8 h5 (then_more (p6 ∷ []) (p7 ∷ p8 ∷ []) 10 11 13 o5 o6 o8 h6 (then_more (p7 ∷ []) (p8 ∷ []) 11 12 13 o6 o7 o8 h7 h8))))))

-- the rows of SHOW STATUS
pub rows_put : (c : Counters) (t : Totals) (o0 o1 o2 o3 o4 o5 o6 o7 o8 : List ℕ)
    → Appends (row_payload (status_row (codes "Qcache_free_blocks") t.free_blocks) ∷ []) 5 o0 6 o1
    → Appends (row_payload (status_row (codes "Qcache_free_memory") (8 * t.free_words)) ∷ []) 6 o1 7 o2
    → Appends (row_payload (status_row (codes "Qcache_hits") c.hits) ∷ []) 7 o2 8 o3
    → Appends (row_payload (status_row (codes "Qcache_inserts") c.inserts) ∷ []) 8 o3 9 o4
    → Appends (row_payload (status_row (codes "Qcache_lowmem_prunes") c.lowmem_prunes) ∷ []) 9 o4 10 o5
    → Appends (row_payload (status_row (codes "Qcache_not_cached") c.not_cached) ∷ []) 10 o5 11 o6
    → Appends (row_payload (status_row (codes "Qcache_queries_in_cache") c.queries_in_cache) ∷ []) 11 o6 12 o7
    → Appends (row_payload (status_row (codes "Qcache_total_blocks") t.blocks) ∷ []) 12 o7 13 o8
    → Appends (rows_of c t) 5 o0 13 o8
rows_put c t o0 o1 o2 o3 o4 o5 o6 o7 o8 =
    eight_put
    (row_payload (status_row (codes "Qcache_free_blocks") t.free_blocks))
    (row_payload (status_row (codes "Qcache_free_memory") (8 * t.free_words)))
    (row_payload (status_row (codes "Qcache_hits") c.hits))
    (row_payload (status_row (codes "Qcache_inserts") c.inserts))
    (row_payload (status_row (codes "Qcache_lowmem_prunes") c.lowmem_prunes))
    (row_payload (status_row (codes "Qcache_not_cached") c.not_cached))
    (row_payload (status_row (codes "Qcache_queries_in_cache") c.queries_in_cache))
    (row_payload (status_row (codes "Qcache_total_blocks") t.blocks))
    o0 o1 o2 o3 o4 o5 o6 o7 o8

-- what stands in front of the rows
pub head_put : (state : State) (o0 o1 o2 o3 o4 : List ℕ) → o1 ≡ o0 ++ packet 1 (count_payload 2) → Appends (column_payload (status_column state (codes "Variable_name") 64) ∷ []) 2 o1 3 o2
    → Appends (column_payload (status_column state (codes "Value") 20) ∷ []) 3 o2 4 o3 → o4 ≡ o3 ++ packet 4 (eof_payload (status_of (flags_of state))) → Appends (head_of state) 1 o0 5 o4
head_put state o0 o1 o2 o3 o4 counted name value end =
    let count : List ℕ = count_payload 2 in
    let one : List ℕ = column_payload (status_column state (codes "Variable_name") 64) in
    let two : List ℕ = column_payload (status_column state (codes "Value") 20) in
    let eof : List ℕ = eof_payload (status_of (flags_of state)) in
    then_more (count ∷ []) (one ∷ two ∷ eof ∷ []) 1 2 5 o0 o1 o4 (one_put 1 count o0 o1 (omega arith) counted)
    (then_more (one ∷ []) (two ∷ eof ∷ []) 2 3 5 o1 o2 o4 name (then_more (two ∷ []) (eof ∷ []) 3 4 5 o2 o3 o4 value (one_put 4 eof o3 o4 (omega arith) end)))

-- the head, the rows, and the end
pub status_put : (state : State) (c : Counters) (t : Totals) (start head rows whole : List ℕ) → start ≡ [] → Appends (head_of state) 1 start 5 head → Appends (rows_of c t) 5 head 13 rows → whole ≡ rows ++ packet 13 (eof_payload (status_of (flags_of state)))
    → whole ≡ packets (status_reply state c t)
status_put state c t start head rows whole empty first then end =
    let last : Appends (eof_payload (status_of (flags_of state)) ∷ []) 13 rows 14 whole = one_put 13 (eof_payload (status_of (flags_of state))) rows whole (omega arith) end in
    let back : Appends (rows_of c t ++ eof_payload (status_of (flags_of state)) ∷ []) 5 head 14 whole = then_more (rows_of c t) (eof_payload (status_of (flags_of state)) ∷ []) 5 13 14 head rows whole then last in
    let all : Appends (head_of state ++ (rows_of c t ++ eof_payload (status_of (flags_of state)) ∷ [])) 1 start 14 whole = then_more (head_of state) (rows_of c t ++ eof_payload (status_of (flags_of state)) ∷ []) 1 5 14 start head whole first back in
    all_put (head_of state ++ (rows_of c t ++ eof_payload (status_of (flags_of state)) ∷ [])) 1 14 start whole all ∙ ap (λ (s : List ℕ). s ++ packets (status_reply state c t)) empty
