-- Payloads of which not all bytes are there: each of their readers is cut where the bytes end.
use Rattle.std.proofs.Common.{◌≡◌, ℕ, zero, suc, ◌+◌, ◌<◌, Bool, true, false, List, [], ◌∷◌, ◌++◌, length, take, drop, Option, Some, None, Result, Ok, Err, refl, sym, ap, ◌∙◌, arith, inl, inr, codes}
use Rattle.std.specs.Prelude.{nat_lt, not, ◌==◌, ◌&&◌, ◌||◌, if◌then◌else◌}
use Rattle.std.specs.Int.{w16, to_le_bytes}
use Rattle.std.proofs.lemmas.Bool.{le-ltb, lt-ltb}
use Rattle.std.proofs.lemmas.List.{drop_all}
use Rattle.qc_sql.specs.declared.replies.Reply.TheVariants as reply
use Rattle.qc_wire.specs.declared.refusal.WireRefusal.{WireRefusal}
use Rattle.qc_wire.specs.declared.refusal.WireRefusal.TheVariants as refusal
use Rattle.qc_wire.specs.declared.reading.reply.Opening.TheVariants as opens
use Rattle.qc_wire.specs.Places.{Unread, moved, end_of}
use Rattle.qc_wire.specs.Reading.{Read, ◌>>=◌, unless, take_bytes, number, constant, constants, integer, no_number, string, times}
use Rattle.qc_wire.specs.Replies.{Payload, complete, ok_fields, err_fields, eof_fields, eof_again, catalog, column_names, column_sizes, column_of, column_fields, columns, cell, row_or_end, column_count, opened_by}
use Rattle.qc_wire.proofs.Results.{then_step}
use Rattle.qc_wire.proofs.Fields.{spot}
use Rattle.qc_wire.proofs.Payloads.{complete_ok}
use Rattle.qc_wire.proofs.Prefixes.{Ground, bytes_ground, with_value, Local, LocalRead, LocalPass, Reaches, cut_then, local_then, local_unless, local_if, read_then, pass_then, made, bytes_local, number_local, constant_local, constants_local, integer_local, no_number_local, string_local, times_local}

-- ---- payloads

ok_local : LocalRead ok_fields
unfolding ok_fields
ok_local u more y e =
    pass_then _ (constant 0x00) _ (constant_local 0x00)
    (read_then _ integer _ integer_local (λ affected.
    pass_then _ no_number _ no_number_local
    (read_then _ (number 2) _ (number_local 2) (λ status.
    pass_then (with_value bytes_ground) (constants (0 ∷ 0 ∷ [])) (λ warnings. Ok (reply.Ok affected status, warnings)) (constants_local (0 ∷ 0 ∷ [])) (made (reply.Ok affected status)))))) u more y e

pub eof_local : LocalRead eof_fields
unfolding eof_fields
eof_local u more y e = pass_then (with_value bytes_ground) (constants (0xfe ∷ 0 ∷ 0 ∷ [])) (number 2) (constants_local (0xfe ∷ 0 ∷ 0 ∷ [])) (number_local 2) u more y e

eof_again_local : (status : ℕ) → LocalPass (eof_again status)
unfolding eof_again
eof_again_local status u more y e =
    pass_then bytes_ground (constants (0xfe ∷ 0 ∷ 0 ∷ [])) (constants (to_le_bytes w16 status)) (constants_local (0xfe ∷ 0 ∷ 0 ∷ [])) (constants_local (to_le_bytes w16 status)) u more y e

catalog_local : LocalPass catalog
unfolding catalog
catalog_local u more y e =
    read_then bytes_ground integer (λ size. unless (not (size.0 == 3)) (refusal.BadByte u.at) size.1 >>= λ same. constants (codes "def") same) integer_local (λ size.
    local_then bytes_ground bytes_ground bytes_ground (λ r. unless (not (size == 3)) (refusal.BadByte u.at) r) (λ same. constants (codes "def") same)
    (local_unless bytes_ground bytes_ground (λ r. r) (not (size == 3)) (refusal.BadByte u.at) (λ m r. refl) (λ r. refl)) (constants_local (codes "def"))) u more y e

names_local : LocalRead column_names
unfolding column_names
names_local u more y e =
    pass_then _ catalog _ catalog_local
    (read_then _ string _ string_local (λ schema.
    read_then _ string _ string_local (λ table.
    read_then _ string _ string_local (λ org_table.
    read_then _ string _ string_local (λ name.
    read_then (with_value bytes_ground) string _ string_local (λ org_name.
    made (record { schema = schema; table = table; org_table = org_table; name = name; org_name = org_name }))))))) u more y e

sizes_local : LocalRead column_sizes
unfolding column_sizes
sizes_local u more y e =
    pass_then _ (constant 0x0c) _ (constant_local 0x0c)
    (read_then _ (number 2) _ (number_local 2) (λ charset.
    read_then _ (number 4) _ (number_local 4) (λ length.
    read_then _ (number 1) _ (number_local 1) (λ kind.
    read_then _ (number 2) _ (number_local 2) (λ flags.
    read_then _ (number 1) _ (number_local 1) (λ decimals.
    pass_then (with_value bytes_ground) (constants (0 ∷ 0 ∷ [])) _ (constants_local (0 ∷ 0 ∷ []))
    (made (record { charset = charset; length = length; kind = kind; flags = flags; decimals = decimals })))))))) u more y e

pub column_local : LocalRead column_fields
unfolding column_fields
column_local u more y e =
    read_then _ column_names _ names_local (λ n.
    read_then (with_value bytes_ground) column_sizes _ sizes_local (λ s.
    made (column_of n s))) u more y e

count_local : LocalRead column_count
unfolding column_count
count_local u more y e =
    read_then (with_value bytes_ground) integer (λ count. unless (count.0 == 0 || nat_lt 64 count.0) (refusal.BadByte u.at) count) integer_local (λ n.
    local_unless bytes_ground (with_value bytes_ground) (λ r. (n, r)) (n == 0 || nat_lt 64 n) (refusal.BadByte u.at) (λ m r. refl) (λ r. refl)) u more y e

-- a cell of no bytes is cut
no_cell : (at : ℕ) → cell (spot at []) ≡ Err (refusal.Truncated (end_of (spot at [])))
unfolding cell string integer number
no_cell at = refl

null_local : LocalRead {A = Option (List ℕ)} (λ u. take_bytes 1 u >>= λ null. Ok (None, null.1))
null_local = read_then (with_value bytes_ground) (take_bytes 1) (λ null. Ok (None, null.1)) (bytes_local 1) (λ x. made None)

text_local : LocalRead {A = Option (List ℕ)} (λ u. string u >>= λ text. Ok (Some text.0, text.1))
text_local = read_then (with_value bytes_ground) string (λ text. Ok (Some text.0, text.1)) string_local (λ x. made (Some x))

cell_local : LocalRead cell
unfolding cell
cell_local u more y e = by u.at u.left e
  where
    CellPrefix : Unread → Type 0
    CellPrefix v = Reaches (λ end t. (y ≡ (t.0, spot t.1.at (t.1.left ++ more))) × (end_of t.1 ≡ end)) (end_of v) (cell v)

    by : (at : ℕ) (left : List ℕ) → cell (spot at (left ++ more)) ≡ Ok y → CellPrefix (spot at left)
    by at [] h = inl (no_cell at)
    by at (c ∷ cs) h =
        local_if bytes_ground (with_value bytes_ground) (λ u. take_bytes 1 u >>= λ null. Ok (None, null.1)) (λ u. string u >>= λ text. Ok (Some text.0, text.1)) (c == 0xfb) null_local text_local (spot at (c ∷ cs)) more y h

-- ---- payloads of which not all bytes are there

-- a reader is cut at this end, or has read all up to it
abbrev Stops : {R : Type 0} → (R → Unread) → ℕ → Result R WireRefusal → Type 0
Stops {R} behind end r = Reaches (λ n y. behind y ≡ spot n []) end r

-- what reads a whole payload, and finds one cut whose end is not there
abbrev pub Cuts : {B : Type 0} → (Payload → Result B WireRefusal) → Type 0
Cuts {B} handle = (u : Unread) (more : List ℕ) (size : ℕ) (v : B) → handle (record { bytes = bytes_ground.grow more u; size = size }) ≡ Ok v → length u.left < size
    → handle (record { bytes = u; size = size }) ≡ Err (refusal.Truncated (end_of u))

-- a reader whose value is used, and which has to end where the payload does
abbrev pub to_its_end : {R B : Type 0} → (R → Unread) → (R → B) → (Unread → Result R WireRefusal) → Payload → Result B WireRefusal
to_its_end behind g read p = read p.bytes >>= λ w. complete p (behind w) >>= λ whole. Ok (g w)

nothing_in_front : (xs ys : List ℕ) → xs ++ ys ≡ [] → xs ≡ []
nothing_in_front [] ys e = refl
nothing_in_front (x ∷ xs) ys e = absurd cc

at_end : (at : ℕ) (left : List ℕ) (end : ℕ) → left ≡ [] → at + length left ≡ end → spot at left ≡ spot end []
at_end at [] end e p = ap (λ (n : ℕ). spot n []) (omega (arith, p))
at_end at (b ∷ bs) end e p = absurd cc

-- what a reader has to say of the bytes behind its value
record Behind {R : Type 0} (b : Ground R) (behind : R → Unread) : Type 0 where
  grows : (more : List ℕ) (r : R) → behind (b.grow more r) ≡ bytes_ground.grow more (behind r)
  places : (r : R) → b.place r ≡ end_of (behind r)

local_stops : {R : Type 0} (b : Ground R) (behind : R → Unread) (read : Unread → Result R WireRefusal) → Behind b behind → Local bytes_ground b read
    → (u : Unread) (more : List ℕ) (y : R) → read (bytes_ground.grow more u) ≡ Ok y → (behind y).left ≡ [] → Stops behind (end_of u) (read u)
local_stops {R} b behind read k h u more y e nothing =
    elim (h u more y e) [
      | inl cut ↦ inl cut
      | inr (t, is, same) ↦
          let rest : Unread = behind t in
          let left : rest.left ++ more ≡ [] = ap (λ (v : Unread). v.left) (sym (k.grows more t)) ∙ ap (λ (z : R). (behind z).left) (sym same.0) ∙ nothing in
          inr (t, is, at_end rest.at rest.left (end_of u) (nothing_in_front rest.left more left) (sym (k.places t) ∙ same.1))
    ]

cut_end : (u : Unread) (size end : ℕ) → length u.left < size → complete (record { bytes = u; size = size }) (spot end []) ≡ Err (refusal.Truncated end)
unfolding complete
cut_end u size end lt = rw (lt-ltb (length u.left) size lt) refl

stopped_is_cut : {R B : Type 0} (behind : R → Unread) (g : R → B) (u : Unread) (size end : ℕ) (r : Result R WireRefusal) → Stops behind end r
    → length u.left < size
    → (r >>= λ w. complete (record { bytes = u; size = size }) (behind w) >>= λ whole. Ok (g w)) ≡ Err (refusal.Truncated end)
stopped_is_cut {R} {B} behind g u size end r stops lt =
    let p : Payload = record { bytes = u; size = size } in
    let go : R → Result B WireRefusal = λ w. complete p (behind w) >>= λ whole. Ok (g w) in
    elim stops [
      | inl cut ↦ ap (λ (q : Result R WireRefusal). q >>= go) cut
      | inr (y, is, at) ↦
          ap (λ (q : Result R WireRefusal). q >>= go) is ∙ ap (λ (v : Unread). complete p v >>= λ whole. Ok (g y)) at
          ∙ ap (λ (q : Result (Unit {0}) WireRefusal). q >>= λ whole. Ok (g y)) (cut_end u size end lt)
    ]

to_its_end_cuts : {R B : Type 0} (b : Ground R) (behind : R → Unread) (g : R → B) (read : Unread → Result R WireRefusal) → Behind b behind
    → Local bytes_ground b read → Cuts (to_its_end behind g read)
to_its_end_cuts b behind g read k h u more size v e lt =
    let all : Payload = record { bytes = bytes_ground.grow more u; size = size } in
    then_step (read all.bytes) _ v e (λ w took e1.
    then_step (complete all (behind w)) _ v e1 (λ whole done e2.
    stopped_is_cut behind g u size (end_of u) (read u) (local_stops b behind read k h u more w took (complete_ok all (behind w) done).0) lt))

abbrev pub rest_of : {A : Type 0} → A × Unread → Unread
rest_of x = x.1

value_behind : {A : Type 0} → Behind (with_value {A = A} bytes_ground) rest_of
value_behind = record { grows = λ more r. refl; places = λ r. refl }

pass_behind : Behind bytes_ground (λ u. u)
pass_behind = record { grows = λ more r. refl; places = λ r. refl }

pub read_cuts : {A B : Type 0} (read : Unread → Read A) (g : A × Unread → B) → LocalRead read → Cuts (to_its_end rest_of g read)
read_cuts read g h = to_its_end_cuts (with_value bytes_ground) rest_of g read value_behind h

-- ---- the first payload

-- a reader that is cut or has read all, where there was more to read
abbrev Ends : {S R : Type 0} → Ground S → (R → Unread) → (S → Result R WireRefusal) → Type 0
Ends {S} {R} a behind read = (s : S) (more : List ℕ) (y : R) → read (a.grow more s) ≡ Ok y → Stops behind (a.place s) (read s)

ends_then : {S R T : Type 0} (a : Ground S) (b : Ground R) (behind : T → Unread) (read : S → Result R WireRefusal) (f : R → Result T WireRefusal)
    → Local a b read → Ends b behind f → Ends a behind (λ s. read s >>= f)
ends_then a b behind read f h g s more y e = cut_then a b read f h (λ end v. behind v ≡ spot end []) s more y (λ t is. g t more y is) e

read_ends : {A T : Type 0} (behind : T → Unread) (read : Unread → Read A) (f : A × Unread → Result T WireRefusal) → LocalRead read
    → ((x : A) → Ends bytes_ground behind (λ u. f (x, u)))
    → Ends bytes_ground behind (λ u. read u >>= f)
read_ends behind read f h g = ends_then bytes_ground (with_value bytes_ground) behind read f h (λ r more y e. g r.0 r.1 more y e)

-- a message that is all bytes there
message_ends : (code : ℕ) (state : List ℕ)
    → Ends bytes_ground rest_of (λ u. take_bytes (length u.left) u >>= λ message. Ok (reply.Err (record { code = code; state = state; message = message.0 }), message.1))
message_ends code state u more y e =
    let n : ℕ = length u.left in
    let message : List ℕ = take n u.left in
    let nothing : drop n u.left ≡ [] = drop_all n u.left (omega arith) in
    inr (
      (reply.Err (record { code = code; state = state; message = message }), moved n u),
      rw (le-ltb n n (omega arith)) refl,
      ap (λ (left : List ℕ). spot (u.at + n) left) nothing,
    )

err_ends : Ends bytes_ground rest_of err_fields
unfolding err_fields
err_ends u more y e =
    ends_then bytes_ground bytes_ground rest_of (constant 0xff) _ (constant_local 0xff)
    (read_ends rest_of (number 2) _ (number_local 2) (λ code.
    ends_then bytes_ground bytes_ground rest_of (constant 35) _ (constant_local 35)
    (read_ends rest_of (take_bytes 5) _ (bytes_local 5) (λ state. message_ends code state)))) u more y e

err_cuts : Cuts (to_its_end rest_of (λ r. opens.Whole r.0) err_fields)
err_cuts u more size v e lt =
    let all : Payload = record { bytes = bytes_ground.grow more u; size = size } in
    then_step (err_fields all.bytes) _ v e (λ w took e1.
    stopped_is_cut rest_of (λ r. opens.Whole r.0) u size (end_of u) (err_fields u) (err_ends u more w took) lt)

if_cuts : {B : Type 0} (test : Bool) (x y prefix_x prefix_y : Result B WireRefusal) (v : B) (fault : WireRefusal) → (x ≡ Ok v → prefix_x ≡ Err fault)
    → (y ≡ Ok v → prefix_y ≡ Err fault)
    → (if test then x else y) ≡ Ok v → (if test then prefix_x else prefix_y) ≡ Err fault
if_cuts true x y prefix_x prefix_y v fault p q e = p e
if_cuts false x y prefix_x prefix_y v fault p q e = q e

nothing_opens : (at size : ℕ) → opened_by (record { bytes = spot at []; size = size }) ≡ Err (refusal.Truncated (end_of (spot at [])))
unfolding opened_by column_count integer number
nothing_opens at size = refl

pub opened_cuts : Cuts opened_by
unfolding opened_by
opened_cuts u more size v e lt = by u.at u.left e lt
  where
    by : (at : ℕ) (left : List ℕ) → opened_by (record { bytes = spot at (left ++ more); size = size }) ≡ Ok v → length left < size
        → opened_by (record { bytes = spot at left; size = size }) ≡ Err (refusal.Truncated (at + length left))
    by at [] h l = nothing_opens at size
    by at (c ∷ cs) h l =
        let here : Unread = spot at (c ∷ cs) in
        let fault : WireRefusal = refusal.Truncated (end_of here) in
        if_cuts (c == 0x00) _ _ _ _ v fault (λ is. read_cuts ok_fields (λ r. opens.Whole r.0) ok_local here more size v is l)
        (λ other. if_cuts (c == 0xff) _ _ _ _ v fault (λ is. err_cuts here more size v is l)
        (λ is. read_cuts column_count (λ n. opens.Columns n.0) count_local here more size v is l) other) h

-- ---- rows

no_cells : (n at : ℕ) → Stops rest_of (end_of (spot at [])) (times cell n (spot at []))
unfolding times
no_cells zero at = inr (([], spot at []), refl, ap (λ (k : ℕ). spot k []) (omega arith))
no_cells (suc n) at = inl (ap (λ (r : Read (Option (List ℕ))). r >>= λ first. times cell n first.1 >>= λ others. Ok (first.0 ∷ others.0, others.1)) (no_cell at))

pub row_cuts : (columns status : ℕ) → Cuts (row_or_end columns status)
unfolding row_or_end
row_cuts columns status u more size v e lt = by u.at u.left e lt
  where
    by : (at : ℕ) (left : List ℕ) → row_or_end columns status (record { bytes = spot at (left ++ more); size = size }) ≡ Ok v → length left < size
        → row_or_end columns status (record { bytes = spot at left; size = size }) ≡ Err (refusal.Truncated (at + length left))
    by at [] h l = stopped_is_cut rest_of (λ row. Some row.0) (spot at []) size (end_of (spot at [])) (times cell columns (spot at [])) (no_cells columns at) l
    by at (c ∷ cs) h l =
        let here : Unread = spot at (c ∷ cs) in
        if_cuts ((c == 0xfe) && (size == 5)) _ _ _ _ v (refusal.Truncated (end_of here))
        (λ is. to_its_end_cuts bytes_ground (λ r. r) (λ r. None) (eof_again status) pass_behind (eof_again_local status) here more size v is l)
        (λ is. read_cuts (times cell columns) (λ row. Some row.0) (times_local bytes_ground cell cell_local columns) here more size v is l) h
