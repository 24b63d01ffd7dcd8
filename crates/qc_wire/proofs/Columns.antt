-- A column definition that is read is the one that was written, and what was written is read again.
use Rattle.std.proofs.Common.{◌≡◌, ℕ, zero, suc, ◌+◌, ◌%◌, ◌^◌, ◌<◌, List, [], ◌∷◌, ◌++◌, length, Ok, refl, sym, ap, subst, ◌∙◌, append_assoc, append-nil, arith, codes}
use Rattle.std.specs.Prelude.{not, ◌==◌}
use Rattle.std.proofs.lemmas.Bool.{eqb-true}
use Rattle.std.proofs.lemmas.List.{length-append}
use Rattle.byteorder.specs.Endian.{little_bytes}
use Rattle.qc_sql.specs.declared.replies.ColumnDef.{ColumnDef}
use Rattle.qc_sql.specs.Packets.{encoded_integer, encoded_string, column_payload}
use Rattle.qc_wire.specs.declared.refusal.WireRefusal.TheVariants as refusal
use Rattle.qc_wire.specs.declared.reading.columns.Names.{Names}
use Rattle.qc_wire.specs.declared.reading.columns.Sizes.{Sizes}
use Rattle.qc_wire.specs.Places.{Unread}
use Rattle.qc_wire.specs.Reading.{Read, ◌>>=◌, unless, number, constant, constants, integer, string}
use Rattle.qc_wire.specs.Replies.{catalog, column_names, column_sizes, column_of, column_fields}
use Rattle.qc_wire.specs.Laws.{IsColumn}
use Rattle.qc_wire.proofs.Results.{not_false, ok_is, then_step, unless_ok}
use Rattle.qc_wire.proofs.LowFirst.{IsBytes}
use Rattle.qc_wire.proofs.Lengths.{string_longer}
use Rattle.qc_wire.proofs.Fields.{zero_bytes, Takes, takes_then, spot, number_takes, constant_takes, constants_take, integer_takes, string_takes, Rereads, Passes, Answers, then_reread, then_passes, number_rereads, constant_passes, constants_pass, integer_rereads, string_rereads}

-- ---- the names

catalog_takes : (u rest : Unread) → IsBytes u.left → catalog u ≡ Ok rest → Takes u (encoded_string (codes "def")) rest
unfolding catalog encoded_string
catalog_takes u rest fits e =
    then_step (integer u) _ rest e (λ size took e1.
    let t = integer_takes u size fits took in
    then_step (unless (not (size.0 == 3)) (refusal.BadByte u.at) size.1) _ rest e1 (λ same test is.
    let g = unless_ok (not (size.0 == 3)) (refusal.BadByte u.at) size.1 same test in
    let three : size.0 ≡ 3 = eqb-true size.0 3 (not_false (size.0 == 3) g.0) in
    let first : Takes u (encoded_integer 3) same = subst (λ (r : Unread). Takes u (encoded_integer 3) r) g.1 (subst (λ (n : ℕ). Takes u (encoded_integer n) size.1) three t.0) in
    takes_then u same rest (encoded_integer 3) (codes "def") first (constants_take (codes "def") same rest first.bytes is)))

abbrev names_text : Names → List ℕ
names_text n = encoded_string (codes "def") ++ (encoded_string n.schema ++ (encoded_string n.table ++ (encoded_string n.org_table ++ (encoded_string n.name ++ encoded_string n.org_name))))

record NamesFit (n : Names) : Type 0 where
  schema : length n.schema < 2 ^ 64
  table : length n.table < 2 ^ 64
  org_table : length n.org_table < 2 ^ 64
  name : length n.name < 2 ^ 64
  org_name : length n.org_name < 2 ^ 64

names_take : (u : Unread) (x : Names × Unread) → IsBytes u.left → column_names u ≡ Ok x → Takes u (names_text x.0) x.1 × NamesFit x.0
unfolding column_names
names_take u x fits e =
    then_step (catalog u) _ x e (λ u0 took0 e0.
    let t0 = catalog_takes u u0 fits took0 in
    then_step (string u0) _ x e0 (λ a took1 e1.
    let t1 = string_takes u0 a t0.bytes took1 in
    then_step (string a.1) _ x e1 (λ b took2 e2.
    let t2 = string_takes a.1 b t1.0.bytes took2 in
    then_step (string b.1) _ x e2 (λ c took3 e3.
    let t3 = string_takes b.1 c t2.0.bytes took3 in
    then_step (string c.1) _ x e3 (λ d took4 e4.
    let t4 = string_takes c.1 d t3.0.bytes took4 in
    then_step (string d.1) _ x e4 (λ f took5 e5.
    let t5 = string_takes d.1 f t4.0.bytes took5 in
    let P : Names × Unread → Type 0 = λ y. Takes u (names_text y.0) y.1 × NamesFit y.0 in
    subst P (ok_is _ x e5) (
      takes_then u u0 f.1 _ _ t0 (takes_then u0 a.1 f.1 _ _ t1.0 (takes_then a.1 b.1 f.1 _ _ t2.0 (takes_then b.1 c.1 f.1 _ _ t3.0 (takes_then c.1 d.1 f.1 _ _ t4.0 t5.0)))),
      record { schema = t1.1; table = t2.1; org_table = t3.1; name = t4.1; org_name = t5.1 },
    )))))))

catalog_passes : Passes catalog (encoded_string (codes "def"))
unfolding catalog encoded_string encoded_integer
catalog_passes at rest =
    let one = integer_rereads 3 (omega arith) at (codes "def" ++ rest) in
    let two = constants_pass (codes "def") def_bytes one.0 rest in
    (two.0, ap (λ (r : Read ℕ). r >>= λ size. unless (not (size.0 == 3)) (refusal.BadByte at) size.1 >>= λ same. constants (codes "def") same) one.1 ∙ two.1)
  where
    def_bytes : IsBytes (codes "def")
    def_bytes zero = omega arith
    def_bytes (suc zero) = omega arith
    def_bytes (suc (suc zero)) = omega arith
    def_bytes (suc (suc (suc i))) = omega arith

names_again : (n : Names) → NamesFit n → Rereads column_names (names_text n) n
unfolding column_names
names_again n fits at rest =
    subst (λ (text : List ℕ). Answers (column_names (spot at text)) n rest) (sym regrouped)
    (then_passes catalog _ _ n at _ rest catalog_passes (λ at0.
    then_reread string _ _ n.schema n at0 _ rest (string_rereads n.schema fits.schema) (λ at1.
    then_reread string _ _ n.table n at1 _ rest (string_rereads n.table fits.table) (λ at2.
    then_reread string _ _ n.org_table n at2 _ rest (string_rereads n.org_table fits.org_table) (λ at3.
    then_reread string _ _ n.name n at3 _ rest (string_rereads n.name fits.name) (λ at4.
    then_reread string _ _ n.org_name n at4 rest rest (string_rereads n.org_name fits.org_name) (λ at5. (at5, refl))))))))
  where
    regrouped : names_text n ++ rest ≡ encoded_string (codes "def") ++ (encoded_string n.schema ++ (encoded_string n.table ++ (encoded_string n.org_table ++ (encoded_string n.name ++ (encoded_string n.org_name ++ rest)))))
    regrouped = simp append_assoc

-- ---- the sizes

abbrev sizes_text : Sizes → List ℕ
sizes_text s = 0x0c ∷ (little_bytes 2 s.charset ++ (little_bytes 4 s.length ++ (little_bytes 1 s.kind ++ (little_bytes 2 s.flags ++ (little_bytes 1 s.decimals ++ 0 ∷ 0 ∷ [])))))

record SizesFit (s : Sizes) : Type 0 where
  charset : s.charset < 256 ^ 2
  length : s.length < 256 ^ 4
  kind : s.kind < 256 ^ 1
  flags : s.flags < 256 ^ 2
  decimals : s.decimals < 256 ^ 1

sizes_take : (u : Unread) (x : Sizes × Unread) → IsBytes u.left → column_sizes u ≡ Ok x → Takes u (sizes_text x.0) x.1 × SizesFit x.0
unfolding column_sizes
sizes_take u x fits e =
    then_step (constant 0x0c u) _ x e (λ u0 took0 e0.
    let t0 = constant_takes 0x0c u u0 fits took0 in
    then_step (number 2 u0) _ x e0 (λ a took1 e1.
    let t1 = number_takes 2 u0 a t0.bytes took1 in
    then_step (number 4 a.1) _ x e1 (λ b took2 e2.
    let t2 = number_takes 4 a.1 b t1.0.bytes took2 in
    then_step (number 1 b.1) _ x e2 (λ c took3 e3.
    let t3 = number_takes 1 b.1 c t2.0.bytes took3 in
    then_step (number 2 c.1) _ x e3 (λ d took4 e4.
    let t4 = number_takes 2 c.1 d t3.0.bytes took4 in
    then_step (number 1 d.1) _ x e4 (λ f took5 e5.
    let t5 = number_takes 1 d.1 f t4.0.bytes took5 in
    then_step (constants (0 ∷ 0 ∷ []) f.1) _ x e5 (λ u6 took6 e6.
    let t6 = constants_take (0 ∷ 0 ∷ []) f.1 u6 t5.0.bytes took6 in
    let P : Sizes × Unread → Type 0 = λ y. Takes u (sizes_text y.0) y.1 × SizesFit y.0 in
    subst P (ok_is _ x e6) (
      takes_then u u0 u6 (0x0c ∷ []) _ t0 (takes_then u0 a.1 u6 _ _ t1.0 (takes_then a.1 b.1 u6 _ _ t2.0 (takes_then b.1 c.1 u6 _ _ t3.0 (takes_then c.1 d.1 u6 _ _ t4.0 (takes_then d.1 f.1 u6 _ _ t5.0 t6))))),
      record { charset = t1.1; length = t2.1; kind = t3.1; flags = t4.1; decimals = t5.1 },
    ))))))))

sizes_again : (s : Sizes) → SizesFit s → Rereads column_sizes (sizes_text s) s
unfolding column_sizes
sizes_again s fits at rest =
    then_passes (constant 0x0c) _ (0x0c ∷ []) s at _ rest (constant_passes 0x0c (omega arith)) (λ at0.
    then_reread (number 2) _ (little_bytes 2 s.charset) s.charset s at0 _ rest (number_rereads 2 s.charset fits.charset) (λ at1.
    then_reread (number 4) _ (little_bytes 4 s.length) s.length s at1 _ rest (number_rereads 4 s.length fits.length) (λ at2.
    then_reread (number 1) _ (little_bytes 1 s.kind) s.kind s at2 _ rest (number_rereads 1 s.kind fits.kind) (λ at3.
    then_reread (number 2) _ (little_bytes 2 s.flags) s.flags s at3 _ rest (number_rereads 2 s.flags fits.flags) (λ at4.
    then_reread (number 1) _ (little_bytes 1 s.decimals) s.decimals s at4 _ rest (number_rereads 1 s.decimals fits.decimals) (λ at5.
    then_passes (constants (0 ∷ 0 ∷ [])) _ (0 ∷ 0 ∷ []) s at5 rest rest (constants_pass (0 ∷ 0 ∷ []) zero_bytes) (λ at6. (at6, refl))))))))

-- ---- the whole

abbrev names_of : ColumnDef → Names
names_of c = record { schema = c.schema; table = c.table; org_table = c.org_table; name = c.name; org_name = c.org_name }

abbrev sizes_of : ColumnDef → Sizes
sizes_of c = record { charset = c.charset; length = c.length; kind = c.kind; flags = c.flags; decimals = c.decimals }

same_sizes : (s : Sizes) → SizesFit s → sizes_text s ≡ 0x0c ∷ (little_bytes 2 s.charset ++ (little_bytes 4 s.length ++ s.kind ∷ (little_bytes 2 s.flags ++ s.decimals ∷ 0 ∷ 0 ∷ [])))
same_sizes s fits =
    let kind : s.kind % 256 ≡ s.kind = omega (arith, fits.kind) in
    let decimals : s.decimals % 256 ≡ s.decimals = omega (arith, fits.decimals) in
    rw (kind, decimals) refl

same_payload : (c : ColumnDef) → SizesFit (sizes_of c) → names_text (names_of c) ++ sizes_text (sizes_of c) ≡ column_payload c
same_payload c fits = rw (same_sizes (sizes_of c) fits) (simp (append_assoc, append-nil))

-- what a column has but for the size of its payload
pub record ColumnFits (c : ColumnDef) : Type 0 where
  pub charset : c.charset < 2 ^ 16
  pub length : c.length < 2 ^ 32
  pub kind : c.kind < 2 ^ 8
  pub flags : c.flags < 2 ^ 16
  pub decimals : c.decimals < 2 ^ 8

pub column_takes : (u : Unread) (x : ColumnDef × Unread) → IsBytes u.left → column_fields u ≡ Ok x → Takes u (column_payload x.0) x.1 × ColumnFits x.0
unfolding column_fields
column_takes u x fits e =
    then_step (column_names u) _ x e (λ n took0 e0.
    let t0 = names_take u n fits took0 in
    then_step (column_sizes n.1) _ x e0 (λ s took1 e1.
    let t1 = sizes_take n.1 s t0.0.bytes took1 in
    let c : ColumnDef = column_of n.0 s.0 in
    let whole : Takes u (column_payload c) s.1 = subst (λ (text : List ℕ). Takes u text s.1) (same_payload c t1.1) (takes_then u n.1 s.1 (names_text n.0) (sizes_text s.0) t0.0 t1.0) in
    let P : ColumnDef × Unread → Type 0 = λ y. Takes u (column_payload y.0) y.1 × ColumnFits y.0 in
    subst P (ok_is (c, s.1) x e1) (
      whole,
      record { charset = omega (arith, t1.1.charset); length = omega (arith, t1.1.length); kind = omega (arith, t1.1.kind); flags = omega (arith, t1.1.flags); decimals = omega (arith, t1.1.decimals) },
    )))

names_fit : (c : ColumnDef) → IsColumn c → NamesFit (names_of c)
names_fit c h =
    let whole = h.payload in
    let parts : length (column_payload c) ≡ length (encoded_string (codes "def")) + (length (encoded_string c.schema) + (length (encoded_string c.table) + (length (encoded_string c.org_table) + (length (encoded_string c.name) + (length (encoded_string c.org_name) + length (column_sizes_text c)))))) = simp (length-append, append_assoc) in
    let a = string_longer c.schema in
    let b = string_longer c.table in
    let d = string_longer c.org_table in
    let e = string_longer c.name in
    let f = string_longer c.org_name in
    record { schema = omega (arith, whole, parts, a); table = omega (arith, whole, parts, b); org_table = omega (arith, whole, parts, d); name = omega (arith, whole, parts, e); org_name = omega (arith, whole, parts, f) }
  where
    column_sizes_text : ColumnDef → List ℕ
    column_sizes_text x = Rattle.qc_sql.specs.Packets.column_sizes x

pub column_rereads : (c : ColumnDef) → IsColumn c → Rereads column_fields (column_payload c) c
unfolding column_fields
column_rereads c h at rest =
    let fits : SizesFit (sizes_of c) = record { charset = omega (arith, h.charset); length = omega (arith, h.length); kind = omega (arith, h.kind); flags = omega (arith, h.flags); decimals = omega (arith, h.decimals) } in
    let regrouped : column_payload c ++ rest ≡ names_text (names_of c) ++ (sizes_text (sizes_of c) ++ rest) = ap (λ (text : List ℕ). text ++ rest) (sym (same_payload c fits)) ∙ append_assoc (names_text (names_of c)) (sizes_text (sizes_of c)) rest in
    subst (λ (text : List ℕ). Answers (column_fields (spot at text)) c rest) (sym regrouped)
    (then_reread column_names _ (names_text (names_of c)) (names_of c) c at _ rest (names_again (names_of c) (names_fit c h)) (λ at0.
    then_reread column_sizes _ (sizes_text (sizes_of c)) (sizes_of c) c at0 rest rest (sizes_again (sizes_of c) fits) (λ at1. (at1, refl))))
