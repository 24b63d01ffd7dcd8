-- What the laws suppose is met, by computation: a statement of short names, and a bounded database with a row in it.
use Rattle.std.proofs.Common.{◌≡◌, [], ◌∷◌, refl, true, false}
use Rattle.std.specs.Prelude.{codes, None, pos}
use Rattle.qc_types.specs.declared.names.TableName.{TableName}
use Rattle.qc_types.specs.declared.names.Value.TheVariants as value
use Rattle.qc_sql.specs.declared.tables.Kind.TheVariants as kind
use Rattle.qc_sql.specs.declared.tables.RowOp.TheVariants as op
use Rattle.qc_sql.specs.declared.statements.Expr.TheVariants as expr
use Rattle.qc_sql.specs.declared.statements.Head.TheVariants as head
use Rattle.qc_sql.specs.declared.statements.Select.{Select}
use Rattle.qc_sql.specs.Database.{Database, apply}
use Rattle.qc_laws.specs.sizes.Names.{is_short_select}
use Rattle.qc_laws.specs.sizes.Replies.{is_bounded_database}

-- SELECT id, 'x' FROM t
small : Select
small = record {
  cache = head.Bare;
  star = false;
  items = record { value = expr.Column (record { source = None; name = codes "id" }); name = None; from = 7; to = 9; words = codes "id" }
      ∷ record { value = expr.Literal (value.Str (codes "x")); name = None; from = 11; to = 14; words = codes "'x'" } ∷ [];
  from = record { table = record { db = None; name = codes "t" }; name = codes "t" } ∷ [];
  cond = None;
  order = [];
  limit = None;
  lock = false;
}

small_is_short : is_short_select small ≡ true
unfolding small
small_is_short = refl

table_t : TableName
table_t = record { db = codes "d"; name = codes "t" }

one_row : Database
one_row = apply (op.CreateDb (codes "d")
    ∷ op.CreateTable table_t (record { name = codes "id"; kind = kind.Int; not_null = true; primary = true } ∷ record { name = codes "v"; kind = kind.Str 20; not_null = false; primary = false } ∷ [])
    ∷ op.Put table_t (value.Int (pos 1) ∷ value.Str (codes "one") ∷ []) ∷ []) []

one_row_is_bounded : is_bounded_database one_row ≡ true
unfolding one_row table_t
one_row_is_bounded = refl
