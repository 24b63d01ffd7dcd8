-- Reports with short column names, and options that are rounded.
use Rattle.std.proofs.Common.{◌≡◌, ℕ, [], refl, true, false, arith, inl, inr}
use Rattle.std.specs.Prelude.{codes, replicate, Some, None}
use Rattle.qc_sql.specs.declared.tables.Column.{Column}
use Rattle.qc_sql.specs.declared.tables.Kind.TheVariants as kind
use Rattle.qc_sql.specs.declared.tables.RowOp.TheVariants as op
use Rattle.qc_model.specs.declared.events.Event.TheVariants as event
use Rattle.qc_script.specs.ShortNames.{HasShortName, MakesShortColumns, HasShortColumns}
use Rattle.qc_app.specs.Arguments.{is_number, number_in, rounded}
use Rattle.qc_app.specs.Laws.{AreRounded}

abbrev column : ℕ → Column
column n = record { name = replicate n 99; kind = kind.Int; not_null = false; primary = false }

longest : HasShortName (column 255)
longest = omega arith

long : HasShortName (column 256) → ⊥
long h = absurd (omega (arith, h))

unnamed : HasShortName (column 0)
unnamed = omega arith

drop_makes_none : MakesShortColumns (op.DropTable (record { db = codes "d"; name = codes "t" }))
drop_makes_none = tt

done_makes_none : HasShortColumns (event.Done 1)
done_makes_none = tt

-- ---- options

-- a size is rounded down, and a unit up
rounded_are : rounded 2047 5 513 2 ≡ record { size = 1024; limit = 5; unit = 520; kind = 2 }
rounded_are = refl

small_size : rounded 1023 0 512 0 ≡ record { size = 0; limit = 0; unit = 512; kind = 0 }
small_size = refl

largest_size : rounded 67108864 67108864 1048576 1 ≡ record { size = 67108864; limit = 67108864; unit = 1048576; kind = 1 }
largest_size = refl

-- 1 to 10 digits
digits : is_number (codes "0000000007") ≡ true
digits = refl

eleven_digits : is_number (codes "00000000007") ≡ false
eleven_digits = refl

no_digits : is_number [] ≡ false
no_digits = refl

sign : is_number (codes "-7") ≡ false
sign = refl

in_range : number_in 512 1048576 (codes "0512") ≡ Some 512
in_range = refl

below_range : number_in 512 1048576 (codes "511") ≡ None
below_range = refl

above_range : number_in 0 2 (codes "3") ≡ None
above_range = refl

least_options : AreRounded (record { size = 1024; limit = 0; unit = 512; kind = 0 })
least_options = record { size = refl; size_most = omega arith; limit_most = omega arith; unit = refl; unit_least = omega arith; unit_most = omega arith; kind_most = omega arith; room = inr (omega arith) }

off_options : AreRounded (record { size = 0; limit = 7; unit = 1048576; kind = 2 })
off_options = record { size = refl; size_most = omega arith; limit_most = omega arith; unit = refl; unit_least = omega arith; unit_most = omega arith; kind_most = omega arith; room = inl refl }

uneven_unit : AreRounded (record { size = 0; limit = 7; unit = 514; kind = 2 }) → ⊥
uneven_unit h = absurd (cc h.unit)

large_kind : AreRounded (record { size = 0; limit = 7; unit = 512; kind = 3 }) → ⊥
large_kind h = absurd (omega (arith, h.kind_most))
