-- The row comes where the search for its key ends.
use Rattle.std.proofs.Common.{◌≡◌, ◌∙◌, ◌≤◌, ◌+◌, ap, length, rules, subst, sym, w64, FitsSigned}
use Rattle.std.proofs.lemmas.Int.{to_z-of_z}
use Rattle.qc_sql.specs.Database.{key_of}
use Rattle.qc_table.specs.Puts.{put_at}
use Rattle.qc_table.proofs.Appending.{fits_at, row_taken}
use Rattle.qc_table.proofs.Placing.{have_place, key_in_length, placed}
use Rattle.qc_table.proofs.row_edits.put_one.Goals as goal

pub put_row_in-requires-clause-takes : goal.put_row_in-requires-clause-takes
put_row_in-requires-clause-takes c =
    row_taken c.args.columns.now (length c.args.keys.now.items) c.args.cells.now.items _ c.requires.store (fits_at c.args.columns.now c.args.puts.now.rows c.args.index c.requires.fits c.requires.index)

pub put_row_in-requires-clause-place : goal.put_row_in-requires-clause-place
put_row_in-requires-clause-place c =
    let bound = rw c.deref.ensures.value at c.binary_search-place.ensures.bound in
    have_place c.args.columns.now (length c.args.keys.now.items) c.binary_search-place.result c.args.cells.now.items c.requires.store bound

pub put_key_in-requires-clause-place : goal.put_key_in-requires-clause-place
put_key_in-requires-clause-place c = rw c.deref.ensures.value at c.binary_search-place.ensures.bound

pub returns : goal.returns
returns c =
    let columns = c.args.columns.now in
    let keys = c.args.keys.now.items in
    let row = put_at c.args.puts.now.rows c.args.index in
    let place = c.binary_search-place.result in
    let key = c.key_of_row-key.result in
    let whole : FitsSigned w64 key = search rules in
    let its : key ≡ key_of columns row = c.key_of_row-key.ensures ∙ ap (key_of columns) c.row.ensures in
    let bound = rw c.deref.ensures.value at c.binary_search-place.ensures.bound in
    let position = rw (c.deref.ensures.value, to_z-of_z w64 key whole, its) at c.binary_search-place.ensures.position in
    let keys' = rw (to_z-of_z w64 key whole, its) at c.put_key_in.ensures.items in
    let all = placed columns keys c.put_key_in.new.keys.items c.args.cells.now.items c.put_row_in.new.cells.items place row c.requires.store c.requires.sound (fits_at columns c.args.puts.now.rows c.args.index c.requires.fits c.requires.index) bound position c.put_row_in.ensures.made keys' in
    record {
      store = all.0.0;
      sound = all.0.1;
      rows = all.1;
      rooms = c.put_row_in.ensures.room;
      few = subst (λ ks. length ks ≤ length keys + 1) (sym keys') (key_in_length place (key_of columns row) keys);
      len = c.put_key_in.ensures.len;
      capacity = c.put_key_in.ensures.capacity;
    }
