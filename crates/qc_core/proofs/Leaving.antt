-- Blocks given back one after another.
use Rattle.std.proofs.Common.{◌≡◌, ℕ, zero, suc, ◌+◌, ◌-◌, ◌<◌, List, [], ◌∷◌, ◌++◌, map, length, drop, refl, sym, ap, subst, ◌∙◌, arith, append-nil, replicate, get_or}
use Rattle.std.specs.Prelude.{Contains, Option, Some, None, slice_get}
use Rattle.std.specs.List.{AllByRecursion}
use Rattle.std.proofs.lemmas.List.Elements.{Contains-append_left}
use Rattle.std.proofs.lemmas.Option.{same_Some}
use Rattle.qc_tiles.specs.declared.blocks.Tile.{Tile}
use Rattle.qc_tiles.specs.declared.blocks.Block.{Block}
use Rattle.qc_tiles.specs.Tiles.{IsTiling, handed_out, after_give_back}
use Rattle.qc_tiles.specs.Tiles.{region_words as tile_words}
use Rattle.qc_tiles.proofs.Keeps.{after_give_back-tiling}
use Rattle.qc_chain.specs.Chains.{Begun, AreHandedOut, AreOnce, after_release}
use Rattle.qc_chain.proofs.Releases.{rest_handed_out}
use Rattle.qc_dir.specs.declared.entries.Entry.{Entry}
use Rattle.qc_dir.specs.declared.tables.TableBlock.{TableBlock}
use Rattle.qc_dir.specs.Directory.{Directory, entry_at, RemovesEntry}
use Rattle.qc_dir.specs.Blocks.{places_of}
use Rattle.qc_sound.proofs.Handed.{gave_tiling}
use Rattle.qc_core.specs.declared.server_state.ServerState.{ServerState}
use Rattle.qc_core.specs.EntryRemoval.{blocks_in, table_blocks, own_blocks, has_task, free_chain, chain_left, MayLeave, left_by, Leaves, IsReturning}

pub release_append : (xs ys : List Block) (ts : List Tile) → after_release (xs ++ ys) ts ≡ after_release ys (after_release xs ts)
release_append [] ys ts = refl
release_append (x ∷ xs) ys ts = release_append xs ys (after_give_back x.first ts)

all_front : (P : Block → Type 0) (xs ys : List Block) → AllByRecursion P (xs ++ ys) → AllByRecursion P xs
all_front P [] ys h = tt
all_front P (x ∷ xs) ys h = (h.0, all_front P xs ys h.1)

once_front : (xs ys : List Block) → AreOnce (xs ++ ys) → AreOnce xs
once_front [] ys h = tt
once_front (x ∷ xs) ys h = (λ c. h.0 (Contains-append_left xs ys x c), once_front xs ys h.1)

pub out_front : (ts : List Tile) (xs ys : List Block) → AreHandedOut ts (xs ++ ys) → AreHandedOut ts xs
out_front ts xs ys h = record { each = all_front (Contains (handed_out ts)) xs ys h.each; once = once_front xs ys h.once }

pub out_behind : (words : ℕ) (ts : List Tile) (xs ys : List Block) → IsTiling words ts → AreHandedOut ts (xs ++ ys) → AreHandedOut (after_release xs ts) ys
out_behind words ts [] ys tiling h = h
out_behind words ts (x ∷ xs) ys tiling h = out_behind words (after_give_back x.first ts) xs ys (after_give_back-tiling words x.first ts tiling) (rest_handed_out words ts x (xs ++ ys) tiling h)

blocks_cons : (p : Option TableBlock) (ps : List (Option TableBlock)) → blocks_in (p ∷ ps) ≡ blocks_in (p ∷ []) ++ blocks_in ps
blocks_cons None ps = refl
blocks_cons (Some t) ps = refl

drop_place : (ps : List (Option TableBlock)) (k : ℕ) (p : Option TableBlock) → slice_get ps k ≡ Some p → drop k ps ≡ p ∷ drop (k + 1) ps
drop_place [] k p h = absurd cc
drop_place (q ∷ ps) zero p h = let e : 0 + 1 ≡ suc 0 = omega arith in ap (λ x. x ∷ ps) (same_Some q p h)
drop_place (q ∷ ps) (suc k) p h = let e : suc k + 1 ≡ suc (k + 1) = omega arith in drop_place ps k p h ∙ ap (λ n. p ∷ drop n (q ∷ ps)) (sym e)

pub returning_on : (ps : List (Option TableBlock)) (k : ℕ) (p : Option TableBlock) (old now new : List Tile) → slice_get ps k ≡ Some p → new ≡ after_release (blocks_in (p ∷ [])) now → IsReturning ps k old now → IsReturning ps (k + 1) old new
returning_on ps k p old now new got is h =
    let rest = ap blocks_in (drop_place ps k p got) ∙ blocks_cons p (drop (k + 1) ps) in
    let own = blocks_in (p ∷ []) in
    let more = blocks_in (drop (k + 1) ps) in
    subst (IsReturning ps (k + 1) old) (sym is) (record {
      tiling = gave_tiling (tile_words old) now own h.tiling;
      left = sym (release_append own more now) ∙ (ap (λ l. after_release l now) (sym rest) ∙ h.left);
      out = out_behind (tile_words old) now own more h.tiling (subst (AreHandedOut now) rest h.out);
    })

pub returning_out : (ps : List (Option TableBlock)) (k : ℕ) (p : Option TableBlock) (old now : List Tile) → slice_get ps k ≡ Some p → IsReturning ps k old now → AreHandedOut now (blocks_in (p ∷ []))
returning_out ps k p old now got h = out_front now (blocks_in (p ∷ [])) (blocks_in (drop (k + 1) ps)) (subst (AreHandedOut now) (ap blocks_in (drop_place ps k p got) ∙ blocks_cons p (drop (k + 1) ps)) h.out)

none_blocks : (n : ℕ) → blocks_in (replicate n None) ≡ []
none_blocks zero = refl
none_blocks (suc n) = none_blocks n

some_blocks : (ts : List TableBlock) (ps : List (Option TableBlock)) → blocks_in (map (λ m. Some m) ts ++ ps) ≡ table_blocks ts ++ blocks_in ps
some_blocks [] ps = refl
some_blocks (t ∷ ts) ps = ap (λ l. t.block ∷ l) (some_blocks ts ps)

pub places_blocks : (ts : List TableBlock) → blocks_in (places_of ts) ≡ table_blocks ts
places_blocks ts = some_blocks ts (replicate (8 - length ts) None) ∙ (ap (λ l. table_blocks ts ++ l) (none_blocks (8 - length ts)) ∙ append-nil (table_blocks ts))

-- ---- an entry taken out

module _ (n : ℕ) (s : ServerState) (u : MayLeave n s) (e : Entry) (there : entry_at n s.dir.entries ≡ Some e) (freed : List TableBlock) (dir : Directory) (removed : RemovesEntry n freed s.dir dir) where
  abbrev pub same_entry : u.entry ≡ e
  same_entry = same_Some u.entry e (sym u.there ∙ there)

  abbrev free : List Block
  free = free_chain (has_task n s) u.held

  abbrev pub all_out : AreHandedOut s.tiles (own_blocks free u.entry freed)
  all_out = u.out freed dir.tables removed.tables

  pub begun_there : Begun e.chain.number s.chains u.held
  begun_there = subst (λ (x : Entry). Begun x.chain.number s.chains u.held) same_entry u.begun

  pub text_out : AreHandedOut (after_release free s.tiles) (e.text ∷ table_blocks freed)
  text_out = subst (λ (x : Entry). AreHandedOut (after_release free s.tiles) (x.text ∷ table_blocks freed)) same_entry (out_behind (tile_words s.tiles) s.tiles free (u.entry.text ∷ table_blocks freed) u.tiling all_out)

  pub tables_out : AreHandedOut (after_give_back e.text.first (after_release free s.tiles)) (table_blocks freed)
  tables_out = rest_handed_out (tile_words s.tiles) (after_release free s.tiles) e.text (table_blocks freed) (gave_tiling (tile_words s.tiles) s.tiles free u.tiling) text_out

  pub leaves_so : (x : ServerState) (ts us : List Tile) → x ≡ chain_left (has_task n s) e.chain.number u.held (record s { dir = dir }) → ts ≡ after_give_back e.text.first x.tiles → us ≡ after_release (table_blocks freed) ts → Leaves n u.entry u.held freed s (record x { tiles = us })
  leaves_so x ts us a c d =
      let mid = after_release free s.tiles in
      let tiles : us ≡ after_release (own_blocks free u.entry freed) s.tiles =
      d ∙ (ap (after_release (table_blocks freed)) (c ∙ ap (λ (y : ServerState). after_give_back e.text.first y.tiles) a) ∙ (ap (λ (y : Entry). after_release (table_blocks freed) (after_give_back y.text.first mid)) (sym same_entry) ∙ sym (release_append free (u.entry.text ∷ table_blocks freed) s.tiles))) in
      let number : x ≡ chain_left (has_task n s) u.entry.chain.number u.held (record s { dir = dir }) = a ∙ ap (λ (y : Entry). chain_left (has_task n s) y.chain.number u.held (record s { dir = dir })) (sym same_entry) in
      record { removed = subst (λ d. RemovesEntry n freed s.dir d) (sym (ap (λ (y : ServerState). y.dir) a)) removed; server = (λ i. record (number i) { tiles = tiles i }) ∙ (λ i. left_by (sym (ap (λ (y : ServerState). y.dir) a) i) (has_task n s) u.entry u.held freed s) }

pub place_got : (ps : List (Option TableBlock)) (k : ℕ) (p : Option TableBlock) → k < length ps → p ≡ get_or ps k p → slice_get ps k ≡ Some p
place_got [] k p h e = absurd (omega arith)
place_got (q ∷ ps) zero p h e = ap Some (sym e)
place_got (q ∷ ps) (suc k) p h e = place_got ps k p (omega arith) e
