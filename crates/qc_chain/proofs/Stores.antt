-- What the parts of chains are seen as, and what each call keeps true of them.
use Rattle.std.proofs.Common.{subst, ◌≡◌, ℕ, ◌+◌, ◌-◌, ◌*◌, ◌<◌, ◌≤◌, List, [], ◌∷◌, ◌++◌, map, length, get_or, set, replicate, refl, sym, ap, ◌∙◌, arith, zero, suc, inl, inr, Option, Some, None, Bool, false, not, ◌==◌}
use Rattle.std.specs.Prelude.{option_map, option_and_then, slice_get, Contains, IsTrue, ◌↔◌}
use Rattle.std.proofs.lemmas.Bool.{cases_eq, ne_eqb}
use Rattle.std.proofs.lemmas.List.{map-set, length-map, length-set, length-replicate, length-append}
use Rattle.std.proofs.lemmas.Option.{same_Some, none-some, slice_get-map, slice_get_within}
use Rattle.qc_tiles.specs.declared.blocks.Block.{Block}
use Rattle.qc_tiles.specs.declared.blocks.Move.{Move}
use Rattle.qc_chain.specs.declared.names.Extent.{Extent}
use Rattle.qc_chain.specs.Words.{words_of}
use Rattle.qc_tiles.specs.Tiles.{trimmed, moved}
use Rattle.qc_chain.specs.Chains.{Chain, Chained, Begun, EndsInLast, chain_at, extent_of, no_chains, words_for}
use Rattle.qc_chain.specs.Views.{blocks_of, chained, bytes_at, AreFit, KeepsOthers, Appends, Removes, Cuts}
use Rattle.qc_chain.specs.Listed.{Listed}
use Rattle.qc_chain.specs.Stored.{extent_at, lengths_of, IsCounted, IsStored}
use Rattle.qc_chain.proofs.Words.{words_push}
use Rattle.qc_chain.proofs.Views.{IsBegun, begun_at, no_extent, extent_is, blocks_moved, words_moved, sound_moved, none_begun, free_has_none, free_name, free_chain, none_there}
use Rattle.qc_chain.proofs.Calls.{IsCut, is_cut, begin_sound, append_sound, release_sound, cut_sound}
use Rattle.qc_chain.proofs.FreeNames.{AreNames, name-there, count-last, names-fewer, names-more, names-still, names-fit, some-free, first-free}

-- ---- extents

or_none : (o : Option (Option Extent)) → option_and_then (λ x. x) (option_map (option_map (λ (e : Extent). e.bytes)) o) ≡ option_map (λ (e : Extent). e.bytes) (option_and_then (λ x. x) o)
or_none None = refl
or_none (Some l) = refl

pub length_at : (n : ℕ) (es : List (Option Extent)) → bytes_at n (lengths_of es) ≡ option_map (λ (e : Extent). e.bytes) (extent_at n es)
length_at n es = ap (option_and_then (λ x. x)) (slice_get-map (option_map (λ (e : Extent). e.bytes)) es n) ∙ or_none (slice_get es n)

pub lengths_set : (es : List (Option Extent)) (n : ℕ) (o : Option Extent) → lengths_of (set es n o) ≡ set (lengths_of es) n (option_map (λ (e : Extent). e.bytes) o)
lengths_set es n o = map-set (option_map (λ (e : Extent). e.bytes)) es n o

some_extent : (o : Option (Option Extent)) (e : Extent) → option_and_then (λ x. x) o ≡ Some e → o ≡ Some (Some e)
some_extent None e h = absurd (none-some e h)
some_extent (Some l) e h = ap (λ x. Some x) h

of_length : (o : Option Extent) (bytes : ℕ) → option_map (λ (e : Extent). e.bytes) o ≡ Some bytes → (e : Extent) × (o ≡ Some e) × (e.bytes ≡ bytes)
of_length None bytes h = absurd (none-some bytes h)
of_length (Some e) bytes h = (e, refl, same_Some e.bytes bytes h)

-- what is known of a chain that was begun
pub record IsKnown (n : ℕ) (es : List (Option Extent)) (blocks : Listed) (held : Chain) (e : Extent) : Type 0 where
  pub there : slice_get es n ≡ Some (Some e)
  pub extent : extent_at n es ≡ Some e
  pub within : n < length es
  pub listed : n < length blocks.lists
  pub bytes : e.bytes ≡ held.bytes
  pub count : e.blocks ≡ length (blocks_of n blocks.lists)
  pub words : e.words ≡ words_of (blocks_of n blocks.lists)
  pub begun : IsBegun n (lengths_of es) blocks.lists held

pub known : (n capacity : ℕ) (es : List (Option Extent)) (free : List ℕ) (blocks : Listed) (v : Chained) (held : Chain) → IsStored es free capacity blocks → chained (lengths_of es) blocks.lists blocks.room ≡ v → Begun n v held → (e : Extent) × IsKnown n es blocks held e
known n capacity es free blocks v held stored view h =
    let begun = begun_at n blocks.room (lengths_of es) blocks.lists v held view h in
    let (e, extent, bytes) = of_length (extent_at n es) held.bytes (sym (length_at n es) ∙ begun.length) in
    let there = some_extent (slice_get es n) e extent in
    let counted : IsCounted (Some e) (blocks_of n blocks.lists) = subst (λ (o : Option Extent). IsCounted o (blocks_of n blocks.lists)) extent (stored.counted n) in
    let within = slice_get_within es n (Some e) there in
    (e, record { there = there; extent = extent; within = within; listed = omega (arith, within, stored.lists); bytes = bytes; count = counted.0; words = counted.1; begun = begun })

-- the same of the extent that was read
pub known_here : (n capacity : ℕ) (es read_of : List (Option Extent)) (free : List ℕ) (blocks : Listed) (v : Chained) (held : Chain) (x : Extent) → IsStored es free capacity blocks → chained (lengths_of es) blocks.lists blocks.room ≡ v → Begun n v held → Some x ≡ extent_at n read_of → read_of ≡ es → IsKnown n es blocks held x
known_here n capacity es read_of free blocks v held x stored view h read is =
    let (e, k) = known n capacity es free blocks v held stored view h in
    let same : e ≡ x = same_Some e x (sym k.extent ∙ (ap (extent_at n) (sym is) ∙ sym read)) in
    subst (λ (y : Extent). IsKnown n es blocks held y) same k

pub not_there : (n capacity : ℕ) (es read_of : List (Option Extent)) (free : List ℕ) (blocks : Listed) (v : Chained) (held : Chain) → IsStored es free capacity blocks → chained (lengths_of es) blocks.lists blocks.room ≡ v → Begun n v held → None ≡ extent_at n read_of → read_of ≡ es → ⊥
not_there n capacity es read_of free blocks v held stored view h read is =
    let (e, k) = known n capacity es free blocks v held stored view h in
    none-some e (read ∙ (ap (extent_at n) is ∙ k.extent))

-- ---- one chain changed

get_set_same : (es : List (Option Extent)) (n : ℕ) (o : Option Extent) → n < length es → extent_at n (set es n o) ≡ o
get_set_same [] n o h = absurd (omega arith)
get_set_same (x ∷ es) zero o h = refl
get_set_same (x ∷ es) (suc n) o h = get_set_same es n o (omega arith)

get_set_other : (es : List (Option Extent)) (n m : ℕ) (o : Option Extent) → (m ≡ n → ⊥) → extent_at m (set es n o) ≡ extent_at m es
get_set_other [] n m o h = refl
get_set_other (x ∷ es) zero zero o h = absurd (h refl)
get_set_other (x ∷ es) zero (suc m) o h = refl
get_set_other (x ∷ es) (suc n) zero o h = refl
get_set_other (x ∷ es) (suc n) (suc m) o h = get_set_other es n m o (λ e. h (ap suc e))

counted_set : (n : ℕ) (es : List (Option Extent)) (ps qs : List (List Block)) (o : Option Extent) → n < length es → ((m : ℕ) → IsCounted (extent_at m es) (blocks_of m ps)) → KeepsOthers n ps qs → IsCounted o (blocks_of n qs) → (m : ℕ) → IsCounted (extent_at m (set es n o)) (blocks_of m qs)
counted_set n es ps qs o within counted keeps here m =
    elim (cases_eq m n) [
      | inl same ↦ rw (same, get_set_same es n o within) here
      | inr other ↦ rw (get_set_other es n m o other, keeps m other) (counted m)
    ]

-- ---- what a chain has

extent_by : (n room : ℕ) (es : List (Option Extent)) (ps : List (List Block)) (o : Option Extent) → extent_at n es ≡ o → IsCounted o (blocks_of n ps) → o ≡ option_map extent_of (chain_at n (chained (lengths_of es) ps room))
extent_by n room es ps None h counted = sym (no_extent n room (lengths_of es) ps (length_at n es ∙ ap (option_map (λ (e : Extent). e.bytes)) h))
extent_by n room es ps (Some e) h counted =
    let same : ◌≡◌ {A = Extent} (record { blocks = length (blocks_of n ps); words = words_of (blocks_of n ps); bytes = e.bytes }) e = rw (← counted.0, ← counted.1) refl in
    sym (extent_is n room e.bytes (lengths_of es) ps (length_at n es ∙ ap (option_map (λ (x : Extent). x.bytes)) h) ∙ ap (λ (x : Extent). Some x) same)

pub extent_has : (n capacity : ℕ) (es : List (Option Extent)) (free : List ℕ) (blocks : Listed) (v : Chained) (o : Option Extent) → IsStored es free capacity blocks → chained (lengths_of es) blocks.lists blocks.room ≡ v → o ≡ extent_at n es → o ≡ option_map extent_of (chain_at n v)
extent_has n capacity es free blocks v o stored view h =
    rw (← view) (h ∙ extent_by n blocks.room es blocks.lists (extent_at n es) refl (stored.counted n))

-- ---- beginning

none_from_length : (o : Option Extent) → option_map (λ (e : Extent). e.bytes) o ≡ None → o ≡ None
none_from_length None h = refl
none_from_length (Some e) h = absurd (none-some e.bytes (sym h))

length_or_none : (es : List (Option Extent)) (i : ℕ) → get_or (lengths_of es) i None ≡ option_map (λ (e : Extent). e.bytes) (get_or es i None)
length_or_none [] i = refl
length_or_none (x ∷ es) zero = refl
length_or_none (x ∷ es) (suc i) = length_or_none es i

pub free_extent : (es : List (Option Extent)) → Contains (lengths_of es) None → Contains es None
free_extent es (i, within, free) = (i, omega (arith, within, length-map es (option_map (λ (e : Extent). e.bytes))), none_from_length (get_or es i None) (sym (length_or_none es i) ∙ free))

pub no_length : (n : ℕ) (es : List (Option Extent)) → slice_get es n ≡ Some None → slice_get (lengths_of es) n ≡ Some None
no_length n es h = slice_get-map (option_map (λ (e : Extent). e.bytes)) es n ∙ ap (option_map (option_map (λ (e : Extent). e.bytes))) h

abbrev pub empty_extent : Extent
empty_extent = record { blocks = 0; words = 0; bytes = 0 }

pub begin_stored : (n capacity : ℕ) (es : List (Option Extent)) (init : List ℕ) (blocks : Listed) → IsStored es (init ++ n ∷ []) capacity blocks → IsStored (set es n (Some empty_extent)) init capacity blocks
begin_stored n capacity es init blocks stored =
    let ls = lengths_of es in
    let there = name-there es (init ++ n ∷ []) n stored.names (count-last n init) in
    let within = slice_get_within es n None there in
    let empty : blocks_of n blocks.lists ≡ [] = free_has_none n ls blocks.lists stored.sound (no_length n es there) in
    let long : n < length ls = omega (arith, within, length-map es (option_map (λ (e : Extent). e.bytes))) in
    record {
      sound = subst (λ (l : List (Option ℕ)). AreFit l blocks.lists) (sym (lengths_set es n (Some empty_extent))) (begin_sound n ls blocks.lists long stored.sound (no_length n es there));
      counted = counted_set n es blocks.lists blocks.lists (Some empty_extent) within stored.counted (λ m ne. refl) (rw empty (refl, refl));
      names = names-fewer es init n empty_extent stored.names;
      lists = stored.lists ∙ sym (length-set es n (Some empty_extent));
      fits = omega (arith, stored.fits, length-set es n (Some empty_extent));
    }

-- whether a name is free, by the length of their list
pub told_free : (capacity : ℕ) (es : List (Option Extent)) (free : List ℕ) (blocks : Listed) (v : Chained) (b : Bool) → IsStored es free capacity blocks → chained (lengths_of es) blocks.lists blocks.room ≡ v → b ≡ (length free == 0) → IsTrue (not b) ↔ Contains v.chains None
told_free capacity es [] blocks v b stored view is = (
  λ h. absurd (cc (sym (ap not is) ∙ h)),
  λ has. absurd (some-free es [] stored.names (free_extent es (free_name (lengths_of es) blocks.lists (rw (← view) at has))) refl),
)
told_free capacity es (x ∷ xs) blocks v b stored view is =
    let there = first-free es x xs stored.names in
    let named = no_length x es there in
    let no : (length (x ∷ xs) == 0) ≡ false = ne_eqb (length (x ∷ xs)) 0 (λ e. omega (arith, e)) in
    (λ h. rw (← view) (free_chain (lengths_of es) blocks.lists (none_there (lengths_of es) x (slice_get_within (lengths_of es) x None named) named)), λ has. rw (is, no) refl)

-- ---- appending

pub append_stored : (n capacity words : ℕ) (b : Block) (es : List (Option Extent)) (free : List ℕ) (blocks new_blocks : Listed) (held : Chain) (e : Extent) → IsStored es free capacity blocks → IsKnown n es blocks held e → Appends n b blocks.lists new_blocks.lists → length new_blocks.lists ≡ length blocks.lists → words ≡ e.words + b.words → words ≤ 8388608
    → IsStored (set es n (Some (record { blocks = e.blocks + 1; words = words; bytes = 8 * words }))) free capacity new_blocks
append_stored n capacity words b es free blocks new_blocks held e stored k more many sum most =
    let new : Extent = record { blocks = e.blocks + 1; words = words; bytes = 8 * words } in
    let ls = lengths_of es in
    let total : words ≡ words_of (blocks_of n new_blocks.lists) = sum ∙ (ap (λ w. w + b.words) k.words ∙ sym (ap words_of more.own ∙ words_push (blocks_of n blocks.lists) b)) in
    let count : e.blocks + 1 ≡ length (blocks_of n new_blocks.lists) = omega (arith, k.count, ap length more.own, length-append (blocks_of n blocks.lists) (b ∷ [])) in
    record {
      sound = subst (λ (l : List (Option ℕ)). AreFit l new_blocks.lists) (sym (lengths_set es n (Some new))) (append_sound n words b ls blocks.lists new_blocks.lists held k.begun more total most stored.sound);
      counted = counted_set n es blocks.lists new_blocks.lists (Some new) k.within stored.counted more.other (count, total);
      names = names-still es free n e new stored.names k.there;
      lists = many ∙ (stored.lists ∙ sym (length-set es n (Some new)));
      fits = omega (arith, stored.fits, length-set es n (Some new));
    }

-- ---- releasing

pub release_stored : (n capacity : ℕ) (es : List (Option Extent)) (free : List ℕ) (blocks new_blocks : Listed) (held : Chain) (e : Extent) → IsStored es free capacity blocks → IsKnown n es blocks held e → Removes n blocks.lists new_blocks.lists → length new_blocks.lists ≡ length blocks.lists
    → IsStored (set es n None) (free ++ n ∷ []) capacity new_blocks
release_stored n capacity es free blocks new_blocks held e stored k less many = record {
  sound = subst (λ (l : List (Option ℕ)). AreFit l new_blocks.lists) (sym (lengths_set es n None)) (release_sound n (lengths_of es) blocks.lists new_blocks.lists k.begun.within less stored.sound);
  counted = counted_set n es blocks.lists new_blocks.lists None k.within stored.counted less.other tt;
  names = names-more es free n e stored.names k.there;
  lists = many ∙ (stored.lists ∙ sym (length-set es n None));
  fits = omega (arith, stored.fits, length-set es n None);
}

-- there is room for the name that is given back
pub name_room : (n capacity : ℕ) (es : List (Option Extent)) (free : List ℕ) (blocks : Listed) (held : Chain) (e : Extent) → IsStored es free capacity blocks → IsKnown n es blocks held e → length free < capacity
name_room n capacity es free blocks held e stored k =
    omega (arith, names-fit (set es n None) (free ++ n ∷ []) (names-more es free n e stored.names k.there), length-set es n None, length-append free (n ∷ []), stored.fits)

-- ---- cutting

-- the chain's last block, as it was read
pub record IsLastRead (n bytes : ℕ) (es : List (Option Extent)) (blocks : Listed) (held : Chain) (last : Block) : Type 0 where
  pub front : List Block
  pub before : blocks_of n blocks.lists ≡ front ++ last ∷ []
  pub cut : IsCut n bytes (lengths_of es) front last blocks.lists held

pub last_read : (n bytes : ℕ) (es : List (Option Extent)) (blocks : Listed) (held : Chain) (e : Extent) (last : Block) → IsKnown n es blocks held e → EndsInLast held.blocks bytes → (front : List Block) × (blocks_of n blocks.lists ≡ front ++ last ∷ []) → IsLastRead n bytes es blocks held last
last_read n bytes es blocks held e last k ends (front, before) = record { front = front; before = before; cut = is_cut n bytes (lengths_of es) front last blocks.lists held k.begun before ends }

-- a trimmed block stands where it did
pub cuts_left : (n used : ℕ) (front : List Block) (last left : Block) (old new : List (List Block)) → left ≡ trimmed used last → Cuts n front last (record { first = last.first; words = left.words }) old new → Cuts n front last left old new
cuts_left n used front last left old new is h = subst (λ (b : Block). Cuts n front last b old new) (ap (λ place. record { first = place; words = left.words }) (sym (ap (λ (b : Block). b.first) is))) h

pub cut_stored : (n capacity bytes used words : ℕ) (es : List (Option Extent)) (free : List ℕ) (blocks new_blocks : Listed) (held : Chain) (e : Extent) (front : List Block) (last left : Block) → IsStored es free capacity blocks → IsKnown n es blocks held e → Cuts n front last left blocks.lists new_blocks.lists
    → IsCut n bytes (lengths_of es) front last blocks.lists held → used ≡ words_for bytes - words_of front → left ≡ trimmed used last → length new_blocks.lists ≡ length blocks.lists → words ≡ words_of front + left.words → IsStored (set es n (Some (record { blocks = e.blocks; words = words; bytes = bytes }))) free capacity new_blocks
cut_stored n capacity bytes used words es free blocks new_blocks held e front last left stored k cut is used_is left_is many sum =
    let new : Extent = record { blocks = e.blocks; words = words; bytes = bytes } in
    let total : words ≡ words_of (blocks_of n new_blocks.lists) = sum ∙ sym (ap words_of cut.own ∙ words_push front left) in
    let count : e.blocks ≡ length (blocks_of n new_blocks.lists) = omega (arith, k.count, ap length cut.own, ap length cut.before, length-append front (left ∷ []), length-append front (last ∷ [])) in
    record {
      sound = subst (λ (l : List (Option ℕ)). AreFit l new_blocks.lists) (sym (lengths_set es n (Some new))) (cut_sound n bytes used (lengths_of es) front last left blocks.lists new_blocks.lists held k.begun is cut used_is left_is stored.sound);
      counted = counted_set n es blocks.lists new_blocks.lists (Some new) k.within stored.counted cut.other (count, total);
      names = names-still es free n e new stored.names k.there;
      lists = many ∙ (stored.lists ∙ sym (length-set es n (Some new)));
      fits = omega (arith, stored.fits, length-set es n (Some new));
    }

-- ---- moving

moved_counted : (change : Move) (o : Option Extent) (bs : List Block) → IsCounted o bs → IsCounted o (map (moved change) bs)
moved_counted change None bs h = h
moved_counted change (Some e) bs h = (h.0 ∙ sym (length-map bs (moved change)), h.1 ∙ sym (words_moved change bs))

pub move_stored : (change : Move) (capacity : ℕ) (es : List (Option Extent)) (free : List ℕ) (blocks new_blocks : Listed) → IsStored es free capacity blocks → new_blocks.lists ≡ map (map (moved change)) blocks.lists → IsStored es free capacity new_blocks
move_stored change capacity es free blocks new_blocks stored is = record {
  sound = subst (λ ps. AreFit (lengths_of es) ps) (sym is) (sound_moved change (lengths_of es) blocks.lists stored.sound);
  counted = λ n. rw (is, blocks_moved change n blocks.lists) (moved_counted change (extent_at n es) (blocks_of n blocks.lists) (stored.counted n));
  names = stored.names;
  lists = ap length is ∙ (length-map blocks.lists (map (moved change)) ∙ stored.lists);
  fits = stored.fits;
}

-- ---- no chains

none_extent : (n m : ℕ) → extent_at m (replicate n None) ≡ None
none_extent zero m = refl
none_extent (suc n) zero = refl
none_extent (suc n) (suc m) = none_extent n m

no_lengths : (n : ℕ) → lengths_of (replicate n None) ≡ replicate n None
no_lengths zero = refl
no_lengths (suc n) = ap (λ ls. None ∷ ls) (no_lengths n)

none_blocks : (n m : ℕ) → blocks_of m (replicate n []) ≡ []
none_blocks zero m = refl
none_blocks (suc n) zero = refl
none_blocks (suc n) (suc m) = none_blocks n m

pub no_chains_stored : (n capacity : ℕ) (es : List (Option Extent)) (free : List ℕ) (blocks : Listed) → es ≡ replicate n None → AreNames es free → blocks ≡ record { lists = replicate n []; room = n } → n ≤ capacity → IsStored es free capacity blocks
no_chains_stored n capacity es free blocks is names none fits =
    let long : length es ≡ n = ap length is ∙ length-replicate {A = Option Extent} n None in
    record {
      sound = λ m. rw (is, none, length_at m (replicate n None), none_extent n m) (none_blocks n m);
      counted = λ m. rw (is, none_extent n m) tt;
      names = names;
      lists = ap (λ (b : Listed). length b.lists) none ∙ (length-replicate n [] ∙ sym long);
      fits = omega (arith, fits, long);
    }

pub no_chains_seen : (n : ℕ) (es : List (Option Extent)) (blocks : Listed) → es ≡ replicate n None → blocks ≡ record { lists = replicate n []; room = n } → chained (lengths_of es) blocks.lists blocks.room ≡ no_chains n
no_chains_seen n es blocks is none =
    none_begun n blocks.room (lengths_of es) blocks.lists (ap lengths_of is ∙ no_lengths n) (ap (λ (b : Listed). b.room) none)
