-- What the calls on chains leave, as the definitions say it.
use Rattle.std.proofs.Common.{◌≡◌, ℕ, ◌+◌, ◌-◌, ◌*◌, ◌<◌, ◌≤◌, List, [], ◌∷◌, ◌++◌, length, set, refl, sym, ap, ◌∙◌, arith, inl, inr, Option, Some, None}
use Rattle.std.specs.Prelude.{option_map, slice_get}
use Rattle.std.specs.Int.{div_ceil}
use Rattle.std.specs.List.{AllByRecursion}
use Rattle.std.proofs.lemmas.Bool.{cases_lt, le-leb, lt-leb}
use Rattle.qc_tiles.specs.declared.blocks.Block.{Block}
use Rattle.qc_tiles.specs.declared.blocks.Tile.{Tile}
use Rattle.qc_types.specs.Blocks.{raised}
use Rattle.qc_tiles.specs.Tiles.{trimmed, cut_words, after_trim}
use Rattle.qc_chain.specs.Words.{words_of}
use Rattle.qc_chain.specs.Chains.{Chain, EndsInLast, empty_chain, with_chain, whole_chain, after_append, but_last, words_for, used_words, cut_blocks, cut_chain, after_cut}
use Rattle.qc_chain.specs.Views.{blocks_of, chain_of, chains_from, chained, AreFit, KeepsOthers, Appends, Removes, Cuts}
use Rattle.qc_chain.proofs.Words.{words_push}
use Rattle.qc_chain.proofs.Views.{IsBegun, begun_fits, chains_set, sound_set, free_has_none}

same_others : (n : ℕ) (ps : List (List Block)) → KeepsOthers n ps ps
same_others n ps m other = refl

pub begins : (n room : ℕ) (ls : List (Option ℕ)) (ps : List (List Block)) → AreFit ls ps → slice_get ls n ≡ Some None → chained (set ls n (Some 0)) ps room ≡ with_chain n (Some empty_chain) (chained ls ps room)
begins n room ls ps sound free =
    let made : chains_from 0 (set ls n (Some 0)) ps ≡ set (chains_from 0 ls ps) n (Some empty_chain) = chains_set n ls ps ps (Some 0) (same_others n ps) ∙ rw (free_has_none n ls ps sound free) refl in
    rw made refl

pub begin_sound : (n : ℕ) (ls : List (Option ℕ)) (ps : List (List Block)) → n < length ls → AreFit ls ps → slice_get ls n ≡ Some None → AreFit (set ls n (Some 0)) ps
begin_sound n ls ps within sound free =
    sound_set n ls ps ps (Some 0) within sound (same_others n ps) (rw (free_has_none n ls ps sound free) (record { most = omega arith; within = omega arith }))

-- ---- appending

pub appends : (n room words : ℕ) (block : Block) (ls : List (Option ℕ)) (ps qs : List (List Block)) (held : Chain) → IsBegun n ls ps held → Appends n block ps qs → words ≡ words_of (blocks_of n qs)
    → chained (set ls n (Some (8 * words))) qs (room - 1) ≡ after_append n block held (chained ls ps room)
appends n room words block ls ps qs held begun more sum =
    let blocks : blocks_of n qs ≡ held.blocks ++ block ∷ [] = more.own ∙ ap (λ bs. bs ++ block ∷ []) (sym begun.same) in
    let chain : option_map (chain_of n qs) (Some (8 * words)) ≡ Some (whole_chain (held.blocks ++ block ∷ [])) = rw (sum, blocks) refl in
    let made : chains_from 0 (set ls n (Some (8 * words))) qs ≡ set (chains_from 0 ls ps) n (Some (whole_chain (held.blocks ++ block ∷ []))) = chains_set n ls ps qs (Some (8 * words)) more.other ∙ ap (set (chains_from 0 ls ps) n) chain in
    rw made refl

pub append_sound : (n words : ℕ) (block : Block) (ls : List (Option ℕ)) (ps qs : List (List Block)) (held : Chain) → IsBegun n ls ps held → Appends n block ps qs → words ≡ words_of (blocks_of n qs) → words ≤ 8388608 → AreFit ls ps
    → AreFit (set ls n (Some (8 * words))) qs
append_sound n words block ls ps qs held begun more sum most sound =
    sound_set n ls ps qs (Some (8 * words)) begun.within sound more.other (record { most = omega (arith, sum, most); within = omega (arith, sum) })

pub releases : (n room : ℕ) (ls : List (Option ℕ)) (ps qs : List (List Block)) → Removes n ps qs → chained (set ls n None) qs room ≡ record { chains = set (chains_from 0 ls ps) n None; room = room }
releases n room ls ps qs less =
    rw (chains_set n ls ps qs None less.other) refl

pub release_sound : (n : ℕ) (ls : List (Option ℕ)) (ps qs : List (List Block)) → n < length ls → Removes n ps qs → AreFit ls ps → AreFit (set ls n None) qs
release_sound n ls ps qs within less sound = sound_set n ls ps qs None within sound less.other less.own

-- ---- cutting

but_last-push : (front : List Block) (b : Block) → but_last (front ++ b ∷ []) ≡ front
but_last-push [] b = refl
but_last-push (x ∷ []) b = refl
but_last-push (x ∷ y ∷ front) b = ap (λ bs. x ∷ bs) (but_last-push (y ∷ front) b)

cut_blocks-push : (used : ℕ) (front : List Block) (b : Block) → cut_blocks used (front ++ b ∷ []) ≡ front ++ trimmed used b ∷ []
cut_blocks-push used [] b = refl
cut_blocks-push used (x ∷ []) b = refl
cut_blocks-push used (x ∷ y ∷ front) b = ap (λ bs. x ∷ bs) (cut_blocks-push used (y ∷ front) b)

after_cut-push : (used : ℕ) (front : List Block) (b : Block) (ts : List Tile) → after_cut used (front ++ b ∷ []) ts ≡ after_trim b.first used ts
after_cut-push used [] b ts = refl
after_cut-push used (x ∷ []) b ts = refl
after_cut-push used (x ∷ y ∷ front) b ts = after_cut-push used (y ∷ front) b ts

-- a trimmed block holds what is used, and no more than it did
left_words : (used words : ℕ) → used ≤ words → (used ≤ cut_words (raised used) words) × (cut_words (raised used) words ≤ words)
left_words used words within =
    elim (cases_lt words (raised used + 64)) [
      | inl small ↦ rw (lt-leb (raised used + 64) words small) (within, omega arith)
      | inr large ↦ rw (le-leb (raised used + 64) words large) (omega arith, omega arith)
    ]

-- what is known where a chain is cut to so many bytes
pub record IsCut (n bytes : ℕ) (ls : List (Option ℕ)) (front : List Block) (last : Block) (ps : List (List Block)) (held : Chain) : Type 0 where
  pub words : words_of (blocks_of n ps) ≡ words_of front + last.words
  pub used : used_words held.blocks bytes ≡ words_for bytes - words_of front
  pub below : words_of front < words_for bytes
  pub most : words_for bytes - words_of front ≤ last.words
  pub blocks : held.blocks ≡ front ++ last ∷ []

pub is_cut : (n bytes : ℕ) (ls : List (Option ℕ)) (front : List Block) (last : Block) (ps : List (List Block)) (held : Chain) → IsBegun n ls ps held → blocks_of n ps ≡ front ++ last ∷ [] → EndsInLast held.blocks bytes → IsCut n bytes ls front last ps held
is_cut n bytes ls front last ps held begun shape ends =
    let blocks : held.blocks ≡ front ++ last ∷ [] = begun.same ∙ shape in
    let before : words_of (but_last held.blocks) ≡ words_of front = ap words_of (ap but_last blocks ∙ but_last-push front last) in
    let all : words_of held.blocks ≡ words_of front + last.words = ap words_of blocks ∙ words_push front last in
    record {
      words = ap words_of shape ∙ words_push front last;
      used = ap (λ w. words_for bytes - w) before;
      below = omega (arith, before, ends.more);
      most = omega (arith, all, ends.within);
      blocks = blocks;
    }

pub last_in : (P : Block → Type 0) (front : List Block) (b : Block) → AllByRecursion P (front ++ b ∷ []) → P b
last_in P [] b h = h.0
last_in P (x ∷ front) b h = last_in P front b h.1

-- the bytes in words, as the program counts them
pub words_are : (bytes : ℕ) → div_ceil bytes 8 ≡ words_for bytes
words_are bytes = omega arith

pub cuts : (n room bytes used : ℕ) (ls : List (Option ℕ)) (front : List Block) (last left : Block) (ps qs : List (List Block)) (held : Chain) → IsCut n bytes ls front last ps held → Cuts n front last left ps qs → used ≡ words_for bytes - words_of front → left ≡ trimmed used last
    → chained (set ls n (Some bytes)) qs room ≡ with_chain n (Some (cut_chain bytes held)) (chained ls ps room)
cuts n room bytes used ls front last left ps qs held known cut used_is left_is =
    let own : blocks_of n qs ≡ cut_blocks (used_words held.blocks bytes) held.blocks =
    cut.own ∙ (ap (λ b. front ++ b ∷ []) (left_is ∙ ap (λ u. trimmed u last) (used_is ∙ sym known.used))
    ∙ (sym (cut_blocks-push (used_words held.blocks bytes) front last) ∙ ap (cut_blocks (used_words held.blocks bytes)) (sym known.blocks))) in
    let chain : option_map (chain_of n qs) (Some bytes) ≡ Some (cut_chain bytes held) = rw own refl in
    let made : chains_from 0 (set ls n (Some bytes)) qs ≡ set (chains_from 0 ls ps) n (Some (cut_chain bytes held)) = chains_set n ls ps qs (Some bytes) cut.other ∙ ap (set (chains_from 0 ls ps) n) chain in
    rw made refl

pub cut_tiles : (n bytes used : ℕ) (ls : List (Option ℕ)) (front : List Block) (last : Block) (ps : List (List Block)) (held : Chain) (ts : List Tile) → IsCut n bytes ls front last ps held → used ≡ words_for bytes - words_of front
    → after_trim last.first used ts ≡ after_cut (used_words held.blocks bytes) held.blocks ts
cut_tiles n bytes used ls front last ps held ts known used_is =
    ap (λ u. after_trim last.first u ts) (used_is ∙ sym known.used) ∙ (sym (after_cut-push (used_words held.blocks bytes) front last ts) ∙ ap (λ bs. after_cut (used_words held.blocks bytes) bs ts) (sym known.blocks))

pub cut_sound : (n bytes used : ℕ) (ls : List (Option ℕ)) (front : List Block) (last left : Block) (ps qs : List (List Block)) (held : Chain) → IsBegun n ls ps held → IsCut n bytes ls front last ps held → Cuts n front last left ps qs → used ≡ words_for bytes - words_of front → left ≡ trimmed used last → AreFit ls ps
    → AreFit (set ls n (Some bytes)) qs
cut_sound n bytes used ls front last left ps qs held begun known cut used_is left_is sound =
    let fits = begun_fits n ls ps held sound begun in
    let bounds = left_words used last.words (omega (arith, known.most, used_is)) in
    let long : left.words ≡ cut_words (raised used) last.words = ap (λ (b : Block). b.words) left_is in
    let sum : words_of (blocks_of n qs) ≡ words_of front + left.words = ap words_of cut.own ∙ words_push front left in
    sound_set n ls ps qs (Some bytes) begun.within sound cut.other (record {
      most = omega (arith, sum, long, bounds.1, known.words, fits.most);
      within = omega (arith, sum, long, bounds.0, used_is, known.below);
    })
