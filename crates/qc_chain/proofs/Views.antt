-- The chains that lists of blocks and byte lengths make, and what changes of these make of them.
use Rattle.std.proofs.Common.{subst, ◌≡◌, ℕ, ◌+◌, ◌<◌, ◌≤◌, true, false, cond, List, [], ◌∷◌, map, length, get_or, set, replicate, refl, sym, ap, ◌∙◌, arith, zero, suc, inl, inr, Option, Some, None}
use Rattle.std.specs.Prelude.{◌==◌, option_map, option_and_then, slice_get, Contains}
use Rattle.std.proofs.lemmas.Bool.{cases_eq, eqb-true}
use Rattle.std.proofs.lemmas.Option.{same_Some, none-some, slice_get_within}
use Rattle.qc_tiles.specs.declared.blocks.Block.{Block}
use Rattle.qc_tiles.specs.declared.blocks.Move.{Move}
use Rattle.qc_chain.specs.Words.{words_of}
use Rattle.qc_tiles.specs.Tiles.{moved}
use Rattle.qc_chain.specs.Chains.{Chain, Chained, Begun, IsFit, chain_at, extent_of, no_chains, after_shift, moved_chain}
use Rattle.qc_chain.specs.Views.{blocks_of, chain_of, chains_from, chained, bytes_at, IsFitAt, AreFit, KeepsOthers}

-- ---- reading

pub chains_get : (k n m : ℕ) (ls : List (Option ℕ)) (ps : List (List Block)) → m ≡ k + n → slice_get (chains_from k ls ps) n ≡ option_map (λ l. option_map (chain_of m ps) l) (slice_get ls n)
chains_get k n m [] ps h = refl
chains_get k zero m (l ∷ ls) ps h = let e : m ≡ k = omega arith in rw e refl
chains_get k (suc n) m (l ∷ ls) ps h = chains_get (k + 1) n m ls ps (omega arith)

pub length-chains : (k : ℕ) (ls : List (Option ℕ)) (ps : List (List Block)) → length (chains_from k ls ps) ≡ length ls
length-chains k [] ps = refl
length-chains k (l ∷ ls) ps = ap suc (length-chains (k + 1) ls ps)

none_or_some : (n : ℕ) (ps : List (List Block)) (o : Option (Option ℕ)) → option_and_then (λ x. x) (option_map (λ l. option_map (chain_of n ps) l) o) ≡ option_map (chain_of n ps) (option_and_then (λ x. x) o)
none_or_some n ps None = refl
none_or_some n ps (Some l) = refl

pub chain_at_is : (n room : ℕ) (ls : List (Option ℕ)) (ps : List (List Block)) → chain_at n (chained ls ps room) ≡ option_map (chain_of n ps) (bytes_at n ls)
chain_at_is n room ls ps = ap (option_and_then (λ x. x)) (chains_get 0 n n ls ps (omega arith)) ∙ none_or_some n ps (slice_get ls n)

pub no_extent : (n room : ℕ) (ls : List (Option ℕ)) (ps : List (List Block)) → bytes_at n ls ≡ None → option_map extent_of (chain_at n (chained ls ps room)) ≡ None
no_extent n room ls ps h = ap (option_map extent_of) (chain_at_is n room ls ps ∙ ap (option_map (chain_of n ps)) h)

pub extent_is : (n room bytes : ℕ) (ls : List (Option ℕ)) (ps : List (List Block)) → bytes_at n ls ≡ Some bytes
    → option_map extent_of (chain_at n (chained ls ps room)) ≡ Some (record { blocks = length (blocks_of n ps); words = words_of (blocks_of n ps); bytes = bytes })
extent_is n room bytes ls ps h = ap (option_map extent_of) (chain_at_is n room ls ps ∙ ap (option_map (chain_of n ps)) h)

-- a chain that was begun, by its byte length and its blocks
pub record IsBegun (n : ℕ) (ls : List (Option ℕ)) (ps : List (List Block)) (held : Chain) : Type 0 where
  pub within : n < length ls
  pub there : slice_get ls n ≡ Some (Some held.bytes)
  pub length : bytes_at n ls ≡ Some held.bytes
  pub same : held.blocks ≡ blocks_of n ps

some_bytes : (o : Option ℕ) (n : ℕ) (ps : List (List Block)) (held : Chain) → option_map (chain_of n ps) o ≡ Some held → (o ≡ Some held.bytes) × (held.blocks ≡ blocks_of n ps)
some_bytes None n ps held h = absurd (none-some held h)
some_bytes (Some b) n ps held h =
    let e : chain_of n ps b ≡ held = same_Some (chain_of n ps b) held h in
    (ap (λ (c : Chain). Some c.bytes) e, ap (λ (c : Chain). c.blocks) (sym e))

some_there : (o : Option (Option ℕ)) (b : ℕ) → option_and_then (λ x. x) o ≡ Some b → o ≡ Some (Some b)
some_there None b h = absurd (none-some b h)
some_there (Some l) b h = ap (λ x. Some x) h

pub is_begun : (n room : ℕ) (ls : List (Option ℕ)) (ps : List (List Block)) (held : Chain) → Begun n (chained ls ps room) held → IsBegun n ls ps held
is_begun n room ls ps held h =
    let both = some_bytes (bytes_at n ls) n ps held (sym (chain_at_is n room ls ps) ∙ h) in
    let there = some_there (slice_get ls n) held.bytes both.0 in
    record { within = slice_get_within ls n (Some held.bytes) there; there = there; length = both.0; same = both.1 }

pub begun_at : (n room : ℕ) (ls : List (Option ℕ)) (ps : List (List Block)) (v : Chained) (held : Chain) → chained ls ps room ≡ v → Begun n v held → IsBegun n ls ps held
begun_at n room ls ps v held view h = is_begun n room ls ps held (rw (← view) at h)

pub begun_once : (n : ℕ) (v : Chained) (a b : Chain) → Begun n v a → Begun n v b → a ≡ b
begun_once n v a b h k = same_Some a b (sym h ∙ k)

-- ---- free names

pub chain_or_none : (k i : ℕ) (ls : List (Option ℕ)) (ps : List (List Block)) → get_or (chains_from k ls ps) i None ≡ option_map (chain_of (k + i) ps) (get_or ls i None)
chain_or_none k i [] ps = refl
chain_or_none k zero (l ∷ ls) ps = let e : k + 0 ≡ k = omega arith in rw e refl
chain_or_none k (suc i) (l ∷ ls) ps = let e : k + suc i ≡ (k + 1) + i = omega arith in rw e (chain_or_none (k + 1) i ls ps)

none_got : (ls : List (Option ℕ)) (i : ℕ) → slice_get ls i ≡ Some None → get_or ls i None ≡ None
none_got [] i h = refl
none_got (l ∷ ls) zero h = same_Some l None h
none_got (l ∷ ls) (suc i) h = none_got ls i h

none_from_map : (o : Option ℕ) (n : ℕ) (ps : List (List Block)) → option_map (chain_of n ps) o ≡ None → o ≡ None
none_from_map None n ps h = refl
none_from_map (Some b) n ps h = absurd (none-some (chain_of n ps b) (sym h))

pub none_there : (ls : List (Option ℕ)) (i : ℕ) → i < length ls → slice_get ls i ≡ Some None → Contains ls None
none_there ls i within free = (i, within, none_got ls i free)

pub free_name : (ls : List (Option ℕ)) (ps : List (List Block)) → Contains (chains_from 0 ls ps) None → Contains ls None
free_name ls ps (i, within, free) = (i, omega (arith, within, length-chains 0 ls ps), none_from_map (get_or ls i None) (0 + i) ps (sym (chain_or_none 0 i ls ps) ∙ free))

pub free_chain : (ls : List (Option ℕ)) (ps : List (List Block)) → Contains ls None → Contains (chains_from 0 ls ps) None
free_chain ls ps (i, within, free) = (i, omega (arith, within, length-chains 0 ls ps), chain_or_none 0 i ls ps ∙ ap (option_map (chain_of (0 + i) ps)) free)

-- ---- changes of one chain

chain_same : (n : ℕ) (ps qs : List (List Block)) (l : Option ℕ) → blocks_of n qs ≡ blocks_of n ps → option_map (chain_of n qs) l ≡ option_map (chain_of n ps) l
chain_same n ps qs None h = refl
chain_same n ps qs (Some b) h = rw h refl

chains_same : (k : ℕ) (ls : List (Option ℕ)) (ps qs : List (List Block)) → ((m : ℕ) → k ≤ m → blocks_of m qs ≡ blocks_of m ps) → chains_from k ls qs ≡ chains_from k ls ps
chains_same k [] ps qs h = refl
chains_same k (l ∷ ls) ps qs h =
    rw (chain_same k ps qs l (h k (omega arith)), chains_same (k + 1) ls ps qs (λ m low. h m (omega arith))) refl

chains_set_from : (k n m : ℕ) (ls : List (Option ℕ)) (ps qs : List (List Block)) (l : Option ℕ) → m ≡ k + n → KeepsOthers m ps qs → chains_from k (set ls n l) qs ≡ set (chains_from k ls ps) n (option_map (chain_of m qs) l)
chains_set_from k n m [] ps qs l e h = refl
chains_set_from k zero m (x ∷ ls) ps qs l e h =
    let same : m ≡ k = omega arith in
    rw (same, chains_same (k + 1) ls ps qs (λ j low. h j (λ bad. omega arith))) refl
chains_set_from k (suc n) m (x ∷ ls) ps qs l e h =
    rw (chain_same k ps qs x (h k (λ bad. omega arith)), chains_set_from (k + 1) n m ls ps qs l (omega arith) h) refl

pub chains_set : (n : ℕ) (ls : List (Option ℕ)) (ps qs : List (List Block)) (l : Option ℕ) → KeepsOthers n ps qs → chains_from 0 (set ls n l) qs ≡ set (chains_from 0 ls ps) n (option_map (chain_of n qs) l)
chains_set n ls ps qs l h = chains_set_from 0 n n ls ps qs l (omega arith) h

get_set_same : (ls : List (Option ℕ)) (n : ℕ) (l : Option ℕ) → n < length ls → slice_get (set ls n l) n ≡ Some l
get_set_same [] n l h = absurd (omega arith)
get_set_same (x ∷ ls) zero l h = refl
get_set_same (x ∷ ls) (suc n) l h = get_set_same ls n l (omega arith)

get_set_other : (ls : List (Option ℕ)) (n m : ℕ) (l : Option ℕ) → (m ≡ n → ⊥) → slice_get (set ls n l) m ≡ slice_get ls m
get_set_other [] n m l h = refl
get_set_other (x ∷ ls) zero zero l h = absurd (h refl)
get_set_other (x ∷ ls) zero (suc m) l h = refl
get_set_other (x ∷ ls) (suc n) zero l h = refl
get_set_other (x ∷ ls) (suc n) (suc m) l h = get_set_other ls n m l (λ e. h (ap suc e))

same_sound : (n : ℕ) (l : Option ℕ) (ps qs : List (List Block)) → blocks_of n qs ≡ blocks_of n ps → IsFitAt n l ps → IsFitAt n l qs
same_sound n None ps qs h s = h ∙ s
same_sound n (Some b) ps qs h s = subst (λ (bs : List Block). IsFit bs b) (sym h) s

pub sound_set : (n : ℕ) (ls : List (Option ℕ)) (ps qs : List (List Block)) (l : Option ℕ) → n < length ls → AreFit ls ps → KeepsOthers n ps qs → IsFitAt n l qs → AreFit (set ls n l) qs
sound_set n ls ps qs l within sound others here m =
    elim (cases_eq m n) [
      | inl same ↦ rw (same, get_set_same ls n l within) here
      | inr other ↦ rw (get_set_other ls n m l other) (same_sound m (bytes_at m ls) ps qs (others m other) (sound m))
    ]

pub length_fits : (n bytes : ℕ) (ls : List (Option ℕ)) (ps : List (List Block)) → AreFit ls ps → bytes_at n ls ≡ Some bytes → IsFit (blocks_of n ps) bytes
length_fits n bytes ls ps sound h = subst (λ (l : Option ℕ). IsFitAt n l ps) h (sound n)

-- a chain that was begun fits
pub begun_fits : (n : ℕ) (ls : List (Option ℕ)) (ps : List (List Block)) (held : Chain) → AreFit ls ps → IsBegun n ls ps held → IsFit (blocks_of n ps) held.bytes
begun_fits n ls ps held sound h = length_fits n held.bytes ls ps sound h.length

-- the same, of the chain as contracts see it
pub held_fits : (n room : ℕ) (ls : List (Option ℕ)) (ps : List (List Block)) (v : Chained) (held : Chain) → AreFit ls ps → chained ls ps room ≡ v → Begun n v held → IsFit held.blocks held.bytes
held_fits n room ls ps v held sound view h =
    let known = begun_at n room ls ps v held view h in
    subst (λ (bs : List Block). IsFit bs held.bytes) (sym known.same) (begun_fits n ls ps held sound known)

pub free_has_none : (n : ℕ) (ls : List (Option ℕ)) (ps : List (List Block)) → AreFit ls ps → slice_get ls n ≡ Some None → blocks_of n ps ≡ []
free_has_none n ls ps sound h = subst (λ (l : Option ℕ). IsFitAt n l ps) (ap (option_and_then (λ x. x)) h) (sound n)

-- ---- moves

pub blocks_moved : (change : Move) (n : ℕ) (ps : List (List Block)) → blocks_of n (map (map (moved change)) ps) ≡ map (moved change) (blocks_of n ps)
blocks_moved change n [] = refl
blocks_moved change zero (bs ∷ ps) = refl
blocks_moved change (suc n) (bs ∷ ps) = blocks_moved change n ps

moved-words : (change : Move) (b : Block) → (moved change b).words ≡ b.words
moved-words change b = elim (b.first == change.from) as (λ v. (cond v (record { first = change.to; words = b.words }) b).words ≡ b.words) [ true ↦ refl | false ↦ refl ]

pub words_moved : (change : Move) (bs : List Block) → words_of (map (moved change) bs) ≡ words_of bs
words_moved change [] = refl
words_moved change (b ∷ bs) = omega (arith, moved-words change b, words_moved change bs)

chain_moved : (change : Move) (n : ℕ) (ps : List (List Block)) (l : Option ℕ) → option_map (chain_of n (map (map (moved change)) ps)) l ≡ option_map (moved_chain change) (option_map (chain_of n ps) l)
chain_moved change n ps None = refl
chain_moved change n ps (Some b) = rw (blocks_moved change n ps) refl

chains_moved_from : (change : Move) (k : ℕ) (ls : List (Option ℕ)) (ps : List (List Block)) → chains_from k ls (map (map (moved change)) ps) ≡ map (option_map (moved_chain change)) (chains_from k ls ps)
chains_moved_from change k [] ps = refl
chains_moved_from change k (l ∷ ls) ps = rw (chain_moved change k ps l, chains_moved_from change (k + 1) ls ps) refl

pub chains_moved : (change : Move) (ls : List (Option ℕ)) (ps : List (List Block)) → chains_from 0 ls (map (map (moved change)) ps) ≡ map (option_map (moved_chain change)) (chains_from 0 ls ps)
chains_moved change ls ps = chains_moved_from change 0 ls ps

moved_sound : (change : Move) (n : ℕ) (l : Option ℕ) (ps : List (List Block)) → IsFitAt n l ps → IsFitAt n l (map (map (moved change)) ps)
moved_sound change n None ps h = blocks_moved change n ps ∙ ap (map (moved change)) h
moved_sound change n (Some b) ps h =
    let same : words_of (blocks_of n (map (map (moved change)) ps)) ≡ words_of (blocks_of n ps) = ap words_of (blocks_moved change n ps) ∙ words_moved change (blocks_of n ps) in
    record { most = omega (arith, same, h.most); within = omega (arith, same, h.within) }

pub sound_moved : (change : Move) (ls : List (Option ℕ)) (ps : List (List Block)) → AreFit ls ps → AreFit ls (map (map (moved change)) ps)
sound_moved change ls ps h = λ n. moved_sound change n (bytes_at n ls) ps (h n)

moved_nowhere : (change : Move) (b : Block) → change.from ≡ change.to → moved change b ≡ b
moved_nowhere change b same =
    elim (b.first == change.from) as (λ v. (b.first == change.from) ≡ v → cond v (record { first = change.to; words = b.words }) b ≡ b) [
      | true ↦ λ e. let here : b.first ≡ change.to = eqb-true b.first change.from e ∙ same in rw (← here) refl
      | false ↦ λ e. refl
    ] refl

blocks_nowhere : (change : Move) (bs : List Block) → change.from ≡ change.to → map (moved change) bs ≡ bs
blocks_nowhere change [] same = refl
blocks_nowhere change (b ∷ bs) same = rw (moved_nowhere change b same, blocks_nowhere change bs same) refl

chains_nowhere : (change : Move) (cs : List (Option Chain)) → change.from ≡ change.to → map (option_map (moved_chain change)) cs ≡ cs
chains_nowhere change [] same = refl
chains_nowhere change (None ∷ cs) same = ap (λ xs. None ∷ xs) (chains_nowhere change cs same)
chains_nowhere change (Some c ∷ cs) same = rw (blocks_nowhere change c.blocks same, chains_nowhere change cs same) refl

-- a move to where it came from changes nothing
pub shifts_nowhere : (change : Move) (v : Chained) → change.from ≡ change.to → v ≡ after_shift change v
shifts_nowhere change v same = rw (chains_nowhere change v.chains same) refl

-- ---- no chains

none_begun_from : (k n : ℕ) (ps : List (List Block)) → chains_from k (replicate n None) ps ≡ replicate n None
none_begun_from k zero ps = refl
none_begun_from k (suc n) ps = ap (λ cs. None ∷ cs) (none_begun_from (k + 1) n ps)

pub none_begun : (n room : ℕ) (ls : List (Option ℕ)) (ps : List (List Block)) → ls ≡ replicate n None → room ≡ n → chained ls ps room ≡ no_chains n
none_begun n room ls ps names same = rw (names, same, none_begun_from 0 n ps) refl
