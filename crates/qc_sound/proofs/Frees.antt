-- Which words of the region may change, and where the words of tasks are.
use Rattle.std.proofs.Common.{◌≡◌, ◌⊎◌, ⊎_elim, ℕ, ◌+◌, ◌<◌, ◌≤◌, Bool, true, false, List, [], ◌∷◌, ◌++◌, map, length, get_or, take, refl, sym, ap, subst, ◌∙◌, arith, true≢false, append-nil}
use Rattle.std.specs.Prelude.{Some, find}
use Rattle.std.specs.List.{list_any, filter, AllByRecursion, AllZip}
use Rattle.qc_model.specs.Journal.{Journal, present}
use Rattle.qc_model.specs.Cache.{cache}
use Rattle.qc_model.specs.Session.{answer}
use Rattle.qc_laws.specs.history.Runs.{IsKept}
use Rattle.qc_laws.proofs.history.Events.{found_all}
use Rattle.qc_laws.proofs.history.Stays.{answers_stay}
use Rattle.qc_tiles.specs.declared.blocks.Block.{Block}
use Rattle.qc_turn.specs.declared.task.Task.{Task}
use Rattle.qc_turn.specs.declared.task.Task.TheVariants as task
use Rattle.qc_turn.specs.Blocks.{counted, places, Misses}
use Rattle.qc_turn.specs.Bytes.{bytes_of}
use Rattle.qc_turn.specs.Tasks.{fill_of, fill_places, listed_for}
use Rattle.qc_turn.proofs.Tasks.{spelled_agree}
use Rattle.qc_sound.specs.PlainServer.{PlainServer, StoredEntry, EntryChain, SeatTask, blocks_at, blocks_of, listed_tasks, is_stored}
use Rattle.qc_sound.specs.Moment.{Moment}
use Rattle.qc_sound.specs.Ended.{is_ended}
use Rattle.qc_sound.specs.parts.Directory.{IsStoredAs}
use Rattle.qc_sound.specs.parts.Memory.{TilesAreSound, blocks_in_use}
use Rattle.qc_sound.specs.parts.Contents.{IsSpelled, text_of}
use Rattle.qc_sound.specs.parts.Tasks.{TaskIsSound, SeatTaskIsSound}
use Rattle.qc_sound.specs.Sound.{IsSound}
use Rattle.qc_sound.specs.Laws.{FillsFree}
use Rattle.qc_sound.specs.steps.Holding.{StoreSteps}
use Rattle.qc_sound.proofs.Counts.{occurs, occurs_places, occurs_misses, misses_occurs, occurs_at, counted_here}
use Rattle.qc_sound.proofs.Lists.{all_chains, one_chain, two_chains, IsOnly, in_use_sum, zip_on, zip_both, zip_right, zip_left}
use Rattle.qc_sound.proofs.Laws.{word_once, word_in, chains_in, only, fills_only, completed_ended}

-- ---- words of fills may change

all_more : {A : Type 0} (P Q : A → Type 0) (xs : List A) → ((x : A) → P x → Q x) → AllByRecursion P xs → AllByRecursion Q xs
all_more P Q [] f h = tt
all_more P Q (x ∷ xs) f h = (f x h.0, all_more P Q xs f h.1)

abbrev pub IsTextIn : List StoredEntry → StoredEntry → Type 0
IsTextIn es e = (k : ℕ) → occurs k (places (e.text ∷ [])) ≤ occurs k (places (map (λ e. e.text) es))

pub texts_in : (es : List StoredEntry) → AllByRecursion (IsTextIn es) es
texts_in [] = tt
texts_in (e ∷ es) = (
  (λ k. omega (arith, occurs_places k (e.text ∷ []) (map (λ e. e.text) es))),
  all_more (IsTextIn es) (IsTextIn (e ∷ es)) es (λ d h k. omega (arith, occurs_places k (e.text ∷ []) (map (λ e. e.text) es), h k)) (texts_in es),
)

-- the same words, the same text
pub same_text : (words over : List ℕ) (blocks : List Block) (bytes : ℕ) → ((k : ℕ) → 0 < occurs k (places blocks) → get_or over k 0 ≡ get_or words k 0) → text_of over blocks bytes ≡ text_of words blocks bytes
same_text words over blocks bytes h = ap (λ l. take bytes (bytes_of l)) (spelled_agree over words blocks (λ i below. h (get_or (places blocks) i 0) (occurs_at (places blocks) i below)))

fills_in : (k : ℕ) (cs : List EntryChain) (t : Task) → occurs k (fill_of t (blocks_of cs t)) ≤ occurs k (places (all_chains cs))
fills_in k cs task.Rest = omega arith
fills_in k cs (task.Stream n) = omega arith
fills_in k cs (task.Fill n) = one_chain k n cs

-- a word in no fill
no_fill : (moment : Moment) (words : List ℕ) (v : PlainServer) (k : ℕ) → IsSound moment words v → ((w : SeatTask) → SeatTaskIsSound v.journal v.chains w → occurs k (fill_of w.task (blocks_of v.chains w.task)) ≡ 0)
    → (n : ℕ) → Misses k (fill_places (listed_for n (listed_tasks v)))
no_fill moment words v k h none n = ⊎_elim
    (λ (e : listed_for n (listed_tasks v) ≡ []). subst (λ l. Misses k (fill_places l)) (sym e) tt)
    (λ (o : IsOnly (SeatTaskIsSound v.journal v.chains) v.chains v.tasks n). subst (λ l. Misses k l) (sym (ap fill_places o.only ∙ fills_only v.chains o.one)) (occurs_misses k _ (none o.one o.holds)))
    (only moment words v n h)

-- a complete entry has no fill
off_complete : (moment : Moment) (v : PlainServer) (k n : ℕ) (j : Journal) (t : Task) (seat : ℕ) → TilesAreSound moment v → is_ended n j ≡ true → TaskIsSound j seat t → 0 < occurs k (places (blocks_at n v.chains))
    → occurs k (fill_of t (blocks_of v.chains t)) ≡ 0
off_complete moment v k n j task.Rest seat h ended sound o = refl
off_complete moment v k n j (task.Stream m) seat h ended sound o = refl
off_complete moment v k n j (task.Fill m) seat h ended sound o =
    omega (arith, two_chains k m n v.chains (λ z. true≢false (sym (subst (λ i. is_ended i j ≡ true) (sym z) ended) ∙ sound.1)), chains_in k v, word_once moment k v h, o)

pub fills_free : (moment : Moment) → FillsFree moment
fills_free moment words over v h long same = record {
  rounded = h.rounded;
  region = long ∙ h.region;
  journal = h.journal;
  directory = h.directory;
  memory = h.memory;
  contents = still;
  tasks = h.tasks;
}
  where
    still : AllZip (IsSpelled over v.chains v.journal) v.entries (cache v.journal)
    still =
        let pairs = zip_right _ (IsKept v.journal) v.entries (cache v.journal) (zip_both (IsStoredAs moment.hash) (IsSpelled words v.chains v.journal) v.entries (cache v.journal) h.directory h.contents) (answers_stay v.options v.journal h.journal.lawful) in
        zip_on _ (IsSpelled over v.chains v.journal) v.entries (cache v.journal) (λ e entry p. record {
          key = same_text words over (e.text ∷ []) e.text_bytes (λ k o. same k (no_fill moment words v k h (λ w s. omega (arith, fills_in k v.chains w.task, p.1 k, in_use_sum k v, word_once moment k v h.memory.tiles, o)))) ∙ p.0.0.1.key;
          kept_answer = λ c. p.0.0.1.kept_answer c ∙ ap Some (sym (same_text words over (blocks_at e.serial v.chains) e.bytes (λ k o. same k (no_fill moment words v k h (λ w s.
              off_complete moment v k e.serial v.journal w.task w.seat h.memory.tiles (subst (λ i. is_ended i v.journal ≡ true) (sym p.0.0.0.serial) (completed_ended entry.serial v.journal (p.0.1.ended (sym p.0.0.0.complete ∙ c)))) s.task o)))));
        }) (zip_left _ (IsTextIn v.entries) v.entries (cache v.journal) pairs (texts_in v.entries))

-- the words of an entry's text are within the region, and in no fill
pub text_free : (moment : Moment) (words : List ℕ) (v : PlainServer) (n k : ℕ) (x : StoredEntry) → IsSound moment words v → find (is_stored n) v.entries ≡ Some x → x.text.first ≤ k → k < x.text.first + x.text.words
    → (k < length words) × ((m : ℕ) → Misses k (fill_places (listed_for m (listed_tasks v))))
text_free moment words v n k x h found low high =
    let p = (found_all (IsTextIn v.entries) (is_stored n) v.entries x (texts_in v.entries) found).0 k in
    let o : 0 < occurs k (places (x.text ∷ [])) = subst (λ l. 0 < occurs k l) (sym (append-nil (counted x.text.first x.text.words))) (counted_here k x.text.first x.text.words low high) in (
      subst (λ m. k < m) (sym h.region) (word_in moment k v h.memory.tiles (omega (arith, in_use_sum k v, p, o))),
      no_fill moment words v k h (λ w s. omega (arith, fills_in k v.chains w.task, p, in_use_sum k v, word_once moment k v h.memory.tiles, o)),
    )

-- ---- words that nobody uses

pub store_step : StoreSteps
store_step moment words over s h long same = record {
  rounded = h.rounded;
  region = long ∙ h.region;
  journal = h.journal;
  directory = h.directory;
  memory = h.memory;
  contents = zip_on _ (IsSpelled over s.chains s.journal) s.entries (cache s.journal) (λ e entry p. record {
    key = same_text words over (e.text ∷ []) e.text_bytes (λ k o. used k (omega (arith, in_use_sum k s, p.1 k, o))) ∙ p.0.key;
    kept_answer = λ c. p.0.kept_answer c ∙ ap Some (sym (same_text words over (blocks_at e.serial s.chains) e.bytes (λ k o. used k (omega (arith, one_chain k e.serial s.chains, chains_in k s, o)))));
  }) (zip_left (IsSpelled words s.chains s.journal) (IsTextIn s.entries) s.entries (cache s.journal) h.contents (texts_in s.entries));
  tasks = h.tasks;
}
  where
    used : (k : ℕ) → 0 < occurs k (places (blocks_in_use s)) → get_or over k 0 ≡ get_or words k 0
    used k o = same k (λ none. let zero_ : occurs k (places (blocks_in_use s)) ≡ 0 = misses_occurs k (places (blocks_in_use s)) none in absurd (omega (arith, o, zero_)))
