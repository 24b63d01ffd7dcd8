-- What the lock asks of a sound server.
use Rattle.std.proofs.Common.{◌≡◌, ◌≢◌, ℕ, ◌<◌, eqb, true, false, cond, List, [], ◌∷◌, map, length, get_or, refl, sym, ap, subst}
use Rattle.std.specs.Prelude.{Some, IfSome, find, slice_index}
use Rattle.std.specs.List.{AllByRecursion}
use Rattle.std.proofs.lemmas.Option.{none-some, same_Some}
use Rattle.qc_key.specs.Hash.{hash}
use Rattle.qc_chain.specs.Chains.{Chained, chain_at}
use Rattle.qc_turn.specs.Tasks.{listed_for, places_of, fill_places}
use Rattle.qc_turn.specs.Blocks.{Misses, IsDistinct, places}
use Rattle.qc_turn.specs.Words.{StartsWith}
use Rattle.qc_turn.specs.declared.task.Task.{Task}
use Rattle.qc_turn.specs.declared.task.Task.TheVariants as task
use Rattle.qc_sound.specs.PlainServer.{listed_tasks, listed, blocks_at, blocks_of}
use Rattle.qc_sound.specs.Moment.{at_rest}
use Rattle.qc_sound.specs.PlainServer.{serial_of}
use Rattle.qc_sound.specs.Laws.{taken_blocks}
use Rattle.qc_sound.specs.Sound.{FitsFill}
use Rattle.qc_sound.proofs.Laws as law
use Rattle.qc_sound.proofs.Frees as stores
use Rattle.qc_sound.proofs.Apart as apart
use Rattle.qc_core.specs.declared.server_state.RunningTask.{RunningTask}
use Rattle.qc_core.specs.declared.server_state.ServerState.{ServerState}
use Rattle.qc_core.specs.Whole.{Named, is_named, IsNamedAs, chain_blocks, chain_in, plain, task_blocks, listed_in, work_in, tasks_of, IsNamed, Sound, free_of, taken_of}

-- the blocks of a serial are those of its name
pub blocks_named : (cs : Chained) (names : List Named) (n : ℕ) (x : Named) → find (is_named n) names ≡ Some x → blocks_at n (map (chain_in cs) names) ≡ chain_blocks (chain_at x.number cs)
blocks_named cs [] n x h = absurd (none-some x h)
blocks_named cs (y ∷ names) n x h = elim (eqb y.serial n) as (λ b. cond b (Some y) (find (is_named n) names) ≡ Some x → cond b (chain_blocks (chain_at y.number cs)) (blocks_at n (map (chain_in cs) names)) ≡ chain_blocks (chain_at x.number cs)) [
  | true ↦ λ f. ap (λ (z : Named). chain_blocks (chain_at z.number cs)) (same_Some y x f)
  | false ↦ λ f. blocks_named cs names n x f
] h

pub same_blocks : (cs : Chained) (names : List Named) (t : Task) (number : ℕ) → IfSome (serial_of t) (λ n. IsNamedAs names n number) → task_blocks t (chain_blocks (chain_at number cs)) ≡ blocks_of (map (chain_in cs) names) t
same_blocks cs names task.Rest number h = refl
same_blocks cs names (task.Stream n) number h = sym (blocks_named cs names n _ h)
same_blocks cs names (task.Fill n) number h = sym (blocks_named cs names n _ h)

pub works_same : (cs : Chained) (names : List Named) (ws : List RunningTask) → AllByRecursion (λ w. IfSome (serial_of w.task) (λ n. IsNamedAs names n w.chain.number)) ws → map (listed_in cs) ws ≡ map (listed (map (chain_in cs) names)) (map work_in ws)
works_same cs names [] h = refl
works_same cs names (w ∷ ws) h = λ i. record { number = w.seat; task = w.task; blocks = same_blocks cs names w.task w.chain.number h.0 i } ∷ works_same cs names ws h.1 i

-- the listed_tasks are those of the plain server
pub tasks_same : (names : List Named) (s : ServerState) → IsNamed names s → tasks_of s ≡ listed_tasks (plain names s)
tasks_same names s h = works_same s.chains names s.tasks.items h.tasks

-- ---- the laws

pub within : (words : List ℕ) (v : ServerState) (n k : ℕ) → Sound words v → k < length (places_of (listed_for n (tasks_of v))) → slice_index (places_of (listed_for n (tasks_of v))) k < length words
within words v n k s h =
    let same = tasks_same s.0 v s.1.named in
    subst (λ ts. get_or (places_of (listed_for n ts)) k 0 < length words) (sym same) (law.within (at_rest hash) words (plain s.0 v) n k s.1.sound (subst (λ ts. k < length (places_of (listed_for n ts))) same h))

pub fits_on : (words over : List ℕ) (v w : ServerState) (serial : ℕ) (bytes : List ℕ) → Sound words v → Sound over w → StartsWith w.journal.events v.journal.events → FitsFill v.journal.events serial bytes → FitsFill w.journal.events serial bytes
fits_on words over v w serial bytes s t begins h = law.fits_on (at_rest hash) words over (plain s.0 v) (plain t.0 w) serial bytes s.1.sound t.1.sound begins h

pub fills_free : (words over : List ℕ) (v : ServerState) → Sound words v → length over ≡ length words → ((k : ℕ) → ((n : ℕ) → Misses k (fill_places (listed_for n (tasks_of v)))) → slice_index over k ≡ slice_index words k) → Sound over v
fills_free words over v s long same =
    let t = tasks_same s.0 v s.1.named in (
      s.0,
      record {
        named = s.1.named;
        sound = stores.fills_free (at_rest hash) words over (plain s.0 v) s.1.sound long (λ k h. same k (λ n. subst (λ ts. Misses k (fill_places (listed_for n ts))) (sym t) (h n)));
        directory = s.1.directory;
        seats = s.1.seats;
        room = s.1.room;
      },
    )

pub fills_apart : (words : List ℕ) (v : ServerState) (n m k : ℕ) → Sound words v → n ≢ m → (Misses k (fill_places (listed_for n (tasks_of v))) → ⊥) → Misses k (places_of (listed_for m (tasks_of v)))
fills_apart words v n m k s ne met =
    let t = tasks_same s.0 v s.1.named in
    subst (λ ts. Misses k (places_of (listed_for m ts))) (sym t) (law.fills_apart (at_rest hash) words (plain s.0 v) n m k s.1.sound ne (λ h. met (subst (λ ts. Misses k (fill_places (listed_for n ts))) (sym t) h)))

pub once : (words : List ℕ) (v : ServerState) (n : ℕ) → Sound words v → IsDistinct (places_of (listed_for n (tasks_of v)))
once words v n s = subst (λ ts. IsDistinct (places_of (listed_for n ts))) (sym (tasks_same s.0 v s.1.named)) (law.once (at_rest hash) words (plain s.0 v) n s.1.sound)

pub tasks_apart : (words : List ℕ) (v : ServerState) (n k : ℕ) → Sound words v → (Misses k (places_of (listed_for n (tasks_of v))) → ⊥) → Misses k (places (free_of v)) × Misses k (places (taken_of v))
tasks_apart words v n k s met =
    let t = tasks_same s.0 v s.1.named in
    subst (λ ts. Misses k (places (free_of v)) × Misses k (places (taken_blocks v.tiles ts))) (sym t) (apart.tasks_apart (at_rest hash) words (plain s.0 v) n k s.1.sound (λ h. met (subst (λ ts. Misses k (places_of (listed_for n ts))) (sym t) h)))
