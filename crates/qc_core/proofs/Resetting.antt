-- The server after a reset.
use Rattle.std.proofs.Common.{◌≡◌, ℕ, ◌+◌, ◌-◌, ◌<◌, List, [], ◌∷◌, ◌++◌, map, refl, sym, ap, subst, ◌∙◌, arith, inl}
use Rattle.std.specs.Prelude.{Some, option_map}
use Rattle.qc_types.specs.declared.options.Options.{Options}
use Rattle.qc_key.specs.Hash.{hash}
use Rattle.qc_model.specs.declared.events.Who.{Who}
use Rattle.qc_model.specs.declared.events.Event.{Event}
use Rattle.qc_model.specs.declared.events.Event.TheVariants as event
use Rattle.qc_model.specs.Journal.{decider, event_count}
use Rattle.qc_journal.specs.Room.{Recorded}
use Rattle.qc_turn.specs.Tasks.{listed_for}
use Rattle.qc_turn.specs.Releases.{Follows}
use Rattle.qc_turn.specs.Views.{of_seat}
use Rattle.qc_turn.proofs.Holders.{of_seat_else}
use Rattle.qc_sound.specs.Moment.{at_rest}
use Rattle.qc_sound.specs.steps.Leaving.{staying}
use Rattle.qc_sound.proofs.Needs.{needs_push}
use Rattle.qc_core.specs.declared.server_state.ServerState.{ServerState}
use Rattle.qc_core.specs.contracts.server.ServerKept.TheImpl.{ghosts}
use Rattle.qc_core.specs.Whole.{stored, plain, tasks_of, Sound, with_event}
use Rattle.qc_core.specs.Calls.{HasSpare}
use Rattle.qc_core.specs.Connection.{is_connected}
use Rattle.qc_core.specs.EntriesCut.{HasSoundBlocks, is_removed}
use Rattle.qc_core.specs.Clearing.{IsEmptied, IsReset}
use Rattle.qc_core.proofs.Cutting.{whole_blocks}
use Rattle.qc_core.proofs.Emptying.{cut_tasks, reset_whole}
use Rattle.qc_core.proofs.Dropping.{turn_cut, turn_others, left_entries, removed_stored}
use Rattle.qc_core.proofs.Noting.{alone}

-- the blocks of a server that stands are sound
pub sound_blocks : (words : List ℕ) (s : ServerState) → Sound words s → HasSoundBlocks s
sound_blocks words s h = record { moment = at_rest hash; names = h.0; sound = whole_blocks (at_rest hash) h.0 words s h.1 }

-- what a server has that its entries leave and get an event
pub record IsLeft (words : List ℕ) (seat : ℕ) (idle : List ℕ) (s v : ServerState) : Type 0 where
  pub sound : Sound words v
  pub follows : Follows ghosts seat idle s v
  pub listed : tasks_of v ≡ tasks_of s

pub left_follows : (s mid : ServerState) (e : Event) (who : Who) (seat : ℕ) (idle : List ℕ) → decider e ≡ Some who → 0 < seat → who.session ≡ seat - 1 → mid.journal ≡ s.journal → mid.options ≡ s.options → mid.connected ≡ s.connected → tasks_of mid ≡ tasks_of s → Follows ghosts seat idle s (with_event e mid)
left_follows s mid e who seat idle d ps is journal options connected listed = record {
  journal = (e ∷ [], ap (λ (j : Recorded). j.events ++ e ∷ []) journal);
  others = λ k ne. ap (λ (j : Recorded). of_seat ghosts k (j.events ++ e ∷ [])) journal ∙ of_seat_else ghosts k s.journal.events e who.session (ap (option_map (λ (w : Who). w.session)) d) (λ z. ne (omega (arith, z, ps, is)));
  fixed = ap (λ (o : Options). o.size ∷ o.limit ∷ o.unit ∷ o.kind ∷ []) options;
  connected = λ k ne. λ i. is_connected k (record mid { connected = connected i });
  tasks = λ k ne. inl (ap (listed_for k) listed);
}

pub emptied_spare : (s mid : ServerState) → IsEmptied s mid → mid.journal.spare ≡ s.journal.spare
emptied_spare s mid h = ap (λ (x : ServerState). x.journal.spare) (turn_others h.serials s mid h.left)

pub reset_left : (words : List ℕ) (s v : ServerState) (who : Who) (seat : ℕ) (idle : List ℕ) → Sound words s → 0 < seat → who.session ≡ seat - 1 → who.number ≡ event_count s.journal.events who.session + 1 → listed_for seat (tasks_of s) ≡ [] → HasSpare s → IsReset who s v → IsLeft words seat idle s v
reset_left words s v who seat idle sound ps is number free room r =
    let w = sound.1 in
    let names = sound.0 in
    let serials = r.emptied.serials in
    let e = event.Reset who in
    let k = turn_cut (at_rest hash) names s (whole_blocks (at_rest hash) names words s w) serials r.mid r.emptied.left in
    let a = alone words names (at_rest hash) s who e seat w ps refl is number free in
    let all : staying (is_removed serials) (plain names s).entries ≡ [] = removed_stored serials s.chains s.dir.entries ∙ ap (map (stored s.chains)) (sym (left_entries serials s r.mid r.emptied.left) ∙ r.emptied.none) in
    let whole = reset_whole (at_rest hash) names serials words s r.mid k who w all a.decides (needs_push s.options s.journal.events e w.sound.journal.needs tt) a.none room in
    let listed = cut_tasks (at_rest hash) names serials s r.mid k w.named in
    let same = turn_others serials s r.mid r.emptied.left in
    record {
      sound = subst (Sound words) (sym r.server) (k.names, whole);
      follows = subst (Follows ghosts seat idle s) (sym r.server) (left_follows s r.mid e who seat idle refl ps is (ap (λ (x : ServerState). x.journal) same) (ap (λ (x : ServerState). x.options) same) (ap (λ (x : ServerState). x.connected) same) listed);
      listed = ap tasks_of r.server ∙ listed;
    }
