-- A hit is found under the turn.
use Rattle.std.proofs.Common.{◌≡◌, ℕ, [], ◌∷◌, ◌++◌, refl, ap, subst, Option, Some, None}
use Rattle.qc_model.specs.declared.events.Event.TheVariants as event
use Rattle.qc_model.specs.declared.events.How.TheVariants as how
use Rattle.qc_model.specs.declared.events.Who.{Who}
use Rattle.qc_dir.specs.declared.entries.Entry.{Entry}
use Rattle.qc_dir.specs.Directory.{entry_at}
use Rattle.qc_core.specs.declared.server_state.ServerState.{ServerState}
use Rattle.qc_core.specs.HitStream.{IsChainOf, entry_chain, hit_entry, hit_server}

-- ---- what a hit leaves as it was

by_connected : (who : Who) (n seat : ℕ) (o : Option Entry) (s : ServerState) → (hit_entry who n seat o s).connected ≡ s.connected
by_connected who n seat None s = refl
by_connected who n seat (Some e) s = refl

pub hit_connected : (who : Who) (n seat : ℕ) (s : ServerState) → (hit_server who n seat s).connected ≡ s.connected
hit_connected who n seat s = by_connected who n seat (entry_at n s.dir.entries) s

-- the entry is there, so its event came
by_entry : (who : Who) (n seat : ℕ) (s t : ServerState) (r : _) (o : Option Entry) → entry_at n s.dir.entries ≡ o → t ≡ hit_entry who n seat o s → IsChainOf n t r → t.journal.events ≡ s.journal.events ++ event.Run who (how.Hit n) ∷ []
by_entry who n seat s t r None none is chain =
    let there : entry_chain s.chains (entry_at n s.dir.entries) ≡ Some (record { blocks = r.blocks; bytes = r.bytes }) = subst (λ (x : ServerState). entry_chain x.chains (entry_at n x.dir.entries) ≡ Some (record { blocks = r.blocks; bytes = r.bytes })) is chain in
    let lacks : entry_chain s.chains (entry_at n s.dir.entries) ≡ None = ap (entry_chain s.chains) none in
    absurd cc
by_entry who n seat s t r (Some e) there is chain = ap (λ (x : ServerState). x.journal.events) is

pub hit_events : (who : Who) (n seat : ℕ) (s t : ServerState) (r : _) → t ≡ hit_server who n seat s → IsChainOf n t r → t.journal.events ≡ s.journal.events ++ event.Run who (how.Hit n) ∷ []
hit_events who n seat s t r is chain = by_entry who n seat s t r (entry_at n s.dir.entries) refl is chain
