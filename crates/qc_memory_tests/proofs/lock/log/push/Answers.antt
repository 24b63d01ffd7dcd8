use Rattle.std.proofs.Common.{◌≡◌, ◌+◌, ◌-◌, ◌∷◌, set, ◌++◌, [], ℕ, List, inl, arith, sym, ap, ◌∙◌, subst, refl}
use Rattle.qc_turn.specs.Seats.{words, taken, holder}
use Rattle.qc_turn.specs.Views.{idle_of, of_seat}
use Rattle.qc_turn.specs.Releases.{Follows}
use Rattle.qc_turn.proofs.Holders.{same_on, same_value, follows_on, of_seat_else, taken_is, number_is}
use Rattle.qc_memory_tests.specs.declared.lock.entry.Entry.{Entry}
use Rattle.qc_memory_tests.specs.declared.lock.log.Log.{Log}
use Rattle.qc_memory_tests.specs.contracts.lock.log.LogKept.TheImpl.{ghosts}
use Rattle.qc_memory_tests.proofs.Pushes.{counted_push}
use Rattle.qc_memory_tests.proofs.lock.log.push.Goals as goal

follows_push : (n : ℕ) (idle : List ℕ) (x y : Log) (e : Entry) → y.entries.items ≡ x.entries.items ++ e ∷ [] → n ≡ e.session + 1 → Follows ghosts n idle x y
follows_push n idle x y e is mine = record {
  journal = (e ∷ [], is);
  others = λ k ne. ap (of_seat ghosts k) is ∙ of_seat_else ghosts k x.entries.items e e.session refl (λ z. ne (z ∙ sym mine));
  fixed = refl;
  connected = λ k ne. refl;
  tasks = λ k ne. inl refl;
}

pub returns-clause-may : goal.returns-clause-may
returns-clause-may c =
    let h0 = c.args.held.now in
    let h1 = c.load-count.new.self in
    let h3 = c.store.new.self in
    let d : Log = record { entries = c.push.new.self } in
    let a = c.load-count.ensures.held in
    let s = c.store.ensures.held in
    let whole = same_on _ _ _ (same_on _ _ _ a.1 (same_value h1 d a.0)) s.1 in
    let n : ℕ = (holder h0).number in
    let e : Entry = record { session = c.number-session.result - 1; number = c.args.number } in
    let load = c.load-count.ensures in
    let words_are : words h3 ≡ set (words h0) 0 (c.load-count.result + 1) = c.store.ensures.words ∙ ap (λ l. set l 0 (c.load-count.result + 1)) load.same.0 in
    let items_are : h3.value.entries.items ≡ h0.value.entries.items ++ e ∷ [] =
    ap (λ (x : Log). x.entries.items) c.store.ensures.same.0 ∙ (c.in_ok-push.ensures.items ∙ ap (λ (x : Log). x.entries.items ++ e ∷ []) (c.value.ensures.value ∙ load.same.1)) in
    let mine : n ≡ (c.number-session.result - 1) + 1 = omega (arith, c.number-session.ensures, h0.seat.now.numbered.0, h0.seat.now.numbered.1) in
    let step = follows_on ghosts n (idle_of (holder h0).found) (taken h0) h0.value h3.value c.requires.may.follows (follows_push n (idle_of (holder h0).found) h0.value h3.value e items_are mine) in (
      record {
        held = s.0;
        sound = counted_push (words h0) (words h3) h0.value.entries.items h3.value.entries.items e c.load-count.result c.requires.may.sound (load.word (λ m ne. tt)) words_are items_are;
        follows = subst (λ (p : ℕ × List ℕ × Log). Follows ghosts p.0 p.1 p.2 h3.value) (λ i. (sym (number_is h0 h3 whole) i, sym (ap (λ v. idle_of v.found) whole.holder) i, sym (taken_is h0 h3 whole) i)) step;
      },
      whole,
    )
