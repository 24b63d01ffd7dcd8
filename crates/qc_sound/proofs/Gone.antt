-- A fill gives its entry up.
use Rattle.std.proofs.Common.{◌≡◌, ◌≢◌, ℕ, ◌+◌, ◌<◌, ◌≤◌, eqb, eqb-true, Bool, true, false, cond, List, [], ◌∷◌, ◌++◌, map, refl, sym, ap, subst, ◌∙◌, arith}
use Rattle.std.specs.Prelude.{not, Option, Some, IsSomeAnd, count_by, ◌==◌}
use Rattle.std.specs.List.{filter, find, AllByRecursion}
use Rattle.qc_model.specs.declared.events.Event.TheVariants as event
use Rattle.qc_model.specs.Cache.{Entry, cache, entry_of, is_entry, without}
use Rattle.qc_laws.specs.history.Runs.{are_distinct}
use Rattle.qc_laws.proofs.history.Events.{all_filter, found_all}
use Rattle.qc_laws.proofs.history.Serials.{opposite}
use Rattle.qc_sound.specs.PlainServer.{PlainServer, SeatTask, is_stored, is_wanted}
use Rattle.qc_sound.specs.parts.Journal.{reserved}
use Rattle.qc_sound.specs.parts.Tasks.{is_fill_of, is_stream_of}
use Rattle.qc_sound.specs.steps.Leaving.{without_seat, given_up, staying, GoneSteps, GoneLists}
use Rattle.qc_sound.proofs.Pushes.{tasks_on, small_none}
use Rattle.qc_sound.proofs.Filters.{distinct_filter, tasks_stay, tasks_wanted}
use Rattle.qc_sound.proofs.Leaves.{leave_all, no_decider, same_answer, one_less}
use Rattle.qc_sound.proofs.Moved.{serial_found}
use Rattle.qc_turn.specs.Tasks.{listed_for}
use Rattle.qc_sound.proofs.Ending.{eqb_swap, others_listed, none_listed}
use Rattle.qc_sound.proofs.Growing.{Meant, meant}
use Rattle.qc_sound.proofs.Finishing.{others_fill_none, ends_others, fills_left, streams_left}

pub gone_step : GoneSteps
gone_step moment words s n why seat tiles blocks h licensed needs fill tiled tabled =
    let e = event.Gone n why in
    let c = cache s.journal in
    let ws = without_seat seat s.tasks in
    let t = h.tasks.one_each in
    let u = meant moment words n s (λ y. y.complete ≡ false) h licensed.0 in
    let x = u.at in
    let is_n : x.serial ≡ n = serial_found n s.entries x u.found in
    let partial : x.complete ≡ false = u.stored.complete ∙ u.holds in
    let one : count_by (λ w. is_fill_of n w.task) s.tasks ≡ 1 = subst (λ i. count_by (λ w. is_fill_of i w.task) s.tasks ≡ 1) is_n ((found_all _ (is_stored n) s.entries x h.tasks.filled u.found).0 partial) in
    let less = one_less n c u.entry u.cached in
    let has = h.journal.room in
    leave_all moment words s e (is_stored n) (is_entry n) ws tiles blocks h licensed (small_none e refl) needs
    (record { after = refl; same = λ x y r. ap (λ m. eqb m n) r.serial; answers = λ y free k. same_answer s.journal e y refl })
    (omega (arith, less, has))
    (record {
      one_each = distinct_filter (λ (w : SeatTask). w.seat) _ s.tasks t;
      each = tasks_on s.journal e s.chains ws (no_decider e ws (λ k. refl)) (ends_others n e ws (λ k. refl) (others_fill_none seat n s.tasks t fill one)) (all_filter _ _ _ s.tasks (λ w _ k. k) h.tasks.each);
      filled = all_filter _ (λ z. z.complete ≡ false → count_by (λ w. is_fill_of z.serial w.task) ws ≡ 1) _ s.entries (λ z out k q. fills_left seat n z.serial s.tasks t fill (eqb_swap n z.serial ∙ opposite _ out) ∙ k q) h.tasks.filled;
      users = all_filter _ (λ z. z.users ≡ count_by (λ w. is_stream_of z.serial w.task) ws) _ s.entries (λ z _ k. k ∙ sym (streams_left seat n z.serial s.tasks t fill)) h.tasks.users;
    }) tiled tabled

pub gone_lists : GoneLists
gone_lists s n why seat tiles blocks =
    let es = staying (is_stored n) s.entries in
    let ws = without_seat seat s.tasks in
    let stay = tasks_stay (is_wanted es ws) s.chains ws (tasks_wanted es ws) in
    record {
      others = λ k ne. ap (listed_for k) stay ∙ others_listed s.chains k seat s.tasks ne;
      alone = ap (listed_for seat) stay ∙ none_listed s.chains seat s.tasks;
    }
