-- The fill of an entry goes on from packet to packet.
use Rattle.std.proofs.Common.{◌≡◌, ℕ, List, [], ◌∷◌, ◌++◌, refl, sym, ap, ◌∙◌, subst, append_assoc, append-nil, inl, inr, true, Option, None, Some}
use Rattle.std.specs.Prelude.{IfSome, OnOk, Result, Ok, Err, is_ok, option_map}
use Rattle.std.specs.List.{concat}
use Rattle.std.proofs.lemmas.List.Folds.{concat-append}
use Rattle.qc_model.specs.declared.events.Event.{Event}
use Rattle.qc_model.specs.declared.events.GoneWhy.TheVariants as gone
use Rattle.qc_model.specs.Journal.{Journal}
use Rattle.qc_turn.specs.declared.seat.Seat.{Seat}
use Rattle.qc_turn.specs.declared.task.Task.{Task}
use Rattle.qc_turn.specs.declared.task.Task.TheVariants as task
use Rattle.qc_turn.specs.declared.turn.Turn.{Turn}
use Rattle.qc_turn.specs.declared.view.View.{View}
use Rattle.qc_turn.specs.Seats.{IsSeatOf, view}
use Rattle.qc_core.specs.contracts.server.ServerKept.TheImpl.{ghosts}
use Rattle.qc_core.specs.declared.server_state.ServerState.{ServerState}
use Rattle.qc_flow.specs.declared.fills.Fill.{Fill}
use Rattle.qc_flow.specs.declared.fills.FillStep.{FillStep}
use Rattle.qc_flow.specs.declared.fills.FillStep.TheVariants as step
use Rattle.qc_flow.specs.Fills.{IsLargeIn, IsNextPacket, IsWholeAnswer, Puts, Stores}
use Rattle.qc_flow.specs.Seats.{GoesOn}
use Rattle.qc_flow.proofs.Licences.{started_in}
use Rattle.qc_turn.proofs.Tasks.{starts_trans}
use Rattle.qc_serve.specs.declared.ending.End.{End}
use Rattle.qc_serve.specs.declared.sinks.Piece.{Piece}
use Rattle.qc_serve.specs.Filling.{Fills, HasStopped, IsGoing, IsGone}
use Rattle.qc_serve.specs.Sent.{Adds, IsPartOf, SendsFrontOf, bytes_of, piece}
use Rattle.qc_serve.specs.SentAt.{FillsAt, IsStored, SendsAt}
use Rattle.qc_serve.proofs.Sending.{Gone, Went, adds_both, adds_none, adds_so, bytes_both, gone_more, gone_none, one_bytes, part_bytes, went_front, went_more, went_none}

-- ---- the seat goes on

pub goes_same : (v : View ServerState Event) → GoesOn v v
goes_same v = record { seen = ([], sym (append-nil v.seen)); same = refl; told = λ h. h }

pub goes_both : (u v w : View ServerState Event) → GoesOn u v → GoesOn v w → GoesOn u w
goes_both u v w p q = record {
  seen = starts_trans w.seen v.seen u.seen q.seen p.seen;
  same = q.same ∙ ap (λ (x : View ServerState Event). record x { seen = w.seen; task = w.task; blocks = w.blocks; content = w.content; turns = w.turns }) p.same;
  told = λ h. q.told (p.told h);
}

-- ---- the fill

-- the packet that comes next
pub next_packet : (serial : ℕ) (packet : List ℕ) (later : List (List ℕ)) (f : Fill) (s : Seat ServerState Event ghosts) → IsGoing serial (packet ∷ later) f s → IsNextPacket f.serial packet (view s)
next_packet serial packet later f s g = subst (λ n. IsNextPacket n packet (view s)) (sym g.serial_is) (record { start = g.start; earlier = g.earlier; later = later; packets = g.packets; stored = g.stored })

-- once it is stored
pub stored_packet : (serial : ℕ) (packet : List ℕ) (later : List (List ℕ)) (f g : Fill) (old new : Seat ServerState Event ghosts) → IsGoing serial (packet ∷ later) f old → GoesOn (view old) (view new) → Stores f g packet (view old) new → IsGoing serial later g new
stored_packet serial packet later f g old new is goes stores = record {
  serial_is = stores.same.0 ∙ is.serial_is;
  fills = stores.fills;
  start = started_in (view new).seen (view old).seen serial goes.seen is.start;
  earlier = is.earlier ++ packet ∷ [];
  packets = is.packets ∙ ap Some (sym (append_assoc is.earlier (packet ∷ []) later));
  stored = stores.content ∙ (ap (λ (l : List ℕ). l ++ packet) is.stored ∙ sym (concat-append is.earlier (packet ∷ []) ∙ ap (λ (l : List ℕ). concat is.earlier ++ l) (append-nil packet)));
}

-- with the packet the fill stopped
pub stopped_at : (serial : ℕ) (packet : List ℕ) (later : List (List ℕ)) (f g : Fill) (x : FillStep) (old new : Seat ServerState Event ghosts) → IsGoing serial (packet ∷ later) f old → Puts f g packet (view old) new x → (x ≡ step.More → ⊥) → HasStopped serial (view new)
stopped_at serial packet later f g step.More old new is puts other = absurd (other refl)
stopped_at serial packet later f g (step.Overtaken by) old new is puts other = subst (λ n. HasStopped n (view new)) is.serial_is (record { ended = puts.1; gone = inr (by, puts.2) })
stopped_at serial packet later f g (step.TooLarge total) old new is puts other = subst (λ n. HasStopped n (view new)) is.serial_is (record { ended = puts.0; gone = large puts.2 })
  where
    large : IsLargeIn f.serial total f.limit (view new).seen → IsGone f.serial (view new).seen
    large (inl ends) = inl (gone.TooLarge total f.limit, ends)
    large (inr overtaken) = inr overtaken
stopped_at serial packet later f g (step.NoRoom need largest) old new is puts other = subst (λ n. HasStopped n (view new)) is.serial_is (record { ended = puts.0; gone = inl (gone.NoRoom need largest, (puts.1.server.journal.events, puts.1.events)) })

-- all is stored
pub whole_stored : (serial : ℕ) (f : Fill) (s : Seat ServerState Event ghosts) → IsGoing serial [] f s → IsWholeAnswer f.serial (view s)
whole_stored serial f s g = subst (λ n. IsWholeAnswer n (view s)) (sym g.serial_is) (record {
  start = g.start;
  answered = ap (option_map concat) g.packets ∙ ap Some (ap concat (append-nil g.earlier) ∙ sym g.stored);
})

-- the seat's task
pub fills_at : (serial : ℕ) (left : List (List ℕ)) (f : Fill) (s : Seat ServerState Event ghosts) → IsGoing serial left f s → (view s).task ≡ task.Fill serial
fills_at serial left f s g = g.fills.task ∙ ap (λ n. task.Fill n) g.serial_is

-- ---- packets go out, and into the fill

if_some : (o : Option Fill) (P : Fill → Type 0) → ((f : Fill) → o ≡ Some f → P f) → IfSome o P
if_some None P h = tt
if_some (Some f) P h = h f refl

-- These packets went out, and into the fill where that goes on still, and others are left.
pub record Filling (t : Turn ServerState Event) (first now : Seat ServerState Event ghosts) (all left : List (List ℕ)) (was is : Option Fill) (before held : Option (List Piece)) : Type 0 where
  pub seated : IsSeatOf t now
  pub room : now.ranges.room ≡ first.ranges.room
  pub goes_on : GoesOn (view first) (view now)
  pub fills : (serial : ℕ) → Fills serial all was first → Fills serial left is now
  pub sent : Went (concat all) (concat left) before held
  pub at : (serial : ℕ) → Fills serial all was first → IfSome is (λ f. Gone (task.Fill serial) (concat all) (concat left) before held)

pub filling_none : (t : Turn ServerState Event) (s : Seat ServerState Event ghosts) (all : List (List ℕ)) (was : Option Fill) (held : Option (List Piece)) → IsSeatOf t s → Filling t s s all all was was held held
filling_none t s all was held seated = record {
  seated = seated;
  room = refl;
  goes_on = goes_same (view s);
  fills = λ serial f. f;
  sent = went_none held (concat all);
  at = λ serial f. if_some was (λ g. Gone (task.Fill serial) (concat all) (concat all) held held) (λ g is. gone_none (task.Fill serial) held (concat all));
}

-- what a call of `store` says
pub record Stored (t : Turn ServerState Event) (packet : List ℕ) (old new : Seat ServerState Event ghosts) (was is : Option Fill) : Type 0 where
  pub seated : IsSeatOf t new × (new.ranges.room ≡ old.ranges.room)
  pub goes_on : GoesOn (view old) (view new)
  pub fills : (serial : ℕ) (later : List (List ℕ)) → Fills serial (packet ∷ later) was old → Fills serial later is new
  pub none : was ≡ None → is ≡ None

module _ (t : Turn ServerState Event) (first now then : Seat ServerState Event ghosts) (all left : List (List ℕ)) (packet : List ℕ) (was is next : Option Fill) (before held out : Option (List Piece))
    (h : Filling t first now all (packet ∷ left) was is before held) (stored : Stored t packet now then is next) where
  -- the packet is stored, and isn't put yet
  pub fills_on : (serial : ℕ) → Fills serial all was first → Fills serial left next then
  fills_on serial f = stored.fills serial left (h.fills serial f)

  pub goes_to : GoesOn (view first) (view then)
  goes_to = goes_both (view first) (view now) (view then) h.goes_on stored.goes_on

  pub room_to : then.ranges.room ≡ first.ranges.room
  room_to = stored.seated.1 ∙ h.room

  at_on : (serial : ℕ) → Fills serial all was first → Adds held out (λ more. more ≡ piece packet (view then).task ∷ []) → (f : Fill) → next ≡ Some f → Gone (task.Fill serial) (concat all) (concat left) before out
  at_on serial start puts f some = by is refl (h.at serial start)
    where
      going : IsGoing serial left f then
      going = subst (λ (o : Option Fill). Fills serial left o then) some (fills_on serial start)

      by : (o : Option Fill) → is ≡ o → IfSome o (λ g. Gone (task.Fill serial) (concat all) (concat (packet ∷ left)) before held) → Gone (task.Fill serial) (concat all) (concat left) before out
      by None none went = let next_none : next ≡ None = stored.none none in absurd cc
      by (Some g) some_is went = gone_more before held out (concat all) packet (concat left) (view then).task (task.Fill serial) (fills_at serial left f then going) went puts

  pub filling_on : Adds held out (λ more. more ≡ piece packet (view then).task ∷ []) → Filling t first then all left was next before out
  filling_on puts = record {
    seated = stored.seated.0;
    room = room_to;
    goes_on = goes_to;
    fills = fills_on;
    sent = went_more before held out (concat all) packet (concat left) (view then).task h.sent puts;
    at = λ serial f. if_some next (λ g. Gone (task.Fill serial) (concat all) (concat left) before out) (λ g is. at_on serial f puts g is);
  }

  pub filling_front : Adds held out (IsPartOf packet (view then).task) → SendsFrontOf before out (concat all)
  filling_front part = went_front before held out (concat all) packet (concat left) (view then).task h.sent part

-- ---- what went out is stored

-- and no more than that
abbrev pub StoredOn : Option Fill → View ServerState Event → View ServerState Event → Option (List Piece) → Option (List Piece) → Type 0
StoredOn fill first now before held = IfSome fill (λ f. Adds before held (λ more. now.content ≡ first.content ++ bytes_of more))

pub stored_none : (fill : Option Fill) (v : View ServerState Event) (held : Option (List Piece)) → StoredOn fill v v held held
stored_none None v held = tt
stored_none (Some f) v held = adds_none held (λ more. v.content ≡ v.content ++ bytes_of more) (sym (append-nil v.content))

pub stored_so : (fill : Option Fill) (first now : View ServerState Event) (before held : Option (List Piece)) → StoredOn fill first now before held → IsStored fill first now before held
stored_so None first now before held h = tt
stored_so (Some f) first now before held h =
    adds_so before held (λ more. now.content ≡ first.content ++ bytes_of more) (λ more. (rest : List ℕ) × (now.content ≡ (first.content ++ bytes_of more) ++ rest)) (λ x p. ([], p ∙ sym (append-nil (first.content ++ bytes_of x)))) h

-- the next packet was stored, and then put
pub stored_next : (is next : Option Fill) (first now then : View ServerState Event) (packet : List ℕ) (at : Task) (before held out : Option (List Piece)) → (is ≡ None → next ≡ None) → IfSome next (λ f. then.content ≡ now.content ++ packet)
    → StoredOn is first now before held → Adds held out (λ more. more ≡ piece packet at ∷ []) → StoredOn next first then before out
stored_next is None first now then packet at before held out none stored h puts = tt
stored_next None (Some f) first now then packet at before held out none stored h puts = let same : Some f ≡ None = none refl in absurd cc
stored_next (Some g) (Some f) first now then packet at before held out none stored h puts =
    adds_both before held out (λ x. now.content ≡ first.content ++ bytes_of x) (λ y. y ≡ piece packet at ∷ []) (λ z. then.content ≡ first.content ++ bytes_of z) h puts
    (λ x y p q. stored
    ∙ (ap (λ (l : List ℕ). l ++ packet) p
    ∙ (append_assoc first.content (bytes_of x) packet ∙ ap (λ (l : List ℕ). first.content ++ l) (sym (bytes_both x y ∙ ap (λ (l : List ℕ). bytes_of x ++ l) (ap bytes_of q ∙ one_bytes packet at))))))

-- it was stored, and a part of it was put
pub stored_part : (is next : Option Fill) (first now then : View ServerState Event) (packet : List ℕ) (at : Task) (before held out : Option (List Piece)) → (is ≡ None → next ≡ None) → IfSome next (λ f. then.content ≡ now.content ++ packet)
    → StoredOn is first now before held → Adds held out (IsPartOf packet at) → IsStored next first then before out
stored_part is None first now then packet at before held out none stored h part = tt
stored_part None (Some f) first now then packet at before held out none stored h part = let same : Some f ≡ None = none refl in absurd cc
stored_part (Some g) (Some f) first now then packet at before held out none stored h part =
    adds_both before held out (λ x. now.content ≡ first.content ++ bytes_of x) (IsPartOf packet at) (λ z. (rest : List ℕ) × (then.content ≡ (first.content ++ bytes_of z) ++ rest)) h part
    (λ x y p q. let b = part_bytes packet at y q in (
      b.0,
      stored
          ∙ (ap (λ (l : List ℕ). l ++ packet) p
          ∙ (ap (λ (l : List ℕ). (first.content ++ bytes_of x) ++ l) b.1
          ∙ (sym (append_assoc (first.content ++ bytes_of x) (bytes_of y) b.0) ∙ ap (λ (l : List ℕ). l ++ b.0) (append_assoc first.content (bytes_of x) (bytes_of y) ∙ ap (λ (l : List ℕ). first.content ++ l) (sym (bytes_both x y)))))),
    ))

-- ---- the end of the fill

pub ok_then : {T E : Type 0} (r : Result T E) (P : Type 0) → OnOk r P → is_ok r ≡ true → P
ok_then (Ok x) P h is = h
ok_then (Err e) P h is = absurd cc

pub then_ok : {T E : Type 0} (r : Result T E) (P : Type 0) → (is_ok r ≡ true → P) → OnOk r P
then_ok (Ok x) P h = h refl
then_ok (Err e) P h = tt

-- the reply went out while the seat filled the entry, or that was gone
pub filled_at : (r : Result (Unit {0}) End) (fill : Option Fill) (serial : ℕ) (seen : Journal) (held out : Option (List Piece)) (bytes : List ℕ) → OnOk r (IfSome fill (λ f. SendsAt (task.Fill serial) held out bytes)) → (fill ≡ None → IsGone serial seen) → OnOk r (FillsAt serial seen held out bytes)
filled_at (Ok x) None serial seen held out bytes at gone = inr (gone refl)
filled_at (Ok x) (Some f) serial seen held out bytes at gone = inl at
filled_at (Err e) fill serial seen held out bytes at gone = tt
