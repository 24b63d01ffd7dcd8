-- A stream goes out piece by piece.
use Rattle.std.proofs.Common.{◌≡◌, ℕ, ◌+◌, ◌*◌, ◌-◌, ◌<◌, ◌≤◌, List, [], ◌∷◌, ◌++◌, length, take, drop, sym, ap, ◌∙◌, subst, arith, length-drop, length-take, Option}
use Rattle.std.specs.Prelude.{min}
use Rattle.qc_model.specs.declared.events.Event.{Event}
use Rattle.qc_turn.specs.Bytes.{bytes_of as word_bytes}
use Rattle.qc_turn.specs.declared.seat.Seat.{Seat}
use Rattle.qc_turn.specs.declared.task.Task.TheVariants as task
use Rattle.qc_turn.specs.declared.turn.Turn.{Turn}
use Rattle.qc_turn.specs.declared.view.View.{View}
use Rattle.qc_turn.specs.Seats.{IsSeatOf, view}
use Rattle.qc_core.specs.contracts.server.ServerKept.TheImpl.{ghosts}
use Rattle.qc_core.specs.declared.server_state.ServerState.{ServerState}
use Rattle.qc_flow.specs.declared.streams.Stream.{Stream}
use Rattle.qc_flow.specs.Streams.{IsStreamOf, left}
use Rattle.qc_flow.proofs.Pieces.{length_bytes}
use Rattle.qc_serve.specs.declared.sinks.Piece.{Piece}
use Rattle.qc_serve.specs.Sent.{Adds, AreCut, IsPartOf, NoneIsEmpty, hit_size, piece}
use Rattle.qc_serve.specs.SentAt.{SendsAt, SendsFrontAt}
use Rattle.qc_serve.proofs.Cutting.{CutOn, cut_more, cut_none, cut_part, cut_so, cut_some, hit_few}
use Rattle.qc_serve.proofs.Sending.{Gone, gone_all, gone_front, gone_more, gone_none, none_left, piece_next}

-- the bytes of a hit are no more than it says
few_bytes : (s : Stream) (v : View ServerState Event) → length (take s.bytes (word_bytes v.content)) ≤ s.bytes
few_bytes s v = let cut = length-take s.bytes (word_bytes v.content) in omega (arith, cut)

-- what a call of `next` gives, and what is left then
pub record NextPiece (s s' : Stream) (v : View ServerState Event) (count : ℕ) (out : List ℕ) : Type 0 where
  pub few : count ≤ 512
  pub whole : take count out ++ left s' v ≡ left s v
  pub none : count ≡ 0 → left s' v ≡ []
  pub long : length (take count out) ≡ count
  pub full : 0 < s'.bytes - s'.sent → count ≡ 512

pub next_piece : (s s' : Stream) (v : View ServerState Event) (count : ℕ) (out : List ℕ) → s.bytes ≤ 8 * length v.content → count ≡ min 512 (s.bytes - s.sent) → take count out ≡ take 512 (left s v) → s'.sent ≡ s.sent + count → s'.bytes ≡ s.bytes → NextPiece s s' v count out
next_piece s s' v count out within count_is same sent bytes =
    let all = take s.bytes (word_bytes v.content) in
    let few = few_bytes s v in
    let cut = length-take 512 (left s v) in
    let behind = length-drop s.sent all in
    let whole = length-take s.bytes (word_bytes v.content) in
    let long : length (take 512 (left s v)) ≡ count = omega (arith, cut, behind, whole, length_bytes v.content, within, count_is) in
    let rest : left s' v ≡ drop (s.sent + count) all = λ i. drop (sent i) (take (bytes i) (word_bytes v.content)) in
    record {
      few = omega (arith, count_is);
      whole = ap (λ (l : List ℕ). take count out ++ l) rest ∙ piece_next s.bytes s.sent count all out few count_is same;
      long = ap length same ∙ long;
      full = λ more. omega (arith, more, count_is, sent, bytes);
      none = λ zero_is. rest ∙ (ap (λ (n : ℕ). drop n all) (omega (arith, zero_is)) ∙ none_left s.bytes s.sent count all out few count_is same zero_is);
    }

-- a stream of the same hit
pub same_stream : (s s' : Stream) (v : View ServerState Event) → s'.serial ≡ s.serial → s'.bytes ≡ s.bytes → IsStreamOf s v → IsStreamOf s' v
same_stream s s' v serial bytes is = record {
  task = is.task ∙ ap (λ n. task.Stream n) (sym serial);
  words = is.words;
  within = omega (arith, bytes, is.within);
}

-- ---- what went out

-- These pieces went out, the next one is at hand, and others are left.
pub record Streaming (t : Turn ServerState Event) (first now : Seat ServerState Event ghosts) (was is : Stream) (count : ℕ) (piece : List ℕ) (before held : Option (List Piece)) : Type 0 where
  pub seated : IsSeatOf t now
  pub view_is : view now ≡ view first
  pub ranges : now.ranges ≡ first.ranges
  pub serial : is.serial ≡ was.serial
  pub bytes : is.bytes ≡ was.bytes
  pub few : count ≤ 512
  pub streams : IsStreamOf is (view first)
  pub done : count ≡ 0 → left is (view first) ≡ []
  pub long : length (take count piece) ≡ count
  pub full : 0 < is.bytes - is.sent → count ≡ 512
  pub cut : CutOn hit_size count before held
  pub sent : Gone (task.Stream was.serial) (left was (view first)) (take count piece ++ left is (view first)) before held

-- what a call of `next` says
pub record Loads (t : Turn ServerState Event) (old new : Seat ServerState Event ghosts) (s s' : Stream) (count : ℕ) (out : List ℕ) : Type 0 where
  pub seated : IsSeatOf t new × (view new ≡ view old) × (new.ranges ≡ old.ranges)
  pub count_is : count ≡ min 512 (s.bytes - s.sent)
  pub piece : take count out ≡ take 512 (left s (view old))
  pub sent : (s'.sent ≡ s.sent + count) × (s'.serial ≡ s.serial) × (s'.bytes ≡ s.bytes)

-- the first piece is at hand
pub streaming_first : (t : Turn ServerState Event) (first now : Seat ServerState Event ghosts) (was is : Stream) (count : ℕ) (out : List ℕ) (held : Option (List Piece)) → IsStreamOf was (view first) → Loads t first now was is count out → Streaming t first now was is count out held held
streaming_first t first now was is count out held streams loads =
    let v = view first in
    let next = next_piece was is v count out streams.within loads.count_is loads.piece loads.sent.0 loads.sent.2 in
    record {
      seated = loads.seated.0;
      view_is = loads.seated.1;
      ranges = loads.seated.2;
      serial = loads.sent.1;
      bytes = loads.sent.2;
      few = next.few;
      streams = same_stream was is v loads.sent.1 loads.sent.2 streams;
      done = next.none;
      long = next.long;
      full = next.full;
      cut = cut_none hit_size count held;
      sent = subst (λ (l : List ℕ). Gone (task.Stream was.serial) (left was v) l held held) (sym next.whole) (gone_none (task.Stream was.serial) held (left was v));
    }

-- a piece went out, and the next one is at hand
pub streaming_next : (t : Turn ServerState Event) (first now then : Seat ServerState Event ghosts) (was is next : Stream) (count more : ℕ) (out out' : List ℕ) (before held held' : Option (List Piece))
    → 0 < count → IsStreamOf was (view first) → Streaming t first now was is count out before held → Adds held held' (λ ps. ps ≡ piece (take count out) (view now).task ∷ []) → Loads t now then is next more out' → Streaming t first then was next more out' before held'
streaming_next t first now then was is next count more out out' before held held' some first_is h puts loads =
    let v = view first in
    let t_is : (view now).task ≡ task.Stream was.serial = ap (λ (w : View ServerState Event). w.task) h.view_is ∙ first_is.task in
    let same = ap (λ (w : View ServerState Event). take 512 (left is w)) h.view_is in
    let then_next = next_piece is next v more out' h.streams.within loads.count_is (loads.piece ∙ same) loads.sent.0 loads.sent.2 in
    let gone : Gone (task.Stream was.serial) (left was v) (left is v) before held' = gone_more before held held' (left was v) (take count out) (left is v) (view now).task (task.Stream was.serial) t_is h.sent puts in
    record {
      seated = loads.seated.0;
      view_is = loads.seated.1 ∙ h.view_is;
      ranges = loads.seated.2 ∙ h.ranges;
      serial = loads.sent.1 ∙ h.serial;
      bytes = loads.sent.2 ∙ h.bytes;
      few = then_next.few;
      streams = same_stream is next v loads.sent.1 loads.sent.2 h.streams;
      done = then_next.none;
      long = then_next.long;
      full = then_next.full;
      cut = cut_more hit_size count more before held held' (take count out) (view now).task some (omega (arith, some, h.long)) (omega (arith, h.long, h.few)) (λ on. omega (arith, h.long, h.full (omega (arith, on, loads.count_is)))) h.cut puts;
      sent = subst (λ (l : List ℕ). Gone (task.Stream was.serial) (left was v) l before held') (sym then_next.whole) gone;
    }

-- a front of the piece went out
pub streaming_front : (t : Turn ServerState Event) (first now : Seat ServerState Event ghosts) (was is : Stream) (count : ℕ) (out : List ℕ) (before held held' : Option (List Piece)) → IsStreamOf was (view first) → Streaming t first now was is count out before held
    → Adds held held' (IsPartOf (take count out) (view now).task) → SendsFrontAt (task.Stream was.serial) before held' (left was (view first))
streaming_front t first now was is count out before held held' first_is h part =
    let v = view first in
    let t_is : (view now).task ≡ task.Stream was.serial = ap (λ (w : View ServerState Event). w.task) h.view_is ∙ first_is.task in
    gone_front before held held' (left was v) (take count out) (left is v) (view now).task (task.Stream was.serial) t_is h.sent part

pub streaming_part : (t : Turn ServerState Event) (first now : Seat ServerState Event ghosts) (was is : Stream) (count : ℕ) (out : List ℕ) (before held held' : Option (List Piece)) → 0 < count → Streaming t first now was is count out before held
    → Adds held held' (IsPartOf (take count out) (view now).task) → Adds before held' (AreCut hit_size)
streaming_part t first now was is count out before held held' some h part =
    cut_part hit_size count before held held' (take count out) (view now).task some (λ prefix begins. hit_few (take count out) prefix (omega (arith, h.long, h.few)) begins) h.cut part

pub streaming_cut : (t : Turn ServerState Event) (first now : Seat ServerState Event ghosts) (was is : Stream) (count : ℕ) (out : List ℕ) (before held : Option (List Piece)) → Streaming t first now was is count out before held → Adds before held (AreCut hit_size)
streaming_cut t first now was is count out before held h = cut_so hit_size count before held h.cut

pub streaming_some : (t : Turn ServerState Event) (first now : Seat ServerState Event ghosts) (was is : Stream) (count : ℕ) (out : List ℕ) (before held : Option (List Piece)) → Streaming t first now was is count out before held → Adds before held NoneIsEmpty
streaming_some t first now was is count out before held h = cut_some hit_size count before held h.cut

-- no piece is left
pub streaming_done : (t : Turn ServerState Event) (first now : Seat ServerState Event ghosts) (was is : Stream) (count : ℕ) (out : List ℕ) (before held : Option (List Piece)) → count ≡ 0 → Streaming t first now was is count out before held → SendsAt (task.Stream was.serial) before held (left was (view first))
streaming_done t first now was is count out before held zero_is h =
    let v = view first in
    let none : take count out ++ left is v ≡ [] = ap (λ (n : ℕ). take n out ++ left is v) zero_is ∙ h.done zero_is in
    gone_all (task.Stream was.serial) (left was v) before held (subst (λ (l : List ℕ). Gone (task.Stream was.serial) (left was v) l before held) none h.sent)
