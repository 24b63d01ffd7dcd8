-- A stream that is read in pieces.
use Rattle.std.proofs.Common.{◌≡◌, ℕ, ◌+◌, ◌-◌, ◌≤◌, List, ◌++◌, length, take, drop, ap, ◌∙◌, arith, Option, Ok, Err}
use Rattle.std.specs.Prelude.{Some, None, slice_index}
use Rattle.std.proofs.Math.Seq.{take-add}
use Rattle.std.proofs.lemmas.List.{take_at, drop_at, length-append, length-take, take-append-le, length-take-le, length-drop, drop-drop}
use Rattle.std.proofs.lemmas.Bool.Decides.{nat_tests}
use Rattle.qc_types.specs.declared.memory.Or.TheVariants as or
use Rattle.qc_wire.specs.declared.stream.Filled.TheVariants as filled
use borrow.Rule.Slice.PartMut.{put_mid, post_of}
use Rattle.qc_types.specs.declared.streams.ReadStep.TheVariants as read
use Rattle.qc_types.specs.Streams.{ReadGives}
use Rattle.qc_sql.specs.declared.commands.CommandEnd.TheVariants as end
use Rattle.qc_sql.specs.Packets.{most_payload}
use Rattle.qc_sql.specs.Commands.{command_of, command_end, length_at}
use Rattle.qc_wire.specs.Commands.{ReadsCommand}
use Rattle.qc_wire.specs.Stream.{FillGives, HeaderGives}

-- so many bytes of a buffer were filled so far
abbrev pub FilledSoFar : ℕ → Option (List ℕ) → Option (List ℕ) → List ℕ → Type 0
FilledSoFar place None now buffer = now ≡ None
FilledSoFar place (Some left) now buffer = (place ≤ length left) × (take place buffer ≡ take place left) × (now ≡ Some (drop place left))

-- the filled part of a buffer after a write behind it
prefix_grows : (place n k : ℕ) (out part : List ℕ) → place ≤ length out → n ≤ length part → take (place + n) (put_mid place k out part) ≡ take place out ++ take n part
prefix_grows place n k out part p q =
    let len : length (take place out) ≡ place = length-take-le place out p in
    let rest = part ++ post_of place k out in
    take-add place n (put_mid place k out part)
    ∙ ap (λ xs. xs ++ take n (drop place (put_mid place k out part))) (take_at (take place out) rest place len)
    ∙ ap (λ xs. take place out ++ take n xs) (drop_at (take place out) rest place len)
    ∙ ap (λ xs. take place out ++ xs) (take-append-le n part (post_of place k out) q)

-- a read puts its bytes behind those that stand there
pub so_far_more : (place n k : ℕ) (out part : List ℕ) (old now new : Option (List ℕ)) → place ≤ length out → n ≤ length part
    → FilledSoFar place old now out → ReadGives (read.Got n) now new part → FilledSoFar (place + n) old new (put_mid place k out part)
so_far_more place n k out part None None new p q so_far gives = gives
so_far_more place n k out part None (Some rest) new p q so_far gives = absurd cc
so_far_more place n k out part (Some left) None new p q so_far gives = absurd (let e = so_far.2 in cc)
so_far_more place n k out part (Some left) (Some rest) new p q so_far gives =
    let is : rest ≡ drop place left = let e = so_far.2 in cc in
    let prefix = so_far.1 in
    let got = gives.1 in
    let now = gives.2 in
    let fits : n ≤ length rest = gives.0 in
    let deeper : drop n (drop place left) ≡ drop (place + n) left = drop-drop n place left in
    let longer = take-add place n left in
    let grown = prefix_grows place n k out part p q in
    (omega (arith, ap length is, length-drop place left, so_far.0), cc, cc)

-- a write to a part of a buffer keeps its length
pub same_length : (place : ℕ) (out part : List ℕ) → place ≤ length out → length part ≡ length out - place → length (put_mid place (length out - place) out part) ≡ length out
same_length place out part p q = simp (length-append, length-take, length-drop) (omega arith)

-- nothing hinders the packet in front
pub whole_packet : (bytes : List ℕ) → slice_index bytes 3 ≡ 0 → length_at bytes ≤ most_payload → 4 + length_at bytes ≤ length bytes → command_end bytes ≡ None
whole_packet bytes number bound fits = grind (arith, nat_tests)

-- a header and a whole payload are a command
pub whole_command : (old mid new : Option (List ℕ)) (n : ℕ) (payload : List ℕ) → HeaderGives (Ok n) old mid → n ≤ most_payload → length payload ≡ n
    → FillGives filled.Whole mid new payload → ReadsCommand (Ok (command_of payload)) old new
whole_command None None new n payload header bound len gives = gives
whole_command None (Some rest) new n payload header bound len gives = absurd cc
whole_command (Some left) None new n payload header bound len gives = absurd (let e = header.3 in cc)
whole_command (Some left) (Some rest) new n payload header bound len gives =
    let is : rest ≡ drop 4 left = let e = header.3 in cc in
    let at : n ≡ length_at left = header.2 in
    let same : payload ≡ take (length_at left) (drop 4 left) = let e = gives.1 in cc in
    let deeper : drop n (drop 4 left) ≡ drop (4 + n) left = drop-drop n 4 left in (
      whole_packet left header.1 (omega arith) (omega (arith, ap length is, length-drop 4 left, gives.0, header.0)),
      ap command_of same,
      (let e = gives.2 in cc),
    )

-- a source that failed in the payload gave a part of the packet
pub part_of_packet : (old mid new : Option (List ℕ)) (n : ℕ) (payload : List ℕ) → HeaderGives (Ok n) old mid → length payload ≡ n
    → FillGives filled.Failed mid new payload → ReadsCommand (Err (or.Other end.Failed)) old new
part_of_packet None None new n payload header len gives = gives
part_of_packet None (Some rest) new n payload header len gives = absurd cc
part_of_packet (Some left) None new n payload header len gives = absurd (let e = header.3 in cc)
part_of_packet (Some left) (Some rest) new n payload header len gives =
    let is : rest ≡ drop 4 left = let e = header.3 in cc in
    let at : n ≡ length_at left = header.2 in
    let taken = gives.0 in
    let deeper : drop taken (drop 4 left) ≡ drop (4 + taken) left = drop-drop taken 4 left in
    (4 + taken, omega (arith, gives.1), (let e = gives.2 in cc))
