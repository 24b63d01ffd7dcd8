-- What calls answer where memory may lack, and what reads and puts take and give.
use Rattle.std.proofs.Common.{◌≡◌, ℕ, [], ◌∷◌, refl, true, false, Ok, Err, arith}
use Rattle.std.specs.Prelude.{codes, Some, None, ◌+◌}
use Rattle.qc_types.specs.declared.memory.Or.TheVariants as or
use Rattle.qc_types.specs.declared.streams.ReadStep.TheVariants as read
use Rattle.qc_types.specs.declared.streams.PutStep.TheVariants as put
use Rattle.qc_types.specs.Answers.{Gives, Refuses}
use Rattle.qc_types.specs.Feed.{counted, fails_next}
use Rattle.qc_types.specs.Streams.{Rose, FillsWithin, is_failed, is_put_failed, is_put_done, IsGotOf, ReadGives, PutGives}

-- ---- answers

-- the answer 4 is seen as 5, which is what is meant
given : Gives {X = ℕ} {E = ℕ} (λ n. n + 1) (λ e. e) (Ok 4) (Ok 5)
given = refl

-- want of memory says nothing of what is meant
lacks_memory : Gives {X = ℕ} {E = ℕ} (λ n. n + 1) (λ e. e) (Err or.Memory) (Ok 5)
lacks_memory = tt

-- a refusal where a value is meant
not_refused : Gives {X = ℕ} {Y = ℕ} {E = ℕ} {F = ℕ} (λ n. n) (λ e. e) (Err (or.Other 1)) (Ok 1) → ⊥
not_refused h = absurd (cc h)

is_refused : Refuses {X = ℕ} {E = ℕ} (Err (or.Other 7)) (Some 7)
is_refused = refl

another_refusal : Refuses {X = ℕ} {E = ℕ} (Err (or.Other 7)) (Some 8) → ⊥
another_refusal h = absurd (cc h)

-- it answers, though a refusal is meant
answers_all_the_same : Refuses {X = ℕ} {E = ℕ} (Ok 0) (Some 7) → ⊥
answers_all_the_same h = absurd (cc h)

-- ---- counts

next_count : counted 6 ≡ 7
next_count = refl

-- the largest number of the type stays
last_count : counted 18446744073709551615 ≡ 18446744073709551615
last_count = refl

before_last_count : counted 18446744073709551614 ≡ 18446744073709551615
before_last_count = refl

-- calls are numbered from 1
first_fails : fails_next (1 ∷ 4 ∷ []) 0 ≡ true
first_fails = refl

second_does_not : fails_next (1 ∷ 4 ∷ []) 1 ≡ false
second_does_not = refl

none_fails : fails_next [] 3 ≡ false
none_fails = refl

rose : Rose 3 4
rose = omega arith

-- it may rise by more, and it stands at its end
rose_by_more : Rose 3 9
rose_by_more = omega arith

stood_at_the_end : Rose 18446744073709551615 18446744073709551615
stood_at_the_end = omega arith

stayed : Rose 3 3 → ⊥
stayed h = absurd (omega (arith, h))

-- ---- reads

fills_all : FillsWithin (read.Got 4) 4
fills_all = (omega arith, omega arith)

fills_none : FillsWithin (read.Got 0) 4 → ⊥
fills_none h = absurd (omega (arith, h.0))

fills_more : FillsWithin (read.Got 5) 4 → ⊥
fills_more h = absurd (omega (arith, h.1))

failed : is_failed read.Failed ≡ true
failed = refl

ended : is_failed read.End ≡ false
ended = refl

got : is_failed (read.Got 1) ≡ false
got = refl

of_what_was_got : IsGotOf (read.Got 3) (λ n. n ≡ 3)
of_what_was_got = refl

of_nothing : IsGotOf read.End (λ n. n ≡ 3)
of_nothing = tt

of_another : IsGotOf (read.Got 2) (λ n. n ≡ 3) → ⊥
of_another h = absurd (cc h)

-- two bytes of three, in front of what the buffer held
two_bytes : ReadGives (read.Got 2) (Some (codes "abc")) (Some (codes "c")) (codes "abz")
two_bytes = (omega arith, refl, refl)

-- the end comes only where nothing is left
too_early : ReadGives read.End (Some (codes "c")) (Some []) [] → ⊥
too_early h = absurd (cc h.0)

-- where it fails, all is still left
nothing_taken : ReadGives read.Failed (Some (codes "abc")) (Some (codes "abc")) (codes "zzz")
nothing_taken = refl

-- a source that doesn't tell what it has left goes on telling nothing
untold : ReadGives (read.Got 2) None None (codes "abz")
untold = refl

-- ---- puts

put_failed : is_put_failed put.Failed ≡ true
put_failed = refl

put_lacks_memory : is_put_failed put.Memory ≡ false
put_lacks_memory = refl

put_done : is_put_done put.Done ≡ true
put_done = refl

not_done : is_put_done put.Memory ≡ false
not_done = refl

whole_piece : PutGives put.Done (Some (codes "ab")) (Some (codes "abcd")) (codes "cd")
whole_piece = refl

-- a prefix of the piece, or none of it
part_of_it : PutGives put.Failed (Some (codes "ab")) (Some (codes "abc")) (codes "cd")
part_of_it = (codes "c", (codes "d", refl), refl)

none_of_it : PutGives put.Memory (Some (codes "ab")) (Some (codes "ab")) (codes "cd")
none_of_it = ([], (codes "cd", refl), refl)

-- done, but a byte is missing
not_whole : PutGives put.Done (Some (codes "ab")) (Some (codes "abc")) (codes "cd") → ⊥
not_whole h = absurd (cc h)
