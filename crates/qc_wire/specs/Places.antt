-- Bytes that are still to be read, and where they stand.
use Rattle.std.specs.Prelude.{ℕ, ◌+◌, List, length, drop}

-- bytes that are still to be read, and the place of the first of them
pub record Unread : Type 0 where
  pub at : ℕ
  pub left : List ℕ

-- behind so many bytes
abbrev pub moved : ℕ → Unread → Unread
moved n u = record { at = u.at + n; left = drop n u.left }

-- the place behind the last byte
abbrev pub end_of : Unread → ℕ
end_of u = u.at + length u.left
