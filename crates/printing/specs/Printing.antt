-- Bytes printed into a buffer at a place: what stood before the place and after the bytes is kept.
use Rattle.std.specs.Prelude.{ℕ, ◌+◌, ◌≤◌, ◌≡◌, List, ◌++◌, length, take, drop}

-- the buffer with the bytes at the place
unfoldable pub printed : (buffer : List ℕ) (at : ℕ) (bytes : List ℕ) → List ℕ
printed buffer at bytes = take at buffer ++ bytes ++ drop (at + length bytes) buffer

-- the bytes stand in the buffer from the place up to the next place, all else is kept
pub record Prints (before : List ℕ) (at : ℕ) (bytes after : List ℕ) (next : ℕ) : Type 0 where
  pub within : at + length bytes ≤ length before
  pub next_place : next ≡ at + length bytes
  pub kept_length : length after ≡ length before
  pub written : after ≡ printed before at bytes
