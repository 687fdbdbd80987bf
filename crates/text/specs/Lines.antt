-- Bytes cut at a byte: the first line of an input, and what follows it.
-- Assumes nothing.
use Rattle.std.specs.Prelude.{◌≡◌, ℕ, suc, ◌+◌, ◌<◌, cond, List, [], ◌∷◌, ◌++◌, length, take, drop, ◌==◌, ◌≢◌, slice_index}

-- the place of the first b, or the length where there is none
abbrev pub up_to : ℕ → List ℕ → ℕ
up_to b [] = 0
up_to b (x ∷ xs) = cond (x == b) 0 (suc (up_to b xs))

-- a line goes on to its byte 10, or to the end
abbrev pub line_of : List ℕ → List ℕ
line_of bs = take (suc (up_to 10 bs)) bs

abbrev pub after_line : List ℕ → List ℕ
after_line bs = drop (suc (up_to 10 bs)) bs

-- the line and the rest are the input; a byte 10 can only end the line, and does so unless nothing is left
pub record Cut (input line rest : List ℕ) : Type 0 where
  pub whole : line ++ rest ≡ input
  pub inner : (k : ℕ) → k < length line → slice_index line k ≡ 10 → k + 1 ≡ length line
  pub ends : (rest ≢ []) → (front : List ℕ) × (line ≡ front ++ (10 ∷ []))
