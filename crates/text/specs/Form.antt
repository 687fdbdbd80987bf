-- How numbers are written, and what reading them answers.
-- Assumes nothing.
use Rattle.std.specs.Prelude.{◌≡◌, ℕ, ◌^◌, ◌<◌, List, [], ◌∷◌, ◌++◌, Some, None, decimal, Option, ◌≢◌}

-- each number after one space, in decimal without leading zeros
abbrev pub spaced : List ℕ → List ℕ
spaced [] = []
spaced (n ∷ ns) = 32 ∷ (decimal n ++ spaced ns)

abbrev pub Small : ℕ → Type 0
Small n = n < 2 ^ 64

abbrev pub AllSmall : List ℕ → Type 0
AllSmall [] = Unit {0}
AllSmall (n ∷ ns) = Small n × AllSmall ns

-- the number that the bytes write, where they write one
abbrev pub DigitsRead : List ℕ → Option ℕ → Type 0
DigitsRead bs (Some n) = Small n × (bs ≡ decimal n)
DigitsRead bs None = (n : ℕ) → Small n → bs ≢ decimal n

-- the bytes are the writing of these numbers
pub record Writes (bs ns : List ℕ) : Type 0 where
  pub small : AllSmall ns
  pub whole : bs ≡ spaced ns

-- the end, or a space
abbrev pub Next : List ℕ → Type 0
Next [] = Unit {0}
Next (b ∷ bs) = b ≡ 32

-- the bytes are a number after its space, and then the rest
pub record Took (bs : List ℕ) (n : ℕ) (rest : List ℕ) : Type 0 where
  pub small : Small n
  pub whole : bs ≡ 32 ∷ (decimal n ++ rest)
  pub next : Next rest
