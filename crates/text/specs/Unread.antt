-- The number of each question that a reader asks.
-- Assumes nothing.
use Rattle.std.specs.Prelude.{ℕ}
use Rattle.text.specs.declared.unread.Stop.{Stop}
use Rattle.text.specs.declared.unread.Stop.TheVariants.{No, Memory}
use Rattle.text.specs.declared.unread.Unread.{Unread}
use Rattle.text.specs.declared.unread.Unread.TheVariants.{TooLong, NoLineEnd, BadHeader, UnknownLetter, BadNumbers, WrongCount, OutOfRange}

abbrev pub unread_number : Unread → ℕ
unread_number TooLong = 19
unread_number NoLineEnd = 20
unread_number BadHeader = 21
unread_number UnknownLetter = 22
unread_number BadNumbers = 23
unread_number WrongCount = 24
unread_number OutOfRange = 25

-- what a stop says, where it is not for want of memory
abbrev pub Stopped : Stop → (Unread → Type 0) → Type 0
Stopped (No why) P = P why
Stopped (Memory error) P = Unit {0}

-- what holds where memory was wanting
abbrev pub Wanting : Stop → Type 0 → Type 0
Wanting (No why) P = Unit {0}
Wanting (Memory error) P = P
