-- The number of each refusal. Numbers stand nowhere else; 17 is the store's own refusal.
-- Assumes nothing.
use Rattle.std.specs.Prelude.{ℕ}
use Rattle.order.specs.declared.refusal.Refusal.{Refusal}
use Rattle.order.specs.declared.refusal.Refusal.TheVariants.{
  NoSuchTask,
  WrongState,
  TooManyTasks,
  TooManyAccesses,
  BadRegion,
  UnknownKind,
  CommutativeParent,
  NotCovered,
  EarlierConflict,
  CommutativeBusy,
  ChildrenOpen,
  NotHeld,
  TooManyRuns,
  NoSuchCell,
  NoFittingHolding,
  DescendantConflict,
  ShortList,
}

-- what a call answers that is refused for this reason
abbrev pub refusal_number : Refusal → ℕ
refusal_number NoSuchTask = 1
refusal_number WrongState = 2
refusal_number TooManyTasks = 3
refusal_number TooManyAccesses = 4
refusal_number BadRegion = 5
refusal_number UnknownKind = 6
refusal_number CommutativeParent = 7
refusal_number NotCovered = 8
refusal_number EarlierConflict = 9
refusal_number CommutativeBusy = 10
refusal_number ChildrenOpen = 11
refusal_number NotHeld = 12
refusal_number TooManyRuns = 13
refusal_number NoSuchCell = 14
refusal_number NoFittingHolding = 15
refusal_number DescendantConflict = 16
refusal_number ShortList = 18
