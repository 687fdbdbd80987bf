-- The number of each refusal of an engine.
-- Assumes nothing.
use Rattle.std.specs.Prelude.{ℕ}
use Rattle.order.specs.Refusals.{refusal_number}
use Rattle.promise.specs.Runs.{store_number}
use Rattle.engine.specs.declared.refusal.Refusal.{Refusal}
use Rattle.engine.specs.declared.refusal.Refusal.TheVariants.{Rule, Store}

abbrev pub number_of : Refusal → ℕ
number_of (Rule why) = refusal_number why
number_of (Store fault) = store_number
