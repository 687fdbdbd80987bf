-- The questions that look at all other tasks, asked of one other task u.
use Rattle.std.specs.Prelude.{ℕ, Bool, not, ◌&&◌, ◌||◌, ◌==◌}
use Rattle.kinds.specs.declared.deed.Deed.{Deed}
use Rattle.kinds.specs.Kinds.{strongly, kind_of, meets, if_strong, is_commutative}
use Rattle.order.specs.Tasks.{World, is_created, state_of, every_cell, ancestor, earlier, holds}

-- u is not earlier than t, or holds nothing in conflict with what t holds strongly
abbrev pub keeps_order : World → ℕ → ℕ → Bool
keeps_order w t u = not (earlier w u t) || every_cell w (λ c. not (meets (holds w u c) (if_strong (holds w t c))))

-- u is t or not started, or no cell is held commutative by both
abbrev pub takes_turns : World → ℕ → ℕ → Bool
takes_turns w t u =
    (u == t || is_created (state_of w u)) || every_cell w (λ c. not (is_commutative (holds w u c) && is_commutative (holds w t c)))

-- u is no descendant of t, or holds nothing of the cell in conflict with the step
abbrev pub stands_aside : World → Deed → ℕ → ℕ → ℕ → Bool
stands_aside w d t c u = not (ancestor w t u) || not (meets (holds w u c) (strongly (kind_of d)))
