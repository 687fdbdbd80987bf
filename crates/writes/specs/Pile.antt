-- An allowance over a write-behind over a chain store, by the numbers that decide its verdicts.
use Rattle.std.specs.Prelude.{ℕ, ◌+◌, ◌-◌, cond, Some, None, Option, ◌==◌}
use Rattle.layers.specs.declared.allowance.Allowance.{Allowance}
use Rattle.layers.specs.declared.behind.WriteBehind.{WriteBehind}
use Rattle.stores.specs.declared.chain.ChainStore.{ChainStore}
use Rattle.layers.specs.declared.held.Held.{Held}
use Rattle.layers.specs.declared.lent.Lent.{Lent}
use Rattle.stores.specs.Fault.{Verdict, existing}
use Rattle.stores.specs.Store.{extent}
use Rattle.stores.specs.Chain.{chain_verdict}
use Rattle.layers.specs.Layers.{allowance_verdict, held_verdict}

-- the cells, the writes left, what is held, and how many of how many records are used
pub record Gauge (V : Type 0) : Type 0 where
  pub cells : ℕ
  pub left : ℕ
  pub held : Option (Held V)
  pub used : ℕ
  pub records : ℕ

abbrev pub gauge_of : {V : Type 0} → Allowance (WriteBehind V (Lent (ChainStore V))) → Gauge V
gauge_of s =
    record {
      cells = extent s.below.below.store.now.heads.now;
      left = s.left;
      held = s.below.held;
      used = s.below.below.store.now.used;
      records = extent s.below.below.store.now.records.now;
    }

-- no such cell; the allowance spent; open for the held cell or with nothing held; else the held cell has to go down, two layers below
abbrev pub pile_verdict : {V : Type 0} → Gauge V → ℕ → Verdict
pile_verdict g i = allowance_verdict g.cells g.left i (existing g.cells i (held_verdict g.held (chain_verdict g.cells g.used g.records) i))

-- the records that a write of the cell i takes: one, where another cell is held
abbrev pub taken : {V : Type 0} → Option (Held V) → ℕ → ℕ
taken None i = 0
taken (Some h) i = cond (i == h.cell) 0 1

-- an accepted write spends one of the allowance and is held
abbrev pub after_write : {V : Type 0} → Gauge V → ℕ → V → Gauge V
after_write g i v =
    record {
      cells = g.cells;
      left = g.left - 1;
      held = Some (record { cell = i; value = v });
      used = g.used + taken g.held i;
      records = g.records;
    }
