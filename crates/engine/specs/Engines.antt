-- Calls and runs as they are seen at an engine, over a store and its elements by their traits.
-- Assumes nothing.
use Rattle.std.specs.Prelude.{List, Result}
use Rattle.elements.specs.declared.element.Element as element
use Rattle.stores.specs.declared.store.Store as store
use Rattle.order.specs.View.{view}
use Rattle.engine.specs.declared.call.Call.{Call}
use Rattle.engine.specs.declared.call.Reply.{Reply}
use Rattle.engine.specs.declared.call.Turn.{Turn}
use Rattle.engine.specs.declared.engine.Engine.{Engine}
use Rattle.engine.specs.declared.refusal.Refusal.{Refusal}
use Rattle.engine.specs.Run.{One, RanNew, Promised, Settled}

module _ {S V : Type 0} (on : store.Ghosts S V) (of : element.Ghosts V) where
  -- one call leads from an engine to an engine, with its answer
  abbrev pub Led : Engine S → Call V → Result (Reply V) Refusal → Engine S → Type 0
  Led e k r f = One on.cells on.verdict on.took of.rest of.updated (view e.table) e.store k r (view f.table) f.store

  -- the turns lead from a new engine over the store s to the engine e
  abbrev pub LedNew : S → List (Turn V) → Engine S → Type 0
  LedNew s turns e = RanNew on.cells on.verdict on.took of.rest of.updated s turns (view e.table) e.store

  -- what is promised of the turns that led from a new engine over the store s to the engine e
  abbrev pub Keeps : S → List (Turn V) → Engine S → Type 0
  Keeps s turns e = Promised on.cells on.verdict on.took of.rest of.updated s turns (view e.table) e.store

  -- the same of whatever turns led to the engine from a new one over whatever store
  abbrev pub KeepsAll : Engine S → Type 0
  KeepsAll e = Settled on.cells on.verdict on.took of.rest of.updated (view e.table) e.store
