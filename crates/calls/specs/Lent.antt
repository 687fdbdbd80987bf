-- The engine's call that a written call lends.
-- Assumes nothing.
use Rattle.std.specs.Prelude.{◌≡◌, List, vec_items}
use Rattle.std.specs.Borrow.{Bor}
use Rattle.kinds.specs.declared.access.Access.{Access}
use Rattle.engine.specs.declared.call.Call.{Call}
use Rattle.engine.specs.declared.call.Call.TheVariants as engine
use Rattle.calls.specs.declared.written.Written.{Written}
use Rattle.calls.specs.declared.written.Written.TheVariants.{Create, Start, Finish, Wait, Resume, Release, Read, Write, Update, Look, Ready}

-- the same call over the same accesses; ready has room for all tasks that there can be
abbrev pub Lent : {E : Type 0} → Written E → Call E → Type 0
Lent (Create p waits accesses) k = (r : Bor (List Access)) × (r.now ≡ vec_items accesses) × (k ≡ engine.Create p waits r)
Lent (Start t) k = k ≡ engine.Start t
Lent (Finish t) k = k ≡ engine.Finish t
Lent (Wait t) k = k ≡ engine.Wait t
Lent (Resume t) k = k ≡ engine.Resume t
Lent (Release t lo hi) k = k ≡ engine.Release t lo hi
Lent (Read t c) k = k ≡ engine.Read t c
Lent (Write t c v) k = k ≡ engine.Write t c v
Lent (Update t c a) k = k ≡ engine.Update t c a
Lent (Look c) k = k ≡ engine.Look c
Lent Ready k = k ≡ engine.Ready 64
