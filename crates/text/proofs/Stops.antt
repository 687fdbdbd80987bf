-- What is known of a stop, of results made of options, and where memory was wanting.
use Rattle.std.proofs.Common.{◌≡◌, Some, None, Ok, Err, Option, Result, MatchOption, MatchResult, IfErr, ok_or, refl}
use Rattle.text.specs.declared.unread.Stop.{Stop}
use Rattle.text.specs.declared.unread.Stop.TheVariants.{No, Memory}
use Rattle.text.specs.declared.unread.Unread.{Unread}
use Rattle.text.specs.Unread.{Stopped, Wanting}

-- what holds anyway holds there
pub wanting_where : (s : Stop) (P : Type 0) → P → Wanting s P
wanting_where (No why) P p = tt
wanting_where (Memory error) P p = p

pub wanting_in : {A : Type 0} (r : Result A Stop) (P : Type 0) → P → IfErr r (λ s. Wanting s P)
wanting_in (Ok x) P p = tt
wanting_in (Err s) P p = wanting_where s P p

pub stopped_map : (s : Stop) (P Q : Unread → Type 0) → ((why : Unread) → P why → Q why) → Stopped s P → Stopped s Q
stopped_map (No why) P Q f p = f why p
stopped_map (Memory error) P Q f p = tt

-- the error that stands for a value that is not there
pub err_for_none : {A E : Type 0} (o : Option A) (e d : E) → o ≡ None → ◌≡◌ {A = Result A E} (Err d) (ok_or o e) → d ≡ e
err_for_none (Some x) e d none same = absurd cc
err_for_none None e d none same = cc

-- what is known of a value or of its absence is known of the result
pub ok_for_some : {A E : Type 0} (P : A → Type 0) (Q : Type 0) (o : Option A) (e : E) (r : Result A E) → MatchOption o Q P → r ≡ ok_or o e → MatchResult r P (λ why. (why ≡ e) × Q)
ok_for_some P Q (Some x) e r known same = rw same known
ok_for_some P Q None e r known same = rw same (refl, known)
