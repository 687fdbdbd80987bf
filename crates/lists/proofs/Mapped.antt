-- A run on one store is a run on another that shows the same values and verdicts.
-- Assumes nothing.
use Rattle.std.proofs.Common.{◌≡◌, ℕ, true, false, List, [], ◌∷◌, length, get_or, set, Ok, Err, Result, sym, refl, ap, ◌∙◌, subst}
use Rattle.order.specs.Questions.{all_yes, first_number}
use Rattle.order.specs.Tasks.{World, new, deeply_complete}
use Rattle.stores.specs.Fault.{Verdict}
use Rattle.promise.specs.Program.{program_order, Replays}
use Rattle.promise.specs.Promise.{GoesOn}
use Rattle.promise.specs.Runs.{all_questions, world, Replied}
use Rattle.engine.specs.declared.call.Call.{Call}
use Rattle.engine.specs.declared.call.Call.TheVariants.{Create, Start, Finish, Wait, Resume, Release, Read, Write, Update, Look, Ready}
use Rattle.engine.specs.declared.call.Reply.{Reply}
use Rattle.engine.specs.declared.call.Turn.{Turn}
use Rattle.engine.specs.declared.refusal.Refusal.{Refusal}
use Rattle.engine.specs.Numbers.{number_of}
use Rattle.engine.specs.Run.{shape, reply_of, is_open, verdict_on, Blames, history, Put, Stored, One, Ran, RanNew, Promised}

-- f gives the store that is seen for each store, with the same values and verdicts, and what a write makes of the one it makes of
-- the other
module _
    {S M V : Type 0}
    (cells : S → List V) (verdict : S → ℕ → Verdict) (took : S → ℕ → V → S → Type 0)
    (seen : M → List V) (judged : M → ℕ → Verdict) (moved : M → ℕ → V → M → Type 0)
    (rest : V) (updated : V → V → V)
    (f : S → M)
    (same : (s : S) → seen (f s) ≡ cells s)
    (judges : (s : S) (i : ℕ) → judged (f s) i ≡ verdict s i)
    (moves : (s : S) (i : ℕ) (v : V) (t : S) → took s i v t → moved (f s) i v (f t))
  where
    verdict_same : (s : S) (k : Call V) → verdict_on (judged (f s)) k ≡ verdict_on (verdict s) k
    verdict_same s (Create p waits accesses) = refl
    verdict_same s (Start t) = refl
    verdict_same s (Finish t) = refl
    verdict_same s (Wait t) = refl
    verdict_same s (Resume t) = refl
    verdict_same s (Release t lo hi) = refl
    verdict_same s (Read t c) = refl
    verdict_same s (Write t c v) = judges s c
    verdict_same s (Update t c a) = judges s c
    verdict_same s (Look c) = refl
    verdict_same s (Ready places) = refl

    put_mapped : (s : S) (c : ℕ) (v : V) (m : S) → Put cells verdict took rest updated s c v m → Put seen judged moved rest updated (f s) c v (f m)
    put_mapped s c v m (e, t) = (same m ∙ e ∙ ap (λ cs. set cs c v) (sym (same s)), moves s c v m t)

    stored_mapped : (s : S) (k : Call V) (m : S) → Stored cells verdict took rest updated s k m → Stored seen judged moved rest updated (f s) k (f m)
    stored_mapped s (Create p waits accesses) m e = ap f e
    stored_mapped s (Start t) m e = ap f e
    stored_mapped s (Finish t) m e = ap f e
    stored_mapped s (Wait t) m e = ap f e
    stored_mapped s (Resume t) m e = ap f e
    stored_mapped s (Release t lo hi) m e = ap f e
    stored_mapped s (Read t c) m e = ap f e
    stored_mapped s (Write t c v) m e = put_mapped s c v m e
    stored_mapped s (Update t c a) m e =
        let P : List V → Type 0 = λ cs. Put seen judged moved rest updated (f s) c (updated (get_or cs c rest) a) (f m) in
        subst P (sym (same s)) (put_mapped s c (updated (get_or (cells s) c rest) a) m e)
    stored_mapped s (Look c) m e = ap f e
    stored_mapped s (Ready places) m e = ap f e

    one_mapped : (w : World) (s : S) (k : Call V) (r : Result (Reply V) Refusal) (x : World) (m : S) → One cells verdict took rest updated w s k r x m → One seen judged moved rest updated w (f s) k r x (f m)
    one_mapped w s k (Ok r) x m (yes_all, made, replied, stored) =
        let P : Verdict → Type 0 = λ v. all_yes (all_questions w (is_open v) (shape k)) ≡ true in
        let Q : List V → Type 0 = λ cs. Replied rest updated w cs (shape k) (reply_of r) in (
          subst P (sym (verdict_same s k)) yes_all,
          made,
          subst Q (sym (same s)) replied,
          stored_mapped s k m stored,
        )
    one_mapped w s k (Err why) x m (not_all, first, blames, kept, left) =
        let P : Verdict → Type 0 = λ v. all_yes (all_questions w (is_open v) (shape k)) ≡ false in
        let Q : Verdict → Type 0 = λ v. first_number (all_questions w (is_open v) (shape k)) ≡ number_of why in
        let B : Verdict → Type 0 = λ v. Blames v why in (
          subst P (sym (verdict_same s k)) not_all,
          subst Q (sym (verdict_same s k)) first,
          subst B (sym (verdict_same s k)) blames,
          kept,
          ap f left,
        )

    ran_mapped : (w : World) (s : S) (turns : List (Turn V)) (x : World) (m : S) → Ran cells verdict took rest updated w s turns x m → Ran seen judged moved rest updated w (f s) turns x (f m)
    ran_mapped w s [] x m (e, d) = (e, ap f d)
    ran_mapped w s (e ∷ es) x m (v, n, one, more) =
        (v, f n, one_mapped w s e.call e.answer v n one, ran_mapped v n es x m more)

    -- the same run, from the store that is seen at first
    pub ran_seen : (s : S) (t : M) → f s ≡ t → (turns : List (Turn V)) (x : World) (m : S) → RanNew cells verdict took rest updated s turns x m → RanNew seen judged moved rest updated t turns x (f m)
    ran_seen s t is turns x m ran =
        let P : List V → Type 0 = λ cs. Ran seen judged moved rest updated (new (length cs)) (f s) turns x (f m) in
        let Q : M → Type 0 = λ u. RanNew seen judged moved rest updated u turns x (f m) in
        subst Q is (subst P (sym (same s)) (ran_mapped (new (length (cells s))) s turns x m ran))

    pub promised_seen : (s : S) (t : M) → f s ≡ t → (turns : List (Turn V)) (x : World) (m : S) → Promised cells verdict took rest updated s turns x m → Promised seen judged moved rest updated t turns x (f m)
    promised_seen s t is turns x m promised =
        let P : List V → Type 0 = λ cs. (x ≡ world (new (length cs)) (history rest turns)) × Replays rest updated cs (program_order (history rest turns)) (seen (f m)) × (deeply_complete x 0 ≡ false → GoesOn x) in
        let R : List V → Type 0 = λ cs. Replays rest updated (cells s) (program_order (history rest turns)) cs in
        let Q : M → Type 0 = λ u. Promised seen judged moved rest updated u turns x (f m) in
        subst Q is (subst P (sym (same s)) (promised.0, subst R (sym (same m)) promised.1, promised.2))
