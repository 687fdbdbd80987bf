-- Lists of writes: one more write, and what all of them leave or change.
use Rattle.std.proofs.Common.{◌≡◌, ℕ, zero, suc, ◌+◌, ◌<◌, List, [], ◌∷◌, ◌++◌, map, length, get_or, take, set, Ok, Err, Result, sym, refl, ap, ◌∙◌, subst, arith}
use Rattle.std.proofs.lemmas.List.{take_more_set}
use Rattle.std.specs.Result.{result_err}
use Rattle.stores.specs.declared.fault.Fault.{Fault}
use Rattle.stores.specs.Fault.{Verdict}
use Rattle.stores.specs.Store.{Wrote}
use Rattle.writes.specs.declared.turn.Turn.{Turn}
use Rattle.writes.specs.Writes.{Went, asked, changed, all_changed, Answered}

module _ {S V : Type 0} (cells : S → List V) (verdict : S → ℕ → Verdict) (took : S → ℕ → V → S → Type 0) where
  went_push : (s : S) (es : List (Turn V)) (m : S) (e : Turn V) (n : S) → Went cells verdict took s es m → Wrote cells verdict took m e.cell e.value e.answer n → Went cells verdict took s (es ++ e ∷ []) n
  went_push s [] m e n r st = let P : S → Type 0 = λ k. Wrote cells verdict took k e.cell e.value e.answer n in (n, subst P r st, refl)
  went_push s (q ∷ es) m e n r st = (r.0, r.1, went_push r.0 es m e n r.2 st)

  asked_kept : (es : List (Turn V)) (i : ℕ) (d e : Turn V) → i < length es → asked e ≡ asked (get_or es i d) → map asked (set es i e) ≡ map asked es
  asked_kept [] i d e lt same = refl
  asked_kept (q ∷ es) zero d e lt same = ap (λ p. p ∷ map asked es) same
  asked_kept (q ∷ es) (suc i) d e lt same = ap (λ ps. asked q ∷ ps) (asked_kept es i d e (omega arith) same)

  -- the turn at i is taken: e has its answer and asks for the same
  pub went_more : (s : S) (es : List (Turn V)) (ps : List (ℕ × V)) (i : ℕ) (m : S) (d e : Turn V) (n : S) → i < length es → e.cell ≡ (get_or es i d).cell → e.value ≡ (get_or es i d).value → Wrote cells verdict took m (get_or es i d).cell (get_or es i d).value e.answer n → Went cells verdict took s (take i es) m × (map asked es ≡ ps) → Went cells verdict took s (take (i + 1) (set es i e)) n × (map asked (set es i e) ≡ ps)
  went_more s es ps i m d e n lt ec ev st (r, k) =
      let same : asked e ≡ asked (get_or es i d) = λ j. (ec j, ev j) in
      let Q : ℕ × V → Type 0 = λ p. Wrote cells verdict took m p.0 p.1 e.answer n in
      let P : List (Turn V) → Type 0 = λ l. Went cells verdict took s l n in
      (subst P (sym (take_more_set es i e lt)) (went_push s (take i es) m e n r (subst Q (sym same) st)), asked_kept es i d e lt same ∙ k)

  -- what every accepted write leaves, a list of writes leaves
  pub went_kept : {M : Type 0} (measure : S → M) → ((s : S) (i : ℕ) (v : V) (t : S) → took s i v t → measure t ≡ measure s) → (s : S) (es : List (Turn V)) (t : S) → Went cells verdict took s es t → measure t ≡ measure s
  went_kept measure keeps s [] t r = ap measure r
  went_kept measure keeps s (e ∷ es) t (m, w, r) = went_kept measure keeps m es t r ∙ one e.answer w
    where
      one : (a : Result (Unit {0}) Fault) → Wrote cells verdict took s e.cell e.value a m → measure m ≡ measure s
      one (Ok u) w = keeps s e.cell e.value m w.2
      one (Err f) w = ap measure w.1

  -- what every accepted write changes in one way, a list of writes changes so
  module _ {M : Type 0} (measure : S → M) (step : M → ℕ → V → M) (moves : (s : S) (i : ℕ) (v : V) (t : S) → took s i v t → measure t ≡ step (measure s) i v) where
    wrote_changed : (s : S) (i : ℕ) (v : V) (a : Result (Unit {0}) Fault) (t : S) → Wrote cells verdict took s i v a t → measure t ≡ changed step (measure s) i v a
    wrote_changed s i v (Ok u) t w = moves s i v t w.2
    wrote_changed s i v (Err f) t w = ap measure w.1

    pub went_changed : (s : S) (es : List (Turn V)) (t : S) → Went cells verdict took s es t → measure t ≡ all_changed step (measure s) es
    went_changed s [] t r = ap measure r
    went_changed s (e ∷ es) t (m, w, r) = went_changed m es t r ∙ ap (λ n. all_changed step n es) (wrote_changed s e.cell e.value e.answer m w)

    -- where it decides the store's verdicts, each answer is that verdict
    module _ (rule : M → ℕ → Verdict) (agrees : (s : S) (i : ℕ) → verdict s i ≡ rule (measure s) i) where
      told : (s : S) (i : ℕ) (v : V) (a : Result (Unit {0}) Fault) (t : S) → Wrote cells verdict took s i v a t → result_err a ≡ rule (measure s) i
      told s i v (Ok u) t w = sym w.0 ∙ agrees s i
      told s i v (Err f) t w = sym w.0 ∙ agrees s i

      pub went_answered : (s : S) (es : List (Turn V)) (t : S) → Went cells verdict took s es t → Answered rule step (measure s) es
      went_answered s [] t r = tt
      went_answered s (e ∷ es) t (m, w, r) =
          let P : M → Type 0 = λ n. Answered rule step n es in
          (told s e.cell e.value e.answer m w, subst P (wrote_changed s e.cell e.value e.answer m w) (went_answered m es t r))
