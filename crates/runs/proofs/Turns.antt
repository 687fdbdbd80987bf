-- One more turn at the end of a run.
-- Assumes nothing.
use Rattle.std.proofs.Common.{◌≡◌, ℕ, ◌+◌, ◌<◌, List, [], ◌∷◌, ◌++◌, map, length, get_or, take, set, sym, refl, ap, ◌∙◌, subst}
use Rattle.std.proofs.lemmas.List.{take_more_set, map-set, set-get_or, get_or-map}
use Rattle.order.specs.Tasks.{World}
use Rattle.stores.specs.Fault.{Verdict}
use Rattle.engine.specs.declared.call.Call.{Call}
use Rattle.engine.specs.declared.call.Turn.{Turn}
use Rattle.engine.specs.Run.{One, Ran}

-- another answer leaves the calls
calls_kept :
    {V : Type 0} (es : List (Turn V)) (i : ℕ) (d e : Turn V) →
    i < length es →
    e.call ≡ (get_or es i d).call →
    map (λ q. q.call) (set es i e) ≡ map (λ q. q.call) es
calls_kept {V} es i d e lt same =
    let call : Turn V → Call V = λ q. q.call in
    map-set call es i e
    ∙ ap (λ k. set (map call es) i k) (same ∙ sym (get_or-map call es i d (call d) lt))
    ∙ set-get_or (map call es) i (call d)

module _ {S V : Type 0} (cells : S → List V) (verdict : S → ℕ → Verdict) (took : S → ℕ → V → S → Type 0) (rest : V) (updated : V → V → V) where
  pub ran_push :
      (w : World) (s : S) (es : List (Turn V)) (v : World) (n : S) (e : Turn V) (x : World) (m : S) →
      Ran cells verdict took rest updated w s es v n →
      One cells verdict took rest updated v n e.call e.answer x m →
      Ran cells verdict took rest updated w s (es ++ e ∷ []) x m
  ran_push w s [] v n e x m (p, q) one =
      let P : World → Type 0 = λ u. One cells verdict took rest updated u n e.call e.answer x m in
      let Q : S → Type 0 = λ z. One cells verdict took rest updated w z e.call e.answer x m in
      (x, m, subst Q q (subst P p one), (refl, refl))
  ran_push w s (d ∷ es) v n e x m (u, z, first, more) one = (u, z, first, ran_push u z es v n e x m more one)

  -- the turn at i is taken: e has its call, and the answer
  pub ran_more :
      (w : World) (s : S) (es : List (Turn V)) (ks : List (Call V)) (i : ℕ) (v : World) (n : S) (d e : Turn V) (x : World) (m : S) →
      i < length es →
      e.call ≡ (get_or es i d).call →
      One cells verdict took rest updated v n (get_or es i d).call e.answer x m →
      Ran cells verdict took rest updated w s (take i es) v n × (map (λ q. q.call) es ≡ ks) →
      Ran cells verdict took rest updated w s (take (i + 1) (set es i e)) x m × (map (λ q. q.call) (set es i e) ≡ ks)
  ran_more w s es ks i v n d e x m lt same one (r, k) =
      let P : List (Turn V) → Type 0 = λ l. Ran cells verdict took rest updated w s l x m in
      let Q : Call V → Type 0 = λ q. One cells verdict took rest updated v n q e.answer x m in (
        subst P (sym (take_more_set es i e lt)) (ran_push w s (take i es) v n e x m r (subst Q (sym same) one)),
        calls_kept es i d e lt same ∙ k,
      )
