-- The places that a store takes: reading and setting one of them.
use Rattle.std.proofs.Common.{◌≡◌, ℕ, ◌<◌, ◌≤◌, List, get_or, set, sym, ◌∙◌, arith, get_or-take}
use lib.Seq.{take-set-lt}
use Rattle.std.proofs.lemmas.List.{get_or_past, get_or_default}
use Rattle.stores.specs.Store.{most, reached, extent, reached_length}

module _ {A : Type 0} (places : List A) (i : ℕ) where
  pub reached_at : (d : A) → i < extent places → get_or (reached places) i d ≡ get_or places i d
  reached_at d h = get_or-take most places i d (omega arith)

  pub reached_read : (x d : A) → i < extent places → x ≡ get_or places i x → x ≡ get_or (reached places) i d
  reached_read x d h e = e ∙ get_or_default places i x d (omega arith) ∙ sym (reached_at d h)

  pub reached_set : (a : A) → i < extent places → reached (set places i a) ≡ set (reached places) i a
  reached_set a h = take-set-lt most places i a (omega arith)

  pub reached_past : (d : A) → extent places ≤ i → get_or (reached places) i d ≡ d
  reached_past d h = get_or_past (reached places) i d (rw reached_length h)
