-- Numbers that are written one after the other.
-- Assumes nothing.
use Rattle.std.proofs.Common.{◌≡◌, ℕ, List, [], ◌∷◌, ◌++◌, length, get_or, map, Some, None, decimal, Option, Result, sym, refl, ap, ◌∙◌, inl, inr, append_assoc, arith}
use Rattle.std.proofs.lemmas.Bool.{cases_eq}
use Rattle.std.proofs.lemmas.Iterator.{YieldsList}
use Rattle.std.proofs.lemmas.List.FromFn.{fill_by_all}
use Rattle.std.proofs.Output.{has_written_append}
use Rattle.std.specs.declared.fmt.Error.{Error}
use Rattle.std.specs.declared.fmt.Formatter.{Formatter}
use Rattle.std.specs.Fmt.{HasWritten, WritesOnOk}
use Rattle.std.specs.Iterator.{AlwaysYields}
use Rattle.std.specs.List.{range_with_len}
use Rattle.std.specs.Result.{IsOk}
use Rattle.text.specs.Form.{spaced}

pub spaced_append : (ms ns : List ℕ) → spaced (ms ++ ns) ≡ spaced ms ++ spaced ns
spaced_append [] ns = refl
spaced_append (m ∷ ms) ns =
    ap (λ bs. 32 ∷ (decimal m ++ bs)) (spaced_append ms ns) ∙ ap (λ bs. 32 ∷ bs) (sym (append_assoc (decimal m) (spaced ms) (spaced ns)))

-- a word, and after it the numbers that an iterator gives
pub word_then :
    {W S : Type 0} {took : W → List ℕ → W → Type 0} {steps : S → Option ℕ → S → Type 0} {s : S} (f g h : Formatter W) (r : Result (Unit {0}) Error) (word ns : List ℕ) →
    HasWritten took f word g →
    ((ms : List ℕ) → AlwaysYields steps (λ n. n) s ms → WritesOnOk took g r (spaced ms) h) →
    YieldsList steps (λ n. n) s ns →
    IsOk r →
    HasWritten took f (word ++ spaced ns) h
word_then f g h r word ns before says gives ok = has_written_append _ f word g (spaced ns) h before (says ns gives.runs before.plain ok)

-- a value is written by as many numbers as the width says: no other list makes it
pub as_many : {V : Type 0} (numbers : V → List ℕ) (from : List ℕ → Option V) (width : ℕ) → ((v : V) → from (numbers v) ≡ Some v) → ((ns : List ℕ) → (length ns ≡ width → ⊥) → from ns ≡ None) → (v : V) → length (numbers v) ≡ width
as_many numbers from width regained sized v =
    elim (cases_eq (length (numbers v)) width) [
      | inl e ↦ e
      | inr ne ↦ let p = sized (numbers v) ne in let q = regained v in let z : ◌≡◌ {A = ℕ} 0 1 = cc in omega arith
    ]

-- the numbers at all places are the list
pub by_place : (ns : List ℕ) (n : ℕ) → length ns ≡ n → map (λ i. get_or ns i 0) (range_with_len 0 n) ≡ ns
by_place ns n e = sym (fill_by_all (λ i. get_or ns i 0) ns n 0 e (λ k h. refl))
