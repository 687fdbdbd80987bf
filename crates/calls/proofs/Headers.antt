-- Bytes that begin with a header's word and a number are no other header.
use Rattle.std.proofs.Common.{◌≡◌, ℕ, ◌≤◌, List, [], ◌∷◌, ◌++◌, length, get_or, drop, sym, ap, ◌∙◌, arith}
use Rattle.calls.specs.declared.header.Header.{Header}
use Rattle.calls.specs.declared.header.Held.{Held}
use Rattle.calls.specs.declared.header.Held.TheVariants.{Count, Span}
use Rattle.text.specs.Form.{spaced, Took}
use Rattle.calls.specs.Header.{name_of, HeaderForm}
use Rattle.text.proofs.Spaces.{took_one}

tail_one : (k j : Held) (t u : List ℕ) → name_of k ++ t ≡ name_of j ++ u → t ≡ u
tail_one Count Count t u e = ap (drop 5) e
tail_one Count Span t u e = let z : ◌≡◌ {A = ℕ} 99 115 = ap (λ l. get_or l 0 0) e in absurd (omega arith)
tail_one Span Count t u e = let z : ◌≡◌ {A = ℕ} 115 99 = ap (λ l. get_or l 0 0) e in absurd (omega arith)
tail_one Span Span t u e = ap (drop 4) e

pub only_header : (front tail rest : List ℕ) (k : Held) (n : ℕ) → front ≡ name_of k ++ tail → Took tail n rest → (h : Header) → HeaderForm front h → (length rest ≡ 0) × (1 ≤ n) × (n ≤ 256)
only_header front tail rest k n begins took h form =
    let low = form.low in
    let high = form.high in
    let other : Took tail h.cells [] =
    record { small = omega arith; whole = tail_one k h.held tail (spaced (h.cells ∷ [])) (sym begins ∙ form.whole); next = tt } in
    let same = took_one tail n h.cells rest [] took other in
    (ap length same.1, omega arith, omega arith)
