-- The last byte of a line.
use Rattle.std.proofs.Common.{◌≡◌, ℕ, ◌+◌, ◌-◌, ◌<◌, List, [], ◌∷◌, ◌++◌, length, get_or, take, sym, ap, ◌∙◌, arith}
use Rattle.std.proofs.lemmas.List.{take_more, take_all, length_push, get_or_push}

pub last_split : (xs : List ℕ) (b : ℕ) → 0 < length xs → get_or xs (length xs - 1) 0 ≡ b → xs ≡ take (length xs - 1 - 0) xs ++ (b ∷ [])
last_split xs b some e =
    let i : ℕ = length xs - 1 in
    let more = take_more xs i 0 (omega arith) in
    let whole = take_all (i + 1) xs (omega arith) in
    let same : length xs - 1 - 0 ≡ i = omega arith in
    sym whole ∙ more ∙ ap (λ x. take i xs ++ (x ∷ [])) e ∙ ap (λ k. take k xs ++ (b ∷ [])) (sym same)

pub last_of : (xs f : List ℕ) (b : ℕ) → xs ≡ f ++ (b ∷ []) → (0 < length xs) × (get_or xs (length xs - 1) 0 ≡ b)
last_of xs f b e =
    let long : length xs ≡ length f + 1 = ap length e ∙ length_push f b in
    let at : length f ≡ length xs - 1 = omega arith in
    (omega arith, ap (λ l. get_or l (length xs - 1) 0) e ∙ get_or_push f b 0 (length xs - 1) at)
