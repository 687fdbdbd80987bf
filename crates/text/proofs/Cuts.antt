-- Steps of a search for a byte, and what a cut at its place leaves.
use Rattle.std.proofs.Common.{◌≡◌, ℕ, zero, suc, ◌+◌, ◌<◌, ◌≤◌, Bool, true, false, cond, eqb, List, [], ◌∷◌, ◌++◌, length, get_or, min, take, drop, position, not, ltb, Some, None, Option, sym, refl, ap, ◌∙◌, subst, arith, eqb-true}
use Rattle.std.specs.Prelude.{unwrap_or}
use Rattle.std.specs.List.{position_or_len}
use Rattle.std.proofs.lemmas.List.Sums.{prefix_len-le-length}
use Rattle.std.proofs.Math.Numerals.{one-add}
use Rattle.std.proofs.lemmas.List.Recursion.{is_position_or_len}
use borrow.Author.Tests.{eqb-false}
use Rattle.std.proofs.lemmas.List.{take-append-drop, take_min, drop_min}
use Rattle.text.specs.Lines.{up_to, line_of, after_line, Cut}

place_or : (k n : ℕ) → k ≤ n → unwrap_or (cond (ltb k n) (Some k) None) n ≡ k
place_or k n within = grind arith

pub up_to_found : (b : ℕ) (bs : List ℕ) (r : Option ℕ) (n : ℕ) → r ≡ position (λ x. eqb x b) bs → n ≡ unwrap_or r (length bs) → n ≡ up_to b bs
up_to_found b bs r n found e =
    let place : up_to b bs ≡ position_or_len (λ x. eqb x b) bs = is_position_or_len (up_to b) (λ x. eqb x b) refl (λ x xs. rw one-add refl) bs in
    let within = prefix_len-le-length (λ x. not (eqb x b)) bs in
    e ∙ ap (λ o. unwrap_or o (length bs)) found ∙ place_or _ _ within ∙ sym place

line_cons : (x : ℕ) (xs : List ℕ) (t : Bool) → eqb x 10 ≡ t → line_of (x ∷ xs) ≡ x ∷ cond t [] (line_of xs)
line_cons x xs true e = rw e
line_cons x xs false e = rw e

after_cons : (x : ℕ) (xs : List ℕ) (t : Bool) → eqb x 10 ≡ t → after_line (x ∷ xs) ≡ cond t xs (after_line xs)
after_cons x xs true e = rw e
after_cons x xs false e = rw e

abbrev Inner : List ℕ → Type 0
Inner line = (k : ℕ) → k < length line → get_or line k 0 ≡ 10 → k + 1 ≡ length line

inner_cons : (x : ℕ) (l : List ℕ) → (x ≡ 10 → ⊥) → Inner l → Inner (x ∷ l)
inner_cons x l other i zero h e = omega (arith, other e)
inner_cons x l other i (suc k) h e = omega (arith, i k (omega arith) e)

inner : (bs : List ℕ) → Inner (line_of bs)
inner [] = λ k h e. omega arith
inner (x ∷ xs) = by_test (eqb x 10) refl (inner xs)
  where
    by_test : (t : Bool) → eqb x 10 ≡ t → Inner (line_of xs) → Inner (line_of (x ∷ xs))
    by_test true e more = subst Inner (sym (line_cons x xs true e)) (λ k h q. omega arith)
    by_test false e more = subst Inner (sym (line_cons x xs false e)) (inner_cons x (line_of xs) (eqb-false _ _ e) more)

abbrev Ended : List ℕ → List ℕ → Type 0
Ended line rest = (rest ≡ [] → ⊥) → (front : List ℕ) × (line ≡ front ++ (10 ∷ []))

ended : (bs : List ℕ) → Ended (line_of bs) (after_line bs)
ended [] = λ some. absurd (some refl)
ended (x ∷ xs) = by_test (eqb x 10) refl (ended xs)
  where
    by_test : (t : Bool) → eqb x 10 ≡ t → Ended (line_of xs) (after_line xs) → Ended (line_of (x ∷ xs)) (after_line (x ∷ xs))
    by_test true e more some = ([], line_cons x xs true e ∙ ap (λ b. b ∷ []) (eqb-true x 10 e))
    by_test false e more some =
        let found = more (λ none. some (after_cons x xs false e ∙ none)) in
        (x ∷ found.0, line_cons x xs false e ∙ ap (λ l. x ∷ l) found.1)

pub cut_line : (bs : List ℕ) → Cut bs (line_of bs) (after_line bs)
cut_line bs = record { whole = take-append-drop (suc (up_to 10 bs)) bs; inner = inner bs; ends = ended bs }

-- the same at a line's length as it is found
pub cut_at : (bs line rest : List ℕ) (n : ℕ) → n ≡ min (suc (up_to 10 bs)) (length bs) → line ≡ take n bs → rest ≡ drop n bs → (line ≡ line_of bs) × (rest ≡ after_line bs) × Cut bs line rest
cut_at bs line rest n e p q =
    let front : line ≡ line_of bs = p ∙ ap (λ k. take k bs) e ∙ take_min (suc (up_to 10 bs)) bs in
    let back : rest ≡ after_line bs = q ∙ ap (λ k. drop k bs) e ∙ drop_min (suc (up_to 10 bs)) bs in
    (front, back, rw front (rw back (cut_line bs)))
