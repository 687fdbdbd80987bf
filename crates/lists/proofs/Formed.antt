-- A text is read to its end just where it is the writing of calls.
-- Assumes nothing.
use Rattle.std.proofs.Common.{◌≡◌, ℕ, suc, ◌+◌, List, [], ◌∷◌, ◌++◌, length, take, drop, Some, None, decimal, Option, sym, refl, ap, ◌∙◌, append_assoc, arith, ne_eqb}
use Rattle.std.proofs.lemmas.List.{take-append-drop}
use Rattle.calls.specs.declared.letter.Letter.{Letter}
use Rattle.calls.specs.declared.letter.Letter.TheVariants.{Create, Start, Finish, Wait, Resume, Release, Read, Write, Update, Look, Ready}
use Rattle.calls.specs.declared.written.Written.{Written}
use Rattle.calls.specs.Calls.{byte_of, letter_of, numbers_of, line_with, writing}
use Rattle.text.specs.Form.{spaced, AllSmall}
use Rattle.text.specs.Lines.{up_to, line_of, after_line}
use Rattle.text.proofs.Decimals.{Figures, decimal_figures}
use Rattle.lists.specs.declared.listing.BadLine.{BadLine}
use Rattle.lists.specs.Reading.{writings, AllRight, HasForm, CallsRead}

-- no byte is the end of a line
abbrev Inner : List ℕ → Type 0
Inner [] = Unit {0}
Inner (b ∷ bs) = (b ≡ 10 → ⊥) × Inner bs

inner_append : (xs ys : List ℕ) → Inner xs → Inner ys → Inner (xs ++ ys)
inner_append [] ys a b = b
inner_append (x ∷ xs) ys (h, a) b = (h, inner_append xs ys a b)

inner_figures : (ds : List ℕ) → Figures ds → Inner ds
inner_figures [] f = tt
inner_figures (d ∷ ds) (i, f) = ((λ e. omega (arith, i.0, e)), inner_figures ds f)

inner_spaced : (ns : List ℕ) → AllSmall ns → Inner (spaced ns)
inner_spaced [] small = tt
inner_spaced (n ∷ ns) (s, small) =
    ((λ e. omega arith), inner_append (decimal n) (spaced ns) (inner_figures (decimal n) (decimal_figures n s)) (inner_spaced ns small))

inner_letter : (l : Letter) → byte_of l ≡ 10 → ⊥
inner_letter Create e = omega arith
inner_letter Start e = omega arith
inner_letter Finish e = omega arith
inner_letter Wait e = omega arith
inner_letter Resume e = omega arith
inner_letter Release e = omega arith
inner_letter Read e = omega arith
inner_letter Write e = omega arith
inner_letter Update e = omega arith
inner_letter Look e = omega arith
inner_letter Ready e = omega arith

ends_at : (front more : List ℕ) → Inner front → up_to 10 (front ++ (10 ∷ more)) ≡ length front
ends_at [] more a = refl
ends_at (b ∷ front) more (h, a) = rw (ne_eqb b 10 h) (ap suc (ends_at front more a))

front_taken : (front more : List ℕ) → take (suc (length front)) (front ++ (10 ∷ more)) ≡ front ++ (10 ∷ [])
front_taken [] more = refl
front_taken (b ∷ front) more = ap (λ l. b ∷ l) (front_taken front more)

front_dropped : (front more : List ℕ) → drop (suc (length front)) (front ++ (10 ∷ more)) ≡ more
front_dropped [] more = refl
front_dropped (b ∷ front) more = front_dropped front more

-- a line that is written is the line that is taken, and leaves what follows it
module _ (l : Letter) (ns more : List ℕ) (small : AllSmall ns) where
  front : List ℕ
  front = byte_of l ∷ spaced ns

  parted : line_with l ns ++ more ≡ front ++ (10 ∷ more)
  unfolding front
  parted = ap (λ bs. byte_of l ∷ bs) (append_assoc (spaced ns) (10 ∷ []) more)

  ended : up_to 10 (line_with l ns ++ more) ≡ length front
  unfolding front
  ended = ap (up_to 10) parted ∙ ends_at front more (inner_letter l, inner_spaced ns small)

  line_again : line_of (line_with l ns ++ more) ≡ line_with l ns
  unfolding front
  line_again = ap (λ k. take (suc k) (line_with l ns ++ more)) ended ∙ ap (take (suc (length front))) parted ∙ front_taken front more

  after_again : after_line (line_with l ns ++ more) ≡ more
  unfolding front
  after_again = ap (λ k. drop (suc k) (line_with l ns ++ more)) ended ∙ ap (drop (suc (length front))) parted ∙ front_dropped front more

module _ {E : Type 0} (value_numbers : E → List ℕ) (width : ℕ) (made : List ℕ → Option E) where
  form_whole : (n : ℕ) (text : List ℕ) (ws : List (Written E)) → CallsRead value_numbers width made n text ws None → HasForm value_numbers width made text ws None
  form_whole n text [] e = (tt, e)
  form_whole n text (w ∷ ws) (some, r, more) =
      let rest = form_whole (n + 1) (after_line text) ws more in (
        (r.right, rest.0),
        sym (take-append-drop (suc (up_to 10 text)) text) ∙ ap (λ l. l ++ after_line text) r.whole ∙ ap (λ l. writing value_numbers w ++ l) rest.1,
      )

  form_broken : (n : ℕ) (text : List ℕ) (ws : List (Written E)) (bad : BadLine) → CallsRead value_numbers width made n text ws (Some bad) → (vs : List (Written E)) → AllRight value_numbers width made vs → text ≡ writings value_numbers width made vs → ⊥
  form_broken n text [] bad (some, at, never) [] right e = some e
  form_broken n text [] bad (some, at, never) (v ∷ vs) (r, right) e =
      never.none v
      (record {
        whole = ap line_of e ∙ line_again (letter_of v) (numbers_of value_numbers v) (writings value_numbers width made vs) r.small;
        right = r;
      })
  form_broken n text (w ∷ ws) bad (some, read, more) [] right e = some e
  form_broken n text (w ∷ ws) bad (some, read, more) (v ∷ vs) (r, right) e =
      form_broken (n + 1) (after_line text) ws bad more vs right
      (ap after_line e ∙ after_again (letter_of v) (numbers_of value_numbers v) (writings value_numbers width made vs) r.small)

  pub form_read : (n : ℕ) (text : List ℕ) (ws : List (Written E)) (bad : Option BadLine) → CallsRead value_numbers width made n text ws bad → HasForm value_numbers width made text ws bad
  form_read n text ws None read = form_whole n text ws read
  form_read n text ws (Some bad) read = form_broken n text ws bad read
