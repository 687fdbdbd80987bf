-- One line more after those that are written.
-- Assumes nothing.
use Rattle.std.proofs.Common.{◌≡◌, ℕ, ◌+◌, ◌<◌, List, [], ◌∷◌, ◌++◌, length, get_or, take, sym, refl, ap, ◌∙◌, append_assoc, append-nil}
use Rattle.std.proofs.lemmas.List.{take_more}
use Rattle.engine.specs.declared.call.Turn.{Turn}
use Rattle.answers.specs.Writing.{line_of, lines_of}

module _ {V : Type 0} (numbers : V → List ℕ) where
  pub lines_append : (ds es : List (Turn V)) → lines_of numbers (ds ++ es) ≡ lines_of numbers ds ++ lines_of numbers es
  lines_append [] es = refl
  lines_append (d ∷ ds) es =
      ap (λ bs. line_of numbers d.answer ++ bs) (lines_append ds es) ∙ sym (append_assoc (line_of numbers d.answer) (lines_of numbers ds) (lines_of numbers es))

  -- the text s has the lines of the first i turns after b, and t has the line of the turn e more
  pub line_more : (b s t : List ℕ) (turns : List (Turn V)) (i : ℕ) (e : Turn V) → i < length turns → e ≡ get_or turns i e → s ≡ b ++ lines_of numbers (take i turns) → t ≡ s ++ line_of numbers e.answer → t ≡ b ++ lines_of numbers (take (i + 1) turns)
  line_more b s t turns i e h here before now_is =
      let f : lines_of numbers (take (i + 1) turns) ≡ lines_of numbers (take i turns) ++ (line_of numbers e.answer ++ []) =
      ap (lines_of numbers) (take_more turns i e h) ∙ lines_append (take i turns) (get_or turns i e ∷ []) ∙ ap (λ d. lines_of numbers (take i turns) ++ (line_of numbers d.answer ++ [])) (sym here) in
      let k : line_of numbers e.answer ++ [] ≡ line_of numbers e.answer = append-nil _ in
      let j : (b ++ lines_of numbers (take i turns)) ++ line_of numbers e.answer ≡ b ++ (lines_of numbers (take i turns) ++ line_of numbers e.answer) = append_assoc b _ _ in
      cc
