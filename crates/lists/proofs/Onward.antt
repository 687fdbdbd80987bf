-- One line more of those that are read.
-- Assumes nothing.
use Rattle.std.proofs.Common.{◌≡◌, ℕ, suc, ◌+◌, ◌<◌, ◌≤◌, true, false, cond, not, eqb, List, [], ◌∷◌, ◌++◌, length, Some, Option, sym, refl, ap, ◌∙◌, subst, append_assoc, append-nil, arith, length-drop, ne_eqb}
use Rattle.std.proofs.lemmas.List.{length_push}
use Rattle.text.specs.declared.unread.Unread.{Unread}
use Rattle.calls.specs.declared.written.Written.{Written}
use Rattle.calls.specs.Calls.{CallRead, NoCall}
use Rattle.text.specs.Lines.{up_to, line_of, after_line}
use Rattle.lists.specs.declared.listing.BadLine.{BadLine}
use Rattle.lists.specs.Reading.{CallsRead}

-- what follows a line is shorter than what it stands in
pub after_shorter : (text : List ℕ) → (text ≡ [] → ⊥) → length (after_line text) < length text
after_shorter [] some = absurd (some refl)
after_shorter (b ∷ bs) some = omega (arith, length-drop (suc (up_to 10 (b ∷ bs))) (b ∷ bs))

pub after_fits : (text : List ℕ) → length (after_line text) ≤ length text
after_fits text = omega (arith, length-drop (suc (up_to 10 text)) text)

pub some_tested : (text : List ℕ) → true ≡ not (eqb (length text) 0) → text ≡ [] → ⊥
some_tested [] e q = let z : ◌≡◌ {A = ℕ} 0 1 = ap (λ b. cond b 1 0) (sym e) in omega arith
some_tested (b ∷ bs) e q = let z : ◌≡◌ {A = ℕ} (suc (length bs)) 0 = ap length q in omega arith

pub none_tested : (text : List ℕ) → false ≡ not (eqb (length text) 0) → text ≡ []
none_tested [] e = refl
none_tested (b ∷ bs) e =
    let z : eqb (length (b ∷ bs)) 0 ≡ false = ne_eqb (length (b ∷ bs)) 0 (λ q. omega arith) in
    let y : ◌≡◌ {A = ℕ} 0 1 = ap (λ t. cond t 1 0) (e ∙ ap not z) in
    absurd (omega arith)

module _ {E : Type 0} (value_numbers : E → List ℕ) (width : ℕ) (made : List ℕ → Option E) where
  -- whatever the rest of the text reads as, after a line for each call so far, the whole text reads as these calls and then that
  abbrev pub SoFar : List ℕ → List (Written E) → List ℕ → Type 0
  SoFar text ws rest =
      (more : List (Written E)) (bad : Option BadLine) →
      CallsRead value_numbers width made (length ws + 2) rest more bad →
      CallsRead value_numbers width made 2 text (ws ++ more) bad

  pub so_far_more : (text : List ℕ) (ws vs : List (Written E)) (w : Written E) (rest line next : List ℕ) → (rest ≡ [] → ⊥) → line ≡ line_of rest → next ≡ after_line rest → CallRead value_numbers width made line w → vs ≡ ws ++ w ∷ [] → SoFar text ws rest → SoFar text vs next
  so_far_more text ws vs w rest line next some is left read pushed so_far more bad r =
      let P : List ℕ → Type 0 = λ l. CallRead value_numbers width made l w in
      let N : ℕ → Type 0 = λ n. CallsRead value_numbers width made n next more bad in
      let R : List ℕ → Type 0 = λ l. CallsRead value_numbers width made (length ws + 2 + 1) l more bad in
      let T : List (Written E) → Type 0 = λ l. CallsRead value_numbers width made 2 text l bad in
      let number : length vs + 2 ≡ length ws + 2 + 1 = omega (arith, ap length pushed ∙ length_push ws w) in
      subst T (sym (append_assoc ws (w ∷ []) more) ∙ ap (λ l. l ++ more) (sym pushed))
      (so_far (w ∷ more) bad (some, subst P is read, subst R left (subst N number r)))

  pub so_far_all : (text : List ℕ) (ws : List (Written E)) (rest : List ℕ) (bad : Option BadLine) → SoFar text ws rest → CallsRead value_numbers width made (length ws + 2) rest [] bad → CallsRead value_numbers width made 2 text ws bad
  so_far_all text ws rest bad so_far r =
      let T : List (Written E) → Type 0 = λ l. CallsRead value_numbers width made 2 text l bad in
      subst T (append-nil ws) (so_far [] bad r)

  pub stopped_at : (m n : ℕ) (rest line : List ℕ) (why : Unread) → n ≡ m → (rest ≡ [] → ⊥) → line ≡ line_of rest → NoCall value_numbers width made line why → CallsRead value_numbers width made m rest [] (Some (record { line = n; why = why }))
  stopped_at m n rest line why numbered some is refused =
      let P : List ℕ → Type 0 = λ l. NoCall value_numbers width made l why in (some, numbered, subst P is refused)
