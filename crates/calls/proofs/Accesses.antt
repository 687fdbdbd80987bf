-- Reading accesses from numbers, three at a time.
use Rattle.std.proofs.Common.{◌≡◌, ℕ, ◌+◌, zero, suc, ◌*◌, ◌/◌, ◌<◌, ◌≤◌, List, [], ◌∷◌, ◌++◌, length, get_or, take, drop, sym, refl, ap, ◌∙◌, subst, arith, length-drop}
use Rattle.std.specs.Simd.{first_chunks}
use Rattle.std.proofs.lemmas.List.{length_push, drop-drop}
use Rattle.kinds.specs.declared.access.Access.{Access}
use Rattle.calls.specs.Calls.{access_numbers, AccessesFit}

-- what the accesses so far leave
pub record Taking (ns : List ℕ) (accesses : List Access) (rest : List ℕ) : Type 0 where
  pub whole : access_numbers accesses ++ rest ≡ ns
  pub to : AccessesFit ns → AccessesFit rest
  pub from : AccessesFit rest → AccessesFit ns
  pub count : 3 * length accesses + length rest ≡ length ns

access_push : (accesses : List Access) (a : Access) (rest : List ℕ) → access_numbers (accesses ++ (a ∷ [])) ++ rest ≡ access_numbers accesses ++ (a.lo ∷ (a.hi ∷ (a.code ∷ rest)))
access_push [] a rest = refl
access_push (x ∷ accesses) a rest = ap (λ l. x.lo ∷ (x.hi ∷ (x.code ∷ l))) (access_push accesses a rest)

-- chunk i of the numbers
chunk : (ns : List ℕ) (k i : ℕ) → i < k → get_or (first_chunks 3 k ns) i [] ≡ take 3 (drop (3 * i) ns)
chunk ns zero i lt = absurd (omega arith)
chunk ns (suc k) zero lt = refl
chunk ns (suc k) (suc i) lt =
    chunk (drop 3 ns) k i (omega arith) ∙ ap (take 3) (drop-drop (3 * i) 3 ns ∙ ap (λ j. drop j ns) (omega arith))

three : (ns : List ℕ) → 3 ≤ length ns → ns ≡ get_or (take 3 ns) 0 0 ∷ (get_or (take 3 ns) 1 0 ∷ (get_or (take 3 ns) 2 0 ∷ drop 3 ns))
three [] long = absurd (omega arith)
three (x ∷ []) long = absurd (omega arith)
three (x ∷ (y ∷ [])) long = absurd (omega arith)
three (x ∷ (y ∷ (z ∷ more))) long = refl

abbrev Begins : List ℕ → List ℕ → List ℕ → Type 0
Begins ns c more = ns ≡ get_or c 0 0 ∷ (get_or c 1 0 ∷ (get_or c 2 0 ∷ more))

-- what is left begins with the next chunk
chunk_next : (ns : List ℕ) (cs : List (List ℕ)) (i : ℕ) → cs ≡ first_chunks 3 (length ns / 3) ns → i < length ns / 3 → drop (3 * i) ns ≡ get_or (get_or cs i []) 0 0 ∷ (get_or (get_or cs i []) 1 0 ∷ (get_or (get_or cs i []) 2 0 ∷ drop (3 * (i + 1)) ns))
chunk_next ns cs i are lt =
    let here : get_or cs i [] ≡ take 3 (drop (3 * i) ns) = ap (λ l. get_or l i []) are ∙ chunk ns (length ns / 3) i lt in
    let at : 3 * i + 3 ≡ 3 * (i + 1) = omega arith in
    let after : drop 3 (drop (3 * i) ns) ≡ drop (3 * (i + 1)) ns = drop-drop 3 (3 * i) ns ∙ ap (λ j. drop j ns) at in
    subst (λ c. Begins (drop (3 * i) ns) c (drop (3 * (i + 1)) ns)) (sym here)
    (subst (Begins (drop (3 * i) ns) (take 3 (drop (3 * i) ns))) after (three (drop (3 * i) ns) (omega (arith, length-drop (3 * i) ns))))

module _ (ns : List ℕ) (cs : List (List ℕ)) (i : ℕ) (are : cs ≡ first_chunks 3 (length ns / 3) ns) (lt : i < length ns / 3) (accesses : List Access) (taking : Taking ns accesses (drop (3 * i) ns)) where
  -- the next chunk read
  pub taking_more : (a : Access) (now : List Access) → now ≡ accesses ++ (a ∷ []) → (a.lo ≡ get_or (get_or cs i []) 0 0) × (a.lo ≤ 65535) → (a.hi ≡ get_or (get_or cs i []) 1 0) × (a.hi ≤ 65535) → (a.code ≡ get_or (get_or cs i []) 2 0) × (a.code ≤ 255) → Taking ns now (drop (3 * (i + 1)) ns)
  taking_more a now pushed p q r =
      let begins : drop (3 * i) ns ≡ a.lo ∷ (a.hi ∷ (a.code ∷ drop (3 * (i + 1)) ns)) = let next = chunk_next ns cs i are lt in cc in
      rw pushed
      (record {
        whole = access_push accesses a (drop (3 * (i + 1)) ns) ∙ ap (λ l. access_numbers accesses ++ l) (sym begins) ∙ taking.whole;
        to = λ fits. (subst AccessesFit begins (taking.to fits)).3;
        from = λ fits. taking.from (subst AccessesFit (sym begins) (p.1, q.1, r.1, fits));
        count =
            let long : length (drop (3 * i) ns) ≡ 3 + length (drop (3 * (i + 1)) ns) = ap length begins ∙ omega arith in
            let pushed = length_push accesses a in
            omega (arith, taking.count);
      })

  -- the next chunk refused
  pub taking_no : ((get_or (get_or cs i []) 0 0 ≤ 65535) × (get_or (get_or cs i []) 1 0 ≤ 65535) × (get_or (get_or cs i []) 2 0 ≤ 255) → ⊥) → AccessesFit ns → ⊥
  taking_no never fits = let f = subst AccessesFit (chunk_next ns cs i are lt) (taking.to fits) in never (f.0, f.1, f.2)
