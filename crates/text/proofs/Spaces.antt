-- Numbers after spaces: where one ends and the next begins, and that what is written is read.
use Rattle.std.proofs.Common.{◌≡◌, ℕ, suc, ◌<◌, Bool, true, false, cond, eqb, List, [], ◌∷◌, ◌++◌, length, get_or, take, drop, Some, None, decimal, sym, refl, ap, ◌∙◌, subst, append_assoc, append-nil, arith, length-append, ne_eqb, eqb-true}
use Rattle.std.proofs.lemmas.Fmt.{decimal_injective}
use Rattle.std.proofs.lemmas.List.{take-append-drop, nil_from_length}
use Rattle.text.specs.Form.{spaced, Small, AllSmall, DigitsRead, Writes, Next, Took}
use Rattle.text.specs.Lines.{up_to}
use Rattle.text.proofs.Decimals.{Figures, decimal_figures}

-- digits go up to what follows them
up_to_word : (ds rest : List ℕ) → Figures ds → Next rest → up_to 32 (ds ++ rest) ≡ length ds
up_to_word [] [] f n = refl
up_to_word [] (b ∷ rest) f n = rw n
up_to_word (d ∷ ds) rest f n = rw (ne_eqb d 32 (λ e. omega (arith, f.0.0, e))) (ap suc (up_to_word ds rest f.1 n))

next_after : (w : List ℕ) → Next (drop (up_to 32 w) w)
next_after [] = tt
next_after (b ∷ bs) = by_test (eqb b 32) refl (next_after bs)
  where
    by_test : (t : Bool) → eqb b 32 ≡ t → Next (drop (up_to 32 bs) bs) → Next (drop (cond (eqb b 32) 0 (suc (up_to 32 bs))) (b ∷ bs))
    by_test true e more = rw e (eqb-true b 32 e)
    by_test false e more = rw e more

take_front : (xs ys : List ℕ) → take (length xs) (xs ++ ys) ≡ xs
take_front [] ys = refl
take_front (x ∷ xs) ys = ap (λ l. x ∷ l) (take_front xs ys)

drop_front : (xs ys : List ℕ) → drop (length xs) (xs ++ ys) ≡ ys
drop_front [] ys = refl
drop_front (x ∷ xs) ys = drop_front xs ys

-- a word and what follows it are found again
found_again : (w : List ℕ) (n : ℕ) (rest : List ℕ) → Small n → Next rest → w ≡ decimal n ++ rest → (take (up_to 32 w) w ≡ decimal n) × (drop (up_to 32 w) w ≡ rest)
found_again w n rest small next e =
    let at : up_to 32 w ≡ length (decimal n) = ap (up_to 32) e ∙ up_to_word (decimal n) rest (decimal_figures n small) next in (
      ap (λ k. take k w) at ∙ ap (take (length (decimal n))) e ∙ take_front (decimal n) rest,
      ap (λ k. drop k w) at ∙ ap (drop (length (decimal n))) e ∙ drop_front (decimal n) rest,
    )

pub took_one : (bs : List ℕ) (n m : ℕ) (rest more : List ℕ) → Took bs n rest → Took bs m more → (n ≡ m) × (rest ≡ more)
took_one bs n m rest more p q =
    let a = found_again (drop 1 bs) n rest p.small p.next (ap (drop 1) p.whole) in
    let b = found_again (drop 1 bs) m more q.small q.next (ap (drop 1) q.whole) in
    (decimal_injective n m p.small q.small (sym a.0 ∙ b.0), sym a.1 ∙ b.1)

first_space : (bs : List ℕ) → 0 < length bs → get_or bs 0 0 ≡ 32 → bs ≡ 32 ∷ drop 1 bs
first_space [] some e = absurd (omega arith)
first_space (b ∷ bs) some e = ap (λ x. x ∷ bs) e

module _ (bs w : List ℕ) (k : ℕ) (digits rest : List ℕ) (inside : w ≡ drop 1 bs) (at : k ≡ up_to 32 w) (front : digits ≡ take k w) (back : rest ≡ drop k w) where
  pub took : (n : ℕ) → 0 < length bs → get_or bs 0 0 ≡ 32 → DigitsRead digits (Some n) → Took bs n rest
  took n some space read =
      record {
        small = read.0;
        whole = first_space bs some space ∙ ap (λ l. 32 ∷ l) (sym inside ∙ sym (take-append-drop k w) ∙ ap (λ l. l ++ drop k w) (sym front ∙ read.1) ∙ ap (λ l. decimal n ++ l) (sym back));
        next = subst Next (sym (back ∙ ap (λ i. drop i w) at)) (next_after w);
      }

  pub took_none : DigitsRead digits None → (n : ℕ) (more : List ℕ) → Took bs n more → ⊥
  took_none read n more p =
      read n p.small (front ∙ ap (λ i. take i w) at ∙ (found_again w n more p.small p.next (inside ∙ ap (drop 1) p.whole)).0)

next_spaced : (ns : List ℕ) → Next (spaced ns)
next_spaced [] = tt
next_spaced (n ∷ ns) = refl

-- what was read so far, and what is left: any writing of the whole goes on with a writing of the rest
pub record ReadingOn (bs ns rest : List ℕ) : Type 0 where
  pub small : AllSmall ns
  pub whole : bs ≡ spaced ns ++ rest
  pub only : (ms : List ℕ) → Writes bs ms → (more : List ℕ) × Writes rest more

small_push : (ns : List ℕ) (n : ℕ) → AllSmall ns → Small n → AllSmall (ns ++ (n ∷ []))
small_push [] n all one = (one, tt)
small_push (m ∷ ns) n all one = (all.0, small_push ns n all.1 one)

spaced_push : (ns : List ℕ) (n : ℕ) (more : List ℕ) → spaced ns ++ (32 ∷ (decimal n ++ more)) ≡ spaced (ns ++ (n ∷ [])) ++ more
spaced_push [] n more = ap (λ l. 32 ∷ (l ++ more)) (sym (append-nil (decimal n)))
spaced_push (m ∷ ns) n more =
    ap (λ l. 32 ∷ l) (append_assoc (decimal m) (spaced ns) (32 ∷ (decimal n ++ more)) ∙ ap (λ l. decimal m ++ l) (spaced_push ns n more) ∙ sym (append_assoc (decimal m) (spaced (ns ++ (n ∷ []))) more))

-- a writing of something begins with a number
written_first : (bs ms : List ℕ) → (length bs ≡ 0 → ⊥) → Writes bs ms → (m : ℕ) × (more : List ℕ) × (rest : List ℕ) × Took bs m rest × Writes rest more
written_first bs [] some w = absurd (some (ap length w.whole))
written_first bs (m ∷ ms) some w =
    (m, ms, spaced ms, record { small = w.small.0; whole = w.whole; next = next_spaced ms }, record { small = w.small.1; whole = refl })

pub took_shorter : (bs : List ℕ) (n : ℕ) (more : List ℕ) → Took bs n more → length more < length bs
took_shorter bs n more p = rw p.whole (simp length-append (omega arith))

-- another number read
pub reading_more : (bs ns rest : List ℕ) (n : ℕ) (more : List ℕ) → ReadingOn bs ns rest → Took rest n more → ReadingOn bs (ns ++ (n ∷ [])) more
reading_more bs ns rest n more r t =
    record {
      small = small_push ns n r.small t.small;
      whole = r.whole ∙ ap (λ l. spaced ns ++ l) t.whole ∙ spaced_push ns n more;
      only = λ ms w. goes_on (r.only ms w);
    }
  where
    goes_on : ((ms : List ℕ) × Writes rest ms) → (ms : List ℕ) × Writes more ms
    goes_on (ms, w) =
        let f = written_first rest ms (λ e. omega (arith, took_shorter rest n more t)) w in
        (f.1, subst (λ l. Writes l f.1) (took_one rest f.0 n f.2 more f.3 t).1 f.4)

pub reading_all : (bs ns rest : List ℕ) → ReadingOn bs ns rest → length rest ≡ 0 → Writes bs ns
reading_all bs ns rest r none =
    record { small = r.small; whole = r.whole ∙ ap (λ l. spaced ns ++ l) (nil_from_length rest none) ∙ append-nil (spaced ns) }

pub reading_bad : (bs ns rest : List ℕ) → ReadingOn bs ns rest → (length rest ≡ 0 → ⊥) → ((n : ℕ) (more : List ℕ) → Took rest n more → ⊥) → (ms : List ℕ) → Writes bs ms → ⊥
reading_bad bs ns rest r some bad ms w =
    let o = r.only ms w in let f = written_first rest o.0 some o.1 in bad f.0 f.2 f.3

-- where a number is left to read, there are bytes
pub reading_some : (bs ns rest : List ℕ) (n : ℕ) (more : List ℕ) → ReadingOn bs ns rest → Took rest n more → bs ≡ [] → ⊥
reading_some bs ns rest n more r t e =
    omega (arith, took_shorter rest n more t, ap length r.whole ∙ length-append (spaced ns) rest, ap length e)

-- what is written is written in one way
pub writes_one : (bs ns ms : List ℕ) → Writes bs ns → Writes bs ms → ns ≡ ms
writes_one bs [] [] p q = refl
writes_one bs [] (m ∷ ms) p q = let z : ◌≡◌ {A = ℕ} 0 (suc (length (decimal m ++ spaced ms))) = ap length (sym p.whole ∙ q.whole) in absurd (omega arith)
writes_one bs (n ∷ ns) [] p q = let z : ◌≡◌ {A = ℕ} 0 (suc (length (decimal n ++ spaced ns))) = ap length (sym q.whole ∙ p.whole) in absurd (omega arith)
writes_one bs (n ∷ ns) (m ∷ ms) p q =
    let a : Took bs n (spaced ns) = record { small = p.small.0; whole = p.whole; next = next_spaced ns } in
    let b : Took bs m (spaced ms) = record { small = q.small.0; whole = q.whole; next = next_spaced ms } in
    let same = took_one bs n m (spaced ns) (spaced ms) a b in
    let more = writes_one (spaced ns) ns ms (record { small = p.small.1; whole = refl }) (record { small = q.small.1; whole = same.1 }) in
    cc
