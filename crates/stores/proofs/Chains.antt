-- What a write does to the cells of a chain store.
use Rattle.std.proofs.Common.{◌≡◌, ℕ, zero, suc, ◌+◌, ◌-◌, ◌<◌, ◌≤◌, ◌≢◌, List, [], ◌∷◌, ◌++◌, map, length, get_or, take, drop, set, replicate, refl, ap, ◌∙◌, ⊎_elim, append-nil, add-one, arith, take_all, get_or-set_other, get_or-set_same, take_at}
use lib.ListN.{length-map, length-replicate}
use lib.Seq.{map-set}
use Rattle.std.proofs.lemmas.List.{drop_all}
use Rattle.std.proofs.lemmas.Bool.{cases_lt}
use Rattle.stores.specs.declared.record.Record.{Record}
use Rattle.stores.specs.Store.{most, reached, extent}
use Rattle.stores.specs.Chain.{Sound, record_value, head_values, cleared, Linked}
use Rattle.stores.proofs.Reached.{reached_set}

pub head_value_at : {V : Type 0} (rest : V) (rs : List (Record V)) (hs : List ℕ) (i : ℕ) → get_or (head_values rest rs hs) i rest ≡ record_value rest rs (get_or hs i 0)
unfolding head_values
head_value_at rest rs [] i = refl
head_value_at rest rs (h ∷ hs) zero = refl
head_value_at rest rs (h ∷ hs) (suc i) = head_value_at rest rs hs i

module _ {V : Type 0} (rest : V) (rs : List (Record V)) (u : ℕ) (r : Record V) where
  value_kept : (h : ℕ) → h ≤ u → record_value rest (set rs u r) h ≡ record_value rest rs h
  value_kept zero le = refl
  value_kept (suc k) le = let ne : k ≢ u = omega arith in ap (λ vs. get_or vs k rest) (map-set (λ q. q.value) rs u r) ∙ get_or-set_other _ u k _ rest ne

  values_kept : (hs : List ℕ) → ((k : ℕ) → get_or hs k 0 ≤ u) → head_values rest (set rs u r) hs ≡ head_values rest rs hs
  unfolding head_values
  values_kept [] all = refl
  values_kept (h ∷ hs) all = let at : h ≤ u = all 0 in
      let more : (k : ℕ) → get_or hs k 0 ≤ u = λ k. all (suc k) in
      let head = value_kept h at in let tail = values_kept hs more in cc

  value_new : u < length rs → record_value rest (set rs u r) (u + 1) ≡ r.value
  value_new lt = let long : u < length (map (λ q. q.value) rs) = simp length-map lt in
      rw add-one (ap (λ vs. get_or vs u rest) (map-set (λ q. q.value) rs u r) ∙ get_or-set_same _ u _ rest long)

  -- the record after the last used one becomes the head of the cell i
  pub values_written : (hs : List ℕ) (i : ℕ) → ((k : ℕ) → get_or hs k 0 ≤ u) → u < length rs → head_values rest (set rs u r) (set hs i (u + 1)) ≡ set (head_values rest rs hs) i r.value
  unfolding head_values
  values_written hs i all lt = map-set (record_value rest (set rs u r)) hs i (u + 1) ∙ ap (λ v. set (head_values rest (set rs u r) hs) i v) (value_new lt) ∙ ap (λ cs. set cs i r.value) (values_kept hs all)

-- so does a write that links a record
pub linked_values : {V : Type 0} (rest : V) (hs : List ℕ) (rs : List (Record V)) (u i : ℕ) (v : V) (hs' : List ℕ) (rs' : List (Record V)) (u' : ℕ) → ((k : ℕ) → get_or (reached hs) k 0 ≤ u) → i < extent hs → u < length rs → Linked hs rs u i v hs' rs' u' → head_values rest rs' (reached hs') ≡ set (head_values rest rs (reached hs)) i v
linked_values rest hs rs u i v hs' rs' u' all h lt (eh, er, eu) =
    ap (λ l. head_values rest rs' (reached l)) eh
    ∙ ap (λ l. head_values rest l (reached (set hs i (u + 1)))) er
    ∙ ap (head_values rest (set rs u (record { value = v; next = get_or hs i 0 }))) (reached_set hs i (u + 1) h)
    ∙ values_written rest rs u (record { value = v; next = get_or hs i 0 }) (reached hs) i all lt

heads_below : (hs : List ℕ) (u i : ℕ) → ((k : ℕ) → get_or hs k 0 ≤ u) → (k : ℕ) → get_or (set hs i (u + 1)) k 0 ≤ u + 1
heads_below [] u i all k = omega arith
heads_below (h ∷ hs) u zero all zero = omega arith
heads_below (h ∷ hs) u zero all (suc k) = omega (arith, all (suc k))
heads_below (h ∷ hs) u (suc i) all zero = omega (arith, all zero)
heads_below (h ∷ hs) u (suc i) all (suc k) = heads_below hs u i (λ j. all (suc j)) k

-- with one record more used, and made the head of the cell i
pub sound_written : (hs : List ℕ) (u m i : ℕ) → Sound (reached hs) u m → u < m → i < extent hs → Sound (reached (set hs i (u + 1))) (u + 1) m
sound_written hs u m i s lt h = (omega arith, rw (reached_set hs i (u + 1) h) (heads_below (reached hs) u i s.1))

pub record_value_at : {V : Type 0} (rest : V) (rs : List (Record V)) (n : ℕ) → (n ≡ 0 → ⊥) → record_value rest rs n ≡ get_or (map (λ r. r.value) rs) (n - 1) rest
record_value_at rest rs zero h = absurd (h refl)
record_value_at rest rs (suc k) h = let e : k ≡ suc k - 1 = omega arith in ap (λ m. get_or (map (λ r. r.value) rs) m rest) e

-- one place more is zero
pub cleared_more : (xs : List ℕ) (i : ℕ) → i < length xs → set (replicate i 0 ++ drop i xs) i 0 ≡ replicate (i + 1) 0 ++ drop (i + 1) xs
cleared_more xs i h = rw add-one (go xs i h)
  where
    go : (xs : List ℕ) (i : ℕ) → i < length xs → set (replicate i 0 ++ drop i xs) i 0 ≡ replicate (suc i) 0 ++ drop (suc i) xs
    go [] i h = absurd (omega arith)
    go (x ∷ xs) zero h = refl
    go (x ∷ xs) (suc i) h = ap (λ l. 0 ∷ l) (go xs i (omega arith))

zeros : (n k : ℕ) → get_or (replicate n 0) k 0 ≤ 0
zeros zero k = omega arith
zeros (suc n) zero = omega arith
zeros (suc n) (suc k) = zeros n k

-- of places of which the first n are zeroed, as many as are taken or all
front_zeros : (m n : ℕ) (hs : List ℕ) → n ≤ m → (n < m → length hs ≤ n) → take m (replicate n 0 ++ drop n hs) ≡ replicate n 0
front_zeros m n hs le all = ⊎_elim short whole (cases_lt n m)
  where
    short : n < m → take m (replicate n 0 ++ drop n hs) ≡ replicate n 0
    short lt =
        let e : drop n hs ≡ [] = drop_all n hs (all lt) in
        let k : length (replicate n 0) ≤ m = rw length-replicate le in
        ap (λ t. take m (replicate n 0 ++ t)) e ∙ ap (take m) (append-nil (replicate n 0)) ∙ take_all m (replicate n 0) k

    whole : m ≤ n → take m (replicate n 0 ++ drop n hs) ≡ replicate n 0
    whole ge =
        let e : n ≡ m = omega arith in
        take_at (replicate n 0) (drop n hs) m (length-replicate n 0 ∙ e)

-- after clearing, no head names a record
pub cleared_sound : (hs : List ℕ) (m : ℕ) → Sound (reached (cleared hs)) 0 m
cleared_sound hs m = (omega arith, λ k. rw (front_zeros most (extent hs) hs (omega arith) (λ h. omega arith)) (zeros (extent hs) k))
