-- What the tasks do from here on, one after the other in the order in which they end, and how a create and a step alter it.
-- Assumes nothing.
use Rattle.std.proofs.Common.{◌≡◌, ℕ, suc, Bool, true, cond, eqb, ◌⊎◌, List, [], ◌∷◌, ◌++◌, sym, refl, ap, ◌∙◌, subst, inl, inr, append_assoc}
use Rattle.std.specs.List.{AllByRecursion as All}
use Rattle.std.proofs.ByRecursion.{All-append, All-weaker}
use Rattle.std.proofs.lemmas.Bool.{cases_eq, eq-eqb, ne_eqb}
use Rattle.kinds.specs.declared.access.Access.{Access}
use Rattle.order.specs.Questions.{create}
use Rattle.order.specs.Tasks.{path}
use Rattle.order.proofs.Paths.{ends}
use Rattle.promise.specs.Program.{Step, Entry, took, Reply, body}
use Rattle.promise.proofs.EndOrder.{In, all_in, in_rest, Sorted, insert, insert_here, insert_on, others}
use Rattle.promise.proofs.Swapping.{Apart}

module _ {V : Type 0} where
  -- what the tasks ts do from here on, one after the other
  abbrev pub line : List ℕ → ℕ → List (Entry V) → List (Step V)
  line [] m h = []
  line (t ∷ ts) m h = body t m h ++ line ts m h

  pub line_none : (ts : List ℕ) (m : ℕ) → line ts m [] ≡ []
  line_none [] m = refl
  line_none (t ∷ ts) m = line_none ts m

  pub line_same :
      (ts : List ℕ) (m k : ℕ) (g h : List (Entry V)) →
      All (λ t. body t m g ≡ body t k h) ts →
      line ts m g ≡ line ts k h
  line_same [] m k g h a = refl
  line_same (t ∷ ts) m k g h a = let e = a.0 in let i = line_same ts m k g h a.1 in cc

  pub line_every :
      (ts : List ℕ) (m k : ℕ) (g h : List (Entry V)) →
      ((t : ℕ) → body t m g ≡ body t k h) →
      line ts m g ≡ line ts k h
  line_every [] m k g h a = refl
  line_every (t ∷ ts) m k g h a = let e = a t in let i = line_every ts m k g h a in cc

  -- a create puts the new task right before its parent
  pub line_create :
      (tree : List ℕ) (ts : List ℕ) (m p : ℕ) (f : Bool) (list : List Access) (given : V) (r : Reply V) (h : List (Entry V)) →
      In p ts →
      Sorted tree ts →
      line ts m (took (create p f list) given r ∷ h) ≡ line (insert m p ts) (suc m) h
  line_create tree [] m p f list given r h i s = refl
  line_create tree (t ∷ ts) m p f list given r h i s = go (cases_eq p t) (line_create tree ts m p f list given r h)
    where
      go :
          (p ≡ t) ⊎ (p ≡ t → ⊥) →
          (In p ts → Sorted tree ts → line ts m (took (create p f list) given r ∷ h) ≡ line (insert m p ts) (suc m) h) →
          line (t ∷ ts) m (took (create p f list) given r ∷ h) ≡ line (insert m p (t ∷ ts)) (suc m) h
      go (inl e) ih =
          rw (insert_here m p t ts e, eq-eqb p t e)
          (
          append_assoc (body m (suc m) h) (body t (suc m) h) (line ts m (took (create p f list) given r ∷ h))
          ∙ ap (λ (z : List (Step V)). body m (suc m) h ++ (body t (suc m) h ++ z))
          (
          line_same ts m (suc m) (took (create p f list) given r ∷ h) h
          (
          All-weaker (λ y. p ≡ y → ⊥) (λ y. body y m (took (create p f list) given r ∷ h) ≡ body y (suc m) h)
          (λ y d. rw (ne_eqb p y d))
          ts (others tree p ts (subst (λ (x : ℕ). All (λ y. ends (path tree x) (path tree y) ≡ true) ts) (sym e) s.0))
          )
          )
          )
      go (inr d) ih =
          rw (insert_on m p t ts d, ne_eqb p t d) (ap (λ (z : List (Step V)). body t (suc m) h ++ z) (ih (in_rest p t ts d i) s.1))

  -- a step stands in the line behind steps from which it stands apart
  pub record Placed (x : Step V) (now then : List (Step V)) : Type 0 where
    pub front : List (Step V)
    pub back : List (Step V)
    pub now_is : now ≡ front ++ x ∷ back
    pub then_is : then ≡ front ++ back
    pub apart : All (Apart x) front

  pub line_step :
      (tree : List ℕ) (ts : List ℕ) (m u : ℕ) (x : Step V) (e : Entry V) (h : List (Entry V)) →
      ((t : ℕ) → body t m (e ∷ h) ≡ cond (eqb u t) (x ∷ []) [] ++ body t m h) →
      ((t : ℕ) → In t ts → ends (path tree t) (path tree u) ≡ true → All (Apart x) (body t m h)) →
      In u ts →
      Sorted tree ts →
      Placed x (line ts m (e ∷ h)) (line ts m h)
  line_step tree [] m u x e h is ap i s = absurd i
  line_step tree (t ∷ ts) m u x e h is apart i s = go (cases_eq u t) (line_step tree ts m u x e h is (λ y j. apart y (inr j)))
    where
      go :
          (u ≡ t) ⊎ (u ≡ t → ⊥) →
          (In u ts → Sorted tree ts → Placed x (line ts m (e ∷ h)) (line ts m h)) →
          Placed x (line (t ∷ ts) m (e ∷ h)) (line (t ∷ ts) m h)
      go (inl q) ih =
          record {
            front = [];
            back = body t m h ++ line ts m h;
            now_is =
                rw (is t, eq-eqb u t q)
                (
                ap (λ (z : List (Step V)). x ∷ (body t m h ++ z))
                (
                line_same ts m m (e ∷ h) h
                (
                All-weaker (λ y. u ≡ y → ⊥) (λ y. body y m (e ∷ h) ≡ body y m h)
                (λ y d. is y ∙ rw (ne_eqb u y d))
                ts (others tree u ts (subst (λ (z : ℕ). All (λ y. ends (path tree z) (path tree y) ≡ true) ts) (sym q) s.0))
                )
                )
                );
            then_is = refl;
            apart = tt;
          }
      go (inr d) ih =
          let r = ih (in_rest u t ts d i) s.1 in
          let near = all_in (λ y. ends (path tree t) (path tree y) ≡ true) ts u s.0 (in_rest u t ts d i) in
          record {
            front = body t m h ++ r.front;
            back = r.back;
            now_is =
                rw (is t, ne_eqb u t d)
                (ap (λ (z : List (Step V)). body t m h ++ z) r.now_is ∙ sym (append_assoc (body t m h) r.front (x ∷ r.back)));
            then_is = ap (λ (z : List (Step V)). body t m h ++ z) r.then_is ∙ sym (append_assoc (body t m h) r.front r.back);
            apart = All-append (Apart x) (body t m h) r.front (apart t (inl refl) near) r.apart;
          }
