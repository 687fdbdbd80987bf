-- What holds of the tasks after every accepted call.
-- Assumes nothing.
use Rattle.std.proofs.Common.{◌≡◌, ℕ, suc, ◌<◌, Bool, true, false, not, ◌||◌, ◌⊎◌, List, [], ◌∷◌, length, Some, None, Option, sym, refl, ap, ◌∙◌, subst, subst₂, inl, inr, arith}
use Rattle.std.specs.List.{AllByRecursion as All}
use Rattle.std.proofs.ByRecursion.{All-weaker}
use Rattle.std.proofs.lemmas.Bool.{cases_eq, not-true}
use Rattle.kinds.specs.declared.holding.Holding.{Holding}
use Rattle.kinds.specs.Kinds.{meets, if_strong, is_commutative}
use Rattle.order.specs.Questions.{no_earlier_conflict, Change, birth, turn, letting_go, nothing, newborn, changed}
use Rattle.order.specs.Tasks.{
  Task,
  World,
  is_created,
  is_finished,
  count,
  state_of,
  every_cell,
  path,
  above,
  ancestor,
  earlier,
  holds,
  new,
}
use Rattle.order.proofs.Deeply.{holds_unfinished, finished_or_holds}
use Rattle.kinds.proofs.Every.{clash, then}
use Rattle.order.proofs.Bounded.{every_at}
use Rattle.kinds.proofs.Laws.{covered_meets}
use Rattle.order.proofs.Paths.{path_new, path_old, path_small, lower_back, above_push_back, path_inj, Well, above_new, above_ends, ends_not_self}
use Rattle.promise.proofs.EndOrder.{In, Sorted, insert, all_insert, in_old, in_new, sorted_insert}
use Rattle.promise.proofs.Kept.{
  running_not_finished,
  Birth,
  Permitted,
  put_same,
  put_other,
  old_hold,
  old_finished,
  old_begun,
  old_path,
  same_cells,
}

-- t is finished, or holds nothing in conflict with what v holds strongly
abbrev pub Clear : World → ℕ → ℕ → Type 0
Clear w t v =
    (is_finished (state_of w t) ≡ true) ⊎ ((c : ℕ) → c < w.cells → meets ((w.task t).hold c) (if_strong ((w.task v).hold c)) ≡ false)

-- every earlier task is clear of a task that has begun
abbrev pub Cleared : World → Type 0
Cleared w = (t v : ℕ) → t < count w → v < count w → earlier w t v ≡ true → is_created (state_of w v) ≡ false → Clear w t v

-- a task with descendants holds no commutative cell
abbrev pub Bare : World → Type 0
Bare w = (u v : ℕ) → u < count w → v < count w → ancestor w u v ≡ true → (c : ℕ) → c < w.cells → is_commutative ((w.task u).hold c) ≡ false

-- line: all tasks in the order in which they end
pub record Good (w : World) (line : List ℕ) : Type 0 where
  pub small : All (λ t. t < count w) line
  pub full : (t : ℕ) → t < count w → In t line
  pub sorted : Sorted w.tree line
  pub cleared : Cleared w
  pub bare : Bare w
  pub well : Well w.tree

meets_less :
    (h h' g g' : Option Holding) →
    meets h (if_strong g) ≡ false →
    (h' ≡ h) ⊎ (h' ≡ None) →
    (g' ≡ g) ⊎ (g' ≡ None) →
    meets h' (if_strong g') ≡ false
meets_less h h' g g' m (inl a) (inl b) = rw (a, b) m
meets_less h h' g g' m (inr a) b = rw a
meets_less h h' g g' m (inl a) (inr b) = rw b (none h')
  where
    none : (k : Option Holding) → meets k None ≡ false
    none None = refl
    none (Some l) = refl

module _ (w : World) where
  -- a task that starts has the earlier ones clear of it
  started_clear :
      (t v : ℕ) →
      t < count w →
      earlier w t v ≡ true →
      no_earlier_conflict w v ≡ true →
      is_finished (state_of w v) ≡ false →
      Clear w t v
  started_clear t v ht e q nf = go (finished_or_holds w t)
    where
      at_c : (c : ℕ) → c < w.cells → meets (holds w t c) (if_strong (holds w v c)) ≡ false
      at_c c hc =
          not-true (meets (holds w t c) (if_strong (holds w v c)))
          (
          every_at w.cells (λ d. not (meets (holds w t d) (if_strong (holds w v d))))
          (
          then (earlier w t v) (every_cell w (λ d. not (meets (holds w t d) (if_strong (holds w v d)))))
          (every_at (count w) (λ u. not (earlier w u v) || every_cell w (λ d. not (meets (holds w u d) (if_strong (holds w v d))))) q t ht)
          e
          )
          c hc
          )

      go : (is_finished (state_of w t) ≡ true) ⊎ ((c : ℕ) → holds w t c ≡ (w.task t).hold c) → Clear w t v
      go (inl f) = inl f
      go (inr same) =
          inr
          (
          λ c hc.
          subst₂ (λ (g k : Option Holding). meets g (if_strong k) ≡ false) (same c) (holds_unfinished w v nf c) (at_c c hc)
          )

  clear_old :
      (ch : Change) →
      Permitted w ch →
      Cleared w →
      (t v : ℕ) →
      t < count w →
      v < count w →
      earlier (changed w ch) t v ≡ true →
      is_created (state_of (changed w ch) v) ≡ false →
      Clear (changed w ch) t v
  clear_old ch a clear t v ht hv e b = go (was (old_begun w ch a v hv b))
    where
      before : earlier w t v ≡ true
      before = rw (old_path w ch t ht, old_path w ch v hv) at e

      was : (is_created (state_of w v) ≡ false) ⊎ ((no_earlier_conflict w v ≡ true) × (is_finished (state_of w v) ≡ false)) → Clear w t v
      was (inl x) = clear t v ht hv before x
      was (inr x) = started_clear t v ht before x.0 x.1

      go : Clear w t v → Clear (changed w ch) t v
      go (inl f) = inl (old_finished w ch a t ht f)
      go (inr m) =
          inr
          (
          λ c hc.
          meets_less ((w.task t).hold c) (((changed w ch).task t).hold c) ((w.task v).hold c) (((changed w ch).task v).hold c)
          (m c (subst (λ (n : ℕ). c < n) (same_cells w ch) hc)) (old_hold w ch t ht c) (old_hold w ch v hv c)
          )

  bare_old :
      (ch : Change) →
      Bare w →
      (u v : ℕ) →
      u < count w →
      v < count w →
      ancestor (changed w ch) u v ≡ true →
      (c : ℕ) →
      c < (changed w ch).cells →
      is_commutative (((changed w ch).task u).hold c) ≡ false
  bare_old ch bare u v hu hv e c hc = go (old_hold w ch u hu c)
    where
      was : is_commutative ((w.task u).hold c) ≡ false
      was = bare u v hu hv (rw (old_path w ch u hu, old_path w ch v hv) at e) c (subst (λ (n : ℕ). c < n) (same_cells w ch) hc)

      go : (((changed w ch).task u).hold c ≡ (w.task u).hold c) ⊎ (((changed w ch).task u).hold c ≡ None) → is_commutative (((changed w ch).task u).hold c) ≡ false
      go (inl s) = ap is_commutative s ∙ was
      go (inr s) = ap is_commutative s

  -- a change that makes no task
  module _ (ch : Change) (a : Permitted w ch) (line : List ℕ) (g : Good w line) (same : (changed w ch).tree ≡ w.tree) where
    same_count : count (changed w ch) ≡ count w
    same_count = ap (λ (t : List ℕ). suc (length t)) same

    good_kept : Good (changed w ch) line
    good_kept =
        record {
          well = subst Well (sym same) g.well;
          small = subst (λ (n : ℕ). All (λ t. t < n) line) (sym same_count) g.small;
          full = λ t h. g.full t (subst (λ (n : ℕ). t < n) same_count h);
          sorted = subst (λ (t : List ℕ). Sorted t line) (sym same) g.sorted;
          cleared =
              λ t v ht hv.
              clear_old ch a g.cleared t v (subst (λ (n : ℕ). t < n) same_count ht) (subst (λ (n : ℕ). v < n) same_count hv);
          bare =
              λ u v hu hv.
              bare_old ch g.bare u v (subst (λ (n : ℕ). u < n) same_count hu) (subst (λ (n : ℕ). v < n) same_count hv);
        }

  -- a change that makes one
  module _ (p : ℕ) (waits : Bool) (hold : ℕ → Option Holding) (a : Birth w p hold) (line : List ℕ) (g : Good w line) where
    abbrev w' : World
    w' = changed w (birth p waits hold)

    is_new : w'.task (count w) ≡ newborn waits hold
    is_new = put_same w.task (count w) (newborn waits hold)

    is_old : (t : ℕ) → t < count w → w'.task t ≡ w.task t
    is_old t h = put_other w.task (count w) (newborn waits hold) t (λ i. omega arith)

    old_or_new : (t : ℕ) → t < count w' → (t ≡ count w) ⊎ (t < count w)
    old_or_new t h = go (cases_eq t (count w))
      where
        go : (t ≡ count w) ⊎ (t ≡ count w → ⊥) → (t ≡ count w) ⊎ (t < count w)
        go (inl e) = inl e
        go (inr n) = inr (omega arith)

    -- what the new task is earlier than, its parent is earlier than, and its holding covers the new one's
    new_clear : (v : ℕ) → v < count w → earlier w' (count w) v ≡ true → is_created (state_of w' v) ≡ false → Clear w' (count w) v
    new_clear v hv e b = go (g.cleared p v a.known hv parent_earlier begun)
      where
        parent_earlier : earlier w p v ≡ true
        parent_earlier =
            lower_back (path w.tree p) (path w.tree v) (count w) (path_small w.tree v)
            (rw (path_new p w.tree, path_old p w.tree v hv) at e)

        begun : is_created (state_of w v) ≡ false
        begun = ap (λ (k : Task). is_created k.state) (sym (is_old v hv)) ∙ b

        go : Clear w p v → Clear w' (count w) v
        go (inl x) = clash (sym (running_not_finished (state_of w p) a.running) ∙ x)
        go (inr m) =
            inr
            (
            λ c hc.
            rw (is_new, is_old v hv) (covered_meets ((w.task p).hold c) (hold c) (if_strong ((w.task v).hold c)) (a.covered c hc) (m c hc))
            )

    good_birth : Good w' (insert (count w) p line)
    good_birth =
        record {
          well = (a.known, g.well);
          small =
              all_insert (λ t. t < count w') (count w) p line (omega arith)
              (All-weaker (λ t. t < count w) (λ t. t < count w') (λ t h. omega arith) line g.small);
          full = full';
          sorted = sorted_insert w.tree p a.known line g.small (g.full p a.known) g.sorted;
          cleared = λ t v ht hv. cleared' t v (old_or_new t ht) (old_or_new v hv);
          bare = λ u v hu hv. bare' u v (old_or_new u hu) (old_or_new v hv);
        }
      where
        full' : (t : ℕ) → t < count w' → In t (insert (count w) p line)
        full' t h = go (old_or_new t h)
          where
            go : (t ≡ count w) ⊎ (t < count w) → In t (insert (count w) p line)
            go (inl e) = subst (λ (x : ℕ). In x (insert (count w) p line)) (sym e) (in_new (count w) p line (g.full p a.known))
            go (inr l) = in_old (count w) p line t (g.full t l)

        cleared' :
            (t v : ℕ) →
            (t ≡ count w) ⊎ (t < count w) →
            (v ≡ count w) ⊎ (v < count w) →
            earlier w' t v ≡ true →
            is_created (state_of w' v) ≡ false →
            Clear w' t v
        cleared' t v i (inl j) e b = clash (sym b ∙ ap (λ (k : Task). is_created k.state) (ap w'.task j ∙ is_new))
        cleared' t v (inl i) (inr j) e b =
            subst (λ (x : ℕ). Clear w' x v) (sym i) (new_clear v j (subst (λ (x : ℕ). earlier w' x v ≡ true) i e) b)
        cleared' t v (inr i) (inr j) e b = clear_old (birth p waits hold) a g.cleared t v i j e b

        -- what lies above the new task is its parent or lies above that
        above_child : (u : ℕ) → u < count w → ancestor w' u (count w) ≡ true → (c : ℕ) → c < w.cells → is_commutative ((w.task u).hold c) ≡ false
        above_child u hu e c hc =
            go (above_push_back (path w.tree u) (path w.tree p) (count w) (rw (path_new p w.tree, path_old p w.tree u hu) at e))
          where
            go : (path w.tree u ≡ path w.tree p) ⊎ (above (path w.tree u) (path w.tree p) ≡ true) → is_commutative ((w.task u).hold c) ≡ false
            go (inl s) = rw (path_inj w.tree u p hu a.known s) (a.bare c hc)
            go (inr s) = g.bare u p hu a.known s c hc

        bare' :
            (u v : ℕ) →
            (u ≡ count w) ⊎ (u < count w) →
            (v ≡ count w) ⊎ (v < count w) →
            ancestor w' u v ≡ true →
            (c : ℕ) →
            c < w.cells →
            is_commutative ((w'.task u).hold c) ≡ false
        bare' u v (inl i) (inl j) e c hc =
            absurd
            (
            ends_not_self (path w'.tree (count w))
            (above_ends (path w'.tree (count w)) (path w'.tree (count w)) (subst₂ (λ (x y : ℕ). ancestor w' x y ≡ true) i j e))
            )
        bare' u v (inl i) (inr j) e c hc =
            absurd
            (
            above_new (path w.tree p) (path w.tree v) (count w) (path_small w.tree v)
            (rw (path_new p w.tree, path_old p w.tree v j) at (subst (λ (x : ℕ). ancestor w' x v ≡ true) i e))
            )
        bare' u v (inr i) (inl j) e c hc = rw (is_old u i) (above_child u i (subst (λ (x : ℕ). ancestor w' u x ≡ true) j e) c hc)
        bare' u v (inr i) (inr j) e c hc = bare_old (birth p waits hold) g.bare u v i j e c hc

  -- the tasks in the order in which they end after a change
  abbrev pub line_after : Change → List ℕ → List ℕ
  line_after (birth p waits hold) line = insert (count w) p line
  line_after (turn t s) line = line
  line_after (letting_go t lo hi) line = line
  line_after nothing line = line

  pub good_changed : (ch : Change) → Permitted w ch → (line : List ℕ) → Good w line → Good (changed w ch) (line_after ch line)
  good_changed (birth p waits hold) a line g = good_birth p waits hold a line g
  good_changed (turn t s) a line g = good_kept (turn t s) a line g refl
  good_changed (letting_go t lo hi) a line g = good_kept (letting_go t lo hi) a line g refl
  good_changed nothing a line g = g

pub good_new : (n : ℕ) → Good (new n) (0 ∷ [])
good_new n =
    record {
      well = tt;
      small = (omega arith, tt);
      full = λ t h. inl (omega arith);
      sorted = (tt, tt);
      cleared = λ t v ht hv e b. clash e;
      bare = λ u v hu hv e c hc. clash e;
    }
