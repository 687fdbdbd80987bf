-- Whole lines: a line that is refused is the writing of no call.
use Rattle.std.proofs.Common.{◌≡◌, ℕ, cond, eqb, List, [], ◌∷◌, ◌++◌, length, get_or, drop, Result, sym, refl, ap, ◌∙◌, subst}
use mathlib.Core.List.{append_cancel_right}
use Rattle.std.proofs.lemmas.Result.{MatchResult-weaker}
use Rattle.elements.specs.declared.element.Element as element
use Rattle.calls.specs.declared.letter.Letter.{Letter}
use Rattle.calls.specs.declared.letter.Letter.TheVariants.{Create, Start, Finish, Wait, Resume, Release, Read, Write, Update, Look, Ready}
use Rattle.text.specs.declared.unread.Stop.{Stop}
use Rattle.text.specs.declared.unread.Unread.{Unread}
use Rattle.text.specs.declared.unread.Unread.TheVariants.{TooLong, NoLineEnd, BadHeader, UnknownLetter, BadNumbers, WrongCount, OutOfRange}
use Rattle.calls.specs.declared.written.Written.{Written}
use Rattle.text.specs.Form.{spaced, AllSmall, Writes}
use Rattle.calls.specs.Calls.{byte_of, letter_of, numbers_of, line_with, needed, Fits, Right, FirstNo, NumbersNo, NumbersRead, CallRead, NoCall, LineRead}
use Rattle.text.specs.Unread.{Stopped}
use Rattle.text.proofs.Stops.{stopped_map}
use Rattle.text.proofs.Spaces.{writes_one}

letter_at : ℕ → Letter
letter_at b =
    cond (eqb b 110) Create (cond (eqb b 115) Start (cond (eqb b 102) Finish (cond (eqb b 119) Wait (cond (eqb b 99) Resume
    (cond (eqb b 114) Release (cond (eqb b 103) Read (cond (eqb b 112) Write (cond (eqb b 117) Update (cond (eqb b 108) Look Ready)))))))))

letter_back : (l : Letter) → letter_at (byte_of l) ≡ l
unfolding letter_at
letter_back Create = refl
letter_back Start = refl
letter_back Finish = refl
letter_back Wait = refl
letter_back Resume = refl
letter_back Release = refl
letter_back Read = refl
letter_back Write = refl
letter_back Update = refl
letter_back Look = refl
letter_back Ready = refl

-- a line has one letter, and one list of numbers
line_one : (l k : Letter) (ns ms : List ℕ) → AllSmall ns → AllSmall ms → line_with l ns ≡ line_with k ms → (l ≡ k) × (ns ≡ ms)
line_one l k ns ms small smaller e =
    let letters = sym (letter_back l) ∙ ap (λ line. letter_at (get_or line 0 0)) e ∙ letter_back k in
    let tails = append_cancel_right (spaced ns) (spaced ms) (10 ∷ []) (ap (drop 1) e) in
    (letters, writes_one (spaced ns) ns ms (record { small = small; whole = refl }) (record { small = smaller; whole = tails }))

module _ {E : Type 0} (e : element.Ghosts E) where
  none_written : (line : List ℕ) (why : Unread) → FirstNo e.WIDTH e.made line why → (w : Written E) → CallRead e.numbers e.WIDTH e.made line w → ⊥
  none_written line TooLong never w r = never
  none_written line NoLineEnd never w r = never (byte_of (letter_of w) ∷ spaced (numbers_of e.numbers w)) r.whole
  none_written line BadHeader never w r = never
  none_written line UnknownLetter (front, is, never) w r =
      never (letter_of w) (spaced (numbers_of e.numbers w))
      (append_cancel_right front (byte_of (letter_of w) ∷ spaced (numbers_of e.numbers w)) (10 ∷ []) (sym is ∙ r.whole))
  none_written line BadNumbers (l, tail, is, never) w r =
      never (numbers_of e.numbers w)
      (record {
        small = r.right.small;
        whole = append_cancel_right tail (spaced (numbers_of e.numbers w)) (10 ∷ []) (ap (drop 1) (sym is ∙ r.whole));
      })
  none_written line WrongCount (l, ns, is, small, never) w r =
      let same = line_one l (letter_of w) ns (numbers_of e.numbers w) small r.right.small (sym is ∙ r.whole) in
      never (ap length same.1 ∙ r.right.counted ∙ sym (ap (λ k. needed e.WIDTH k (numbers_of e.numbers w)) same.0) ∙ sym (ap (needed e.WIDTH l) same.1))
  none_written line OutOfRange (l, ns, is, small, counted, never) w r =
      let same = line_one l (letter_of w) ns (numbers_of e.numbers w) small r.right.small (sym is ∙ r.whole) in
      never (subst (Fits e.made l) (sym same.1) (subst (λ k. Fits e.made k (numbers_of e.numbers w)) (sym same.0) r.right.fits))

  pub refused : (line : List ℕ) (why : Unread) → FirstNo e.WIDTH e.made line why → NoCall e.numbers e.WIDTH e.made line why
  refused line why never = record { first = never; none = none_written line why never }

  module _ (line front : List ℕ) (ends : line ≡ front ++ (10 ∷ [])) where
    pub unknown : ((l : Letter) (tail : List ℕ) → front ≡ byte_of l ∷ tail → ⊥) → NoCall e.numbers e.WIDTH e.made line UnknownLetter
    unknown never = refused line UnknownLetter (front, ends, never)

    module _ (l : Letter) (tail : List ℕ) (begins : front ≡ byte_of l ∷ tail) where
      pub lined : line ≡ byte_of l ∷ (tail ++ (10 ∷ []))
      lined = ends ∙ ap (λ f. f ++ (10 ∷ [])) begins

      pub bad : (s : Stop) → Stopped s (λ why. (why ≡ BadNumbers) × ((ns : List ℕ) → Writes tail ns → ⊥)) → Stopped s (NoCall e.numbers e.WIDTH e.made line)
      bad s stopped =
          stopped_map s _ (NoCall e.numbers e.WIDTH e.made line)
          (λ why p. subst (NoCall e.numbers e.WIDTH e.made line) (sym p.0) (refused line BadNumbers (l, tail, lined, p.1))) stopped

      module _ (ns : List ℕ) (w : Writes tail ns) where
        numbered : line ≡ line_with l ns
        numbered = lined ∙ ap (λ t. byte_of l ∷ (t ++ (10 ∷ []))) w.whole

        no_line : (why : Unread) → NumbersNo e l ns why → NoCall e.numbers e.WIDTH e.made line why
        no_line WrongCount never = refused line WrongCount (l, ns, numbered, w.small, never)
        no_line OutOfRange never = refused line OutOfRange (l, ns, numbered, w.small, never.0, never.1)
        no_line TooLong never = absurd never
        no_line NoLineEnd never = absurd never
        no_line BadHeader never = absurd never
        no_line UnknownLetter never = absurd never
        no_line BadNumbers never = absurd never

        whole_line : (r : Result (Written E) Stop) → NumbersRead e l ns r → LineRead e line r
        whole_line r given =
            MatchResult-weaker r given
            (λ x (counted, m).
            record {
              whole = numbered ∙ ap (λ k. line_with k ns) (sym m.letter) ∙ ap (line_with (letter_of x)) (sym m.numbers);
              right = subst (λ k. Right e.WIDTH e.made k (numbers_of e.numbers x)) (sym m.letter) (subst (Right e.WIDTH e.made l) (sym m.numbers) (record { small = w.small; counted = counted; fits = m.fits }));
            })
            (λ s stopped. stopped_map s (NumbersNo e l ns) (NoCall e.numbers e.WIDTH e.made line) no_line stopped)

        pub judged : (xs : List ℕ) → xs ≡ ns → (r : Result (Written E) Stop) → NumbersRead e l xs r → LineRead e line r
        judged xs same r given = whole_line r (subst (λ ys. NumbersRead e l ys r) same given)
