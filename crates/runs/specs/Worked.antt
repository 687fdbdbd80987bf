-- Worked cases of the order rules, and of the rules over spans.
use Rattle.std.specs.Prelude.{List, [], ◌∷◌}
use Rattle.elements.specs.declared.span.Span.{Span}
use Rattle.elements.specs.Element.{span_of, span_rest, span_updated}
use Rattle.kinds.specs.declared.deed.Deed.TheVariants.{Reading, Updating}
use Rattle.order.specs.Questions.{step}
use Rattle.order.specs.Tasks.{new}
use Rattle.promise.specs.Program.{Entry, took, done, value}
use Rattle.promise.specs.Runs.{Runs}
use Rattle.promise.specs.Worked.{WorkedCases}

-- task 0 updates a span at rest twice and reads it
abbrev pub noting : List (Entry Span)
noting =
    took (step Updating 0 0) (span_of 3 5) done
    ∷ took (step Updating 0 0) (span_of 1 4) done
    ∷ took (step Reading 0 0) span_rest (value (span_of 1 5))
    ∷ []

pub record Worked : Type 0 where
  -- what the order rules answer
  pub order : WorkedCases
  -- the updates give the smaller first and the larger last, which the read answers
  pub span : Runs span_rest span_updated (new 1) (span_rest ∷ []) noting (span_of 1 5 ∷ [])
