-- The two elements: at rest, updated, and as numbers write them.
use Rattle.std.specs.Prelude.{ℕ, ◌+◌, ◌%◌, ◌^◌, min, max, List, [], ◌∷◌, Some, None, Option}
use Rattle.elements.specs.declared.count.Count.{Count}
use Rattle.elements.specs.declared.span.Span.{Span}

abbrev pub count_of : ℕ → Count
count_of n = record { value = n }

abbrev pub span_of : ℕ → ℕ → Span
span_of a b = record { first = a; last = b }

-- a count's update adds, modulo 2^64
abbrev pub count_updated : Count → Count → Count
count_updated v a = count_of ((v.value + a.value) % 2 ^ 64)

-- a span at rest spans nothing
abbrev pub span_rest : Span
span_rest = span_of 18446744073709551615 0

-- a span's update takes the smaller first and the larger last
abbrev pub span_updated : Span → Span → Span
span_updated v a = span_of (min v.first a.first) (max v.last a.last)

-- a count is written by one number
abbrev pub count_made : List ℕ → Option Count
count_made [] = None
count_made (n ∷ []) = Some (count_of n)
count_made (n ∷ (m ∷ more)) = None

-- a span is written by its first and its last
abbrev pub span_made : List ℕ → Option Span
span_made [] = None
span_made (a ∷ []) = None
span_made (a ∷ (b ∷ [])) = Some (span_of a b)
span_made (a ∷ (b ∷ (c ∷ more))) = None
