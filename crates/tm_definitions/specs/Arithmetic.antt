-- Arithmetic on whole numbers, including truth values; `+` also concatenates two texts or two
-- lists.
use Rattle.std.specs.Prelude.{ℕ, ℤ, false, List, ◌++◌, Option, None, Some, Ok}
use Rattle.tm_primitives.specs.Whole.{sum_of, difference_of, product_of, quotient_of, remainder_of, power_of, negation_of}
use Rattle.tm_values.specs.Answer.{Answer, invalid}
use Rattle.tm_values.specs.Val.{Val, number, text, list, list_of, vals_of, text_in, list_in, whole_in}

-- a number, if there is one
abbrev pub number_answer : Option ℤ → Answer Val
number_answer None = invalid
number_answer (Some z) = Ok (number z)

abbrev pub both : Option ℤ → Option ℤ → Option (ℤ × ℤ)
both None b = None
both (Some a) None = None
both (Some a) (Some b) = Some (a, b)

abbrev pub applied : (ℤ → ℤ → Option ℤ) → Option (ℤ × ℤ) → Answer Val
applied f None = invalid
applied f (Some p) = number_answer (f p.0 p.1)

-- the result for two numbers; InvalidOperation for other values
abbrev pub by_wholes : (ℤ → ℤ → Option ℤ) → Val → Val → Answer Val
by_wholes f l r = applied f (both (whole_in l) (whole_in r))

-- two texts concatenated, not marked safe
abbrev pub text_added : List ℕ → Option (List ℕ) → Answer Val
text_added s None = invalid
text_added s (Some t) = Ok (text (s ++ t) false)

abbrev pub list_added : List Val → Option (List Val) → Answer Val
list_added xs None = invalid
list_added xs (Some ys) = Ok (list (vals_of (xs ++ ys)))

abbrev pub added : Val → Val → Answer Val
added (text s safe) r = text_added s (text_in r)
added (list xs) r = list_added (list_of xs) (list_in r)
added l r = by_wholes sum_of l r

abbrev pub subtracted : Val → Val → Answer Val
subtracted = by_wholes difference_of

abbrev pub multiplied : Val → Val → Answer Val
multiplied = by_wholes product_of

-- Euclidean quotient and remainder: the remainder is never negative
abbrev pub floor_divided : Val → Val → Answer Val
floor_divided = by_wholes quotient_of

abbrev pub remaining : Val → Val → Answer Val
remaining = by_wholes remainder_of

abbrev pub raised : Val → Val → Answer Val
raised = by_wholes power_of

abbrev pub whole_negated : Option ℤ → Answer Val
whole_negated None = invalid
whole_negated (Some z) = number_answer (negation_of z)

abbrev pub negated : Val → Answer Val
negated v = whole_negated (whole_in v)

-- there are no fractions
abbrev pub divided : Val → Val → Answer Val
divided l r = invalid
