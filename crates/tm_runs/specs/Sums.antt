-- Operators that add two values up.
use Rattle.std.specs.Fmt.{signed_decimal}
use Rattle.std.specs.Prelude.{◌≡◌, false, List, ◌∷◌}
use Rattle.tm_definitions.specs.Arithmetic.{added}
use Rattle.tm_meaning.specs.Operators.{result_of}
use Rattle.tm_syntax.specs.declared.tree.BinaryOperator.{BinaryOperator}
use Rattle.tm_values.specs.Records.{RecordData}
use Rattle.tm_values.specs.Val.{Val, number, text}
use Rattle.tm_values.specs.declared.undefined.UndefinedBehavior.{UndefinedBehavior}

-- what is added for a value: a number's text, else the value itself
abbrev pub summand_of : Val → Val
summand_of (number z) = text (signed_decimal z) false
summand_of v = v

-- The operator's result is the sum of the left value and what is added for the right one.
abbrev pub IsSumOf : BinaryOperator → Val → Val → Type 0
IsSumOf op a b = (u : UndefinedBehavior) (r : RecordData) → result_of op u r a b ≡ added a (summand_of b)

-- The same of the two operands on top, if there are two.
abbrev pub AddsUp : BinaryOperator → List Val → Type 0
AddsUp op (b ∷ a ∷ rest) = IsSumOf op a b
AddsUp op _ = Unit {0}
