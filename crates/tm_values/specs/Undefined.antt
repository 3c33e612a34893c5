-- The uses of undefined values that each behaviour refuses.
use Rattle.std.specs.Prelude.{Bool, true, false, Option, None, Some}
use Rattle.tm_values.specs.declared.error.ErrorKind.{ErrorKind}
use Rattle.tm_values.specs.declared.error.ErrorKind.TheVariants.{InvalidOperation, UndefinedError}
use Rattle.tm_values.specs.declared.undefined.UndefinedBehavior.{UndefinedBehavior}
use Rattle.tm_values.specs.declared.undefined.UndefinedBehavior.TheVariants.{Lenient, Chainable, SemiStrict, Strict}
use Rattle.tm_values.specs.declared.undefined.UndefinedUse.{UndefinedUse}
use Rattle.tm_values.specs.declared.undefined.UndefinedUse.TheVariants.{Emission, Iteration, Member, Truth, Comparison, Containment, Slice}
use Rattle.tm_values.specs.declared.undefined.UndefinedUse.TheVariants.{KeywordSpread, ItemSpread, Arithmetic}

-- the kind of the error, or None if the use is allowed
abbrev pub UndefinedRefusal : Type 0
UndefinedRefusal = Option ErrorKind

abbrev pub fails : UndefinedRefusal
fails = Some UndefinedError

abbrev pub invalid : UndefinedRefusal
invalid = Some InvalidOperation

abbrev pub by_behavior : UndefinedRefusal → UndefinedRefusal → UndefinedRefusal → UndefinedRefusal → UndefinedBehavior → UndefinedRefusal
by_behavior lenient chainable semi_strict strict Lenient = lenient
by_behavior lenient chainable semi_strict strict Chainable = chainable
by_behavior lenient chainable semi_strict strict SemiStrict = semi_strict
by_behavior lenient chainable semi_strict strict Strict = strict

-- for each use: under Lenient, Chainable, SemiStrict and Strict
abbrev pub ordinary_refusal : UndefinedUse → UndefinedBehavior → UndefinedRefusal
ordinary_refusal Emission = by_behavior None None fails fails
ordinary_refusal Iteration = by_behavior None None fails fails
ordinary_refusal Member = by_behavior fails None fails fails
ordinary_refusal Truth = by_behavior None None None fails
ordinary_refusal Comparison = by_behavior None None None fails
ordinary_refusal Containment = by_behavior None None fails fails
ordinary_refusal Slice = by_behavior None None None fails
ordinary_refusal KeywordSpread = by_behavior invalid invalid fails fails
ordinary_refusal ItemSpread = by_behavior None None None None
ordinary_refusal Arithmetic = by_behavior invalid invalid invalid invalid

-- emitting a silent undefined value and testing its truth never fail; other uses are ordinary
abbrev pub silent_refusal : UndefinedUse → UndefinedBehavior → UndefinedRefusal
silent_refusal Emission b = None
silent_refusal Truth b = None
silent_refusal purpose b = ordinary_refusal purpose b

abbrev pub undefined_refusal : UndefinedBehavior → UndefinedUse → Bool → UndefinedRefusal
undefined_refusal b purpose false = ordinary_refusal purpose b
undefined_refusal b purpose true = silent_refusal purpose b
