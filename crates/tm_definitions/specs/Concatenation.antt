-- `~`: the concatenation of two printed texts.
use Rattle.std.specs.Prelude.{ℕ, false, List, ◌++◌, Ok, Err}
use Rattle.tm_values.specs.Defined.{refusal_of, unless}
use Rattle.tm_definitions.specs.Printed.{printed}
use Rattle.tm_definitions.specs.Verdicts.{Verdict, print_verdict}
use Rattle.tm_values.specs.Answer.{Answer}
use Rattle.tm_values.specs.Records.{RecordData}
use Rattle.tm_values.specs.Val.{Val, text}
use Rattle.tm_values.specs.declared.undefined.UndefinedBehavior.{UndefinedBehavior}
use Rattle.tm_values.specs.declared.undefined.UndefinedUse.TheVariants as use_of

-- an answer, unless the verdict is an error
abbrev pub where_fine : {A : Type 0} → Verdict → Answer A → Answer A
where_fine (Ok u) answer = answer
where_fine (Err chain) answer = Err chain

-- the result isn't marked safe
abbrev pub joined : RecordData → Val → Val → Answer Val
joined r left right =
    where_fine (print_verdict r left)
    (where_fine (print_verdict r right) (Ok (text (printed r left ++ printed r right) false)))

abbrev pub concatenated : UndefinedBehavior → RecordData → Val → Val → Answer Val
concatenated b r left right =
    unless (refusal_of b use_of.Comparison left)
    (unless (refusal_of b use_of.Comparison right) (joined r left right))
