use Rattle.std.proofs.Common.{rules}
use Rattle.tm_operations.proofs.slices.cut.Goals as goal

pub returns-in_err-picked-in-Text : goal.returns-in_err-picked-in-Text
returns-in_err-picked-in-Text c = search rules fits 100

pub returns-in_err-from_string-in-Text : goal.returns-in_err-from_string-in-Text
returns-in_err-from_string-in-Text c = search rules fits 100

pub returns-in_ok-from_string-in-Text : goal.returns-in_ok-from_string-in-Text
returns-in_ok-from_string-in-Text c = search rules fits 100

pub returns-in_default : goal.returns-in_default
returns-in_default c = search rules fits 100

pub returns-in-Undefined : goal.returns-in-Undefined
returns-in-Undefined c = search rules fits 100
