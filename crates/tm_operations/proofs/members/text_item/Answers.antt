use Rattle.std.proofs.Common.{rules}
use Rattle.tm_operations.proofs.members.text_item.Goals as goal

pub returns-in-Some-character : goal.returns-in-Some-character
returns-in-Some-character c = search rules fits 100

pub returns-in-None-character : goal.returns-in-None-character
returns-in-None-character c = search rules fits 100

pub returns-in-None : goal.returns-in-None
returns-in-None c = search rules fits 100

pub returns-in_default : goal.returns-in_default
returns-in_default c = search rules fits 100
