use Rattle.std.proofs.Common.{rules}
use Rattle.tm_operations.proofs.members.macro_member.Goals as goal

pub returns-then-eq : goal.returns-then-eq
returns-then-eq c = search rules fits 100

pub returns-then-eq-2 : goal.returns-then-eq-2
returns-then-eq-2 c = search rules fits 100

pub returns-then-eq-3 : goal.returns-then-eq-3
returns-then-eq-3 c = search rules fits 100

pub returns-else-eq-3 : goal.returns-else-eq-3
returns-else-eq-3 c = search rules fits 100
