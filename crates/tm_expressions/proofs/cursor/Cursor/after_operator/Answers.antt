use Rattle.std.proofs.Common.{refl, sym, ◌∙◌}
use Rattle.tm_expressions.specs.Grammar.{inside}
use Rattle.tm_expressions.proofs.Waiting.{first_one, none_there, first_above, first_less}
use Rattle.tm_expressions.proofs.cursor.Cursor.after_operator.Goals as goal

pub returns-in_default-clause-left : goal.returns-in_default-clause-left
returns-in_default-clause-left c = λ depth.
    none_there (inside depth) c.args.waiting.now c.args.reached c.args.level _ _ c.requires.found c.in_default.ensures.first

pub returns-clause-left : goal.returns-clause-left
returns-clause-left c = λ depth.
    first_one (inside depth) _ _ _ c.args.reached c.args.level _ _ _ _ _ c.requires.found c.in-Some.ensures.first
    (sym c.role_of.ensures ∙ c.in-Some-role_of.is)
    c.new.ensures refl c.in_ok-push.ensures.ok

pub returns-clause-less : goal.returns-clause-less
returns-clause-less c = first_less _ _ _ _ _ _ _ _ c.in_ok-push.ensures.ok c.in-Some.ensures.first

pub returns-clause-above : goal.returns-clause-above
returns-clause-above c = first_above _ _ _ c.requires.above c.requires.operator c.in_ok-push.ensures.ok
