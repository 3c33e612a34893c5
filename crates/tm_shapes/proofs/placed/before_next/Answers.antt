use Rattle.std.proofs.Common.{◌∙◌, ap, sym}
use Rattle.tm_syntax.specs.Entries.{names_in}
use Rattle.tm_shapes.specs.Placed.{before_next}
use Rattle.tm_shapes.specs.declared.before.Before.TheVariants.{Closure}
use Rattle.tm_shapes.proofs.MacroParts.{no_names, some_names}
use Rattle.tm_shapes.proofs.placed.before_next.Goals as goal

pub returns-in-Some : goal.returns-in-Some
returns-in-Some c =
    sym (ap (λ b. before_next b c.args.instruction.now) c.in-Closure-LoadConst.is-0 ∙ ap (before_next Closure) c.in-Closure-LoadConst.is-1
    ∙ some_names (names_in c.in-Closure-LoadConst.value) c.in-Some.field-0 c.in-Some.ensures)

pub returns-in-None : goal.returns-in-None
returns-in-None c =
    sym (ap (λ b. before_next b c.args.instruction.now) c.in-Closure-LoadConst.is-0 ∙ ap (before_next Closure) c.in-Closure-LoadConst.is-1
    ∙ no_names (names_in c.in-Closure-LoadConst.value) c.in-None.ensures)
