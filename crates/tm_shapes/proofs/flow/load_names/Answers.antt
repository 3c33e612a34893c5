use Rattle.std.proofs.Common.{◌∷◌}
use Rattle.tm_syntax.specs.Entries.{names_in}
use Rattle.tm_shapes.specs.declared.kind.Kind.TheVariants.{Names as names}
use Rattle.tm_shapes.specs.Flows.{load_names, next}
use Rattle.tm_shapes.proofs.Levels.{names-loaded}
use Rattle.tm_shapes.proofs.Levels.{told}
use Rattle.tm_shapes.proofs.flow.load_names.Goals as goal

pub returns-in-Some-clause-told : goal.returns-in-Some-clause-told
returns-in-Some-clause-told c =
    told c.args.cells.now c.args.cells.now c.on_with.new.cells c.args.shape c.args.shape (λ site s. load_names (names_in c.args.value.now) site s)
    (λ site s. next site (names c.in-Some.count ∷ s.part.operands) s) _
    (λ site s h. (s, names-loaded site s _ _ c.in-Some.ensures, h)) c.on_with.ensures.told
