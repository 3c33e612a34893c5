use Rattle.std.proofs.Common.{◌≡◌, ◌++◌, drop}
use Rattle.tm_parser.specs.Distinct.{texts}
use Rattle.tm_parser.specs.Template.{block_names}
use Rattle.tm_parser.proofs.blocks.+names.Given as goal

abbrev pub invariant-add_names-loop-statement : goal.invariant-add_names-loop-statement
invariant-add_names-loop-statement l =
    texts l.names.items ++ block_names (drop l.statement-index l.statements) ≡ texts l.fn.names.items ++ block_names l.statements
