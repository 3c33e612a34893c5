use Rattle.std.proofs.Common.{◌≡◌, ◌++◌}
use Rattle.std.specs.Prelude.{filter}
use Rattle.tm_syntax.specs.Named.{texts_of}
use Rattle.tm_meaning.specs.World.{is_exported}
use Rattle.tm_scopes.specs.Scopes.{exported_of}
use Rattle.tm_scopes.proofs.context.Context.exports.Given as goal

abbrev pub invariant-loop-name : goal.invariant-loop-name
invariant-loop-name l =
    texts_of l.exported.items ++ filter is_exported (texts_of l.name-iterator.rest.items) ≡ exported_of l.self.frames
