use Rattle.std.proofs.Common.{◌≡◌, drop}
use Rattle.tm_objects.specs.Language.{language, language_globals, named_from}
use Rattle.tm_objects.proofs.language.language_globals.Given as goal

-- those that are still to be named lead to all names
abbrev pub invariant-loop-number : goal.invariant-loop-number
invariant-loop-number l = record {
  rest : named_from l.number (drop l.number language) l.globals ≡ language_globals;
}
