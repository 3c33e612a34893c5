use Rattle.std.proofs.Common.{drop, map}
use Rattle.std.specs.Prelude.{string_bytes}
use Rattle.mj_words.specs.CommandLine.{files_of}
use Rattle.mj.specs.Program.{named}
use Rattle.mj.proofs.Sources.{Reading}
use Rattle.mj.proofs.program.read_sources.Given as goal

-- the files that are left are still to be read
abbrev pub invariant-loop-file : goal.invariant-loop-file
invariant-loop-file g l = Reading g.T.Texts.of_file g.T.Texts.of_input (files_of l.arguments)
    (map string_bytes (drop l.file-index l.arguments.others.now)) l.fn.texts l.texts (map named l.sources.items)
