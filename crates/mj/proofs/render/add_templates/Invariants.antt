use Rattle.std.proofs.Common.{◌≡◌, map}
use Rattle.mj.specs.Program.{named}
use Rattle.mj.proofs.Added.{Adding}
use Rattle.mj.proofs.render.add_templates.Given as goal

-- the sources that are left are still to be put, and nothing else has changed
abbrev pub invariant-loop-file : goal.invariant-loop-file
invariant-loop-file g l = record {
  same : l.environment ≡ record l.fn.environment { templates = l.environment.templates };
  adding : Adding l.fn.environment.syntax (g.P.Parties.stated l.fn.environment.objects).escapes (map named l.fn.sources.items)
      (map named l.file-iterator.rest.items) l.fn.environment.templates l.environment.templates;
}
