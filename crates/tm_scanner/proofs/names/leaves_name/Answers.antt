use Rattle.std.proofs.Common.{◌∙◌, ap, sym}
use Rattle.std.specs.Str.{chars}
use Rattle.std.proofs.lemmas.Str.{chars-nil}
use Rattle.tm_scanner.specs.Names.{leaves_name}
use Rattle.tm_scanner.proofs.names.leaves_name.Goals as goal

pub returns-in-None : goal.returns-in-None
returns-in-None c = sym (ap leaves_name (ap chars c.in-None.ensures.value ∙ chars-nil))
