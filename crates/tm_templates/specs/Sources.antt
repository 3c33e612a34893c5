-- Sources, borrowed or owned.
use Rattle.std.specs.Prelude.{ℕ, List}
use Rattle.std.specs.Rc.{rc_str_bytes}
use Rattle.tm_templates.specs.declared.compiled.Source.{Source}
use Rattle.tm_templates.specs.declared.compiled.Source.TheVariants.{Lent, Owned}

-- the text
abbrev pub source_bytes : Source → List ℕ
source_bytes (Lent text) = text.now
source_bytes (Owned text) = rc_str_bytes text
