use Rattle.tm_templates.proofs.Endings.{stripped}
use Rattle.tm_templates.proofs.defaults.before.Goals as goal

pub returns : goal.returns
returns c = stripped c.args.text.now c.args.word.now c.strip_suffix.result c.strip_suffix.ensures.cases
