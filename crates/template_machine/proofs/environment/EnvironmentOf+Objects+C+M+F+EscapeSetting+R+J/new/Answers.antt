use Rattle.template_machine.proofs.Expected.{expected_names}
use Rattle.template_machine.proofs.environment.EnvironmentOf+Objects+C+M+F+EscapeSetting+R+J.new.Goals as goal

pub of-requires : goal.of-requires
of-requires g c = expected_names c.in_ok-language_globals.field-0 c.in_ok-language_globals.ensures
