use Rattle.tm_scanner.proofs.Sources.{one_list_of}
use Rattle.tm_scanner.proofs.source.one_list.Goals as goal

pub returns : goal.returns
returns c = one_list_of
