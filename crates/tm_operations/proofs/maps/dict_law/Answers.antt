use Rattle.tm_operations.proofs.Puts.{map_with_keywords}
use Rattle.tm_operations.proofs.maps.dict_law.Goals as goal

pub returns : goal.returns
returns c = map_with_keywords
