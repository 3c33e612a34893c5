use Rattle.tm_values.proofs.Entries.{found_where_put, keeps_other_keys}
use Rattle.tm_values.proofs.map.put_law.Goals as goal

pub returns : goal.returns
returns c = record { found = found_where_put; kept = keeps_other_keys }
