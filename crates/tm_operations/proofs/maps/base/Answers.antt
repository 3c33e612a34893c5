use Rattle.std.proofs.Common.{rules}
use Rattle.tm_operations.proofs.maps.base.Goals as goal

pub returns-in_default : goal.returns-in_default
returns-in_default g c = search rules fits 100

pub returns-in-Some-find_namespace : goal.returns-in-Some-find_namespace
returns-in-Some-find_namespace g c = search rules fits 100

pub returns-in-None : goal.returns-in-None
returns-in-None g c = search rules fits 100

pub returns-in_default-node : goal.returns-in_default-node
returns-in_default-node g c = search rules fits 100

pub returns-in-Undefined : goal.returns-in-Undefined
returns-in-Undefined g c = search rules fits 100
