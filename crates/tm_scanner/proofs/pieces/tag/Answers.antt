use Rattle.tm_scanner.proofs.pieces.tag.Goals as goal

pub returns-in-Variable-clause-refused : goal.returns-in-Variable-clause-refused
returns-in-Variable-clause-refused c = let is = c.in-Variable.is in rw is (rw c.end.ensures at c.emission.ensures.refused)

pub returns-in-Block-clause-refused : goal.returns-in-Block-clause-refused
returns-in-Block-clause-refused c = let is = c.in-Block.is in rw is c.block.ensures.refused
