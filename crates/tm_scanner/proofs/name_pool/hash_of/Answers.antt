use Rattle.tm_syntax.specs.Hashed.{hash_of}
use Rattle.tm_scanner.proofs.name_pool.hash_of.Goals as goal

pub returns : goal.returns
unfolding hash_of
returns c = cc (c.finish.ensures, c.write.ensures, c.default-hasher.ensures, c.as_bytes.ensures.value)
