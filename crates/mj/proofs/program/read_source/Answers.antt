use Rattle.std.proofs.Common.{inr, IsOk, subst}
use Rattle.mj.proofs.program.read_source.Goals as goal

-- bytes that are no text
pub returns-in-Err-from_utf8-clause-read : goal.returns-in-Err-from_utf8-clause-read
returns-in-Err-from_utf8-clause-read g c = inr (
  c.in-Ok.bytes.items,
  c.in-Ok.ensures.read,
  λ text. let ok = subst (λ r. IsOk r) c.in-Err-from_utf8.is (c.from_utf8.ensures.succeeds text) in cc,
)
