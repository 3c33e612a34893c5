use Rattle.std.proofs.Common.{arith, ◌∙◌, ap}
use Rattle.std.proofs.lemmas.Bool.{eqb-true}
use Rattle.unicode_ident.specs.Ident.{is_xid_continue}
use Rattle.unicode_ident.proofs.IdentLemmas.{is_xid_continue-ascii}
use Rattle.tm_scanner.proofs.names.starts_name.Goals as goal

pub returns-then-c-eq95-clause-goes_on : goal.returns-then-c-eq95-clause-goes_on
returns-then-c-eq95-clause-goes_on c = λ h. ap is_xid_continue (eqb-true c.args.c 95 h) ∙ is_xid_continue-ascii 95 (omega arith)
