use Rattle.std.proofs.Common.{sym, ◌∙◌}
use Rattle.std.proofs.lemmas.Bool.{ltb-true}
use Rattle.unicode_ident.proofs.IdentLemmas.{is_xid_start-ascii, is_xid_start-is_xid_continue}
use Rattle.tm_scanner.proofs.names.starts.Goals as goal

pub returns-then-is_ascii-clause-value : goal.returns-then-is_ascii-clause-value
returns-then-is_ascii-clause-value c =
    let small = ltb-true c.args.c 128 (sym c.is_ascii.ensures ∙ c.if-is_ascii.true) in
    c.is_ascii_alphabetic.ensures.value ∙ sym (is_xid_start-ascii c.args.c small)

pub returns-then-is_ascii-clause-goes_on : goal.returns-then-is_ascii-clause-goes_on
returns-then-is_ascii-clause-goes_on c = λ h.
    let small = ltb-true c.args.c 128 (sym c.is_ascii.ensures ∙ c.if-is_ascii.true) in
    is_xid_start-is_xid_continue c.args.c (is_xid_start-ascii c.args.c small ∙ sym c.is_ascii_alphabetic.ensures.value ∙ h)
