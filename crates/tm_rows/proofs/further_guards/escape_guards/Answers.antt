use Rattle.std.proofs.Common.{refl}
use Rattle.tm_rows.proofs.further_guards.escape_guards.Goals as goal

pub returns-clause-captured : goal.returns-clause-captured
returns-clause-captured c = (refl, refl)

pub returns-clause-of_macro : goal.returns-clause-of_macro
returns-clause-of_macro c = (refl, refl)

pub returns-clause-on_in_page : goal.returns-clause-on_in_page
returns-clause-on_in_page c = (refl, refl)

pub returns-clause-on_in_block : goal.returns-clause-on_in_block
returns-clause-on_in_block c = (refl, refl)

pub returns-clause-on_in_plain_block : goal.returns-clause-on_in_plain_block
returns-clause-on_in_plain_block c = (refl, refl)

pub returns-clause-on_in_macro : goal.returns-clause-on_in_macro
returns-clause-on_in_macro c = (refl, refl)

pub returns-clause-on_in_plain_page : goal.returns-clause-on_in_plain_page
returns-clause-on_in_plain_page c = (refl, refl)

pub returns-clause-on_in_included : goal.returns-clause-on_in_included
returns-clause-on_in_included c = (refl, refl)
