use Rattle.tm_meaning.proofs.LookUp.{answers_are_found, names_are_found}
use Rattle.tm_meaning.proofs.look_up_order.Goals as goal

pub returns-clause-answers : goal.returns-clause-answers
returns-clause-answers c = names_are_found

pub returns-clause-found : goal.returns-clause-found
returns-clause-found c = answers_are_found
