use Rattle.std.proofs.Common.{[], ◌∷◌, sym, ◌∙◌, ap}
use Rattle.tm_scanner.specs.Spells.{without_final_newline}
use Rattle.tm_scanner.proofs.Newlines.{before_word, without_two, without_one, without_none}
use Rattle.tm_scanner.proofs.source.without_final_newline.Goals as goal

pub returns-in-Some : goal.returns-in-Some
returns-in-Some c =
    let split = before_word c.args.source.now (13 ∷ 10 ∷ []) c.in-Some.text.now c.in-Some.ensures.cases in
    sym (ap without_final_newline split ∙ without_two c.in-Some.text.now)

pub returns-in-Some-strip_suffix : goal.returns-in-Some-strip_suffix
returns-in-Some-strip_suffix c =
    let split = before_word c.args.source.now (10 ∷ []) c.in-Some-strip_suffix.text.now c.in-Some-strip_suffix.ensures.cases in
    sym (ap without_final_newline split
    ∙ without_one c.in-Some-strip_suffix.text.now (λ front e. c.in_default.ensures.cases front (split ∙ e)))

pub returns-in-None : goal.returns-in-None
returns-in-None c = sym (without_none c.args.source.now c.in-None.ensures.cases)
