use Rattle.std.proofs.lemmas.Str.Pattern.{contains_text}
use Rattle.tm_operations.proofs.Parts.{same_test}
use Rattle.tm_operations.proofs.containment.has_part.Goals as goal

-- the search and the definition test one fact
pub returns : goal.returns
returns c =
    let tells = contains_text c.contains.result c.args.part.now c.args.content.now c.contains.ensures.cases in
    same_test c.contains.result c.args.part.now c.args.content.now tells.0 tells.1
