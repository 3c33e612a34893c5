use Rattle.tm_syntax.specs.Blocks.{fragment_of}
use Rattle.tm_syntax.specs.CacheNumbers.{numbered}
use Rattle.tm_syntax.specs.Fragments.{assembled}
use Rattle.tm_accepted.specs.Sites.{pieces}
use Rattle.tm_accepted.proofs.Numbers.{tree_made}
use Rattle.tm_accepted.proofs.Sited.{flow_same, made_in_place}
use Rattle.tm_accepted.proofs.the_code_of_trees_has_sites.Goals as goal

pub returns : goal.returns
returns c = λ tree a n x p s at piece enters.
    let code = numbered (assembled (fragment_of tree)) in
    flow_same a code n p s x (made_in_place code (pieces (fragment_of tree)) (tree_made tree) n x p at piece) enters
