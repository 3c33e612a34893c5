use Rattle.std.proofs.Common.{◌≡◌, ◌++◌, ◌∷◌, [], ◌∙◌, rules}
use Rattle.tm_operations.proofs.Puts.{split, unsplit}
use Rattle.tm_values.specs.Val.{keywords, pairs_of}
use Rattle.tm_operations.proofs.maps.split_keywords.Goals as goal

pub returns-in-Keywords-clause-plain : goal.returns-in-Keywords-clause-plain
returns-in-Keywords-clause-plain c =
    let whole : c.args.arguments.now ≡ c.in-Some.before.now ++ c.in-Some.last.now ∷ [] = search rules in
    let last : c.in-Some.last.now ≡ keywords (pairs_of c.in-Keywords.pairs.value.items) = search rules in
    (split c.args.arguments.now c.in-Some.before.now c.in-Some.last.now c.in-Keywords.pairs.value.items whole last).0

pub returns-in-Keywords-clause-keywords : goal.returns-in-Keywords-clause-keywords
returns-in-Keywords-clause-keywords c =
    let whole : c.args.arguments.now ≡ c.in-Some.before.now ++ c.in-Some.last.now ∷ [] = search rules in
    let last : c.in-Some.last.now ≡ keywords (pairs_of c.in-Keywords.pairs.value.items) = search rules in
    let read : c.as_slice.result.now ≡ c.in-Keywords.pairs.value.items = search rules in
    read ∙ (split c.args.arguments.now c.in-Some.before.now c.in-Some.last.now c.in-Keywords.pairs.value.items whole last).1

pub returns-in_default-node : goal.returns-in_default-node
returns-in_default-node c =
    let whole : c.args.arguments.now ≡ c.in-Some.before.now ++ c.in-Some.last.now ∷ [] = search rules in
    let stays = unsplit c.args.arguments.now c.in-Some.before.now c.last.inside.node c.in-Some.last.now whole c.last.view_is
    c.in_default-node.not-Keywords in
    record { plain = stays.0; keywords = stays.1 }
