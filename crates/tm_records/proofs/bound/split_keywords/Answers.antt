use Rattle.std.proofs.Common.{◌≡◌, ◌++◌, ◌∷◌, [], ◌∙◌, ap, rules}
use Rattle.tm_operations.proofs.Puts.{split, unsplit}
use Rattle.tm_values.proofs.Lists.{entries_of-pairs_of}
use Rattle.tm_values.specs.Val.{entries_in, keywords, pairs_of}
use Rattle.tm_records.proofs.bound.split_keywords.Goals as goal

pub returns-in-Keywords-clause-plain : goal.returns-in-Keywords-clause-plain
returns-in-Keywords-clause-plain c =
    let whole : c.args.args.now ≡ c.in-Some.before.now ++ c.in-Some.last.now ∷ [] = search rules in
    let last : c.in-Some.last.now ≡ keywords (pairs_of c.in-Keywords.field-0.value.items) = search rules in
    (split c.args.args.now c.in-Some.before.now c.in-Some.last.now c.in-Keywords.field-0.value.items whole last).0

pub returns-in-Keywords-clause-keywords : goal.returns-in-Keywords-clause-keywords
returns-in-Keywords-clause-keywords c =
    let pairs = c.in-Keywords.field-0.value.items in
    let whole : c.args.args.now ≡ c.in-Some.before.now ++ c.in-Some.last.now ∷ [] = search rules in
    let last : c.in-Some.last.now ≡ keywords (pairs_of pairs) = search rules in
    ap entries_in last ∙ entries_of-pairs_of pairs ∙ (split c.args.args.now c.in-Some.before.now c.in-Some.last.now pairs whole last).1

pub returns-in_default-node : goal.returns-in_default-node
returns-in_default-node c =
    let whole : c.args.args.now ≡ c.in-Some.before.now ++ c.in-Some.last.now ∷ [] = search rules in
    let stays = unsplit c.args.args.now c.in-Some.before.now c.last.inside.node c.in-Some.last.now whole c.last.view_is
    c.in_default-node.not-Keywords in
    record { plain = stays.0; keywords = stays.1 }
