use Rattle.std.proofs.lemmas.List.Filters.{dedup_is}
use Rattle.std.proofs.lemmas.List.Kept.{IsStrictlySortedBy-dedup}
use Rattle.std.specs.Cmp.Lexicographic.{on_texts, texts_ties}
use Rattle.tm_scopes.proofs.Known.{among-sorted, sorted-texts}
use Rattle.tm_scopes.proofs.pairs.in_order.Goals as goal

pub returns : goal.returns
returns c =
    let is = dedup_is _ _ _ c.dedup.ensures.filtered in
    record {
      order = rw is (sorted-texts _ (IsStrictlySortedBy-dedup (on_texts (λ x. x.now))
          (λ x y. texts_ties x.now y.now) _ c.sort_unstable.ensures.sorted));
      same = λ x. rw is (among-sorted _ _ c.sort_unstable.ensures.permutation x);
    }
