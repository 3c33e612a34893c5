use Rattle.std.proofs.Common.{◌∙◌, ◌++◌, ◌∷◌, [], ◌-◌, ap, sym, subst, arith}
use Rattle.std.specs.BTreeMap.{insert_entry}
use Rattle.tm_syntax.specs.Hashed.{hashed_cmp}
use Rattle.tm_scopes.specs.Marks.{KeepsOthers, Stores, index_of, scanned}
use Rattle.tm_scopes.proofs.Marks.{drop-length, kept_few, kept_many, stored_more}
use Rattle.tm_scopes.proofs.mark.ScopeMark.add.Goals as goal

pub returns-then-count-lt-SCANNED-clause-kept : goal.returns-then-count-lt-SCANNED-clause-kept
returns-then-count-lt-SCANNED-clause-kept c =
    let m = c.args.self.now in
    let all = c.args.all.now.items in
    subst (λ l. KeepsOthers m m all l) (sym c.in_ok-push.ensures.items)
    (kept_few m all c.args.name c.args.value c.requires.marked
    (omega (arith, drop-length m.first all, c.len.ensures, c.if-count-lt-SCANNED.true)))

pub returns-then-count-lt-SCANNED-clause-ok : goal.returns-then-count-lt-SCANNED-clause-ok
returns-then-count-lt-SCANNED-clause-ok c =
    let m = c.args.self.now in
    let all = c.args.all.now.items in
    subst (λ l. Stores c.args.name c.args.value m all l) (sym c.in_ok-push.ensures.items)
    (stored_more m all c.args.name c.args.value c.requires.marked c.requires.lacks)

pub returns-clause-kept : goal.returns-clause-kept
returns-clause-kept c =
    let m = c.args.self.now in
    let all = c.args.all.now.items in
    let added = all ++ (c.args.name, c.args.value) ∷ [] in
    let is = c.push_reserved.ensures.items ∙ ap (λ l. l ++ (c.args.name, c.args.value) ∷ []) c.reserve.ensures.items in
    subst (λ l. KeepsOthers m c.add_to_index.new.self all l) (sym is)
    (kept_many m all c.args.name c.args.value c.add_to_index.new.self ((c.len.result - m.first) - scanned) c.requires.marked
    (omega (arith, drop-length m.first all, c.len.ensures, c.if-count-lt-SCANNED.false))
    (omega (arith, drop-length m.first all, c.len.ensures)) c.requires.lacks c.add_to_index.ensures.rest
    (c.in_ok-add_to_index.ensures.ok ∙ ap (λ y. insert_entry hashed_cmp (index_of m) y ((c.len.result - m.first) - scanned)) c.in_ok-share.ensures))

pub returns-clause-ok : goal.returns-clause-ok
returns-clause-ok c =
    let m = c.args.self.now in
    let all = c.args.all.now.items in
    let is = c.push_reserved.ensures.items ∙ ap (λ l. l ++ (c.args.name, c.args.value) ∷ []) c.reserve.ensures.items in
    subst (λ l. Stores c.args.name c.args.value m all l) (sym is)
    (stored_more m all c.args.name c.args.value c.requires.marked c.requires.lacks)
