use Rattle.std.proofs.Common.{◌≡◌, ap, sym, ◌∙◌, Err, List}
use Rattle.tm_printing.proofs.Checks.{goes_missing, goes_open, skipped}
use Rattle.tm_printing.specs.Unchecked.{mark_at, IsUnmet}
use Rattle.tm_printing.specs.declared.check.Mark.{Mark}
use Rattle.tm_printing.specs.declared.check.Mark.TheVariants as mark
use Rattle.tm_printing.proofs.check.enter_namespace.Goals as goal

pub returns-in_default-clause-verdict : goal.returns-in_default-clause-verdict
returns-in_default-clause-verdict g c = λ m v h.
    goes_missing c.args.form (g.R.Records.records c.args.records.now) c.args.state c.args.index c.args.left.now.items c.args.marks.now.items v
    c.in_default.ensures h ∙ ap Err (sym c.from.ensures)

pub returns-in-Fine-clause-verdict : goal.returns-in-Fine-clause-verdict
returns-in-Fine-clause-verdict g c = λ v h.
    let n = c.args.index in
    let marked : mark_at c.args.marks.now.items n ≡ mark.Fine =
    ap (λ (ms : List Mark). mark_at ms n) (sym c.as_slice.ensures.value) ∙ (sym c.mark_at.ensures ∙ c.in-Fine.is) in
    skipped c.args.form (g.R.Records.records c.args.records.now) v c.args.state n c.in-Some.entries.now c.args.left.now.items
    c.args.marks.now.items c.in-Some.ensures marked h

pub returns-in-Open-clause-verdict : goal.returns-in-Open-clause-verdict
returns-in-Open-clause-verdict g c = λ m v h.
    let n = c.args.index in
    let marked : mark_at c.args.marks.now.items n ≡ mark.Open =
    ap (λ (ms : List Mark). mark_at ms n) (sym c.as_slice.ensures.value) ∙ (sym c.mark_at.ensures ∙ c.in-Open.is) in
    goes_open c.args.form (g.R.Records.records c.args.records.now) c.args.state n c.args.left.now.items c.args.marks.now.items v marked h
    ∙ ap Err (sym c.from-in-Open.ensures)

pub returns-in-Unmet : goal.returns-in-Unmet
returns-in-Unmet g c =
    let r = g.R.Records.records c.args.records.now in
    let n = c.args.index in
    let marked : mark_at c.args.marks.now.items n ≡ mark.Unmet =
    ap (λ (ms : List Mark). mark_at ms n) (sym c.as_slice.ensures.value) ∙ (sym c.mark_at.ensures ∙ c.in-Unmet.is) in
    let unmet : IsUnmet r c.args.state n c.in-Some.entries.now c.args.marks.now.items = record {
      there = c.in-Some.ensures;
      mark = marked;
    } in
    record {
      verdict = c.open_namespace.ensures.verdict c.args.form r c.args.state unmet;
      weight = c.open_namespace.ensures.weight r c.args.state unmet;
    }
