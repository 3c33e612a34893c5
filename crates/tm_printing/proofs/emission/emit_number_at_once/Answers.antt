use Rattle.std.proofs.Common.{inl, inr, rules}
use Rattle.tm_definitions.specs.Texts.{in_html}
use Rattle.tm_printing.specs.Decimals.{html_keeps_decimals}
use Rattle.tm_printing.proofs.Decimals.{signed_kept}
use Rattle.tm_printing.proofs.emission.emit_number_at_once.Goals as goal

-- the number's own text is also its HTML
pub returns-in-None : goal.returns-in-None
returns-in-None g c =
    let kept = signed_kept in_html html_keeps_decimals c.args.whole c.ranges.whole in
    elim c.in-None.is [
      | inl none ↦ rw none (search rules)
      | inr html ↦ rw (html, kept) (search rules)
    ]
