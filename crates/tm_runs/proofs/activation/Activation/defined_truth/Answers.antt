use Rattle.std.proofs.Common.{◌∙◌, Ok, ap, sym}
use Rattle.tm_meaning.specs.Machine.{Activation}
use Rattle.tm_runs.proofs.Defined.{truth_defined}
use Rattle.tm_runs.proofs.activation.Activation.defined_truth.Goals as goal

pub returns : goal.returns
returns c =
    let found = c.in_ok-value.ensures in
    let v = c.in_ok-value.value.now in (
      v,
      found.0,
      ap (λ (r : Activation). r.operands) (sym c.self.view_is) ∙ found.1,
      λ u. truth_defined v (sym c.is_undefined.ensures ∙ c.if-is_undefined.false) u ∙ ap (λ b. Ok b) (sym c.is_true.ensures),
    )
