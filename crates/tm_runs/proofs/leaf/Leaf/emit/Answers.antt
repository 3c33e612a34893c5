use Rattle.std.proofs.Common.{◌≡◌, ◌∙◌, ◌+◌, ◌-◌, ◌++◌, ℕ, Option, ap, sym, subst, List, drop}
use Rattle.tm_definitions.specs.Emitted.{emitted_text}
use Rattle.tm_values.specs.Val.{Val}
use Rattle.tm_runs.specs.Leaves.{EmitsTop, LeafRun, advanced, text_of}
use Rattle.tm_runs.proofs.Leaves.{emitted_top}
use Rattle.tm_runs.proofs.leaf.Leaf.emit.Goals as goal

pub returns-clause-emits : goal.returns-clause-emits
returns-clause-emits c = λ _.
    let old : LeafRun = record {
      place = c.self.inside.place;
      operands = c.self.inside.operands;
      names = c.self.inside.names;
      text = text_of c.self.inside.text;
      fuel = c.self.inside.fuel;
    } in
    subst (λ (l : LeafRun). EmitsTop c.args.escape l c.advance.new.self) c.self.view_is
    (emitted_top c.args.escape old c.advance.new.self c.in-Some.value.now c.in-Some.ensures.0 c.emit_at_once.new.target c.in-Some.ensures.1
    (λ r. let e = (rw c.in-Some-Ok.field-0-is at c.in-Some-Ok.ensures) r in (
      e.0,
      e.1,
      e.2
          ∙ ap (λ (o : Option (List ℕ)). text_of o ++ emitted_text c.args.escape r c.in-Some.value.now) (sym c.in-Some-text.is),
    ))
    (c.advance.ensures ∙ ap (λ (vs : List Val). advanced (record old { operands = vs; text = c.emit_at_once.new.target })) c.drop_top.ensures))
