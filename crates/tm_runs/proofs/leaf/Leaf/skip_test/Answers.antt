use Rattle.std.proofs.Common.{◌≡◌, ◌∙◌, ◌+◌, ◌-◌, ℕ, Bool, ap, sym, subst, Some}
use Rattle.std.specs.Prelude.{if◌then◌else◌}
use Rattle.tm_values.specs.Truth.{is_undefined}
use Rattle.tm_runs.specs.Leaves.{LeafRun, SkipsTest, text_of}
use Rattle.tm_runs.proofs.Leaves.{tested_top}
use Rattle.tm_runs.proofs.leaf.Leaf.skip_test.Goals as goal
use Rattle.tm_runs.proofs.leaf.Leaf.skip_test.Goals.{then-is_undefined, else-is_undefined}

pub returns : goal.returns
returns c =
    let old : LeafRun = record {
      place = c.self.inside.place;
      operands = c.self.inside.operands;
      names = c.self.inside.names;
      text = text_of c.self.inside.text;
      fuel = c.self.inside.fuel;
    } in
    let n = c.in-Some-JumpIfFalse.place in
    let v = c.in-Some.top.now in
    let new : LeafRun = record old { place = c.if-is_undefined.next; fuel = old.fuel - 2 } in
    let next : c.if-is_undefined.next ≡ if is_undefined v then old.place + 3 else n =
    elim c.if-is_undefined.branch as (λ _. c.if-is_undefined.next ≡ if is_undefined v then old.place + 3 else n) [
      | then-is_undefined w ↦ w.next-is
          ∙ ap (λ (b : Bool). if b then old.place + 3 else n) (sym w.if-is_undefined.true ∙ c.is_undefined.ensures)
      | else-is_undefined w ↦ w.next-is
          ∙ ap (λ (b : Bool). if b then old.place + 3 else n) (sym w.if-is_undefined.false ∙ c.is_undefined.ensures)
    ] in
    subst (λ (l : LeafRun). SkipsTest c.args.code.now l new) c.self.view_is
    (tested_top c.args.code.now old new v c.in-Some.ensures.0 n c.in-Some.ensures.1
    (c.in-Some-IsUndefined.ensures.found ∙ ap Some c.in-Some-IsUndefined.field-0-is)
    (c.in-Some-JumpIfFalse.ensures.found ∙ ap Some c.in-Some-JumpIfFalse.field-0-is)
    (ap (λ (k : ℕ). record old { place = k; fuel = old.fuel - 2 }) next))
