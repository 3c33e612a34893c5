use Rattle.std.proofs.Common.{◌≡◌, ◌∙◌, ◌+◌, ◌-◌, ◌∷◌, ap, sym, Some, arith, List}
use Rattle.tm_values.specs.Val.{Val}
use Rattle.tm_syntax.specs.Named.{find}
use Rattle.tm_runs.specs.Leaves.{LeafRun, advanced, text_of}
use Rattle.tm_runs.proofs.leaf.Leaf.lookup.Goals as goal

pub returns-clause-looks_up : goal.returns-clause-looks_up
returns-clause-looks_up c = λ _.
    let v = c.in-Some.value.now in (
      v,
      ap (λ (l : LeafRun). find c.args.name.now l.names) (sym c.self.view_is) ∙ c.in-Some.ensures,
      c.advance.ensures ∙ ap (λ (vs : List Val). advanced (record {
        place = c.self.inside.place;
        operands = vs;
        names = c.self.inside.names;
        text = text_of c.self.inside.text;
        fuel = c.self.inside.fuel;
      })) c.if-not-push_shared.ensures
          ∙ ap (λ (l : LeafRun). record (advanced l) { operands = v ∷ l.operands }) c.self.view_is,
    )
