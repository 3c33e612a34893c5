use Rattle.std.proofs.Common.{◌≡◌, ◌∙◌, Bool, List, ℕ, [], ◌∷◌, ◌++◌, Option, ap, reverse, take, Err, subst, sym, rules}
use Rattle.std.proofs.lemmas.List.{append-nil, reverse-append}
use Rattle.std.specs.Io.KnownBytes.{Appends}
use Rattle.tm_meaning.specs.Instructions.{is_heard}
use Rattle.tm_meaning.specs.Machine.{Capture, put_in, put_out}
use Rattle.tm_output.specs.Counts.{AppendsBeginning, Told}
use Rattle.tm_output.specs.Pieces.{appends_beginning}
use Rattle.tm_output.specs.Targets.{StringGrows, StringGrowsInPart, WriterTakes, WriterTakesInPart}
use Rattle.tm_printing.specs.Left.{Writes}
use Rattle.tm_printing.specs.declared.rest.Unwritten.{Unwritten}
use Rattle.tm_printing.specs.declared.rest.Unwritten.TheVariants as unwritten
use Rattle.tm_parts.proofs.output.Captures.emit.Goals as goal
use Rattle.tm_parts.proofs.output.Captures.emit.Goals.{in-Ok, in-Err-Target, in-Err-Memory, in-Ok-appended, in-Err}

-- a whole text is a beginning of it
whole : (told now : Option (List ℕ)) (text : List ℕ) → Appends told now text → AppendsBeginning told now text
whole told now text h = subst (λ (l : List ℕ). AppendsBeginning told now l) (append-nil text) (appends_beginning told now text [] h)

-- where no capture is open
outside : (captures : List Capture) (told now : Option (List ℕ)) (text : List ℕ) → captures ≡ [] → AppendsBeginning told now text →
    AppendsBeginning told now (put_out captures text)
outside captures told now text is h = subst (λ (c : List Capture). AppendsBeginning told now (put_out c text)) (sym is) h

-- a writer that wasn't given the text to its end was given a beginning, whatever the reason
told_part : {S : Type 0} (told : S → Told) (e : Unwritten) (before after : S) (text : List ℕ)
    → Writes {U = Unit {0}} (WriterTakes told) (WriterTakesInPart told) (Err e) before text after
    → AppendsBeginning (told before).bytes (told after).bytes text
told_part told unwritten.Target before after text h = h.0
told_part told unwritten.Memory before after text h = (h.0, h.1.0)

pub returns-in_default-clause-beginning : goal.returns-in_default-clause-beginning
returns-in_default-clause-beginning g c =
    let none : c.args.self.now ≡ [] = search rules in
    elim c.match-emit.branch [
      | in-Ok w ↦ outside c.args.self.now _ _ _ none (whole _ _ _ w.in-Ok.ensures.0)
      | in-Err-Target w ↦ outside c.args.self.now _ _ _ none
          (told_part g.W.Sink.told w.in-Err-Target.field-0 _ _ _ w.in-Err-Target.ensures)
      | in-Err-Memory w ↦ outside c.args.self.now _ _ _ none
          (told_part g.W.Sink.told w.in-Err-Memory.field-0 _ _ _ w.in-Err-Memory.ensures)
    ]

-- a capture whose text grew, above the others as they were
grown : (heard : Bool) (before after t : List ℕ) (k : Capture) (rest old now : List Capture)
    → record { heard = heard; text = before } ≡ k → after ≡ before ++ t
    → old ≡ k ∷ rest → now ≡ record { heard = heard; text = after } ∷ rest → now ≡ put_in old t
grown heard before after t k rest old now seen more old_is now_is =
    let longer : record { heard = heard; text = after } ≡ record k { text = k.text ++ t } =
    ap (λ (text : List ℕ). record { heard = heard; text = text }) more ∙ ap (λ (l : Capture). record l { text = l.text ++ t }) seen in
    now_is ∙ ap (λ (l : Capture). l ∷ rest) longer ∙ ap (λ (ks : List Capture). put_in ks t) (sym old_is)

-- a capture whose text wasn't put to its end took a beginning, whatever the reason
part_of : {S : Type 0} (bytes : S → List ℕ) (e : Unwritten) (before after : S) (text : List ℕ)
    → Writes {U = Unit {0}} (StringGrows bytes) (StringGrowsInPart bytes) (Err e) before text after
    → (n : ℕ) × (bytes after ≡ bytes before ++ take n text)
part_of bytes unwritten.Target before after text h = h
part_of bytes unwritten.Memory before after text h = h

pub returns-clause-part : goal.returns-clause-part
returns-clause-part g c =
    elim c.match-appended.branch [
      | in-Ok-appended w ↦ search rules
      | in-Err w ↦
          let part = part_of (λ (bytes : List ℕ). bytes) w.in-Err.field-0 _ _ _ w.in-Err.ensures in
          let below : List Capture = c.pop.new.self.items in
          let after : Capture = record { heard = is_heard c.innermost.inside.mode; text = c.emit-appended.new.target } in
          let old_is : c.args.self.now ≡ c.in-Some.innermost ∷ reverse below =
          sym c.self.view_is ∙ ap reverse c.in-Some.ensures.items ∙ reverse-append below (c.in-Some.innermost ∷ []) in
          let now_is : reverse c.push_reserved.new.self.items ≡ after ∷ reverse below =
          ap reverse c.push_reserved.ensures.items ∙ reverse-append below (after ∷ []) in
          rw w.result-is (
            part.0,
            grown _ _ _ _ _ (reverse below) _ _ c.innermost.view_is part.1 old_is now_is,
          )
    ]
