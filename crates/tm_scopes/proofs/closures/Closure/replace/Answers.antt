use Rattle.std.proofs.Common.{◌∙◌, refl, ap, sym, subst}
use Rattle.tm_syntax.specs.Named.{find}
use Rattle.tm_scopes.specs.Closures.{IsReplaced}
use Rattle.tm_scopes.specs.Pairs.{in_order}
use Rattle.tm_scopes.proofs.Ordered.{find-hashed, find-in_order, none_of, replaced_by}
use Rattle.tm_scopes.proofs.closures.Closure.replace.Goals as goal

pub returns-then-not-contains_key : goal.returns-then-not-contains_key
returns-then-not-contains_key c =
    let x = c.args.name in
    let entries = c.self.inside.names.entries in (
      refl,
      ap (find x) (sym c.self.view_is) ∙ find-in_order x entries ∙ sym (find-hashed x entries)
          ∙ none_of _ (sym c.contains_key.ensures ∙ c.if-not-contains_key.true),
    )

pub returns : goal.returns
returns c =
    let x = c.args.name in
    let entries = c.self.inside.names.entries in
    subst (λ old. IsReplaced c.is_ok.result x c.args.value old (in_order c.insert.new.self.entries)) c.self.view_is
    (replaced_by c.insert.result c.is_ok.result x c.args.value entries c.insert.new.self.entries c.is_ok.ensures.value
    c.insert.ensures.absent (sym c.contains_key.ensures ∙ c.if-not-contains_key.false) c.insert.ensures.entries)
