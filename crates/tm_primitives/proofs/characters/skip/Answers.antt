use Rattle.std.proofs.Common.{List, ℕ, take, subst}
use Rattle.std.specs.Str.{IsAscii}
use Rattle.tm_primitives.proofs.Texts.{ascii_boundary, after_ascii}
use Rattle.tm_primitives.proofs.characters.skip.Goals as goal

pub range_from-requires : goal.range_from-requires
range_from-requires c =
    let ascii = subst (λ (s : List ℕ). IsAscii (take c.args.place s)) c.as_bytes.ensures.value c.if-is_ascii.ensures.cases in
    λ h. ascii_boundary c.args.text.now c.args.place c.utf8.text c.if-place-text.true ascii

pub returns-then-is_ascii : goal.returns-then-is_ascii
returns-then-is_ascii c =
    let ascii = subst (λ (s : List ℕ). IsAscii (take c.args.place s)) c.as_bytes.ensures.value c.if-is_ascii.ensures.cases in
    after_ascii c.args.text.now c.range_from.result.now c.args.place c.if-place-text.true ascii c.range_from.ensures.value
