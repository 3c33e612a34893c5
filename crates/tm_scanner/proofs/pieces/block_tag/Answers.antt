use Rattle.std.proofs.Common.{◌≡◌, inr, ℕ, List, ◌++◌, arith, sym, ◌∙◌, ap, length}
use Rattle.tm_delimiters.proofs.Ends.{known_on, rest_fits, until_parts}
use Rattle.tm_delimiters.specs.Whitespace.{ends_here, to_end}
use Rattle.tm_scanner.proofs.Refusals.{refused_by, passed}
use Rattle.tm_scanner.proofs.Rests.{rest_joined}
use Rattle.tm_scanner.proofs.Sources.{a_block, no_block}
use Rattle.tm_scanner.proofs.pieces.block_tag.Goals as goal

pub last_parts-requires : goal.last_parts-requires
last_parts-requires c =
    let parts = until_parts (ends_here c.args.by.now) c.args.text.now ∙ ap (λ (r : List ℕ × List ℕ). r.0 ++ r.1) (sym c.to_end.ensures) in
    rest_joined c.args.text.now c.to_end.result.0.now c.to_end.result.1.now c.in-Some.left.now parts c.in-Some.ensures.rest

pub content-requires : goal.content-requires
content-requires c =
    let parts = until_parts (ends_here c.args.by.now) c.args.text.now ∙ ap (λ (r : List ℕ × List ℕ). r.0 ++ r.1) (sym c.to_end.ensures) in
    let rest = rest_joined c.args.text.now c.to_end.result.0.now c.to_end.result.1.now c.in-Some.left.now parts c.in-Some.ensures.rest in
    rw c.last_parts.ensures
    (known_on c.args.by.now c.args.text.now (c.in-Some.left.now ++ c.to_end.result.1.now) c.to_end.result.1.now rest
    (inr (ap (λ (r : List ℕ × List ℕ). r.1) c.to_end.ensures)))

pub returns-clause-found : goal.returns-clause-found
returns-clause-found c =
    let front : c.to_end.result.0.now ≡ (to_end c.args.by.now c.args.text.now).0 = ap (λ (r : List ℕ × List ℕ). r.0) c.to_end.ensures in
    let back : c.to_end.result.1.now ≡ (to_end c.args.by.now c.args.text.now).1 = ap (λ (r : List ℕ × List ℕ). r.1) c.to_end.ensures in
    let content = c.in_ok-end.ensures.found in
    a_block c.args.by.now c.args.text.now c.in-Some.left.now c.last_parts.result.now c.in-Some.tag content.0 _ _ _ _ _
    (rw front at c.in-Some.ensures.value) (c.last_parts.ensures ∙ ap (λ w. c.in-Some.left.now ++ w) back) content.1
    c.in_ok-push.ensures.items content.2 c.in_ok-push-2.ensures.items

pub returns-clause-no_longer : goal.returns-clause-no_longer
returns-clause-no_longer c =
    let parts = until_parts (ends_here c.args.by.now) c.args.text.now ∙ ap (λ (r : List ℕ × List ℕ). r.0 ++ r.1) (sym c.to_end.ensures) in
    let rest = rest_joined c.args.text.now c.to_end.result.0.now c.to_end.result.1.now c.in-Some.left.now parts c.in-Some.ensures.rest in
    let fits = rest_fits (c.in-Some.left.now ++ c.to_end.result.1.now) c.args.text.now rest in
    omega (arith, c.in_ok-end.ensures.no_longer, ap length c.last_parts.ensures, fits)

pub returns-in_err-end-clause-refused : goal.returns-in_err-end-clause-refused
returns-in_err-end-clause-refused c =
    let e = c.in_err-end.field-0.0 in
    let front : c.to_end.result.0.now ≡ (to_end c.args.by.now c.args.text.now).0 = ap (λ (r : List ℕ × List ℕ). r.0) c.to_end.ensures in
    let back : c.to_end.result.1.now ≡ (to_end c.args.by.now c.args.text.now).1 = ap (λ (r : List ℕ × List ℕ). r.1) c.to_end.ensures in
    passed c.from_residual-in_err-end.result _ e c.from_residual-in_err-end.ensures.1
    (refused_by e (no_block c.args.by.now c.args.text.now c.in-Some.left.now c.last_parts.result.now c.in-Some.tag
    (rw front at c.in-Some.ensures.value) (c.last_parts.ensures ∙ ap (λ w. c.in-Some.left.now ++ w) back))
    c.in_err-end.ensures.refused)
