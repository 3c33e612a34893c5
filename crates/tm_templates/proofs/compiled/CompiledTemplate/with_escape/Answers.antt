use Rattle.std.proofs.Common.{◌≡◌, ℕ, List, Result, Ok, Err, IsErrAnd, rules, subst, sym}
use Rattle.std.specs.Prelude.{IfErr}
use Rattle.tm_templates.specs.Sources.{source_bytes}
use Rattle.tm_templates.specs.Templates.{IsRefused}
use Rattle.tm_templates.proofs.compiled.CompiledTemplate.with_escape.Goals as goal

-- an error that was passed on
passed : {T E : Type 0} (r : Result T E) (P : E → Type 0) (e : E) → IsErrAnd r (λ x. x ≡ e) → P e → IfErr r P
passed (Ok x) P e is p = absurd is
passed (Err y) P e is p = subst P (sym is) p

pub returns-in_err-tree-clause-refused : goal.returns-in_err-tree-clause-refused
returns-in_err-tree-clause-refused c =
    let why = c.in_err-tree.field-0.0 in
    let given = subst (λ (s : List ℕ). IsRefused c.args.syntax.now s why) c.in_ok-text.ensures.shared
    c.in_err-tree.ensures.refused in
    passed c.from_residual-in_err-tree.result
    (IsRefused c.args.syntax.now (source_bytes c.args.source)) why c.from_residual-in_err-tree.ensures.1 given

pub returns-clause-refused : goal.returns-clause-refused
returns-clause-refused c = search rules fits 100
