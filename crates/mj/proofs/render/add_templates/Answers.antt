use Rattle.std.proofs.Common.{rules, ◌≡◌, ℕ, List, ◌∷◌, map, ap, Bor, Global}
use Rattle.std.specs.declared.string.String.{String}
use Rattle.mj.specs.Program.{named}
use Rattle.mj.proofs.Added.{put_next, next_refused}
use Rattle.mj.proofs.Lists.{passed_fault}
use Rattle.mj.proofs.render.add_templates.Goals as goal

-- one more source was put
pub loop-file-preserved : goal.loop-file-preserved
loop-file-preserved g c =
    let now = c.loop-file in
    let item : Bor (List ℕ) × String Global = (c.in-Some.file, c.in-Some.source) in
    let next : now.file-iterator.rest.items ≡ item ∷ c.next.new.self.rest.items = search rules in
    let put = c.in_ok-add_template_owned.ensures.ok in
    let done = put_next g.P.Parties.stated c.args.environment.now now.environment now.invariant.same
    (map named c.args.sources.items) (map named c.next.new.self.rest.items) (named item)
    (map named now.file-iterator.rest.items) (ap (λ items. map named items) next) now.invariant.adding
    put.0 put.1 c.add_template_owned.new.self put.2 in
    record { same = done.0; adding = done.1 }

-- a source was refused
pub returns-in_err-add_template_owned-clause-refused : goal.returns-in_err-add_template_owned-clause-refused
returns-in_err-add_template_owned-clause-refused g c =
    let now = c.loop-file in
    let item : Bor (List ℕ) × String Global = (c.in-Some.file, c.in-Some.source) in
    let next : now.file-iterator.rest.items ≡ item ∷ c.next.new.self.rest.items = search rules in
    let r = c.in_err-add_template_owned in
    passed_fault c.from_residual.result _ r.field-0.0 c.from_residual.ensures.1
    (next_refused g.P.Parties.stated c.args.environment.now now.environment now.invariant.same
    (map named c.args.sources.items) (map named c.next.new.self.rest.items) (named item)
    (map named now.file-iterator.rest.items) (ap (λ items. map named items) next) now.invariant.adding r.field-0.0 r.ensures.refused)
