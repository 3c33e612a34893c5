use Rattle.std.proofs.Common.{◌≡◌, ◌∙◌, ◌-◌, ℕ, List, sym, subst, slice_index_or}
use Rattle.tm_meaning.specs.Instructions.{is_heard}
use Rattle.tm_meaning.specs.Machine.{Capture}
use Rattle.tm_parts.proofs.Innermost.{emitted_or_stays}
use Rattle.tm_parts.proofs.output.Captures.emit_at_once.Goals as goal

pub returns : goal.returns
returns c =
    let xs = c.self.inside.«open».items in
    let n = c.len-count.result in
    let seen = subst (λ (k : Capture). k ≡ slice_index_or xs (n - 1) k) (sym c.behind-self.view_is) c.index_mut.ensures.value in
    rw (sym c.self.view_is)
    (emitted_or_stays c.emit_at_once.result xs n (is_heard c.behind-self.inside.mode) c.behind-self.inside.text c.emit_at_once.new.target
    (λ (bytes : List ℕ). bytes) c.args.escape c.args.value.now (c.len-count.ensures ∙ c.self.inside.«open».ok.0) c.if-count-eq0.false seen
    c.emit_at_once.ensures)
