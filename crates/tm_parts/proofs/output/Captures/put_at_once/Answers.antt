use Rattle.std.proofs.Common.{◌≡◌, ◌∙◌, ◌-◌, is_ok, sym, subst, slice_index_or}
use Rattle.tm_meaning.specs.Instructions.{is_heard}
use Rattle.tm_meaning.specs.Machine.{Capture}
use Rattle.tm_parts.proofs.Innermost.{put_or_stays, taken_or_not}
use Rattle.tm_parts.proofs.output.Captures.put_at_once.Goals as goal

pub returns : goal.returns
returns c =
    let xs = c.self.inside.«open».items in
    let n = c.len-count.result in
    let seen = subst (λ (k : Capture). k ≡ slice_index_or xs (n - 1) k) (sym c.behind-self.view_is) c.index_mut.ensures.value in
    rw (c.is_ok.ensures.value, sym c.self.view_is)
    (put_or_stays (is_ok c.push_str.result) xs n (is_heard c.behind-self.inside.mode) c.behind-self.inside.text
    c.push_str.new.self c.args.text.now (c.len-count.ensures ∙ c.self.inside.«open».ok.0) c.if-count-eq0.false seen
    (taken_or_not c.push_str.result _ _ _ c.push_str.ensures.ok c.push_str.ensures.err))
