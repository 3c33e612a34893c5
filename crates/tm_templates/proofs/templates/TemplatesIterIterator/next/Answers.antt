use Rattle.std.proofs.Common.{ℕ, List, ap, arith}
use Rattle.tm_syntax.specs.Named.{named_of}
use Rattle.std.specs.Rc.{rc_str_bytes}
use Rattle.tm_templates.proofs.Placed.{first_placed, rest_placed}
use Rattle.tm_templates.proofs.templates.TemplatesIterIterator.next.Goals as goal

pub index-entry-requires : goal.index-entry-requires
index-entry-requires c =
    let es = c.self.inside.entries.now.items in
    let first : List ℕ × ℕ = (rc_str_bytes c.in_ok-_name._name.now, c.in_ok-_name.place.now) in
    let placed = rest_placed es (named_of c.self.inside.places) (named_of c.next.new.self) first (ap named_of c.in_ok-_name.ensures.steps)
    c.self.invariant in
    omega (arith, placed.0.in_range, c.self.inside.entries.now.ok.0)

pub invariant_of-self-2 : goal.invariant_of-self-2
invariant_of-self-2 c =
    let es = c.self.inside.entries.now.items in
    let first : List ℕ × ℕ = (rc_str_bytes c.in_ok-_name._name.now, c.in_ok-_name.place.now) in
    (rest_placed es (named_of c.self.inside.places) (named_of c.next.new.self) first (ap named_of c.in_ok-_name.ensures.steps)
    c.self.invariant).1

pub returns-clause-steps : goal.returns-clause-steps
returns-clause-steps c =
    let es = c.self.inside.entries.now.items in
    let ps = named_of c.self.inside.places in
    let first : List ℕ × ℕ = (rc_str_bytes c.in_ok-_name._name.now, c.in_ok-_name.place.now) in
    let is = ap named_of c.in_ok-_name.ensures.steps in
    let placed = rest_placed es ps (named_of c.next.new.self) first is c.self.invariant in
    first_placed es ps (named_of c.next.new.self) c.args.self.now first c.index-entry.result.now is c.self.view_is placed.0 c.index-entry.ensures
