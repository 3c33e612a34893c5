use Rattle.std.proofs.Common.{arith, reverse}
use Rattle.std.proofs.lemmas.List.{length-reverse}
use Rattle.tm_meaning.specs.World.{stored_in}
use Rattle.tm_scopes.specs.Marks.{framed}
use Rattle.tm_scopes.proofs.Framed.{added-there, replaced-there, seen-as}
use Rattle.tm_scopes.proofs.context.Context.put.Goals as goal

pub invariant_of-self : goal.invariant_of-self
invariant_of-self c =
    let marks = c.self.inside.marks.items in
    (replaced-there c.args.name.now c.args.value (reverse marks) c.deref.result.now c.self.inside.pairs.items c.self.inside.top c.in-Some.place
    c.index_mut.result.now c.self.invariant (omega (arith, length-reverse marks, c.len.ensures, c.if-len-eq0.false))
    c.deref.ensures.value c.in-Some.ensures c.index_mut.ensures.value).0

pub returns-in-Some : goal.returns-in-Some
returns-in-Some c =
    let marks = c.self.inside.marks.items in
    let all = c.self.inside.pairs.items in
    seen-as (stored_in c.args.name.now c.args.value) (framed (reverse marks) all) _ c.self.inside.outer c.args.self.now
    (replaced-there c.args.name.now c.args.value (reverse marks) c.deref.result.now all c.self.inside.top c.in-Some.place
    c.index_mut.result.now c.self.invariant (omega (arith, length-reverse marks, c.len.ensures, c.if-len-eq0.false))
    c.deref.ensures.value c.in-Some.ensures c.index_mut.ensures.value).1 c.self.view_is

pub invariant_of-self-in-None : goal.invariant_of-self-in-None
invariant_of-self-in-None c =
    let marks = c.self.inside.marks.items in
    (added-there c.args.name.now c.in-Ok.name c.args.value (reverse marks) c.deref.result.now c.self.inside.pairs.items
    c.push_reserved.new.self.items c.self.inside.top c.self.invariant
    (omega (arith, length-reverse marks, c.len.ensures, c.if-len-eq0.false))
    c.deref.ensures.value (omega (arith, c.if-own-ge-SCANNED.false)) c.in-None.ensures c.in-Ok.ensures c.push_reserved.ensures.items).0

pub returns-in-Ok : goal.returns-in-Ok
returns-in-Ok c =
    let marks = c.self.inside.marks.items in
    let all = c.self.inside.pairs.items in
    seen-as (stored_in c.args.name.now c.args.value) (framed (reverse marks) all) _ c.self.inside.outer c.args.self.now
    (added-there c.args.name.now c.in-Ok.name c.args.value (reverse marks) c.deref.result.now all
    c.push_reserved.new.self.items c.self.inside.top c.self.invariant
    (omega (arith, length-reverse marks, c.len.ensures, c.if-len-eq0.false))
    c.deref.ensures.value (omega (arith, c.if-own-ge-SCANNED.false)) c.in-None.ensures c.in-Ok.ensures c.push_reserved.ensures.items).1
    c.self.view_is
