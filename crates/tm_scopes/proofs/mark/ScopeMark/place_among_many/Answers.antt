use Rattle.std.proofs.Common.{sym, subst, arith, Some, None}
use Rattle.tm_scopes.specs.Marks.{scanned}
use Rattle.tm_scopes.specs.Pairs.{IsPlace}
use Rattle.std.specs.Prelude.{drop}
use Rattle.tm_scopes.proofs.Marks.{drop-length, none_both, place_before, place_behind}
use Rattle.tm_scopes.proofs.Ordered.{place_within}
use Rattle.tm_scopes.proofs.mark.ScopeMark.place_among_many.Goals as goal

pub returns-in-Some : goal.returns-in-Some
returns-in-Some c = place_before c.args.name.now scanned c.args.own.now c.in-Some.place c.in-Some.ensures

pub returns-in-Some-indexed : goal.returns-in-Some-indexed
returns-in-Some-indexed c =
    let x = c.args.name.now in
    let own = c.args.own.now in
    let there : IsPlace x (drop scanned own) (Some c.in-Some-indexed.place) =
    subst (IsPlace x (drop scanned own)) (sym c.in-Some-indexed.ensures) (c.requires.indexed x) in
    place_behind x scanned own c.in-Some-indexed.place c.in-None.ensures there

pub returns-in-None-indexed : goal.returns-in-None-indexed
returns-in-None-indexed c =
    let x = c.args.name.now in
    let own = c.args.own.now in
    let lacks : IsPlace x (drop scanned own) None =
    subst (IsPlace x (drop scanned own)) (sym c.in-None-indexed.ensures) (c.requires.indexed x) in
    none_both x scanned own c.in-None.ensures lacks

pub overflow_add-result : goal.overflow_add-result
overflow_add-result c =
    let x = c.args.name.now in
    let own = c.args.own.now in
    let there : IsPlace x (drop scanned own) (Some c.in-Some-indexed.place) =
    subst (IsPlace x (drop scanned own)) (sym c.in-Some-indexed.ensures) (c.requires.indexed x) in
    let within = place_within x (drop scanned own) c.in-Some-indexed.place there in
    omega (arith, within, drop-length scanned own)
