use Rattle.std.proofs.Common.{◌+◌, ◌∙◌, ap, subst, sym}
use Rattle.tm_shapes.specs.Marks.{with_mark}
use Rattle.tm_shapes.specs.Search.{Seen}
use Rattle.tm_shapes.specs.Searched.{IsSeen, note_of, trace_of}
use Rattle.tm_shapes.specs.Shown.{Shows}
use Rattle.tm_shapes.proofs.Searching.{on_ok, way_either, way_on, way_to}
use Rattle.tm_shapes.proofs.Seeing.{seen_taken, taking}
use Rattle.tm_shapes.proofs.search.Seen.trace.Goals as goal

pub returns-in-On : goal.returns-in-On
returns-in-On c = on_ok c.note.result _ _ (λ noted q code f x h tells.
    let y = taking q code c.args.self.now.cells c.args.place c.args.flow x tells in
    let w = way_on q code c.args.self.now.cells c.args.place c.args.flow.way y.0 c.in-On.shape c.in-On.is y.1 in
    let g : Seen = record f { groups = with_mark c.args.flow.taken f.groups } in
    let now : IsSeen c.take.new.self g =
    seen_taken c.args.self.now c.take.new.self f c.args.flow.taken
    c.take.ensures.cells c.take.ensures.shapes c.take.ensures.work c.take.ensures.groups h in
    let s : Shows c.take.new.self.cells c.in-On.shape w.0 =
    subst (λ cells. Shows cells c.in-On.shape w.0) (sym c.take.ensures.cells) w.1 in
    subst (IsSeen c.note.new.self) (sym (y.2 f ∙ ap (λ y. trace_of q code y g) w.2)) (noted q code g w.0 now s)) c.note.ensures.noted

pub returns-in-To : goal.returns-in-To
returns-in-To c = on_ok c.note-in-To.result _ _ (λ noted q code f x h tells.
    let y = taking q code c.args.self.now.cells c.args.place c.args.flow x tells in
    let w = way_to q code c.args.self.now.cells c.args.place c.args.flow.way y.0 c.in-To.target c.in-To.shape c.in-To.is y.1 in
    let g : Seen = record f { groups = with_mark c.args.flow.taken f.groups } in
    let now : IsSeen c.take.new.self g =
    seen_taken c.args.self.now c.take.new.self f c.args.flow.taken
    c.take.ensures.cells c.take.ensures.shapes c.take.ensures.work c.take.ensures.groups h in
    let s : Shows c.take.new.self.cells c.in-To.shape w.0 =
    subst (λ cells. Shows cells c.in-To.shape w.0) (sym c.take.ensures.cells) w.1 in
    subst (IsSeen c.note-in-To.new.self) (sym (y.2 f ∙ ap (λ y. trace_of q code y g) w.2)) (noted q code g w.0 now s)) c.note-in-To.ensures.noted

pub returns-in_ok-note-in-Either : goal.returns-in_ok-note-in-Either
returns-in_ok-note-in-Either c = on_ok c.note-in-Either-2.result _ _ (λ noted q code f x h tells.
    let way = c.in-Either in
    let y = taking q code c.args.self.now.cells c.args.place c.args.flow x tells in
    let w = way_either q code c.args.self.now.cells c.args.place c.args.flow.way y.0 way.next way.target way.shape way.is y.1 in
    let g : Seen = record f { groups = with_mark c.args.flow.taken f.groups } in
    let now : IsSeen c.take.new.self g =
    seen_taken c.args.self.now c.take.new.self f c.args.flow.taken
    c.take.ensures.cells c.take.ensures.shapes c.take.ensures.work c.take.ensures.groups h in
    let s : Shows c.take.new.self.cells way.next w.0 = subst (λ cells. Shows cells way.next w.0) (sym c.take.ensures.cells) w.2 in
    let t : Shows c.note-in-Either.new.self.cells way.shape w.1 =
    subst (λ cells. Shows cells way.shape w.1) (sym (c.note-in-Either.ensures.cells ∙ c.take.ensures.cells)) w.3 in
    let first = c.in_ok-note-in-Either.ensures.noted q code g w.0 now s in
    subst (IsSeen c.note-in-Either-2.new.self) (sym (y.2 f ∙ ap (λ y. trace_of q code y g) w.4))
    (noted q code (note_of q code (c.args.place + 1) w.0 g) w.1 first t)) c.note-in-Either-2.ensures.noted
