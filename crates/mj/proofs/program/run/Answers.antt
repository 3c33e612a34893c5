use Rattle.std.proofs.Common.{inl, inr, map, string_bytes, refl, subst}
use Rattle.mj_words.specs.CommandLine.{asked_of}
use Rattle.mj.specs.Program.{IsFault, input_of, named}
use Rattle.mj.proofs.Sources.{begins_with, no_object_before, is_input, refused_use}
use Rattle.mj_words.proofs.Told.{refused_memory}
use Rattle.mj.proofs.program.run.Goals as goal

pub returns-in-Err-clause-fault : goal.returns-in-Err-clause-fault
returns-in-Err-clause-fault g c = λ one.
    let r = refused_memory g.E.Write.contents c.in-Err.refusal c.tell_refusal.result c.args.err.now c.tell_refusal.new.err
    c.tell_refusal.ensures.status c.tell_refusal.ensures.told one in
    (r.0, r.1, r.2, inl (r.3, refl {a = c.args.out.now}))

pub returns-in-Err-read_sources-clause-fault : goal.returns-in-Err-read_sources-clause-fault
returns-in-Err-read_sources-clause-fault g c = λ one.
    let t = c.tell_refusal-in-Err-read_sources in
    let r = refused_memory g.E.Write.contents c.in-Err-read_sources.refusal t.result c.args.err.now t.new.err t.ensures.status t.ensures.told
    one in
    (r.0, r.1, r.2, inl (r.3, refl {a = c.args.out.now}))

pub returns-in-Err-read_sources-clause-wrong_use : goal.returns-in-Err-read_sources-clause-wrong_use
returns-in-Err-read_sources-clause-wrong_use g c = λ two.
    let t = c.tell_refusal-in-Err-read_sources in
    let told = refused_use g.E.Write.contents c.in-Err-read_sources.refusal t.result c.args.err.now t.new.err t.ensures.status
    t.ensures.told two c.in-Err-read_sources.ensures.read in
    (refl {a = c.args.out.now}, told.0, inr (asked_of c.in-Ok.arguments, c.in-Ok.ensures.asked, inl told.1))

pub returns-in-Err-read_members-clause-fault : goal.returns-in-Err-read_members-clause-fault
returns-in-Err-read_members-clause-fault g c = λ one.
    let t = c.tell_refusal-in-Err-read_members in
    let r = refused_memory g.E.Write.contents c.in-Err-read_members.refusal t.result c.args.err.now t.new.err t.ensures.status
    t.ensures.told one in
    (r.0, r.1, r.2, inl (r.3, refl {a = c.args.out.now}))

pub returns-in-Err-read_members-clause-wrong_use : goal.returns-in-Err-read_members-clause-wrong_use
returns-in-Err-read_members-clause-wrong_use g c = λ two.
    let a = asked_of c.in-Ok.arguments in
    let t = c.tell_refusal-in-Err-read_members in
    let sources = c.in-Ok-read_sources in
    let told = refused_use g.E.Write.contents c.in-Err-read_members.refusal t.result c.args.err.now t.new.err t.ensures.status
    t.ensures.told two c.in-Err-read_members.ensures in
    let none = no_object_before g.T.Texts.of_file c.args.texts.now c.read_sources.new.texts sources.ensures.stay a.json told.1 in
    (refl {a = c.args.out.now}, told.0, inr (a, c.in-Ok.ensures.asked, inr (map named sources.sources.items, sources.ensures.read, none)))

-- the first file is the first of the sources
pub render-requires : goal.render-requires
render-requires g c =
    begins_with g.T.Texts.of_file g.T.Texts.of_input c.args.texts.now c.in-Ok.arguments.file.now
    (map string_bytes c.in-Ok.arguments.others.now) (map named c.in-Ok-read_sources.sources.items) c.in-Ok-read_sources.ensures.read

pub returns-in-Ok-render-clause-rendered : goal.returns-in-Ok-render-clause-rendered
returns-in-Ok-render-clause-rendered g c = λ zero.
    let input = input_of c.in-Ok.arguments c.in-Ok-read_members.members.items (map named c.in-Ok-read_sources.sources.items) in
    let sources = c.in-Ok-read_sources in
    let given = is_input g.T.Texts.of_file c.args.texts.now c.read_sources.new.texts sources.ensures.stay g.T.Texts.of_input
    (map string_bytes c.args.words.now) input c.in-Ok.ensures.asked sources.ensures.read c.in-Ok-read_members.ensures in
    (refl {a = c.args.err.now}, input, given, c.in-Ok-render.ensures)

pub returns-clause-fault : goal.returns-clause-fault
returns-clause-fault g c = λ one.
    let input = input_of c.in-Ok.arguments c.in-Ok-read_members.members.items (map named c.in-Ok-read_sources.sources.items) in
    let sources = c.in-Ok-read_sources in
    let given = is_input g.T.Texts.of_file c.args.texts.now c.read_sources.new.texts sources.ensures.stay g.T.Texts.of_input
    (map string_bytes c.args.words.now) input c.in-Ok.ensures.asked sources.ensures.read c.in-Ok-read_members.ensures in
    let t = c.tell_error.ensures.told in
    let fault = subst (λ chain. IsFault g.O.Write.contents input chain c.args.out.now c.render.new.out) t.2 c.in-Err-render.ensures in
    (t.0, t.1, t.3, inr (input, given, fault))
