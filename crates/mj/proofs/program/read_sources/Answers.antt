use Rattle.std.proofs.Common.{rules, ◌≡◌, ◌+◌, List, [], ◌∷◌, ◌++◌, drop, map, string_bytes, sym, subst, ◌∙◌, inr, ap, Some, false}
use Rattle.mj_words.specs.CommandLine.{Text, files_of, is_input}
use Rattle.mj.specs.Program.{IsRead, IsUnread, InputStays, named}
use Rattle.mj.proofs.Sources.{Reading, begin_reading, read_next, read_all, read_none}
use Rattle.mj.proofs.Lists.{next_word, no_word, passed, pushed}
use Rattle.mj.proofs.program.read_sources.Goals as goal

-- the first file was read
pub loop-file-init : goal.loop-file-init
loop-file-init g c =
    let of_file = g.T.Texts.of_file in
    let of_input = g.T.Texts.of_input in
    let files = files_of c.args.arguments.now in
    let others = map string_bytes c.args.arguments.now.others.now in
    let file = c.args.arguments.now.file in
    let first = c.in_ok-read_source in
    let items : c.push.new.self.items ≡ (file, first.field-0) ∷ [] = search rules in
    subst (λ (done : List (Text × Text)). Reading of_file of_input files others c.args.texts.now c.read_source.new.texts done)
    (sym (pushed [] c.push.new.self.items (file, first.field-0) items))
    (read_next of_file of_input files others file.now (string_bytes first.field-0) c.args.texts.now c.args.texts.now
    c.read_source.new.texts [] (begin_reading of_file of_input files c.args.texts.now c.requires) first.ensures.read first.ensures.stay
    first.ensures.left)

-- another file gives no text
pub returns-in_err-source-clause-read : goal.returns-in_err-source-clause-read
returns-in_err-source-clause-read g c =
    let of_file = g.T.Texts.of_file in
    let of_input = g.T.Texts.of_input in
    let files = files_of c.args.arguments.now in
    let others = c.args.arguments.now.others.now in
    let k = c.loop-file.file-index in
    let file = c.file-item.result in
    let r = c.in_err-source in
    let reading = subst (λ (left : List Text). Reading of_file of_input files left c.args.texts.now c.loop-file.texts
    (map named c.loop-file.sources.items))
    (next_word others k file c.loop-file-test.true c.file-item.is) c.loop-file.invariant in
    passed c.from_residual-in_err-source.result _ _ r.field-0.0 c.from_residual-in_err-source.ensures.1
    (inr (read_none of_file of_input files (map string_bytes (drop (k + 1) others)) (string_bytes file) c.args.texts.now c.loop-file.texts
    (map named c.loop-file.sources.items) reading
    (subst (λ (name : Text). IsUnread of_file of_input c.loop-file.texts name) c.deref.ensures r.ensures.read)))

-- another file was read
pub loop-file-preserved : goal.loop-file-preserved
loop-file-preserved g c =
    let of_file = g.T.Texts.of_file in
    let of_input = g.T.Texts.of_input in
    let files = files_of c.args.arguments.now in
    let others = c.args.arguments.now.others.now in
    let k = c.loop-file.file-index in
    let file = c.file-item.result in
    let left = map string_bytes (drop (k + 1) others) in
    let source = c.in_ok-source in
    let reading = subst (λ (left : List Text). Reading of_file of_input files left c.args.texts.now c.loop-file.texts
    (map named c.loop-file.sources.items))
    (next_word others k file c.loop-file-test.true c.file-item.is) c.loop-file.invariant in
    let items : c.push-in-loop-file.new.self.items ≡ c.loop-file.sources.items ++ (c.as_str.result, source.source) ∷ [] = search rules in
    subst (λ (done : List (Text × Text)). Reading of_file of_input files left c.args.texts.now c.read_source-in-loop-file.new.texts done)
    (sym (pushed c.loop-file.sources.items c.push-in-loop-file.new.self.items (c.as_str.result, source.source) items
    ∙ ap (λ (name : Text). map named c.loop-file.sources.items ++ (name, string_bytes source.source) ∷ []) c.as_str.ensures.value))
    (read_next of_file of_input files left (string_bytes file) (string_bytes source.source) c.args.texts.now c.loop-file.texts
    c.read_source-in-loop-file.new.texts (map named c.loop-file.sources.items) reading
    (subst (λ (name : Text). IsRead of_file of_input c.loop-file.texts name (Some (string_bytes source.source))) c.deref.ensures
    source.ensures.read) source.ensures.stay
    (subst (λ (name : Text). is_input name ≡ false → InputStays of_input c.loop-file.texts c.read_source-in-loop-file.new.texts)
    c.deref.ensures source.ensures.left))

-- no file is left
pub returns-clause-read : goal.returns-clause-read
returns-clause-read g c =
    let others = c.args.arguments.now.others.now in
    read_all g.T.Texts.of_file g.T.Texts.of_input (files_of c.args.arguments.now) c.args.texts.now c.loop-file.texts
    (map named c.loop-file.sources.items)
    (subst (λ (left : List Text). Reading g.T.Texts.of_file g.T.Texts.of_input (files_of c.args.arguments.now) left c.args.texts.now
    c.loop-file.texts (map named c.loop-file.sources.items)) (no_word others c.loop-file.file-index c.loop-file-test.false)
    c.loop-file.invariant)
