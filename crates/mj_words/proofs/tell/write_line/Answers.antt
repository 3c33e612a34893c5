use Rattle.std.proofs.Common.{[], ◌∷◌, ◌++◌, Ok, Err, refl, ◌∙◌}
use Rattle.std.proofs.lemmas.Result.{err_from_is_err_and}
use Rattle.tm_values.specs.Name.{kind_name}
use Rattle.mj_words.proofs.Told.{text_written, written_first, written_then}
use Rattle.mj_words.proofs.tell.write_line.Goals as goal

pub returns-in_err-write_text : goal.returns-in_err-write_text
returns-in_err-write_text g c =
    let p = err_from_is_err_and c.from_residual.result c.from_residual.ensures.1 in
    let fault = c.in_err-write_text.field-0.0 in
    let contents = g.E.Write.contents in
    let old = c.args.err.now in
    let one = c.write_text.new.sink in
    let first = c.write_text.ensures in
    rw p.1 (written_first contents fault old one c.args.word.now (kind_name c.args.kind ++ 10 ∷ [])
    (text_written contents c.write_text.result
    (Err fault) old one c.as_bytes.result.now c.args.word.now first.written first.no_fault first.beginning first.fault
    c.in_err-write_text.was c.as_bytes.ensures.value))

pub returns-in_err-write_text-2 : goal.returns-in_err-write_text-2
returns-in_err-write_text-2 g c =
    let p = err_from_is_err_and c.from_residual-in_err-write_text-2.result c.from_residual-in_err-write_text-2.ensures.1 in
    let contents = g.E.Write.contents in
    let old = c.args.err.now in
    let one = c.write_text.new.sink in
    let two = c.write_text-2.new.sink in
    let first = c.write_text.ensures in
    let second = c.write_text-2.ensures in
    let word = c.args.word.now in
    let name = kind_name c.args.kind in
    let fault = c.in_err-write_text-2.field-0.0 in
    rw p.1 (written_then contents (Err fault) old one two word (name ++ 10 ∷ [])
    (text_written contents c.write_text.result
    (Ok c.in_ok-write_text.field-0) old one c.as_bytes.result.now word first.written first.no_fault first.beginning first.fault
    c.in_ok-write_text.was c.as_bytes.ensures.value)
    (written_first contents fault one two name (10 ∷ [])
    (text_written contents c.write_text-2.result
    (Err fault) one two c.as_bytes-2.result.now name second.written second.no_fault second.beginning second.fault
    c.in_err-write_text-2.was (c.as_bytes-2.ensures.value ∙ c.name.ensures))))

pub returns : goal.returns
returns g c =
    let contents = g.E.Write.contents in
    let old = c.args.err.now in
    let one = c.write_text.new.sink in
    let two = c.write_text-2.new.sink in
    let three = c.write_text-3.new.sink in
    let first = c.write_text.ensures in
    let second = c.write_text-2.ensures in
    let third = c.write_text-3.ensures in
    let word = c.args.word.now in
    let name = kind_name c.args.kind in
    let answer = c.write_text-3.result in
    written_then contents answer old one three word (name ++ 10 ∷ [])
    (text_written contents c.write_text.result
    (Ok c.in_ok-write_text.field-0) old one c.as_bytes.result.now word first.written first.no_fault first.beginning first.fault
    c.in_ok-write_text.was c.as_bytes.ensures.value)
    (written_then contents answer one two three name (10 ∷ [])
    (text_written contents c.write_text-2.result
    (Ok c.in_ok-write_text-2.field-0) one two c.as_bytes-2.result.now name second.written second.no_fault second.beginning
    second.fault c.in_ok-write_text-2.was (c.as_bytes-2.ensures.value ∙ c.name.ensures))
    (text_written contents answer answer two three (10 ∷ []) (10 ∷ []) third.written third.no_fault third.beginning third.fault refl refl))
