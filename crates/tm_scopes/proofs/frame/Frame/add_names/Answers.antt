use Rattle.std.proofs.Common.{◌≡◌, ◌||◌, ◌&&◌, Bool, is_some, Ok, sym, ap, ◌∙◌}
use Rattle.std.specs.Map.{keys_of}
use Rattle.std.specs.Prelude.{codes}
use Rattle.tm_syntax.specs.Named.{same_name, texts_of}
use Rattle.tm_meaning.specs.World.{Bindings, Scope, marked_loop}
use Rattle.tm_scopes.specs.Known.{has_text, is_among}
use Rattle.tm_scopes.specs.Closures.{names_read}
use Rattle.tm_scopes.proofs.Known.{among-both, among-one, loop-found, or-false, scope-adds}
use Rattle.tm_scopes.proofs.frame.Frame.add_names.Goals as goal
use Rattle.tm_scopes.proofs.frame.Frame.add_names.Goals.{then-is_some+in_ok-push, else-is_some}

pub returns-clause-ok : goal.returns-clause-ok
returns-clause-ok g c = λ view same enclosed x.
    let scope : Scope = c.args.self.now in
    let before : Bool = is_among x (texts_of c.args.names.now.items) in
    let with_own : before ≡ (before || is_among x (keys_of scope.locals)) =
    sym (ap (λ (ls : Bindings). before || is_among x (keys_of ls)) c.is_bare.ensures ∙ or-false before) in
    let loop : is_some (marked_loop view.records.state scope.mark x) ≡ (c.is_some.result && same_name x (codes "loop")) =
    loop-found view.records.state scope.mark c.named_loop.result x c.named_loop.ensures
    ∙ ap (λ b. b && same_name x (codes "loop")) (sym c.is_some.ensures) in
    let with_loop : is_among x (texts_of c.if-is_some.names.items)
    ≡ (before || (c.is_some.result && same_name x (codes "loop"))) =
    elim c.if-is_some.branch [
      | then-is_some+in_ok-push w ↦ rw (w.names-is, w.in_ok-push.ensures.items, w.if-is_some.true) (among-one x c.args.names.now.items _)
      | else-is_some w ↦ rw (w.names-is, w.if-is_some.false) (sym (or-false _))
    ] in
    let closed : is_among x (texts_of c.append.new.self.items)
    ≡ (is_among x (texts_of c.if-is_some.names.items) || is_among x (names_read view.closures scope.reads)) =
    ap (λ l. is_among x (texts_of l)) c.in_ok-append.ensures.items ∙ among-both x c.if-is_some.names.items c.in_ok-enclosed.enclosed.items
    ∙ ap (λ l. is_among x (texts_of c.if-is_some.names.items) || is_among x l) (c.in_ok-enclosed.ensures
    ∙ ap (λ cs. names_read cs c.self.inside.reads) (sym enclosed) ∙ ap (λ (s : Scope). names_read view.closures s.reads) c.self.view_is) in
    let all : is_among x (texts_of c.add_texts.new.names.items)
    ≡ ((((before || is_among x (keys_of scope.locals)) || is_some (marked_loop view.records.state scope.mark x))
    || is_among x (names_read view.closures scope.reads)) || has_text x c.in_ok-pairs.pairs.now) =
    c.in_ok-add_texts.ensures x ∙ ap (λ b. b || has_text x c.in_ok-pairs.pairs.now) (closed
    ∙ ap (λ b. b || is_among x (names_read view.closures scope.reads)) (with_loop
    ∙ ap (λ b. b || (c.is_some.result && same_name x (codes "loop"))) with_own
    ∙ ap (λ b. (before || is_among x (keys_of scope.locals)) || b) (sym loop))) in
    scope-adds view scope x c.in_ok-pairs.pairs.now before
    (rw same (c.in_ok-pairs.ensures.members.1 x)) c.in_ok-pairs.ensures.members.0 ∙ ap (λ b. Ok b) (sym all)
