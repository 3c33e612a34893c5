use Rattle.std.proofs.Common.{◌≡◌, ◌∙◌, ◌++◌, ◌∷◌, [], Some, ap, false, subst, sym}
use Rattle.tm_syntax.specs.Named.{find}
use Rattle.tm_syntax.specs.Names.{is_among}
use Rattle.tm_meaning.specs.World.{World}
use Rattle.tm_blocks.specs.Lists.{AreBlocksOf, ListsValue}
use Rattle.tm_state.proofs.Blocks.{fewer_into, loads_into}
use Rattle.tm_state.proofs.state.StateData.load_named.Goals as goal

pub returns-clause-ok : goal.returns-clause-ok
returns-clause-ok g c =
    let host = (g.H.Host.program c.args.host.now).host in
    let x = c.args.name in
    let w = c.args.self.now in
    let held = c.self.inside.lists.loaded in
    let fresh : is_among x w.loaded ≡ false =
    ap (λ (v : World). is_among x v.loaded) (sym c.self.view_is) ∙ ap (λ y. is_among y held) (sym c.as_str.ensures)
    ∙ sym c.is_loaded.ensures ∙ c.if-is_loaded.false in
    let there = subst (λ y. AreBlocksOf c.in-Some.entry.blocks (find y host.templates)) c.as_str-2.ensures c.in-Some.ensures.2 in
    let added = c.in_ok-add_loaded.ensures.ok in
    let after = c.in_ok-append.ensures.ok in
    loads_into host x w c.in-Some.entry.blocks fresh there c.in_ok-share.field-0 c.add_loaded.new.self.blocks c.add_loaded.new.self.places
    c.add_loaded.new.self.loaded c.self.view_is c.in_ok-share.ensures (ap (λ (l : ListsValue). l.blocks) added ∙ ap (λ (l : ListsValue). l.blocks) after)
    (ap (λ (l : ListsValue). l.places) added ∙ ap (λ (l : ListsValue). l.places) after)
    (ap (λ (l : ListsValue). l.loaded) added ∙ ap (λ (l : ListsValue). l.loaded ++ x ∷ []) after)

pub returns-clause-fewer : goal.returns-clause-fewer
returns-clause-fewer g c =
    let host = (g.H.Host.program c.args.host.now).host in
    let x = c.args.name in
    let w = c.args.self.now in
    let held = c.self.inside.lists.loaded in
    let fresh : is_among x w.loaded ≡ false =
    ap (λ (v : World). is_among x v.loaded) (sym c.self.view_is) ∙ ap (λ y. is_among y held) (sym c.as_str.ensures)
    ∙ sym c.is_loaded.ensures ∙ c.if-is_loaded.false in
    let there = subst (λ y. AreBlocksOf c.in-Some.entry.blocks (find y host.templates)) c.as_str-2.ensures c.in-Some.ensures.2 in
    let added = c.in_ok-add_loaded.ensures.ok in
    fewer_into host x w c.in-Some.entry.blocks fresh there c.add_loaded.new.self.blocks c.add_loaded.new.self.loaded c.self.view_is
    (ap (λ (l : ListsValue). l.loaded) added ∙ ap (λ (l : ListsValue). l.loaded ++ x ∷ []) c.in_ok-append.ensures.ok)
