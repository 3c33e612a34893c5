use Rattle.std.proofs.Common.{◌∙◌, ap, sym}
use Rattle.tm_syntax.specs.Named.{find, named_of, without}
use Rattle.tm_syntax.proofs.Named.{find_named, find_others, without_absent, without_named}
use Rattle.tm_syntax.proofs.name_map.NameMap.remove.Goals as goal

pub returns-clause-before : goal.returns-clause-before
returns-clause-before g c =
    c.remove.ensures.value ∙ find_named c.self.inside.by_name.entries c.args.name.now ∙ ap (find c.args.name.now) c.self.view_is

rest : goal.returns-clause-rest
rest g c =
    ap named_of c.remove.ensures.entries ∙ without_named c.self.inside.by_name.entries c.args.name.now
    ∙ ap (without c.args.name.now) c.self.view_is

pub returns-clause-rest : goal.returns-clause-rest
returns-clause-rest = rest

pub returns-clause-absent : goal.returns-clause-absent
returns-clause-absent g c = λ h. rest g c ∙ without_absent c.args.name.now c.args.self.now h

pub returns-clause-gone : goal.returns-clause-gone
returns-clause-gone g c = sym (find_named c.remove.new.self.entries c.args.name.now) ∙ c.remove.ensures.updates.1

pub returns-clause-others : goal.returns-clause-others
returns-clause-others g c = λ x apart. ap (find x) (rest g c) ∙ find_others x c.args.name.now apart c.args.self.now
