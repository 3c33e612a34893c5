-- What is done alike under every host, and at every place, is done so under this one.
use Rattle.tm_vm.proofs.Performed.{at_once}
use Rattle.tm_vm.proofs.machine.Machine.attempt.Goals as goal

pub returns-in-Lookup-clause-done : goal.returns-in-Lookup-clause-done
returns-in-Lookup-clause-done g c =
    rw (c.of.ensures, c.in-Lookup.is) (at_once _ _ _ _ _ (c.lookup_at_once.ensures (g.H.Host.program c.args.host.now).host))

pub returns-in-GetAttr-clause-done : goal.returns-in-GetAttr-clause-done
returns-in-GetAttr-clause-done g c =
    rw (c.of-in-GetAttr.ensures, c.in-GetAttr.is) (at_once _ _ _ _ _ (c.get_attr_at_once.ensures (g.H.Host.program c.args.host.now).host))

pub returns-in-Eq-clause-done : goal.returns-in-Eq-clause-done
returns-in-Eq-clause-done g c =
    rw (c.of-in-Eq.ensures, c.in-Eq.is) (at_once _ _ _ _ _ (c.binary_at_once.ensures (g.H.Host.program c.args.host.now).host))

pub returns-in-Ne-clause-done : goal.returns-in-Ne-clause-done
returns-in-Ne-clause-done g c =
    rw (c.of-in-Ne.ensures, c.in-Ne.is) (at_once _ _ _ _ _ (c.binary_at_once-in-Ne.ensures (g.H.Host.program c.args.host.now).host))

pub returns-in-Lt-clause-done : goal.returns-in-Lt-clause-done
returns-in-Lt-clause-done g c =
    rw (c.of-in-Lt.ensures, c.in-Lt.is) (at_once _ _ _ _ _ (c.binary_at_once-in-Lt.ensures (g.H.Host.program c.args.host.now).host))

pub returns-in-Lte-clause-done : goal.returns-in-Lte-clause-done
returns-in-Lte-clause-done g c =
    rw (c.of-in-Lte.ensures, c.in-Lte.is) (at_once _ _ _ _ _ (c.binary_at_once-in-Lte.ensures (g.H.Host.program c.args.host.now).host))

pub returns-in-Gt-clause-done : goal.returns-in-Gt-clause-done
returns-in-Gt-clause-done g c =
    rw (c.of-in-Gt.ensures, c.in-Gt.is) (at_once _ _ _ _ _ (c.binary_at_once-in-Gt.ensures (g.H.Host.program c.args.host.now).host))

pub returns-in-Gte-clause-done : goal.returns-in-Gte-clause-done
returns-in-Gte-clause-done g c =
    rw (c.of-in-Gte.ensures, c.in-Gte.is) (at_once _ _ _ _ _ (c.binary_at_once-in-Gte.ensures (g.H.Host.program c.args.host.now).host))

pub returns-in-Add-clause-done : goal.returns-in-Add-clause-done
returns-in-Add-clause-done g c =
    rw (c.of-in-Add.ensures, c.in-Add.is) (at_once _ _ _ _ _ (c.binary_at_once-in-Add.ensures (g.H.Host.program c.args.host.now).host))

pub returns-in-Sub-clause-done : goal.returns-in-Sub-clause-done
returns-in-Sub-clause-done g c =
    rw (c.of-in-Sub.ensures, c.in-Sub.is) (at_once _ _ _ _ _ (c.binary_at_once-in-Sub.ensures (g.H.Host.program c.args.host.now).host))

pub returns-in-Mul-clause-done : goal.returns-in-Mul-clause-done
returns-in-Mul-clause-done g c =
    rw (c.of-in-Mul.ensures, c.in-Mul.is) (at_once _ _ _ _ _ (c.binary_at_once-in-Mul.ensures (g.H.Host.program c.args.host.now).host))

pub returns-in-IntDiv-clause-done : goal.returns-in-IntDiv-clause-done
returns-in-IntDiv-clause-done g c =
    rw (c.of-in-IntDiv.ensures, c.in-IntDiv.is) (at_once _ _ _ _ _ (c.binary_at_once-in-IntDiv.ensures (g.H.Host.program c.args.host.now).host))

pub returns-in-Rem-clause-done : goal.returns-in-Rem-clause-done
returns-in-Rem-clause-done g c =
    rw (c.of-in-Rem.ensures, c.in-Rem.is) (at_once _ _ _ _ _ (c.binary_at_once-in-Rem.ensures (g.H.Host.program c.args.host.now).host))

pub returns-in-JumpIfFalse-clause-done : goal.returns-in-JumpIfFalse-clause-done
returns-in-JumpIfFalse-clause-done g c =
    rw (c.of-in-JumpIfFalse.ensures, c.in-JumpIfFalse.is) (at_once _ _ _ _ _ (c.jump_if_false_at_once.ensures (g.H.Host.program c.args.host.now).host))

pub returns-in-Iterate-clause-done : goal.returns-in-Iterate-clause-done
returns-in-Iterate-clause-done g c =
    rw (c.of-in-Iterate.ensures, c.in-Iterate.is) (at_once _ _ _ _ _ (c.iterate_at_once.ensures _))

pub returns-in-JumpIfFalseOrPop-clause-done : goal.returns-in-JumpIfFalseOrPop-clause-done
returns-in-JumpIfFalseOrPop-clause-done g c =
    rw (c.of-in-JumpIfFalseOrPop.ensures, c.in-JumpIfFalseOrPop.is) (at_once _ _ _ _ _ (c.jump_or_pop_at_once.ensures (g.H.Host.program c.args.host.now).host))

pub returns-in-JumpIfTrueOrPop-clause-done : goal.returns-in-JumpIfTrueOrPop-clause-done
returns-in-JumpIfTrueOrPop-clause-done g c =
    rw (c.of-in-JumpIfTrueOrPop.ensures, c.in-JumpIfTrueOrPop.is) (at_once _ _ _ _ _ (c.jump_or_pop_at_once-in-JumpIfTrueOrPop.ensures (g.H.Host.program c.args.host.now).host))

pub returns-in-Not-clause-done : goal.returns-in-Not-clause-done
returns-in-Not-clause-done g c =
    rw (c.of-in-Not.ensures, c.in-Not.is) (at_once _ _ _ _ _ (c.not_at_once.ensures (g.H.Host.program c.args.host.now).host))
