use Rattle.std.proofs.Common.{◌≡◌, ◌+◌, drop}
use Rattle.tm_values.specs.Writable.{both, vals_writable}
use Rattle.tm_values.specs.Val.{vals_of, vals_size}
use Rattle.tm_values.proofs.parts.Parts.extended.Given as goal

-- what is known so far, with the values that are left
abbrev pub invariant-loop-value : goal.invariant-loop-value
invariant-loop-value l =
    record {
      writable : both l.writable (vals_writable (vals_of (drop l.value-index l.more))) ≡ both l.fn.self.writable (vals_writable (vals_of l.more));
      size : l.size + vals_size (vals_of (drop l.value-index l.more)) ≡ l.fn.self.size + vals_size (vals_of l.more);
    }
