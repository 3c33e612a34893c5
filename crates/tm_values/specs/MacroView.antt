-- The plain data of a macro.
use Rattle.std.specs.Prelude.{map as each}
use Rattle.std.specs.Rc.{rc_str_bytes}
use Rattle.tm_values.specs.Val.{MacroData}
use Rattle.tm_values.specs.declared.macros.MacroValue.TheInside.{Inside}

abbrev pub macro_view : Inside → MacroData
macro_view m =
    record {
      state = m.state;
      stream = m.stream;
      entry = m.entry;
      closure = m.closure;
      name = rc_str_bytes m.name;
      arguments = each rc_str_bytes m.arguments.items;
      caller = m.takes_caller;
    }
