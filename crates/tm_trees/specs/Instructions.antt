-- Instructions as definitions and proofs cite them.
pub use Rattle.tm_syntax.specs.declared.instruction.CaptureMode.{CaptureMode}
pub use Rattle.tm_syntax.specs.declared.instruction.Instruction.{Instruction}
pub use Rattle.tm_syntax.specs.declared.instruction.LoopFlags.{LoopFlags}
pub use Rattle.tm_syntax.specs.declared.instruction.LoopPlace.{LoopPlace}
pub use Rattle.tm_syntax.specs.declared.instruction.CaptureMode.TheVariants as modes
pub use Rattle.tm_syntax.specs.declared.instruction.Instruction.TheVariants as instructions
