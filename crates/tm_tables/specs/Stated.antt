-- What the caller's objects state, for hosts and tests to cite.
pub use Rattle.tm_objects.specs.Stated.{IsStated, IsFormatted, IsCalled, IsNamedAnswer, IsFormatterAnswer, Join, just, keeping}
pub use Rattle.tm_objects.specs.Stated.{Table, StatedObjects, stated_of, language_functions, language_alone}
