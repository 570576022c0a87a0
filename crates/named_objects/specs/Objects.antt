-- The objects that leaves name. What their numbers and names are is the same as in the job language.
use Rattle.std.specs.Prelude.{Option}
use Rattle.std.specs.Option.{option_map}
use Rattle.named_objects.specs.declared.objects.Object.{Object}
-- an object by kind and name; the numbers that leaves get for the objects that they name, and the names by number
pub use Rattle.job_lang.specs.Objects.{NamedObject, numbers_of, names_of, number_among, with_object}
-- each name is spelled as one
pub use Rattle.job_lang.specs.Code.Numbered.{IsSpelledName, IsSpelled, AreSpelled}

abbrev pub object_in : Object → NamedObject
object_in object = record { kind = object.kind; name = object.name }

-- the object that a leaf names, if it names one
abbrev pub named_in : Option Object → Option NamedObject
named_in object = option_map object_in object
