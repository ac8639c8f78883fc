-- Imports that are found in the place of others.
use Rattle.std.specs.Prelude.{Bool, false, not, Option, Some, None}
use Rattle.std.specs.Str.{bytes_eq}
use Rattle.jav_names.specs.DottedNames.{Name, Names, simple_name}
use Rattle.jav_names.specs.LookUps.{import_of}

-- what was found is another than this
abbrev pub is_another : Option Name → Name → Bool
is_another None full = false
is_another (Some import) full = not (bytes_eq import full)

-- the import that is found of its simple name is another
abbrev pub differs : Names → Name → Bool
differs imports full = is_another (import_of imports (simple_name full)) full
