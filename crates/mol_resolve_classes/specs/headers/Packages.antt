-- The packages of source files as texts: a full name is a package, or one is in it, where this package with a dot begins with it and a dot.
use Rattle.std.specs.Prelude.{Bool, [], ◌∷◌, ◌++◌, nat_eq}
use Rattle.std.specs.List.{starts_with}
use Rattle.jav_scope.specs.declared.source.SourceUnit.{SourceUnit}
use Rattle.jav_names.specs.DottedNames.{Name, dot}
use Rattle.mol_resolve_classes.specs.headers.Headers.{name_of}

-- a text begins with this front
abbrev pub begins : (front text : Name) → Bool
begins front text = starts_with nat_eq text front

-- the package of a file, and a dot
abbrev pub dotted_package : SourceUnit → Name
dotted_package source = source.unit.«package» ++ dot ∷ []

-- the full name of its class, and a dot
abbrev pub dotted_name : SourceUnit → Name
dotted_name source = name_of source ++ dot ∷ []
