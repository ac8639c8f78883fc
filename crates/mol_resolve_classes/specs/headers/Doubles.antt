-- Classes of one full name.
use Rattle.std.specs.Prelude.{ℕ, ◌==◌, Bool, false, ◌&&◌, ◌||◌, not, List}
use Rattle.std.specs.Option.{option_map_or}
use Rattle.jav_scope.specs.declared.source.SourceUnit.{SourceUnit}
use Rattle.mol_resolve_classes.specs.headers.Headers.{first_named, name_of}

-- A class with its number is not the first of its full name, and this number is its own or that of the first.
abbrev pub shows_double : List SourceUnit → ℕ → ℕ × SourceUnit → Bool
shows_double sources number class = option_map_or
    (λ first. not (first == class.0) && (first == number || class.0 == number)) (first_named sources (name_of class.1)) false
