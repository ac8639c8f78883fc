-- Names with dots between them as a list.
use Rattle.std.specs.Prelude.{◌∷◌}
use Rattle.jav_names.specs.DottedNames.{Names, Dotted}

abbrev pub spelled : Dotted → Names
spelled names = names.first ∷ names.rest
