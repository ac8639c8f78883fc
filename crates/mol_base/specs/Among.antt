-- Whether a text is one of some that are written out.
use Rattle.std.specs.Prelude.{ℕ, Bool, List, codes}
use Prim.Native.String.{String}
use Rattle.std.specs.List.{list_any}
use Rattle.std.specs.Str.{bytes_eq}

abbrev pub among : List String → List ℕ → Bool
among texts text = list_any (λ one. bytes_eq text (codes one)) texts
