-- Which modifiers a value may have (JLS 8.1.1, 8.3.1, 8.4.3, 8.8.3).
use Rattle.std.specs.Prelude.{ℕ, Bool, false, ◌&&◌, List, Option, None, Some}
use Prim.Native.String.{String}
use Rattle.std.specs.List.{list_all}
use Rattle.std.specs.Str.{bytes_eq}
use Rattle.std.specs.Cmp.Lexicographic.{pointwise}
use Rattle.mol_base.specs.Among.{among}
use Rattle.mol_base.specs.Modifiers.{kept_words, constructor_words, in_order, has_one_access}
use Rattle.mol_values_types.specs.declared.iblock.IBody.{IBody}
use Rattle.mol_values_types.specs.declared.kind.MethodKind.{MethodKind}
use Rattle.mol_values_types.specs.declared.kind.MethodKind.TheVariants.{Instance, Static, Constructor}

-- each is allowed, they stand in the order in which they are printed and each once, and at most one of them says who has access
abbrev pub are_words : List String → List (List ℕ) → Bool
are_words allowed words = list_all (among allowed) words && pointwise bytes_eq (in_order words) words && has_one_access words

-- What modifiers a declaration of a method of this kind may have, with a block or without one: a constructor and a static
-- method have a block. `abstract` and `static` are left out: whether there is a block and the kind say these.
abbrev pub is_declaration : MethodKind → List (List ℕ) → Option IBody → Bool
is_declaration Instance words body = are_words kept_words words
is_declaration Static words (Some body) = are_words kept_words words
is_declaration Static words None = false
is_declaration Constructor words (Some body) = are_words constructor_words words
is_declaration Constructor words None = false
