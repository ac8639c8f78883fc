-- Where a member stands that a name can be found as from a class up.
use Rattle.std.specs.Prelude.{Bool, true, Option, Some}
use Rattle.mol_base.specs.declared.ident.Id.{Id}
use Rattle.mol_resolve_rules.specs.StaticTypes.{class_of_only_declaration}
use Rattle.mol_table_rules.specs.Faults.{is_above}
use Rattle.mol_table_rules.specs.Program.{Program, owner_at}
use Rattle.mol_values_types.specs.declared.kind.MethodKind.TheVariants.{Static}
use Rattle.mol_values_types.specs.declared.known.Known.{Known}
use Rattle.mol_values_types.specs.declared.known.Known.TheVariants as knowns

-- a field stands in the class or above it
abbrev pub has_field_above : Program → Id → Id → Bool
has_field_above program class field = is_above program (Some class) (owner_at program field)

-- so does the one declaration of a static method; of another method that is not asked
abbrev pub has_method_above : Program → Id → Id → Option Known → Bool
has_method_above program class method (Some (knowns.Method Static)) = is_above program (Some class) (class_of_only_declaration program method)
has_method_above program class method known = true
