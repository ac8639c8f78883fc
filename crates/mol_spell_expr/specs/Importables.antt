-- What may be imported, as the code names it, and how it is spelled.
use Rattle.std.specs.Prelude.{Bool, ◌&&◌, not}
use Rattle.mol_base.specs.declared.ident.Id.{Id}
use Rattle.jav_names.specs.DottedNames.{Name}
use Rattle.mol_resolve_rules.specs.Locals.{Locals}
use Rattle.mol_spell_rules.specs.SpelledExpressions.{hides}
use Rattle.mol_spell_rules.specs.Writers.{Importable, program_class, outside_import, simple_of, Writer, hides_none}
use Rattle.mol_spell_expr.specs.declared.importable.Importable.{Importable as Lent}
use Rattle.mol_spell_expr.specs.declared.importable.Importable.TheVariants as lent
use Rattle.mol_spell_expr.specs.declared.type_place.TypePlace.{TypePlace}
use Rattle.mol_spell_expr.specs.declared.type_place.TypePlace.TheVariants as places

abbrev pub importable_of : Lent → Importable
importable_of (lent.Class class) = program_class class.now
importable_of (lent.Import full) = outside_import full.now

-- the names that are hidden at such a place
abbrev pub hides_at : Writer → Locals Id → TypePlace → Name → Bool
hides_at writer locals places.Declaration = hides_none
hides_at writer locals places.Expression = hides writer locals

-- spelled by its simple name
abbrev pub is_spelled_simply : Writer → (Name → Bool) → Importable → Bool
is_spelled_simply writer hides what = writer.is_simple what && not (hides (simple_of writer.program what))
