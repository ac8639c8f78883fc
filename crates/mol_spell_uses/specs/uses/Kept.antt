-- What names use, as the code keeps it.
use Rattle.mol_spell_rules.specs.Writers.{Use, importable_use, written_use, program_class, outside_import}
use Rattle.mol_spell_uses.specs.declared.uses.used.Use.{Use as Kept}
use Rattle.mol_spell_uses.specs.declared.uses.used.Use.TheVariants as kept

abbrev pub kept_use : Kept → Use
kept_use (kept.Class class hidden) = importable_use (program_class class) hidden
kept_use (kept.Import full hidden) = importable_use (outside_import full) hidden
kept_use (kept.Written text) = written_use text
