-- Programs that are the same are clean together.
use Rattle.std.specs.Prelude.{◌≡◌}
use Rattle.std.specs.FinMap.{get}
use Rattle.mol_base.specs.declared.ident.Id.{Id}
use Rattle.mol_spell_rules.specs.Clean.{Clean}
use Rattle.mol_spell_rules.specs.PrintedFiles.{printed_files}
use Rattle.mol_table_rules.specs.Life.{entity_in}
use Rattle.mol_table_rules.specs.Program.{Program}
use Rattle.mol_table_rules.specs.Rules.{IsProgram}
use Rattle.mol_table_rules.specs.Sameness.{Same}

-- Both know the same entities. Which parameters they know is no matter.
abbrev pub KnowAlike : Program → Program → Type 0
KnowAlike first second = (id : Id) → entity_in (get first.known id) ≡ entity_in (get second.known id)

-- Of two programs that keep the rules, know the same entities and are the same, the second is clean where the first is, and then both have
-- the same files. What does not live may differ: nothing in a clean program refers to it.
pub record SameAreClean : Type 0 where
  pub clean : (first second : Program) → IsProgram first → IsProgram second → KnowAlike first second → Same first second → Clean first
      → Clean second
  pub files : (first second : Program) → IsProgram first → IsProgram second → KnowAlike first second → Same first second → Clean first
      → printed_files first ≡ printed_files second
