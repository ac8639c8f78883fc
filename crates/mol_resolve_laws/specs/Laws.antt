-- The laws of what source files add to a table.
use Rattle.std.specs.Prelude.{◌≤◌, List, All}
use Rattle.mol_base.specs.Limits.{max_items}
use Rattle.jav_tree.specs.Printable.{IsPrintable}
use Rattle.jav_tree.specs.Widths.{unit_width}
use Rattle.mol_resolve_laws.specs.Entities.{plain_entities, AreEntities}
use Rattle.mol_resolve_rules.specs.Files.{File, Files}
use Rattle.mol_resolve_rules.specs.ReadAs.{FilesReadAs, HasNoFault, IsPlain, KnowsLivingAlone, SourceText, IsParsed}
use Rattle.mol_table_rules.specs.Program.{Program, nothing}
use Rattle.mol_table_rules.specs.Writes.{AreNew, with_entities}
use Rattle.mol_table_rules.specs.declared.entity.NewEntity.{NewEntity}

-- The tree of a file is one that the grammar has, but for parentheses and height: each name, literal and comment in it is one token, no
-- list of parameters or arguments and no array has too many, and modifiers are allowed where they stand.
pub record IsTree (file : File) : Type 0 where
  pub printable : IsPrintable file.unit
  pub narrow : unit_width file.unit ≤ max_items

-- A text that is parsed has such a tree. Where files of such trees have no fault, their entities may be added together to the program
-- that knows nothing. What that leaves is in plain form, and the files read as it. A program in plain form knows what lives, and nothing
-- else.
pub record EntitiesPlain : Type 0 where
  pub trees : (text : SourceText) (file : File) → IsParsed text file → IsTree file
  pub listed : (files : Files) → AreEntities files (plain_entities files)
  pub new : (files : Files) (entities : List NewEntity) → HasNoFault files → All IsTree files → AreEntities files entities
      → AreNew nothing entities
  pub plain : (files : Files) (entities : List NewEntity) → HasNoFault files → All IsTree files → AreEntities files entities
      → IsPlain files (with_entities nothing entities)
  pub read : (files : Files) (entities : List NewEntity) → HasNoFault files → All IsTree files → AreEntities files entities
      → FilesReadAs files (with_entities nothing entities)
  pub living : (files : Files) (program : Program) → IsPlain files program → KnowsLivingAlone program
