-- Bases of which the sources are kept.
use Rattle.std.proofs.Common.{◌≡◌, ℕ, List, ap, subst, ◌∙◌}
use Rattle.std.specs.Global.{Global}
use Rattle.mol_base.specs.Files.{FilePair, file_pairs}
use Rattle.mol_base.specs.declared.file.File.{File}
use Rattle.mol_outside.specs.Contents.{Contents}
use Rattle.mol_program.specs.Programs.{IsReadAs}
use Rattle.mol_program_laws.proofs.Told.{told}
use Rattle.mol_table_rules.specs.Program.{Program}
use Rattle.mol_top.specs.Bases.{IsBaseOf}
use Rattle.mol_top.specs.KeptBases.{AreSources, IsKept}
use Rattle.mol_top.specs.Refusals.{AreBaseFiles}
use Rattle.mol_top.specs.declared.kept_base.KeptBase.{KeptBase}

-- what was kept is a base
pub kept_base : (base : List ℕ) (h : Contents) (read : List File) (kept : KeptBase) → AreBaseFiles base h read → IsKept read kept
    → IsBaseOf base h kept.table
kept_base base h read kept are is = record {
  read = are.allowed;
  read_as = subst (λ (files : List FilePair). IsReadAs files kept.table) (ap file_pairs is.same ∙ are.are) is.are.read_as;
}

-- what is read from sources again is the program that was read from them
pub same_again : Global → (sources : List File) (table base : Program) → IsReadAs (file_pairs sources) table → AreSources sources base
    → table ≡ base
same_again alloc sources table base read are = (told alloc).one_program (file_pairs sources) table base read are.read_as
