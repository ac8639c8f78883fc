-- What the reading of a base answers: a program or a refusal, and what these carry.
use Rattle.std.proofs.Common.{◌≡◌, ◌⊎◌, inl, inr, ℕ, List, length, sym, ◌∙◌, ap, subst}
use Rattle.mol_base.specs.declared.file.File.{File}
use Rattle.mol_base.specs.Files.{FilePair, file_pairs}
use Rattle.mol_outside.specs.Contents.{Contents}
use Rattle.mol_log_rules.proofs.Laws.{last_writes_left}
use Rattle.mol_log_rules.specs.Living.{HasNoDead}
use Rattle.mol_program.specs.Programs.{IsReadAs, Refuses}
use Rattle.mol_program.specs.declared.fault.ReadFault.{ReadFault}
use Rattle.mol_program.specs.declared.fault.ReadFault.TheVariants as reads
use Rattle.mol_table_rules.specs.Program.{Program}
use Rattle.mol_top.proofs.Carrying.{Carries-more}
use Rattle.mol_top.specs.Answers.{read_status, store_status}
use Rattle.mol_top.specs.Carried.{CarriesOwn, CarriesRead, IsInOut, IsInput, IsRead, IsSourcePath, NoPath}
use Rattle.mol_top.specs.CleanBases.{CarriesBase, IsProgramOf, IsReadOf}
use Rattle.mol_top.specs.Command.{NamedPaths}
use Rattle.mol_top.specs.Refusals.{AreBaseFiles}
use Rattle.mol_top.specs.Refused.{IsForMemory, IsRefusalOfFiles, IsRefusalOfProgram}
use Rattle.mol_top.specs.Report.{line_bytes, refusal_line}
use Rattle.mol_top.specs.declared.clean_base.BaseProgram.{BaseProgram}
use Rattle.mol_top.specs.declared.fault.StoreFault.{StoreFault}
use Rattle.mol_top.specs.declared.refusal.Refusal.{Refusal}
use Rattle.mol_top.specs.declared.status.Status.{Status}
use Rattle.mol_top.specs.declared.status.Status.TheVariants.{OutOfMemory}

-- # A program

pub program_read : (base : List ℕ) (h : Contents) (read : List File) (made : BaseProgram) → AreBaseFiles base h read
    → IsProgramOf (file_pairs read) made → IsReadOf base h made
program_read base h read made are is = record {
  program = record { read = are.allowed; read_as = subst (λ (files : List FilePair). IsReadAs files made.table) are.are is.read_as };
  files = is.count ∙ ap length are.are;
}

-- sources make nothing dead
pub no_dead : (files : List FilePair) (program : Program) → IsReadAs files program → HasNoDead program
no_dead files program is = last_writes_left.living program (λ id known. is.read.all_live id known)

-- # Refusals

memory : (refusal : Refusal) → refusal.status ≡ OutOfMemory → line_bytes refusal.line ≡ refusal_line refusal.status → IsForMemory refusal
memory refusal is line = record { status = is; line = line ∙ ap refusal_line is }

-- files that are no program
pub wrong_files : (files : List FilePair) (fault : ReadFault) (refusal : Refusal) → Refuses files fault
    → (refusal.status ≡ read_status fault) ⊎ (refusal.status ≡ OutOfMemory) → line_bytes refusal.line ≡ refusal_line refusal.status
    → IsRefusalOfFiles files refusal
wrong_files files (reads.Refused place fault) refusal wrong (inl is) line =
    inr (record { refused = record { place = place; fault = fault; wrong = wrong; is = is }; line = line })
wrong_files files (reads.Refused place fault) refusal wrong (inr is) line = inl (memory refusal is line)
wrong_files files reads.OutOfMemory refusal wrong (inl is) line = inl (memory refusal is line)
wrong_files files reads.OutOfMemory refusal wrong (inr is) line = inl (memory refusal is line)

-- # What is carried

pub unread_carries : (base : List ℕ) (fault : StoreFault) (said : Status) → CarriesRead (IsSourcePath base) fault
    → (said ≡ store_status fault) ⊎ (said ≡ OutOfMemory) → CarriesBase base said
unread_carries base fault said carried (inl is) = subst (CarriesBase base) (sym is) carried
unread_carries base fault said carried (inr is) = subst (CarriesBase base) (sym is) tt

pub refused_carries : (base : List ℕ) (files : List FilePair) (refusal : Refusal) → IsRefusalOfFiles files refusal
    → CarriesBase base refusal.status
refused_carries base files refusal (inl none) = subst (CarriesBase base) (sym none.status) tt
refused_carries base files refusal (inr file) = subst (CarriesBase base) (sym file.refused.is) tt

pub unclean_carries : (base : List ℕ) (program : Program) (refusal : Refusal) → IsRefusalOfProgram program refusal
    → CarriesBase base refusal.status
unclean_carries base program refusal (inl none) = subst (CarriesBase base) (sym none.status) tt
unclean_carries base program refusal (inr fault) = subst (CarriesBase base) (sym fault.refused.is) tt

-- a command names its base
pub base_carries : (paths : NamedPaths) (status : Status) → CarriesBase paths.base status → CarriesOwn paths status
base_carries paths status carried =
    Carries-more (IsRead paths) (IsSourcePath paths.base) (IsInput paths) (IsSourcePath paths.base) (IsInOut paths) NoPath status
    (λ path below. inl (inl below)) (λ path below. inl below) (λ path none. absurd none) carried
