-- What stops the reading of a base, and a command that begins with it.
use Rattle.std.proofs.Common.{◌≡◌, ◌⊎◌, inl, inr, ℕ, Bool, true, false, List, refl, sym, ◌∙◌, ap, subst, arith}
use Rattle.std.specs.Prelude.{Some}
use Rattle.mol_base.specs.declared.file.File.{File}
use Rattle.mol_base.specs.Files.{FilePair, file_pairs}
use Rattle.mol_outside.specs.Contents.{Contents}
use Rattle.mol_program.specs.Programs.{IsReadAs}
use Rattle.mol_table_rules.specs.Program.{Program}
use Rattle.mol_top.proofs.Stopping.{StopsBy-later, said_plain, store_plain}
use Rattle.mol_top.specs.Answers.{store_status}
use Rattle.mol_top.specs.Bases.{BaseRefuses, IsBaseOf, RefuseFiles, RefuseProgram}
use Rattle.mol_top.specs.CleanBases.{HasBaseLine, HasBaseLineBy, IsBaseStopped}
use Rattle.mol_top.specs.Command.{Command, paths_of}
use Rattle.mol_top.specs.Outcome.{ByNames, IsAddressesLine, Refuses}
use Rattle.mol_top.specs.Outside.{IfTold, Store}
use Rattle.mol_top.specs.Prepared.{IsStopped}
use Rattle.mol_top.specs.Refusals.{AreBaseFiles}
use Rattle.mol_top.specs.Refused.{IsForFile, IsForMemory, IsRefusalOfFiles, IsRefusalOfProgram}
use Rattle.mol_top.specs.Report.{line_bytes, names_addresses, refusal_line}
use Rattle.mol_top.specs.Steps.{IsBelow, IsNamed, StopsBase, StopsBy}
use Rattle.mol_top.specs.UncleanLines.{IsProgramLine}
use Rattle.mol_top.specs.declared.fault.StoreFault.{StoreFault}
use Rattle.mol_top.specs.declared.fault.StoreFault.TheVariants as stores
use Rattle.mol_top.specs.declared.refusal.Refusal.{Refusal}
use Rattle.mol_top.specs.declared.status.BaseFault.TheVariants.{Source, Unclean}
use Rattle.mol_top.specs.declared.status.Status.{Status}
use Rattle.mol_top.specs.declared.status.Status.TheVariants.{BaseRefused, OutOfMemory}

-- # From the reading of a base to a command

pub StopsBy-more : (n0 n1 : List ℕ → Type 0) (old new : Store) (r0 r1 : Contents → Status → Type 0) (s : Status)
    → ((path : List ℕ) → n1 path → n0 path) → ((h : Contents) (s : Status) → r1 h s → r0 h s)
    → StopsBy n1 old new r1 s → StopsBy n0 old new r0 s
StopsBy-more n0 n1 old new r0 r1 s named more stops =
    StopsBy-later n0 n1 old old new r0 r1 s named (record { held = refl; reads = omega arith; writes = refl }) (λ h e s r. more h s r) stops

line-more : (b : Bool) (c : Command) (base : List ℕ) (store : Store) (refusal : Refusal)
    → ((h : Contents) (s : Status) (line : List ℕ) → IsProgramLine base h s line → IsAddressesLine c h s line)
    → HasBaseLineBy b base store refusal → ByNames b (Some c) store refusal.status (λ line. line_bytes refusal.line ≡ line)
line-more true c base store refusal lines has = λ h e. (line_bytes refusal.line, lines h refusal.status (line_bytes refusal.line) (has h e), refl)
line-more false c base store refusal lines has = has

pub base_stopped : (c : Command) (base : List ℕ) (old new : Store) (refusal : Refusal)
    → ((h : Contents) (s : Status) → BaseRefuses base h s → Refuses c h s)
    → ((h : Contents) (s : Status) (line : List ℕ) → IsProgramLine base h s line → IsAddressesLine c h s line)
    → ((path : List ℕ) → IsBelow base old.held path → IsNamed (paths_of c) old.held path)
    → IsBaseStopped base old new refusal → IsStopped c old new refusal
base_stopped c base old new refusal refuses lines named stopped = record {
  cause = StopsBy-more (IsNamed (paths_of c) old.held) (IsBelow base old.held) old new (Refuses c) (BaseRefuses base) refusal.status
      named refuses stopped.cause;
  line = line-more (names_addresses refusal.status) c base old refusal lines stopped.line;
}

-- # The files of a base are not read

plain-line : (base : List ℕ) (store : Store) (refusal : Refusal) → names_addresses refusal.status ≡ false
    → line_bytes refusal.line ≡ refusal_line refusal.status → HasBaseLine base store refusal
plain-line base store refusal plain is = subst (λ b. HasBaseLineBy b base store refusal) (sym plain) is

read_cause : (base : List ℕ) (old new : Store) (fault : StoreFault) → StopsBase base old new fault
    → StopsBy (IsBelow base old.held) old new (BaseRefuses base) (store_status fault)
read_cause base old new stores.OutOfMemory stops = tt
read_cause base old new (stores.ReadFailed p) stops = stops
read_cause base old new (stores.Missing p) stops = λ h e. BaseRefuses.reading (stops h e)
read_cause base old new (stores.OutInUse p) stops = λ h e. BaseRefuses.reading (stops h e)
read_cause base old new (stores.Limit fault) stops = λ h e. BaseRefuses.reading (stops h e)

either_cause : (base : List ℕ) (old new : Store) (fault : StoreFault) (said : Status) → StopsBase base old new fault
    → (said ≡ store_status fault) ⊎ (said ≡ OutOfMemory) → StopsBy (IsBelow base old.held) old new (BaseRefuses base) said
either_cause base old new fault said stops (inl is) =
    subst (StopsBy (IsBelow base old.held) old new (BaseRefuses base)) (sym is) (read_cause base old new fault stops)
either_cause base old new fault said stops (inr is) = subst (StopsBy (IsBelow base old.held) old new (BaseRefuses base)) (sym is) tt

pub unread_stopped : (base : List ℕ) (old new : Store) (fault : StoreFault) (refusal : Refusal) → StopsBase base old new fault
    → (refusal.status ≡ store_status fault) ⊎ (refusal.status ≡ OutOfMemory) → line_bytes refusal.line ≡ refusal_line refusal.status
    → IsBaseStopped base old new refusal
unread_stopped base old new fault refusal stops said line = record {
  cause = either_cause base old new fault refusal.status stops said;
  line = plain-line base old refusal (said_plain (store_status fault) refusal.status (store_plain fault) said) line;
}

-- # The files of a base are refused

refuse_files : (files : List FilePair) (status : Status) (is : RefuseFiles files status) → RefuseFiles files (BaseRefused (Source is.place is.fault))
refuse_files files status is = record { place = is.place; fault = is.fault; wrong = is.wrong; is = refl }

refuse_program : (program : Program) (status : Status) (is : RefuseProgram program status) → RefuseProgram program (BaseRefused (Unclean is.fault))
refuse_program program status is = record { fault = is.fault; first = is.first; is = refl }

module _ (base : List ℕ) (old new : Store) where
  abbrev stops : Status → Type 0
  stops = StopsBy (IsBelow base old.held) old new (BaseRefuses base)

  pub for-memory : (refusal : Refusal) → IsForMemory refusal → IsBaseStopped base old new refusal
  for-memory refusal is = record {
    cause = subst stops (sym is.status) tt;
    line = plain-line base old refusal (ap names_addresses is.status) (is.line ∙ ap refusal_line (sym is.status));
  }

module _ (base : List ℕ) (old new : Store) (read : List File) (are : IfTold old.held (λ h. AreBaseFiles base h read)) (refusal : Refusal) where
  for-file : IsForFile (file_pairs read) refusal → IsBaseStopped base old new refusal
  for-file is =
      let said : Status = BaseRefused (Source is.refused.place is.refused.fault) in
      record {
        cause = subst (stops base old new) (sym is.refused.is)
            (λ h e. BaseRefuses.files (are h e).allowed (subst (λ (files : List FilePair). RefuseFiles files said) (are h e).are
            (refuse_files (file_pairs read) refusal.status is.refused)));
        line = plain-line base old refusal (ap names_addresses is.refused.is) is.line;
      }

  pub files_stopped : IsRefusalOfFiles (file_pairs read) refusal → IsBaseStopped base old new refusal
  files_stopped (inl memory) = for-memory base old new refusal memory
  files_stopped (inr file) = for-file file

-- # The program of a base is refused

module _ (base : List ℕ) (old new : Store) (program : Program) (of : IfTold old.held (λ h. IsBaseOf base h program)) (refusal : Refusal) where
  pub program_stopped : IsRefusalOfProgram program refusal → IsBaseStopped base old new refusal
  program_stopped (inl memory) = for-memory base old new refusal memory
  program_stopped (inr fault) = record {
    cause = subst (stops base old new) (sym fault.refused.is)
        (λ h e. BaseRefuses.unclean program (of h e) (refuse_program program refusal.status fault.refused));
    line = subst (λ b. HasBaseLineBy b base old refusal) (sym (ap names_addresses fault.refused.is))
        (λ h e. record { program = program; base_of = of h e; is = fault.line });
  }
