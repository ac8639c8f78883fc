-- What is wrong first with files as the sources of a program.
use Rattle.std.proofs.Common.{◌≡◌, List, ◌∷◌, ◌++◌, refl, ◌∙◌, ap}
use Rattle.mol_resolve_faults.specs.ResolveFaults.{fault_of, place_of}
use Rattle.mol_resolve_faults.specs.declared.fault.FaultPlace.{FaultPlace}
use Rattle.mol_resolve_faults.specs.declared.fault.ResolveFault.{ResolveFault}
use Rattle.mol_base.specs.Files.{ArePathsApart, FilePair}
use Rattle.mol_program.specs.Programs.{AreParsed, IsUnread, Refuses, ReportsNames}
use Rattle.mol_program.specs.declared.fault.SourceFault.TheVariants.{Lex, Parse, Resolve}
use Rattle.mol_program.specs.declared.fault.ReadFault.{ReadFault}
use Rattle.mol_program.specs.declared.fault.ReadFault.TheVariants.{Refused, OutOfMemory}
use Rattle.mol_program.proofs.TreesOfFiles.{file-of, sources-of, trees-apart}
use Rattle.mol_resolve.specs.Reported.{IsReported}
use Rattle.mol_resolve_rules.specs.FaultKinds as kind
use Rattle.mol_resolve_rules.specs.Files.{Files}

-- # Texts

-- the first file that is the source of no tree, after others that are
pub first-unread : (files before after : List FilePair) (trees : Files) (file : FilePair) (refusal : ReadFault)
    → files ≡ before ++ file ∷ after → AreParsed before trees → IsUnread file refusal → Refuses files refusal
first-unread files before after trees file OutOfMemory split are wrong = tt
first-unread files before after trees file (Refused place (Lex fault)) split are wrong = record {
  file = file;
  first = record { before = before; after = after; split = split; sources = sources-of before trees are; there = wrong.0 };
  at = wrong.1;
}
first-unread files before after trees file (Refused place (Parse fault)) split are wrong = record {
  file = file;
  first = record { before = before; after = after; split = split; sources = sources-of before trees are; there = wrong.0 };
  at = wrong.1;
}
first-unread files before after trees file (Refused place (Resolve fault)) split are wrong = absurd wrong

-- # Names

-- a fault of a kind is where it was put
place-of : (kind : kind.FaultKind) (place : FaultPlace) → place_of (fault_of kind place) ≡ place
place-of kind.path_differs place = refl
place-of kind.duplicate_class place = refl
place-of kind.package_is_class place = refl
place-of kind.super_cycle place = refl
place-of kind.import_clash place = refl
place-of kind.duplicate_member place = refl
place-of kind.overload_by_type place = refl
place-of kind.result_differs place = refl
place-of kind.static_hidden place = refl
place-of kind.redeclared place = refl
place-of kind.unknown_name place = refl
place-of kind.unknown_member place = refl
place-of kind.static_by_instance place = refl
place-of kind.receiver_type place = refl

-- the first fault of names of trees is that of their files
pub names-reported : (files : List FilePair) (trees : Files) (fault : ResolveFault) → ArePathsApart files → AreParsed files trees
    → IsReported trees fault → ReportsNames files fault
names-reported files trees fault apart are reported some =
    let first = reported some (trees-apart files trees apart are) in
    let there = file-of files trees first.number first.is_first.file are first.is_first.stands in
    let unit : (place_of fault).unit ≡ first.number =
    ap (λ fault. (place_of fault).unit) first.is ∙ ap (λ (place : FaultPlace). place.unit) (place-of first.first.kind _) in
    (there.0, record { trees = trees; parsed = are; first = first; stands = rw unit there.1 })
