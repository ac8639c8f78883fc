use Rattle.std.proofs.Common.{◌≡◌, ◌∙◌, List, ap, subst, sym}
use Rattle.std.specs.Result.{IfErr, IfOk, OnOk}
use Rattle.jav_scope.specs.declared.source.SourceUnit.{SourceUnit}
use Rattle.mol_resolve_members.specs.places.Orders.{numbers_by_path}
use Rattle.mol_resolve_laws.specs.Entities.{plain_entities}
use Rattle.mol_resolve.proofs.resolving.read_files.Goals as goal
use Rattle.mol_resolve.specs.Reported.{IsReported}
use Rattle.mol_resolve_members.specs.sources.Sources.{files_of}
use Rattle.mol_resolve_rules.specs.ReadAs.{HasNoFault}

pub read_all-requires : goal.read_all-requires
read_all-requires c =
    c.requires.order ∙ ap (λ (all : List SourceUnit). numbers_by_path all) (sym c.in_ok-reader.ensures)

pub returns-clause-none : goal.returns-clause-none
returns-clause-none c =
    subst (λ (all : List SourceUnit). OnOk c.read_all.result (HasNoFault (files_of all))) c.in_ok-reader.ensures c.read_all.ensures.none

pub returns-clause-entities : goal.returns-clause-entities
returns-clause-entities c =
    subst (λ (all : List SourceUnit). IfOk c.read_all.result (λ entities. entities ≡ plain_entities (files_of all))) c.in_ok-reader.ensures
    c.read_all.ensures.entities

pub returns-clause-fault : goal.returns-clause-fault
returns-clause-fault c =
    subst (λ (all : List SourceUnit). IfErr c.read_all.result (IsReported (files_of all))) c.in_ok-reader.ensures c.read_all.ensures.fault
