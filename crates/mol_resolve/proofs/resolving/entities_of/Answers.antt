use Rattle.std.proofs.Common.{◌≡◌, List, subst}
use Rattle.std.specs.Result.{IfErr, IfOk, OnOk}
use Rattle.jav_scope.specs.declared.source.SourceUnit.{SourceUnit}
use Rattle.mol_resolve_laws.specs.Entities.{plain_entities}
use Rattle.mol_resolve.proofs.resolving.entities_of.Goals as goal
use Rattle.mol_resolve.specs.Reported.{IsReported}
use Rattle.mol_resolve_members.specs.sources.Sources.{files_of}
use Rattle.mol_resolve_rules.specs.ReadAs.{HasNoFault}

pub returns-clause-none : goal.returns-clause-none
returns-clause-none c =
    subst (λ (all : List SourceUnit). OnOk c.read_files.result (HasNoFault (files_of all))) c.items-sources.ensures
    c.read_files.ensures.none

pub returns-clause-entities : goal.returns-clause-entities
returns-clause-entities c =
    subst (λ (all : List SourceUnit). IfOk c.read_files.result (λ entities. entities ≡ plain_entities (files_of all))) c.items-sources.ensures
    c.read_files.ensures.entities

pub returns-clause-fault : goal.returns-clause-fault
returns-clause-fault c =
    subst (λ (all : List SourceUnit). IfErr c.read_files.result (IsReported (files_of all))) c.items-sources.ensures
    c.read_files.ensures.fault
