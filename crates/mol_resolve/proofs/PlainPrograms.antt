-- The entities of files without a fault may be added together, and make their program in plain form.
use Rattle.std.proofs.Common.{◌≡◌, List, ◌∙◌, ap, subst, sym}
use Rattle.std.specs.List.{All}
use Rattle.mol_resolve_laws.proofs.EntitiesPlain.{entities_plain}
use Rattle.mol_resolve_laws.specs.Entities.{plain_entities}
use Rattle.mol_resolve_laws.specs.Laws.{IsTree}
use Rattle.mol_resolve_rules.specs.Files.{Files}
use Rattle.mol_resolve_rules.specs.ReadAs.{FilesReadAs, HasNoFault, IsPlain}
use Rattle.mol_table_rules.specs.Program.{Program, nothing}
use Rattle.mol_table_rules.specs.Writes.{AreNew, with_entities}
use Rattle.mol_table_rules.specs.declared.entity.NewEntity.{NewEntity}

module _ (files : Files) (entities : List NewEntity) (no_fault : HasNoFault files) (trees : All IsTree files)
    (are : entities ≡ plain_entities files) where
  pub all-new : AreNew nothing entities
  all-new = subst (AreNew nothing) (sym are)
      (entities_plain.new files (plain_entities files) no_fault trees (entities_plain.listed files))

  pub is-plain : (program : Program) → program ≡ with_entities nothing entities → IsPlain files program
  is-plain program is = subst (IsPlain files) (sym (is ∙ ap (with_entities nothing) are))
      (entities_plain.plain files (plain_entities files) no_fault trees (entities_plain.listed files))

  pub reads-as : (program : Program) → program ≡ with_entities nothing entities → FilesReadAs files program
  reads-as program is = subst (FilesReadAs files) (sym (is ∙ ap (with_entities nothing) are))
      (entities_plain.read files (plain_entities files) no_fault trees (entities_plain.listed files))
