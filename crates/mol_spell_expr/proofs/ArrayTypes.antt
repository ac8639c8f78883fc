-- How an array type is written, by how its items are.
use Rattle.std.proofs.Common.{◌≡◌, Bool, sym, ap, ◌∙◌}
use Rattle.mol_base.specs.declared.ident.Id.{Id}
use Rattle.mol_values_types.specs.declared.itype.IType.{IType}
use Rattle.mol_values_types.specs.declared.itype.IType.TheFolds.{fold-roll-IType}
use Rattle.mol_values_types.specs.declared.itype.IType.TheOpen.{IType-F}
use Rattle.mol_values_types.specs.declared.itype.IType.TheVariants as kinds
use Rattle.jav_tree.specs.declared.types.TypeName.{TypeName}
use Rattle.jav_tree.specs.declared.types.TypeName.TheVariants as types
use Rattle.jav_names.specs.DottedNames.{Name}
use Rattle.mol_resolve_rules.specs.Locals.{Locals}
use Rattle.mol_spell_rules.specs.SpelledTypes.{SpelledType, spelled_type, type_step}
use Rattle.mol_spell_rules.specs.Writers.{Writer}

-- The type of the items may be found as another value.
pub write-Array : (writer : Writer) (hides : Name → Bool) (locals : Locals Id) (type : IType) (tree : TypeName) (item found : IType)
    → type ≡ kinds.Array item → found ≡ item
    → tree ≡ types.ArrayOf (spelled_type writer hides locals found).tree → tree ≡ (spelled_type writer hides locals type).tree
write-Array writer hides locals type tree item found is same written =
    written ∙ sym (ap (λ (part : SpelledType). part.tree) (ap (spelled_type writer hides locals)
    (is ∙ (λ i. kinds.Array (sym same i)) ∙ sym (kinds.rolls-Array found))
    ∙ fold-roll-IType SpelledType (type_step writer hides locals) (IType-F.Array found)))
