-- What a type mentions, by what it is.
use Rattle.std.proofs.Common.{◌≡◌, ℕ, List, [], sym, ap, ◌∙◌}
use Rattle.mol_base.specs.declared.ident.Id.{Id}
use Rattle.mol_table_rules.specs.Mentions.{Mention, a_class, named, type_mentions, type_step}
use Rattle.mol_values_types.specs.declared.itype.IType.{IType}
use Rattle.mol_values_types.specs.declared.itype.IType.TheFolds.{fold-roll-IType, map-IType}
use Rattle.mol_values_types.specs.declared.itype.IType.TheOpen.{IType-F}
use Rattle.mol_values_types.specs.declared.itype.IType.TheVariants as kinds
use Rattle.mol_values_types.specs.declared.itype.IType.TheViews.{roll-IType}

abbrev Name : Type 0
Name = List ℕ

module _ (type : IType) where
  by_kind : (x : IType-F IType) → type ≡ roll-IType x → type_mentions type ≡ type_step (map-IType _ _ type_mentions x)
  by_kind x is = ap type_mentions is ∙ fold-roll-IType (List Mention) type_step x

  pub mentions-Boolean : type ≡ kinds.Boolean → type_mentions type ≡ []
  mentions-Boolean is = by_kind IType-F.Boolean (is ∙ sym kinds.rolls-Boolean)

  pub mentions-Byte : type ≡ kinds.Byte → type_mentions type ≡ []
  mentions-Byte is = by_kind IType-F.Byte (is ∙ sym kinds.rolls-Byte)

  pub mentions-Short : type ≡ kinds.Short → type_mentions type ≡ []
  mentions-Short is = by_kind IType-F.Short (is ∙ sym kinds.rolls-Short)

  pub mentions-Char : type ≡ kinds.Char → type_mentions type ≡ []
  mentions-Char is = by_kind IType-F.Char (is ∙ sym kinds.rolls-Char)

  pub mentions-Int : type ≡ kinds.Int → type_mentions type ≡ []
  mentions-Int is = by_kind IType-F.Int (is ∙ sym kinds.rolls-Int)

  pub mentions-Long : type ≡ kinds.Long → type_mentions type ≡ []
  mentions-Long is = by_kind IType-F.Long (is ∙ sym kinds.rolls-Long)

  pub mentions-Void : type ≡ kinds.Void → type_mentions type ≡ []
  mentions-Void is = by_kind IType-F.Void (is ∙ sym kinds.rolls-Void)

  pub mentions-Class : (class : Id) → type ≡ kinds.Class class → type_mentions type ≡ named a_class class
  mentions-Class class is = by_kind (IType-F.Class class) (is ∙ sym (kinds.rolls-Class class))

  pub mentions-Imported : (full : Name) (rest : Name) → type ≡ kinds.Imported full rest → type_mentions type ≡ []
  mentions-Imported full rest is = by_kind (IType-F.Imported full rest) (is ∙ sym (kinds.rolls-Imported full rest))

  pub mentions-Written : (text : Name) → type ≡ kinds.Written text → type_mentions type ≡ []
  mentions-Written text is = by_kind (IType-F.Written text) (is ∙ sym (kinds.rolls-Written text))

  pub mentions-Array : (item : IType) → type ≡ kinds.Array item → type_mentions type ≡ type_mentions item
  mentions-Array item is = by_kind (IType-F.Array item) (is ∙ sym (kinds.rolls-Array item))
