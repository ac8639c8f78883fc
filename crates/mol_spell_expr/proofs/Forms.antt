-- Members of each form, from what stands before them.
use Rattle.std.proofs.Common.{◌≡◌, List, refl}
use Rattle.mol_base.specs.declared.ident.Id.{Id}
use Rattle.mol_resolve_rules.specs.Locals.{Locals}
use Rattle.mol_spell_rules.specs.SpelledExpressions.{SpelledExpr, MemberForm, by_name, on_this, on_class, call_tree, field_tree, name_of, trees}
use Rattle.mol_spell_rules.specs.Writers.{Writer}
use Rattle.mol_spell_expr.specs.Calls.{call_node, field_node, receiver}

module _ (writer : Writer) (locals : Locals Id) where
  pub field-after : (form : MemberForm) (field : Id)
      → field_node (receiver writer locals form) (name_of writer locals field) ≡ field_tree writer locals form field
  field-after by_name field = refl
  field-after on_this field = refl
  field-after (on_class class) field = refl

  pub call-after : (form : MemberForm) (method : Id) (parts : List SpelledExpr)
      → call_node (receiver writer locals form) (name_of writer locals method) (trees parts) ≡ call_tree writer locals form method parts
  call-after by_name method parts = refl
  call-after on_this method parts = refl
  call-after (on_class class) method parts = refl
