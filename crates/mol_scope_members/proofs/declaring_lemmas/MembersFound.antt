-- What the indexes of fields and methods find in a class.
use Rattle.std.proofs.Common.{◌≡◌, ℕ, ◌==◌, Bool, true, false, not, ◌&&◌, Some, None, option_map, find, refl, sym, ◌∙◌, ap, bytes_eq, if◌then◌else◌}
use Rattle.std.specs.Ordering.{is_eq}
use Rattle.std.proofs.Math.Bool.{and_comm}
use Rattle.jav_names.specs.DottedNames.{Name}
use Rattle.jav_names.specs.LookUps.{is_constructor, is_method}
use Rattle.jav_names.specs.Views.{ViewField, ViewDeclaration, View}
use Rattle.mol_base.specs.Order.{id_cmp}
use Rattle.mol_base.specs.declared.ident.Id.{Id}
use Rattle.jav_names.proofs.id_index_lemmas.Sought.{sought-is}
use Rattle.jav_names.specs.id_index.Seeking.{is_sought}
use Rattle.mol_resolve_rules.specs.ProgramViews.{program_view}
use Rattle.mol_table_rules.specs.Program.{Program}
use Rattle.mol_scope_members.specs.declaring.Indexed.{AreIndexed, found_in, declared_field, declared_method}
use Rattle.mol_scope_members.specs.declaring.MemberEntries.{field_entry, method_entry, listed_method}
use Rattle.mol_scope_members.specs.declared.declaring.members.Members.{Members}
use Rattle.mol_scope_members.proofs.declaring_lemmas.EntriesMade.{id_of, Fits, found-made, mapped-made}

module _ (program : Program) where
  abbrev pub view : View Id Id
  view = program_view program

  abbrev field_key : ViewField Id Id → Id
  field_key field = field.key

  abbrev declaration_key : ViewDeclaration Id Id → Id
  declaration_key declared = declared.key

  abbrev field_passes : Name → Id → ViewField Id Id → Bool
  field_passes name class field = bytes_eq field.name name && is_eq (id_cmp field.owner class)

  abbrev method_passes : Name → ℕ → Id → ViewDeclaration Id Id → Bool
  method_passes name arity class declared = is_method name arity declared && is_eq (id_cmp declared.owner class)

  field-fits : (name : Name) (class : Id) (field : ViewField Id Id)
      → Fits (λ f. Some (field_entry f)) field_key (field_passes name class) (is_sought class 0 name) field (Some (field_entry field))
  field-fits name class field = (
    sought-is class 0 name (field_entry field) ∙ and_comm (is_eq (id_cmp field.owner class)) (bytes_eq field.name name),
    refl,
  )

  method-fits : (name : Name) (arity : ℕ) (class : Id) (declared : ViewDeclaration Id Id)
      → Fits listed_method declaration_key (method_passes name arity class) (is_sought class arity name) declared
      (listed_method declared)
  method-fits name arity class declared = by (is_constructor declared.kind) refl where
    by : (b : Bool) → is_constructor declared.kind ≡ b
        → Fits listed_method declaration_key (method_passes name arity class) (is_sought class arity name) declared
        (if b then None else Some (method_entry declared))
    by true is = ap (λ b. (not b && (bytes_eq declared.name name && declared.arity == arity)) && is_eq (id_cmp declared.owner class)) is
    by false is = (
      sought-is class arity name (method_entry declared)
          ∙ and_comm (is_eq (id_cmp declared.owner class)) (declared.arity == arity && bytes_eq declared.name name)
          ∙ ap (λ b. b && is_eq (id_cmp declared.owner class)) (and_comm (declared.arity == arity) (bytes_eq declared.name name))
          ∙ ap (λ b. (not b && (bytes_eq declared.name name && declared.arity == arity)) && is_eq (id_cmp declared.owner class)) (sym is),
      refl,
    )

  module _ (members : Members) (indexed : AreIndexed members program) where
    pub field-same : (name : Name) (class : Id)
        → found_in members.fields 0 name class ≡ option_map field_key (declared_field view class name)
    field-same name class =
        ap (option_map id_of) (indexed.fields class 0 name ∙ ap (find (is_sought class 0 name)) (mapped-made field_entry view.fields))
        ∙ found-made (λ f. Some (field_entry f)) field_key (field_passes name class) (is_sought class 0 name) (field-fits name class)
        view.fields

    pub method-same : (name : Name) (arity : ℕ) (class : Id)
        → found_in members.methods arity name class ≡ option_map declaration_key (declared_method view class name arity)
    method-same name arity class =
        ap (option_map id_of) (indexed.methods class arity name)
        ∙ found-made listed_method declaration_key (method_passes name arity class) (is_sought class arity name)
        (method-fits name arity class) view.declarations
