-- The entities that are made of what is read are those that the files say.
use Rattle.std.proofs.Common.{◌≡◌, ℕ, Bool, true, List, [], ◌∷◌, length, filter_map, Option, Some, None, option_map, refl, ◌∙◌, ap}
use Rattle.std.specs.Option.{option_and_then}
use Rattle.std.proofs.lemmas.Option.{same_Some}
use Rattle.mol_base.specs.declared.ident.Id.{Id}
use Rattle.jav_tree.specs.declared.types.TypeName.{TypeName}
use Rattle.jav_names.specs.Members.{is_object_method}
use Rattle.jav_names.specs.UnitViews.{MemberKey}
use Rattle.jav_names.specs.Views.{ViewDeclaration}
use Rattle.mol_resolve_entities.specs.Parts.{words_value, front_value, class_entity, declaration_entity, method_entity}
use Rattle.mol_resolve_laws.specs.Entities.{entity_as, entity_of}
use Rattle.mol_resolve_rules.specs.Expected.{kind_of, member_known, known_of, super_cell, name_of_member, words_of_member, front_of_member, body_cell, value_cell, method_cell, cell_of_member, result_cell, params_cell, is_fixed, cell_of_method, value_of}
use Rattle.mol_resolve_rules.specs.Files.{File, Files, HasFile, PlacedMember, files_view, declaration_at, member_at}
use Rattle.mol_resolve_rules.specs.Numbering.{numbered_class, numbered_member, numbered_method, id_at, ids_of}
use Rattle.mol_resolve_rules.specs.Outcomes.{mapped, maybe}
use Rattle.mol_resolve_rules.specs.ReadFiles.{file_reader, member_reader}
use Rattle.mol_resolve_rules.specs.ReadTypes.{ReadType, read_type}
use Rattle.mol_values_types.specs.declared.cell.Slot.{Slot}
use Rattle.mol_values_types.specs.declared.cell.Slot.TheVariants as slots
use Rattle.mol_values_types.specs.declared.iblock.IBody.{IBody}
use Rattle.mol_values_types.specs.declared.iexpr.IExpr.{IExpr}
use Rattle.mol_values_types.specs.declared.itype.IType.{IType}
use Rattle.mol_values_types.specs.declared.kind.Kind.TheVariants as kinds
use Rattle.mol_values_types.specs.declared.known.Known.{Known}
use Rattle.mol_values_types.specs.declared.known.Known.TheVariants as knowns
use Rattle.mol_values_types.specs.declared.param.Param.{Param as Listed}
use Rattle.mol_values_types.specs.declared.value.Value.TheVariants as values

-- ---- values, where each slot has one

kept-six : {X Y : Type 0} (f : X → Option Y) (a b c d e g : X) (u v w x y z : Y) → f a ≡ Some u → f b ≡ Some v → f c ≡ Some w
    → f d ≡ Some x → f e ≡ Some y → f g ≡ Some z
    → filter_map f (a ∷ b ∷ c ∷ d ∷ e ∷ g ∷ []) ≡ u ∷ v ∷ w ∷ x ∷ y ∷ z ∷ []
kept-six f a b c d e g u v w x y z fa fb fc fd fe fg = rw (fa, fb, fc, fd, fe, fg) refl

kept-five : {X Y : Type 0} (f : X → Option Y) (a b c d e : X) (u v w x y : Y) → f a ≡ Some u → f b ≡ Some v → f c ≡ Some w
    → f d ≡ Some x → f e ≡ Some y → filter_map f (a ∷ b ∷ c ∷ d ∷ e ∷ []) ≡ u ∷ v ∷ w ∷ x ∷ y ∷ []
kept-five f a b c d e u v w x y fa fb fc fd fe = rw (fa, fb, fc, fd, fe) refl

module _ (files : Files) where
  -- ---- classes

  -- what the class of a file extends, as it is read
  abbrev above_read : ℕ × File → Option TypeName → Option (Option IType)
  above_read file parent = (maybe (option_map (λ name. mapped (λ (read : ReadType ℕ). read.tree)
      (read_type (file_reader files file) 0 name)) parent)).value

  super-read : (file : ℕ × File) (parent : Option TypeName) (above : Option IType) → above_read file parent ≡ Some above
      → super_cell files file parent ≡ Some (values.Super above)
  super-read file None above is = ap (λ (o : Option IType). Some (values.Super o)) (same_Some None above is)
  super-read file (Some name) above is = by (read_type (file_reader files file) 0 name).value is where
    by : (read : Option (ReadType ℕ)) → option_map (λ a. Some a) (option_map (λ (read : ReadType ℕ). read.tree) read) ≡ Some above
        → option_map (λ (read : ReadType ℕ). values.Super (Some read.tree)) read ≡ Some (values.Super above)
    by None is = absurd cc
    by (Some read) is = ap (λ (o : Option IType). Some (values.Super o)) (same_Some (Some read.tree) above is)

  pub class-made : (number : ℕ) (file : File) (above : Option IType) → HasFile files number file
      → above_read (number, file) file.unit.class.parent ≡ Some above
      → entity_of files (numbered_class number) ≡ Some (class_entity (id_at files (numbered_class number)) file.unit above)
  class-made number file above stands is =
      let said = super-read (number, file) file.unit.class.parent above is in rw stands (rw said refl)

  -- ---- members

  module _ (key : MemberKey) (at : PlacedMember) (found : member_at files key ≡ Some at) where
    abbrev own : Id
    own = id_at files (numbered_member key)

    abbrev owner : Id
    owner = id_at files (numbered_class at.number)

    cell-at : (slot : Slot) → value_of files (numbered_member key) slot ≡ cell_of_member files slot at
    cell-at slot = ap (option_and_then (cell_of_member files slot)) found

    -- what it is known as, and its values but the last
    module _ (known : Known) (is_known : member_known files at.declared ≡ known) where
      known-at : known_of files (numbered_member key) ≡ Some known
      known-at = ap (option_map (λ (placed : PlacedMember). member_known files placed.declared)) found ∙ ap (λ k. Some k) is_known

    pub field-made : (type : IType) (init : Option IExpr) → member_known files at.declared ≡ knowns.Field
        → value_cell (member_reader files at) at.member ≡ Some (values.Value type init)
        → entity_of files (numbered_member key) ≡ Some (record {
          id = own;
          kind = kinds.Field;
          values = values.Live true ∷ values.Owner owner ∷ values.Name (name_of_member at.member)
              ∷ words_value (words_of_member at.member) ∷ front_value (front_of_member at.member) ∷ values.Value type init ∷ [];
        })
    field-made type init known value =
        ap (option_map (entity_as files (numbered_member key))) (known-at knowns.Field known)
        ∙ ap (λ all. Some (record { id = own; kind = kinds.Field; values = all }))
        (kept-six (value_of files (numbered_member key)) slots.Live slots.Owner slots.Name slots.Words slots.Notes slots.Value
        (values.Live true) (values.Owner owner) (values.Name (name_of_member at.member)) (words_value (words_of_member at.member))
        (front_value (front_of_member at.member)) (values.Value type init)
        (cell-at slots.Live) (cell-at slots.Owner) (cell-at slots.Name) (cell-at slots.Words) (cell-at slots.Notes)
        (cell-at slots.Value ∙ value))

    module _ (declared : ViewDeclaration ℕ MemberKey) (is_declared : at.declared ≡ Some declared) where
      abbrev method : Id
      method = (ids_of files).method_id declared

      pub declaration-made : (body : Option IBody) → body_cell (member_reader files at) at.member ≡ Some (values.Body body)
          → entity_of files (numbered_member key)
          ≡ Some (declaration_entity own owner method (words_of_member at.member) (front_of_member at.member) body)
      declaration-made body is =
          ap (option_map (entity_as files (numbered_member key))) (known-at (knowns.Decl method) (ap (member_known files) is_declared))
          ∙ ap (λ all. Some (record { id = own; kind = kinds.Decl; values = all }))
          (kept-six (value_of files (numbered_member key)) slots.Live slots.Owner slots.Method slots.Words slots.Notes slots.Body
          (values.Live true) (values.Owner owner) (values.Method method) (words_value (words_of_member at.member))
          (front_value (front_of_member at.member)) (values.Body body)
          (cell-at slots.Live) (cell-at slots.Owner) (cell-at slots.Method ∙ ap (method_cell files) is_declared) (cell-at slots.Words)
          (cell-at slots.Notes) (cell-at slots.Body ∙ is))

      -- its method, where it is the topmost declaration of that
      cell-of_method : (slot : Slot) → value_of files (numbered_method key) slot ≡ cell_of_method files slot at
      cell-of_method slot = ap (option_and_then (cell_of_method files slot)) found

      pub method-made : (result : IType) (params : List Listed) → declaration_at (files_view files) key ≡ Some declared
          → result_cell (member_reader files at) at.member ≡ Some (values.Result result)
          → params_cell files at ≡ Some (values.Params params)
          → is_fixed declared ≡ is_object_method (name_of_member at.member) (length params)
          → entity_of files (numbered_method key)
          ≡ Some (method_entity (id_at files (numbered_method key)) (name_of_member at.member) result params (kind_of declared.kind))
      method-made result params stands gives takes fixed =
          ap (option_map (entity_as files (numbered_method key)))
          (ap (option_map (λ (declared : ViewDeclaration ℕ MemberKey). knowns.Method (kind_of declared.kind))) stands)
          ∙ ap (λ all. Some (record { id = id_at files (numbered_method key); kind = kinds.Method; values = all }))
          (kept-five (value_of files (numbered_method key)) slots.Name slots.Result slots.Params slots.Kind slots.Fixed
          (values.Name (name_of_member at.member)) (values.Result result) (values.Params params) (values.Kind (kind_of declared.kind))
          (values.Fixed (is_object_method (name_of_member at.member) (length params)))
          (cell-of_method slots.Name) (cell-of_method slots.Result ∙ gives) (cell-of_method slots.Params ∙ takes)
          (cell-of_method slots.Kind
          ∙ ap (option_map (λ (d : ViewDeclaration ℕ MemberKey). values.Kind (kind_of d.kind))) is_declared)
          (cell-of_method slots.Fixed
          ∙ ap (option_map (λ (d : ViewDeclaration ℕ MemberKey). values.Fixed (is_fixed d))) is_declared
          ∙ ap (λ (is : Bool). Some (values.Fixed is)) fixed))
