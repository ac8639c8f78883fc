-- What members use, one after the other, is what their cells do.
use Rattle.std.proofs.Common.{◌≡◌, List, [], ◌∷◌, ◌++◌, map, true, Option, refl, sym, ap, ◌∙◌, append_assoc}
use Rattle.std.proofs.lemmas.List.{append-nil}
use Rattle.std.specs.List.{flat_map}
use Rattle.mol_base.specs.declared.ident.Id.{Id}
use Rattle.mol_spell_uses.specs.body_uses.PartUses.{value_uses}
use Rattle.mol_scope_classes.specs.class_members.Members.{member_entry}
use Rattle.mol_scope_classes.specs.declared.class_members.class_member.ClassMember.{ClassMember}
use Rattle.mol_spell_names.specs.uses.CellUses.{member_uses, members_uses}
use Rattle.mol_spell_rules.specs.SimpleNames.{uses_at}
use Rattle.mol_spell_rules.specs.UnitCells.{cell_writer, member_cells}
use Rattle.mol_spell_rules.specs.Writers.{Use, Writer}
use Rattle.mol_table_rules.specs.Program.{Program, value_at}
use Rattle.mol_values_types.specs.declared.cell.Cell.{Cell}
use Rattle.mol_values_types.specs.declared.value.Value.{Value}

flat-both : {A B : Type 0} (of : A → List B) (xs ys : List A) → flat_map of (xs ++ ys) ≡ flat_map of xs ++ flat_map of ys
flat-both of [] ys = refl
flat-both of (x ∷ xs) ys = ap (λ us. of x ++ us) (flat-both of xs ys) ∙ sym (append_assoc (of x) (flat_map of xs) (flat_map of ys))

module _ (program : Program) (class : Id) where
  abbrev at : Cell → List Use
  at = uses_at program class

  -- a cell, by what its value uses where it is written
  pub cell-uses : (place : Cell) (writer : Writer) (value : Option Value) → writer ≡ cell_writer program [] (λ what. true) class place
      → value ≡ value_at program place.id place.slot → value_uses writer value ≡ uses_at program class place
  cell-uses place writer value is held = λ i. value_uses (is i) (held i)

  pub each-member : (members : List ClassMember)
      → flat_map (λ (member : ClassMember). member_uses program class (member_entry member)) members
      ≡ members_uses program class (map member_entry members)
  each-member [] = refl
  each-member (member ∷ members) =
      ap (λ us. member_uses program class (member_entry member) ++ us) (each-member members)
      ∙ sym (flat-both at (member_cells (member_entry member)) (flat_map member_cells (map member_entry members)))

  pub one-cell : (cell : Cell) (so_far more : List Use) → more ≡ so_far ++ at cell → more ≡ so_far ++ flat_map at (cell ∷ [])
  one-cell cell so_far more is = is ∙ ap (λ us. so_far ++ us) (sym (append-nil (at cell)))

  pub three-cells : (first second third : Cell) (so_far one two more : List Use) → one ≡ so_far ++ at first → two ≡ one ++ at second
      → more ≡ two ++ at third → more ≡ so_far ++ flat_map at (first ∷ second ∷ third ∷ [])
  three-cells first second third so_far one two more is next last =
      last ∙ ap (λ us. us ++ at third) (next ∙ ap (λ us. us ++ at second) is ∙ append_assoc so_far (at first) (at second))
      ∙ append_assoc so_far (at first ++ at second) (at third)
      ∙ ap (λ us. so_far ++ us) (append_assoc (at first) (at second) (at third)
      ∙ ap (λ us. at first ++ (at second ++ us)) (sym (append-nil (at third))))
