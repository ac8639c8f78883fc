-- The members of a class as trees, one further.
use Rattle.std.proofs.Common.{◌≡◌, ℕ, ◌+◌, ◌<◌, ◌≤◌, List, [], ◌∷◌, ◌++◌, map, take, length, get_or, filter_map, Option, None, Some, refl, sym, ◌∙◌, ap}
use Rattle.std.specs.List.{cons_option}
use Rattle.std.specs.Option.{option_to_list}
use Rattle.std.proofs.lemmas.List.{map_push, take_all, take_more}
use Rattle.std.proofs.lemmas.List.Elements.{filter_map-append}
use Rattle.mol_base.specs.declared.ident.Id.{Id}
use Rattle.mol_scope_classes.specs.class_members.Members.{member_entry}
use Rattle.mol_scope_classes.specs.declared.class_members.class_member.ClassMember.{ClassMember}
use Rattle.mol_spell_rules.specs.SpelledUnits.{declaration_member}
use Rattle.mol_table_rules.specs.Program.{Program}
use Rattle.mol_spell.specs.units.MemberTrees.{member_of_kind}
use Rattle.mol_values_types.specs.declared.kind.MethodKind.{MethodKind}
use Rattle.mol_values_types.specs.declared.kind.MethodKind.TheVariants.{Instance, Static, Constructor}
use Rattle.mol_values_types.specs.declared.known.Known.{Known}
use Rattle.mol_values_types.specs.declared.known.Known.TheVariants as knowns

module _ {T : Type 0} (tree : Id × Known → Option T) where
  last-made : (member : Id × Known) → filter_map tree (member ∷ []) ≡ option_to_list (tree member)
  last-made member = by (tree member) where
    by : (made : Option T) → cons_option made [] ≡ option_to_list made
    by None = refl
    by (Some made) = refl

  pub listed-more : (members : List ClassMember) (i : ℕ) (member : ClassMember) (trees more : List T) (made : Option T) → i < length members
      → member ≡ get_or members i member → trees ≡ filter_map tree (map member_entry (take i members)) → made ≡ tree (member_entry member)
      → more ≡ trees ++ option_to_list made → more ≡ filter_map tree (map member_entry (take (i + 1) members))
  listed-more members i member trees more made within at are is added =
      let further : take (i + 1) members ≡ take i members ++ member ∷ [] =
      take_more members i member within ∙ ap (λ member. take i members ++ member ∷ []) (sym at)
      in
      added
      ∙ (λ k. are k ++ (ap option_to_list is ∙ sym (last-made (member_entry member))) k)
      ∙ sym (ap (λ members. filter_map tree (map member_entry members)) further
      ∙ ap (filter_map tree) (map_push member_entry (take i members) member)
      ∙ filter_map-append tree (map member_entry (take i members)) (member_entry member ∷ []))

  pub all-listed : (members : List ClassMember) (i : ℕ) (trees : List T) (entries : List (Id × Known)) → length members ≤ i
      → trees ≡ filter_map tree (map member_entry (take i members)) → map member_entry members ≡ entries → trees ≡ filter_map tree entries
  all-listed members i trees entries past are same =
      are ∙ ap (λ members. filter_map tree (map member_entry members)) (take_all i members past) ∙ ap (filter_map tree) same

-- ---- declarations, by the kinds of their methods

pub declared-kind : (program : Program) (class declaration method : Id) (kind : MethodKind)
    → Some (member_of_kind program class declaration method kind)
    ≡ declaration_member program class declaration method (Some (knowns.Method kind))
declared-kind program class declaration method Instance = refl
declared-kind program class declaration method Static = refl
declared-kind program class declaration method Constructor = refl
