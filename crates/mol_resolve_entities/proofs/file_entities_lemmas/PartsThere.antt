-- Where files have no fault, each part of a class and of a member has a value.
use Rattle.std.proofs.Common.{◌≡◌, ℕ, true, List, [], ◌∷◌, flat_map, length, Option, Some, None, option_map, Contains, refl, sym, ◌∙◌, ap}
use Rattle.std.specs.Option.{option_and_then}
use Rattle.mol_base.specs.declared.ident.Id.{Id}
use Rattle.jav_tree.specs.declared.types.TypeName.{TypeName}
use Rattle.jav_tree.specs.declared.unit.Member.{Member}
use Rattle.jav_tree.specs.declared.unit.Param.{Param}
use Rattle.jav_names.proofs.Lists.{stands_first}
use Rattle.jav_names.specs.UnitViews.{MemberKey, numbered}
use Rattle.mol_resolve_rules.proofs.FilesStand.{StandsAt, member-found, member-in_order}
use Rattle.mol_resolve_rules.proofs.KnownTypes.{IsRead, type-whole}
use Rattle.mol_resolve_rules.proofs.Stands.{behind, in_each, in_front, in_numbered}
use Rattle.mol_resolve_rules.proofs.ValuesFound.{values_there}
use Rattle.mol_resolve_rules.proofs.Whole.{Any, whole-all, whole-any}
use Rattle.mol_resolve_rules.specs.Expected.{member_known, known_of, cell_of_member}
use Rattle.mol_resolve_rules.specs.Files.{File, Files, HasFile, PlacedMember, placed}
use Rattle.mol_resolve_rules.specs.Numbering.{numbered_member}
use Rattle.mol_resolve_rules.specs.Outcomes.{TreeFault}
use Rattle.mol_resolve_rules.specs.ReadAs.{HasNoFault}
use Rattle.mol_resolve_rules.specs.ReadFiles.{read_params, member_faults, superclass_faults}
use Rattle.mol_resolve_rules.specs.ReadTypes.{read_type}
use Rattle.mol_resolve_rules.specs.Readers.{Reader}
use Rattle.mol_resolve_rules.specs.ResolveFaults.{in_tree}
use Rattle.mol_values_types.specs.Slots.{has_slot}
use Rattle.mol_values_types.specs.declared.cell.Slot.{Slot}
use Rattle.mol_values_types.specs.declared.itype.IType.{IType}
use Rattle.mol_values_types.specs.declared.known.Known.{Known}
use Rattle.mol_values_types.specs.declared.param.Param.{Param as Listed}
use Rattle.mol_values_types.specs.declared.value.Value.{Value}
use Rattle.mol_resolve_entities.specs.file_entities.EntitiesRead.{IsMemberAt, placed_at}
use Rattle.mol_resolve_entities.proofs.file_entities_lemmas.ListedParams.{listed_params, listed-value}
use Rattle.mol_resolve_entities.specs.member_entities.Headings.{all_read, tree_in, tree_read}

-- what is made of something comes of something
pub made-of : {A B : Type 0} (make : A → B) (part : Option A) (made : B) → option_map make part ≡ Some made → (a : A) × (part ≡ Some a)
made-of make None made is = absurd cc
made-of make (Some a) made is = (a, refl)

none-of : (faults : List TreeFault) → ((fault : TreeFault) → ¬ Contains faults fault) → faults ≡ []
none-of [] never = refl
none-of (fault ∷ faults) never = absurd (never fault (stands_first fault faults))

-- ---- types and parameters

module _ (reader : Reader ℕ MemberKey) (at : ℕ) where
  pub tree-there : (name : TypeName) → (read_type reader at name).faults ≡ []
      → (tree : IType) × ((tree_read reader at name).value ≡ Some tree)
  tree-there name none =
      let read = type-whole reader at name none in
      (read.0.tree, ap (option_map tree_in) read.1)

  pub params-there : (ids : List Id) (params : List Param) → length ids ≡ length params → (read_params reader at params).faults ≡ []
      → (list : List Listed) × ((all_read ids reader at params).value ≡ Some list)
  params-there ids params same none =
      let read = whole-all Any (λ (param : Param). read_type reader at param.ty)
      (λ param. whole-any (IsRead reader param.ty) (read_type reader at param.ty) (type-whole reader at param.ty)) params none in
      (listed_params ids params read.0, listed-value reader at ids params same ∙ ap (option_map (listed_params ids params)) read.1)

-- ---- in files without a fault

module _ (files : Files) (no_fault : HasNoFault files) where
  abbrev members_faults : ℕ × File → List TreeFault
  members_faults file = flat_map (λ (m : ℕ × Member). member_faults files (placed files file m)) (numbered file.1.unit.class.members)

  pub no-superclass_fault : (number : ℕ) (file : File) → HasFile files number file → superclass_faults files (number, file) ≡ []
  no-superclass_fault number file stands = none-of (superclass_faults files (number, file))
      (λ fault there. no_fault fault.kind number fault.at
      (in_tree stands (in_front (superclass_faults files (number, file)) (members_faults (number, file)) fault there)))

  module _ (key : MemberKey) (file : File) (member : Member) (stands : IsMemberAt files key file member) where
    abbrev here : PlacedMember
    here = placed_at files key file member

    pub no-member_fault : member_faults files here ≡ []
    no-member_fault = none-of (member_faults files here)
        (λ fault there. no_fault fault.kind key.unit fault.at (in_tree stands.in_files
        (behind (superclass_faults files (key.unit, file)) (members_faults (key.unit, file)) fault
        (in_each (λ (m : ℕ × Member). member_faults files (placed files (key.unit, file) m)) (numbered file.unit.class.members)
        (key.member, member) fault (in_numbered file.unit.class.members key.member member stands.in_class) there))))

    abbrev pub as_standing : StandsAt files key
    as_standing = record { file = file; in_files = stands.in_files; member = member; in_class = stands.in_class }

    pub known-here : known_of files (numbered_member key) ≡ Some (member_known files here.declared)
    known-here = ap (option_map (λ (at : PlacedMember). member_known files at.declared)) (member-found files key as_standing)

    -- in each slot that it has
    pub cell-there : (known : Known) (slot : Slot) → member_known files here.declared ≡ known → has_slot (Some known) slot ≡ true
        → (value : Value) × (cell_of_member files slot here ≡ Some value)
    cell-there known slot is has =
        let there = values_there.values files no_fault (numbered_member key) (member-in_order files key as_standing) slot
        (ap (λ (o : Option Known). has_slot o slot) (known-here ∙ ap (λ k. Some k) is) ∙ has) in
        (there.0, sym (ap (option_and_then (cell_of_member files slot)) (member-found files key as_standing)) ∙ there.1)
