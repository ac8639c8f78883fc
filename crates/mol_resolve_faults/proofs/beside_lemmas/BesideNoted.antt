-- The law of the faults of a member beside all members.
use Rattle.std.proofs.Common.{◌≡◌, ℕ, true, [], Contains, Option, Some, None, slice_get, sym, ◌∙◌, ap, nat_cmp}
use Rattle.jav_tree.specs.declared.types.TypeName.{TypeName}
use Rattle.jav_tree.specs.declared.unit.Member.{Member}
use Rattle.jav_tree.specs.declared.unit.Member.TheVariants as member
use Rattle.jav_names.specs.LookUps.{ancestors, is_ancestor}
use Rattle.jav_names.specs.UnitViews.{numbered}
use Rattle.jav_names.specs.Views.{ViewType}
use Rattle.jav_names.proofs.Lists.{stands_nowhere}
use Rattle.jav_names.proofs.Ways.{is_met-decides}
use Rattle.mol_resolve_rules.specs.FaultLists.{same_types}
use Rattle.mol_resolve_rules.specs.Files.{File, Files, files_view, type_of_file}
use Rattle.mol_resolve_rules.specs.MemberFaults.{a_field, a_method, a_constructor, Row, row_of}
use Rattle.mol_resolve_rules.specs.Outcomes.{TreeFault}
use Rattle.mol_resolve_rules.specs.ResolveFaults.{rows_in, rows}
use Rattle.mol_resolve_rules.proofs.FilesStand.{files-ordered}
use Rattle.mol_resolve_rules.proofs.Stands.{from_each, from_map}
use Rattle.mol_resolve_faults.specs.beside.Beside.{faulty_beside, faulty_noted}
use Rattle.mol_resolve_faults.specs.beside.Classes.{rows_if, rows_of, rows_above, either}
use Rattle.mol_resolve_faults.specs.beside.Laws.{BesideNoted}
use Rattle.mol_resolve_faults.specs.beside.Between.{faulty_here, faulty_below}
use Rattle.mol_resolve_faults.proofs.beside_lemmas.Here.{faulty-here, faulty-below}
use Rattle.mol_resolve_faults.proofs.beside_lemmas.KindsNoted.{noted-beside_all}
use Rattle.mol_resolve_faults.proofs.beside_lemmas.Owners.{owner-in, faulty-apart}

-- a field takes nothing
field-bare : (see : TypeName → ViewType ℕ) (class : ℕ) (entry : ℕ × Member) (row : Row ℕ) → row_of see class entry ≡ row
    → row.kind ≡ a_field
    → row.params ≡ []
field-bare see class (place, member.Field field) row is kind = ap (λ (r : Row ℕ). r.params) (sym is)
field-bare see class (place, member.Method method) row is kind =
    let other : a_method ≡ a_field = ap (λ (r : Row ℕ). r.kind) is ∙ kind in absurd cc
field-bare see class (place, member.Ctor constructor) row is kind =
    let other : a_constructor ≡ a_field = ap (λ (r : Row ℕ). r.kind) is ∙ kind in absurd cc

module _ (files : Files) where
  -- the row of a class is one of its file
  of-file : (class : ℕ) (row : Row ℕ) → Contains (rows_of files class) row
      → (file : File) × Contains (rows_in files (class, file)) row
  of-file class row = by (slice_get files class) where
    by : (o : Option File) → Contains (rows_if files class o) row → (file : File) × Contains (rows_in files (class, file)) row
    by None stands = absurd (stands_nowhere row stands)
    by (Some file) stands = (file, stands)

  class-owner : (class : ℕ) (row : Row ℕ) → Contains (rows_of files class) row → row.owner ≡ class
  class-owner class row stands = let there = of-file class row stands in owner-in files (class, there.0) row there.1

  class-bare : (class : ℕ) (row : Row ℕ) → Contains (rows_of files class) row → row.kind ≡ a_field → row.params ≡ []
  class-bare class row stands kind =
      let there = of-file class row stands in
      let made = from_map (row_of (type_of_file files (class, there.0)) class) (numbered there.0.unit.class.members) row there.1 in
      field-bare (type_of_file files (class, there.0)) class made.0 row made.2 kind

  module _ (class : ℕ) (second : Row ℕ) (stands : Contains (rows_of files class) second) where
    owner : second.owner ≡ class
    owner = class-owner class second stands

    here : faulty_beside files (rows_of files class) second ≡ faulty_here second.kind (rows_of files class) second
    here = faulty-here files second (rows_of files class) (λ first there. class-owner class first there ∙ sym owner)
        (λ first there is also. λ i.
        same_types nat_cmp (class-bare class first there is i) (class-bare class second stands also i))

    above : (first : Row ℕ) → Contains (rows_above files class) first → is_ancestor (files_view files) second.owner first.owner ≡ true
    above first there =
        let of_class = from_each (rows_of files) (ancestors (files_view files) class) first there in
        let met : is_ancestor (files_view files) class of_class.0 ≡ true =
        (is_met-decides (files_view files).classes (files-ordered files).classes (ancestors (files_view files) class) of_class.0).1
        of_class.1 in
        (λ i. is_ancestor (files_view files) (owner i) (class-owner of_class.0 first of_class.2 i)) ∙ met

    below : faulty_beside files (rows_above files class) second ≡ faulty_below second.kind (rows_above files class) second
    below = faulty-below files second (rows_above files class) above

    told : (first : Option TreeFault) → faulty_noted (faulty_beside files (rows files) second) second.at first
        ≡ faulty_noted (either (faulty_here second.kind (rows_of files class) second)
        (faulty_below second.kind (rows_above files class) second)) second.at first
    told first = ap (λ f. faulty_noted f second.at first)
        (faulty-apart files second
        ∙ (λ i. either (faulty_beside files (rows_of files (owner i)) second) (faulty_beside files (rows_above files (owner i)) second))
        ∙ (λ i. either (here i) (below i)))

pub beside_noted : BesideNoted
beside_noted files class second first stands = noted-beside_all files second first ∙ told files class second stands first
