-- The members at each class, one identity further.
use Rattle.std.proofs.Common.{◌≡◌, ℕ, ◌+◌, ◌<◌, ◌≤◌, Bool, true, false, ◌&&◌, if◌then◌else◌, List, [], ◌∷◌, ◌++◌, map, take, length, get_or, filter_map, Option, Some, None, option_map, refl, sym, ◌∙◌, ap}
use Rattle.std.specs.FinMap.{get}
use Rattle.std.specs.Map.{lookup}
use Rattle.std.specs.Option.{option_and_then, option_map_or, option_to_list}
use Rattle.std.proofs.lemmas.List.{append-nil, map-append, take_all}
use Rattle.mol_base.specs.Order.{id_cmp-total}
use Rattle.mol_base.specs.declared.ident.Id.{Id}
use Rattle.mol_scope_classes.specs.class_members.Members.{AreMembers, in_class, in_its_class, listed_at, member_entry, member_of, owned_member}
use Rattle.mol_scope_classes.specs.declared.class_members.class_member.ClassMember.{ClassMember}
use Rattle.mol_scope_classes.specs.declared.class_members.owned.OwnedMember.{OwnedMember}
use Rattle.mol_scope_classes.proofs.classes_lemmas.KnownIds.{made-known, made-more}
use Rattle.mol_scope_classes.specs.classes.Made.{made_of}
use Rattle.mol_spell_rules.specs.UnitCells.{member_in}
use Rattle.mol_table_rules.proofs.Living.{id_tied}
use Rattle.mol_table_rules.specs.Identities.{AreKnown, IsAscending}
use Rattle.mol_table_rules.specs.Program.{Program, living_at, owner_at, same_id}
use Rattle.mol_values_types.specs.Order.{id_eq}
use Rattle.mol_values_types.proofs.Ties.{id_ties}
use Rattle.mol_values_types.specs.declared.known.Known.{Known}
use Rattle.mol_values_types.specs.declared.known.Known.TheVariants as knowns
use Rattle.std.specs.Cmp.{eq_by_cmp_equiv}

-- ---- a member of a class

module _ (class id : Id) (known : Known) where
  chosen : (same : Bool) → option_map member_entry (if same then Some (member_of (in_its_class id known class)) else None)
      ≡ (if same then Some (id, known) else None)
  chosen true = refl
  chosen false = refl

  living-entry : (lives : Bool) (owner : Option Id)
      → option_map member_entry (in_class class (if lives then option_map (in_its_class id known) owner else None))
      ≡ (if lives && option_map_or (same_id class) owner false then Some (id, known) else None)
  living-entry false owner = refl
  living-entry true None = refl
  living-entry true (Some owner) = chosen (same_id class owner)

owned-entry : (program : Program) (class id : Id) (known : Option Known)
    → option_map member_entry (in_class class (owned_member program id known))
    ≡ option_and_then (λ (known : Known). member_in program class (id, known)) known
owned-entry program class id None = refl
owned-entry program class id (Some knowns.Class) = refl
owned-entry program class id (Some (knowns.Method kind)) = refl
owned-entry program class id (Some (knowns.Decl method)) =
    living-entry class id (knowns.Decl method) (living_at program id) (owner_at program id)
owned-entry program class id (Some knowns.Field) = living-entry class id knowns.Field (living_at program id) (owner_at program id)
owned-entry program class id (Some (knowns.Param method)) = refl

-- ---- all members

-- at each class stand those of its members that are among these
abbrev pub AreSoFar : Program → List Id → List (Id × List ClassMember) → Type 0
AreSoFar program ids groups =
    (class : Id) → map member_entry (listed_at groups class) ≡ filter_map (made_of program (member_in program class)) ids

pub none-so-far : (program : Program) → AreSoFar program [] []
none-so-far program class = refl

mapped-list : (member : Option ClassMember) → map member_entry (option_to_list member) ≡ option_to_list (option_map member_entry member)
mapped-list None = refl
mapped-list (Some member) = refl

pub further : (program : Program) (ids : List Id) (i : ℕ) (id : Id) (old new : List (Id × List ClassMember)) (owned : Option OwnedMember)
    → i < length ids → id ≡ get_or ids i id → AreSoFar program (take i ids) old → owned ≡ owned_member program id (get program.known id)
    → ((class : Id) → listed_at new class ≡ listed_at old class ++ option_to_list (in_class class owned))
    → AreSoFar program (take (i + 1) ids) new
further program ids i id old new owned within at before is added class =
    let make = made_of program (member_in program class) in
    ap (map member_entry) (added class)
    ∙ map-append member_entry (listed_at old class) (option_to_list (in_class class owned))
    ∙ (λ k. before class k ++ (mapped-list (in_class class owned)
    ∙ ap option_to_list (ap (λ owned. option_map member_entry (in_class class owned)) is
    ∙ owned-entry program class id (get program.known id))) k)
    ∙ sym (made-more make ids i id within at)

pub all-members : (program : Program) (ids : List Id) (i : ℕ) (groups : List (Id × List ClassMember)) → IsAscending ids
    → AreKnown program ids → length ids ≤ i → AreSoFar program (take i ids) groups → AreMembers program groups
all-members program ids i groups ascending known past so_far class =
    so_far class ∙ ap (filter_map (made_of program (member_in program class))) (take_all i ids past)
    ∙ made-known program (member_in program class) ids ascending known

-- ---- one more at a class

put-at : (here : Bool) (members : List ClassMember) (old : Option (List ClassMember))
    → option_map_or (λ members. members) (if here then Some members else (if here then None else old)) []
    ≡ (if here then members else option_map_or (λ members. members) old [])
put-at true members old = refl
put-at false members old = refl

pub listed-put : (class asked : Id) (members : List ClassMember) (old taken new : List (Id × List ClassMember))
    → lookup (id_eq asked) taken ≡ (if id_eq class asked then None else lookup (id_eq asked) old)
    → lookup (id_eq asked) new ≡ (if id_eq class asked then Some members else lookup (id_eq asked) taken)
    → listed_at new asked ≡ (if id_eq class asked then members else listed_at old asked)
listed-put class asked members old taken new out put =
    ap (λ found. option_map_or (λ members. members) found [])
    (put ∙ ap (λ rest. if id_eq class asked then Some members else rest) out)
    ∙ put-at (id_eq class asked) members (lookup (id_eq asked) old)

same-way : (class asked : Id) → id_eq class asked ≡ same_id asked class
same-way class asked = id_ties class asked ∙ (eq_by_cmp_equiv id_cmp-total).symm class asked

-- where one stands, the other does
pub listed-more : (class asked : Id) (member : ClassMember) (old new : List (Id × List ClassMember))
    → listed_at new asked ≡ (if id_eq class asked then listed_at old class ++ member ∷ [] else listed_at old asked)
    → listed_at new asked ≡ listed_at old asked ++ option_to_list (if same_id asked class then Some member else None)
listed-more class asked member old new put = put ∙ by (same_id asked class) refl where
  longer : List ClassMember
  longer = listed_at old class ++ member ∷ []

  by : (b : Bool) → same_id asked class ≡ b → (if id_eq class asked then longer else listed_at old asked)
      ≡ listed_at old asked ++ option_to_list (if same_id asked class then Some member else None)
  by true is =
      ap (λ b. if b then longer else listed_at old asked) (same-way class asked ∙ is)
      ∙ ap (λ (c : Id). listed_at old c ++ member ∷ []) (sym (id_tied asked class is))
      ∙ sym (ap (λ b. listed_at old asked ++ option_to_list (if b then Some member else None)) is)
  by false is =
      ap (λ b. if b then longer else listed_at old asked) (same-way class asked ∙ is)
      ∙ sym (append-nil (listed_at old asked))
      ∙ sym (ap (λ b. listed_at old asked ++ option_to_list (if b then Some member else None)) is)
