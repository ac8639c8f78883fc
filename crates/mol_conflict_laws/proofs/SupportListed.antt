-- The cells that a fault rests on can be listed.
use Rattle.std.proofs.Common.{◌≡◌, ◌≢◌, ◌⊎◌, inl, inr, ℕ, true, false, List, [], ◌∷◌, ◌++◌, Option, None, Some, Contains, slice_get, refl, sym, ◌∙◌, ap, subst, arith}
use Rattle.std.proofs.lemmas.Option.{same_Some}
use Rattle.std.specs.FinMap.{get}
use Rattle.jav_names.proofs.Lists.{stands_first, stands_later, stands_nowhere, stands_where}
use Rattle.mol_base.specs.declared.ident.Id.{Id}
use Rattle.mol_faults_laws.proofs.Listing.{Listed, Told, listed_alike, listed_each, listed_either, listed_items, listed_map, listed_some, listed_where, told_alike, told_bool, told_both, told_list, told_not, told_option, told_same, told_some}
use Rattle.mol_faults_laws.proofs.OfEachKind.{decl-is, decl_in, declared_method, declares-is, kind-is, known-class, listed_ids, listed_known, method_kind, told_id, told_name, told_number, told_target}
use Rattle.mol_resolve_rules.proofs.Stands.{behind}
use Rattle.mol_spell_rules.specs.Answers.{answered}
use Rattle.mol_spell_rules.specs.DefaultCreations.{default_creations}
use Rattle.mol_spell_rules.specs.FaultList.{Fault, FaultTarget, apart, default_of, entity, false_override, fault_target, local_clash, local_of, misread, missing, outside_name, outside_of, package_is_class, same_address}
use Rattle.mol_spell_rules.specs.NameFaults.{MisreadIn, is_gone, unit_reader}
use Rattle.mol_spell_rules.specs.ReadInstead.{instead}
use Rattle.mol_spell_rules.specs.SimpleNames.{unit_references}
use Rattle.mol_spell_rules.specs.Support.{AddressCell, Calls, Concerns, HeaderCell, IsAboveDeclaration, IsBetween, IsBetweenOwners, IsConstructorOf, IsDeclarationOf, IsMetBy, IsOneOf, LifeCell, Supports}
use Rattle.mol_spell_rules.specs.Support.{declaration_of_its_method, declared_life, is_recorded, its_class, its_declaration, its_method, of_class, of_declaration, of_field, of_its_method, own_life, read_instead, the_class, the_field, the_method}
use Rattle.mol_spell_rules.specs.Support as support
use Rattle.mol_spell_rules.specs.UnitCells.{printed_cells}
use Rattle.mol_spell_rules.specs.Writers.{Reference}
use Rattle.mol_spell_rules.specs.references.References.{Target, class_target, default_target, field_target, local_target, method_target, outside_target, param_target}
use Rattle.mol_table_rules.proofs.CellOrder.{cell_cmp-IsAntisymmetric, cell_cmp-total}
use Rattle.mol_table_rules.specs.Ancestors.{way}
use Rattle.mol_table_rules.specs.Mentions.{Mention, Role, a_called_method, a_class, a_constructor, a_field, a_listed_param, a_method, a_param, a_static_method, mentions}
use Rattle.mol_table_rules.specs.Program.{Program, cell, method_of_param, owner_at, value_at}
use Rattle.mol_table_rules.specs.Renumber.{is_living_class}
use Rattle.mol_table_rules.specs.Tidy.{tidy}
use Rattle.mol_values_types.specs.Order.{cell_cmp}
use Rattle.mol_values_types.specs.Slots.{has_slot}
use Rattle.mol_values_types.specs.declared.cell.Cell.{Cell}
use Rattle.mol_values_types.specs.declared.cell.Slot.{Slot}
use Rattle.mol_values_types.specs.declared.cell.Slot.TheVariants as slots
use Rattle.mol_values_types.specs.declared.kind.MethodKind.{MethodKind}
use Rattle.mol_values_types.specs.declared.kind.MethodKind.TheVariants.{Instance, Static, Constructor}
use Rattle.mol_values_types.specs.declared.known.Known.{Known}
use Rattle.mol_values_types.specs.declared.known.Known.TheVariants as knowns
use Rattle.mol_values_types.specs.declared.value.Value.{Value}

-- # Lists

none : {A : Type 0} {P : A → Type 0} → ((a : A) → P a → ⊥) → Listed P
none fails = record { items = []; each = λ a. (λ stands. absurd (stands_nowhere a stands), λ p. absurd (fails a p)) }

one : {A : Type 0} (x : A) → Listed (λ (a : A). a ≡ x)
one {A} x = listed_alike (listed_some (Some x)) (λ a is. sym (same_Some x a is)) (λ a is i. Some (sym is i))

guarded : {A : Type 0} {C : Type 0} {P : A → Type 0} → Told C → Listed P → Listed (λ a. C × P a)
guarded (inl c) listed = listed_alike listed (λ a p. (c, p)) (λ a h. h.1)
guarded (inr fails) listed = none (λ a h. fails h.0)

told_on : (xs : List Id) (x : Id) → Told (Contains xs x)
told_on xs x = told_alike (told_list xs (λ a. told_id a x)) (λ h. subst (Contains xs) h.2 h.1) (λ stands. (x, stands, refl))

told_cell : (a b : Cell) → Told (a ≡ b)
told_cell = told_same cell_cmp cell_cmp-total cell_cmp-IsAntisymmetric

told_in : (xs : List Cell) (x : Cell) → Told (Contains xs x)
told_in xs x = told_alike (told_list xs (λ a. told_cell a x)) (λ h. subst (Contains xs) h.2 h.1) (λ stands. (x, stands, refl))

-- # A list up to one of its items

record Split (xs : List Id) (upper class : Id) : Type 0 where
  pub below : List Id
  pub above : List Id
  pub is : xs ≡ below ++ upper ∷ above
  pub met : Contains (below ++ upper ∷ []) class

split_at : (xs : List Id) (x : Id) → Contains xs x → (below : List Id) × (above : List Id) × (xs ≡ below ++ x ∷ above)
split_at [] x stands = absurd (stands_nowhere x stands)
split_at (y ∷ xs) x stands = by (stands_where y x xs stands) (split_at xs x) where
  by : (y ≡ x) ⊎ Contains xs x → (Contains xs x → (below : List Id) × (above : List Id) × (xs ≡ below ++ x ∷ above))
      → (below : List Id) × (above : List Id) × (y ∷ xs ≡ below ++ x ∷ above)
  by (inl same) rest = ([], xs, λ i. same i ∷ xs)
  by (inr later) rest = let s = rest later in (y ∷ s.0, s.1, ap (λ (l : List Id). y ∷ l) s.2)

no_split : (below above : List Id) (x : Id) → [] ≡ below ++ x ∷ above → ⊥
no_split [] above x is = absurd cc
no_split (y ∷ below) above x is = absurd cc

splits : (xs : List Id) (upper : Id) → Listed (Split xs upper)
splits [] upper = none (λ class s. no_split s.below s.above upper s.is)
splits (x ∷ xs) upper =
    listed_alike (listed_either (guarded (told_id x upper) (one upper)) (listed_either (guarded (told_on xs upper) (one x)) (splits xs upper))) to from
  where
    to : (class : Id) → ((x ≡ upper) × (class ≡ upper)) ⊎ ((Contains xs upper × (class ≡ x)) ⊎ Split xs upper class) → Split (x ∷ xs) upper class
    to class (inl h) = record {
      below = [];
      above = xs;
      is = λ i. h.0 i ∷ xs;
      met = subst (Contains (upper ∷ [])) (sym h.1) (stands_first upper []);
    }
    to class (inr (inl h)) = let s = split_at xs upper h.0 in record {
      below = x ∷ s.0;
      above = s.1;
      is = ap (λ (l : List Id). x ∷ l) s.2;
      met = subst (Contains (x ∷ (s.0 ++ upper ∷ []))) (sym h.1) (stands_first x (s.0 ++ upper ∷ []));
    }
    to class (inr (inr s)) = record {
      below = x ∷ s.below;
      above = s.above;
      is = ap (λ (l : List Id). x ∷ l) s.is;
      met = stands_later x class (s.below ++ upper ∷ []) s.met;
    }

    from : (class : Id) → Split (x ∷ xs) upper class → ((x ≡ upper) × (class ≡ upper)) ⊎ ((Contains xs upper × (class ≡ x)) ⊎ Split xs upper class)
    from class s = by s.below s.above s.is s.met where
      alone : (upper ≡ class) ⊎ Contains [] class → class ≡ upper
      alone (inl same) = sym same
      alone (inr later) = absurd (stands_nowhere class later)

      by : (below above : List Id) → x ∷ xs ≡ below ++ upper ∷ above → Contains (below ++ upper ∷ []) class
          → ((x ≡ upper) × (class ≡ upper)) ⊎ ((Contains xs upper × (class ≡ x)) ⊎ Split xs upper class)
      by [] above is met = let first : x ≡ upper = cc in inl (first, alone (stands_where upper class [] met))
      by (b ∷ below) above is met = at (stands_where b class (below ++ upper ∷ []) met) where
        first : x ≡ b
        first = cc

        rest : xs ≡ below ++ upper ∷ above
        rest = cc

        at : (b ≡ class) ⊎ Contains (below ++ upper ∷ []) class
            → ((x ≡ upper) × (class ≡ upper)) ⊎ ((Contains xs upper × (class ≡ x)) ⊎ Split xs upper class)
        at (inl same) = inr (inl (
          subst (λ (l : List Id). Contains l upper) (sym rest) (behind below (upper ∷ above) upper (stands_first upper above)),
          sym same ∙ sym first,
        ))
        at (inr later) = inr (inr (record { below = below; above = above; is = rest; met = later }))

-- # Slots

abbrev every_slot : List Slot
every_slot = slots.Live ∷ slots.Package ∷ slots.Owner ∷ slots.Method ∷ slots.Name ∷ slots.Super ∷ slots.Result ∷ slots.Params ∷ slots.Kind
    ∷ slots.Fixed ∷ []

-- those of headers
header-slot : (slot : Slot) → slot ≢ slots.Words → slot ≢ slots.Notes → slot ≢ slots.Body → slot ≢ slots.Value → Contains every_slot slot
header-slot slots.Live w n b v = (0, omega arith, refl)
header-slot slots.Package w n b v = (1, omega arith, refl)
header-slot slots.Owner w n b v = (2, omega arith, refl)
header-slot slots.Method w n b v = (3, omega arith, refl)
header-slot slots.Name w n b v = (4, omega arith, refl)
header-slot slots.Super w n b v = (5, omega arith, refl)
header-slot slots.Result w n b v = (6, omega arith, refl)
header-slot slots.Params w n b v = (7, omega arith, refl)
header-slot slots.Kind w n b v = (8, omega arith, refl)
header-slot slots.Fixed w n b v = (9, omega arith, refl)
header-slot slots.Words w n b v = absurd (w refl)
header-slot slots.Notes w n b v = absurd (n refl)
header-slot slots.Body w n b v = absurd (b refl)
header-slot slots.Value w n b v = absurd (v refl)

told_header : (slot : Slot) → Told ((slot ≢ slots.Words) × ((slot ≢ slots.Notes) × ((slot ≢ slots.Body) × (slot ≢ slots.Value))))
told_header slots.Live = inl (λ is. cc, (λ is. cc, (λ is. cc, λ is. cc)))
told_header slots.Package = inl (λ is. cc, (λ is. cc, (λ is. cc, λ is. cc)))
told_header slots.Owner = inl (λ is. cc, (λ is. cc, (λ is. cc, λ is. cc)))
told_header slots.Method = inl (λ is. cc, (λ is. cc, (λ is. cc, λ is. cc)))
told_header slots.Name = inl (λ is. cc, (λ is. cc, (λ is. cc, λ is. cc)))
told_header slots.Super = inl (λ is. cc, (λ is. cc, (λ is. cc, λ is. cc)))
told_header slots.Result = inl (λ is. cc, (λ is. cc, (λ is. cc, λ is. cc)))
told_header slots.Params = inl (λ is. cc, (λ is. cc, (λ is. cc, λ is. cc)))
told_header slots.Kind = inl (λ is. cc, (λ is. cc, (λ is. cc, λ is. cc)))
told_header slots.Fixed = inl (λ is. cc, (λ is. cc, (λ is. cc, λ is. cc)))
told_header slots.Words = inr (λ h. h.0 refl)
told_header slots.Notes = inr (λ h. h.1.0 refl)
told_header slots.Body = inr (λ h. h.1.1.0 refl)
told_header slots.Value = inr (λ h. h.1.1.1 refl)

-- # What is told

told_class : (o : Option Known) → Told (o ≡ Some knowns.Class)
told_class None = inr (λ is. absurd cc)
told_class (Some knowns.Class) = inl refl
told_class (Some knowns.Field) = inr (λ is. absurd cc)
told_class (Some (knowns.Method kind)) = inr (λ is. absurd cc)
told_class (Some (knowns.Decl method)) = inr (λ is. absurd cc)
told_class (Some (knowns.Param method)) = inr (λ is. absurd cc)

told_field : (o : Option Known) → Told (o ≡ Some knowns.Field)
told_field None = inr (λ is. absurd cc)
told_field (Some knowns.Class) = inr (λ is. absurd cc)
told_field (Some knowns.Field) = inl refl
told_field (Some (knowns.Method kind)) = inr (λ is. absurd cc)
told_field (Some (knowns.Decl method)) = inr (λ is. absurd cc)
told_field (Some (knowns.Param method)) = inr (λ is. absurd cc)

told_constructor : (o : Option MethodKind) → Told (o ≡ Some Constructor)
told_constructor None = inr (λ is. absurd cc)
told_constructor (Some Instance) = inr (λ is. absurd cc)
told_constructor (Some Static) = inr (λ is. absurd cc)
told_constructor (Some Constructor) = inl refl

abbrev IsCalled : Role → Type 0
IsCalled role = (role ≡ a_called_method) ⊎ ((role ≡ a_static_method) ⊎ (role ≡ a_constructor))

not_called : (role : Role) → ((role ≡ a_called_method) → ⊥) → ((role ≡ a_static_method) → ⊥) → ((role ≡ a_constructor) → ⊥) → Told (IsCalled role)
not_called role c s k = inr by where
  by : IsCalled role → ⊥
  by (inl is) = c is
  by (inr (inl is)) = s is
  by (inr (inr is)) = k is

told_called : (role : Role) → Told (IsCalled role)
told_called a_called_method = inl (inl refl)
told_called a_static_method = inl (inr (inl refl))
told_called a_constructor = inl (inr (inr refl))
told_called a_class = not_called a_class (λ is. absurd cc) (λ is. absurd cc) (λ is. absurd cc)
told_called a_field = not_called a_field (λ is. absurd cc) (λ is. absurd cc) (λ is. absurd cc)
told_called a_method = not_called a_method (λ is. absurd cc) (λ is. absurd cc) (λ is. absurd cc)
told_called a_param = not_called a_param (λ is. absurd cc) (λ is. absurd cc) (λ is. absurd cc)
told_called a_listed_param = not_called a_listed_param (λ is. absurd cc) (λ is. absurd cc) (λ is. absurd cc)

abbrev recorded_id : FaultTarget → Option Id
recorded_id (entity id) = Some id
recorded_id (default_of id) = Some id
recorded_id other = None

abbrev recorded_number : FaultTarget → Option ℕ
recorded_number (local_of number) = Some number
recorded_number other = None

abbrev recorded_text : FaultTarget → Option (List ℕ)
recorded_text (outside_of text) = Some text
recorded_text other = None

told_recorded : (a b : FaultTarget) → Told (a ≡ b)
told_recorded (entity a) (entity b) = told_alike (told_id a b) (ap entity) (λ is. same_Some a b (ap recorded_id is))
told_recorded (default_of a) (default_of b) = told_alike (told_id a b) (ap default_of) (λ is. same_Some a b (ap recorded_id is))
told_recorded (local_of a) (local_of b) = told_alike (told_number a b) (ap local_of) (λ is. same_Some a b (ap recorded_number is))
told_recorded (outside_of a) (outside_of b) = told_alike (told_name a b) (ap outside_of) (λ is. same_Some a b (ap recorded_text is))
told_recorded (entity a) (default_of b) = inr (λ is. absurd cc)
told_recorded (entity a) (local_of b) = inr (λ is. absurd cc)
told_recorded (entity a) (outside_of b) = inr (λ is. absurd cc)
told_recorded (default_of a) (entity b) = inr (λ is. absurd cc)
told_recorded (default_of a) (local_of b) = inr (λ is. absurd cc)
told_recorded (default_of a) (outside_of b) = inr (λ is. absurd cc)
told_recorded (local_of a) (entity b) = inr (λ is. absurd cc)
told_recorded (local_of a) (default_of b) = inr (λ is. absurd cc)
told_recorded (local_of a) (outside_of b) = inr (λ is. absurd cc)
told_recorded (outside_of a) (entity b) = inr (λ is. absurd cc)
told_recorded (outside_of a) (default_of b) = inr (λ is. absurd cc)
told_recorded (outside_of a) (local_of b) = inr (λ is. absurd cc)

-- # What a value calls

calls : (value : Value) → Listed (Calls value)
calls value =
    listed_alike (listed_map (listed_where (listed_items (mentions value)) (λ (m : Mention). told_called m.role)) (λ (m : Mention). m.id))
    (λ id h. record {
      role = h.0.role;
      mentioned = subst (λ (i : Id). Contains (mentions value) (record { role = h.0.role; id = i })) h.2 h.1.0;
      called = h.1.1;
    })
    (λ id c. (record { role = c.role; id = id }, (c.mentioned, c.called), refl))

module _ (program : Program) where
  abbrev known : Id → Option Known
  known id = get program.known id

  -- # Cells of entities

  methods_of : (id : Id) → Listed (λ (method : Id). IsDeclarationOf program method id)
  methods_of id =
      listed_alike (listed_some (decl_in (known id))) (λ method is. decl-is (known id) method is) (λ method is. ap decl_in is)

  declarations : (method : Id) → Listed (IsDeclarationOf program method)
  declarations method =
      listed_alike
      (listed_map (listed_where (listed_known program) (λ (entry : Id × Known). told_option told_id (declared_method entry.1) (Some method)))
      (λ (entry : Id × Known). entry.0))
      (λ id h. subst (IsDeclarationOf program method) h.2 (h.1.0 ∙ ap (λ (k : Known). Some k) (declares-is h.0.1 method h.1.1)))
      (λ id is. ((id, knowns.Decl method), (is, refl), refl))

  slots_at : (id : Id) (these : List Slot) → Listed (IsOneOf id these)
  slots_at id these =
      listed_alike (listed_map (listed_items these) (cell id)) (λ at h. (h.0, (h.1, sym h.2))) (λ at h. (h.0, h.1.0, sym h.1.1))

  life_cells : (id : Id) → Listed (LifeCell program id)
  life_cells id =
      listed_alike
      (listed_either (guarded (told_bool (has_slot (known id) slots.Live) true) (one (cell id slots.Live)))
      (listed_map (declarations id) (λ (d : Id). cell d slots.Live)))
      to from
    where
      to : (at : Cell) → ((has_slot (known id) slots.Live ≡ true) × (at ≡ cell id slots.Live))
          ⊎ ((d : Id) × IsDeclarationOf program id d × (cell d slots.Live ≡ at)) → LifeCell program id at
      to at (inl h) = subst (LifeCell program id) (sym h.1) (own_life h.0)
      to at (inr h) = subst (LifeCell program id) h.2 (declared_life h.1)

      from : (at : Cell) → LifeCell program id at → ((has_slot (known id) slots.Live ≡ true) × (at ≡ cell id slots.Live))
          ⊎ ((d : Id) × IsDeclarationOf program id d × (cell d slots.Live ≡ at))
      from at (own_life has) = inl (has, refl)
      from at (declared_life {declaration} is) = inr (declaration, is, refl)

  abbrev IsAddressOf : Id → Cell → Type 0
  IsAddressOf id at =
      ((known id ≡ Some knowns.Class) × IsOneOf id (slots.Live ∷ slots.Package ∷ slots.Name ∷ []) at)
      ⊎ (((known id ≡ Some knowns.Field) × IsOneOf id (slots.Live ∷ slots.Owner ∷ slots.Name ∷ []) at)
      ⊎ (((method : Id) × IsDeclarationOf program method id × IsOneOf id (slots.Live ∷ slots.Owner ∷ slots.Method ∷ []) at)
      ⊎ ((method : Id) × IsDeclarationOf program method id × IsOneOf method (slots.Name ∷ slots.Params ∷ []) at)))

  address_cells : (id : Id) → Listed (AddressCell program id)
  address_cells id =
      listed_alike
      (listed_either (guarded (told_class (known id)) (slots_at id (slots.Live ∷ slots.Package ∷ slots.Name ∷ [])))
      (listed_either (guarded (told_field (known id)) (slots_at id (slots.Live ∷ slots.Owner ∷ slots.Name ∷ [])))
      (listed_either (listed_each (methods_of id) (λ method. slots_at id (slots.Live ∷ slots.Owner ∷ slots.Method ∷ [])))
      (listed_each (methods_of id) (λ method. slots_at method (slots.Name ∷ slots.Params ∷ []))))))
      to from
    where
      to : (at : Cell) → IsAddressOf id at → AddressCell program id at
      to at (inl h) = of_class h.0 h.1
      to at (inr (inl h)) = of_field h.0 h.1
      to at (inr (inr (inl h))) = of_declaration h.1 h.2
      to at (inr (inr (inr h))) = of_its_method h.1 h.2

      from : (at : Cell) → AddressCell program id at → IsAddressOf id at
      from at (of_class is here) = inl (is, here)
      from at (of_field is here) = inr (inl (is, here))
      from at (of_declaration {method} is here) = inr (inr (inl (method, is, here)))
      from at (of_its_method {method} is here) = inr (inr (inr (method, is, here)))

  -- # Superclasses

  between : (lower upper : Id) → Listed (IsBetween program lower upper)
  between lower upper =
      listed_alike (splits (way program lower) upper)
      (λ class s. record { below = s.below; above = s.above; way = s.is; met = s.met })
      (λ class b. record { below = b.below; above = b.above; is = b.way; met = b.met })

  between_owners : (first second : Id) → Listed (IsBetweenOwners program first second)
  between_owners first second =
      listed_alike
      (listed_each (listed_some (owner_at program first)) (λ own. listed_each (listed_some (owner_at program second))
      (λ other. listed_either (between own other) (between other own))))
      (λ class h. record { first_owner = h.0; second_owner = h.2.0; first_owned = h.1; second_owned = h.2.1; between = h.2.2 })
      (λ class b. (b.first_owner, b.first_owned, (b.second_owner, b.second_owned, b.between)))

  above_declaration : (declaration : Id) → Listed (IsAboveDeclaration program declaration)
  above_declaration declaration =
      listed_alike (listed_each (listed_some (owner_at program declaration)) (λ owner. listed_items (way program owner)))
      (λ class h. record { owner = h.0; owned = h.1; met = h.2 }) (λ class a. (a.owner, a.owned, a.met))

  -- # Constructors

  abbrev Constructs : Id → Id × Known → Type 0
  Constructs class entry = (method : Id) × (declared_method entry.1 ≡ Some method)
      × ((method_kind (known method) ≡ Some Constructor) × (owner_at program entry.0 ≡ Some class))

  told_constructs : (class : Id) (entry : Id × Known) → Told (Constructs class entry)
  told_constructs class entry =
      told_some (declared_method entry.1) (λ method. told_both (told_constructor (method_kind (known method)))
      (told_option told_id (owner_at program entry.0) (Some class)))

  constructors : (class : Id) → Listed (IsConstructorOf program class)
  constructors class =
      listed_alike
      (listed_map (listed_where (listed_known program) (told_constructs class)) (λ (entry : Id × Known). entry.0))
      (λ d h. record {
        method = h.1.1.0;
        declares = subst (IsDeclarationOf program h.1.1.0) h.2 (h.1.0 ∙ ap (λ (k : Known). Some k) (declares-is h.0.1 h.1.1.0 h.1.1.1));
        is_constructor = kind-is (known h.1.1.0) Constructor h.1.1.2.0;
        owned = subst (λ (d : Id). owner_at program d ≡ Some class) h.2 h.1.1.2.1;
      })
      (λ d c. ((d, knowns.Decl c.method), (c.declares, (c.method, refl, (ap method_kind c.is_constructor, c.owned))), refl))

  -- # Headers

  abbrev HasHeader : Id → Slot → Type 0
  HasHeader id slot = (has_slot (known id) slot ≡ true)
      × ((slot ≢ slots.Words) × ((slot ≢ slots.Notes) × ((slot ≢ slots.Body) × (slot ≢ slots.Value))))

  header_cells : (id : Id) → Listed (HeaderCell program id)
  header_cells id =
      listed_alike
      (listed_map (listed_where (listed_items every_slot) (λ slot. told_both (told_bool (has_slot (known id) slot) true) (told_header slot))) (cell id))
      (λ at h. record {
        slot = h.0;
        is = sym h.2;
        has = h.1.1.0;
        no_words = h.1.1.1.0;
        no_notes = h.1.1.1.1.0;
        no_body = h.1.1.1.1.1.0;
        no_value = h.1.1.1.1.1.1;
      })
      (λ at c. (
        c.slot,
        (
          header-slot c.slot c.no_words c.no_notes c.no_body c.no_value,
          (c.has, (c.no_words, (c.no_notes, (c.no_body, c.no_value)))),
        ),
        sym c.is,
      ))

  -- # What a target has to do with

  concerns : (target : Target) → Listed (Concerns program target)
  concerns (class_target class) = listed_alike (one class) to from where
    to : (id : Id) → id ≡ class → Concerns program (class_target class) id
    to id is = subst (Concerns program (class_target class)) (sym is) the_class

    from : (id : Id) → Concerns program (class_target class) id → id ≡ class
    from id the_class = refl
  concerns (field_target field) = listed_alike (one field) to from where
    to : (id : Id) → id ≡ field → Concerns program (field_target field) id
    to id is = subst (Concerns program (field_target field)) (sym is) the_field

    from : (id : Id) → Concerns program (field_target field) id → id ≡ field
    from id the_field = refl
  concerns (method_target method) = listed_alike (listed_either (one method) (declarations method)) to from where
    to : (id : Id) → (id ≡ method) ⊎ IsDeclarationOf program method id → Concerns program (method_target method) id
    to id (inl is) = subst (Concerns program (method_target method)) (sym is) the_method
    to id (inr is) = its_declaration is

    from : (id : Id) → Concerns program (method_target method) id → (id ≡ method) ⊎ IsDeclarationOf program method id
    from id the_method = inl refl
    from id (its_declaration is) = inr is
  concerns (default_target class) = listed_alike (one class) to from where
    to : (id : Id) → id ≡ class → Concerns program (default_target class) id
    to id is = subst (Concerns program (default_target class)) (sym is) its_class

    from : (id : Id) → Concerns program (default_target class) id → id ≡ class
    from id its_class = refl
  concerns (param_target param) =
      listed_alike
      (listed_either (listed_some (method_of_param program param)) (listed_each (listed_some (method_of_param program param)) declarations)) to from
    where
      to : (id : Id) → (method_of_param program param ≡ Some id)
          ⊎ ((method : Id) × (method_of_param program param ≡ Some method) × IsDeclarationOf program method id)
          → Concerns program (param_target param) id
      to id (inl is) = its_method is
      to id (inr h) = declaration_of_its_method h.1 h.2

      from : (id : Id) → Concerns program (param_target param) id → (method_of_param program param ≡ Some id)
          ⊎ ((method : Id) × (method_of_param program param ≡ Some method) × IsDeclarationOf program method id)
      from id (its_method is) = inl is
      from id (declaration_of_its_method {method = method} is declares) = inr (method, is, declares)
  concerns (local_target number) = none (λ id c. elim c [ ])
  concerns (outside_target text) = none (λ id c. elim c [ ])

  -- # Misread names

  abbrev tidied : Program
  tidied = tidy program

  module _ (at : Cell) (number : ℕ) (recorded : FaultTarget) where
    abbrev IsMisreadAt : Id → Reference → Type 0
    IsMisreadAt class reference = (slice_get (unit_references tidied class at) number ≡ Some reference)
        × ((is_gone tidied reference.target ≡ false) × ((answered (unit_reader tidied class at) reference ≢ Some reference.target)
        × (fault_target reference.target ≡ recorded)))

    told_otherwise : (class : Id) (reference : Reference) → Told ((is_gone tidied reference.target ≡ false)
        × ((answered (unit_reader tidied class at) reference ≢ Some reference.target) × (fault_target reference.target ≡ recorded)))
    told_otherwise class reference =
        told_both (told_bool (is_gone tidied reference.target) false)
        (told_both (told_not (told_option told_target (answered (unit_reader tidied class at) reference) (Some reference.target)))
        (told_recorded (fault_target reference.target) recorded))

    abbrev IsPrintedIn : Id → Type 0
    IsPrintedIn class = (is_living_class tidied class ≡ true) × Contains (printed_cells tidied class) at

    printed_in : Listed IsPrintedIn
    printed_in =
        listed_alike
        (listed_where (listed_ids tidied) (λ id. told_both (told_bool (is_living_class tidied id) true) (told_in (printed_cells tidied id) at)))
        (λ class h. h.1) (λ class h. (known-class tidied class h.0, h))

    abbrev IsMisreadPlace : Id × Reference → Type 0
    IsMisreadPlace place = IsPrintedIn place.0 × IsMisreadAt place.0 place.1

    places : Listed IsMisreadPlace
    places =
        listed_alike
        (listed_each printed_in (λ class. listed_map (listed_where (listed_some (slice_get (unit_references tidied class at) number))
        (told_otherwise class)) (λ (reference : Reference). (class, reference))))
        (λ place h. subst IsMisreadPlace h.2.2 (h.1, h.2.1))
        (λ place h. (place.0, h.0, (place.1, h.1, refl)))

    misread-at : (place : Id × Reference) → IsMisreadPlace place → MisreadIn tidied place.0 at number place.1.target
    misread-at place h = record {
      class_lives = h.0.0;
      prints = h.0.1;
      reference = place.1;
      stands = h.1.0;
      names = refl;
      there = h.1.1.0;
      differs = h.1.1.1.0;
    }

    place-of : (class : Id) (target : Target) → fault_target target ≡ recorded → (m : MisreadIn tidied class at number target)
        → IsMisreadPlace (class, m.reference)
    place-of class target is m = (
      (m.class_lives, m.prints),
      (
        m.stands,
        (
          subst (λ (t : Target). is_gone tidied t ≡ false) (sym m.names) m.there,
          (
            subst (λ (t : Target). answered (unit_reader tidied class at) m.reference ≢ Some t) (sym m.names) m.differs,
            ap fault_target m.names ∙ is,
          ),
        ),
      ),
    )

    abbrev IsMet : Target → Type 0
    IsMet met = ((place : Id × Reference) × IsMisreadPlace place × (place.1.target ≡ met))
        ⊎ ((place : Id × Reference) × IsMisreadPlace place × (instead (unit_reader tidied place.0 at) place.1 ≡ Some met))

    met_by : Listed (IsMetBy program at number recorded)
    unfolding misread-at
    met_by =
        listed_alike
        (listed_either (listed_map places (λ (place : Id × Reference). place.1.target))
        (listed_each places (λ place. listed_some (instead (unit_reader tidied place.0 at) place.1))))
        to from
      where
        to : (met : Target) → IsMet met → IsMetBy program at number recorded met
        to met (inl h) =
            subst (IsMetBy program at number recorded) h.2 (is_recorded {class = h.0.0} {target = h.0.1.target} h.1.1.1.1.1 (misread-at h.0 h.1))
        to met (inr h) =
            read_instead {class = h.0.0} {target = h.0.1.target} {other = met} (misread-at h.0 h.1) h.1.1.1.1.1 h.2

        from : (met : Target) → IsMetBy program at number recorded met → IsMet met
        from met (is_recorded {class} {target} is m) = inl ((class, m.reference), place-of class target is m, m.names)
        from met (read_instead {class} {target} {other} m is reads) = inr ((class, m.reference), place-of class target is m, reads)

  -- # All of them

  abbrev pub Listing : Fault → Type 0
  Listing fault = Listed (Supports program fault)

  of_addresses : (first second : Id) → Listing (same_address first second)
  of_addresses first second = listed_alike (listed_either (address_cells first) (address_cells second)) to from where
    to : (at : Cell) → AddressCell program first at ⊎ AddressCell program second at → Supports program (same_address first second) at
    to at (inl h) = support.first_address h
    to at (inr h) = support.second_address h

    from : (at : Cell) → Supports program (same_address first second) at → AddressCell program first at ⊎ AddressCell program second at
    from at (support.first_address h) = inl h
    from at (support.second_address h) = inr h

  abbrev Any_override : (first second : Id) → Cell → Type 0
  Any_override first second at = AddressCell program first at ⊎ (AddressCell program second at
      ⊎ ((class : Id) × IsBetweenOwners program first second class × (cell class slots.Super ≡ at)))

  of_override : (first second : Id) → Listing (false_override first second)
  of_override first second =
      listed_alike
      (listed_either (address_cells first) (listed_either (address_cells second)
      (listed_map (between_owners first second) (λ class. cell class slots.Super))))
      to from
    where
      to : (at : Cell) → (Any_override first second) at → Supports program (false_override first second) at
      to at (inl h) = support.first_overrides h
      to at (inr (inl h)) = support.second_overrides h
      to at (inr (inr h)) = subst (Supports program (false_override first second)) h.2 (support.between_owners h.1)

      from : (at : Cell) → Supports program (false_override first second) at → (Any_override first second) at
      from at (support.first_overrides h) = inl h
      from at (support.second_overrides h) = inr (inl h)
      from at (support.between_owners {class = class} h) = inr (inr (class, h, refl))

  abbrev Any_apart : (method : Id) → Cell → Type 0
  Any_apart method at = ((d : Id) × IsDeclarationOf program method d × IsOneOf d (slots.Live ∷ slots.Owner ∷ slots.Method ∷ []) at)
      ⊎ ((d : Id) × IsDeclarationOf program method d
      × ((class : Id) × IsAboveDeclaration program d class × (cell class slots.Super ≡ at)))

  of_apart : (method : Id) → Listing (apart method)
  of_apart method =
      listed_alike
      (listed_either (listed_each (declarations method) (λ d. slots_at d (slots.Live ∷ slots.Owner ∷ slots.Method ∷ [])))
      (listed_each (declarations method) (λ d. listed_map (above_declaration d) (λ class. cell class slots.Super))))
      to from
    where
      to : (at : Cell) → (Any_apart method) at → Supports program (apart method) at
      to at (inl h) = support.declaration_apart h.1 h.2
      to at (inr h) = subst (Supports program (apart method)) h.2.2 (support.above_apart h.1 h.2.1)

      from : (at : Cell) → Supports program (apart method) at → (Any_apart method) at
      from at (support.declaration_apart {declaration = d} is here) = inl (d, is, here)
      from at (support.above_apart {declaration = d} {class = class} is above) = inr (d, is, (class, above, refl))

  abbrev Any_outside : (method : Id) → Cell → Type 0
  Any_outside method at = IsOneOf method (slots.Name ∷ slots.Params ∷ slots.Fixed ∷ []) at
      ⊎ ((d : Id) × IsDeclarationOf program method d × IsOneOf d (slots.Live ∷ slots.Method ∷ []) at)

  of_outside : (method : Id) → Listing (outside_name method)
  of_outside method =
      listed_alike
      (listed_either (slots_at method (slots.Name ∷ slots.Params ∷ slots.Fixed ∷ []))
      (listed_each (declarations method) (λ d. slots_at d (slots.Live ∷ slots.Method ∷ []))))
      to from
    where
      to : (at : Cell) → (Any_outside method) at → Supports program (outside_name method) at
      to at (inl h) = support.name_outside h
      to at (inr h) = support.declaration_outside h.1 h.2

      from : (at : Cell) → Supports program (outside_name method) at → (Any_outside method) at
      from at (support.name_outside h) = inl h
      from at (support.declaration_outside {declaration = d} is here) = inr (d, is, here)

  abbrev held_missing : (at : Cell) (target : Id) → Option Value
  held_missing at target = value_at program at.id at.slot

  abbrev Any_missing : (at : Cell) (target : Id) → Cell → Type 0
  Any_missing at target here = (here ≡ at) ⊎ (LifeCell program at.id here ⊎ (LifeCell program target here
      ⊎ (((method : Id) × (method_of_param program target ≡ Some method) × (cell method slots.Params ≡ here))
      ⊎ (((method : Id) × IsDeclarationOf program method at.id × (cell at.id slots.Method ≡ here))
      ⊎ (((value : Value) × ((held_missing at target) ≡ Some value) × ((method : Id) × Calls value method × (cell method slots.Params ≡ here)))
      ⊎ ((value : Value) × ((held_missing at target) ≡ Some value) × ((class : Id) × Contains (default_creations value) class
      × ((d : Id) × IsConstructorOf program class d × (cell d slots.Live ≡ here)))))))))

  abbrev Says_missing : (at : Cell) (target : Id) → Cell → Type 0
  Says_missing at target = Supports program (missing at target)

  of_missing : (at : Cell) (target : Id) → Listing (missing at target)
  of_missing at target =
      listed_alike
      (listed_either (one at) (listed_either (life_cells at.id) (listed_either (life_cells target)
      (listed_either (listed_map (listed_some (method_of_param program target)) (λ method. cell method slots.Params))
      (listed_either (listed_map (methods_of at.id) (λ method. cell at.id slots.Method))
      (listed_either (listed_each (listed_some (held_missing at target)) (λ value. listed_map (calls value) (λ method. cell method slots.Params)))
      (listed_each (listed_some (held_missing at target)) (λ value. listed_each (listed_items (default_creations value))
      (λ class. listed_map (constructors class) (λ d. cell d slots.Live))))))))))
      to from
    where
      to : (here : Cell) → (Any_missing at target) here → (Says_missing at target) here
      to here (inl is) = subst (Says_missing at target) (sym is) support.missing_in
      to here (inr (inl h)) = support.entity_of_missing h
      to here (inr (inr (inl h))) = support.life_of_missing h
      to here (inr (inr (inr (inl h)))) = subst (Says_missing at target) h.2 (support.params_of_missing h.1)
      to here (inr (inr (inr (inr (inl h))))) = subst (Says_missing at target) h.2 (support.method_of_cell h.1)
      to here (inr (inr (inr (inr (inr (inl h)))))) = subst (Says_missing at target) h.2.2 (support.called_in h.1 h.2.1)
      to here (inr (inr (inr (inr (inr (inr h)))))) = subst (Says_missing at target) h.2.2.2 (support.created_in h.1 h.2.1 h.2.2.1)

      from : (here : Cell) → (Says_missing at target) here → (Any_missing at target) here
      from here support.missing_in = inl refl
      from here (support.entity_of_missing h) = inr (inl h)
      from here (support.life_of_missing h) = inr (inr (inl h))
      from here (support.params_of_missing {method = method} is) = inr (inr (inr (inl (method, is, refl))))
      from here (support.method_of_cell {method = method} is) = inr (inr (inr (inr (inl (method, is, refl)))))
      from here (support.called_in {method = method} {value = value} holds is) = inr (inr (inr (inr (inr (inl (value, holds, (method, is, refl)))))))
      from here (support.created_in {class = class} {declaration = d} {value = value} holds creates is) =
          inr (inr (inr (inr (inr (inr (value, holds, (class, creates, (d, is, refl))))))))

  abbrev Any_misread : (at : Cell) (number : ℕ) (target : FaultTarget) → Cell → Type 0
  Any_misread at number target here = (here ≡ at) ⊎ (LifeCell program at.id here ⊎ ((met : Target) × IsMetBy program at number target met
      × ((id : Id) × Concerns program met id × HeaderCell program id here)))

  abbrev Says_misread : (at : Cell) (number : ℕ) (target : FaultTarget) → Cell → Type 0
  Says_misread at number target = Supports program (misread at number target)

  of_misread : (at : Cell) (number : ℕ) (target : FaultTarget) → Listing (misread at number target)
  of_misread at number target =
      listed_alike
      (listed_either (one at) (listed_either (life_cells at.id)
      (listed_each (met_by at number target) (λ met. listed_each (concerns met) (λ id. header_cells id)))))
      to from
    where
      to : (here : Cell) → (Any_misread at number target) here → (Says_misread at number target) here
      to here (inl is) = subst (Says_misread at number target) (sym is) support.misread_in
      to here (inr (inl h)) = support.entity_of_misread h
      to here (inr (inr h)) = support.target_of_misread h.1 h.2.1 h.2.2

      from : (here : Cell) → (Says_misread at number target) here → (Any_misread at number target) here
      from here support.misread_in = inl refl
      from here (support.entity_of_misread h) = inr (inl h)
      from here (support.target_of_misread {met = met} {id = id} is concerns header) = inr (inr (met, is, (id, concerns, header)))

  abbrev Any_clash : (at : Cell) (name : List ℕ) → Cell → Type 0
  Any_clash at name here = (here ≡ at) ⊎ (IsOneOf at.id (slots.Live ∷ slots.Method ∷ []) here
      ⊎ ((method : Id) × IsDeclarationOf program method at.id × (cell method slots.Params ≡ here)))

  abbrev Says_clash : (at : Cell) (name : List ℕ) → Cell → Type 0
  Says_clash at name = Supports program (local_clash at name)

  of_clash : (at : Cell) (name : List ℕ) → Listing (local_clash at name)
  of_clash at name =
      listed_alike
      (listed_either (one at) (listed_either (slots_at at.id (slots.Live ∷ slots.Method ∷ []))
      (listed_map (methods_of at.id) (λ method. cell method slots.Params))))
      to from
    where
      to : (here : Cell) → (Any_clash at name) here → (Says_clash at name) here
      to here (inl is) = subst (Says_clash at name) (sym is) support.clash_in
      to here (inr (inl h)) = support.declaration_of_clash h
      to here (inr (inr h)) = subst (Says_clash at name) h.2 (support.params_of_clash h.1)

      from : (here : Cell) → (Says_clash at name) here → (Any_clash at name) here
      from here support.clash_in = inl refl
      from here (support.declaration_of_clash h) = inr (inl h)
      from here (support.params_of_clash {method = method} is) = inr (inr (method, is, refl))

  abbrev Any_package : (class inside : Id) → Cell → Type 0
  Any_package class inside at = IsOneOf class (slots.Live ∷ slots.Package ∷ slots.Name ∷ []) at ⊎ IsOneOf inside (slots.Live ∷ slots.Package ∷ slots.Name ∷ []) at

  of_package : (class inside : Id) → Listing (package_is_class class inside)
  of_package class inside =
      listed_alike
      (listed_either (slots_at class (slots.Live ∷ slots.Package ∷ slots.Name ∷ []))
      (slots_at inside (slots.Live ∷ slots.Package ∷ slots.Name ∷ [])))
      to from
    where
      to : (at : Cell) → (Any_package class inside) at → Supports program (package_is_class class inside) at
      to at (inl h) = support.of_package h
      to at (inr h) = support.of_inside h

      from : (at : Cell) → Supports program (package_is_class class inside) at → (Any_package class inside) at
      from at (support.of_package h) = inl h
      from at (support.of_inside h) = inr h

  pub support_listed : (fault : Fault) → Listed (Supports program fault)
  support_listed (same_address first second) = of_addresses first second
  support_listed (false_override first second) = of_override first second
  support_listed (apart method) = of_apart method
  support_listed (outside_name method) = of_outside method
  support_listed (missing at target) = of_missing at target
  support_listed (misread at number target) = of_misread at number target
  support_listed (local_clash at name) = of_clash at name
  support_listed (package_is_class class inside) = of_package class inside
