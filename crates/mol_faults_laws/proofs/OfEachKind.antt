-- The faults of each kind can be listed.
use Rattle.std.proofs.Common.{◌≡◌, ◌≢◌, ◌⊎◌, inl, inr, ℕ, Bool, true, false, ◌&&◌, ◌==◌, cond, List, [], ◌∷◌, ◌++◌, length, get_or, slice_get, Option, None, Some, Contains, refl, sym, ◌∙◌, ap, subst, true≢false, if◌then◌else◌}
use Rattle.std.proofs.lemmas.Cmp.{nat_list_cmp_total}
use Rattle.std.proofs.lemmas.List.Elements.{All-contains, All-from_recursion}
use Rattle.std.proofs.lemmas.Option.{same_Some}
use Rattle.std.specs.Cmp.{IsTotalOrder}
use Rattle.std.specs.Cmp.Lexicographic.{slice_cmp}
use Rattle.std.specs.FinMap.{FinMap, IsAntisymmetric, entries, find, get, get-entries, nat_cmp-IsAntisymmetric, slice_cmp-IsAntisymmetric}
use Rattle.std.specs.List.{list_all}
use Rattle.std.specs.Option.{option_map_or}
use Rattle.std.specs.Ordering.{eq_by_cmp, is_eq, nat_cmp}
use Rattle.std.specs.declared.cmp.Ordering.{Ordering}
use Rattle.std.specs.declared.cmp.Ordering.TheVariants.{Less, Equal, Greater}
use Rattle.jav_names.proofs.Lists.{list_any-found, stands_first, stands_later}
use Rattle.jav_names.specs.DottedNames.{Name}
use Rattle.jav_names.specs.DottedNames.{dot}
use Rattle.mol_base.specs.Order.{id_cmp, id_cmp-IsAntisymmetric, id_cmp-total}
use Rattle.mol_base.specs.declared.ident.Id.{Id}
use Rattle.mol_faults_laws.proofs.Listing.{Listed, Told, listed_alike, listed_each, listed_either, listed_items, listed_map, listed_numbered, listed_some, listed_where, told_alike, told_bool, told_both, told_either, told_list, told_not, told_option, told_order, told_same, told_some}
use Rattle.mol_faults_entities.proofs.package_faults_lemmas.Fronts.{begins-if_inside, inside-if_begins}
use Rattle.mol_faults_entities.proofs.pair_faults_lemmas.Keys.{address-told, key-order}
use Rattle.mol_faults_entities.specs.package_faults.Packages.{begins}
use Rattle.mol_faults_entities.specs.pair_faults.Addresses.{AddressKey, address_key, key_cmp}
use Rattle.mol_faults_values.proofs.local_faults_lemmas.Repeated.{clashes-repeated}
use Rattle.mol_faults_values.specs.local_faults.PartScopes.{params_scopes}
use Rattle.mol_resolve_rules.specs.ResolveFaults.{BeginsWith}
use Rattle.mol_spell_rules.specs.Answers.{answered}
use Rattle.mol_spell_rules.specs.FaultList.{Fault, apart, false_override, fault_target, local_clash, misread, missing, outside_name, package_is_class, same_address}
use Rattle.mol_spell_rules.specs.LocalClashes.{IsRepeated, clashes_in}
use Rattle.mol_spell_rules.specs.NameFaults.{AreAlike, ClashesInBody, FalseOverride, IsLivingDeclaration, IsProperAncestor, LocalClash, Misread, OutsideName, PackageIsClass, is_gone, param_names, unit_reader}
use Rattle.mol_spell_rules.specs.SimpleNames.{unit_references}
use Rattle.mol_spell_rules.specs.UnitCells.{printed_cells}
use Rattle.mol_spell_rules.specs.Writers.{Reference, full_of, program_class}
use Rattle.mol_spell_rules.specs.references.References.{Target, class_target, default_target, field_target, local_target, method_target, outside_target, param_target}
use Rattle.jav_names.specs.Members.{is_object_method}
use Rattle.mol_table_rules.proofs.CellOrder.{cell_cmp-IsAntisymmetric, cell_cmp-total}
use Rattle.mol_table_rules.proofs.Counts.{each_found}
use Rattle.mol_table_rules.specs.Ancestors.{is_on_way}
use Rattle.mol_table_rules.specs.Faults.{Address, Apart, Missing, SameAddress, address, address_as, is_above_living, is_there, is_topmost}
use Rattle.mol_table_rules.specs.Life.{entity_in, is_decl_of, is_living_decl, is_living_entity, lives, lives_as, lives_method}
use Rattle.mol_table_rules.specs.Mentions.{Mention}
use Rattle.mol_table_rules.specs.Program.{Program, cell, living_at, name_at, owner_at, package_at, params_at, value_at}
use Rattle.mol_table_rules.specs.Renumber.{is_class, is_living_class}
use Rattle.mol_table_rules.specs.Tidy.{references, tidy}
use Rattle.mol_table_rules.proofs.Living.{id_tied}
use Rattle.mol_values_types.specs.declared.cell.Cell.{Cell}
use Rattle.mol_values_types.specs.declared.cell.Slot.TheVariants as slots
use Rattle.mol_values_types.specs.declared.iblock.IBody.{IBody}
use Rattle.mol_values_types.specs.declared.kind.MethodKind.{MethodKind}
use Rattle.mol_values_types.specs.declared.kind.MethodKind.TheVariants.{Instance, Static, Constructor}
use Rattle.mol_values_types.specs.declared.known.Known.{Known}
use Rattle.mol_values_types.specs.declared.known.Known.TheVariants as knowns
use Rattle.mol_values_types.specs.declared.param.Param.{Param}
use Rattle.mol_values_types.specs.declared.value.Value.{Value}
use Rattle.mol_values_types.specs.declared.value.Value.TheVariants as values

-- # Entries of maps

is-equal : (o : Ordering) → is_eq o ≡ true → o ≡ Equal
is-equal Less is = absurd cc
is-equal Equal is = refl
is-equal Greater is = absurd cc

module _ {K X : Type 0} {R : K → K → Ordering} (total : IsTotalOrder R) (only : IsAntisymmetric R) where
  pub found-stands : (es : List (K × X)) (key : K) (x : X) → find R key es ≡ Some x → Contains es (key, x)
  found-stands [] key x is = absurd cc
  found-stands (e ∷ es) key x is = by (eq_by_cmp R key e.0) refl is (found-stands es key x) where
    by : (b : Bool) → eq_by_cmp R key e.0 ≡ b → cond b (Some e.1) (find R key es) ≡ Some x
        → (find R key es ≡ Some x → Contains es (key, x)) → Contains (e ∷ es) (key, x)
    by true tied is more =
        let same : key ≡ e.0 = only key e.0 (is-equal (R key e.0) tied) in
        let what : e.1 ≡ x = cc in
        subst (Contains (e ∷ es)) (λ i. (sym same i, what i)) (stands_first e es)
    by false tied is more = stands_later e (key, x) es (more is)

  abbrev pub listed_entries : (m : FinMap R X) → Listed (λ (entry : K × X). get m entry.0 ≡ Some entry.1)
  listed_entries m = record {
    items = entries m;
    each = λ entry. (
      λ stands. All-contains (λ (e : K × X). get m e.0 ≡ Some e.1) (entries m) entry
          (All-from_recursion (λ (e : K × X). get m e.0 ≡ Some e.1) (entries m) (each_found total only m)) stands,
      λ is. found-stands (entries m) entry.0 entry.1 (sym (get-entries m entry.0) ∙ is),
    );
  }

-- # Sameness

pub told_id : (a b : Id) → Told (a ≡ b)
told_id = told_same id_cmp id_cmp-total id_cmp-IsAntisymmetric

pub told_name : (a b : Name) → Told (a ≡ b)
told_name = told_same (slice_cmp nat_cmp) nat_list_cmp_total (slice_cmp-IsAntisymmetric nat_cmp-IsAntisymmetric)

pub told_number : (a b : ℕ) → Told (a ≡ b)
told_number a b = told_alike (told_name (a ∷ []) (b ∷ [])) (ap (λ (l : List ℕ). get_or l 0 0)) (ap (λ (n : ℕ). n ∷ []))

told_address : (a b : Address) → Told (a ≡ b)
told_address a b = told_alike (told_same key_cmp key-order.total key-order.same (address_key a) (address_key b)) (address-told a b) (ap address_key)

-- what a target is told by
record TargetKey : Type 0 where
  pub kind : ℕ
  pub id : Id
  pub number : ℕ
  pub text : List ℕ

abbrev no_id : Id
no_id = record { tag = []; num = 0 }

abbrev id_key : ℕ → Id → TargetKey
id_key kind id = record { kind = kind; id = id; number = 0; text = [] }

target_key : Target → TargetKey
target_key (class_target id) = id_key 0 id
target_key (field_target id) = id_key 1 id
target_key (method_target id) = id_key 2 id
target_key (param_target id) = id_key 3 id
target_key (default_target id) = id_key 4 id
target_key (local_target number) = record { kind = 5; id = no_id; number = number; text = [] }
target_key (outside_target text) = record { kind = 6; id = no_id; number = 0; text = text }

abbrev target_by : ℕ → TargetKey → Target
target_by kind key = if kind == 0 then class_target key.id else if kind == 1 then field_target key.id
    else if kind == 2 then method_target key.id else if kind == 3 then param_target key.id
    else if kind == 4 then default_target key.id else if kind == 5 then local_target key.number else outside_target key.text

target-kept : (target : Target) → target_by (target_key target).kind (target_key target) ≡ target
unfolding target_key
target-kept (class_target id) = refl
target-kept (field_target id) = refl
target-kept (method_target id) = refl
target-kept (param_target id) = refl
target-kept (default_target id) = refl
target-kept (local_target number) = refl
target-kept (outside_target text) = refl

told_key : (a b : TargetKey) → Told (a ≡ b)
told_key a b =
    told_alike (told_both (told_number a.kind b.kind) (told_both (told_id a.id b.id) (told_both (told_number a.number b.number) (told_name a.text b.text)))) (λ h i. record { kind = h.0 i; id = h.1.0 i; number = h.1.1.0 i; text = h.1.1.1 i }) (λ same. (
      ap (λ (k : TargetKey). k.kind) same,
      (
        ap (λ (k : TargetKey). k.id) same,
        (
          ap (λ (k : TargetKey). k.number) same,
          ap (λ (k : TargetKey). k.text) same,
        ),
      ),
    ))

pub told_target : (a b : Target) → Told (a ≡ b)
told_target a b =
    told_alike (told_key (target_key a) (target_key b)) (λ same. sym (target-kept a) ∙ ap (λ (k : TargetKey). target_by k.kind k) same ∙ target-kept b) (ap target_key)

-- # What is known

abbrev pub declared_method : Known → Option Id
declared_method (knowns.Decl method) = Some method
declared_method known = None

pub declares-is : (known : Known) (method : Id) → declared_method known ≡ Some method → known ≡ knowns.Decl method
declares-is (knowns.Decl own) method is = ap knowns.Decl (same_Some own method is)
declares-is knowns.Class method is = absurd cc
declares-is knowns.Field method is = absurd cc
declares-is (knowns.Method kind) method is = absurd cc
declares-is (knowns.Param own) method is = absurd cc

abbrev pub decl_in : Option Known → Option Id
decl_in (Some known) = declared_method known
decl_in None = None

pub decl-is : (o : Option Known) (method : Id) → decl_in o ≡ Some method → o ≡ Some (knowns.Decl method)
decl-is None method is = absurd cc
decl-is (Some known) method is = ap (λ (k : Known). Some k) (declares-is known method is)

abbrev pub method_kind : Option Known → Option MethodKind
method_kind (Some (knowns.Method kind)) = Some kind
method_kind known = None

pub kind-is : (o : Option Known) (kind : MethodKind) → method_kind o ≡ Some kind → o ≡ Some (knowns.Method kind)
kind-is (Some (knowns.Method own)) kind is = ap (λ (k : MethodKind). Some (knowns.Method k)) (same_Some own kind is)
kind-is (Some (knowns.Decl own)) kind is = absurd cc
kind-is (Some knowns.Class) kind is = absurd cc
kind-is (Some knowns.Field) kind is = absurd cc
kind-is (Some (knowns.Param own)) kind is = absurd cc
kind-is None kind is = absurd cc

no_constructor : (kind : MethodKind) → Told (kind ≢ Constructor)
no_constructor Instance = inl (λ is. absurd cc)
no_constructor Static = inl (λ is. absurd cc)
no_constructor Constructor = inr (λ fails. fails refl)

module _ (program : Program) where
  abbrev pub IsKnown : Id → Type 0
  IsKnown id = (known : Known) × (get program.known id ≡ Some known)

  -- what holds of nothing unknown holds of something known
  known-where : (P : Option Known → Type 0) (id : Id) → P (get program.known id) → (P None → ⊥) → IsKnown id
  known-where P id has none = by (get program.known id) refl has where
    by : (o : Option Known) → get program.known id ≡ o → P o → IsKnown id
    by None is has = absurd (none has)
    by (Some known) is has = (known, is)

  known-living : (id : Id) → lives program id ≡ true → IsKnown id
  known-living id is = known-where (λ known. lives_as program id known ≡ true) id is (λ fails. absurd cc)

  pub known-class : (id : Id) → is_living_class program id ≡ true → IsKnown id
  known-class id is = known-where (λ known. (is_class known && living_at program id) ≡ true) id is (λ fails. absurd cc)

  abbrev pub listed_known : Listed (λ (entry : Id × Known). get program.known entry.0 ≡ Some entry.1)
  listed_known = listed_entries id_cmp-total id_cmp-IsAntisymmetric program.known

  pub listed_ids : Listed IsKnown
  listed_ids =
      listed_alike (listed_map listed_known (λ (entry : Id × Known). entry.0)) (λ id h. (h.0.1, subst (λ id. get program.known id ≡ Some h.0.1) h.2 h.1)) (λ id known. ((id, known.0), known.1, refl))

  -- faults of two identities that are known
  listed_pairs : (P : Id → Id → Type 0) (make : Id → Id → Fault) → ((first second : Id) → Told (P first second))
      → ((first second : Id) → P first second → IsKnown first × IsKnown second)
      → Listed (λ fault. (first : Id) × (second : Id) × P first second × (make first second ≡ fault))
  listed_pairs P make told known =
      listed_alike (listed_each listed_ids (λ first. listed_map (listed_where listed_ids (told first)) (λ second. make first second))) (λ fault h. (h.0, h.2.0, h.2.1.1, h.2.2)) (λ fault h. let k = known h.0 h.1 h.2 in (h.0, k.0, (h.1, (k.1, h.2), h.3)))

  -- # SameAddress

  told_shared : (first second : Id) → Told (SameAddress program first second)
  told_shared first second =
      told_alike (told_both (told_order (id_cmp first second)) (told_both (told_bool (lives program first) true)
      (told_both (told_bool (lives program second) true) (told_some (address program first)
      (λ shared. told_option told_address (address program second) (Some shared)))))) (λ h. record {
        ordered = h.0;
        first_lives = h.1.0;
        second_lives = h.1.1.0;
        shared = h.1.1.1.0;
        first_has = h.1.1.1.1;
        second_has = h.1.1.1.2;
      }) (λ same. (same.ordered, (same.first_lives, (same.second_lives, (same.shared, same.first_has, same.second_has)))))

  abbrev pub IsAddressFault : Fault → Type 0
  IsAddressFault fault = (first : Id) × (second : Id) × SameAddress program first second × (same_address first second ≡ fault)

  pub addresses : Listed IsAddressFault
  addresses = listed_pairs (SameAddress program) same_address told_shared
      (λ first second same. (known-living first same.first_lives, known-living second same.second_lives))

  -- # FalseOverride

  abbrev Declares : Id → (Id → Id → MethodKind → Type 0) → Type 0
  Declares id P = (living_at program id ≡ true) × ((method : Id) × (decl_in (get program.known id) ≡ Some method)
      × ((kind : MethodKind) × (method_kind (get program.known method) ≡ Some kind)
      × ((owner : Id) × (owner_at program id ≡ Some owner) × P method owner kind)))

  told_declares : (id : Id) (P : Id → Id → MethodKind → Type 0) → ((method owner : Id) (kind : MethodKind) → Told (P method owner kind))
      → Told (Declares id P)
  told_declares id P told =
      told_both (told_bool (living_at program id) true) (told_some (decl_in (get program.known id)) (λ method.
      told_some (method_kind (get program.known method)) (λ kind. told_some (owner_at program id) (λ owner. told method owner kind))))

  told_above : (class above : Id) → Told (IsProperAncestor program class above)
  told_above class above =
      told_alike (told_both (told_bool (is_on_way program class above) true) (told_not (told_id class above))) (λ h. record { on_way = h.0; apart = h.1 }) (λ is. (is.on_way, is.apart))

  told_alike_methods : (first second : Id) → Told (AreAlike program first second)
  told_alike_methods first second =
      told_alike (told_both (told_not (told_id first second)) (told_both (told_name (name_at program first) (name_at program second))
      (told_number (length (params_at program first)) (length (params_at program second))))) (λ h. record { apart = h.0; named = h.1.0; as_many = h.1.1 }) (λ is. (is.apart, (is.named, is.as_many)))

  abbrev Overrides : Id → Id → MethodKind → Id → Id → MethodKind → Type 0
  Overrides method owner kind other above other_kind = (kind ≢ Constructor) × ((other_kind ≢ Constructor)
      × (AreAlike program method other × (IsProperAncestor program owner above ⊎ IsProperAncestor program above owner)))

  told_overrides : (method owner : Id) (kind : MethodKind) (other above : Id) (other_kind : MethodKind)
      → Told (Overrides method owner kind other above other_kind)
  told_overrides method owner kind other above other_kind =
      told_both (no_constructor kind) (told_both (no_constructor other_kind) (told_both (told_alike_methods method other)
      (told_either (told_above owner above) (told_above above owner))))

  declaration-is : (id method owner : Id) (kind : MethodKind) → living_at program id ≡ true → decl_in (get program.known id) ≡ Some method
      → method_kind (get program.known method) ≡ Some kind → owner_at program id ≡ Some owner → IsLivingDeclaration program id method owner kind
  declaration-is id method owner kind living declares is_kind owned = record {
    declares = decl-is (get program.known id) method declares;
    declaration_lives = living;
    is_kind = kind-is (get program.known method) kind is_kind;
    owned = owned;
  }

  told_override : (first second : Id) → Told (FalseOverride program first second)
  told_override first second =
      told_alike (told_both (told_order (id_cmp first second)) (told_declares first
      (λ method owner kind. Declares second (Overrides method owner kind)) (λ method owner kind. told_declares second
      (Overrides method owner kind) (λ other above other_kind. told_overrides method owner kind other above other_kind)))) (λ h.
      let f = h.1 in let s = f.1.2.2.2 in record {
        ordered = h.0;
        first_method = f.1.0;
        second_method = s.1.0;
        first_owner = f.1.2.2.0;
        second_owner = s.1.2.2.0;
        first_kind = f.1.2.0;
        second_kind = s.1.2.0;
        first_lives = declaration-is first f.1.0 f.1.2.2.0 f.1.2.0 f.0 f.1.1 f.1.2.1 f.1.2.2.1;
        second_lives = declaration-is second s.1.0 s.1.2.2.0 s.1.2.0 s.0 s.1.1 s.1.2.1 s.1.2.2.1;
        first_is_method = s.1.2.2.2.0;
        second_is_method = s.1.2.2.2.1.0;
        alike = s.1.2.2.2.1.1.0;
        related = s.1.2.2.2.1.1.1;
      }) (λ is. (
        is.ordered,
        (
          is.first_lives.declaration_lives,
          (
            is.first_method,
            ap decl_in is.first_lives.declares,
            (
              is.first_kind,
              ap method_kind is.first_lives.is_kind,
              (
                is.first_owner,
                is.first_lives.owned,
                (
                  is.second_lives.declaration_lives,
                  (
                    is.second_method,
                    ap decl_in is.second_lives.declares,
                    (
                      is.second_kind,
                      ap method_kind is.second_lives.is_kind,
                      (
                        is.second_owner,
                        is.second_lives.owned,
                        (is.first_is_method, (is.second_is_method, (is.alike, is.related))),
                      ),
                    ),
                  ),
                ),
              ),
            ),
          ),
        ),
      )
      )

  abbrev pub IsOverrideFault : Fault → Type 0
  IsOverrideFault fault = (first : Id) × (second : Id) × FalseOverride program first second × (false_override first second ≡ fault)

  pub overrides : Listed IsOverrideFault
  overrides = listed_pairs (FalseOverride program) false_override told_override
      (λ first second is. ((knowns.Decl is.first_method, is.first_lives.declares), (knowns.Decl is.second_method, is.second_lives.declares)))

  -- # Apart

  -- a declaration is known, where it is topmost
  known-topmost : (method decl : Id) → is_topmost program method decl ≡ true → IsKnown decl
  known-topmost method decl is = known-where (λ known. (option_map_or (λ known. is_living_decl program method (decl, known)) known false
      && list_all (is_above_living program method decl) (entries program.known)) ≡ true) decl is (λ fails. absurd cc)

  told_apart : (method : Id) → Told (Apart program method)
  told_apart method =
      told_alike (told_both (told_bool (lives_method program method) true) (told_not (told_list (entries program.known)
      (λ (entry : Id × Known). told_bool (is_topmost program method entry.0) true)))) (λ h. record { method_lives = h.0; none_topmost = λ decl. none h.1 decl (is_topmost program method decl) refl }) (λ is. (is.method_lives, λ h. true≢false (sym h.2 ∙ is.none_topmost h.0.0)))
    where
      none : ((entry : Id × Known) × Contains (entries program.known) entry × (is_topmost program method entry.0 ≡ true) → ⊥)
          → (decl : Id) (b : Bool) → is_topmost program method decl ≡ b → b ≡ false
      none fails decl true is =
          let known = known-topmost method decl is in
          absurd (fails ((decl, known.0), (listed_known.each (decl, known.0)).1 known.1, is))
      none fails decl false is = refl

  -- a method that lives is declared by something known
  declared-living : (method : Id) → lives_method program method ≡ true
      → (entry : Id × Known) × Contains (entries program.known) entry × (declared_method entry.1 ≡ Some method)
  declared-living method lives =
      let found = list_any-found (λ entry. is_living_decl program method entry ≡ true) (is_living_decl program method)
      (λ entry. (λ is. is, λ is. is)) (entries program.known) lives in
      (found.0, found.1, own found.0.1 (living_at program found.0.0) found.2)
    where
      both : (a b : Bool) → (a && b) ≡ true → a ≡ true
      both true b is = refl
      both false b is = absurd cc

      own : (known : Known) (b : Bool) → (is_decl_of method known && b) ≡ true → declared_method known ≡ Some method
      own (knowns.Decl decl) b is = ap (λ (id : Id). Some id) (sym (id_tied method decl (both _ b is)))
      own knowns.Class b is = absurd cc
      own knowns.Field b is = absurd cc
      own (knowns.Method kind) b is = absurd cc
      own (knowns.Param decl) b is = absurd cc

  abbrev pub IsApartFault : Fault → Type 0
  IsApartFault fault = (method : Id) × Apart program method × (apart method ≡ fault)

  pub parted : Listed IsApartFault
  parted =
      listed_alike (listed_map (listed_where (listed_each listed_known (λ (entry : Id × Known). listed_some (declared_method entry.1))) told_apart) (λ method. apart method)) (λ fault h. (h.0, h.1.1, h.2)) (λ fault h. let d = declared-living h.0 h.1.method_lives in
      (h.0, ((d.0, (listed_known.each d.0).0 d.1, d.2), h.1), h.2))

  -- # OutsideName

  abbrev fixed_in : Option Value → Option Bool
  fixed_in (Some (values.Fixed fixed)) = Some fixed
  fixed_in other = None

  fixed-is : (o : Option Value) (fixed : Bool) → fixed_in o ≡ Some fixed → o ≡ Some (values.Fixed fixed)
  fixed-is (Some (values.Fixed own)) fixed is = ap (λ (b : Bool). Some (values.Fixed b)) (same_Some own fixed is)
  fixed-is other fixed is = absurd cc

  told_outside : (method : Id) → Told (OutsideName program method)
  told_outside method =
      told_alike (told_some (method_kind (get program.known method)) (λ kind. told_both (no_constructor kind)
      (told_both (told_bool (lives_method program method) true) (told_some (fixed_in (value_at program method slots.Fixed))
      (λ fixed. told_not (told_bool fixed (is_object_method (name_at program method) (length (params_at program method))))))))) (λ h. record {
        kind = h.0;
        is_kind = kind-is (get program.known method) h.0 h.1;
        is_method = h.2.0;
        method_lives = h.2.1.0;
        fixed = h.2.1.1.0;
        holds = fixed-is (value_at program method slots.Fixed) h.2.1.1.0 h.2.1.1.1;
        differs = h.2.1.1.2;
      }) (λ is. (is.kind, ap method_kind is.is_kind, (is.is_method, (is.method_lives, (is.fixed, ap fixed_in is.holds, is.differs)))))

  abbrev pub IsOutsideFault : Fault → Type 0
  IsOutsideFault fault = (method : Id) × OutsideName program method × (outside_name method ≡ fault)

  pub outside_names : Listed IsOutsideFault
  outside_names =
      listed_alike (listed_map (listed_where listed_ids told_outside) (λ method. outside_name method)) (λ fault h. (h.0, h.1.1, h.2)) (λ fault h. (h.0, ((knowns.Method h.1.kind, h.1.is_kind), h.1), h.2))

  -- # Missing

  abbrev IsGone : Cell → Mention → Type 0
  IsGone at mention = (is_living_entity program at.id ≡ true) × (is_there program at.id mention.role mention.id ≡ false)

  told_gone : (at : Cell) (mention : Mention) → Told (IsGone at mention)
  told_gone at mention = told_both (told_bool (is_living_entity program at.id) true) (told_bool (is_there program at.id mention.role mention.id) false)

  abbrev pub IsMissingFault : Fault → Type 0
  IsMissingFault fault = (at : Cell) × (target : Id) × Missing program at target × (missing at target ≡ fault)

  pub absences : Listed IsMissingFault
  absences =
      listed_alike
      (listed_each (listed_entries cell_cmp-total cell_cmp-IsAntisymmetric program.cells)
      (λ (entry : Cell × Value). listed_map (listed_where (listed_items (references program entry.1)) (told_gone entry.0)) (λ (mention : Mention). missing entry.0 mention.id))) (λ fault h. (
        h.0.0,
        h.2.0.id,
        record {
          owner_lives = h.2.1.1.0;
          value = h.0.1;
          holds = h.1;
          role = h.2.0.role;
          refers = h.2.1.0;
          gone = h.2.1.1.1;
        },
        h.2.2,
      )) (λ fault h. let is = h.2 in
      ((h.0, is.value), is.holds, (record { role = is.role; id = h.1 }, (is.refers, (is.owner_lives, is.gone)), h.3)))

  -- # LocalClash

  abbrev body_in : Option Value → Option IBody
  body_in (Some (values.Body body)) = body
  body_in other = None

  body-is : (o : Option Value) (body : IBody) → body_in o ≡ Some body → o ≡ Some (values.Body (Some body))
  body-is (Some (values.Body own)) body is = ap (λ (b : Option IBody). Some (values.Body b)) is
  body-is other body is = absurd cc

  listed_repeated : (method : Id) → Listed (IsRepeated (param_names program method))
  listed_repeated method =
      listed_alike (listed_items (params_scopes (params_at program method) []).clashes) (λ name. (clashes-repeated (params_at program method) name).0) (λ name. (clashes-repeated (params_at program method) name).1)

  listed_in_body : (declaration method : Id) → Listed (ClashesInBody program declaration method)
  listed_in_body declaration method =
      listed_alike (listed_each (listed_some (body_in (value_at program declaration slots.Body)))
      (λ (body : IBody). listed_items (clashes_in (param_names program method) body.block))) (λ name h. record { body = h.0; holds = body-is (value_at program declaration slots.Body) h.0 h.1; clashes = h.2 }) (λ name is. (is.body, ap body_in is.holds, is.clashes))

  abbrev pub IsLocalFault : Fault → Type 0
  IsLocalFault fault = (at : Cell) × (name : Name) × LocalClash program at name × (local_clash at name ≡ fault)

  pub local_clashes : Listed IsLocalFault
  local_clashes =
      listed_alike
      (listed_each (listed_where listed_known (λ (entry : Id × Known). told_bool (living_at program entry.0) true))
      (λ (entry : Id × Known). listed_each (listed_some (declared_method entry.1))
      (λ method. listed_map (listed_either (listed_repeated method) (listed_in_body entry.0 method)) (λ (name : Name). local_clash (cell entry.0 slots.Body) name)))) (λ fault h. let id = h.0.0 in let method = h.2.0 in (
        cell id slots.Body,
        h.2.2.0,
        record {
          declaration = id;
          method = method;
          is = refl;
          declares = h.1.0 ∙ ap (λ (k : Known). Some k) (declares-is h.0.1 method h.2.1);
          declaration_lives = h.1.1;
          clashes = h.2.2.1;
        },
        h.2.2.2,
      )) (λ fault h. let is = h.2 in (
        (is.declaration, knowns.Decl is.method),
        (is.declares, is.declaration_lives),
        (
          is.method,
          refl,
          (
            h.1,
            is.clashes,
            ap (λ (at : Cell). local_clash at h.1) (sym is.is) ∙ h.3,
          ),
        ),
      ))

  -- # PackageIsClass

  told_inside : (text name : Name) → Told ((text ≡ name) ⊎ BeginsWith text name)
  told_inside text name =
      told_alike (told_bool (begins (name ++ dot ∷ []) (text ++ dot ∷ [])) true) (inside-if_begins name text) (begins-if_inside name text)

  told_package : (class inside : Id) → Told (PackageIsClass program class inside)
  told_package class inside =
      told_alike (told_both (told_bool (is_living_class program class) true) (told_both (told_bool (is_living_class program inside) true)
      (told_inside (package_at program inside) (full_of program (program_class class))))) (λ h. record { class_lives = h.0; inside_lives = h.1.0; is = h.1.1 }) (λ is. (is.class_lives, (is.inside_lives, is.is)))

  abbrev pub IsPackageFault : Fault → Type 0
  IsPackageFault fault = (class : Id) × (inside : Id) × PackageIsClass program class inside × (package_is_class class inside ≡ fault)

  pub packages : Listed IsPackageFault
  packages = listed_pairs (PackageIsClass program) package_is_class told_package
      (λ class inside is. (known-class class is.class_lives, known-class inside is.inside_lives))

-- # Misread

module _ (program : Program) where
  abbrev tidied : Program
  tidied = tidy program

  abbrev IsOtherwise : Id → Cell → ℕ × Reference → Type 0
  IsOtherwise class at place = (is_gone tidied place.1.target ≡ false) × (answered (unit_reader tidied class at) place.1 ≢ Some place.1.target)

  told_otherwise : (class : Id) (at : Cell) (place : ℕ × Reference) → Told (IsOtherwise class at place)
  told_otherwise class at place =
      told_both (told_bool (is_gone tidied place.1.target) false)
      (told_not (told_option told_target (answered (unit_reader tidied class at) place.1) (Some place.1.target)))

  abbrev misread_in : Cell → ℕ × Reference → Fault
  misread_in at place = misread at place.0 (fault_target place.1.target)

  abbrev IsMisreadIn : Id → Fault → Type 0
  IsMisreadIn class fault = (at : Cell) × Contains (printed_cells tidied class) at
      × ((place : ℕ × Reference) × ((slice_get (unit_references tidied class at) place.0 ≡ Some place.1) × IsOtherwise class at place)
      × (misread_in at place ≡ fault))

  listed_in : (class : Id) → Listed (IsMisreadIn class)
  listed_in class =
      listed_each (listed_items (printed_cells tidied class)) (λ at. listed_map (listed_where (listed_numbered (unit_references tidied class at)) (told_otherwise class at)) (misread_in at))

  abbrev pub IsReadingFault : Fault → Type 0
  IsReadingFault fault = (at : Cell) × (number : ℕ) × (target : Target) × Misread program at number target
      × (misread at number (fault_target target) ≡ fault)

  pub misreadings : Listed IsReadingFault
  misreadings =
      listed_alike
      (listed_each (listed_where (listed_ids tidied) (λ id. told_bool (is_living_class tidied id) true)) listed_in) (λ fault h. let place = h.2.2.0 in (
        h.2.0,
        place.0,
        place.1.target,
        record {
          class = h.0;
          misread = record {
            class_lives = h.1.1;
            prints = h.2.1;
            reference = place.1;
            stands = h.2.2.1.0;
            names = refl;
            there = h.2.2.1.1.0;
            differs = h.2.2.1.1.1;
          };
        },
        h.2.2.2,
      )) (λ fault h. let m = h.3.misread in
      let reads = answered (unit_reader tidied h.3.class h.0) m.reference in (
        h.3.class,
        (known-class tidied h.3.class m.class_lives, m.class_lives),
        (
          h.0,
          m.prints,
          (
            (h.1, m.reference),
            (
              m.stands,
              (
                subst (λ (t : Target). is_gone tidied t ≡ false) (sym m.names) m.there,
                subst (λ (t : Target). reads ≢ Some t) (sym m.names) m.differs,
              ),
            ),
            ap (λ (t : Target). misread h.0 h.1 (fault_target t)) m.names ∙ h.4,
          ),
        ),
      ))
