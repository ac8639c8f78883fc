-- A program that is the same as a clean one has no two entities of one address, no false override, and no method apart.
use Rattle.std.proofs.Common.{Bool, None, Option, Some, [], ap, false, inl, inr, length, refl, sym, true, true≢false, ◌||◌, ◌∙◌, ◌≡◌, ◌⊎◌}
use Rattle.std.specs.FinMap.{entries, get}
use Rattle.std.specs.List.{list_all}
use Rattle.std.specs.Option.{option_map_or}
use Rattle.std.specs.Prelude.{is_some, not, ◌&&◌}
use Rattle.mol_base.specs.declared.ident.Id.{Id}
use Rattle.mol_spell_rules.specs.Clean.{Clean}
use Rattle.mol_spell_rules.specs.NameFaults.{IsLivingDeclaration, IsProperAncestor, FalseOverride}
use Rattle.mol_table_rules.specs.Faults.{Address, class_address, field_address, method_address, constructor_address, decl_address, address_as, address, SameAddress, is_above, is_above_living, is_topmost, Apart}
use Rattle.mol_table_rules.specs.Life.{is_decl_of, is_living_decl, lives, lives_as, entity_in, is_living_entity}
use Rattle.mol_table_rules.specs.Mentions.{Mention, a_class, mentions}
use Rattle.mol_table_rules.specs.Program.{Program, same_id, value_at, living_at, name_at, owner_at, params_at, package_at, owner_in}
use Rattle.mol_table_rules.specs.Rules.{fills}
use Rattle.mol_values_types.specs.declared.cell.Slot.TheVariants as slots
use Rattle.mol_values_types.specs.declared.kind.MethodKind.{MethodKind}
use Rattle.mol_values_types.specs.declared.kind.MethodKind.TheVariants.{Instance, Static, Constructor}
use Rattle.mol_values_types.specs.declared.known.Known.{Known}
use Rattle.mol_values_types.specs.declared.known.Known.TheVariants as knowns
use Rattle.mol_values_types.specs.declared.value.Value.{Value}
use Rattle.mol_values_types.specs.declared.value.Value.TheVariants as values
use Rattle.jav_names.proofs.Lists.{stands_first}
use Rattle.mol_table_rules.proofs.Living.{id_tied}
use Rattle.mol_table_rules.proofs.Sameness.{sameness}
use Rattle.mol_faults_laws.proofs.sameness_lemmas.Alike.{methods-same, Alike, declaration-lives, known-same, living-same, method-lives, name-same, owner-same, package-same, params-same}
use Rattle.mol_faults_laws.proofs.sameness_lemmas.Entities.{all-alike, also-known}
use Rattle.mol_faults_laws.proofs.sameness_lemmas.Lists.{passed-by-each}
use Rattle.mol_faults_laws.proofs.sameness_lemmas.Tidying.{entity-and, refers-living}
use Rattle.mol_faults_laws.proofs.sameness_lemmas.Ways.{on_way-same}

-- both ways
pub turned : (A B : Program) → Alike A B → Alike B A
turned A B alike = record {
  rules = alike.others;
  others = alike.rules;
  knows = λ id. sym (alike.knows id);
  same = sameness.back A B alike.same;
}

module _ (A B : Program) (alike : Alike A B) (clean : Clean A) where
  -- ---- what lives in the second

  back_alike : Alike B A
  back_alike = turned A B alike

  pub first-living : (id : Id) → living_at B id ≡ true → living_at A id ≡ true
  first-living id is = living-same A B alike id ∙ is

  pub also : (id : Id) (known : Known) → get B.known id ≡ Some known → entity_in (Some known) ≡ Some known → get A.known id ≡ Some known
  also id known is entity = also-known B A back_alike.knows id known is entity

  owner-lives : (id owner : Id) → lives A id ≡ true → is_living_entity A id ≡ true → owner_at A id ≡ Some owner → living_at A owner ≡ true
  owner-lives id owner alive entity is = by (value_at A id slots.Owner) refl is where
    class-living : (o : Option Known) → get A.known owner ≡ o → fills id a_class o ≡ true → lives A owner ≡ true → living_at A owner ≡ true
    class-living (Some knowns.Class) known fill living = sym (ap (lives_as A owner) known) ∙ living
    class-living None known fill living = absurd (true≢false (sym fill))
    class-living (Some (knowns.Method kind)) known fill living = absurd (true≢false (sym fill))
    class-living (Some (knowns.Decl method)) known fill living = absurd (true≢false (sym fill))
    class-living (Some knowns.Field) known fill living = absurd (true≢false (sym fill))
    class-living (Some (knowns.Param method)) known fill living = absurd (true≢false (sym fill))

    by : (o : Option Value) → value_at A id slots.Owner ≡ o → owner_in o ≡ Some owner → living_at A owner ≡ true
    by (Some (values.Owner x)) holds is =
        let same : x ≡ owner = cc in
        let held : value_at A id slots.Owner ≡ Some (values.Owner owner) = holds ∙ ap (λ (y : Id). Some (values.Owner y)) same in
        let fill : fills id a_class (get A.known owner) ≡ true = passed-by-each (λ (m : Mention). fills id m.role (get A.known m.id))
        (mentions (values.Owner owner))
        (alike.rules.references id slots.Owner (values.Owner owner) held) (record { role = a_class; id = owner }) (stands_first _ []) in
        class-living (get A.known owner) refl fill
        (refers-living A alike.rules clean id slots.Owner (values.Owner owner) entity held (record { role = a_class; id = owner })
        (stands_first _ []))
    by None holds is = absurd cc
    by (Some (values.Live x)) holds is = absurd cc
    by (Some (values.Package x)) holds is = absurd cc
    by (Some (values.Method x)) holds is = absurd cc
    by (Some (values.Name x)) holds is = absurd cc
    by (Some (values.Super x)) holds is = absurd cc
    by (Some (values.Result x)) holds is = absurd cc
    by (Some (values.Params x)) holds is = absurd cc
    by (Some (values.Kind x)) holds is = absurd cc
    by (Some (values.Fixed x)) holds is = absurd cc
    by (Some (values.Words x)) holds is = absurd cc
    by (Some (values.Notes x)) holds is = absurd cc
    by (Some (values.Body x)) holds is = absurd cc
    by (Some (values.Value ty init)) holds is = absurd cc

  entity-of-known : (id : Id) (known : Known) → get A.known id ≡ Some known → entity_in (Some known) ≡ Some known → lives A id ≡ true
      → is_living_entity A id ≡ true
  entity-of-known id known is entity alive = let some = ap is_some (ap entity_in is ∙ entity) in λ i. some i && alive i

  decl-owner-lives : (id method owner : Id) → get A.known id ≡ Some (knowns.Decl method) → living_at A id ≡ true
      → owner_at A id ≡ Some owner → living_at A owner ≡ true
  decl-owner-lives id method owner is living owned =
      let alive = declaration-lives A B alike id method is living in
      owner-lives id owner alive (entity-of-known id (knowns.Decl method) is refl alive) owned

  -- ---- addresses

  address-same : (id : Id) → is_living_entity A id ≡ true → address A id ≡ address B id
  address-same id entity = by (get A.known id) refl where
    alive : lives A id ≡ true
    alive = entity-and A alike.rules id entity

    packages : package_at A id ≡ package_at B id
    packages = package-same A B alike id alive

    names : name_at A id ≡ name_at B id
    names = name-same A B alike id alive

    owners : owner_at A id ≡ owner_at B id
    owners = owner-same A B alike id alive

    at : (known : Known) → get A.known id ≡ Some known → entity_in (Some known) ≡ Some known
        → address_as A id (Some known) ≡ address_as B id (Some known) → address A id ≡ address B id
    at known is entity same = ap (address_as A id) is ∙ same ∙ sym (ap (address_as B id) (also-known A B alike.knows id known is entity))

    decl : (method : Id) → lives A method ≡ true → (o : Option Known) → decl_address A id method o ≡ decl_address B id method o
    decl method living o =
        let called = name-same A B alike method living in
        let params = params-same A B alike method living in
        kinds o (λ i. constructor_address (owners i) (length (params i))) (λ i. method_address (owners i) (called i) (length (params i)))
      where
        kinds : (o : Option Known) → constructor_address (owner_at A id) (length (params_at A method))
            ≡ constructor_address (owner_at B id) (length (params_at B method))
            → method_address (owner_at A id) (name_at A method) (length (params_at A method))
            ≡ method_address (owner_at B id) (name_at B method) (length (params_at B method))
            → decl_address A id method o ≡ decl_address B id method o
        kinds (Some (knowns.Method Constructor)) one other = one
        kinds (Some (knowns.Method Instance)) one other = other
        kinds (Some (knowns.Method Static)) one other = other
        kinds None one other = other
        kinds (Some knowns.Class) one other = other
        kinds (Some (knowns.Decl own)) one other = other
        kinds (Some knowns.Field) one other = other
        kinds (Some (knowns.Param own)) one other = other

    by : (o : Option Known) → get A.known id ≡ o → address A id ≡ address B id
    by None is = absurd (true≢false (sym entity ∙ ap (λ o. is_some (entity_in o) && lives A id) is))
    by (Some knowns.Class) is = at knowns.Class is refl (λ i. Some (class_address (packages i) (names i)))
    by (Some knowns.Field) is = at knowns.Field is refl (λ i. Some (field_address (owners i) (names i)))
    by (Some (knowns.Method kind)) is = at (knowns.Method kind) is refl refl
    by (Some (knowns.Param method)) is = absurd (true≢false (sym entity ∙ ap (λ o. is_some (entity_in o) && lives A id) is))
    by (Some (knowns.Decl method)) is = at (knowns.Decl method) is refl (ap (λ (a : Address). Some a)
        (decl method (method-lives A B alike id method is (sym (ap (lives_as A id) is) ∙ alive)) (get A.known method)
        ∙ known-same A B alike (decl_address B id method) (λ own. refl) method))

  -- what has an address and lives, lives in the first
  addressed-lives : (id : Id) (a : Address) → lives B id ≡ true → address B id ≡ Some a → is_living_entity A id ≡ true
  addressed-lives id a living has = by (get B.known id) refl where
    at : (known : Known) → get B.known id ≡ Some known → entity_in (Some known) ≡ Some known → is_living_entity A id ≡ true
    at known is entity =
        let some = ap is_some (ap entity_in is ∙ entity) in
        let both : is_living_entity B id ≡ true = λ i. some i && living i in
        alike.same.living id ∙ both

    by : (o : Option Known) → get B.known id ≡ o → is_living_entity A id ≡ true
    by None is = absurd (true≢false (sym living ∙ ap (lives_as B id) is))
    by (Some knowns.Class) is = at knowns.Class is refl
    by (Some knowns.Field) is = at knowns.Field is refl
    by (Some (knowns.Method kind)) is = at (knowns.Method kind) is refl
    by (Some (knowns.Decl method)) is = at (knowns.Decl method) is refl
    by (Some (knowns.Param method)) is = let none : None ≡ Some a = sym (ap (address_as B id) is) ∙ has in absurd cc

  pub addresses : (first second : Id) → ¬ (SameAddress B first second)
  addresses first second fault =
      let one = addressed-lives first fault.shared fault.first_lives fault.first_has in
      let two = addressed-lives second fault.shared fault.second_lives fault.second_has in
      clean.addresses first second (record {
        ordered = fault.ordered;
        first_lives = entity-and A alike.rules first one;
        second_lives = entity-and A alike.rules second two;
        shared = fault.shared;
        first_has = address-same first one ∙ fault.first_has;
        second_has = address-same second two ∙ fault.second_has;
      })

  -- ---- overrides

  declaration-back : (declaration method owner : Id) (kind : MethodKind) → IsLivingDeclaration B declaration method owner kind
      → IsLivingDeclaration A declaration method owner kind
  declaration-back declaration method owner kind is =
      let declares = also declaration (knowns.Decl method) is.declares refl in
      let living = first-living declaration is.declaration_lives in
      record {
        declares = declares;
        declaration_lives = living;
        is_kind = also method (knowns.Method kind) is.is_kind refl;
        owned = owner-same A B alike declaration (declaration-lives A B alike declaration method declares living) ∙ is.owned;
      }

  ancestor-back : (class above : Id) → living_at A class ≡ true → IsProperAncestor B class above → IsProperAncestor A class above
  ancestor-back class above living is = record { on_way = on_way-same A B alike class above living ∙ is.on_way; apart = is.apart }

  pub overrides : (first second : Id) → ¬ (FalseOverride B first second)
  overrides first second fault =
      let one = declaration-back first fault.first_method fault.first_owner fault.first_kind fault.first_lives in
      let two = declaration-back second fault.second_method fault.second_owner fault.second_kind fault.second_lives in
      let one_alive = method-lives A B alike first fault.first_method one.declares one.declaration_lives in
      let two_alive = method-lives A B alike second fault.second_method two.declares two.declaration_lives in
      let one_owner = decl-owner-lives first fault.first_method fault.first_owner one.declares one.declaration_lives one.owned in
      let two_owner = decl-owner-lives second fault.second_method fault.second_owner two.declares two.declaration_lives two.owned in
      clean.overrides first second (record {
        ordered = fault.ordered;
        first_method = fault.first_method;
        second_method = fault.second_method;
        first_owner = fault.first_owner;
        second_owner = fault.second_owner;
        first_kind = fault.first_kind;
        second_kind = fault.second_kind;
        first_lives = one;
        second_lives = two;
        first_is_method = fault.first_is_method;
        second_is_method = fault.second_is_method;
        alike = record {
          apart = fault.alike.apart;
          named = name-same A B alike fault.first_method one_alive ∙ fault.alike.named
              ∙ sym (name-same A B alike fault.second_method two_alive);
          as_many = ap length (params-same A B alike fault.first_method one_alive) ∙ fault.alike.as_many
              ∙ sym (ap length (params-same A B alike fault.second_method two_alive));
        };
        related = related one_owner two_owner fault.related;
      })
    where
      related : living_at A fault.first_owner ≡ true → living_at A fault.second_owner ≡ true
          → IsProperAncestor B fault.first_owner fault.second_owner ⊎ IsProperAncestor B fault.second_owner fault.first_owner
          → IsProperAncestor A fault.first_owner fault.second_owner ⊎ IsProperAncestor A fault.second_owner fault.first_owner
      related one two (inl up) = inl (ancestor-back fault.first_owner fault.second_owner one up)
      related one two (inr up) = inr (ancestor-back fault.second_owner fault.first_owner two up)

  -- ---- topmost declarations

  above-same : (below above : Id) (method other : Id) → get A.known below ≡ Some (knowns.Decl method) → living_at A below ≡ true
      → get A.known above ≡ Some (knowns.Decl other) → living_at A above ≡ true
      → is_above A (owner_at A below) (owner_at A above) ≡ is_above B (owner_at B below) (owner_at B above)
  above-same below above method other is living also_is also_living =
      by (owner_at A below) (owner_at A above) refl refl ∙ (λ i. is_above B (downs i) (ups i)) where
        downs : owner_at A below ≡ owner_at B below
        downs = owner-same A B alike below (declaration-lives A B alike below method is living)

        ups : owner_at A above ≡ owner_at B above
        ups = owner-same A B alike above (declaration-lives A B alike above other also_is also_living)

        by : (o p : Option Id) → owner_at A below ≡ o → owner_at A above ≡ p → is_above A o p ≡ is_above B o p
        by (Some owner) (Some up) at there = on_way-same A B alike owner up (decl-owner-lives below method owner is living at)
        by None p at there = refl
        by (Some owner) None at there = refl

  module _ (method decl : Id) (is : get A.known decl ≡ Some (knowns.Decl method)) (living : living_at A decl ≡ true) where
    each-above : (id : Id) (known : Known) → get A.known id ≡ Some known
        → is_above_living A method decl (id, known) ≡ is_above_living B method decl (id, known)
    each-above id knowns.Class at = refl
    each-above id (knowns.Method kind) at = refl
    each-above id knowns.Field at = refl
    each-above id (knowns.Param own) at = refl
    each-above id (knowns.Decl own) at = by (same_id method own) refl (living_at A id) refl where
      lives-too : living_at A id ≡ living_at B id
      lives-too = living-same A B alike id

      by : (a : Bool) → same_id method own ≡ a → (b : Bool) → living_at A id ≡ b
          → (not (same_id method own && living_at A id) || is_above A (owner_at A id) (owner_at A decl))
          ≡ (not (same_id method own && living_at B id) || is_above B (owner_at B id) (owner_at B decl))
      by true tied true alive =
          let up = above-same id decl own method at alive is living in
          λ i. not (same_id method own && lives-too i) || up i
      by a tied false dead =
          ap (λ b. not (same_id method own && b) || is_above A (owner_at A id) (owner_at A decl)) dead
          ∙ none (same_id method own) (is_above A (owner_at A id) (owner_at A decl)) (is_above B (owner_at B id) (owner_at B decl))
          ∙ sym (ap (λ b. not (same_id method own && b) || is_above B (owner_at B id) (owner_at B decl)) (sym lives-too ∙ dead)) where
            none : (a b c : Bool) → (not (a && false) || b) ≡ (not (a && false) || c)
            none true b c = refl
            none false b c = refl
      by false tied true alive =
          ap (λ b. not (b && living_at A id) || is_above A (owner_at A id) (owner_at A decl)) tied
          ∙ sym (ap (λ b. not (b && living_at B id) || is_above B (owner_at B id) (owner_at B decl)) tied)

    topmost-same : is_topmost A method decl ≡ is_topmost B method decl
    topmost-same =
        let known = known-same A B alike (λ o. option_map_or (λ known. is_decl_of method known && living_at A decl) o false)
        (λ own. refl) decl in
        let alive = living-same A B alike decl in
        let all = all-alike A B alike.knows (is_above_living A method decl) (is_above_living B method decl) (λ id own. refl)
        (λ id own. refl)
        (λ id known at there entity. each-above id known at) in
        let lives = ap (λ b. option_map_or (λ known. is_decl_of method known && b) (get B.known decl) false) alive in
        λ i. (known ∙ lives) i && all i

  -- a declaration of it that lives, or none at all
  topmost-back : (method decl : Id) → is_topmost B method decl ≡ false → is_topmost A method decl ≡ false
  topmost-back method decl none = by (get A.known decl) refl where
    fails : option_map_or (λ known. is_living_decl A method (decl, known)) (get A.known decl) false ≡ false
        → is_topmost A method decl ≡ false
    fails is = ap (λ b. b && list_all (is_above_living A method decl) (entries A.known)) is

    by : (o : Option Known) → get A.known decl ≡ o → is_topmost A method decl ≡ false
    by None is = fails (ap (λ o. option_map_or (λ known. is_living_decl A method (decl, known)) o false) is)
    by (Some knowns.Class) is = fails (ap (λ o. option_map_or (λ known. is_living_decl A method (decl, known)) o false) is)
    by (Some (knowns.Method kind)) is = fails (ap (λ o. option_map_or (λ known. is_living_decl A method (decl, known)) o false) is)
    by (Some knowns.Field) is = fails (ap (λ o. option_map_or (λ known. is_living_decl A method (decl, known)) o false) is)
    by (Some (knowns.Param own)) is = fails (ap (λ o. option_map_or (λ known. is_living_decl A method (decl, known)) o false) is)
    by (Some (knowns.Decl own)) is = at (same_id method own) refl (living_at A decl) refl where
      first : (o : Option Known) → o ≡ Some (knowns.Decl own) → (same_id method own && living_at A decl) ≡ false
          → option_map_or (λ known. is_living_decl A method (decl, known)) o false ≡ false
      first o is test = ap (λ o. option_map_or (λ known. is_living_decl A method (decl, known)) o false) is ∙ test

      at : (a : Bool) → same_id method own ≡ a → (b : Bool) → living_at A decl ≡ b → is_topmost A method decl ≡ false
      at true tied true living =
          topmost-same method decl (is ∙ ap (λ (m : Id). Some (knowns.Decl m)) (sym (id_tied method own tied))) living ∙ none
      at false tied b living = fails (first (get A.known decl) is (ap (λ a. a && living_at A decl) tied))
      at true tied false dead = fails (first (get A.known decl) is
          (ap (λ b. same_id method own && b) dead ∙ and-false (same_id method own))) where
            and-false : (a : Bool) → (a && false) ≡ false
            and-false true = refl
            and-false false = refl

  pub together : (method : Id) → ¬ (Apart B method)
  together method fault = clean.together method (record {
    method_lives = methods-same A B alike method ∙ fault.method_lives;
    none_topmost = λ decl. topmost-back method decl (fault.none_topmost decl);
  })
