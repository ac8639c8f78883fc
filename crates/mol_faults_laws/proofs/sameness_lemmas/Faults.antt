-- A program that is the same as a clean one is clean, and has the same files.
use Rattle.std.proofs.Common.{Contains, List, None, Option, Some, [], ap, false, inl, inr, length, option_map, refl, slice_get, subst, sym, true, true≢false, ℕ, ◌∙◌, ◌∷◌, ◌≡◌, ◌⊎◌}
use Rattle.std.specs.FinMap.{get}
use Rattle.std.specs.List.{list_any}
use Rattle.std.specs.Option.{option_map_or}
use Rattle.std.specs.Prelude.{map}
use Rattle.jav_names.specs.DottedNames.{Name, joined}
use Rattle.jav_names.specs.Members.{is_object_method}
use Rattle.mol_base.specs.declared.ident.Id.{Id}
use Rattle.mol_resolve_rules.specs.ResolveFaults.{BeginsWith}
use Rattle.mol_spell_rules.specs.Clean.{Clean}
use Rattle.mol_spell_rules.specs.LocalClashes.{clashes_in, IsRepeated}
use Rattle.mol_spell_rules.specs.NameFaults.{OutsideName, is_gone, Misread, param_names, ClashesInBody, LocalClash, PackageIsClass}
use Rattle.mol_spell_rules.specs.PrintedFiles.{printed_files, printed_text}
use Rattle.mol_spell_rules.specs.SimpleNames.{unit_references}
use Rattle.mol_spell_rules.specs.UnitCells.{printed_cells}
use Rattle.mol_spell_rules.specs.Writers.{program_class, full_of, Reference}
use Rattle.mol_spell_rules.specs.references.References.{Target}
use Rattle.mol_table_rules.specs.Faults.{is_there, is_present, method_of, Missing}
use Rattle.mol_table_rules.specs.Life.{lives, lives_as, lives_method, lists, entity_in, is_living_entity}
use Rattle.mol_table_rules.specs.Mentions.{Role, Mention, a_class, a_field, a_method, a_called_method, a_static_method, a_constructor, a_param, a_listed_param, mentions}
use Rattle.mol_table_rules.specs.Program.{Program, same_id, value_at, package_at}
use Rattle.mol_table_rules.specs.Renumber.{is_living_class}
use Rattle.mol_table_rules.specs.Rules.{fills}
use Rattle.mol_table_rules.specs.Tidy.{tidy, references, tidied}
use Rattle.mol_values_types.specs.declared.cell.Cell.{Cell}
use Rattle.mol_values_types.specs.declared.cell.Slot.TheVariants as slots
use Rattle.mol_values_types.specs.declared.known.Known.{Known}
use Rattle.mol_values_types.specs.declared.known.Known.TheVariants as knowns
use Rattle.mol_values_types.specs.declared.param.Param.{Param}
use Rattle.mol_values_types.specs.declared.value.Value.{Value}
use Rattle.mol_resolve_rules.proofs.Stands.{in_place}
use Rattle.mol_table_rules.proofs.TidyRules.{tidied-at, tidy-IsProgram}
use Rattle.mol_faults_laws.proofs.sameness_lemmas.Alike.{methods-same, Alike, cells-same, class-lives, classes-same, declaration-lives, entity-lives, listed-same, method-lives, name-same, package-same, params-same}
use Rattle.mol_faults_laws.proofs.sameness_lemmas.Cells.{cell-lives, printed-same}
use Rattle.mol_faults_laws.proofs.sameness_lemmas.Entities.{also-known}
use Rattle.mol_faults_laws.proofs.sameness_lemmas.EntityFaults.{addresses, overrides, together, also, first-living}
use Rattle.mol_faults_laws.proofs.sameness_lemmas.Files.{units-same}
use Rattle.mol_faults_laws.proofs.sameness_lemmas.Goodness.{IsGoodReference}
use Rattle.mol_faults_laws.proofs.sameness_lemmas.Lists.{each-of-all, passed-by-each}
use Rattle.mol_faults_laws.proofs.sameness_lemmas.Roles.{IsRightly, rightly}
use Rattle.mol_faults_laws.proofs.sameness_lemmas.SimpleNames.{unit-answered, unit-refs}
use Rattle.mol_faults_laws.proofs.sameness_lemmas.Tidying.{entity-and, refers-living, tidied-same, tidied-twins}

module _ (A B : Program) (alike : Alike A B) (clean : Clean A) where
  -- ---- names outside

  outside-names : (method : Id) → ¬ (OutsideName B method)
  outside-names method fault =
      let known = also A B alike clean method (knowns.Method fault.kind) fault.is_kind refl in
      let living : lives_method A method ≡ true = methods-same A B alike method ∙ fault.method_lives in
      let alive : lives A method ≡ true = ap (lives_as A method) known ∙ living in
      clean.names method (record {
        kind = fault.kind;
        is_kind = known;
        is_method = fault.is_method;
        method_lives = living;
        fixed = fault.fixed;
        holds = cells-same A B alike method slots.Fixed alive ∙ fault.holds;
        differs = λ is. fault.differs (is ∙ (λ i. is_object_method (name-same A B alike method alive i)
            (length (params-same A B alike method alive i))));
      })

  -- ---- what is missing

  there-same : (owner id : Id) (role : Role) → lives A owner ≡ true → lives A id ≡ true → IsRightly role (get A.known id)
      → is_there A owner role id ≡ is_there B owner role id
  there-same owner id role alive living right = by role right where
    entity : entity_in (get A.known id) ≡ get A.known id → lives A id ≡ lives B id
    entity is = at (get A.known id) refl where
      at : (o : Option Known) → get A.known id ≡ o → lives A id ≡ lives B id
      at None known = absurd (true≢false (sym living ∙ ap (lives_as A id) known))
      at (Some known) there = entity-lives A B alike id known there (sym (ap entity_in there) ∙ is ∙ there)

    lists-same : (method : Id) → lives A method ≡ true → lists A method id ≡ lists B method id
    lists-same method also_alive = ap (list_any (λ (param : Param). same_id id param.id)) (params-same A B alike method also_alive)

    present : (o : Option Known) → get A.known owner ≡ o → is_present A owner id ≡ is_present B owner id
    present None known = absurd (true≢false (sym alive ∙ ap (lives_as A owner) known))
    present (Some (knowns.Method kind)) known = own known refl (lists-same owner alive) where
      own : get A.known owner ≡ Some (knowns.Method kind) → entity_in (Some (knowns.Method kind)) ≡ Some (knowns.Method kind)
          → lists A owner id ≡ lists B owner id
          → is_present A owner id ≡ is_present B owner id
      own is entity same = ap (λ o. option_map_or (λ method. lists A method id) (method_of owner o) false) is ∙ same
          ∙ sym (ap (λ o. option_map_or (λ method. lists B method id) (method_of owner o) false)
          (also-known A B alike.knows owner (knowns.Method kind) is entity))
    present (Some (knowns.Decl method)) known =
        ap (λ o. option_map_or (λ method. lists A method id) (method_of owner o) false) known
        ∙ lists-same method (method-lives A B alike owner method known (sym (ap (lives_as A owner) known) ∙ alive))
        ∙ sym (ap (λ o. option_map_or (λ method. lists B method id) (method_of owner o) false)
        (also-known A B alike.knows owner (knowns.Decl method) known refl))
    present (Some knowns.Class) known =
        ap (λ o. option_map_or (λ method. lists A method id) (method_of owner o) false) known
        ∙ sym (ap (λ o. option_map_or (λ method. lists B method id) (method_of owner o) false)
        (also-known A B alike.knows owner knowns.Class known refl))
    present (Some knowns.Field) known =
        ap (λ o. option_map_or (λ method. lists A method id) (method_of owner o) false) known
        ∙ sym (ap (λ o. option_map_or (λ method. lists B method id) (method_of owner o) false)
        (also-known A B alike.knows owner knowns.Field known refl))
    present (Some (knowns.Param method)) known =
        ap (λ o. option_map_or (λ method. lists A method id) (method_of owner o) false) known
        ∙ sym (ap (λ o. option_map_or (λ method. lists B method id) (method_of owner o) false)
        (listed-same A B alike owner method known alive).1)

    by : (role : Role) → IsRightly role (get A.known id) → is_there A owner role id ≡ is_there B owner role id
    by a_class right = entity right
    by a_field right = entity right
    by a_method right = entity right
    by a_called_method right = entity right
    by a_static_method right = entity right
    by a_constructor right = entity right
    by a_param right = present (get A.known owner) refl
    by a_listed_param right = present (get A.known owner) refl

  missing : (at : Cell) (target : Id) → ¬ (Missing B at target)
  missing at target fault =
      let living : is_living_entity A at.id ≡ true = alike.same.living at.id ∙ fault.owner_lives in
      let holds : value_at A at.id at.slot ≡ Some fault.value = alike.same.agree at.id at.slot living ∙ fault.holds in
      let same = tidied-same A B alike clean at.id at.slot fault.value living holds in
      let refers : Contains (references A fault.value) (record { role = fault.role; id = target }) =
      subst (λ (v : Value). Contains (mentions v) (record { role = fault.role; id = target })) (sym same) fault.refers in
      let alive = refers-living A alike.rules clean at.id at.slot fault.value living holds
      (record { role = fault.role; id = target }) refers in
      let rules = tidy-IsProgram A alike.rules in
      let right = passed-by-each (λ (m : Mention). fills at.id m.role (get A.known m.id)) (references A fault.value)
      (rules.references at.id at.slot (tidied A fault.value) (tidied-at A at ∙ ap (option_map (tidied A)) holds))
      (record { role = fault.role; id = target }) refers in
      clean.present at target (record {
        owner_lives = living;
        value = fault.value;
        holds = holds;
        role = fault.role;
        refers = refers;
        gone = there-same at.id target fault.role (entity-and A alike.rules at.id living) alive
            (rightly fault.role at.id (get A.known target) right) ∙ fault.gone;
      })

  -- ---- misread names

  misread : (at : Cell) (number : ℕ) (target : Target) → ¬ (Misread B at number target)
  misread at number target fault =
      let class = fault.class in
      let in_second = fault.misread in
      let twins = tidied-twins A B alike clean in
      let good : is_living_class (tidy A) class ≡ true = classes-same (tidy A) (tidy B) twins.alike class ∙ in_second.class_lives in
      let prints : Contains (printed_cells (tidy A) class) at = subst (λ (cells : List Cell). Contains cells at)
      (sym (printed-same (tidy A) (tidy B) twins class)) in_second.prints in
      let living = cell-lives (tidy A) (tidy B) twins class good at prints in
      let refs = unit-refs (tidy A) (tidy B) twins class good at living in
      let stands : slice_get (unit_references (tidy A) class at) number ≡ Some in_second.reference = ap
      (λ (rs : List Reference). slice_get rs number) refs.0 ∙ in_second.stands in
      let is = each-of-all (IsGoodReference (tidy A)) (unit_references (tidy A) class at) refs.1 in_second.reference
      (in_place (unit_references (tidy A) class at) number in_second.reference stands) in
      clean.read at number target (record {
        class = class;
        misread = record {
          class_lives = good;
          prints = prints;
          reference = in_second.reference;
          stands = stands;
          names = in_second.names;
          there = subst (λ (t : Target). is_gone (tidy A) t ≡ false) in_second.names is.target;
          differs = λ reads. in_second.differs (sym (unit-answered (tidy A) (tidy B) twins class good at living in_second.reference is)
              ∙ reads);
        };
      })

  -- ---- locals

  locals : (at : Cell) (name : Name) → ¬ (LocalClash B at name)
  locals at name fault =
      let declares = also A B alike clean fault.declaration (knowns.Decl fault.method) fault.declares refl in
      let living = first-living A B alike clean fault.declaration fault.declaration_lives in
      let params = params-same A B alike fault.method (method-lives A B alike fault.declaration fault.method declares living) in
      let names : param_names A fault.method ≡ param_names B fault.method = ap (map (λ (param : Param). param.name)) params in
      let bodies = cells-same A B alike fault.declaration slots.Body
      (declaration-lives A B alike fault.declaration fault.method declares living) in
      clean.locals at name (record {
        declaration = fault.declaration;
        method = fault.method;
        is = fault.is;
        declares = declares;
        declaration_lives = living;
        clashes = by names bodies fault.clashes;
      })
    where
      by : param_names A fault.method ≡ param_names B fault.method
          → value_at A fault.declaration slots.Body ≡ value_at B fault.declaration slots.Body
          → IsRepeated (param_names B fault.method) name ⊎ ClashesInBody B fault.declaration fault.method name
          → IsRepeated (param_names A fault.method) name ⊎ ClashesInBody A fault.declaration fault.method name
      by names bodies (inl repeated) = inl (subst (λ (ns : List Name). IsRepeated ns name) (sym names) repeated)
      by names bodies (inr inside) = inr (record {
        body = inside.body;
        holds = bodies ∙ inside.holds;
        clashes = subst (λ (ns : List Name). Contains (clashes_in ns inside.body.block) name) (sym names) inside.clashes;
      })

  -- ---- packages

  packages : (class inside : Id) → ¬ (PackageIsClass B class inside)
  packages class inside fault =
      let one : is_living_class A class ≡ true = classes-same A B alike class ∙ fault.class_lives in
      let two : is_living_class A inside ≡ true = classes-same A B alike inside ∙ fault.inside_lives in
      let packages = package-same A B alike inside (class-lives A B alike inside two) in
      clean.packages class inside (record {
        class_lives = one;
        inside_lives = two;
        is = by (full one) packages fault.is;
      })
    where
      full : is_living_class A class ≡ true → full_of A (program_class class) ≡ full_of B (program_class class)
      full is =
          let own = package-same A B alike class (class-lives A B alike class is) in
          let name = name-same A B alike class (class-lives A B alike class is) in
          λ i. joined (own i) (name i ∷ [])

      by : full_of A (program_class class) ≡ full_of B (program_class class) → package_at A inside ≡ package_at B inside
          → (package_at B inside ≡ full_of B (program_class class)) ⊎ BeginsWith (package_at B inside) (full_of B (program_class class))
          → (package_at A inside ≡ full_of A (program_class class)) ⊎ BeginsWith (package_at A inside) (full_of A (program_class class))
      by fulls packs (inl same) = inl (packs ∙ same ∙ sym fulls)
      by fulls packs (inr begins) = inr (subst (λ (text : Name). BeginsWith text (full_of A (program_class class))) (sym packs)
          (subst (BeginsWith (package_at B inside)) (sym fulls) begins))

  pub also-clean : Clean B
  also-clean = record {
    addresses = addresses A B alike clean;
    overrides = overrides A B alike clean;
    together = together A B alike clean;
    names = outside-names;
    present = missing;
    read = misread;
    locals = locals;
    packages = packages;
  }

  pub also-printed : printed_files A ≡ printed_files B
  also-printed = ap (map printed_text) (units-same (tidy A) (tidy B) (tidied-twins A B alike clean))
