-- Where the first of two such programs is clean, the tidied programs are alike too, and what the living cells of the first mention lives.
use Rattle.std.proofs.Common.{Bool, Contains, None, Option, Some, ap, false, option_map, refl, subst, sym, true, true≢false, ◌∙◌, ◌≡◌}
use Rattle.std.specs.FinMap.{entries, get}
use Rattle.std.specs.List.{list_any}
use Rattle.std.specs.Option.{option_map_or}
use Rattle.std.specs.Prelude.{is_some, ◌&&◌}
use Rattle.mol_base.specs.declared.ident.Id.{Id}
use Rattle.mol_spell_rules.specs.Clean.{Clean}
use Rattle.mol_table_rules.specs.Faults.{is_there, is_present, method_of}
use Rattle.mol_table_rules.specs.Life.{is_decl_of, is_living_decl, lives, lives_as, lives_method, lists, entity_in, is_living_entity}
use Rattle.mol_table_rules.specs.Mentions.{Role, Mention, a_class, a_field, a_method, a_called_method, a_static_method, a_constructor, a_param, a_listed_param, mentions}
use Rattle.mol_table_rules.specs.Program.{Program, same_id, cell, value_at, living_at, owner_at, params_at, params_in}
use Rattle.mol_table_rules.specs.Rules.{IsProgram}
use Rattle.mol_table_rules.specs.Tidy.{tidy_value, tidied, tidy, references, is_constructor, is_living_decl_in, is_plain, is_bare, bare_constructor}
use Rattle.mol_values_types.specs.TokenForms.{is_empty}
use Rattle.mol_values_types.specs.declared.cell.Slot.{Slot}
use Rattle.mol_values_types.specs.declared.cell.Slot.TheVariants as slots
use Rattle.mol_values_types.specs.declared.known.Known.{Known}
use Rattle.mol_values_types.specs.declared.known.Known.TheVariants as knowns
use Rattle.mol_values_types.specs.declared.param.Param.{Param}
use Rattle.mol_values_types.specs.declared.value.Value.{Value}
use Rattle.mol_values_types.specs.declared.value.Value.TheVariants as values
use Rattle.mol_table_laws.proofs.Values.{tidied_alike}
use Rattle.mol_table_rules.proofs.Living.{id_tied, same_id-own}
use Rattle.mol_table_rules.proofs.TidyRules.{tidied-at, living-kept, tidy-IsProgram, and-both}
use Rattle.mol_faults_laws.proofs.sameness_lemmas.Alike.{Alike, declaration-lives, known-same, listed-known, living-same, method-lives, owner-same, params-same}
use Rattle.mol_faults_laws.proofs.sameness_lemmas.Entities.{any-alike, entry-known, entry-stands, found-alike}
use Rattle.mol_faults_laws.proofs.sameness_lemmas.Lists.{any-found, any-stands, list_any-same}
use Rattle.mol_faults_laws.proofs.sameness_lemmas.Roles.{known-method}
use Rattle.mol_faults_laws.proofs.sameness_lemmas.Twins.{Twins}

-- ---- one program

module _ (program : Program) where
  params-kept : (o : Option Value) → params_in (option_map (tidied program) o) ≡ params_in o
  params-kept None = refl
  params-kept (Some (values.Live x)) = refl
  params-kept (Some (values.Package x)) = refl
  params-kept (Some (values.Owner x)) = refl
  params-kept (Some (values.Method x)) = refl
  params-kept (Some (values.Name x)) = refl
  params-kept (Some (values.Super x)) = refl
  params-kept (Some (values.Result x)) = refl
  params-kept (Some (values.Params x)) = refl
  params-kept (Some (values.Kind x)) = refl
  params-kept (Some (values.Fixed x)) = refl
  params-kept (Some (values.Words x)) = refl
  params-kept (Some (values.Notes x)) = refl
  params-kept (Some (values.Body x)) = refl
  params-kept (Some (values.Value ty init)) = refl

  params-tidied : (method : Id) → params_at (tidy program) method ≡ params_at program method
  params-tidied method = ap params_in (tidied-at program (cell method slots.Params)) ∙ params-kept (value_at program method slots.Params)

  methods-tidied : (method : Id) → lives_method (tidy program) method ≡ lives_method program method
  methods-tidied method = list_any-same (is_living_decl (tidy program) method) (is_living_decl program method) (entries program.known)
      (λ entry stands. ap (λ b. is_decl_of method entry.1 && b) (living-kept program entry.0))

  pub lives-tidied : (id : Id) → lives (tidy program) id ≡ lives program id
  lives-tidied id = by (get program.known id) where
    by : (o : Option Known) → lives_as (tidy program) id o ≡ lives_as program id o
    by None = refl
    by (Some knowns.Class) = living-kept program id
    by (Some (knowns.Method kind)) = methods-tidied id
    by (Some (knowns.Decl method)) = living-kept program id
    by (Some knowns.Field) = living-kept program id
    by (Some (knowns.Param method)) =
        let alive = methods-tidied method in
        let listed = ap (list_any (λ (param : Param). same_id id param.id)) (params-tidied method) in
        λ i. alive i && listed i

  -- what is there lives
  module _ (rules : IsProgram program) where
    listed-lives : (method id : Id) → lives_method program method ≡ true → lists program method id ≡ true → lives program id ≡ true
    listed-lives method id alive listed =
        ap (lives_as program id) (listed-known program rules method id listed) ∙ (λ i. alive i && listed i)

    present-lives : (owner id : Id) → lives program owner ≡ true → is_present program owner id ≡ true → lives program id ≡ true
    present-lives owner id living is = by (get program.known owner) refl is where
      by : (o : Option Known) → get program.known owner ≡ o → option_map_or (λ method. lists program method id) (method_of owner o) false
          ≡ true
          → lives program id ≡ true
      by None known is = absurd (true≢false (sym is))
      by (Some knowns.Class) known is = absurd (true≢false (sym is))
      by (Some (knowns.Method kind)) known is = listed-lives owner id (sym (ap (lives_as program owner) known) ∙ living) is
      by (Some (knowns.Decl method)) known is =
          let kind = known-method owner (get program.known method) (rules.decls owner method known) in
          let alive = sym (ap (lives_as program owner) known) ∙ living in
          listed-lives method id (any-stands (is_living_decl program method) (entries program.known) (owner, knowns.Decl method)
          (entry-stands program owner (knowns.Decl method) known) (λ i. same_id-own method i && alive i)) is
      by (Some knowns.Field) known is = absurd (true≢false (sym is))
      by (Some (knowns.Param method)) known is = absurd (true≢false (sym is))

    there-lives : (role : Role) (owner id : Id) → lives program owner ≡ true → is_there program owner role id ≡ true
        → lives program id ≡ true
    there-lives a_class owner id living is = is
    there-lives a_field owner id living is = is
    there-lives a_method owner id living is = is
    there-lives a_called_method owner id living is = is
    there-lives a_static_method owner id living is = is
    there-lives a_constructor owner id living is = is
    there-lives a_param owner id living is = present-lives owner id living is
    there-lives a_listed_param owner id living is = present-lives owner id living is

    pub entity-and : (id : Id) → is_living_entity program id ≡ true → lives program id ≡ true
    entity-and id is = (and-both (is_some (entity_in (get program.known id))) (lives program id) is).1

    -- in a clean program what a living cell refers to lives
    pub refers-living : Clean program → (id : Id) (slot : Slot) (value : Value) → is_living_entity program id ≡ true
        → value_at program id slot ≡ Some value
        → (mention : Mention) → Contains (references program value) mention → lives program mention.id ≡ true
    refers-living clean id slot value living holds mention stands = by (is_there program id mention.role mention.id) refl where
      by : (b : Bool) → is_there program id mention.role mention.id ≡ b → lives program mention.id ≡ true
      by true is = there-lives mention.role id mention.id (entity-and id living) is
      by false is = absurd (clean.present (cell id slot) mention.id (record {
        owner_lives = living;
        value = value;
        holds = holds;
        role = mention.role;
        refers = stands;
        gone = is;
      }))

-- ---- two programs

module _ (A B : Program) (alike : Alike A B) where
  -- the same constructors without parameters are to be had
  bare-same : bare_constructor A ≡ bare_constructor B
  bare-same = λ i class. found-alike A B alike.knows (is_bare A class) (is_bare B class) (no-param A class) (no-param B class)
      (passes class) i where
        no-param : (program : Program) (class id method : Id) → get program.known id ≡ Some (knowns.Param method)
            → is_bare program class id ≡ false
        no-param program class id method is = ap (λ o. is_constructor o && is_empty (params_at program id)
            && list_any (is_living_decl_in program class id) (entries program.known)) is

        here : Id → Id → Bool
        here class id = list_any (is_living_decl_in A class id) (entries A.known)

        declared : (class id : Id) → list_any (is_living_decl_in A class id) (entries A.known)
            ≡ list_any (is_living_decl_in B class id) (entries B.known)
        declared class id = any-alike A B alike.knows (is_living_decl_in A class id) (is_living_decl_in B class id) (λ own method. refl)
            (λ own method. refl)
            (λ own known is also entity. by own known is (living_at A own) refl) where
              by : (own : Id) (known : Known) → get A.known own ≡ Some known → (b : Bool) → living_at A own ≡ b
                  → is_living_decl_in A class id (own, known) ≡ is_living_decl_in B class id (own, known)
              by own (knowns.Decl method) is true living =
                  let alive = ap (λ b. same_id id method && b) (living-same A B alike own) in
                  let owners = ap (λ o. option_map_or (same_id class) o false)
                  (owner-same A B alike own (declaration-lives A B alike own method is living)) in
                  λ i. alive i && owners i
              by own (knowns.Decl method) is false dead =
                  ap (λ b. same_id id method && b && option_map_or (same_id class) (owner_at A own) false) dead
                  ∙ nothing (same_id id method) (option_map_or (same_id class) (owner_at A own) false)
                  (option_map_or (same_id class) (owner_at B own) false)
                  ∙ sym (ap (λ b. same_id id method && b && option_map_or (same_id class) (owner_at B own) false)
                  (sym (living-same A B alike own) ∙ dead)) where
                    nothing : (a b c : Bool) → (a && false && b) ≡ (a && false && c)
                    nothing true b c = refl
                    nothing false b c = refl
              by own knowns.Class is b at = refl
              by own (knowns.Method kind) is b at = refl
              by own knowns.Field is b at = refl
              by own (knowns.Param method) is b at = refl

        -- it lives, where it has such a declaration
        alive : (class id : Id) → list_any (is_living_decl_in A class id) (entries A.known) ≡ true → lives A id ≡ true
        alive class id is =
            let found = any-found (is_living_decl_in A class id) (entries A.known) is in
            by found.0 (entry-known A found.0 found.1) found.2 where
              by : (entry : Id × Known) → get A.known entry.0 ≡ Some entry.1 → is_living_decl_in A class id entry ≡ true → lives A id ≡ true
              by (own, knowns.Decl method) known passes =
                  let parts = and-both (same_id id method && living_at A own) (option_map_or (same_id class) (owner_at A own) false) passes in
                  let both = and-both (same_id id method) (living_at A own) parts.0 in
                  ap (lives A) (id_tied id method both.0) ∙ method-lives A B alike own method known both.1
              by (own, knowns.Class) known passes = absurd (true≢false (sym passes))
              by (own, knowns.Method kind) known passes = absurd (true≢false (sym passes))
              by (own, knowns.Field) known passes = absurd (true≢false (sym passes))
              by (own, knowns.Param method) known passes = absurd (true≢false (sym passes))

        passes : (class id : Id) → is_bare A class id ≡ is_bare B class id
        passes class id = by (list_any (is_living_decl_in A class id) (entries A.known)) refl where
          kinds : is_constructor (get A.known id) ≡ is_constructor (get B.known id)
          kinds = known-same A B alike is_constructor (λ method. refl) id

          dead : (a b : Bool) → (a && false) ≡ (b && false)
          dead true true = refl
          dead true false = refl
          dead false true = refl
          dead false false = refl

          by : (b : Bool) → list_any (is_living_decl_in A class id) (entries A.known) ≡ b → is_bare A class id ≡ is_bare B class id
          by true is =
              let params = params-same A B alike id (alive class id is) in
              let other = declared class id in
              λ i. kinds i && is_empty (params i) && other i
          by false is =
              ap (λ b. is_plain A id && b) is ∙ dead (is_plain A id) (is_plain B id)
              ∙ sym (ap (λ b. is_plain B id && b) (sym (declared class id) ∙ is))

  module _ (clean : Clean A) where
    pub tidied-same : (id : Id) (slot : Slot) (value : Value) → is_living_entity A id ≡ true → value_at A id slot ≡ Some value
        → tidied A value ≡ tidied B value
    tidied-same id slot value living holds =
        tidied_alike.values (params_at A) (params_at B) (bare_constructor A) value
        (λ mention stands. params-same A B alike mention.id
        (refers-living A alike.rules clean id slot value living holds mention stands))
        ∙ ap (λ bare. tidy_value (params_at B) bare value) bare-same

    entity-tidied : (program : Program) (id : Id) → is_living_entity (tidy program) id ≡ is_living_entity program id
    entity-tidied program id = ap (λ b. is_some (entity_in (get program.known id)) && b) (lives-tidied program id)

    pub tidied-twins : Twins (tidy A) (tidy B)
    tidied-twins = record {
      alike = record {
        rules = tidy-IsProgram A alike.rules;
        others = tidy-IsProgram B alike.others;
        knows = alike.knows;
        same = record {
          living = λ id. entity-tidied A id ∙ alike.same.living id ∙ sym (entity-tidied B id);
          agree = λ id slot is. cells id slot (sym (entity-tidied A id) ∙ is);
        };
      };
      there = λ id slot value living holds mention stands.
          lives-tidied A mention.id ∙ refers id slot value (sym (entity-tidied A id) ∙ living)
          (sym (tidied-at A (cell id slot)) ∙ holds) mention stands;
    } where
      cells : (id : Id) (slot : Slot) → is_living_entity A id ≡ true → value_at (tidy A) id slot ≡ value_at (tidy B) id slot
      cells id slot living =
          tidied-at A (cell id slot) ∙ by (value_at A id slot) refl
          ∙ ap (option_map (tidied B)) (alike.same.agree id slot living) ∙ sym (tidied-at B (cell id slot)) where
            by : (o : Option Value) → value_at A id slot ≡ o → option_map (tidied A) (value_at A id slot)
                ≡ option_map (tidied B) (value_at A id slot)
            by None holds = ap (option_map (tidied A)) holds ∙ sym (ap (option_map (tidied B)) holds)
            by (Some value) holds = ap (option_map (tidied A)) holds ∙ ap (λ (v : Value). Some v) (tidied-same id slot value living holds)
                ∙ sym (ap (option_map (tidied B)) holds)

      refers : (id : Id) (slot : Slot) (value : Value) → is_living_entity A id ≡ true
          → option_map (tidied A) (value_at A id slot) ≡ Some value
          → (mention : Mention) → Contains (mentions value) mention → lives A mention.id ≡ true
      refers id slot value living holds mention stands = by (value_at A id slot) refl holds where
        by : (o : Option Value) → value_at A id slot ≡ o → option_map (tidied A) o ≡ Some value → lives A mention.id ≡ true
        by None at holds = absurd cc
        by (Some raw) at holds =
            let same : tidied A raw ≡ value = cc in
            refers-living A alike.rules clean id slot raw living at mention
            (subst (λ (v : Value). Contains (mentions v) mention) (sym same) stands)
