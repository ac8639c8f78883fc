-- Two programs that keep the rules, know the same entities and are the same hold the same of all that lives.
use Rattle.std.proofs.Common.{Bool, Contains, List, None, Option, Some, [], ap, false, inl, inr, refl, subst, sym, true, true≢false, ◌++◌, ◌∙◌, ◌∷◌, ◌≡◌, ◌⊎◌}
use Rattle.std.specs.FinMap.{get, entries}
use Rattle.std.specs.List.{find, flat_map, list_all, list_any}
use Rattle.std.specs.Option.{option_and_then}
use Rattle.std.specs.Prelude.{is_some, ◌&&◌}
use Rattle.mol_base.specs.declared.ident.Id.{Id}
use Rattle.mol_faults_laws.specs.sameness.Laws.{KnowAlike}
use Rattle.mol_resolve_rules.specs.StaticTypes.{present_param}
use Rattle.mol_table_rules.specs.Life.{is_decl_of, is_living_decl, lives, lives_as, lives_method, lists, entity_in}
use Rattle.mol_table_rules.specs.Mentions.{Mention, a_listed_param, param_mentions, type_mentions}
use Rattle.mol_table_rules.specs.Program.{Program, same_id, value_at, living_at, is_yes, name_at, name_in, owner_at, owner_in, params_at, params_in, package_at, package_in, method_in}
use Rattle.mol_table_rules.specs.Renumber.{is_class, is_living_class}
use Rattle.mol_table_rules.specs.Rules.{IsProgram, fills}
use Rattle.mol_table_rules.specs.Sameness.{Same}
use Rattle.mol_values_types.specs.Slots.{has_slot}
use Rattle.mol_values_types.specs.declared.cell.Slot.{Slot}
use Rattle.mol_values_types.specs.declared.cell.Slot.TheVariants as slots
use Rattle.mol_values_types.specs.declared.known.Known.{Known}
use Rattle.mol_values_types.specs.declared.known.Known.TheVariants as knowns
use Rattle.mol_values_types.specs.declared.param.Param.{Param}
use Rattle.mol_values_types.specs.declared.value.Value.{Value}
use Rattle.mol_values_types.specs.declared.value.Value.TheVariants as values
use Rattle.jav_names.proofs.Lists.{stands_where, stands_nowhere}
use Rattle.mol_table_rules.proofs.Living.{id_tied, same_id-own}
use Rattle.mol_table_rules.proofs.TidyRules.{and-both}
use Rattle.mol_faults_laws.proofs.sameness_lemmas.Entities.{also-known, any-alike, entry-stands}
use Rattle.mol_faults_laws.proofs.sameness_lemmas.Lists.{any-found, any-stands}
use Rattle.mol_faults_laws.proofs.sameness_lemmas.Roles.{by-entity, known-method, listed-right}

-- ---- one program

module _ (program : Program) (rules : IsProgram program) where
  no-slot : (o : Option Known) (slot : Slot) → entity_in o ≡ None → has_slot o slot ≡ false
  no-slot None slot is = refl
  no-slot (Some knowns.Class) slot is = absurd cc
  no-slot (Some (knowns.Method kind)) slot is = absurd cc
  no-slot (Some (knowns.Decl method)) slot is = absurd cc
  no-slot (Some knowns.Field) slot is = absurd cc
  no-slot (Some (knowns.Param method)) slot is = refl

  none-there : (o : Option Value) → is_some o ≡ false → o ≡ None
  none-there None is = refl
  none-there (Some value) is = absurd (true≢false is)

  pub no-value : (id : Id) (slot : Slot) → has_slot (get program.known id) slot ≡ false → value_at program id slot ≡ None
  no-value id slot is = none-there (value_at program id slot) (rules.whole id slot ∙ is)

  pub no-cell : (id : Id) (slot : Slot) → entity_in (get program.known id) ≡ None → value_at program id slot ≡ None
  no-cell id slot is = no-value id slot (no-slot (get program.known id) slot is)

  -- what is said to live does
  pub living-lives : (id : Id) → living_at program id ≡ true → lives program id ≡ true
  living-lives id living = by (get program.known id) refl where
    none : has_slot (get program.known id) slots.Live ≡ false → lives program id ≡ true
    none is = absurd (true≢false (sym living ∙ ap is_yes (no-value id slots.Live is)))

    by : (o : Option Known) → get program.known id ≡ o → lives program id ≡ true
    by None is = none (ap (λ o. has_slot o slots.Live) is)
    by (Some knowns.Class) is = ap (lives_as program id) is ∙ living
    by (Some (knowns.Method kind)) is = none (ap (λ o. has_slot o slots.Live) is)
    by (Some (knowns.Decl method)) is = ap (lives_as program id) is ∙ living
    by (Some knowns.Field) is = ap (lives_as program id) is ∙ living
    by (Some (knowns.Param method)) is = none (ap (λ o. has_slot o slots.Live) is)

  -- a parameter that is in the list of a method is known as one of it
  pub listed-known : (method id : Id) → lists program method id ≡ true → get program.known id ≡ Some (knowns.Param method)
  listed-known method id is = by (value_at program method slots.Params) refl
      (any-found (λ (param : Param). same_id id param.id) (params_at program method) is) where
        front : (p : Mention → Bool) (xs ys : List Mention) → list_all p (xs ++ ys) ≡ true → (list_all p xs ≡ true) × (list_all p ys ≡ true)
        front p [] ys is = (refl, is)
        front p (x ∷ xs) ys is =
            let parts = and-both (p x) (list_all p (xs ++ ys)) is in
            let more = front p xs ys parts.1 in
            ((λ i. parts.0 i && more.0 i), more.1)

        at : (p : Mention → Bool) (params : List Param) (param : Param) → Contains params param
            → list_all p (flat_map param_mentions params) ≡ true
            → p (record { role = a_listed_param; id = param.id }) ≡ true
        at p [] param stands all = absurd (stands_nowhere param stands)
        at p (x ∷ params) param stands all = choose (stands_where x param params stands)
            (front p (param_mentions x) (flat_map param_mentions params) all) (at p params param) where
              choose : (x ≡ param) ⊎ Contains params param
                  → (list_all p (param_mentions x) ≡ true) × (list_all p (flat_map param_mentions params) ≡ true)
                  → (Contains params param → list_all p (flat_map param_mentions params) ≡ true
                  → p (record { role = a_listed_param; id = param.id }) ≡ true)
                  → p (record { role = a_listed_param; id = param.id }) ≡ true
              choose (inl same) parts more = subst (λ (y : Param). p (record { role = a_listed_param; id = y.id }) ≡ true) same
                  (and-both (p (record { role = a_listed_param; id = x.id })) (list_all p (type_mentions x.ty)) parts.0).0
              choose (inr later) parts more = more later parts.1

        found : (params : List Param) → value_at program method slots.Params ≡ Some (values.Params params)
            → (param : Param) × Contains params param × (same_id id param.id ≡ true) → get program.known id ≡ Some (knowns.Param method)
        found params holds there =
            let all = rules.references method slots.Params (values.Params params) holds in
            ap (get program.known) (id_tied id there.0.id there.2)
            ∙ listed-right method (get program.known there.0.id)
            (at (λ (m : Mention). fills method m.role (get program.known m.id)) params there.0 there.1 all)

        none : (o : Option Value) → value_at program method slots.Params ≡ o → params_in o ≡ []
            → (param : Param) × Contains (params_at program method) param × (same_id id param.id ≡ true)
            → get program.known id ≡ Some (knowns.Param method)
        none o holds empty there = absurd (stands_nowhere there.0
            (subst (λ (list : List Param). Contains list there.0) (ap params_in holds ∙ empty) there.1))

        by : (o : Option Value) → value_at program method slots.Params ≡ o
            → (param : Param) × Contains (params_at program method) param × (same_id id param.id ≡ true)
            → get program.known id ≡ Some (knowns.Param method)
        by (Some (values.Params params)) holds there = found params holds
            (there.0, subst (λ (list : List Param). Contains list there.0) (ap params_in holds) there.1, there.2)
        by None holds there = none None holds refl there
        by (Some (values.Live x)) holds there = none (Some (values.Live x)) holds refl there
        by (Some (values.Package x)) holds there = none (Some (values.Package x)) holds refl there
        by (Some (values.Owner x)) holds there = none (Some (values.Owner x)) holds refl there
        by (Some (values.Method x)) holds there = none (Some (values.Method x)) holds refl there
        by (Some (values.Name x)) holds there = none (Some (values.Name x)) holds refl there
        by (Some (values.Super x)) holds there = none (Some (values.Super x)) holds refl there
        by (Some (values.Result x)) holds there = none (Some (values.Result x)) holds refl there
        by (Some (values.Kind x)) holds there = none (Some (values.Kind x)) holds refl there
        by (Some (values.Fixed x)) holds there = none (Some (values.Fixed x)) holds refl there
        by (Some (values.Words x)) holds there = none (Some (values.Words x)) holds refl there
        by (Some (values.Notes x)) holds there = none (Some (values.Notes x)) holds refl there
        by (Some (values.Body x)) holds there = none (Some (values.Body x)) holds refl there
        by (Some (values.Value ty init)) holds there = none (Some (values.Value ty init)) holds refl there

-- ---- two programs

-- they keep the rules, are the same, and know the same entities
pub record Alike (first second : Program) : Type 0 where
  pub rules : IsProgram first
  pub others : IsProgram second
  pub knows : KnowAlike first second
  pub same : Same first second

module _ (P Q : Program) (alike : Alike P Q) where
  pub known-same : {X : Type 0} (f : Option Known → X) → ((method : Id) → f (Some (knowns.Param method)) ≡ f None)
      → (id : Id) → f (get P.known id) ≡ f (get Q.known id)
  known-same f none id = by-entity f none (get P.known id) ∙ ap f (alike.knows id) ∙ sym (by-entity f none (get Q.known id))

  -- all cells of what lives
  pub cells-same : (id : Id) (slot : Slot) → lives P id ≡ true → value_at P id slot ≡ value_at Q id slot
  cells-same id slot living = by (entity_in (get P.known id)) refl where
    by : (o : Option Known) → entity_in (get P.known id) ≡ o → value_at P id slot ≡ value_at Q id slot
    by None is = no-cell P alike.rules id slot is ∙ sym (no-cell Q alike.others id slot (sym (alike.knows id) ∙ is))
    by (Some known) is = alike.same.agree id slot (λ i. is_some (is i) && living i)

  -- what lives as an entity, lives in both
  pub entity-lives : (id : Id) (known : Known) → get P.known id ≡ Some known → entity_in (Some known) ≡ Some known → lives P id ≡ lives Q id
  entity-lives id known is entity =
      sym (ap (λ b. b && lives P id) (ap is_some (ap entity_in is ∙ entity)))
      ∙ alike.same.living id
      ∙ ap (λ b. b && lives Q id) (ap is_some (ap entity_in (also-known P Q alike.knows id known is entity) ∙ entity))

  pub living-same : (id : Id) → living_at P id ≡ living_at Q id
  living-same id = by (get P.known id) refl where
    none : has_slot (get P.known id) slots.Live ≡ false → has_slot (get Q.known id) slots.Live ≡ false → living_at P id ≡ living_at Q id
    none here there = ap is_yes (no-value P alike.rules id slots.Live here) ∙ sym (ap is_yes (no-value Q alike.others id slots.Live there))

    own : (program : Program) (known : Known) → get program.known id ≡ Some known → lives program id ≡ lives_as program id (Some known)
    own program known is = ap (lives_as program id) is

    both : (known : Known) → get P.known id ≡ Some known → entity_in (Some known) ≡ Some known
        → lives_as P id (Some known) ≡ lives_as Q id (Some known)
    both known is entity =
        sym (own P known is) ∙ entity-lives id known is entity ∙ own Q known (also-known P Q alike.knows id known is entity)

    by : (o : Option Known) → get P.known id ≡ o → living_at P id ≡ living_at Q id
    by None is = let here : has_slot (get P.known id) slots.Live ≡ false = ap (λ o. has_slot o slots.Live) is in
        none here (sym (known-same (λ o. has_slot o slots.Live) (λ method. refl) id) ∙ here)
    by (Some knowns.Class) is = both knowns.Class is refl
    by (Some (knowns.Method kind)) is = let here : has_slot (get P.known id) slots.Live ≡ false = ap (λ o. has_slot o slots.Live) is in
        none here (sym (known-same (λ o. has_slot o slots.Live) (λ method. refl) id) ∙ here)
    by (Some (knowns.Decl method)) is = both (knowns.Decl method) is refl
    by (Some knowns.Field) is = both knowns.Field is refl
    by (Some (knowns.Param method)) is = let here : has_slot (get P.known id) slots.Live ≡ false = ap (λ o. has_slot o slots.Live) is in
        none here (sym (known-same (λ o. has_slot o slots.Live) (λ method. refl) id) ∙ here)

  pub methods-same : (method : Id) → lives_method P method ≡ lives_method Q method
  methods-same method = any-alike P Q alike.knows (is_living_decl P method) (is_living_decl Q method) (λ id own. refl) (λ id own. refl)
      (λ id known is also entity. ap (λ b. is_decl_of method known && b) (living-same id))

  pub classes-same : (id : Id) → is_living_class P id ≡ is_living_class Q id
  classes-same id =
      let known = known-same is_class (λ method. refl) id in
      let living = living-same id in
      λ i. known i && living i

  pub class-known : (id : Id) → is_living_class P id ≡ true → get P.known id ≡ Some knowns.Class
  class-known id is = by (get P.known id) (and-both (is_class (get P.known id)) (living_at P id) is).0 where
    by : (o : Option Known) → is_class o ≡ true → o ≡ Some knowns.Class
    by None is = absurd (true≢false (sym is))
    by (Some knowns.Class) is = refl
    by (Some (knowns.Method kind)) is = absurd (true≢false (sym is))
    by (Some (knowns.Decl method)) is = absurd (true≢false (sym is))
    by (Some knowns.Field) is = absurd (true≢false (sym is))
    by (Some (knowns.Param method)) is = absurd (true≢false (sym is))

  pub class-lives : (id : Id) → is_living_class P id ≡ true → lives P id ≡ true
  class-lives id is = ap (lives_as P id) (class-known id is) ∙ (and-both (is_class (get P.known id)) (living_at P id) is).1

  -- a declaration that lives, and its method
  pub declaration-lives : (id method : Id) → get P.known id ≡ Some (knowns.Decl method) → living_at P id ≡ true → lives P id ≡ true
  declaration-lives id method is living = ap (lives_as P id) is ∙ living

  pub method-lives : (id method : Id) → get P.known id ≡ Some (knowns.Decl method) → living_at P id ≡ true → lives P method ≡ true
  method-lives id method is living =
      let kind = known-method id (get P.known method) (alike.rules.decls id method is) in
      ap (lives_as P method) kind.1
      ∙ any-stands (is_living_decl P method) (entries P.known) (id, knowns.Decl method) (entry-stands P id (knowns.Decl method) is)
      (λ i. same_id-own method i && living i)

  pub field-lives : (id : Id) → get P.known id ≡ Some knowns.Field → living_at P id ≡ true → lives P id ≡ true
  field-lives id is living = ap (lives_as P id) is ∙ living

  pub owner-same : (id : Id) → lives P id ≡ true → owner_at P id ≡ owner_at Q id
  owner-same id living = ap owner_in (cells-same id slots.Owner living)

  pub name-same : (id : Id) → lives P id ≡ true → name_at P id ≡ name_at Q id
  name-same id living = ap name_in (cells-same id slots.Name living)

  pub package-same : (id : Id) → lives P id ≡ true → package_at P id ≡ package_at Q id
  package-same id living = ap package_in (cells-same id slots.Package living)

  pub params-same : (id : Id) → lives P id ≡ true → params_at P id ≡ params_at Q id
  params-same id living = ap params_in (cells-same id slots.Params living)

  -- a parameter in the list of a method that lives
  pub listed-same : (id method : Id) → get P.known id ≡ Some (knowns.Param method) → lives P id ≡ true
      → (lives P method ≡ true) × (get Q.known id ≡ Some (knowns.Param method))
  listed-same id method is living =
      let both = and-both (lives_method P method) (lists P method id) (sym (ap (lives_as P id) is) ∙ living) in
      let kind = known-method id (get P.known method) (alike.rules.params id method is) in
      let alive : lives P method ≡ true = ap (lives_as P method) kind.1 ∙ both.0 in (
        alive,
        listed-known Q alike.others method id
            (ap (list_any (λ (param : Param). same_id id param.id)) (sym (params-same method alive)) ∙ both.1),
      )

  abbrev among : Id → Option Id → Program → Option Param
  among id o program = option_and_then (λ method. find (λ (param : Param). same_id id param.id) (params_at program method)) o

  pub present-same : (id : Id) → lives P id ≡ true → present_param P id ≡ present_param Q id
  present-same id living = by (get P.known id) refl where
    none : (known : Known) → get P.known id ≡ Some known → entity_in (Some known) ≡ Some known → method_in (Some known) ≡ None
        → present_param P id ≡ present_param Q id
    none known is entity alone =
        ap (λ o. among id (method_in o) P) is ∙ ap (λ o. among id o P) alone ∙ sym (ap (λ o. among id o Q) alone)
        ∙ sym (ap (λ o. among id (method_in o) Q) (also-known P Q alike.knows id known is entity))

    by : (o : Option Known) → get P.known id ≡ o → present_param P id ≡ present_param Q id
    by None is = absurd (true≢false (sym living ∙ ap (lives_as P id) is))
    by (Some knowns.Class) is = none knowns.Class is refl refl
    by (Some (knowns.Method kind)) is = none (knowns.Method kind) is refl refl
    by (Some (knowns.Decl method)) is = none (knowns.Decl method) is refl refl
    by (Some knowns.Field) is = none knowns.Field is refl refl
    by (Some (knowns.Param method)) is =
        let both = listed-same id method is living in
        ap (λ o. among id (method_in o) P) is
        ∙ ap (find (λ (param : Param). same_id id param.id)) (params-same method both.0)
        ∙ sym (ap (λ o. among id (method_in o) Q) both.1)
