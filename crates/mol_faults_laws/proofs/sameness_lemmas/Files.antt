-- Two such programs have the same files.
use Rattle.std.proofs.Common.{Bool, Contains, List, None, Option, Some, [], ap, cond, false, inl, inr, option_map, refl, subst, sym, true, ◌∙◌, ◌∷◌, ◌≡◌, ◌⊎◌}
use Rattle.std.specs.FinMap.{get, keys}
use Rattle.std.specs.List.{AllByRecursion, filter, filter_map}
use Rattle.std.specs.Option.{option_map_or}
use Rattle.std.specs.Prelude.{map, ◌&&◌}
use Rattle.jav_tree.specs.Blocks.{block_of}
use Rattle.jav_tree.specs.declared.expr.Expr.{Expr}
use Rattle.jav_tree.specs.declared.stmt.Block.{Block}
use Rattle.jav_tree.specs.declared.types.TypeName.{TypeName}
use Rattle.jav_tree.specs.declared.unit.Member.TheVariants as member
use Rattle.mol_base.specs.Paths.{path_of}
use Rattle.mol_base.specs.declared.ident.Id.{Id}
use Rattle.mol_resolve_rules.specs.ProgramViews.{words_in}
use Rattle.mol_spell_rules.specs.Sets.{as_set}
use Rattle.mol_spell_rules.specs.SpelledUnits.{notes_in, notes_at, words_at, writing, type_tree, first_value_tree, parent_tree, result_tree, param_of, params_of, body_in, body_tree, field_member, declaration_member, spelled_member, SpelledUnit, spelled_unit, UnitKey, unit_key_cmp, key_at, living_classes, units_of}
use Rattle.mol_spell_rules.specs.UnitCells.{members_of}
use Rattle.mol_table_rules.specs.Life.{lives}
use Rattle.mol_table_rules.specs.Mentions.{type_mentions, maybe_mentions}
use Rattle.mol_table_rules.specs.Program.{Program, value_at, params_at, cell, living_at}
use Rattle.mol_table_rules.specs.Renumber.{is_living_class, is_class}
use Rattle.mol_values_types.specs.declared.cell.Slot.TheVariants as slots
use Rattle.mol_values_types.specs.declared.iexpr.IExpr.{IExpr}
use Rattle.mol_values_types.specs.declared.itype.IType.{IType}
use Rattle.mol_values_types.specs.declared.kind.MethodKind.TheVariants.{Instance, Static, Constructor}
use Rattle.mol_values_types.specs.declared.known.Known.{Known}
use Rattle.mol_values_types.specs.declared.known.Known.TheVariants as knowns
use Rattle.mol_values_types.specs.declared.param.Param.{Param}
use Rattle.mol_values_types.specs.declared.value.Value.{Value}
use Rattle.mol_values_types.specs.declared.value.Value.TheVariants as values
use Rattle.jav_names.proofs.Lists.{stands-mapped, stands_where, stands_nowhere}
use Rattle.mol_spell_rules.proofs.FilesOrdered.{files_in_order}
use Rattle.mol_faults_laws.proofs.sameness_lemmas.Alike.{cells-same, class-lives, classes-same, declaration-lives, field-lives, known-same, method-lives, name-same, package-same, params-same}
use Rattle.mol_faults_laws.proofs.sameness_lemmas.Cells.{IsMember, a_field_member, a_declaration_member, member-is, members-same}
use Rattle.mol_faults_laws.proofs.sameness_lemmas.Entities.{kept-alike}
use Rattle.mol_faults_laws.proofs.sameness_lemmas.Goodness.{all-back, all-front, params-good}
use Rattle.mol_faults_laws.proofs.sameness_lemmas.Lists.{filter_map-same, map-same}
use Rattle.mol_faults_laws.proofs.sameness_lemmas.SimpleNames.{imports-same, unit-type, unit-expr, unit-body}
use Rattle.mol_faults_laws.proofs.sameness_lemmas.Twins.{AreGood, IsGood, IsGoodClass, Twins, good-value}

module _ (P Q : Program) (twins : Twins P Q) (class : Id) (good : IsGoodClass P class) where
  living : lives P class ≡ true
  living = class-lives P Q twins.alike class good

  notes-same : (id : Id) → lives P id ≡ true → notes_at P id ≡ notes_at Q id
  notes-same id is = ap notes_in (cells-same P Q twins.alike id slots.Notes is)

  words-same : (id : Id) → lives P id ≡ true → words_at P id ≡ words_at Q id
  words-same id is = ap words_in (cells-same P Q twins.alike id slots.Words is)

  -- ---- parts of members

  maybe-type : (o : Option IType) → ((type : IType) → o ≡ Some type → AreGood P (type_mentions type))
      → option_map (type_tree P class (writing P class class slots.Super)) o
      ≡ option_map (type_tree Q class (writing Q class class slots.Super)) o
  maybe-type None all = refl
  maybe-type (Some type) all = ap (λ (t : TypeName). Some t) (unit-type P Q twins class good (cell class slots.Super) living type
      (all type refl))

  parent-at : (o : Option Value) → value_at P class slots.Super ≡ o → parent_tree P class o ≡ parent_tree Q class o
  parent-at None holds = refl
  parent-at (Some (values.Super None)) holds = refl
  parent-at (Some (values.Super (Some parent))) holds = ap (λ (t : TypeName). Some t)
      (unit-type P Q twins class good (cell class slots.Super) living parent
      (good-value P Q twins class slots.Super (values.Super (Some parent)) living holds))
  parent-at (Some (values.Live x)) holds = refl
  parent-at (Some (values.Package x)) holds = refl
  parent-at (Some (values.Owner x)) holds = refl
  parent-at (Some (values.Method x)) holds = refl
  parent-at (Some (values.Name x)) holds = refl
  parent-at (Some (values.Result x)) holds = refl
  parent-at (Some (values.Params x)) holds = refl
  parent-at (Some (values.Kind x)) holds = refl
  parent-at (Some (values.Fixed x)) holds = refl
  parent-at (Some (values.Words x)) holds = refl
  parent-at (Some (values.Notes x)) holds = refl
  parent-at (Some (values.Body x)) holds = refl
  parent-at (Some (values.Value ty init)) holds = refl

  parent-same : parent_tree P class (value_at P class slots.Super) ≡ parent_tree Q class (value_at Q class slots.Super)
  parent-same = parent-at (value_at P class slots.Super) refl
      ∙ ap (parent_tree Q class) (cells-same P Q twins.alike class slots.Super living)

  module _ (method : Id) (alive : lives P method ≡ true) where
    result-at : (o : Option Value) → value_at P method slots.Result ≡ o → result_tree P class method o ≡ result_tree Q class method o
    result-at None holds = refl
    result-at (Some (values.Result type)) holds =
        unit-type P Q twins class good (cell method slots.Result) alive type
        (good-value P Q twins method slots.Result (values.Result type) alive holds)
    result-at (Some (values.Live x)) holds = refl
    result-at (Some (values.Package x)) holds = refl
    result-at (Some (values.Owner x)) holds = refl
    result-at (Some (values.Method x)) holds = refl
    result-at (Some (values.Name x)) holds = refl
    result-at (Some (values.Super x)) holds = refl
    result-at (Some (values.Params x)) holds = refl
    result-at (Some (values.Kind x)) holds = refl
    result-at (Some (values.Fixed x)) holds = refl
    result-at (Some (values.Words x)) holds = refl
    result-at (Some (values.Notes x)) holds = refl
    result-at (Some (values.Body x)) holds = refl
    result-at (Some (values.Value ty init)) holds = refl

    result-same : result_tree P class method (value_at P method slots.Result) ≡ result_tree Q class method (value_at Q method slots.Result)
    result-same = result-at (value_at P method slots.Result) refl
        ∙ ap (result_tree Q class method) (cells-same P Q twins.alike method slots.Result alive)

    params-at : (params : List Param) → AllByRecursion (λ (param : Param). AreGood P (type_mentions param.ty)) params
        → map (param_of P class method) params ≡ map (param_of Q class method) params
    params-at [] all = refl
    params-at (param ∷ params) all =
        let type = unit-type P Q twins class good (cell method slots.Params) alive param.ty all.0 in
        let more = params-at params all.1 in
        λ i. record { ty = type i; name = param.name } ∷ more i

    params_of-same : params_of P class method ≡ params_of Q class method
    params_of-same = params-at (params_at P method) (params-good P Q twins method alive)
        ∙ ap (map (param_of Q class method)) (params-same P Q twins.alike method alive)

  module _ (id : Id) (alive : lives P id ≡ true) where
    body-at-value : (o : Option Value) → value_at P id slots.Body ≡ o → body_in P class id o ≡ body_in Q class id o
    body-at-value None holds = refl
    body-at-value (Some (values.Body None)) holds = refl
    body-at-value (Some (values.Body (Some body))) holds = ap (λ (b : Block). Some b)
        (unit-body P Q twins class good (cell id slots.Body) alive body
        (good-value P Q twins id slots.Body (values.Body (Some body)) alive holds))
    body-at-value (Some (values.Live x)) holds = refl
    body-at-value (Some (values.Package x)) holds = refl
    body-at-value (Some (values.Owner x)) holds = refl
    body-at-value (Some (values.Method x)) holds = refl
    body-at-value (Some (values.Name x)) holds = refl
    body-at-value (Some (values.Super x)) holds = refl
    body-at-value (Some (values.Result x)) holds = refl
    body-at-value (Some (values.Params x)) holds = refl
    body-at-value (Some (values.Kind x)) holds = refl
    body-at-value (Some (values.Fixed x)) holds = refl
    body-at-value (Some (values.Words x)) holds = refl
    body-at-value (Some (values.Notes x)) holds = refl
    body-at-value (Some (values.Value ty init)) holds = refl

    body-same : body_tree P class id ≡ body_tree Q class id
    body-same = body-at-value (value_at P id slots.Body) refl ∙ ap (body_in Q class id) (cells-same P Q twins.alike id slots.Body alive)

    first-at : (init : Option IExpr) → AreGood P (maybe_mentions init)
        → first_value_tree P class (writing P class id slots.Value) init ≡ first_value_tree Q class (writing Q class id slots.Value) init
    first-at None all = refl
    first-at (Some e) all = ap (λ (t : Expr). Some t) (unit-expr P Q twins class good (cell id slots.Value) alive e all)

    field-at : (o : Option Value) → value_at P id slots.Value ≡ o → field_member P class id o ≡ field_member Q class id o
    field-at (Some (values.Value type init)) holds =
        let all = good-value P Q twins id slots.Value (values.Value type init) alive holds in
        let types = unit-type P Q twins class good (cell id slots.Value) alive type
        (all-front (IsGood P) (type_mentions type) (maybe_mentions init) all) in
        let inits = first-at init (all-back (IsGood P) (type_mentions type) (maybe_mentions init) all) in
        let notes = notes-same id alive in
        let words = words-same id alive in
        let names = name-same P Q twins.alike id alive in
        λ i. Some (member.Field (record {
          front = (notes i).front;
          at = 0;
          words = words i;
          ty = types i;
          name = names i;
          init = inits i;
        }))
    field-at None holds = refl
    field-at (Some (values.Live x)) holds = refl
    field-at (Some (values.Package x)) holds = refl
    field-at (Some (values.Owner x)) holds = refl
    field-at (Some (values.Method x)) holds = refl
    field-at (Some (values.Name x)) holds = refl
    field-at (Some (values.Super x)) holds = refl
    field-at (Some (values.Result x)) holds = refl
    field-at (Some (values.Params x)) holds = refl
    field-at (Some (values.Kind x)) holds = refl
    field-at (Some (values.Fixed x)) holds = refl
    field-at (Some (values.Words x)) holds = refl
    field-at (Some (values.Notes x)) holds = refl
    field-at (Some (values.Body x)) holds = refl

  -- ---- members

  declaration-same : (id method : Id) → lives P id ≡ true → lives P method ≡ true → (o : Option Known)
      → declaration_member P class id method o ≡ declaration_member Q class id method o
  declaration-same id method alive also (Some (knowns.Method Instance)) =
      let notes = notes-same id alive in
      let words = words-same id alive in
      let results = result-same method also in
      let names = name-same P Q twins.alike method also in
      let params = params_of-same method also in
      let bodies = body-same id alive in
      λ i. Some (member.Method (record {
        front = (notes i).front;
        at = 0;
        words = words i;
        is_static = false;
        result = results i;
        name = names i;
        params = params i;
        block = bodies i;
      }))
  declaration-same id method alive also (Some (knowns.Method Static)) =
      let notes = notes-same id alive in
      let words = words-same id alive in
      let results = result-same method also in
      let names = name-same P Q twins.alike method also in
      let params = params_of-same method also in
      let bodies = body-same id alive in
      λ i. Some (member.Method (record {
        front = (notes i).front;
        at = 0;
        words = words i;
        is_static = true;
        result = results i;
        name = names i;
        params = params i;
        block = bodies i;
      }))
  declaration-same id method alive also (Some (knowns.Method Constructor)) =
      let notes = notes-same id alive in
      let words = words-same id alive in
      let params = params_of-same method also in
      let bodies = body-same id alive in
      λ i. Some (member.Ctor (record {
        front = (notes i).front;
        at = 0;
        words = words i;
        params = params i;
        block = option_map_or (λ (b : Block). b) (bodies i) (block_of [] []);
      }))
  declaration-same id method alive also None = refl
  declaration-same id method alive also (Some knowns.Class) = refl
  declaration-same id method alive also (Some (knowns.Decl own)) = refl
  declaration-same id method alive also (Some knowns.Field) = refl
  declaration-same id method alive also (Some (knowns.Param own)) = refl

  member-same : (m : Id × Known) → IsMember P m → spelled_member P class m ≡ spelled_member Q class m
  member-same m (a_field_member {id} is alive) =
      let lives = field-lives P Q twins.alike id is alive in
      field-at id lives (value_at P id slots.Value) refl ∙ ap (field_member Q class id) (cells-same P Q twins.alike id slots.Value lives)
  member-same m (a_declaration_member {id} {method} is alive) =
      declaration-same id method (declaration-lives P Q twins.alike id method is alive) (method-lives P Q twins.alike id method is alive)
      (get P.known method)
      ∙ known-same P Q twins.alike (declaration_member Q class id method) (λ own. refl) method

  pub unit-same : spelled_unit P class ≡ spelled_unit Q class
  unit-same =
      let notes = notes-same class living in
      let words = words-same class living in
      let names = name-same P Q twins.alike class living in
      let packages = package-same P Q twins.alike class living in
      let parents = parent-same in
      let imports = imports-same P Q twins class good in
      let members : filter_map (spelled_member P class) (members_of P class) ≡ filter_map (spelled_member Q class) (members_of Q class) =
      filter_map-same (spelled_member P class) (spelled_member Q class) (members_of P class)
      (λ m stands. member-same m (member-is P class m stands))
      ∙ ap (filter_map (spelled_member Q class)) (members-same P Q twins class) in
      λ i. record {
        class = class;
        path = path_of (packages i) (names i);
        unit = record {
          head = (notes i).head;
          «package» = packages i;
          imports = imports i;
          class = record {
            front = (notes i).front;
            words = words i;
            name = names i;
            parent = parents i;
            members = members i;
            tail = (notes i).tail;
          };
        };
      }

-- ---- all files

pub kept-passes : (p : Id → Bool) (ids : List Id) (id : Id) → Contains (filter p ids) id → p id ≡ true
kept-passes p [] id stands = absurd (stands_nowhere id stands)
kept-passes p (x ∷ ids) id stands = by (p x) refl stands (kept-passes p ids id) where
  by : (b : Bool) → p x ≡ b → Contains (cond b (x ∷ filter p ids) (filter p ids)) id → (Contains (filter p ids) id → p id ≡ true)
      → p id ≡ true
  by true passes there more = at (stands_where x id (filter p ids) there) where
    at : (x ≡ id) ⊎ Contains (filter p ids) id → p id ≡ true
    at (inl same) = subst (λ (y : Id). p y ≡ true) same passes
    at (inr later) = more later
  by false passes there more = more there

module _ (P Q : Program) (twins : Twins P Q) where
  no-class : (program : Program) (id method : Id) → get program.known id ≡ Some (knowns.Param method) → is_living_class program id ≡ false
  no-class program id method is = ap (λ o. is_class o && living_at program id) is

  living-same-classes : living_classes P ≡ living_classes Q
  living-same-classes = kept-alike P Q twins.alike.knows (is_living_class P) (is_living_class Q) (no-class P) (no-class Q)
      (classes-same P Q twins.alike)

  key-same : (class : Id) → IsGoodClass P class → key_at P class ≡ key_at Q class
  key-same class good =
      let lives = class-lives P Q twins.alike class good in
      let names = name-same P Q twins.alike class lives in
      let packages = package-same P Q twins.alike class lives in
      λ i. record { path = path_of (packages i) (names i); class = class }

  keys-same : map (key_at P) (living_classes P) ≡ map (key_at Q) (living_classes Q)
  keys-same =
      map-same (key_at P) (key_at Q) (living_classes P) (λ class stands. key-same class
      (kept-passes (is_living_class P) (keys P.known) class stands))
      ∙ ap (map (key_at Q)) living-same-classes

  key-good : (key : UnitKey) → Contains (as_set unit_key_cmp (map (key_at P) (living_classes P))) key → IsGoodClass P key.class
  key-good key stands =
      let unit : Contains (units_of P) (spelled_unit P key.class) = stands-mapped (λ (k : UnitKey). spelled_unit P k.class)
      (as_set unit_key_cmp (map (key_at P) (living_classes P))) key stands in
      let spelled = (files_in_order.each P (spelled_unit P key.class)).0 unit in
      subst (IsGoodClass P) (sym (ap (λ (u : SpelledUnit). u.class) spelled.is)) spelled.lives

  pub units-same : units_of P ≡ units_of Q
  units-same =
      map-same (λ (key : UnitKey). spelled_unit P key.class) (λ (key : UnitKey). spelled_unit Q key.class)
      (as_set unit_key_cmp (map (key_at P) (living_classes P))) (λ key stands. unit-same P Q twins key.class (key-good key stands))
      ∙ ap (λ (ks : List UnitKey). map (λ (key : UnitKey). spelled_unit Q key.class) (as_set unit_key_cmp ks)) keys-same
