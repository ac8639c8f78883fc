-- An expression whose parts are written alike is written alike in two such programs, kind by kind.
use Rattle.std.proofs.Common.{Bool, List, None, Option, Some, [], ap, false, length, refl, slice_get, suc, true, zero, ℕ, ◌++◌, ◌+◌, ◌∷◌, ◌≡◌}
use Rattle.std.specs.FinMap.{get}
use Rattle.std.specs.List.{AllByRecursion}
use Rattle.std.specs.Option.{option_map_or}
use Rattle.std.specs.Prelude.{if◌then◌else◌, map, not}
use Rattle.jav_names.specs.DottedNames.{Dotted, Name, Names}
use Rattle.jav_names.specs.OnValues.{class_value, mixed_value, outside_value, primitive_value}
use Rattle.jav_names.specs.StaticTypes.{of_type}
use Rattle.jav_names.specs.Views.{ViewType}
use Rattle.jav_tree.specs.declared.expr.ExprNode.TheVariants as node
use Rattle.mol_base.specs.declared.ident.Id.{Id}
use Rattle.mol_resolve_rules.specs.Locals.{Local, Locals}
use Rattle.mol_resolve_rules.specs.ProgramViews.{seen}
use Rattle.mol_resolve_rules.specs.ReadTrees.{Mode, before, arrays}
use Rattle.mol_resolve_rules.specs.Readers.{Parameter}
use Rattle.mol_resolve_rules.specs.StaticTypes.{field_value, field_value_in, result_value, result_value_in, class_of_only_declaration}
use Rattle.mol_spell_rules.specs.NameFaults.{is_gone}
use Rattle.mol_spell_rules.specs.SpelledExpressions.{SpelledExpr, MemberForm, expr_step, static_step, references_step, made, name_tree, dot_tree, names_tree, trees, type_here, hides, importable_names, own_form, static_form, call_form, static_call_form, param_name, field_tree, call_tree, created_tree, plain, each_alone, asks_name, asks_outside, field_reference, call_reference, after, asks_alone}
use Rattle.mol_spell_rules.specs.Writers.{Importable, program_class, outside_import, Writer, Reference, field_asked, method_asked, super_method_asked, constructor_asked, use_of}
use Rattle.mol_spell_rules.specs.references.References.{Target, field_target, method_target, param_target, default_target, outside_target}
use Rattle.mol_table_rules.specs.Life.{lives}
use Rattle.mol_table_rules.specs.Mentions.{type_mentions}
use Rattle.mol_table_rules.specs.Program.{Program, name_at}
use Rattle.mol_values_types.specs.declared.cell.Slot.TheVariants as slots
use Rattle.mol_values_types.specs.declared.iexpr.IExpr.TheOpen.{IExpr-F}
use Rattle.mol_values_types.specs.declared.itype.IType.{IType}
use Rattle.mol_values_types.specs.declared.kind.MethodKind.TheVariants.{Static, Constructor}
use Rattle.mol_values_types.specs.declared.known.Known.TheVariants as knowns
use Rattle.mol_values_types.specs.declared.param.Param.{Param}
use Rattle.mol_faults_laws.proofs.sameness_lemmas.Alike.{cells-same, class-lives, name-same, present-same}
use Rattle.mol_faults_laws.proofs.sameness_lemmas.Goodness.{AreGoodReferences, IsGoodImportable, IsGoodReference, all-both, arrays-good, field_value-good, of_type-good, param_value-good, result_value-good, seen-good}
use Rattle.mol_faults_laws.proofs.sameness_lemmas.Members.{hides-same, names-same, uses-same, text-same, own_form-same, own_form-good, static_form-same, static_form-good, call_form-same, call_form-good, only, static_call_form-same, static_call_form-good, constructor_text-same, constructor_reference-same, param_name-same, field_tree-same, call_tree-same, field_reference-same, call_reference-same, IsGoodForm}
use Rattle.mol_faults_laws.proofs.sameness_lemmas.Places.{IsGoodAsked}
use Rattle.mol_faults_laws.proofs.sameness_lemmas.SpelledTypes.{writer_of, type-alike}
use Rattle.mol_faults_laws.proofs.sameness_lemmas.Twins.{AreGood, IsGoodClass, IsGoodType, IsGoodValue, Twins, only-good}

-- one is the other, its static type is of classes that live, and its names are good however it stands
pub record AreSame (P : Program) (s t : SpelledExpr) : Type 0 where
  pub same : s ≡ t
  pub type : IsGoodValue P s.static_type
  pub references : (mode : Mode) → AreGoodReferences P (s.references mode)

-- the types of the locals are of classes that live
abbrev pub AreGoodLocals : Program → Locals Id → Type 0
AreGoodLocals P locals = AllByRecursion (IsGoodType P) (map (λ (local : Local Id). local.type) locals.declared)

module _ (P Q : Program) (twins : Twins P Q) (class : Id) (good : IsGoodClass P class) (imports : Names) (params : List (Parameter Id))
    (in_constructor : Bool) (first_simple second_simple : Importable → Bool)
    (simple : (what : Importable) → IsGoodImportable P what → first_simple what ≡ second_simple what)
    (locals : Locals Id) where
  abbrev here : Writer
  here = writer_of P imports class params in_constructor first_simple

  abbrev there : Writer
  there = writer_of Q imports class params in_constructor second_simple

  abbrev Refs : List Reference → Type 0
  Refs = AreGoodReferences P

  abbrev Node : Type 0
  Node = IExpr-F SpelledExpr SpelledExpr

  -- where nothing of a program is asked
  pub fixed : (node : Node) → expr_step here locals node ≡ expr_step there locals node → IsGoodValue P (static_step here locals node)
      → ((mode : Mode) → Refs (references_step here locals node mode))
      → AreSame P (expr_step here locals node) (expr_step there locals node)
  fixed node same type references = record { same = same; type = type; references = references }

  pub local-good : (types : List (ViewType Id)) (number : ℕ) → AllByRecursion (IsGoodType P) types
      → IsGoodValue P (option_map_or of_type (slice_get types number) mixed_value)
  local-good [] number all = tt {0}
  local-good (type ∷ types) zero all = of_type-good P type all.0
  local-good (type ∷ types) (suc number) all = local-good types number all.1

  pub name-mode : (target : Target) (name : Name) (mode : Mode) → is_gone P target ≡ false
      → IsGoodReference P (plain here locals target (asks_name here locals name mode))
  name-mode target name None gone = record { target = gone; asked = tt {0}; uses = tt {0} }
  name-mode target name (Some follow) gone = record { target = gone; asked = tt {0}; uses = tt {0} }

  type-here : (type : IType) → AreGood P (type_mentions type)
      → (type_here here locals type ≡ type_here there locals type) × Refs (type_here here locals type).references
  type-here type all = type-alike P Q twins class good imports params in_constructor first_simple second_simple simple
      (hides here locals) (hides there locals) (hides-same P Q twins class good imports params in_constructor first_simple second_simple
      simple locals)
      locals type all

  field_value-same : (field : Id) → lives P field ≡ true → field_value P field ≡ field_value Q field
  field_value-same field living = ap field_value_in (cells-same P Q twins.alike field slots.Value living)

  result_value-same : (method : Id) → lives P method ≡ true → result_value P method ≡ result_value Q method
  result_value-same method living = ap result_value_in (cells-same P Q twins.alike method slots.Result living)

  -- ---- leaves

  abbrev Step : Node → Type 0
  Step node = AreSame P (expr_step here locals node) (expr_step there locals node)

  pub step-Param : (id : Id) → lives P id ≡ true → Step (IExpr-F.Param id)
  step-Param id living =
      let name = param_name-same P Q twins class good imports params in_constructor first_simple second_simple simple locals id living in
      let present = present-same P Q twins.alike id living in
      fixed (IExpr-F.Param id) (λ i. record {
        tree = name_tree (name i);
        is_this = false;
        static_type = option_map_or (λ (param : Param). of_type (seen param.ty)) (present i) mixed_value;
        references = λ mode. plain there locals (param_target id) (asks_name there locals (name i) mode) ∷ [];
      }) (param_value-good P Q twins id living) (λ mode. (name-mode (param_target id) (param_name here locals id) mode refl, tt {0}))

  -- a field in some form
  field-step : (form other : MemberForm) (field : Id) → form ≡ other → lives P field ≡ true
      → IsGoodForm P Q twins class good imports params in_constructor first_simple second_simple simple locals form
      → AreSame P
      (record {
        tree = field_tree here locals form field;
        is_this = false;
        static_type = field_value P field;
        references = λ mode. field_reference here locals form field mode ∷ [];
      })
      (record {
        tree = field_tree there locals other field;
        is_this = false;
        static_type = field_value Q field;
        references = λ mode. field_reference there locals other field mode ∷ [];
      })
  field-step form other field same living is =
      let tree = field_tree-same P Q twins class good imports params in_constructor first_simple second_simple simple locals form other
      field same is living in
      let value = field_value-same field living in
      let reference = λ (mode : Mode). field_reference-same P Q twins class good imports params in_constructor first_simple second_simple
      simple locals form other field mode same is living in
      record {
        same = λ i. record { tree = tree i; is_this = false; static_type = value i; references = λ mode. (reference mode).0 i ∷ [] };
        type = field_value-good P Q twins field living;
        references = λ mode. ((reference mode).1, tt {0});
      }

  pub own-step : (field : Id) → lives P field ≡ true → AreSame P
      (record {
        tree = field_tree here locals (own_form here locals field) field;
        is_this = false;
        static_type = field_value P field;
        references = λ mode. field_reference here locals (own_form here locals field) field mode ∷ [];
      })
      (record {
        tree = field_tree there locals (own_form there locals field) field;
        is_this = false;
        static_type = field_value Q field;
        references = λ mode. field_reference there locals (own_form there locals field) field mode ∷ [];
      })
  own-step field living = field-step (own_form here locals field) (own_form there locals field) field
      (own_form-same P Q twins class good imports params in_constructor first_simple second_simple simple locals field living) living
      (own_form-good P Q twins class good imports params in_constructor first_simple second_simple simple locals field)

  pub step-StaticField : (field : Id) → lives P field ≡ true → Step (IExpr-F.StaticField field)
  step-StaticField field living = field-step (static_form here locals field) (static_form there locals field) field
      (static_form-same P Q twins class good imports params in_constructor first_simple second_simple simple locals field living) living
      (static_form-good P Q twins class good imports params in_constructor first_simple second_simple simple locals field living)

  pub step-Field : (field : Id) (e : SpelledExpr) → lives P field ≡ true → IsGoodValue P e.static_type
      → ((mode : Mode) → Refs (e.references mode))
      → Step (IExpr-F.Field field e)
  step-Field field e living type refs = by e.is_this where
    name : name_at P field ≡ name_at Q field
    name = name-same P Q twins.alike field living

    value : field_value P field ≡ field_value Q field
    value = field_value-same field living

    by : (b : Bool) → AreSame P
        (record {
          tree = if b then field_tree here locals (own_form here locals field) field else dot_tree e.tree (name_at P field);
          is_this = false;
          static_type = field_value P field;
          references = λ mode. if b then field_reference here locals (own_form here locals field) field mode ∷ []
              else after here locals (e.references (before (name_at P field) mode)) (field_target field)
              (field_asked e.static_type (name_at P field));
        })
        (record {
          tree = if b then field_tree there locals (own_form there locals field) field else dot_tree e.tree (name_at Q field);
          is_this = false;
          static_type = field_value Q field;
          references = λ mode. if b then field_reference there locals (own_form there locals field) field mode ∷ []
              else after there locals (e.references (before (name_at Q field) mode)) (field_target field)
              (field_asked e.static_type (name_at Q field));
        })
    by true = own-step field living
    by false = record {
      same = λ i. record {
        tree = dot_tree e.tree (name i);
        is_this = false;
        static_type = value i;
        references = λ mode. after there locals (e.references (before (name i) mode)) (field_target field)
            (field_asked e.static_type (name i));
      };
      type = field_value-good P Q twins field living;
      references = λ mode. all-both (IsGoodReference P) (e.references (before (name_at P field) mode)) _
          (refs (before (name_at P field) mode))
          (record { target = ap not living; asked = type; uses = tt {0} }, tt {0});
    }

  -- ---- calls

  call-step : (form other : MemberForm) (method : Id) (args : List SpelledExpr) → form ≡ other → lives P method ≡ true
      → IsGoodForm P Q twins class good imports params in_constructor first_simple second_simple simple locals form
      → Refs (each_alone here locals args)
      → AreSame P
      (record {
        tree = call_tree here locals form method args;
        is_this = false;
        static_type = result_value P method;
        references = λ mode. call_reference here locals form method (length args) ∷ each_alone here locals args;
      })
      (record {
        tree = call_tree there locals other method args;
        is_this = false;
        static_type = result_value Q method;
        references = λ mode. call_reference there locals other method (length args) ∷ each_alone there locals args;
      })
  call-step form other method args same living is refs =
      let tree = call_tree-same P Q twins class good imports params in_constructor first_simple second_simple simple locals form other
      method args same is living in
      let value = result_value-same method living in
      let reference = call_reference-same P Q twins class good imports params in_constructor first_simple second_simple simple locals form
      other method (length args) same is living in
      record {
        same = λ i. record {
          tree = tree i;
          is_this = false;
          static_type = value i;
          references =
              λ mode. reference.0 i ∷ each_alone there locals args;
        };
        type = result_value-good P Q twins method living;
        references = λ mode. (reference.1, refs);
      }

  pub step-Call : (method : Id) (args : List SpelledExpr) → lives P method ≡ true → Refs (each_alone here locals args)
      → Step (IExpr-F.Call method args)
  step-Call method args living refs = call-step (call_form here locals method (length args))
      (call_form there locals method (length args)) method args
      (call_form-same P Q twins class good imports params in_constructor first_simple second_simple simple locals method
      (length args) living) living
      (call_form-good P Q twins class good imports params in_constructor first_simple second_simple simple locals method (length args)) refs

  pub step-StaticCall : (method : Id) (args : List SpelledExpr) → get P.known method ≡ Some (knowns.Method Static) → lives P method ≡ true
      → Refs (each_alone here locals args) → Step (IExpr-F.StaticCall method args)
  step-StaticCall method args is living refs =
      call-step (static_call_form here locals method (length args)) (static_call_form there locals method (length args)) method args
      (static_call_form-same P Q twins class good imports params in_constructor first_simple second_simple simple locals method Static is
      refl living (length args)) living
      (static_call_form-good P Q twins class good imports params in_constructor first_simple second_simple simple locals method Static is
      refl living (length args)) refs

  pub step-CallOn : (method : Id) (e : SpelledExpr) (args : List SpelledExpr) → lives P method ≡ true → IsGoodValue P e.static_type
      → ((mode : Mode) → Refs (e.references mode)) → Refs (each_alone here locals args) → Step (IExpr-F.CallOn method e args)
  step-CallOn method e args living type on refs = by e.is_this where
    name : name_at P method ≡ name_at Q method
    name = name-same P Q twins.alike method living

    value : result_value P method ≡ result_value Q method
    value = result_value-same method living

    by : (b : Bool) → AreSame P
        (record {
          tree = if b then call_tree here locals (call_form here locals method (length args)) method args
              else made (node.Call (Some e.tree) (name_at P method) (trees args));
          is_this = false;
          static_type = result_value P method;
          references = λ mode. (if b then call_reference here locals (call_form here locals method (length args)) method (length args) ∷ []
              else after here locals (e.references (Some [])) (method_target method)
              (method_asked e.static_type (name_at P method) (length args)))
              ++ each_alone here locals args;
        })
        (record {
          tree = if b then call_tree there locals (call_form there locals method (length args)) method args
              else made (node.Call (Some e.tree) (name_at Q method) (trees args));
          is_this = false;
          static_type = result_value Q method;
          references = λ mode. (if b then call_reference there locals (call_form there locals method (length args)) method
              (length args) ∷ []
              else after there locals (e.references (Some [])) (method_target method)
              (method_asked e.static_type (name_at Q method) (length args)))
              ++ each_alone there locals args;
        })
    by true = step-Call method args living refs
    by false = record {
      same = λ i. record {
        tree = made (node.Call (Some e.tree) (name i) (trees args));
        is_this = false;
        static_type = value i;
        references = λ mode. after there locals (e.references (Some [])) (method_target method)
            (method_asked e.static_type (name i) (length args))
            ++ each_alone there locals args;
      };
      type = result_value-good P Q twins method living;
      references = λ mode. all-both (IsGoodReference P)
          (after here locals (e.references (Some [])) (method_target method) (method_asked e.static_type (name_at P method) (length args)))
          (each_alone here locals args)
          (all-both (IsGoodReference P) (e.references (Some [])) _ (on (Some []))
          (record { target = ap not living; asked = type; uses = tt {0} }, tt {0}))
          refs;
    }

  pub step-SuperCall : (method : Id) (args : List SpelledExpr) → lives P method ≡ true → Refs (each_alone here locals args)
      → Step (IExpr-F.SuperCall method args)
  step-SuperCall method args living refs =
      let name = name-same P Q twins.alike method living in
      let value = result_value-same method living in
      fixed (IExpr-F.SuperCall method args) (λ i. record {
        tree = made (node.SuperCall (name i) (trees args));
        is_this = false;
        static_type = value i;
        references = λ mode. plain there locals (method_target method)
            (super_method_asked (name i) (length args)) ∷ each_alone there locals args;
      }) (result_value-good P Q twins method living)
      (λ mode. (record { target = ap not living; asked = tt {0}; uses = tt {0} }, refs))

  pub step-New : (constructor : Id) (args : List SpelledExpr) → get P.known constructor ≡ Some (knowns.Method Constructor)
      → lives P constructor ≡ true
      → Refs (each_alone here locals args) → Step (IExpr-F.New constructor args)
  step-New constructor args is living refs =
      let text = constructor_text-same P Q twins class good imports params in_constructor first_simple second_simple simple locals
      constructor Constructor is refl living in
      let classes = only P Q twins class good imports params in_constructor first_simple second_simple simple locals constructor
      Constructor is refl living in
      let reference = constructor_reference-same P Q twins class good imports params in_constructor first_simple second_simple simple
      locals constructor Constructor is refl living (length args) in
      fixed (IExpr-F.New constructor args) (λ i. record {
        tree = created_tree there locals (text i) args;
        is_this = false;
        static_type = option_map_or (λ (c : Id). class_value c) (classes i) mixed_value;
        references = λ mode. reference.0 i ∷ each_alone there locals args;
      }) (at (class_of_only_declaration P constructor) (λ own found. only-good P Q twins constructor own Constructor is refl living found))
      (λ mode. (reference.1, refs))
    where
      at : (o : Option Id) → ((own : Id) → o ≡ Some own → IsGoodClass P own)
          → IsGoodValue P (option_map_or (λ (c : Id). class_value c) o mixed_value)
      at None owns = tt {0}
      at (Some own) owns = owns own refl

  pub step-NewDefault : (own : Id) → IsGoodClass P own → Step (IExpr-F.NewDefault own)
  step-NewDefault own is =
      let text = text-same P Q twins class good imports params in_constructor first_simple second_simple simple locals own is in
      let uses = uses-same P Q twins class good imports params in_constructor first_simple second_simple simple locals
      (program_class own) is in
      fixed (IExpr-F.NewDefault own) (λ i. record {
        tree = created_tree there locals (text i) [];
        is_this = false;
        static_type = class_value own;
        references = λ mode. record {
          target = default_target own;
          asked = constructor_asked (text i) 0;
          uses = Some (uses i);
          locals =
              locals;
        } ∷ [];
      }) is (λ mode. (record { target = ap not (class-lives P Q twins.alike own is); asked = tt {0}; uses = is }, tt {0}))

  pub step-OutsideClass : (full : Name) → Step (IExpr-F.OutsideClass full)
  step-OutsideClass full =
      let names = names-same P Q twins class good imports params in_constructor first_simple second_simple simple locals
      (outside_import full) (tt {0}) in
      let uses = uses-same P Q twins class good imports params in_constructor first_simple second_simple simple locals
      (outside_import full) (tt {0}) in
      fixed (IExpr-F.OutsideClass full) (λ i. record {
        tree = names_tree (names i);
        is_this = false;
        static_type = outside_value;
        references = λ mode. record {
          target = outside_target full;
          asked = asks_outside there locals (names i) mode;
          uses = Some
              (uses i);
          locals = locals;
        } ∷ [];
      }) (tt {0}) (λ mode. (outside-good (importable_names here locals (outside_import full)) mode, tt {0}))
    where
      asks-good : (names : Dotted) (mode : Mode) → IsGoodAsked P (asks_outside here locals names mode)
      asks-good names (Some follow) = tt {0}
      asks-good names None = at names.rest where
        at : (rest : Names) → IsGoodAsked P (asks_alone here locals names.first rest)
        at [] = tt {0}
        at (next ∷ rest) = tt {0}

      outside-good : (names : Dotted) (mode : Mode) → IsGoodReference P
          (record {
            target = outside_target full;
            asked = asks_outside here locals names mode;
            uses = Some
                (use_of here (hides here locals) (outside_import full));
            locals = locals;
          })
      outside-good names mode = record { target = refl; asked = asks-good names mode; uses = tt {0} }

  -- ---- with types

  module _ (type : IType) (all : AreGood P (type_mentions type)) where
    types : type_here here locals type ≡ type_here there locals type
    types = (type-here type all).0

    type_refs : Refs (type_here here locals type).references
    type_refs = (type-here type all).1

    value : IsGoodValue P (of_type (seen type))
    value = of_type-good P (seen type) (seen-good P type all)

    pub step-NewOutside : (args : List SpelledExpr) → Refs (each_alone here locals args) → Step (IExpr-F.NewOutside type args)
    step-NewOutside args refs = fixed (IExpr-F.NewOutside type args) (λ i. record {
      tree = made (node.New (types i).tree (trees args));
      is_this = false;
      static_type = outside_value;
      references = λ mode. (types i).references ++ each_alone there locals args;
    }) (tt {0}) (λ mode. all-both (IsGoodReference P) (type_here here locals type).references (each_alone here locals args) type_refs refs)

    pub step-NewArray : (sizes : List SpelledExpr) (pairs : ℕ) → Refs (each_alone here locals sizes)
        → Step (IExpr-F.NewArray type sizes pairs)
    step-NewArray sizes pairs refs = fixed (IExpr-F.NewArray type sizes pairs) (λ i. record {
      tree = made (node.NewArray (types i).tree (trees sizes) pairs);
      is_this = false;
      static_type = static_step here locals (IExpr-F.NewArray type sizes pairs);
      references = λ mode. (types i).references ++ each_alone there locals sizes;
    }) (of_type-good P (arrays (length (map (λ (part : SpelledExpr). part.static_type) sizes) + pairs) (seen type))
        (arrays-good P (length (map (λ (part : SpelledExpr). part.static_type) sizes) + pairs) (seen type) (seen-good P type all)))
        (λ mode. all-both (IsGoodReference P) (type_here here locals type).references (each_alone here locals sizes) type_refs refs)

    pub step-ArrayLit : (items : List SpelledExpr) → Refs (each_alone here locals items) → Step (IExpr-F.ArrayLit type items)
    step-ArrayLit items refs = fixed (IExpr-F.ArrayLit type items) (λ i. record {
      tree = made (node.ArrayLit (types i).tree (trees items));
      is_this = false;
      static_type = of_type (seen type);
      references = λ mode. (types i).references ++ each_alone there locals items;
    }) value (λ mode. all-both (IsGoodReference P) (type_here here locals type).references (each_alone here locals items) type_refs refs)

    pub step-Cast : (e : SpelledExpr) → Refs (e.references None) → Step (IExpr-F.Cast type e)
    step-Cast e refs = fixed (IExpr-F.Cast type e) (λ i. record {
      tree = made (node.Cast (types i).tree e.tree);
      is_this = false;
      static_type = of_type (seen type);
      references = λ mode. (types i).references ++ e.references None;
    }) value (λ mode. all-both (IsGoodReference P) (type_here here locals type).references (e.references None) type_refs refs)

    pub step-InstanceOf : (e : SpelledExpr) → Refs (e.references None) → Step (IExpr-F.InstanceOf e type)
    step-InstanceOf e refs = fixed (IExpr-F.InstanceOf e type) (λ i. record {
      tree = made (node.InstanceOf e.tree (types i).tree);
      is_this = false;
      static_type = primitive_value;
      references = λ mode. e.references None ++ (types i).references;
    }) (tt {0}) (λ mode. all-both (IsGoodReference P) (e.references None) (type_here here locals type).references refs type_refs)
