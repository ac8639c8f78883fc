-- A call that is printed, and whose name reads as its method, is read as a word that says it.
use Rattle.std.proofs.Common.{◌≡◌, ℕ, Bool, true, false, List, [], map, length, Option, Some, None, option_map, Contains, if◌then◌else◌, refl, sym, ◌∙◌, ap, subst, inl}
use Rattle.jav_tree.specs.declared.expr.Expr.{Expr}
use Rattle.jav_tree.specs.declared.expr.ExprNode.TheVariants as node
use Rattle.jav_names.specs.DottedNames.{Name, Dotted}
use Rattle.jav_names.specs.LookUps.{method_from, method_on, method_through}
use Rattle.jav_names.specs.OnValues.{StaticType, outside_value, class_value, OnValue, member, static_member, outside_member, missing_member, has_no_members, unread_member, is_static_kind}
use Rattle.jav_names.specs.StaticTypes.{of_type, outside_call}
use Rattle.jav_names.specs.Views.{ViewDeclaration, Found, found, outside, not_found}
use Rattle.jav_names.proofs.FoundNames.{names_stand}
use Rattle.jav_names.proofs.NamesAnswered.{names_answered}
use Rattle.mol_base.specs.declared.ident.Id.{Id}
use Rattle.mol_spell_rules.specs.references.References.{method_target, outside_target}
use Rattle.mol_resolve_rules.proofs.ReadEquations.{reads-This, reads-Call, reads-CallOn}
use Rattle.mol_resolve_rules.specs.Locals.{Locals}
use Rattle.mol_resolve_rules.specs.Outcomes.{Outcome, fine, beside}
use Rattle.mol_resolve_rules.specs.Readers.{Reader}
use Rattle.mol_resolve_rules.specs.ReadTrees.{Meant, Mode, Reading, ClassPath, whole_path, front_path, no_path, path_of, with_params, values_of, arguments_of, call_here, call_through, call_on, call_meant, reading}
use Rattle.mol_resolve_rules.specs.Says.{NamesMethod, as_own_call, as_static_call, Says, SaysAll, SaysArguments, one_method, in_call_on, in_outside_call, in_outside_call_on}
use Rattle.mol_resolve_rules.specs.StaticTypes.{result_value}
use Rattle.mol_table_rules.specs.Program.{params_at}
use Rattle.mol_values_types.specs.declared.iexpr.Argument.{Argument}
use Rattle.mol_values_types.specs.declared.iexpr.IExpr.{IExpr}
use Rattle.mol_values_types.specs.declared.iexpr.IExpr.TheVariants as exprs
use Rattle.mol_values_types.specs.declared.param.Param.{Param}
use Rattle.mol_spell_rules.proofs.NamesBack.{answered-by, view-ordered, never-this, value_of, IsBack}
use Rattle.mol_spell_rules.proofs.ValuesBack.{IsApart, names-of}
use Rattle.mol_spell_rules.specs.Answers.{method_of, method_through_answer, on_value_answer, call_answer}
use Rattle.mol_spell_rules.specs.ReadBack.{SeesProgram}
use Rattle.mol_spell_rules.specs.SpelledExpressions.{made, names_tree}
use Rattle.mol_spell_rules.specs.Writers.{Writer}

module _ (writer : Writer) (sees : SeesProgram writer) (locals : Locals Id) where
  abbrev reader : Reader Id Id
  reader = writer.reader

  -- ---- what is found stands in the view

  from-stands : (name : Name) (arity : ℕ) (declared : ViewDeclaration Id Id)
      → method_from reader.view reader.class name arity ≡ found declared → Contains reader.view.declarations declared
  from-stands name arity declared is = ((names_stand Id Id).methods reader.view reader.class name arity declared
      (answered-by ((names_answered Id Id).methods reader.view reader.class name arity
      (view-ordered writer sees)) (found declared) is)).stands

  on-stands : (name : Name) (arity : ℕ) (type : StaticType Id) (declared : ViewDeclaration Id Id)
      → method_on reader.view name arity type ≡ member declared → Contains reader.view.declarations declared
  on-stands name arity type declared is = ((names_stand Id Id).methods_on reader.view name arity type declared
      (inl (answered-by ((names_answered Id Id).methods_on reader.view name arity type
      (view-ordered writer sees)) (member declared) is))).2.stands

  through-stands : (class : Id) (name : Name) (arity : ℕ) (declared : ViewDeclaration Id Id)
      → method_through reader.view class name arity ≡ Some declared → Contains reader.view.declarations declared
  through-stands class name arity declared is = ((names_stand Id Id).static_methods reader.view class name arity declared
      (answered-by ((names_answered Id Id).static_methods reader.view class name arity
      (view-ordered writer sees)) (Some declared) is)).stands

  -- ---- arguments

  abbrev pub ids_of : Id → List Id
  ids_of method = map (λ (param : Param). param.id) (params_at writer.program method)

  abbrev result_of : Id → StaticType Id
  result_of method = result_value writer.program method

  abbrev says_args : List IExpr → Id → List Argument → Type 0
  says_args saids method args = SaysArguments (with_params (ids_of method) saids) args

  pub result-is : (declared : ViewDeclaration Id Id) (method : Id) → Contains reader.view.declarations declared
      → reader.ids.method_id declared ≡ method → of_type declared.result ≡ result_of method
  result-is declared method stands same = sees.results declared stands ∙ ap result_of same

  pub args-are : (declared : ViewDeclaration Id Id) (method : Id) (saids : List IExpr) (args : List Argument)
      → Contains reader.view.declarations declared → reader.ids.method_id declared ≡ method → says_args saids method args
      → SaysArguments (arguments_of reader declared saids) args
  args-are declared method saids args stands same says =
      subst (λ ids. SaysArguments (with_params ids saids) args) (sym (sees.param_ids declared stands ∙ ap ids_of same)) says

  -- a call of a method of `this`, or of a static one
  own-back : (declared : ViewDeclaration Id Id) (method : Id) (saids : List IExpr) (args : List Argument) (e : IExpr)
      → Contains reader.view.declarations declared → reader.ids.method_id declared ≡ method → says_args saids method args
      → NamesMethod method args e
      → IsBack writer sees locals (fine (value_of writer sees locals
      (exprs.Call (reader.ids.method_id declared) (arguments_of reader declared saids)) false (of_type declared.result)))
      false (result_of method) e
  own-back declared method saids args e stands same says names = (
    exprs.Call (reader.ids.method_id declared) (arguments_of reader declared saids),
    ap (λ type. fine (value_of writer sees locals (exprs.Call (reader.ids.method_id declared) (arguments_of reader declared saids)) false
        type)) (result-is declared method stands same),
    one_method as_own_call (subst (λ method. NamesMethod method args e) (sym same) names)
        (args-are declared method saids args stands same says),
    never-this,
  )

  static-back : (declared : ViewDeclaration Id Id) (method : Id) (saids : List IExpr) (args : List Argument) (e : IExpr)
      → Contains reader.view.declarations declared → reader.ids.method_id declared ≡ method → says_args saids method args
      → NamesMethod method args e
      → IsBack writer sees locals (fine (value_of writer sees locals
      (exprs.StaticCall (reader.ids.method_id declared) (arguments_of reader declared saids)) false (of_type declared.result)))
      false (result_of method) e
  static-back declared method saids args e stands same says names = (
    exprs.StaticCall (reader.ids.method_id declared) (arguments_of reader declared saids),
    ap (λ type. fine (value_of writer sees locals (exprs.StaticCall (reader.ids.method_id declared) (arguments_of reader declared saids))
        false type)) (result-is declared method stands same),
    one_method as_static_call (subst (λ method. NamesMethod method args e) (sym same) names)
        (args-are declared method saids args stands same says),
    never-this,
  )

  -- ---- trees of calls

  module _ (name : Name) (trees : List Expr) (saids : List IExpr)
      (valued : values_of reader locals (map (reading reader) trees) ≡ fine saids) where
    abbrev arity : ℕ
    arity = length (map (reading reader) trees)

    -- without anything before it
    here-reads : (mode : Mode) → (reading reader (made (node.Call None name trees))).means locals mode
        ≡ call_here reader 0 name (Some saids) (method_from reader.view reader.class name arity)
    here-reads mode =
        ap (λ (r : Reading Id). r.means locals mode) (reads-Call reader 0 name trees (map (reading reader) trees) refl)
        ∙ ap (λ values. beside values (λ args. call_here reader 0 name args (method_from reader.view reader.class name arity))) valued

    pub here-back : (mode : Mode) (method : Id) (args : List Argument) (e : IExpr) → says_args saids method args
        → NamesMethod method args e
        → call_answer reader name (method_from reader.view reader.class name arity) ≡ Some (method_target method)
        → IsBack writer sees locals ((reading reader (made (node.Call None name trees))).means locals mode) false (result_of method) e
    here-back mode method args e says names is =
        subst (λ outcome. IsBack writer sees locals outcome false (result_of method) e) (sym (here-reads mode))
        (by (method_from reader.view reader.class name arity) refl is) where
          by : (f : Found (ViewDeclaration Id Id)) → method_from reader.view reader.class name arity ≡ f
              → call_answer reader name f ≡ Some (method_target method)
              → IsBack writer sees locals (call_here reader 0 name (Some saids) f) false (result_of method) e
          by (found declared) at is = by_kind (is_static_kind declared.kind) where
            same : reader.ids.method_id declared ≡ method
            same = cc

            by_kind : (b : Bool) → IsBack writer sees locals (if b
                then fine (value_of writer sees locals
                (exprs.StaticCall (reader.ids.method_id declared) (arguments_of reader declared saids)) false (of_type declared.result))
                else fine (value_of writer sees locals
                (exprs.Call (reader.ids.method_id declared) (arguments_of reader declared saids)) false (of_type declared.result)))
                false (result_of method) e
            by_kind true = static-back declared method saids args e (from-stands name arity declared at) same says names
            by_kind false = own-back declared method saids args e (from-stands name arity declared at) same says names
          by outside at is = absurd cc
          by not_found at is = absurd cc

    pub outside-here-back : (mode : Mode) (es : List IExpr) → SaysAll saids es
        → call_answer reader name (method_from reader.view reader.class name arity) ≡ Some (outside_target name)
        → IsBack writer sees locals ((reading reader (made (node.Call None name trees))).means locals mode) false outside_value
        (exprs.OutsideCall name es)
    outside-here-back mode es says is =
        subst (λ outcome. IsBack writer sees locals outcome false outside_value (exprs.OutsideCall name es)) (sym (here-reads mode))
        (by (method_from reader.view reader.class name arity) is) where
          by : (f : Found (ViewDeclaration Id Id)) → call_answer reader name f ≡ Some (outside_target name)
              → IsBack writer sees locals (call_here reader 0 name (Some saids) f) false outside_value (exprs.OutsideCall name es)
          by (found declared) is = absurd cc
          by outside is = (exprs.OutsideCall name saids, refl, in_outside_call says, never-this)
          by not_found is = absurd cc

    -- after a value
    on-reads : (mode : Mode) (tree : Expr) (v : Meant Id) → (reading reader tree).means locals (Some []) ≡ fine v
        → IsApart writer sees locals (reading reader tree)
        → (reading reader (made (node.Call (Some tree) name trees))).means locals mode
        ≡ call_on reader 0 name v (Some saids) (method_on reader.view name arity v.static_type)
    on-reads mode tree v is apart =
        ap (λ (r : Reading Id). r.means locals mode)
        (reads-CallOn reader 0 tree name trees (reading reader tree) (map (reading reader) trees) refl refl)
        ∙ (λ i. call_meant reader 0 name arity (is i) (valued i) (apart [] v is i))

    pub on-back : (mode : Mode) (tree : Expr) (said held : IExpr) (type : StaticType Id) (method : Id) (args : List Argument)
        → (reading reader tree).means locals (Some []) ≡ fine (value_of writer sees locals said false type)
        → IsApart writer sees locals (reading reader tree) → Says said held → says_args saids method args
        → on_value_answer reader name (method_of reader) (method_on reader.view name arity type) ≡ Some (method_target method)
        → IsBack writer sees locals ((reading reader (made (node.Call (Some tree) name trees))).means locals mode) false
        (result_of method) (exprs.CallOn method held args)
    on-back mode tree said held type method args reads apart says more is =
        subst (λ outcome. IsBack writer sees locals outcome false (result_of method) (exprs.CallOn method held args))
        (sym (on-reads mode tree (value_of writer sees locals said false type) reads apart))
        (by (method_on reader.view name arity type) refl is) where
          by : (o : OnValue (ViewDeclaration Id Id)) → method_on reader.view name arity type ≡ o
              → on_value_answer reader name (method_of reader) o ≡ Some (method_target method)
              → IsBack writer sees locals (call_on reader 0 name (value_of writer sees locals said false type) (Some saids) o) false
              (result_of method) (exprs.CallOn method held args)
          by (member declared) at is =
              let same : reader.ids.method_id declared ≡ method = cc in
              let stands = on-stands name arity type declared at in (
                exprs.CallOn (reader.ids.method_id declared) said (arguments_of reader declared saids),
                ap (λ type. fine (value_of writer sees locals
                    (exprs.CallOn (reader.ids.method_id declared) said (arguments_of reader declared saids)) false type))
                    (result-is declared method stands same),
                subst (λ method. Says (exprs.CallOn (reader.ids.method_id declared) said (arguments_of reader declared saids))
                    (exprs.CallOn method held args)) same (in_call_on says (args-are declared method saids args stands same more)),
                never-this,
              )
          by (static_member declared) at is = absurd cc
          by outside_member at is = absurd cc
          by missing_member at is = absurd cc
          by has_no_members at is = absurd cc
          by unread_member at is = absurd cc

    pub outside-on-back : (mode : Mode) (tree : Expr) (said held : IExpr) (is_this : Bool) (type : StaticType Id) (es : List IExpr)
        → (reading reader tree).means locals (Some []) ≡ fine (value_of writer sees locals said is_this type)
        → IsApart writer sees locals (reading reader tree) → Says said held → SaysAll saids es
        → on_value_answer reader name (method_of reader) (method_on reader.view name arity type) ≡ Some (outside_target name)
        → IsBack writer sees locals ((reading reader (made (node.Call (Some tree) name trees))).means locals mode) false
        (outside_call type name (length saids)) (exprs.OutsideCallOn name held es)
    outside-on-back mode tree said held is_this type es reads apart says more is =
        subst (λ outcome. IsBack writer sees locals outcome false (outside_call type name (length saids))
        (exprs.OutsideCallOn name held es))
        (sym (on-reads mode tree (value_of writer sees locals said is_this type) reads apart))
        (by (method_on reader.view name arity type) is) where
          by : (o : OnValue (ViewDeclaration Id Id)) → on_value_answer reader name (method_of reader) o ≡ Some (outside_target name)
              → IsBack writer sees locals (call_on reader 0 name (value_of writer sees locals said is_this type) (Some saids) o) false
              (outside_call type name (length saids)) (exprs.OutsideCallOn name held es)
          by (member declared) is = absurd cc
          by (static_member declared) is = absurd cc
          by outside_member is = (exprs.OutsideCallOn name said saids, refl, in_outside_call_on says more, never-this)
          by missing_member is = absurd cc
          by has_no_members is = absurd cc
          by unread_member is = absurd cc

    -- after `this`
    pub this-back : (mode : Mode) (method : Id) (args : List Argument) (e : IExpr) → says_args saids method args
        → NamesMethod method args e
        → on_value_answer reader name (method_of reader) (method_on reader.view name arity (class_value reader.class))
        ≡ Some (method_target method)
        → IsBack writer sees locals ((reading reader (made (node.Call (Some (made node.This)) name trees))).means locals mode) false
        (result_of method) e
    this-back mode method args e says names is =
        subst (λ outcome. IsBack writer sees locals outcome false (result_of method) e) (sym reads)
        (by (method_on reader.view name arity (class_value reader.class)) refl is) where
          itself : Meant Id
          itself = record { tree = exprs.This; is_this = true; static_type = class_value reader.class }

          reads : (reading reader (made (node.Call (Some (made node.This)) name trees))).means locals mode
              ≡ call_on reader 0 name itself (Some saids) (method_on reader.view name arity (class_value reader.class))
          reads = ap (λ (r : Reading Id). r.means locals mode)
              (reads-CallOn reader 0 (made node.This) name trees _ (map (reading reader) trees) (reads-This reader 0) refl)
              ∙ ap (λ values. call_meant reader 0 name arity (fine itself) values no_path) valued

          by : (o : OnValue (ViewDeclaration Id Id)) → method_on reader.view name arity (class_value reader.class) ≡ o
              → on_value_answer reader name (method_of reader) o ≡ Some (method_target method)
              → IsBack writer sees locals (call_on reader 0 name itself (Some saids) o) false (result_of method) e
          by (member declared) at is =
              let same : reader.ids.method_id declared ≡ method = cc in
              own-back declared method saids args e (on-stands name arity (class_value reader.class) declared at) same says names
          by (static_member declared) at is = absurd cc
          by outside_member at is = absurd cc
          by missing_member at is = absurd cc
          by has_no_members at is = absurd cc
          by unread_member at is = absurd cc

    -- after a class
    pub class-back : (mode : Mode) (path : Dotted) (method : Id) (args : List Argument) (e : IExpr) → says_args saids method args
        → NamesMethod method args e
        → method_through_answer reader name arity (path_of reader locals (Some path) []) ≡ Some (method_target method)
        → IsBack writer sees locals ((reading reader (made (node.Call (Some (names_tree path)) name trees))).means locals mode) false
        (result_of method) e
    class-back mode path method args e says names is =
        subst (λ outcome. IsBack writer sees locals outcome false (result_of method) e) (sym reads)
        (by (path_of reader locals (Some path) []) is) where
          value : Outcome (Meant Id)
          value = (reading reader (names_tree path)).means locals (Some [])

          reads : (reading reader (made (node.Call (Some (names_tree path)) name trees))).means locals mode
              ≡ call_meant reader 0 name arity value (fine saids) (path_of reader locals (Some path) [])
          reads = ap (λ (r : Reading Id). r.means locals mode)
              (reads-CallOn reader 0 (names_tree path) name trees (reading reader (names_tree path)) (map (reading reader) trees) refl refl)
              ∙ (λ i. call_meant reader 0 name arity value (valued i)
              (path_of reader locals (names-of writer sees locals path i) []))

          found-by : (class : Id) (o : Option (ViewDeclaration Id Id)) → method_through reader.view class name arity ≡ o
              → option_map (method_of reader) o ≡ Some (method_target method)
              → IsBack writer sees locals (call_through reader 0 (Some saids) o) false (result_of method) e
          found-by class None at is = absurd cc
          found-by class (Some declared) at is =
              let same : reader.ids.method_id declared ≡ method = cc in
              static-back declared method saids args e (through-stands class name arity declared at) same says names

          by : (path : ClassPath Id) → method_through_answer reader name arity path ≡ Some (method_target method)
              → IsBack writer sees locals (call_meant reader 0 name arity value (fine saids) path) false (result_of method) e
          by (whole_path class) is = found-by class (method_through reader.view class name arity) refl is
          by front_path is = absurd cc
          by no_path is = absurd cc
