-- Operators, choices, items in braces, indexes and calls after `super.` read back where their parts do.
use Rattle.std.proofs.Common.{◌≡◌, ℕ, Bool, true, false, List, ◌∷◌, ◌++◌, map, length, Some, None, if◌then◌else◌, refl, sym, ◌∙◌, ap, subst}
use Rattle.std.specs.Prelude.{◌&&◌, Contains}
use Rattle.jav_tree.specs.declared.expr.Expr.{Expr}
use Rattle.jav_names.specs.DottedNames.{Name}
use Rattle.jav_names.specs.OnValues.{StaticType, outside_value, mixed_value, OnIndex, indexed, not_indexed, unread_index, is_static_kind}
use Rattle.jav_names.specs.StaticTypes.{common, item, of_type}
use Rattle.mol_base.specs.declared.ident.Id.{Id}
use Rattle.mol_spell_rules.specs.references.References.{method_target, outside_target, index_target}
use Rattle.mol_resolve_rules.proofs.ReadEquations.{reads-Index}
use Rattle.mol_resolve_rules.specs.Locals.{Locals}
use Rattle.mol_resolve_rules.specs.Outcomes.{Outcome, fine, mapped, both, beside, over, refused}
use Rattle.mol_resolve_rules.specs.Readers.{Reader}
use Rattle.mol_resolve_rules.specs.ReadTrees.{Meant, Mode, Reading, with_params, values_of, reading, meant, unary_type, binary_type, choice, index_meant, super_call, arguments_of}
use Rattle.mol_resolve_rules.specs.Says.{Says, SaysAll, SaysArguments}
use Rattle.mol_resolve_rules.specs.StaticTypes.{result_value}
use Rattle.mol_values_types.specs.declared.iexpr.Argument.{Argument}
use Rattle.mol_values_types.specs.declared.iexpr.IExpr.{IExpr}
use Rattle.mol_values_types.specs.declared.iexpr.IExpr.TheOpen.{IExpr-F}
use Rattle.mol_spell_rules.proofs.CallsBack.{ids_of, result-is, args-are}
use Rattle.mol_spell_rules.proofs.NamesBack.{never-this, value_of, IsBack, answered-by, view-ordered}
use Rattle.mol_spell_rules.proofs.ValuesBack.{IsApart, nameless-apart}
use Rattle.mol_spell_rules.specs.Answers.{method_of, super_method_answer, index_answer}
use Rattle.mol_spell_rules.specs.ReadBack.{SeesProgram, KeptArgument, are_kept, all_kept}
use Rattle.mol_spell_rules.specs.SpelledExpressions.{SpelledExpr, made, trees, name_of, plain, expr_step}
use Rattle.mol_spell_rules.specs.Writers.{Writer, index_asked}
use Rattle.jav_names.specs.Views.{ViewDeclaration, Found, found, outside, not_found}
use Rattle.jav_names.specs.LookUps.{super_method, index_on}
use Rattle.jav_names.proofs.FoundNames.{names_stand}
use Rattle.jav_names.proofs.NamesAnswered.{names_answered}
use Rattle.mol_spell_rules.proofs.NodeEquations.{read-SuperCall, read-Braces, read-Unary, read-Post, read-Binary, read-Assign, read-Cond}
use Rattle.mol_resolve_rules.specs.FaultKinds.{static_by_instance}
use Rattle.mol_spell_rules.proofs.FormsBack.{as_many}
use Rattle.jav_tree.specs.declared.expr.ExprNode.TheVariants as node
use Rattle.mol_resolve_rules.specs.Says as say
use Rattle.mol_values_types.specs.declared.iexpr.IExpr.TheVariants as exprs
use Rattle.mol_spell_rules.proofs.PartsBack as carried

module _ (writer : Writer) (sees : SeesProgram writer) (locals : Locals Id) where
  abbrev reader : Reader Id Id
  reader = writer.reader

  abbrev spelled : IExpr → SpelledExpr
  spelled = carried.spelled writer sees locals

  abbrev spelled_argument : Argument → SpelledExpr
  spelled_argument = carried.spelled_argument writer sees locals

  abbrev kept : IExpr → Bool
  kept = carried.kept writer sees locals

  abbrev kept_argument : Argument → KeptArgument
  kept_argument = carried.kept_argument writer sees locals

  abbrev Comes : Expr → Mode → Bool → StaticType Id → IExpr → Type 0
  Comes = carried.Comes writer sees locals

  abbrev BackAs : SpelledExpr → IExpr → Bool → Type 0
  BackAs = carried.BackAs writer sees locals

  abbrev Back : IExpr → Type 0
  Back = carried.Back writer sees locals

  abbrev BackArgument : Argument → Type 0
  BackArgument = carried.BackArgument writer sees locals

  abbrev With : Type 0
  With = carried.With writer sees locals

  abbrev WithArgument : Type 0
  WithArgument = carried.WithArgument writer sees locals

  abbrev exprs_in : List With → List IExpr
  exprs_in = carried.exprs_in writer sees locals

  abbrev arguments_in : List WithArgument → List Argument
  arguments_in = carried.arguments_in writer sees locals

  abbrev trees_of : List SpelledExpr → List Expr
  trees_of = carried.trees_of writer sees locals

  abbrev values : List SpelledExpr → Outcome (List IExpr)
  values = carried.values writer sees locals

  -- ---- trees that are no names

  apart-of : (r : Reading Id) (z : SpelledExpr) → reading reader z.tree ≡ r → r.names ≡ None
      → IsApart writer sees locals (reading reader z.tree)
  apart-of r z is none = nameless-apart writer sees locals (reading reader z.tree) (ap (λ (r : Reading Id). r.names) is ∙ none)

  -- ---- one operand

  pub unary-layer : (op : Name) (part : SpelledExpr) (held : IExpr) (k : Bool) → BackAs part held k
      → BackAs (expr_step writer locals (IExpr-F.Unary op part)) (exprs.Unary op held) k
  unary-layer op part held k back = (
    λ are. apart-of _ (expr_step writer locals (IExpr-F.Unary op part)) (read-Unary reader op part.tree) refl,
    never-this,
    λ mode are all.
        let value = back.2 None are all in (
          exprs.Unary op value.0,
          ap (λ (r : Reading Id). r.means locals mode) (read-Unary reader op part.tree)
              ∙ ap (mapped (λ (v : Meant Id). meant reader (exprs.Unary op v.tree) (unary_type op v.static_type))) value.1,
          say.in_unary value.2,
          never-this,
        ),
  )

  pub post-layer : (op : Name) (part : SpelledExpr) (held : IExpr) (k : Bool) → BackAs part held k
      → BackAs (expr_step writer locals (IExpr-F.Post op part)) (exprs.Post op held) k
  post-layer op part held k back = (
    λ are. apart-of _ (expr_step writer locals (IExpr-F.Post op part)) (read-Post reader part.tree op) refl,
    never-this,
    λ mode are all.
        let value = back.2 None are all in (
          exprs.Post op value.0,
          ap (λ (r : Reading Id). r.means locals mode) (read-Post reader part.tree op)
              ∙ ap (mapped (λ (v : Meant Id). meant reader (exprs.Post op v.tree) v.static_type)) value.1,
          say.in_post value.2,
          never-this,
        ),
  )

  -- ---- two operands

  pub binary-layer : (op : Name) (a b : SpelledExpr) (left right : IExpr) (k l : Bool) → BackAs a left k → BackAs b right l
      → BackAs (expr_step writer locals (IExpr-F.Binary op a b)) (exprs.Binary op left right) (k && l)
  binary-layer op a b left right k l first second = (
    λ are. apart-of _ (expr_step writer locals (IExpr-F.Binary op a b)) (read-Binary reader a.tree op b.tree) refl,
    never-this,
    λ mode are all.
        let tests = carried.and-split k l are in
        let split = carried.answered-split writer sees locals (a.references None) (b.references None) all in
        let x = first.2 None tests.0 split.0 in
        let y = second.2 None tests.1 split.1 in (
          exprs.Binary op x.0 y.0,
          ap (λ (r : Reading Id). r.means locals mode) (read-Binary reader a.tree op b.tree)
              ∙ (λ i. mapped (λ (pair : Meant Id × Meant Id). meant reader (exprs.Binary op pair.0.tree pair.1.tree) (binary_type op))
              (both (x.1 i) (y.1 i))),
          say.in_binary x.2 y.2,
          never-this,
        ),
  )

  pub assign-layer : (op : Name) (a b : SpelledExpr) (left right : IExpr) (k l : Bool) → BackAs a left k → BackAs b right l
      → BackAs (expr_step writer locals (IExpr-F.Assign op a b)) (exprs.Assign op left right) (k && l)
  assign-layer op a b left right k l first second = (
    λ are. apart-of _ (expr_step writer locals (IExpr-F.Assign op a b)) (read-Assign reader a.tree op b.tree) refl,
    never-this,
    λ mode are all.
        let tests = carried.and-split k l are in
        let split = carried.answered-split writer sees locals (a.references None) (b.references None) all in
        let x = first.2 None tests.0 split.0 in
        let y = second.2 None tests.1 split.1 in (
          exprs.Assign op x.0 y.0,
          ap (λ (r : Reading Id). r.means locals mode) (read-Assign reader a.tree op b.tree)
              ∙ (λ i. mapped (λ (pair : Meant Id × Meant Id). meant reader (exprs.Assign op pair.0.tree pair.1.tree) pair.0.static_type)
              (both (x.1 i) (y.1 i))),
          say.in_assign x.2 y.2,
          never-this,
        ),
  )

  -- ---- a choice

  pub cond-layer : (test a b : SpelledExpr) (asked left right : IExpr) (j k l : Bool) → BackAs test asked j → BackAs a left k
      → BackAs b right l → BackAs (expr_step writer locals (IExpr-F.Cond test a b)) (exprs.Cond asked left right) (j && (k && l))
  cond-layer test a b asked left right j k l tested first second = (
    λ are. apart-of _ (expr_step writer locals (IExpr-F.Cond test a b)) (read-Cond reader test.tree a.tree b.tree) refl,
    never-this,
    λ mode are all.
        let outer = carried.and-split j (k && l) are in
        let inner = carried.and-split k l outer.1 in
        let split = carried.answered-split writer sees locals (test.references None ++ a.references None) (b.references None) all in
        let front = carried.answered-split writer sees locals (test.references None) (a.references None) split.0 in
        let t = tested.2 None outer.0 front.0 in
        let x = first.2 None inner.0 front.1 in
        let y = second.2 None inner.1 split.1 in (
          exprs.Cond t.0 x.0 y.0,
          ap (λ (r : Reading Id). r.means locals mode) (read-Cond reader test.tree a.tree b.tree)
              ∙ (λ i. mapped (λ (three : Meant Id × (Meant Id × Meant Id)). choice reader three.0 three.1.0 three.1.1)
              (both (t.1 i) (both (x.1 i) (y.1 i))))
              ∙ (λ i. fine (value_of writer sees locals (exprs.Cond t.0 x.0 y.0) false (common (sees.view i) a.static_type b.static_type))),
          say.in_cond t.2 x.2 y.2,
          never-this,
        ),
  )

  -- ---- lists

  pub braces-layer : (items : List With) → BackAs (expr_step writer locals (IExpr-F.Braces (map spelled (exprs_in items))))
      (exprs.Braces (exprs_in items)) (all_kept (map kept (exprs_in items)))
  braces-layer items = (
    λ are. apart-of _ (expr_step writer locals (IExpr-F.Braces (map spelled (exprs_in items))))
        (read-Braces reader (trees_of (map spelled (exprs_in items)))) refl,
    never-this,
    λ mode are all.
        let back = carried.exprs-back writer sees locals items are all in (
          exprs.Braces back.0,
          ap (λ (r : Reading Id). r.means locals mode) (read-Braces reader (trees_of (map spelled (exprs_in items))))
              ∙ ap (mapped (λ items. meant reader (exprs.Braces items) mixed_value)) back.1,
          say.in_braces back.2,
          never-this,
        ),
  )

  -- ---- an index

  pub index-layer : (a i : SpelledExpr) (array index : IExpr) (k l : Bool) → BackAs a array k → BackAs i index l
      → BackAs (expr_step writer locals (IExpr-F.Index a i)) (exprs.Index array index) (k && l)
  index-layer a i array index k l first second = (
    λ are. apart-of _ (expr_step writer locals (IExpr-F.Index a i)) (reads-Index reader 0 a.tree i.tree _ _ refl refl) refl,
    never-this,
    λ mode are all.
        let tests = carried.and-split k l are in
        let split = carried.answered-split writer sees locals (a.references None)
        (plain writer locals index_target (index_asked a.static_type) ∷ i.references None) all in
        let x = first.2 None tests.0 split.0 in
        let y = second.2 None tests.1 split.1.1 in (
          exprs.Index x.0 y.0,
          ap (λ (r : Reading Id). r.means locals mode) (reads-Index reader 0 a.tree i.tree _ _ refl refl)
              ∙ (λ j. beside (y.1 j) (λ index. over (x.1 j) (λ array. index_meant reader 0 array index (index_on array.static_type))))
              ∙ by x.0 y.0 (index_on a.static_type) split.1.0,
          say.in_index x.2 y.2,
          never-this,
        ),
  ) where
    by : (array index : IExpr) (o : OnIndex) → index_answer reader o ≡ Some index_target
        → index_meant reader 0 (value_of writer sees locals array a.is_this a.static_type)
        (Some (value_of writer sees locals index i.is_this i.static_type)) o
        ≡ fine (value_of writer sees locals (exprs.Index array index) false (item a.static_type))
    by array index indexed is = refl
    by array index not_indexed is = absurd cc
    by array index unread_index is = absurd cc

  -- ---- after `super.`

  super-stands : (name : Name) (arity : ℕ) (declared : ViewDeclaration Id Id)
      → super_method reader.view reader.class name arity ≡ found declared → Contains reader.view.declarations declared
  super-stands name arity declared is = ((names_stand Id Id).super_methods reader.view reader.class name arity declared
      (answered-by ((names_answered Id Id).super_methods reader.view reader.class name arity (view-ordered writer sees))
      (found declared) is)).2.stands

  super-reads : (name : Name) (trees : List Expr) (saids : List IExpr) → values_of reader locals (map (reading reader) trees) ≡ fine saids
      → (mode : Mode) → (reading reader (made (node.SuperCall name trees))).means locals mode
      ≡ super_call reader 0 name (Some saids) (super_method reader.view reader.class name (length (map (reading reader) trees)))
  super-reads name trees saids valued mode = ap (λ (r : Reading Id). r.means locals mode) (read-SuperCall reader name trees)
      ∙ ap (λ values. beside values (λ args. super_call reader 0 name args
      (super_method reader.view reader.class name (length (map (reading reader) trees))))) valued

  pub super-layer : (method : Id) (args : List WithArgument)
      → BackAs (expr_step writer locals (IExpr-F.SuperCall method (map spelled_argument (arguments_in args))))
      (exprs.SuperCall method (arguments_in args)) (are_kept writer locals method (map kept_argument (arguments_in args)))
  super-layer method args = (
    λ are. apart-of _ (expr_step writer locals (IExpr-F.SuperCall method (map spelled_argument (arguments_in args))))
        (read-SuperCall reader (name_of writer locals method) (trees_of (map spelled_argument (arguments_in args)))) refl,
    never-this,
    λ mode are all.
        let back = carried.called-back writer sees locals method args are all.1 in
        subst (λ outcome. IsBack writer sees locals outcome false (result_value writer.program method)
        (exprs.SuperCall method (arguments_in args)))
        (sym (super-reads (name_of writer locals method) (trees_of (map spelled_argument (arguments_in args))) back.0 back.1 mode))
        (by back.0 back.2 (super_method reader.view reader.class (name_of writer locals method) count) refl
        (subst (λ n. super_method_answer reader (name_of writer locals method)
        (super_method reader.view reader.class (name_of writer locals method) n) ≡ Some (method_target method))
        (as_many writer sees locals (map spelled_argument (arguments_in args))) all.0)),
  ) where
    count : ℕ
    count = length (map (reading reader) (trees_of (map spelled_argument (arguments_in args))))

    by : (saids : List IExpr) → SaysArguments (with_params (ids_of writer sees locals method) saids) (arguments_in args)
        → (f : Found (ViewDeclaration Id Id)) → super_method reader.view reader.class (name_of writer locals method) count ≡ f
        → super_method_answer reader (name_of writer locals method) f ≡ Some (method_target method)
        → IsBack writer sees locals (super_call reader 0 (name_of writer locals method) (Some saids) f) false
        (result_value writer.program method) (exprs.SuperCall method (arguments_in args))
    by saids says (found declared) at is = by_kind (is_static_kind declared.kind) is where
      by_kind : (b : Bool) → (if b then None else Some (method_of reader declared)) ≡ Some (method_target method)
          → IsBack writer sees locals (if b then refused static_by_instance 0
          else fine (value_of writer sees locals (exprs.SuperCall (reader.ids.method_id declared) (arguments_of reader declared saids))
          false (of_type declared.result))) false (result_value writer.program method) (exprs.SuperCall method (arguments_in args))
      by_kind true is = absurd cc
      by_kind false is =
          let same : reader.ids.method_id declared ≡ method = cc in
          let stands = super-stands (name_of writer locals method) count declared at in (
            exprs.SuperCall (reader.ids.method_id declared) (arguments_of reader declared saids),
            ap (λ type. fine (value_of writer sees locals
                (exprs.SuperCall (reader.ids.method_id declared) (arguments_of reader declared saids)) false type))
                (result-is writer sees locals declared method stands same),
            subst (λ method. Says (exprs.SuperCall (reader.ids.method_id declared) (arguments_of reader declared saids))
                (exprs.SuperCall method (arguments_in args))) same
                (say.in_super_call (args-are writer sees locals declared method saids (arguments_in args) stands same says)),
            never-this,
          )
    by saids says outside at is = absurd cc
    by saids says not_found at is = absurd cc

  pub outside-super-layer : (name : Name) (args : List With)
      → BackAs (expr_step writer locals (IExpr-F.OutsideSuperCall name (map spelled (exprs_in args))))
      (exprs.OutsideSuperCall name (exprs_in args)) (all_kept (map kept (exprs_in args)))
  outside-super-layer name args = (
    λ are. apart-of _ (expr_step writer locals (IExpr-F.OutsideSuperCall name (map spelled (exprs_in args))))
        (read-SuperCall reader name (trees_of (map spelled (exprs_in args)))) refl,
    never-this,
    λ mode are all.
        let back = carried.exprs-back writer sees locals args are all.1 in
        subst (λ outcome. IsBack writer sees locals outcome false outside_value (exprs.OutsideSuperCall name (exprs_in args)))
        (sym (super-reads name (trees_of (map spelled (exprs_in args))) back.0 back.1 mode))
        (by back.0 back.2 (super_method reader.view reader.class name count)
        (subst (λ n. super_method_answer reader name (super_method reader.view reader.class name n) ≡ Some (outside_target name))
        (as_many writer sees locals (map spelled (exprs_in args))) all.0)),
  ) where
    count : ℕ
    count = length (map (reading reader) (trees_of (map spelled (exprs_in args))))

    by : (saids : List IExpr) → SaysAll saids (exprs_in args) → (f : Found (ViewDeclaration Id Id))
        → super_method_answer reader name f ≡ Some (outside_target name)
        → IsBack writer sees locals (super_call reader 0 name (Some saids) f) false outside_value
        (exprs.OutsideSuperCall name (exprs_in args))
    by saids says (found declared) is = by_kind (is_static_kind declared.kind) is where
      by_kind : (b : Bool) → (if b then None else Some (method_of reader declared)) ≡ Some (outside_target name)
          → IsBack writer sees locals (super_call reader 0 name (Some saids) (found declared)) false outside_value
          (exprs.OutsideSuperCall name (exprs_in args))
      by_kind true is = absurd cc
      by_kind false is = absurd cc
    by saids says outside is = (exprs.OutsideSuperCall name saids, refl, say.in_outside_super_call says, never-this)
    by saids says not_found is = absurd cc
