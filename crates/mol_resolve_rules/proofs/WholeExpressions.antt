-- What an expression reads as has a value where it has no fault.
use Rattle.std.proofs.Common.{◌≡◌, ℕ, ◌+◌, true, false, List, [], ◌∷◌, map, length, Some, None, refl, sym, ◌∙◌, ap, subst}
use Rattle.jav_tree.specs.declared.expr.Expr.{Expr}
use Rattle.jav_tree.specs.declared.expr.ExprNode.{ExprNode, fold-ExprNode}
use Rattle.jav_tree.specs.declared.expr.ExprNode.TheFolds.{fold-roll-ExprNode, fold-roll-Expr, ind-Expr, map-ExprNode, map-Expr}
use Rattle.jav_tree.specs.declared.expr.ExprNode.TheOpen.{ExprNode-F, Expr-F}
use Rattle.jav_tree.specs.declared.expr.ExprNode.TheViews.{roll-ExprNode, roll-Expr}
use Rattle.jav_tree.specs.declared.types.TypeName.{TypeName}
use Rattle.jav_names.specs.DottedNames.{Name, Names}
use Rattle.jav_names.specs.LookUps.{field_on, method_on, index_on, method_from, super_method, method_through}
use Rattle.jav_names.specs.OnValues.{primitive_value, mixed_value, class_value}
use Rattle.jav_names.specs.StaticTypes.{of_type, of_literal, is_unread}
use Rattle.mol_resolve_rules.specs.FaultKinds.{unknown_member}
use Rattle.mol_resolve_rules.specs.Locals.{Locals}
use Rattle.mol_resolve_rules.specs.Outcomes.{mapped, over, both, put_first, all}
use Rattle.mol_resolve_rules.specs.Readers.{Reader}
use Rattle.mol_resolve_rules.specs.ReadTrees.{Meant, Mode, Reading, longer, ClassPath, whole_path, front_path, no_path, path_of, arrays, unary_type, binary_type, meant, alone, values_of, field_meant, dot_meant, call_here, call_through, call_on, call_meant, super_call, created, index_meant, choice, node_step, expr_step, reading, read_expr}
use Rattle.mol_resolve_rules.specs.ReadTypes.{ReadType, read_type}
use Rattle.mol_values_types.specs.declared.iexpr.IExpr.{IExpr}
use Rattle.mol_values_types.specs.declared.iexpr.IExpr.TheVariants as exprs
use Rattle.mol_resolve_rules.proofs.KnownTypes.{IsRead, type-whole, known-of_type, known-arrays, known-of_literal, known-unary, known-binary, known-common}
use Rattle.mol_resolve_rules.proofs.Whole.{IsWhole, Any, whole-fine, whole-refused, whole-mapped, whole-both, whole-over, whole-beside}
use Rattle.mol_resolve_rules.proofs.WholeNames.{ReadsKnown, KnownLocals, IsKnown, whole-valued, whole-name_alone, whole-name_before, never_front, never_front_of_call, whole-static_field, whole-field_on, whole-call_here, whole-call_through, whole-call_on, whole-super_call, whole-created, whole-index}

module _ {C M : Type 0} (reader : Reader C M) (known : ReadsKnown reader) where
  -- It has a value where it has no fault: alone, and before a dot where it is neither a class nor a front of the full name of one.
  pub record ReadsWhole (r : Reading C) : Type 0 where
    pub by_itself : (locals : Locals C) → KnownLocals locals → IsWhole (IsKnown reader known) (r.means locals None)
    pub before_dot : (locals : Locals C) → KnownLocals locals → (follow : Names) → path_of reader locals r.names follow ≡ no_path
        → IsWhole (IsKnown reader known) (r.means locals (Some follow))

  -- what stands in the same way alone and before a dot
  in_either_way : (r : Reading C)
      → ((locals : Locals C) → KnownLocals locals → (mode : Mode) → IsWhole (IsKnown reader known) (r.means locals mode)) → ReadsWhole r
  in_either_way r whole = record {
    by_itself = λ locals all. whole locals all None;
    before_dot = λ locals all follow none. whole locals all (Some follow);
  }

  abbrev Whole : Expr → Type 0
  Whole e = ReadsWhole (reading reader e)

  abbrev node_reading : ExprNode → ℕ → Reading C
  node_reading = fold-ExprNode (ℕ → Reading C) (Reading C) (node_step reader) (expr_step reader)

  abbrev WholeNode : ExprNode → Type 0
  WholeNode n = (at : ℕ) → ReadsWhole (node_reading n at)

  abbrev With : Type 0
  With = (e : Expr) × Whole e

  abbrev parts : List With → List (Reading C)
  parts es = map (reading reader) (map (λ p. p.0) es)

  -- ---- parts

  abbrev tree_of : Meant C → IExpr
  tree_of value = value.tree

  module _ (locals : Locals C) (all_known : KnownLocals locals) where
    whole-alone : (e : With) → IsWhole (IsKnown reader known) (alone reader locals (reading reader e.0))
    whole-alone e = e.1.by_itself locals all_known

    whole-values : (es : List With) → IsWhole Any (values_of reader locals (parts es))
    whole-values [] = whole-fine Any [] tt
    whole-values (e ∷ es) = whole-mapped (λ (pair : IExpr × List IExpr). Any pair.0 × Any pair.1) Any put_first
        (both (mapped (λ (value : Meant C). value.tree) (alone reader locals (reading reader e.0))) (values_of reader locals (parts es)))
        (whole-both Any Any (mapped (λ (value : Meant C). value.tree) (alone reader locals (reading reader e.0)))
        (values_of reader locals (parts es))
        (whole-mapped (IsKnown reader known) Any (λ (value : Meant C). value.tree) (alone reader locals (reading reader e.0))
        (whole-alone e)
        (λ value is. tt)) (whole-values es)) (λ pair is. tt)

  -- ---- names with dots

  whole-Name : (name : Name) (at : ℕ) → ReadsWhole (node_step reader (ExprNode-F.Name name) at)
  whole-Name name at = record {
    by_itself = λ locals all. whole-name_alone reader known locals all at name;
    before_dot = λ locals all follow none. whole-name_before reader known locals all name follow none;
  }

  module _ (e : With) (name : Name) (at : ℕ) where
    abbrev path : Locals C → Names → ClassPath C
    path locals follow = path_of reader locals (reading reader e.0).names (name ∷ follow)

    -- the same in both ways, but for a front of a class's full name
    whole-no_path : (locals : Locals C) → KnownLocals locals → (follow : Names) → path locals follow ≡ no_path
        → IsWhole (IsKnown reader known) (over ((reading reader e.0).means locals (Some (name ∷ follow)))
        (λ value. field_meant reader at name value (field_on reader.view name value.static_type)))
    whole-no_path locals all follow none = whole-over (IsKnown reader known) (IsKnown reader known)
        ((reading reader e.0).means locals (Some (name ∷ follow)))
        (λ value. field_meant reader at name value (field_on reader.view name value.static_type))
        (e.1.before_dot locals all (name ∷ follow) none) (λ value is. whole-field_on reader known at name value is)

    dot-alone : (locals : Locals C) → KnownLocals locals → (p : ClassPath C) → path locals [] ≡ p
        → IsWhole (IsKnown reader known) (dot_meant reader at name None ((reading reader e.0).means locals (Some (name ∷ []))) p)
    dot-alone locals all (whole_path class) is = whole-static_field reader known at name class
    dot-alone locals all front_path is = whole-refused (IsKnown reader known) unknown_member at
    dot-alone locals all no_path is = whole-no_path locals all [] is

    dot-before : (locals : Locals C) → KnownLocals locals → (follow : Names)
        → path_of reader locals (longer name (reading reader e.0).names) follow ≡ no_path → (p : ClassPath C) → path locals follow ≡ p
        → IsWhole (IsKnown reader known)
        (dot_meant reader at name (Some follow) ((reading reader e.0).means locals (Some (name ∷ follow))) p)
    dot-before locals all follow none (whole_path class) is = whole-static_field reader known at name class
    dot-before locals all follow none front_path is =
        absurd (never_front reader known locals all (reading reader e.0).names name follow is none)
    dot-before locals all follow none no_path is = whole-no_path locals all follow is

    whole-Dot : ReadsWhole (node_step reader (ExprNode-F.Dot (reading reader e.0) name) at)
    whole-Dot = record {
      by_itself = λ locals all. dot-alone locals all (path locals []) refl;
      before_dot = λ locals all follow none. dot-before locals all follow none (path locals follow) refl;
    }

  -- ---- calls and creations

  whole-Call : (name : Name) (args : List With) (at : ℕ) → ReadsWhole (node_step reader (ExprNode-F.Call None name (parts args)) at)
  whole-Call name args at = in_either_way (node_step reader (ExprNode-F.Call None name (parts args)) at)
      (λ locals all mode. whole-beside Any (IsKnown reader known) (values_of reader locals (parts args))
      (λ values. call_here reader at name values (method_from reader.view reader.class name (length (parts args))))
      (whole-values locals all args) (λ values is. whole-call_here reader known at name values reader.class (length (parts args))))

  module _ (e : With) (name : Name) (args : List With) (at : ℕ) where
    call-on : (locals : Locals C) → KnownLocals locals → (p : ClassPath C) → path_of reader locals (reading reader e.0).names [] ≡ p
        → IsWhole (IsKnown reader known)
        (call_meant reader at name (length (parts args)) ((reading reader e.0).means locals (Some []))
        (values_of reader locals (parts args)) p)
    call-on locals all (whole_path class) is = whole-beside Any (IsKnown reader known) (values_of reader locals (parts args))
        (λ values. call_through reader at values (method_through reader.view class name (length (parts args))))
        (whole-values locals all args)
        (λ values is. whole-call_through reader known at name values class (length (parts args)))
    call-on locals all front_path is = absurd (never_front_of_call reader known locals all (reading reader e.0).names is)
    call-on locals all no_path is = whole-beside Any (IsKnown reader known) (values_of reader locals (parts args))
        (λ values. over ((reading reader e.0).means locals (Some []))
        (λ value. call_on reader at name value values (method_on reader.view name (length (parts args)) value.static_type)))
        (whole-values locals all args)
        (λ values are. whole-over (IsKnown reader known) (IsKnown reader known) ((reading reader e.0).means locals (Some []))
        (λ value. call_on reader at name value (Some values) (method_on reader.view name (length (parts args)) value.static_type))
        (e.1.before_dot locals all [] is)
        (λ value is. whole-call_on reader known at name value is values (length (parts args))))

    whole-CallOn : ReadsWhole (node_step reader (ExprNode-F.Call (Some (reading reader e.0)) name (parts args)) at)
    whole-CallOn = in_either_way (node_step reader (ExprNode-F.Call (Some (reading reader e.0)) name (parts args)) at)
        (λ locals all mode. call-on locals all (path_of reader locals (reading reader e.0).names []) refl)

  whole-SuperCall : (name : Name) (args : List With) (at : ℕ) → ReadsWhole (node_step reader (ExprNode-F.SuperCall name (parts args)) at)
  whole-SuperCall name args at = in_either_way (node_step reader (ExprNode-F.SuperCall name (parts args)) at)
      (λ locals all mode. whole-beside Any (IsKnown reader known) (values_of reader locals (parts args))
      (λ values. super_call reader at name values (super_method reader.view reader.class name (length (parts args))))
      (whole-values locals all args) (λ values is. whole-super_call reader known at name values reader.class (length (parts args))))

  -- a type, and values
  whole-typed : (type : TypeName) (es : List With) (at : ℕ) (locals : Locals C) → KnownLocals locals
      → IsWhole (λ (pair : ReadType C × List IExpr). IsRead reader type pair.0 × Any pair.1)
      (both (read_type reader at type) (values_of reader locals (parts es)))
  whole-typed type es at locals all = whole-both (IsRead reader type) Any (read_type reader at type) (values_of reader locals (parts es))
      (type-whole reader at type) (whole-values locals all es)

  abbrev IsReadWith : TypeName → ReadType C × List IExpr → Type 0
  IsReadWith type pair = IsRead reader type pair.0 × Any pair.1

  whole-New : (type : TypeName) (args : List With) (at : ℕ) → ReadsWhole (node_step reader (ExprNode-F.New type (parts args)) at)
  whole-New type args at = in_either_way (node_step reader (ExprNode-F.New type (parts args)) at)
      (λ locals all mode. whole-beside Any (IsKnown reader known) (values_of reader locals (parts args))
      (λ values. over (read_type reader at type) (λ read. created reader at (length (parts args)) read values read.type))
      (whole-values locals all args)
      (λ values are. whole-over (IsRead reader type) (IsKnown reader known) (read_type reader at type)
      (λ read. created reader at (length (parts args)) read (Some values) read.type) (type-whole reader at type)
      (λ read is. whole-created reader known at (length (parts args)) read values read.type)))

  read-known : (type : TypeName) (read : ReadType C) → IsRead reader type read → is_unread read.type ≡ false
  read-known type read is = ap is_unread is.seen ∙ is.known

  whole-NewArray : (type : TypeName) (sizes : List With) (pairs at : ℕ)
      → ReadsWhole (node_step reader (ExprNode-F.NewArray type (parts sizes) pairs) at)
  whole-NewArray type sizes pairs at = in_either_way (node_step reader (ExprNode-F.NewArray type (parts sizes) pairs) at)
      (λ locals all mode. whole-mapped (IsReadWith type) (IsKnown reader known)
      (λ (made : ReadType C × List IExpr). meant reader (exprs.NewArray made.0.tree made.1 pairs)
      (of_type (arrays (length (parts sizes) + pairs) made.0.type)))
      (both (read_type reader at type) (values_of reader locals (parts sizes))) (whole-typed type sizes at locals all)
      (λ made is. known-of_type (arrays (length (parts sizes) + pairs) made.0.type)
      (known-arrays (length (parts sizes) + pairs) made.0.type (read-known type made.0 is.0))))

  whole-ArrayLit : (type : TypeName) (items : List With) (at : ℕ)
      → ReadsWhole (node_step reader (ExprNode-F.ArrayLit type (parts items)) at)
  whole-ArrayLit type items at = in_either_way (node_step reader (ExprNode-F.ArrayLit type (parts items)) at)
      (λ locals all mode. whole-mapped (IsReadWith type) (IsKnown reader known)
      (λ (made : ReadType C × List IExpr). meant reader (exprs.ArrayLit made.0.tree made.1) (of_type made.0.type))
      (both (read_type reader at type) (values_of reader locals (parts items))) (whole-typed type items at locals all)
      (λ made is. known-of_type made.0.type (read-known type made.0 is.0)))

  whole-Braces : (items : List With) (at : ℕ) → ReadsWhole (node_step reader (ExprNode-F.Braces (parts items)) at)
  whole-Braces items at = in_either_way (node_step reader (ExprNode-F.Braces (parts items)) at)
      (λ locals all mode. whole-mapped Any (IsKnown reader known) (λ items. meant reader (exprs.Braces items) mixed_value)
      (values_of reader locals (parts items)) (whole-values locals all items) (λ items is. refl))

  -- ---- operators

  abbrev BothKnown : Meant C × Meant C → Type 0
  BothKnown pair = IsKnown reader known pair.0 × IsKnown reader known pair.1

  whole-two : (a b : With) (locals : Locals C) → KnownLocals locals
      → IsWhole BothKnown (both (alone reader locals (reading reader a.0)) (alone reader locals (reading reader b.0)))
  whole-two a b locals all = whole-both (IsKnown reader known) (IsKnown reader known) (alone reader locals (reading reader a.0))
      (alone reader locals (reading reader b.0)) (whole-alone locals all a) (whole-alone locals all b)

  whole-Index : (e i : With) (at : ℕ) → ReadsWhole (node_step reader (ExprNode-F.Index (reading reader e.0) (reading reader i.0)) at)
  whole-Index e i at = in_either_way (node_step reader (ExprNode-F.Index (reading reader e.0) (reading reader i.0)) at)
      (λ locals all mode. whole-beside (IsKnown reader known) (IsKnown reader known) (alone reader locals (reading reader i.0))
      (λ index. over (alone reader locals (reading reader e.0)) (λ array. index_meant reader at array index (index_on array.static_type)))
      (whole-alone locals all i)
      (λ index known-index. whole-over (IsKnown reader known) (IsKnown reader known) (alone reader locals (reading reader e.0))
      (λ array. index_meant reader at array (Some index) (index_on array.static_type)) (whole-alone locals all e)
      (λ array is. whole-index reader known at array index is)))

  whole-Unary : (op : Name) (e : With) (at : ℕ) → ReadsWhole (node_step reader (ExprNode-F.Unary op (reading reader e.0)) at)
  whole-Unary op e at = in_either_way (node_step reader (ExprNode-F.Unary op (reading reader e.0)) at)
      (λ locals all mode. whole-mapped (IsKnown reader known) (IsKnown reader known)
      (λ (value : Meant C). meant reader (exprs.Unary op value.tree) (unary_type op value.static_type))
      (alone reader locals (reading reader e.0))
      (whole-alone locals all e) (λ value is. known-unary op value.static_type is))

  whole-Post : (op : Name) (e : With) (at : ℕ) → ReadsWhole (node_step reader (ExprNode-F.Post (reading reader e.0) op) at)
  whole-Post op e at = in_either_way (node_step reader (ExprNode-F.Post (reading reader e.0) op) at)
      (λ locals all mode. whole-mapped (IsKnown reader known) (IsKnown reader known)
      (λ (value : Meant C). meant reader (exprs.Post op value.tree) value.static_type) (alone reader locals (reading reader e.0))
      (whole-alone locals all e) (λ value is. is))

  whole-Binary : (op : Name) (a b : With) (at : ℕ) → ReadsWhole (node_step reader
      (ExprNode-F.Binary (reading reader a.0) op (reading reader b.0)) at)
  whole-Binary op a b at = in_either_way (node_step reader (ExprNode-F.Binary (reading reader a.0) op (reading reader b.0)) at)
      (λ locals all mode. whole-mapped BothKnown (IsKnown reader known)
      (λ (pair : Meant C × Meant C). meant reader (exprs.Binary op pair.0.tree pair.1.tree) (binary_type op))
      (both (alone reader locals (reading reader a.0)) (alone reader locals (reading reader b.0))) (whole-two a b locals all)
      (λ pair is. known-binary C op))

  whole-Assign : (op : Name) (a b : With) (at : ℕ) → ReadsWhole (node_step reader
      (ExprNode-F.Assign (reading reader a.0) op (reading reader b.0)) at)
  whole-Assign op a b at = in_either_way (node_step reader (ExprNode-F.Assign (reading reader a.0) op (reading reader b.0)) at)
      (λ locals all mode. whole-mapped BothKnown (IsKnown reader known)
      (λ (pair : Meant C × Meant C). meant reader (exprs.Assign op pair.0.tree pair.1.tree) pair.0.static_type)
      (both (alone reader locals (reading reader a.0)) (alone reader locals (reading reader b.0))) (whole-two a b locals all)
      (λ pair is. is.0))

  whole-Cond : (test a b : With) (at : ℕ)
      → ReadsWhole (node_step reader (ExprNode-F.Cond (reading reader test.0) (reading reader a.0) (reading reader b.0)) at)
  whole-Cond test a b at = in_either_way
      (node_step reader (ExprNode-F.Cond (reading reader test.0) (reading reader a.0) (reading reader b.0)) at)
      (λ locals all mode. whole-mapped (λ (three : Meant C × (Meant C × Meant C)). IsKnown reader known three.0 × BothKnown three.1)
      (IsKnown reader known) (λ (three : Meant C × (Meant C × Meant C)). choice reader three.0 three.1.0 three.1.1)
      (both (alone reader locals (reading reader test.0))
      (both (alone reader locals (reading reader a.0)) (alone reader locals (reading reader b.0))))
      (whole-both (IsKnown reader known) BothKnown (alone reader locals (reading reader test.0))
      (both (alone reader locals (reading reader a.0)) (alone reader locals (reading reader b.0))) (whole-alone locals all test)
      (whole-two a b locals all))
      (λ three is. known-common reader.view three.1.0.static_type three.1.1.static_type is.1.0 is.1.1))

  whole-Cast : (type : TypeName) (e : With) (at : ℕ) → ReadsWhole (node_step reader (ExprNode-F.Cast type (reading reader e.0)) at)
  whole-Cast type e at = in_either_way (node_step reader (ExprNode-F.Cast type (reading reader e.0)) at)
      (λ locals all mode. whole-mapped (λ (pair : ReadType C × Meant C). IsRead reader type pair.0 × IsKnown reader known pair.1)
      (IsKnown reader known) (λ (pair : ReadType C × Meant C). meant reader (exprs.Cast pair.0.tree pair.1.tree) (of_type pair.0.type))
      (both (read_type reader at type) (alone reader locals (reading reader e.0)))
      (whole-both (IsRead reader type) (IsKnown reader known) (read_type reader at type) (alone reader locals (reading reader e.0))
      (type-whole reader at type) (whole-alone locals all e)) (λ pair is. known-of_type pair.0.type (read-known type pair.0 is.0)))

  whole-InstanceOf : (e : With) (type : TypeName) (at : ℕ) → ReadsWhole (node_step reader
      (ExprNode-F.InstanceOf (reading reader e.0) type) at)
  whole-InstanceOf e type at = in_either_way (node_step reader (ExprNode-F.InstanceOf (reading reader e.0) type) at)
      (λ locals all mode. whole-mapped (λ (pair : Meant C × ReadType C). IsKnown reader known pair.0 × IsRead reader type pair.1)
      (IsKnown reader known) (λ (pair : Meant C × ReadType C). meant reader (exprs.InstanceOf pair.0.tree pair.1.tree) primitive_value)
      (both (alone reader locals (reading reader e.0)) (read_type reader at type))
      (whole-both (IsKnown reader known) (IsRead reader type) (alone reader locals (reading reader e.0)) (read_type reader at type)
      (whole-alone locals all e) (type-whole reader at type)) (λ pair is. refl))

  -- ---- all expressions

  from : (x : ExprNode-F ExprNode Expr)
      → ((at : ℕ) → ReadsWhole (node_step reader (map-ExprNode _ _ _ _ node_reading (reading reader) x) at)) → WholeNode (roll-ExprNode x)
  from x whole at = subst (λ (made : ℕ → Reading C). ReadsWhole (made at))
      (sym (fold-roll-ExprNode (ℕ → Reading C) (Reading C) (node_step reader) (expr_step reader) x)) (whole at)

  layer : (y : ExprNode-F ((n : ExprNode) × WholeNode n) With) → WholeNode (roll-ExprNode (map-ExprNode _ _ _ _ (λ p. p.0) (λ p. p.0) y))
  layer (ExprNode-F.Lit text) = from (ExprNode-F.Lit text) (λ at. in_either_way (node_step reader (ExprNode-F.Lit text) at)
      (λ locals all mode. whole-valued reader known (exprs.Lit text) (of_literal text) (known-of_literal C text)))
  layer ExprNode-F.This = from ExprNode-F.This (λ at. in_either_way (node_step reader ExprNode-F.This at)
      (λ locals all mode. whole-fine (IsKnown reader known)
      (record { tree = exprs.This; is_this = true; static_type = class_value reader.class }) refl))
  layer (ExprNode-F.Name name) = from (ExprNode-F.Name name) (λ at. whole-Name name at)
  layer (ExprNode-F.Dot e name) = from (ExprNode-F.Dot e.0 name) (λ at. whole-Dot e name at)
  layer (ExprNode-F.Call None name args) = from (ExprNode-F.Call None name (map (λ p. p.0) args)) (λ at. whole-Call name args at)
  layer (ExprNode-F.Call (Some e) name args) = from (ExprNode-F.Call (Some e.0) name (map (λ p. p.0) args))
      (λ at. whole-CallOn e name args at)
  layer (ExprNode-F.SuperCall name args) = from (ExprNode-F.SuperCall name (map (λ p. p.0) args)) (λ at. whole-SuperCall name args at)
  layer (ExprNode-F.New type args) = from (ExprNode-F.New type (map (λ p. p.0) args)) (λ at. whole-New type args at)
  layer (ExprNode-F.NewArray type sizes pairs) =
      from (ExprNode-F.NewArray type (map (λ p. p.0) sizes) pairs) (λ at. whole-NewArray type sizes pairs at)
  layer (ExprNode-F.ArrayLit type items) = from (ExprNode-F.ArrayLit type (map (λ p. p.0) items)) (λ at. whole-ArrayLit type items at)
  layer (ExprNode-F.Braces items) = from (ExprNode-F.Braces (map (λ p. p.0) items)) (λ at. whole-Braces items at)
  layer (ExprNode-F.Index e i) = from (ExprNode-F.Index e.0 i.0) (λ at. whole-Index e i at)
  layer (ExprNode-F.Unary op e) = from (ExprNode-F.Unary op e.0) (λ at. whole-Unary op e at)
  layer (ExprNode-F.Post e op) = from (ExprNode-F.Post e.0 op) (λ at. whole-Post op e at)
  layer (ExprNode-F.Binary a op b) = from (ExprNode-F.Binary a.0 op b.0) (λ at. whole-Binary op a b at)
  layer (ExprNode-F.Assign a op b) = from (ExprNode-F.Assign a.0 op b.0) (λ at. whole-Assign op a b at)
  layer (ExprNode-F.Cond test a b) = from (ExprNode-F.Cond test.0 a.0 b.0) (λ at. whole-Cond test a b at)
  layer (ExprNode-F.Cast type e) = from (ExprNode-F.Cast type e.0) (λ at. whole-Cast type e at)
  layer (ExprNode-F.InstanceOf e type) = from (ExprNode-F.InstanceOf e.0 type) (λ at. whole-InstanceOf e type at)
  layer (ExprNode-F.Paren e) = from (ExprNode-F.Paren e.0)
      (λ at. in_either_way (node_step reader (ExprNode-F.Paren (reading reader e.0)) at)
      (λ locals all mode. whole-alone locals all e))

  placed : (y : Expr-F ((n : ExprNode) × WholeNode n) With) → Whole (roll-Expr (map-Expr _ _ _ _ (λ p. p.0) (λ p. p.0) y))
  placed y = subst ReadsWhole
      (sym (fold-roll-Expr (ℕ → Reading C) (Reading C) (node_step reader) (expr_step reader) (record { at = y.at; node = y.node.0 })))
      (y.node.1 y.at)

  all_whole : (e : Expr) → Whole e
  all_whole = ind-Expr WholeNode Whole (λ x y is. subst (λ z. WholeNode (roll-ExprNode z)) is (layer y))
      (λ x y is. subst (λ z. Whole (roll-Expr z)) is (placed y))

  pub whole-read_expr : (locals : Locals C) → KnownLocals locals → (e : Expr) → IsWhole Any (read_expr reader locals e)
  whole-read_expr locals all e = whole-mapped (IsKnown reader known) Any (λ (value : Meant C). value.tree)
      (alone reader locals (reading reader e))
      ((all_whole e).by_itself locals all) (λ value is. tt)
