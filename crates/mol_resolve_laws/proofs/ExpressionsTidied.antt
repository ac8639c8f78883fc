-- What an expression reads as stays as it is when it is tidied.
use Rattle.std.proofs.Common.{◌≡◌, ℕ, suc, ◌+◌, true, List, [], ◌∷◌, map, length, Option, Some, None, refl, sym, ◌∙◌, ap, subst}
use Rattle.jav_tree.specs.declared.expr.Expr.{Expr}
use Rattle.jav_tree.specs.declared.expr.ExprNode.{ExprNode, fold-ExprNode}
use Rattle.jav_tree.specs.declared.expr.ExprNode.TheFolds.{fold-roll-ExprNode, fold-roll-Expr, ind-Expr, map-ExprNode, map-Expr}
use Rattle.jav_tree.specs.declared.expr.ExprNode.TheOpen.{ExprNode-F, Expr-F}
use Rattle.jav_tree.specs.declared.expr.ExprNode.TheViews.{roll-ExprNode, roll-Expr}
use Rattle.jav_tree.specs.declared.types.TypeName.{TypeName}
use Rattle.jav_names.specs.DottedNames.{Name}
use Rattle.jav_names.specs.LookUps.{field_on, method_on, index_on, field_through, method_from, super_method, method_through}
use Rattle.jav_names.specs.OnValues.{primitive_value, mixed_value, class_value}
use Rattle.jav_names.specs.StaticTypes.{of_type, of_literal}
use Rattle.mol_base.specs.declared.ident.Id.{Id}
use Rattle.mol_resolve_rules.specs.Locals.{Locals}
use Rattle.mol_resolve_rules.specs.Outcomes.{Outcome, mapped, over, beside, both, put_first}
use Rattle.mol_resolve_rules.specs.Readers.{Reader}
use Rattle.mol_resolve_rules.specs.ReadTrees.{Meant, Mode, before, followers, Reading, ClassPath, whole_path, front_path, no_path, path_of, arrays, unary_type, binary_type, meant, alone, values_of, field_meant, dot_meant, call_here, call_through, call_on, call_meant, super_call, created, index_meant, choice, node_step, expr_step, reading, read_expr}
use Rattle.mol_resolve_rules.specs.ReadTypes.{ReadType, read_type}
use Rattle.mol_values_types.specs.declared.iexpr.IExpr.{IExpr}
use Rattle.mol_values_types.specs.declared.iexpr.IExpr.TheVariants as exprs
use Rattle.mol_values_types.specs.declared.param.Param.{Param}
use Rattle.mol_resolve_laws.proofs.Gives.{Gives, gives-fine, gives-silent, gives-mapped, gives-both, gives-over, gives-beside}
use Rattle.mol_resolve_laws.proofs.NamesTidied.{ReadsTidily, Tidied, Listed, gives-valued, gives-name, gives-static_field, gives-front, gives-field_on, gives-index, gives-call_here, gives-call_through, gives-call_on, gives-super_call, gives-created}
use Rattle.mol_resolve_laws.proofs.TreesTidied.{IsTidied, tidied-Lit, tidied-This, tidied-Unary, tidied-Post, tidied-Cast, tidied-InstanceOf, tidied-Binary, tidied-Assign, tidied-Cond, tidied-Braces, tidied-ArrayLit, tidied-NewArray}
use Rattle.mol_resolve_laws.proofs.TypesRight.{IsReadRightly, type-gives, seen-stands}

module _ {C M : Type 0} (present : Id → List Param) (bare : Id → Option Id) (reader : Reader C M)
    (tidy : ReadsTidily present bare reader) where
  abbrev Value : Meant C → Type 0
  Value = Tidied present bare reader tidy

  abbrev Values : ℕ → List IExpr → Type 0
  Values = Listed present bare reader tidy

  abbrev Typed : TypeName → ReadType C → Type 0
  Typed = IsReadRightly (λ mention. true) reader tidy.rightly

  -- in each place and either way it gives what is tidied
  abbrev GivesTidied : Reading C → Type 0
  GivesTidied r = (locals : Locals C) (mode : Mode) → Gives Value (r.means locals mode)

  abbrev node_reading : ExprNode → ℕ → Reading C
  node_reading = fold-ExprNode (ℕ → Reading C) (Reading C) (node_step reader) (expr_step reader)

  abbrev NodeTidied : ExprNode → Type 0
  NodeTidied n = (at : ℕ) → GivesTidied (node_reading n at)

  abbrev ExprTidied : Expr → Type 0
  ExprTidied e = GivesTidied (reading reader e)

  abbrev With : Type 0
  With = (e : Expr) × ExprTidied e

  abbrev trees : List With → List Expr
  trees es = map (λ p. p.0) es

  abbrev parts : List With → List (Reading C)
  parts es = map (reading reader) (trees es)

  -- ---- parts

  module _ (locals : Locals C) where
    gives-alone : (e : With) → Gives Value (alone reader locals (reading reader e.0))
    gives-alone e = e.1 locals None

    abbrev tree_read : With → Outcome IExpr
    tree_read e = mapped (λ (value : Meant C). value.tree) (alone reader locals (reading reader e.0))

    gives-values : (es : List With) → Gives (Values (length (parts es))) (values_of reader locals (parts es))
    gives-values [] = gives-fine (Values 0) [] (record { each = tt {0}; as_many = refl })
    gives-values (e ∷ es) = gives-mapped (λ (pair : IExpr × List IExpr). IsTidied present bare pair.0 × Values (length (parts es)) pair.1)
        (Values (length (parts (e ∷ es)))) put_first (both (tree_read e) (values_of reader locals (parts es)))
        (gives-both (IsTidied present bare) (Values (length (parts es))) (tree_read e) (values_of reader locals (parts es))
        (gives-mapped Value (IsTidied present bare) (λ (value : Meant C). value.tree) (alone reader locals (reading reader e.0))
        (gives-alone e) (λ value is. is))
        (gives-values es))
        (λ pair is. record { each = (is.0, is.1.each); as_many = ap suc is.1.as_many })

    -- with the values that there are
    with-values : (es : List With) (make : Option (List IExpr) → Outcome (Meant C))
        → ((args : Option (List IExpr)) → ((values : List IExpr) → args ≡ Some values → Values (length (parts es)) values)
        → Gives Value (make args)) → Gives Value (beside (values_of reader locals (parts es)) make)
    with-values es make each =
        gives-beside (Values (length (parts es))) Value (values_of reader locals (parts es)) make (gives-values es) each

    gives-typed : (at : ℕ) (type : TypeName) (es : List With)
        → Gives (λ (pair : ReadType C × List IExpr). Typed type pair.0 × Values (length (parts es)) pair.1)
        (both (read_type reader at type) (values_of reader locals (parts es)))
    gives-typed at type es = gives-both (Typed type) (Values (length (parts es))) (read_type reader at type)
        (values_of reader locals (parts es)) (type-gives (λ mention. true) reader tidy.rightly at type) (gives-values es)

    gives-two : (a b : With) → Gives (λ (pair : Meant C × Meant C). Value pair.0 × Value pair.1)
        (both (alone reader locals (reading reader a.0)) (alone reader locals (reading reader b.0)))
    gives-two a b = gives-both Value Value (alone reader locals (reading reader a.0)) (alone reader locals (reading reader b.0))
        (gives-alone a) (gives-alone b)

  -- ---- names with dots, calls and creations

  gives-dot : (e : With) (name : Name) (at : ℕ) (locals : Locals C) (mode : Mode) (p : ClassPath C)
      → Gives Value (dot_meant reader at name mode ((reading reader e.0).means locals (before name mode)) p)
  gives-dot e name at locals mode (whole_path class) =
      gives-static_field present bare reader tidy at (field_through reader.view class name)
  gives-dot e name at locals mode front_path = gives-front present bare reader tidy at mode
  gives-dot e name at locals mode no_path = gives-over Value Value ((reading reader e.0).means locals (before name mode))
      (λ value. field_meant reader at name value (field_on reader.view name value.static_type)) (e.1 locals (before name mode))
      (λ value is. gives-field_on present bare reader tidy value is at name (field_on reader.view name value.static_type))

  gives-call : (e : With) (name : Name) (args : List With) (at : ℕ) (locals : Locals C) (p : ClassPath C) → Gives Value
      (call_meant reader at name (length (parts args)) ((reading reader e.0).means locals (Some []))
      (values_of reader locals (parts args)) p)
  gives-call e name args at locals (whole_path class) = with-values locals args
      (λ values. call_through reader at values (method_through reader.view class name (length (parts args))))
      (λ values are. gives-call_through present bare reader tidy (length (parts args)) values are at name class)
  gives-call e name args at locals front_path = gives-silent Value
  gives-call e name args at locals no_path = with-values locals args
      (λ values. over ((reading reader e.0).means locals (Some []))
      (λ value. call_on reader at name value values (method_on reader.view name (length (parts args)) value.static_type)))
      (λ values are. gives-over Value Value ((reading reader e.0).means locals (Some []))
      (λ value. call_on reader at name value values (method_on reader.view name (length (parts args)) value.static_type))
      (e.1 locals (Some []))
      (λ value is. gives-call_on present bare reader tidy (length (parts args)) values are at name value is))

  gives-new : (type : TypeName) (args : List With) (at : ℕ) (locals : Locals C) → Gives Value
      (beside (values_of reader locals (parts args))
      (λ values. over (read_type reader at type) (λ read. created reader at (length (parts args)) read values read.type)))
  gives-new type args at locals = with-values locals args
      (λ values. over (read_type reader at type) (λ read. created reader at (length (parts args)) read values read.type))
      (λ values are. gives-over (Typed type) Value (read_type reader at type)
      (λ read. created reader at (length (parts args)) read values read.type)
      (type-gives (λ mention. true) reader tidy.rightly at type)
      (λ read is. gives-created present bare reader tidy (length (parts args)) values are at read read.type
      (λ class same. seen-stands (λ mention. true) reader tidy.rightly type class (sym is.seen ∙ same))))

  -- ---- all expressions

  from : (x : ExprNode-F ExprNode Expr)
      → ((at : ℕ) → GivesTidied (node_step reader (map-ExprNode _ _ _ _ node_reading (reading reader) x) at))
      → NodeTidied (roll-ExprNode x)
  from x holds = subst (λ (r : ℕ → Reading C). (at : ℕ) → GivesTidied (r at))
      (sym (fold-roll-ExprNode (ℕ → Reading C) (Reading C) (node_step reader) (expr_step reader) x)) holds

  layer : (y : ExprNode-F ((n : ExprNode) × NodeTidied n) With)
      → NodeTidied (roll-ExprNode (map-ExprNode _ _ _ _ (λ p. p.0) (λ p. p.0) y))
  layer (ExprNode-F.Lit text) = from (ExprNode-F.Lit text) (λ at locals mode.
      gives-valued present bare reader tidy (exprs.Lit text) (of_literal text) (tidied-Lit present bare text))
  layer ExprNode-F.This = from ExprNode-F.This (λ at locals mode. gives-fine Value
      (record { tree = exprs.This; is_this = true; static_type = class_value reader.class }) (tidied-This present bare))
  layer (ExprNode-F.Name name) = from (ExprNode-F.Name name) (λ at locals mode. gives-name present bare reader tidy at name locals mode)
  layer (ExprNode-F.Dot e name) = from (ExprNode-F.Dot e.0 name) (λ at locals mode.
      gives-dot e name at locals mode (path_of reader locals (reading reader e.0).names (name ∷ followers mode)))
  layer (ExprNode-F.Call None name args) = from (ExprNode-F.Call None name (trees args)) (λ at locals mode. with-values locals args
      (λ values. call_here reader at name values (method_from reader.view reader.class name (length (parts args))))
      (λ values are. gives-call_here present bare reader tidy (length (parts args)) values are at name reader.class))
  layer (ExprNode-F.Call (Some e) name args) = from (ExprNode-F.Call (Some e.0) name (trees args)) (λ at locals mode.
      gives-call e name args at locals (path_of reader locals (reading reader e.0).names []))
  layer (ExprNode-F.SuperCall name args) = from (ExprNode-F.SuperCall name (trees args)) (λ at locals mode. with-values locals args
      (λ values. super_call reader at name values (super_method reader.view reader.class name (length (parts args))))
      (λ values are. gives-super_call present bare reader tidy (length (parts args)) values are at name reader.class))
  layer (ExprNode-F.New type args) = from (ExprNode-F.New type (trees args)) (λ at locals mode. gives-new type args at locals)
  layer (ExprNode-F.NewArray type sizes pairs) = from (ExprNode-F.NewArray type (trees sizes) pairs) (λ at locals mode.
      gives-mapped _ Value (λ (made : ReadType C × List IExpr). meant reader (exprs.NewArray made.0.tree made.1 pairs)
      (of_type (arrays (length (parts sizes) + pairs) made.0.type)))
      (both (read_type reader at type) (values_of reader locals (parts sizes))) (gives-typed locals at type sizes)
      (λ pair is. tidied-NewArray present bare pair.1 is.1.each pair.0.tree pairs))
  layer (ExprNode-F.ArrayLit type items) = from (ExprNode-F.ArrayLit type (trees items)) (λ at locals mode.
      gives-mapped _ Value (λ (made : ReadType C × List IExpr). meant reader (exprs.ArrayLit made.0.tree made.1) (of_type made.0.type))
      (both (read_type reader at type) (values_of reader locals (parts items))) (gives-typed locals at type items)
      (λ pair is. tidied-ArrayLit present bare pair.1 is.1.each pair.0.tree))
  layer (ExprNode-F.Braces items) = from (ExprNode-F.Braces (trees items)) (λ at locals mode.
      gives-mapped (Values (length (parts items))) Value (λ items. meant reader (exprs.Braces items) mixed_value)
      (values_of reader locals (parts items)) (gives-values locals items) (λ es is. tidied-Braces present bare es is.each))
  layer (ExprNode-F.Index e i) = from (ExprNode-F.Index e.0 i.0) (λ at locals mode. gives-beside Value Value
      (alone reader locals (reading reader i.0))
      (λ index. over (alone reader locals (reading reader e.0)) (λ array. index_meant reader at array index (index_on array.static_type)))
      (gives-alone locals i)
      (λ index is-index. gives-over Value Value (alone reader locals (reading reader e.0))
      (λ array. index_meant reader at array index (index_on array.static_type)) (gives-alone locals e)
      (λ array is. gives-index present bare reader tidy array is at index is-index (index_on array.static_type))))
  layer (ExprNode-F.Unary op e) = from (ExprNode-F.Unary op e.0) (λ at locals mode. gives-mapped Value Value
      (λ (value : Meant C). meant reader (exprs.Unary op value.tree) (unary_type op value.static_type))
      (alone reader locals (reading reader e.0)) (gives-alone locals e) (λ value is. tidied-Unary present bare op value.tree is))
  layer (ExprNode-F.Post e op) = from (ExprNode-F.Post e.0 op) (λ at locals mode. gives-mapped Value Value
      (λ (value : Meant C). meant reader (exprs.Post op value.tree) value.static_type)
      (alone reader locals (reading reader e.0)) (gives-alone locals e) (λ value is. tidied-Post present bare op value.tree is))
  layer (ExprNode-F.Binary a op b) = from (ExprNode-F.Binary a.0 op b.0) (λ at locals mode. gives-mapped _ Value
      (λ (pair : Meant C × Meant C). meant reader (exprs.Binary op pair.0.tree pair.1.tree) (binary_type op))
      (both (alone reader locals (reading reader a.0)) (alone reader locals (reading reader b.0))) (gives-two locals a b)
      (λ pair is. tidied-Binary present bare pair.0.tree pair.1.tree is.0 is.1 op))
  layer (ExprNode-F.Assign a op b) = from (ExprNode-F.Assign a.0 op b.0) (λ at locals mode. gives-mapped _ Value
      (λ (pair : Meant C × Meant C). meant reader (exprs.Assign op pair.0.tree pair.1.tree) pair.0.static_type)
      (both (alone reader locals (reading reader a.0)) (alone reader locals (reading reader b.0))) (gives-two locals a b)
      (λ pair is. tidied-Assign present bare pair.0.tree pair.1.tree is.0 is.1 op))
  layer (ExprNode-F.Cond test a b) = from (ExprNode-F.Cond test.0 a.0 b.0) (λ at locals mode.
      gives-mapped (λ (three : Meant C × (Meant C × Meant C)). Value three.0 × (Value three.1.0 × Value three.1.1)) Value
      (λ (three : Meant C × (Meant C × Meant C)). choice reader three.0 three.1.0 three.1.1)
      (both (alone reader locals (reading reader test.0))
      (both (alone reader locals (reading reader a.0)) (alone reader locals (reading reader b.0))))
      (gives-both Value (λ (pair : Meant C × Meant C). Value pair.0 × Value pair.1) (alone reader locals (reading reader test.0))
      (both (alone reader locals (reading reader a.0)) (alone reader locals (reading reader b.0)))
      (gives-alone locals test) (gives-two locals a b))
      (λ three is. tidied-Cond present bare three.1.0.tree three.1.1.tree is.1.0 is.1.1 three.0.tree is.0))
  layer (ExprNode-F.Cast type e) = from (ExprNode-F.Cast type e.0) (λ at locals mode.
      gives-mapped (λ (pair : ReadType C × Meant C). Typed type pair.0 × Value pair.1) Value
      (λ (pair : ReadType C × Meant C). meant reader (exprs.Cast pair.0.tree pair.1.tree) (of_type pair.0.type))
      (both (read_type reader at type) (alone reader locals (reading reader e.0)))
      (gives-both (Typed type) Value (read_type reader at type) (alone reader locals (reading reader e.0))
      (type-gives (λ mention. true) reader tidy.rightly at type) (gives-alone locals e))
      (λ pair is. tidied-Cast present bare pair.0.tree pair.1.tree is.1))
  layer (ExprNode-F.InstanceOf e type) = from (ExprNode-F.InstanceOf e.0 type) (λ at locals mode.
      gives-mapped (λ (pair : Meant C × ReadType C). Value pair.0 × Typed type pair.1) Value
      (λ (pair : Meant C × ReadType C). meant reader (exprs.InstanceOf pair.0.tree pair.1.tree) primitive_value)
      (both (alone reader locals (reading reader e.0)) (read_type reader at type))
      (gives-both Value (Typed type) (alone reader locals (reading reader e.0)) (read_type reader at type)
      (gives-alone locals e) (type-gives (λ mention. true) reader tidy.rightly at type))
      (λ pair is. tidied-InstanceOf present bare pair.0.tree pair.1.tree is.0))
  layer (ExprNode-F.Paren e) = from (ExprNode-F.Paren e.0) (λ at locals mode. gives-alone locals e)

  placed : (y : Expr-F ((n : ExprNode) × NodeTidied n) With) → ExprTidied (roll-Expr (map-Expr _ _ _ _ (λ p. p.0) (λ p. p.0) y))
  placed y = subst GivesTidied
      (sym (fold-roll-Expr (ℕ → Reading C) (Reading C) (node_step reader) (expr_step reader) (record { at = y.at; node = y.node.0 })))
      (y.node.1 y.at)

  all_tidied : (e : Expr) → ExprTidied e
  all_tidied = ind-Expr NodeTidied ExprTidied (λ x y is. subst (λ z. NodeTidied (roll-ExprNode z)) is (layer y))
      (λ x y is. subst (λ z. ExprTidied (roll-Expr z)) is (placed y))

  pub gives-expr : (locals : Locals C) (e : Expr) → Gives (IsTidied present bare) (read_expr reader locals e)
  gives-expr locals e = gives-mapped Value (IsTidied present bare) (λ (value : Meant C). value.tree)
      (alone reader locals (reading reader e)) (all_tidied e locals None) (λ value is. is)
