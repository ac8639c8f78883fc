-- What an expression reads as has the form of its text, and mentions what stands in the view.
use Rattle.std.proofs.Common.{◌≡◌, ◌⊎◌, inl, inr, ℕ, suc, ◌+◌, ◌≤◌, Bool, true, false, ◌&&◌, ◌||◌, not, nat_le, List, [], ◌∷◌, ◌++◌, map, length, Option, Some, None, refl, sym, ◌∙◌, ap, subst, arith, true≢false}
use Rattle.std.proofs.lemmas.Bool.{and_from, and_parts, or_right, le-leb}
use Rattle.std.specs.Prelude.{is_some}
use Rattle.std.specs.List.{list_all}
use Rattle.std.proofs.lemmas.List.{length-map}
use Rattle.mol_base.specs.Limits.{max_items}
use Rattle.mol_base.specs.Operators.{binary_level, is_step, is_prefix, is_assignment}
use Rattle.jav_tree.specs.Height.{tallest}
use Rattle.jav_tree.specs.PrintableExpressions.{type_uses, ExprUses, value_where, target_where, effect_where, is_not_empty, prefixed, expr_node_uses_step, expr_uses_step, expr_node_uses, expr_uses}
use Rattle.jav_tree.specs.TokenTexts as texts
use Rattle.jav_tree.specs.Widths.{type_width, counted, width_node_step, width_expr_step, expr_width}
use Rattle.jav_tree.specs.declared.expr.Expr.{Expr}
use Rattle.jav_tree.specs.declared.expr.ExprNode.{ExprNode, fold-ExprNode}
use Rattle.jav_tree.specs.declared.expr.ExprNode.TheFolds.{fold-roll-ExprNode, fold-roll-Expr, ind-Expr, map-ExprNode, map-Expr}
use Rattle.jav_tree.specs.declared.expr.ExprNode.TheOpen.{ExprNode-F, Expr-F}
use Rattle.jav_tree.specs.declared.expr.ExprNode.TheViews.{roll-ExprNode, roll-Expr}
use Rattle.jav_tree.specs.declared.types.TypeName.{TypeName}
use Rattle.jav_names.specs.DottedNames.{Name}
use Rattle.jav_names.specs.LookUps.{field_on, method_on, index_on, method_from, super_method, method_through}
use Rattle.jav_names.specs.OnValues.{primitive_value, mixed_value, class_value}
use Rattle.jav_names.specs.StaticTypes.{of_type, of_literal}
use Rattle.jav_names.specs.Views.{class_type}
use Rattle.mol_resolve_rules.specs.Locals.{Locals}
use Rattle.mol_resolve_rules.specs.Outcomes.{Outcome, mapped, over, beside, both, put_first}
use Rattle.mol_resolve_rules.specs.Readers.{Reader}
use Rattle.mol_resolve_rules.specs.ReadTrees.{Meant, Mode, before, followers, Reading, ClassPath, whole_path, front_path, no_path, path_of, arrays, unary_type, binary_type, meant, alone, values_of, field_meant, dot_meant, call_here, call_through, call_on, call_meant, super_call, created, index_meant, choice, node_step, expr_step, reading, read_expr}
use Rattle.mol_resolve_rules.specs.ReadTypes.{ReadType, seen_type, read_type}
use Rattle.mol_table_rules.specs.ExpressionForms.{is_value, are_values, shape_of}
use Rattle.mol_table_rules.specs.Mentions.{Mention, joined, expr_mentions, type_mentions}
use Rattle.mol_table_rules.specs.TypeForms.{is_type, is_array, is_outside_class, dimensions}
use Rattle.mol_values_types.specs.declared.itype.IType.{IType}
use Rattle.mol_values_types.specs.declared.iexpr.IExpr.{IExpr}
use Rattle.mol_values_types.specs.declared.iexpr.IExpr.TheOpen.{IExpr-F}
use Rattle.mol_values_types.specs.declared.iexpr.IExpr.TheVariants as exprs
use Rattle.mol_resolve_laws.proofs.Gives.{Gives, gives-fine, gives-silent, gives-mapped, gives-both, gives-over, gives-beside}
use Rattle.mol_resolve_laws.proofs.NamesRight.{MeantRight, gives-valued, gives-name, gives-static_field, gives-front, gives-field_on, gives-index, gives-call_here, gives-call_through, gives-call_on, gives-super_call, gives-created}
use Rattle.mol_resolve_laws.proofs.Right.{ReadsRightly, passes-both}
use Rattle.mol_resolve_laws.proofs.TreesRight.{right-value, right-effect, ExprRight, made, ListRight, right-none, right-more}
use Rattle.mol_resolve_laws.proofs.TypesRight.{TypeRight, is_named, is_outside, is_own, IsReadRightly, type-gives, seen-stands}
use Rattle.mol_resolve_laws.proofs.Tests.{first-of, last-of}

-- a type within the limit of number
pub type-within : (tree : IType) (width : ℕ) → dimensions tree ≡ width → width ≤ max_items → nat_le (dimensions tree) max_items ≡ true
type-within tree width same few = le-leb _ _ (omega (arith, same, few))

module _ {C M : Type 0} (test : Mention → Bool) (reader : Reader C M) (right : ReadsRightly test reader) where
  -- in each place and either way it gives what is right
  abbrev GivesRight : ExprUses → Reading C → Type 0
  GivesRight uses r = (locals : Locals C) (mode : Mode) → Gives (MeantRight test reader right uses) (r.means locals mode)

  abbrev node_reading : ExprNode → ℕ → Reading C
  node_reading = fold-ExprNode (ℕ → Reading C) (Reading C) (node_step reader) (expr_step reader)

  abbrev node_width : ExprNode → ℕ
  node_width = fold-ExprNode ℕ ℕ width_node_step width_expr_step

  abbrev RightAt : ExprUses → ℕ → (ℕ → Reading C) → Type 0
  RightAt uses width r = width ≤ max_items → (at : ℕ) → GivesRight uses (r at)

  abbrev NodeRight : ExprNode → Type 0
  NodeRight n = RightAt (expr_node_uses n) (node_width n) (node_reading n)

  abbrev IsRight : Expr → Type 0
  IsRight e = expr_width e ≤ max_items → GivesRight (expr_uses e) (reading reader e)

  abbrev With : Type 0
  With = (e : Expr) × IsRight e

  abbrev trees : List With → List Expr
  trees es = map (λ p. p.0) es

  abbrev parts : List With → List (Reading C)
  parts es = map (reading reader) (trees es)

  abbrev uses_of : List With → List ExprUses
  uses_of es = map expr_uses (trees es)

  abbrev widths : List With → List ℕ
  widths es = map expr_width (trees es)

  abbrev Right : ExprUses → Meant C → Type 0
  Right = MeantRight test reader right

  as_many : (es : List With) → length (uses_of es) ≡ length (widths es)
  as_many [] = refl
  as_many (e ∷ es) = ap suc (as_many es)

  as_read : (es : List With) → length (parts es) ≡ length (widths es)
  as_read [] = refl
  as_read (e ∷ es) = ap suc (as_read es)

  few-of : (es : List With) → counted (widths es) ≤ max_items → length (uses_of es) ≤ max_items
  few-of es few = let same = as_many es in omega (arith, few, same)

  -- ---- parts

  module _ (locals : Locals C) where
    gives-alone : (e : With) → expr_width e.0 ≤ max_items → Gives (Right (expr_uses e.0)) (alone reader locals (reading reader e.0))
    gives-alone e few = e.1 few locals None

    abbrev tree_read : With → Outcome IExpr
    tree_read e = mapped (λ (value : Meant C). value.tree) (alone reader locals (reading reader e.0))

    gives-values : (es : List With) → tallest (widths es) ≤ max_items → Gives (ListRight test (uses_of es))
        (values_of reader locals (parts es))
    gives-values [] few = gives-fine (ListRight test []) [] (right-none test)
    gives-values (e ∷ es) few = gives-mapped (λ (pair : IExpr × List IExpr). ExprRight test (expr_uses e.0) pair.0
        × ListRight test (uses_of es) pair.1)
        (ListRight test (uses_of (e ∷ es))) put_first (both (tree_read e) (values_of reader locals (parts es)))
        (gives-both (ExprRight test (expr_uses e.0)) (ListRight test (uses_of es)) (tree_read e) (values_of reader locals (parts es))
        (gives-mapped (Right (expr_uses e.0)) (ExprRight test (expr_uses e.0)) (λ (value : Meant C). value.tree)
        (alone reader locals (reading reader e.0)) (gives-alone e (omega (arith, few))) (λ value is. is))
        (gives-values es (omega (arith, few))))
        (λ pair is. right-more test (expr_uses e.0) pair.0 (uses_of es) pair.1 is.0 is.1)

    -- with the values that there are
    with-values : (uses : ExprUses) (es : List With) (make : Option (List IExpr) → Outcome (Meant C)) → tallest (widths es) ≤ max_items
        → ((args : Option (List IExpr)) → ((values : List IExpr) → args ≡ Some values → ListRight test (uses_of es) values)
        → Gives (Right uses) (make args)) → Gives (Right uses) (beside (values_of reader locals (parts es)) make)
    with-values uses es make few each = gives-beside (ListRight test (uses_of es)) (Right uses) (values_of reader locals (parts es)) make
        (gives-values es few) each

    gives-typed : (at : ℕ) (type : TypeName) (es : List With) → tallest (widths es) ≤ max_items
        → Gives (λ (pair : ReadType C × List IExpr). IsReadRightly test reader right type pair.0 × ListRight test (uses_of es) pair.1)
        (both (read_type reader at type) (values_of reader locals (parts es)))
    gives-typed at type es few = gives-both (IsReadRightly test reader right type) (ListRight test (uses_of es)) (read_type reader at type)
        (values_of reader locals (parts es)) (type-gives test reader right at type) (gives-values es few)

    gives-two : (a b : With) → expr_width a.0 ≤ max_items → expr_width b.0 ≤ max_items
        → Gives (λ (pair : Meant C × Meant C). Right (expr_uses a.0) pair.0 × Right (expr_uses b.0) pair.1)
        (both (alone reader locals (reading reader a.0)) (alone reader locals (reading reader b.0)))
    gives-two a b few fewer = gives-both (Right (expr_uses a.0)) (Right (expr_uses b.0)) (alone reader locals (reading reader a.0))
        (alone reader locals (reading reader b.0)) (gives-alone a few) (gives-alone b fewer)

  pub typed : (type : TypeName) (tree : IType) → TypeRight test (type_uses type) (type_width type) (seen_type reader type) tree
      → type_width type ≤ max_items → (type_uses type).is_type ≡ true → is_type tree ≡ true
  typed type tree r few is = and_from _ _ (r.type is) (type-within tree (type_width type) r.wide few)

  -- ---- names with dots

  module _ (e : With) (name : Name) (few : expr_width e.0 ≤ max_items) (at : ℕ) where
    abbrev dot_uses : Bool
    dot_uses = (expr_uses e.0).is_value && texts.is_name name

    gives-dot : (locals : Locals C) (mode : Mode) (p : ClassPath C)
        → Gives (Right (target_where dot_uses)) (dot_meant reader at name mode ((reading reader e.0).means locals (before name mode)) p)
    gives-dot locals mode (whole_path class) = gives-static_field test reader right dot_uses at name class
    gives-dot locals mode front_path = gives-front test reader right (target_where dot_uses) at mode
    gives-dot locals mode no_path = gives-over (Right (expr_uses e.0)) (Right (target_where dot_uses))
        ((reading reader e.0).means locals (before name mode))
        (λ value. field_meant reader at name value (field_on reader.view name value.static_type)) (e.1 few locals (before name mode))
        (λ value is. gives-field_on test reader right dot_uses at name (expr_uses e.0) value is (first-of _ _) (last-of _ _))

  -- ---- calls

  module _ (e : With) (name : Name) (args : List With) (few : expr_width e.0 ≤ max_items) (fewer : counted (widths args) ≤ max_items)
      (at : ℕ) where
    abbrev call_uses : Bool
    call_uses = (expr_uses e.0).is_value && texts.is_name name && list_all (λ (u : ExprUses). u.is_value) (uses_of args)

    gives-call : (locals : Locals C) (p : ClassPath C) → Gives (Right (effect_where call_uses))
        (call_meant reader at name (length (parts args)) ((reading reader e.0).means locals (Some []))
        (values_of reader locals (parts args)) p)
    gives-call locals (whole_path class) = with-values locals (effect_where call_uses) args
        (λ values. call_through reader at values (method_through reader.view class name (length (parts args)))) (omega (arith, fewer))
        (λ values are. gives-call_through test reader right call_uses (uses_of args) (few-of args fewer)
        (last-of _ _) values are at name class
        (length (parts args)))
    gives-call locals front_path = gives-silent (Right (effect_where call_uses))
    gives-call locals no_path = with-values locals (effect_where call_uses) args
        (λ values. over ((reading reader e.0).means locals (Some []))
        (λ value. call_on reader at name value values (method_on reader.view name (length (parts args)) value.static_type)))
        (omega (arith, fewer))
        (λ values are. gives-over (Right (expr_uses e.0)) (Right (effect_where call_uses)) ((reading reader e.0).means locals (Some []))
        (λ value. call_on reader at name value values (method_on reader.view name (length (parts args)) value.static_type))
        (e.1 few locals (Some []))
        (λ value is. gives-call_on test reader right call_uses (uses_of args) (few-of args fewer) (last-of _ _) values are at name
        (λ holds. last-of _ _ (first-of _ _ holds)) (expr_uses e.0) value is (λ holds. first-of _ _ (first-of _ _ holds))
        (length (parts args))))

  -- ---- creations

  module _ (type : TypeName) (args : List With) (fewer : counted (widths args) ≤ max_items) (at : ℕ) where
    abbrev new_uses : Bool
    new_uses = (type_uses type).is_class && list_all (λ (u : ExprUses). u.is_value) (uses_of args)

    is-outside : (read : ReadType C) → IsReadRightly test reader right type read → new_uses ≡ true
        → (is_outside_class read.tree ≡ true) ⊎ ((class : C) × (read.type ≡ class_type class))
    is-outside read is holds = let class = is.as_written.class (first-of _ _ holds) in by class.0 class.1 class.2 where
      by : is_named read.tree ≡ true → dimensions read.tree ≡ 0
          → (is_outside read.tree ≡ true) ⊎ ((is_own read.tree ≡ true) × ((class : C) × (seen_type reader type ≡ class_type class)))
          → (is_outside_class read.tree ≡ true) ⊎ ((class : C) × (read.type ≡ class_type class))
      by type flat (inl outside) = inl (and_from _ _ outside (and_from _ _ type (type-within read.tree 0 flat (omega arith))))
      by type flat (inr own) = inr (own.1.0, is.seen ∙ own.1.1)

    gives-new : (locals : Locals C) → Gives (Right (effect_where new_uses))
        (beside (values_of reader locals (parts args))
        (λ values. over (read_type reader at type) (λ read. created reader at (length (parts args)) read values read.type)))
    gives-new locals = with-values locals (effect_where new_uses) args
        (λ values. over (read_type reader at type) (λ read. created reader at (length (parts args)) read values read.type))
        (omega (arith, fewer))
        (λ values are. gives-over (IsReadRightly test reader right type) (Right (effect_where new_uses)) (read_type reader at type)
        (λ read. created reader at (length (parts args)) read values read.type) (type-gives test reader right at type)
        (λ read is. gives-created test reader right new_uses (uses_of args) (few-of args fewer) (last-of _ _) values are at
        (length (parts args)) read read.type (λ class same. seen-stands test reader right type class (sym is.seen ∙ same))
        (is-outside read is) is.as_written.mentions))

  not-empty : (uses : List ExprUses) → is_not_empty uses ≡ true → 1 ≤ length uses
  not-empty [] is = absurd (true≢false (sym is))
  not-empty (u ∷ uses) is = omega arith

  module _ (type : TypeName) (sizes : List With) (pairs : ℕ) where
    abbrev sized_uses : Bool
    sized_uses = (type_uses type).is_base && is_not_empty (uses_of sizes) && list_all (λ (u : ExprUses). u.is_value) (uses_of sizes)

    right-NewArray : (tree : IType) (es : List IExpr) → TypeRight test (type_uses type) (type_width type) (seen_type reader type) tree
        → ListRight test (uses_of sizes) es → length (uses_of sizes) + pairs ≤ max_items
        → ExprRight test (value_where sized_uses) (exprs.NewArray tree es pairs)
    right-NewArray tree es t r few = subst (ExprRight test (value_where sized_uses)) (exprs.rolls-NewArray tree es pairs)
        (made test (value_where sized_uses) (IExpr-F.NewArray tree es pairs) (right-value sized_uses _ formed)
        (passes-both test (type_mentions tree) (joined (map expr_mentions es)) t.mentions r.mentions)) where
          same : length (map shape_of es) ≡ length (uses_of sizes)
          same = length-map es shape_of ∙ r.count

          formed : sized_uses ≡ true
              → (is_type tree && not (is_array tree) && are_values (map shape_of es) && nat_le 1 (length (map shape_of es))
              && nat_le (length (map shape_of es) + pairs) max_items) ≡ true
          formed holds =
              let front = and_parts ((type_uses type).is_base && is_not_empty (uses_of sizes))
              (list_all (λ (u : ExprUses). u.is_value) (uses_of sizes)) holds in
              let first = and_parts (type_uses type).is_base (is_not_empty (uses_of sizes)) front.0 in
              let base = t.base first.0 in
              let some : 1 ≤ length (uses_of sizes) = not-empty (uses_of sizes) first.1 in
              and_from _ _ (and_from _ _ (and_from _ _ (and_from (is_type tree) (not (is_array tree))
              (and_from _ _ base.0 (type-within tree 0 base.2 (omega arith))) (ap not base.1)) (r.values front.1))
              (le-leb 1 (length (map shape_of es)) (omega (arith, some, same))))
              (le-leb (length (map shape_of es) + pairs) max_items (omega (arith, few, same)))

  module _ (type : TypeName) (items : List With) where
    abbrev filled_uses : Bool
    filled_uses = (type_uses type).is_array && list_all (λ (u : ExprUses). u.is_first_value) (uses_of items)

    right-ArrayLit : (tree : IType) (es : List IExpr) → TypeRight test (type_uses type) (type_width type) (seen_type reader type) tree
        → ListRight test (uses_of items) es → type_width type ≤ max_items
        → ExprRight test (value_where filled_uses) (exprs.ArrayLit tree es)
    right-ArrayLit tree es t r few = subst (ExprRight test (value_where filled_uses)) (exprs.rolls-ArrayLit tree es)
        (made test (value_where filled_uses) (IExpr-F.ArrayLit tree es)
        (right-value filled_uses _ (λ holds.
        let array = t.array (first-of _ _ holds) in
        and_from _ _ (and_from _ _ (and_from _ _ array.0 (type-within tree (type_width type) t.wide few)) array.1)
        (r.firsts (last-of _ _ holds))))
        (passes-both test (type_mentions tree) (joined (map expr_mentions es)) t.mentions r.mentions))

  right-Braces : (uses : List ExprUses) (es : List IExpr) → ListRight test uses es
      → ExprRight test (record {
        is_value = false;
        is_first_value = list_all (λ (u : ExprUses). u.is_first_value) uses;
        is_target = false;
        is_statement = false;
      }) (exprs.Braces es)
  right-Braces uses es r = subst (ExprRight test _) (exprs.rolls-Braces es) (made test _ (IExpr-F.Braces es) (record {
    value = λ is. absurd (true≢false (sym is));
    first = r.firsts;
    target = λ is. absurd (true≢false (sym is));
    statement = λ is. absurd (true≢false (sym is));
  }) r.mentions)

  -- ---- operators

  or-imp : (p a b : Bool) → (a ≡ true → b ≡ true) → (p || a) ≡ true → (p || b) ≡ true
  or-imp true a b imp is = refl
  or-imp false a b imp is = imp is

  step-imp : (p s a b : Bool) → (a ≡ true → b ≡ true) → (p || (s && a)) ≡ true → (p || (s && b)) ≡ true
  step-imp p s a b holds = or-imp p (s && a) (s && b) (λ is. and_from s b (first-of s a is) (holds (last-of s a is)))

  right-Unary : (op : Name) (uses : ExprUses) (e : IExpr) → ExprRight test uses e → ExprRight test (prefixed op uses) (exprs.Unary op e)
  right-Unary op uses e r = subst (ExprRight test (prefixed op uses)) (exprs.rolls-Unary op e)
      (made test (prefixed op uses) (IExpr-F.Unary op e) (record {
        value = λ is. and_from _ true (formed is) refl;
        first = formed;
        target = λ is. absurd (true≢false (sym is));
        statement = λ is. (and_from _ true (stepped is) refl, first-of _ _ (first-of _ _ is));
      }) r.mentions) where
        formed : (uses.is_value && (is_prefix op || (is_step op && uses.is_target))) ≡ true
            → (is_value (shape_of e) && (is_prefix op || (is_step op && (shape_of e).target))) ≡ true
        formed is = and_from (is_value (shape_of e)) (is_prefix op || (is_step op && (shape_of e).target))
            (r.shape.value (first-of uses.is_value (is_prefix op || (is_step op && uses.is_target)) is))
            (step-imp (is_prefix op) (is_step op) uses.is_target (shape_of e).target r.shape.target
            (last-of uses.is_value (is_prefix op || (is_step op && uses.is_target)) is))

        stepped : (is_step op && uses.is_target && uses.is_value) ≡ true
            → (is_value (shape_of e) && (is_prefix op || (is_step op && (shape_of e).target))) ≡ true
        stepped is =
            let step = first-of (is_step op && uses.is_target) uses.is_value is in
            and_from (is_value (shape_of e)) (is_prefix op || (is_step op && (shape_of e).target))
            (r.shape.value (last-of (is_step op && uses.is_target) uses.is_value is))
            (or_right (is_prefix op) (is_step op && (shape_of e).target)
            (and_from (is_step op) (shape_of e).target (first-of (is_step op) uses.is_target step)
            (r.shape.target (last-of (is_step op) uses.is_target step))))

  right-Post : (op : Name) (uses : ExprUses) (e : IExpr) → ExprRight test uses e
      → ExprRight test (effect_where (is_step op && uses.is_target && uses.is_value)) (exprs.Post op e)
  right-Post op uses e r = subst (ExprRight test _) (exprs.rolls-Post op e) (made test _ (IExpr-F.Post op e)
      (right-effect _ _ (λ is. and_from _ _ (and_from _ _ (r.shape.value (last-of _ _ is)) (first-of _ _ (first-of _ _ is)))
      (r.shape.target (last-of _ _ (first-of _ _ is))))) r.mentions)

  right-Binary : (op : Name) (a b : ExprUses) (left right : IExpr) → ExprRight test a left → ExprRight test b right
      → ExprRight test (value_where (is_some (binary_level op) && a.is_value && b.is_value)) (exprs.Binary op left right)
  right-Binary op a b left right l r = subst (ExprRight test _) (exprs.rolls-Binary op left right)
      (made test _ (IExpr-F.Binary op left right)
      (right-value _ _ (λ is. and_from _ _ (and_from _ _ (first-of _ _ (first-of _ _ is)) (l.shape.value (last-of _ _ (first-of _ _ is))))
      (r.shape.value (last-of _ _ is)))) (passes-both test (expr_mentions left) (expr_mentions right) l.mentions r.mentions))

  right-Assign : (op : Name) (a b : ExprUses) (left right : IExpr) → ExprRight test a left → ExprRight test b right
      → ExprRight test (effect_where (is_assignment op && a.is_target && a.is_value && b.is_value)) (exprs.Assign op left right)
  right-Assign op a b left right l r = subst (ExprRight test _) (exprs.rolls-Assign op left right)
      (made test _ (IExpr-F.Assign op left right)
      (right-effect _ _ (λ is. and_from _ _ (and_from _ _ (and_from _ _ (first-of _ _ (first-of _ _ (first-of _ _ is)))
      (l.shape.value (last-of _ _ (first-of _ _ is)))) (l.shape.target (last-of _ _ (first-of _ _ (first-of _ _ is)))))
      (r.shape.value (last-of _ _ is)))) (passes-both test (expr_mentions left) (expr_mentions right) l.mentions r.mentions))

  right-Cond : (t a b : ExprUses) (test_tree first second : IExpr) → ExprRight test t test_tree → ExprRight test a first
      → ExprRight test b second
      → ExprRight test (value_where (t.is_value && a.is_value && b.is_value)) (exprs.Cond test_tree first second)
  right-Cond t a b test_tree first second c l r = subst (ExprRight test _) (exprs.rolls-Cond test_tree first second)
      (made test _ (IExpr-F.Cond test_tree first second)
      (right-value _ _ (λ is. and_from _ _ (and_from _ _ (c.shape.value (first-of _ _ (first-of _ _ is)))
      (l.shape.value (last-of _ _ (first-of _ _ is)))) (r.shape.value (last-of _ _ is))))
      (passes-both test (expr_mentions test_tree ++ expr_mentions first) (expr_mentions second)
      (passes-both test (expr_mentions test_tree) (expr_mentions first) c.mentions l.mentions) r.mentions))

  module _ (type : TypeName) (tree : IType) (t : TypeRight test (type_uses type) (type_width type) (seen_type reader type) tree)
      (few : type_width type ≤ max_items) (uses : ExprUses) (e : IExpr) (r : ExprRight test uses e) where
    right-Cast : ExprRight test (value_where ((type_uses type).is_type && uses.is_value)) (exprs.Cast tree e)
    right-Cast = subst (ExprRight test _) (exprs.rolls-Cast tree e) (made test _ (IExpr-F.Cast tree e)
        (right-value _ _ (λ is. and_from _ _ (typed type tree t few (first-of _ _ is)) (r.shape.value (last-of _ _ is))))
        (passes-both test (type_mentions tree) (expr_mentions e) t.mentions r.mentions))

    right-InstanceOf : ExprRight test (value_where (uses.is_value && (type_uses type).is_type)) (exprs.InstanceOf e tree)
    right-InstanceOf = subst (ExprRight test _) (exprs.rolls-InstanceOf e tree) (made test _ (IExpr-F.InstanceOf e tree)
        (right-value _ _ (λ is. and_from _ _ (r.shape.value (first-of _ _ is)) (typed type tree t few (last-of _ _ is))))
        (passes-both test (expr_mentions e) (type_mentions tree) r.mentions t.mentions))

  -- ---- all expressions

  moved : {u v : ExprUses} {m n : ℕ} {r s : ℕ → Reading C} → u ≡ v → m ≡ n → r ≡ s → RightAt u m r → RightAt v n s
  moved {u} {v} {m} {n} {r} {s} p q w holds =
      subst (λ uses. RightAt uses n s) p (subst (λ width. RightAt u width s) q (subst (RightAt u m) w holds))

  from : (x : ExprNode-F ExprNode Expr) → RightAt (expr_node_uses_step (map-ExprNode _ _ _ _ expr_node_uses expr_uses x))
      (width_node_step (map-ExprNode _ _ _ _ node_width expr_width x))
      (node_step reader (map-ExprNode _ _ _ _ node_reading (reading reader) x)) → NodeRight (roll-ExprNode x)
  from x = moved (sym (fold-roll-ExprNode ExprUses ExprUses expr_node_uses_step expr_uses_step x))
      (sym (fold-roll-ExprNode ℕ ℕ width_node_step width_expr_step x))
      (sym (fold-roll-ExprNode (ℕ → Reading C) (Reading C) (node_step reader) (expr_step reader) x))

  layer : (y : ExprNode-F ((n : ExprNode) × NodeRight n) With) → NodeRight (roll-ExprNode (map-ExprNode _ _ _ _ (λ p. p.0) (λ p. p.0) y))
  layer (ExprNode-F.Lit text) = from (ExprNode-F.Lit text) (λ few at locals mode.
      gives-valued test reader right (value_where (texts.is_literal text)) (exprs.Lit text) (of_literal text)
      (subst (ExprRight test (value_where (texts.is_literal text))) (exprs.rolls-Lit text)
      (made test (value_where (texts.is_literal text)) (IExpr-F.Lit text) (right-value _ _ (λ is. is)) refl)))
  layer ExprNode-F.This = from ExprNode-F.This (λ few at locals mode. gives-fine (Right (value_where true))
      (record { tree = exprs.This; is_this = true; static_type = class_value reader.class })
      (subst (ExprRight test (value_where true)) exprs.rolls-This
      (made test (value_where true) IExpr-F.This (right-value true true (λ is. is)) refl)))
  layer (ExprNode-F.Name name) = from (ExprNode-F.Name name) (λ few at locals mode.
      gives-name test reader right (texts.is_name name) name (λ is. is) locals at mode)
  layer (ExprNode-F.Dot e name) = from (ExprNode-F.Dot e.0 name) (λ few at locals mode.
      gives-dot e name few at locals mode (path_of reader locals (reading reader e.0).names (name ∷ followers mode)))
  layer (ExprNode-F.Call None name args) = from (ExprNode-F.Call None name (trees args)) (λ few at locals mode.
      let fewer : counted (widths args) ≤ max_items = omega (arith, few) in
      with-values locals (effect_where (texts.is_name name && list_all (λ (u : ExprUses). u.is_value) (uses_of args))) args
      (λ values. call_here reader at name values (method_from reader.view reader.class name (length (parts args)))) (omega (arith, fewer))
      (λ values are. gives-call_here test reader right (texts.is_name name && list_all (λ (u : ExprUses). u.is_value) (uses_of args))
      (uses_of args) (few-of args fewer) (last-of _ _) values are at name (first-of _ _) reader.class (length (parts args))))
  layer (ExprNode-F.Call (Some e) name args) = from (ExprNode-F.Call (Some e.0) name (trees args)) (λ few at locals mode.
      gives-call e name args (omega (arith, few)) (omega (arith, few)) at locals (path_of reader locals (reading reader e.0).names []))
  layer (ExprNode-F.SuperCall name args) = from (ExprNode-F.SuperCall name (trees args)) (λ few at locals mode.
      with-values locals (effect_where (texts.is_name name && list_all (λ (u : ExprUses). u.is_value) (uses_of args))) args
      (λ values. super_call reader at name values (super_method reader.view reader.class name (length (parts args)))) (omega (arith, few))
      (λ values are. gives-super_call test reader right (texts.is_name name && list_all (λ (u : ExprUses). u.is_value) (uses_of args))
      (uses_of args) (few-of args few) (last-of _ _) values are at name (first-of _ _) reader.class (length (parts args))))
  layer (ExprNode-F.New type args) = from (ExprNode-F.New type (trees args)) (λ few at locals mode. gives-new type args few at locals)
  layer (ExprNode-F.NewArray type sizes pairs) = from (ExprNode-F.NewArray type (trees sizes) pairs) (λ few at locals mode.
      gives-mapped _ (Right (value_where (sized_uses type sizes pairs)))
      (λ (made : ReadType C × List IExpr). meant reader (exprs.NewArray made.0.tree made.1 pairs)
      (of_type (arrays (length (parts sizes) + pairs) made.0.type)))
      (both (read_type reader at type) (values_of reader locals (parts sizes)))
      (gives-typed locals at type sizes (omega (arith, few)))
      (λ pair is. let same = as_many sizes in right-NewArray type sizes pairs pair.0.tree pair.1 is.0.as_written is.1
      (omega (arith, few, same))))
  layer (ExprNode-F.ArrayLit type items) = from (ExprNode-F.ArrayLit type (trees items)) (λ few at locals mode.
      gives-mapped _ (Right (value_where (filled_uses type items)))
      (λ (made : ReadType C × List IExpr). meant reader (exprs.ArrayLit made.0.tree made.1) (of_type made.0.type))
      (both (read_type reader at type) (values_of reader locals (parts items)))
      (gives-typed locals at type items (omega (arith, few)))
      (λ pair is. right-ArrayLit type items pair.0.tree pair.1 is.0.as_written is.1 (omega (arith, few))))
  layer (ExprNode-F.Braces items) = from (ExprNode-F.Braces (trees items)) (λ few at locals mode.
      gives-mapped (ListRight test (uses_of items)) _ (λ items. meant reader (exprs.Braces items) mixed_value)
      (values_of reader locals (parts items)) (gives-values locals items few) (λ es is. right-Braces (uses_of items) es is))
  layer (ExprNode-F.Index e i) = from (ExprNode-F.Index e.0 i.0) (λ few at locals mode.
      gives-beside (Right (expr_uses i.0)) (Right (target_where ((expr_uses e.0).is_value && (expr_uses i.0).is_value)))
      (alone reader locals (reading reader i.0))
      (λ index. over (alone reader locals (reading reader e.0)) (λ array. index_meant reader at array index (index_on array.static_type)))
      (gives-alone locals i (omega (arith, few)))
      (λ index is-index. gives-over (Right (expr_uses e.0)) (Right (target_where ((expr_uses e.0).is_value && (expr_uses i.0).is_value)))
      (alone reader locals (reading reader e.0)) (λ array. index_meant reader at array index (index_on array.static_type))
      (gives-alone locals e (omega (arith, few)))
      (λ array is. gives-index test reader right ((expr_uses e.0).is_value && (expr_uses i.0).is_value) at (expr_uses e.0) (expr_uses i.0)
      array index is is-index (first-of _ _) (last-of _ _) (index_on array.static_type))))
  layer (ExprNode-F.Unary op e) = from (ExprNode-F.Unary op e.0) (λ few at locals mode.
      gives-mapped (Right (expr_uses e.0)) (Right (prefixed op (expr_uses e.0)))
      (λ (value : Meant C). meant reader (exprs.Unary op value.tree) (unary_type op value.static_type))
      (alone reader locals (reading reader e.0))
      (gives-alone locals e few) (λ value is. right-Unary op (expr_uses e.0) value.tree is))
  layer (ExprNode-F.Post e op) = from (ExprNode-F.Post e.0 op) (λ few at locals mode.
      gives-mapped (Right (expr_uses e.0)) _ (λ (value : Meant C). meant reader (exprs.Post op value.tree) value.static_type)
      (alone reader locals (reading reader e.0)) (gives-alone locals e few) (λ value is. right-Post op (expr_uses e.0) value.tree is))
  layer (ExprNode-F.Binary a op b) = from (ExprNode-F.Binary a.0 op b.0) (λ few at locals mode.
      gives-mapped _ _ (λ (pair : Meant C × Meant C). meant reader (exprs.Binary op pair.0.tree pair.1.tree) (binary_type op))
      (both (alone reader locals (reading reader a.0)) (alone reader locals (reading reader b.0)))
      (gives-two locals a b (omega (arith, few)) (omega (arith, few)))
      (λ pair is. right-Binary op (expr_uses a.0) (expr_uses b.0) pair.0.tree pair.1.tree is.0 is.1))
  layer (ExprNode-F.Assign a op b) = from (ExprNode-F.Assign a.0 op b.0) (λ few at locals mode.
      gives-mapped _ _ (λ (pair : Meant C × Meant C). meant reader (exprs.Assign op pair.0.tree pair.1.tree) pair.0.static_type)
      (both (alone reader locals (reading reader a.0)) (alone reader locals (reading reader b.0)))
      (gives-two locals a b (omega (arith, few)) (omega (arith, few)))
      (λ pair is. right-Assign op (expr_uses a.0) (expr_uses b.0) pair.0.tree pair.1.tree is.0 is.1))
  layer (ExprNode-F.Cond test_e a b) = from (ExprNode-F.Cond test_e.0 a.0 b.0) (λ few at locals mode.
      gives-mapped (λ (three : Meant C × (Meant C × Meant C)). Right (expr_uses test_e.0) three.0
      × (Right (expr_uses a.0) three.1.0 × Right (expr_uses b.0) three.1.1)) _
      (λ (three : Meant C × (Meant C × Meant C)). choice reader three.0 three.1.0 three.1.1)
      (both (alone reader locals (reading reader test_e.0))
      (both (alone reader locals (reading reader a.0)) (alone reader locals (reading reader b.0))))
      (gives-both (Right (expr_uses test_e.0)) (λ (pair : Meant C × Meant C). Right (expr_uses a.0) pair.0 × Right (expr_uses b.0) pair.1)
      (alone reader locals (reading reader test_e.0))
      (both (alone reader locals (reading reader a.0)) (alone reader locals (reading reader b.0)))
      (gives-alone locals test_e (omega (arith, few)))
      (gives-two locals a b (omega (arith, few)) (omega (arith, few))))
      (λ three is. right-Cond (expr_uses test_e.0) (expr_uses a.0) (expr_uses b.0) three.0.tree three.1.0.tree three.1.1.tree
      is.0 is.1.0 is.1.1))
  layer (ExprNode-F.Cast type e) = from (ExprNode-F.Cast type e.0) (λ few at locals mode.
      gives-mapped (λ (pair : ReadType C × Meant C). IsReadRightly test reader right type pair.0 × Right (expr_uses e.0) pair.1) _
      (λ (pair : ReadType C × Meant C). meant reader (exprs.Cast pair.0.tree pair.1.tree) (of_type pair.0.type))
      (both (read_type reader at type) (alone reader locals (reading reader e.0)))
      (gives-both (IsReadRightly test reader right type) (Right (expr_uses e.0)) (read_type reader at type)
      (alone reader locals (reading reader e.0)) (type-gives test reader right at type) (gives-alone locals e (omega (arith, few))))
      (λ pair is. right-Cast type pair.0.tree is.0.as_written (omega (arith, few)) (expr_uses e.0) pair.1.tree is.1))
  layer (ExprNode-F.InstanceOf e type) = from (ExprNode-F.InstanceOf e.0 type) (λ few at locals mode.
      gives-mapped (λ (pair : Meant C × ReadType C). Right (expr_uses e.0) pair.0 × IsReadRightly test reader right type pair.1) _
      (λ (pair : Meant C × ReadType C). meant reader (exprs.InstanceOf pair.0.tree pair.1.tree) primitive_value)
      (both (alone reader locals (reading reader e.0)) (read_type reader at type))
      (gives-both (Right (expr_uses e.0)) (IsReadRightly test reader right type) (alone reader locals (reading reader e.0))
      (read_type reader at type) (gives-alone locals e (omega (arith, few))) (type-gives test reader right at type))
      (λ pair is. right-InstanceOf type pair.1.tree is.1.as_written (omega (arith, few)) (expr_uses e.0) pair.0.tree is.0))
  layer (ExprNode-F.Paren e) = from (ExprNode-F.Paren e.0) (λ few at locals mode. gives-alone locals e few)

  placed : (y : Expr-F ((n : ExprNode) × NodeRight n) With) → IsRight (roll-Expr (map-Expr _ _ _ _ (λ p. p.0) (λ p. p.0) y))
  placed y few = subst (λ uses. GivesRight uses (reading reader (roll-Expr (record { at = y.at; node = y.node.0 }))))
      (sym (fold-roll-Expr ExprUses ExprUses expr_node_uses_step expr_uses_step (record { at = y.at; node = y.node.0 })))
      (subst (GivesRight (expr_node_uses y.node.0))
      (sym (fold-roll-Expr (ℕ → Reading C) (Reading C) (node_step reader) (expr_step reader) (record { at = y.at; node = y.node.0 })))
      (y.node.1 (let same = fold-roll-Expr ℕ ℕ width_node_step width_expr_step (record { at = y.at; node = y.node.0 }) in
      omega (arith, few, same)) y.at))

  all_right : (e : Expr) → IsRight e
  all_right = ind-Expr NodeRight IsRight (λ x y is. subst (λ z. NodeRight (roll-ExprNode z)) is (layer y))
      (λ x y is. subst (λ z. IsRight (roll-Expr z)) is (placed y))

  pub gives-expr : (locals : Locals C) (e : Expr) → expr_width e ≤ max_items
      → Gives (ExprRight test (expr_uses e)) (read_expr reader locals e)
  gives-expr locals e few = gives-mapped (Right (expr_uses e)) (ExprRight test (expr_uses e)) (λ (value : Meant C). value.tree)
      (alone reader locals (reading reader e)) (all_right e few locals None) (λ value is. is)
