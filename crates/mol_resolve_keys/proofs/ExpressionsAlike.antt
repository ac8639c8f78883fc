-- Readers that are alike read expressions alike.
use Rattle.std.proofs.Common.{◌≡◌, ℕ, ◌+◌, zero, suc, cond, List, [], ◌∷◌, map, length, Option, Some, None, codes, if◌then◌else◌, refl, sym, ◌∙◌, ap, subst}
use Rattle.std.specs.Str.{bytes_eq}
use Rattle.mol_base.specs.Operators.{is_step}
use Rattle.mol_base.specs.declared.ident.Id.{Id}
use Rattle.jav_tree.specs.declared.expr.Expr.{Expr}
use Rattle.jav_tree.specs.declared.expr.ExprNode.{ExprNode, fold-ExprNode}
use Rattle.jav_tree.specs.declared.expr.ExprNode.TheFolds.{fold-roll-ExprNode, fold-roll-Expr, ind-Expr, map-ExprNode, map-Expr}
use Rattle.jav_tree.specs.declared.expr.ExprNode.TheOpen.{ExprNode-F, Expr-F}
use Rattle.jav_tree.specs.declared.expr.ExprNode.TheViews.{roll-ExprNode, roll-Expr}
use Rattle.jav_tree.specs.declared.types.TypeName.{TypeName}
use Rattle.jav_names.specs.DottedNames.{Name, Names, Dotted}
use Rattle.jav_names.specs.LookUps.{field_on, method_on, index_on, method_from, super_method, field_through, method_through}
use Rattle.jav_names.specs.OnValues.{StaticType, primitive_value, null_value, outside_value, class_value}
use Rattle.jav_names.specs.StaticTypes.{of_type, of_literal, opens_string, common}
use Rattle.jav_names.specs.Views.{ViewType, array_type}
use Rattle.jav_names_laws.specs.Keys.{Keys, type_as, static_as}
use Rattle.mol_resolve_keys.specs.Alike.{locals_as, meant_as, renamed_meant, ReadersAlike}
use Rattle.mol_resolve_rules.specs.FaultKinds.{unknown_member}
use Rattle.mol_resolve_rules.specs.Locals.{Locals}
use Rattle.mol_resolve_rules.specs.Outcomes.{Outcome, mapped, over, both, put_first}
use Rattle.mol_resolve_rules.specs.Readers.{Reader}
use Rattle.mol_resolve_rules.specs.ReadTrees.{Meant, Mode, followers, Reading, longer, ClassPath, whole_path, front_path, no_path, path_of, arrays, unary_type, binary_type, meant, alone, values_of, field_meant, dot_meant, call_here, call_through, call_on, call_meant, super_call, created, index_meant, front_meant, static_field_meant, before, node_step, expr_step, reading, read_expr}
use Rattle.mol_resolve_rules.specs.ReadTypes.{ReadType, read_type}
use Rattle.mol_values_types.specs.Renamed.{rename_expr}
use Rattle.mol_values_types.specs.declared.iexpr.IExpr.{IExpr}
use Rattle.mol_values_types.specs.declared.iexpr.IExpr.TheVariants as exprs
use Rattle.mol_resolve_keys.proofs.FoundStands.{field_on-stands, method_on-stands, field_through-stands, method_through-stands, method-stands, super_method-stands}
use Rattle.mol_resolve_keys.proofs.MembersAlike as members
use Rattle.mol_resolve_keys.proofs.NamesAlike as names
use Rattle.mol_resolve_keys.proofs.NamesAlike.{MeantAlike, SameTrees, valued-alike, of_type-alike, static-if, path_as, path-alike}
use Rattle.mol_resolve_keys.proofs.OutcomesAlike.{OutcomesAlike, Made, equal-mapped, Both, alike-fine, alike-silent, alike-refused, alike-mapped, alike-over, alike-beside, alike-both}
use Rattle.mol_resolve_keys.proofs.RenamedTrees as renamed
use Rattle.mol_resolve_keys.proofs.TypesAlike.{TypesAlike, type-alike}

module _ {C M D N : Type 0} (keys : Keys C M D N) (name : Id → Id) (first : Reader C M) (second : Reader D N)
    (alike : ReadersAlike keys name first second) where
  abbrev IsMeantAlike : Meant C → Meant D → Type 0
  IsMeantAlike = MeantAlike keys name first second alike

  abbrev IsTypeAlike : ReadType C → ReadType D → Type 0
  IsTypeAlike = TypesAlike keys name first second alike

  abbrev SameTree : IExpr → IExpr → Type 0
  SameTree = Made (rename_expr name)

  abbrev AreSameTrees : List IExpr → List IExpr → Type 0
  AreSameTrees = SameTrees keys name first second alike

  abbrev others : Locals C → Locals D
  others = locals_as keys.class

  -- the same names, and alike what they mean, however it stands
  record ReadingAlike (r : Reading C) (s : Reading D) : Type 0 where
    names : r.names ≡ s.names
    means : (locals : Locals C) (mode : Mode) → OutcomesAlike IsMeantAlike (r.means locals mode) (s.means (others locals) mode)

  abbrev Alike : Expr → Type 0
  Alike e = ReadingAlike (reading first e) (reading second e)

  abbrev first_reading : ExprNode → ℕ → Reading C
  first_reading = fold-ExprNode (ℕ → Reading C) (Reading C) (node_step first) (expr_step first)

  abbrev second_reading : ExprNode → ℕ → Reading D
  second_reading = fold-ExprNode (ℕ → Reading D) (Reading D) (node_step second) (expr_step second)

  abbrev NodeAlike : ExprNode → Type 0
  NodeAlike n = (at : ℕ) → ReadingAlike (first_reading n at) (second_reading n at)

  abbrev With : Type 0
  With = (e : Expr) × Alike e

  abbrev firsts : List With → List (Reading C)
  firsts es = map (reading first) (map (λ p. p.0) es)

  abbrev seconds : List With → List (Reading D)
  seconds es = map (reading second) (map (λ p. p.0) es)

  -- ---- parts

  many : (es : List With) → length (firsts es) ≡ length (seconds es)
  many [] = refl
  many (e ∷ es) = ap suc (many es)

  module _ (locals : Locals C) where
    alone-alike : (e : With)
        → OutcomesAlike IsMeantAlike (alone first locals (reading first e.0)) (alone second (others locals) (reading second e.0))
    alone-alike e = e.1.means locals None

    tree-alike : (o : Outcome (Meant C)) (r : Outcome (Meant D)) → OutcomesAlike IsMeantAlike o r
        → OutcomesAlike SameTree (mapped (λ (value : Meant C). value.tree) o) (mapped (λ (value : Meant D). value.tree) r)
    tree-alike o r is = alike-mapped IsMeantAlike SameTree _ _ o r is (λ value other same. same.tree)

    values-alike : (es : List With)
        → OutcomesAlike AreSameTrees (values_of first locals (firsts es)) (values_of second (others locals) (seconds es))
    values-alike [] = alike-fine AreSameTrees [] [] refl
    values-alike (e ∷ es) = alike-mapped (Both SameTree AreSameTrees) AreSameTrees put_first put_first _ _
        (alike-both SameTree AreSameTrees _ _ (values_of first locals (firsts es)) (values_of second (others locals) (seconds es))
        (tree-alike (alone first locals (reading first e.0)) (alone second (others locals) (reading second e.0)) (alone-alike e))
        (values-alike es))
        (λ pair other same. λ i. same.0 i ∷ same.1 i)

    two-alike : (a b : With) → OutcomesAlike (Both IsMeantAlike IsMeantAlike)
        (both (alone first locals (reading first a.0)) (alone first locals (reading first b.0)))
        (both (alone second (others locals) (reading second a.0)) (alone second (others locals) (reading second b.0)))
    two-alike a b = alike-both IsMeantAlike IsMeantAlike _ _ _ _ (alone-alike a) (alone-alike b)

    typed-alike : (at : ℕ) (type : TypeName) (es : List With) → OutcomesAlike (Both IsTypeAlike AreSameTrees)
        (both (read_type first at type) (values_of first locals (firsts es)))
        (both (read_type second at type) (values_of second (others locals) (seconds es)))
    typed-alike at type es =
        alike-both IsTypeAlike AreSameTrees _ _ _ _ (type-alike keys name first second alike at type) (values-alike es)

  -- ---- static types

  arrays-alike : (count : ℕ) (type : ViewType C) → type_as keys.class (arrays count type) ≡ arrays count (type_as keys.class type)
  arrays-alike zero type = refl
  arrays-alike (suc count) type = ap (λ (t : ViewType D). array_type t) (arrays-alike count type)

  literal-alike : (text : Name) → static_as keys.class (of_literal text) ≡ of_literal text
  literal-alike text =
      static-if keys.class (bytes_eq text (codes "null")) null_value (if opens_string text then outside_value else primitive_value)
      ∙ ap (λ (t : StaticType D). cond (bytes_eq text (codes "null")) null_value t)
      (static-if keys.class (opens_string text) outside_value primitive_value)

  unary-alike : (op : Name) (type : StaticType C) → static_as keys.class (unary_type op type) ≡ unary_type op (static_as keys.class type)
  unary-alike op type = static-if keys.class (is_step op) type primitive_value

  binary-alike : (op : Name) → static_as keys.class (binary_type op) ≡ binary_type op
  binary-alike op = static-if keys.class (bytes_eq op (codes "+")) outside_value primitive_value

  read_type-alike : (read : ReadType C) (other : ReadType D) → IsTypeAlike read other
      → static_as keys.class (of_type read.type) ≡ of_type other.type
  read_type-alike read other same = of_type-alike keys.class read.type ∙ ap (λ (t : ViewType D). of_type t) same.type

  meant-alike : (tree other : IExpr) (type : StaticType C) (seen : StaticType D) → tree ≡ rename_expr name other
      → static_as keys.class type ≡ seen → IsMeantAlike (meant first tree type) (meant second other seen)
  meant-alike tree other type seen same are = record { tree = same; is_this = refl; static_type = are }

  -- ---- names with dots

  module _ (e : With) (text : Name) (at : ℕ) where
    value-alike : (locals : Locals C) (mode : Mode) → OutcomesAlike IsMeantAlike
        (over ((reading first e.0).means locals mode) (λ value. field_meant first at text value
        (field_on first.view text value.static_type)))
        (over ((reading second e.0).means (others locals) mode)
        (λ value. field_meant second at text value (field_on second.view text value.static_type)))
    value-alike locals mode = alike-over IsMeantAlike IsMeantAlike
        (λ value. field_meant first at text value (field_on first.view text value.static_type))
        (λ value. field_meant second at text value (field_on second.view text value.static_type)) ((reading first e.0).means locals mode)
        ((reading second e.0).means (others locals) mode) (e.1.means locals mode)
        (λ value other same. subst (λ o. OutcomesAlike IsMeantAlike
        (field_meant first at text value (field_on first.view text value.static_type))
        (field_meant second at text other o))
        (alike.looks.fields_on text value.static_type ∙ ap (λ (t : StaticType D). field_on second.view text t) same.static_type)
        (members.field_meant-alike keys name first second alike at text value other same (field_on first.view text value.static_type)
        (field_on-stands first.view alike.ordered text value.static_type)))

    front-alike : (mode : Mode) → OutcomesAlike IsMeantAlike (front_meant first at mode) (front_meant second at mode)
    front-alike None = alike-refused IsMeantAlike unknown_member at
    front-alike (Some follow) = alike-silent IsMeantAlike

    dot-by : (locals : Locals C) (mode before : Mode) (p : ClassPath C) → OutcomesAlike IsMeantAlike
        (dot_meant first at text mode ((reading first e.0).means locals before) p)
        (dot_meant second at text mode ((reading second e.0).means (others locals) before) (path_as keys name first second alike p))
    dot-by locals mode before (whole_path class) =
        subst (λ o. OutcomesAlike IsMeantAlike (static_field_meant first at (field_through first.view class text))
        (static_field_meant second at o)) (alike.looks.fields_through class text)
        (members.static_field-alike keys name first second alike at (field_through first.view class text)
        (field_through-stands first.view alike.ordered class text))
    dot-by locals mode before front_path = front-alike mode
    dot-by locals mode before no_path = value-alike locals before

    -- what the names up to here spell
    spelled : (locals : Locals C) (follow : Names)
        → path_as keys name first second alike (path_of first locals (reading first e.0).names follow)
        ≡ path_of second (others locals) (reading second e.0).names follow
    spelled locals follow = path-alike keys name first second alike locals (reading first e.0).names follow
        ∙ ap (λ (dotted : Option Dotted). path_of second (others locals) dotted follow) e.1.names

    Dot-alike : ReadingAlike (node_step first (ExprNode-F.Dot (reading first e.0) text) at)
        (node_step second (ExprNode-F.Dot (reading second e.0) text) at)
    Dot-alike = record {
      names = ap (longer text) e.1.names;
      means = λ locals mode.
          subst (λ p. OutcomesAlike IsMeantAlike
          (dot_meant first at text mode ((reading first e.0).means locals (before text mode))
          (path_of first locals (reading first e.0).names (text ∷ followers mode)))
          (dot_meant second at text mode ((reading second e.0).means (others locals) (before text mode)) p))
          (spelled locals (text ∷ followers mode))
          (dot-by locals mode (before text mode) (path_of first locals (reading first e.0).names (text ∷ followers mode)));
    }

  -- ---- calls and creations

  module _ (text : Name) (args : List With) (at : ℕ) where
    Call-alike : ReadingAlike (node_step first (ExprNode-F.Call None text (firsts args)) at)
        (node_step second (ExprNode-F.Call None text (seconds args)) at)
    Call-alike = record {
      names = refl;
      means = λ locals mode. alike-beside AreSameTrees IsMeantAlike
          (λ values. call_here first at text values (method_from first.view first.class text (length (firsts args))))
          (λ values. call_here second at text values (method_from second.view second.class text (length (seconds args))))
          (values_of first locals (firsts args)) (values_of second (others locals) (seconds args)) (values-alike locals args)
          (λ values trees same. subst (λ f. OutcomesAlike IsMeantAlike
          (call_here first at text values (method_from first.view first.class text (length (firsts args))))
          (call_here second at text trees f))
          (alike.looks.methods first.class text (length (firsts args))
          ∙ (λ i. method_from second.view (alike.class i) text (many args i)))
          (members.call_here-alike keys name first second alike values trees same at text
          (method_from first.view first.class text (length (firsts args)))
          (method-stands first.view alike.ordered first.class text (length (firsts args)))));
    }

    SuperCall-alike : ReadingAlike (node_step first (ExprNode-F.SuperCall text (firsts args)) at)
        (node_step second (ExprNode-F.SuperCall text (seconds args)) at)
    SuperCall-alike = record {
      names = refl;
      means = λ locals mode. alike-beside AreSameTrees IsMeantAlike
          (λ values. super_call first at text values (super_method first.view first.class text (length (firsts args))))
          (λ values. super_call second at text values (super_method second.view second.class text (length (seconds args))))
          (values_of first locals (firsts args)) (values_of second (others locals) (seconds args)) (values-alike locals args)
          (λ values trees same. subst (λ f. OutcomesAlike IsMeantAlike
          (super_call first at text values (super_method first.view first.class text (length (firsts args))))
          (super_call second at text trees f))
          (alike.looks.super_methods first.class text (length (firsts args))
          ∙ (λ i. super_method second.view (alike.class i) text (many args i)))
          (members.super_call-alike keys name first second alike values trees same at text
          (super_method first.view first.class text (length (firsts args)))
          (super_method-stands first.view alike.ordered first.class text (length (firsts args)))));
    }

  module _ (e : With) (text : Name) (args : List With) (at : ℕ) where
    call-by : (locals : Locals C) (p : ClassPath C) → OutcomesAlike IsMeantAlike
        (call_meant first at text (length (firsts args)) ((reading first e.0).means locals (Some []))
        (values_of first locals (firsts args)) p)
        (call_meant second at text (length (seconds args)) ((reading second e.0).means (others locals) (Some []))
        (values_of second (others locals) (seconds args)) (path_as keys name first second alike p))
    call-by locals (whole_path class) = alike-beside AreSameTrees IsMeantAlike
        (λ values. call_through first at values (method_through first.view class text (length (firsts args))))
        (λ values. call_through second at values (method_through second.view (keys.class class) text (length (seconds args))))
        (values_of first locals (firsts args)) (values_of second (others locals) (seconds args)) (values-alike locals args)
        (λ values trees same. subst (λ o. OutcomesAlike IsMeantAlike
        (call_through first at values (method_through first.view class text (length (firsts args)))) (call_through second at trees o))
        (alike.looks.methods_through class text (length (firsts args))
        ∙ ap (method_through second.view (keys.class class) text) (many args))
        (members.call_through-alike keys name first second alike values trees same at
        (method_through first.view class text (length (firsts args)))
        (method_through-stands first.view alike.ordered class text (length (firsts args)))))
    call-by locals front_path = alike-silent IsMeantAlike
    call-by locals no_path = alike-beside AreSameTrees IsMeantAlike
        (λ values. over ((reading first e.0).means locals (Some []))
        (λ value. call_on first at text value values (method_on first.view text (length (firsts args)) value.static_type)))
        (λ values. over ((reading second e.0).means (others locals) (Some []))
        (λ value. call_on second at text value values (method_on second.view text (length (seconds args)) value.static_type)))
        (values_of first locals (firsts args)) (values_of second (others locals) (seconds args)) (values-alike locals args)
        (λ values trees same. alike-over IsMeantAlike IsMeantAlike
        (λ value. call_on first at text value values (method_on first.view text (length (firsts args)) value.static_type))
        (λ value. call_on second at text value trees (method_on second.view text (length (seconds args)) value.static_type))
        ((reading first e.0).means locals (Some [])) ((reading second e.0).means (others locals) (Some [])) (e.1.means locals (Some []))
        (λ value other are. subst (λ o. OutcomesAlike IsMeantAlike
        (call_on first at text value values (method_on first.view text (length (firsts args)) value.static_type))
        (call_on second at text other trees o))
        (alike.looks.methods_on text (length (firsts args)) value.static_type
        ∙ (λ i. method_on second.view text (many args i) (are.static_type i)))
        (members.call_on-alike keys name first second alike values trees same at text value other are
        (method_on first.view text (length (firsts args)) value.static_type)
        (method_on-stands first.view alike.ordered text (length (firsts args)) value.static_type))))

    CallOn-alike : ReadingAlike (node_step first (ExprNode-F.Call (Some (reading first e.0)) text (firsts args)) at)
        (node_step second (ExprNode-F.Call (Some (reading second e.0)) text (seconds args)) at)
    CallOn-alike = record {
      names = refl;
      means = λ locals mode.
          subst (λ p. OutcomesAlike IsMeantAlike
          (call_meant first at text (length (firsts args)) ((reading first e.0).means locals (Some []))
          (values_of first locals (firsts args))
          (path_of first locals (reading first e.0).names []))
          (call_meant second at text (length (seconds args)) ((reading second e.0).means (others locals) (Some []))
          (values_of second (others locals) (seconds args)) p))
          (spelled e text at locals [])
          (call-by locals (path_of first locals (reading first e.0).names []));
    }

  module _ (type : TypeName) (es : List With) (at : ℕ) where
    New-alike : ReadingAlike (node_step first (ExprNode-F.New type (firsts es)) at) (node_step second (ExprNode-F.New type (seconds es)) at)
    New-alike = record {
      names = refl;
      means = λ locals mode. alike-beside AreSameTrees IsMeantAlike
          (λ values. over (read_type first at type) (λ read. created first at (length (firsts es)) read values read.type))
          (λ values. over (read_type second at type) (λ read. created second at (length (seconds es)) read values read.type))
          (values_of first locals (firsts es)) (values_of second (others locals) (seconds es)) (values-alike locals es)
          (λ values trees same. alike-over IsTypeAlike IsMeantAlike
          (λ read. created first at (length (firsts es)) read values read.type)
          (λ read. created second at (length (seconds es)) read trees read.type)
          (read_type first at type) (read_type second at type) (type-alike keys name first second alike at type)
          (λ read other is. subst (λ n. OutcomesAlike IsMeantAlike (created first at (length (firsts es)) read values read.type)
          (created second at n other trees other.type)) (many es)
          (members.created-alike keys name first second alike values trees same at (length (firsts es)) read other is)));
    }

    NewArray-alike : (pairs : ℕ) → ReadingAlike (node_step first (ExprNode-F.NewArray type (firsts es) pairs) at)
        (node_step second (ExprNode-F.NewArray type (seconds es) pairs) at)
    NewArray-alike pairs = record {
      names = refl;
      means = λ locals mode.
          alike-mapped (Both IsTypeAlike AreSameTrees) IsMeantAlike _ _ _ _ (typed-alike locals at type es)
          (λ pair other same. meant-alike _ _ _ _
          ((λ i. exprs.NewArray (same.0.tree i) (same.1 i) pairs) ∙ sym (renamed.renamed-NewArray name other.0.tree other.1 pairs))
          (of_type-alike keys.class (arrays (length (firsts es) + pairs) pair.0.type)
          ∙ ap (λ (t : ViewType D). of_type t) (arrays-alike (length (firsts es) + pairs) pair.0.type
          ∙ (λ i. arrays (many es i + pairs) (same.0.type i)))));
    }

    ArrayLit-alike : ReadingAlike (node_step first (ExprNode-F.ArrayLit type (firsts es)) at)
        (node_step second (ExprNode-F.ArrayLit type (seconds es)) at)
    ArrayLit-alike = record {
      names = refl;
      means = λ locals mode.
          alike-mapped (Both IsTypeAlike AreSameTrees) IsMeantAlike _ _ _ _ (typed-alike locals at type es)
          (λ pair other same. meant-alike _ _ _ _
          ((λ i. exprs.ArrayLit (same.0.tree i) (same.1 i)) ∙ sym (renamed.renamed-ArrayLit name other.0.tree other.1))
          (read_type-alike pair.0 other.0 same.0));
    }

  -- ---- operators

  -- one operand, two and three
  one : (at : ℕ) (make : Meant C → Meant C) (making : Meant D → Meant D) → ((value : Meant C) (other : Meant D) → IsMeantAlike value other
      → IsMeantAlike (make value) (making other)) → (e : With) (locals : Locals C)
      → OutcomesAlike IsMeantAlike (mapped make (alone first locals (reading first e.0)))
      (mapped making (alone second (others locals) (reading second e.0)))
  one at make making each e locals = alike-mapped IsMeantAlike IsMeantAlike make making _ _ (alone-alike locals e) each

  Braces-alike : (es : List With) (at : ℕ) → ReadingAlike (node_step first (ExprNode-F.Braces (firsts es)) at)
      (node_step second (ExprNode-F.Braces (seconds es)) at)
  Braces-alike es at = record {
    names = refl;
    means = λ locals mode. alike-mapped AreSameTrees IsMeantAlike _ _ _ _ (values-alike locals es)
        (λ values trees same. meant-alike _ _ _ _ (ap (λ (items : List IExpr). exprs.Braces items) same ∙ sym
        (renamed.renamed-Braces name trees)) refl);
  }

  Index-alike : (e k : With) (at : ℕ) → ReadingAlike (node_step first (ExprNode-F.Index (reading first e.0) (reading first k.0)) at)
      (node_step second (ExprNode-F.Index (reading second e.0) (reading second k.0)) at)
  Index-alike e k at = record {
    names = refl;
    means = λ locals mode. alike-beside IsMeantAlike IsMeantAlike
        (λ index. over (alone first locals (reading first e.0)) (λ array. index_meant first at array index (index_on array.static_type)))
        (λ index. over (alone second (others locals) (reading second e.0))
        (λ array. index_meant second at array index (index_on array.static_type)))
        (alone first locals (reading first k.0)) (alone second (others locals) (reading second k.0)) (alone-alike locals k)
        (λ index other are. alike-over IsMeantAlike IsMeantAlike
        (λ array. index_meant first at array index (index_on array.static_type))
        (λ array. index_meant second at array other (index_on array.static_type))
        (alone first locals (reading first e.0)) (alone second (others locals) (reading second e.0)) (alone-alike locals e)
        (λ array seen same. members.index-alike keys name first second alike at array seen same index other are));
  }

  Unary-alike : (op : Name) (e : With) (at : ℕ) → ReadingAlike (node_step first (ExprNode-F.Unary op (reading first e.0)) at)
      (node_step second (ExprNode-F.Unary op (reading second e.0)) at)
  Unary-alike op e at = record {
    names = refl;
    means = λ locals mode. one at _ _ (λ value other same. meant-alike _ _ _ _
        (ap (exprs.Unary op) same.tree ∙ sym (renamed.renamed-Unary name op other.tree))
        (unary-alike op value.static_type ∙ ap (unary_type op) same.static_type)) e locals;
  }

  Post-alike : (op : Name) (e : With) (at : ℕ) → ReadingAlike (node_step first (ExprNode-F.Post (reading first e.0) op) at)
      (node_step second (ExprNode-F.Post (reading second e.0) op) at)
  Post-alike op e at = record {
    names = refl;
    means = λ locals mode. one at _ _ (λ value other same. meant-alike _ _ _ _
        (ap (exprs.Post op) same.tree ∙ sym (renamed.renamed-Post name op other.tree)) same.static_type) e locals;
  }

  Binary-alike : (op : Name) (a b : With) (at : ℕ) → ReadingAlike
      (node_step first (ExprNode-F.Binary (reading first a.0) op (reading first b.0)) at)
      (node_step second (ExprNode-F.Binary (reading second a.0) op (reading second b.0)) at)
  Binary-alike op a b at = record {
    names = refl;
    means = λ locals mode.
        alike-mapped (Both IsMeantAlike IsMeantAlike) IsMeantAlike _ _ _ _ (two-alike locals a b)
        (λ pair other same. meant-alike _ _ _ _
        ((λ i. exprs.Binary op (same.0.tree i) (same.1.tree i)) ∙ sym (renamed.renamed-Binary name op other.0.tree other.1.tree))
        (binary-alike op));
  }

  Assign-alike : (op : Name) (a b : With) (at : ℕ) → ReadingAlike
      (node_step first (ExprNode-F.Assign (reading first a.0) op (reading first b.0)) at)
      (node_step second (ExprNode-F.Assign (reading second a.0) op (reading second b.0)) at)
  Assign-alike op a b at = record {
    names = refl;
    means = λ locals mode.
        alike-mapped (Both IsMeantAlike IsMeantAlike) IsMeantAlike _ _ _ _ (two-alike locals a b)
        (λ pair other same. meant-alike _ _ _ _
        ((λ i. exprs.Assign op (same.0.tree i) (same.1.tree i)) ∙ sym (renamed.renamed-Assign name op other.0.tree other.1.tree))
        same.0.static_type);
  }

  Cond-alike : (test a b : With) (at : ℕ) → ReadingAlike
      (node_step first (ExprNode-F.Cond (reading first test.0) (reading first a.0) (reading first b.0)) at)
      (node_step second (ExprNode-F.Cond (reading second test.0) (reading second a.0) (reading second b.0)) at)
  Cond-alike test a b at = record {
    names = refl;
    means = λ locals mode.
        alike-mapped (Both IsMeantAlike (Both IsMeantAlike IsMeantAlike)) IsMeantAlike _ _ _ _
        (alike-both IsMeantAlike (Both IsMeantAlike IsMeantAlike) _ _ _ _ (alone-alike locals test) (two-alike locals a b))
        (λ three other same. meant-alike _ _ _ _
        ((λ i. exprs.Cond (same.0.tree i) (same.1.0.tree i) (same.1.1.tree i))
        ∙ sym (renamed.renamed-Cond name other.0.tree other.1.0.tree other.1.1.tree))
        (alike.looks.choices three.1.0.static_type three.1.1.static_type
        ∙ (λ i. common second.view (same.1.0.static_type i) (same.1.1.static_type i))));
  }

  Cast-alike : (type : TypeName) (e : With) (at : ℕ) → ReadingAlike (node_step first (ExprNode-F.Cast type (reading first e.0)) at)
      (node_step second (ExprNode-F.Cast type (reading second e.0)) at)
  Cast-alike type e at = record {
    names = refl;
    means = λ locals mode. alike-mapped (Both IsTypeAlike IsMeantAlike) IsMeantAlike _ _ _ _
        (alike-both IsTypeAlike IsMeantAlike _ _ _ _ (type-alike keys name first second alike at type) (alone-alike locals e))
        (λ pair other same. meant-alike _ _ _ _
        ((λ i. exprs.Cast (same.0.tree i) (same.1.tree i)) ∙ sym (renamed.renamed-Cast name other.0.tree other.1.tree))
        (read_type-alike pair.0 other.0 same.0));
  }

  InstanceOf-alike : (e : With) (type : TypeName) (at : ℕ) → ReadingAlike
      (node_step first (ExprNode-F.InstanceOf (reading first e.0) type) at)
      (node_step second (ExprNode-F.InstanceOf (reading second e.0) type) at)
  InstanceOf-alike e type at = record {
    names = refl;
    means = λ locals mode. alike-mapped (Both IsMeantAlike IsTypeAlike) IsMeantAlike _ _ _ _
        (alike-both IsMeantAlike IsTypeAlike _ _ _ _ (alone-alike locals e) (type-alike keys name first second alike at type))
        (λ pair other same. meant-alike _ _ _ _
        ((λ i. exprs.InstanceOf (same.0.tree i) (same.1.tree i)) ∙ sym (renamed.renamed-InstanceOf name other.0.tree other.1.tree)) refl);
  }

  -- ---- all expressions

  from : (x : ExprNode-F ExprNode Expr) → ((at : ℕ) → ReadingAlike
      (node_step first (map-ExprNode _ _ _ _ first_reading (reading first) x) at)
      (node_step second (map-ExprNode _ _ _ _ second_reading (reading second) x) at)) → NodeAlike (roll-ExprNode x)
  from x each at = subst (λ (made : Reading C × Reading D). ReadingAlike made.0 made.1)
      (λ i. (
        sym (fold-roll-ExprNode (ℕ → Reading C) (Reading C) (node_step first) (expr_step first) x) i at,
        sym (fold-roll-ExprNode (ℕ → Reading D) (Reading D) (node_step second) (expr_step second) x) i at,
      )) (each at)

  layer : (y : ExprNode-F ((n : ExprNode) × NodeAlike n) With) → NodeAlike (roll-ExprNode (map-ExprNode _ _ _ _ (λ p. p.0) (λ p. p.0) y))
  layer (ExprNode-F.Lit text) = from (ExprNode-F.Lit text) (λ at. record {
    names = refl;
    means = λ locals mode.
        valued-alike keys name first second alike _ _ _ _ (sym (renamed.renamed-Lit name text)) (literal-alike text);
  })
  layer ExprNode-F.This = from ExprNode-F.This (λ at. record {
    names = refl;
    means = λ locals mode. alike-fine IsMeantAlike _ _
        (record { tree = sym (renamed.renamed-This name); is_this = refl; static_type = ap (λ (c : D). class_value c) alike.class });
  })
  layer (ExprNode-F.Name text) = from (ExprNode-F.Name text)
      (λ at. record { names = refl; means = λ locals mode. names.name-alike keys name first second alike at text locals mode })
  layer (ExprNode-F.Dot e text) = from (ExprNode-F.Dot e.0 text) (λ at. Dot-alike e text at)
  layer (ExprNode-F.Call None text args) = from (ExprNode-F.Call None text (map (λ p. p.0) args)) (λ at. Call-alike text args at)
  layer (ExprNode-F.Call (Some e) text args) =
      from (ExprNode-F.Call (Some e.0) text (map (λ p. p.0) args)) (λ at. CallOn-alike e text args at)
  layer (ExprNode-F.SuperCall text args) = from (ExprNode-F.SuperCall text (map (λ p. p.0) args)) (λ at. SuperCall-alike text args at)
  layer (ExprNode-F.New type args) = from (ExprNode-F.New type (map (λ p. p.0) args)) (λ at. New-alike type args at)
  layer (ExprNode-F.NewArray type sizes pairs) =
      from (ExprNode-F.NewArray type (map (λ p. p.0) sizes) pairs) (λ at. NewArray-alike type sizes at pairs)
  layer (ExprNode-F.ArrayLit type items) = from (ExprNode-F.ArrayLit type (map (λ p. p.0) items)) (λ at. ArrayLit-alike type items at)
  layer (ExprNode-F.Braces items) = from (ExprNode-F.Braces (map (λ p. p.0) items)) (λ at. Braces-alike items at)
  layer (ExprNode-F.Index e k) = from (ExprNode-F.Index e.0 k.0) (λ at. Index-alike e k at)
  layer (ExprNode-F.Unary op e) = from (ExprNode-F.Unary op e.0) (λ at. Unary-alike op e at)
  layer (ExprNode-F.Post e op) = from (ExprNode-F.Post e.0 op) (λ at. Post-alike op e at)
  layer (ExprNode-F.Binary a op b) = from (ExprNode-F.Binary a.0 op b.0) (λ at. Binary-alike op a b at)
  layer (ExprNode-F.Assign a op b) = from (ExprNode-F.Assign a.0 op b.0) (λ at. Assign-alike op a b at)
  layer (ExprNode-F.Cond test a b) = from (ExprNode-F.Cond test.0 a.0 b.0) (λ at. Cond-alike test a b at)
  layer (ExprNode-F.Cast type e) = from (ExprNode-F.Cast type e.0) (λ at. Cast-alike type e at)
  layer (ExprNode-F.InstanceOf e type) = from (ExprNode-F.InstanceOf e.0 type) (λ at. InstanceOf-alike e type at)
  layer (ExprNode-F.Paren e) = from (ExprNode-F.Paren e.0) (λ at. record { names = refl; means = λ locals mode. alone-alike locals e })

  placed : (y : Expr-F ((n : ExprNode) × NodeAlike n) With) → Alike (roll-Expr (map-Expr _ _ _ _ (λ p. p.0) (λ p. p.0) y))
  placed y = subst (λ (made : Reading C × Reading D). ReadingAlike made.0 made.1)
      (λ i. (
        sym (fold-roll-Expr (ℕ → Reading C) (Reading C) (node_step first) (expr_step first) (record { at = y.at; node = y.node.0 })) i,
        sym (fold-roll-Expr (ℕ → Reading D) (Reading D) (node_step second) (expr_step second) (record { at = y.at; node = y.node.0 })) i,
      ))
      (y.node.1 y.at)

  all_alike : (e : Expr) → Alike e
  all_alike = ind-Expr NodeAlike Alike (λ x y is. subst (λ z. NodeAlike (roll-ExprNode z)) is (layer y))
      (λ x y is. subst (λ z. Alike (roll-Expr z)) is (placed y))

  pub meant-as : (locals : Locals C) (mode : Mode) (e : Expr) → mapped (meant_as keys.class) ((reading first e).means locals mode)
      ≡ mapped (renamed_meant name) ((reading second e).means (locals_as keys.class locals) mode)
  meant-as locals mode e = equal-mapped IsMeantAlike (meant_as keys.class) (renamed_meant name) _ _ ((all_alike e).means locals mode)
      (λ value other same. λ i. record { tree = same.tree i; is_this = same.is_this i; static_type = same.static_type i })

  pub expression-alike : (locals : Locals C) (e : Expr)
      → OutcomesAlike SameTree (read_expr first locals e) (read_expr second (locals_as keys.class locals) e)
  expression-alike locals e = tree-alike locals _ _ ((all_alike e).means locals None)
