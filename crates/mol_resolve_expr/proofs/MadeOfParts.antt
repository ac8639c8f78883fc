-- What is made of parts, as the definitions make it.
use Rattle.std.proofs.Common.{◌≡◌, ℕ, ◌+◌, ◌<◌, ◌≤◌, List, [], ◌∷◌, ◌++◌, map, length, take, get_or, Option, Some, None, option_map, refl, sym, ap, ◌∙◌, subst}
use Rattle.std.specs.Option.{option_zip}
use Rattle.std.proofs.lemmas.List.{take_more, take_all, map_push, length-map}
use Rattle.jav_tree.specs.declared.expr.Expr.{Expr}
use Rattle.jav_tree.specs.declared.expr.ExprNode.TheOpen.{ExprNode-F}
use Rattle.jav_names.specs.LookUps.{index_on}
use Rattle.jav_names.specs.OnValues.{StaticType}
use Rattle.jav_names.specs.StaticTypes.{of_type, common}
use Rattle.jav_names.specs.UnitViews.{MemberKey}
use Rattle.mol_resolve_expr.proofs.Outcomes.{made_read, both_read, beside_read, given_read}
use Rattle.mol_resolve_expr.proofs.Several.{put_last, all_more, all-length}
use Rattle.mol_resolve_expr.specs.Parts.{alone_of, all_of, choice_of, node_of}
use Rattle.mol_resolve_readings.specs.meant.Made as spec
use Rattle.mol_resolve_readings.specs.reads.Reads.{Reads}
use Rattle.mol_resolve_rules.specs.Locals.{Locals}
use Rattle.mol_resolve_rules.specs.Outcomes.{TreeFault, Outcome, mapped, given, over, both, all}
use Rattle.mol_resolve_rules.specs.Readers.{Reader}
use Rattle.mol_resolve_rules.specs.ReadTrees.{Meant, Reading, reading, alone, meant, arrays, values_of, index_meant}
use Rattle.mol_resolve_rules.specs.ReadTypes.{ReadType}
use Rattle.mol_values_types.specs.declared.iexpr.IExpr.{IExpr}
use Rattle.mol_values_types.specs.declared.iexpr.IExpr.TheVariants as exprs

one-more : (values : Option (List IExpr)) (value : Option (Meant ℕ))
    → option_map spec.one_more (option_zip values value)
    ≡ option_map put_last (option_zip values (option_map (λ (value : Meant ℕ). value.tree) value))
one-more None value = refl
one-more (Some values) None = refl
one-more (Some values) (Some value) = refl

module _ (reader : Reader ℕ MemberKey) (locals : Locals ℕ) where
  abbrev tree_of : Reading ℕ → Outcome IExpr
  tree_of part = mapped (λ (value : Meant ℕ). value.tree) (alone reader locals part)

  one_further : (es : List Expr) (e : Expr)
      → all_of reader locals (es ++ e ∷ []) ≡ mapped put_last (both (all_of reader locals es) (tree_of (reading reader e)))
  one_further es e =
      ap all (ap (map tree_of) (map_push (reading reader) es e) ∙ map_push tree_of (map (reading reader) es) (reading reader e))
      ∙ all_more (map tree_of (map (reading reader) es)) (tree_of (reading reader e))

  -- one more expression of a list
  pub all_read-more : (items : List Expr) (i : ℕ) (e : Expr) (values longer : Option (List IExpr)) (value : Option (Meant ℕ))
      (before middle after : Option TreeFault) → i < length items → e ≡ get_or items i e
      → Reads (all_of reader locals (take i items)) values before middle → Reads (alone_of reader locals e) value middle after
      → longer ≡ option_map spec.one_more (option_zip values value) → Reads (all_of reader locals (take (i + 1) items)) longer before after
  all_read-more items i e values longer value before middle after within at one two is =
      let taken : take (i + 1) items ≡ take i items ++ e ∷ [] =
      take_more items i e within ∙ ap (λ e. take i items ++ e ∷ []) (sym at)
      in
      let trees : Option IExpr = option_map (λ (value : Meant ℕ). value.tree) value in
      let last : Reads (tree_of (reading reader e)) trees middle after =
      made_read (λ (value : Meant ℕ). value.tree) (alone_of reader locals e) value trees middle after two refl
      in
      let parts = both_read (all_of reader locals (take i items)) (tree_of (reading reader e)) values trees before middle after one last in
      subst (λ outcome. Reads outcome longer before after) (sym (ap (all_of reader locals) taken ∙ one_further (take i items) e))
      (made_read put_last (both (all_of reader locals (take i items)) (tree_of (reading reader e))) (option_zip values trees) longer before after
      parts (is ∙ one-more values value))

  pub all_read-whole : (items : List Expr) (i : ℕ) (values : Option (List IExpr)) (before after : Option TreeFault)
      → length items ≤ i → Reads (all_of reader locals (take i items)) values before after → Reads (all_of reader locals items) values before after
  all_read-whole items i values before after past read =
      subst (λ es. Reads (all_of reader locals es) values before after) (take_all i items past) read

  -- A new array has as many dimensions as sizes are written, each of which has a value, and further ones.
  sized : (count pairs : ℕ) (type : Option (ReadType ℕ)) (sizes : Option (List IExpr))
      → ((values : List IExpr) → sizes ≡ Some values → length values ≡ count)
      → option_map (spec.new_array pairs) (option_zip type sizes)
      ≡ option_map (λ (parts : ReadType ℕ × List IExpr). meant reader (exprs.NewArray parts.0.tree parts.1 pairs)
      (of_type (arrays (count + pairs) parts.0.type))) (option_zip type sizes)
  sized count pairs None sizes same = refl
  sized count pairs (Some type) None same = refl
  sized count pairs (Some type) (Some values) same =
      ap (λ count. Some (meant reader (exprs.NewArray type.tree values pairs) (of_type (arrays (count + pairs) type.type)))) (same values refl)

  pub array_sized : (sizes : List (Reading ℕ)) (pairs : ℕ) (type : Option (ReadType ℕ)) (values : Option (List IExpr))
      → values ≡ (values_of reader locals sizes).value
      → option_map (spec.new_array pairs) (option_zip type values)
      ≡ option_map (λ (parts : ReadType ℕ × List IExpr). meant reader (exprs.NewArray parts.0.tree parts.1 pairs)
      (of_type (arrays (length sizes + pairs) parts.0.type))) (option_zip type values)
  array_sized sizes pairs type values is = sized (length sizes) pairs type values
      (λ found here. all-length (map tree_of sizes) found (sym is ∙ here) ∙ length-map sizes tree_of)

  -- an item of an array, the index of which was read first
  pub item_read : (index array : Reading ℕ) (at : ℕ) (i a value : Option (Meant ℕ)) (before between middle after : Option TreeFault)
      → Reads (alone reader locals index) i before between → Reads (alone reader locals array) a between middle
      → Reads (given a (λ array. index_meant reader at array i (index_on array.static_type))) value middle after
      → Reads (node_of reader locals (ExprNode-F.Index array index) at) value before after
  item_read index array at i a value before between middle after first next made =
      beside_read (alone reader locals index)
      (λ index. over (alone reader locals array) (λ array. index_meant reader at array index (index_on array.static_type)))
      i value before between after first
      (given_read (alone reader locals array) (λ array. index_meant reader at array i (index_on array.static_type)) a value between middle after
      next made)

-- the static type of a choice is asked for where both values are there
pub chosen : (reader : Reader ℕ MemberKey) (type : StaticType ℕ) (test first second : Option (Meant ℕ))
    → ((a b : Meant ℕ) → first ≡ Some a → second ≡ Some b → type ≡ common reader.view a.static_type b.static_type)
    → option_map (spec.choice type) (option_zip test (option_zip first second))
    ≡ option_map (choice_of reader) (option_zip test (option_zip first second))
chosen reader type None first second same = refl
chosen reader type (Some test) None second same = refl
chosen reader type (Some test) (Some first) None same = refl
chosen reader type (Some test) (Some first) (Some second) same =
    ap (λ type. Some (spec.choice type (test, (first, second)))) (same first second refl refl)
