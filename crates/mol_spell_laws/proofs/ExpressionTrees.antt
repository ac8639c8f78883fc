-- Trees of expressions that are printable, within the limit of number and without parentheses, from such parts.
use Rattle.std.proofs.Common.{◌≡◌, ℕ, ◌+◌, ◌≤◌, Bool, true, false, List, [], ◌∷◌, length, map, option_map, Option, Some, None, refl, ◌∙◌, ap, arith}
use Rattle.std.specs.Prelude.{is_some}
use Rattle.std.specs.List.{list_all}
use Rattle.std.proofs.lemmas.Bool.{and_parts}
use Rattle.std.proofs.lemmas.List.{length-map}
use Rattle.mol_base.specs.Operators.{is_step, is_assignment}
use Rattle.jav_print_laws.proofs.printable_lemmas.Expressions.{both}
use Rattle.jav_print_laws.proofs.printable_lemmas.Widths.{narrow, max_within, counted_within}
use Rattle.jav_tree.proofs.ExpressionFolds.{ExprFold, folded_node, fold-placed, fold-Lit, fold-This, fold-Name, fold-Dot, fold-Call, fold-SuperCall, fold-New, fold-NewArray, fold-ArrayLit, fold-Braces, fold-Index, fold-Unary, fold-Post, fold-Binary, fold-Assign, fold-Cond, fold-Cast, fold-InstanceOf}
use Rattle.jav_tree.proofs.ExpressionUses.{uses-placed, uses-Lit, uses-This, uses-Name, uses-Dot, uses-Call, uses-SuperCall, uses-New, uses-NewArray, uses-ArrayLit, uses-Braces, uses-Index, uses-Unary, uses-Post, uses-Binary, uses-Assign, uses-Cond, uses-Cast, uses-InstanceOf}
use Rattle.jav_tree.specs.Height.{tallest, tallest_maybe}
use Rattle.jav_tree.specs.Operators.{binary_level}
use Rattle.jav_tree.specs.Parens.{without_parens_node_step, without_parens_expr_step, expr_without_parens}
use Rattle.jav_tree.specs.PrintableExpressions.{ExprUses, type_uses, expr_uses, expr_node_uses, value_where, target_where, effect_where, are_values, is_value_if_any, is_not_empty, prefixed}
use Rattle.jav_tree.specs.TokenTexts.{is_name, is_literal}
use Rattle.jav_tree.specs.Widths.{type_width, expr_width, counted, width_node_step, width_expr_step}
use Rattle.jav_tree.specs.declared.expr.Expr.{Expr}
use Rattle.jav_tree.specs.declared.expr.ExprNode.{ExprNode}
use Rattle.jav_tree.specs.declared.expr.ExprNode.TheVariants as node
use Rattle.jav_tree.specs.declared.types.TypeName.{TypeName}
use Rattle.jav_names.specs.DottedNames.{Name, Names, Dotted}
use Rattle.mol_spell_rules.specs.SpelledExpressions.{made, name_tree, dot_tree, dots_tree, names_tree}
use Rattle.mol_spell_laws.proofs.Names.{are_names, names_of}

-- the folds that count, and that drop parentheses
abbrev Counting : ExprFold
Counting = record { Node = ℕ; Whole = ℕ; of_node = width_node_step; of_expr = width_expr_step }

abbrev Baring : ExprFold
Baring = record { Node = ℕ → Expr; Whole = Expr; of_node = without_parens_node_step; of_expr = without_parens_expr_step }

-- ---- what is proved of trees

-- It may be this, is within the limit of number, and has no parentheses.
pub record Fits (may : ExprUses) (e : Expr) : Type 0 where
  pub uses : expr_uses e ≡ may
  pub narrow : expr_width e ≤ 255
  pub bare : expr_without_parens e ≡ e

-- the same of values, and of items in braces, which may be first values
pub record ValuesFit (es : List Expr) : Type 0 where
  pub values : are_values (map expr_uses es) ≡ true
  pub narrow : tallest (map expr_width es) ≤ 255
  pub bare : map expr_without_parens es ≡ es

pub record ItemsFit (es : List Expr) : Type 0 where
  pub items : list_all (λ (u : ExprUses). u.is_first_value) (map expr_uses es) ≡ true
  pub narrow : tallest (map expr_width es) ≤ 255
  pub bare : map expr_without_parens es ≡ es

-- what stands before a call, or nothing
pub record BeforeFits (on : Option Expr) : Type 0 where
  pub value : is_value_if_any (option_map expr_uses on) ≡ true
  pub narrow : tallest_maybe (option_map expr_width on) ≤ 255
  pub bare : option_map expr_without_parens on ≡ on

-- a part of this use is a value
pub fits-value : (may : ExprUses) (e : Expr) → Fits may e → may.is_value ≡ true → (expr_uses e).is_value ≡ true
fits-value may e fits value = ap (λ (u : ExprUses). u.is_value) fits.uses ∙ value

pub fits-target : (may : ExprUses) (e : Expr) → Fits may e → may.is_target ≡ true → (expr_uses e).is_target ≡ true
fits-target may e fits target = ap (λ (u : ExprUses). u.is_target) fits.uses ∙ target

pub no-values : ValuesFit []
no-values = record { values = refl; narrow = omega arith; bare = refl }

pub more-values : (may : ExprUses) (e : Expr) (es : List Expr) → Fits may e → may.is_value ≡ true → ValuesFit es → ValuesFit (e ∷ es)
more-values may e es fits value rest = record {
  values = both (fits-value may e fits value) rest.values;
  narrow = max_within (expr_width e) (tallest (map expr_width es)) 255 fits.narrow rest.narrow;
  bare = λ i. fits.bare i ∷ rest.bare i;
}

pub no-items : ItemsFit []
no-items = record { items = refl; narrow = omega arith; bare = refl }

pub more-items : (may : ExprUses) (e : Expr) (es : List Expr) → Fits may e → may.is_first_value ≡ true → ItemsFit es → ItemsFit (e ∷ es)
more-items may e es fits first rest = record {
  items = both (ap (λ (u : ExprUses). u.is_first_value) fits.uses ∙ first) rest.items;
  narrow = max_within (expr_width e) (tallest (map expr_width es)) 255 fits.narrow rest.narrow;
  bare = λ i. fits.bare i ∷ rest.bare i;
}

pub before-none : BeforeFits None
before-none = record { value = refl; narrow = omega arith; bare = refl }

pub before-some : (may : ExprUses) (e : Expr) → Fits may e → may.is_value ≡ true → BeforeFits (Some e)
before-some may e fits value = record { value = fits-value may e fits value; narrow = fits.narrow; bare = ap (λ e. Some e) fits.bare }

few-values : (es : List Expr) → length es ≤ 255 → ValuesFit es → counted (map expr_width es) ≤ 255
few-values es few fits = counted_within es 255 few fits.narrow

-- ---- each tree

made-fits : (n : ExprNode) (may : ExprUses) (width : ℕ) → expr_node_uses n ≡ may → folded_node Counting n ≡ width → width ≤ 255
    → folded_node Baring n 0 ≡ made n → Fits may (made n)
made-fits n may width uses is few bare = record {
  uses = uses-placed 0 n ∙ uses;
  narrow = narrow (expr_width (made n)) width 255 (fold-placed Counting 0 n ∙ is) few;
  bare = fold-placed Baring 0 n ∙ bare;
}

abbrev first_place : (ℕ → Expr) → Expr
first_place made = made 0

pub fits-Lit : (text : Name) → is_literal text ≡ true → Fits (value_where true) (made (node.Lit text))
fits-Lit text literal = made-fits (node.Lit text) (value_where true) 0 (uses-Lit text ∙ ap value_where literal) (fold-Lit Counting text)
    (omega arith) (ap first_place (fold-Lit Baring text))

pub fits-This : Fits (value_where true) (made node.This)
fits-This = made-fits node.This (value_where true) 0 uses-This (fold-This Counting) (omega arith) (ap first_place (fold-This Baring))

pub fits-name : (name : Name) → is_name name ≡ true → Fits (target_where true) (name_tree name)
fits-name name named = made-fits (node.Name name) (target_where true) 0 (uses-Name name ∙ ap target_where named) (fold-Name Counting name)
    (omega arith) (ap first_place (fold-Name Baring name))

pub fits-dot : (may : ExprUses) (e : Expr) (name : Name) → Fits may e → may.is_value ≡ true → is_name name ≡ true
    → Fits (target_where true) (dot_tree e name)
fits-dot may e name fits value named = made-fits (node.Dot e name) (target_where true) (expr_width e)
    (uses-Dot e name ∙ ap target_where (both (fits-value may e fits value) named)) (fold-Dot Counting e name) fits.narrow
    (ap first_place (fold-Dot Baring e name) ∙ ap (λ e. dot_tree e name) fits.bare)

fits-dots : (e : Expr) (names : Names) → Fits (target_where true) e → are_names names ≡ true → Fits (target_where true) (dots_tree e names)
fits-dots e [] fits are = fits
fits-dots e (name ∷ names) fits are =
    let parts = and_parts (is_name name) (are_names names) are in
    fits-dots (dot_tree e name) names (fits-dot (target_where true) e name fits refl parts.0) parts.1

pub fits-names : (names : Dotted) → are_names (names_of names) ≡ true → Fits (target_where true) (names_tree names)
fits-names names are =
    let parts = and_parts (is_name names.first) (are_names names.rest) are in
    fits-dots (name_tree names.first) names.rest (fits-name names.first parts.0) parts.1

-- ---- calls and creations

pub fits-Call : (on : Option Expr) (name : Name) (args : List Expr) → BeforeFits on → is_name name ≡ true → ValuesFit args
    → length args ≤ 255 → Fits (effect_where true) (made (node.Call on name args))
fits-Call on name args before named fits few = made-fits (node.Call on name args) (effect_where true) _
    (uses-Call on name args ∙ ap effect_where (both (both before.value named) fits.values)) (fold-Call Counting on name args)
    (max_within _ _ 255 before.narrow (few-values args few fits))
    (ap first_place (fold-Call Baring on name args) ∙ (λ i. made (node.Call (before.bare i) name (fits.bare i))))

pub fits-SuperCall : (name : Name) (args : List Expr) → is_name name ≡ true → ValuesFit args → length args ≤ 255
    → Fits (effect_where true) (made (node.SuperCall name args))
fits-SuperCall name args named fits few = made-fits (node.SuperCall name args) (effect_where true) _
    (uses-SuperCall name args ∙ ap effect_where (both named fits.values)) (fold-SuperCall Counting name args) (few-values args few fits)
    (ap first_place (fold-SuperCall Baring name args) ∙ ap (λ args. made (node.SuperCall name args)) fits.bare)

pub fits-New : (type : TypeName) (args : List Expr) → (type_uses type).is_class ≡ true → ValuesFit args → length args ≤ 255
    → Fits (effect_where true) (made (node.New type args))
fits-New type args class fits few = made-fits (node.New type args) (effect_where true) _
    (uses-New type args ∙ ap effect_where (both class fits.values)) (fold-New Counting type args) (few-values args few fits)
    (ap first_place (fold-New Baring type args) ∙ ap (λ args. made (node.New type args)) fits.bare)

pub fits-NewArray : (type : TypeName) (sizes : List Expr) (pairs : ℕ) → (type_uses type).is_base ≡ true
    → is_not_empty (map expr_uses sizes) ≡ true → ValuesFit sizes → length sizes + pairs ≤ 255
    → Fits (value_where true) (made (node.NewArray type sizes pairs))
fits-NewArray type sizes pairs base some fits few = made-fits (node.NewArray type sizes pairs) (value_where true) _
    (uses-NewArray type sizes pairs ∙ ap value_where (both (both base some) fits.values)) (fold-NewArray Counting type sizes pairs)
    (max_within _ _ 255 (let many : length (map expr_width sizes) + pairs ≤ 255 = rw (length-map sizes expr_width) few in many) fits.narrow)
    (ap first_place (fold-NewArray Baring type sizes pairs) ∙ ap (λ sizes. made (node.NewArray type sizes pairs)) fits.bare)

pub fits-ArrayLit : (type : TypeName) (items : List Expr) → (type_uses type).is_array ≡ true → type_width type ≤ 255 → ItemsFit items
    → Fits (value_where true) (made (node.ArrayLit type items))
fits-ArrayLit type items array wide fits = made-fits (node.ArrayLit type items) (value_where true) _
    (uses-ArrayLit type items ∙ ap value_where (both array fits.items)) (fold-ArrayLit Counting type items)
    (max_within _ _ 255 wide fits.narrow)
    (ap first_place (fold-ArrayLit Baring type items) ∙ ap (λ items. made (node.ArrayLit type items)) fits.bare)

-- items in braces stand as a first value alone
abbrev pub first_value_alone : ExprUses
first_value_alone = record { is_value = false; is_first_value = true; is_target = false; is_statement = false }

pub fits-Braces : (items : List Expr) → ItemsFit items → Fits first_value_alone (made (node.Braces items))
fits-Braces items fits = made-fits (node.Braces items) first_value_alone _
    (uses-Braces items ∙ ap (λ (b : Bool). record first_value_alone { is_first_value = b }) fits.items) (fold-Braces Counting items)
    fits.narrow (ap first_place (fold-Braces Baring items) ∙ ap (λ items. made (node.Braces items)) fits.bare)

-- ---- operators

pub fits-Index : (may at : ExprUses) (e index : Expr) → Fits may e → may.is_value ≡ true → Fits at index → at.is_value ≡ true
    → Fits (target_where true) (made (node.Index e index))
fits-Index may at e index fits value fits-at value-at = made-fits (node.Index e index) (target_where true) _
    (uses-Index e index ∙ ap target_where (both (fits-value may e fits value) (fits-value at index fits-at value-at)))
    (fold-Index Counting e index) (max_within _ _ 255 fits.narrow fits-at.narrow)
    (ap first_place (fold-Index Baring e index) ∙ (λ i. made (node.Index (fits.bare i) (fits-at.bare i))))

pub fits-Unary : (may : ExprUses) (op : Name) (e : Expr) → Fits may e → Fits (prefixed op may) (made (node.Unary op e))
fits-Unary may op e fits = made-fits (node.Unary op e) (prefixed op may) _ (uses-Unary op e ∙ ap (prefixed op) fits.uses)
    (fold-Unary Counting op e) fits.narrow (ap first_place (fold-Unary Baring op e) ∙ ap (λ e. made (node.Unary op e)) fits.bare)

pub fits-Post : (may : ExprUses) (op : Name) (e : Expr) → Fits may e → may.is_value ≡ true → may.is_target ≡ true → is_step op ≡ true
    → Fits (effect_where true) (made (node.Post e op))
fits-Post may op e fits value target step = made-fits (node.Post e op) (effect_where true) _
    (uses-Post e op ∙ ap effect_where (both (both step (fits-target may e fits target)) (fits-value may e fits value)))
    (fold-Post Counting e op) fits.narrow (ap first_place (fold-Post Baring e op) ∙ ap (λ e. made (node.Post e op)) fits.bare)

pub fits-Binary : (left right : ExprUses) (op : Name) (a b : Expr) → is_some (binary_level op) ≡ true → Fits left a
    → left.is_value ≡ true → Fits right b → right.is_value ≡ true → Fits (value_where true) (made (node.Binary a op b))
fits-Binary left right op a b known fits value fits-b value-b = made-fits (node.Binary a op b) (value_where true) _
    (uses-Binary a op b ∙ ap value_where (both (both known (fits-value left a fits value)) (fits-value right b fits-b value-b)))
    (fold-Binary Counting a op b) (max_within _ _ 255 fits.narrow fits-b.narrow)
    (ap first_place (fold-Binary Baring a op b) ∙ (λ i. made (node.Binary (fits.bare i) op (fits-b.bare i))))

pub fits-Assign : (left right : ExprUses) (op : Name) (a b : Expr) → is_assignment op ≡ true → Fits left a → left.is_value ≡ true
    → left.is_target ≡ true → Fits right b → right.is_value ≡ true → Fits (effect_where true) (made (node.Assign a op b))
fits-Assign left right op a b known fits value target fits-b value-b = made-fits (node.Assign a op b) (effect_where true) _
    (uses-Assign a op b
    ∙ ap effect_where (both (both (both known (fits-target left a fits target)) (fits-value left a fits value))
    (fits-value right b fits-b value-b)))
    (fold-Assign Counting a op b) (max_within _ _ 255 fits.narrow fits-b.narrow)
    (ap first_place (fold-Assign Baring a op b) ∙ (λ i. made (node.Assign (fits.bare i) op (fits-b.bare i))))

pub fits-Cond : (may left right : ExprUses) (test a b : Expr) → Fits may test → may.is_value ≡ true → Fits left a → left.is_value ≡ true
    → Fits right b → right.is_value ≡ true → Fits (value_where true) (made (node.Cond test a b))
fits-Cond may left right test a b fits value fits-a value-a fits-b value-b = made-fits (node.Cond test a b) (value_where true) _
    (uses-Cond test a b
    ∙ ap value_where (both (both (fits-value may test fits value) (fits-value left a fits-a value-a)) (fits-value right b fits-b value-b)))
    (fold-Cond Counting test a b) (max_within _ _ 255 fits.narrow (max_within _ _ 255 fits-a.narrow fits-b.narrow))
    (ap first_place (fold-Cond Baring test a b) ∙ (λ i. made (node.Cond (fits.bare i) (fits-a.bare i) (fits-b.bare i))))

pub fits-Cast : (may : ExprUses) (type : TypeName) (e : Expr) → (type_uses type).is_type ≡ true → type_width type ≤ 255 → Fits may e
    → may.is_value ≡ true → Fits (value_where true) (made (node.Cast type e))
fits-Cast may type e typed wide fits value = made-fits (node.Cast type e) (value_where true) _
    (uses-Cast type e ∙ ap value_where (both typed (fits-value may e fits value))) (fold-Cast Counting type e)
    (max_within _ _ 255 wide fits.narrow) (ap first_place (fold-Cast Baring type e) ∙ ap (λ e. made (node.Cast type e)) fits.bare)

pub fits-InstanceOf : (may : ExprUses) (e : Expr) (type : TypeName) → Fits may e → may.is_value ≡ true → (type_uses type).is_type ≡ true
    → type_width type ≤ 255 → Fits (value_where true) (made (node.InstanceOf e type))
fits-InstanceOf may e type fits value typed wide = made-fits (node.InstanceOf e type) (value_where true) _
    (uses-InstanceOf e type ∙ ap value_where (both (fits-value may e fits value) typed)) (fold-InstanceOf Counting e type)
    (max_within _ _ 255 fits.narrow wide)
    (ap first_place (fold-InstanceOf Baring e type) ∙ ap (λ e. made (node.InstanceOf e type)) fits.bare)
