-- What is printed of a printable expression is a phrase that derives the tree as printed.
use Rattle.std.proofs.Common.{◌≡◌, inl, inr, ℕ, suc, max, ◌≤◌, Bool, true, false, ◌&&◌, ◌||◌, cond, List, [], ◌∷◌, map, option_map, length, Option, Some, None, refl, sym, ap, subst, arith}
use Rattle.std.specs.Prelude.{is_some}
use Rattle.std.specs.List.{list_all}
use Rattle.std.proofs.lemmas.Bool.{and_parts, or_cases}
use Rattle.mol_base.specs.Operators.{binary_level, is_assignment, is_step, is_prefix}
use Rattle.jav_tree.specs.declared.expr.Expr.{Expr}
use Rattle.jav_tree.specs.declared.expr.ExprNode.{ExprNode, fold-ExprNode}
use Rattle.jav_tree.specs.declared.expr.ExprNode.TheVariants as node
use Rattle.jav_tree.specs.declared.expr.ExprNode.TheOpen.{ExprNode-F, Expr-F}
use Rattle.jav_tree.specs.declared.expr.ExprNode.TheFolds.{ind-Expr, map-ExprNode, map-Expr}
use Rattle.jav_tree.specs.declared.expr.ExprNode.TheViews.{roll-ExprNode, roll-Expr}
use Rattle.jav_tree.specs.declared.types.TypeName.{TypeName}
use Rattle.jav_tree.specs.Expressions.{Expression, Init, expr_at}
use Rattle.jav_tree.specs.Expressions as is
use Rattle.jav_tree.specs.Height.{tallest}
use Rattle.jav_tree.specs.PrintableExpressions.{ExprUses, value_where, target_where, effect_where, prefixed, are_values, expr_uses, expr_node_uses, type_uses}
use Rattle.jav_tree.specs.TokenTexts.{is_name}
use Rattle.jav_tree.specs.Types.{WholeType}
use Rattle.jav_tree.specs.TypeText.{type_text}
use Rattle.jav_tree.specs.Widths.{expr_width, type_width, width_node_step, width_expr_step}
use Rattle.jav_tree.specs.WithParens.{Operand, operand, operand_of_node, operand_node_step, operand_expr_step, before_dot, from, trees}
use Rattle.jav_tree.specs.WithParens as printed
use Rattle.jav_tree.proofs.ExpressionFolds.{ExprFold, fold-placed, fold-Lit, fold-This, fold-Name, fold-Dot, fold-Call, fold-SuperCall, fold-New, fold-NewArray, fold-ArrayLit, fold-Braces, fold-Index, fold-Unary, fold-Post, fold-Binary, fold-Assign, fold-Cond, fold-Cast, fold-InstanceOf, fold-Paren}
use Rattle.jav_tree.proofs.ExpressionUses.{uses-placed, uses-Lit, uses-This, uses-Name, uses-Dot, uses-Call, uses-SuperCall, uses-New, uses-NewArray, uses-ArrayLit, uses-Braces, uses-Index, uses-Unary, uses-Post, uses-Binary, uses-Assign, uses-Cond, uses-Cast, uses-InstanceOf, uses-Paren}
use Rattle.jav_print_laws.proofs.layout_lemmas.ArrayPhrases.{FirstValue, braces_phrase, good_sized, good_filled}
use Rattle.jav_print_laws.proofs.layout_lemmas.Bytes.{Closes}
use Rattle.jav_print_laws.proofs.layout_lemmas.CallPhrases.{good_call, good_call_on, good_super, good_new}
use Rattle.jav_print_laws.proofs.layout_lemmas.Lists.{ForEach}
use Rattle.jav_print_laws.proofs.layout_lemmas.OperandPhrases.{Part, Good, loose}
use Rattle.jav_print_laws.proofs.layout_lemmas.OperatorPhrases.{good_binary, good_assign, good_cond, good_instance}
use Rattle.jav_print_laws.proofs.layout_lemmas.OperatorTexts.{step-text}
use Rattle.jav_print_laws.proofs.layout_lemmas.Phrases.{Phrase, Breaks, makes}
use Rattle.jav_print_laws.proofs.layout_lemmas.PrefixPhrases.{Signed, good_prefix, good_step_before, good_post, good_cast}
use Rattle.jav_print_laws.proofs.layout_lemmas.TightPhrases.{good_literal, good_this, good_name, good_field, good_index}
use Rattle.jav_print_laws.proofs.layout_lemmas.TypePhrases.{Bracketed, type_phrases, whole_of}

-- the folds that make operands and count widths
abbrev Printing : ExprFold
Printing = record { Node = ℕ → Operand; Whole = Operand; of_node = operand_node_step; of_expr = operand_expr_step }

abbrev Counting : ExprFold
Counting = record { Node = ℕ; Whole = ℕ; of_node = width_node_step; of_expr = width_expr_step }

abbrev node_width : ExprNode → ℕ
node_width = fold-ExprNode ℕ ℕ width_node_step width_expr_step

-- An operand, by what it may be used as.
pub record Judged (limit : ℕ) (u : ExprUses) (o : Operand) : Type 0 where
  pub value : u.is_value ≡ true → Good limit u o
  pub first : u.is_first_value ≡ true → FirstValue limit o.tree
  pub effect : u.is_statement ≡ true → u.is_value ≡ true

first_of : {limit : ℕ} {u : ExprUses} {o : Operand} → Good limit u o → FirstValue limit o.tree
first_of g = makes (loose g).phrase refl (λ ts d. record { height = d.height; tree = d.tree; derived = is.value d.derived; same = d.same })

judged_value : {limit : ℕ} {o : Operand} (b : Bool) → (b ≡ true → Good limit (value_where true) o) → Judged limit (value_where b) o
judged_value true g = record { value = λ h. g refl; first = λ h. first_of (g refl); effect = λ h. refl }
judged_value false g = record { value = λ h. absurd cc; first = λ h. absurd cc; effect = λ h. absurd cc }

judged_target : {limit : ℕ} {o : Operand} (b : Bool) → (b ≡ true → Good limit (target_where true) o) → Judged limit (target_where b) o
judged_target true g = record { value = λ h. g refl; first = λ h. first_of (g refl); effect = λ h. refl }
judged_target false g = record { value = λ h. absurd cc; first = λ h. absurd cc; effect = λ h. absurd cc }

judged_effect : {limit : ℕ} {o : Operand} (b : Bool) → (b ≡ true → Good limit (effect_where true) o) → Judged limit (effect_where b) o
judged_effect true g = record { value = λ h. g refl; first = λ h. first_of (g refl); effect = λ h. refl }
judged_effect false g = record { value = λ h. absurd cc; first = λ h. absurd cc; effect = λ h. absurd cc }

judged_by : {limit : ℕ} (u v : ExprUses) (o p : Operand) → u ≡ v → o ≡ p → Judged limit v p → Judged limit u o
judged_by u v o p e f j = rw (e, f) j

-- an expression, and what is known of it
abbrev With : ℕ → Type 0
With limit = (e : Expr) × (expr_width e ≤ limit → Judged limit (expr_uses e) (operand e))

abbrev NodeJudged : ℕ → ExprNode → Type 0
NodeJudged limit n = (at : ℕ) → node_width n ≤ limit → Judged limit (expr_node_uses n) (operand_of_node n at)

pub and3 : (a b c : Bool) → (a && b && c) ≡ true → (a ≡ true) × (b ≡ true) × (c ≡ true)
and3 a b c h = let p = and_parts (a && b) c h in let q = and_parts a b p.0 in (q.0, q.1, p.1)

pub and4 : (a b c d : Bool) → (a && b && c && d) ≡ true → (a ≡ true) × (b ≡ true) × (c ≡ true) × (d ≡ true)
and4 a b c d h = let p = and_parts (a && b && c) d h in let q = and3 a b c p.0 in (q.0, q.1, q.2, p.1)

-- # Lists

values_of : {limit : ℕ} (args : List (With limit)) → are_values (map expr_uses (map (λ p. p.0) args)) ≡ true → tallest (map expr_width (map (λ p. p.0) args)) ≤ limit
    → ForEach (Part limit 1 Closes) (trees (map operand (map (λ p. p.0) args)))
values_of [] all wide = tt
values_of (e ∷ es) all wide =
    let p = and_parts (expr_uses e.0).is_value _ all in
    (loose ((e.1 (omega arith)).value p.0), values_of es p.1 (omega arith))

firsts_of : {limit : ℕ} (args : List (With limit)) → list_all (λ u. u.is_first_value) (map expr_uses (map (λ p. p.0) args)) ≡ true → tallest (map expr_width (map (λ p. p.0) args)) ≤ limit
    → ForEach (FirstValue limit) (trees (map operand (map (λ p. p.0) args)))
firsts_of [] all wide = tt
firsts_of (e ∷ es) all wide =
    let p = and_parts (expr_uses e.0).is_first_value _ all in
    ((e.1 (omega arith)).first p.0, firsts_of es p.1 (omega arith))

lengths : {limit : ℕ} (args : List (With limit)) → length (trees (map operand (map (λ p. p.0) args))) ≡ length (map expr_width (map (λ p. p.0) args))
lengths [] = refl
lengths (e ∷ es) = ap suc (lengths es)

-- # Types

pub whole : (limit : ℕ) (to : TypeName) → type_width to ≤ limit → (type_uses to).is_type ≡ true → Phrase (WholeType limit to) Breaks (type_text to)
whole limit to few known = makes ((type_phrases to).type known) refl (whole_of limit to (type_width to) few)

-- # The variants

judge-Dot : {limit : ℕ} (e : With limit) (name : List ℕ) → NodeJudged limit (node.Dot e.0 name)
judge-Dot {limit} e name at wide = judged_by _ _ _ _ (uses-Dot e.0 name) (ap (λ k. k at) (fold-Dot Printing e.0 name)) (judged_target _ (λ h.
    let p = and_parts (expr_uses e.0).is_value _ h in let w = fold-Dot Counting e.0 name in
    good_field limit at (expr_uses e.0) (operand e.0) name p.1 ((e.1 (omega (arith, w, wide))).value p.0)))

judge-Call : {limit : ℕ} (on : Option (With limit)) (name : List ℕ) (args : List (With limit)) → NodeJudged limit (node.Call (option_map (λ p. p.0) on) name (map (λ p. p.0) args))
judge-Call {limit} None name args at wide =
    let es = map (λ p. p.0) args in
    judged_by _ _ _ _ (uses-Call None name es) (ap (λ k. k at) (fold-Call Printing None name es)) (judged_effect _ (λ h.
    let p = and3 true (is_name name) (are_values (map expr_uses es)) h in let w = fold-Call Counting None name es in let n = lengths args in
    good_call limit at name (trees (map operand es)) p.1 (omega (arith, w, wide, n)) (values_of args p.2 (omega (arith, w, wide)))))
judge-Call {limit} (Some e) name args at wide =
    let es = map (λ p. p.0) args in
    judged_by _ _ _ _ (uses-Call (Some e.0) name es) (ap (λ k. k at) (fold-Call Printing (Some e.0) name es)) (judged_effect _ (λ h.
    let p = and3 (expr_uses e.0).is_value (is_name name) (are_values (map expr_uses es)) h in let w = fold-Call Counting (Some e.0) name es in let n = lengths args in
    good_call_on limit at (expr_uses e.0) (operand e.0) name (trees (map operand es)) p.1 (omega (arith, w, wide, n)) ((e.1 (omega (arith, w, wide))).value p.0) (values_of args p.2 (omega (arith, w, wide)))))

judge-SuperCall : {limit : ℕ} (name : List ℕ) (args : List (With limit)) → NodeJudged limit (node.SuperCall name (map (λ p. p.0) args))
judge-SuperCall {limit} name args at wide =
    let es = map (λ p. p.0) args in
    judged_by _ _ _ _ (uses-SuperCall name es) (ap (λ k. k at) (fold-SuperCall Printing name es)) (judged_effect _ (λ h.
    let p = and_parts (is_name name) _ h in let w = fold-SuperCall Counting name es in let n = lengths args in
    good_super limit at name (trees (map operand es)) p.0 (omega (arith, w, wide, n)) (values_of args p.1 (omega (arith, w, wide)))))

judge-New : {limit : ℕ} (to : TypeName) (args : List (With limit)) → NodeJudged limit (node.New to (map (λ p. p.0) args))
judge-New {limit} to args at wide =
    let es = map (λ p. p.0) args in
    judged_by _ _ _ _ (uses-New to es) (ap (λ k. k at) (fold-New Printing to es)) (judged_effect _ (λ h.
    let p = and_parts (type_uses to).is_class _ h in let w = fold-New Counting to es in let n = lengths args in
    good_new limit at to (trees (map operand es)) ((type_phrases to).class p.0) (omega (arith, w, wide, n)) (values_of args p.1 (omega (arith, w, wide)))))

judge-NewArray : {limit : ℕ} (to : TypeName) (args : List (With limit)) (k : ℕ) → NodeJudged limit (node.NewArray to (map (λ p. p.0) args) k)
judge-NewArray {limit} to [] k at wide =
    judged_by _ _ _ _ (uses-NewArray to [] k) (ap (λ f. f at) (fold-NewArray Printing to [] k)) (judged_value _ (λ h. let p = and3 (type_uses to).is_base false true h in absurd cc))
judge-NewArray {limit} to (e ∷ more) k at wide =
    let es = map (λ p. p.0) (e ∷ more) in
    judged_by _ _ _ _ (uses-NewArray to es k) (ap (λ f. f at) (fold-NewArray Printing to es k)) (judged_value _ (λ h.
    let p = and3 (type_uses to).is_base true (are_values (map expr_uses es)) h in let w = fold-NewArray Counting to es k in let n = lengths (e ∷ more) in
    good_sized limit at to (operand e.0).tree (trees (map operand (map (λ p. p.0) more))) k ((type_phrases to).base p.0) (omega (arith, w, wide, n)) (values_of (e ∷ more) p.2 (omega (arith, w, wide)))))

judge-ArrayLit : {limit : ℕ} (to : TypeName) (args : List (With limit)) → NodeJudged limit (node.ArrayLit to (map (λ p. p.0) args))
judge-ArrayLit {limit} to args at wide =
    let es = map (λ p. p.0) args in
    judged_by _ _ _ _ (uses-ArrayLit to es) (ap (λ k. k at) (fold-ArrayLit Printing to es)) (judged_value _ (λ h.
    let p = and_parts (type_uses to).is_array _ h in let w = fold-ArrayLit Counting to es in let n = lengths args in
    let array = (type_phrases to).array p.0 in
    let P : ℕ → Type 0 = λ n. Phrase (Bracketed to n) Breaks (type_text to) in
    let few = array.1 in
    good_filled limit at to array.0 (trees (map operand es)) (subst P array.1 ((type_phrases to).type array.2)) (omega (arith, w, wide, few)) (firsts_of args p.1 (omega (arith, w, wide)))))

judge-Braces : {limit : ℕ} (args : List (With limit)) → NodeJudged limit (node.Braces (map (λ p. p.0) args))
judge-Braces {limit} args at wide =
    let es = map (λ p. p.0) args in
    judged_by _ _ _ _ (uses-Braces es) (ap (λ k. k at) (fold-Braces Printing es)) (record {
      value = λ h. absurd cc;
      first = λ h. let w = fold-Braces Counting es in braces_phrase limit at (trees (map operand es)) (firsts_of args h (omega (arith, w, wide)));
      effect = λ h. absurd cc;
    })

judge-Index : {limit : ℕ} (e i : With limit) → NodeJudged limit (node.Index e.0 i.0)
judge-Index {limit} e i at wide = judged_by _ _ _ _ (uses-Index e.0 i.0) (ap (λ k. k at) (fold-Index Printing e.0 i.0)) (judged_target _ (λ h.
    let p = and_parts (expr_uses e.0).is_value _ h in let w = fold-Index Counting e.0 i.0 in
    good_index limit at (expr_uses e.0) (expr_uses i.0) (operand e.0) (operand i.0) ((e.1 (omega (arith, w, wide))).value p.0) ((i.1 (omega (arith, w, wide))).value p.1)))

judge-Unary : {limit : ℕ} (op : List ℕ) (e : With limit) → NodeJudged limit (node.Unary op e.0)
judge-Unary {limit} op e at wide = judged_by _ _ _ _ (uses-Unary op e.0) (ap (λ k. k at) (fold-Unary Printing op e.0)) (record { value = good; first = λ h. first_of (good h); effect = valued }) where
  w : node_width (node.Unary op e.0) ≡ expr_width e.0
  w = fold-Unary Counting op e.0

  valued : (prefixed op (expr_uses e.0)).is_statement ≡ true → (prefixed op (expr_uses e.0)).is_value ≡ true
  valued h = let p = and3 (is_step op) (expr_uses e.0).is_target (expr_uses e.0).is_value h in rw (p.0, p.1, p.2, (step-text op p.0).no_prefix) refl

  effect : (prefixed op (expr_uses e.0)).is_statement ≡ true → is_step op ≡ true
  effect h = (and3 (is_step op) (expr_uses e.0).is_target (expr_uses e.0).is_value h).0

  by : (b : Bool) → is_step op ≡ b → (expr_uses e.0).is_value ≡ true → (is_prefix op || (is_step op && (expr_uses e.0).is_target)) ≡ true → Good limit (prefixed op (expr_uses e.0)) (Signed at (from (cond b 15 13) (operand e.0)) op)
  by true step known either =
      let s = step-text op step in
      let aim : (expr_uses e.0).is_target ≡ true = (let x = rw (s.no_prefix, step) at either in x) in
      good_step_before limit at (expr_uses e.0) (prefixed op (expr_uses e.0)) op (operand e.0) step aim (λ t. absurd cc) ((e.1 (omega (arith, w, wide))).value known)
  by false step known either = elim (or_cases (is_prefix op) (is_step op && (expr_uses e.0).is_target) either) [
    | inl known_op ↦ good_prefix limit at (expr_uses e.0) (prefixed op (expr_uses e.0)) op (operand e.0) known_op (λ t. absurd cc) effect ((e.1 (omega (arith, w, wide))).value known)
    | inr differs ↦ (let p = and_parts (is_step op) _ differs in absurd cc)
  ]

  good : (prefixed op (expr_uses e.0)).is_value ≡ true → Good limit (prefixed op (expr_uses e.0)) (Signed at (printed.prefix_operand op (operand e.0)) op)
  good h = let p = and_parts (expr_uses e.0).is_value _ h in by (is_step op) refl p.0 p.1

judge-Post : {limit : ℕ} (e : With limit) (op : List ℕ) → NodeJudged limit (node.Post e.0 op)
judge-Post {limit} e op at wide = judged_by _ _ _ _ (uses-Post e.0 op) (ap (λ k. k at) (fold-Post Printing e.0 op)) (judged_effect _ (λ h.
    let p = and3 (is_step op) (expr_uses e.0).is_target (expr_uses e.0).is_value h in let w = fold-Post Counting e.0 op in
    good_post limit at (expr_uses e.0) op (operand e.0) p.0 p.1 ((e.1 (omega (arith, w, wide))).value p.2)))

judge-Binary : {limit : ℕ} (a : With limit) (op : List ℕ) (b : With limit) → NodeJudged limit (node.Binary a.0 op b.0)
judge-Binary {limit} a op b at wide = judged_by _ _ _ _ (uses-Binary a.0 op b.0) (ap (λ k. k at) (fold-Binary Printing a.0 op b.0)) (judged_value _ (λ h.
    let p = and3 (is_some (binary_level op)) (expr_uses a.0).is_value (expr_uses b.0).is_value h in by (binary_level op) refl p.0 p.1 p.2)) where
      w : node_width (node.Binary a.0 op b.0) ≡ max (expr_width a.0) (expr_width b.0)
      w = fold-Binary Counting a.0 op b.0

      by : (l : Option ℕ) → binary_level op ≡ l → is_some l ≡ true → (expr_uses a.0).is_value ≡ true → (expr_uses b.0).is_value ≡ true → Good limit (value_where true) (printed.binary l (operand a.0) op (operand b.0) at)
      by None known some p q = absurd cc
      by (Some own) known some p q = good_binary limit own at (expr_uses a.0) (expr_uses b.0) (operand a.0) (operand b.0) op known ((a.1 (omega (arith, w, wide))).value p) ((b.1 (omega (arith, w, wide))).value q)

judge-Assign : {limit : ℕ} (a : With limit) (op : List ℕ) (b : With limit) → NodeJudged limit (node.Assign a.0 op b.0)
judge-Assign {limit} a op b at wide = judged_by _ _ _ _ (uses-Assign a.0 op b.0) (ap (λ k. k at) (fold-Assign Printing a.0 op b.0)) (judged_effect _ (λ h.
    let p = and4 (is_assignment op) (expr_uses a.0).is_target (expr_uses a.0).is_value (expr_uses b.0).is_value h in let w = fold-Assign Counting a.0 op b.0 in
    good_assign limit at (expr_uses a.0) (expr_uses b.0) (operand a.0) (operand b.0) op p.0 p.1 ((a.1 (omega (arith, w, wide))).value p.2) ((b.1 (omega (arith, w, wide))).value p.3)))

judge-Cond : {limit : ℕ} (test a b : With limit) → NodeJudged limit (node.Cond test.0 a.0 b.0)
judge-Cond {limit} test a b at wide = judged_by _ _ _ _ (uses-Cond test.0 a.0 b.0) (ap (λ k. k at) (fold-Cond Printing test.0 a.0 b.0)) (judged_value _ (λ h.
    let p = and3 (expr_uses test.0).is_value (expr_uses a.0).is_value (expr_uses b.0).is_value h in let w = fold-Cond Counting test.0 a.0 b.0 in
    good_cond limit at (expr_uses test.0) (expr_uses a.0) (expr_uses b.0) (operand test.0) (operand a.0) (operand b.0) ((test.1 (omega (arith, w, wide))).value p.0) ((a.1 (omega (arith, w, wide))).value p.1) ((b.1 (omega (arith, w, wide))).value p.2)))

judge-Cast : {limit : ℕ} (to : TypeName) (e : With limit) → NodeJudged limit (node.Cast to e.0)
judge-Cast {limit} to e at wide = judged_by _ _ _ _ (uses-Cast to e.0) (ap (λ k. k at) (fold-Cast Printing to e.0)) (judged_value _ (λ h.
    let p = and_parts (type_uses to).is_type _ h in let w = fold-Cast Counting to e.0 in
    good_cast limit at (expr_uses e.0) (operand e.0) to (whole limit to (omega (arith, w, wide)) p.0) ((e.1 (omega (arith, w, wide))).value p.1)))

judge-InstanceOf : {limit : ℕ} (e : With limit) (to : TypeName) → NodeJudged limit (node.InstanceOf e.0 to)
judge-InstanceOf {limit} e to at wide = judged_by _ _ _ _ (uses-InstanceOf e.0 to) (ap (λ k. k at) (fold-InstanceOf Printing e.0 to)) (judged_value _ (λ h.
    let p = and_parts (expr_uses e.0).is_value _ h in let w = fold-InstanceOf Counting e.0 to in
    good_instance limit at (expr_uses e.0) (operand e.0) to (whole limit to (omega (arith, w, wide)) p.1) ((e.1 (omega (arith, w, wide))).value p.0)))

judge-Paren : {limit : ℕ} (e : With limit) → NodeJudged limit (node.Paren e.0)
judge-Paren {limit} e at wide = let w = fold-Paren Counting e.0 in judged_by _ _ _ _ (uses-Paren e.0) (ap (λ k. k at) (fold-Paren Printing e.0)) (e.1 (omega (arith, w, wide)))

-- # The induction

abbrev NodeWith : ℕ → Type 0
NodeWith limit = (n : ExprNode) × NodeJudged limit n

judge_node : {limit : ℕ} (y : ExprNode-F (NodeWith limit) (With limit)) → NodeJudged limit (roll-ExprNode (map-ExprNode _ _ _ _ (λ p. p.0) (λ p. p.0) y))
judge_node {limit} (ExprNode-F.Lit text) = subst (NodeJudged limit) (sym (node.rolls-Lit text)) (λ at wide. judged_by _ _ _ _ (uses-Lit text) (ap (λ k. k at) (fold-Lit Printing text)) (judged_value _ (λ h. good_literal limit at text h)))
judge_node {limit} ExprNode-F.This = subst (NodeJudged limit) (sym node.rolls-This) (λ at wide. judged_by _ _ _ _ uses-This (ap (λ k. k at) (fold-This Printing)) (judged_value true (λ h. good_this limit at)))
judge_node {limit} (ExprNode-F.Name name) = subst (NodeJudged limit) (sym (node.rolls-Name name)) (λ at wide. judged_by _ _ _ _ (uses-Name name) (ap (λ k. k at) (fold-Name Printing name)) (judged_target _ (λ h. good_name limit at name h)))
judge_node {limit} (ExprNode-F.Dot e name) = subst (NodeJudged limit) (sym (node.rolls-Dot e.0 name)) (judge-Dot e name)
judge_node {limit} (ExprNode-F.Call None name args) = subst (NodeJudged limit) (sym (node.rolls-Call None name (map (λ p. p.0) args))) (judge-Call None name args)
judge_node {limit} (ExprNode-F.Call (Some e) name args) = subst (NodeJudged limit) (sym (node.rolls-Call (Some e.0) name (map (λ p. p.0) args))) (judge-Call (Some e) name args)
judge_node {limit} (ExprNode-F.SuperCall name args) = subst (NodeJudged limit) (sym (node.rolls-SuperCall name (map (λ p. p.0) args))) (judge-SuperCall name args)
judge_node {limit} (ExprNode-F.New to args) = subst (NodeJudged limit) (sym (node.rolls-New to (map (λ p. p.0) args))) (judge-New to args)
judge_node {limit} (ExprNode-F.NewArray to sizes open_pairs) = subst (NodeJudged limit) (sym (node.rolls-NewArray to (map (λ p. p.0) sizes) open_pairs)) (judge-NewArray to sizes open_pairs)
judge_node {limit} (ExprNode-F.ArrayLit to items) = subst (NodeJudged limit) (sym (node.rolls-ArrayLit to (map (λ p. p.0) items))) (judge-ArrayLit to items)
judge_node {limit} (ExprNode-F.Braces items) = subst (NodeJudged limit) (sym (node.rolls-Braces (map (λ p. p.0) items))) (judge-Braces items)
judge_node {limit} (ExprNode-F.Index e i) = subst (NodeJudged limit) (sym (node.rolls-Index e.0 i.0)) (judge-Index e i)
judge_node {limit} (ExprNode-F.Unary op e) = subst (NodeJudged limit) (sym (node.rolls-Unary op e.0)) (judge-Unary op e)
judge_node {limit} (ExprNode-F.Post e op) = subst (NodeJudged limit) (sym (node.rolls-Post e.0 op)) (judge-Post e op)
judge_node {limit} (ExprNode-F.Binary a op b) = subst (NodeJudged limit) (sym (node.rolls-Binary a.0 op b.0)) (judge-Binary a op b)
judge_node {limit} (ExprNode-F.Assign a op b) = subst (NodeJudged limit) (sym (node.rolls-Assign a.0 op b.0)) (judge-Assign a op b)
judge_node {limit} (ExprNode-F.Cond test a b) = subst (NodeJudged limit) (sym (node.rolls-Cond test.0 a.0 b.0)) (judge-Cond test a b)
judge_node {limit} (ExprNode-F.Cast to e) = subst (NodeJudged limit) (sym (node.rolls-Cast to e.0)) (judge-Cast to e)
judge_node {limit} (ExprNode-F.InstanceOf e to) = subst (NodeJudged limit) (sym (node.rolls-InstanceOf e.0 to)) (judge-InstanceOf e to)
judge_node {limit} (ExprNode-F.Paren e) = subst (NodeJudged limit) (sym (node.rolls-Paren e.0)) (judge-Paren e)

judge_expr : {limit : ℕ} (y : Expr-F (NodeWith limit) (With limit)) → expr_width (roll-Expr (map-Expr _ _ _ _ (λ p. p.0) (λ p. p.0) y)) ≤ limit
    → Judged limit (expr_uses (roll-Expr (map-Expr _ _ _ _ (λ p. p.0) (λ p. p.0) y))) (operand (roll-Expr (map-Expr _ _ _ _ (λ p. p.0) (λ p. p.0) y)))
judge_expr y wide = let w = fold-placed Counting y.at y.node.0 in judged_by _ _ _ _ (uses-placed y.at y.node.0) (fold-placed Printing y.at y.node.0) (y.node.1 y.at (omega (arith, w, wide)))

-- what is printed of an expression, by what it may be used as
pub judged : (limit : ℕ) (e : Expr) → expr_width e ≤ limit → Judged limit (expr_uses e) (operand e)
judged limit = ind-Expr (NodeJudged limit) (λ e. expr_width e ≤ limit → Judged limit (expr_uses e) (operand e)) (λ x y is. subst (λ z. NodeJudged limit (roll-ExprNode z)) is (judge_node y))
    (λ x y is. subst (λ z. expr_width (roll-Expr z) ≤ limit → Judged limit (expr_uses (roll-Expr z)) (operand (roll-Expr z))) is (judge_expr y))
