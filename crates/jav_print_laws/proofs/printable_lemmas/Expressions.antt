-- Expressions of the grammar are printable.
use Rattle.std.proofs.Common.{◌≡◌, inl, inr, ℕ, suc, Bool, true, false, ◌&&◌, ◌||◌, List, [], ◌∷◌, ◌++◌, map, Some, None, codes, refl, sym, ap, ◌∙◌}
use Prim.Native.String.{String}
use Rattle.std.specs.Prelude.{All, is_some, not}
use Rattle.std.specs.List.{list_all}
use Rattle.std.specs.Str.{bytes_eq}
use Rattle.std.proofs.lemmas.Bool.{and_from, and_parts, or_cases, not-true, true≢false, or_left, or_right}
use Rattle.std.proofs.lemmas.List.Elements.{All-head, All-tail}
use Rattle.std.proofs.lemmas.Slice.Eq.{bytes_eq-Decides}
use Rattle.mol_base.specs.Token.{Token}
use Rattle.mol_base.specs.Among.{among}
use Rattle.mol_base.specs.Operators.{is_step, is_prefix, prefixes, binary_level}
use Rattle.jav_tree.specs.declared.types.TypeName.TheVariants as ty
use Rattle.jav_tree.specs.declared.expr.Expr.{Expr}
use Rattle.jav_tree.specs.declared.expr.ExprNode.TheVariants as node
use Rattle.jav_tree.specs.Expressions.{Expression, Shape, Primary, BeforeDot, ArrayCreation, Sizes, Arguments, Listed, Init, Items, Inits, expr_at}
use Rattle.jav_tree.specs.Expressions as is
use Rattle.jav_tree.specs.PrintableExpressions.{ExprUses, expr_uses, value_where, target_where, effect_where, prefixed, are_values, is_not_empty}
use Rattle.jav_tree.specs.PrintableStatements.{is_value, is_effect, is_first_value}
use Rattle.jav_tree.specs.Statements.{MayBeStatement, is_statement_expression}
use Rattle.jav_tree.specs.Types.{array_of}
use Rattle.jav_tree.proofs.ExpressionUses.{uses-placed, uses-Lit, uses-This, uses-Name, uses-Dot, uses-Call, uses-SuperCall, uses-New, uses-NewArray, uses-ArrayLit, uses-Braces, uses-Index, uses-Unary, uses-Post, uses-Binary, uses-Assign, uses-Cond, uses-Cast, uses-InstanceOf, uses-Paren}
use Rattle.jav_tree.proofs.StatementExpressions.{statement-Lit, statement-This, statement-Name, statement-Dot, statement-NewArray, statement-ArrayLit, statement-Index, statement-Unary, statement-Binary, statement-Cond, statement-Cast, statement-InstanceOf, statement-Paren}
use Rattle.jav_print_laws.proofs.printable_lemmas.Names.{Known, split, name_is, literal_is}
use Rattle.jav_print_laws.proofs.printable_lemmas.Types.{base_is, class_is, whole_is, array_is}

-- # What is proved of each expression

-- It stands where any expression may, and where a first value may; and it is a statement where the grammar takes it as one.
pub record IsUsable (e : Expr) : Type 0 where
  pub value : is_value e ≡ true
  pub first_value : is_first_value e ≡ true
  pub statement : MayBeStatement e → is_effect e ≡ true

-- What has the shape of a target is one.
abbrev Targets : Shape → Expr → Type 0
Targets is.target e = (expr_uses e).is_target ≡ true
Targets is.invocation e = Unit {0}
Targets is.atom e = Unit {0}

-- each of a list
abbrev pub AreUsable : List Expr → Type 0
AreUsable [] = Unit {0}
AreUsable (e ∷ es) = IsUsable e × AreUsable es

abbrev pub AreFirstValues : List Expr → Type 0
AreFirstValues [] = Unit {0}
AreFirstValues (e ∷ es) = (is_first_value e ≡ true) × AreFirstValues es

values_are : (es : List Expr) → AreUsable es → are_values (map expr_uses es) ≡ true
values_are [] all = refl
values_are (e ∷ es) all = and_from (is_value e) (are_values (map expr_uses es)) all.0.value (values_are es all.1)

first_values_are : (es : List Expr) → AreFirstValues es → list_all (λ (u : ExprUses). u.is_first_value) (map expr_uses es) ≡ true
first_values_are [] all = refl
first_values_are (e ∷ es) all = and_from (is_first_value e) (list_all (λ (u : ExprUses). u.is_first_value) (map expr_uses es)) all.0 (first_values_are es all.1)

-- the same of expressions in statements
pub each_value : (es : List Expr) → AreUsable es → list_all is_value es ≡ true
each_value [] all = refl
each_value (e ∷ es) all = and_from (is_value e) (list_all is_value es) all.0.value (each_value es all.1)

pub each_effect : (es : List Expr) → AreUsable es → All MayBeStatement es → list_all is_effect es ≡ true
each_effect [] all may = refl
each_effect (e ∷ es) all may = and_from (is_effect e) (list_all is_effect es) (all.0.statement (All-head MayBeStatement e es may)) (each_effect es all.1 (All-tail MayBeStatement e es may))

-- # What the tests come out as

of_effect : (e : Expr) → expr_uses e ≡ effect_where true → IsUsable e
of_effect e h = record { value = ap (λ (u : ExprUses). u.is_value) h; first_value = ap (λ (u : ExprUses). u.is_first_value) h; statement = λ may. ap (λ (u : ExprUses). u.is_statement) h }

of_value : (e : Expr) → expr_uses e ≡ value_where true → is_statement_expression e.node ≡ false → IsUsable e
of_value e h none = record { value = ap (λ (u : ExprUses). u.is_value) h; first_value = ap (λ (u : ExprUses). u.is_first_value) h; statement = λ may. absurd (true≢false (sym may ∙ none)) }

of_target : (e : Expr) → expr_uses e ≡ target_where true → is_statement_expression e.node ≡ false → IsUsable e × ((expr_uses e).is_target ≡ true)
of_target e h none = (
  record { value = ap (λ (u : ExprUses). u.is_value) h; first_value = ap (λ (u : ExprUses). u.is_first_value) h; statement = λ may. absurd (true≢false (sym may ∙ none)) },
  ap (λ (u : ExprUses). u.is_target) h,
)

pub both : {a b : Bool} → a ≡ true → b ≡ true → (a && b) ≡ true
both {a} {b} h i = and_from a b h i

-- a prefix operator before any operand, or a step before a target
of_prefix : (at : ℕ) (op : List ℕ) (e : Expr) → is_value e ≡ true → (is_prefix op || (is_step op && (expr_uses e).is_target)) ≡ true → (is_step op ≡ true → (expr_uses e).is_target ≡ true) → IsUsable (expr_at at (node.Unary op e))
of_prefix at op e v known changes =
    let h : expr_uses (expr_at at (node.Unary op e)) ≡ prefixed op (expr_uses e) = uses-placed at (node.Unary op e) ∙ uses-Unary op e in
    let usable = and_from (is_value e) (is_prefix op || (is_step op && (expr_uses e).is_target)) v known in
    record {
      value = ap (λ (u : ExprUses). u.is_value) h ∙ usable;
      first_value = ap (λ (u : ExprUses). u.is_first_value) h ∙ usable;
      statement = λ may. let step : is_step op ≡ true = sym (statement-Unary op e) ∙ may in ap (λ (u : ExprUses). u.is_statement) h ∙ both (both step (changes step)) v;
    }

-- no prefix operator is a step
none_among : (p : List ℕ → Bool) (texts : List String) (op : List ℕ) → list_all (λ text. not (p (codes text))) texts ≡ true → among texts op ≡ true → p op ≡ true → ⊥
none_among p [] op none there passes = absurd cc
none_among p (s ∷ rest) op none there passes =
    let parts = and_parts (not (p (codes s))) (list_all (λ text. not (p (codes text))) rest) none in
    elim (or_cases (bytes_eq op (codes s)) (among rest op) there) [
      | inl here ↦ (let same : op ≡ codes s = (bytes_eq-Decides op (codes s)).0 here in let passes' = rw same at passes in true≢false (sym passes' ∙ not-true (p (codes s)) parts.0))
      | inr later ↦ none_among p rest op parts.1 later passes
    ]

prefix_no_step : (op : List ℕ) → is_prefix op ≡ true → is_step op ≡ true → ⊥
prefix_no_step op prefix step = none_among is_step prefixes op refl prefix step

-- # Each production

some_sizes : {limit h : ℕ} {es : List Expr} {ts : List Token} → Sizes limit h es ts → is_not_empty (map expr_uses es) ≡ true
some_sizes (is.last_size _ _ _) = refl
some_sizes (is.more_sizes _ _ _ _) = refl

mutual
  pub of_expression : {limit level h : ℕ} {e : Expr} {ts : List Token} → Expression limit level h e ts → Known ts → IsUsable e
  of_expression (is.assign {op} {a} {b} {ts} {us} _ p o q) k =
      let s = split ts (op ∷ us) k in
      let l = of_primary p s.0 in
      let r = of_expression q s.1.1 in
      of_effect _ (uses-placed a.at (node.Assign a op.text b) ∙ uses-Assign a op.text b ∙ ap effect_where (both (both (both o.written l.1) l.0.value) r.value))
  of_expression (is.cond {question} {colon} {test} {a} {b} {ts} {us} {vs} _ p _ q _ r) k =
      let s = split ts (question ∷ us ++ colon ∷ vs) k in
      let t = split us (colon ∷ vs) s.1.1 in
      of_value _ (uses-placed test.at (node.Cond test a b) ∙ uses-Cond test a b ∙ ap value_where (both (both (of_expression p s.0).value (of_expression q t.0).value) (of_expression r t.1.1).value)) (statement-Cond test a b)
  of_expression (is.binary {own} {op} {a} {b} {ts} {us} _ o p q) k =
      let s = split ts (op ∷ us) k in
      let leveled : is_some (binary_level op.text) ≡ true = ap is_some o.level_is in
      of_value _ (uses-placed a.at (node.Binary a op.text b) ∙ uses-Binary a op.text b ∙ ap value_where (both (both leveled (of_expression p s.0).value) (of_expression q s.1.1).value)) (statement-Binary a op.text b)
  of_expression (is.instance_of {word} {e} {to} {ts} {us} _ p _ t) k =
      let s = split ts (word ∷ us) k in
      of_value _ (uses-placed e.at (node.InstanceOf e to) ∙ uses-InstanceOf e to ∙ ap value_where (both (of_expression p s.0).value (whole_is t s.1.1).type)) (statement-InstanceOf e to)
  of_expression (is.prefix {op} {e} _ o p) k =
      of_prefix op.start op.text e (of_expression p k.1).value (or_left (is_prefix op.text) _ o.written) (λ step. absurd (prefix_no_step op.text o.written step))
  of_expression (is.step_before {op} {e} _ o p) k =
      let x = of_primary p k.1 in
      of_prefix op.start op.text e x.0.value (or_right (is_prefix op.text) _ (both o.written x.1)) (λ step. x.1)
  of_expression (is.cast {left} {right} {to} {e} {ts} {us} _ _ t _ _ p) k =
      let s = split ts (right ∷ us) k.1 in
      of_value _ (uses-placed left.start (node.Cast to e) ∙ uses-Cast to e ∙ ap value_where (both (whole_is t s.0).type (of_expression p s.1.1).value)) (statement-Cast to e)
  of_expression (is.step_after {op} {e} {ts} _ p o) k =
      let s = split ts (op ∷ []) k in
      let x = of_primary p s.0 in
      of_effect _ (uses-placed e.at (node.Post e op.text) ∙ uses-Post e op.text ∙ ap effect_where (both (both o.written x.1) x.0.value))
  of_expression (is.creation _ p) k = of_creation p k
  of_expression (is.primary p) k = (of_primary p k).0

  of_primary : {limit h : ℕ} {shape : Shape} {e : Expr} {ts : List Token} → Primary limit shape h e ts → Known ts → IsUsable e × Targets shape e
  of_primary (is.literal {t} l) k = (of_value _ (uses-placed t.start (node.Lit t.text) ∙ uses-Lit t.text ∙ ap value_where (literal_is t l k.0)) (statement-Lit t.text), tt)
  of_primary (is.this {t} _) k = (of_value _ (uses-placed t.start node.This ∙ uses-This) statement-This, tt)
  of_primary (is.paren {left} {right} {e} {ts} _ p _) k =
      let x = of_expression p (split ts (right ∷ []) k.1).0 in
      let h : expr_uses (expr_at left.start (node.Paren e)) ≡ expr_uses e = uses-placed left.start (node.Paren e) ∙ uses-Paren e in (
        record { value = ap (λ (u : ExprUses). u.is_value) h ∙ x.value; first_value = ap (λ (u : ExprUses). u.is_first_value) h ∙ x.first_value; statement = λ may. absurd (true≢false (sym may ∙ statement-Paren e)) },
        tt,
      )
  of_primary (is.name {t} n) k = of_target _ (uses-placed t.start (node.Name t.text) ∙ uses-Name t.text ∙ ap target_where (name_is t n k.0)) (statement-Name t.text)
  of_primary (is.field {dot} {t} {e} {ts} p _ n) k =
      let s = split ts (dot ∷ t ∷ []) k in
      of_target _ (uses-placed e.at (node.Dot e t.text) ∙ uses-Dot e t.text ∙ ap target_where (both (before_dot p s.0).value (name_is t n s.1.1.0))) (statement-Dot e t.text)
  of_primary (is.index {left} {right} {e} {i} {ts} {us} p _ q _) k =
      let s = split ts (left ∷ us ++ right ∷ []) k in
      of_target _ (uses-placed e.at (node.Index e i) ∙ uses-Index e i ∙ ap target_where (both (of_primary p s.0).0.value (of_expression q (split us (right ∷ []) s.1.1).0).value)) (statement-Index e i)
  of_primary (is.call_on {dot} {t} {e} {args} {ts} {us} p _ n q) k =
      let s = split ts (dot ∷ t ∷ us) k in
      (of_effect _ (uses-placed e.at (node.Call (Some e) t.text args) ∙ uses-Call (Some e) t.text args ∙ ap effect_where (both (both (before_dot p s.0).value (name_is t n s.1.1.0)) (values_are args (of_arguments q s.1.1.1)))), tt)
  of_primary (is.call {t} {args} n q) k =
      (of_effect _ (uses-placed t.start (node.Call None t.text args) ∙ uses-Call None t.text args ∙ ap effect_where (both (both refl (name_is t n k.0)) (values_are args (of_arguments q k.1)))), tt)
  of_primary (is.super_call {word} {t = t} {args = args} _ _ n q) k =
      (of_effect _ (uses-placed word.start (node.SuperCall t.text args) ∙ uses-SuperCall t.text args ∙ ap effect_where (both (name_is t n k.1.1.0) (values_are args (of_arguments q k.1.1.1)))), tt)
  of_primary (is.new {word} {q} {args} {ts} {us} _ d p) k =
      let s = split ts us k.1 in
      (of_effect _ (uses-placed word.start (node.New (ty.Named q) args) ∙ uses-New (ty.Named q) args ∙ ap effect_where (both (class_is d s.0) (values_are args (of_arguments p s.1)))), tt)

  before_dot : {limit h : ℕ} {e : Expr} {ts : List Token} → BeforeDot limit h e ts → Known ts → IsUsable e
  before_dot (is.primary_before_dot p) k = (of_primary p k).0
  before_dot (is.array_before_dot p) k = of_creation p k

  of_creation : {limit h : ℕ} {e : Expr} {ts : List Token} → ArrayCreation limit h e ts → Known ts → IsUsable e
  of_creation (is.sized {n} {word = word} {base} {sizes} {ts} {us} {vs} _ b p _ _) k =
      let s = split ts (us ++ vs) k.1 in
      let x = of_sizes p (split us vs s.1).0 in
      of_value _ (uses-placed word.start (node.NewArray base sizes n) ∙ uses-NewArray base sizes n ∙ ap value_where (both (both (base_is b s.0).base (some_sizes p)) (values_are sizes x))) (statement-NewArray base sizes n)
  of_creation (is.filled {n} {word = word} {base} {items} {ts} {us} {vs} _ b _ _ p) k =
      let s = split ts (us ++ vs) k.1 in
      let x = of_items p (split us vs s.1).1 in
      of_value _ (uses-placed word.start (node.ArrayLit (array_of (suc n) base) items) ∙ uses-ArrayLit (array_of (suc n) base) items ∙ ap value_where (both (array_is n base (base_is b s.0).any) (first_values_are items x))) (statement-ArrayLit (array_of (suc n) base) items)

  of_sizes : {limit h : ℕ} {es : List Expr} {ts : List Token} → Sizes limit h es ts → Known ts → AreUsable es
  of_sizes (is.last_size {right = right} {ts = ts} _ p _) k = (of_expression p (split ts (right ∷ []) k.1).0, tt)
  of_sizes (is.more_sizes {right = right} {ts = ts} {us} _ p _ q) k = let s = split ts (right ∷ us) k.1 in (of_expression p s.0, of_sizes q s.1.1)

  pub of_arguments : {limit h : ℕ} {es : List Expr} {ts : List Token} → Arguments limit h es ts → Known ts → AreUsable es
  of_arguments (is.no_arguments _ _) k = tt
  of_arguments (is.some_arguments {right = right} {ts = ts} _ p _ _) k = of_listed p (split ts (right ∷ []) k.1).0

  pub of_listed : {limit h : ℕ} {es : List Expr} {ts : List Token} → Listed limit h es ts → Known ts → AreUsable es
  of_listed (is.last_listed p) k = (of_expression p k, tt)
  of_listed (is.more_listed {comma} {ts = ts} {us} p _ q) k = let s = split ts (comma ∷ us) k in (of_expression p s.0, of_listed q s.1.1)

  pub of_init : {limit h : ℕ} {e : Expr} {ts : List Token} → Init limit h e ts → Known ts → is_first_value e ≡ true
  of_init (is.value p) k = (of_expression p k).first_value
  of_init (is.braces {items} {ts} p) k =
      ap (λ (u : ExprUses). u.is_first_value) (uses-placed _ (node.Braces items) ∙ uses-Braces items) ∙ first_values_are items (of_items p k)

  of_items : {limit h : ℕ} {es : List Expr} {ts : List Token} → Items limit h es ts → Known ts → AreFirstValues es
  of_items (is.no_items _ _) k = tt
  of_items (is.some_items {right = right} {ts = ts} _ p _) k = of_inits p (split ts (right ∷ []) k.1).0
  of_items (is.items_comma {last = last} {right} {ts = ts} _ p _ _) k = of_inits p (split ts (last ∷ right ∷ []) k.1).0

  of_inits : {limit h : ℕ} {es : List Expr} {ts : List Token} → Inits limit h es ts → Known ts → AreFirstValues es
  of_inits (is.last_item p) k = (of_init p k, tt)
  of_inits (is.more_items {comma} {ts = ts} {us} p _ q) k = let s = split ts (comma ∷ us) k in (of_init p s.0, of_inits q s.1.1)
