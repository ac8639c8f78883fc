-- What is refused and looks as if it were not, each once.
use Rattle.std.proofs.Common.{◌≡◌, ℕ, List, [], ◌∷◌, codes, Option, Some, Bool, true, false, refl, inl, inr, sym as flip, ap, ◌∙◌}
use Rattle.mol_base.specs.Token.{Token}
use Rattle.jav_tree.specs.declared.types.TypeName.{TypeName}
use Rattle.jav_tree.specs.declared.types.TypeName.TheVariants as ty
use Rattle.jav_tree.specs.declared.expr.Expr.{Expr}
use Rattle.jav_tree.specs.declared.expr.ExprNode.TheVariants as node
use Rattle.jav_tree.specs.declared.stmt.Stmt.{Stmt}
use Rattle.jav_tree.specs.declared.stmt.StmtNode.{StmtNode}
use Rattle.jav_tree.specs.declared.stmt.StmtNode.TheVariants as stmt
use Rattle.jav_tree.specs.Operators.{among}
use Rattle.jav_tree.specs.Tokens.{IsKeyword}
use Rattle.jav_tree.specs.Words.{FieldWords, AbstractWords, ClassWords, ConstructorWords}
use Rattle.jav_tree.specs.Expressions.{Shape, target, Primary, MayBeCast}
use Rattle.jav_tree.specs.Expressions as is
use Rattle.jav_tree.specs.Statements.{Plain, Choice, Branch, Single, is_statement_expression}
use Rattle.jav_tree.specs.Statements as st
use Rattle.jav_tree.specs.Members.{MayBeConstructor}
use Rattle.jav_tree.specs.Trees.{IsExpr}
use Rattle.jav_tree.proofs.Spelled.{sym, key, word, note, symbol, keyword, comment}
use Rattle.jav_tree.proofs.PrimitiveTypes.{primitive-Named, primitive-ArrayOf}
use Rattle.jav_tree.proofs.StatementExpressions.{statement-Lit, statement-Paren, statement-NewArray}
use Rattle.jav_tree.proofs.Begins.{BranchBegins, statement_words, expression_begins, symbol_begins, keyword_begins, branch_begins}
use Rattle.jav_tree.proofs.Comments.{no_comment_in_expression}

-- `(C) -x` and `(int[]) ++x` are no casts: the type is not primitive, and the operand begins with a sign
sign_after_class : (at : ℕ) (q : List ℕ) (ts : List Token) → MayBeCast (ty.Named q) (sym "-" at ∷ ts) → ⊥
sign_after_class at q ts (inl p) = let e : true ≡ false = flip p ∙ primitive-Named q in cc
sign_after_class at q ts (inr f) = f (record { symbol = refl; written = refl })

step_after_array : (at : ℕ) (item : TypeName) (ts : List Token) → MayBeCast (ty.ArrayOf item) (sym "++" at ∷ ts) → ⊥
step_after_array at item ts (inl p) = let e : true ≡ false = flip p ∙ primitive-ArrayOf item in cc
step_after_array at item ts (inr f) = f (record { symbol = refl; written = refl })

-- `(a)++` and `(a) = b`: what stands in parentheses is no target; nor is a call, as in `f()++`
paren_is_no_target : {limit h : ℕ} {a : Expr} {ts : List Token} (e : Expr) → a.node ≡ node.Paren e → Primary limit target h a ts → ⊥
paren_is_no_target e q (is.name _) = cc
paren_is_no_target e q (is.field _ _ _) = cc
paren_is_no_target e q (is.index _ _ _ _) = cc

call_is_no_target : {limit h : ℕ} {a : Expr} {ts : List Token} (on : Option Expr) (name : List ℕ) (args : List Expr) → a.node ≡ node.Call on name args
    → Primary limit target h a ts → ⊥
call_is_no_target on name args q (is.name _) = cc
call_is_no_target on name args q (is.field _ _ _) = cc
call_is_no_target on name args q (is.index _ _ _ _) = cc

-- `new int[2][0]` is one creation with two sizes, and `new int[] {1}[0]` is nothing: an array creation is no primary expression
sizes_are_not_indexed : {limit h : ℕ} {shape : Shape} {a : Expr} {ts : List Token} (to : TypeName) (sizes : List Expr) (n : ℕ) → a.node ≡ node.NewArray to sizes n
    → Primary limit shape h a ts → ⊥
sizes_are_not_indexed to sizes n q (is.literal _) = cc
sizes_are_not_indexed to sizes n q (is.this _) = cc
sizes_are_not_indexed to sizes n q (is.paren _ _ _) = cc
sizes_are_not_indexed to sizes n q (is.name _) = cc
sizes_are_not_indexed to sizes n q (is.field _ _ _) = cc
sizes_are_not_indexed to sizes n q (is.index _ _ _ _) = cc
sizes_are_not_indexed to sizes n q (is.call_on _ _ _ _) = cc
sizes_are_not_indexed to sizes n q (is.call _ _) = cc
sizes_are_not_indexed to sizes n q (is.super_call _ _ _ _) = cc
sizes_are_not_indexed to sizes n q (is.new _ _ _) = cc

-- `{1}` is no expression, though it is a first value; nor is `int`, as in `int.class`
braces_are_no_expression : {limit max_height : ℕ} {e : Expr} (at : ℕ) (ts : List Token) → IsExpr limit max_height e (sym "{" at ∷ ts) → ⊥
braces_are_no_expression at ts p = symbol_begins (symbol "{" at) refl refl refl (expression_begins p.2)

type_is_no_expression : {limit max_height : ℕ} {e : Expr} (at : ℕ) (ts : List Token) → IsExpr limit max_height e (key "int" at ∷ ts) → ⊥
type_is_no_expression at ts p = keyword_begins (keyword "int" at) refl (expression_begins p.2)

-- `a /*c*/ + b`
comment_inside : {limit max_height : ℕ} {e : Expr} → IsExpr limit max_height e (word "a" 0 ∷ note "/*c*/" 2 ∷ sym "+" 8 ∷ word "b" 10 ∷ []) → ⊥
comment_inside = no_comment_in_expression (word "a" 0 ∷ []) (sym "+" 8 ∷ word "b" 10 ∷ []) (comment "/*c*/" 2)

-- `1;`, `(a = b);` and `new int[2];` are no statements
literal_statement : is_statement_expression (node.Lit (codes "1")) ≡ false
literal_statement = statement-Lit (codes "1")

paren_statement : (e : Expr) → is_statement_expression (node.Paren e) ≡ false
paren_statement = statement-Paren

array_statement : (size : Expr) → is_statement_expression (node.NewArray (ty.Prim (codes "int")) (size ∷ []) 0) ≡ false
array_statement size = statement-NewArray _ (size ∷ []) 0

-- `if (x) int y;`: no branch and no loop body begins with a type
no_type_begins : {t : Token} {ts : List Token} → IsKeyword "int" t → BranchBegins (t ∷ ts) → ⊥
no_type_begins w (BranchBegins.comment c) = cc (w.keyword, c.comment)
no_type_begins w (BranchBegins.brace s) = cc (w.keyword, s.symbol)
no_type_begins w (BranchBegins.semicolon s) = cc (w.keyword, s.symbol)
no_type_begins w (BranchBegins.word _ a) = let f : false ≡ true = flip (ap (among statement_words) w.written) ∙ a in cc
no_type_begins w (BranchBegins.expression b) = keyword_begins w refl b

declaration_as_branch : {limit h : ℕ} {is_open : Bool} {items : List Stmt} {tail : List (List ℕ)} (at : ℕ) (ts : List Token)
    → Branch limit h is_open items tail (key "int" at ∷ ts) → ⊥
declaration_as_branch at ts b = no_type_begins (keyword "int" at) (branch_begins b)

-- a second `super(..);`, or one after another statement: it is no statement, but for the first of a constructor
plain_is_no_super : {limit h : ℕ} {is_open : Bool} {n : StmtNode} {ts : List Token} (args : List Expr) → n ≡ stmt.SuperInit args → Plain limit h is_open n ts → ⊥
plain_is_no_super args q (st.expression _ _ _) = cc
plain_is_no_super args q (st.while _ _ _ _ _) = cc
plain_is_no_super args q (st.for _ _ _ _ _ _ _ _ _) = cc
plain_is_no_super args q (st.each _ _ _ _ _ _ _ _ _) = cc
plain_is_no_super args q (st.return _ _ _) = cc
plain_is_no_super args q (st.throw _ _ _) = cc
plain_is_no_super args q (st.break _ _) = cc
plain_is_no_super args q (st.continue _ _) = cc
plain_is_no_super args q (st.nothing _) = cc

choice_is_no_super : {limit h : ℕ} {is_open : Bool} {n : StmtNode} {ts : List Token} (args : List Expr) → n ≡ stmt.SuperInit args → Choice limit h is_open n ts → ⊥
choice_is_no_super args q (st.short _ _ _ _ _) = cc
choice_is_no_super args q (st.long _ _ _ _ _ _ _ _) = cc

second_super : {limit h : ℕ} {n : StmtNode} {ts : List Token} (args : List Expr) → n ≡ stmt.SuperInit args → Single limit h n ts → ⊥
second_super args q (st.single_block _) = cc
second_super args q (st.single_declaration _ _) = cc
second_super args q (st.single_plain p) = plain_is_no_super args q p
second_super args q (st.single_choice p) = choice_is_no_super args q p

-- `D() { }` in the class C
constructor_of_another_class : MayBeConstructor (Some (codes "C")) (codes "D") → ⊥
constructor_of_another_class e = let f : false ≡ true = ap (among ("C" ∷ [])) e in cc

-- modifiers: `;` without `abstract`, one twice, `abstract static`, two access words, and words of other members
no_block_not_abstract : AbstractWords (codes "public" ∷ []) → ⊥
no_block_not_abstract w = let e : false ≡ true = w.1 in cc

word_twice : FieldWords (codes "static" ∷ codes "static" ∷ []) → ⊥
word_twice w = let e : false ≡ true = w.once in cc

abstract_static : AbstractWords (codes "abstract" ∷ codes "static" ∷ []) → ⊥
abstract_static w = let e : false ≡ true = w.0.known in cc

two_access_words : FieldWords (codes "public" ∷ codes "private" ∷ []) → ⊥
two_access_words w = let e : false ≡ true = w.one_access in cc

override_of_field : FieldWords (codes "@Override" ∷ []) → ⊥
override_of_field w = let e : false ≡ true = w.known in cc

final_constructor : ConstructorWords (codes "final" ∷ []) → ⊥
final_constructor w = let e : false ≡ true = w.known in cc

private_class : ClassWords (codes "private" ∷ []) → ⊥
private_class w = let e : false ≡ true = w.known in cc
