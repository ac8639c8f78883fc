-- Blocks and statements of the grammar are printable.
use Rattle.std.proofs.Common.{◌≡◌, inl, inr, ℕ, Bool, true, ◌||◌, List, [], ◌∷◌, ◌++◌, map, Option, refl, sym, ap, ◌∙◌}
use Rattle.std.specs.List.{list_all}
use Rattle.std.proofs.lemmas.Bool.{and_parts, or_cases, or_left, or_right}
use Rattle.mol_base.specs.Token.{Token}
use Rattle.jav_tree.specs.declared.expr.Expr.{Expr}
use Rattle.jav_tree.specs.declared.stmt.Declarator.{Declarator}
use Rattle.jav_tree.specs.declared.stmt.Let.{Let}
use Rattle.jav_tree.specs.declared.stmt.ForStart.{ForStart}
use Rattle.jav_tree.specs.declared.stmt.Else.{Else}
use Rattle.jav_tree.specs.declared.stmt.Else.TheVariants as otherwise
use Rattle.jav_tree.specs.declared.stmt.StmtNode.{StmtNode}
use Rattle.jav_tree.specs.declared.stmt.StmtNode.TheVariants as node
use Rattle.jav_tree.specs.declared.stmt.Stmt.{Stmt}
use Rattle.jav_tree.specs.Blocks.{block_of}
use Rattle.jav_tree.specs.Expressions.{Listed}
use Rattle.jav_tree.specs.Expressions as ex
use Rattle.jav_tree.specs.PrintableExpressions.{is_not_empty}
use Rattle.jav_tree.specs.PrintableStatements.{is_value, is_effect, if_any, is_declarator, is_declaration, is_start, statement_where, NodeUses, StmtUses, BlockUses, are_statements, are_constructor_statements, block_uses, else_uses_step, stmt_node_uses_step, block_uses_step, stmt_uses_step}
use Rattle.jav_tree.specs.Statements.{Variable, Variables, Declaration, MaybeExpression, Update, Start, SuperStart, Plain, Choice, Otherwise, Branch, Enclosed, BlockOf, Single, Statements, ConstructorBlock, fronted, tailed, with_front, commented, stmt_at}
use Rattle.jav_tree.specs.Statements as st
use Rattle.jav_tree.specs.TokenTexts.{are_comments}
use Rattle.jav_tree.proofs.StatementFolds.{StmtFold, folded_node, folded_else, folded_stmt, fold-node-Block, fold-node-Let, fold-node-Do, fold-node-If, fold-node-While, fold-node-For, fold-node-Each, fold-node-Return, fold-node-Throw, fold-node-Break, fold-node-Continue, fold-node-Empty, fold-node-SuperInit, fold-no-else, fold-else-block, fold-else-if, fold-block, fold-stmt}
use Rattle.jav_print_laws.proofs.printable_lemmas.Expressions.{both, each_value, each_effect, of_expression, of_listed, of_init, of_arguments}
use Rattle.jav_print_laws.proofs.printable_lemmas.Names.{Known, split, name_is, comments_are, more_comments}
use Rattle.jav_print_laws.proofs.printable_lemmas.Types.{whole_is}

-- the fold that tests
abbrev Testing : StmtFold
Testing = record { Other = Bool; Node = NodeUses; Whole = BlockUses; Line = StmtUses; of_else = else_uses_step; of_block = block_uses_step; of_stmt = stmt_uses_step }

abbrev uses : StmtNode → NodeUses
uses = folded_node Testing stmt_node_uses_step

abbrev else_uses : Else → Bool
else_uses = folded_else Testing stmt_node_uses_step

abbrev stmt_uses : Stmt → StmtUses
stmt_uses = folded_stmt Testing stmt_node_uses_step

-- # Statements of a block

-- the statements of a block, and those of a constructor
abbrev pub Lines : List Stmt → Type 0
Lines items = are_statements (map stmt_uses items) ≡ true

abbrev pub ConstructorLines : List Stmt → Type 0
ConstructorLines items = are_constructor_statements (map stmt_uses items) ≡ true

pub block_is : (items : List Stmt) (tail : List (List ℕ)) → Lines items → are_comments tail ≡ true → (block_uses (block_of items tail)).is_block ≡ true
block_is items tail lines comments = ap (λ (u : BlockUses). u.is_block) (fold-block Testing stmt_node_uses_step items tail) ∙ both lines comments

pub constructor_block_is : (items : List Stmt) (tail : List (List ℕ)) → ConstructorLines items → are_comments tail ≡ true → (block_uses (block_of items tail)).is_constructor_block ≡ true
constructor_block_is items tail lines comments = ap (λ (u : BlockUses). u.is_constructor_block) (fold-block Testing stmt_node_uses_step items tail) ∙ both lines comments

-- a statement with its comments
stmt_is : (notes : List (List ℕ)) (at : ℕ) (n : StmtNode) → stmt_uses (commented notes at n) ≡ stmt_uses_step (record { notes = notes; at = at; node = uses n })
stmt_is notes at n = fold-stmt Testing stmt_node_uses_step notes at n

line_is : (notes : List (List ℕ)) (at : ℕ) (n : StmtNode) → are_comments notes ≡ true → (uses n).is_statement ≡ true → (stmt_uses (commented notes at n)).is_statement ≡ true
line_is notes at n comments statement = ap (λ (u : StmtUses). u.is_statement) (stmt_is notes at n) ∙ both comments statement

super_is : (notes : List (List ℕ)) (at : ℕ) (n : StmtNode) → are_comments notes ≡ true → (uses n).is_super ≡ true → (stmt_uses (commented notes at n)).is_super ≡ true
super_is notes at n comments first = ap (λ (u : StmtUses). u.is_super) (stmt_is notes at n) ∙ both comments first

one_line : (notes : List (List ℕ)) (at : ℕ) (n : StmtNode) → are_comments notes ≡ true → (uses n).is_statement ≡ true → Lines (commented notes at n ∷ [])
one_line notes at n comments statement = both (line_is notes at n comments statement) refl

-- # Comments before a block

-- comments in front of a statement change none of the tests
front_is : (comments : List (List ℕ)) (s : Stmt) → are_comments comments ≡ true → (stmt_uses s).is_statement ≡ true → (stmt_uses (with_front comments s)).is_statement ≡ true
front_is comments s are is =
    let parts = and_parts (are_comments s.notes) (uses s.node).is_statement (sym (ap (λ (u : StmtUses). u.is_statement) (stmt_is s.notes s.at s.node)) ∙ is) in
    line_is (comments ++ s.notes) s.at s.node (more_comments comments s.notes are parts.0) parts.1

front_super_is : (comments : List (List ℕ)) (s : Stmt) → are_comments comments ≡ true → (stmt_uses s).is_super ≡ true → (stmt_uses (with_front comments s)).is_super ≡ true
front_super_is comments s are is =
    let parts = and_parts (are_comments s.notes) (uses s.node).is_super (sym (ap (λ (u : StmtUses). u.is_super) (stmt_is s.notes s.at s.node)) ∙ is) in
    super_is (comments ++ s.notes) s.at s.node (more_comments comments s.notes are parts.0) parts.1

pub fronted_are : (comments : List (List ℕ)) (items : List Stmt) → are_comments comments ≡ true → Lines items → Lines (fronted comments items)
fronted_are comments [] are lines = refl
fronted_are comments (s ∷ rest) are lines =
    let parts = and_parts (stmt_uses s).is_statement (are_statements (map stmt_uses rest)) lines in
    both (front_is comments s are parts.0) parts.1

pub fronted_constructor : (comments : List (List ℕ)) (items : List Stmt) → are_comments comments ≡ true → ConstructorLines items → ConstructorLines (fronted comments items)
fronted_constructor comments [] are lines = refl
fronted_constructor comments (s ∷ rest) are lines =
    let parts = and_parts ((stmt_uses s).is_statement || (stmt_uses s).is_super) (are_statements (map stmt_uses rest)) lines in
    let front = with_front comments s in
    both (elim (or_cases (stmt_uses s).is_statement (stmt_uses s).is_super parts.0) [
      | inl usual ↦ or_left (stmt_uses front).is_statement (stmt_uses front).is_super (front_is comments s are usual)
      | inr first ↦ or_right (stmt_uses front).is_statement (stmt_uses front).is_super (front_super_is comments s are first)
    ]) parts.1

pub tailed_are : (comments : List (List ℕ)) (items : List Stmt) (tail : List (List ℕ)) → are_comments comments ≡ true → are_comments tail ≡ true → are_comments (tailed comments items tail) ≡ true
tailed_are comments [] tail are last = more_comments comments tail are last
tailed_are comments (s ∷ rest) tail are last = last

-- # Declarations, and the parts of statements

pub variable_is : {limit h : ℕ} {d : ℕ × Declarator} {ts : List Token} → Variable limit h d ts → Known ts → is_declarator d.1 ≡ true
variable_is (st.alone {t} n) k = both (name_is t n k.0) refl
variable_is (st.valued {t} n _ p) k = both (name_is t n k.0) (of_init p k.1.1)

variables_are : {limit h : ℕ} {ds : List (ℕ × Declarator)} {ts : List Token} → Variables limit h ds ts → Known ts → list_all is_declarator (map (λ d. d.1) ds) ≡ true
variables_are (st.last p) k = both (variable_is p k) refl
variables_are (st.more {comma = comma} {ts = ts} {us} p _ q) k = let s = split ts (comma ∷ us) k in both (variable_is p s.0) (variables_are q s.1.1)

some_variables : {limit h : ℕ} {ds : List (ℕ × Declarator)} {ts : List Token} → Variables limit h ds ts → is_not_empty (map (λ d. d.1) ds) ≡ true
some_variables (st.last _) = refl
some_variables (st.more _ _ _) = refl

declaration_is : {limit h : ℕ} {l : Let} {ts : List Token} → Declaration limit h l ts → Known ts → is_declaration l ≡ true
declaration_is (st.declaration {ts = ts} {us} {vs} _ t p) k =
    let s = split us vs (split ts (us ++ vs) k).1 in both (both (whole_is t s.0).type (some_variables p)) (variables_are p s.1)

maybe_is : {limit h : ℕ} {e : Option Expr} {ts : List Token} → MaybeExpression limit h e ts → Known ts → if_any is_value e ≡ true
maybe_is st.no k = refl
maybe_is (st.yes p) k = (of_expression p k).value

update_is : {limit h : ℕ} {es : List Expr} {ts : List Token} → Update limit h es ts → Known ts → list_all is_effect es ≡ true
update_is st.none k = refl
update_is (st.some {es = es} p may) k = each_effect es (of_listed p k) may

some_listed : {limit h : ℕ} {es : List Expr} {ts : List Token} → Listed limit h es ts → is_not_empty es ≡ true
some_listed (ex.last_listed _) = refl
some_listed (ex.more_listed _ _ _) = refl

start_is : {limit h : ℕ} {s : ForStart} {ts : List Token} → Start limit h s ts → Known ts → is_start s ≡ true
start_is st.none k = refl
start_is (st.variables p) k = declaration_is p k
start_is (st.expressions {es = es} p may) k = both (some_listed p) (each_effect es (of_listed p k) may)

super_start_is : {limit h : ℕ} {n : StmtNode} {ts : List Token} → SuperStart limit h n ts → Known ts → (uses n).is_super ≡ true
super_start_is (st.super_start {semi = semi} {args} {ts} _ p _) k =
    ap (λ (u : NodeUses). u.is_super) (fold-node-SuperInit Testing stmt_node_uses_step args) ∙ each_value args (of_arguments p (split ts (semi ∷ []) k.1).0)

-- # Statements

abbrev Statement : StmtNode → Type 0
Statement n = (uses n).is_statement ≡ true

-- an `if` is a statement, and may follow `else`
abbrev IsChoice : StmtNode → Type 0
IsChoice n = Statement n × ((uses n).is_choice ≡ true)

-- what stands between braces
abbrev pub Block : List Stmt → List (List ℕ) → Type 0
Block items tail = Lines items × (are_comments tail ≡ true)

statement : (n : StmtNode) (b : Bool) → uses n ≡ statement_where b → b ≡ true → Statement n
statement n b is holds = ap (λ (u : NodeUses). u.is_statement) is ∙ holds

if_is : (e : Expr) (items : List Stmt) (tail : List (List ℕ)) (other : Else) → is_value e ≡ true → Block items tail → else_uses other ≡ true → IsChoice (node.If e (block_of items tail) other)
if_is e items tail other value b rest =
    let h = fold-node-If Testing stmt_node_uses_step e (block_of items tail) other in
    let holds = both (both value (block_is items tail b.0 b.1)) rest in
    (ap (λ (u : NodeUses). u.is_statement) h ∙ holds, ap (λ (u : NodeUses). u.is_choice) h ∙ holds)

mutual
  plain_is : {limit h : ℕ} {is_open : Bool} {n : StmtNode} {ts : List Token} → Plain limit h is_open n ts → Known ts → Statement n
  plain_is (st.expression {semi = semi} {e} {ts} p may _) k = statement _ _ (fold-node-Do Testing stmt_node_uses_step e) ((of_expression p (split ts (semi ∷ []) k).0).statement may)
  plain_is (st.while {right = right} {e} {items} {tail} {ts} {us} _ _ p _ q) k =
      let s = split ts (right ∷ us) k.1.1 in
      let b = branch_is q s.1.1 in
      statement _ _ (fold-node-While Testing stmt_node_uses_step e (block_of items tail)) (both (of_expression p s.0).value (block_is items tail b.0 b.1))
  plain_is (st.for {semi = semi} {next} {right} {start} {test} {updates} {items} {tail} {ts} {us} {vs} {ws} _ _ p _ q _ r _ x) k =
      let s1 = split ts (semi ∷ us ++ (next ∷ vs ++ right ∷ ws)) k.1.1 in
      let s2 = split us (next ∷ vs ++ right ∷ ws) s1.1.1 in
      let s3 = split vs (right ∷ ws) s2.1.1 in
      let b = branch_is x s3.1.1 in
      statement _ _ (fold-node-For Testing stmt_node_uses_step start test updates (block_of items tail)) (both (both (both (start_is p s1.0) (maybe_is q s2.0)) (update_is r s3.0)) (block_is items tail b.0 b.1))
  plain_is (st.each {is_final = is_final} {name = name} {colon} {right} {to} {e} {items} {tail} {ts} {us} {vs} {ws} _ _ _ t n _ p _ x) k =
      let s1 = split ts (us ++ (name ∷ colon ∷ vs ++ right ∷ ws)) k.1.1 in
      let s2 = split us (name ∷ colon ∷ vs ++ right ∷ ws) s1.1 in
      let s3 = split vs (right ∷ ws) s2.1.1.1 in
      let b = branch_is x s3.1.1 in
      statement _ _ (fold-node-Each Testing stmt_node_uses_step is_final to name.text e (block_of items tail)) (both (both (both (whole_is t s2.0).type (name_is name n s2.1.0)) (of_expression p s3.0).value) (block_is items tail b.0 b.1))
  plain_is (st.return {semi = semi} {e} {ts} _ p _) k = statement _ _ (fold-node-Return Testing stmt_node_uses_step e) (maybe_is p (split ts (semi ∷ []) k.1).0)
  plain_is (st.throw {semi = semi} {e} {ts} _ p _) k = statement _ _ (fold-node-Throw Testing stmt_node_uses_step e) (of_expression p (split ts (semi ∷ []) k.1).0).value
  plain_is (st.break _ _) k = statement _ true (fold-node-Break Testing stmt_node_uses_step) refl
  plain_is (st.continue _ _) k = statement _ true (fold-node-Continue Testing stmt_node_uses_step) refl
  plain_is (st.nothing _) k = statement _ true (fold-node-Empty Testing stmt_node_uses_step) refl

  choice_is : {limit h : ℕ} {is_open : Bool} {n : StmtNode} {ts : List Token} → Choice limit h is_open n ts → Known ts → IsChoice n
  choice_is (st.short {right = right} {e} {items} {tail} {ts} {us} _ _ p _ q) k =
      let s = split ts (right ∷ us) k.1.1 in
      if_is e items tail otherwise.None (of_expression p s.0).value (branch_is q s.1.1) (fold-no-else Testing stmt_node_uses_step)
  choice_is (st.long {right = right} {second} {e} {items} {tail} {comments} {other} {ts} {us} {vs} {ws} _ _ p _ q c _ r) k =
      let s1 = split ts (right ∷ us ++ (vs ++ second ∷ ws)) k.1.1 in
      let s2 = split us (vs ++ second ∷ ws) s1.1.1 in
      let s3 = split vs (second ∷ ws) s2.1 in
      let b = branch_is q s2.0 in
      if_is e items (tail ++ comments) other (of_expression p s1.0).value (b.0, more_comments tail comments b.1 (comments_are c s3.0)) (otherwise_is r s3.1.1)

  otherwise_is : {limit h : ℕ} {is_open : Bool} {other : Else} {ts : List Token} → Otherwise limit h is_open other ts → Known ts → else_uses other ≡ true
  otherwise_is (st.else_if {n = n} {ts} p) k =
      fold-else-if Testing stmt_node_uses_step (stmt_at _ n) ∙ ap (λ (u : StmtUses). u.follows_else) (stmt_is [] _ n) ∙ (choice_is p k).1
  otherwise_is (st.else_enclosed {items = items} {tail} p) k =
      let b = enclosed_is p k in fold-else-block Testing stmt_node_uses_step (block_of items tail) ∙ block_is items tail b.0 b.1

  branch_is : {limit h : ℕ} {is_open : Bool} {items : List Stmt} {tail : List (List ℕ)} {ts : List Token} → Branch limit h is_open items tail ts → Known ts → Block items tail
  branch_is (st.enclosed_branch p) k = enclosed_is p k
  branch_is (st.choice_branch {n = n} {comments} {ts} {us} c p) k = let s = split ts us k in (one_line comments _ n (comments_are c s.0) (choice_is p s.1).0, refl)

  enclosed_is : {limit h : ℕ} {is_open : Bool} {items : List Stmt} {tail : List (List ℕ)} {ts : List Token} → Enclosed limit h is_open items tail ts → Known ts → Block items tail
  enclosed_is (st.enclosed_block {items = items} {tail} {comments} {ts} {us} c p) k =
      let s = split ts us k in
      let b = block_of_is p s.1 in
      let are = comments_are c s.0 in
      (fronted_are comments items are b.0, tailed_are comments items tail are b.1)
  enclosed_is (st.enclosed_plain {n = n} {comments} {ts} {us} c p) k = let s = split ts us k in (one_line comments _ n (comments_are c s.0) (plain_is p s.1), refl)

  pub block_of_is : {limit h : ℕ} {items : List Stmt} {tail : List (List ℕ)} {ts : List Token} → BlockOf limit h items tail ts → Known ts → Block items tail
  block_of_is (st.braced {right = right} {ts = ts} {us} _ p c _) k =
      let s = split ts (us ++ right ∷ []) k.1 in (statements_are p s.0, comments_are c (split us (right ∷ []) s.1).0)

  single_is : {limit h : ℕ} {n : StmtNode} {ts : List Token} → Single limit h n ts → Known ts → Statement n
  single_is (st.single_block {items = items} {tail} p) k = let b = block_of_is p k in statement _ _ (fold-node-Block Testing stmt_node_uses_step (block_of items tail)) (block_is items tail b.0 b.1)
  single_is (st.single_declaration {semi = semi} {l} {ts} p _) k = statement _ _ (fold-node-Let Testing stmt_node_uses_step l) (declaration_is p (split ts (semi ∷ []) k).0)
  single_is (st.single_plain p) k = plain_is p k
  single_is (st.single_choice p) k = (choice_is p k).0

  statements_are : {limit h : ℕ} {items : List Stmt} {ts : List Token} → Statements limit h items ts → Known ts → Lines items
  statements_are st.no_statements k = refl
  statements_are (st.more_statements {n = n} {notes} {ts = ts} {us} {vs} c p q) k =
      let s1 = split ts (us ++ vs) k in
      let s2 = split us vs s1.1 in
      both (line_is notes _ n (comments_are c s1.0) (single_is p s2.0)) (statements_are q s2.1)

-- Any statements of a block may be those of a constructor.
constructor_lines : (items : List Stmt) → Lines items → ConstructorLines items
constructor_lines [] lines = refl
constructor_lines (s ∷ rest) lines =
    let parts = and_parts (stmt_uses s).is_statement (are_statements (map stmt_uses rest)) lines in
    both (or_left (stmt_uses s).is_statement (stmt_uses s).is_super parts.0) parts.1

pub constructor_is : {limit h : ℕ} {items : List Stmt} {tail : List (List ℕ)} {ts : List Token} → ConstructorBlock limit h items tail ts → Known ts → ConstructorLines items × (are_comments tail ≡ true)
constructor_is (st.usual {items = items} p) k = let b = block_of_is p k in (constructor_lines items b.0, b.1)
constructor_is (st.super_first {right = right} {n} {notes} {tail} {items} {ts} {us} {vs} {ws} _ c p q d _) k =
    let s1 = split ts (us ++ (vs ++ (ws ++ right ∷ []))) k.1 in
    let s2 = split us (vs ++ (ws ++ right ∷ [])) s1.1 in
    let s3 = split vs (ws ++ right ∷ []) s2.1 in
    let first = commented notes _ n in
    (both (or_right (stmt_uses first).is_statement (stmt_uses first).is_super (super_is notes _ n (comments_are c s1.0) (super_start_is p s2.0))) (statements_are q s3.0), comments_are d (split ws (right ∷ []) s3.1).0)
