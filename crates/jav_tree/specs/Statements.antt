-- Blocks and statements (JLS 14), and the places of comments in them.
use Rattle.std.specs.Prelude.{◌≡◌, ℕ, suc, max, List, [], ◌∷◌, ◌++◌, map, Option, Some, None, Bool, true, false, All}
use Rattle.mol_base.specs.Operators.{is_step}
use Rattle.mol_base.specs.Token.{Token}
use Rattle.jav_tree.specs.declared.types.TypeName.{TypeName}
use Rattle.jav_tree.specs.declared.expr.Expr.{Expr}
use Rattle.jav_tree.specs.declared.expr.ExprNode.{ExprNode, out-ExprNode}
use Rattle.jav_tree.specs.declared.expr.ExprNode.TheOpen.{ExprNode-F}
use Rattle.jav_tree.specs.declared.stmt.Declarator.{Declarator}
use Rattle.jav_tree.specs.declared.stmt.Let.{Let}
use Rattle.jav_tree.specs.declared.stmt.ForStart.{ForStart}
use Rattle.jav_tree.specs.declared.stmt.ForStart.TheVariants as for_start
use Rattle.jav_tree.specs.declared.stmt.Else.{Else}
use Rattle.jav_tree.specs.declared.stmt.Else.TheVariants as otherwise
use Rattle.jav_tree.specs.declared.stmt.StmtNode.{StmtNode}
use Rattle.jav_tree.specs.declared.stmt.StmtNode.TheVariants as node
use Rattle.jav_tree.specs.declared.stmt.Stmt.{Stmt}
use Rattle.jav_tree.specs.Blocks.{block_of}
use Rattle.jav_tree.specs.Tokens.{IsSymbol, IsKeyword, IsName, Comments, start_of}
use Rattle.jav_tree.specs.Types.{WholeType}
use Rattle.jav_tree.specs.Expressions.{Expression, Init, Listed, Arguments}

-- Whether an expression may be a statement: an assignment, `++` or `--`, a call, or `new T(..)` (JLS 14.8).
abbrev pub statement_case : ExprNode-F ExprNode Expr → Bool
statement_case (ExprNode-F.Assign a op b) = true
statement_case (ExprNode-F.Unary op e) = is_step op
statement_case (ExprNode-F.Post e op) = true
statement_case (ExprNode-F.Call on name args) = true
statement_case (ExprNode-F.SuperCall name args) = true
statement_case (ExprNode-F.New to args) = true
statement_case _ = false

abbrev pub is_statement_expression : ExprNode → Bool
is_statement_expression n = statement_case (out-ExprNode n)

abbrev pub MayBeStatement : Expr → Type 0
MayBeStatement e = is_statement_expression e.node ≡ true

-- a statement with comments before those that it has
abbrev pub with_front : List (List ℕ) → Stmt → Stmt
with_front comments s = record { notes = comments ++ s.notes; at = s.at; node = s.node }

-- Comments before a block go to the front of its first statement ..
abbrev pub fronted : List (List ℕ) → List Stmt → List Stmt
fronted comments [] = []
fronted comments (s ∷ rest) = with_front comments s ∷ rest

-- .. or, where it has none, to its last comments.
abbrev pub tailed : List (List ℕ) → List Stmt → List (List ℕ) → List (List ℕ)
tailed comments [] tail = comments ++ tail
tailed comments (s ∷ rest) tail = tail

-- the statement that begins at this offset, with these comments before it
abbrev pub commented : List (List ℕ) → ℕ → StmtNode → Stmt
commented comments at n = record { notes = comments; at = at; node = n }

-- the statement that begins at this offset, without comments before it
abbrev pub stmt_at : ℕ → StmtNode → Stmt
stmt_at = commented []

-- `final`, or nothing
pub data MaybeFinal : Bool → List Token → Type 0 where
  no : MaybeFinal false []
  yes : {t : Token} → IsKeyword "final" t → MaybeFinal true (t ∷ [])

-- An expression, or nothing; the height is then 0.
pub data MaybeExpression (limit : ℕ) : ℕ → Option Expr → List Token → Type 0 where
  no : MaybeExpression limit 0 None []
  yes : {h : ℕ} {e : Expr} {ts : List Token} → Expression limit 1 h e ts → MaybeExpression limit h (Some e) ts

-- A variable with its first value, if it has one, and the offset of its name.
pub data Variable (limit : ℕ) : ℕ → ℕ × Declarator → List Token → Type 0 where
  alone : {t : Token} → IsName t → Variable limit 0 (t.start, record { name = t.text; init = None }) (t ∷ [])
  valued : {h : ℕ} {t equals : Token} {e : Expr} {ts : List Token} → IsName t → IsSymbol "=" equals → Init limit h e ts
      → Variable limit h (t.start, record { name = t.text; init = Some e }) (t ∷ equals ∷ ts)

-- Variables separated by commas, at least one; the height is that of the highest first value, 0 where there is none.
pub data Variables (limit : ℕ) : ℕ → List (ℕ × Declarator) → List Token → Type 0 where
  last : {h : ℕ} {d : ℕ × Declarator} {ts : List Token} → Variable limit h d ts → Variables limit h (d ∷ []) ts
  more : {h k : ℕ} {comma : Token} {d : ℕ × Declarator} {ds : List (ℕ × Declarator)} {ts us : List Token} → Variable limit h d ts
      → IsSymbol "," comma → Variables limit k ds us → Variables limit (max h k) (d ∷ ds) (ts ++ comma ∷ us)

-- A declaration of local variables, without the semicolon.
pub data Declaration (limit : ℕ) : ℕ → Let → List Token → Type 0 where
  declaration : {h : ℕ} {is_final : Bool} {to : TypeName} {ds : List (ℕ × Declarator)} {ts us vs : List Token} → MaybeFinal is_final ts
      → WholeType limit to us → Variables limit h ds vs
      → Declaration limit h (record { is_final = is_final; ty = to; names = map (λ d. d.1) ds }) (ts ++ (us ++ vs))

-- What stands before the first semicolon of a `for`.
pub data Start (limit : ℕ) : ℕ → ForStart → List Token → Type 0 where
  none : Start limit 0 for_start.None []
  variables : {h : ℕ} {l : Let} {ts : List Token} → Declaration limit h l ts → Start limit h (for_start.Let l) ts
  expressions : {h : ℕ} {es : List Expr} {ts : List Token} → Listed limit h es ts → All MayBeStatement es
      → Start limit h (for_start.Do es) ts

-- What stands after the second: expressions that may be statements, separated by commas, or nothing.
pub data Update (limit : ℕ) : ℕ → List Expr → List Token → Type 0 where
  none : Update limit 0 [] []
  some : {h : ℕ} {es : List Expr} {ts : List Token} → Listed limit h es ts → All MayBeStatement es → Update limit h es ts

-- `super(..);`, the first statement of a constructor
pub data SuperStart (limit : ℕ) : ℕ → StmtNode → List Token → Type 0 where
  super_start : {h : ℕ} {word semi : Token} {args : List Expr} {ts : List Token} → IsKeyword "super" word → Arguments limit h args ts
      → IsSymbol ";" semi → SuperStart limit (suc h) (node.SuperInit args) (word ∷ ts ++ semi ∷ [])

mutual
  -- Plain limit h is_open n ts: a statement that is no block, no declaration, no `if` and no `super(..)`. It is open
  -- where it ends in an `if` without `else` (a "short if" of JLS 14.5), so that an `else` after it would be taken by that `if`.
  pub data Plain (limit : ℕ) : ℕ → Bool → StmtNode → List Token → Type 0 where
    expression : {h : ℕ} {semi : Token} {e : Expr} {ts : List Token} → Expression limit 1 h e ts → MayBeStatement e → IsSymbol ";" semi
        → Plain limit (suc h) false (node.Do e) (ts ++ semi ∷ [])
    while : {h k : ℕ} {is_open : Bool} {word left right : Token} {e : Expr} {items : List Stmt} {tail : List (List ℕ)} {ts us : List Token}
        → IsKeyword "while" word → IsSymbol "(" left → Expression limit 1 h e ts → IsSymbol ")" right → Branch limit k is_open items tail us
        → Plain limit (suc (max h k)) is_open (node.While e (block_of items tail)) (word ∷ left ∷ ts ++ right ∷ us)
    for : {h j k i : ℕ} {is_open : Bool} {word left semi next right : Token} {start : ForStart} {test : Option Expr} {updates : List Expr}
        {items : List Stmt} {tail : List (List ℕ)} {ts us vs ws : List Token}
        → IsKeyword "for" word → IsSymbol "(" left → Start limit h start ts → IsSymbol ";" semi → MaybeExpression limit j test us
        → IsSymbol ";" next → Update limit k updates vs → IsSymbol ")" right → Branch limit i is_open items tail ws
        → Plain limit (suc (max h (max j (max k i)))) is_open (node.For start test updates (block_of items tail))
        (word ∷ left ∷ ts ++ (semi ∷ us ++ (next ∷ vs ++ right ∷ ws)))
    each : {h k : ℕ} {is_open is_final : Bool} {word left name colon right : Token} {to : TypeName} {e : Expr} {items : List Stmt}
        {tail : List (List ℕ)} {ts us vs ws : List Token}
        → IsKeyword "for" word → IsSymbol "(" left → MaybeFinal is_final ts → WholeType limit to us → IsName name → IsSymbol ":" colon
        → Expression limit 1 h e vs → IsSymbol ")" right → Branch limit k is_open items tail ws
        → Plain limit (suc (max h k)) is_open (node.Each is_final to name.text e (block_of items tail))
        (word ∷ left ∷ ts ++ (us ++ (name ∷ colon ∷ vs ++ right ∷ ws)))
    return : {h : ℕ} {word semi : Token} {e : Option Expr} {ts : List Token} → IsKeyword "return" word → MaybeExpression limit h e ts → IsSymbol ";" semi
        → Plain limit (suc h) false (node.Return e) (word ∷ ts ++ semi ∷ [])
    throw : {h : ℕ} {word semi : Token} {e : Expr} {ts : List Token} → IsKeyword "throw" word → Expression limit 1 h e ts → IsSymbol ";" semi
        → Plain limit (suc h) false (node.Throw e) (word ∷ ts ++ semi ∷ [])
    break : {word semi : Token} → IsKeyword "break" word → IsSymbol ";" semi → Plain limit 1 false node.Break (word ∷ semi ∷ [])
    continue : {word semi : Token} → IsKeyword "continue" word → IsSymbol ";" semi → Plain limit 1 false node.Continue (word ∷ semi ∷ [])
    nothing : {semi : Token} → IsSymbol ";" semi → Plain limit 1 false node.Empty (semi ∷ [])

  -- `if` with and without `else`. Comments between the branch and `else` go to the last comments of the branch, which is
  -- not open: an `else` belongs to the nearest `if`.
  pub data Choice (limit : ℕ) : ℕ → Bool → StmtNode → List Token → Type 0 where
    short : {h k : ℕ} {is_open : Bool} {word left right : Token} {e : Expr} {items : List Stmt} {tail : List (List ℕ)} {ts us : List Token}
        → IsKeyword "if" word → IsSymbol "(" left → Expression limit 1 h e ts → IsSymbol ")" right → Branch limit k is_open items tail us
        → Choice limit (suc (max h k)) true (node.If e (block_of items tail) otherwise.None) (word ∷ left ∷ ts ++ right ∷ us)
    long : {h k j : ℕ} {is_open : Bool} {word left right second : Token} {e : Expr} {items : List Stmt} {tail comments : List (List ℕ)} {other : Else}
        {ts us vs ws : List Token}
        → IsKeyword "if" word → IsSymbol "(" left → Expression limit 1 h e ts → IsSymbol ")" right → Branch limit k false items tail us
        → Comments comments vs → IsKeyword "else" second → Otherwise limit j is_open other ws
        → Choice limit (suc (max h (max k j))) is_open (node.If e (block_of items (tail ++ comments)) other)
        (word ∷ left ∷ ts ++ (right ∷ us ++ (vs ++ second ∷ ws)))

  -- What follows `else`: an `if` that stays one, or any other branch. No comment stands between `else` and `if`.
  pub data Otherwise (limit : ℕ) : ℕ → Bool → Else → List Token → Type 0 where
    else_if : {h : ℕ} {is_open : Bool} {n : StmtNode} {ts : List Token} → Choice limit h is_open n ts
        → Otherwise limit h is_open (otherwise.If (stmt_at (start_of ts) n)) ts
    else_enclosed : {h : ℕ} {is_open : Bool} {items : List Stmt} {tail : List (List ℕ)} {ts : List Token} → Enclosed limit h is_open items tail ts
        → Otherwise limit h is_open (otherwise.Block (block_of items tail)) ts

  -- A branch or loop body, as the statements and last comments of its block. It is no declaration.
  pub data Branch (limit : ℕ) : ℕ → Bool → List Stmt → List (List ℕ) → List Token → Type 0 where
    enclosed_branch : {h : ℕ} {is_open : Bool} {items : List Stmt} {tail : List (List ℕ)} {ts : List Token} → Enclosed limit h is_open items tail ts
        → Branch limit h is_open items tail ts
    choice_branch : {h : ℕ} {is_open : Bool} {n : StmtNode} {comments : List (List ℕ)} {ts us : List Token} → Comments comments ts → Choice limit h is_open n us
        → Branch limit (suc h) is_open (commented comments (start_of us) n ∷ []) [] (ts ++ us)

  -- A branch that is no `if`: a block, or another statement, which is then the only one of the block. Comments before it
  -- go to its first statement, or to the last comments of a block that has none.
  pub data Enclosed (limit : ℕ) : ℕ → Bool → List Stmt → List (List ℕ) → List Token → Type 0 where
    enclosed_block : {h : ℕ} {items : List Stmt} {tail comments : List (List ℕ)} {ts us : List Token} → Comments comments ts → BlockOf limit h items tail us
        → Enclosed limit h false (fronted comments items) (tailed comments items tail) (ts ++ us)
    enclosed_plain : {h : ℕ} {is_open : Bool} {n : StmtNode} {comments : List (List ℕ)} {ts us : List Token} → Comments comments ts → Plain limit h is_open n us
        → Enclosed limit (suc h) is_open (commented comments (start_of us) n ∷ []) [] (ts ++ us)

  -- A block, as its statements and its last comments.
  pub data BlockOf (limit : ℕ) : ℕ → List Stmt → List (List ℕ) → List Token → Type 0 where
    braced : {h : ℕ} {left right : Token} {items : List Stmt} {tail : List (List ℕ)} {ts us : List Token} → IsSymbol "{" left
        → Statements limit h items ts → Comments tail us → IsSymbol "}" right
        → BlockOf limit (suc h) items tail (left ∷ ts ++ (us ++ right ∷ []))

  -- A statement in a block, without the comments before it.
  pub data Single (limit : ℕ) : ℕ → StmtNode → List Token → Type 0 where
    single_block : {h : ℕ} {items : List Stmt} {tail : List (List ℕ)} {ts : List Token} → BlockOf limit h items tail ts
        → Single limit (suc h) (node.Block (block_of items tail)) ts
    single_declaration : {h : ℕ} {semi : Token} {l : Let} {ts : List Token} → Declaration limit h l ts → IsSymbol ";" semi
        → Single limit (suc h) (node.Let l) (ts ++ semi ∷ [])
    single_plain : {h : ℕ} {is_open : Bool} {n : StmtNode} {ts : List Token} → Plain limit h is_open n ts → Single limit h n ts
    single_choice : {h : ℕ} {is_open : Bool} {n : StmtNode} {ts : List Token} → Choice limit h is_open n ts → Single limit h n ts

  -- Any number of statements, each with the comments before it; the height is that of the highest, 0 where there is none.
  pub data Statements (limit : ℕ) : ℕ → List Stmt → List Token → Type 0 where
    no_statements : Statements limit 0 [] []
    more_statements : {h k : ℕ} {n : StmtNode} {notes : List (List ℕ)} {items : List Stmt} {ts us vs : List Token} → Comments notes ts → Single limit h n us
        → Statements limit k items vs
        → Statements limit (max h k) (commented notes (start_of us) n ∷ items) (ts ++ (us ++ vs))

-- The block of a constructor, which may begin with `super(..)` (JLS 8.8.7). Any other block is one too.
pub data ConstructorBlock (limit : ℕ) : ℕ → List Stmt → List (List ℕ) → List Token → Type 0 where
  usual : {h : ℕ} {items : List Stmt} {tail : List (List ℕ)} {ts : List Token} → BlockOf limit h items tail ts → ConstructorBlock limit h items tail ts
  super_first : {h k : ℕ} {left right : Token} {n : StmtNode} {notes tail : List (List ℕ)} {items : List Stmt} {ts us vs ws : List Token}
      → IsSymbol "{" left → Comments notes ts → SuperStart limit h n us → Statements limit k items vs → Comments tail ws → IsSymbol "}" right
      → ConstructorBlock limit (suc (max h k)) (commented notes (start_of us) n ∷ items) tail
      (left ∷ ts ++ (us ++ (vs ++ (ws ++ right ∷ []))))
