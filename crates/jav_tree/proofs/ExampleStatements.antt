-- Statements and bodies that are what they look like, a token list and its tree each.
use Rattle.std.proofs.Common.{ℕ, suc, List, [], ◌∷◌, ◌++◌, codes, Some, None, Bool, true, false, refl, lit≤}
use Prim.Native.String.{String}
use Rattle.std.specs.List.{All}
use Rattle.std.proofs.lemmas.List.Elements.{All-cons, All-nil}
use Rattle.jav_tree.specs.declared.types.TypeName.TheVariants as ty
use Rattle.jav_tree.specs.declared.expr.Expr.{Expr}
use Rattle.jav_tree.specs.declared.expr.ExprNode.TheVariants as node
use Rattle.jav_tree.specs.declared.stmt.ForStart.TheVariants as for_start
use Rattle.jav_tree.specs.declared.stmt.Else.TheVariants as otherwise
use Rattle.jav_tree.specs.declared.stmt.Stmt.{Stmt}
use Rattle.jav_tree.specs.declared.stmt.StmtNode.{StmtNode}
use Rattle.jav_tree.specs.declared.stmt.StmtNode.TheVariants as stmt
use Rattle.jav_tree.specs.Blocks.{block_of}
use Rattle.mol_base.specs.Token.{Token}
use Rattle.jav_tree.specs.Tokens.{Comments, start_of}
use Rattle.jav_tree.specs.Tokens as token
use Rattle.jav_tree.specs.Types as type
use Rattle.jav_tree.specs.Expressions.{expr_at}
use Rattle.jav_tree.specs.Expressions as is
use Rattle.jav_tree.specs.Statements.{Plain, Branch, BlockOf, Single, ConstructorBlock, MayBeStatement, stmt_at, commented, fronted, tailed}
use Rattle.jav_tree.specs.Statements as st
use Rattle.jav_tree.proofs.StatementExpressions.{statement-Assign, statement-Unary, statement-Post, statement-Call, statement-SuperCall, statement-New}
use Rattle.jav_tree.proofs.Spelled.{sym, key, word, lit, note, symbol, keyword, named, comment, operator, assigns, steps, int_at, class_at, nm, num, un, bin, set, name_at, is_nm, is_num}

-- the statement `NAME();` at an offset
abbrev go : ℕ → String → Stmt
go at text = stmt_at at (stmt.Do (expr_at at (node.Call None (codes text) [])))

is_go : (text : String) (a b c d : ℕ) → Plain 255 2 false (stmt.Do (expr_at a (node.Call None (codes text) []))) (word text a ∷ sym "(" b ∷ sym ")" c ∷ sym ";" d ∷ [])
is_go text a b c d = st.expression (is.primary (is.call (named text a) (is.no_arguments (symbol "(" b) (symbol ")" c)))) (statement-Call None _ _) (symbol ";" d)

only : (e : Expr) → MayBeStatement e → All MayBeStatement (e ∷ [])
only e p = All-cons MayBeStatement e [] p (All-nil _)

-- branches and loop bodies
plain_branch : {h : ℕ} {is_open : Bool} {n : StmtNode} {comments : List (List ℕ)} {ts us : List Token} → Comments comments ts → Plain 255 h is_open n us
    → Branch 255 (suc h) is_open (commented comments (start_of us) n ∷ []) [] (ts ++ us)
plain_branch c p = st.enclosed_branch (st.enclosed_plain c p)

block_branch : {h : ℕ} {items : List Stmt} {tail comments : List (List ℕ)} {ts us : List Token} → Comments comments ts → BlockOf 255 h items tail us
    → Branch 255 h false (fronted comments items) (tailed comments items tail) (ts ++ us)
block_branch c p = st.enclosed_branch (st.enclosed_block c p)

-- `;`, `break;`, `continue;`, `return;`, `return x;` and `throw x;`
nothing : Single 255 1 stmt.Empty (sym ";" 0 ∷ [])
nothing = st.single_plain (st.nothing (symbol ";" 0))

broken : Single 255 1 stmt.Break (key "break" 0 ∷ sym ";" 5 ∷ [])
broken = st.single_plain (st.break (keyword "break" 0) (symbol ";" 5))

continued : Single 255 1 stmt.Continue (key "continue" 0 ∷ sym ";" 8 ∷ [])
continued = st.single_plain (st.continue (keyword "continue" 0) (symbol ";" 8))

returned : Single 255 1 (stmt.Return None) (key "return" 0 ∷ sym ";" 6 ∷ [])
returned = st.single_plain (st.return (keyword "return" 0) st.no (symbol ";" 6))

returned_value : Single 255 2 (stmt.Return (Some (nm 7 "x"))) (key "return" 0 ∷ word "x" 7 ∷ sym ";" 8 ∷ [])
returned_value = st.single_plain (st.return (keyword "return" 0) (st.yes (is_nm "x" 7)) (symbol ";" 8))

thrown : Single 255 2 (stmt.Throw (nm 6 "x")) (key "throw" 0 ∷ word "x" 6 ∷ sym ";" 7 ∷ [])
thrown = st.single_plain (st.throw (keyword "throw" 0) (is_nm "x" 6) (symbol ";" 7))

-- `final int x = 1, y;`
declared : Single 255 2 (stmt.Let (record { is_final = true; ty = ty.Prim (codes "int"); names = record { name = codes "x"; init = Some (num 14 "1") } ∷ record { name = codes "y"; init = None } ∷ [] }))
    (key "final" 0 ∷ key "int" 6 ∷ word "x" 10 ∷ sym "=" 12 ∷ lit "1" 14 ∷ sym "," 15 ∷ word "y" 17 ∷ sym ";" 18 ∷ [])
declared = st.single_declaration (st.declaration (st.yes (keyword "final" 0)) (type.whole (int_at 6) type.none (lit≤ tt))
    (st.more (st.valued (named "x" 10) (symbol "=" 12) (is.value (is_num "1" 14))) (symbol "," 15) (st.last (st.alone (named "y" 17))))) (symbol ";" 18)

-- `x = 1;` and `x++;`
assigned : Single 255 3 (stmt.Do (set "=" (nm 0 "x") (num 4 "1"))) (word "x" 0 ∷ sym "=" 2 ∷ lit "1" 4 ∷ sym ";" 5 ∷ [])
assigned = st.single_plain (st.expression (is.assign (lit≤ tt) (name_at "x" 0) (assigns "=" 2 refl) (is_num "1" 4)) (statement-Assign _ _ _) (symbol ";" 5))

increased : Single 255 3 (stmt.Do (expr_at 0 (node.Post (nm 0 "x") (codes "++")))) (word "x" 0 ∷ sym "++" 1 ∷ sym ";" 3 ∷ [])
increased = st.single_plain (st.expression (is.step_after (lit≤ tt) (name_at "x" 0) (steps "++" 1 refl)) (statement-Post _ _) (symbol ";" 3))

-- `++x;`, `super.f();` and `new C();`
stepped : Single 255 3 (stmt.Do (un 0 "++" (nm 2 "x"))) (sym "++" 0 ∷ word "x" 2 ∷ sym ";" 3 ∷ [])
stepped = st.single_plain (st.expression (is.step_before (lit≤ tt) (steps "++" 0 refl) (name_at "x" 2)) (statement-Unary (codes "++") _) (symbol ";" 3))

super_called : Single 255 2 (stmt.Do (expr_at 0 (node.SuperCall (codes "f") []))) (key "super" 0 ∷ sym "." 5 ∷ word "f" 6 ∷ sym "(" 7 ∷ sym ")" 8 ∷ sym ";" 9 ∷ [])
super_called = st.single_plain (st.expression (is.primary (is.super_call (keyword "super" 0) (symbol "." 5) (named "f" 6) (is.no_arguments (symbol "(" 7) (symbol ")" 8)))) (statement-SuperCall _ _) (symbol ";" 9))

created : Single 255 2 (stmt.Do (expr_at 0 (node.New (ty.Named (codes "C")) []))) (key "new" 0 ∷ word "C" 4 ∷ sym "(" 5 ∷ sym ")" 6 ∷ sym ";" 7 ∷ [])
created = st.single_plain (st.expression (is.primary (is.new (keyword "new" 0) (type.name (named "C" 4)) (is.no_arguments (symbol "(" 5) (symbol ")" 6)))) (statement-New _ _) (symbol ";" 7))

-- `if (x) a();`: the branch stands in a block of its own
short_if : Single 255 4 (stmt.If (nm 4 "x") (block_of (go 7 "a" ∷ []) []) otherwise.None)
    (key "if" 0 ∷ sym "(" 3 ∷ word "x" 4 ∷ sym ")" 5 ∷ word "a" 7 ∷ sym "(" 8 ∷ sym ")" 9 ∷ sym ";" 10 ∷ [])
short_if = st.single_choice (st.short (keyword "if" 0) (symbol "(" 3) (is_nm "x" 4) (symbol ")" 5) (plain_branch token.none (is_go "a" 7 8 9 10)))

-- `if (x) if (y) a(); else b();`: the `else` belongs to the second `if`
nearest : Single 255 6 (stmt.If (nm 4 "x") (block_of (stmt_at 7 (stmt.If (nm 11 "y") (block_of (go 14 "a" ∷ []) []) (otherwise.Block (block_of (go 24 "b" ∷ []) []))) ∷ []) []) otherwise.None)
    (key "if" 0 ∷ sym "(" 3 ∷ word "x" 4 ∷ sym ")" 5 ∷ key "if" 7 ∷ sym "(" 10 ∷ word "y" 11 ∷ sym ")" 12
    ∷ word "a" 14 ∷ sym "(" 15 ∷ sym ")" 16 ∷ sym ";" 17 ∷ key "else" 19 ∷ word "b" 24 ∷ sym "(" 25 ∷ sym ")" 26 ∷ sym ";" 27 ∷ [])
nearest = st.single_choice (st.short (keyword "if" 0) (symbol "(" 3) (is_nm "x" 4) (symbol ")" 5) (st.choice_branch token.none
    (st.long (keyword "if" 7) (symbol "(" 10) (is_nm "y" 11) (symbol ")" 12) (plain_branch token.none (is_go "a" 14 15 16 17)) token.none
    (keyword "else" 19) (st.else_enclosed (st.enclosed_plain token.none (is_go "b" 24 25 26 27))))))

-- `if (x) {} else if (y) {}`: the second `if` stays one
else_if : Single 255 3 (stmt.If (nm 4 "x") (block_of [] []) (otherwise.If (stmt_at 15 (stmt.If (nm 19 "y") (block_of [] []) otherwise.None))))
    (key "if" 0 ∷ sym "(" 3 ∷ word "x" 4 ∷ sym ")" 5 ∷ sym "{" 7 ∷ sym "}" 8 ∷ key "else" 10 ∷ key "if" 15 ∷ sym "(" 18 ∷ word "y" 19 ∷ sym ")" 20
    ∷ sym "{" 22 ∷ sym "}" 23 ∷ [])
else_if = st.single_choice (st.long (keyword "if" 0) (symbol "(" 3) (is_nm "x" 4) (symbol ")" 5)
    (block_branch token.none (st.braced (symbol "{" 7) st.no_statements token.none (symbol "}" 8))) token.none (keyword "else" 10)
    (st.else_if (st.short (keyword "if" 15) (symbol "(" 18) (is_nm "y" 19) (symbol ")" 20)
    (block_branch token.none (st.braced (symbol "{" 22) st.no_statements token.none (symbol "}" 23))))))

-- `if (x) {} /*c*/ else {}`: the comment is the last of the branch
comment_before_else : Single 255 2 (stmt.If (nm 4 "x") (block_of [] (codes "/*c*/" ∷ [])) (otherwise.Block (block_of [] [])))
    (key "if" 0 ∷ sym "(" 3 ∷ word "x" 4 ∷ sym ")" 5 ∷ sym "{" 7 ∷ sym "}" 8 ∷ note "/*c*/" 10 ∷ key "else" 16 ∷ sym "{" 21 ∷ sym "}" 22 ∷ [])
comment_before_else = st.single_choice (st.long (keyword "if" 0) (symbol "(" 3) (is_nm "x" 4) (symbol ")" 5)
    (block_branch token.none (st.braced (symbol "{" 7) st.no_statements token.none (symbol "}" 8))) (token.comment (comment "/*c*/" 10) token.none)
    (keyword "else" 16) (st.else_enclosed (st.enclosed_block token.none (st.braced (symbol "{" 21) st.no_statements token.none (symbol "}" 22)))))

-- `while (x) /*c*/ a();` and `while (x) /*c*/ {}`: a comment after the header goes to the first statement, or to the block's last comments
comment_after_header : Single 255 4 (stmt.While (nm 7 "x") (block_of (record { notes = codes "/*c*/" ∷ []; at = 16; node = stmt.Do (expr_at 16 (node.Call None (codes "a") [])) } ∷ []) []))
    (key "while" 0 ∷ sym "(" 6 ∷ word "x" 7 ∷ sym ")" 8 ∷ note "/*c*/" 10 ∷ word "a" 16 ∷ sym "(" 17 ∷ sym ")" 18 ∷ sym ";" 19 ∷ [])
comment_after_header = st.single_plain (st.while (keyword "while" 0) (symbol "(" 6) (is_nm "x" 7) (symbol ")" 8)
    (plain_branch (token.comment (comment "/*c*/" 10) token.none) (is_go "a" 16 17 18 19)))

comment_to_empty_block : Single 255 2 (stmt.While (nm 7 "x") (block_of [] (codes "/*c*/" ∷ [])))
    (key "while" 0 ∷ sym "(" 6 ∷ word "x" 7 ∷ sym ")" 8 ∷ note "/*c*/" 10 ∷ sym "{" 16 ∷ sym "}" 17 ∷ [])
comment_to_empty_block = st.single_plain (st.while (keyword "while" 0) (symbol "(" 6) (is_nm "x" 7) (symbol ")" 8)
    (block_branch (token.comment (comment "/*c*/" 10) token.none) (st.braced (symbol "{" 16) st.no_statements token.none (symbol "}" 17))))

-- `for (;;) {}` and `for (int i = 0; i < n; i++) ;`
endless : Single 255 2 (stmt.For for_start.None None [] (block_of [] []))
    (key "for" 0 ∷ sym "(" 4 ∷ sym ";" 5 ∷ sym ";" 6 ∷ sym ")" 7 ∷ sym "{" 9 ∷ sym "}" 10 ∷ [])
endless = st.single_plain (st.for (keyword "for" 0) (symbol "(" 4) st.none (symbol ";" 5) st.no (symbol ";" 6) st.none (symbol ")" 7)
    (block_branch token.none (st.braced (symbol "{" 9) st.no_statements token.none (symbol "}" 10))))

counted : Single 255 3 (stmt.For (for_start.Let (record { is_final = false; ty = ty.Prim (codes "int"); names = record { name = codes "i"; init = Some (num 13 "0") } ∷ [] }))
    (Some (bin "<" (nm 16 "i") (nm 20 "n"))) (expr_at 23 (node.Post (nm 23 "i") (codes "++")) ∷ []) (block_of (stmt_at 28 stmt.Empty ∷ []) []))
    (key "for" 0 ∷ sym "(" 4 ∷ key "int" 5 ∷ word "i" 9 ∷ sym "=" 11 ∷ lit "0" 13 ∷ sym ";" 14 ∷ word "i" 16 ∷ sym "<" 18 ∷ word "n" 20 ∷ sym ";" 21
    ∷ word "i" 23 ∷ sym "++" 24 ∷ sym ")" 26 ∷ sym ";" 28 ∷ [])
counted = st.single_plain (st.for (keyword "for" 0) (symbol "(" 4)
    (st.variables (st.declaration st.no (type.whole (int_at 5) type.none (lit≤ tt)) (st.last (st.valued (named "i" 9) (symbol "=" 11) (is.value (is_num "0" 13))))))
    (symbol ";" 14) (st.yes (is.binary (lit≤ tt) (operator 9 "<" 18 refl) (is_nm "i" 16) (is_nm "n" 20))) (symbol ";" 21)
    (st.some (is.last_listed (is.step_after (lit≤ tt) (name_at "i" 23) (steps "++" 24 refl))) (only _ (statement-Post _ _))) (symbol ")" 26)
    (plain_branch token.none (st.nothing (symbol ";" 28))))

-- `for (i = 0;;) ;`
assigned_first : Single 255 3 (stmt.For (for_start.Do (set "=" (nm 5 "i") (num 9 "0") ∷ [])) None [] (block_of (stmt_at 14 stmt.Empty ∷ []) []))
    (key "for" 0 ∷ sym "(" 4 ∷ word "i" 5 ∷ sym "=" 7 ∷ lit "0" 9 ∷ sym ";" 10 ∷ sym ";" 11 ∷ sym ")" 12 ∷ sym ";" 14 ∷ [])
assigned_first = st.single_plain (st.for (keyword "for" 0) (symbol "(" 4)
    (st.expressions (is.last_listed (is.assign (lit≤ tt) (name_at "i" 5) (assigns "=" 7 refl) (is_num "0" 9))) (only _ (statement-Assign _ _ _)))
    (symbol ";" 10) st.no (symbol ";" 11) st.none (symbol ")" 12) (plain_branch token.none (st.nothing (symbol ";" 14))))

-- `for (final C c : cs) {}`
each_one : Single 255 2 (stmt.Each true (ty.Named (codes "C")) (codes "c") (nm 17 "cs") (block_of [] []))
    (key "for" 0 ∷ sym "(" 4 ∷ key "final" 5 ∷ word "C" 11 ∷ word "c" 13 ∷ sym ":" 15 ∷ word "cs" 17 ∷ sym ")" 19 ∷ sym "{" 21 ∷ sym "}" 22 ∷ [])
each_one = st.single_plain (st.each (keyword "for" 0) (symbol "(" 4) (st.yes (keyword "final" 5)) (type.whole (class_at "C" 11) type.none (lit≤ tt)) (named "c" 13)
    (symbol ":" 15) (is_nm "cs" 17) (symbol ")" 19) (block_branch token.none (st.braced (symbol "{" 21) st.no_statements token.none (symbol "}" 22))))

-- `{ { } }` has the height 3: the block, the statement in it, and its block
nested : BlockOf 255 3 (stmt_at 2 (stmt.Block (block_of [] [])) ∷ []) [] (sym "{" 0 ∷ sym "{" 2 ∷ sym "}" 4 ∷ sym "}" 6 ∷ [])
nested = st.braced (symbol "{" 0) (st.more_statements token.none (st.single_block (st.braced (symbol "{" 2) st.no_statements token.none (symbol "}" 4))) st.no_statements)
    token.none (symbol "}" 6)

-- `{ /*a*/ ; /*b*/ }`: comments before a statement and before the last brace
with_comments : BlockOf 255 2 (record { notes = codes "/*a*/" ∷ []; at = 8; node = stmt.Empty } ∷ []) (codes "/*b*/" ∷ [])
    (sym "{" 0 ∷ note "/*a*/" 2 ∷ sym ";" 8 ∷ note "/*b*/" 10 ∷ sym "}" 16 ∷ [])
with_comments = st.braced (symbol "{" 0) (st.more_statements (token.comment (comment "/*a*/" 2) token.none) (st.single_plain (st.nothing (symbol ";" 8))) st.no_statements)
    (token.comment (comment "/*b*/" 10) token.none) (symbol "}" 16)

-- `{ super(1); }`, the block of a constructor
super_first : ConstructorBlock 255 3 (stmt_at 2 (stmt.SuperInit (num 8 "1" ∷ [])) ∷ []) []
    (sym "{" 0 ∷ key "super" 2 ∷ sym "(" 7 ∷ lit "1" 8 ∷ sym ")" 9 ∷ sym ";" 10 ∷ sym "}" 12 ∷ [])
super_first = st.super_first (symbol "{" 0) token.none
    (st.super_start (keyword "super" 2) (is.some_arguments (symbol "(" 7) (is.last_listed (is_num "1" 8)) (symbol ")" 9) (lit≤ tt)) (symbol ";" 10))
    st.no_statements token.none (symbol "}" 12)

-- `{ ; }`: the block of a constructor need not begin with `super(..)`
usual : ConstructorBlock 255 2 (stmt_at 2 stmt.Empty ∷ []) [] (sym "{" 0 ∷ sym ";" 2 ∷ sym "}" 4 ∷ [])
usual = st.usual (st.braced (symbol "{" 0) (st.more_statements token.none (st.single_plain (st.nothing (symbol ";" 2))) st.no_statements) token.none (symbol "}" 4))
