-- Blocks, branches and `if` as phrases.
use Rattle.std.proofs.Common.{◌≡◌, ℕ, suc, max, Bool, true, false, List, [], ◌∷◌, ◌++◌, codes, map, refl, sym, ap, ◌∙◌, append_assoc, append-nil}
use Rattle.mol_base.specs.Token.{Token}
use Rattle.jav_tree.specs.declared.expr.Expr.{Expr}
use Rattle.jav_tree.specs.declared.stmt.Block.{Block}
use Rattle.jav_tree.specs.declared.stmt.Else.{Else}
use Rattle.jav_tree.specs.declared.stmt.Else.TheVariants as otherwise
use Rattle.jav_tree.specs.declared.stmt.Stmt.{Stmt}
use Rattle.jav_tree.specs.declared.stmt.StmtNode.{StmtNode}
use Rattle.jav_tree.specs.declared.stmt.StmtNode.TheVariants as node
use Rattle.jav_tree.specs.Blocks.{block_of}
use Rattle.jav_tree.specs.Expressions.{Expression}
use Rattle.jav_tree.specs.ExpressionText.{expr_text}
use Rattle.jav_tree.specs.Lines.{line_end, indent, comment_lines}
use Rattle.jav_tree.specs.Places.{unplaced_expr, unplaced_block, unplaced_else, unplaced_stmt, unplaced_stmt_node}
use Rattle.jav_tree.specs.Places as places
use Rattle.jav_tree.specs.Statements.{BlockOf, Branch, Enclosed, Choice, Otherwise, Single, SuperStart, Statements, ConstructorBlock, commented, fronted, tailed, stmt_at}
use Rattle.jav_tree.specs.Statements as grammar
use Rattle.jav_tree.specs.TokenTexts.{are_comments}
use Rattle.jav_tree.specs.Tokens.{IsSymbol, IsKeyword, Comments, start_of}
use Rattle.jav_tree.specs.Tokens as tokens
use Rattle.jav_tree.specs.WithParens.{expr_with_parens}
use Rattle.jav_tree.proofs.ChangedStatements.{changed}
use Rattle.jav_tree.proofs.StatementFolds.{StmtFold, NodeStep, folded_else, folded_node, folded_block, folded_stmt, fold-node-If, fold-no-else, fold-else-block, fold-else-if, fold-block, fold-stmt}
use Rattle.jav_print_laws.proofs.layout_lemmas.Bytes.{Closes, space_breaks}
use Rattle.jav_print_laws.proofs.layout_lemmas.Derivations.{Made}
use Rattle.jav_print_laws.proofs.layout_lemmas.Keywords.{if_word, else_word}
use Rattle.jav_print_laws.proofs.layout_lemmas.LinePhrases.{indented, comments}
use Rattle.jav_print_laws.proofs.layout_lemmas.Phrases.{Phrase, Any, Nothing, nothing, Alone, alone, Then, both, empty, makes, then, next_to, space, line}
use Rattle.jav_print_laws.proofs.layout_lemmas.Signs.{left_paren, right_paren, left_brace, right_brace}
use Rattle.jav_print_laws.proofs.layout_lemmas.StatementParts.{Valued, plain_expr}

-- # Statements as printed, without places

abbrev pub Unplacing : StmtFold
Unplacing = record { Other = Else; Node = StmtNode; Whole = Block; Line = Stmt; of_else = places.else_step; of_block = places.block_step; of_stmt = places.stmt_step }

abbrev pub plain_step : NodeStep Unplacing
plain_step y = places.stmt_node_step (changed expr_with_parens y)

abbrev pub plain_else : Else → Else
plain_else = folded_else Unplacing plain_step

abbrev pub plain_node : StmtNode → StmtNode
plain_node = folded_node Unplacing plain_step

abbrev pub plain_block : Block → Block
plain_block = folded_block Unplacing plain_step

abbrev pub plain_stmt : Stmt → Stmt
plain_stmt = folded_stmt Unplacing plain_step

pub unplaced_block_of : (items : List Stmt) (tail : List (List ℕ)) → unplaced_block (block_of items tail) ≡ block_of (map unplaced_stmt items) tail
unplaced_block_of items tail = fold-block Unplacing places.stmt_node_step items tail

pub unplaced_commented : (notes : List (List ℕ)) (at : ℕ) (n : StmtNode) → unplaced_stmt (commented notes at n) ≡ commented notes 0 (unplaced_stmt_node n)
unplaced_commented notes at n = fold-stmt Unplacing places.stmt_node_step notes at n

-- # Blocks

abbrev pub Body : Type 0
Body = List Stmt × List (List ℕ)

abbrev pub plain_body : Body → Block
plain_body x = unplaced_block (block_of x.0 x.1)

abbrev pub Blocked : ℕ → Block → List Token → Type 0
Blocked limit = Made plain_body (λ h x ts. BlockOf limit h x.0 x.1 ts)

abbrev pub Bodied : ℕ → Block → List Token → Type 0
Bodied limit = Made plain_body (λ h x ts. ConstructorBlock limit h x.0 x.1 ts)

abbrev pub Stated : ℕ → StmtNode → List Token → Type 0
Stated limit = Made unplaced_stmt_node (Single limit)

abbrev pub AllStated : ℕ → List Stmt → List Token → Type 0
AllStated limit = Made (map unplaced_stmt) (Statements limit)

-- a statement behind its comments
abbrev pub Noted : ℕ → List (List ℕ) → StmtNode → List Token → Type 0
Noted limit notes n = Then (Comments notes) (Stated limit n)

no_items : (limit : ℕ) (ts : List Token) → Nothing ts → AllStated limit [] ts
no_items limit _ nothing = record { height = 0; tree = []; derived = grammar.no_statements; same = refl }

pub no_items_phrase : (limit : ℕ) → Phrase (AllStated limit []) Any []
no_items_phrase limit = makes empty refl (no_items limit)

more_items : (limit : ℕ) (notes : List (List ℕ)) (n : StmtNode) (ys : List Stmt) (ts : List Token) → Then (Noted limit notes n) (AllStated limit ys) ts → AllStated limit (commented notes 0 n ∷ ys) ts
more_items limit notes n ys _ (both _ vs (both ts us c d) rest) =
    rw (append_assoc ts us vs) (record {
      height = max d.height rest.height;
      tree = commented notes (start_of us) d.tree ∷ rest.tree;
      derived = grammar.more_statements c d.derived rest.derived;
      same = (let a : unplaced_stmt (commented notes (start_of us) d.tree) ≡ commented notes 0 n = unplaced_commented notes (start_of us) d.tree ∙ ap (commented notes 0) d.same in let b = rest.same in cc);
    })

pub more_items_phrase : (limit : ℕ) (notes : List (List ℕ)) (n : StmtNode) (ys : List Stmt) (t s : List ℕ) → Phrase (Noted limit notes n) Any t → Phrase (AllStated limit ys) Any s
    → Phrase (AllStated limit (commented notes 0 n ∷ ys)) Any (t ++ line_end ++ s)
more_items_phrase limit notes n ys t s p q = makes (next_to p (line q)) (sym (append_assoc t line_end s)) (more_items limit notes n ys)

blocked : (limit : ℕ) (ys : List Stmt) (tail : List (List ℕ)) (ts : List Token) → Then (Alone (IsSymbol "{")) (Then (AllStated limit ys) (Then (Comments tail) (Alone (IsSymbol "}")))) ts → Blocked limit (block_of ys tail) ts
blocked limit ys tail _ (both _ _ (alone l left) (both _ _ d (both _ _ c (alone r right)))) = record {
  height = suc d.height;
  tree = (d.tree, tail);
  derived = grammar.braced left d.derived c right;
  same = unplaced_block_of d.tree tail ∙ ap (λ xs. block_of xs tail) d.same;
}

abbrev pub braced_text : ℕ → List ℕ → List (List ℕ) → List ℕ
braced_text n items tail = codes "{" ++ line_end ++ items ++ comment_lines (suc n) tail ++ indent n ++ codes "}"

pub regroup_braces : (x y z : List ℕ) → codes "{" ++ (10 ∷ (x ++ (y ++ (z ++ codes "}")))) ≡ codes "{" ++ line_end ++ x ++ y ++ z ++ codes "}"
regroup_braces x y z = let e : codes "{" ++ line_end ++ (x ++ (y ++ (z ++ codes "}"))) ≡ codes "{" ++ line_end ++ x ++ y ++ z ++ codes "}" = simp append_assoc refl in e

pub block_phrase : (limit n : ℕ) (ys : List Stmt) (tail : List (List ℕ)) (t : List ℕ) → Phrase (AllStated limit ys) Any t → are_comments tail ≡ true → Phrase (Blocked limit (block_of ys tail)) Any (braced_text n t tail)
block_phrase limit n ys tail t p all =
    makes (next_to left_brace (line (next_to p (next_to (comments (suc n) tail all) (indented n right_brace))))) (regroup_braces t (comment_lines (suc n) tail) (indent n)) (blocked limit ys tail)

-- the block of a constructor
pub usual_body : (limit : ℕ) (y : Block) (ts : List Token) → Blocked limit y ts → Bodied limit y ts
usual_body limit y ts d = record { height = d.height; tree = d.tree; derived = grammar.usual d.derived; same = d.same }

super_body : (limit : ℕ) (notes : List (List ℕ)) (n : StmtNode) (ys : List Stmt) (tail : List (List ℕ)) (ts : List Token)
    → Then (Alone (IsSymbol "{")) (Then (Then (Comments notes) (Made unplaced_stmt_node (SuperStart limit) n)) (Then (AllStated limit ys) (Then (Comments tail) (Alone (IsSymbol "}"))))) ts
    → Bodied limit (block_of (commented notes 0 n ∷ ys) tail) ts
super_body limit notes n ys tail _ (both _ _ (alone l left) (both _ vs (both ts us c d) (both xs ws rest (both zs _ e (alone r right))))) =
    rw (append_assoc ts us (xs ++ (zs ++ r ∷ []))) (record {
      height = suc (max d.height rest.height);
      tree = (commented notes (start_of us) d.tree ∷ rest.tree, tail);
      derived = grammar.super_first left c d.derived rest.derived e right;
      same = unplaced_block_of (commented notes (start_of us) d.tree ∷ rest.tree) tail
          ∙ ap (λ xs. block_of xs tail) (let a : unplaced_stmt (commented notes (start_of us) d.tree) ≡ commented notes 0 n = unplaced_commented notes (start_of us) d.tree ∙ ap (commented notes 0) d.same in let b = rest.same in cc);
    })

pub super_phrase : (limit n : ℕ) (notes : List (List ℕ)) (y : StmtNode) (ys : List Stmt) (tail : List (List ℕ)) (t s : List ℕ) → Phrase (Then (Comments notes) (Made unplaced_stmt_node (SuperStart limit) y)) Any t
    → Phrase (AllStated limit ys) Any s → are_comments tail ≡ true → Phrase (Bodied limit (block_of (commented notes 0 y ∷ ys) tail)) Any (braced_text n (t ++ line_end ++ s) tail)
super_phrase limit n notes y ys tail t s p q all =
    let e : t ++ (10 ∷ (s ++ (comment_lines (suc n) tail ++ (indent n ++ codes "}")))) ≡ t ++ line_end ++ s ++ (comment_lines (suc n) tail ++ (indent n ++ codes "}")) = regroup_line t s _ in
    makes (next_to left_brace (line (next_to p (line (next_to q (next_to (comments (suc n) tail all) (indented n right_brace)))))))
    (ap (λ x. codes "{" ++ (10 ∷ x)) e ∙ regroup_braces (t ++ line_end ++ s) (comment_lines (suc n) tail) (indent n)) (super_body limit notes y ys tail)
  where
    regroup_line : (x y z : List ℕ) → x ++ (10 ∷ (y ++ z)) ≡ x ++ line_end ++ y ++ z
    regroup_line x y z = let e : x ++ (line_end ++ (y ++ z)) ≡ x ++ line_end ++ y ++ z = simp append_assoc refl in e

-- # Branches

pub fronted-none : (items : List Stmt) → fronted [] items ≡ items
fronted-none [] = refl
fronted-none (s ∷ rest) = refl

pub tailed-none : (items : List Stmt) (tail : List (List ℕ)) → tailed [] items tail ≡ tail
tailed-none [] tail = refl
tailed-none (s ∷ rest) tail = refl

pub enclosed : {limit h : ℕ} (items : List Stmt) (tail : List (List ℕ)) {ts : List Token} → BlockOf limit h items tail ts → Enclosed limit h false items tail ts
enclosed items tail b = rw (fronted-none items, tailed-none items tail) at (grammar.enclosed_block tokens.none b)

pub branch : {limit h : ℕ} (items : List Stmt) (tail : List (List ℕ)) {ts : List Token} → BlockOf limit h items tail ts → Branch limit h false items tail ts
branch items tail b = grammar.enclosed_branch (enclosed items tail b)

abbrev pub Chosen : ℕ → StmtNode → List Token → Type 0
Chosen limit = Made unplaced_stmt_node (λ h n ts. (is_open : Bool) × Choice limit h is_open n ts)

-- an `if` with what follows its branch
pub record Completed (limit : ℕ) (e : Expr) (b : Block) (y : Else) (ts : List Token) : Type 0 where
  pub height : ℕ
  pub is_open : Bool
  pub alternative : Else
  pub derived : Choice limit height is_open (node.If e b alternative) ts
  pub same : unplaced_else alternative ≡ y

abbrev pub AfterBranch : ℕ → Else → List Token → Type 0
AfterBranch limit y vs = (h k : ℕ) (word left right : Token) (e : Expr) (items : List Stmt) (tail : List (List ℕ)) (ts us : List Token) → IsKeyword "if" word → IsSymbol "(" left
    → Expression limit 1 h e ts → IsSymbol ")" right → BlockOf limit k items tail us → Completed limit e (block_of items tail) y (word ∷ left ∷ (ts ++ right ∷ (us ++ vs)))

no_else : (limit : ℕ) (ts : List Token) → Nothing ts → AfterBranch limit otherwise.None ts
no_else limit _ nothing h k word left right e items tail ts us w l p r b = rw (append-nil us) (record {
  height = suc (max h k);
  is_open = true;
  alternative = otherwise.None;
  derived = grammar.short w l p r (branch items tail b);
  same = fold-no-else Unplacing places.stmt_node_step;
})

long : {limit h k j : ℕ} {is_open : Bool} {word left right second : Token} {e : Expr} (items : List Stmt) (tail : List (List ℕ)) {alternative : Else} {ts us ws : List Token}
    → IsKeyword "if" word → IsSymbol "(" left → Expression limit 1 h e ts → IsSymbol ")" right → BlockOf limit k items tail us → IsKeyword "else" second → Otherwise limit j is_open alternative ws
    → Choice limit (suc (max h (max k j))) is_open (node.If e (block_of items tail) alternative) (word ∷ left ∷ (ts ++ right ∷ (us ++ second ∷ ws)))
long items tail w l p r b s o = rw (append-nil tail) at (grammar.long w l p r (branch items tail b) tokens.none s o)

block_else : (limit : ℕ) (y : Block) (vs : List Token) → Then (Alone (IsKeyword "else")) (Blocked limit y) vs → AfterBranch limit (otherwise.Block y) vs
block_else limit y _ (both _ _ (alone s second) d) h k word left right e items tail ts us w l p r b = record {
  height = suc (max h (max k d.height));
  is_open = false;
  alternative = otherwise.Block (block_of d.tree.0 d.tree.1);
  derived = long items tail w l p r b second (grammar.else_enclosed (enclosed d.tree.0 d.tree.1 d.derived));
  same = fold-else-block Unplacing places.stmt_node_step (block_of d.tree.0 d.tree.1) ∙ ap otherwise.Block d.same;
}

if_else : (limit : ℕ) (n : StmtNode) (vs : List Token) → Then (Alone (IsKeyword "else")) (Chosen limit n) vs → AfterBranch limit (otherwise.If (commented [] 0 n)) vs
if_else limit n _ (both _ xs (alone s second) d) h k word left right e items tail ts us w l p r b = record {
  height = suc (max h (max k d.height));
  is_open = d.derived.0;
  alternative = otherwise.If (stmt_at (start_of xs) d.tree);
  derived = long items tail w l p r b second (grammar.else_if d.derived.1);
  same = fold-else-if Unplacing places.stmt_node_step (stmt_at (start_of xs) d.tree) ∙ ap otherwise.If (unplaced_commented [] (start_of xs) d.tree ∙ ap (commented [] 0) d.same);
}

pub no_else_phrase : (limit : ℕ) → Phrase (AfterBranch limit otherwise.None) Any []
no_else_phrase limit = makes empty refl (no_else limit)

pub block_else_phrase : (limit : ℕ) (y : Block) (t : List ℕ) → Phrase (Blocked limit y) Any t → Phrase (AfterBranch limit (otherwise.Block y)) Any (codes " else " ++ t)
block_else_phrase limit y t p = makes (space (then else_word (space p) (λ n ok. space_breaks))) refl (block_else limit y)

pub if_else_phrase : (limit : ℕ) (n : StmtNode) (t : List ℕ) → Phrase (Chosen limit n) Any t → Phrase (AfterBranch limit (otherwise.If (commented [] 0 n))) Any (codes " else " ++ t)
if_else_phrase limit n t p = makes (space (then else_word (space p) (λ n ok. space_breaks))) refl (if_else limit n)

if_node : (limit : ℕ) (e : Expr) (b : Block) (alternative : Else) (ts : List Token) → Then (Alone (IsKeyword "if")) (Then (Alone (IsSymbol "(")) (Then (Valued limit e) (Then (Alone (IsSymbol ")")) (Then (Blocked limit b) (AfterBranch limit alternative))))) ts
    → Chosen limit (node.If (plain_expr e) b alternative) ts
if_node limit e b alternative _ (both _ _ (alone w word) (both _ _ (alone l left) (both ts _ d (both _ _ (alone r right) (both us _ f make))))) =
    let made = make d.height f.height w l r d.tree f.tree.0 f.tree.1 ts us word left d.derived right f.derived in
    record {
      height = made.height;
      tree = node.If d.tree (block_of f.tree.0 f.tree.1) made.alternative;
      derived = (made.is_open, made.derived);
      same = fold-node-If Unplacing places.stmt_node_step d.tree (block_of f.tree.0 f.tree.1) made.alternative ∙ (let x = d.same in let y = f.same in let z = made.same in cc);
    }

pub regroup_header : (x y z : List ℕ) → codes "(" ++ (x ++ (codes ")" ++ (32 ∷ (y ++ z)))) ≡ codes "(" ++ x ++ codes ") " ++ y ++ z
regroup_header x y z = let e : codes "(" ++ (x ++ (codes ") " ++ (y ++ z))) ≡ codes "(" ++ x ++ codes ") " ++ y ++ z = simp append_assoc refl in e

pub if_phrase : (limit : ℕ) (e : Expr) (b : Block) (alternative : Else) (t s : List ℕ) → Phrase (Valued limit e) Closes (expr_text e) → Phrase (Blocked limit b) Any t → Phrase (AfterBranch limit alternative) Any s
    → Phrase (Chosen limit (node.If (plain_expr e) b alternative)) Any (codes "if (" ++ expr_text e ++ codes ") " ++ t ++ s)
if_phrase limit e b alternative t s p q r =
    makes (then if_word (space (next_to left_paren (then p (next_to right_paren (space (next_to q r))) (λ n ok. refl)))) (λ n ok. space_breaks))
    (ap (λ x. codes "if" ++ (32 ∷ x)) (regroup_header (expr_text e) t s)) (if_node limit e b alternative)
