-- Statements other than `if` as phrases.
use Rattle.std.proofs.Common.{◌≡◌, ℕ, suc, max, ◌≤◌, Bool, true, List, [], ◌∷◌, ◌++◌, codes, length, map, option_map, Option, Some, None, refl, ap, ◌∙◌, append_assoc, arith}
use Rattle.std.specs.List.{list_all}
use Rattle.std.proofs.lemmas.Bool.{and_parts}
use Rattle.std.proofs.lemmas.List.{length-map}
use Rattle.mol_base.specs.Token.{Token}
use Rattle.mol_base.specs.declared.token_kind.TokenKind.TheVariants as kind
use Rattle.jav_tree.specs.declared.expr.Expr.{Expr}
use Rattle.jav_tree.specs.declared.stmt.Block.{Block}
use Rattle.jav_tree.specs.declared.stmt.ForStart.{ForStart}
use Rattle.jav_tree.specs.declared.stmt.Let.{Let}
use Rattle.jav_tree.specs.declared.stmt.StmtNode.{StmtNode}
use Rattle.jav_tree.specs.declared.stmt.StmtNode.TheVariants as node
use Rattle.jav_tree.specs.declared.types.TypeName.{TypeName}
use Rattle.jav_tree.specs.Blocks.{block_of}
use Rattle.jav_tree.specs.ExpressionText.{expr_text, tree_text}
use Rattle.jav_tree.specs.Height.{tallest}
use Rattle.jav_tree.specs.Lines.{listed}
use Rattle.jav_tree.specs.Places.{unplaced_expr, unplaced_let, unplaced_start, unplaced_stmt_node}
use Rattle.jav_tree.specs.Places as places
use Rattle.jav_tree.specs.PrintableStatements.{is_value}
use Rattle.jav_tree.specs.Statements.{MaybeFinal, MaybeExpression, Declaration, Start, Update, Single, SuperStart}
use Rattle.jav_tree.specs.Statements as grammar
use Rattle.jav_tree.specs.StatementText.{final_text, let_text, start_text, spaced_maybe, spaced_list}
use Rattle.jav_tree.specs.TokenTexts.{is_name}
use Rattle.jav_tree.specs.Tokens.{IsSymbol, IsKeyword}
use Rattle.jav_tree.specs.Types.{WholeType}
use Rattle.jav_tree.specs.TypeText.{type_text}
use Rattle.jav_tree.specs.Widths.{expr_width}
use Rattle.jav_tree.specs.WithParens.{expr_with_parens}
use Rattle.jav_tree.proofs.StatementFolds.{fold-node-Block, fold-node-Let, fold-node-Do, fold-node-While, fold-node-For, fold-node-Each, fold-node-Return, fold-node-Throw, fold-node-Break, fold-node-Continue, fold-node-Empty, fold-node-SuperInit}
use Rattle.jav_print_laws.proofs.layout_lemmas.BlockPhrases.{Unplacing, Blocked, Stated, Chosen, branch}
use Rattle.jav_print_laws.proofs.layout_lemmas.Bytes.{Closes, space_breaks, open_breaks, semi_breaks}
use Rattle.jav_print_laws.proofs.layout_lemmas.CallPhrases.{Args, arguments}
use Rattle.jav_print_laws.proofs.layout_lemmas.Derivations.{Made}
use Rattle.jav_print_laws.proofs.layout_lemmas.ExpressionPhrases.{judged}
use Rattle.jav_print_laws.proofs.layout_lemmas.Keywords.{while_word, for_word, return_word, throw_word, break_word, continue_word, super_word}
use Rattle.jav_print_laws.proofs.layout_lemmas.Lists.{ForEach}
use Rattle.jav_print_laws.proofs.layout_lemmas.Names.{name}
use Rattle.jav_print_laws.proofs.layout_lemmas.OperandPhrases.{Part, loose}
use Rattle.jav_print_laws.proofs.layout_lemmas.Phrases.{Phrase, Any, Breaks, Alone, alone, Then, both, OneOf, one_of, makes, then, next_to, space}
use Rattle.jav_print_laws.proofs.layout_lemmas.Signs.{left_paren, right_paren, semicolon, colon}
use Rattle.jav_print_laws.proofs.layout_lemmas.StatementParts.{Valued, Acting, plain_expr, plain_let, plain_start, after_final}

-- # Blocks, declarations and expressions

block_node : (limit : ℕ) (y : Block) (ts : List Token) → Blocked limit y ts → Stated limit (node.Block y) ts
block_node limit y ts d = record {
  height = suc d.height;
  tree = node.Block (block_of d.tree.0 d.tree.1);
  derived = grammar.single_block d.derived;
  same = fold-node-Block Unplacing places.stmt_node_step (block_of d.tree.0 d.tree.1) ∙ ap node.Block d.same;
}

pub block_stmt : (limit : ℕ) (y : Block) (t : List ℕ) → Phrase (Blocked limit y) Any t → Phrase (Stated limit (node.Block y)) Any t
block_stmt limit y t p = makes p refl (block_node limit y)

choice_node : (limit : ℕ) (n : StmtNode) (ts : List Token) → Chosen limit n ts → Stated limit n ts
choice_node limit n ts d = record { height = d.height; tree = d.tree; derived = grammar.single_choice d.derived.1; same = d.same }

pub choice_stmt : (limit : ℕ) (n : StmtNode) (t : List ℕ) → Phrase (Chosen limit n) Any t → Phrase (Stated limit n) Any t
choice_stmt limit n t p = makes p refl (choice_node limit n)

let_node : (limit : ℕ) (l : Let) (ts : List Token) → Then (Made unplaced_let (Declaration limit) (plain_let l)) (Alone (IsSymbol ";")) ts → Stated limit (node.Let (plain_let l)) ts
let_node limit l _ (both _ _ d (alone s semi)) = record {
  height = suc d.height;
  tree = node.Let d.tree;
  derived = grammar.single_declaration d.derived semi;
  same = fold-node-Let Unplacing places.stmt_node_step d.tree ∙ ap node.Let d.same;
}

pub let_stmt : (limit : ℕ) (l : Let) → Phrase (Made unplaced_let (Declaration limit) (plain_let l)) Closes (let_text l) → Phrase (Stated limit (node.Let (plain_let l))) Any (let_text l ++ codes ";")
let_stmt limit l p = makes (then p semicolon (λ n ok. refl)) refl (let_node limit l)

do_node : (limit : ℕ) (e : Expr) (ts : List Token) → Then (Made unplaced_expr (Acting limit) (plain_expr e)) (Alone (IsSymbol ";")) ts → Stated limit (node.Do (plain_expr e)) ts
do_node limit e _ (both _ _ d (alone s semi)) = record {
  height = suc d.height;
  tree = node.Do d.tree;
  derived = grammar.single_plain (grammar.expression d.derived.0 d.derived.1 semi);
  same = fold-node-Do Unplacing places.stmt_node_step d.tree ∙ ap node.Do d.same;
}

pub do_stmt : (limit : ℕ) (e : Expr) → Phrase (Made unplaced_expr (Acting limit) (plain_expr e)) Closes (expr_text e) → Phrase (Stated limit (node.Do (plain_expr e))) Any (expr_text e ++ codes ";")
do_stmt limit e p = makes (then p semicolon (λ n ok. refl)) refl (do_node limit e)

-- # Loops

while_node : (limit : ℕ) (e : Expr) (b : Block) (ts : List Token) → Then (Alone (IsKeyword "while")) (Then (Alone (IsSymbol "(")) (Then (Valued limit e) (Then (Alone (IsSymbol ")")) (Blocked limit b)))) ts → Stated limit (node.While (plain_expr e) b) ts
while_node limit e b _ (both _ _ (alone w word) (both _ _ (alone l left) (both _ _ d (both _ _ (alone r right) f)))) = record {
  height = suc (max d.height f.height);
  tree = node.While d.tree (block_of f.tree.0 f.tree.1);
  derived = grammar.single_plain (grammar.while word left d.derived right (branch f.tree.0 f.tree.1 f.derived));
  same = fold-node-While Unplacing places.stmt_node_step d.tree (block_of f.tree.0 f.tree.1) ∙ (let x = d.same in let y = f.same in cc);
}

regroup_while : (x y : List ℕ) → codes "(" ++ (x ++ (codes ")" ++ (32 ∷ y))) ≡ codes "(" ++ x ++ codes ") " ++ y
regroup_while x y = let e : codes "(" ++ (x ++ (codes ") " ++ y)) ≡ codes "(" ++ x ++ codes ") " ++ y = simp append_assoc refl in e

pub while_stmt : (limit : ℕ) (e : Expr) (b : Block) (t : List ℕ) → Phrase (Valued limit e) Closes (expr_text e) → Phrase (Blocked limit b) Any t
    → Phrase (Stated limit (node.While (plain_expr e) b)) Any (codes "while (" ++ expr_text e ++ codes ") " ++ t)
while_stmt limit e b t p q = makes (then while_word (space (next_to left_paren (then p (next_to right_paren (space q)) (λ n ok. refl)))) (λ n ok. space_breaks))
    (ap (λ x. codes "while" ++ (32 ∷ x)) (regroup_while (expr_text e) t)) (while_node limit e b)

abbrev AllUpdated : ℕ → List Expr → List Token → Type 0
AllUpdated limit ys = Made (map unplaced_expr) (Update limit) ys

abbrev MaybeValued : ℕ → Option Expr → List Token → Type 0
MaybeValued limit y = Made (option_map unplaced_expr) (MaybeExpression limit) y

for_node : (limit : ℕ) (s : ForStart) (test : Option Expr) (steps : List Expr) (b : Block) (ts : List Token)
    → Then (Alone (IsKeyword "for")) (Then (Alone (IsSymbol "(")) (Then (Made unplaced_start (Start limit) (plain_start s)) (Then (Alone (IsSymbol ";")) (Then (MaybeValued limit test) (Then (Alone (IsSymbol ";")) (Then (AllUpdated limit steps) (Then (Alone (IsSymbol ")")) (Blocked limit b)))))))) ts
    → Stated limit (node.For (plain_start s) test steps b) ts
for_node limit s test steps b _ (both _ _ (alone w word) (both _ _ (alone l left) (both _ _ d (both _ _ (alone s1 semi) (both _ _ e (both _ _ (alone s2 next) (both _ _ u (both _ _ (alone r right) f)))))))) = record {
  height = suc (max d.height (max e.height (max u.height f.height)));
  tree = node.For d.tree e.tree u.tree (block_of f.tree.0 f.tree.1);
  derived = grammar.single_plain (grammar.for word left d.derived semi e.derived next u.derived right (branch f.tree.0 f.tree.1 f.derived));
  same = fold-node-For Unplacing places.stmt_node_step d.tree e.tree u.tree (block_of f.tree.0 f.tree.1) ∙ (let x = d.same in let y = e.same in let z = u.same in let q = f.same in cc);
}

regroup_for : (x y z t : List ℕ) → codes "(" ++ (x ++ (codes ";" ++ (y ++ (codes ";" ++ (z ++ (codes ")" ++ (32 ∷ t))))))) ≡ codes "(" ++ x ++ codes ";" ++ y ++ codes ";" ++ z ++ codes ") " ++ t
regroup_for x y z t = let e : codes "(" ++ (x ++ (codes ";" ++ (y ++ (codes ";" ++ (z ++ (codes ") " ++ t)))))) ≡ codes "(" ++ x ++ codes ";" ++ y ++ codes ";" ++ z ++ codes ") " ++ t = simp append_assoc refl in e

pub for_stmt : (limit : ℕ) (s : ForStart) (test : Option Expr) (steps : List Expr) (b : Block) (t : List ℕ) → Phrase (Made unplaced_start (Start limit) (plain_start s)) Closes (start_text s)
    → Phrase (MaybeValued limit (option_map plain_expr test)) Closes (spaced_maybe test) → Phrase (AllUpdated limit (map plain_expr steps)) Closes (spaced_list steps) → Phrase (Blocked limit b) Any t
    → Phrase (Stated limit (node.For (plain_start s) (option_map plain_expr test) (map plain_expr steps) b)) Any (codes "for (" ++ start_text s ++ codes ";" ++ spaced_maybe test ++ codes ";" ++ spaced_list steps ++ codes ") " ++ t)
for_stmt limit s test steps b t p q r f =
    makes (then for_word (space (next_to left_paren (then p (next_to semicolon (then q (next_to semicolon (then r (next_to right_paren (space f)) (λ n ok. refl))) (λ n ok. refl))) (λ n ok. refl)))) (λ n ok. space_breaks))
    (ap (λ x. codes "for" ++ (32 ∷ x)) (regroup_for (start_text s) (spaced_maybe test) (spaced_list steps) t)) (for_node limit s (option_map plain_expr test) (map plain_expr steps) b)

each_node : (limit : ℕ) (is_final : Bool) (to : TypeName) (text : List ℕ) (e : Expr) (b : Block) (ts : List Token)
    → Then (Alone (IsKeyword "for")) (Then (Alone (IsSymbol "(")) (Then (MaybeFinal is_final) (Then (WholeType limit to) (Then (OneOf kind.Word text) (Then (Alone (IsSymbol ":")) (Then (Valued limit e) (Then (Alone (IsSymbol ")")) (Blocked limit b)))))))) ts
    → Stated limit (node.Each is_final to text (plain_expr e) b) ts
each_node limit is_final to _ e b _ (both _ _ (alone w word) (both _ _ (alone l left) (both _ _ fin (both _ _ t (both _ _ (one_of n is_word) (both _ _ (alone c sign) (both _ _ d (both _ _ (alone r right) f)))))))) = record {
  height = suc (max d.height f.height);
  tree = node.Each is_final to n.text d.tree (block_of f.tree.0 f.tree.1);
  derived = grammar.single_plain (grammar.each word left fin t (record { word = is_word }) sign d.derived right (branch f.tree.0 f.tree.1 f.derived));
  same = fold-node-Each Unplacing places.stmt_node_step is_final to n.text d.tree (block_of f.tree.0 f.tree.1) ∙ (let x = d.same in let y = f.same in cc);
}

regroup_each : (f x y z t : List ℕ) → codes "(" ++ (f ++ (x ++ (32 ∷ (y ++ (32 ∷ (codes ":" ++ (32 ∷ (z ++ (codes ")" ++ (32 ∷ t)))))))))) ≡ codes "(" ++ f ++ x ++ codes " " ++ y ++ codes " : " ++ z ++ codes ") " ++ t
regroup_each f x y z t = let e : codes "(" ++ (f ++ (x ++ (codes " " ++ (y ++ (codes " : " ++ (z ++ (codes ") " ++ t))))))) ≡ codes "(" ++ f ++ x ++ codes " " ++ y ++ codes " : " ++ z ++ codes ") " ++ t = simp append_assoc refl in e

pub each_stmt : (limit : ℕ) (is_final : Bool) (to : TypeName) (text : List ℕ) (e : Expr) (b : Block) (t : List ℕ) → Phrase (WholeType limit to) Breaks (type_text to) → is_name text ≡ true
    → Phrase (Valued limit e) Closes (expr_text e) → Phrase (Blocked limit b) Any t
    → Phrase (Stated limit (node.Each is_final to text (plain_expr e) b)) Any (codes "for (" ++ final_text is_final ++ type_text to ++ codes " " ++ text ++ codes " : " ++ expr_text e ++ codes ") " ++ t)
each_stmt limit is_final to text e b t type known p f =
    makes (then for_word (space (next_to left_paren (after_final is_final (then type (space (then (name text known) (space (then colon (space (then p (next_to right_paren (space f)) (λ n ok. refl))) (λ n ok. refl))) (λ n ok. space_breaks))) (λ n ok. space_breaks))))) (λ n ok. space_breaks))
    (ap (λ x. codes "for" ++ (32 ∷ x)) (regroup_each (final_text is_final) (type_text to) text (expr_text e) t)) (each_node limit is_final to text e b)

-- # Jumps, and `;`

return_node : (limit : ℕ) (y : Option Expr) (ts : List Token) → Then (Alone (IsKeyword "return")) (Then (MaybeValued limit y) (Alone (IsSymbol ";"))) ts → Stated limit (node.Return y) ts
return_node limit y _ (both _ _ (alone w word) (both _ _ d (alone s semi))) = record {
  height = suc d.height;
  tree = node.Return d.tree;
  derived = grammar.single_plain (grammar.return word d.derived semi);
  same = fold-node-Return Unplacing places.stmt_node_step d.tree ∙ ap node.Return d.same;
}

regroup_return : (x : List ℕ) → codes "return" ++ (x ++ codes ";") ≡ codes "return" ++ x ++ codes ";"
regroup_return x = refl

pub return_nothing : (limit : ℕ) → Phrase (MaybeValued limit None) Closes [] → Phrase (Stated limit (node.Return None)) Any (codes "return;")
return_nothing limit p = makes (then return_word semicolon (λ n ok. semi_breaks)) refl (empty_return limit) where
  empty_return : (limit : ℕ) (ts : List Token) → Then (Alone (IsKeyword "return")) (Alone (IsSymbol ";")) ts → Stated limit (node.Return None) ts
  empty_return limit _ (both _ _ (alone w word) (alone s semi)) = record {
    height = 1;
    tree = node.Return None;
    derived = grammar.single_plain (grammar.return word grammar.no semi);
    same = fold-node-Return Unplacing places.stmt_node_step None;
  }

pub return_value : (limit : ℕ) (e : Expr) → Phrase (MaybeValued limit (Some (plain_expr e))) Closes (spaced_maybe (Some e)) → ((p : Phrase (Valued limit e) Closes (expr_text e)) → Phrase (Stated limit (node.Return (Some (plain_expr e)))) Any (codes "return" ++ spaced_maybe (Some e) ++ codes ";"))
return_value limit e q p = makes (then return_word (space (then p semicolon (λ n ok. refl))) (λ n ok. space_breaks)) refl (valued_return limit e) where
  valued_return : (limit : ℕ) (e : Expr) (ts : List Token) → Then (Alone (IsKeyword "return")) (Then (Valued limit e) (Alone (IsSymbol ";"))) ts → Stated limit (node.Return (Some (plain_expr e))) ts
  valued_return limit e _ (both _ _ (alone w word) (both _ _ d (alone s semi))) = record {
    height = suc d.height;
    tree = node.Return (Some d.tree);
    derived = grammar.single_plain (grammar.return word (grammar.yes d.derived) semi);
    same = fold-node-Return Unplacing places.stmt_node_step (Some d.tree) ∙ ap (λ x. node.Return (Some x)) d.same;
  }

throw_node : (limit : ℕ) (e : Expr) (ts : List Token) → Then (Alone (IsKeyword "throw")) (Then (Valued limit e) (Alone (IsSymbol ";"))) ts → Stated limit (node.Throw (plain_expr e)) ts
throw_node limit e _ (both _ _ (alone w word) (both _ _ d (alone s semi))) = record {
  height = suc d.height;
  tree = node.Throw d.tree;
  derived = grammar.single_plain (grammar.throw word d.derived semi);
  same = fold-node-Throw Unplacing places.stmt_node_step d.tree ∙ ap node.Throw d.same;
}

pub throw_stmt : (limit : ℕ) (e : Expr) → Phrase (Valued limit e) Closes (expr_text e) → Phrase (Stated limit (node.Throw (plain_expr e))) Any (codes "throw " ++ expr_text e ++ codes ";")
throw_stmt limit e p = makes (then throw_word (space (then p semicolon (λ n ok. refl))) (λ n ok. space_breaks)) refl (throw_node limit e)

break_node : (limit : ℕ) (ts : List Token) → Then (Alone (IsKeyword "break")) (Alone (IsSymbol ";")) ts → Stated limit node.Break ts
break_node limit _ (both _ _ (alone w word) (alone s semi)) = record { height = 1; tree = node.Break; derived = grammar.single_plain (grammar.break word semi); same = fold-node-Break Unplacing places.stmt_node_step }

pub break_stmt : (limit : ℕ) → Phrase (Stated limit node.Break) Any (codes "break;")
break_stmt limit = makes (then break_word semicolon (λ n ok. semi_breaks)) refl (break_node limit)

continue_node : (limit : ℕ) (ts : List Token) → Then (Alone (IsKeyword "continue")) (Alone (IsSymbol ";")) ts → Stated limit node.Continue ts
continue_node limit _ (both _ _ (alone w word) (alone s semi)) = record { height = 1; tree = node.Continue; derived = grammar.single_plain (grammar.continue word semi); same = fold-node-Continue Unplacing places.stmt_node_step }

pub continue_stmt : (limit : ℕ) → Phrase (Stated limit node.Continue) Any (codes "continue;")
continue_stmt limit = makes (then continue_word semicolon (λ n ok. semi_breaks)) refl (continue_node limit)

empty_node : (limit : ℕ) (ts : List Token) → Alone (IsSymbol ";") ts → Stated limit node.Empty ts
empty_node limit _ (alone s semi) = record { height = 1; tree = node.Empty; derived = grammar.single_plain (grammar.nothing semi); same = fold-node-Empty Unplacing places.stmt_node_step }

pub empty_stmt : (limit : ℕ) → Phrase (Stated limit node.Empty) Any (codes ";")
empty_stmt limit = makes semicolon refl (empty_node limit)

-- # `super(..);`

parts_of : (limit : ℕ) (es : List Expr) → tallest (map expr_width es) ≤ limit → list_all is_value es ≡ true → ForEach (Part limit 1 Closes) (map expr_with_parens es)
parts_of limit [] few all = tt
parts_of limit (e ∷ es) few all = let p = and_parts (is_value e) _ all in (loose ((judged limit e (omega arith)).value p.0), parts_of limit es (omega arith) p.1)

pub together_exprs : (xs : List Expr) → map unplaced_expr (map expr_with_parens xs) ≡ map plain_expr xs
together_exprs [] = refl
together_exprs (x ∷ xs) = ap (λ ys. plain_expr x ∷ ys) (together_exprs xs)

texts_of : (xs : List Expr) → map tree_text (map expr_with_parens xs) ≡ map expr_text xs
texts_of [] = refl
texts_of (x ∷ xs) = ap (λ ys. expr_text x ∷ ys) (texts_of xs)

super_node : (limit : ℕ) (es : List Expr) (ts : List Token) → Then (Alone (IsKeyword "super")) (Then (Args limit es) (Alone (IsSymbol ";"))) ts → Made unplaced_stmt_node (SuperStart limit) (node.SuperInit (map unplaced_expr es)) ts
super_node limit es _ (both _ _ (alone w word) (both _ _ d (alone s semi))) = record {
  height = suc d.height;
  tree = node.SuperInit d.tree;
  derived = grammar.super_start word d.derived semi;
  same = fold-node-SuperInit Unplacing places.stmt_node_step d.tree ∙ ap node.SuperInit d.same;
}

regroup_super : (x : List ℕ) → codes "super" ++ ((codes "(" ++ x ++ codes ")") ++ codes ";") ≡ codes "super(" ++ x ++ codes ");"
regroup_super x = let e : codes "super(" ++ ((x ++ codes ")") ++ codes ";") ≡ codes "super(" ++ x ++ codes ");" = simp append_assoc refl in e

pub super_init : (limit : ℕ) (es : List Expr) → length es ≤ limit → tallest (map expr_width es) ≤ limit → list_all is_value es ≡ true
    → Phrase (Made unplaced_stmt_node (SuperStart limit) (node.SuperInit (map plain_expr es))) Any (codes "super(" ++ listed (map expr_text es) ++ codes ");")
super_init limit es few narrow_all all =
    let xs = map expr_with_parens es in
    let n = length-map es expr_with_parens in
    let p = makes (then super_word (next_to (arguments limit xs (omega arith) (parts_of limit es narrow_all all)) semicolon) (λ n ok. open_breaks)) (regroup_super (listed (map tree_text xs))) (super_node limit xs) in
    rw (together_exprs es, texts_of es) at p
