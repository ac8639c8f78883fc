-- Creations of arrays, and items in braces, as phrases.
use Rattle.std.proofs.Common.{◌≡◌, ℕ, zero, suc, ◌+◌, max, ◌≤◌, true, List, [], ◌∷◌, ◌++◌, codes, length, map, refl, sym, ap, ◌∙◌, append_assoc, append-nil, arith}
use Rattle.mol_base.specs.Token.{Token}
use Rattle.jav_tree.specs.declared.expr.Expr.{Expr}
use Rattle.jav_tree.specs.declared.expr.ExprNode.{ExprNode}
use Rattle.jav_tree.specs.declared.expr.ExprNode.TheVariants as node
use Rattle.jav_tree.specs.declared.types.TypeName.{TypeName}
use Rattle.jav_tree.specs.Expressions.{Expression, ArrayCreation, Sizes, Init, Items, Inits, expr_at}
use Rattle.jav_tree.specs.Expressions as is
use Rattle.jav_tree.specs.ExpressionText.{tree_text, in_braces, sizes_text, brackets_text}
use Rattle.jav_tree.specs.Lines.{listed}
use Rattle.jav_tree.specs.Places.{unplaced_expr}
use Rattle.jav_tree.specs.PrintableExpressions.{value_where}
use Rattle.jav_tree.specs.Tokens.{IsSymbol, IsKeyword, start_of}
use Rattle.jav_tree.specs.Types.{BaseType, Brackets, array_of}
use Rattle.jav_tree.specs.Types as types
use Rattle.jav_tree.specs.TypeText.{type_text}
use Rattle.jav_tree.specs.WithParens.{of_level}
use Rattle.jav_tree.proofs.ExpressionTexts.{text-placed, text-NewArray, text-ArrayLit, text-Braces}
use Rattle.jav_tree.proofs.Parts.{same-NewArray, same-ArrayLit, same-Braces}
use Rattle.jav_print_laws.proofs.layout_lemmas.Bytes.{Closes, space_breaks, bracket_breaks}
use Rattle.jav_print_laws.proofs.layout_lemmas.CallPhrases.{same_length}
use Rattle.jav_print_laws.proofs.layout_lemmas.Derivations.{Derives, Derived, same_at, creation_unsigned}
use Rattle.jav_print_laws.proofs.layout_lemmas.Keywords.{new_word}
use Rattle.jav_print_laws.proofs.layout_lemmas.Lists.{ForEach, list_phrase}
use Rattle.jav_print_laws.proofs.layout_lemmas.OperandPhrases.{Begins, begins_with, Part, Meant, Good}
use Rattle.jav_print_laws.proofs.layout_lemmas.Phrases.{Phrase, Any, Breaks, Nothing, nothing, Alone, alone, Then, both, empty, reads, makes, then, next_to, space}
use Rattle.jav_print_laws.proofs.layout_lemmas.Signs.{left_bracket, right_bracket, left_brace, right_brace}
use Rattle.jav_print_laws.proofs.layout_lemmas.TypePhrases.{Bracketed, bracketed}

-- # Brackets and sizes

no_pairs : (ts : List Token) → Nothing ts → Brackets zero ts
no_pairs _ nothing = types.none

one_pair : (n : ℕ) (ts : List Token) → Then (Alone (IsSymbol "[")) (Then (Alone (IsSymbol "]")) (Brackets n)) ts → Brackets (suc n) ts
one_pair n _ (both _ _ (alone l left) (both _ _ (alone r right) rest)) = types.pair left right rest

brackets : (n : ℕ) → Phrase (Brackets n) Any (brackets_text n)
brackets zero = makes empty refl no_pairs
brackets (suc n) = makes (next_to left_bracket (next_to right_bracket (brackets n))) refl (one_pair n)

-- sizes behind the opening bracket of the first
abbrev OpenSizes : ℕ → List Expr → List Token → Type 0
OpenSizes limit es ts = (left : Token) → IsSymbol "[" left → Derives (map unplaced_expr) (Sizes limit) es (left ∷ ts)

last_size : (limit : ℕ) (e : Expr) (ts : List Token) → Then (Derived (Expression limit 1) e) (Alone (IsSymbol "]")) ts → OpenSizes limit (e ∷ []) ts
last_size limit e _ (both _ _ d (alone r right)) l left = record { height = d.height; tree = d.tree ∷ []; derived = is.last_size left d.derived right; same = ap (λ x. x ∷ []) d.same }

more_sizes : (limit : ℕ) (e : Expr) (es : List Expr) (ts : List Token) → Then (Derived (Expression limit 1) e) (Then (Alone (IsSymbol "]")) (Then (Alone (IsSymbol "[")) (OpenSizes limit es))) ts → OpenSizes limit (e ∷ es) ts
more_sizes limit e es _ (both _ _ d (both _ _ (alone r right) (both _ _ (alone l' left') rest))) l left =
    let ds = rest l' left' in
    record { height = max d.height ds.height; tree = d.tree ∷ ds.tree; derived = is.more_sizes left d.derived right ds.derived; same = (let a = d.same in let b = ds.same in cc) }

-- the text of sizes behind the first bracket
abbrev open_text : Expr → List Expr → List ℕ
open_text e [] = tree_text e ++ codes "]"
open_text e (f ∷ es) = tree_text e ++ (codes "]" ++ (codes "[" ++ open_text f es))

open_text-is : (e : Expr) (es : List Expr) → codes "[" ++ open_text e es ≡ sizes_text (map tree_text (e ∷ es))
open_text-is e [] = ap (λ t. 91 ∷ t) (sym (append-nil (tree_text e ++ codes "]")))
open_text-is e (f ∷ es) =
    let more : codes "[" ++ open_text f es ≡ sizes_text (map tree_text (f ∷ es)) = open_text-is f es in
    let rest : tree_text e ++ (codes "]" ++ sizes_text (map tree_text (f ∷ es))) ≡ tree_text e ++ codes "]" ++ sizes_text (map tree_text (f ∷ es)) = sym (append_assoc (tree_text e) (codes "]") _) in
    ap (λ t. 91 ∷ t) (ap (λ t. tree_text e ++ (codes "]" ++ t)) more ∙ rest)

open_sizes : (limit : ℕ) (e : Expr) (es : List Expr) → ForEach (Part limit 1 Closes) (e ∷ es) → Phrase (OpenSizes limit (e ∷ es)) Any (open_text e es)
open_sizes limit e [] ps = makes (then ps.0.phrase right_bracket (λ n ok. refl)) refl (last_size limit e)
open_sizes limit e (f ∷ es) ps = makes (then ps.0.phrase (next_to right_bracket (next_to left_bracket (open_sizes limit f es ps.1))) (λ n ok. refl)) refl (more_sizes limit e (f ∷ es))

-- # `new T[e]..[]..`

sized_creation : (limit at : ℕ) (to : TypeName) (es : List Expr) (k : ℕ) → length es + k ≤ limit → (ts : List Token)
    → Then (Alone (IsKeyword "new")) (Then (BaseType to) (Then (Alone (IsSymbol "[")) (Then (OpenSizes limit es) (Brackets k)))) ts
    → Derived (ArrayCreation limit) (expr_at at (node.NewArray to es k)) ts
sized_creation limit at to es k few _ (both _ _ (alone w new) (both _ _ b (both _ _ (alone l left) (both _ _ sizes pairs)))) =
    let ds = sizes l left in
    let count = same_length ds.tree es ds.same in
    record {
      height = suc ds.height;
      tree = expr_at w.start (node.NewArray to ds.tree k);
      derived = is.sized new b ds.derived pairs (omega arith);
      same = same_at w.start at (node.NewArray to ds.tree k) (node.NewArray to es k) ((same-NewArray to to ds.tree es k k).1 (refl, ds.same, refl));
    }

-- an operand that is the creation of an array
creation_good : {limit : ℕ} (at : ℕ) (n : ExprNode) (text : List ℕ) (p : Phrase (Derived (ArrayCreation limit) (expr_at at n)) Any text) → text ≡ tree_text (expr_at at n) → Begins p.head text
    → Good limit (value_where true) (of_level 14 (expr_at at n))
creation_good {limit} at n text p same begins = record {
  positive = omega arith;
  phrase = reads p same (λ b ok. tt) meant;
  begins = record { byte = begins.byte; rest = begins.rest; is = sym same ∙ begins.is; opens_is = begins.opens_is; heads = begins.heads };
  plain = λ h. refl;
  tight = λ h. absurd cc;
  effect = λ h. absurd cc;
}
  where
    meant : (ts : List Token) → Derived (ArrayCreation limit) (expr_at at n) ts → Meant limit (value_where true) (of_level 14 (expr_at at n)) ts
    meant ts d = record {
      whole = record { height = d.height; tree = d.tree; derived = is.creation (omega arith) d.derived; same = d.same };
      unsigned = λ high plain sign. creation_unsigned d.derived [] (rw (append-nil ts) sign);
      aim = λ t. absurd cc;
    }

regroup_new : (x y z : List ℕ) → codes "new " ++ (x ++ (y ++ z)) ≡ codes "new " ++ x ++ y ++ z
regroup_new x y z = simp append_assoc refl

pub good_sized : (limit at : ℕ) (to : TypeName) (e : Expr) (es : List Expr) (k : ℕ) → Phrase (BaseType to) Breaks (type_text to) → length (e ∷ es) + k ≤ limit → ForEach (Part limit 1 Closes) (e ∷ es)
    → Good limit (value_where true) (of_level 14 (expr_at at (node.NewArray to (e ∷ es) k)))
good_sized limit at to e es k base few ps =
    let all = e ∷ es in
    let inner : type_text to ++ (codes "[" ++ (open_text e es ++ brackets_text k)) ≡ type_text to ++ (sizes_text (map tree_text all) ++ brackets_text k) = ap (λ t. type_text to ++ (t ++ brackets_text k)) (open_text-is e es) in
    let same : codes "new" ++ (32 ∷ (type_text to ++ (codes "[" ++ (open_text e es ++ brackets_text k)))) ≡ tree_text (expr_at at (node.NewArray to all k)) =
    ap (λ t. codes "new " ++ t) inner ∙ regroup_new (type_text to) (sizes_text (map tree_text all)) (brackets_text k) ∙ sym (text-placed at (node.NewArray to all k) ∙ text-NewArray to all k) in
    creation_good at (node.NewArray to all k) _
    (makes (then new_word (space (then base (next_to left_bracket (next_to (open_sizes limit e es ps) (brackets k))) (λ n ok. bracket_breaks))) (λ n ok. space_breaks)) refl (sized_creation limit at to all k few)) same
    (begins_with 110 _ _ refl refl)

-- # Items in braces

abbrev pub FirstValue : ℕ → Expr → Type 0
FirstValue limit e = Phrase (Derived (Init limit) e) Closes (tree_text e)

-- behind the opening brace
abbrev OpenItems : ℕ → List Expr → List Token → Type 0
OpenItems limit es ts = (left : Token) → IsSymbol "{" left → Derives (map unplaced_expr) (Items limit) es (left ∷ ts)

no_items : (limit : ℕ) (ts : List Token) → Alone (IsSymbol "}") ts → OpenItems limit [] ts
no_items limit _ (alone r right) l left = record { height = 0; tree = []; derived = is.no_items left right; same = refl }

some_items : (limit : ℕ) (es : List Expr) (ts : List Token) → Then (Derives (map unplaced_expr) (Inits limit) es) (Alone (IsSymbol "}")) ts → OpenItems limit es ts
some_items limit es _ (both _ _ ds (alone r right)) l left = record { height = ds.height; tree = ds.tree; derived = is.some_items left ds.derived right; same = ds.same }

open_items : (limit : ℕ) (es : List Expr) → ForEach (FirstValue limit) es → Phrase (OpenItems limit es) Any (listed (map tree_text es) ++ codes "}")
open_items limit [] ps = makes right_brace refl (no_items limit)
open_items limit (e ∷ es) ps =
    makes (then (list_phrase unplaced_expr (Init limit) (Inits limit) (λ h x ts d. is.last_item d) (λ h k c x xs ts us d known ds. is.more_items d known ds) unplaced_expr tree_text e es refl ps) right_brace (λ n ok. refl)) refl (some_items limit (e ∷ es))

braces_value : (limit at : ℕ) (es : List Expr) (ts : List Token) → Then (Alone (IsSymbol "{")) (OpenItems limit es) ts → Derived (Init limit) (expr_at at (node.Braces es)) ts
braces_value limit at es _ (both _ us (alone l left) items) =
    let ds = items l left in
    record {
      height = suc ds.height;
      tree = expr_at (start_of (l ∷ us)) (node.Braces ds.tree);
      derived = is.braces ds.derived;
      same = same_at (start_of (l ∷ us)) at (node.Braces ds.tree) (node.Braces es) ((same-Braces ds.tree es).1 ds.same);
    }

pub braces_phrase : (limit at : ℕ) (es : List Expr) → ForEach (FirstValue limit) es → FirstValue limit (expr_at at (node.Braces es))
braces_phrase limit at es ps = reads (next_to left_brace (open_items limit es ps)) (sym (text-placed at (node.Braces es) ∙ text-Braces es)) (λ b ok. tt) (braces_value limit at es)

-- # `new T[].. {..}`

filled_creation : (limit at : ℕ) (to : TypeName) (n : ℕ) (es : List Expr) → suc n ≤ limit → (ts : List Token)
    → Then (Alone (IsKeyword "new")) (Then (Bracketed to (suc n)) (Then (Alone (IsSymbol "{")) (OpenItems limit es))) ts
    → Derived (ArrayCreation limit) (expr_at at (node.ArrayLit to es)) ts
filled_creation limit at _ n es few _ (both _ _ (alone w new) (both _ _ (bracketed {base = base} {ts = ts} {us = us} b pairs) (both _ vs (alone l left) items))) =
    let ds = items l left in
    rw (append_assoc ts us (l ∷ vs)) (record {
      height = suc ds.height;
      tree = expr_at w.start (node.ArrayLit (array_of (suc n) base) ds.tree);
      derived = is.filled new b pairs few ds.derived;
      same = same_at w.start at (node.ArrayLit (array_of (suc n) base) ds.tree) (node.ArrayLit (array_of (suc n) base) es) ((same-ArrayLit (array_of (suc n) base) (array_of (suc n) base) ds.tree es).1 (refl, ds.same));
    })

regroup_filled : (x y : List ℕ) → codes "new " ++ (x ++ (codes " " ++ y)) ≡ codes "new " ++ x ++ codes " " ++ y
regroup_filled x y = simp append_assoc refl

pub good_filled : (limit at : ℕ) (to : TypeName) (n : ℕ) (es : List Expr) → Phrase (Bracketed to (suc n)) Breaks (type_text to) → suc n ≤ limit → ForEach (FirstValue limit) es
    → Good limit (value_where true) (of_level 14 (expr_at at (node.ArrayLit to es)))
good_filled limit at to n es type few ps =
    let same : codes "new" ++ (32 ∷ (type_text to ++ (32 ∷ in_braces (map tree_text es)))) ≡ tree_text (expr_at at (node.ArrayLit to es)) =
    regroup_filled (type_text to) (in_braces (map tree_text es)) ∙ sym (text-placed at (node.ArrayLit to es) ∙ text-ArrayLit to es) in
    creation_good at (node.ArrayLit to es) _
    (makes (then new_word (space (then type (space (next_to left_brace (open_items limit es ps))) (λ n ok. space_breaks))) (λ n ok. space_breaks)) refl (filled_creation limit at to n es few)) same
    (begins_with 110 _ _ refl refl)
