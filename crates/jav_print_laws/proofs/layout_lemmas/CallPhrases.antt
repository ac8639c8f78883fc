-- Calls, and creations of objects, as phrases.
use Rattle.std.proofs.Common.{◌≡◌, ℕ, suc, max, ◌≤◌, true, List, [], ◌∷◌, ◌++◌, codes, length, map, Some, None, refl, sym, ap, ◌∙◌, append_assoc, arith}
use Rattle.std.proofs.lemmas.List.{length-map}
use Rattle.mol_base.specs.Token.{Token}
use Rattle.mol_base.specs.Lexical.Characters.{first}
use Rattle.mol_base.specs.Lexical.Front.{token_kind}
use Rattle.mol_base.specs.declared.token_kind.TokenKind.TheVariants as kind
use Rattle.jav_tree.specs.declared.expr.Expr.{Expr}
use Rattle.jav_tree.specs.declared.expr.ExprNode.TheVariants as node
use Rattle.jav_tree.specs.declared.types.TypeName.{TypeName}
use Rattle.jav_tree.specs.declared.types.TypeName.TheVariants as ty
use Rattle.jav_tree.specs.Expressions.{Expression, Shape, Primary, target, invocation, Arguments, Listed, expr_at}
use Rattle.jav_tree.specs.Expressions as is
use Rattle.jav_tree.specs.ExpressionText.{tree_text, in_parens}
use Rattle.jav_tree.specs.Lines.{listed}
use Rattle.jav_tree.specs.Places.{unplaced_expr}
use Rattle.jav_tree.specs.PrintableExpressions.{ExprUses, effect_where}
use Rattle.jav_tree.specs.TokenTexts.{is_name}
use Rattle.jav_tree.specs.Tokens.{IsSymbol, IsKeyword}
use Rattle.jav_tree.specs.TypeText.{type_text}
use Rattle.jav_tree.specs.WithParens.{Operand, tight, before_dot}
use Rattle.jav_tree.proofs.ExpressionTexts.{text-placed, text-Call, text-SuperCall, text-New}
use Rattle.jav_tree.proofs.Parts.{same-Call, same-SuperCall, same-New}
use Rattle.jav_tree.proofs.StatementExpressions.{statement-Call, statement-SuperCall, statement-New}
use Rattle.jav_print_laws.proofs.layout_lemmas.Bytes.{Closes, space_breaks, open_breaks, dot_breaks}
use Rattle.jav_print_laws.proofs.layout_lemmas.Derivations.{Derives, Derived, same_at, tight_of}
use Rattle.jav_print_laws.proofs.layout_lemmas.Keywords.{super_word, new_word}
use Rattle.jav_print_laws.proofs.layout_lemmas.Lists.{ForEach, list_phrase}
use Rattle.jav_print_laws.proofs.layout_lemmas.Names.{name, word_kind_is}
use Rattle.jav_print_laws.proofs.layout_lemmas.OperandPhrases.{begins-append, begins_with, Part, Good}
use Rattle.jav_print_laws.proofs.layout_lemmas.Phrases.{Phrase, Any, Breaks, Alone, alone, Then, both, OneOf, one_of, reads, makes, then, next_to, space}
use Rattle.jav_print_laws.proofs.layout_lemmas.Signs.{left_paren, right_paren, dot, dot_may}
use Rattle.jav_print_laws.proofs.layout_lemmas.TypePhrases.{ClassName, class_name}
use Rattle.jav_print_laws.proofs.layout_lemmas.TightPhrases.{receiver, tight_good, word_begins}

-- # Arguments

abbrev pub Args : ℕ → List Expr → List Token → Type 0
Args limit = Derives (map unplaced_expr) (Arguments limit)

pub same_length : (es fs : List Expr) → map unplaced_expr es ≡ map unplaced_expr fs → length es ≡ length fs
same_length es fs same = sym (length-map es unplaced_expr) ∙ ap length same ∙ length-map fs unplaced_expr

-- what stands behind the opening parenthesis
abbrev pub Tail : ℕ → List Expr → List Token → Type 0
Tail limit es ts = (left : Token) → IsSymbol "(" left → Args limit es (left ∷ ts)

no_args : (limit : ℕ) (ts : List Token) → Alone (IsSymbol ")") ts → Tail limit [] ts
no_args limit _ (alone r right) l left = record { height = 0; tree = []; derived = is.no_arguments left right; same = refl }

some_args : (limit : ℕ) (es : List Expr) → length es ≤ limit → (ts : List Token) → Then (Derives (map unplaced_expr) (Listed limit) es) (Alone (IsSymbol ")")) ts → Tail limit es ts
some_args limit es few _ (both _ _ ds (alone r right)) l left =
    let count = same_length ds.tree es ds.same in
    record { height = ds.height; tree = ds.tree; derived = is.some_arguments left ds.derived right (omega arith); same = ds.same }

pub opened : (limit : ℕ) (es : List Expr) (ts : List Token) → Then (Alone (IsSymbol "(")) (Tail limit es) ts → Args limit es ts
opened limit es _ (both _ _ (alone l left) d) = d l left

pub listed_phrase : (limit : ℕ) (e : Expr) (es : List Expr) → ForEach (Part limit 1 Closes) (e ∷ es) → Phrase (Derives (map unplaced_expr) (Listed limit) (e ∷ es)) Closes (listed (map tree_text (e ∷ es)))
listed_phrase limit e es ps = list_phrase unplaced_expr (Expression limit 1) (Listed limit) (λ h x ts d. is.last_listed d) (λ h k c x xs ts us d known ds. is.more_listed d known ds) unplaced_expr tree_text e es refl (each (e ∷ es) ps) where
  each : (xs : List Expr) → ForEach (Part limit 1 Closes) xs → ForEach (λ x. Phrase (Derived (Expression limit 1) x) Closes (tree_text x)) xs
  each [] qs = tt
  each (x ∷ xs) qs = (qs.0.phrase, each xs qs.1)

regroup_call : (x y z : List ℕ) → x ++ (codes "." ++ (y ++ z)) ≡ x ++ codes "." ++ y ++ z
regroup_call x y z = simp append_assoc refl

pub tail : (limit : ℕ) (es : List Expr) → length es ≤ limit → ForEach (Part limit 1 Closes) es → Phrase (Tail limit es) Any (listed (map tree_text es) ++ codes ")")
tail limit [] few ps = makes right_paren refl (no_args limit)
tail limit (e ∷ es) few ps = makes (then (listed_phrase limit e es ps) right_paren (λ n ok. refl)) refl (some_args limit (e ∷ es) few)

abbrev pub arguments : (limit : ℕ) (es : List Expr) → length es ≤ limit → ForEach (Part limit 1 Closes) es → Phrase (Args limit es) Any (in_parens (map tree_text es))
arguments limit es few ps = makes (next_to left_paren (tail limit es few ps)) refl (opened limit es)

-- # Calls

call_primary : (limit at : ℕ) (text : List ℕ) (es : List Expr) (ts : List Token) → Then (OneOf kind.Word text) (Args limit es) ts → Derived (Primary limit invocation) (expr_at at (node.Call None text es)) ts
call_primary limit at _ es _ (both _ _ (one_of n word) d) = record {
  height = suc d.height;
  tree = expr_at n.start (node.Call None n.text d.tree);
  derived = is.call (record { word = word }) d.derived;
  same = same_at n.start at (node.Call None n.text d.tree) (node.Call None n.text es) ((same-Call None None n.text n.text d.tree es).1 (refl, refl, d.same));
}

pub good_call : (limit at : ℕ) (text : List ℕ) (es : List Expr) → is_name text ≡ true → length es ≤ limit → ForEach (Part limit 1 Closes) es → Good limit (effect_where true) (tight (expr_at at (node.Call None text es)))
good_call limit at text es known few ps =
    let same : text ++ in_parens (map tree_text es) ≡ tree_text (expr_at at (node.Call None text es)) = sym (text-placed at (node.Call None text es) ∙ text-Call None text es) in
    tight_good (effect_where true) at (node.Call None text es) invocation _
    (reads (then (name text known) (arguments limit es few ps) (λ n ok. open_breaks)) refl (λ b ok. tt) (call_primary limit at text es)) same
    (begins-append (λ n. first text) (λ n. 40) text _ _ refl (word_begins text known)) (λ h. absurd cc) (λ h. statement-Call None text es)

call_on_primary : (limit at : ℕ) (e : Expr) (text : List ℕ) (es : List Expr) (ts : List Token) → Then (Derived (Expression limit 15) e) (Then (Alone (IsSymbol ".")) (Then (OneOf kind.Word text) (Args limit es))) ts
    → Derived (Primary limit invocation) (expr_at at (node.Call (Some e) text es)) ts
call_on_primary limit at e _ es _ (both _ _ f (both _ _ (alone t dotted) (both _ _ (one_of n word) d))) = record {
  height = suc (max f.height d.height);
  tree = expr_at f.tree.at (node.Call (Some f.tree) n.text d.tree);
  derived = is.call_on (is.primary_before_dot (tight_of (omega arith) f.derived).tight) dotted (record { word = word }) d.derived;
  same = same_at f.tree.at at (node.Call (Some f.tree) n.text d.tree) (node.Call (Some e) n.text es) ((same-Call (Some f.tree) (Some e) n.text n.text d.tree es).1 (ap Some f.same, refl, d.same));
}

pub good_call_on : (limit at : ℕ) (u : ExprUses) (o : Operand) (text : List ℕ) (es : List Expr) → is_name text ≡ true → length es ≤ limit → Good limit u o → ForEach (Part limit 1 Closes) es
    → Good limit (effect_where true) (tight (expr_at at (node.Call (Some (before_dot o)) text es)))
good_call_on limit at u o text es known few g ps =
    let e = before_dot o in let p = receiver g in
    let same : tree_text e ++ (codes "." ++ (text ++ in_parens (map tree_text es))) ≡ tree_text (expr_at at (node.Call (Some e) text es)) = regroup_call (tree_text e) text (in_parens (map tree_text es)) ∙ sym (text-placed at (node.Call (Some e) text es) ∙ text-Call (Some e) text es) in
    tight_good (effect_where true) at (node.Call (Some e) text es) invocation _
    (reads (then p.phrase (then dot (then (name text known) (arguments limit es few ps) (λ n ok. open_breaks)) (λ n ok. dot_may (first text) text (word_kind_is (token_kind text) known) refl)) (λ n ok. refl)) refl (λ b ok. tt) (call_on_primary limit at e text es)) same
    (begins-append p.phrase.head _ (tree_text e) _ _ refl p.begins) (λ h. absurd cc) (λ h. statement-Call (Some e) text es)

super_primary : (limit at : ℕ) (text : List ℕ) (es : List Expr) (ts : List Token) → Then (Alone (IsKeyword "super")) (Then (Alone (IsSymbol ".")) (Then (OneOf kind.Word text) (Args limit es))) ts
    → Derived (Primary limit invocation) (expr_at at (node.SuperCall text es)) ts
super_primary limit at _ es _ (both _ _ (alone w super) (both _ _ (alone t dotted) (both _ _ (one_of n word) d))) = record {
  height = suc d.height;
  tree = expr_at w.start (node.SuperCall n.text d.tree);
  derived = is.super_call super dotted (record { word = word }) d.derived;
  same = same_at w.start at (node.SuperCall n.text d.tree) (node.SuperCall n.text es) ((same-SuperCall n.text n.text d.tree es).1 (refl, d.same));
}

pub good_super : (limit at : ℕ) (text : List ℕ) (es : List Expr) → is_name text ≡ true → length es ≤ limit → ForEach (Part limit 1 Closes) es → Good limit (effect_where true) (tight (expr_at at (node.SuperCall text es)))
good_super limit at text es known few ps =
    let same : codes "super" ++ (codes "." ++ (text ++ in_parens (map tree_text es))) ≡ tree_text (expr_at at (node.SuperCall text es)) = sym (text-placed at (node.SuperCall text es) ∙ text-SuperCall text es) in
    tight_good (effect_where true) at (node.SuperCall text es) invocation _
    (reads (then super_word (then dot (then (name text known) (arguments limit es few ps) (λ n ok. open_breaks)) (λ n ok. dot_may (first text) text (word_kind_is (token_kind text) known) refl)) (λ n ok. dot_breaks)) refl (λ b ok. tt) (super_primary limit at text es)) same
    (begins_with 115 _ _ refl refl) (λ h. absurd cc) (λ h. statement-SuperCall text es)

new_primary : (limit at : ℕ) (to : TypeName) (es : List Expr) (ts : List Token) → Then (Alone (IsKeyword "new")) (Then (ClassName to) (Args limit es)) ts → Derived (Primary limit invocation) (expr_at at (node.New to es)) ts
new_primary limit at _ es _ (both _ _ (alone w new) (both _ _ (class_name {q = q} x) d)) = record {
  height = suc d.height;
  tree = expr_at w.start (node.New (ty.Named q) d.tree);
  derived = is.new new x d.derived;
  same = same_at w.start at (node.New (ty.Named q) d.tree) (node.New (ty.Named q) es) ((same-New (ty.Named q) (ty.Named q) d.tree es).1 (refl, d.same));
}

pub good_new : (limit at : ℕ) (to : TypeName) (es : List Expr) → Phrase (ClassName to) Breaks (type_text to) → length es ≤ limit → ForEach (Part limit 1 Closes) es → Good limit (effect_where true) (tight (expr_at at (node.New to es)))
good_new limit at to es class few ps =
    let same : codes "new" ++ (32 ∷ (type_text to ++ in_parens (map tree_text es))) ≡ tree_text (expr_at at (node.New to es)) = sym (text-placed at (node.New to es) ∙ text-New to es) in
    tight_good (effect_where true) at (node.New to es) invocation _
    (reads (then new_word (space (then class (arguments limit es few ps) (λ n ok. open_breaks))) (λ n ok. space_breaks)) refl (λ b ok. tt) (new_primary limit at to es)) same
    (begins_with 110 _ _ refl refl) (λ h. absurd cc) (λ h. statement-New to es)
