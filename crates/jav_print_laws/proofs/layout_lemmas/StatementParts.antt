-- The parts of statements as phrases: expressions, declarations, and what stands in the header of a `for`.
use Rattle.std.proofs.Common.{◌≡◌, ℕ, ◌≤◌, Bool, true, false, ◌&&◌, List, [], ◌∷◌, ◌++◌, codes, map, option_map, Option, Some, None, refl, sym, ap, ◌∙◌, append_assoc, arith}
use Rattle.std.specs.Prelude.{All}
use Rattle.std.specs.List.{list_all}
use Rattle.std.proofs.lemmas.Bool.{and_parts}
use Rattle.std.proofs.lemmas.List.Elements.{All-nil, All-cons}
use Rattle.mol_base.specs.Token.{Token}
use Rattle.mol_base.specs.declared.token_kind.TokenKind.TheVariants as kind
use Rattle.jav_tree.specs.declared.expr.Expr.{Expr}
use Rattle.jav_tree.specs.declared.stmt.Declarator.{Declarator}
use Rattle.jav_tree.specs.declared.stmt.ForStart.{ForStart}
use Rattle.jav_tree.specs.declared.stmt.ForStart.TheVariants as for_start
use Rattle.jav_tree.specs.declared.stmt.Let.{Let}
use Rattle.jav_tree.specs.declared.types.TypeName.{TypeName}
use Rattle.jav_tree.specs.EachExpression.{map_declarator, map_let, map_start}
use Rattle.jav_tree.specs.Expressions.{Expression, Init, Listed}
use Rattle.jav_tree.specs.Expressions as expressions
use Rattle.jav_tree.specs.ExpressionText.{expr_text}
use Rattle.jav_tree.specs.Height.{tallest}
use Rattle.jav_tree.specs.Lines.{listed}
use Rattle.jav_tree.specs.Places.{unplaced_expr, unplaced_declarator, unplaced_let, unplaced_start}
use Rattle.jav_tree.specs.PrintableExpressions.{type_uses}
use Rattle.jav_tree.specs.PrintableStatements.{is_value, is_effect, is_first_value, if_any, is_declarator, is_declaration, is_start}
use Rattle.jav_tree.specs.Statements.{MayBeStatement, MaybeFinal, MaybeExpression, Variable, Variables, Declaration, Start, Update}
use Rattle.jav_tree.specs.Statements as grammar
use Rattle.jav_tree.specs.StatementText.{final_text, valued_text, declarator_text, let_text, start_text, spaced_maybe, spaced_list}
use Rattle.jav_tree.specs.TokenTexts.{is_name}
use Rattle.jav_tree.specs.Tokens.{IsSymbol, IsKeyword}
use Rattle.jav_tree.specs.Types.{WholeType}
use Rattle.jav_tree.specs.TypeText.{type_text}
use Rattle.jav_tree.specs.Widths.{expr_width, maybe_width, declarator_width, let_width, start_width}
use Rattle.jav_tree.specs.WithParens.{expr_with_parens}
use Rattle.jav_print_laws.proofs.layout_lemmas.Bytes.{Closes, closes-breaks, space_breaks}
use Rattle.jav_print_laws.proofs.layout_lemmas.Derivations.{Made}
use Rattle.jav_print_laws.proofs.layout_lemmas.ExpressionPhrases.{judged, whole}
use Rattle.jav_print_laws.proofs.layout_lemmas.Keywords.{final_word}
use Rattle.jav_print_laws.proofs.layout_lemmas.Lists.{ForEach, list_phrase}
use Rattle.jav_print_laws.proofs.layout_lemmas.Names.{name}
use Rattle.jav_print_laws.proofs.layout_lemmas.OperandPhrases.{loose}
use Rattle.jav_print_laws.proofs.layout_lemmas.Phrases.{Phrase, Nothing, nothing, Alone, alone, Then, both, OneOf, one_of, empty, reads, makes, then, space}
use Rattle.jav_print_laws.proofs.layout_lemmas.Signs.{equals}
use Rattle.jav_print_laws.proofs.layout_lemmas.StatementLike.{statement-same}

-- an expression as printed, without places
abbrev pub plain_expr : Expr → Expr
plain_expr e = unplaced_expr (expr_with_parens e)

abbrev pub Valued : ℕ → Expr → List Token → Type 0
Valued limit e = Made unplaced_expr (Expression limit 1) (plain_expr e)

pub value : (limit : ℕ) (e : Expr) → expr_width e ≤ limit → is_value e ≡ true → Phrase (Valued limit e) Closes (expr_text e)
value limit e few known = (loose ((judged limit e few).value known)).phrase

pub first_value : (limit : ℕ) (e : Expr) → expr_width e ≤ limit → is_first_value e ≡ true → Phrase (Made unplaced_expr (Init limit) (plain_expr e)) Closes (expr_text e)
first_value limit e few known = (judged limit e few).first known

-- an expression that may be a statement
abbrev pub Acting : ℕ → ℕ → Expr → List Token → Type 0
Acting limit h e ts = Expression limit 1 h e ts × MayBeStatement e

pub effect : (limit : ℕ) (e : Expr) → expr_width e ≤ limit → is_effect e ≡ true → Phrase (Made unplaced_expr (Acting limit) (plain_expr e)) Closes (expr_text e)
effect limit e few known =
    let j = judged limit e few in let g = j.value (j.effect known) in
    makes (loose g).phrase refl (λ ts d. record { height = d.height; tree = d.tree; derived = (d.derived, statement-same d.tree (expr_with_parens e) d.same ∙ g.effect known); same = d.same })

-- # Lists of expressions

pub values : (limit : ℕ) (es : List Expr) → tallest (map expr_width es) ≤ limit → list_all is_value es ≡ true → ForEach (λ e. Phrase (Valued limit e) Closes (expr_text e)) es
values limit [] few all = tt
values limit (e ∷ es) few all = let p = and_parts (is_value e) _ all in (value limit e (omega arith) p.0, values limit es (omega arith) p.1)

effects : (limit : ℕ) (es : List Expr) → tallest (map expr_width es) ≤ limit → list_all is_effect es ≡ true → ForEach (λ e. Phrase (Made unplaced_expr (Acting limit) (plain_expr e)) Closes (expr_text e)) es
effects limit [] few all = tt
effects limit (e ∷ es) few all = let p = and_parts (is_effect e) _ all in (effect limit e (omega arith) p.0, effects limit es (omega arith) p.1)

abbrev AllActing : ℕ → ℕ → List Expr → List Token → Type 0
AllActing limit h es ts = Listed limit h es ts × All MayBeStatement es

acting_list : (limit : ℕ) (e : Expr) (es : List Expr) → tallest (map expr_width (e ∷ es)) ≤ limit → list_all is_effect (e ∷ es) ≡ true
    → Phrase (Made (map unplaced_expr) (AllActing limit) (map plain_expr (e ∷ es))) Closes (listed (map expr_text (e ∷ es)))
acting_list limit e es few all = list_phrase unplaced_expr (Acting limit) (AllActing limit)
    (λ h x ts d. (expressions.last_listed d.0, All-cons MayBeStatement x [] d.1 (All-nil MayBeStatement)))
    (λ h k c x xs ts us d known ds. (expressions.more_listed d.0 known ds.0, All-cons MayBeStatement x xs d.1 ds.1))
    plain_expr expr_text e es refl (effects limit (e ∷ es) few all)

-- what stands behind the second semicolon of a `for`
no_updates : (limit : ℕ) (ts : List Token) → Nothing ts → Made (map unplaced_expr) (Update limit) [] ts
no_updates limit _ nothing = record { height = 0; tree = []; derived = grammar.none; same = refl }

some_updates : (limit : ℕ) (ys : List Expr) (ts : List Token) → Made (map unplaced_expr) (AllActing limit) ys ts → Made (map unplaced_expr) (Update limit) ys ts
some_updates limit ys ts d = record { height = d.height; tree = d.tree; derived = grammar.some d.derived.0 d.derived.1; same = d.same }

pub updates : (limit : ℕ) (es : List Expr) → tallest (map expr_width es) ≤ limit → list_all is_effect es ≡ true → Phrase (Made (map unplaced_expr) (Update limit) (map plain_expr es)) Closes (spaced_list es)
updates limit [] few all = reads empty refl (λ b ok. tt) (no_updates limit)
updates limit (e ∷ es) few all = makes (space (acting_list limit e es few all)) refl (some_updates limit (map plain_expr (e ∷ es)))

-- # Expressions that may be missing

no_value : (limit : ℕ) (ts : List Token) → Nothing ts → Made (option_map unplaced_expr) (MaybeExpression limit) None ts
no_value limit _ nothing = record { height = 0; tree = None; derived = grammar.no; same = refl }

some_value : (limit : ℕ) (e : Expr) (ts : List Token) → Valued limit e ts → Made (option_map unplaced_expr) (MaybeExpression limit) (Some (plain_expr e)) ts
some_value limit e ts d = record { height = d.height; tree = Some d.tree; derived = grammar.yes d.derived; same = ap Some d.same }

pub maybe_value : (limit : ℕ) (e : Option Expr) → maybe_width e ≤ limit → if_any is_value e ≡ true → Phrase (Made (option_map unplaced_expr) (MaybeExpression limit) (option_map plain_expr e)) Closes (spaced_maybe e)
maybe_value limit None few known = reads empty refl (λ b ok. tt) (no_value limit)
maybe_value limit (Some e) few known = makes (space (value limit e few known)) refl (some_value limit e)

-- # Declarations

not_final : {Is : List Token → Type 0} (ts : List Token) → Is ts → Then (MaybeFinal false) Is ts
not_final ts is = both [] ts grammar.no is

is_final_token : {Is : List Token → Type 0} (ts : List Token) → Then (Alone (IsKeyword "final")) Is ts → Then (MaybeFinal true) Is ts
is_final_token _ (both _ us (alone t word) is) = both (t ∷ []) us (grammar.yes word) is

-- `final` or not, and a phrase
pub after_final : {Is : List Token → Type 0} {May : ℕ → Type 0} {t : List ℕ} (b : Bool) → Phrase Is May t → Phrase (Then (MaybeFinal b) Is) May (final_text b ++ t)
after_final false p = makes p refl (λ ts is. not_final ts is)
after_final true p = makes (then final_word (space p) (λ b ok. space_breaks)) refl (λ ts d. is_final_token ts d)

abbrev pub plain_declarator : Declarator → Declarator
plain_declarator d = unplaced_declarator (map_declarator expr_with_parens d)

abbrev pub Declares : ℕ → Declarator → List Token → Type 0
Declares limit d = Made (λ (x : ℕ × Declarator). unplaced_declarator x.1) (Variable limit) (plain_declarator d)

alone_variable : (limit : ℕ) (text : List ℕ) (ts : List Token) → OneOf kind.Word text ts → Declares limit (record { name = text; init = None }) ts
alone_variable limit _ _ (one_of t word) = record { height = 0; tree = (t.start, record { name = t.text; init = None }); derived = grammar.alone (record { word = word }); same = refl }

valued_variable : (limit : ℕ) (text : List ℕ) (e : Expr) (ts : List Token) → Then (OneOf kind.Word text) (Then (Alone (IsSymbol "=")) (Made unplaced_expr (Init limit) (plain_expr e))) ts
    → Declares limit (record { name = text; init = Some e }) ts
valued_variable limit _ e _ (both _ _ (one_of t word) (both _ _ (alone q sign) d)) = record {
  height = d.height;
  tree = (t.start, record { name = t.text; init = Some d.tree });
  derived = grammar.valued (record { word = word }) sign d.derived;
  same = ap (λ x. record { name = t.text; init = Some x }) d.same;
}

regroup_valued : (x y : List ℕ) → x ++ (32 ∷ (codes "=" ++ (32 ∷ y))) ≡ x ++ codes " = " ++ y
regroup_valued x y = let e : x ++ (codes " = " ++ y) ≡ x ++ codes " = " ++ y = sym (append_assoc x (codes " = ") y) in e

pub variable : (limit : ℕ) (text : List ℕ) (e : Option Expr) → maybe_width e ≤ limit → is_name text ≡ true → if_any is_first_value e ≡ true → Phrase (Declares limit (record { name = text; init = e })) Closes (valued_text text e)
variable limit text None few known first = reads (name text known) refl (λ b ok. closes-breaks b ok) (alone_variable limit text)
variable limit text (Some e) few known first =
    makes (then (name text known) (space (then equals (space (first_value limit e few first)) (λ b ok. refl))) (λ b ok. space_breaks)) (regroup_valued text (expr_text e)) (valued_variable limit text e)

variables_of : (limit : ℕ) (ds : List Declarator) → tallest (map declarator_width ds) ≤ limit → list_all is_declarator ds ≡ true → ForEach (λ d. Phrase (Declares limit d) Closes (declarator_text d)) ds
variables_of limit [] few all = tt
variables_of limit (d ∷ ds) few all =
    let p = and_parts (is_declarator d) _ all in let q = and_parts (is_name d.name) (if_any is_first_value d.init) p.0 in
    (variable limit d.name d.init (omega arith) q.0 q.1, variables_of limit ds (omega arith) p.1)

-- the grammar's list of variables, each with the place of its name
abbrev pub unplaced_variables : List (ℕ × Declarator) → List Declarator
unplaced_variables = map (λ (x : ℕ × Declarator). unplaced_declarator x.1)

pub variables : (limit : ℕ) (d : Declarator) (ds : List Declarator) → tallest (map declarator_width (d ∷ ds)) ≤ limit → list_all is_declarator (d ∷ ds) ≡ true
    → Phrase (Made unplaced_variables (Variables limit) (map plain_declarator (d ∷ ds))) Closes (listed (map declarator_text (d ∷ ds)))
variables limit d ds few all = list_phrase (λ (x : ℕ × Declarator). unplaced_declarator x.1) (Variable limit) (Variables limit) (λ h x ts v. grammar.last v) (λ h k c x xs ts us v known vs. grammar.more v known vs)
    plain_declarator declarator_text d ds refl (variables_of limit (d ∷ ds) few all)

abbrev pub plain_let : Let → Let
plain_let l = unplaced_let (map_let expr_with_parens l)

declared : (limit : ℕ) (is_final : Bool) (to : TypeName) (names : List Declarator) (ts : List Token)
    → Then (MaybeFinal is_final) (Then (WholeType limit to) (Made unplaced_variables (Variables limit) (map plain_declarator names))) ts
    → Made unplaced_let (Declaration limit) (plain_let (record { is_final = is_final; ty = to; names = names })) ts
declared limit is_final to names _ (both _ _ f (both _ _ t vs)) = record {
  height = vs.height;
  tree = record { is_final = is_final; ty = to; names = map (λ d. d.1) vs.tree };
  derived = grammar.declaration f t vs.derived;
  same = ap (λ ds. record { is_final = is_final; ty = to; names = ds }) (together vs.tree ∙ vs.same ∙ sym (apart names));
}
  where
    together : (xs : List (ℕ × Declarator)) → map unplaced_declarator (map (λ d. d.1) xs) ≡ unplaced_variables xs
    together [] = refl
    together (x ∷ xs) = ap (λ ds. unplaced_declarator x.1 ∷ ds) (together xs)

    apart : (ds : List Declarator) → map unplaced_declarator (map (map_declarator expr_with_parens) ds) ≡ map plain_declarator ds
    apart [] = refl
    apart (d ∷ ds) = ap (λ xs. plain_declarator d ∷ xs) (apart ds)

regroup_let : (x y z : List ℕ) → x ++ (y ++ (32 ∷ z)) ≡ x ++ y ++ codes " " ++ z
regroup_let x y z = let e : x ++ (y ++ (codes " " ++ z)) ≡ x ++ y ++ codes " " ++ z = simp append_assoc refl in e

pub declaration : (limit : ℕ) (l : Let) → let_width l ≤ limit → is_declaration l ≡ true → Phrase (Made unplaced_let (Declaration limit) (plain_let l)) Closes (let_text l)
declaration limit l few known = by l.names few known where
  by : (names : List Declarator) → let_width (record l { names = names }) ≤ limit → is_declaration (record l { names = names }) ≡ true
      → Phrase (Made unplaced_let (Declaration limit) (plain_let (record l { names = names }))) Closes (let_text (record l { names = names }))
  by [] few' known' = let p = and_parts ((type_uses l.ty).is_type && false) true known' in let q = and_parts (type_uses l.ty).is_type false p.0 in absurd cc
  by (d ∷ ds) few' known' =
      let p = and_parts ((type_uses l.ty).is_type && true) (list_all is_declarator (d ∷ ds)) known' in let q = and_parts (type_uses l.ty).is_type true p.0 in
      makes (after_final l.is_final (then (whole limit l.ty (omega arith) q.0) (space (variables limit d ds (omega arith) p.1)) (λ b ok. space_breaks)))
      (regroup_let (final_text l.is_final) (type_text l.ty) (listed (map declarator_text (d ∷ ds)))) (declared limit l.is_final l.ty (d ∷ ds))

-- # What stands before the first semicolon of a `for`

abbrev pub plain_start : ForStart → ForStart
plain_start s = unplaced_start (map_start expr_with_parens s)

no_start : (limit : ℕ) (ts : List Token) → Nothing ts → Made unplaced_start (Start limit) (plain_start for_start.None) ts
no_start limit _ nothing = record { height = 0; tree = for_start.None; derived = grammar.none; same = refl }

let_start : (limit : ℕ) (l : Let) (ts : List Token) → Made unplaced_let (Declaration limit) (plain_let l) ts → Made unplaced_start (Start limit) (plain_start (for_start.Let l)) ts
let_start limit l ts d = record { height = d.height; tree = for_start.Let d.tree; derived = grammar.variables d.derived; same = ap for_start.Let d.same }

do_start : (limit : ℕ) (es : List Expr) (ts : List Token) → Made (map unplaced_expr) (AllActing limit) (map plain_expr es) ts → Made unplaced_start (Start limit) (plain_start (for_start.Do es)) ts
do_start limit es ts d = record { height = d.height; tree = for_start.Do d.tree; derived = grammar.expressions d.derived.0 d.derived.1; same = ap for_start.Do (d.same ∙ sym (apart es)) } where
  apart : (xs : List Expr) → map unplaced_expr (map expr_with_parens xs) ≡ map plain_expr xs
  apart [] = refl
  apart (x ∷ xs) = ap (λ ys. plain_expr x ∷ ys) (apart xs)

pub start : (limit : ℕ) (s : ForStart) → start_width s ≤ limit → is_start s ≡ true → Phrase (Made unplaced_start (Start limit) (plain_start s)) Closes (start_text s)
start limit for_start.None few known = reads empty refl (λ b ok. tt) (no_start limit)
start limit (for_start.Let l) few known = makes (declaration limit l few known) refl (let_start limit l)
start limit (for_start.Do []) few known = absurd cc
start limit (for_start.Do (e ∷ es)) few known = makes (acting_list limit e es few known) refl (do_start limit (e ∷ es))
