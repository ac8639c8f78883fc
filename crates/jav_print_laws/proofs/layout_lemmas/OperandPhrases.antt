-- Operands as phrases, and the parentheses that a level needs.
use Rattle.std.proofs.Common.{◌≡◌, ℕ, suc, ◌≤◌, Bool, true, false, List, ◌∷◌, ◌++◌, codes, refl, sym, ap, ◌∙◌, arith}
use Rattle.std.specs.Prelude.{nat_lt, nat_le}
use Rattle.std.proofs.lemmas.Bool.{ltb-false, ltb-true, le-leb}
use Rattle.mol_base.specs.Token.{Token}
use Rattle.jav_tree.specs.declared.expr.Expr.{Expr}
use Rattle.jav_tree.specs.declared.expr.ExprNode.TheVariants as node
use Rattle.jav_tree.specs.Expressions.{Expression, Primary, target, Init, expr_at}
use Rattle.jav_tree.specs.Expressions as is
use Rattle.jav_tree.specs.ExpressionText.{tree_text}
use Rattle.jav_tree.specs.Operators.{BeginsWithSign}
use Rattle.jav_tree.specs.PrintableExpressions.{ExprUses}
use Rattle.jav_tree.specs.Statements.{is_statement_expression}
use Rattle.jav_tree.specs.Tokens.{IsSymbol}
use Rattle.jav_tree.specs.WithParens.{Operand, parenthesized, from}
use Rattle.jav_tree.proofs.ExpressionTexts.{text-placed, text-Paren}
use Rattle.jav_tree.proofs.Parts.{same-Paren}
use Rattle.jav_print_laws.proofs.layout_lemmas.Bytes.{Closes, Ends, opens, closes-ends}
use Rattle.jav_print_laws.proofs.layout_lemmas.Derivations.{Derived, same_at, loosen}
use Rattle.jav_print_laws.proofs.layout_lemmas.Phrases.{Phrase, Alone, alone, Then, both, reads, then, next_to}
use Rattle.jav_print_laws.proofs.layout_lemmas.Signs.{left_paren, right_paren}

-- The text is not empty. What begins a phrase is its first byte, with which an expression may begin.
pub record Begins (head : ℕ → ℕ) (text : List ℕ) : Type 0 where
  pub byte : ℕ
  pub rest : List ℕ
  pub is : text ≡ byte ∷ rest
  pub opens_is : opens byte ≡ true
  pub heads : (n : ℕ) → head n ≡ byte

-- a longer text begins so too
pub begins-append : (head next : ℕ → ℕ) (text more whole : List ℕ) → text ++ more ≡ whole → Begins head text → Begins (λ n. head (next n)) whole
begins-append head next text more whole same b =
    record { byte = b.byte; rest = b.rest ++ more; is = sym same ∙ ap (λ t. t ++ more) b.is; opens_is = b.opens_is; heads = λ n. b.heads (next n) }

-- a text that begins with this byte
pub begins_with : (byte : ℕ) (rest text : List ℕ) → text ≡ byte ∷ rest → opens byte ≡ true → Begins (λ n. byte) text
begins_with byte rest text same ok = record { byte = byte; rest = rest; is = same; opens_is = ok; heads = λ n. refl }

-- An expression where this level or a greater one is needed.
pub record Part (limit level : ℕ) (May : ℕ → Type 0) (e : Expr) : Type 0 where
  pub phrase : Phrase (Derived (Expression limit level) e) May (tree_text e)
  pub begins : Begins phrase.head (tree_text e)

-- What the tokens of an operand are, which may be used so.
pub record Meant (limit : ℕ) (u : ExprUses) (o : Operand) (ts : List Token) : Type 0 where
  pub whole : Derived (Expression limit o.level) o.tree ts
  pub unsigned : 13 ≤ o.level → o.is_signed ≡ false → BeginsWithSign ts → ⊥
  pub aim : u.is_target ≡ true → Derived (Primary limit target) o.tree ts

-- An operand that may be used so.
pub record Good (limit : ℕ) (u : ExprUses) (o : Operand) : Type 0 where
  pub positive : 1 ≤ o.level
  pub phrase : Phrase (Meant limit u o) (Ends o.level o.is_number) (tree_text o.tree)
  pub begins : Begins phrase.head (tree_text o.tree)
  pub plain : 14 ≤ o.level → o.is_signed ≡ false
  pub tight : u.is_target ≡ true → 15 ≤ o.level
  pub effect : u.is_statement ≡ true → is_statement_expression o.tree.node ≡ true

module _ {limit : ℕ} {u : ExprUses} {o : Operand} (g : Good limit u o) where
  at_level : (level : ℕ) → level ≤ o.level → (ts : List Token) → Meant limit u o ts → Derived (Expression limit level) o.tree ts
  at_level level low ts m = record { height = m.whole.height; tree = m.whole.tree; derived = loosen level low m.whole.derived; same = m.whole.same }

  -- as it stands
  pub bare : (level : ℕ) (May : ℕ → Type 0) → level ≤ o.level → ((n : ℕ) → May n → Ends o.level o.is_number n) → Part limit level May o.tree
  bare level May low may = record { phrase = reads g.phrase refl may (at_level level low); begins = g.begins }

  pub enclosed : (level : ℕ) (ts : List Token) → Then (Alone (IsSymbol "(")) (Then (Meant limit u o) (Alone (IsSymbol ")"))) ts → Derived (Expression limit level) (expr_at o.tree.at (node.Paren o.tree)) ts
  enclosed level _ (both _ _ (alone l opening) (both _ _ m (alone r closing))) = record {
    height = suc m.whole.height;
    tree = expr_at l.start (node.Paren m.whole.tree);
    derived = is.primary (is.paren opening (loosen 1 g.positive m.whole.derived) closing);
    same = same_at l.start o.tree.at (node.Paren m.whole.tree) (node.Paren o.tree) ((same-Paren m.whole.tree o.tree).1 m.whole.same);
  }

  -- in parentheses
  pub in_parens : (level : ℕ) (May : ℕ → Type 0) → Part limit level May (expr_at o.tree.at (node.Paren o.tree))
  in_parens level May =
      let text : codes "(" ++ (tree_text o.tree ++ codes ")") ≡ tree_text (expr_at o.tree.at (node.Paren o.tree)) = sym (text-placed o.tree.at (node.Paren o.tree) ∙ text-Paren o.tree) in
      record {
        phrase = reads (next_to left_paren (then g.phrase right_paren (λ n ok. closes-ends o.level o.is_number 41 refl))) text (λ n ok. tt) (enclosed level);
        begins = begins_with 40 (tree_text o.tree ++ codes ")") _ (sym text) refl;
      }

  -- in parentheses where they are needed
  pub wrapped : (b : Bool) (level : ℕ) (May : ℕ → Type 0) → (b ≡ false → level ≤ o.level) → (b ≡ false → (n : ℕ) → May n → Ends o.level o.is_number n) → Part limit level May (parenthesized b o.tree)
  wrapped true level May low may = in_parens level May
  wrapped false level May low may = bare level May (low refl) (may refl)

  -- where this level is needed
  pub from_level : (level : ℕ) → Part limit level Closes (from level o)
  from_level level = wrapped (nat_lt o.level level) level Closes (λ e. ltb-false o.level level e) (λ e n c. closes-ends o.level o.is_number n c)

  -- where any expression may stand
  pub loose : Part limit 1 Closes o.tree
  loose = bare 1 Closes g.positive (λ n c. closes-ends o.level o.is_number n c)

-- what may stand left of an assignment
pub record Aimed (limit : ℕ) (number : Bool) (e : Expr) : Type 0 where
  pub phrase : Phrase (Derived (Primary limit target) e) (Ends 15 number) (tree_text e)
  pub begins : Begins phrase.head (tree_text e)

same_ends : (level : ℕ) (number : Bool) (b : ℕ) → 15 ≤ level → Ends 15 number b → Ends level number b
same_ends level number b high h = let e : nat_le 15 level ≡ true = le-leb 15 level high in rw e h

pub aimed : {limit : ℕ} {u : ExprUses} {o : Operand} → Good limit u o → u.is_target ≡ true → Aimed limit o.is_number (from 15 o)
aimed {limit} {o = o} g t = by (nat_lt o.level 15) refl where
  by : (b : Bool) → nat_lt o.level 15 ≡ b → Aimed limit o.is_number (parenthesized b o.tree)
  by true e = absurd (omega (arith, ltb-true o.level 15 e, g.tight t))
  by false e = record { phrase = reads g.phrase refl (λ n ok. same_ends o.level o.is_number n (g.tight t) ok) (λ ts m. m.aim t); begins = g.begins }
