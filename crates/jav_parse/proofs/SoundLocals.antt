-- Variables of declarations that are read.
use Rattle.std.proofs.Common.{◌≡◌, ℕ, zero, suc, max, ◌≤◌, nat_eq, List, [], ◌∷◌, ◌++◌, map, Some, None, refl, ap, append_assoc, arith}
use Rattle.std.proofs.lemmas.List.{append-nil}
use Rattle.std.proofs.lemmas.Bool.Decides.{nat_tests}
use Rattle.mol_base.specs.Token.{Token}
use Rattle.jav_tree.specs.declared.stmt.Declarator.{Declarator}
use Rattle.jav_tree.specs.Tokens.{IsSymbol, IsName}
use Rattle.jav_tree.specs.Statements as stmts
use Rattle.jav_tree.specs.Statements.{Variables}
use Rattle.jav_parse_cursor.specs.declared.limits.Limits.{Limits}
use Rattle.jav_parse_stmt.specs.declared.local.Variable.{Variable}
use Rattle.jav_parse_stmt.specs.declared.local.VariableList.{VariableList}
use Rattle.jav_parse_cursor.specs.declared.sort.Sort.TheVariants as sort
use Rattle.jav_parse_stmt.specs.LocalRules.{no_variables, alone, declarator, declarators, with_variable, further_variables, variables}
use Rattle.jav_parse.proofs.ExpressionLaws.{ExpressionLaws}
use Rattle.jav_parse.proofs.Meets.{Spelling, Reads, reads_pure, reads_refuse, reads_map, reads_if, reads_bind, reads_made, reads_token, reads_when}
use Rattle.jav_parse.proofs.TokenSorts as token
use Rattle.jav_parse.proofs.TokenSteps.{expect_name}

-- a variable with the offset of its name
abbrev pub placed : Variable → ℕ × Declarator
placed v = (v.at, declarator v)

pub placed_names : (vs : List Variable) → map (λ d. d.1) (map placed vs) ≡ declarators vs
placed_names [] = refl
placed_names (v ∷ vs) = ap (λ r. declarator v ∷ r) (placed_names vs)

placed_end : (vs : List Variable) (v : Variable) → map placed (vs ++ v ∷ []) ≡ map placed vs ++ placed v ∷ []
placed_end [] v = refl
placed_end (w ∷ ws) v = ap (λ r. placed w ∷ r) (placed_end ws v)

-- one variable more at the end
more_variables : {limit h k : ℕ} {ds : List (ℕ × Declarator)} {ts us : List Token} {comma : Token} {d : ℕ × Declarator} → Variables limit h ds ts → IsSymbol "," comma
    → stmts.Variable limit k d us → Variables limit (max h k) (ds ++ d ∷ []) (ts ++ comma ∷ us)
more_variables (stmts.last v) c w = stmts.more v c (stmts.last w)
more_variables {limit} {h} {k} {ds} {ts} {us} {comma} {d} (stmts.more {h = a} {k = b} {comma = c0} {d = d0} {ds = ds0} {ts = ts0} {us = us0} v c vs) e w =
    let same : max (max a b) k ≡ max a (max b k) = omega arith in
    rw (same, append_assoc ts0 (c0 ∷ us0) (comma ∷ us)) (stmts.more v c (more_variables vs e w))

module _ (l : Limits) (laws : ExpressionLaws l) (top : ℕ) where
  -- variables, none of whose first values is higher than `top`
  abbrev pub AreVariables : Spelling VariableList
  AreVariables all ts = Variables l.most all.height (map placed all.items) ts × (all.height ≤ top)

  -- these and one more variable
  record OneMore (all y : VariableList) (ts : List Token) : Type 0 where
    last : Variable
    height : ℕ
    is : y ≡ record { items = all.items ++ last ∷ []; height = max all.height height }
    variable : stmts.Variable l.most height (placed last) ts
    low : height ≤ top

  lone : (all : VariableList) (name : Token) → IsName name → OneMore all (alone all name) (name ∷ [])
  lone all name h = record {
    last = record { at = name.start; name = name.text; init = None };
    height = 0;
    is = let e : all.height ≡ max all.height 0 = omega arith in ap (λ n. record { items = all.items ++ record { at = name.start; name = name.text; init = None } ∷ []; height = n }) e;
    variable = stmts.alone h;
    low = omega arith;
  }

  reads_variable : (all : VariableList) (name : Token) → IsName name → Reads (λ y vs. OneMore all y (name ∷ vs)) (with_variable l top all name)
  unfolding with_variable
  reads_variable all name h = reads_when sort.Equals
      (reads_if (nat_eq top 0)
      (λ q. reads_refuse (alone all name, [], lone all name h))
      (λ q. reads_token (λ z. cc)
      (λ t ht. reads_made _ (laws.value top (grind (arith, nat_tests)))
      (λ x us hx. record { last = record { at = name.start; name = name.text; init = Some x.expr }; height = x.height; is = refl; variable = stmts.valued h (token.equals_is t ht) hx.0; low = hx.1 }))))
      (reads_pure (alone all name) (lone all name h))

  joined : (all y : VariableList) (ts us : List Token) (comma : Token) → AreVariables all ts → IsSymbol "," comma → OneMore all y us → AreVariables y (ts ++ comma ∷ us)
  joined all y ts us comma h c k =
      let low = k.low in let old = h.1 in
      rw (k.is, placed_end all.items k.last) (more_variables h.0 c k.variable, omega arith)

  reads_further : (n : ℕ) (all : VariableList) (ts : List Token) → AreVariables all ts → Reads (λ y vs. AreVariables y (ts ++ vs)) (further_variables l top n all)
  unfolding further_variables
  reads_further zero all ts h = reads_refuse (all, [], rw append-nil h)
  reads_further (suc n) all ts h = reads_when sort.Comma
      (reads_token (λ z. cc)
      (λ comma hc. expect_name
      (λ name hn. reads_bind (reads_variable all name hn)
      (λ y us hy. reads_map (reads_further n y (ts ++ comma ∷ name ∷ us) (joined all y ts (name ∷ us) comma h (token.comma_is comma hc) hy)) (λ z vs k. rw append_assoc at k)))))
      (reads_pure all (rw append-nil h))

  first_variable : (y : VariableList) (ts : List Token) → OneMore no_variables y ts → AreVariables y ts
  first_variable y ts k = let low = k.low in let e : max 0 k.height ≡ k.height = omega arith in rw (k.is, e) (stmts.last k.variable, low)

  -- variables after the name of the first
  pub reads_variables : (name : Token) → IsName name → Reads (λ y vs. AreVariables y (name ∷ vs)) (variables l top name)
  unfolding variables
  reads_variables name h = reads_bind (reads_variable no_variables name h)
      (λ y us hy. reads_further l.turns y (name ∷ us) (first_variable y (name ∷ us) hy))
