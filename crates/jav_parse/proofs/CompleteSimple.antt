-- Each simple statement of the grammar is read whole.
use Rattle.std.proofs.Common.{◌≡◌, ℕ, suc, ◌+◌, ◌-◌, ◌<◌, ◌≤◌, false, List, [], ◌∷◌, ◌++◌, length, Ok, Option, Some, None, refl, ap, ◌∙◌, append_assoc, arith}
use Rattle.std.proofs.lemmas.List.{length-append}
use Rattle.mol_base.specs.Token.{Token}
use Rattle.jav_tree.specs.declared.expr.Expr.{Expr}
use Rattle.jav_tree.specs.declared.stmt.StmtNode.TheVariants as node
use Rattle.jav_tree.specs.Expressions.{Expression}
use Rattle.jav_tree.specs.Statements.{MayBeStatement, MaybeExpression}
use Rattle.jav_tree.specs.Statements as grammar
use Rattle.jav_tree.specs.Tokens.{IsSymbol, IsKeyword, start_of}
use Rattle.jav_parse_cursor.specs.declared.limits.Limits.{Limits}
use Rattle.jav_parse_expr.specs.declared.primary.Goal.TheVariants.{Level}
use Rattle.jav_parse_cursor.specs.declared.sort.Sort.{Sort}
use Rattle.jav_parse_cursor.specs.declared.sort.Sort.TheVariants as sort
use Rattle.jav_parse_expr.specs.ExprRules.{expr}
use Rattle.jav_parse_cursor.specs.Reading.{sort as next}
use Rattle.jav_parse_cursor.specs.Sorts.{sort_of}
use Rattle.jav_parse_stmt.specs.StmtRules.{stmt, closed}
use Rattle.jav_parse.proofs.CompleteActions.{ActionRead}
use Rattle.jav_parse.proofs.CompletePlain.{start_same, begins_some, semi_ends, plain_action, item_action, throw_goes, return_none, return_some, word_goes, empty_goes, closed_is, by_word}
use Rattle.jav_parse.proofs.FirstTokens.{Begins, begins_not}
use Rattle.jav_parse.proofs.PartSteps.{sized}
use Rattle.jav_parse.proofs.ReadingSteps.{Ends, sort_at}
use Rattle.jav_parse.proofs.SortsOfTokens.{semi_sort, keyword_sort}
use Rattle.jav_parse.proofs.StatementReadings.{BeginsPlain, PlainRead}
use Rattle.jav_parse.proofs.WholeLaws.{WholeLaws}
use Rattle.jav_parse.proofs.WholeReadings.{whole}

pub begins_plain : (s : Sort) → Begins s → BeginsPlain s
begins_plain sort.Name b = tt
begins_plain sort.Literal b = tt
begins_plain sort.This b = tt
begins_plain sort.Super b = tt
begins_plain sort.New b = tt
begins_plain sort.Open b = tt
begins_plain sort.Not b = tt
begins_plain sort.Sign b = tt
begins_plain sort.Step b = tt
begins_plain s b = absurd b

module _ (l : Limits) (w : WholeLaws l) where
  -- an expression before this token
  pub expression_read : (h : ℕ) (e : Expr) (ts : List Token) (x : Expression l.most 1 h e ts) (top : ℕ) → h ≤ top → (rest : List Token) → Ends 1 rest → length ts + length rest < l.turns
      → expr l top (Level 1) (ts ++ rest) ≡ Ok (sized e h ((w.expression h e ts x).shape), rest)
  expression_read h e ts x top fits rest ends short = whole (w.expression h e ts x) (omega arith) top fits rest ends short

  pub action_stmt : (h : ℕ) (semi : Token) (e : Expr) (ts : List Token) → ActionRead l h e ts → sort_of semi ≡ sort.Semi → PlainRead l (suc h) false (node.Do e) (ts ++ semi ∷ [])
  action_stmt h semi e ts a hs =
      let begin = λ (rest : List Token). start_same ts (semi ∷ rest) (semi ∷ []) (begins_some ts a.begins) in
      let some = a.some in record {
        some = omega arith;
        begins = λ rest. rw append_assoc (begins_plain (next (ts ++ (semi ∷ rest))) (a.begins (semi ∷ rest)));
        plain = λ top fits notes us rest f short.
            let z = length-append ts (semi ∷ us ++ rest) in let z2 = length-append (ts ++ semi ∷ []) (us ++ rest) in let z3 = length-append ts (semi ∷ []) in
            rw append_assoc (plain_action l top (stmt l (top - 1)) (stmt l (top - 1 - 1)) (ts ++ (semi ∷ (us ++ rest))) (sized e h a.shape) semi (us ++ rest) (omega arith) (a.begins (semi ∷ (us ++ rest)))
            (a.read (top - 1) (omega arith) (semi ∷ (us ++ rest)) (semi_ends semi (us ++ rest) hs) (omega arith)) hs
            ∙ ap (λ at. Ok (closed at (node.Do e) (h + 1), us ++ rest)) (begin (us ++ rest)) ∙ closed_is (start_of (ts ++ semi ∷ [])) (node.Do e) (h + 1) (suc h) (us ++ rest) (omega arith));
        item = λ top fits notes us rest f short.
            let z = length-append ts (semi ∷ us ++ rest) in let z2 = length-append (ts ++ semi ∷ []) (us ++ rest) in let z3 = length-append ts (semi ∷ []) in
            rw append_assoc (item_action l top (stmt l (top - 1)) (stmt l (top - 1 - 1)) w.builds (ts ++ (semi ∷ (us ++ rest))) (sized e h a.shape) semi (us ++ rest) (omega arith) (a.begins (semi ∷ (us ++ rest))) (omega arith)
            (a.read (top - 1) (omega arith) (semi ∷ (us ++ rest)) (semi_ends semi (us ++ rest) hs) (omega arith)) hs
            ∙ ap (λ at. Ok (closed at (node.Do e) (h + 1), us ++ rest)) (begin (us ++ rest)) ∙ closed_is (start_of (ts ++ semi ∷ [])) (node.Do e) (h + 1) (suc h) (us ++ rest) (omega arith));
      }

  pub throw_read : (h : ℕ) (word semi : Token) (e : Expr) (ts : List Token) → IsKeyword "throw" word → Expression l.most 1 h e ts → IsSymbol ";" semi
      → PlainRead l (suc h) false (node.Throw e) (word ∷ ts ++ semi ∷ [])
  throw_read h word semi e ts hw x hs = by_word l (suc h) false (node.Throw e) (word ∷ ts ++ semi ∷ []) sort.Throw (omega arith) (λ rest. sort_at word (ts ++ semi ∷ [] ++ rest) ∙ keyword_sort "throw" word hw) tt (λ top once twice us. refl)
      (λ top fits notes us rest f short.
      let z = length-append ts (semi ∷ []) in let z2 = length-append (ts ++ semi ∷ []) (us ++ rest) in let some = (w.expression h e ts x).some in
      rw append_assoc (throw_goes l top (stmt l (top - 1)) (stmt l (top - 1 - 1)) word (ts ++ (semi ∷ (us ++ rest))) (sized e h ((w.expression h e ts x).shape)) semi (us ++ rest) (omega arith)
      (expression_read h e ts x (top - 1) (omega arith) (semi ∷ (us ++ rest)) (semi_ends semi (us ++ rest) (semi_sort hs)) (omega arith)) (semi_sort hs)
      ∙ closed_is word.start (node.Throw e) (h + 1) (suc h) (us ++ rest) (omega arith)))

  pub return_read : (h : ℕ) (word semi : Token) (e : Option Expr) (ts : List Token) → IsKeyword "return" word → MaybeExpression l.most h e ts → IsSymbol ";" semi
      → PlainRead l (suc h) false (node.Return e) (word ∷ ts ++ semi ∷ [])
  return_read h word semi e ts hw grammar.no hs = by_word l 1 false (node.Return None) (word ∷ semi ∷ []) sort.Return (omega arith) (λ rest. sort_at word (semi ∷ rest) ∙ keyword_sort "return" word hw) tt (λ top once twice us. refl)
      (λ top fits notes us rest f short. return_none l top (stmt l (top - 1)) (stmt l (top - 1 - 1)) word semi (us ++ rest) (semi_sort hs))
  return_read h word semi e ts hw (grammar.yes {e = x} p) hs = by_word l (suc h) false (node.Return (Some x)) (word ∷ ts ++ semi ∷ []) sort.Return (omega arith) (λ rest. sort_at word (ts ++ semi ∷ [] ++ rest) ∙ keyword_sort "return" word hw) tt
      (λ top once twice us. refl)
      (λ top fits notes us rest f short.
      let z = length-append ts (semi ∷ []) in let z2 = length-append (ts ++ semi ∷ []) (us ++ rest) in let some = (w.expression h x ts p).some in
      rw append_assoc (return_some l top (stmt l (top - 1)) (stmt l (top - 1 - 1)) word (ts ++ (semi ∷ (us ++ rest))) (sized x h ((w.expression h x ts p).shape)) semi (us ++ rest)
      (begins_not sort.Semi (ts ++ (semi ∷ (us ++ rest))) ((w.expression h x ts p).begins (semi ∷ (us ++ rest))) (λ b. b)) (omega arith)
      (expression_read h x ts p (top - 1) (omega arith) (semi ∷ (us ++ rest)) (semi_ends semi (us ++ rest) (semi_sort hs)) (omega arith)) (semi_sort hs)
      ∙ closed_is word.start (node.Return (Some x)) (h + 1) (suc h) (us ++ rest) (omega arith)))

  pub break_read : (word semi : Token) → IsKeyword "break" word → IsSymbol ";" semi → PlainRead l 1 false node.Break (word ∷ semi ∷ [])
  break_read word semi hw hs = by_word l 1 false node.Break (word ∷ semi ∷ []) sort.Break (omega arith) (λ rest. sort_at word (semi ∷ rest) ∙ keyword_sort "break" word hw) tt (λ top once twice us. refl)
      (λ top fits notes us rest f short. word_goes l top (stmt l (top - 1)) (stmt l (top - 1 - 1)) node.Break word semi (us ++ rest) (semi_sort hs))

  pub continue_read : (word semi : Token) → IsKeyword "continue" word → IsSymbol ";" semi → PlainRead l 1 false node.Continue (word ∷ semi ∷ [])
  continue_read word semi hw hs = by_word l 1 false node.Continue (word ∷ semi ∷ []) sort.Continue (omega arith) (λ rest. sort_at word (semi ∷ rest) ∙ keyword_sort "continue" word hw) tt (λ top once twice us. refl)
      (λ top fits notes us rest f short. word_goes l top (stmt l (top - 1)) (stmt l (top - 1 - 1)) node.Continue word semi (us ++ rest) (semi_sort hs))

  pub nothing_read : (semi : Token) → IsSymbol ";" semi → PlainRead l 1 false node.Empty (semi ∷ [])
  nothing_read semi hs = by_word l 1 false node.Empty (semi ∷ []) sort.Semi (omega arith) (λ rest. sort_at semi rest ∙ semi_sort hs) tt (λ top once twice us. refl)
      (λ top fits notes us rest f short. empty_goes l top (stmt l (top - 1)) (stmt l (top - 1 - 1)) semi (us ++ rest))
