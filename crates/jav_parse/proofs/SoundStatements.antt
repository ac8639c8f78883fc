-- Statements that hold no others.
use Rattle.std.proofs.Common.{◌≡◌, ℕ, ◌+◌, ◌-◌, ◌<◌, ◌⊎◌, Bool, nat_le, List, [], ◌∷◌, ◌++◌, Some, None, refl, arith}
use Rattle.std.proofs.lemmas.Bool.Decides.{nat_tests}
use Rattle.mol_base.specs.Token.{Token}
use Rattle.jav_tree.specs.declared.stmt.StmtNode.{StmtNode}
use Rattle.jav_tree.specs.declared.stmt.StmtNode.TheVariants as node
use Rattle.jav_tree.specs.Tokens.{IsSymbol}
use Rattle.jav_tree.specs.Statements as stmts
use Rattle.jav_tree.specs.Statements.{MaybeFinal, Plain, Single, SuperStart, Declaration}
use Rattle.jav_parse_cursor.specs.declared.limits.Limits.{Limits}
use Rattle.jav_parse_cursor.specs.declared.sort.Sort.TheVariants as sort
use Rattle.jav_parse_stmt.specs.declared.stmt_tall.TallStmt.{TallStmt}
use Rattle.jav_parse_cursor.specs.declared.tall.Tall.{Tall}
use Rattle.jav_parse_cursor.specs.Sorts.{sort_of}
use Rattle.jav_parse_stmt.specs.StmtRules.{closed, done, expression, return_stmt, throw_stmt, word_stmt, empty_stmt}
use Rattle.jav_parse.proofs.ExpressionLaws.{ExpressionLaws, tries_action, IsAction}
use Rattle.jav_parse.proofs.Meets.{Some_of, ReadsAt, Reads, reads_pure, reads_refuse, reads_map, reads_if, reads_any, reads_bind, reads_token, reads_when}
use Rattle.jav_parse.proofs.StatementForms.{StatementForm, Stands, Closes, stands, other_form, ends_some, suc_is}
use Rattle.jav_parse.proofs.Steps.{try_then, place_then}
use Rattle.jav_parse.proofs.TokenSorts as token
use Rattle.jav_parse.proofs.TokenSteps.{expect_semi, symbol, a_symbol}

-- the forms of statements
abbrev pub PlainForm : Limits → StatementForm
PlainForm l = Plain l.most

abbrev pub ItemForm : Limits → StatementForm
ItemForm l h is_open n ts = Single l.most h n ts

-- what may stand first in the block of a constructor after the word `super`
abbrev pub SuperForm : Limits → StatementForm
SuperForm l h is_open n ts = SuperStart l.most h n ts ⊎ Single l.most h n ts

lone_semi : (l : Limits) (top : ℕ) → 0 < top → (semi : Token) → IsSymbol ";" semi → Closes (PlainForm l) top semi.start (closed semi.start node.Empty 1) (semi ∷ [])
lone_semi l top p semi h = record { node = node.Empty; height = 1; is = refl; form_is = stmts.nothing h; low = omega arith; some = λ e. cc }

-- `;`
pub some_plain : (l : Limits) (top : ℕ) → 0 < top → Some_of (Stands (PlainForm l) top)
some_plain l top p = (closed (symbol ";").start node.Empty 1, symbol ";" ∷ [], stands (lone_semi l top p (symbol ";") (a_symbol ";")))

module _ (l : Limits) (laws : ExpressionLaws l) (top : ℕ) (p : 0 < top) where
  pub reads_empty : ReadsAt (Stands (PlainForm l) top) (λ u. u ≡ sort.Semi) empty_stmt
  unfolding empty_stmt
  reads_empty = reads_token (λ z. cc) (λ semi h. reads_pure (closed semi.start node.Empty 1) (stands (lone_semi l top p semi (token.semi_is semi h))))

  -- `break;` and `continue;`
  pub reads_break : ReadsAt (Stands (PlainForm l) top) (λ u. u ≡ sort.Break) (word_stmt node.Break)
  unfolding word_stmt
  reads_break = reads_token (λ z. cc) (λ word hw. expect_semi (λ semi hs. reads_pure (closed word.start node.Break 1)
      (stands (record { node = node.Break; height = 1; is = refl; form_is = stmts.break (token.break_is word hw) hs; low = omega arith; some = λ e. cc }))))

  pub reads_continue : ReadsAt (Stands (PlainForm l) top) (λ u. u ≡ sort.Continue) (word_stmt node.Continue)
  unfolding word_stmt
  reads_continue = reads_token (λ z. cc) (λ word hw. expect_semi (λ semi hs. reads_pure (closed word.start node.Continue 1)
      (stands (record { node = node.Continue; height = 1; is = refl; form_is = stmts.continue (token.continue_is word hw) hs; low = omega arith; some = λ e. cc }))))

  returned_none : (word : Token) → sort_of word ≡ sort.Return → (semi : Token) → IsSymbol ";" semi → Stands (PlainForm l) top (closed word.start (node.Return None) 1) (word ∷ semi ∷ [])
  returned_none word hw semi hs = stands (record { node = node.Return None; height = 1; is = refl; form_is = stmts.return (token.return_is word hw) stmts.no hs; low = omega arith; some = λ e. cc })

  pub reads_return : ReadsAt (Stands (PlainForm l) top) (λ u. u ≡ sort.Return) (return_stmt l top)
  unfolding return_stmt
  reads_return = reads_token (λ z. cc) (λ word hw. reads_when sort.Semi
      (reads_token (λ z. cc) (λ semi hs. reads_pure (closed word.start (node.Return None) 1) (returned_none word hw semi (token.semi_is semi hs))))
      (reads_any (reads_if (nat_le top 1)
      (λ q. reads_refuse (closed word.start (node.Return None) 1, symbol ";" ∷ [], returned_none word hw (symbol ";") (a_symbol ";")))
      (λ q. reads_bind (laws.level (top - 1) (grind (arith, nat_tests)))
      (λ x us hx. expect_semi (λ semi hs. reads_pure (closed word.start (node.Return (Some x.expr)) (x.height + 1))
      (stands (record { node = node.Return (Some x.expr); height = x.height + 1; is = refl; form_is = rw (suc_is x.height) (stmts.return (token.return_is word hw) (stmts.yes hx.0) hs); low = let a = hx.1 in omega arith; some = λ e. cc }))))))))

  pub reads_throw : ReadsAt (Stands (PlainForm l) top) (λ u. u ≡ sort.Throw) (throw_stmt l top)
  unfolding throw_stmt
  reads_throw = reads_if (nat_le top 1)
      (λ q. reads_refuse (some_plain l top p))
      (λ q. reads_token (λ z. cc) (λ word hw. reads_bind (laws.level (top - 1) (grind (arith, nat_tests)))
      (λ x us hx. expect_semi (λ semi hs. reads_pure (closed word.start (node.Throw x.expr) (x.height + 1))
      (stands (record { node = node.Throw x.expr; height = x.height + 1; is = refl; form_is = rw (suc_is x.height) (stmts.throw (token.throw_is word hw) hx.0 hs); low = let a = hx.1 in omega arith; some = λ e. cc }))))))

  -- the end of an expression statement
  done_is : (at : ℕ) (x : Tall) (us : List Token) (semi : Token) → IsAction l (top - 1) x us → IsSymbol ";" semi → Closes (PlainForm l) top at (closed at (node.Do x.expr) (x.height + 1)) (us ++ semi ∷ [])
  done_is at x us semi h hs = record { node = node.Do x.expr; height = x.height + 1; is = refl; form_is = rw (suc_is x.height) (stmts.expression h.0 h.1 hs); low = let a = h.2 in omega arith; some = ends_some us semi }

  pub reads_done : (at : ℕ) (x : Tall) (us : List Token) → IsAction l (top - 1) x us → Reads (λ y vs. Closes (PlainForm l) top at y (us ++ vs)) (done at x)
  unfolding done
  reads_done at x us h = expect_semi (λ semi hs. reads_pure (closed at (node.Do x.expr) (x.height + 1)) (done_is at x us semi h hs))

  pub semi_at : (at : ℕ) → Closes (PlainForm l) top at (closed at node.Empty 1) (symbol ";" ∷ [])
  semi_at at = record { node = node.Empty; height = 1; is = refl; form_is = stmts.nothing (a_symbol ";"); low = omega arith; some = λ e. cc }

  pub reads_expression : Reads (Stands (PlainForm l) top) (expression l top)
  unfolding expression
  reads_expression = reads_map (place_then (Closes (PlainForm l) top) (λ at y k. k.some refl) (closed (symbol ";").start node.Empty 1, symbol ";" ∷ [], semi_at (symbol ";").start)
      (λ at. try_then (tries_action l laws (top - 1)) (closed at node.Empty 1, symbol ";" ∷ [], semi_at at)
      (λ x us h. reads_done at x us h)))
      (λ y us k. stands k)

-- a statement that may stand reads_any is one of a block
pub plain_item : (l : Limits) (h : ℕ) (o : Bool) (n : StmtNode) (us : List Token) → PlainForm l h o n us → ItemForm l h o n us
plain_item l h o n us k = stmts.single_plain k

pub some_item : (l : Limits) (top : ℕ) → 0 < top → Some_of (Stands (ItemForm l) top)
some_item l top p = let w = some_plain l top p in (w.0, w.1, other_form (plain_item l) w.2)

pub closes_item : (l : Limits) {top at : ℕ} {y : TallStmt} {ts : List Token} → Closes (PlainForm l) top at y ts → Closes (ItemForm l) top at y ts
closes_item l k = record { node = k.node; height = k.height; is = k.is; form_is = stmts.single_plain k.form_is; low = k.low; some = k.some }
