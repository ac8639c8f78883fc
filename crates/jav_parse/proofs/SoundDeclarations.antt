-- Declarations of local variables, and what begins with a name or with `super`.
use Rattle.std.proofs.Common.{◌≡◌, ℕ, ◌+◌, ◌-◌, ◌<◌, inl, inr, Bool, true, false, nat_eq, List, [], ◌∷◌, ◌++◌, refl, sym, ap, ◌∙◌, append_assoc, arith}
use Rattle.std.proofs.lemmas.Bool.Decides.{nat_tests}
use Rattle.mol_base.specs.Token.{Token}
use Rattle.jav_tree.specs.declared.types.TypeName.{TypeName}
use Rattle.jav_tree.specs.declared.stmt.StmtNode.TheVariants as node
use Rattle.jav_tree.specs.Tokens.{IsSymbol, IsKeyword}
use Rattle.jav_tree.specs.Types.{WholeType}
use Rattle.jav_tree.specs.Statements as stmts
use Rattle.jav_tree.specs.Statements.{MaybeFinal, Plain, Single, SuperStart, Declaration}
use Rattle.jav_parse_expr.specs.declared.action.Lead.{Lead}
use Rattle.jav_parse_expr.specs.declared.action.Lead.TheVariants as lead
use Rattle.jav_parse_cursor.specs.declared.limits.Limits.{Limits}
use Rattle.jav_parse_stmt.specs.declared.local.VariableList.{VariableList}
use Rattle.jav_parse_cursor.specs.declared.sort.Sort.TheVariants as sort
use Rattle.jav_parse_stmt.specs.declared.stmt_tall.TallStmt.{TallStmt}
use Rattle.jav_parse_cursor.specs.declared.tall.Listed.{Listed}
use Rattle.jav_parse_expr.specs.ActionRules.{super_action}
use Rattle.jav_parse_stmt.specs.LocalRules.{declarators}
use Rattle.jav_parse_cursor.specs.Reading.{◌>>=◌, take_token, when_next}
use Rattle.jav_parse_stmt.specs.StmtRules.{closed, super_start, done, super_first, local_of, local, led, named}
use Rattle.jav_parse.proofs.ExpressionLaws.{ExpressionLaws, IsLead}
use Rattle.jav_parse.proofs.Within.{AreArguments}
use Rattle.jav_parse.proofs.Meets.{ReadsAt, Reads, some_of, reads_pure, reads_map, reads_any, reads_bind, reads_token, reads_when}
use Rattle.jav_parse.proofs.SoundLocals.{placed_names, AreVariables, reads_variables}
use Rattle.jav_parse.proofs.StatementForms.{Stands, Closes, stands, ends_some, suc_is}
use Rattle.jav_parse.proofs.Steps.{TriesAt, tries_if, try_then, place_then}
use Rattle.jav_parse.proofs.TokenSorts as token
use Rattle.jav_parse.proofs.TokenSteps.{expect_semi, expect_name, symbol}
use Rattle.jav_parse.proofs.SoundStatements.{PlainForm, ItemForm, SuperForm, closes_item, semi_at, reads_done}

module _ (l : Limits) (laws : ExpressionLaws l) (top : ℕ) (p : 0 < top) where
  some_at : (at : ℕ) → Closes (ItemForm l) top at (closed at node.Empty 1) (symbol ";" ∷ [])
  some_at at = closes_item l (semi_at l laws top p at)

  local_is : (at : ℕ) (is_final : Bool) (to : TypeName) (fs us : List Token) → MaybeFinal is_final fs → WholeType l.most to us → (all : VariableList) (vs : List Token)
      → AreVariables l laws (top - 1) all vs → (semi : Token) → IsSymbol ";" semi
      → Closes (ItemForm l) top at (closed at (node.Let (record { is_final = is_final; ty = to; names = declarators all.items })) (all.height + 1)) (fs ++ (us ++ (vs ++ semi ∷ [])))
  local_is at is_final to fs us hf ht all vs ha semi hs =
      let e : (fs ++ (us ++ vs)) ++ semi ∷ [] ≡ fs ++ (us ++ (vs ++ semi ∷ [])) = append_assoc fs (us ++ vs) (semi ∷ []) ∙ ap (λ r. fs ++ r) (append_assoc us vs (semi ∷ [])) in
      record {
        node = node.Let (record { is_final = is_final; ty = to; names = declarators all.items });
        height = all.height + 1;
        is = refl;
        form_is = rw (suc_is all.height, sym (placed_names all.items), sym e) (stmts.single_declaration (stmts.declaration hf ht ha.0) hs);
        low = let a = ha.1 in omega arith;
        some = λ q. ends_some (fs ++ (us ++ vs)) semi (e ∙ q);
      }

  -- a declaration after its type
  reads_local_of : (at : ℕ) (is_final : Bool) (to : TypeName) (fs us : List Token) → MaybeFinal is_final fs → WholeType l.most to us
      → Reads (λ y vs. Closes (ItemForm l) top at y (fs ++ (us ++ vs))) (local_of l top at is_final to)
  unfolding local_of
  reads_local_of at is_final to fs us hf ht = expect_name (λ first hn. reads_bind (reads_variables l laws (top - 1) first hn)
      (λ all vs ha. expect_semi (λ semi hs. reads_pure _ (local_is at is_final to fs us hf ht all (first ∷ vs) ha semi hs))))

  pub reads_local : Reads (Stands (ItemForm l) top) (local l top)
  unfolding local
  reads_local = reads_map (place_then (Closes (ItemForm l) top) (λ at y k. k.some refl) (closed (symbol ";").start node.Empty 1, symbol ";" ∷ [], some_at (symbol ";").start)
      (λ at. reads_when sort.Final
      (reads_token (λ z. cc) (λ t ht. reads_bind laws.type (λ to us h. reads_local_of at true to (t ∷ []) us (stmts.yes (token.final_is t ht)) h)))
      (reads_any (reads_bind laws.type (λ to us h. reads_local_of at false to [] us stmts.no h)))))
      (λ y us k. stands k)

  reads_led : (at : ℕ) (x : Lead) (us : List Token) → IsLead l (top - 1) x us → Reads (λ y vs. Closes (ItemForm l) top at y (us ++ vs)) (led l top at x)
  reads_led at (lead.Declaration to) us h = reads_local_of at false to [] us stmts.no h
  reads_led at (lead.Part first) us h = reads_bind h (λ x vs hx. reads_map (reads_done l laws top p at x (us ++ vs) hx) (λ y ws k. rw append_assoc at (closes_item l k)))

  -- what begins with a name
  pub reads_named : Reads (Stands (ItemForm l) top) (named l top)
  unfolding named
  reads_named = reads_map (place_then (Closes (ItemForm l) top) (λ at y k. k.some refl) (closed (symbol ";").start node.Empty 1, symbol ";" ∷ [], some_at (symbol ";").start)
      (λ at. reads_bind (laws.lead (top - 1)) (λ x us h. reads_led at x us h)))
      (λ y us k. stands k)

  -- what begins with `super`
  super_is : (word : Token) → IsKeyword "super" word → (args : Listed) (us : List Token) → AreArguments l top args us → (semi : Token) → IsSymbol ";" semi
      → Closes (SuperForm l) top word.start (closed word.start (node.SuperInit args.exprs) (args.height + 1)) (word ∷ us ++ semi ∷ [])
  super_is word hw args us ha semi hs = record { node = node.SuperInit args.exprs; height = args.height + 1; is = refl; form_is = inl (rw (suc_is args.height) (stmts.super_start hw ha.0 hs)); low = let a = ha.1 in omega arith; some = λ e. cc }

  reads_start : (word : Token) → IsKeyword "super" word → Reads (λ y vs. Stands (SuperForm l) top y (word ∷ vs)) (super_start l top word.start)
  unfolding super_start
  reads_start word hw = reads_bind (laws.arguments_are top p) (λ args us ha. expect_semi (λ semi hs. reads_pure _ (stands (super_is word hw args us ha semi hs))))

  closes_super : {at : ℕ} {y : TallStmt} {ts : List Token} → Closes (PlainForm l) top at y ts → Closes (SuperForm l) top at y ts
  closes_super k = record { node = k.node; height = k.height; is = k.is; form_is = inr (stmts.single_plain k.form_is); low = k.low; some = k.some }

  pub reads_super : ReadsAt (Stands (SuperForm l) top) (λ u. u ≡ sort.Super) (take_token >>= (λ word. when_next sort.Open (super_start l top word.start) (super_action l (top - 1) word.start >>= done word.start)))
  reads_super = reads_token (λ z. cc) (λ word hw. reads_when sort.Open
      (reads_any (reads_start word (token.super_is word hw)))
      (reads_any (try_then (laws.super_acts (top - 1) word (token.super_is word hw)) (some_of (reads_start word (token.super_is word hw)))
      (λ x us h. reads_map (reads_done l laws top p word.start x (word ∷ us) h) (λ y vs k. stands (closes_super k))))))

-- the first statement of a constructor, where anything fits
pub tries_super : (l : Limits) (laws : ExpressionLaws l) (top : ℕ) → TriesAt (Stands (SuperForm l) top) (λ u. u ≡ sort.Super) (super_first l top)
unfolding super_first
tries_super l laws top = tries_if (nat_eq top 0) (λ q. reads_super l laws top (grind (arith, nat_tests)))
