-- Parameters that are read.
use Rattle.std.proofs.Common.{ℕ, zero, suc, ◌+◌, ◌-◌, ◌≤◌, Bool, true, false, List, [], ◌∷◌, ◌++◌, length, sym, append_assoc, arith}
use Rattle.std.proofs.lemmas.List.{append-nil, length-append}
use Rattle.mol_base.specs.Token.{Token}
use Rattle.jav_tree.specs.declared.unit.Param.{Param}
use Rattle.jav_tree.specs.Tokens.{IsSymbol}
use Rattle.jav_tree.specs.Statements as stmts
use Rattle.jav_tree.specs.Statements.{MaybeFinal}
use Rattle.jav_tree.specs.Members as tree
use Rattle.jav_tree.specs.Members.{Parameter, ParameterList, Parameters}
use Rattle.jav_parse_cursor.specs.declared.limits.Limits.{Limits}
use Rattle.jav_parse_cursor.specs.declared.sort.Sort.TheVariants as sort
use Rattle.jav_parse_unit.specs.MemberRules.{param_of, param, further_params, some_params, params}
use Rattle.jav_parse.proofs.ExpressionLaws.{ExpressionLaws}
use Rattle.jav_parse.proofs.Meets.{Spelling, Reads, reads_pure, reads_map, reads_any, reads_bind, reads_token, reads_when}
use Rattle.jav_parse.proofs.TokenSorts as token
use Rattle.jav_parse.proofs.TokenSteps.{expect_open, expect_close, expect_name}
use Rattle.jav_parse.proofs.Within.{IsBuilding}

-- one parameter more at the end
more_parameters : {limit : ℕ} {ps : List Param} {ts us : List Token} {comma : Token} {p : Param} → ParameterList limit ps ts → IsSymbol "," comma → Parameter limit p us
    → ParameterList limit (ps ++ p ∷ []) (ts ++ comma ∷ us)
more_parameters (tree.last x) c y = tree.more x c (tree.last y)
more_parameters {limit} {ps} {ts} {us} {comma} {p} (tree.more {comma = c0} {ts = qs} {us = rs} x d rest) c y =
    rw (append_assoc qs (c0 ∷ rs) (comma ∷ us)) (tree.more x d (more_parameters rest c y))

module _ (l : Limits) (good : IsBuilding l) (laws : ExpressionLaws l) where
  reads_typed : (is_final : Bool) (fs : List Token) → MaybeFinal is_final fs → Reads (λ y vs. Parameter l.most y (fs ++ vs)) (param_of l)
  unfolding param_of
  reads_typed is_final fs hf = reads_bind laws.type (λ to us ht. expect_name (λ t hn. reads_pure (record { ty = to; name = t.text }) (tree.parameter hf ht hn)))

  reads_param : Reads (Parameter l.most) (param l)
  unfolding param
  reads_param = reads_when sort.Final
      (reads_token (λ z. cc) (λ t ht. reads_typed true (t ∷ []) (stmts.yes (token.final_is t ht))))
      (reads_any (reads_typed false [] stmts.no))

  -- parameters, and no more than `most`
  abbrev AreParams : ℕ → Spelling (List Param)
  AreParams most ps ts = ParameterList l.most ps ts × (length ps ≤ most)

  one_param : (n : ℕ) (all : List Param) (ts : List Token) → ParameterList l.most all ts → length all + suc n ≤ l.most → (comma : Token) → IsSymbol "," comma → (x : Param) (us : List Token)
      → Parameter l.most x us → ParameterList l.most (all ++ x ∷ []) (ts ++ comma ∷ us) × (length (all ++ x ∷ []) + n ≤ l.most)
  one_param n all ts h few comma hc x us k = (more_parameters h hc k, let e = length-append all (x ∷ []) in omega arith)

  reads_further : (n : ℕ) (all : List Param) (ts : List Token) → ParameterList l.most all ts → length all + n ≤ l.most → Reads (λ y vs. AreParams l.most y (ts ++ vs)) (further_params l n all)
  unfolding further_params
  reads_further zero all ts h few = reads_pure all (rw append-nil h, omega arith)
  reads_further (suc n) all ts h few = reads_when sort.Comma
      (reads_token (λ z. cc) (λ comma hc. reads_bind reads_param
      (λ x us k. let m = one_param n all ts h few comma (token.comma_is comma hc) x us k in
      reads_map (reads_further n (all ++ x ∷ []) (ts ++ comma ∷ us) (m.0) (m.1)) (λ y vs q. rw append_assoc at q))))
      (reads_pure all (rw append-nil h, omega arith))

  pub reads_params : Reads (Parameters l.most) (params l)
  unfolding params some_params
  reads_params = expect_open (λ left hl. reads_when sort.Close
      (reads_token (λ z. cc) (λ right hr. reads_pure [] (tree.none hl (token.close_is right hr))))
      (reads_any (reads_bind reads_param (λ x us k. reads_bind (reads_further (l.most - 1) (x ∷ []) us (tree.last k) (let some = good.some in omega arith))
      (λ all vs h. expect_close (λ right hr. reads_pure all (rw (sym (append_assoc us vs (right ∷ []))) (tree.some hl h.0 hr h.1))))))))
