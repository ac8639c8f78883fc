-- What stands in parentheses is read alike where names and casts are told apart first.
use Rattle.std.proofs.Common.{◌≡◌, ◌⊎◌, inl, inr, ℕ, zero, suc, ◌-◌, ◌<◌, ◌≤◌, Bool, true, false, List, [], ◌∷◌, length, nat_le, nat_lt, Ok, Err, refl, sym, ap, ap₂, ◌∙◌, subst, arith}
use Rattle.mol_base.specs.Token.{Token}
use Rattle.jav_parse_cursor.specs.declared.limits.Limits.{Limits}
use Rattle.jav_parse_expr.specs.declared.primary.Goal.{Goal}
use Rattle.jav_parse_expr.specs.declared.primary.Goal.TheVariants.{Level, After}
use Rattle.jav_parse_cursor.specs.declared.sort.Sort.{Sort}
use Rattle.jav_parse_cursor.specs.declared.sort.Sort.TheVariants as sort
use Rattle.jav_parse_cursor.specs.declared.tall.Tall.{Tall}
use Rattle.jav_parse_expr.specs.ExprRules.{begins_operand, inside_by, postfix, operators, after_parens, closed, goes_on, name_closed, opened_by, opened_name, opened_at, opened, operand_by, operand, level, after, expr}
use Rattle.jav_parse_cursor.specs.Nodes as made
use Rattle.jav_parse_cursor.specs.Nodes.{count_of}
use Rattle.jav_parse_expr.specs.PrimaryRules.{Inside, free, is_link, index, chain, primary, parens, part, named, named_item}
use Rattle.jav_parse_cursor.specs.Reading.{Outcome, Parser, and_then, ◌>>=◌, pure, sort as next, take_token, expect}
use Rattle.jav_parse_cursor.specs.Sorts.{same_sort, sort_of}
use Rattle.jav_parse_cursor.specs.TypeRules.{qualified}
use Rattle.jav_parse.proofs.ChainLinks.{chain_ends}
use Rattle.jav_parse.proofs.CompleteTypes.{first_name}
use Rattle.jav_parse.proofs.FirstNames.{Goes, by_part, by_item, first_names}
use Rattle.jav_parse.proofs.OperatorSteps.{postfix_ends, operators_end}
use Rattle.jav_parse.proofs.Outcomes.{steps, Same, ok_same, not_refused, sort_or, expected, take_ok, le_false_is, lt_false_is}
use Rattle.jav_parse.proofs.ReadingSteps.{IsNot, is_not, expect_goes, le_false, ends_at, sort_at, BeginsPart}
use Rattle.jav_parse_expr.proofs.AtHeight.{expr_is}

-- two sorts with which no expression begins
abbrev Apart : List Token → Type 0
Apart ts = (next ts ≡ sort.Prim) ⊎ (next ts ≡ sort.Right)

no_primary : (l : Limits) (top : ℕ) (once : Goal → Parser Tall) (ts : List Token) → Apart ts → primary l top (free top) (inside_by once once once) ts ≡ Err ts
unfolding primary
no_primary l top once ts (inl h) = rw h refl
no_primary l top once ts (inr h) = rw h refl

no_part : (l : Limits) (top : ℕ) (once twice : Goal → Parser Tall) (ts : List Token) → Apart ts → (part l top (free top) (inside_by once once once) >>= postfix l top once twice) ts ≡ Err ts
unfolding part
no_part l top once twice ts h = rw (no_primary l top once ts h) refl

no_operand_at : (l : Limits) (top : ℕ) (once twice : Goal → Parser Tall) (ts : List Token) → Apart ts → operand l top once twice ts ≡ Err ts
unfolding operand
no_operand_at l top once twice ts (inl h) = rw h (no_part l top once twice ts (inl h))
no_operand_at l top once twice ts (inr h) = rw h (no_part l top once twice ts (inr h))

level_refused : (l : Limits) (top : ℕ) (once twice : Goal → Parser Tall) (k : ℕ) (ts : List Token) → operand l top once twice ts ≡ Err ts → level l top once twice k ts ≡ Err ts
unfolding level
level_refused l top once twice k ts h = rw h refl

refused_apart : {A : Type 0} (o : Outcome A) (ts : List Token) (r : A × List Token) → o ≡ Err ts → o ≡ Ok r → ⊥
refused_apart o ts r h k = absurd (let e = sym h ∙ k in cc)

none_at_zero : (l : Limits) (goal : Goal) (ts : List Token) → expr l 0 goal ts ≡ Err ts
unfolding expr
none_at_zero l goal ts = refl

-- no expression begins so, whatever its height
pub no_expr : (l : Limits) (d : ℕ) (ts : List Token) (r : Tall × List Token) → Apart ts → expr l d (Level 1) ts ≡ Ok r → ⊥
no_expr l zero ts r s h = refused_apart (expr l 0 (Level 1) ts) ts r (none_at_zero l (Level 1) ts) h
no_expr l (suc d) ts r s h = refused_apart (expr l (suc d) (Level 1) ts) ts r
    (expr_is l (suc d) (Level 1) (omega arith) ts ∙ level_refused l (suc d) (expr l (suc d - 1)) (expr l (suc d - 1 - 1)) 1 ts (no_operand_at l (suc d) (expr l (suc d - 1)) (expr l (suc d - 1 - 1)) ts s)) h

some_height : (l : Limits) (d : ℕ) (goal : Goal) (ts : List Token) (r : Tall × List Token) → expr l d goal ts ≡ Ok r → 0 < d
some_height l zero goal ts r h = absurd (refused_apart (expr l 0 goal ts) ts r (none_at_zero l goal ts) h)
some_height l (suc d) goal ts r h = omega arith

item_apart : (l : Limits) (top d : ℕ) (x : Tall) (ts : List Token) (r : Tall × List Token) → index l top (free top) (inside_by (expr l d) (expr l d) (expr l d)) x ts ≡ Ok r → IsNot sort.Right ts
unfolding index
item_apart l top d x ts r h =
    let s = steps (expr l d (Level 1) ts) (λ i. expect sort.Right >>= (λ _. pure (made.indexed x i))) r h in
    elim (sort_or sort.Right ts) [ inl f ↦ absurd (no_expr l d ts (s.value, s.rest) (inr f) s.first) | inr f ↦ f ]

item_tokens : (l : Limits) (top d : ℕ) (names ts : List Token) (r : Tall × List Token) → named_item l top (free top) (inside_by (expr l d) (expr l d) (expr l d)) names ts ≡ Ok r → IsNot sort.Right ts
unfolding named_item
item_tokens l top d names ts r h =
    let test = not_refused (nat_le top (count_of names)) (index l top (free top) (inside_by (expr l d) (expr l d) (expr l d)) (made.named l.builds names)) ts r h in
    item_apart l top d (made.named l.builds names) ts r test.1

-- ---- an expression whose first names are read

close_no_link : (c : Token) (us : List Token) → sort_of c ≡ sort.Close → is_link (next (c ∷ us)) ≡ false
unfolding next
close_no_link c us h = rw h refl

cons_tail : {a b : Token} {us vs : List Token} → a ∷ us ≡ b ∷ vs → us ≡ vs
cons_tail h = cc

end_apart : IsNot sort.Close []
unfolding next same_sort
end_apart = refl

end_not_name : IsNot sort.Name []
unfolding next same_sort
end_not_name = refl

bool_or : (a : Bool) → (a ≡ true) ⊎ (a ≡ false)
bool_or true = inl refl
bool_or false = inr refl

link_begins : (s : Sort) → is_link s ≡ true → begins_operand s ≡ false
link_begins sort.Dot h = refl
link_begins sort.Left h = refl
link_begins s h = absurd (cc)

module _ (l : Limits) (b : l.builds ≡ true) (top : ℕ) where
  -- the parsers that the rules take at this height
  abbrev Once : Goal → Parser Tall
  Once = expr l (top - 1)

  abbrev Twice : Goal → Parser Tall
  Twice = expr l (top - 1 - 1)

  closed_goes : (at : ℕ) (x : Tall) (close : Token) (rest : List Token) → sort_of close ≡ sort.Close → closed l top Once Twice at x (close ∷ rest) ≡ after_parens l top Once Twice (made.in_parens at x) rest
  unfolding closed
  closed_goes at x close rest h = rw (expect_goes close rest h) refl

  after_goes : (at : ℕ) (first x : Tall) (ts : List Token) (close : Token) (rest : List Token) → sort_of close ≡ sort.Close → Once (After first) ts ≡ Ok (x, close ∷ rest)
      → goes_on l top Once Twice at first ts ≡ after_parens l top Once Twice (made.in_parens at x) rest
  unfolding goes_on
  after_goes at first x ts close rest hc h = rw h (closed_goes at x close rest hc)

  other_is : (s : Sort) (at : ℕ) (names after : List Token) → same_sort s sort.Left ≡ false → same_sort s sort.Close ≡ false
      → opened_by l top Once Twice at names s after ≡ (named l (top - 1) (free (top - 1)) (inside_by Twice Twice Twice) names >>= goes_on l top Once Twice at) after
  unfolding same_sort
  other_is sort.Left at names after f c = absurd (cc)
  other_is sort.Close at names after f c = absurd (cc)
  other_is s at names after f c = refl

  -- names, and then no parenthesis and no bracket
  part_goes : (at : ℕ) (names after : List Token) (first x : Tall) (mid : List Token) (close : Token) (rest : List Token) → IsNot sort.Left after → IsNot sort.Close after
      → named l (top - 1) (free (top - 1)) (inside_by Twice Twice Twice) names after ≡ Ok (first, mid) → sort_of close ≡ sort.Close → Once (After first) mid ≡ Ok (x, close ∷ rest)
      → opened_by l top Once Twice at names (next after) after ≡ after_parens l top Once Twice (made.in_parens at x) rest
  part_goes at names after first x mid close rest f c h hc go =
      other_is (next after) at names after f c ∙ ap (λ o. and_then o (goes_on l top Once Twice at)) h ∙ after_goes at first x mid close rest hc go

  -- names, and then an index
  item_goes : (at : ℕ) (names : List Token) (left : Token) (us : List Token) (first x : Tall) (mid : List Token) (close : Token) (rest : List Token) → IsNot sort.Right us
      → named_item l (top - 1) (free (top - 1)) (inside_by Twice Twice Twice) names us ≡ Ok (first, mid) → sort_of close ≡ sort.Close → Once (After first) mid ≡ Ok (x, close ∷ rest)
      → opened_by l top Once Twice at names sort.Left (left ∷ us) ≡ after_parens l top Once Twice (made.in_parens at x) rest
  unfolding take_token
  item_goes at names left us first x mid close rest f h hc go =
      rw f (ap (λ o. and_then o (goes_on l top Once Twice at)) h ∙ after_goes at first x mid close rest hc go)

  name_goes : (at : ℕ) (names rest : List Token) → begins_operand (next rest) ≡ false → count_of names < top
      → name_closed l top Once Twice at names rest ≡ after_parens l top Once Twice (made.in_parens at (made.named l.builds names)) rest
  unfolding name_closed
  name_goes at names rest h low = rw (h, le_false top (count_of names) low) refl

  -- names alone
  close_goes : (at : ℕ) (names : List Token) (close : Token) (rest : List Token) → begins_operand (next rest) ≡ false → count_of names < top
      → opened_by l top Once Twice at names sort.Close (close ∷ rest) ≡ after_parens l top Once Twice (made.in_parens at (made.named l.builds names)) rest
  unfolding take_token
  close_goes at names close rest h low = name_goes at names rest h low

  operand_name : (d : ℕ) (us : List Token) → next us ≡ sort.Name → operand l d (expr l (d - 1)) (expr l (d - 1 - 1)) us
      ≡ (part l d (free d) (inside_by (expr l (d - 1)) (expr l (d - 1)) (expr l (d - 1))) >>= postfix l d (expr l (d - 1)) (expr l (d - 1 - 1))) us
  unfolding operand
  operand_name d us h = rw h refl

  -- the part with which an expression begins, and what goes on from it
  record Parts (d : ℕ) (us : List Token) (r : Tall × List Token) : Type 0 where
    first : Tall
    mid : List Token
    part_is : part l d (free d) (inside_by (expr l (d - 1)) (expr l (d - 1)) (expr l (d - 1))) us ≡ Ok (first, mid)
    tail : and_then (postfix l d (expr l (d - 1)) (expr l (d - 1 - 1)) first mid) (operators l d (expr l (d - 1)) (expr l (d - 1 - 1)) 1) ≡ Ok r

  parts : (d : ℕ) (us : List Token) (r : Tall × List Token) → 0 < d → next us ≡ sort.Name → expr l d (Level 1) us ≡ Ok r → Parts d us r
  unfolding level
  parts d us r some f h =
      let s = steps (operand l d (expr l (d - 1)) (expr l (d - 1 - 1)) us) (operators l d (expr l (d - 1)) (expr l (d - 1 - 1)) 1) r (sym (expr_is l d (Level 1) some us) ∙ h) in
      let p = steps (part l d (free d) (inside_by (expr l (d - 1)) (expr l (d - 1)) (expr l (d - 1))) us) (postfix l d (expr l (d - 1)) (expr l (d - 1 - 1))) (s.value, s.rest)
      (sym (operand_name d us f) ∙ s.first) in
      record { first = p.value; mid = p.rest; part_is = p.first; tail = ap (λ o. and_then o (operators l d (expr l (d - 1)) (expr l (d - 1 - 1)) 1)) p.second ∙ s.second }

  after_is : (d : ℕ) (first y : Tall) (ts mid : List Token) (r : Tall × List Token) → 0 < d
      → chain l d (free d) (inside_by (expr l (d - 1)) (expr l (d - 1)) (expr l (d - 1))) d first ts ≡ Ok (y, mid)
      → and_then (postfix l d (expr l (d - 1)) (expr l (d - 1 - 1)) y mid) (operators l d (expr l (d - 1)) (expr l (d - 1 - 1)) 1) ≡ Ok r → expr l d (After first) ts ≡ Ok r
  unfolding after
  after_is d first y ts mid r some h tail =
      expr_is l d (After first) some ts
      ∙ ap (λ o. and_then (and_then o (postfix l d (expr l (d - 1)) (expr l (d - 1 - 1)))) (operators l d (expr l (d - 1)) (expr l (d - 1 - 1)) 1)) h ∙ tail

  record Alone (d : ℕ) (names ts : List Token) (x : Tall) (us : List Token) : Type 0 where
    low : count_of names ≤ d
    same : Same (made.named l.builds names) x ts us

  named_alone : (d : ℕ) (e : Inside) (names ts : List Token) (x : Tall) (us : List Token) → IsNot sort.Open ts → named l d (free d) e names ts ≡ Ok (x, us) → Alone d names ts x us
  unfolding named
  named_alone d e names ts x us o h =
      let test = not_refused (nat_lt d (count_of names)) (pure (made.named l.builds names)) ts (x, us) (rw o at h) in
      record { low = lt_false_is d (count_of names) test.0; same = ok_same (made.named l.builds names) x ts us test.1 }

  close_ends : (d : ℕ) (x : Tall) (c : Token) (rest : List Token) → sort_of c ≡ sort.Close
      → and_then (postfix l d (expr l (d - 1)) (expr l (d - 1 - 1)) x (c ∷ rest)) (operators l d (expr l (d - 1)) (expr l (d - 1 - 1)) 1) ≡ Ok (x, c ∷ rest)
  unfolding same_sort
  close_ends d x c rest h =
      ap (λ o. and_then o (operators l d (expr l (d - 1)) (expr l (d - 1 - 1)) 1)) (postfix_ends l d (expr l (d - 1)) (expr l (d - 1 - 1)) x (c ∷ rest) (is_not sort.Step sort.Close c rest h refl))
      ∙ operators_end l d (expr l (d - 1)) (expr l (d - 1 - 1)) 1 x (c ∷ rest) (omega arith) (ends_at sort.Close 1 c rest h (omega arith))

  -- names alone: what was read is what they are
  alone_goes : (at : ℕ) (names : List Token) (c : Token) (us : List Token) (first y x : Tall) (m0 mid : List Token) (close : Token) (rest : List Token) → sort_of c ≡ sort.Close → 0 < top
      → named l (top - 1) (free (top - 1)) (inside_by Twice Twice Twice) names (c ∷ us) ≡ Ok (first, m0)
      → chain l (top - 1) (free (top - 1)) (inside_by Twice Twice Twice) (top - 1) first m0 ≡ Ok (y, mid)
      → and_then (postfix l (top - 1) Twice (expr l (top - 1 - 1 - 1)) y mid) (operators l (top - 1) Twice (expr l (top - 1 - 1 - 1)) 1) ≡ Ok (x, close ∷ rest)
      → begins_operand (next rest) ≡ false → opened_by l top Once Twice at names sort.Close (c ∷ us) ≡ after_parens l top Once Twice (made.in_parens at x) rest
  unfolding same_sort
  alone_goes at names c us first y x m0 mid close rest hc some h go tail free_of =
      let a = named_alone (top - 1) (inside_by Twice Twice Twice) names (c ∷ us) first m0 (is_not sort.Open sort.Close c us hc refl) h in
      let stays : chain l (top - 1) (free (top - 1)) (inside_by Twice Twice Twice) (top - 1) first m0 ≡ Ok (first, c ∷ us) =
      subst (λ ws. chain l (top - 1) (free (top - 1)) (inside_by Twice Twice Twice) (top - 1) first ws ≡ Ok (first, c ∷ us)) a.same.rest
      (chain_ends l (top - 1) (free (top - 1)) (inside_by Twice Twice Twice) (top - 1) first (c ∷ us) (close_no_link c us hc)) in
      let p = ok_same first y (c ∷ us) mid (sym stays ∙ go) in
      let q = ok_same first x (c ∷ us) (close ∷ rest) (sym (close_ends (top - 1) first c us hc)
      ∙ subst (λ v. and_then (postfix l (top - 1) Twice (expr l (top - 1 - 1 - 1)) v (c ∷ us)) (operators l (top - 1) Twice (expr l (top - 1 - 1 - 1)) 1) ≡ Ok (x, close ∷ rest)) (sym p.value)
      (subst (λ ws. and_then (postfix l (top - 1) Twice (expr l (top - 1 - 1 - 1)) y ws) (operators l (top - 1) Twice (expr l (top - 1 - 1 - 1)) 1) ≡ Ok (x, close ∷ rest)) (sym p.rest) tail)) in
      let tails : us ≡ rest = cons_tail q.rest in let low = a.low in
      close_goes at names c us (subst (λ ws. begins_operand (next ws) ≡ false) (sym tails) free_of) (omega arith)
      ∙ ap₂ (λ v ws. after_parens l top Once Twice (made.in_parens at v) ws) (a.same.value ∙ q.value) tails

  -- what follows the names decides how reading goes on
  names_goes : (at : ℕ) (names after : List Token) (y x : Tall) (mid : List Token) (close : Token) (rest : List Token) → sort_of close ≡ sort.Close → 0 < top - 1
      → Goes l (top - 1) (free (top - 1)) (inside_by Twice Twice Twice) names after (y, mid)
      → and_then (postfix l (top - 1) Twice (expr l (top - 1 - 1 - 1)) y mid) (operators l (top - 1) Twice (expr l (top - 1 - 1 - 1)) 1) ≡ Ok (x, close ∷ rest)
      → begins_operand (next rest) ≡ false → opened_by l top Once Twice at names (next after) after ≡ after_parens l top Once Twice (made.in_parens at x) rest
  names_goes at names after y x mid close rest hc some (by_item left us first m0 split f h go) tail free_of =
      subst (λ ws. opened_by l top Once Twice at names (next ws) ws ≡ after_parens l top Once Twice (made.in_parens at x) rest) (sym split)
      (ap (λ s. opened_by l top Once Twice at names s (left ∷ us)) (sort_at left us ∙ f)
      ∙ item_goes at names left us first x m0 close rest (item_tokens l (top - 1) (top - 1 - 1) names us (first, m0) h) h hc (after_is (top - 1) first y m0 mid (x, close ∷ rest) some go tail))
  names_goes at names [] y x mid close rest hc some (by_part first m0 f h go) tail free_of =
      part_goes at names [] first x m0 close rest f end_apart h hc (after_is (top - 1) first y m0 mid (x, close ∷ rest) some go tail)
  names_goes at names (c ∷ us) y x mid close rest hc some (by_part first m0 f h go) tail free_of =
      elim (sort_or sort.Close (c ∷ us)) [
        | inl k ↦ ap (λ s. opened_by l top Once Twice at names s (c ∷ us)) k ∙ alone_goes at names c us first y x m0 mid close rest (sym (sort_at c us) ∙ k) (omega arith) h go tail free_of
        | inr k ↦ part_goes at names (c ∷ us) first x m0 close rest f k h hc (after_is (top - 1) first y m0 mid (x, close ∷ rest) some go tail)
      ]

  name_opens : (at : ℕ) (us after names : List Token) → qualified l.turns us ≡ Ok (names, after) → opened_name l top Once Twice at us ≡ opened_by l top Once Twice at names (next after) after
  unfolding opened_name
  name_opens at us after names h = rw h refl

  at_name : (at : ℕ) (t : Token) (ws : List Token) (x : Tall) (close : Token) (rest : List Token) → sort_of t ≡ sort.Name → length ws < l.turns → sort_of close ≡ sort.Close
      → begins_operand (next rest) ≡ false → Once (Level 1) (t ∷ ws) ≡ Ok (x, close ∷ rest) → opened_name l top Once Twice at (t ∷ ws) ≡ after_parens l top Once Twice (made.in_parens at x) rest
  at_name at t ws x close rest ht few hc free_of h =
      let some = some_height l (top - 1) (Level 1) (t ∷ ws) (x, close ∷ rest) h in
      let p = parts (top - 1) (t ∷ ws) (x, close ∷ rest) some (sort_at t ws ∙ ht) h in
      let n = first_names l (top - 1) (free (top - 1)) (inside_by Twice Twice Twice) b t ws l.turns ht few (p.first, p.mid) p.part_is in
      name_opens at (t ∷ ws) n.after n.names (first_name l.turns t ws ht ∙ n.read)
      ∙ names_goes at n.names n.after p.first x p.mid close rest hc some n.goes p.tail free_of

  opened_is : (left : Token) (us : List Token) → opened l top Once Twice (left ∷ us) ≡ opened_at l top Once Twice left.start (next us) us
  unfolding opened take_token
  opened_is left us = refl

  plain_is : (s : Sort) (at : ℕ) (us : List Token) → same_sort s sort.Prim ≡ false → same_sort s sort.Name ≡ false
      → opened_at l top Once Twice at s us ≡ (Once (Level 1) >>= closed l top Once Twice at) us
  unfolding same_sort
  plain_is sort.Prim at us p n = absurd (cc)
  plain_is sort.Name at us p n = absurd (cc)
  plain_is s at us p n = refl

  at_other : (at : ℕ) (us : List Token) (x : Tall) (close : Token) (rest : List Token) → IsNot sort.Name us → sort_of close ≡ sort.Close
      → Once (Level 1) us ≡ Ok (x, close ∷ rest) → opened_at l top Once Twice at (next us) us ≡ after_parens l top Once Twice (made.in_parens at x) rest
  at_other at us x close rest n hc h =
      elim (sort_or sort.Prim us) [
        | inl k ↦ absurd (no_expr l (top - 1) us (x, close ∷ rest) (inl k) h)
        | inr k ↦ plain_is (next us) at us k n ∙ ap (λ o. and_then o (closed l top Once Twice at)) h ∙ closed_goes at x close rest hc
      ]

  -- an expression in parentheses is read as one, whatever it begins with
  pub opened_reads : (left : Token) (us : List Token) (x : Tall) (close : Token) (rest : List Token) → length us < l.turns → sort_of close ≡ sort.Close → begins_operand (next rest) ≡ false
      → Once (Level 1) us ≡ Ok (x, close ∷ rest) → opened l top Once Twice (left ∷ us) ≡ after_parens l top Once Twice (made.in_parens left.start x) rest
  opened_reads left [] x close rest few hc free_of h = opened_is left [] ∙ at_other left.start [] x close rest end_not_name hc h
  opened_reads left (t ∷ ws) x close rest few hc free_of h =
      elim (sort_or sort.Name (t ∷ ws)) [
        | inl k ↦ opened_is left (t ∷ ws) ∙ ap (λ s. opened_at l top Once Twice left.start s (t ∷ ws)) k ∙ at_name left.start t ws x close rest (sym (sort_at t ws) ∙ k) (omega arith) hc free_of h
        | inr k ↦ opened_is left (t ∷ ws) ∙ at_other left.start (t ∷ ws) x close rest k hc h
      ]

  -- ---- an operand that is a part

  plain_operand : (s : Sort) (ts : List Token) → BeginsPart s → same_sort s sort.Open ≡ false → operand_by l top Once Twice s ts ≡ (part l top (free top) (inside_by Once Once Once) >>= postfix l top Once Twice) ts
  unfolding same_sort
  plain_operand sort.Open ts p o = absurd (cc)
  plain_operand sort.Name ts p o = refl
  plain_operand sort.Literal ts p o = refl
  plain_operand sort.This ts p o = refl
  plain_operand sort.Super ts p o = refl
  plain_operand sort.New ts p o = refl
  plain_operand s ts p o = absurd p

  operand_is : (ts : List Token) → operand l top Once Twice ts ≡ operand_by l top Once Twice (next ts) ts
  unfolding operand
  operand_is ts = refl

  open_is : (ts : List Token) → 1 < top → operand_by l top Once Twice sort.Open ts ≡ opened l top Once Twice ts
  open_is ts low = rw (le_false top 1 low) refl

  -- what a parenthesis at the front of a part reads
  record ParensRead (ts : List Token) (r : Tall × List Token) : Type 0 where
    left : Token
    us : List Token
    split : ts ≡ left ∷ us
    low : 1 < top
    inner : Tall
    close : Token
    mid : List Token
    is_close : sort_of close ≡ sort.Close
    read : Once (Level 1) us ≡ Ok (inner, close ∷ mid)
    goes : chain l top (free top) (inside_by Once Once Once) top (made.in_parens left.start inner) mid ≡ Ok r

  primary_open : (ts : List Token) → next ts ≡ sort.Open → primary l top (free top) (inside_by Once Once Once) ts ≡ parens l top (free top) (inside_by Once Once Once) ts
  unfolding primary
  primary_open ts h = rw h refl

  parens_read : (ts : List Token) (r : Tall × List Token) → next ts ≡ sort.Open → part l top (free top) (inside_by Once Once Once) ts ≡ Ok r → ParensRead ts r
  unfolding part parens
  parens_read ts r f h =
      let s = steps (primary l top (free top) (inside_by Once Once Once) ts) (chain l top (free top) (inside_by Once Once Once) top) r h in
      let test = not_refused (nat_le top 1) (take_token >>= (λ left. Once (Level 1) >>= (λ x. expect sort.Close >>= (λ _. pure (made.in_parens left.start x))))) ts (s.value, s.rest)
      (sym (primary_open ts f) ∙ s.first) in
      let a = steps (take_token ts) (λ left. Once (Level 1) >>= (λ x. expect sort.Close >>= (λ _. pure (made.in_parens left.start x)))) (s.value, s.rest) test.1 in
      let c = steps (Once (Level 1) a.rest) (λ x. expect sort.Close >>= (λ _. pure (made.in_parens (a.value).start x))) (s.value, s.rest) a.second in
      let d = steps (expect sort.Close c.rest) (λ _. pure (made.in_parens (a.value).start c.value)) (s.value, s.rest) c.second in
      let k = expected sort.Close c.rest d.value d.rest d.first in
      let same = ok_same (made.in_parens (a.value).start c.value) s.value d.rest s.rest d.second in
      record {
        left = a.value;
        us = a.rest;
        split = take_ok ts a.value a.rest a.first;
        low = le_false_is top 1 test.0;
        inner = c.value;
        close = d.value;
        mid = d.rest;
        is_close = k.is;
        read = c.first ∙ ap (λ ws. Ok (c.value, ws)) k.split;
        goes = subst (λ v. chain l top (free top) (inside_by Once Once Once) top v d.rest ≡ Ok r) (sym same.value)
            (subst (λ ws. chain l top (free top) (inside_by Once Once Once) top s.value ws ≡ Ok r) (sym same.rest) s.second);
      }

  -- what follows a parenthesis begins no operand where what follows the part does not
  link_or : (ts : List Token) → (is_link (next ts) ≡ true) ⊎ (is_link (next ts) ≡ false)
  link_or ts = bool_or (is_link (next ts))

  after_free : (x y : Tall) (mid rest : List Token) → chain l top (free top) (inside_by Once Once Once) top x mid ≡ Ok (y, rest) → begins_operand (next rest) ≡ false → begins_operand (next mid) ≡ false
  after_free x y mid rest h free_of =
      elim (link_or mid) [
        | inl k ↦ link_begins (next mid) k
        | inr k ↦ (let same = ok_same x y mid rest (sym (chain_ends l top (free top) (inside_by Once Once Once) top x mid k) ∙ h) in subst (λ ws. begins_operand (next ws) ≡ false) (sym same.rest) free_of)
      ]

  after_parens_is : (x y : Tall) (mid rest : List Token) → chain l top (free top) (inside_by Once Once Once) top x mid ≡ Ok (y, rest) → after_parens l top Once Twice x mid ≡ postfix l top Once Twice y rest
  unfolding after_parens
  after_parens_is x y mid rest h = rw h refl

  at_open : (ts : List Token) (x : Tall) (rest : List Token) → length ts ≤ l.turns → next ts ≡ sort.Open → begins_operand (next rest) ≡ false
      → part l top (free top) (inside_by Once Once Once) ts ≡ Ok (x, rest) → operand l top Once Twice ts ≡ postfix l top Once Twice x rest
  at_open ts x rest few f free_of h =
      let p = parens_read ts (x, rest) f h in
      let all = ap length p.split in
      operand_is ts ∙ ap (λ s. operand_by l top Once Twice s ts) f ∙ open_is ts p.low ∙ ap (opened l top Once Twice) p.split
      ∙ opened_reads p.left p.us p.inner p.close p.mid (omega arith) p.is_close (after_free (made.in_parens (p.left).start p.inner) x p.mid rest p.goes free_of) p.read
      ∙ after_parens_is (made.in_parens (p.left).start p.inner) x p.mid rest p.goes

  -- an operand that begins as a part, read as one
  pub operand_part : (ts : List Token) (x : Tall) (rest : List Token) → length ts ≤ l.turns → BeginsPart (next ts) → begins_operand (next rest) ≡ false
      → part l top (free top) (inside_by Once Once Once) ts ≡ Ok (x, rest) → operand l top Once Twice ts ≡ postfix l top Once Twice x rest
  operand_part ts x rest few p free_of h =
      elim (sort_or sort.Open ts) [
        | inl f ↦ at_open ts x rest few f free_of h
        | inr f ↦ operand_is ts ∙ plain_operand (next ts) ts p f ∙ ap (λ o. and_then o (postfix l top Once Twice)) h
      ]
