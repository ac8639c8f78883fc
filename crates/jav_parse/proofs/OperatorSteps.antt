-- How reading goes on by operators after an operand, and where it ends.
use Rattle.std.proofs.Common.{◌≡◌, ◌⊎◌, inl, inr, ℕ, zero, suc, ◌+◌, ◌<◌, ◌≤◌, Bool, true, false, ◌||◌, ◌&&◌, max, List, ◌∷◌, nat_le, Ok, refl, sym, ap, ◌∙◌, subst, if◌then◌else◌, arith}
use Rattle.mol_base.specs.Token.{Token}
use Rattle.jav_tree.specs.declared.types.TypeName.{TypeName}
use Rattle.jav_parse_cursor.specs.declared.limits.Limits.{Limits}
use Rattle.jav_parse_expr.specs.declared.primary.Goal.{Goal}
use Rattle.jav_parse_expr.specs.declared.primary.Goal.TheVariants.{Level}
use Rattle.jav_parse_cursor.specs.declared.sort.Sort.{Sort}
use Rattle.jav_parse_cursor.specs.declared.sort.Sort.TheVariants as sort
use Rattle.jav_parse_cursor.specs.declared.tall.Tall.{Tall}
use Rattle.jav_parse_expr.specs.ExprRules.{level_of, is_assignment, step_after, postfix, assign_to, assignment, instance_of, binary, operation, climb, choice, operators}
use Rattle.jav_parse_cursor.specs.Nodes as made
use Rattle.jav_parse_cursor.specs.Nodes.{is_target}
use Rattle.jav_parse_cursor.specs.Reading.{Parser, and_then, ◌>>=◌, pure, sort as next, peek, take_token}
use Rattle.jav_parse_cursor.specs.Sorts.{same_sort, sort_of}
use Rattle.jav_parse_cursor.specs.TypeRules.{whole_type}
use Rattle.jav_parse.proofs.ReadingSteps.{IsNot, expect_goes, same_self, lt_true, lt_false, le_true, le_false, binds, Ends, ends_not, ends_level}
use Rattle.jav_parse.proofs.SortsOfTokens.{IsOperator}

and_false : (a : Bool) → (a && false) ≡ false
and_false true = refl
and_false false = refl

or_false : (a b : Bool) → a ≡ false → b ≡ false → (a || b) ≡ false
or_false true b h k = absurd (cc)
or_false false b h k = k

no_assignment_by : (s : Sort) → binds s < 1 → is_assignment s ≡ false
no_assignment_by sort.Equals h = absurd (omega arith)
no_assignment_by sort.Compound h = absurd (omega arith)
no_assignment_by s h = refl

pub no_assignment : (ts : List Token) → Ends 1 ts → is_assignment (next ts) ≡ false
no_assignment ts h = no_assignment_by (next ts) h

-- what is an operator is no assignment
operator_by : (s : Sort) → 0 < level_of s → is_assignment s ≡ false
operator_by sort.Equals h = absurd (omega arith)
operator_by sort.Compound h = absurd (omega arith)
operator_by s h = refl

pub operator_apart : (s : Sort) (own : ℕ) → level_of s ≡ own → 3 ≤ own → is_assignment s ≡ false
operator_apart s own h low = operator_by s (omega arith)

-- the test for an assignment
assigns_not : (k : ℕ) (target assigns : Bool) → (assigns ≡ false) ⊎ (1 < k) → (nat_le k 1 && (target && assigns)) ≡ false
assigns_not k target assigns (inl h) = rw (h, and_false target) (and_false (nat_le k 1))
assigns_not k target assigns (inr h) = rw (le_false k 1 h) refl

question_not : (k : ℕ) (ts : List Token) → Ends k ts → (nat_le k 2 && same_sort (next ts) sort.Question) ≡ false
question_not zero ts h = absurd (omega arith)
question_not (suc zero) ts h = ends_not sort.Question 1 ts h (omega arith)
question_not (suc (suc zero)) ts h = ends_not sort.Question 2 ts h (omega arith)
question_not (suc (suc (suc k))) ts h = rw (le_false (suc (suc (suc k))) 2 (omega arith)) refl

module _ (l : Limits) (top : ℕ) (once twice : Goal → Parser Tall) where
  pub postfix_ends : (x : Tall) (ts : List Token) → IsNot sort.Step ts → postfix l top once twice x ts ≡ Ok (x, ts)
  unfolding postfix
  postfix_ends x ts h = rw h refl

  step_goes : (x : Tall) (op : Token) (rest : List Token) → is_target x.shape ≡ true → x.height < top → step_after l top once twice x (op ∷ rest) ≡ Ok (made.stepped x op, rest)
  unfolding step_after take_token
  step_goes x op rest t low = rw (t, le_false top x.height low) refl

  pub postfix_goes : (x : Tall) (op : Token) (rest : List Token) → sort_of op ≡ sort.Step → is_target x.shape ≡ true → x.height < top → postfix l top once twice x (op ∷ rest) ≡ Ok (made.stepped x op, rest)
  unfolding postfix next
  postfix_goes x op rest h t low = rw (h, same_self sort.Step) (step_goes x op rest t low)

  pub climb_stops : (n least cap : ℕ) (x : Tall) (rest : List Token) → level_of (next rest) < least → climb l top once twice n least cap x rest ≡ Ok (x, rest)
  unfolding climb
  climb_stops zero least cap x rest h = refl
  climb_stops (suc n) least cap x rest h = rw (lt_true (level_of (next rest)) least h) refl

  pub climb_ends : (n least cap : ℕ) (x : Tall) (rest : List Token) → Ends least rest → climb l top once twice n least cap x rest ≡ Ok (x, rest)
  climb_ends n least cap x rest h = climb_stops n least cap x rest (ends_level least rest h)

  climb_goes : (n least cap : ℕ) (a x : Tall) (ts rest : List Token) → least ≤ level_of (next ts) → level_of (next ts) ≤ cap → operation l top once twice a (level_of (next ts)) ts ≡ Ok (x, rest)
      → climb l top once twice (suc n) least cap a ts ≡ climb l top once twice n least (level_of (next ts)) x rest
  unfolding climb
  climb_goes n least cap a x ts rest low high h =
      rw (lt_false (level_of (next ts)) least low, lt_false cap (level_of (next ts)) high, h) refl

  binary_goes : (a y : Tall) (own : ℕ) (op : Token) (us rest : List Token) → once (Level (own + 1)) us ≡ Ok (y, rest) → binary l top once twice a own (op ∷ us) ≡ Ok (made.joined a op y, rest)
  unfolding binary take_token
  binary_goes a y own op us rest h = rw h refl

  operation_goes : (a y : Tall) (own : ℕ) (op : Token) (us rest : List Token) → IsNot sort.InstanceOf (op ∷ us) → a.height < top → once (Level (own + 1)) us ≡ Ok (y, rest)
      → operation l top once twice a own (op ∷ us) ≡ Ok (made.joined a op y, rest)
  unfolding operation
  operation_goes a y own op us rest p low h = rw (le_false top a.height low, p) (binary_goes a y own op us rest h)

  -- by an operator and its right operand
  pub climb_binary : (n least cap own : ℕ) (a y : Tall) (op : Token) (us rest : List Token) → IsOperator own (sort_of op) → least ≤ own → own ≤ cap → a.height < top
      → once (Level (own + 1)) us ≡ Ok (y, rest) → climb l top once twice (suc n) least cap a (op ∷ us) ≡ climb l top once twice n least own (made.joined a op y) rest
  unfolding next
  climb_binary n least cap own a y op us rest o low high fits h =
      let same = o.level in
      climb_goes n least cap a (made.joined a op y) (op ∷ us) rest (omega arith) (omega arith)
      (operation_goes a y (level_of (sort_of op)) op us rest (o.plain) fits (subst (λ k. once (Level (k + 1)) us ≡ Ok (y, rest)) (sym same) h))
      ∙ ap (λ k. climb l top once twice n least k (made.joined a op y) rest) same

  instance_goes : (a : Tall) (own : ℕ) (word : Token) (us rest : List Token) (to : TypeName) → sort_of word ≡ sort.InstanceOf → a.height < top → whole_type l us ≡ Ok (to, rest)
      → operation l top once twice a own (word ∷ us) ≡ Ok (made.tested a to, rest)
  unfolding operation instance_of next take_token
  instance_goes a own word us rest to h low q = rw (le_false top a.height low, h, same_self sort.InstanceOf, q) refl

  -- by `instanceof` and a type
  pub climb_instance : (n least cap : ℕ) (a : Tall) (word : Token) (us rest : List Token) (to : TypeName) → sort_of word ≡ sort.InstanceOf → least ≤ 9 → 9 ≤ cap → a.height < top
      → whole_type l us ≡ Ok (to, rest) → climb l top once twice (suc n) least cap a (word ∷ us) ≡ climb l top once twice n least 9 (made.tested a to) rest
  unfolding next
  climb_instance n least cap a word us rest to h low high fits q =
      let same : level_of (sort_of word) ≡ 9 = ap level_of h in
      climb_goes n least cap a (made.tested a to) (word ∷ us) rest (omega arith) (omega arith) (instance_goes a (level_of (sort_of word)) word us rest to h fits q)
      ∙ ap (λ k. climb l top once twice n least k (made.tested a to) rest) same

  assign_goes : (a y : Tall) (op : Token) (us rest : List Token) → a.height < top → once (Level 1) us ≡ Ok (y, rest) → assignment l top once twice a (op ∷ us) ≡ Ok (made.assigned a op y, rest)
  unfolding assignment assign_to take_token
  assign_goes a y op us rest low h = rw (le_false top a.height low, h) refl

  -- an assignment
  pub operators_assign : (k : ℕ) (a y : Tall) (op : Token) (us rest : List Token) → k ≤ 1 → is_target a.shape ≡ true → is_assignment (sort_of op) ≡ true → a.height < top
      → once (Level 1) us ≡ Ok (y, rest) → operators l top once twice k a (op ∷ us) ≡ Ok (made.assigned a op y, rest)
  unfolding operators next
  operators_assign k a y op us rest low t s fits h = rw (le_true k 1 low, t, s) (assign_goes a y op us rest fits h)

  -- what may follow the operators of the levels 3 to 12
  abbrev pub chosen_after : ℕ → Tall → Parser Tall
  chosen_after k left = peek >>= (λ u. if nat_le k 2 && same_sort u sort.Question then choice l top once twice left else pure left)

  pub operators_climb : (k : ℕ) (first : Tall) (ts : List Token) → (is_assignment (next ts) ≡ false) ⊎ (1 < k)
      → operators l top once twice k first ts ≡ and_then (climb l top once twice top (max k 1) 12 first ts) (chosen_after k)
  unfolding operators
  operators_climb k first ts h = rw (assigns_not k (is_target first.shape) (is_assignment (next ts)) h) refl

  pub chosen_ends : (k : ℕ) (x : Tall) (ts : List Token) → Ends k ts → chosen_after k x ts ≡ Ok (x, ts)
  chosen_ends k x ts h = rw (question_not k ts h) refl

  -- `test ? x : y`
  pub choice_goes : (k : ℕ) (test x y : Tall) (question colon : Token) (us vs rest : List Token) → k ≤ 2 → sort_of question ≡ sort.Question → sort_of colon ≡ sort.Colon → test.height < top
      → once (Level 1) us ≡ Ok (x, colon ∷ vs) → once (Level 2) vs ≡ Ok (y, rest) → chosen_after k test (question ∷ us) ≡ Ok (made.chosen test x y, rest)
  unfolding choice next take_token
  choice_goes k test x y question colon us vs rest low hq hc fits hx hy =
      rw (le_true k 2 low, hq, same_self sort.Question, le_false top test.height fits, hx, expect_goes colon vs hc, hy) refl

  -- no operator of this level follows
  pub operators_end : (k : ℕ) (x : Tall) (ts : List Token) → 1 ≤ k → Ends k ts → operators l top once twice k x ts ≡ Ok (x, ts)
  operators_end k x ts some h =
      operators_climb k x ts (none_at k some h)
      ∙ ap (λ o. and_then o (chosen_after k)) (climb_ends top (max k 1) 12 x ts (omega arith)) ∙ chosen_ends k x ts h
    where
      none_at : (k : ℕ) → 1 ≤ k → Ends k ts → (is_assignment (next ts) ≡ false) ⊎ (1 < k)
      none_at zero some h = absurd (omega arith)
      none_at (suc zero) some h = inl (no_assignment ts h)
      none_at (suc (suc k)) some h = inr (omega arith)
