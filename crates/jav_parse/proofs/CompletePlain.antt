-- Statements without a branch are read whole.
use Rattle.std.proofs.Common.{◌≡◌, inl, inr, ℕ, ◌+◌, ◌-◌, ◌<◌, ◌≤◌, Bool, true, false, List, [], ◌∷◌, ◌++◌, length, Ok, Some, None, refl, sym, ap, ◌∙◌, subst, arith}
use Rattle.mol_base.specs.Token.{Token}
use Rattle.jav_tree.specs.declared.stmt.StmtNode.{StmtNode}
use Rattle.jav_tree.specs.declared.stmt.StmtNode.TheVariants as node
use Rattle.jav_tree.specs.Tokens.{start_of}
use Rattle.jav_parse_expr.specs.declared.action.Lead.TheVariants.{Part}
use Rattle.jav_parse_cursor.specs.declared.limits.Limits.{Limits}
use Rattle.jav_parse_expr.specs.declared.primary.Goal.TheVariants.{Level}
use Rattle.jav_parse_cursor.specs.declared.sort.Sort.{Sort}
use Rattle.jav_parse_cursor.specs.declared.sort.Sort.TheVariants as sort
use Rattle.jav_parse_stmt.specs.declared.stmt.Place.{Place}
use Rattle.jav_parse_stmt.specs.declared.stmt_tall.TallStmt.{TallStmt}
use Rattle.jav_parse_cursor.specs.declared.tall.Tall.{Tall}
use Rattle.jav_parse_expr.specs.ActionRules.{action, acting_on, type_or_part}
use Rattle.jav_parse_expr.specs.ExprRules.{expr}
use Rattle.jav_parse_cursor.specs.Reading.{Parser, Outcome, sort as next}
use Rattle.jav_parse_cursor.specs.Sorts.{sort_of, same_sort}
use Rattle.jav_parse_stmt.specs.StmtRules as rules
use Rattle.jav_parse_stmt.specs.StmtRules.{stmt, closed, done, expression, named, return_stmt, throw_stmt, word_stmt, empty_stmt, plain_by, item_by}
use Rattle.jav_parse.proofs.CompleteActions.{Acts, action_goes}
use Rattle.jav_parse.proofs.CompleteLeads.{acts_lead}
use Rattle.jav_parse.proofs.FirstTokens.{Begins}
use Rattle.jav_parse.proofs.Outcomes.{sort_or}
use Rattle.jav_parse.proofs.ReadingSteps.{IsNot, Ends, ends_at, same_self, sort_at, take_goes, expect_goes, le_false}
use Rattle.jav_parse.proofs.StatementReadings.{Fits, Followed, stood, left_of, BeginsPlain, PlainRead}

-- a first token of this sort
pub record FirstIs (s : Sort) (ts : List Token) : Type 0 where
  pub token : Token
  pub rest : List Token
  pub split : ts ≡ token ∷ rest
  pub is : sort_of token ≡ s

pub first_is : (s : Sort) → (sort.End ≡ s → ⊥) → (ts : List Token) → next ts ≡ s → FirstIs s ts
unfolding next
first_is s n [] h = absurd (n h)
first_is s n (t ∷ ts) h = record { token = t; rest = ts; split = refl; is = h }

-- where tokens that are some begin
pub start_same : (ts us vs : List Token) → (ts ≡ [] → ⊥) → start_of (ts ++ us) ≡ start_of (ts ++ vs)
start_same [] us vs n = absurd (n refl)
start_same (t ∷ ts) us vs n = refl

pub begins_some : (ts : List Token) → ((rest : List Token) → Begins (next (ts ++ rest))) → ts ≡ [] → ⊥
unfolding next
begins_some ts b e = subst (λ r. Begins (next (r ++ []))) e (b [])

pub semi_ends : (semi : Token) (rest : List Token) → sort_of semi ≡ sort.Semi → Ends 1 (semi ∷ rest)
semi_ends semi rest h = ends_at sort.Semi 1 semi rest h (omega arith)

-- ---- the rules by their first token

module _ (l : Limits) (top : ℕ) (once twice : Place → Parser TallStmt) where
  pub plain_is : (s : Sort) (ts : List Token) → next ts ≡ s → rules.plain l top once twice ts ≡ plain_by l top once twice s ts
  unfolding rules.plain
  plain_is s ts h = rw h refl

  pub item_is : (s : Sort) (ts : List Token) → next ts ≡ s → rules.item l top once twice ts ≡ item_by l top once twice s ts
  unfolding rules.item
  item_is s ts h = rw h refl

  plain_expression : (s : Sort) (ts : List Token) → Begins s → plain_by l top once twice s ts ≡ expression l top ts
  plain_expression sort.Name ts b = refl
  plain_expression sort.Literal ts b = refl
  plain_expression sort.This ts b = refl
  plain_expression sort.Super ts b = refl
  plain_expression sort.New ts b = refl
  plain_expression sort.Open ts b = refl
  plain_expression sort.Not ts b = refl
  plain_expression sort.Sign ts b = refl
  plain_expression sort.Step ts b = refl
  plain_expression s ts b = absurd b

  item_expression : (s : Sort) (ts : List Token) → Begins s → same_sort s sort.Name ≡ false → item_by l top once twice s ts ≡ rules.plain l top once twice ts
  unfolding same_sort
  item_expression sort.Name ts b n = absurd (cc)
  item_expression sort.Literal ts b n = refl
  item_expression sort.This ts b n = refl
  item_expression sort.Super ts b n = refl
  item_expression sort.New ts b n = refl
  item_expression sort.Open ts b n = refl
  item_expression sort.Not ts b n = refl
  item_expression sort.Sign ts b n = refl
  item_expression sort.Step ts b n = refl
  item_expression s ts b n = absurd b

  expression_goes : (ts : List Token) (x : Tall) (semi : Token) (rest : List Token) → action l (top - 1) ts ≡ Ok (x, semi ∷ rest) → sort_of semi ≡ sort.Semi
      → expression l top ts ≡ Ok (closed (start_of ts) (node.Do x.expr) (x.height + 1), rest)
  unfolding expression done
  expression_goes ts x semi rest q h = rw (q, expect_goes semi rest h) refl

  named_goes : (ts : List Token) (first x : Tall) (mid : List Token) (semi : Token) (rest : List Token) → type_or_part l (top - 1) ts ≡ Ok (Part first, mid) → acting_on l (top - 1) first mid ≡ Ok (x, semi ∷ rest)
      → sort_of semi ≡ sort.Semi → named l top ts ≡ Ok (closed (start_of ts) (node.Do x.expr) (x.height + 1), rest)
  unfolding named done
  named_goes ts first x mid semi rest q k h = rw (q, k, expect_goes semi rest h) refl

  -- an action and its semicolon
  pub plain_action : (ts : List Token) (x : Tall) (semi : Token) (rest : List Token) → 0 < top - 1 → Begins (next ts) → Acts l (top - 1) ts (x, semi ∷ rest) → sort_of semi ≡ sort.Semi
      → rules.plain l top once twice ts ≡ Ok (closed (start_of ts) (node.Do x.expr) (x.height + 1), rest)
  plain_action ts x semi rest some b a h = plain_is (next ts) ts refl ∙ plain_expression (next ts) ts b ∙ expression_goes ts x semi rest (action_goes l (top - 1) ts (x, semi ∷ rest) some a) h

  item_name : l.builds ≡ true → (t : Token) (ts : List Token) (x : Tall) (semi : Token) (rest : List Token) → 0 < top - 1 → sort_of t ≡ sort.Name → length ts < l.turns
      → Acts l (top - 1) (t ∷ ts) (x, semi ∷ rest) → sort_of semi ≡ sort.Semi → rules.item l top once twice (t ∷ ts) ≡ Ok (closed t.start (node.Do x.expr) (x.height + 1), rest)
  item_name b t ts x semi rest some n few a h =
      let k = acts_lead l (top - 1) b some t ts n few (x, semi ∷ rest) a in
      item_is sort.Name (t ∷ ts) (sort_at t ts ∙ n) ∙ named_goes (t ∷ ts) k.first x k.rest semi rest k.leads k.acts h

  item_named : l.builds ≡ true → (ts : List Token) (x : Tall) (semi : Token) (rest : List Token) → 0 < top - 1 → (f : FirstIs sort.Name ts) → length ts < l.turns
      → Acts l (top - 1) ts (x, semi ∷ rest) → sort_of semi ≡ sort.Semi → rules.item l top once twice ts ≡ Ok (closed (start_of ts) (node.Do x.expr) (x.height + 1), rest)
  item_named b ts x semi rest some f few a h =
      let z = ap length f.split in
      subst (λ r. rules.item l top once twice r ≡ Ok (closed (start_of r) (node.Do x.expr) (x.height + 1), rest)) (sym f.split)
      (item_name b f.token f.rest x semi rest some f.is (omega arith) (subst (λ r. Acts l (top - 1) r (x, semi ∷ rest)) f.split a) h)

  pub item_action : l.builds ≡ true → (ts : List Token) (x : Tall) (semi : Token) (rest : List Token) → 0 < top - 1 → Begins (next ts) → length ts < l.turns
      → Acts l (top - 1) ts (x, semi ∷ rest) → sort_of semi ≡ sort.Semi → rules.item l top once twice ts ≡ Ok (closed (start_of ts) (node.Do x.expr) (x.height + 1), rest)
  item_action b ts x semi rest some begins few a h = elim (sort_or sort.Name ts) [
    | inl n ↦ item_named b ts x semi rest some (first_is sort.Name (λ z. cc) ts n) few a h
    | inr n ↦ item_is (next ts) ts refl ∙ item_expression (next ts) ts begins n ∙ plain_action ts x semi rest some begins a h
  ]

  -- ---- statements of one word

  pub throw_goes : (word : Token) (ts : List Token) (x : Tall) (semi : Token) (rest : List Token) → 1 < top → expr l (top - 1) (Level 1) ts ≡ Ok (x, semi ∷ rest) → sort_of semi ≡ sort.Semi
      → throw_stmt l top (word ∷ ts) ≡ Ok (closed word.start (node.Throw x.expr) (x.height + 1), rest)
  unfolding throw_stmt
  throw_goes word ts x semi rest high q h = rw (le_false top 1 high, take_goes word ts, q, expect_goes semi rest h) refl

  pub return_none : (word semi : Token) (rest : List Token) → sort_of semi ≡ sort.Semi → return_stmt l top (word ∷ semi ∷ rest) ≡ Ok (closed word.start (node.Return None) 1, rest)
  unfolding return_stmt next
  return_none word semi rest h = rw (take_goes word (semi ∷ rest), h, same_self sort.Semi, take_goes semi rest) refl

  pub return_some : (word : Token) (ts : List Token) (x : Tall) (semi : Token) (rest : List Token) → IsNot sort.Semi ts → 1 < top → expr l (top - 1) (Level 1) ts ≡ Ok (x, semi ∷ rest) → sort_of semi ≡ sort.Semi
      → return_stmt l top (word ∷ ts) ≡ Ok (closed word.start (node.Return (Some x.expr)) (x.height + 1), rest)
  unfolding return_stmt
  return_some word ts x semi rest n high q h = rw (take_goes word ts, n, le_false top 1 high, q, expect_goes semi rest h) refl

  pub word_goes : (n : StmtNode) (word semi : Token) (rest : List Token) → sort_of semi ≡ sort.Semi → word_stmt n (word ∷ semi ∷ rest) ≡ Ok (closed word.start n 1, rest)
  unfolding word_stmt
  word_goes n word semi rest h = rw (take_goes word (semi ∷ rest), expect_goes semi rest h) refl

  pub empty_goes : (semi : Token) (rest : List Token) → empty_stmt (semi ∷ rest) ≡ Ok (closed semi.start node.Empty 1, rest)
  unfolding empty_stmt
  empty_goes semi rest = rw (take_goes semi rest) refl

pub closed_is : (at : ℕ) (n : StmtNode) (h k : ℕ) (rest : List Token) → h ≡ k → ◌≡◌ {A = Outcome TallStmt} (Ok (closed at n h, rest)) (Ok (closed at n k, rest))
closed_is at n h k rest q = ap (λ r. Ok (closed at n r, rest)) q

-- statements that begin with a word of their own are the same in a block
pub by_word : (l : Limits) (h : ℕ) (is_open : Bool) (n : StmtNode) (ts : List Token) (s : Sort) → 0 < h → ((rest : List Token) → next (ts ++ rest) ≡ s) → BeginsPlain s
    → ((top : ℕ) (once twice : Place → Parser TallStmt) (us : List Token) → item_by l top once twice s us ≡ rules.plain l top once twice us)
    → ((top : ℕ) → h ≤ top → (notes : List (List ℕ)) (us rest : List Token) → Followed is_open notes us rest → Fits l (ts ++ (us ++ rest))
    → plain_by l top (stmt l (top - 1)) (stmt l (top - 1 - 1)) s (ts ++ (us ++ rest)) ≡ Ok (stood (start_of ts) n h is_open notes, left_of is_open us rest)) → PlainRead l h is_open n ts
by_word l h is_open n ts s some first b same read = record {
  some = some;
  begins = λ rest. subst BeginsPlain (sym (first rest)) b;
  plain = λ top fits notes us rest f short. plain_is l top (stmt l (top - 1)) (stmt l (top - 1 - 1)) s (ts ++ (us ++ rest)) (first (us ++ rest)) ∙ read top fits notes us rest f short;
  item = λ top fits notes us rest f short.
      item_is l top (stmt l (top - 1)) (stmt l (top - 1 - 1)) s (ts ++ (us ++ rest)) (first (us ++ rest)) ∙ same top (stmt l (top - 1)) (stmt l (top - 1 - 1)) (ts ++ (us ++ rest))
      ∙ plain_is l top (stmt l (top - 1)) (stmt l (top - 1 - 1)) s (ts ++ (us ++ rest)) (first (us ++ rest)) ∙ read top fits notes us rest f short;
}
