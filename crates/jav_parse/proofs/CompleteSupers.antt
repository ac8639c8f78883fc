-- Statements that begin with `super` are read whole at the front of a constructor's block.
use Rattle.std.proofs.Common.{◌≡◌, ℕ, suc, ◌+◌, ◌-◌, ◌<◌, ◌≤◌, List, [], ◌∷◌, ◌++◌, Ok, nat_eq, if◌then◌else◌, refl, sym, ap, ◌∙◌, subst, append_assoc, arith}
use Rattle.std.proofs.lemmas.List.{length-append}
use Rattle.mol_base.specs.Token.{Token}
use Rattle.jav_tree.specs.declared.expr.Expr.{Expr}
use Rattle.jav_tree.specs.declared.stmt.StmtNode.{StmtNode}
use Rattle.jav_tree.specs.declared.stmt.StmtNode.TheVariants as node
use Rattle.jav_tree.specs.Statements as grammar
use Rattle.jav_tree.specs.Tokens.{start_of}
use Rattle.jav_parse_cursor.specs.declared.limits.Limits.{Limits}
use Rattle.jav_parse_expr.specs.declared.primary.Goal.TheVariants.{Level}
use Rattle.jav_parse_cursor.specs.declared.sort.Sort.{Sort}
use Rattle.jav_parse_cursor.specs.declared.sort.Sort.TheVariants as sort
use Rattle.jav_parse_cursor.specs.declared.tall.Listed.{Listed}
use Rattle.jav_parse_cursor.specs.declared.tall.Tall.{Tall}
use Rattle.jav_parse_cursor.specs.Nodes as made
use Rattle.jav_parse_expr.specs.ActionRules.{ending, goes_on, super_action}
use Rattle.jav_parse_expr.specs.ExprRules.{expr, inside}
use Rattle.jav_parse_expr.specs.PrimaryRules.{acting, arguments, super_call, primary, chain, part}
use Rattle.jav_parse_cursor.specs.Reading.{◌>>=◌, pure, refuse, take_token, expect, sort as next}
use Rattle.jav_parse_cursor.specs.Sorts.{sort_of, same_sort}
use Rattle.jav_parse_stmt.specs.StmtRules.{closed, done, super_first, super_start}
use Rattle.jav_parse.proofs.CompleteActions.{Acts, ActionRead, action_read}
use Rattle.jav_parse.proofs.CompleteActions as actions
use Rattle.jav_parse.proofs.CompletePlain.{FirstIs, first_is, start_same, begins_some, semi_ends, closed_is}
use Rattle.jav_parse.proofs.Outcomes.{steps, expected, not_refused}
use Rattle.jav_parse.proofs.PartSteps.{sized}
use Rattle.jav_parse.proofs.ReadingSteps.{IsNot, is_not, same_self, sort_at, take_goes, expect_goes, eq_false}
use Rattle.jav_parse.proofs.SortsOfTokens.{semi_sort}
use Rattle.jav_parse.proofs.StatementReadings.{Fits}
use Rattle.jav_parse.proofs.WholeLaws.{WholeLaws}

module _ (l : Limits) (top : ℕ) where
  super_front : (word : Token) (us : List Token) (r : Tall × List Token) → sort_of word ≡ sort.Super → primary l top (acting top) (inside l (acting top)) (word ∷ us) ≡ Ok r
      → super_call l top (acting top) (inside l (acting top)) word.start us ≡ Ok r
  unfolding primary next take_token
  super_front word us r h q =
      let e : primary l top (acting top) (inside l (acting top)) (word ∷ us) ≡ (if nat_eq top 0 then refuse else (take_token >>= (λ t. super_call l top (acting top) (inside l (acting top)) t.start))) (word ∷ us) = rw h refl in
      (not_refused (nat_eq top 0) (take_token >>= (λ t. super_call l top (acting top) (inside l (acting top)) t.start)) (word ∷ us) r (sym e ∙ q)).1

  super_dot : (at : ℕ) (us : List Token) (r : Tall × List Token) → super_call l top (acting top) (inside l (acting top)) at us ≡ Ok r → IsNot sort.Open us
  unfolding super_call same_sort
  super_dot at us r q =
      let s = steps (expect sort.Dot us) (λ _. expect sort.Name >>= (λ t. arguments l.most top (expr l (top - 1) (Level 1)) >>= (λ args. pure (made.super_called at t args)))) r q in
      let k = expected sort.Dot us s.value s.rest s.first in
      rw (k.split) (is_not sort.Open sort.Dot s.value s.rest k.is refl)

  super_action_goes : (at : ℕ) (us : List Token) (first : Tall) (mid : List Token) (x : Tall) (rest : List Token) (r : Tall × List Token) → 0 < top → super_call l top (acting top) (inside l (acting top)) at us ≡ Ok (first, mid)
      → chain l top (acting top) (inside l (acting top)) top first mid ≡ Ok (x, rest) → ending l top x rest ≡ Ok r → super_action l top at us ≡ Ok r
  unfolding super_action goes_on
  super_action_goes at us first mid x rest r some q c e = rw (eq_false top 0 some, q, c) e

  record SuperActs (word : Token) (us : List Token) (r : Tall × List Token) : Type 0 where
    apart : IsNot sort.Open us
    acts : super_action l top word.start us ≡ Ok r

  super_acts : 0 < top → (word : Token) (us : List Token) (r : Tall × List Token) → sort_of word ≡ sort.Super → Acts l top (word ∷ us) r → SuperActs word us r
  unfolding part
  super_acts some word us r h (actions.by_step e q) = absurd (let z = sym e ∙ sort_at word us ∙ h in cc)
  super_acts some word us r h (actions.by_part x mid b n p ends) =
      let s = steps (primary l top (acting top) (inside l (acting top)) (word ∷ us)) (chain l top (acting top) (inside l (acting top)) top) (x, mid) p in
      let front = super_front word us (s.value, s.rest) h s.first in
      record { apart = super_dot word.start us (s.value, s.rest) front; acts = super_action_goes word.start us s.value s.rest x mid r some front s.second ends }

first_action : (l : Limits) (top : ℕ) (word : Token) (us : List Token) (x : Tall) (semi : Token) (rest : List Token) → 0 < top → IsNot sort.Open us → super_action l (top - 1) word.start us ≡ Ok (x, semi ∷ rest) → sort_of semi ≡ sort.Semi
    → super_first l top (word ∷ us) ≡ Ok (closed word.start (node.Do x.expr) (x.height + 1), rest)
unfolding super_first done
first_action l top word us x semi rest some n q h = rw (eq_false top 0 some, take_goes word us, n, q, expect_goes semi rest h) refl

first_start : (l : Limits) (top : ℕ) (word : Token) (us : List Token) (args : Listed) (semi : Token) (rest : List Token) → 0 < top → next us ≡ sort.Open
    → arguments l.most top (expr l (top - 1) (Level 1)) us ≡ Ok (args, semi ∷ rest) → sort_of semi ≡ sort.Semi
    → super_first l top (word ∷ us) ≡ Ok (closed word.start (node.SuperInit args.exprs) (args.height + 1), rest)
unfolding super_first super_start
first_start l top word us args semi rest some o q h = rw (eq_false top 0 some, take_goes word us, o, same_self sort.Open, q, expect_goes semi rest h) refl

-- a statement that begins so is read by the rule for the front of a constructor's block
abbrev pub SuperRead : Limits → ℕ → StmtNode → List Token → Type 0
SuperRead l h n ts = (rest : List Token) → next (ts ++ rest) ≡ sort.Super → (top : ℕ) → h ≤ top → Fits l (ts ++ rest) → super_first l top (ts ++ rest) ≡ Ok (closed (start_of ts) n h, rest)

action_split : (l : Limits) (top : ℕ) (ts : List Token) (x : Tall) (semi : Token) (rest : List Token) → 0 < top - 1 → (f : FirstIs sort.Super ts) → Acts l (top - 1) ts (x, semi ∷ rest) → sort_of semi ≡ sort.Semi
    → super_first l top ts ≡ Ok (closed (start_of ts) (node.Do x.expr) (x.height + 1), rest)
action_split l top ts x semi rest some f a h =
    let k = super_acts l (top - 1) some f.token f.rest (x, semi ∷ rest) f.is (subst (λ r. Acts l (top - 1) r (x, semi ∷ rest)) f.split a) in
    subst (λ r. super_first l top r ≡ Ok (closed (start_of r) (node.Do x.expr) (x.height + 1), rest)) (sym f.split)
    (first_action l top f.token f.rest x semi rest (omega arith) k.apart k.acts h)

pub action_super : (l : Limits) (h : ℕ) (e : Expr) (semi : Token) (ts : List Token) → ActionRead l h e ts → sort_of semi ≡ sort.Semi → SuperRead l (suc h) (node.Do e) (ts ++ semi ∷ [])
action_super l h e semi ts a hs rest front top fits short =
    let some = a.some in
    let n = length-append (ts ++ semi ∷ []) rest in let n2 = length-append ts (semi ∷ []) in
    let begin = start_same ts (semi ∷ rest) (semi ∷ []) (begins_some ts a.begins) in
    rw append_assoc (action_split l top (ts ++ (semi ∷ rest)) (sized e h a.shape) semi rest (omega arith) (first_is sort.Super (λ z. cc) (ts ++ (semi ∷ rest)) (rw append_assoc at front))
    (a.read (top - 1) (omega arith) (semi ∷ rest) (semi_ends semi rest hs) (omega arith)) hs
    ∙ ap (λ at. Ok (closed at (node.Do e) (h + 1), rest)) begin ∙ closed_is (start_of (ts ++ semi ∷ [])) (node.Do e) (h + 1) (suc h) rest (omega arith))

-- `super(..);`
pub start_super : (l : Limits) → WholeLaws l → (h : ℕ) (n : StmtNode) (ts : List Token) → grammar.SuperStart l.most h n ts → (rest : List Token) (top : ℕ) → h ≤ top → Fits l (ts ++ rest)
    → super_first l top (ts ++ rest) ≡ Ok (closed (start_of ts) n h, rest)
start_super l w h n ts (grammar.super_start {h = k} {word = word} {semi = semi} {args = args} {ts = us} hw x hs) rest top fits short =
    let y = w.arguments k args us x in
    let m = length-append (us ++ semi ∷ []) rest in let m2 = length-append us (semi ∷ []) in
    rw append_assoc (first_start l top word (us ++ (semi ∷ rest)) (record { exprs = args; height = k }) semi rest (omega arith) (y.opens (semi ∷ rest)) (y.read top (omega arith) (semi ∷ rest) (omega arith)) (semi_sort hs)
    ∙ closed_is word.start (node.SuperInit args) (k + 1) (suc k) rest (omega arith))

pub apart_word : (s : Sort) (t : Token) (rest : List Token) → sort_of t ≡ s → next (t ∷ rest) ≡ sort.Super → s ≡ sort.Super
apart_word s t rest h q = sym h ∙ sym (sort_at t rest) ∙ q
