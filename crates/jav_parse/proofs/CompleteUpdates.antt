-- Expressions that may be statements, separated by commas, are read whole.
use Rattle.std.proofs.Common.{◌≡◌, inl, inr, ℕ, zero, suc, ◌+◌, ◌-◌, ◌<◌, ◌≤◌, max, true, false, List, [], ◌∷◌, ◌++◌, length, Ok, refl, sym, ap, ◌∙◌, subst, append_assoc, append-nil, arith}
use Rattle.std.proofs.lemmas.List.{length-append}
use Rattle.std.proofs.lemmas.List.Elements.{All-head, All-tail}
use Rattle.std.specs.List.{All}
use Rattle.mol_base.specs.Token.{Token}
use Rattle.jav_tree.specs.declared.expr.Expr.{Expr}
use Rattle.jav_tree.specs.Expressions as tree
use Rattle.jav_tree.specs.Statements.{MayBeStatement}
use Rattle.jav_parse_expr.specs.declared.action.Lead.TheVariants.{Part}
use Rattle.jav_parse_cursor.specs.declared.limits.Limits.{Limits}
use Rattle.jav_parse_cursor.specs.declared.sort.Sort.{Sort}
use Rattle.jav_parse_cursor.specs.declared.sort.Sort.TheVariants as sort
use Rattle.jav_parse_cursor.specs.declared.tall.Shape.{Shape}
use Rattle.jav_parse_cursor.specs.declared.tall.Listed.{Listed}
use Rattle.jav_parse_cursor.specs.declared.tall.Tall.{Tall}
use Rattle.jav_parse_cursor.specs.Nodes as made
use Rattle.jav_parse_expr.specs.ActionRules.{action, acting_on, type_or_part, actions, actions_after, further_actions}
use Rattle.jav_parse_cursor.specs.Reading.{sort as next}
use Rattle.jav_parse_cursor.specs.Sorts.{sort_of, same_sort}
use Rattle.jav_parse_stmt.specs.StmtRules.{header, header_by, header_named, doing}
use Rattle.jav_parse.proofs.CompleteActions.{Acts, ActionRead, action_goes, action_read}
use Rattle.jav_parse.proofs.CompleteLeads.{LeadRead, acts_lead}
use Rattle.jav_parse.proofs.CompletePlain.{FirstIs, first_is}
use Rattle.jav_parse.proofs.FirstTokens.{Begins}
use Rattle.jav_parse.proofs.ListSteps.{joined}
use Rattle.jav_parse.proofs.Outcomes.{sort_or}
use Rattle.jav_parse.proofs.PartSteps.{sized}
use Rattle.jav_parse.proofs.ReadingSteps.{IsNot, Ends, ends_at, same_self, take_goes}
use Rattle.jav_parse.proofs.SortsOfTokens.{comma_sort}
use Rattle.jav_parse.proofs.WholeLaws.{WholeLaws}

further_end : (l : Limits) (top n : ℕ) (all : Listed) (rest : List Token) → IsNot sort.Comma rest → further_actions l top (suc n) all rest ≡ Ok (all, rest)
unfolding further_actions
further_end l top n all rest h = rw h refl

further_goes : (l : Limits) (top n : ℕ) (all : Listed) (comma : Token) (us : List Token) (x : Tall) (rest : List Token) → sort_of comma ≡ sort.Comma → action l top us ≡ Ok (x, rest)
    → further_actions l top (suc n) all (comma ∷ us) ≡ further_actions l top n (made.with all x) rest
unfolding further_actions next
further_goes l top n all comma us x rest h q = rw (h, same_self sort.Comma, take_goes comma us, q) refl

-- the first of some actions, and what follows it
pub record ActionsRead (l : Limits) (h : ℕ) (es : List Expr) (ts : List Token) : Type 0 where
  pub k : ℕ
  pub e : Expr
  pub us : List Token
  pub vs : List Token
  pub first : ActionRead l k e us
  pub low : k ≤ h
  pub split : ts ≡ us ++ vs
  pub ends : (rest : List Token) → Ends 1 rest → Ends 1 (vs ++ rest)
  pub further : (top : ℕ) → h ≤ top → (n : ℕ) (all : Listed) (rest : List Token) → IsNot sort.Comma rest → Ends 1 rest → length vs + length rest < l.turns → length vs < n
      → further_actions l top n (made.with all (sized e k first.shape)) (vs ++ rest) ≡ Ok (joined all es h, rest)

end_by : (l : Limits) (top n : ℕ) (all : Listed) (rest : List Token) → IsNot sort.Comma rest → 0 < n → further_actions l top n all rest ≡ Ok (all, rest)
end_by l top zero all rest h some = absurd (omega arith)
end_by l top (suc n) all rest h some = further_end l top n all rest h

go_by : (l : Limits) (top n : ℕ) (all : Listed) (comma : Token) (us : List Token) (x : Tall) (rest : List Token) → sort_of comma ≡ sort.Comma → 0 < n → action l top us ≡ Ok (x, rest)
    → further_actions l top n all (comma ∷ us) ≡ further_actions l top (n - 1) (made.with all x) rest
go_by l top zero all comma us x rest h some q = absurd (omega arith)
go_by l top (suc n) all comma us x rest h some q = let e : n ≡ suc n - 1 = omega arith in further_goes l top n all comma us x rest h q ∙ ap (λ k. further_actions l top k (made.with all x) rest) e

with_joined : (all : Listed) (e : Expr) (es : List Expr) (h k : ℕ) (s : Shape) → joined (made.with all (sized e h s)) es k ≡ joined all (e ∷ es) (max h k)
with_joined all e es h k s = let z : max (max all.height h) k ≡ max all.height (max h k) = omega arith in rw (z, append_assoc) refl

last_action : (l : Limits) (h : ℕ) (e : Expr) (ts : List Token) → ActionRead l h e ts → ActionsRead l h (e ∷ []) ts
last_action l h e ts a = record {
  k = h;
  e = e;
  us = ts;
  vs = [];
  first = a;
  low = omega arith;
  split = sym (append-nil ts);
  ends = λ rest z. z;
  further = λ top fits n all rest h ends short few. end_by l top n (made.with all (sized e _ a.shape)) rest h (omega arith);
}

more_actions : (l : Limits) (h k : ℕ) (e : Expr) (es : List Expr) (comma : Token) (ts us : List Token) → ActionRead l h e ts → sort_of comma ≡ sort.Comma → ActionsRead l k es us
    → ActionsRead l (max h k) (e ∷ es) (ts ++ comma ∷ us)
more_actions l h k e es comma ts us a hc y = record {
  k = h;
  e = e;
  us = ts;
  vs = comma ∷ us;
  first = a;
  low = omega arith;
  split = refl;
  ends = λ rest z. ends_at sort.Comma 1 comma (us ++ rest) hc (omega arith);
  further = λ top fits n all rest c ends short few.
      let z = y.low in let f = y.first in let some = f.some in
      let d = ap length y.split ∙ length-append y.us y.vs in let d2 = length-append y.vs rest in
      ap (λ r. further_actions l top n (made.with all (sized e h a.shape)) (comma ∷ (r ++ rest))) y.split
      ∙ ap (λ r. further_actions l top n (made.with all (sized e h a.shape)) (comma ∷ r)) (append_assoc y.us y.vs rest)
      ∙ go_by l top n (made.with all (sized e h a.shape)) comma (y.us ++ (y.vs ++ rest)) (sized y.e y.k f.shape) (y.vs ++ rest) hc (omega arith)
      (action_goes l top (y.us ++ (y.vs ++ rest)) (sized y.e y.k f.shape, y.vs ++ rest) (omega arith) (f.read top (omega arith) (y.vs ++ rest) (y.ends rest ends) (omega arith)))
      ∙ y.further top (omega arith) (n - 1) (made.with all (sized e h a.shape)) rest c ends (omega arith) (omega arith)
      ∙ ap (λ r. Ok (r, rest)) (with_joined all e es h k a.shape);
}

pub actions_read : (l : Limits) → WholeLaws l → (h : ℕ) (es : List Expr) (ts : List Token) → tree.Listed l.most h es ts → All MayBeStatement es → ActionsRead l h es ts
actions_read l w h es ts (tree.last_listed {e = e} x) m = last_action l h e ts (action_read l w h e ts x (All-head MayBeStatement e [] m))
actions_read l w h es ts (tree.more_listed {h = j} {k = k} {comma = comma} {e = e} {es = fs} {ts = us} {us = vs} x hc y) m =
    more_actions l j k e fs comma us vs (action_read l w j e us x (All-head MayBeStatement e fs m)) (comma_sort hc) (actions_read l w k fs vs y (All-tail MayBeStatement e fs m))

-- ---- alone, and at the front of a header

module _ (l : Limits) (top : ℕ) where
  actions_go : (ts : List Token) (x : Tall) (mid rest : List Token) (all : Listed) → action l top ts ≡ Ok (x, mid) → further_actions l top l.turns (made.with made.no_exprs x) mid ≡ Ok (all, rest) → actions l top ts ≡ Ok (all, rest)
  unfolding actions actions_after
  actions_go ts x mid rest all q h = rw (q, h) refl

  header_part : (ts : List Token) (first x : Tall) (m mid rest : List Token) (all : Listed) → next ts ≡ sort.Name → type_or_part l top ts ≡ Ok (Part first, m) → acting_on l top first m ≡ Ok (x, mid)
      → further_actions l top l.turns (made.with made.no_exprs x) mid ≡ Ok (all, rest) → header l top ts ≡ Ok (doing all, rest)
  unfolding header header_named actions_after
  header_part ts first x m mid rest all n q a h = rw (n, q, a, h) refl

  header_actions_by : (s : Sort) (ts : List Token) (all : Listed) (rest : List Token) → Begins s → same_sort s sort.Name ≡ false → actions l top ts ≡ Ok (all, rest) → header_by l top s ts ≡ Ok (doing all, rest)
  unfolding same_sort
  header_actions_by sort.Name ts all rest b n q = absurd (cc)
  header_actions_by sort.Literal ts all rest b n q = rw q refl
  header_actions_by sort.This ts all rest b n q = rw q refl
  header_actions_by sort.Super ts all rest b n q = rw q refl
  header_actions_by sort.New ts all rest b n q = rw q refl
  header_actions_by sort.Open ts all rest b n q = rw q refl
  header_actions_by sort.Not ts all rest b n q = rw q refl
  header_actions_by sort.Sign ts all rest b n q = rw q refl
  header_actions_by sort.Step ts all rest b n q = rw q refl
  header_actions_by s ts all rest b n q = absurd b

  acts_named : l.builds ≡ true → 0 < top → (ts : List Token) → (f : FirstIs sort.Name ts) → length ts < l.turns → (r : Tall × List Token) → Acts l top ts r → LeadRead l top ts r
  acts_named b some ts f few r a =
      let z = ap length f.split in
      subst (λ us. LeadRead l top us r) (sym f.split) (acts_lead l top b some f.token f.rest f.is (omega arith) r (subst (λ us. Acts l top us r) f.split a))

  header_by_name : l.builds ≡ true → 0 < top → (ts : List Token) (x : Tall) (mid rest : List Token) (all : Listed) → Begins (next ts) → length ts < l.turns → Acts l top ts (x, mid)
      → further_actions l top l.turns (made.with made.no_exprs x) mid ≡ Ok (all, rest) → header l top ts ≡ Ok (doing all, rest)
  unfolding header
  header_by_name b some ts x mid rest all begins few a q = elim (sort_or sort.Name ts) [
    | inl n ↦ let k = acts_named b some ts (first_is sort.Name (λ z. cc) ts n) few (x, mid) a in header_part ts k.first x k.rest mid rest all n k.leads k.acts q
    | inr n ↦ header_actions_by (next ts) ts all rest begins n (actions_go ts x mid rest all (action_goes l top ts (x, mid) some a) q)
  ]

  module _ (w : WholeLaws l) (some : 0 < top) (h : ℕ) (fits : h ≤ top) (es : List Expr) (ts : List Token) (y : ActionsRead l h es ts) (rest : List Token) (c : IsNot sort.Comma rest) (ends : Ends 1 rest)
      (short : length (ts ++ rest) < l.turns) where
    tokens : ts ++ rest ≡ y.us ++ (y.vs ++ rest)
    tokens = ap (λ r. r ++ rest) y.split ∙ append_assoc y.us y.vs rest

    counted : length (y.us ++ (y.vs ++ rest)) ≡ length (ts ++ rest)
    counted = sym (ap length tokens)

    front : Acts l top (y.us ++ (y.vs ++ rest)) (sized y.e y.k y.first.shape, y.vs ++ rest)
    front = let f = y.first in let z = y.low in let d = length-append y.us (y.vs ++ rest) in let d2 = counted in
        f.read top (omega arith) (y.vs ++ rest) (y.ends rest ends) (omega arith)

    more : further_actions l top l.turns (made.with made.no_exprs (sized y.e y.k y.first.shape)) (y.vs ++ rest) ≡ Ok (joined made.no_exprs es h, rest)
    more = let d = length-append y.us (y.vs ++ rest) in let d2 = counted in let d3 = length-append y.vs rest in
        y.further top fits l.turns made.no_exprs rest c ends (omega arith) (omega arith)

    plain_height : joined made.no_exprs es h ≡ record { exprs = es; height = h }
    plain_height = let z : max 0 h ≡ h = omega arith in rw z refl

    pub actions_whole : actions l top (ts ++ rest) ≡ Ok (record { exprs = es; height = h }, rest)
    actions_whole = ap (actions l top) tokens
        ∙ actions_go (y.us ++ (y.vs ++ rest)) (sized y.e y.k y.first.shape) (y.vs ++ rest) rest (joined made.no_exprs es h) (action_goes l top (y.us ++ (y.vs ++ rest)) (sized y.e y.k y.first.shape, y.vs ++ rest) some front) more
        ∙ ap (λ r. Ok (r, rest)) plain_height

    pub header_whole : header l top (ts ++ rest) ≡ Ok (doing (record { exprs = es; height = h }), rest)
    header_whole = let d = counted in
        ap (header l top) tokens
        ∙ header_by_name w.builds some (y.us ++ (y.vs ++ rest)) (sized y.e y.k y.first.shape) (y.vs ++ rest) rest (joined made.no_exprs es h) (y.first.begins (y.vs ++ rest)) (omega arith) front more
        ∙ ap (λ r. Ok (doing r, rest)) plain_height

    pub begins : Begins (next (ts ++ rest))
    begins = rw tokens (y.first.begins (y.vs ++ rest))
