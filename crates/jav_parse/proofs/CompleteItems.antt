-- First values and items in braces of the grammar are read.
use Rattle.std.proofs.Common.{◌≡◌, ℕ, zero, suc, ◌+◌, ◌-◌, ◌<◌, ◌≤◌, max, List, [], ◌∷◌, ◌++◌, length, Ok, refl, sym, ap, ap₂, ◌∙◌, append_assoc, arith}
use Rattle.mol_base.specs.Token.{Token}
use Rattle.jav_tree.specs.declared.expr.Expr.{Expr}
use Rattle.jav_tree.specs.declared.expr.ExprNode.TheVariants as node
use Rattle.jav_tree.specs.Expressions.{expr_at}
use Rattle.jav_tree.specs.Tokens.{IsSymbol, start_of}
use Rattle.jav_parse_cursor.specs.declared.limits.Limits.{Limits}
use Rattle.jav_parse_expr.specs.declared.primary.Goal.TheVariants.{Level, Init}
use Rattle.jav_parse_cursor.specs.declared.sort.Sort.TheVariants as sort
use Rattle.jav_parse_cursor.specs.declared.tall.Shape.TheVariants.{Loose}
use Rattle.jav_parse_cursor.specs.declared.tall.Listed.{Listed}
use Rattle.jav_parse_expr.specs.ExprRules as rule
use Rattle.jav_parse_expr.specs.ExprRules.{expr}
use Rattle.jav_parse_cursor.specs.Nodes as made
use Rattle.jav_parse_expr.specs.PrimaryRules.{items, further_items}
use Rattle.jav_parse_cursor.specs.Reading.{and_then, sort as next}
use Rattle.jav_parse_cursor.specs.Sorts.{same_sort, sort_of}
use Rattle.jav_parse.proofs.CompleteLists.{ok_listed, joined_more}
use Rattle.jav_parse.proofs.FirstTokens.{begins_not}
use Rattle.jav_parse.proofs.ListSteps.{joined, first_item, item_goes, last_comma, items_end, no_items_read, items_read}
use Rattle.jav_parse.proofs.PartSteps.{sized}
use Rattle.jav_parse.proofs.ReadingSteps.{tokens_append, IsNot, is_not, Ends, ends_at, sort_at}
use Rattle.jav_parse.proofs.SortsOfTokens.{begin_sort, finish_sort, comma_sort}
use Rattle.jav_parse_expr.proofs.AtHeight.{expr_is}
use Rattle.jav_parse.proofs.WholeReadings.{Short, ExprRead, InitRead, Apart, ItemsRead, InitsRead, whole}

module _ (l : Limits) where
  -- ---- first values

  level_is : (d : ℕ) (ts : List Token) → 0 < d → IsNot sort.Begin ts → expr l d Init ts ≡ expr l d (Level 1) ts
  unfolding rule.init
  level_is d ts some h = expr_is l d Init some ts ∙ rw h (sym (expr_is l d (Level 1) some ts))

  braces_are : (d : ℕ) (ts : List Token) (all : Listed) (rest : List Token) → 0 < d → next ts ≡ sort.Begin → items l.turns d (expr l (d - 1) Init) ts ≡ Ok (all, rest)
      → expr l d Init ts ≡ Ok (made.braced (start_of ts) all, rest)
  unfolding rule.init same_sort
  braces_are d ts all rest some h q = expr_is l d Init some ts ∙ rw (h, q) refl

  value_apart : {h : ℕ} {e : Expr} {ts : List Token} → ExprRead l 1 h e ts → Apart ts
  value_apart {ts = ts} x = λ s n q rest. begins_not s (ts ++ rest) (x.begins rest) n

  pub value_whole : {h : ℕ} {e : Expr} {ts : List Token} → ExprRead l 1 h e ts → InitRead l h e ts
  value_whole {ts = ts} x = record {
    some = x.some;
    apart = value_apart x;
    shape = x.shape;
    read = λ d rest low ends short. let p = x.some in level_is d (ts ++ rest) (omega arith) (begins_not sort.Begin (ts ++ rest) (x.begins rest) (λ b. b)) ∙ whole x (omega arith) d low rest ends short;
  }

  braces_apart : {h : ℕ} {es : List Expr} {ts : List Token} → ItemsRead l h es ts → Apart ts
  braces_apart x = λ s n q rest. ap (λ v. same_sort v s) (x.opens rest) ∙ q

  pub braces_whole : {h : ℕ} {es : List Expr} {ts : List Token} → ItemsRead l h es ts → InitRead l (suc h) (expr_at (start_of ts) (node.Braces es)) ts
  braces_whole {h} {es} {ts} x = record {
    some = omega arith;
    apart = braces_apart x;
    shape = Loose;
    read = λ d rest low ends short.
        braces_are d (ts ++ rest) (record { exprs = es; height = h }) rest (omega arith) (x.opens rest) (x.read d low rest short)
        ∙ ap₂ (λ at k. Ok (sized (expr_at at (node.Braces es)) k Loose, rest)) (x.start rest) (one_more h);
  }
    where
      one_more : (h : ℕ) → h + 1 ≡ suc h
      one_more h = omega arith

  -- ---- items in braces

  pub no_items_whole : {left right : Token} → IsSymbol "{" left → IsSymbol "}" right → ItemsRead l 0 [] (left ∷ right ∷ [])
  no_items_whole {left} {right} a c = record {
    opens = λ rest. sort_at left (right ∷ rest) ∙ begin_sort a;
    start = λ rest. refl;
    read = λ room fits rest short. no_items_read (expr l (room - 1) Init) l.turns room left right rest (begin_sort a) (finish_sort c);
  }

  some_items_reach : (h : ℕ) (left right : Token) (es : List Expr) (ts : List Token) → sort_of left ≡ sort.Begin → InitsRead l h es ts → sort_of right ≡ sort.Finish
      → (room : ℕ) → h < room → (rest : List Token) → Short l (left ∷ ts ++ right ∷ []) rest
      → items l.turns room (expr l (room - 1) Init) (left ∷ ts ++ right ∷ rest) ≡ Ok (record { exprs = es; height = h }, rest)
  unfolding same_sort
  some_items_reach h left right es ts hl x hr room fits rest short =
      let p = x.some in let f = x.few in
      items_read (expr l (room - 1) Init) l.turns room left (ts ++ right ∷ rest) (joined made.no_exprs es h) right rest hl (x.apart sort.Finish (λ b. b) refl (right ∷ rest)) (omega arith) hr
      (x.read (room - 1) l.turns made.no_exprs (right ∷ rest) (omega arith) (omega (arith, tokens_append ts (right ∷ []))) (ends_at sort.Finish 1 right rest hr (omega arith)) (omega (arith, tokens_append ts (right ∷ [])))
      ∙ items_end (expr l (room - 1) Init) (suc l.turns - length es) (joined made.no_exprs es h) (right ∷ rest) (is_not sort.Comma sort.Finish right rest hr refl))
      ∙ ok_listed es es (max 0 h) h rest refl (omega arith)

  pub some_items_whole : {h : ℕ} {left right : Token} {es : List Expr} {ts : List Token} → IsSymbol "{" left → InitsRead l h es ts → IsSymbol "}" right → ItemsRead l h es (left ∷ ts ++ right ∷ [])
  some_items_whole {h} {left} {right} {es} {ts} a x c = record {
    opens = λ rest. sort_at left ((ts ++ right ∷ []) ++ rest) ∙ begin_sort a;
    start = λ rest. refl;
    read = λ room fits rest short. rw append_assoc (some_items_reach h left right es ts (begin_sort a) x (finish_sort c) room fits rest short);
  }

  last_goes : (d m n : ℕ) (all : Listed) (last right : Token) (rest : List Token) → sort_of last ≡ sort.Comma → sort_of right ≡ sort.Finish → 1 ≤ m
      → further_items (expr l d Init) m all (last ∷ right ∷ rest) ≡ Ok (all, right ∷ rest)
  last_goes d zero n all last right rest hc hr some = absurd (omega arith)
  last_goes d (suc m) n all last right rest hc hr some = last_comma (expr l d Init) m all last right rest hc hr

  items_comma_reach : (h : ℕ) (left last right : Token) (es : List Expr) (ts : List Token) → sort_of left ≡ sort.Begin → InitsRead l h es ts → sort_of last ≡ sort.Comma → sort_of right ≡ sort.Finish
      → (room : ℕ) → h < room → (rest : List Token) → Short l (left ∷ ts ++ last ∷ right ∷ []) rest
      → items l.turns room (expr l (room - 1) Init) (left ∷ ts ++ last ∷ right ∷ rest) ≡ Ok (record { exprs = es; height = h }, rest)
  unfolding same_sort
  items_comma_reach h left last right es ts hl x hc hr room fits rest short =
      let p = x.some in let f = x.few in
      items_read (expr l (room - 1) Init) l.turns room left (ts ++ last ∷ right ∷ rest) (joined made.no_exprs es h) right rest hl (x.apart sort.Finish (λ b. b) refl (last ∷ right ∷ rest)) (omega arith) hr
      (x.read (room - 1) l.turns made.no_exprs (last ∷ right ∷ rest) (omega arith) (omega (arith, tokens_append ts (last ∷ right ∷ []))) (ends_at sort.Comma 1 last (right ∷ rest) hc (omega arith)) (omega (arith, tokens_append ts (last ∷ right ∷ [])))
      ∙ last_goes (room - 1) (suc l.turns - length es) 0 (joined made.no_exprs es h) last right rest hc hr (omega (arith, tokens_append ts (last ∷ right ∷ []))))
      ∙ ok_listed es es (max 0 h) h rest refl (omega arith)

  pub items_comma_whole : {h : ℕ} {left last right : Token} {es : List Expr} {ts : List Token} → IsSymbol "{" left → InitsRead l h es ts → IsSymbol "," last → IsSymbol "}" right
      → ItemsRead l h es (left ∷ ts ++ last ∷ right ∷ [])
  items_comma_whole {h} {left} {last} {right} {es} {ts} a x b c = record {
    opens = λ rest. sort_at left ((ts ++ last ∷ right ∷ []) ++ rest) ∙ begin_sort a;
    start = λ rest. refl;
    read = λ room fits rest short. rw append_assoc (items_comma_reach h left last right es ts (begin_sort a) x (comma_sort b) (finish_sort c) room fits rest short);
  }

  pub last_item_whole : {h : ℕ} {e : Expr} {ts : List Token} → 0 < length ts → InitRead l h e ts → InitsRead l h (e ∷ []) ts
  last_item_whole {h} {e} {ts} long x = record {
    some = x.some;
    few = long;
    one = omega arith;
    apart = x.apart;
    read = λ d n all rest low few ends short.
        ap (λ o. and_then o (λ y. further_items (expr l d Init) n (made.with all y))) (x.read d rest low ends short)
        ∙ ap (λ m. further_items (expr l d Init) m (joined all (e ∷ []) h) rest) (one_less n);
  }
    where
      one_less : (n : ℕ) → n ≡ suc n - 1
      one_less n = omega arith

  more_items_reach : (h k : ℕ) (comma : Token) (e : Expr) (es : List Expr) (ts us : List Token) → InitRead l h e ts → sort_of comma ≡ sort.Comma → InitsRead l k es us
      → (d n : ℕ) (all : Listed) (rest : List Token) → max h k ≤ d → suc (length es) ≤ suc n → Ends 1 rest → Short l (ts ++ comma ∷ us) rest
      → first_item (expr l d Init) n all (ts ++ (comma ∷ us ++ rest)) ≡ further_items (expr l d Init) (suc n - suc (length es)) (joined all (e ∷ es) (max h k)) rest
  unfolding same_sort
  more_items_reach h k comma e es ts us x hc y d zero all rest low few ends short = absurd (let p = y.one in omega arith)
  more_items_reach h k comma e es ts us x hc y d (suc n) all rest low few ends short =
      ap (λ o. and_then o (λ v. further_items (expr l d Init) (suc n) (made.with all v)))
      (x.read d (comma ∷ us ++ rest) (omega arith) (ends_at sort.Comma 1 comma (us ++ rest) hc (omega arith)) (omega (arith, tokens_append us rest, tokens_append ts (comma ∷ us))))
      ∙ item_goes (expr l d Init) n (made.with all (sized e h x.shape)) comma (us ++ rest) hc (y.apart sort.Finish (λ b. b) refl rest)
      ∙ y.read d n (made.with all (sized e h x.shape)) rest (omega arith) (omega arith) ends (omega (arith, tokens_append ts (comma ∷ us)))
      ∙ ap₂ (λ m v. further_items (expr l d Init) m v rest) (same_turns n (length es)) (joined_more all (sized e h x.shape) es k)
    where
      same_turns : (n m : ℕ) → suc n - m ≡ suc (suc n) - suc m
      same_turns n m = omega arith

  pub more_items_whole : {h k : ℕ} {comma : Token} {e : Expr} {es : List Expr} {ts us : List Token} → InitRead l h e ts → IsSymbol "," comma → InitsRead l k es us → InitsRead l (max h k) (e ∷ es) (ts ++ comma ∷ us)
  more_items_whole {h} {k} {comma} {e} {es} {ts} {us} x c y = record {
    some = let p = x.some in omega arith;
    few = let f = y.few in omega (arith, tokens_append ts (comma ∷ us));
    one = omega arith;
    apart = λ s n q rest. rw append_assoc (x.apart s n q (comma ∷ us ++ rest));
    read = λ d n all rest low few ends short. rw append_assoc (more_items_reach h k comma e es ts us x (comma_sort c) y d n all rest low few ends short);
  }
