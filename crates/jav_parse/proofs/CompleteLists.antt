-- Arguments, sizes, first values and items in braces of the grammar are read.
use Rattle.std.proofs.Common.{◌≡◌, ℕ, zero, suc, ◌+◌, ◌-◌, ◌<◌, ◌≤◌, max, false, List, [], ◌∷◌, ◌++◌, length, Ok, refl, sym, ap, ap₂, ◌∙◌, subst, append_assoc, arith}
use Rattle.mol_base.specs.Token.{Token}
use Rattle.jav_tree.specs.declared.types.TypeName.{TypeName}
use Rattle.jav_tree.specs.declared.expr.Expr.{Expr}
use Rattle.jav_tree.specs.declared.expr.ExprNode.TheVariants as node
use Rattle.jav_tree.specs.Expressions.{expr_at}
use Rattle.jav_tree.specs.Tokens.{IsSymbol, IsKeyword}
use Rattle.jav_tree.specs.Types.{BaseType, Brackets, array_of}
use Rattle.jav_parse_cursor.specs.declared.limits.Limits.{Limits}
use Rattle.jav_parse_expr.specs.declared.primary.Goal.TheVariants.{Level}
use Rattle.jav_parse_expr.specs.declared.primary.Rooms.{Rooms}
use Rattle.jav_parse_cursor.specs.declared.sort.Sort.{Sort}
use Rattle.jav_parse_cursor.specs.declared.sort.Sort.TheVariants as sort
use Rattle.jav_parse_cursor.specs.declared.tall.Shape.TheVariants.{Array, Loose}
use Rattle.jav_parse_cursor.specs.declared.tall.Tall.{Tall}
use Rattle.jav_parse_cursor.specs.declared.tall.Listed.{Listed}
use Rattle.jav_parse_expr.specs.ExprRules.{expr, inside}
use Rattle.jav_parse_cursor.specs.Nodes as made
use Rattle.jav_parse_expr.specs.PrimaryRules.{arguments, further_arguments, further_sizes, array}
use Rattle.jav_parse_cursor.specs.Reading.{Outcome, and_then, sort as next}
use Rattle.jav_parse_cursor.specs.Sorts.{same_sort, sort_of}
use Rattle.jav_parse.proofs.CompletePrimary.{ok_tall}
use Rattle.jav_parse.proofs.CompleteTypes.{base_read, brackets_not}
use Rattle.jav_parse.proofs.FirstTokens.{begins_not}
use Rattle.jav_parse.proofs.ListSteps.{listed_same, joined, first_argument, argument_goes, no_arguments_read, arguments_read, size_goes, array_sized, pairs_read, filled_read}
use Rattle.jav_parse.proofs.PartSteps.{sized, Near, ReachesPart, starts, primary_array}
use Rattle.jav_parse.proofs.ReadingSteps.{tokens_append, IsNot, is_not, Ends, ends_at, sort_at}
use Rattle.jav_parse.proofs.SortsOfTokens.{new_sort, open_sort, close_sort, left_sort, right_sort, comma_sort}
use Rattle.jav_parse.proofs.WholeReadings.{Builds, Short, PartRead, ExprRead, ArgumentsRead, ListedRead, ItemsRead, SizesRead, whole}

pub ok_listed : (a b : List Expr) (h k : ℕ) (rest : List Token) → a ≡ b → h ≡ k → ◌≡◌ {A = Outcome Listed} (Ok (record { exprs = a; height = h }, rest)) (Ok (record { exprs = b; height = k }, rest))
ok_listed a b h k rest p q = ap (λ all. Ok (all, rest)) (listed_same p q)

-- one expression more, and then some
pub joined_more : (all : Listed) (x : Tall) (es : List Expr) (k : ℕ) → joined (made.with all x) es k ≡ joined all (x.expr ∷ es) (max x.height k)
joined_more all x es k = listed_same (append_assoc all.exprs (x.expr ∷ []) es) (omega arith)

module _ (l : Limits) (w : Builds l) where
  -- ---- arguments

  pub no_arguments_whole : {left right : Token} → IsSymbol "(" left → IsSymbol ")" right → ArgumentsRead l 0 [] (left ∷ right ∷ [])
  no_arguments_whole {left} {right} a c = record {
    opens = λ rest. sort_at left (right ∷ rest) ∙ open_sort a;
    read = λ room fits rest short. no_arguments_read (expr l (room - 1) (Level 1)) l.most room left right rest (open_sort a) (close_sort c);
  }

  some_arguments_reach : (h : ℕ) (left right : Token) (es : List Expr) (ts : List Token) → sort_of left ≡ sort.Open → ListedRead l h es ts → sort_of right ≡ sort.Close → length es ≤ l.most
      → (room : ℕ) → h < room → (rest : List Token) → Short l (left ∷ ts ++ right ∷ []) rest
      → arguments l.most room (expr l (room - 1) (Level 1)) (left ∷ ts ++ right ∷ rest) ≡ Ok (record { exprs = es; height = h }, rest)
  some_arguments_reach h left right es ts hl x hr few room fits rest short =
      let p = x.some in
      arguments_read (expr l (room - 1) (Level 1)) l.most room (suc (l.most - 1) - length es) left (ts ++ right ∷ rest) (joined made.no_exprs es h) right rest hl
      (begins_not sort.Close (ts ++ right ∷ rest) (x.begins (right ∷ rest)) (λ b. b)) (omega arith) hr
      (x.read (room - 1) (l.most - 1) made.no_exprs (right ∷ rest) (omega arith) (omega arith) (ends_at sort.Close 1 right rest hr (omega arith)) (omega (arith, tokens_append ts (right ∷ []))))
      ∙ ok_listed es es (max 0 h) h rest refl (omega arith)

  pub some_arguments_whole : {h : ℕ} {left right : Token} {es : List Expr} {ts : List Token} → IsSymbol "(" left → ListedRead l h es ts → IsSymbol ")" right → length es ≤ l.most
      → ArgumentsRead l h es (left ∷ ts ++ right ∷ [])
  some_arguments_whole {h} {left} {right} {es} {ts} a x c few = record {
    opens = λ rest. sort_at left ((ts ++ right ∷ []) ++ rest) ∙ open_sort a;
    read = λ room fits rest short. rw append_assoc (some_arguments_reach h left right es ts (open_sort a) x (close_sort c) few room fits rest short);
  }

  pub last_listed_whole : {h : ℕ} {e : Expr} {ts : List Token} → ExprRead l 1 h e ts → ListedRead l h (e ∷ []) ts
  last_listed_whole {h} {e} {ts} x = record {
    some = x.some;
    one = omega arith;
    begins = x.begins;
    read = λ d n all rest low few ends short.
        ap (λ o. and_then o (λ y. further_arguments (expr l d (Level 1)) n (made.with all y))) (whole x (omega arith) d low rest ends short)
        ∙ ap (λ m. further_arguments (expr l d (Level 1)) m (joined all (e ∷ []) h) rest) (one_less n);
  }
    where
      one_less : (n : ℕ) → n ≡ suc n - 1
      one_less n = omega arith

  more_listed_reach : (h k : ℕ) (comma : Token) (e : Expr) (es : List Expr) (ts us : List Token) → ExprRead l 1 h e ts → sort_of comma ≡ sort.Comma → ListedRead l k es us
      → (d n : ℕ) (all : Listed) (rest : List Token) → max h k ≤ d → suc (length es) ≤ suc n → Ends 1 rest → Short l (ts ++ comma ∷ us) rest
      → first_argument (expr l d (Level 1)) n all (ts ++ (comma ∷ us ++ rest)) ≡ further_arguments (expr l d (Level 1)) (suc n - suc (length es)) (joined all (e ∷ es) (max h k)) rest
  more_listed_reach h k comma e es ts us x hc y d zero all rest low few ends short = absurd (let p = y.one in omega arith)
  more_listed_reach h k comma e es ts us x hc y d (suc n) all rest low few ends short =
      ap (λ o. and_then o (λ v. further_arguments (expr l d (Level 1)) (suc n) (made.with all v)))
      (whole x (omega arith) d (omega arith) (comma ∷ us ++ rest) (ends_at sort.Comma 1 comma (us ++ rest) hc (omega arith)) (omega (arith, tokens_append us rest, tokens_append ts (comma ∷ us))))
      ∙ argument_goes (expr l d (Level 1)) n (made.with all (sized e h x.shape)) comma (us ++ rest) hc
      ∙ y.read d n (made.with all (sized e h x.shape)) rest (omega arith) (omega arith) ends (omega (arith, tokens_append ts (comma ∷ us)))
      ∙ ap₂ (λ m v. further_arguments (expr l d (Level 1)) m v rest) (same_turns n (length es)) (joined_more all (sized e h x.shape) es k)
    where
      same_turns : (n m : ℕ) → suc n - m ≡ suc (suc n) - suc m
      same_turns n m = omega arith

  pub more_listed_whole : {h k : ℕ} {comma : Token} {e : Expr} {es : List Expr} {ts us : List Token} → ExprRead l 1 h e ts → IsSymbol "," comma → ListedRead l k es us → ListedRead l (max h k) (e ∷ es) (ts ++ comma ∷ us)
  more_listed_whole {h} {k} {comma} {e} {es} {ts} {us} x c y = record {
    some = let p = x.some in omega arith;
    one = omega arith;
    begins = λ rest. rw append_assoc (x.begins (comma ∷ us ++ rest));
    read = λ d n all rest low few ends short. rw append_assoc (more_listed_reach h k comma e es ts us x (comma_sort c) y d n all rest low few ends short);
  }

  -- ---- sizes of arrays

  size_reach : (h : ℕ) (left right : Token) (e : Expr) (ts us : List Token) → sort_of left ≡ sort.Left → ExprRead l 1 h e ts → sort_of right ≡ sort.Right
      → (top : ℕ) (rooms : Rooms) (at : ℕ) (base : TypeName) (n k : ℕ) (all : Listed) → h < rooms.rest → Short l ts (right ∷ us)
      → further_sizes l top rooms (inside l rooms) at base (suc n) k all (left ∷ ts ++ right ∷ us) ≡ further_sizes l top rooms (inside l rooms) at base n (k + 1) (joined all (e ∷ []) h) us
  size_reach h left right e ts us hl x hr top rooms at base n k all fits short =
      size_goes l top rooms at base n k all left (ts ++ right ∷ us) (sized e h x.shape) right us hl
      (begins_not sort.Right (ts ++ right ∷ us) (x.begins (right ∷ us)) (λ b. b)) hr
      (whole x (omega arith) (rooms.rest - 1) (omega arith) (right ∷ us) (ends_at sort.Right 1 right us hr (omega arith)) short)

  last_size_reach : (h : ℕ) (left right : Token) (e : Expr) (ts : List Token) → sort_of left ≡ sort.Left → ExprRead l 1 h e ts → sort_of right ≡ sort.Right
      → (top : ℕ) (rooms : Rooms) (at : ℕ) (base : TypeName) (n k : ℕ) (all : Listed) (rest : List Token) → h < rooms.rest → 1 ≤ n → Short l (left ∷ ts ++ right ∷ []) rest
      → further_sizes l top rooms (inside l rooms) at base n k all (left ∷ ts ++ right ∷ rest) ≡ further_sizes l top rooms (inside l rooms) at base (n - 1) (k + 1) (joined all (e ∷ []) h) rest
  last_size_reach h left right e ts hl x hr top rooms at base zero k all rest fits few short = absurd (omega arith)
  last_size_reach h left right e ts hl x hr top rooms at base (suc n) k all rest fits few short =
      size_reach h left right e ts rest hl x hr top rooms at base n k all fits (omega (arith, tokens_append ts (right ∷ [])))
      ∙ ap (λ m. further_sizes l top rooms (inside l rooms) at base m (k + 1) (joined all (e ∷ []) h) rest) (one_less n)
    where
      one_less : (n : ℕ) → n ≡ suc n - 1
      one_less n = omega arith

  size_opens : (h : ℕ) (left right : Token) (e : Expr) (ts us : List Token) → sort_of left ≡ sort.Left → ExprRead l 1 h e ts → (rest : List Token)
      → (c : Token) × (vs : List Token) × ((left ∷ ts ++ right ∷ us) ++ rest ≡ c ∷ vs) × (sort_of c ≡ sort.Left) × IsNot sort.Right vs
  size_opens h left right e ts us hl x rest = (left, (ts ++ right ∷ us) ++ rest, refl, hl, begins_not sort.Right ((ts ++ right ∷ us) ++ rest) (rw append_assoc (x.begins (right ∷ us ++ rest))) (λ b. b))

  pub last_size_whole : {h : ℕ} {left right : Token} {e : Expr} {ts : List Token} → IsSymbol "[" left → ExprRead l 1 h e ts → IsSymbol "]" right → SizesRead l h (e ∷ []) (left ∷ ts ++ right ∷ [])
  last_size_whole {h} {left} {right} {e} {ts} a x c = record {
    some = x.some;
    one = omega arith;
    opens = size_opens h left right e ts [] (left_sort a) x;
    read = λ top rooms at base n k all rest fits few short. rw append_assoc (last_size_reach h left right e ts (left_sort a) x (right_sort c) top rooms at base n k all rest fits few short);
  }

  more_sizes_reach : (h j : ℕ) (left right : Token) (e : Expr) (es : List Expr) (ts us : List Token) → sort_of left ≡ sort.Left → ExprRead l 1 h e ts → sort_of right ≡ sort.Right → SizesRead l j es us
      → (top : ℕ) (rooms : Rooms) (at : ℕ) (base : TypeName) (n k : ℕ) (all : Listed) (rest : List Token) → max h j < rooms.rest → suc (length es) ≤ n → Short l (left ∷ ts ++ right ∷ us) rest
      → further_sizes l top rooms (inside l rooms) at base n k all (left ∷ ts ++ (right ∷ us ++ rest))
      ≡ further_sizes l top rooms (inside l rooms) at base (n - suc (length es)) (k + suc (length es)) (joined all (e ∷ es) (max h j)) rest
  more_sizes_reach h j left right e es ts us hl x hr y top rooms at base zero k all rest fits few short = absurd (omega arith)
  more_sizes_reach h j left right e es ts us hl x hr y top rooms at base (suc n) k all rest fits few short =
      size_reach h left right e ts (us ++ rest) hl x hr top rooms at base n k all (omega arith) (omega (arith, tokens_append ts (right ∷ us), tokens_append us rest))
      ∙ y.read top rooms at base n (k + 1) (joined all (e ∷ []) h) rest (omega arith) (omega arith) (omega (arith, tokens_append ts (right ∷ us)))
      ∙ ap₂ (λ m v. further_sizes l top rooms (inside l rooms) at base m v (joined (joined all (e ∷ []) h) es j) rest) (same_left n (length es)) (same_right k (length es))
      ∙ ap (λ v. further_sizes l top rooms (inside l rooms) at base (suc n - suc (length es)) (k + suc (length es)) v rest) (joined_more all (sized e h Loose) es j)
    where
      same_left : (n m : ℕ) → n - m ≡ suc n - suc m
      same_left n m = omega arith

      same_right : (k m : ℕ) → k + 1 + m ≡ k + suc m
      same_right k m = omega arith

  pub more_sizes_whole : {h j : ℕ} {left right : Token} {e : Expr} {es : List Expr} {ts us : List Token} → IsSymbol "[" left → ExprRead l 1 h e ts → IsSymbol "]" right → SizesRead l j es us
      → SizesRead l (max h j) (e ∷ es) (left ∷ ts ++ right ∷ us)
  more_sizes_whole {h} {j} {left} {right} {e} {es} {ts} {us} a x c y = record {
    some = let p = x.some in omega arith;
    one = omega arith;
    opens = size_opens h left right e ts us (left_sort a) x;
    read = λ top rooms at base n k all rest fits few short. rw append_assoc (more_sizes_reach h j left right e es ts us (left_sort a) x (right_sort c) y top rooms at base n k all rest fits few short);
  }

  -- ---- array creations

  sized_array : (h n : ℕ) (sizes : List Expr) (us vs : List Token) → SizesRead l h sizes us → Brackets n vs → length sizes + n ≤ l.most → (top : ℕ) (rooms : Rooms) (at : ℕ) (base : TypeName) (rest : List Token)
      → h < rooms.rest → IsNot sort.Left rest → Short l us (vs ++ rest)
      → array l top rooms (inside l rooms) at base (us ++ (vs ++ rest)) ≡ Ok (made.sized at base (joined made.no_exprs sizes h) n, rest)
  sized_array h n sizes us vs x b few top rooms at base rest fits free_of short =
      let o = x.opens (vs ++ rest) in let p = x.some in let q = x.one in
      ap (array l top rooms (inside l rooms) at base) o.2
      ∙ array_sized l top rooms at base o.0 o.1 o.3 o.4 (omega arith)
      ∙ ap (further_sizes l top rooms (inside l rooms) at base (suc (l.most - 1)) 0 made.no_exprs) (sym o.2)
      ∙ x.read top rooms at base (suc (l.most - 1)) 0 made.no_exprs (vs ++ rest) fits (omega arith) short
      ∙ pairs_read l top rooms b at base (suc (l.most - 1) - length sizes) (0 + length sizes) (joined made.no_exprs sizes h) (omega arith) (omega arith) rest free_of

  left_apart : (s : Sort) (ts : List Token) (c : Token) (us : List Token) → ts ≡ c ∷ us → sort_of c ≡ sort.Left → same_sort sort.Left s ≡ false → IsNot s ts
  left_apart s ts c us e h q = subst (IsNot s) (sym e) (is_not s sort.Left c us h q)

  sized_reach : (h n : ℕ) (word : Token) (base : TypeName) (sizes : List Expr) (ts us vs : List Token) → IsKeyword "new" word → BaseType base ts → SizesRead l h sizes us → Brackets n vs
      → length sizes + n ≤ l.most → (top : ℕ) (rooms : Rooms) → Near top rooms → suc h ≤ rooms.rest → (rest : List Token) → IsNot sort.Left rest → Short l (word ∷ ts ++ (us ++ vs)) rest
      → ReachesPart l top rooms (word ∷ ts ++ (us ++ (vs ++ rest))) (sized (expr_at word.start (node.NewArray base sizes n)) (suc h) Array) rest
  unfolding same_sort
  sized_reach h n word base sizes ts us vs k b x c few top rooms near fits rest free_of short =
      let o = x.opens (vs ++ rest) in let q = near.rest in let p = x.some in
      starts l top rooms (word ∷ ts ++ (us ++ (vs ++ rest))) _ rest
      (primary_array l top rooms word (ts ++ (us ++ (vs ++ rest))) base (us ++ (vs ++ rest)) _ (new_sort k) (left_apart sort.Open (us ++ (vs ++ rest)) o.0 o.1 o.2 o.3 refl)
      (omega arith) (omega arith) (base_read b l.turns (omega (arith, tokens_append ts (us ++ vs))) (us ++ (vs ++ rest)) (left_apart sort.Dot (us ++ (vs ++ rest)) o.0 o.1 o.2 o.3 refl))
      (sized_array h n sizes us vs x c few top rooms word.start base rest fits free_of (omega (arith, tokens_append ts (us ++ vs), tokens_append us vs, tokens_append vs rest)))
      ∙ ok_tall _ (max 0 h + 1) (suc h) Array rest (omega arith))

  pub sized_whole : {h n : ℕ} {word : Token} {base : TypeName} {sizes : List Expr} {ts us vs : List Token} → IsKeyword "new" word → BaseType base ts → SizesRead l h sizes us → Brackets n vs
      → length sizes + n ≤ l.most → PartRead l Array (suc h) (expr_at word.start (node.NewArray base sizes n)) (word ∷ ts ++ (us ++ vs))
  sized_whole {h} {n} {word} {base} {sizes} {ts} {us} {vs} k b x c few = record {
    some = omega arith;
    reach = λ top rooms near fits rest free_of short. rw (append_assoc, append_assoc) (sized_reach h n word base sizes ts us vs k b x c few top rooms near fits rest free_of short);
  }

  begin_apart : (s : Sort) (ts : List Token) → next ts ≡ sort.Begin → same_sort sort.Begin s ≡ false → IsNot s ts
  begin_apart s ts h q = ap (λ v. same_sort v s) h ∙ q

  filled_reach : (h n : ℕ) (word : Token) (base : TypeName) (all : List Expr) (ts us vs : List Token) → IsKeyword "new" word → BaseType base ts → Brackets (suc n) us → suc n ≤ l.most
      → ItemsRead l h all vs → (top : ℕ) (rooms : Rooms) → Near top rooms → suc h ≤ rooms.rest → (rest : List Token) → Short l (word ∷ ts ++ (us ++ vs)) rest
      → ReachesPart l top rooms (word ∷ ts ++ (us ++ (vs ++ rest))) (sized (expr_at word.start (node.ArrayLit (array_of (suc n) base) all)) (suc h) Array) rest
  unfolding same_sort
  filled_reach h n word base all ts us vs k b c few x top rooms near fits rest short =
      let q = near.rest in
      starts l top rooms (word ∷ ts ++ (us ++ (vs ++ rest))) _ rest
      (primary_array l top rooms word (ts ++ (us ++ (vs ++ rest))) base (us ++ (vs ++ rest)) _ (new_sort k) (brackets_not c sort.Open refl (vs ++ rest) (begin_apart sort.Open (vs ++ rest) (x.opens rest) refl))
      (omega arith) (omega arith) (base_read b l.turns (omega (arith, tokens_append ts (us ++ vs))) (us ++ (vs ++ rest)) (brackets_not c sort.Dot refl (vs ++ rest) (begin_apart sort.Dot (vs ++ rest) (x.opens rest) refl)))
      (filled_read l top rooms c w.built few (omega arith) word.start base (vs ++ rest) (record { exprs = all; height = h }) rest (begin_apart sort.Left (vs ++ rest) (x.opens rest) refl)
      (x.read rooms.rest fits rest (omega (arith, tokens_append ts (us ++ vs), tokens_append us vs))))
      ∙ ok_tall _ (h + 1) (suc h) Array rest (omega arith))

  pub filled_whole : {h n : ℕ} {word : Token} {base : TypeName} {all : List Expr} {ts us vs : List Token} → IsKeyword "new" word → BaseType base ts → Brackets (suc n) us → suc n ≤ l.most
      → ItemsRead l h all vs → PartRead l Array (suc h) (expr_at word.start (node.ArrayLit (array_of (suc n) base) all)) (word ∷ ts ++ (us ++ vs))
  filled_whole {h} {n} {word} {base} {all} {ts} {us} {vs} k b c few x = record {
    some = omega arith;
    reach = λ top rooms near fits rest free_of short. rw (append_assoc, append_assoc) (filled_reach h n word base all ts us vs k b c few x top rooms near fits rest short);
  }
