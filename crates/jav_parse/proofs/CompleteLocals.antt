-- Comments, and the variables of declarations, are read whole.
use Rattle.std.proofs.lemmas.List.{length-append}
use Rattle.std.proofs.Common.{◌≡◌, ℕ, zero, suc, ◌+◌, ◌-◌, ◌<◌, ◌≤◌, max, List, [], ◌∷◌, ◌++◌, length, map, Ok, None, refl, sym, ap, ◌∙◌, append_assoc, append-nil, arith}
use Rattle.mol_base.specs.Token.{Token}
use Rattle.jav_tree.specs.declared.stmt.Declarator.{Declarator}
use Rattle.jav_tree.specs.Tokens.{IsSymbol, IsName, IsComment, Comments}
use Rattle.jav_tree.specs.Tokens as comment
use Rattle.jav_tree.specs.Statements as grammar
use Rattle.jav_parse_cursor.specs.declared.limits.Limits.{Limits}
use Rattle.jav_parse_stmt.specs.declared.local.Variable.{Variable}
use Rattle.jav_parse_stmt.specs.declared.local.VariableList.{VariableList}
use Rattle.jav_parse_expr.specs.declared.primary.Goal.TheVariants as goals
use Rattle.jav_parse_cursor.specs.declared.sort.Sort.TheVariants as sort
use Rattle.jav_parse_cursor.specs.declared.tall.Tall.{Tall}
use Rattle.jav_parse_expr.specs.ExprRules.{expr}
use Rattle.jav_parse_stmt.specs.LocalRules.{alone, valued, declarators, with_variable, further_variables}
use Rattle.jav_parse_cursor.specs.Reading.{◌>>=◌, comments, sort as next}
use Rattle.jav_parse_cursor.specs.Sorts.{sort_of, same_sort}
use Rattle.jav_parse.proofs.PartSteps.{sized}
use Rattle.jav_parse.proofs.ReadingSteps.{IsNot, is_not, Ends, ends_at, same_self, eq_false, take_goes, expect_goes}
use Rattle.jav_parse.proofs.SortsOfTokens.{comment_sort, name_sort, equals_sort, comma_sort}
use Rattle.jav_parse.proofs.WholeLaws.{WholeLaws}

-- ---- comments

comment_goes : (n : ℕ) (notes : List (List ℕ)) (t : Token) (ts : List Token) → sort_of t ≡ sort.Comment → comments (suc n) notes (t ∷ ts) ≡ comments n (notes ++ t.text ∷ []) ts
unfolding comments next
comment_goes n notes t ts h = rw (h, same_self sort.Comment, take_goes t ts) refl

comments_end : (n : ℕ) (notes : List (List ℕ)) (ts : List Token) → IsNot sort.Comment ts → comments (suc n) notes ts ≡ Ok (notes, ts)
unfolding comments
comments_end n notes ts h = rw h refl

pub comments_read : {texts : List (List ℕ)} {us : List Token} → Comments texts us → (n : ℕ) (notes : List (List ℕ)) (rest : List Token) → length us < n → IsNot sort.Comment rest
    → comments n notes (us ++ rest) ≡ Ok (notes ++ texts, rest)
comments_read comment.none zero notes rest few h = absurd (omega arith)
comments_read comment.none (suc n) notes rest few h = comments_end n notes rest h ∙ ap (λ r. Ok (r, rest)) (sym (append-nil notes))
comments_read (comment.comment {t = t} {texts = texts} {ts = ts} c k) zero notes rest few h = absurd (omega arith)
comments_read (comment.comment {t = t} {texts = texts} {ts = ts} c k) (suc n) notes rest few h =
    comment_goes n notes t (ts ++ rest) (comment_sort c) ∙ comments_read k n (notes ++ t.text ∷ []) rest (omega arith) h
    ∙ ap (λ r. Ok (r, rest)) (append_assoc notes (t.text ∷ []) texts)

-- ---- variables

-- the variable of a declarator and its offset
abbrev pub variable : ℕ × Declarator → Variable
variable d = record { at = d.0; name = d.1.name; init = d.1.init }

pub declared_are : (ds : List (ℕ × Declarator)) → declarators (map variable ds) ≡ map (λ d. d.1) ds
declared_are [] = refl
declared_are (d ∷ ds) = ap (λ r. d.1 ∷ r) (declared_are ds)

abbrev pub added : VariableList → List (ℕ × Declarator) → ℕ → VariableList
added all ds h = record { items = all.items ++ map variable ds; height = max all.height h }

-- what may follow variables: no comma, and nothing that goes on from a value
pub record AfterVariables (rest : List Token) : Type 0 where
  pub comma : IsNot sort.Comma rest
  pub equals : IsNot sort.Equals rest
  pub ends : Ends 1 rest

alone_goes : (l : Limits) (top : ℕ) (all : VariableList) (t : Token) (rest : List Token) → IsNot sort.Equals rest → with_variable l top all t rest ≡ Ok (alone all t, rest)
unfolding with_variable
alone_goes l top all t rest h = rw h refl

valued_goes : (l : Limits) (top : ℕ) (all : VariableList) (t equals : Token) (x : Tall) (us rest : List Token) → sort_of equals ≡ sort.Equals → 0 < top → expr l top goals.Init us ≡ Ok (x, rest)
    → with_variable l top all t (equals ∷ us) ≡ Ok (valued all t x, rest)
unfolding with_variable next
valued_goes l top all t equals x us rest h some q = rw (h, same_self sort.Equals, eq_false top 0 some, take_goes equals us, q) refl

-- a variable after its name
record VariableRead (l : Limits) (h : ℕ) (d : ℕ × Declarator) (ts : List Token) : Type 0 where
  name : Token
  us : List Token
  split : ts ≡ name ∷ us
  is_name : sort_of name ≡ sort.Name
  colon : (rest : List Token) → IsNot sort.Colon rest → IsNot sort.Colon (us ++ rest)
  read : (top : ℕ) → h ≤ top → (all : VariableList) (rest : List Token) → IsNot sort.Equals rest → Ends 1 rest → length us + length rest < l.turns
      → with_variable l top all name (us ++ rest) ≡ Ok (added all (d ∷ []) h, rest)

alone_height : (all : VariableList) (t : Token) → alone all t ≡ added all ((t.start, record { name = t.text; init = None }) ∷ []) 0
alone_height all t = let e : max all.height 0 ≡ all.height = omega arith in rw e refl

equals_not_colon : (equals : Token) (rest : List Token) → sort_of equals ≡ sort.Equals → IsNot sort.Colon (equals ∷ rest)
unfolding same_sort
equals_not_colon equals rest h = is_not sort.Colon sort.Equals equals rest h refl

comma_not_colon : (comma : Token) (rest : List Token) → sort_of comma ≡ sort.Comma → IsNot sort.Colon (comma ∷ rest)
unfolding same_sort
comma_not_colon comma rest h = is_not sort.Colon sort.Comma comma rest h refl

variable_read : (l : Limits) → WholeLaws l → (h : ℕ) (d : ℕ × Declarator) (ts : List Token) → grammar.Variable l.most h d ts → VariableRead l h d ts
variable_read l w h d ts (grammar.alone {t = t} n) = record {
  name = t;
  us = [];
  split = refl;
  is_name = name_sort n;
  colon = λ rest c. c;
  read = λ top fits all rest e ends short. alone_goes l top all t rest e ∙ ap (λ r. Ok (r, rest)) (alone_height all t);
}
variable_read l w h d ts (grammar.valued {t = t} {equals = equals} {e = e} {ts = us} n q x) = record {
  name = t;
  us = equals ∷ us;
  split = refl;
  is_name = name_sort n;
  colon = λ rest c. equals_not_colon equals (us ++ rest) (equals_sort q);
  read = λ top fits all rest no ends short.
      let y = w.init h e us x in let some = y.some in
      valued_goes l top all t equals (sized e h y.shape) (us ++ rest) rest (equals_sort q) (omega arith) (y.read top rest fits ends (omega arith));
}

further_end : (l : Limits) (top n : ℕ) (all : VariableList) (rest : List Token) → IsNot sort.Comma rest → further_variables l top (suc n) all rest ≡ Ok (all, rest)
unfolding further_variables
further_end l top n all rest h = rw h refl

further_goes : (l : Limits) (top n : ℕ) (all : VariableList) (comma t : Token) (us : List Token) → sort_of comma ≡ sort.Comma → sort_of t ≡ sort.Name
    → further_variables l top (suc n) all (comma ∷ t ∷ us) ≡ (with_variable l top all t >>= further_variables l top n) us
unfolding further_variables next
further_goes l top n all comma t us hc ht = rw (hc, same_self sort.Comma, take_goes comma (t ∷ us), expect_goes t us ht) refl

both_go : (l : Limits) (top n : ℕ) (all one : VariableList) (t : Token) (us mid : List Token) → with_variable l top all t us ≡ Ok (one, mid)
    → (with_variable l top all t >>= further_variables l top n) us ≡ further_variables l top n one mid
both_go l top n all one t us mid q = rw q refl

added_more : (all : VariableList) (d : ℕ × Declarator) (ds : List (ℕ × Declarator)) (h k : ℕ) → added (added all (d ∷ []) h) ds k ≡ added all (d ∷ ds) (max h k)
added_more all d ds h k =
    let e : max (max all.height h) k ≡ max all.height (max h k) = omega arith in
    rw (e, append_assoc) refl

-- variables after the first name
pub record VariablesRead (l : Limits) (h : ℕ) (ds : List (ℕ × Declarator)) (ts : List Token) : Type 0 where
  pub name : Token
  pub us : List Token
  pub split : ts ≡ name ∷ us
  pub is_name : sort_of name ≡ sort.Name
  pub colon : (rest : List Token) → IsNot sort.Colon rest → IsNot sort.Colon (us ++ rest)
  pub read : (top : ℕ) → h ≤ top → (n : ℕ) (all : VariableList) (rest : List Token) → AfterVariables rest → length us + length rest < l.turns → length us < n
      → (with_variable l top all name >>= further_variables l top n) (us ++ rest) ≡ Ok (added all ds h, rest)

last_go : (l : Limits) (top n : ℕ) (all one : VariableList) (t : Token) (us mid : List Token) → with_variable l top all t us ≡ Ok (one, mid) → IsNot sort.Comma mid → 0 < n
    → (with_variable l top all t >>= further_variables l top n) us ≡ Ok (one, mid)
last_go l top zero all one t us mid q h some = absurd (omega arith)
last_go l top (suc n) all one t us mid q h some = both_go l top (suc n) all one t us mid q ∙ further_end l top n one mid h

more_go : (l : Limits) (top n : ℕ) (all one : VariableList) (t comma next_name : Token) (us vs : List Token) → with_variable l top all t us ≡ Ok (one, comma ∷ next_name ∷ vs) → sort_of comma ≡ sort.Comma
    → sort_of next_name ≡ sort.Name → 0 < n → (with_variable l top all t >>= further_variables l top n) us ≡ (with_variable l top one next_name >>= further_variables l top (n - 1)) vs
more_go l top zero all one t comma next_name us vs q hc hn some = absurd (omega arith)
more_go l top (suc n) all one t comma next_name us vs q hc hn some = let e : suc n - 1 ≡ n = omega arith in
    both_go l top (suc n) all one t us (comma ∷ next_name ∷ vs) q ∙ further_goes l top n one comma next_name vs hc hn ∙ ap (λ k. (with_variable l top one next_name >>= further_variables l top k) vs) (sym e)

last_variables : (l : Limits) (h : ℕ) (d : ℕ × Declarator) (ts : List Token) → VariableRead l h d ts → VariablesRead l h (d ∷ []) ts
last_variables l h d ts x = record {
  name = x.name;
  us = x.us;
  split = x.split;
  is_name = x.is_name;
  colon = x.colon;
  read = λ top fits n all rest after short few. last_go l top n all (added all (d ∷ []) h) x.name (x.us ++ rest) rest (x.read top fits all rest after.equals after.ends short) after.comma (omega arith);
}

comma_ends : (comma : Token) (rest : List Token) → sort_of comma ≡ sort.Comma → Ends 1 (comma ∷ rest)
comma_ends comma rest h = ends_at sort.Comma 1 comma rest h (omega arith)

comma_not_equals : (comma : Token) (rest : List Token) → sort_of comma ≡ sort.Comma → IsNot sort.Equals (comma ∷ rest)
unfolding same_sort
comma_not_equals comma rest h = is_not sort.Equals sort.Comma comma rest h refl

more_variables : (l : Limits) (h k : ℕ) (d : ℕ × Declarator) (ds : List (ℕ × Declarator)) (ts us : List Token) (comma : Token) → VariableRead l h d ts → sort_of comma ≡ sort.Comma → VariablesRead l k ds us
    → VariablesRead l (max h k) (d ∷ ds) (ts ++ comma ∷ us)
more_variables l h k d ds ts us comma x hc y = record {
  name = x.name;
  us = x.us ++ comma ∷ us;
  split = ap (λ r. r ++ comma ∷ us) x.split;
  is_name = x.is_name;
  colon = λ rest c. rw append_assoc (x.colon (comma ∷ us ++ rest) (comma_not_colon comma (us ++ rest) hc));
  read = λ top fits n all rest after short few.
      let z = length-append x.us (comma ∷ us) in
      let e : (x.us ++ comma ∷ us) ++ rest ≡ x.us ++ (comma ∷ y.name ∷ (y.us ++ rest)) = append_assoc x.us (comma ∷ us) rest ∙ ap (λ r. x.us ++ (comma ∷ (r ++ rest))) y.split in
      let c : length us ≡ suc (length y.us) = ap length y.split in
      let a = length-append y.us rest in
      let one = x.read top (omega arith) all (comma ∷ y.name ∷ (y.us ++ rest)) (comma_not_equals comma (y.name ∷ (y.us ++ rest)) hc) (comma_ends comma (y.name ∷ (y.us ++ rest)) hc) (omega arith) in
      ap (with_variable l top all x.name >>= further_variables l top n) e
      ∙ more_go l top n all (added all (d ∷ []) h) x.name comma y.name (x.us ++ (comma ∷ y.name ∷ (y.us ++ rest))) (y.us ++ rest) one hc y.is_name (omega arith)
      ∙ y.read top (omega arith) (n - 1) (added all (d ∷ []) h) rest after (omega arith) (omega arith)
      ∙ ap (λ r. Ok (r, rest)) (added_more all d ds h k);
}

pub variables_read : (l : Limits) → WholeLaws l → (h : ℕ) (ds : List (ℕ × Declarator)) (ts : List Token) → grammar.Variables l.most h ds ts → VariablesRead l h ds ts
variables_read l w h ds ts (grammar.last {d = d} x) = last_variables l h d ts (variable_read l w h d ts x)
variables_read l w h ds ts (grammar.more {h = j} {k = k} {comma = comma} {d = d} {ds = es} {ts = us} {us = vs} x hc y) =
    more_variables l j k d es us vs comma (variable_read l w j d us x) (comma_sort hc) (variables_read l w k es vs y)
