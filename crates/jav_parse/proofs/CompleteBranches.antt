-- Branches, `if` and what follows `else` are read whole, where what they hold is.
use Rattle.std.proofs.Common.{◌≡◌, ℕ, suc, ◌+◌, ◌-◌, ◌<◌, max, ◌||◌, Bool, true, false, List, [], ◌∷◌, ◌++◌, length, Ok, refl, ap, ◌∙◌, append_assoc, append-nil, arith}
use Rattle.std.proofs.lemmas.List.{length-append}
use Rattle.mol_base.specs.Token.{Token}
use Rattle.jav_tree.specs.declared.expr.Expr.{Expr}
use Rattle.jav_tree.specs.declared.stmt.Else.{Else}
use Rattle.jav_tree.specs.declared.stmt.Else.TheVariants as otherwise
use Rattle.jav_tree.specs.declared.stmt.Stmt.{Stmt}
use Rattle.jav_tree.specs.declared.stmt.StmtNode.TheVariants as node
use Rattle.jav_tree.specs.Blocks.{block_of}
use Rattle.jav_tree.specs.Expressions.{Expression}
use Rattle.jav_tree.specs.Tokens.{IsSymbol, IsKeyword, Comments, start_of}
use Rattle.jav_tree.specs.Tokens as comment
use Rattle.jav_parse_stmt.specs.declared.flow.TallElse.{TallElse}
use Rattle.jav_parse_cursor.specs.declared.limits.Limits.{Limits}
use Rattle.jav_parse_cursor.specs.declared.sort.Sort.{Sort}
use Rattle.jav_parse_cursor.specs.declared.sort.Sort.TheVariants as sort
use Rattle.jav_parse_stmt.specs.declared.stmt.Place.{Place}
use Rattle.jav_parse_stmt.specs.declared.stmt.Place.TheVariants.{Item, Branch, Plain, Chain}
use Rattle.jav_parse_stmt.specs.declared.stmt_tall.TallBlock.{TallBlock}
use Rattle.jav_parse_stmt.specs.declared.stmt_tall.TallStmt.{TallStmt}
use Rattle.jav_parse_cursor.specs.declared.tall.Tall.{Tall}
use Rattle.jav_parse_cursor.specs.Reading.{Parser, comments, sort as next}
use Rattle.jav_parse_cursor.specs.Sorts.{sort_of, same_sort}
use Rattle.jav_parse_stmt.specs.StmtRules as rules
use Rattle.jav_parse_stmt.specs.StmtRules.{stmt, statement_at, condition, block, wrapped, chained, second_branch, short_if, long_if, chosen, if_stmt}
use Rattle.jav_parse.proofs.CompleteLocals.{comments_read}
use Rattle.jav_parse.proofs.CompleteLoops.{condition_goes, close_ends, stood_is}
use Rattle.jav_parse.proofs.CompleteSimple.{expression_read}
use Rattle.jav_parse.proofs.PartSteps.{sized}
use Rattle.jav_parse.proofs.ReadingSteps.{IsNot, is_not, same_self, sort_at, take_goes, le_false}
use Rattle.jav_parse.proofs.SortsOfTokens.{open_sort, close_sort, keyword_sort, comment_sort}
use Rattle.jav_parse.proofs.StatementReadings.{alone, stood, block_stood, else_stood, left_of, taken, ChoiceRead, OtherRead, BranchRead}
use Rattle.jav_parse_stmt.proofs.AtHeight.{stmt_is}
use Rattle.jav_parse.proofs.WholeLaws.{WholeLaws}

-- a token of another sort follows comments, or a comment is first
pub comments_not : {texts : List (List ℕ)} {ts : List Token} → Comments texts ts → (s : Sort) → same_sort sort.Comment s ≡ false → (rest : List Token) → IsNot s rest → IsNot s (ts ++ rest)
comments_not comment.none s q rest h = h
comments_not (comment.comment {t = t} {ts = ts} c k) s q rest h = is_not s sort.Comment t (ts ++ rest) (comment_sort c) q

-- the comments after a statement, whether it took them or not
pub taken_read : (l : Limits) (is_open : Bool) (notes : List (List ℕ)) (us rest : List Token) → Comments notes us → length us < l.turns → IsNot sort.Comment rest
    → comments l.turns (taken is_open notes) (left_of is_open us rest) ≡ Ok (notes, rest)
taken_read l true notes us rest c few h = comments_read comment.none l.turns notes rest (omega arith) h ∙ ap (λ r. Ok (r, rest)) (append-nil notes)
taken_read l false notes us rest c few h = comments_read c l.turns [] rest few h

or_true : (b : Bool) → (b || true) ≡ true
or_true true = refl
or_true false = refl

keyword_not_comment : (t : Token) (rest : List Token) (s : Sort) → sort_of t ≡ s → same_sort s sort.Comment ≡ false → IsNot sort.Comment (t ∷ rest)
keyword_not_comment t rest s h q = is_not sort.Comment s t rest h q

module _ (l : Limits) (top : ℕ) (once twice : Place → Parser TallStmt) where
  chosen_short : (at : ℕ) (test : Expr) (h : ℕ) (first : TallBlock) (mid rest : List Token) (notes : List (List ℕ)) → comments l.turns first.after mid ≡ Ok (notes, rest) → IsNot sort.Else rest
      → chosen l top once twice at test h first mid ≡ Ok (short_if at test h first notes, rest)
  unfolding chosen
  chosen_short at test h first mid rest notes q n = rw (q, n, or_true first.is_open) refl

  chosen_long : (at : ℕ) (test : Expr) (h : ℕ) (first : TallBlock) (mid : List Token) (word : Token) (us rest : List Token) (notes : List (List ℕ)) (second : TallElse) → first.is_open ≡ false
      → comments l.turns first.after mid ≡ Ok (notes, word ∷ us) → sort_of word ≡ sort.Else → rules.else_branch l top once twice us ≡ Ok (second, rest)
      → chosen l top once twice at test h first mid ≡ Ok (long_if at test h first notes second, rest)
  unfolding chosen next
  chosen_long at test h first mid word us rest notes second closed q hw k = rw (q, closed, hw, same_self sort.Else, take_goes word us, k) refl

  if_goes : (word : Token) (us : List Token) (test : Tall) (mid : List Token) (first : TallBlock) (rest : List Token) (r : TallStmt × List Token) → 1 < top → condition l (top - 1) us ≡ Ok (test, mid)
      → rules.branch l top once twice Branch mid ≡ Ok (first, rest) → chosen l top once twice word.start test.expr test.height first rest ≡ Ok r → if_stmt l top once twice (word ∷ us) ≡ Ok r
  unfolding if_stmt
  if_goes word us test mid first rest r high q b c = rw (le_false top 1 high, take_goes word us, q, b) c

  pub branch_block : (kind : Place) (ts mid rest : List Token) (notes : List (List ℕ)) (b : TallBlock) → comments l.turns [] ts ≡ Ok (notes, mid) → next mid ≡ sort.Begin → block l (twice Item) (top - 1) notes mid ≡ Ok (b, rest)
      → rules.branch l top once twice kind ts ≡ Ok (b, rest)
  unfolding rules.branch
  branch_block kind ts mid rest notes b q h k = rw (q, h, same_self sort.Begin) k

  pub branch_one : (kind : Place) (ts mid rest : List Token) (notes : List (List ℕ)) (s : TallStmt) → comments l.turns [] ts ≡ Ok (notes, mid) → IsNot sort.Begin mid → 2 < top → twice kind mid ≡ Ok (s, rest)
      → rules.branch l top once twice kind ts ≡ Ok (wrapped notes s, rest)
  unfolding rules.branch
  branch_one kind ts mid rest notes s q n high k = rw (q, n, le_false top 2 high, k) refl

  pub other_if : (ts : List Token) (s : TallStmt) (rest : List Token) → next ts ≡ sort.If → once Chain ts ≡ Ok (s, rest) → rules.else_branch l top once twice ts ≡ Ok (chained s, rest)
  unfolding rules.else_branch
  other_if ts s rest h q = rw (h, same_self sort.If, q) refl

  pub other_branch : (ts : List Token) (b : TallBlock) (rest : List Token) → IsNot sort.If ts → rules.branch l top once twice Plain ts ≡ Ok (b, rest) → rules.else_branch l top once twice ts ≡ Ok (second_branch b, rest)
  unfolding rules.else_branch
  other_branch ts b rest n q = rw (n, q) refl

  one_if : (kind : Place) (ts : List Token) (r : TallStmt × List Token) → next ts ≡ sort.If → rules.if_at l top once twice kind ts ≡ Ok r → statement_at l top once twice kind ts ≡ Ok r
  unfolding statement_at
  one_if kind ts r h q = rw (h, same_self sort.If) q

  pub one_other : (kind : Place) (ts : List Token) (r : TallStmt × List Token) → IsNot sort.If ts → rules.standing l top once twice kind ts ≡ Ok r → statement_at l top once twice kind ts ≡ Ok r
  unfolding statement_at
  one_other kind ts r n q = rw n q

-- a statement at a place
pub stmt_if : (l : Limits) (d : ℕ) (kind : Place) (ts : List Token) (r : TallStmt × List Token) → 0 < d → next ts ≡ sort.If → rules.if_at l d (stmt l (d - 1)) (stmt l (d - 1 - 1)) kind ts ≡ Ok r → stmt l d kind ts ≡ Ok r
stmt_if l d kind ts r some h q = stmt_is l d kind some ts ∙ one_if l d (stmt l (d - 1)) (stmt l (d - 1 - 1)) kind ts r h q

pub stmt_other : (l : Limits) (d : ℕ) (kind : Place) (ts : List Token) (r : TallStmt × List Token) → 0 < d → IsNot sort.If ts → rules.standing l d (stmt l (d - 1)) (stmt l (d - 1 - 1)) kind ts ≡ Ok r → stmt l d kind ts ≡ Ok r
stmt_other l d kind ts r some n q = stmt_is l d kind some ts ∙ one_other l d (stmt l (d - 1)) (stmt l (d - 1 - 1)) kind ts r n q

-- ---- `if`

pub short_read : (l : Limits) → WholeLaws l → (h k : ℕ) (is_open : Bool) (word left right : Token) (e : Expr) (items : List Stmt) (tail : List (List ℕ)) (ts us : List Token) → IsKeyword "if" word → IsSymbol "(" left
    → Expression l.most 1 h e ts → IsSymbol ")" right → BranchRead l k is_open items tail us
    → ChoiceRead l (suc (max h k)) true (node.If e (block_of items tail) otherwise.None) (word ∷ left ∷ ts ++ right ∷ us)
short_read l w h k is_open word left right e items tail ts us hw hl x hr b = record {
  some = omega arith;
  begins = λ rest. sort_at word (left ∷ ts ++ right ∷ us ++ rest) ∙ keyword_sort "if" word hw;
  read = λ top fits notes cs rest f short.
      let some = b.some in
      let n = length-append (ts ++ right ∷ us) (cs ++ rest) in let n2 = length-append ts (right ∷ us) in let n3 = length-append us (cs ++ rest) in let n4 = length-append cs rest in
      rw append_assoc (if_goes l top (stmt l (top - 1)) (stmt l (top - 1 - 1)) word (left ∷ (ts ++ (right ∷ (us ++ (cs ++ rest))))) (sized e h ((w.expression h e ts x).shape)) (us ++ (cs ++ rest))
      (block_stood items tail k is_open notes) (left_of is_open cs rest) (stood word.start (node.If e (block_of items tail) otherwise.None) (max h k + 1) true notes, rest) (omega arith)
      (condition_goes l (top - 1) left (ts ++ (right ∷ (us ++ (cs ++ rest)))) (sized e h ((w.expression h e ts x).shape)) right (us ++ (cs ++ rest)) (open_sort hl)
      (expression_read l w h e ts x (top - 1) (omega arith) (right ∷ (us ++ (cs ++ rest))) (close_ends right (us ++ (cs ++ rest)) (close_sort hr)) (omega arith)) (close_sort hr))
      (b.read top (omega arith) notes cs rest (record { comments = f.comments; stops = λ z. f.stops refl; other = λ z. f.other refl }) (omega arith))
      (chosen_short l top (stmt l (top - 1)) (stmt l (top - 1 - 1)) word.start e h (block_stood items tail k is_open notes) (left_of is_open cs rest) rest notes
      (taken_read l is_open notes cs rest f.comments (omega arith) (f.stops refl)) (f.other refl))
      ∙ stood_is word.start (node.If e (block_of items tail) otherwise.None) (max h k + 1) (suc (max h k)) true notes rest (omega arith));
}

else_not_comment : (second : Token) (rest : List Token) → IsKeyword "else" second → IsNot sort.Comment (second ∷ rest)
unfolding same_sort
else_not_comment second rest h = is_not sort.Comment sort.Else second rest (keyword_sort "else" second h) refl

pub long_read : (l : Limits) → WholeLaws l → (h k j : ℕ) (is_open : Bool) (word left right second : Token) (e : Expr) (items : List Stmt) (tail texts : List (List ℕ)) (other : Else) (ts us vs ws : List Token)
    → IsKeyword "if" word → IsSymbol "(" left → Expression l.most 1 h e ts → IsSymbol ")" right → BranchRead l k false items tail us → Comments texts vs → IsKeyword "else" second → OtherRead l j is_open other ws
    → ChoiceRead l (suc (max h (max k j))) is_open (node.If e (block_of items (tail ++ texts)) other) (word ∷ left ∷ ts ++ (right ∷ us ++ (vs ++ second ∷ ws)))
long_read l w h k j is_open word left right second e items tail texts other ts us vs ws hw hl x hr b c hs o = record {
  some = omega arith;
  begins = λ rest. sort_at word (left ∷ ts ++ (right ∷ us ++ (vs ++ second ∷ ws)) ++ rest) ∙ keyword_sort "if" word hw;
  read = λ top fits notes cs rest f short.
      let some = b.some in
      let n = length-append (ts ++ (right ∷ us ++ (vs ++ second ∷ ws))) (cs ++ rest) in let n2 = length-append ts (right ∷ us ++ (vs ++ second ∷ ws)) in let n3 = length-append us (vs ++ second ∷ ws) in
      let n4 = length-append vs (second ∷ ws) in let n5 = length-append ws (cs ++ rest) in let n6 = length-append vs (second ∷ (ws ++ (cs ++ rest))) in let n7 = length-append us (vs ++ (second ∷ (ws ++ (cs ++ rest)))) in
      simp append_assoc (if_goes l top (stmt l (top - 1)) (stmt l (top - 1 - 1)) word (left ∷ (ts ++ (right ∷ (us ++ (vs ++ (second ∷ (ws ++ (cs ++ rest)))))))) (sized e h ((w.expression h e ts x).shape))
      (us ++ (vs ++ (second ∷ (ws ++ (cs ++ rest))))) (block_stood items tail k false []) (vs ++ (second ∷ (ws ++ (cs ++ rest))))
      (stood word.start (node.If e (block_of items (tail ++ texts)) other) (max (max h k) j + 1) is_open notes, left_of is_open cs rest) (omega arith)
      (condition_goes l (top - 1) left (ts ++ (right ∷ (us ++ (vs ++ (second ∷ (ws ++ (cs ++ rest))))))) (sized e h ((w.expression h e ts x).shape)) right (us ++ (vs ++ (second ∷ (ws ++ (cs ++ rest))))) (open_sort hl)
      (expression_read l w h e ts x (top - 1) (omega arith) (right ∷ (us ++ (vs ++ (second ∷ (ws ++ (cs ++ rest)))))) (close_ends right (us ++ (vs ++ (second ∷ (ws ++ (cs ++ rest))))) (close_sort hr)) (omega arith)) (close_sort hr))
      (b.read top (omega arith) [] [] (vs ++ (second ∷ (ws ++ (cs ++ rest)))) (alone (vs ++ (second ∷ (ws ++ (cs ++ rest))))) (omega arith))
      (chosen_long l top (stmt l (top - 1)) (stmt l (top - 1 - 1)) word.start e h (block_stood items tail k false []) (vs ++ (second ∷ (ws ++ (cs ++ rest)))) second (ws ++ (cs ++ rest)) (left_of is_open cs rest) texts
      (else_stood other j is_open notes) refl (comments_read c l.turns [] (second ∷ (ws ++ (cs ++ rest))) (omega arith) (else_not_comment second (ws ++ (cs ++ rest)) hs)) (keyword_sort "else" second hs)
      (o.read top (omega arith) notes cs rest f (omega arith)))
      ∙ stood_is word.start (node.If e (block_of items (tail ++ texts)) other) (max (max h k) j + 1) (suc (max h (max k j))) is_open notes (left_of is_open cs rest) (omega arith));
}
