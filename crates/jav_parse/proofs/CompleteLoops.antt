-- Loops are read whole, where their bodies are.
use Rattle.std.proofs.Common.{◌≡◌, ℕ, suc, ◌+◌, ◌-◌, ◌<◌, ◌≤◌, max, Bool, List, ◌∷◌, ◌++◌, length, Ok, Option, Some, None, refl, ap, ◌∙◌, append_assoc, arith}
use Rattle.std.proofs.lemmas.List.{length-append}
use Rattle.mol_base.specs.Token.{Token}
use Rattle.jav_tree.specs.declared.types.TypeName.{TypeName}
use Rattle.jav_tree.specs.declared.expr.Expr.{Expr}
use Rattle.jav_tree.specs.declared.stmt.ForStart.{ForStart}
use Rattle.jav_tree.specs.declared.stmt.ForStart.TheVariants as for_start
use Rattle.jav_tree.specs.declared.stmt.Stmt.{Stmt}
use Rattle.jav_tree.specs.declared.stmt.StmtNode.{StmtNode}
use Rattle.jav_tree.specs.declared.stmt.StmtNode.TheVariants as node
use Rattle.jav_tree.specs.Blocks.{block_of}
use Rattle.jav_tree.specs.Expressions.{Expression}
use Rattle.jav_tree.specs.Statements.{MaybeFinal, MaybeExpression, Update}
use Rattle.jav_tree.specs.Statements as grammar
use Rattle.jav_tree.specs.Tokens.{IsSymbol, IsKeyword, IsName}
use Rattle.jav_tree.specs.Types.{WholeType}
use Rattle.jav_parse_stmt.specs.declared.flow.HeaderPart.{HeaderPart}
use Rattle.jav_parse_stmt.specs.declared.flow.HeaderPart.TheVariants.{Start, Each}
use Rattle.jav_parse_stmt.specs.declared.flow.Maybe.{Maybe}
use Rattle.jav_parse_cursor.specs.declared.limits.Limits.{Limits}
use Rattle.jav_parse_expr.specs.declared.primary.Goal.TheVariants.{Level}
use Rattle.jav_parse_cursor.specs.declared.sort.Sort.TheVariants as sort
use Rattle.jav_parse_stmt.specs.declared.stmt.Place.{Place}
use Rattle.jav_parse_stmt.specs.declared.stmt.Place.TheVariants.{Branch}
use Rattle.jav_parse_stmt.specs.declared.stmt_tall.TallBlock.{TallBlock}
use Rattle.jav_parse_stmt.specs.declared.stmt_tall.TallStmt.{TallStmt}
use Rattle.jav_parse_cursor.specs.declared.tall.Listed.{Listed}
use Rattle.jav_parse_cursor.specs.declared.tall.Tall.{Tall}
use Rattle.jav_parse_cursor.specs.Nodes as made
use Rattle.jav_parse_expr.specs.ActionRules.{actions}
use Rattle.jav_parse_expr.specs.ExprRules.{expr}
use Rattle.jav_parse_cursor.specs.Reading.{Parser, Outcome, sort as next}
use Rattle.jav_parse_cursor.specs.Sorts.{sort_of, same_sort}
use Rattle.jav_parse_stmt.specs.StmtRules as rules
use Rattle.jav_parse_stmt.specs.StmtRules.{stmt, condition, header, header_by, for_test, updates, while_stmt, counted_body, counted, each, for_stmt, plain_by}
use Rattle.jav_parse.proofs.CompleteDeclarations.{declaration_read}
use Rattle.jav_parse.proofs.CompleteHeaders.{header_declares, header_each}
use Rattle.jav_parse.proofs.CompletePlain.{semi_ends, by_word}
use Rattle.jav_parse.proofs.CompleteSimple.{expression_read}
use Rattle.jav_parse.proofs.CompleteUpdates.{ActionsRead, actions_read, actions_whole, header_whole}
use Rattle.jav_parse.proofs.CompleteUpdates as listed
use Rattle.jav_parse.proofs.FirstTokens.{begins_not}
use Rattle.jav_parse.proofs.PartSteps.{sized}
use Rattle.jav_parse.proofs.ReadingSteps.{IsNot, is_not, Ends, ends_at, same_self, sort_at, take_goes, expect_goes, le_false}
use Rattle.jav_parse.proofs.SortsOfTokens.{open_sort, close_sort, semi_sort, colon_sort, name_sort, keyword_sort}
use Rattle.jav_parse.proofs.StatementReadings.{Fits, stood, block_stood, left_of, PlainRead, BranchRead}
use Rattle.jav_parse.proofs.WholeLaws.{WholeLaws}

pub close_ends : (right : Token) (rest : List Token) → sort_of right ≡ sort.Close → Ends 1 (right ∷ rest)
close_ends right rest h = ends_at sort.Close 1 right rest h (omega arith)

pub condition_goes : (l : Limits) (top : ℕ) (left : Token) (us : List Token) (x : Tall) (right : Token) (rest : List Token) → sort_of left ≡ sort.Open → expr l top (Level 1) us ≡ Ok (x, right ∷ rest) → sort_of right ≡ sort.Close
    → condition l top (left ∷ us) ≡ Ok (x, rest)
unfolding condition
condition_goes l top left us x right rest hl q hr = rw (expect_goes left us hl, q, expect_goes right rest hr) refl

pub stood_is : (at : ℕ) (n : StmtNode) (h k : ℕ) (is_open : Bool) (notes : List (List ℕ)) (rest : List Token) → h ≡ k → ◌≡◌ {A = Outcome TallStmt} (Ok (stood at n h is_open notes, rest)) (Ok (stood at n k is_open notes, rest))
stood_is at n h k is_open notes rest q = ap (λ r. Ok (stood at n r is_open notes, rest)) q

module _ (l : Limits) (top : ℕ) (once twice : Place → Parser TallStmt) where
  while_goes : (word : Token) (us : List Token) (test : Tall) (mid : List Token) (body : TallBlock) (rest : List Token) → 1 < top → condition l (top - 1) us ≡ Ok (test, mid)
      → rules.branch l top once twice Branch mid ≡ Ok (body, rest)
      → while_stmt l top once twice (word ∷ us) ≡ Ok (record { at = word.start; node = node.While test.expr (block_of body.items body.tail); height = max test.height body.height + 1; is_open = body.is_open; after = body.after }, rest)
  unfolding while_stmt
  while_goes word us test mid body rest high q b = rw (le_false top 1 high, take_goes word us, q, b) refl

  counted_goes : (at : ℕ) (start : ForStart) (h : ℕ) (semi : Token) (us : List Token) (test : Maybe) (second : Token) (vs : List Token) (all : Listed) (right : Token) (ws : List Token) (body : TallBlock) (rest : List Token)
      → sort_of semi ≡ sort.Semi → for_test l (top - 1) us ≡ Ok (test, second ∷ vs) → sort_of second ≡ sort.Semi → updates l (top - 1) vs ≡ Ok (all, right ∷ ws) → sort_of right ≡ sort.Close
      → rules.branch l top once twice Branch ws ≡ Ok (body, rest)
      → counted l top once twice at start h (semi ∷ us) ≡ Ok (record { at = at; node = node.For start test.expr all.exprs (block_of body.items body.tail); height = max h (max test.height (max all.height body.height)) + 1; is_open = body.is_open; after = body.after }, rest)
  unfolding counted counted_body
  counted_goes at start h semi us test second vs all right ws body rest hs q hn u hr b = rw (expect_goes semi us hs, q, expect_goes second vs hn, u, expect_goes right ws hr, b) refl

  each_goes : (at : ℕ) (is_final : Bool) (to : TypeName) (name : List ℕ) (colon : Token) (us : List Token) (x : Tall) (right : Token) (ws : List Token) (body : TallBlock) (rest : List Token) → sort_of colon ≡ sort.Colon
      → expr l (top - 1) (Level 1) us ≡ Ok (x, right ∷ ws) → sort_of right ≡ sort.Close → rules.branch l top once twice Branch ws ≡ Ok (body, rest)
      → each l top once twice at is_final to name (colon ∷ us) ≡ Ok (record { at = at; node = node.Each is_final to name x.expr (block_of body.items body.tail); height = max x.height body.height + 1; is_open = body.is_open; after = body.after }, rest)
  unfolding each
  each_goes at is_final to name colon us x right ws body rest hc q hr b = rw (expect_goes colon us hc, q, expect_goes right ws hr, b) refl

  for_goes : (word left : Token) (us : List Token) (part : HeaderPart) (mid : List Token) (r : TallStmt × List Token) → 1 < top → sort_of left ≡ sort.Open → header l (top - 1) us ≡ Ok (part, mid)
      → rules.for_by l top once twice word.start part mid ≡ Ok r → for_stmt l top once twice (word ∷ left ∷ us) ≡ Ok r
  unfolding for_stmt
  for_goes word left us part mid r high hl q b = rw (le_false top 1 high, take_goes word (left ∷ us), expect_goes left us hl, q) b

-- what stands before the first semicolon
header_none : (l : Limits) (top : ℕ) (semi : Token) (rest : List Token) → sort_of semi ≡ sort.Semi → header l top (semi ∷ rest) ≡ Ok (Start for_start.None 0, semi ∷ rest)
unfolding header next
header_none l top semi rest h = rw h refl

semi_not_comma : (semi : Token) (rest : List Token) → sort_of semi ≡ sort.Semi → IsNot sort.Comma (semi ∷ rest)
unfolding same_sort
semi_not_comma semi rest h = is_not sort.Comma sort.Semi semi rest h refl

close_not_comma : (right : Token) (rest : List Token) → sort_of right ≡ sort.Close → IsNot sort.Comma (right ∷ rest)
unfolding same_sort
close_not_comma right rest h = is_not sort.Comma sort.Close right rest h refl

start_read : (l : Limits) → WholeLaws l → (h : ℕ) (start : ForStart) (ts : List Token) → grammar.Start l.most h start ts → (top : ℕ) → 0 < top → h ≤ top → (semi : Token) (rest : List Token) → sort_of semi ≡ sort.Semi
    → Fits l (ts ++ (semi ∷ rest)) → header l top (ts ++ (semi ∷ rest)) ≡ Ok (Start start h, semi ∷ rest)
start_read l w h start ts grammar.none top some fits semi rest hs short = header_none l top semi rest hs
start_read l w h start ts (grammar.variables {l = d} x) top some fits semi rest hs short = (declaration_read l w h d ts x).header top fits semi rest hs short
start_read l w h start ts (grammar.expressions {es = es} x m) top some fits semi rest hs short =
    header_whole l top w some h fits es ts (actions_read l w h es ts x m) (semi ∷ rest) (semi_not_comma semi rest hs) (semi_ends semi rest hs) short

-- what stands between the semicolons
test_none : (l : Limits) (top : ℕ) (semi : Token) (rest : List Token) → sort_of semi ≡ sort.Semi → for_test l top (semi ∷ rest) ≡ Ok (record { expr = None; height = 0 }, semi ∷ rest)
unfolding for_test next
test_none l top semi rest h = rw (h, same_self sort.Semi) refl

test_some : (l : Limits) (top : ℕ) (ts : List Token) (x : Tall) (rest : List Token) → IsNot sort.Semi ts → expr l top (Level 1) ts ≡ Ok (x, rest) → for_test l top ts ≡ Ok (record { expr = Some x.expr; height = x.height }, rest)
unfolding for_test
test_some l top ts x rest n q = rw (n, q) refl

test_read : (l : Limits) → WholeLaws l → (h : ℕ) (e : Option Expr) (ts : List Token) → MaybeExpression l.most h e ts → (top : ℕ) → h ≤ top → (semi : Token) (rest : List Token) → sort_of semi ≡ sort.Semi
    → length ts + suc (length rest) < l.turns → for_test l top (ts ++ (semi ∷ rest)) ≡ Ok (record { expr = e; height = h }, semi ∷ rest)
test_read l w h e ts grammar.no top fits semi rest hs short = test_none l top semi rest hs
test_read l w h e ts (grammar.yes {e = x} p) top fits semi rest hs short =
    test_some l top (ts ++ (semi ∷ rest)) (sized x h ((w.expression h x ts p).shape)) (semi ∷ rest) (begins_not sort.Semi (ts ++ (semi ∷ rest)) ((w.expression h x ts p).begins (semi ∷ rest)) (λ b. b))
    (expression_read l w h x ts p top fits (semi ∷ rest) (semi_ends semi rest hs) short)

-- what stands after them
updates_none : (l : Limits) (top : ℕ) (right : Token) (rest : List Token) → sort_of right ≡ sort.Close → updates l top (right ∷ rest) ≡ Ok (made.no_exprs, right ∷ rest)
unfolding updates next
updates_none l top right rest h = rw (h, same_self sort.Close) refl

updates_some : (l : Limits) (top : ℕ) (ts : List Token) (all : Listed) (rest : List Token) → IsNot sort.Close ts → actions l top ts ≡ Ok (all, rest) → updates l top ts ≡ Ok (all, rest)
unfolding updates
updates_some l top ts all rest n q = rw n q

updates_read : (l : Limits) → WholeLaws l → (h : ℕ) (es : List Expr) (ts : List Token) → Update l.most h es ts → (top : ℕ) → 0 < top → h ≤ top → (right : Token) (rest : List Token) → sort_of right ≡ sort.Close
    → Fits l (ts ++ (right ∷ rest)) → updates l top (ts ++ (right ∷ rest)) ≡ Ok (record { exprs = es; height = h }, right ∷ rest)
updates_read l w h es ts grammar.none top some fits right rest hr short = updates_none l top right rest hr
updates_read l w h es ts (grammar.some x m) top some fits right rest hr short =
    let y = actions_read l w h es ts x m in
    updates_some l top (ts ++ (right ∷ rest)) (record { exprs = es; height = h }) (right ∷ rest)
    (begins_not sort.Close (ts ++ (right ∷ rest)) (listed.begins l top w some h fits es ts y (right ∷ rest) (close_not_comma right rest hr) (close_ends right rest hr) short) (λ b. b))
    (actions_whole l top w some h fits es ts y (right ∷ rest) (close_not_comma right rest hr) (close_ends right rest hr) short)

-- ---- loops

module _ (l : Limits) (w : WholeLaws l) where
  pub while_read : (h k : ℕ) (is_open : Bool) (word left right : Token) (e : Expr) (items : List Stmt) (tail : List (List ℕ)) (ts us : List Token) → IsKeyword "while" word → IsSymbol "(" left → Expression l.most 1 h e ts
      → IsSymbol ")" right → BranchRead l k is_open items tail us → PlainRead l (suc (max h k)) is_open (node.While e (block_of items tail)) (word ∷ left ∷ ts ++ right ∷ us)
  while_read h k is_open word left right e items tail ts us hw hl x hr b =
      by_word l (suc (max h k)) is_open (node.While e (block_of items tail)) (word ∷ left ∷ ts ++ right ∷ us) sort.While (omega arith) (λ rest. sort_at word (left ∷ ts ++ right ∷ us ++ rest) ∙ keyword_sort "while" word hw) tt
      (λ top once twice vs. refl)
      (λ top fits notes cs rest f short.
      let some = b.some in let some2 = (w.expression h e ts x).some in
      let n = length-append (ts ++ right ∷ us) (cs ++ rest) in let n2 = length-append ts (right ∷ us) in let n3 = length-append us (cs ++ rest) in
      rw append_assoc (while_goes l top (stmt l (top - 1)) (stmt l (top - 1 - 1)) word (left ∷ (ts ++ (right ∷ (us ++ (cs ++ rest))))) (sized e h ((w.expression h e ts x).shape)) (us ++ (cs ++ rest))
      (block_stood items tail k is_open notes) (left_of is_open cs rest) (omega arith)
      (condition_goes l (top - 1) left (ts ++ (right ∷ (us ++ (cs ++ rest)))) (sized e h ((w.expression h e ts x).shape)) right (us ++ (cs ++ rest)) (open_sort hl)
      (expression_read l w h e ts x (top - 1) (omega arith) (right ∷ (us ++ (cs ++ rest))) (close_ends right (us ++ (cs ++ rest)) (close_sort hr)) (omega arith)) (close_sort hr))
      (b.read top (omega arith) notes cs rest f (omega arith))
      ∙ stood_is word.start (node.While e (block_of items tail)) (max h k + 1) (suc (max h k)) is_open notes (left_of is_open cs rest) (omega arith)))

  pub for_read : (h j k i : ℕ) (is_open : Bool) (word left semi second right : Token) (start : ForStart) (test : Option Expr) (all : List Expr) (items : List Stmt) (tail : List (List ℕ)) (ts us vs ws : List Token)
      → IsKeyword "for" word → IsSymbol "(" left → grammar.Start l.most h start ts → IsSymbol ";" semi → MaybeExpression l.most j test us → IsSymbol ";" second → Update l.most k all vs → IsSymbol ")" right
      → BranchRead l i is_open items tail ws
      → PlainRead l (suc (max h (max j (max k i)))) is_open (node.For start test all (block_of items tail)) (word ∷ left ∷ ts ++ (semi ∷ us ++ (second ∷ vs ++ right ∷ ws)))
  for_read h j k i is_open word left semi second right start test all items tail ts us vs ws hw hl x hs y hn z hr b =
      by_word l (suc (max h (max j (max k i)))) is_open (node.For start test all (block_of items tail)) (word ∷ left ∷ ts ++ (semi ∷ us ++ (second ∷ vs ++ right ∷ ws))) sort.For (omega arith)
      (λ rest. sort_at word (left ∷ ts ++ (semi ∷ us ++ (second ∷ vs ++ right ∷ ws)) ++ rest) ∙ keyword_sort "for" word hw) tt (λ top once twice vs. refl)
      (λ top fits notes cs rest f short.
      let some = b.some in
      let n = length-append (ts ++ (semi ∷ us ++ (second ∷ vs ++ right ∷ ws))) (cs ++ rest) in let n2 = length-append ts (semi ∷ us ++ (second ∷ vs ++ right ∷ ws)) in let n3 = length-append us (second ∷ vs ++ right ∷ ws) in
      let n4 = length-append vs (right ∷ ws) in let n5 = length-append ws (cs ++ rest) in let n6 = length-append vs (right ∷ (ws ++ (cs ++ rest))) in
      let n7 = length-append us (second ∷ (vs ++ (right ∷ (ws ++ (cs ++ rest))))) in let n8 = length-append ts (semi ∷ (us ++ (second ∷ (vs ++ (right ∷ (ws ++ (cs ++ rest))))))) in
      simp append_assoc (for_goes l top (stmt l (top - 1)) (stmt l (top - 1 - 1)) word left (ts ++ (semi ∷ (us ++ (second ∷ (vs ++ (right ∷ (ws ++ (cs ++ rest)))))))) (Start start h) (semi ∷ (us ++ (second ∷ (vs ++ (right ∷ (ws ++ (cs ++ rest)))))))
      (stood word.start (node.For start test all (block_of items tail)) (max h (max j (max k i)) + 1) is_open notes, left_of is_open cs rest) (omega arith) (open_sort hl)
      (start_read l w h start ts x (top - 1) (omega arith) (omega arith) semi (us ++ (second ∷ (vs ++ (right ∷ (ws ++ (cs ++ rest)))))) (semi_sort hs) (omega arith))
      (counted_goes l top (stmt l (top - 1)) (stmt l (top - 1 - 1)) word.start start h semi (us ++ (second ∷ (vs ++ (right ∷ (ws ++ (cs ++ rest)))))) (record { expr = test; height = j }) second (vs ++ (right ∷ (ws ++ (cs ++ rest))))
      (record { exprs = all; height = k }) right (ws ++ (cs ++ rest)) (block_stood items tail i is_open notes) (left_of is_open cs rest) (semi_sort hs)
      (test_read l w j test us y (top - 1) (omega arith) second (vs ++ (right ∷ (ws ++ (cs ++ rest)))) (semi_sort hn) (omega arith)) (semi_sort hn)
      (updates_read l w k all vs z (top - 1) (omega arith) (omega arith) right (ws ++ (cs ++ rest)) (close_sort hr) (omega arith)) (close_sort hr)
      (b.read top (omega arith) notes cs rest f (omega arith)))
      ∙ stood_is word.start (node.For start test all (block_of items tail)) (max h (max j (max k i)) + 1) (suc (max h (max j (max k i)))) is_open notes (left_of is_open cs rest) (omega arith)))

  pub each_read : (h k : ℕ) (is_open is_final : Bool) (word left name colon right : Token) (to : TypeName) (e : Expr) (items : List Stmt) (tail : List (List ℕ)) (ts us vs ws : List Token) → IsKeyword "for" word
      → IsSymbol "(" left → MaybeFinal is_final ts → WholeType l.most to us → IsName name → IsSymbol ":" colon → Expression l.most 1 h e vs → IsSymbol ")" right → BranchRead l k is_open items tail ws
      → PlainRead l (suc (max h k)) is_open (node.Each is_final to name.text e (block_of items tail)) (word ∷ left ∷ ts ++ (us ++ (name ∷ colon ∷ vs ++ right ∷ ws)))
  each_read h k is_open is_final word left name colon right to e items tail ts us vs ws hw hl fin x hn hc y hr b =
      by_word l (suc (max h k)) is_open (node.Each is_final to name.text e (block_of items tail)) (word ∷ left ∷ ts ++ (us ++ (name ∷ colon ∷ vs ++ right ∷ ws))) sort.For (omega arith)
      (λ rest. sort_at word (left ∷ ts ++ (us ++ (name ∷ colon ∷ vs ++ right ∷ ws)) ++ rest) ∙ keyword_sort "for" word hw) tt (λ top once twice vs. refl)
      (λ top fits notes cs rest f short.
      let some = b.some in
      let n = length-append (ts ++ (us ++ (name ∷ colon ∷ vs ++ right ∷ ws))) (cs ++ rest) in let n2 = length-append ts (us ++ (name ∷ colon ∷ vs ++ right ∷ ws)) in let n3 = length-append us (name ∷ colon ∷ vs ++ right ∷ ws) in
      let n4 = length-append vs (right ∷ ws) in let n5 = length-append ws (cs ++ rest) in
      simp append_assoc (for_goes l top (stmt l (top - 1)) (stmt l (top - 1 - 1)) word left (ts ++ (us ++ (name ∷ colon ∷ (vs ++ (right ∷ (ws ++ (cs ++ rest))))))) (Each is_final to name.text)
      (colon ∷ (vs ++ (right ∷ (ws ++ (cs ++ rest))))) (stood word.start (node.Each is_final to name.text e (block_of items tail)) (max h k + 1) is_open notes, left_of is_open cs rest) (omega arith) (open_sort hl)
      (header_declares l (top - 1) w.builds is_final ts fin to us x (name ∷ colon ∷ (vs ++ (right ∷ (ws ++ (cs ++ rest))))) (sort_at name (colon ∷ (vs ++ (right ∷ (ws ++ (cs ++ rest))))) ∙ name_sort hn) (omega arith)
      ∙ header_each l (top - 1) is_final to name colon (vs ++ (right ∷ (ws ++ (cs ++ rest)))) (name_sort hn) (colon_sort hc))
      (each_goes l top (stmt l (top - 1)) (stmt l (top - 1 - 1)) word.start is_final to name.text colon (vs ++ (right ∷ (ws ++ (cs ++ rest)))) (sized e h ((w.expression h e vs y).shape)) right (ws ++ (cs ++ rest))
      (block_stood items tail k is_open notes) (left_of is_open cs rest) (colon_sort hc)
      (expression_read l w h e vs y (top - 1) (omega arith) (right ∷ (ws ++ (cs ++ rest))) (close_ends right (ws ++ (cs ++ rest)) (close_sort hr)) (omega arith)) (close_sort hr)
      (b.read top (omega arith) notes cs rest f (omega arith)))
      ∙ stood_is word.start (node.Each is_final to name.text e (block_of items tail)) (max h k + 1) (suc (max h k)) is_open notes (left_of is_open cs rest) (omega arith)))
