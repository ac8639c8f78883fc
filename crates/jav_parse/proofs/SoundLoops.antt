-- Loops, statements at each place, and statements up to a height.
use Rattle.std.proofs.Common.{◌≡◌, ℕ, suc, ◌+◌, ◌-◌, max, ◌<◌, ◌≤◌, inl, inr, Bool, true, false, if◌then◌else◌, nat_le, List, [], ◌∷◌, ◌++◌, Err, refl, sym, ap, ◌∙◌, append_assoc, arith}
use Rattle.std.proofs.lemmas.List.{append-nil}
use Rattle.std.proofs.lemmas.Bool.Decides.{nat_tests}
use Rattle.mol_base.specs.Token.{Token}
use Rattle.jav_tree.specs.declared.types.TypeName.{TypeName}
use Rattle.jav_tree.specs.declared.stmt.ForStart.{ForStart}
use Rattle.jav_tree.specs.declared.stmt.Stmt.{Stmt}
use Rattle.jav_tree.specs.declared.stmt.StmtNode.{StmtNode}
use Rattle.jav_tree.specs.declared.stmt.StmtNode.TheVariants as node
use Rattle.jav_tree.specs.Blocks.{block_of}
use Rattle.jav_tree.specs.Tokens.{IsSymbol, IsKeyword, IsName, Comments, start_of}
use Rattle.jav_tree.specs.Statements as stmts
use Rattle.jav_tree.specs.Tokens as spelled
use Rattle.jav_tree.specs.Statements.{Plain, Choice, Branch, BlockOf, MaybeFinal, MaybeExpression, Update, fronted, tailed}
use Rattle.jav_parse_stmt.specs.declared.flow.HeaderPart.{HeaderPart}
use Rattle.jav_parse_stmt.specs.declared.flow.HeaderPart.TheVariants.{Start, Each}
use Rattle.jav_parse_stmt.specs.declared.flow.Maybe.{Maybe}
use Rattle.jav_parse_cursor.specs.declared.limits.Limits.{Limits}
use Rattle.jav_parse_cursor.specs.declared.sort.Sort.{Sort}
use Rattle.jav_parse_cursor.specs.declared.sort.Sort.TheVariants as sort
use Rattle.jav_parse_stmt.specs.declared.stmt.Place.{Place}
use Rattle.jav_parse_stmt.specs.declared.stmt.Place.TheVariants as place
use Rattle.jav_parse_stmt.specs.declared.stmt_tall.TallBlock.{TallBlock}
use Rattle.jav_parse_stmt.specs.declared.stmt_tall.TallStmt.{TallStmt}
use Rattle.jav_parse_cursor.specs.declared.tall.Listed.{Listed}
use Rattle.jav_parse_cursor.specs.declared.tall.Tall.{Tall}
use Rattle.jav_parse_cursor.specs.Reading.{Parser, ◌>>=◌, ◌>>◌, pure, refuse, take_token, expect}
use Rattle.jav_parse_cursor.specs.Reading.{sort as next_sort}
use Rattle.jav_parse_cursor.specs.Sorts.{same_sort}
use Rattle.jav_parse_stmt.specs.StmtRules.{closed, condition, header, block, branch, block_stmt, if_stmt, while_stmt, counted_body, counted, each, for_by, for_stmt, plain_by, plain, item_by, item, if_at, standing, stmt, expression}
use Rattle.jav_parse_stmt.specs.StmtRules as rules
use Rattle.jav_parse.proofs.ExpressionLaws.{ExpressionLaws}
use Rattle.jav_parse.proofs.Meets.{Some_of, ReadsAt, Reads, some_of, reads_refuse, reads_map, reads_if, reads_any, reads_bind, reads_token, reads_peek, reads_when}
use Rattle.jav_parse.proofs.SoundBlocks.{Braces, reads_block, fronted_none, tailed_none}
use Rattle.jav_parse.proofs.SoundBranches.{ChoiceForm, PlaceForm, Encloses, Inner, reads_body, reads_choice}
use Rattle.jav_parse.proofs.SoundDeclarations.{reads_local, reads_named}
use Rattle.jav_parse.proofs.SoundHeaders.{condition_then, IsEach, IsHeader, reads_header, reads_test, reads_updates}
use Rattle.jav_parse.proofs.SoundStatements.{PlainForm, ItemForm, plain_item, some_plain, some_item, reads_empty, reads_break, reads_continue, reads_return, reads_throw, reads_expression}
use Rattle.jav_parse.proofs.StatementForms.{StatementForm, Stands, other_form, suc_is}
use Rattle.jav_parse.proofs.Steps.{Tries, reads_to, place_then, some_at}
use Rattle.jav_parse.proofs.TokenSorts as token
use Rattle.jav_parse.proofs.TokenSteps.{expect_open, expect_close, expect_semi, expect_colon, keyword, if_sort}
use Rattle.jav_parse.proofs.Within.{IsLevel}

module _ (l : Limits) (laws : ExpressionLaws l) (top : ℕ) (once twice : Place → Parser TallStmt) (inner : Inner l top once twice) (p : 1 < top) where
  while_is : (word left right : Token) → IsKeyword "while" word → IsSymbol "(" left → IsSymbol ")" right → (x : Tall) (us : List Token) → IsLevel l 1 (top - 1) x us
      → (b : TallBlock) (bs : List Token) → Encloses (Branch l.most) (top - 1) b bs
      → Stands (PlainForm l) top (record { at = word.start; node = node.While x.expr (block_of b.items b.tail); height = max x.height b.height + 1; is_open = b.is_open; after = b.after }) (word ∷ left ∷ us ++ right ∷ bs)
  while_is word left right hw hl hr x us hx b bs k = record {
    front = word ∷ left ∷ us ++ right ∷ k.front;
    back = k.back;
    tokens = ap (λ r. word ∷ left ∷ us ++ right ∷ r) k.tokens ∙ ap (λ r. word ∷ left ∷ r) (sym (append_assoc us (right ∷ k.front) k.back));
    node = rw (suc_is (max x.height b.height)) (stmts.while hw hl hx.0 hr k.is);
    at = refl;
    after = k.after;
    low = let a = hx.1 in let c = k.low in omega arith;
  }

  reads_while : ReadsAt (Stands (PlainForm l) top) (λ u. u ≡ sort.While)
      (take_token >>= (λ word. condition l (top - 1) >>= (λ test. branch l top once twice place.Branch
      >>= (λ body. pure (record { at = word.start; node = node.While test.expr (block_of body.items body.tail); height = max test.height body.height + 1; is_open = body.is_open; after = body.after })))))
  reads_while = reads_token (λ z. cc) (λ word hw. condition_then l laws (top - 1) (omega arith) (λ left x us right hl hx hr. reads_to _ (reads_body l laws top once twice inner p)
      (λ b bs k. while_is word left right (token.while_is word hw) hl hr x us hx b bs k)))

  counted_is : (word left semi next right : Token) → IsKeyword "for" word → IsSymbol "(" left → IsSymbol ";" semi → IsSymbol ";" next → IsSymbol ")" right
      → (start : ForStart) (h : ℕ) (hs : List Token) → IsHeader l (top - 1) (Start start h) hs
      → (test : Maybe) (us : List Token) → (MaybeExpression l.most test.height test.expr us × (test.height ≤ top - 1))
      → (all : Listed) (vs : List Token) → (Update l.most all.height all.exprs vs × (all.height ≤ top - 1))
      → (b : TallBlock) (bs : List Token) → Encloses (Branch l.most) (top - 1) b bs
      → Stands (PlainForm l) top (record { at = word.start; node = node.For start test.expr all.exprs (block_of b.items b.tail); height = max h (max test.height (max all.height b.height)) + 1; is_open = b.is_open; after = b.after })
      (word ∷ left ∷ hs ++ (semi ∷ us ++ (next ∷ vs ++ right ∷ bs)))
  counted_is word left semi next right hw hl h1 h2 hr start h hs hh test us ht all vs ha b bs k = record {
    front = word ∷ left ∷ hs ++ (semi ∷ us ++ (next ∷ vs ++ right ∷ k.front));
    back = k.back;
    tokens =
        let a : vs ++ right ∷ bs ≡ (vs ++ right ∷ k.front) ++ k.back = ap (λ r. vs ++ right ∷ r) k.tokens ∙ sym (append_assoc vs (right ∷ k.front) k.back) in
        let c : us ++ (next ∷ vs ++ right ∷ bs) ≡ (us ++ (next ∷ vs ++ right ∷ k.front)) ++ k.back = ap (λ r. us ++ next ∷ r) a ∙ sym (append_assoc us (next ∷ vs ++ right ∷ k.front) k.back) in
        ap (λ r. word ∷ left ∷ hs ++ semi ∷ r) c ∙ ap (λ r. word ∷ left ∷ r) (sym (append_assoc hs (semi ∷ us ++ (next ∷ vs ++ right ∷ k.front)) k.back));
    node = rw (suc_is (max h (max test.height (max all.height b.height)))) (stmts.for hw hl hh.0 h1 ht.0 h2 ha.0 hr k.is);
    at = refl;
    after = k.after;
    low = let a = hh.1 in let c = ht.1 in let d = ha.1 in let e = k.low in omega arith;
  }

  reads_counted : (word left : Token) → IsKeyword "for" word → IsSymbol "(" left → (start : ForStart) (h : ℕ) (hs : List Token) → IsHeader l (top - 1) (Start start h) hs
      → Reads (λ y vs. Stands (PlainForm l) top y (word ∷ left ∷ hs ++ vs)) (counted l top once twice word.start start h)
  unfolding counted counted_body
  reads_counted word left hw hl start h hs hh =
      expect_semi (λ semi h1. reads_bind (reads_test l laws (top - 1) (omega arith))
      (λ test us ht. expect_semi (λ next h2. reads_bind (reads_updates l laws (top - 1) (omega arith))
      (λ all vs ha. expect_close (λ right hr. reads_to _ (reads_body l laws top once twice inner p)
      (λ b bs k. counted_is word left semi next right hw hl h1 h2 hr start h hs hh test us ht all vs ha b bs k))))))

  each_is : (word left colon right : Token) → IsKeyword "for" word → IsSymbol "(" left → IsSymbol ":" colon → IsSymbol ")" right
      → (is_final : Bool) (to : TypeName) (name : List ℕ) (hs : List Token) → IsEach l is_final to name hs → (x : Tall) (vs : List Token) → IsLevel l 1 (top - 1) x vs
      → (b : TallBlock) (bs : List Token) → Encloses (Branch l.most) (top - 1) b bs
      → Stands (PlainForm l) top (record { at = word.start; node = node.Each is_final to name x.expr (block_of b.items b.tail); height = max x.height b.height + 1; is_open = b.is_open; after = b.after })
      (word ∷ left ∷ hs ++ (colon ∷ vs ++ right ∷ bs))
  each_is word left colon right hw hl hc hr is_final to name hs e x vs hx b bs k = record {
    front = word ∷ left ∷ e.front ++ (e.back ++ (e.first ∷ colon ∷ vs ++ right ∷ k.front));
    back = k.back;
    tokens =
        let a : vs ++ right ∷ bs ≡ (vs ++ right ∷ k.front) ++ k.back = ap (λ r. vs ++ right ∷ r) k.tokens ∙ sym (append_assoc vs (right ∷ k.front) k.back) in
        let c : hs ++ (colon ∷ vs ++ right ∷ bs) ≡ e.front ++ (e.back ++ (e.first ∷ colon ∷ vs ++ right ∷ bs)) = rw e.tokens (simp append_assoc refl) in
        let d : e.front ++ (e.back ++ (e.first ∷ colon ∷ vs ++ right ∷ bs)) ≡ (e.front ++ (e.back ++ (e.first ∷ colon ∷ vs ++ right ∷ k.front))) ++ k.back = rw a (simp append_assoc refl) in
        ap (λ r. word ∷ left ∷ r) (c ∙ d);
    node = rw (suc_is (max x.height b.height), e.text) (stmts.each hw hl e.final e.type e.is_name hc hx.0 hr k.is);
    at = refl;
    after = k.after;
    low = let a = hx.1 in let c = k.low in omega arith;
  }

  reads_each : (word left : Token) → IsKeyword "for" word → IsSymbol "(" left → (is_final : Bool) (to : TypeName) (name : List ℕ) (hs : List Token) → IsEach l is_final to name hs
      → Reads (λ y vs. Stands (PlainForm l) top y (word ∷ left ∷ hs ++ vs)) (each l top once twice word.start is_final to name)
  unfolding each
  reads_each word left hw hl is_final to name hs e =
      expect_colon (λ colon hc. reads_bind (laws.level (top - 1) (omega arith))
      (λ x vs hx. expect_close (λ right hr. reads_to _ (reads_body l laws top once twice inner p)
      (λ b bs k. each_is word left colon right hw hl hc hr is_final to name hs e x vs hx b bs k))))

  reads_header_part : (word left : Token) → IsKeyword "for" word → IsSymbol "(" left → (part : HeaderPart) (hs : List Token) → IsHeader l (top - 1) part hs
      → Reads (λ y vs. Stands (PlainForm l) top y (word ∷ left ∷ hs ++ vs)) (for_by l top once twice word.start part)
  reads_header_part word left hw hl (Start start h) hs k = reads_counted word left hw hl start h hs k
  reads_header_part word left hw hl (Each is_final to name) hs k = reads_each word left hw hl is_final to name hs k

  reads_for : ReadsAt (Stands (PlainForm l) top) (λ u. u ≡ sort.For) (take_token >>= (λ word. expect sort.Open >> (header l (top - 1) >>= for_by l top once twice word.start)))
  reads_for = reads_token (λ z. cc) (λ word hw. expect_open (λ left hl. reads_bind (reads_header l laws (top - 1) (omega arith))
      (λ part hs k. reads_header_part word left (token.for_is word hw) hl part hs k)))

module _ (l : Limits) (laws : ExpressionLaws l) (top : ℕ) (once twice : Place → Parser TallStmt) (inner : Inner l top once twice) (p : 0 < top) where
  more : nat_le top 1 ≡ false → 1 < top
  more q = grind (arith, nat_tests)

  reads_loop : ReadsAt (Stands (PlainForm l) top) (λ u. u ≡ sort.While) (while_stmt l top once twice)
  unfolding while_stmt
  reads_loop = reads_if (nat_le top 1) (λ q. reads_refuse (some_plain l top p)) (λ q. reads_while l laws top once twice inner (more q))

  reads_for_loop : ReadsAt (Stands (PlainForm l) top) (λ u. u ≡ sort.For) (for_stmt l top once twice)
  unfolding for_stmt
  reads_for_loop = reads_if (nat_le top 1) (λ q. reads_refuse (some_plain l top p)) (λ q. reads_for l laws top once twice inner (more q))

  reads_plain_by : (s : Sort) → ReadsAt (Stands (PlainForm l) top) (λ u. u ≡ s) (plain_by l top once twice s)
  reads_plain_by sort.While = reads_loop
  reads_plain_by sort.For = reads_for_loop
  reads_plain_by sort.Return = reads_return l laws top p
  reads_plain_by sort.Throw = reads_throw l laws top p
  reads_plain_by sort.Break = reads_break l laws top p
  reads_plain_by sort.Continue = reads_continue l laws top p
  reads_plain_by sort.Semi = reads_empty l laws top p
  reads_plain_by s = reads_any (reads_expression l laws top p)

  reads_plain : Reads (Stands (PlainForm l) top) (plain l top once twice)
  unfolding plain
  reads_plain = reads_peek reads_plain_by

  -- a block in a block
  block_stands : (b : TallBlock) (us : List Token) → Braces (BlockOf l.most) (top - 1) [] b us
      → Stands (ItemForm l) top (closed (start_of us) (node.Block (block_of b.items b.tail)) (b.height + 1)) us
  block_stands b us k = rw (k.is, fronted_none k.items, tailed_none k.items k.tail) (record {
    front = us;
    back = [];
    tokens = sym (append-nil us);
    node = let e : k.h + 1 + 1 ≡ suc (suc k.h) = omega arith in rw e (stmts.single_block k.form_is);
    at = refl;
    after = spelled.none;
    low = let a = k.low in omega arith;
  })

  -- a block that begins here
  record IsBlockAt (at : ℕ) (y : TallStmt) (us : List Token) : Type 0 where
    block : TallBlock
    is : y ≡ closed at (node.Block (block_of block.items block.tail)) (block.height + 1)
    braces : Braces (BlockOf l.most) (top - 1) [] block us

  reads_block_at : 1 < top → (at : ℕ) → Reads (IsBlockAt at) (block l (twice place.Item) (top - 1) [] >>= (λ b. pure (closed at (node.Block (block_of b.items b.tail)) (b.height + 1))))
  reads_block_at q at = reads_to _ (reads_block l (twice place.Item) (top - 1) inner.item (omega arith) []) (λ b us k. record { block = b; is = refl; braces = k })

  block_some : {h : ℕ} {items : List Stmt} {tail : List (List ℕ)} {ts : List Token} → BlockOf l.most h items tail ts → ts ≡ [] → ⊥
  block_some (stmts.braced a b c d) e = cc

  some_block : 1 < top → Some_of (λ y us. IsBlockAt (start_of us) y us)
  some_block q = let w = some_of (reads_block l (twice place.Item) (top - 1) inner.item (omega arith) []) in
      (closed (start_of w.1) (node.Block (block_of w.0.items w.0.tail)) (w.0.height + 1), w.1, record { block = w.0; is = refl; braces = w.2 })

  reads_block_stmt : Reads (Stands (ItemForm l) top) (block_stmt l top once twice)
  unfolding block_stmt
  reads_block_stmt = reads_if (nat_le top 1) (λ q. reads_refuse (some_item l top p))
      (λ q. reads_map (place_then IsBlockAt (λ at y k. block_some k.braces.form_is refl) (some_block (more q)) (λ at. reads_block_at (more q) at)) (λ y us k. rw (k.is) (block_stands k.block us k.braces)))

  reads_item_by : (s : Sort) → ReadsAt (Stands (ItemForm l) top) (λ u. u ≡ s) (item_by l top once twice s)
  reads_item_by sort.Begin = reads_any reads_block_stmt
  reads_item_by sort.Final = reads_any (reads_local l laws top p)
  reads_item_by sort.Prim = reads_any (reads_local l laws top p)
  reads_item_by sort.Name = reads_any (reads_named l laws top p)
  reads_item_by s = reads_any (reads_map reads_plain (λ y us k. other_form (plain_item l) k))

  reads_item : Reads (Stands (ItemForm l) top) (item l top once twice)
  unfolding item
  reads_item = reads_peek reads_item_by

  choice_branch : (h : ℕ) (o : Bool) (n : StmtNode) (us : List Token) → ChoiceForm l h o n us → PlaceForm l place.Branch h o n us
  choice_branch h o n us k = inr k

  plain_branch : (h : ℕ) (o : Bool) (n : StmtNode) (us : List Token) → PlainForm l h o n us → PlaceForm l place.Branch h o n us
  plain_branch h o n us k = inl k

  choice_item : (h : ℕ) (o : Bool) (n : StmtNode) (us : List Token) → ChoiceForm l h o n us → ItemForm l h o n us
  choice_item h o n us k = stmts.single_choice k

  -- an `if`, where another statement may stand too
  reads_if_stmt : {form : StatementForm} → Some_of (Stands form top) → ((h : ℕ) (o : Bool) (n : StmtNode) (us : List Token) → ChoiceForm l h o n us → form h o n us)
      → ReadsAt (Stands form top) (λ u. u ≡ sort.If) (if_stmt l top once twice)
  unfolding if_stmt
  reads_if_stmt {form} w f = reads_if (nat_le top 1) (λ q. reads_refuse w) (λ q. reads_map (reads_choice l laws top once twice inner (more q)) (λ y us k. other_form f k))

  some_branch : Some_of (Stands (PlaceForm l place.Branch) top)
  some_branch = let w = some_plain l top p in (w.0, w.1, other_form {new = PlaceForm l place.Branch} plain_branch w.2)

  pub reads_one_item : Reads (Stands (ItemForm l) top) (rules.statement_at l top once twice place.Item)
  unfolding rules.statement_at
  reads_one_item = reads_when sort.If (reads_if_stmt (some_item l top p) choice_item) (reads_any reads_item)

  pub reads_one_branch : Reads (Stands (PlaceForm l place.Branch) top) (rules.statement_at l top once twice place.Branch)
  unfolding rules.statement_at
  reads_one_branch = reads_when sort.If (reads_if_stmt some_branch choice_branch) (reads_any (reads_map reads_plain (λ y us k. other_form {new = PlaceForm l place.Branch} plain_branch k)))

  pub reads_one_plain : Reads (Stands (PlaceForm l place.Plain) top) (rules.statement_at l top once twice place.Plain)
  unfolding rules.statement_at
  reads_one_plain = reads_when sort.If (reads_refuse (some_plain l top p)) (reads_any reads_plain)

  reads_if_choice : nat_le top 1 ≡ false → ReadsAt (Stands (ChoiceForm l) top) (λ u. u ≡ sort.If) (if_stmt l top once twice)
  unfolding if_stmt
  reads_if_choice q = reads_if (nat_le top 1) (λ e. absurd (cc)) (λ e. reads_choice l laws top once twice inner (more q))

  no_if : (b : Bool) (ts : List Token) → nat_le top 1 ≡ true → (if b then if_stmt l top once twice else refuse) ts ≡ Err ts
  unfolding if_stmt
  no_if true ts q = rw q refl
  no_if false ts q = refl

  chain_by : (b : Bool) → nat_le top 1 ≡ b → Tries (Stands (ChoiceForm l) top) (rules.statement_at l top once twice place.Chain)
  unfolding rules.statement_at
  chain_by true q = inr (λ ts. no_if (same_sort (next_sort ts) sort.If) ts q)
  chain_by false q =
      let choice = reads_if_choice q in
      inl (reads_when sort.If choice (reads_refuse (some_at (keyword "if") if_sort choice)))

  pub tries_chain : Tries (Stands (ChoiceForm l) top) (rules.statement_at l top once twice place.Chain)
  tries_chain = chain_by (nat_le top 1) refl
