-- Statements up to the last brace of their block, and blocks. Comments that stand before a block go to its first statement.
use Rattle.std.proofs.Common.{◌≡◌, ℕ, zero, suc, ◌-◌, max, ◌<◌, ◌≤◌, inl, inr, nat_eq, List, [], ◌∷◌, ◌++◌, refl, sym, ap, ◌∙◌, append_assoc, arith}
use Rattle.std.proofs.lemmas.List.{append-nil}
use Rattle.std.proofs.lemmas.Bool.Decides.{nat_tests}
use Rattle.mol_base.specs.Token.{Token}
use Rattle.jav_tree.specs.declared.stmt.Stmt.{Stmt}
use Rattle.jav_tree.specs.declared.stmt.StmtNode.{StmtNode}
use Rattle.jav_tree.specs.Tokens.{IsSymbol, Comments, start_of}
use Rattle.jav_tree.specs.Tokens as notes
use Rattle.jav_tree.specs.Statements as stmts
use Rattle.jav_tree.specs.Statements.{Single, Statements, BlockOf, ConstructorBlock, SuperStart, commented, with_front, fronted, tailed}
use Rattle.jav_parse_cursor.specs.declared.limits.Limits.{Limits}
use Rattle.jav_parse_cursor.specs.declared.sort.Sort.TheVariants as sort
use Rattle.jav_parse_stmt.specs.declared.stmt.Several.{Several}
use Rattle.jav_parse_stmt.specs.declared.stmt_tall.TallBlock.{TallBlock}
use Rattle.jav_parse_stmt.specs.declared.stmt_tall.TallStmt.{TallStmt}
use Rattle.jav_parse_cursor.specs.Reading.{Parser}
use Rattle.jav_parse_stmt.specs.StmtRules.{nothing, added_to, braced, next_item, statements, block, from_super, constructor_block}
use Rattle.jav_parse.proofs.ExpressionLaws.{ExpressionLaws}
use Rattle.jav_parse.proofs.Meets.{Spelling, ReadsAt, Reads, some_of, reads_pure, reads_refuse, reads_map, reads_if, reads_any, reads_bind, reads_made, reads_token, reads_when}
use Rattle.jav_parse.proofs.SoundComments.{Noted, reads_comments, comments_after}
use Rattle.jav_parse.proofs.SoundStatements.{ItemForm, SuperForm}
use Rattle.jav_parse.proofs.SoundDeclarations.{tries_super}
use Rattle.jav_parse.proofs.StatementForms.{Stands}
use Rattle.jav_parse.proofs.Steps.{Tries, tries_if, try_then}
use Rattle.jav_parse.proofs.TokenSorts as token
use Rattle.jav_parse.proofs.TokenSteps.{expect_begin, symbol, a_symbol}

-- one statement more at the end
statements_end : {limit h k : ℕ} {items : List Stmt} {ts us vs : List Token} {own : List (List ℕ)} {n : StmtNode} → Statements limit h items ts → Comments own us → Single limit k n vs
    → Statements limit (max h k) (items ++ commented own (start_of vs) n ∷ []) (ts ++ (us ++ vs))
statements_end {limit} {h} {k} {items} {ts} {us} {vs} {own} {n} stmts.no_statements c s =
    let same : max 0 k ≡ max k 0 = omega arith in
    let e : us ++ (vs ++ []) ≡ us ++ vs = ap (λ r. us ++ r) (append-nil vs) in
    rw (same, sym e) (stmts.more_statements c s stmts.no_statements)
statements_end {limit} {h} {k} {items} {ts} {us} {vs} {own} {n} (stmts.more_statements {h = a} {k = b} {ts = ps} {us = qs} {vs = rs} c0 s0 rest) c s =
    let same : max (max a b) k ≡ max a (max b k) = omega arith in
    let e : (ps ++ (qs ++ rs)) ++ (us ++ vs) ≡ ps ++ (qs ++ (rs ++ (us ++ vs))) = append_assoc ps (qs ++ rs) (us ++ vs) ∙ ap (λ r. ps ++ r) (append_assoc qs rs (us ++ vs)) in
    rw (same, e) (stmts.more_statements c0 s0 (statements_end rest c s))

-- comments before a block, where no statement was read yet
early : List (List ℕ) → List Stmt → List (List ℕ)
early before [] = before
early before (s ∷ rest) = []

tailed_is : (before : List (List ℕ)) (items : List Stmt) (own : List (List ℕ)) → tailed before items own ≡ early before items ++ own
unfolding early
tailed_is before [] own = refl
tailed_is before (s ∷ rest) own = refl

fronted_end : (before : List (List ℕ)) (items : List Stmt) (own : List (List ℕ)) (at : ℕ) (n : StmtNode)
    → fronted before items ++ commented (tailed before items own) at n ∷ [] ≡ fronted before (items ++ commented own at n ∷ [])
fronted_end before [] own at n = refl
fronted_end before (s ∷ rest) own at n = refl

tailed_end : (before : List (List ℕ)) (items : List Stmt) (s : Stmt) (own : List (List ℕ)) → tailed before (items ++ s ∷ []) own ≡ own
tailed_end before [] s own = refl
tailed_end before (t ∷ rest) s own = refl

pub fronted_none : (items : List Stmt) → fronted [] items ≡ items
fronted_none [] = refl
fronted_none (s ∷ rest) = refl

pub tailed_none : (items : List Stmt) (tail : List (List ℕ)) → tailed [] items tail ≡ tail
tailed_none [] tail = refl
tailed_none (s ∷ rest) tail = refl

-- Statements with the comments after the last one, after `done` whose height is `base`. Comments `before` stand before the block.
record Begun (limit room : ℕ) (done : List Stmt) (base : ℕ) (before : List (List ℕ)) (items : List Stmt) (height : ℕ) (notes : List (List ℕ)) (ts : List Token) : Type 0 where
  inner : List Stmt
  h : ℕ
  own : List (List ℕ)
  front : List Token
  back : List Token
  tokens : ts ≡ front ++ back
  are : Statements limit h inner front
  pending : Comments own back
  items_is : items ≡ done ++ fronted before inner
  height_is : height ≡ max base h
  notes_is : notes ≡ tailed before inner own
  low : h ≤ room

-- the same with the last brace
pub record Ended (limit room : ℕ) (done : List Stmt) (base : ℕ) (before : List (List ℕ)) (y : TallBlock) (ts : List Token) : Type 0 where
  pub inner : List Stmt
  pub h : ℕ
  pub tail : List (List ℕ)
  pub front : List Token
  pub back : List Token
  pub right : Token
  pub tokens : ts ≡ front ++ (back ++ right ∷ [])
  pub are : Statements limit h inner front
  pub pending : Comments tail back
  pub closes : IsSymbol "}" right
  pub is : y ≡ braced (done ++ fronted before inner) (max base h) (tailed before inner tail)
  pub low : h ≤ room

module _ (l : Limits) (one : Parser TallStmt) (room : ℕ) (item : 0 < room → Reads (Stands (ItemForm l) room) one) (done : List Stmt) (base : ℕ) (before : List (List ℕ)) where
  abbrev IsBegun : List Stmt → ℕ → List (List ℕ) → List Token → Type 0
  IsBegun = Begun l.most room done base before

  abbrev IsEnded : Spelling TallBlock
  IsEnded = Ended l.most room done base before

  -- a statement that was added
  record Added (items : List Stmt) (height : ℕ) (notes : List (List ℕ)) (y : Several) (us : List Token) : Type 0 where
    last : TallStmt
    is : y ≡ added_to items height notes last
    stands : Stands (ItemForm l) room last us

  more_notes : (items : List Stmt) (height : ℕ) (notes : List (List ℕ)) (ts : List Token) → (b : IsBegun items height notes ts) → (new : List (List ℕ)) (us : List Token)
      → Noted (early before b.inner) new (b.back ++ us) → IsBegun items height new (ts ++ us)
  more_notes items height notes ts b new us k = record {
    inner = b.inner;
    h = b.h;
    own = k.own;
    front = b.front;
    back = b.back ++ us;
    tokens = ap (λ r. r ++ us) b.tokens ∙ append_assoc b.front b.back us;
    are = b.are;
    pending = k.are;
    items_is = b.items_is;
    height_is = b.height_is;
    notes_is = k.all ∙ sym (tailed_is before b.inner k.own);
    low = b.low;
  }

  one_more : (items : List Stmt) (height : ℕ) (notes : List (List ℕ)) (ts : List Token) → IsBegun items height notes ts → (y : Several) (us : List Token)
      → Added items height notes y us → IsBegun y.items y.height y.notes (ts ++ us)
  one_more items height notes ts b y us k = let s = k.stands in
      let last = commented b.own (start_of s.front) k.last.node in
      rw (k.is) (record {
        inner = b.inner ++ last ∷ [];
        h = max b.h k.last.height;
        own = k.last.after;
        front = b.front ++ (b.back ++ s.front);
        back = s.back;
        tokens = ap (λ r. r ++ us) b.tokens ∙ ap (λ r. (b.front ++ b.back) ++ r) s.tokens ∙ sym (append_assoc (b.front ++ b.back) s.front s.back) ∙ ap (λ r. r ++ s.back) (append_assoc b.front b.back s.front);
        are = statements_end b.are b.pending s.node;
        pending = s.after;
        items_is = rw (b.items_is, b.notes_is, s.at) (append_assoc done (fronted before b.inner) (commented (tailed before b.inner b.own) (start_of s.front) k.last.node ∷ [])
            ∙ ap (λ r. done ++ r) (fronted_end before b.inner b.own (start_of s.front) k.last.node));
        height_is = let a = b.height_is in omega arith;
        notes_is = sym (tailed_end before b.inner last k.last.after);
        low = let a = b.low in let c = s.low in omega arith;
      })

  ended : (items : List Stmt) (height : ℕ) (notes : List (List ℕ)) (ts : List Token) → IsBegun items height notes ts → (right : Token) → IsSymbol "}" right
      → IsEnded (braced items height notes) (ts ++ right ∷ [])
  ended items height notes ts b right h = record {
    inner = b.inner;
    h = b.h;
    tail = b.own;
    front = b.front;
    back = b.back;
    right = right;
    tokens = ap (λ r. r ++ right ∷ []) b.tokens ∙ append_assoc b.front b.back (right ∷ []);
    are = b.are;
    pending = b.pending;
    closes = h;
    is = rw (b.items_is, b.height_is, b.notes_is) refl;
    low = b.low;
  }

  tries_item : (items : List Stmt) (height : ℕ) (notes : List (List ℕ)) → Tries (Added items height notes) (next_item one room items height notes)
  unfolding next_item
  tries_item items height notes = tries_if (nat_eq room 0)
      (λ q. reads_made _ (item (grind (arith, nat_tests))) (λ s us hs. record { last = s; is = refl; stands = hs }))

  reads_statements : (n : ℕ) (all : Several) (ts : List Token) → IsBegun all.items all.height all.notes ts → Reads (λ y vs. IsEnded y (ts ++ vs)) (statements l one room n all)
  unfolding statements
  reads_statements zero all ts b = reads_refuse (braced all.items all.height all.notes, symbol "}" ∷ [], ended all.items all.height all.notes ts b (symbol "}") (a_symbol "}"))
  reads_statements (suc n) all ts b = reads_bind (reads_comments l.turns (early before b.inner) all.notes b.back (record { own = b.own; all = b.notes_is ∙ tailed_is before b.inner b.own; are = b.pending }))
      (λ new us k. let c = more_notes all.items all.height all.notes ts b new us k in
      reads_map {F = λ y vs. IsEnded y ((ts ++ us) ++ vs)} (reads_when sort.Finish
      (reads_token (λ z. cc) (λ right hr. reads_pure (braced all.items all.height new) (ended all.items all.height new (ts ++ us) c right (token.finish_is right hr))))
      (reads_any (try_then (tries_item all.items all.height new) (braced all.items all.height new, symbol "}" ∷ [], ended all.items all.height new (ts ++ us) c (symbol "}") (a_symbol "}"))
      (λ x vs hx. reads_map (reads_statements n x ((ts ++ us) ++ vs) (one_more all.items all.height new (ts ++ us) c x vs hx)) (λ y ws e. rw append_assoc at e)))))
      (λ y vs e. rw append_assoc at e))

-- ---- blocks

-- A block of this form, where comments `before` stood before it.
pub record Braces (form : ℕ → List Stmt → List (List ℕ) → List Token → Type 0) (room : ℕ) (before : List (List ℕ)) (y : TallBlock) (ts : List Token) : Type 0 where
  pub items : List Stmt
  pub tail : List (List ℕ)
  pub h : ℕ
  pub is : y ≡ braced (fronted before items) h (tailed before items tail)
  pub form_is : form (suc h) items tail ts
  pub low : h < room

module _ (l : Limits) (one : Parser TallStmt) (room : ℕ) (item : 0 < room - 1 → Reads (Stands (ItemForm l) (room - 1)) one) (p : 0 < room) where
  block_is : (left : Token) → IsSymbol "{" left → (before : List (List ℕ)) (y : TallBlock) (ts : List Token) → Ended l.most (room - 1) [] 0 before y ts → Braces (BlockOf l.most) room before y (left ∷ ts)
  block_is left hl before y ts e = record {
    items = e.inner;
    tail = e.tail;
    h = e.h;
    is = let same : max 0 e.h ≡ e.h = omega arith in e.is ∙ ap (λ n. braced (fronted before e.inner) n (tailed before e.inner e.tail)) same;
    form_is = rw (e.tokens) (stmts.braced hl e.are e.pending e.closes);
    low = let a = e.low in omega arith;
  }

  begins : (before own : List (List ℕ)) (ts : List Token) → Comments own ts → Begun l.most (room - 1) [] 0 before [] 0 (before ++ own) ts
  begins before own ts c = record { inner = []; h = 0; own = own; front = []; back = ts; tokens = refl; are = stmts.no_statements; pending = c; items_is = refl; height_is = refl; notes_is = refl; low = omega arith }

  reads_inner : (before : List (List ℕ)) → Reads (Ended l.most (room - 1) [] 0 before) (statements l one (room - 1) l.turns (nothing before))
  reads_inner before = reads_statements l one (room - 1) item [] 0 before l.turns (nothing before) [] (rw append-nil at (begins before [] [] notes.none))

  -- a block, where comments `before` stood before it
  pub reads_block : (before : List (List ℕ)) → Reads (Braces (BlockOf l.most) room before) (block l one room before)
  unfolding block
  reads_block before = reads_if (nat_eq room 0)
      (λ q. absurd (let e : room ≡ 0 = grind (arith, nat_tests) in omega arith))
      (λ q. expect_begin (λ left hl. reads_map (reads_inner before) (λ y vs e. block_is left hl before y vs e)))

-- ---- blocks of constructors

module _ (l : Limits) (laws : ExpressionLaws l) (one : Parser TallStmt) (room : ℕ) (item : 0 < room - 1 → Reads (Stands (ItemForm l) (room - 1)) one) (p : 0 < room) where
  abbrev IsWhole : List (List ℕ) → Spelling TallBlock
  IsWhole = Braces (ConstructorBlock l.most) room

  usual_is : (before : List (List ℕ)) (y : TallBlock) (ts : List Token) → Braces (BlockOf l.most) room before y ts → IsWhole before y ts
  usual_is before y ts k = record { items = k.items; tail = k.tail; h = k.h; is = k.is; form_is = stmts.usual k.form_is; low = k.low }

  -- the statements after those that are there
  reads_usual : (left : Token) → IsSymbol "{" left → (before own notes : List (List ℕ)) (cs : List Token) → notes ≡ before ++ own → Comments own cs
      → (all : Several) (us : List Token) → Begun l.most (room - 1) [] 0 before all.items all.height all.notes (cs ++ us)
      → Reads (λ y vs. IsWhole before y (left ∷ cs ++ (us ++ vs))) (statements l one (room - 1) l.turns all)
  reads_usual left hl before own notes cs e c all us b = reads_map (reads_statements l one (room - 1) item [] 0 before l.turns all (cs ++ us) b)
      (λ y vs k. usual_is before y (left ∷ cs ++ (us ++ vs)) (block_is l one room item p left hl before y (cs ++ (us ++ vs)) (rw append_assoc at k)))

  reads_plain : (before own notes : List (List ℕ)) (cs : List Token) → notes ≡ before ++ own → Comments own cs → (left : Token) → IsSymbol "{" left
      → Reads (λ y vs. IsWhole before y (left ∷ cs ++ vs)) (statements l one (room - 1) l.turns (nothing notes))
  reads_plain before own notes cs e c left hl = reads_usual left hl before own notes cs e c (nothing notes) [] (rw (append-nil, e) (begins l one room item p before own cs c))

  -- a call by `super`, as any other statement
  item_super : (before own notes : List (List ℕ)) (cs : List Token) → notes ≡ before ++ own → Comments own cs → (s : TallStmt) (us : List Token)
      → Stands (ItemForm l) (room - 1) s us → Begun l.most (room - 1) [] 0 before (added_to [] 0 notes s).items (added_to [] 0 notes s).height (added_to [] 0 notes s).notes (cs ++ us)
  item_super before own notes cs e c s us k =
      one_more l one (room - 1) item [] 0 before [] 0 notes cs (rw e (begins l one room item p before own cs c)) (added_to [] 0 notes s) us (record { last = s; is = refl; stands = k })

  -- the call `super(..);`, after which come statements of any kind
  super_begun : (notes : List (List ℕ)) (s : TallStmt) (us : List Token) → (k : Stands (SuperForm l) (room - 1) s us)
      → Begun l.most (room - 1) (commented notes s.at s.node ∷ []) s.height [] (added_to [] 0 notes s).items (added_to [] 0 notes s).height s.after k.back
  super_begun notes s us k = record { inner = []; h = 0; own = s.after; front = []; back = k.back; tokens = refl; are = stmts.no_statements; pending = k.after; items_is = refl; height_is = omega arith; notes_is = refl; low = omega arith }

  super_whole : (before own notes : List (List ℕ)) (cs : List Token) → notes ≡ before ++ own → Comments own cs → (left : Token) → IsSymbol "{" left
      → (s : TallStmt) (us : List Token) → (k : Stands (SuperForm l) (room - 1) s us) → SuperStart l.most s.height s.node k.front
      → (y : TallBlock) (vs : List Token) → Ended l.most (room - 1) (commented notes s.at s.node ∷ []) s.height [] y (k.back ++ vs) → IsWhole before y (left ∷ cs ++ (us ++ vs))
  super_whole before own notes cs e c left hl s us k start y vs q = record {
    items = commented own (start_of k.front) s.node ∷ q.inner;
    tail = q.tail;
    h = max s.height q.h;
    is = q.is ∙ rw (fronted_none q.inner, tailed_none q.inner q.tail, e, k.at) refl;
    form_is =
        let t : us ++ vs ≡ k.front ++ (q.front ++ (q.back ++ q.right ∷ [])) = ap (λ r. r ++ vs) k.tokens ∙ append_assoc k.front k.back vs ∙ ap (λ r. k.front ++ r) q.tokens in
        rw t (stmts.super_first hl c start q.are q.pending q.closes);
    low = let a = k.low in let b = q.low in omega arith;
  }

  after_super : (before own notes : List (List ℕ)) (cs : List Token) → notes ≡ before ++ own → Comments own cs → (left : Token) → IsSymbol "{" left
      → (s : TallStmt) (us : List Token) → (k : Stands (SuperForm l) (room - 1) s us) → SuperStart l.most s.height s.node k.front
      → Reads (λ y vs. IsWhole before y (left ∷ cs ++ (us ++ vs))) (statements l one (room - 1) l.turns (added_to [] 0 notes s))
  after_super before own notes cs e c left hl s us k start =
      reads_map (reads_statements l one (room - 1) item (commented notes s.at s.node ∷ []) s.height [] l.turns (added_to [] 0 notes s) k.back (super_begun notes s us k))
      (λ y vs q. super_whole before own notes cs e c left hl s us k start y vs q)

  from_by : (before own notes : List (List ℕ)) (cs : List Token) → notes ≡ before ++ own → Comments own cs → (left : Token) → IsSymbol "{" left
      → (s : TallStmt) (us : List Token) → (k : Stands (SuperForm l) (room - 1) s us) → SuperForm l s.height s.is_open s.node k.front
      → Reads (λ y vs. IsWhole before y (left ∷ cs ++ (us ++ vs))) (statements l one (room - 1) l.turns (added_to [] 0 notes s))
  from_by before own notes cs e c left hl s us k (inl start) = after_super before own notes cs e c left hl s us k start
  from_by before own notes cs e c left hl s us k (inr single) = reads_usual left hl before own notes cs e c (added_to [] 0 notes s) us
      (item_super before own notes cs e c s us (record { front = k.front; back = k.back; tokens = k.tokens; node = single; at = k.at; after = k.after; low = k.low }))

  reads_from_super : (before own notes : List (List ℕ)) (cs : List Token) → notes ≡ before ++ own → Comments own cs → (left : Token) → IsSymbol "{" left
      → ReadsAt (λ y vs. IsWhole before y (left ∷ cs ++ vs)) (λ u. u ≡ sort.Super) (from_super l one (room - 1) notes)
  unfolding from_super
  reads_from_super before own notes cs e c left hl = try_then (tries_super l laws (room - 1)) (some_of (reads_plain before own notes cs e c left hl))
      (λ s us k. from_by before own notes cs e c left hl s us k k.node)

  pub reads_constructor : (before : List (List ℕ)) → Reads (IsWhole before) (constructor_block l one room before)
  unfolding constructor_block
  reads_constructor before = reads_if (nat_eq room 0)
      (λ q. absurd (let e : room ≡ 0 = grind (arith, nat_tests) in omega arith))
      (λ q. expect_begin (λ left hl. reads_bind (comments_after l.turns before)
      (λ notes cs k. reads_when sort.Super (reads_from_super before k.own notes cs k.all k.are left hl) (reads_any (reads_plain before k.own notes cs k.all k.are left hl)))))
