-- Blocks and the blocks of constructors are read whole, where their statements are.
use Rattle.std.proofs.Common.{◌≡◌, ◌⊎◌, inl, inr, ℕ, zero, suc, ◌+◌, ◌-◌, ◌<◌, ◌≤◌, max, Bool, false, List, [], ◌∷◌, ◌++◌, length, Ok, refl, sym, ap, ◌∙◌, append_assoc, append-nil, arith}
use Rattle.std.proofs.lemmas.List.{length-append}
use Rattle.mol_base.specs.Token.{Token}
use Rattle.jav_tree.specs.declared.stmt.Stmt.{Stmt}
use Rattle.jav_tree.specs.declared.stmt.StmtNode.{StmtNode}
use Rattle.jav_tree.specs.Statements.{commented, fronted, tailed}
use Rattle.jav_tree.specs.Tokens.{IsSymbol, Comments, start_of}
use Rattle.jav_tree.specs.Tokens as comment
use Rattle.jav_parse_cursor.specs.declared.limits.Limits.{Limits}
use Rattle.jav_parse_cursor.specs.declared.sort.Sort.TheVariants as sort
use Rattle.jav_parse_stmt.specs.declared.stmt.Place.TheVariants.{Item}
use Rattle.jav_parse_stmt.specs.declared.stmt.Several.{Several}
use Rattle.jav_parse_stmt.specs.declared.stmt_tall.TallBlock.{TallBlock}
use Rattle.jav_parse_stmt.specs.declared.stmt_tall.TallStmt.{TallStmt}
use Rattle.jav_parse_cursor.specs.Reading.{Parser, Outcome, ◌>>=◌, ◌>>◌, pure, take_token, comments, when_next, sort as next}
use Rattle.jav_parse_cursor.specs.Sorts.{sort_of, same_sort}
use Rattle.jav_parse_stmt.specs.StmtRules as rules
use Rattle.jav_parse_stmt.specs.StmtRules.{stmt, closed, nothing, added_to, next_item, statements, block, from_super, super_first, constructor_block}
use Rattle.jav_parse.proofs.CompleteBranches.{taken_read}
use Rattle.jav_parse.proofs.CompleteSingles.{fronted_none, tailed_none}
use Rattle.jav_parse.proofs.CompleteLocals.{comments_read}
use Rattle.jav_parse.proofs.CompleteSupers.{SuperRead}
use Rattle.jav_parse.proofs.Outcomes.{sort_or}
use Rattle.jav_parse.proofs.ReadingSteps.{IsNot, is_not, same_self, sort_at, take_goes, expect_goes, eq_false}
use Rattle.jav_parse.proofs.StatementReadings.{Fits, Followed, stood, block_stood, left_of, taken, BeginsItem, apart, BlockRead, SingleRead}

-- a block of these statements and last comments, h high without its braces
abbrev pub whole_block : List Stmt → List (List ℕ) → ℕ → TallBlock
whole_block items tail h = block_stood items tail (h + 1) false []

-- what follows the comments before a statement or the last brace
abbrev after_comments : Limits → ℕ → ℕ → List Stmt → ℕ → List (List ℕ) → Parser TallBlock
after_comments l room n before hb notes = when_next sort.Finish (take_token >> pure (rules.braced before hb notes)) (next_item (stmt l room Item) room before hb notes >>= statements l (stmt l room Item) room n)

statements_are : (l : Limits) (room n : ℕ) (all : Several) (ts : List Token) (notes : List (List ℕ)) (mid : List Token) → comments l.turns all.notes ts ≡ Ok (notes, mid)
    → statements l (stmt l room Item) room (suc n) all ts ≡ after_comments l room n all.items all.height notes mid
unfolding statements
statements_are l room n all ts notes mid q = rw q refl

finish_goes : (l : Limits) (room n : ℕ) (before : List Stmt) (hb : ℕ) (notes : List (List ℕ)) (right : Token) (rest : List Token) → sort_of right ≡ sort.Finish
    → after_comments l room n before hb notes (right ∷ rest) ≡ Ok (whole_block before notes hb, rest)
unfolding next
finish_goes l room n before hb notes right rest h = rw (h, same_self sort.Finish, take_goes right rest) refl

item_goes : (l : Limits) (room n : ℕ) (before : List Stmt) (hb : ℕ) (notes : List (List ℕ)) (ts : List Token) (s : TallStmt) (mid : List Token) → IsNot sort.Finish ts → 0 < room → stmt l room Item ts ≡ Ok (s, mid)
    → after_comments l room n before hb notes ts ≡ statements l (stmt l room Item) room n (added_to before hb notes s) mid
unfolding next_item
item_goes l room n before hb notes ts s mid f some q = rw (f, eq_false room 0 some, q) refl

-- Statements of a block, its last comments and its brace: `body` begins with the comments `lead`, and what follows them is read.
pub record BodyRead (l : Limits) (k : ℕ) (items : List Stmt) (tail : List (List ℕ)) (body rest : List Token) : Type 0 where
  pub lead : List (List ℕ)
  pub us : List Token
  pub after : List Token
  pub split : body ≡ us ++ after
  pub leads : Comments lead us
  pub comment : IsNot sort.Comment after
  pub other : IsNot sort.Else after
  pub read : (room : ℕ) → k ≤ room → (n : ℕ) (before : List Stmt) (hb : ℕ) (pre : List (List ℕ)) → length after ≤ n → Fits l body
      → after_comments l room n before hb (pre ++ lead) after ≡ Ok (whole_block (before ++ fronted pre items) (tailed pre items tail) (max hb k), rest)
  pub front : next after ≡ sort.Super → (room : ℕ) → k ≤ room → (pre : List (List ℕ)) → Fits l body
      → from_super l (stmt l room Item) room (pre ++ lead) after ≡ Ok (whole_block (fronted pre items) (tailed pre items tail) k, rest)

-- the statements after some others and comments that were read
body_goes : (l : Limits) (k : ℕ) (items : List Stmt) (tail : List (List ℕ)) (body rest : List Token) → (b : BodyRead l k items tail body rest) → (room : ℕ) → k ≤ room → (n : ℕ) → length body < n → Fits l body
    → (before : List Stmt) (hb : ℕ) (is_open : Bool)
    → statements l (stmt l room Item) room n (record { items = before; height = hb; notes = taken is_open b.lead }) (left_of is_open b.us b.after) ≡ Ok (whole_block (before ++ items) tail (max hb k), rest)
body_goes l k items tail body rest b room low zero few short before hb is_open = absurd (omega arith)
body_goes l k items tail body rest b room low (suc n) few short before hb is_open =
    let m = ap length b.split ∙ length-append b.us b.after in
    statements_are l room n (record { items = before; height = hb; notes = taken is_open b.lead }) (left_of is_open b.us b.after) b.lead b.after (taken_read l is_open b.lead b.us b.after b.leads (omega arith) b.comment)
    ∙ b.read room low n before hb [] (omega arith) short
    ∙ ap (λ r. Ok (whole_block (before ++ r) (tailed [] items tail) (max hb k), rest)) (fronted_none items)
    ∙ ap (λ r. Ok (whole_block (before ++ items) r (max hb k), rest)) (tailed_none items tail)

finish_apart : (right : Token) (rest : List Token) → sort_of right ≡ sort.Finish → IsNot sort.Comment (right ∷ rest) × IsNot sort.Else (right ∷ rest)
unfolding same_sort
finish_apart right rest h = (is_not sort.Comment sort.Finish right rest h refl, is_not sort.Else sort.Finish right rest h refl)

pub no_body : (l : Limits) (tail : List (List ℕ)) (us : List Token) (right : Token) (rest : List Token) → Comments tail us → sort_of right ≡ sort.Finish → BodyRead l 0 [] tail (us ++ (right ∷ rest)) rest
no_body l tail us right rest c h = let a = finish_apart right rest h in record {
  lead = tail;
  us = us;
  after = right ∷ rest;
  split = refl;
  leads = c;
  comment = a.0;
  other = a.1;
  read = λ room low n before hb pre few short.
      let e : hb ≡ max hb 0 = omega arith in
      finish_goes l room n before hb (pre ++ tail) right rest h ∙ ap (λ r. Ok (whole_block r (pre ++ tail) hb, rest)) (sym (append-nil before)) ∙ ap (λ r. Ok (whole_block (before ++ []) (pre ++ tail) r, rest)) e;
  front = λ f. absurd (let z = sym h ∙ sym (sort_at right rest) ∙ f in cc);
}

no_item_tokens : (ts : List Token) → ((rest : List Token) → BeginsItem (next (ts ++ rest))) → 0 < length ts
unfolding next
no_item_tokens [] b = absurd (b [])
no_item_tokens (t ∷ ts) b = omega arith

super_goes : (l : Limits) (room : ℕ) (notes : List (List ℕ)) (ts : List Token) (s : TallStmt) (mid : List Token) → super_first l room ts ≡ Ok (s, mid)
    → from_super l (stmt l room Item) room notes ts ≡ statements l (stmt l room Item) room l.turns (added_to [] 0 notes s) mid
unfolding from_super
super_goes l room notes ts s mid q = rw q refl

module _ (l : Limits) (h k : ℕ) (n : StmtNode) (texts tail : List (List ℕ)) (items : List Stmt) (ts us body rest : List Token) (c : Comments texts ts) (s : SingleRead l h n us) (super : SuperRead l h n us) (b : BodyRead l k items tail body rest) where
  abbrev first : Stmt
  first = commented texts (start_of us) n

  counted : length (ts ++ (us ++ body)) ≡ length ts + (length us + length body)
  counted = length-append ts (us ++ body) ∙ ap (λ r. length ts + r) (length-append us body)

  step_read : (room : ℕ) → max h k ≤ room → (m : ℕ) (before : List Stmt) (hb : ℕ) (pre : List (List ℕ)) → length (us ++ body) ≤ m → Fits l (ts ++ (us ++ body))
      → after_comments l room m before hb (pre ++ texts) (us ++ body) ≡ Ok (whole_block (before ++ fronted pre (first ∷ items)) (tailed pre (first ∷ items) tail) (max hb (max h k)), rest)
  step_read room low m before hb pre few short =
      let some = s.some in let n1 = length-append us body in let n2 = counted in let n3 = no_item_tokens us s.begins in
      let n4 = ap length b.split ∙ length-append b.us b.after in let n5 = length-append us (b.us ++ b.after) in let n6 = length-append b.us b.after in
      let e : max (max hb h) k ≡ max hb (max h k) = omega arith in
      let f : Followed s.is_open b.lead b.us b.after = record { comments = b.leads; stops = λ z. b.comment; other = λ z. b.other } in
      ap (λ r. after_comments l room m before hb (pre ++ texts) (us ++ r)) b.split
      ∙ item_goes l room m before hb (pre ++ texts) (us ++ (b.us ++ b.after)) (stood (start_of us) n h s.is_open b.lead) (left_of s.is_open b.us b.after)
      (apart BeginsItem sort.Finish (us ++ (b.us ++ b.after)) (s.begins (b.us ++ b.after)) (λ z. z)) (omega arith) (s.read room (omega arith) b.lead b.us b.after f (omega arith))
      ∙ body_goes l k items tail body rest b room (omega arith) m (omega arith) (omega arith) (before ++ commented (pre ++ texts) (start_of us) n ∷ []) (max hb h) s.is_open
      ∙ ap (λ r. Ok (whole_block r tail (max (max hb h) k), rest)) (append_assoc before (commented (pre ++ texts) (start_of us) n ∷ []) items)
      ∙ ap (λ r. Ok (whole_block (before ++ (commented (pre ++ texts) (start_of us) n ∷ items)) tail r, rest)) e

  step_front : next (us ++ body) ≡ sort.Super → (room : ℕ) → max h k ≤ room → (pre : List (List ℕ)) → Fits l (ts ++ (us ++ body))
      → from_super l (stmt l room Item) room (pre ++ texts) (us ++ body) ≡ Ok (whole_block (fronted pre (first ∷ items)) (tailed pre (first ∷ items) tail) (max h k), rest)
  step_front front room low pre short =
      let n1 = length-append us body in let n2 = counted in let n3 = no_item_tokens us s.begins in
      let e : max (max 0 h) k ≡ max h k = omega arith in
      super_goes l room (pre ++ texts) (us ++ body) (closed (start_of us) n h) body (super body front room (omega arith) (omega arith))
      ∙ ap (statements l (stmt l room Item) room l.turns (record { items = commented (pre ++ texts) (start_of us) n ∷ []; height = max 0 h; notes = [] })) b.split
      ∙ body_goes l k items tail body rest b room (omega arith) l.turns (omega arith) (omega arith) (commented (pre ++ texts) (start_of us) n ∷ []) (max 0 h) false
      ∙ ap (λ r. Ok (whole_block (commented (pre ++ texts) (start_of us) n ∷ items) tail r, rest)) e

  pub more_body : BodyRead l (max h k) (first ∷ items) tail (ts ++ (us ++ body)) rest
  more_body = record {
    lead = texts;
    us = ts;
    after = us ++ body;
    split = refl;
    leads = c;
    comment = apart BeginsItem sort.Comment (us ++ body) (s.begins body) (λ z. z);
    other = apart BeginsItem sort.Else (us ++ body) (s.begins body) (λ z. z);
    read = λ room low m before hb pre few short. step_read room low m before hb pre few short;
    front = λ f room low pre short. step_front f room low pre short;
  }

-- ---- blocks

block_open : (l : Limits) (room : ℕ) (pre : List (List ℕ)) (left : Token) (us : List Token) → 0 < room → sort_of left ≡ sort.Begin
    → block l (stmt l (room - 1) Item) room pre (left ∷ us) ≡ statements l (stmt l (room - 1) Item) (room - 1) l.turns (nothing pre) us
unfolding block
block_open l room pre left us some h = rw (eq_false room 0 some, expect_goes left us h) refl

constructor_item : (l : Limits) (room : ℕ) (pre notes : List (List ℕ)) (left : Token) (us mid : List Token) → 0 < room → sort_of left ≡ sort.Begin → comments l.turns pre us ≡ Ok (notes, mid) → IsNot sort.Super mid
    → constructor_block l (stmt l (room - 1) Item) room pre (left ∷ us) ≡ statements l (stmt l (room - 1) Item) (room - 1) l.turns (nothing notes) mid
unfolding constructor_block
constructor_item l room pre notes left us mid some h q n = rw (eq_false room 0 some, expect_goes left us h, q, n) refl

constructor_super : (l : Limits) (room : ℕ) (pre notes : List (List ℕ)) (left : Token) (us mid : List Token) → 0 < room → sort_of left ≡ sort.Begin → comments l.turns pre us ≡ Ok (notes, mid) → next mid ≡ sort.Super
    → constructor_block l (stmt l (room - 1) Item) room pre (left ∷ us) ≡ from_super l (stmt l (room - 1) Item) (room - 1) notes mid
unfolding constructor_block
constructor_super l room pre notes left us mid some h q n = rw (eq_false room 0 some, expect_goes left us h, q, n, same_self sort.Super) refl

whole_is : (items : List Stmt) (tail : List (List ℕ)) (k h : ℕ) (rest : List Token) → k + 1 ≡ h → ◌≡◌ {A = Outcome TallBlock} (Ok (whole_block items tail k, rest)) (Ok (block_stood items tail h false [], rest))
whole_is items tail k h rest q = ap (λ r. Ok (block_stood items tail r false [], rest)) q

-- statements, last comments and the brace, after the comments before the block
after_open : (l : Limits) (k : ℕ) (items : List Stmt) (tail : List (List ℕ)) (body rest : List Token) → (b : BodyRead l k items tail body rest) → (room : ℕ) → k ≤ room → (n : ℕ) → length body < n → Fits l body
    → (pre : List (List ℕ)) → statements l (stmt l room Item) room n (nothing pre) body ≡ Ok (whole_block (fronted pre items) (tailed pre items tail) k, rest)
after_open l k items tail body rest b room low zero few short pre = absurd (omega arith)
after_open l k items tail body rest b room low (suc n) few short pre =
    let m = ap length b.split ∙ length-append b.us b.after in
    let e : max 0 k ≡ k = omega arith in
    ap (statements l (stmt l room Item) room (suc n) (nothing pre)) b.split
    ∙ statements_are l room n (nothing pre) (b.us ++ b.after) (pre ++ b.lead) b.after (comments_read b.leads l.turns pre b.after (omega arith) b.comment)
    ∙ b.read room low n [] 0 pre (omega arith) short
    ∙ ap (λ r. Ok (whole_block (fronted pre items) (tailed pre items tail) r, rest)) e

-- the same where the comments were read
after_notes : (l : Limits) (k : ℕ) (items : List Stmt) (tail : List (List ℕ)) (body rest : List Token) → (b : BodyRead l k items tail body rest) → (room : ℕ) → k ≤ room → (n : ℕ) → length body < n → Fits l body
    → (pre : List (List ℕ)) → statements l (stmt l room Item) room n (nothing (pre ++ b.lead)) b.after ≡ Ok (whole_block (fronted pre items) (tailed pre items tail) k, rest)
after_notes l k items tail body rest b room low zero few short pre = absurd (omega arith)
after_notes l k items tail body rest b room low (suc n) few short pre =
    let m = ap length b.split ∙ length-append b.us b.after in
    let e : max 0 k ≡ k = omega arith in
    statements_are l room n (nothing (pre ++ b.lead)) b.after (pre ++ b.lead) b.after (comments_read comment.none l.turns (pre ++ b.lead) b.after (omega arith) b.comment ∙ ap (λ r. Ok (r, b.after)) (append-nil (pre ++ b.lead)))
    ∙ b.read room low n [] 0 pre (omega arith) short
    ∙ ap (λ r. Ok (whole_block (fronted pre items) (tailed pre items tail) r, rest)) e

-- the block of a constructor is read, with the comments before it
abbrev pub ConstructorRead : Limits → ℕ → List Stmt → List (List ℕ) → List Token → Type 0
ConstructorRead l h items tail ts = (room : ℕ) → h ≤ room → (pre : List (List ℕ)) (rest : List Token) → Fits l (ts ++ rest)
    → constructor_block l (stmt l (room - 1) Item) room pre (ts ++ rest) ≡ Ok (block_stood (fronted pre items) (tailed pre items tail) h false [], rest)

module _ (l : Limits) (k : ℕ) (items : List Stmt) (tail : List (List ℕ)) (left : Token) (hl : sort_of left ≡ sort.Begin) (ts : List Token) (b : (rest : List Token) → BodyRead l k items tail (ts ++ rest) rest) where
  pub braced_block : BlockRead l (suc k) items tail (left ∷ ts)
  braced_block = record {
    some = omega arith;
    begins = λ rest. sort_at left (ts ++ rest) ∙ hl;
    read = λ room fits pre rest short.
        block_open l room pre left (ts ++ rest) (omega arith) hl ∙ after_open l k items tail (ts ++ rest) rest (b rest) (room - 1) (omega arith) l.turns (omega arith) (omega arith) pre
        ∙ whole_is (fronted pre items) (tailed pre items tail) k (suc k) rest (omega arith);
  }

  constructor_by : (room : ℕ) → suc k ≤ room → (pre : List (List ℕ)) (rest : List Token) → Fits l (left ∷ ts ++ rest) → (s : (next ((b rest).after) ≡ sort.Super) ⊎ IsNot sort.Super ((b rest).after))
      → constructor_block l (stmt l (room - 1) Item) room pre (left ∷ ts ++ rest) ≡ Ok (whole_block (fronted pre items) (tailed pre items tail) k, rest)
  constructor_by room fits pre rest short (inl s) =
      let c = b rest in let m = ap length c.split ∙ length-append c.us c.after in
      ap (λ r. constructor_block l (stmt l (room - 1) Item) room pre (left ∷ r)) c.split
      ∙ constructor_super l room pre (pre ++ c.lead) left (c.us ++ c.after) c.after (omega arith) hl (comments_read c.leads l.turns pre c.after (omega arith) c.comment) s
      ∙ c.front s (room - 1) (omega arith) pre (omega arith)
  constructor_by room fits pre rest short (inr s) =
      let c = b rest in let m = ap length c.split ∙ length-append c.us c.after in
      ap (λ r. constructor_block l (stmt l (room - 1) Item) room pre (left ∷ r)) c.split
      ∙ constructor_item l room pre (pre ++ c.lead) left (c.us ++ c.after) c.after (omega arith) hl (comments_read c.leads l.turns pre c.after (omega arith) c.comment) s
      ∙ after_notes l k items tail (ts ++ rest) rest c (room - 1) (omega arith) l.turns (omega arith) (omega arith) pre

  pub usual_block : ConstructorRead l (suc k) items tail (left ∷ ts)
  usual_block room fits pre rest short =
      constructor_by room fits pre rest short (sort_or sort.Super ((b rest).after)) ∙ whole_is (fronted pre items) (tailed pre items tail) k (suc k) rest (omega arith)

-- ---- `super(..);` at the front

module _ (l : Limits) (h k : ℕ) (n : StmtNode) (texts tail : List (List ℕ)) (items : List Stmt) (ts us body rest : List Token) (c : Comments texts ts)
    (super : (room : ℕ) → h ≤ room → Fits l (us ++ body) → super_first l room (us ++ body) ≡ Ok (closed (start_of us) n h, body)) (first : next (us ++ body) ≡ sort.Super) (b : BodyRead l k items tail body rest) where
  first_apart : IsNot sort.Comment (us ++ body)
  unfolding same_sort
  first_apart = rw first refl

  pub constructor_first : (left : Token) → sort_of left ≡ sort.Begin → (room : ℕ) → suc (max h k) ≤ room → (pre : List (List ℕ)) → Fits l (left ∷ ts ++ (us ++ body))
      → constructor_block l (stmt l (room - 1) Item) room pre (left ∷ ts ++ (us ++ body))
      ≡ Ok (block_stood (fronted pre (commented texts (start_of us) n ∷ items)) (tailed pre (commented texts (start_of us) n ∷ items) tail) (suc (max h k)) false [], rest)
  constructor_first left hl room low pre short =
      let n1 = length-append us body in let n2 = length-append ts (us ++ body) in
      let e : max (max 0 h) k + 1 ≡ suc (max h k) = omega arith in
      constructor_super l room pre (pre ++ texts) left (ts ++ (us ++ body)) (us ++ body) (omega arith) hl (comments_read c l.turns pre (us ++ body) (omega arith) first_apart) first
      ∙ super_goes l (room - 1) (pre ++ texts) (us ++ body) (closed (start_of us) n h) body (super (room - 1) (omega arith) (omega arith))
      ∙ ap (statements l (stmt l (room - 1) Item) (room - 1) l.turns (record { items = commented (pre ++ texts) (start_of us) n ∷ []; height = max 0 h; notes = [] })) b.split
      ∙ body_goes l k items tail body rest b (room - 1) (omega arith) l.turns (omega arith) (omega arith) (commented (pre ++ texts) (start_of us) n ∷ []) (max 0 h) false
      ∙ whole_is (commented (pre ++ texts) (start_of us) n ∷ items) tail (max (max 0 h) k) (suc (max h k)) rest e
