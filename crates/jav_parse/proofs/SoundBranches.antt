-- Statements that hold others: branches, `if`, `while` and `for`.
use Rattle.std.proofs.Common.{◌≡◌, ℕ, suc, ◌+◌, ◌-◌, max, ◌<◌, ◌≤◌, ◌⊎◌, inl, inr, ◌||◌, not, Bool, true, false, nat_le, List, [], ◌∷◌, ◌++◌, refl, sym, ap, ◌∙◌, subst, append_assoc, arith}
use Rattle.std.proofs.lemmas.List.{append-nil}
use Rattle.std.proofs.lemmas.Bool.Decides.{nat_tests}
use Rattle.mol_base.specs.Token.{Token}
use Rattle.jav_tree.specs.declared.stmt.Stmt.{Stmt}
use Rattle.jav_tree.specs.declared.stmt.StmtNode.{StmtNode}
use Rattle.jav_tree.specs.Tokens.{IsSymbol, IsKeyword, Comments, start_of}
use Rattle.jav_tree.specs.Tokens as spelled
use Rattle.jav_tree.specs.Statements as stmts
use Rattle.jav_tree.specs.Statements.{Plain, Choice, Otherwise, Branch, Enclosed, BlockOf, commented, stmt_at, fronted, tailed}
use Rattle.jav_parse_stmt.specs.declared.flow.TallElse.{TallElse}
use Rattle.jav_parse_cursor.specs.declared.limits.Limits.{Limits}
use Rattle.jav_parse_cursor.specs.declared.sort.Sort.TheVariants as sort
use Rattle.jav_parse_stmt.specs.declared.stmt.Place.{Place}
use Rattle.jav_parse_stmt.specs.declared.stmt.Place.TheVariants as place
use Rattle.jav_parse_stmt.specs.declared.stmt_tall.TallBlock.{TallBlock}
use Rattle.jav_parse_stmt.specs.declared.stmt_tall.TallStmt.{TallStmt}
use Rattle.jav_parse_cursor.specs.declared.tall.Tall.{Tall}
use Rattle.jav_parse_cursor.specs.Reading.{Parser, ◌>>=◌, take_token}
use Rattle.jav_parse_cursor.specs.Sorts.{same_sort}
use Rattle.jav_parse_stmt.specs.StmtRules.{condition, wrapped, branch, else_branch, chained, second_branch, short_if, long_if, chosen}
use Rattle.jav_parse.proofs.ExpressionLaws.{ExpressionLaws}
use Rattle.jav_parse.proofs.Meets.{ReadsAt, Reads, some_of, reads_pure, reads_refuse, reads_map, reads_if, reads_any, reads_where, reads_bind, reads_token, reads_peek, reads_when}
use Rattle.jav_parse.proofs.SoundBlocks.{Braces, reads_block}
use Rattle.jav_parse.proofs.SoundComments.{comments_here, comments_with}
use Rattle.jav_parse.proofs.SoundHeaders.{condition_then}
use Rattle.jav_parse.proofs.SoundStatements.{PlainForm, ItemForm}
use Rattle.jav_parse.proofs.StatementForms.{StatementForm, Stands, suc_is}
use Rattle.jav_parse.proofs.Steps.{Tries, try_then, reads_to}
use Rattle.jav_parse.proofs.TokenSorts as token
use Rattle.jav_parse.proofs.Within.{IsLevel}
use Rattle.jav_parse.proofs.Written.{is_same}

abbrev pub ChoiceForm : Limits → StatementForm
ChoiceForm l = Choice l.most

-- what may stand at a place
abbrev pub PlaceForm : Limits → Place → StatementForm
PlaceForm l place.Item = ItemForm l
PlaceForm l place.Branch = λ h o n ts. Plain l.most h o n ts ⊎ Choice l.most h o n ts
PlaceForm l place.Plain = PlainForm l
PlaceForm l place.Chain = ChoiceForm l

-- a relation of heights, openness, statements, last comments and tokens
abbrev pub BranchForm : Type 1
BranchForm = ℕ → Bool → List Stmt → List (List ℕ) → List Token → Type 0

-- a branch of this form, no higher than `top`, and the comments after it
pub record Encloses (form : BranchForm) (top : ℕ) (y : TallBlock) (ts : List Token) : Type 0 where
  pub front : List Token
  pub back : List Token
  pub tokens : ts ≡ front ++ back
  pub is : form y.height y.is_open y.items y.tail front
  pub after : Comments y.after back
  pub low : y.height ≤ top

-- what stands after `else`, and the comments after it
record Follows (l : Limits) (top : ℕ) (y : TallElse) (ts : List Token) : Type 0 where
  front : List Token
  back : List Token
  tokens : ts ≡ front ++ back
  is : Otherwise l.most y.height y.is_open y.branch front
  after : Comments y.after back
  low : y.height ≤ top

-- what makes branches of blocks and of statements at this place
record Holds (l : Limits) (kind : Place) (form : BranchForm) : Type 0 where
  blocks : (h : ℕ) (items : List Stmt) (tail : List (List ℕ)) (ts : List Token) → Enclosed l.most h false items tail ts → form h false items tail ts
  ones : (h : ℕ) (o : Bool) (n : StmtNode) (notes : List (List ℕ)) (ts us : List Token) → Comments notes ts → PlaceForm l kind h o n us
      → form (suc h) o (commented notes (start_of us) n ∷ []) [] (ts ++ us)

plain_holds : (l : Limits) → Holds l place.Plain (Enclosed l.most)
plain_holds l = record { blocks = λ h items tail ts k. k; ones = λ h o n notes ts us c k. stmts.enclosed_plain c k }

one_branch : (l : Limits) (h : ℕ) (o : Bool) (n : StmtNode) (notes : List (List ℕ)) (ts us : List Token) → Comments notes ts → Plain l.most h o n us ⊎ Choice l.most h o n us
    → Branch l.most (suc h) o (commented notes (start_of us) n ∷ []) [] (ts ++ us)
one_branch l h o n notes ts us c (inl k) = stmts.enclosed_branch (stmts.enclosed_plain c k)
one_branch l h o n notes ts us c (inr k) = stmts.choice_branch c k

branch_holds : (l : Limits) → Holds l place.Branch (Branch l.most)
branch_holds l = record { blocks = λ h items tail ts k. stmts.enclosed_branch k; ones = one_branch l }

pub shift : (pre ts front back : List Token) → ts ≡ front ++ back → pre ++ ts ≡ (pre ++ front) ++ back
shift pre ts front back e = ap (λ r. pre ++ r) e ∙ sym (append_assoc pre front back)

-- how what stands inside is read: `once` one less high than the whole, `twice` two less
pub record Inner (l : Limits) (top : ℕ) (once twice : Place → Parser TallStmt) : Type 0 where
  pub chain : Tries (Stands (ChoiceForm l) (top - 1)) (once place.Chain)
  pub item : 0 < top - 1 - 1 → Reads (Stands (ItemForm l) (top - 1 - 1)) (twice place.Item)
  pub plain : 0 < top - 1 - 1 → Reads (Stands (PlaceForm l place.Plain) (top - 1 - 1)) (twice place.Plain)
  pub branch_is : 0 < top - 1 - 1 → Reads (Stands (PlaceForm l place.Branch) (top - 1 - 1)) (twice place.Branch)

module _ (l : Limits) (laws : ExpressionLaws l) (top : ℕ) (once twice : Place → Parser TallStmt) (inner : Inner l top once twice) (p : 1 < top) where
  block_encloses : (form : BranchForm) (kind : Place) → Holds l kind form → (notes : List (List ℕ)) (cs : List Token) → Comments notes cs → (y : TallBlock) (us : List Token)
      → Braces (BlockOf l.most) (top - 1) notes y us → Encloses form (top - 1) y (cs ++ us)
  block_encloses form kind f notes cs c y us k = rw (k.is) (record {
    front = cs ++ us;
    back = [];
    tokens = sym (append-nil (cs ++ us));
    is = rw (suc_is k.h) (f.blocks (suc k.h) (fronted notes k.items) (tailed notes k.items k.tail) (cs ++ us) (stmts.enclosed_block c k.form_is));
    after = spelled.none;
    low = let a = k.low in omega arith;
  })

  one_encloses : (form : BranchForm) (kind : Place) → Holds l kind form → (notes : List (List ℕ)) (cs : List Token) → Comments notes cs → (s : TallStmt) (us : List Token)
      → Stands (PlaceForm l kind) (top - 1 - 1) s us → 0 < top - 1 - 1 → Encloses form (top - 1) (wrapped notes s) (cs ++ us)
  one_encloses form kind f notes cs c s us k q = record {
    front = cs ++ k.front;
    back = k.back;
    tokens = shift cs us k.front k.back k.tokens;
    is = rw (suc_is s.height, k.at) (f.ones s.height s.is_open s.node notes cs k.front c k.node);
    after = k.after;
    low = let a = k.low in omega arith;
  }

  reads_branch : (form : BranchForm) (kind : Place) → Holds l kind form → (0 < top - 1 - 1 → Reads (Stands (PlaceForm l kind) (top - 1 - 1)) (twice kind))
      → Reads (Encloses form (top - 1)) (branch l top once twice kind)
  unfolding branch
  reads_branch form kind f one = reads_bind (comments_here l.turns) (λ notes cs c.
      let braces = reads_map (reads_block l (twice place.Item) (top - 1) inner.item (omega arith) notes) (block_encloses form kind f notes cs c) in
      reads_when sort.Begin (reads_any braces) (reads_any (reads_if (nat_le top 2)
      (λ q. reads_refuse (some_of braces))
      (λ q. let some : 0 < top - 1 - 1 = grind (arith, nat_tests) in
      reads_to _ (one some) (λ s us k. one_encloses form kind f notes cs c s us k some)))))

  pub reads_body : Reads (Encloses (Branch l.most) (top - 1)) (branch l top once twice place.Branch)
  reads_body = reads_branch (Branch l.most) place.Branch (branch_holds l) inner.branch_is

  second_is : (b : TallBlock) (us : List Token) → Encloses (Enclosed l.most) (top - 1) b us → Follows l (top - 1) (second_branch b) us
  second_is b us k = record { front = k.front; back = k.back; tokens = k.tokens; is = stmts.else_enclosed k.is; after = k.after; low = k.low }

  chained_is : (s : TallStmt) (us : List Token) → Stands (ChoiceForm l) (top - 1) s us → Follows l (top - 1) (chained s) us
  chained_is s us k = record { front = k.front; back = k.back; tokens = k.tokens; is = rw (k.at) (stmts.else_if k.node); after = k.after; low = k.low }

  reads_other : Reads (Follows l (top - 1)) (else_branch l top once twice)
  unfolding else_branch
  reads_other =
      let enclosed = reads_to second_branch (reads_branch (Enclosed l.most) place.Plain (plain_holds l) inner.plain) second_is in
      reads_when sort.If
      (reads_any (try_then inner.chain (some_of enclosed) (λ s us k. reads_pure (chained s) (rw append-nil (chained_is s us k)))))
      (reads_any enclosed)

  -- ---- `if`

  short_is : (word left right : Token) → IsKeyword "if" word → IsSymbol "(" left → IsSymbol ")" right → (x : Tall) (us : List Token) → IsLevel l 1 (top - 1) x us
      → (first : TallBlock) (bs : List Token) → (k : Encloses (Branch l.most) (top - 1) first bs) → (notes : List (List ℕ)) (cs : List Token) → Comments notes (k.back ++ cs)
      → Stands (ChoiceForm l) top (short_if word.start x.expr x.height first notes) (word ∷ left ∷ us ++ right ∷ (bs ++ cs))
  short_is word left right hw hl hr x us hx first bs k notes cs c = record {
    front = word ∷ left ∷ us ++ right ∷ k.front;
    back = k.back ++ cs;
    tokens =
        let e : bs ++ cs ≡ k.front ++ (k.back ++ cs) = ap (λ r. r ++ cs) k.tokens ∙ append_assoc k.front k.back cs in
        ap (λ r. word ∷ left ∷ us ++ right ∷ r) e ∙ ap (λ r. word ∷ left ∷ r) (sym (append_assoc us (right ∷ k.front) (k.back ++ cs)));
    node = rw (suc_is (max x.height first.height)) (stmts.short hw hl hx.0 hr k.is);
    at = refl;
    after = c;
    low = let a = hx.1 in let b = k.low in omega arith;
  }

  long_is : (word left right : Token) → IsKeyword "if" word → IsSymbol "(" left → IsSymbol ")" right → (x : Tall) (us : List Token) → IsLevel l 1 (top - 1) x us
      → (first : TallBlock) (bs : List Token) → (k : Encloses (Branch l.most) (top - 1) first bs) → first.is_open ≡ false → (notes : List (List ℕ)) (cs : List Token) → Comments notes (k.back ++ cs)
      → (then : Token) → IsKeyword "else" then → (second : TallElse) (ms : List Token) → Follows l (top - 1) second ms
      → Stands (ChoiceForm l) top (long_if word.start x.expr x.height first notes second) (word ∷ left ∷ us ++ right ∷ (bs ++ (cs ++ then ∷ ms)))
  long_is word left right hw hl hr x us hx first bs k closed_one notes cs c then ht second ms m = record {
    front = word ∷ left ∷ us ++ (right ∷ k.front ++ ((k.back ++ cs) ++ then ∷ m.front));
    back = m.back;
    tokens =
        let e : bs ++ (cs ++ then ∷ ms) ≡ (k.front ++ ((k.back ++ cs) ++ then ∷ m.front)) ++ m.back = rw (k.tokens, m.tokens) (simp append_assoc refl) in
        ap (λ r. word ∷ left ∷ us ++ right ∷ r) e ∙ ap (λ r. word ∷ left ∷ r) (sym (append_assoc us (right ∷ k.front ++ ((k.back ++ cs) ++ then ∷ m.front)) m.back));
    node =
        let e : max (max x.height first.height) second.height + 1 ≡ suc (max x.height (max first.height second.height)) = omega arith in
        rw e (stmts.long hw hl hx.0 hr (subst (λ o. Branch l.most first.height o first.items first.tail k.front) closed_one k.is) c ht m.is);
    at = refl;
    after = m.after;
    low = let a = hx.1 in let b = k.low in let d = m.low in omega arith;
  }

  both_false : (a b : Bool) → (a || not b) ≡ false → (a ≡ false) × (b ≡ true)
  both_false true b e = absurd (cc)
  both_false false true e = (refl, refl)
  both_false false false e = absurd (cc)

  reads_chosen : (word left right : Token) → IsKeyword "if" word → IsSymbol "(" left → IsSymbol ")" right → (x : Tall) (us : List Token) → IsLevel l 1 (top - 1) x us
      → (first : TallBlock) (bs : List Token) → Encloses (Branch l.most) (top - 1) first bs
      → Reads (λ y vs. Stands (ChoiceForm l) top y (word ∷ left ∷ us ++ right ∷ (bs ++ vs))) (chosen l top once twice word.start x.expr x.height first)
  unfolding chosen
  reads_chosen word left right hw hl hr x us hx first bs k = reads_bind (comments_with l.turns first.after k.back k.after)
      (λ notes cs c. reads_peek (λ s. reads_if (first.is_open || not (same_sort s sort.Else))
      (λ q. reads_pure (short_if word.start x.expr x.height first notes) (rw append-nil (short_is word left right hw hl hr x us hx first bs k notes cs c)))
      (λ q. let b = both_false first.is_open (same_sort s sort.Else) q in
      reads_where (reads_token {s = sort.Else} (λ z. cc) (λ then ht. reads_to _ reads_other (λ second ms m. long_is word left right hw hl hr x us hx first bs k b.0 notes cs c then (token.else_is then ht) second ms m)))
      (λ u e. e ∙ is_same s sort.Else b.1))))

  pub reads_choice : ReadsAt (Stands (ChoiceForm l) top) (λ u. u ≡ sort.If)
      (take_token >>= (λ word. condition l (top - 1) >>= (λ test. branch l top once twice place.Branch >>= (λ first. chosen l top once twice word.start test.expr test.height first))))
  reads_choice = reads_token (λ z. cc) (λ word hw. condition_then l laws (top - 1) (omega arith) (λ left x us right hl hx hr. reads_bind reads_body
      (λ first bs k. reads_chosen word left right (token.if_is word hw) hl hr x us hx first bs k)))
