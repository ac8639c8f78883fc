-- Statements, blocks and bodies of the grammar are read whole.
use Rattle.std.proofs.Common.{◌≡◌, ℕ, suc, ◌-◌, ◌<◌, max, Bool, false, List, [], ◌∷◌, ◌++◌, length, Ok, refl, sym, ap, ◌∙◌, subst, append_assoc, append-nil}
use Rattle.mol_base.specs.Token.{Token}
use Rattle.jav_tree.specs.declared.stmt.Block.{Block}
use Rattle.jav_tree.specs.declared.stmt.Else.{Else}
use Rattle.jav_tree.specs.declared.stmt.Stmt.{Stmt}
use Rattle.jav_tree.specs.declared.stmt.StmtNode.{StmtNode}
use Rattle.jav_tree.specs.Blocks.{block_of}
use Rattle.jav_tree.specs.Statements.{Plain, Choice, Otherwise, Branch, Enclosed, BlockOf, Single, Statements, ConstructorBlock, fronted, tailed}
use Rattle.jav_tree.specs.Statements as grammar
use Rattle.jav_tree.specs.Tokens.{Comments, start_of}
use Rattle.jav_tree.specs.Trees.{IsBody}
use Rattle.jav_parse_cursor.specs.declared.limits.Limits.{Limits}
use Rattle.jav_parse_cursor.specs.declared.sort.Sort.TheVariants as sort
use Rattle.jav_parse_stmt.specs.declared.stmt.Place.TheVariants.{Item}
use Rattle.jav_parse_cursor.specs.Reading.{◌>>=◌, pure, sort as next}
use Rattle.jav_parse_cursor.specs.Sorts.{sort_of}
use Rattle.jav_parse_stmt.specs.StmtRules.{stmt, constructor_block}
use Rattle.jav_parse.proofs.CompleteActions.{action_read}
use Rattle.jav_parse.proofs.CompleteBlocks.{BodyRead, no_body, more_body, braced_block, ConstructorRead, usual_block, constructor_first}
use Rattle.jav_parse.proofs.CompleteBranches.{short_read, long_read}
use Rattle.jav_parse.proofs.CompleteDeclarations.{declaration_read}
use Rattle.jav_parse.proofs.CompleteEnclosed as enclosed
use Rattle.jav_parse.proofs.CompleteLoops.{while_read, for_read, each_read}
use Rattle.jav_parse.proofs.CompleteSimple as simple
use Rattle.jav_parse.proofs.CompleteSingles as single
use Rattle.jav_parse.proofs.CompleteSingles.{single_super}
use Rattle.jav_parse.proofs.CompleteSupers.{start_super}
use Rattle.jav_parse.proofs.SortsOfTokens.{begin_sort, finish_sort, semi_sort, super_sort}
use Rattle.jav_parse.proofs.StatementReadings.{Fits, block_stood, PlainRead, ChoiceRead, OtherRead, BranchRead, EnclosedRead, BlockRead, SingleRead}
use Rattle.jav_parse.proofs.WholeLaws.{WholeLaws}

module _ (l : Limits) (w : WholeLaws l) where
  mutual
    plain_read : {h : ℕ} {o : Bool} {n : StmtNode} {ts : List Token} → Plain l.most h o n ts → PlainRead l h o n ts
    plain_read (grammar.expression {h = h} {semi = semi} {e = e} {ts = ts} x m hs) = simple.action_stmt l w h semi e ts (action_read l w h e ts x m) (semi_sort hs)
    plain_read (grammar.while a b c d k) = while_read l w _ _ _ _ _ _ _ _ _ _ _ a b c d (branch_read k)
    plain_read (grammar.for a b c d e f g i k) = for_read l w _ _ _ _ _ _ _ _ _ _ _ _ _ _ _ _ _ _ _ a b c d e f g i (branch_read k)
    plain_read (grammar.each a b c d e f g i k) = each_read l w _ _ _ _ _ _ _ _ _ _ _ _ _ _ _ _ _ a b c d e f g i (branch_read k)
    plain_read (grammar.return a b c) = simple.return_read l w _ _ _ _ _ a b c
    plain_read (grammar.throw a b c) = simple.throw_read l w _ _ _ _ _ a b c
    plain_read (grammar.break a b) = simple.break_read l w _ _ a b
    plain_read (grammar.continue a b) = simple.continue_read l w _ _ a b
    plain_read (grammar.nothing a) = simple.nothing_read l w _ a

    choice_read : {h : ℕ} {o : Bool} {n : StmtNode} {ts : List Token} → Choice l.most h o n ts → ChoiceRead l h o n ts
    choice_read (grammar.short a b c d k) = short_read l w _ _ _ _ _ _ _ _ _ _ _ a b c d (branch_read k)
    choice_read (grammar.long a b c d k e f i) = long_read l w _ _ _ _ _ _ _ _ _ _ _ _ _ _ _ _ _ a b c d (branch_read k) e f (other_read i)

    other_read : {h : ℕ} {o : Bool} {e : Else} {ts : List Token} → Otherwise l.most h o e ts → OtherRead l h o e ts
    other_read (grammar.else_if c) = enclosed.else_if l _ _ _ _ (choice_read c)
    other_read (grammar.else_enclosed e) = enclosed.else_enclosed l _ _ _ _ _ (enclosed_read e)

    branch_read : {h : ℕ} {o : Bool} {items : List Stmt} {tail : List (List ℕ)} {ts : List Token} → Branch l.most h o items tail ts → BranchRead l h o items tail ts
    branch_read (grammar.enclosed_branch e) = enclosed.enclosed_branch l _ _ _ _ _ (enclosed_read e)
    branch_read (grammar.choice_branch c k) = enclosed.choice_branch l _ _ _ _ _ _ c (choice_read k)

    enclosed_read : {h : ℕ} {o : Bool} {items : List Stmt} {tail : List (List ℕ)} {ts : List Token} → Enclosed l.most h o items tail ts → EnclosedRead l h o items tail ts
    enclosed_read (grammar.enclosed_block {items = items} {tail = tail} {comments = texts} {ts = ts} {us = us} c b) = enclosed.block_enclosed l _ items tail texts ts us c (block_read b)
    enclosed_read (grammar.enclosed_plain c p) = enclosed.plain_enclosed l _ _ _ _ _ _ c (plain_read p)

    pub block_read : {h : ℕ} {items : List Stmt} {tail : List (List ℕ)} {ts : List Token} → BlockOf l.most h items tail ts → BlockRead l h items tail ts
    block_read (grammar.braced {h = k} {left = left} {right = right} {items = items} {tail = tail} {ts = ts} {us = us} hl s c hr) =
        braced_block l k items tail left (begin_sort hl) (ts ++ (us ++ right ∷ [])) (λ rest. rw (append_assoc, append_assoc) (body_read s tail us right rest c (finish_sort hr)))

    single_read : {h : ℕ} {n : StmtNode} {ts : List Token} → Single l.most h n ts → SingleRead l h n ts
    single_read (grammar.single_block b) = single.single_block l _ _ _ _ (block_read b)
    single_read (grammar.single_declaration {h = h} {semi = semi} {l = d} {ts = ts} x hs) = single.single_declaration l h semi d ts (declaration_read l w h d ts x) (semi_sort hs)
    single_read (grammar.single_plain p) = single.single_plain l _ _ _ _ (plain_read p)
    single_read (grammar.single_choice c) = single.single_choice l _ _ _ _ (choice_read c)

    body_read : {h : ℕ} {items : List Stmt} {ts : List Token} → Statements l.most h items ts → (tail : List (List ℕ)) (us : List Token) (right : Token) (rest : List Token) → Comments tail us → sort_of right ≡ sort.Finish
        → BodyRead l h items tail (ts ++ (us ++ (right ∷ rest))) rest
    body_read grammar.no_statements tail us right rest c hr = no_body l tail us right rest c hr
    body_read (grammar.more_statements {h = h} {k = k} {n = n} {notes = texts} {items = items} {ts = ts} {us = us} {vs = vs} d s k2) tail ws right rest c hr =
        rw (append_assoc, append_assoc) (more_body l h k n texts tail items ts us (vs ++ (ws ++ (right ∷ rest))) rest d (single_read s) (single_super l w h n us s) (body_read k2 tail ws right rest c hr))

-- ---- bodies

constructor_usual : (l : Limits) → WholeLaws l → (h : ℕ) (items : List Stmt) (tail : List (List ℕ)) (ts : List Token) → BlockOf l.most h items tail ts → ConstructorRead l h items tail ts
constructor_usual l w h items tail ts (grammar.braced {h = k} {left = left} {right = right} {ts = us} {us = vs} hl s c hr) =
    usual_block l k items tail left (begin_sort hl) (us ++ (vs ++ right ∷ [])) (λ rest. rw (append_assoc, append_assoc) (body_read l w s tail vs right rest c (finish_sort hr)))

super_next : (limit h : ℕ) (n : StmtNode) (ts : List Token) → grammar.SuperStart limit h n ts → (rest : List Token) → next (ts ++ rest) ≡ sort.Super
unfolding next
super_next limit h n ts (grammar.super_start hw x hs) rest = super_sort hw

constructor_super : (l : Limits) → WholeLaws l → (h k : ℕ) (left right : Token) (n : StmtNode) (texts tail : List (List ℕ)) (items : List Stmt) (ts us vs ws : List Token) → sort_of left ≡ sort.Begin → Comments texts ts
    → grammar.SuperStart l.most h n us → Statements l.most k items vs → Comments tail ws → sort_of right ≡ sort.Finish
    → ConstructorRead l (suc (max h k)) (grammar.commented texts (start_of us) n ∷ items) tail (left ∷ ts ++ (us ++ (vs ++ (ws ++ right ∷ []))))
constructor_super l w h k left right n texts tail items ts us vs ws hl c s k2 d hr room low pre rest short =
    let body = vs ++ (ws ++ (right ∷ rest)) in
    let e : (left ∷ ts ++ (us ++ (vs ++ (ws ++ right ∷ [])))) ++ rest ≡ left ∷ ts ++ (us ++ body) = simp append_assoc refl in
    subst (λ r. constructor_block l (stmt l (room - 1) Item) room pre r ≡ Ok (block_stood (fronted pre (grammar.commented texts (start_of us) n ∷ items)) (tailed pre (grammar.commented texts (start_of us) n ∷ items) tail) (suc (max h k)) false [], rest)) (sym e)
    (constructor_first l h k n texts tail items ts us body rest c (λ d low few. start_super l w h n us s body d low few) (super_next l.most h n us s body) (body_read l w k2 tail ws right rest d hr) left hl room low pre
    (subst (λ r. Fits l r) e short))

-- the block of a constructor
pub constructor_read : (l : Limits) → WholeLaws l → (h : ℕ) (items : List Stmt) (tail : List (List ℕ)) (ts : List Token) → ConstructorBlock l.most h items tail ts → ConstructorRead l h items tail ts
constructor_read l w h items tail ts (grammar.usual b) = constructor_usual l w h items tail ts b
constructor_read l w h items tail ts (grammar.super_first {h = j} {k = k} {left = left} {right = right} {n = n} {notes = texts} {items = rest} {ts = us} {us = vs} {vs = ws} {ws = xs} hl c s d e hr) =
    constructor_super l w j k left right n texts tail rest us vs ws xs (begin_sort hl) c s d e (finish_sort hr)

body_is : (l : Limits) (top : ℕ) (ts : List Token) (items : List Stmt) (tail : List (List ℕ)) (h : ℕ) → constructor_block l (stmt l (top - 1) Item) top [] ts ≡ Ok (block_stood items tail h false [], [])
    → (constructor_block l (stmt l (top - 1) Item) top [] >>= (λ b. pure (block_of b.items b.tail))) ts ≡ Ok (block_of items tail, [])
body_is l top ts items tail h q = rw q refl

-- the statements of a body are read whole, and are the whole of it
pub body_whole : (l : Limits) → WholeLaws l → (d : ℕ) (b : Block) (ts : List Token) → IsBody l.most d b ts → length ts < l.turns
    → (constructor_block l (stmt l (d - 1) Item) d [] >>= (λ b. pure (block_of b.items b.tail))) ts ≡ Ok (b, [])
body_whole l w d b ts t short =
    let e : ts ++ [] ≡ ts = append-nil ts in
    let read = constructor_read l w t.0 t.1 t.2 ts t.4 d t.3 [] [] (subst (λ r. Fits l r) (sym e) short) in
    body_is l d ts t.1 t.2 t.0 (subst (λ r. constructor_block l (stmt l (d - 1) Item) d [] r ≡ Ok (block_stood t.1 t.2 t.0 false [], [])) e
    (read ∙ ap (λ r. Ok (block_stood r (tailed [] t.1 t.2) t.0 false [], [])) (single.fronted_none t.1) ∙ ap (λ r. Ok (block_stood t.1 r t.0 false [], [])) (single.tailed_none t.1 t.2)))
    ∙ ap (λ r. Ok (r, [])) (sym t.5)
