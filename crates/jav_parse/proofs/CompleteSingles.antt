-- Each statement of a block is read whole, where what it holds is.
use Rattle.std.proofs.Common.{◌≡◌, ℕ, suc, ◌+◌, ◌-◌, ◌<◌, Bool, false, List, [], ◌∷◌, ◌++◌, Ok, refl, sym, ap, ◌∙◌, subst, append_assoc, append-nil, arith}
use Rattle.std.proofs.lemmas.List.{length-append}
use Rattle.mol_base.specs.Token.{Token}
use Rattle.jav_tree.specs.declared.stmt.Let.{Let}
use Rattle.jav_tree.specs.declared.stmt.Stmt.{Stmt}
use Rattle.jav_tree.specs.declared.stmt.StmtNode.{StmtNode}
use Rattle.jav_tree.specs.declared.stmt.StmtNode.TheVariants as node
use Rattle.jav_tree.specs.Blocks.{block_of}
use Rattle.jav_tree.specs.Statements.{fronted, tailed}
use Rattle.jav_tree.specs.Statements as grammar
use Rattle.jav_tree.specs.Tokens.{start_of}
use Rattle.jav_parse_cursor.specs.declared.limits.Limits.{Limits}
use Rattle.jav_parse_cursor.specs.declared.sort.Sort.{Sort}
use Rattle.jav_parse_cursor.specs.declared.sort.Sort.TheVariants as sort
use Rattle.jav_parse_stmt.specs.declared.stmt.Place.{Place}
use Rattle.jav_parse_stmt.specs.declared.stmt.Place.TheVariants.{Item}
use Rattle.jav_parse_stmt.specs.declared.stmt_tall.TallBlock.{TallBlock}
use Rattle.jav_parse_stmt.specs.declared.stmt_tall.TallStmt.{TallStmt}
use Rattle.jav_parse_cursor.specs.Reading.{Parser, Outcome, sort as next}
use Rattle.jav_parse_cursor.specs.Sorts.{sort_of, same_sort}
use Rattle.jav_parse_stmt.specs.StmtRules.{stmt, closed, block, block_stmt}
use Rattle.jav_parse.proofs.CompleteActions.{action_read}
use Rattle.jav_parse.proofs.CompleteBranches.{stmt_if, stmt_other}
use Rattle.jav_parse.proofs.CompleteDeclarations.{DeclarationRead, BeginsDeclaration, declaration_read}
use Rattle.jav_parse.proofs.CompleteLeads.{is_not_at}
use Rattle.jav_parse.proofs.CompletePlain.{item_is, start_same}
use Rattle.jav_parse.proofs.CompleteSupers.{SuperRead, action_super, apart_word}
use Rattle.jav_parse.proofs.ReadingSteps.{le_false}
use Rattle.jav_parse.proofs.SortsOfTokens.{begin_sort, semi_sort, keyword_sort}
use Rattle.jav_parse.proofs.StatementReadings.{stood, block_stood, left_of, BeginsPlain, BeginsItem, apart, PlainRead, ChoiceRead, BlockRead, SingleRead}
use Rattle.jav_parse.proofs.WholeLaws.{WholeLaws}

pub fronted_none : (items : List Stmt) → fronted [] items ≡ items
fronted_none [] = refl
fronted_none (s ∷ rest) = refl

pub tailed_none : (items : List Stmt) (tail : List (List ℕ)) → tailed [] items tail ≡ tail
tailed_none [] tail = refl
tailed_none (s ∷ rest) tail = refl

-- some tokens begin with this sort
pub some_tokens : (s : Sort) → (sort.End ≡ s → ⊥) → (ts : List Token) → ((rest : List Token) → next (ts ++ rest) ≡ s) → ts ≡ [] → ⊥
unfolding next
some_tokens s n ts b e = n (subst (λ r. next (r ++ []) ≡ s) e (b []))

declaration_item : (s : Sort) → BeginsDeclaration s → BeginsItem s
declaration_item sort.Final b = tt
declaration_item sort.Prim b = tt
declaration_item sort.Name b = tt
declaration_item s b = absurd b

plain_item : (s : Sort) → BeginsPlain s → BeginsItem s
plain_item sort.Begin b = tt
plain_item sort.If b = tt
plain_item sort.Final b = tt
plain_item sort.Prim b = tt
plain_item s b = b

block_goes : (l : Limits) (top : ℕ) (once twice : Place → Parser TallStmt) (ts : List Token) (b : TallBlock) (rest : List Token) → 1 < top → block l (twice Item) (top - 1) [] ts ≡ Ok (b, rest)
    → block_stmt l top once twice ts ≡ Ok (closed (start_of ts) (node.Block (block_of b.items b.tail)) (b.height + 1), rest)
unfolding block_stmt
block_goes l top once twice ts b rest high q = rw (le_false top 1 high, q) refl

block_node : (items : List Stmt) (tail : List (List ℕ)) (at h : ℕ) (rest : List Token)
    → ◌≡◌ {A = Outcome TallStmt} (Ok (closed at (node.Block (block_of (fronted [] items) (tailed [] items tail))) (h + 1), rest)) (Ok (closed at (node.Block (block_of items tail)) (suc h), rest))
block_node items tail at h rest =
    let e : h + 1 ≡ suc h = omega arith in
    ap (λ r. Ok (closed at (node.Block (block_of r (tailed [] items tail))) (h + 1), rest)) (fronted_none items)
    ∙ ap (λ r. Ok (closed at (node.Block (block_of items r)) (h + 1), rest)) (tailed_none items tail)
    ∙ ap (λ r. Ok (closed at (node.Block (block_of items tail)) r, rest)) e

module _ (l : Limits) where
  pub single_block : (h : ℕ) (items : List Stmt) (tail : List (List ℕ)) (ts : List Token) → BlockRead l h items tail ts → SingleRead l (suc h) (node.Block (block_of items tail)) ts
  unfolding same_sort
  single_block h items tail ts b = record {
    some = omega arith;
    is_open = false;
    begins = λ rest. rw (b.begins rest) tt;
    read = λ d fits notes us rest f short.
        let some = b.some in
        stmt_other l d Item (ts ++ (us ++ rest)) (closed (start_of ts) (node.Block (block_of items tail)) (suc h), us ++ rest) (omega arith) (is_not_at sort.Begin sort.If (ts ++ (us ++ rest)) (b.begins (us ++ rest)) refl)
        (item_is l d (stmt l (d - 1)) (stmt l (d - 1 - 1)) sort.Begin (ts ++ (us ++ rest)) (b.begins (us ++ rest))
        ∙ block_goes l d (stmt l (d - 1)) (stmt l (d - 1 - 1)) (ts ++ (us ++ rest)) (block_stood (fronted [] items) (tailed [] items tail) h false []) (us ++ rest) (omega arith) (b.read (d - 1) (omega arith) [] (us ++ rest) short)
        ∙ block_node items tail (start_of (ts ++ (us ++ rest))) h (us ++ rest)
        ∙ ap (λ at. Ok (closed at (node.Block (block_of items tail)) (suc h), us ++ rest)) (start_same ts (us ++ rest) [] (some_tokens sort.Begin (λ z. cc) ts b.begins) ∙ ap start_of (append-nil ts)));
  }

  no_tokens : (ts : List Token) → ((rest : List Token) → BeginsDeclaration (next (ts ++ rest))) → ts ≡ [] → ⊥
  unfolding next
  no_tokens ts b e = subst (λ r. BeginsDeclaration (next (r ++ []))) e (b [])

  pub single_declaration : (h : ℕ) (semi : Token) (declared : Let) (ts : List Token) → DeclarationRead l h declared ts → sort_of semi ≡ sort.Semi → SingleRead l (suc h) (node.Let declared) (ts ++ semi ∷ [])
  single_declaration h semi declared ts x hs = record {
    some = omega arith;
    is_open = false;
    begins = λ rest. rw append_assoc (declaration_item (next (ts ++ (semi ∷ rest))) (x.begins (semi ∷ rest)));
    read = λ d fits notes us rest f short.
        let n = length-append (ts ++ semi ∷ []) (us ++ rest) in let n2 = length-append ts (semi ∷ []) in let n3 = length-append ts (semi ∷ (us ++ rest)) in
        rw append_assoc (stmt_other l d Item (ts ++ (semi ∷ (us ++ rest))) (closed (start_of (ts ++ semi ∷ [])) (node.Let declared) (suc h), us ++ rest) (omega arith)
        (apart BeginsDeclaration sort.If (ts ++ (semi ∷ (us ++ rest))) (x.begins (semi ∷ (us ++ rest))) (λ b. b))
        (x.item d (omega arith) (stmt l (d - 1)) (stmt l (d - 1 - 1)) semi (us ++ rest) hs (omega arith)
        ∙ ap (λ at. Ok (closed at (node.Let declared) (suc h), us ++ rest)) (sym (ap start_of (append-nil ts)) ∙ start_same ts [] (semi ∷ []) (no_tokens ts x.begins))));
  }

  pub single_plain : (h : ℕ) (is_open : Bool) (n : StmtNode) (ts : List Token) → PlainRead l h is_open n ts → SingleRead l h n ts
  single_plain h is_open n ts p = record {
    some = p.some;
    is_open = is_open;
    begins = λ rest. plain_item (next (ts ++ rest)) (p.begins rest);
    read = λ d fits notes us rest f short.
        let some = p.some in
        stmt_other l d Item (ts ++ (us ++ rest)) (stood (start_of ts) n h is_open notes, left_of is_open us rest) (omega arith) (apart BeginsPlain sort.If (ts ++ (us ++ rest)) (p.begins (us ++ rest)) (λ b. b))
        (p.item d fits notes us rest f short);
  }

  pub single_choice : (h : ℕ) (is_open : Bool) (n : StmtNode) (ts : List Token) → ChoiceRead l h is_open n ts → SingleRead l h n ts
  single_choice h is_open n ts c = record {
    some = c.some;
    is_open = is_open;
    begins = λ rest. rw (c.begins rest) tt;
    read = λ d fits notes us rest f short.
        let some = c.some in
        stmt_if l d Item (ts ++ (us ++ rest)) (stood (start_of ts) n h is_open notes, left_of is_open us rest) (omega arith) (c.begins (us ++ rest)) (c.read d fits notes us rest f short);
  }

-- ---- statements that begin with `super`

plain_super : (l : Limits) → WholeLaws l → (h : ℕ) (is_open : Bool) (n : StmtNode) (ts : List Token) → grammar.Plain l.most h is_open n ts → SuperRead l h n ts
plain_super l w h o n ts (grammar.expression {h = k} {semi = semi} {e = e} {ts = us} x m hs) rest front top fits short =
    action_super l k e semi us (action_read l w k e us x m) (semi_sort hs) rest front top fits short
plain_super l w h o n ts (grammar.while {word = t} hw a b c d) rest front top fits short = absurd (let z = apart_word sort.While t _ (keyword_sort "while" t hw) front in cc)
plain_super l w h o n ts (grammar.for {word = t} hw a b c d e f g i) rest front top fits short = absurd (let z = apart_word sort.For t _ (keyword_sort "for" t hw) front in cc)
plain_super l w h o n ts (grammar.each {word = t} hw a b c d e f g i) rest front top fits short = absurd (let z = apart_word sort.For t _ (keyword_sort "for" t hw) front in cc)
plain_super l w h o n ts (grammar.return {word = t} hw a b) rest front top fits short = absurd (let z = apart_word sort.Return t _ (keyword_sort "return" t hw) front in cc)
plain_super l w h o n ts (grammar.throw {word = t} hw a b) rest front top fits short = absurd (let z = apart_word sort.Throw t _ (keyword_sort "throw" t hw) front in cc)
plain_super l w h o n ts (grammar.break {word = t} hw a) rest front top fits short = absurd (let z = apart_word sort.Break t _ (keyword_sort "break" t hw) front in cc)
plain_super l w h o n ts (grammar.continue {word = t} hw a) rest front top fits short = absurd (let z = apart_word sort.Continue t _ (keyword_sort "continue" t hw) front in cc)
plain_super l w h o n ts (grammar.nothing {semi = t} hs) rest front top fits short = absurd (let z = apart_word sort.Semi t _ (semi_sort hs) front in cc)

choice_front : (limit h : ℕ) (is_open : Bool) (n : StmtNode) (ts : List Token) → grammar.Choice limit h is_open n ts → (rest : List Token) → next (ts ++ rest) ≡ sort.Super → ⊥
choice_front limit h o n ts (grammar.short {word = t} hw a b c d) rest front = let z = apart_word sort.If t _ (keyword_sort "if" t hw) front in cc
choice_front limit h o n ts (grammar.long {word = t} hw a b c d e f g) rest front = let z = apart_word sort.If t _ (keyword_sort "if" t hw) front in cc

block_front : (limit h : ℕ) (items : List Stmt) (tail : List (List ℕ)) (ts : List Token) → grammar.BlockOf limit h items tail ts → (rest : List Token) → next (ts ++ rest) ≡ sort.Super → ⊥
block_front limit h items tail ts (grammar.braced {left = t} hl a b c) rest front = let z = apart_word sort.Begin t _ (begin_sort hl) front in cc

declaration_front : (s : Sort) → BeginsDeclaration s → s ≡ sort.Super → ⊥
declaration_front s b e = subst BeginsDeclaration e b

pub single_super : (l : Limits) → WholeLaws l → (h : ℕ) (n : StmtNode) (ts : List Token) → grammar.Single l.most h n ts → SuperRead l h n ts
single_super l w h n ts (grammar.single_block {h = k} {items = items} {tail = tail} b) rest front top fits short = absurd (block_front l.most k items tail ts b rest front)
single_super l w h n ts (grammar.single_declaration {h = k} {semi = semi} {l = d} {ts = us} x hs) rest front top fits short =
    let y = declaration_read l w k d us x in
    absurd (declaration_front (next (us ++ (semi ∷ rest))) (y.begins (semi ∷ rest)) (rw append_assoc at front))
single_super l w h n ts (grammar.single_plain {is_open = o} p) rest front top fits short = plain_super l w h o n ts p rest front top fits short
single_super l w h n ts (grammar.single_choice {is_open = o} c) rest front top fits short = absurd (choice_front l.most h o n ts c rest front)
