-- Branches and loop bodies, and what follows `else`, are read whole, where what they hold is.
use Rattle.std.proofs.Common.{◌≡◌, ℕ, suc, ◌+◌, ◌-◌, Bool, false, List, [], ◌∷◌, ◌++◌, Ok, refl, ap, ◌∙◌, append_assoc, arith}
use Rattle.std.proofs.lemmas.List.{length-append}
use Rattle.mol_base.specs.Token.{Token}
use Rattle.jav_tree.specs.declared.stmt.Else.TheVariants as otherwise
use Rattle.jav_tree.specs.declared.stmt.Stmt.{Stmt}
use Rattle.jav_tree.specs.declared.stmt.StmtNode.{StmtNode}
use Rattle.jav_tree.specs.Blocks.{block_of}
use Rattle.jav_tree.specs.Statements.{commented, stmt_at, fronted, tailed}
use Rattle.jav_tree.specs.Tokens.{Comments, start_of}
use Rattle.jav_parse_cursor.specs.declared.limits.Limits.{Limits}
use Rattle.jav_parse_cursor.specs.declared.sort.Sort.TheVariants as sort
use Rattle.jav_parse_stmt.specs.declared.stmt.Place.{Place}
use Rattle.jav_parse_stmt.specs.declared.stmt.Place.TheVariants.{Branch, Plain, Chain}
use Rattle.jav_parse_stmt.specs.declared.stmt_tall.TallBlock.{TallBlock}
use Rattle.jav_parse_stmt.specs.declared.stmt_tall.TallStmt.{TallStmt}
use Rattle.jav_parse_cursor.specs.Reading.{Parser, Outcome}
use Rattle.jav_parse_cursor.specs.Sorts.{same_sort}
use Rattle.jav_parse_stmt.specs.StmtRules as rules
use Rattle.jav_parse_stmt.specs.StmtRules.{stmt, block, wrapped, chained, second_branch}
use Rattle.jav_parse.proofs.CompleteBranches.{comments_not, branch_block, branch_one, other_if, other_branch, stmt_if, stmt_other}
use Rattle.jav_parse.proofs.CompleteLeads.{is_not_at}
use Rattle.jav_parse.proofs.CompleteLocals.{comments_read}
use Rattle.jav_parse.proofs.StatementReadings.{stood, block_stood, left_of, BeginsPlain, apart, PlainRead, ChoiceRead, OtherRead, ReadAt, BranchRead, EnclosedRead, BlockRead}

block_is : (items : List Stmt) (tail : List (List ℕ)) (h k : ℕ) (is_open : Bool) (notes : List (List ℕ)) (rest : List Token) → h ≡ k
    → ◌≡◌ {A = Outcome TallBlock} (Ok (block_stood items tail h is_open notes, rest)) (Ok (block_stood items tail k is_open notes, rest))
block_is items tail h k is_open notes rest q = ap (λ r. Ok (block_stood items tail r is_open notes, rest)) q

module _ (l : Limits) where
  -- ---- a block with comments before it

  block_at : (kind : Place) (h : ℕ) (items : List Stmt) (tail texts : List (List ℕ)) (ts us : List Token) → Comments texts ts → BlockRead l h items tail us
      → ReadAt l kind h false (fronted texts items) (tailed texts items tail) (ts ++ us)
  unfolding same_sort
  block_at kind h items tail texts ts us c b top fits notes cs rest f short =
      let n = length-append (ts ++ us) (cs ++ rest) in let n2 = length-append ts us in let n3 = length-append us (cs ++ rest) in
      rw append_assoc (branch_block l top (stmt l (top - 1)) (stmt l (top - 1 - 1)) kind (ts ++ (us ++ (cs ++ rest))) (us ++ (cs ++ rest)) (cs ++ rest) texts (block_stood (fronted texts items) (tailed texts items tail) h false [])
      (comments_read c l.turns [] (us ++ (cs ++ rest)) (omega arith) (is_not_at sort.Begin sort.Comment (us ++ (cs ++ rest)) (b.begins (cs ++ rest)) refl)) (b.begins (cs ++ rest))
      (b.read (top - 1) (omega arith) texts (cs ++ rest) (omega arith)))

  pub block_enclosed : (h : ℕ) (items : List Stmt) (tail texts : List (List ℕ)) (ts us : List Token) → Comments texts ts → BlockRead l h items tail us
      → EnclosedRead l h false (fronted texts items) (tailed texts items tail) (ts ++ us)
  unfolding same_sort
  block_enclosed h items tail texts ts us c b = record {
    some = b.some;
    apart = λ rest. rw append_assoc (comments_not c sort.If refl (us ++ rest) (is_not_at sort.Begin sort.If (us ++ rest) (b.begins rest) refl));
    first = block_at Branch h items tail texts ts us c b;
    second = block_at Plain h items tail texts ts us c b;
  }

  -- ---- a statement alone, with comments before it

  plain_at : (kind : Place) → ((top : ℕ) (once twice : Place → Parser TallStmt) (vs : List Token) → rules.standing l top once twice kind vs ≡ rules.plain l top once twice vs) → (h : ℕ) (is_open : Bool) (n : StmtNode) (texts : List (List ℕ))
      (ts us : List Token) → Comments texts ts → PlainRead l h is_open n us → ReadAt l kind (suc h) is_open (commented texts (start_of us) n ∷ []) [] (ts ++ us)
  plain_at kind same h is_open n texts ts us c p top fits notes cs rest f short =
      let some = p.some in
      let n1 = length-append (ts ++ us) (cs ++ rest) in let n2 = length-append ts us in let n3 = length-append us (cs ++ rest) in
      let begins = p.begins (cs ++ rest) in
      rw append_assoc (branch_one l top (stmt l (top - 1)) (stmt l (top - 1 - 1)) kind (ts ++ (us ++ (cs ++ rest))) (us ++ (cs ++ rest)) (left_of is_open cs rest) texts (stood (start_of us) n h is_open notes)
      (comments_read c l.turns [] (us ++ (cs ++ rest)) (omega arith) (apart BeginsPlain sort.Comment (us ++ (cs ++ rest)) begins (λ b. b))) (apart BeginsPlain sort.Begin (us ++ (cs ++ rest)) begins (λ b. b)) (omega arith)
      (stmt_other l (top - 1 - 1) kind (us ++ (cs ++ rest)) (stood (start_of us) n h is_open notes, left_of is_open cs rest) (omega arith) (apart BeginsPlain sort.If (us ++ (cs ++ rest)) begins (λ b. b))
      (same (top - 1 - 1) (stmt l (top - 1 - 1 - 1)) (stmt l (top - 1 - 1 - 1 - 1)) (us ++ (cs ++ rest)) ∙ p.plain (top - 1 - 1) (omega arith) notes cs rest f (omega arith)))
      ∙ block_is (commented texts (start_of us) n ∷ []) [] (h + 1) (suc h) is_open notes (left_of is_open cs rest) (omega arith))

  pub plain_enclosed : (h : ℕ) (is_open : Bool) (n : StmtNode) (texts : List (List ℕ)) (ts us : List Token) → Comments texts ts → PlainRead l h is_open n us
      → EnclosedRead l (suc h) is_open (commented texts (start_of us) n ∷ []) [] (ts ++ us)
  unfolding same_sort
  plain_enclosed h is_open n texts ts us c p = record {
    some = omega arith;
    apart = λ rest. rw append_assoc (comments_not c sort.If refl (us ++ rest) (apart BeginsPlain sort.If (us ++ rest) (p.begins rest) (λ b. b)));
    first = plain_at Branch (λ top once twice vs. refl) h is_open n texts ts us c p;
    second = plain_at Plain (λ top once twice vs. refl) h is_open n texts ts us c p;
  }

  -- ---- branches

  pub enclosed_branch : (h : ℕ) (is_open : Bool) (items : List Stmt) (tail : List (List ℕ)) (ts : List Token) → EnclosedRead l h is_open items tail ts → BranchRead l h is_open items tail ts
  enclosed_branch h is_open items tail ts e = record { some = e.some; read = e.first }

  pub choice_branch : (h : ℕ) (is_open : Bool) (n : StmtNode) (texts : List (List ℕ)) (ts us : List Token) → Comments texts ts → ChoiceRead l h is_open n us
      → BranchRead l (suc h) is_open (commented texts (start_of us) n ∷ []) [] (ts ++ us)
  unfolding same_sort
  choice_branch h is_open n texts ts us c p = record {
    some = omega arith;
    read = λ top fits notes cs rest f short.
        let some = p.some in
        let n1 = length-append (ts ++ us) (cs ++ rest) in let n2 = length-append ts us in let n3 = length-append us (cs ++ rest) in
        let begins = p.begins (cs ++ rest) in
        rw append_assoc (branch_one l top (stmt l (top - 1)) (stmt l (top - 1 - 1)) Branch (ts ++ (us ++ (cs ++ rest))) (us ++ (cs ++ rest)) (left_of is_open cs rest) texts (stood (start_of us) n h is_open notes)
        (comments_read c l.turns [] (us ++ (cs ++ rest)) (omega arith) (is_not_at sort.If sort.Comment (us ++ (cs ++ rest)) begins refl)) (is_not_at sort.If sort.Begin (us ++ (cs ++ rest)) begins refl) (omega arith)
        (stmt_if l (top - 1 - 1) Branch (us ++ (cs ++ rest)) (stood (start_of us) n h is_open notes, left_of is_open cs rest) (omega arith) begins (p.read (top - 1 - 1) (omega arith) notes cs rest f (omega arith)))
        ∙ block_is (commented texts (start_of us) n ∷ []) [] (h + 1) (suc h) is_open notes (left_of is_open cs rest) (omega arith));
  }

  -- ---- after `else`

  pub else_if : (h : ℕ) (is_open : Bool) (n : StmtNode) (ts : List Token) → ChoiceRead l h is_open n ts → OtherRead l h is_open (otherwise.If (stmt_at (start_of ts) n)) ts
  else_if h is_open n ts p = record {
    some = p.some;
    read = λ top fits notes cs rest f short.
        let some = p.some in
        let begins = p.begins (cs ++ rest) in
        other_if l top (stmt l (top - 1)) (stmt l (top - 1 - 1)) (ts ++ (cs ++ rest)) (stood (start_of ts) n h is_open notes) (left_of is_open cs rest) begins
        (stmt_if l (top - 1) Chain (ts ++ (cs ++ rest)) (stood (start_of ts) n h is_open notes, left_of is_open cs rest) (omega arith) begins (p.read (top - 1) (omega arith) notes cs rest f short));
  }

  pub else_enclosed : (h : ℕ) (is_open : Bool) (items : List Stmt) (tail : List (List ℕ)) (ts : List Token) → EnclosedRead l h is_open items tail ts → OtherRead l h is_open (otherwise.Block (block_of items tail)) ts
  else_enclosed h is_open items tail ts e = record {
    some = e.some;
    read = λ top fits notes cs rest f short. other_branch l top (stmt l (top - 1)) (stmt l (top - 1 - 1)) (ts ++ (cs ++ rest)) (block_stood items tail h is_open notes) (left_of is_open cs rest) (e.apart (cs ++ rest))
        (e.second top fits notes cs rest f short);
  }
