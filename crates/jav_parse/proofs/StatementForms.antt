-- What a statement, a branch and a block that were read are spelled by: the comments after an open statement are read with it.
use Rattle.std.proofs.Common.{◌≡◌, ℕ, suc, ◌+◌, ◌≤◌, Bool, false, List, [], ◌∷◌, ◌++◌, refl, sym, arith}
use Rattle.std.proofs.lemmas.List.{append-nil}
use Rattle.mol_base.specs.Token.{Token}
use Rattle.jav_tree.specs.declared.stmt.Stmt.{Stmt}
use Rattle.jav_tree.specs.declared.stmt.StmtNode.{StmtNode}
use Rattle.jav_tree.specs.Tokens.{Comments, none, start_of}
use Rattle.jav_parse_stmt.specs.declared.stmt_tall.TallStmt.{TallStmt}
use Rattle.jav_parse_stmt.specs.StmtRules.{closed}

-- a relation of heights, openness, statements and tokens
abbrev pub StatementForm : Type 1
StatementForm = ℕ → Bool → StmtNode → List Token → Type 0

-- a statement of this form, no higher than `top`, and the comments after it
pub record Stands (form : StatementForm) (top : ℕ) (y : TallStmt) (ts : List Token) : Type 0 where
  pub front : List Token
  pub back : List Token
  pub tokens : ts ≡ front ++ back
  pub node : form y.height y.is_open y.node front
  pub at : y.at ≡ start_of front
  pub after : Comments y.after back
  pub low : y.height ≤ top

-- a statement that ends in no open one, and begins at this offset
pub record Closes (form : StatementForm) (top at : ℕ) (y : TallStmt) (ts : List Token) : Type 0 where
  pub node : StmtNode
  pub height : ℕ
  pub is : y ≡ closed at node height
  pub form_is : form height false node ts
  pub low : height ≤ top
  pub some : ts ≡ [] → ⊥

pub stands : {form : StatementForm} {top : ℕ} {y : TallStmt} {ts : List Token} → Closes form top (start_of ts) y ts → Stands form top y ts
stands {form} {top} {y} {ts} k = rw (k.is) (record { front = ts; back = []; tokens = sym (append-nil ts); node = k.form_is; at = refl; after = none; low = k.low })

pub other_form : {form new : StatementForm} {top : ℕ} {y : TallStmt} {ts : List Token} → ((h : ℕ) (o : Bool) (n : StmtNode) (us : List Token) → form h o n us → new h o n us)
    → Stands form top y ts → Stands new top y ts
other_form {form} {new} {top} {y} f k = record { front = k.front; back = k.back; tokens = k.tokens; node = f y.height y.is_open y.node k.front k.node; at = k.at; after = k.after; low = k.low }

pub ends_some : (ts : List Token) (t : Token) → ts ++ t ∷ [] ≡ [] → ⊥
ends_some [] t e = cc
ends_some (u ∷ us) t e = cc

-- a relation of heights, statements, last comments and tokens
abbrev pub BlockForm : Type 1
BlockForm = ℕ → List Stmt → List (List ℕ) → List Token → Type 0

pub suc_is : (n : ℕ) → n + 1 ≡ suc n
suc_is n = omega arith
