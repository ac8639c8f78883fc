-- What it is that a statement of the grammar is read, with the comments after it where it is open.
use Rattle.std.proofs.Common.{◌≡◌, ℕ, ◌-◌, ◌<◌, ◌≤◌, Bool, true, false, List, [], ◌++◌, length, Ok, refl, subst}
use Rattle.mol_base.specs.Token.{Token}
use Rattle.jav_tree.specs.declared.stmt.Else.{Else}
use Rattle.jav_tree.specs.declared.stmt.Stmt.{Stmt}
use Rattle.jav_tree.specs.declared.stmt.StmtNode.{StmtNode}
use Rattle.jav_tree.specs.Statements.{fronted, tailed}
use Rattle.jav_tree.specs.Tokens.{Comments, start_of}
use Rattle.jav_tree.specs.Tokens as comment
use Rattle.jav_parse_stmt.specs.declared.flow.TallElse.{TallElse}
use Rattle.jav_parse_cursor.specs.declared.limits.Limits.{Limits}
use Rattle.jav_parse_cursor.specs.declared.sort.Sort.{Sort}
use Rattle.jav_parse_cursor.specs.declared.sort.Sort.TheVariants as sort
use Rattle.jav_parse_stmt.specs.declared.stmt.Place.{Place}
use Rattle.jav_parse_stmt.specs.declared.stmt.Place.TheVariants.{Item, Branch, Plain}
use Rattle.jav_parse_stmt.specs.declared.stmt_tall.TallBlock.{TallBlock}
use Rattle.jav_parse_stmt.specs.declared.stmt_tall.TallStmt.{TallStmt}
use Rattle.jav_parse_cursor.specs.Reading.{sort as next}
use Rattle.jav_parse_cursor.specs.Sorts.{same_sort}
use Rattle.jav_parse_stmt.specs.StmtRules as rules
use Rattle.jav_parse_stmt.specs.StmtRules.{stmt}
use Rattle.jav_parse.proofs.FirstTokens.{Begins}
use Rattle.jav_parse.proofs.ReadingSteps.{IsNot}
use Rattle.jav_parse.proofs.Written.{is_same}

-- there are more turns than tokens
abbrev pub Fits : Limits → List Token → Type 0
Fits l ts = length ts < l.turns

-- the comments that an open statement takes
abbrev pub taken : Bool → List (List ℕ) → List (List ℕ)
taken true notes = notes
taken false notes = []

-- the tokens that are left after a statement, of comments and what follows them
abbrev pub left_of : Bool → List Token → List Token → List Token
left_of true us rest = rest
left_of false us rest = us ++ rest

-- Comments follow, and after those of an open statement neither a comment nor an `else`.
pub record Followed (is_open : Bool) (notes : List (List ℕ)) (us rest : List Token) : Type 0 where
  pub comments : Comments notes us
  pub stops : is_open ≡ true → IsNot sort.Comment rest
  pub other : is_open ≡ true → IsNot sort.Else rest

abbrev pub stood : ℕ → StmtNode → ℕ → Bool → List (List ℕ) → TallStmt
stood at n h is_open notes = record { at = at; node = n; height = h; is_open = is_open; after = taken is_open notes }

abbrev pub block_stood : List Stmt → List (List ℕ) → ℕ → Bool → List (List ℕ) → TallBlock
block_stood items tail h is_open notes = record { items = items; tail = tail; height = h; is_open = is_open; after = taken is_open notes }

abbrev pub else_stood : Else → ℕ → Bool → List (List ℕ) → TallElse
else_stood other h is_open notes = record { branch = other; height = h; is_open = is_open; after = taken is_open notes }

-- the sorts with which a statement begins that is no block, declaration or `if`
abbrev pub BeginsPlain : Sort → Type 0
BeginsPlain sort.While = Unit {0}
BeginsPlain sort.For = Unit {0}
BeginsPlain sort.Return = Unit {0}
BeginsPlain sort.Throw = Unit {0}
BeginsPlain sort.Break = Unit {0}
BeginsPlain sort.Continue = Unit {0}
BeginsPlain sort.Semi = Unit {0}
BeginsPlain s = Begins s

-- the sorts with which a statement in a block begins
abbrev pub BeginsItem : Sort → Type 0
BeginsItem sort.Begin = Unit {0}
BeginsItem sort.If = Unit {0}
BeginsItem sort.Final = Unit {0}
BeginsItem sort.Prim = Unit {0}
BeginsItem s = BeginsPlain s

apart_by : (B : Sort → Type 0) (s u : Sort) → B s → (B u → ⊥) → (same : Bool) → (same ≡ true → s ≡ u) → same ≡ false
apart_by B s u b n true e = absurd (n (subst B (e refl) b))
apart_by B s u b n false e = refl

-- a token of another sort
pub apart : (B : Sort → Type 0) (u : Sort) (ts : List Token) → B (next ts) → (B u → ⊥) → IsNot u ts
apart B u ts b n = apart_by B (next ts) u b n (same_sort (next ts) u) (is_same (next ts) u)

module _ (l : Limits) where
  pub record PlainRead (h : ℕ) (is_open : Bool) (n : StmtNode) (ts : List Token) : Type 0 where
    pub some : 0 < h
    pub begins : (rest : List Token) → BeginsPlain (next (ts ++ rest))
    pub plain : (top : ℕ) → h ≤ top → (notes : List (List ℕ)) (us rest : List Token) → Followed is_open notes us rest → Fits l (ts ++ (us ++ rest))
        → rules.plain l top (stmt l (top - 1)) (stmt l (top - 1 - 1)) (ts ++ (us ++ rest)) ≡ Ok (stood (start_of ts) n h is_open notes, left_of is_open us rest)
    pub item : (top : ℕ) → h ≤ top → (notes : List (List ℕ)) (us rest : List Token) → Followed is_open notes us rest → Fits l (ts ++ (us ++ rest))
        → rules.item l top (stmt l (top - 1)) (stmt l (top - 1 - 1)) (ts ++ (us ++ rest)) ≡ Ok (stood (start_of ts) n h is_open notes, left_of is_open us rest)

  pub record ChoiceRead (h : ℕ) (is_open : Bool) (n : StmtNode) (ts : List Token) : Type 0 where
    pub some : 0 < h
    pub begins : (rest : List Token) → next (ts ++ rest) ≡ sort.If
    pub read : (top : ℕ) → h ≤ top → (notes : List (List ℕ)) (us rest : List Token) → Followed is_open notes us rest → Fits l (ts ++ (us ++ rest))
        → rules.if_stmt l top (stmt l (top - 1)) (stmt l (top - 1 - 1)) (ts ++ (us ++ rest)) ≡ Ok (stood (start_of ts) n h is_open notes, left_of is_open us rest)

  pub record OtherRead (h : ℕ) (is_open : Bool) (other : Else) (ts : List Token) : Type 0 where
    pub some : 0 < h
    pub read : (top : ℕ) → h < top → (notes : List (List ℕ)) (us rest : List Token) → Followed is_open notes us rest → Fits l (ts ++ (us ++ rest))
        → rules.else_branch l top (stmt l (top - 1)) (stmt l (top - 1 - 1)) (ts ++ (us ++ rest)) ≡ Ok (else_stood other h is_open notes, left_of is_open us rest)

  -- a branch at this place
  abbrev pub ReadAt : Place → ℕ → Bool → List Stmt → List (List ℕ) → List Token → Type 0
  ReadAt kind h is_open items tail ts = (top : ℕ) → h < top → (notes : List (List ℕ)) (us rest : List Token) → Followed is_open notes us rest → Fits l (ts ++ (us ++ rest))
      → rules.branch l top (stmt l (top - 1)) (stmt l (top - 1 - 1)) kind (ts ++ (us ++ rest)) ≡ Ok (block_stood items tail h is_open notes, left_of is_open us rest)

  pub record BranchRead (h : ℕ) (is_open : Bool) (items : List Stmt) (tail : List (List ℕ)) (ts : List Token) : Type 0 where
    pub some : 0 < h
    pub read : ReadAt Branch h is_open items tail ts

  pub record EnclosedRead (h : ℕ) (is_open : Bool) (items : List Stmt) (tail : List (List ℕ)) (ts : List Token) : Type 0 where
    pub some : 0 < h
    pub apart : (rest : List Token) → IsNot sort.If (ts ++ rest)
    pub first : ReadAt Branch h is_open items tail ts
    pub second : ReadAt Plain h is_open items tail ts

  pub record BlockRead (h : ℕ) (items : List Stmt) (tail : List (List ℕ)) (ts : List Token) : Type 0 where
    pub some : 0 < h
    pub begins : (rest : List Token) → next (ts ++ rest) ≡ sort.Begin
    pub read : (room : ℕ) → h ≤ room → (pre : List (List ℕ)) (rest : List Token) → Fits l (ts ++ rest)
        → rules.block l (stmt l (room - 1) Item) room pre (ts ++ rest) ≡ Ok (block_stood (fronted pre items) (tailed pre items tail) h false [], rest)

  pub record SingleRead (h : ℕ) (n : StmtNode) (ts : List Token) : Type 0 where
    pub some : 0 < h
    pub is_open : Bool
    pub begins : (rest : List Token) → BeginsItem (next (ts ++ rest))
    pub read : (d : ℕ) → h ≤ d → (notes : List (List ℕ)) (us rest : List Token) → Followed is_open notes us rest → Fits l (ts ++ (us ++ rest))
        → stmt l d Item (ts ++ (us ++ rest)) ≡ Ok (stood (start_of ts) n h is_open notes, left_of is_open us rest)

-- nothing follows that belongs to a closed statement
pub alone : (rest : List Token) → Followed false [] [] rest
alone rest = record { comments = comment.none; stops = λ e. absurd (cc); other = λ e. absurd (cc) }
