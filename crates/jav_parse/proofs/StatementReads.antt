-- What members rest on: variables, blocks and blocks of constructors of the grammar are read.
use Rattle.std.proofs.Common.{◌≡◌, ℕ, ◌-◌, ◌≤◌, false, List, [], ◌∷◌, ◌++◌, map, Ok}
use Rattle.mol_base.specs.Token.{Token}
use Rattle.jav_tree.specs.declared.stmt.Declarator.{Declarator}
use Rattle.jav_tree.specs.declared.stmt.Stmt.{Stmt}
use Rattle.jav_tree.specs.Statements.{Variables, BlockOf, ConstructorBlock, fronted, tailed}
use Rattle.jav_parse_cursor.specs.declared.limits.Limits.{Limits}
use Rattle.jav_parse_stmt.specs.declared.local.Variable.{Variable}
use Rattle.jav_parse_cursor.specs.declared.sort.Sort.TheVariants as sort
use Rattle.jav_parse_stmt.specs.declared.stmt.Place.TheVariants as place
use Rattle.jav_parse_stmt.specs.declared.stmt_tall.TallBlock.{TallBlock}
use Rattle.jav_parse_stmt.specs.LocalRules as locals
use Rattle.jav_parse_cursor.specs.Reading.{Parser, sort as next}
use Rattle.jav_parse_cursor.specs.Sorts.{sort_of}
use Rattle.jav_parse_stmt.specs.StmtRules as rules
use Rattle.jav_parse_stmt.specs.StmtRules.{stmt}
use Rattle.jav_parse.proofs.CompleteParameters.{Short}

-- a variable as the parser has it
abbrev pub variable : ℕ × Declarator → Variable
variable d = record { at = d.0; name = d.1.name; init = d.1.init }

-- variables up to a semicolon
pub record FieldsRead (l : Limits) (h : ℕ) (ds : List (ℕ × Declarator)) (ts : List Token) : Type 0 where
  pub name : Token
  pub others : List Token
  pub split : ts ≡ name ∷ others
  pub is_name : sort_of name ≡ sort.Name
  pub read : (top : ℕ) → h ≤ top → (rest : List Token) → next rest ≡ sort.Semi → Short l others rest → locals.variables l top name (others ++ rest) ≡ Ok (record { items = map variable ds; height = h }, rest)

-- a block that some rule reads, where comments `pre` stand before it
pub record BlockReads (l : Limits) (rule : ℕ → List (List ℕ) → Parser TallBlock) (h : ℕ) (items : List Stmt) (tail : List (List ℕ)) (ts : List Token) : Type 0 where
  pub begins : (rest : List Token) → next (ts ++ rest) ≡ sort.Begin
  pub read : (room : ℕ) → h ≤ room → (pre : List (List ℕ)) (rest : List Token) → Short l ts rest
      → rule room pre (ts ++ rest) ≡ Ok (record { items = fronted pre items; tail = tailed pre items tail; height = h; is_open = false; after = [] }, rest)

pub record StatementReads (l : Limits) : Type 0 where
  pub variables : (h : ℕ) (ds : List (ℕ × Declarator)) (ts : List Token) → Variables l.most h ds ts → FieldsRead l h ds ts
  pub block : (h : ℕ) (items : List Stmt) (tail : List (List ℕ)) (ts : List Token) → BlockOf l.most h items tail ts
      → BlockReads l (λ room. rules.block l (stmt l (room - 1) place.Item) room) h items tail ts
  pub constructor : (h : ℕ) (items : List Stmt) (tail : List (List ℕ)) (ts : List Token) → ConstructorBlock l.most h items tail ts
      → BlockReads l (λ room. rules.constructor_block l (stmt l (room - 1) place.Item) room) h items tail ts
