-- Whole bodies, members and source files of the grammar are read.
use Rattle.std.proofs.Common.{◌≡◌, ℕ, ◌-◌, max, ◌<◌, true, List, [], ◌++◌, map, length, Ok, refl, ap, ◌∙◌, arith}
use Rattle.std.proofs.lemmas.List.{length-append}
use Rattle.mol_base.specs.Token.{Token}
use Rattle.jav_tree.specs.declared.stmt.Block.{Block}
use Rattle.jav_tree.specs.declared.stmt.Declarator.{Declarator}
use Rattle.jav_tree.specs.declared.stmt.Stmt.{Stmt}
use Rattle.jav_tree.specs.declared.unit.Member.{Member}
use Rattle.jav_tree.specs.declared.unit.Unit.{Unit as Source}
use Rattle.jav_tree.specs.Statements as grammar
use Rattle.jav_tree.specs.Statements.{Variables, BlockOf, ConstructorBlock, fronted, tailed}
use Rattle.jav_tree.specs.Trees.{IsUnit, IsMember, IsBody}
use Rattle.jav_tree.specs.Units.{AscendingOf}
use Rattle.jav_parse_cursor.specs.declared.limits.Limits.{Limits}
use Rattle.jav_parse_cursor.specs.declared.sort.Sort.TheVariants as sort
use Rattle.jav_parse_stmt.specs.declared.stmt.Place.TheVariants as place
use Rattle.jav_parse_stmt.specs.LocalRules as locals
use Rattle.jav_parse_cursor.specs.Reading.{sort as next}
use Rattle.jav_parse_cursor.specs.Sorts.{same_sort}
use Rattle.jav_parse_stmt.specs.StmtRules as rules
use Rattle.jav_parse_stmt.specs.StmtRules.{stmt}
use Rattle.jav_parse_unit.specs.UnitRules.{unit}
use Rattle.jav_parse_unit.specs.WholeRules.{declaration, body}
use Rattle.jav_parse.proofs.CompleteLocals.{AfterVariables, variables_read}
use Rattle.jav_parse.proofs.CompleteSources.{source_whole}
use Rattle.jav_parse.proofs.CompleteLaws.{whole_laws}
use Rattle.jav_parse.proofs.CompleteStatements.{block_read, constructor_read, body_whole}
use Rattle.jav_parse.proofs.CompleteUnits.{member_whole}
use Rattle.jav_parse.proofs.SortsOfTokens.{begin_sort}
use Rattle.jav_parse.proofs.StatementReads.{StatementReads, FieldsRead, BlockReads, variable}
use Rattle.jav_parse.proofs.WholeLaws.{WholeLaws}

-- a semicolon ends variables
semi_ends : (rest : List Token) → next rest ≡ sort.Semi → AfterVariables rest
unfolding same_sort
semi_ends rest h = record { comma = rw h refl; equals = rw h refl; ends = rw h (omega arith) }

fields_read : (l : Limits) → WholeLaws l → (h : ℕ) (ds : List (ℕ × Declarator)) (ts : List Token) → Variables l.most h ds ts → FieldsRead l h ds ts
unfolding locals.variables
fields_read l w h ds ts v =
    let r = variables_read l w h ds ts v in
    record {
      name = r.name;
      others = r.us;
      split = r.split;
      is_name = r.is_name;
      read = λ top low rest semi short.
          let e : max 0 h ≡ h = omega arith in
          r.read top low l.turns locals.no_variables rest (semi_ends rest semi) short (omega arith) ∙ ap (λ k. Ok (record { items = map variable ds; height = k }, rest)) e;
    }

block_reads : (l : Limits) → WholeLaws l → (h : ℕ) (items : List Stmt) (tail : List (List ℕ)) (ts : List Token) → BlockOf l.most h items tail ts
    → BlockReads l (λ room. rules.block l (stmt l (room - 1) place.Item) room) h items tail ts
block_reads l w h items tail ts k =
    let r = block_read l w k in
    record { begins = r.begins; read = λ room low pre rest short. r.read room low pre rest (let size = length-append ts rest in omega arith) }

constructor_begins : {limit h : ℕ} {items : List Stmt} {tail : List (List ℕ)} {ts : List Token} → ConstructorBlock limit h items tail ts → (rest : List Token) → next (ts ++ rest) ≡ sort.Begin
unfolding next
constructor_begins (grammar.usual (grammar.braced a b c d)) rest = begin_sort a
constructor_begins (grammar.super_first a b c d e f) rest = begin_sort a

constructor_reads : (l : Limits) → WholeLaws l → (h : ℕ) (items : List Stmt) (tail : List (List ℕ)) (ts : List Token) → ConstructorBlock l.most h items tail ts
    → BlockReads l (λ room. rules.constructor_block l (stmt l (room - 1) place.Item) room) h items tail ts
constructor_reads l w h items tail ts k =
    record { begins = constructor_begins k; read = λ room low pre rest short. constructor_read l w h items tail ts k room low pre rest (let size = length-append ts rest in omega arith) }

statement_reads : (l : Limits) → l.builds ≡ true → StatementReads l
statement_reads l b = record { variables = fields_read l (whole_laws l b); block = block_reads l (whole_laws l b); constructor = constructor_reads l (whole_laws l b) }

pub whole_body : (l : Limits) (d : ℕ) → l.builds ≡ true → 0 < l.most → (b : Block) (ts : List Token) → IsBody l.most d b ts → length ts < l.turns → body l d ts ≡ Ok (b, [])
whole_body l d builds some b ts t short = body_whole l (whole_laws l builds) d b ts t short

pub whole_member : (l : Limits) (d : ℕ) → l.builds ≡ true → 0 < l.most → (ms : List Member) (ts : List Token) → IsMember l.most d ms ts → length ts < l.turns → declaration l d ts ≡ Ok (ms, [])
whole_member = member_whole statement_reads

pub whole_source : (l : Limits) (d : ℕ) → l.builds ≡ true → 0 < l.most → (u : Source) (ts : List Token) → IsUnit l.most d u ts → length ts < l.turns
    → (names : List (List ℕ)) × (unit l d ts ≡ Ok (record u { imports = names }, [])) × AscendingOf names u.imports
whole_source = source_whole statement_reads
