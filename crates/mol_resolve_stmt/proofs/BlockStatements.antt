-- What blocks and statements read as, without the branches that a statement after `else` has.
use Rattle.std.proofs.Common.{◌≡◌, ℕ, List, [], ◌∷◌, map, length, take, Option, Some, None, option_map, refl, sym, ap, ◌∙◌, subst}
use Rattle.std.specs.Option.{option_zip}
use Rattle.jav_tree.proofs.StatementFolds.{fold-stmt}
use Rattle.jav_tree.specs.declared.stmt.Block.{Block, out-Block}
use Rattle.jav_tree.specs.declared.stmt.Else.TheFolds.{fold_out-Block}
use Rattle.jav_tree.specs.declared.stmt.Stmt.{Stmt}
use Rattle.jav_names.specs.DottedNames.{Name}
use Rattle.jav_names.specs.UnitViews.{MemberKey}
use Rattle.mol_resolve_rules.proofs.ReadEquations.{statement}
use Rattle.mol_resolve_rules.specs.Locals.{Locals}
use Rattle.mol_resolve_rules.specs.Outcomes.{TreeFault, put_first}
use Rattle.mol_resolve_rules.specs.Readers.{Reader}
use Rattle.mol_resolve_rules.specs.ReadStatements as spell
use Rattle.mol_resolve_rules.specs.ReadStatements.{ReadOn, ReadsTo, ReadNode, ReadStatement, mapped_on, followed_by, each, in_block, block_reading, node_step}
use Rattle.mol_resolve_stmt.proofs.InTurn.{block_ends, made_on}
use Rattle.mol_resolve_stmt.proofs.StatementNodes.{twice-on}
use Rattle.mol_resolve_stmt.specs.GoesOn.{GoesOn}
use Rattle.mol_resolve_stmt.specs.Made as made
use Rattle.mol_resolve_stmt.specs.Statements.{stmt_reading, node_reading, node_of, statement_of, statements_of}
use Rattle.mol_values_types.specs.declared.iblock.IBlock.{IBlock}
use Rattle.mol_values_types.specs.declared.iblock.IStmt.{IStmt}
use Rattle.mol_values_types.specs.declared.iblock.IStmtNode.{IStmtNode}

first-each : {A B : Type 0} (f : A → B) (value : Option A) (rest : Option (List A))
    → option_map put_first (option_zip (option_map f value) (option_map (map f) rest))
    ≡ option_map (map f) (option_map put_first (option_zip value rest))
first-each f None rest = refl
first-each f (Some a) None = refl
first-each f (Some a) (Some further) = refl

each-mapped : {A B S : Type 0} (f : A → B) (read : S → ReadsTo ℕ A) (items : List S) (locals : Locals ℕ)
    → each (map (λ item locals. mapped_on f (read item locals)) items) locals ≡ mapped_on (map f) (each (map read items) locals)
each-mapped f read [] locals = refl
each-mapped f read (item ∷ items) locals =
    let first = read item locals in
    let rest = each (map read items) first.locals in
    ap (λ (rest : ReadOn ℕ (List _)). mapped_on put_first (followed_by (mapped_on f first) rest)) (each-mapped f read items first.locals)
    ∙ (λ i. record {
      locals = rest.locals;
      outcome = record {
        value = first-each f first.outcome.value rest.outcome.value i;
        faults = (mapped_on put_first (followed_by first rest)).outcome.faults;
      };
    })

module _ (reader : Reader ℕ MemberKey) (locals : Locals ℕ) where
  pub at-block : (block : Block) → block_reading reader block locals
      ≡ in_block locals (mapped_on (made.block (out-Block block).tail) (statements_of reader (out-Block block).items locals))
  at-block block =
      let read = each (map (stmt_reading reader) (out-Block block).items) locals in
      let tail = (out-Block block).tail in
      ap (λ (read : ReadsTo ℕ IBlock). read locals)
      (fold_out-Block _ _ _ _ (spell.else_step reader) (node_step reader) (spell.block_step reader) (spell.stmt_step reader) block)
      ∙ ap (in_block locals) (sym (twice-on (made.block tail) (map (λ (read : ReadStatement). read.statement)) read)
      ∙ ap (mapped_on (made.block tail))
      (sym (each-mapped (λ (read : ReadStatement). read.statement) (stmt_reading reader) (out-Block block).items locals)))

  pub at-statement : (s : Stmt) → statement_of reader s locals ≡ mapped_on (made.statement s.notes) (node_of reader s.node s.at locals)
  at-statement s =
      let read = node_reading reader s.node s.at locals in
      ap (λ (read : ReadsTo ℕ ReadStatement). mapped_on (λ (read : ReadStatement). read.statement) (read locals))
      (fold-stmt (statement reader) (node_step reader) s.notes s.at s.node)
      ∙ twice-on (λ (read : ReadStatement). read.statement) (spell.statement_of s.notes) read
      ∙ sym (twice-on (made.statement s.notes) (λ (read : ReadNode). read.node) read)

  -- # As the code reads them

  pub block_read : (block : Block) (items : List Stmt) (tail : List Name) (read : Option (List IStmt)) (value : Option IBlock)
      (after ended : Locals ℕ) (first next : Option TreeFault) → items ≡ (out-Block block).items → tail ≡ (out-Block block).tail
      → GoesOn (statements_of reader items locals) read locals after first next
      → ended ≡ record { declared = after.declared; in_scope = take (length locals.in_scope) after.in_scope }
      → value ≡ option_map (made.block tail) read → GoesOn (block_reading reader block locals) value locals ended first next
  block_read block items tail read value after ended first next same same_tail goes ends is =
      let whole : block_reading reader block locals ≡ in_block locals (mapped_on (made.block tail) (statements_of reader items locals)) =
      at-block block ∙ (λ i. in_block locals (mapped_on (made.block (sym same_tail i)) (statements_of reader (sym same i) locals)))
      in
      subst (λ part. GoesOn part value locals ended first next) (sym whole)
      (block_ends (mapped_on (made.block tail) (statements_of reader items locals)) value locals after ended first next
      (made_on (made.block tail) (statements_of reader items locals) read value locals after first next goes is) ends)

  pub statement_read : (s : Stmt) (notes : List Name) (read : Option IStmtNode) (value : Option IStmt) (after : Locals ℕ)
      (first next : Option TreeFault) → notes ≡ s.notes → GoesOn (node_of reader s.node s.at locals) read locals after first next
      → value ≡ option_map (made.statement notes) read → GoesOn (statement_of reader s locals) value locals after first next
  statement_read s notes read value after first next same goes is =
      subst (λ part. GoesOn part value locals after first next) (sym (at-statement s))
      (made_on (made.statement s.notes) (node_of reader s.node s.at locals) read value locals after first next goes
      (is ∙ ap (λ notes. option_map (made.statement notes) read) same))
