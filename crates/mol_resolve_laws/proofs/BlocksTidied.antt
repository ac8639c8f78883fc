-- Blocks, statements and values that stay as they are when they are tidied.
use Rattle.std.specs.Prelude.{◌≡◌, Bool, List, [], ◌∷◌, map, Option, None, Some, option_map}
use Rattle.std.proofs.Common.{refl, sym, ap, ◌∙◌}
use Rattle.std.specs.List.{AllByRecursion}
use Rattle.jav_names.specs.DottedNames.{Name, Names}
use Rattle.mol_base.specs.declared.ident.Id.{Id}
use Rattle.mol_resolve_rules.specs.Readers.{Reader}
use Rattle.mol_resolve_rules.specs.ReadStatements.{ReadNode, ReadStatement, plain, statement_of, branching, else_of}
use Rattle.mol_resolve_rules.specs.ReadTrees.{with_params}
use Rattle.mol_table_rules.specs.Tidy as tidying
use Rattle.mol_table_rules.specs.Tidy.{tidy_expr, tidy_declarator, tidy_let, tidy_start, tidy_else, tidy_node, tidy_block, tidy_if, tidy_statement}
use Rattle.mol_values_types.specs.Blocks.{block_of, branch_of}
use Rattle.mol_values_types.specs.declared.iblock.IBlock.{IBlock}
use Rattle.mol_values_types.specs.declared.iblock.IDeclarator.{IDeclarator}
use Rattle.mol_values_types.specs.declared.iblock.IElse.{IElse}
use Rattle.mol_values_types.specs.declared.iblock.IElse.TheFolds.{fold-roll-IElse, fold-roll-IStmtNode, fold-roll-IBlock, fold-roll-IIf, fold-roll-IStmt, map-IElse, map-IStmtNode}
use Rattle.mol_values_types.specs.declared.iblock.IElse.TheOpen.{IElse-F, IStmtNode-F}
use Rattle.mol_values_types.specs.declared.iblock.IElse.TheVariants as elses
use Rattle.mol_values_types.specs.declared.iblock.IElse.TheViews.{roll-IElse, roll-IStmtNode}
use Rattle.mol_values_types.specs.declared.iblock.IForStart.{IForStart}
use Rattle.mol_values_types.specs.declared.iblock.IIf.{IIf}
use Rattle.mol_values_types.specs.declared.iblock.ILet.{ILet}
use Rattle.mol_values_types.specs.declared.iblock.IStmt.{IStmt}
use Rattle.mol_values_types.specs.declared.iblock.IStmtNode.{IStmtNode}
use Rattle.mol_values_types.specs.declared.iblock.IStmtNode.TheVariants as nodes
use Rattle.mol_values_types.specs.declared.iexpr.IExpr.{IExpr}
use Rattle.mol_values_types.specs.declared.itype.IType.{IType}
use Rattle.mol_values_types.specs.declared.param.Param.{Param}
use Rattle.mol_resolve_rules.proofs.FilesStand.{some-same}
use Rattle.mol_resolve_laws.proofs.TreesTidied.{IsTidied, AreTidied, AreFound, same-all, same-given}

module _ (present : Id → List Param) (bare : Id → Option Id) where
  abbrev texpr : IExpr → IExpr
  texpr = tidy_expr present bare

  abbrev telse : IElse → IElse
  telse = tidy_else present bare

  abbrev tnode : IStmtNode → IStmtNode
  tnode = tidy_node present bare

  abbrev tblock : IBlock → IBlock
  tblock = tidy_block present bare

  abbrev tif : IIf → IIf
  tif = tidy_if present bare

  abbrev tstatement : IStmt → IStmt
  tstatement = tidy_statement present bare

  -- ---- parts of statements

  abbrev pub MaybeTidied : Option IExpr → Type 0
  MaybeTidied e = option_map texpr e ≡ e

  abbrev pub DeclaratorTidied : IDeclarator → Type 0
  DeclaratorTidied declarator = tidy_declarator present bare declarator ≡ declarator

  abbrev pub DeclaratorsTidied : List IDeclarator → Type 0
  DeclaratorsTidied declarators = map (tidy_declarator present bare) declarators ≡ declarators

  abbrev pub LetTidied : ILet → Type 0
  LetTidied declared = tidy_let present bare declared ≡ declared

  abbrev pub StartTidied : IForStart → Type 0
  StartTidied start = tidy_start present bare start ≡ start

  abbrev pub ElseTidied : IElse → Type 0
  ElseTidied rest = telse rest ≡ rest

  abbrev pub BlockTidied : IBlock → Type 0
  BlockTidied block = tblock block ≡ block

  abbrev pub BranchesTidied : Option IIf → Type 0
  BranchesTidied branches = option_map tif branches ≡ branches

  -- a statement as it is read, with its branches
  pub record NodeTidied (read : ReadNode) : Type 0 where
    pub node : tnode read.node ≡ read.node
    pub branches : BranchesTidied read.branches

  pub record StatementTidied (read : ReadStatement) : Type 0 where
    pub statement : tstatement read.statement ≡ read.statement
    pub branches : BranchesTidied read.branches

  pub tidied-more : (d : IDeclarator) (ds : List IDeclarator) → DeclaratorTidied d → DeclaratorsTidied ds → DeclaratorsTidied (d ∷ ds)
  tidied-more d ds first rest = λ i. first i ∷ rest i

  pub tidied-declarator : (name : Name) (init : Option IExpr) → MaybeTidied init
      → DeclaratorTidied (record { name = name; init = init })
  tidied-declarator name init is = λ i. record { name = name; init = is i }

  pub tidied-let : (is_final : Bool) (type : IType) (names : List IDeclarator) → DeclaratorsTidied names
      → LetTidied (record { is_final = is_final; ty = type; names = names })
  tidied-let is_final type names are = λ i. record { is_final = is_final; ty = type; names = are i }

  -- ---- nodes

  abbrev Stays : IStmtNode → Type 0
  Stays node = NodeTidied (plain node)

  abbrev step : IStmtNode-F IElse IStmtNode IBlock IIf IStmt → IStmtNode
  step x = tidying.node_step present bare (map-IStmtNode _ _ _ _ _ _ _ _ _ _ telse tnode tblock tif tstatement x)

  same-node : (x : IStmtNode-F IElse IStmtNode IBlock IIf IStmt) (node : IStmtNode) → roll-IStmtNode x ≡ node → step x ≡ node
      → tnode node ≡ node
  same-node x node rolls same = ap tnode (sym rolls)
      ∙ fold-roll-IStmtNode IElse IStmtNode IBlock IIf IStmt (tidying.else_step present bare) (tidying.node_step present bare)
      (tidying.block_step present bare) (tidying.if_step present bare) (tidying.statement_step present bare) x ∙ same

  made : (x : IStmtNode-F IElse IStmtNode IBlock IIf IStmt) (node : IStmtNode) → roll-IStmtNode x ≡ node → step x ≡ node → Stays node
  made x node rolls same = record { node = same-node x node rolls same; branches = refl }

  pub tidied-Block : (block : IBlock) → BlockTidied block → Stays (nodes.Block block)
  tidied-Block block is = made (IStmtNode-F.IStmtNode::Block block) (nodes.Block block) (nodes.rolls-Block block) (λ i. nodes.Block (is i))

  pub tidied-Let : (declared : ILet) → LetTidied declared → Stays (nodes.Let declared)
  tidied-Let declared is = made (IStmtNode-F.Let declared) (nodes.Let declared) (nodes.rolls-Let declared) (λ i. nodes.Let (is i))

  pub tidied-Do : (e : IExpr) → IsTidied present bare e → Stays (nodes.Do e)
  tidied-Do e is = made (IStmtNode-F.Do e) (nodes.Do e) (nodes.rolls-Do e) (λ i. nodes.Do (is i))

  pub tidied-While : (test : IExpr) (block : IBlock) → IsTidied present bare test → BlockTidied block → Stays (nodes.While test block)
  tidied-While test block is inside = made (IStmtNode-F.While test block) (nodes.While test block) (nodes.rolls-While test block)
      (λ i. nodes.While (is i) (inside i))

  pub tidied-For : (start : IForStart) (test : Option IExpr) (steps : List IExpr) (block : IBlock) → StartTidied start
      → MaybeTidied test → AreTidied present bare steps → BlockTidied block → Stays (nodes.For start test steps block)
  tidied-For start test steps block first is are inside = made (IStmtNode-F.For start test steps block) (nodes.For start test steps block)
      (nodes.rolls-For start test steps block) (λ i. nodes.For (first i) (is i) (same-all present bare steps are i) (inside i))

  pub tidied-Each : (is_final : Bool) (type : IType) (name : Name) (e : IExpr) (block : IBlock) → IsTidied present bare e
      → BlockTidied block → Stays (nodes.Each is_final type name e block)
  tidied-Each is_final type name e block is inside = made (IStmtNode-F.Each is_final type name e block)
      (nodes.Each is_final type name e block) (nodes.rolls-Each is_final type name e block)
      (λ i. nodes.Each is_final type name (is i) (inside i))

  pub tidied-Return : (e : Option IExpr) → MaybeTidied e → Stays (nodes.Return e)
  tidied-Return e is = made (IStmtNode-F.Return e) (nodes.Return e) (nodes.rolls-Return e) (λ i. nodes.Return (is i))

  pub tidied-Throw : (e : IExpr) → IsTidied present bare e → Stays (nodes.Throw e)
  tidied-Throw e is = made (IStmtNode-F.Throw e) (nodes.Throw e) (nodes.rolls-Throw e) (λ i. nodes.Throw (is i))

  pub tidied-Break : Stays nodes.Break
  tidied-Break = made IStmtNode-F.Break nodes.Break nodes.rolls-Break refl

  pub tidied-Continue : Stays nodes.Continue
  tidied-Continue = made IStmtNode-F.Continue nodes.Continue nodes.rolls-Continue refl

  pub tidied-Empty : Stays nodes.Empty
  tidied-Empty = made IStmtNode-F.Empty nodes.Empty nodes.rolls-Empty refl

  pub tidied-Super : (constructor : Id) (ids : List Id) (es : List IExpr) → AreFound present bare constructor (with_params ids es)
      → AreTidied present bare es → Stays (nodes.Super constructor (with_params ids es))
  tidied-Super constructor ids es are all = made (IStmtNode-F.Super constructor (with_params ids es))
      (nodes.Super constructor (with_params ids es)) (nodes.rolls-Super constructor (with_params ids es))
      (λ i. nodes.Super constructor (same-given present bare constructor ids es are all i))

  pub tidied-SuperDefault : (class : Id) → Stays (nodes.SuperDefault class)
  tidied-SuperDefault class = made (IStmtNode-F.SuperDefault class) (nodes.SuperDefault class) (nodes.rolls-SuperDefault class) refl

  pub tidied-SuperOutside : (es : List IExpr) → AreTidied present bare es → Stays (nodes.SuperOutside es)
  tidied-SuperOutside es all = made (IStmtNode-F.SuperOutside es) (nodes.SuperOutside es) (nodes.rolls-SuperOutside es)
      (λ i. nodes.SuperOutside (same-all present bare es all i))

  -- ---- branches

  abbrev else_tidied : IElse-F IElse IStmtNode IBlock IIf IStmt → IElse
  else_tidied x = tidying.else_step present bare (map-IElse _ _ _ _ _ _ _ _ _ _ telse tnode tblock tif tstatement x)

  made-else : (x : IElse-F IElse IStmtNode IBlock IIf IStmt) (rest : IElse) → roll-IElse x ≡ rest → else_tidied x ≡ rest
      → ElseTidied rest
  made-else x rest rolls same = ap telse (sym rolls)
      ∙ fold-roll-IElse IElse IStmtNode IBlock IIf IStmt (tidying.else_step present bare) (tidying.node_step present bare)
      (tidying.block_step present bare) (tidying.if_step present bare) (tidying.statement_step present bare) x ∙ same

  pub tidied-no_else : ElseTidied elses.None
  tidied-no_else = made-else IElse-F.None elses.None elses.rolls-None refl

  pub tidied-else_block : (block : IBlock) → BlockTidied block → ElseTidied (elses.Block block)
  tidied-else_block block is = made-else (IElse-F.IElse::Block block) (elses.Block block) (elses.rolls-Block block)
      (λ i. elses.Block (is i))

  tidied-else_if : (branches : IIf) → tif branches ≡ branches → ElseTidied (elses.If branches)
  tidied-else_if branches is = made-else (IElse-F.IElse::If branches) (elses.If branches) (elses.rolls-If branches) (λ i. elses.If (is i))

  tidied-branch : (test : IExpr) (block : IBlock) (rest : IElse) → IsTidied present bare test → BlockTidied block → ElseTidied rest
      → tif (branch_of test block rest) ≡ branch_of test block rest
  tidied-branch test block rest is inside follows =
      fold-roll-IIf IElse IStmtNode IBlock IIf IStmt (tidying.else_step present bare) (tidying.node_step present bare)
      (tidying.block_step present bare) (tidying.if_step present bare) (tidying.statement_step present bare)
      (record { test = test; then = block; rest = rest })
      ∙ (λ i. branch_of (is i) (inside i) (follows i))

  pub tidied-If : (test : IExpr) (block : IBlock) (rest : IElse) → IsTidied present bare test → BlockTidied block → ElseTidied rest
      → NodeTidied (branching (branch_of test block rest))
  tidied-If test block rest is inside follows =
      let branches = tidied-branch test block rest is inside follows in
      record {
        node = same-node (IStmtNode-F.IStmtNode::If (branch_of test block rest)) (nodes.If (branch_of test block rest))
            (nodes.rolls-If (branch_of test block rest)) (λ i. nodes.If (branches i));
        branches = λ i. Some (branches i);
      }

  -- ---- blocks

  pub tidied-block : (statements : List IStmt) (tail : Names) → map tstatement statements ≡ statements
      → BlockTidied (block_of statements tail)
  tidied-block statements tail are =
      fold-roll-IBlock IElse IStmtNode IBlock IIf IStmt (tidying.else_step present bare) (tidying.node_step present bare)
      (tidying.block_step present bare) (tidying.if_step present bare) (tidying.statement_step present bare)
      (record { items = statements; tail = tail })
      ∙ (λ i. block_of (are i) tail)

  pub tidied-statement : (notes : Names) (read : ReadNode) → NodeTidied read → StatementTidied (statement_of notes read)
  tidied-statement notes read is = record {
    statement = fold-roll-IStmt IElse IStmtNode IBlock IIf IStmt (tidying.else_step present bare) (tidying.node_step present bare)
        (tidying.block_step present bare) (tidying.if_step present bare) (tidying.statement_step present bare)
        (record { notes = notes; node = read.node })
        ∙ (λ i. record { notes = notes; node = is.node i });
    branches = is.branches;
  }

  pub tidied-else : {C M : Type 0} (reader : Reader C M) (read : ReadStatement) → StatementTidied read → ElseTidied (else_of reader read)
  tidied-else reader read is = by read.branches is.branches where
    by : (branches : Option IIf) → BranchesTidied branches
        → ElseTidied (else_of reader (record { statement = read.statement; branches = branches }))
    by None same = tidied-else_block (block_of (read.statement ∷ []) [])
        (tidied-block (read.statement ∷ []) [] (λ i. is.statement i ∷ []))
    by (Some branches) same = tidied-else_if branches (some-same same)

  -- the statements of a block
  abbrev pub ItemsTidied : List ReadStatement → Type 0
  ItemsTidied reads = AllByRecursion StatementTidied reads

  pub same-items : (reads : List ReadStatement) → ItemsTidied reads
      → map tstatement (map (λ (read : ReadStatement). read.statement) reads) ≡ map (λ (read : ReadStatement). read.statement) reads
  same-items [] all = refl
  same-items (read ∷ reads) all = λ i. all.0.statement i ∷ same-items reads all.1 i
