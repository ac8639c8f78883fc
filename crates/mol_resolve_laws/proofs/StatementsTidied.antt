-- What a body reads as stays as it is when it is tidied.
use Rattle.std.proofs.Common.{◌≡◌, ℕ, suc, Bool, true, false, List, [], ◌∷◌, map, length, Option, Some, None, Contains, refl, sym, ◌∙◌, ap, subst}
use Rattle.jav_tree.specs.Blocks as blocks
use Rattle.jav_tree.specs.declared.expr.Expr.{Expr}
use Rattle.jav_tree.specs.declared.stmt.Block.{Block}
use Rattle.jav_tree.specs.declared.stmt.Declarator.{Declarator}
use Rattle.jav_tree.specs.declared.stmt.Else.{Else, fold-Else}
use Rattle.jav_tree.specs.declared.stmt.Else.TheFolds.{fold-roll-Else, fold-roll-StmtNode, fold-roll-Block, fold-roll-Stmt, map-Else, map-StmtNode, ind-Block}
use Rattle.jav_tree.specs.declared.stmt.Else.TheOpen.{Else-F, StmtNode-F, Block-F, Stmt-F}
use Rattle.jav_tree.specs.declared.stmt.Else.TheViews.{roll-Else, roll-StmtNode, roll-Block, roll-Stmt}
use Rattle.jav_tree.specs.declared.stmt.ForStart.{ForStart}
use Rattle.jav_tree.specs.declared.stmt.ForStart.TheVariants as for_start
use Rattle.jav_tree.specs.declared.stmt.Let.{Let}
use Rattle.jav_tree.specs.declared.stmt.Stmt.{Stmt, fold-Stmt}
use Rattle.jav_tree.specs.declared.stmt.StmtNode.{StmtNode, fold-StmtNode}
use Rattle.jav_names.proofs.FoundNames.{names_stand}
use Rattle.jav_names.proofs.NamesAnswered.{names_answered}
use Rattle.jav_names.specs.LookUps.{super_constructor}
use Rattle.jav_names.specs.Members.{Constructor, declared_constructor, default_constructor}
use Rattle.jav_names.specs.Standing.{IsConstructorIn}
use Rattle.jav_names.specs.Views.{ViewType, ViewDeclaration, Found, found, outside, not_found}
use Rattle.mol_base.specs.declared.ident.Id.{Id}
use Rattle.mol_resolve_rules.specs.FaultKinds.{unknown_member}
use Rattle.mol_resolve_rules.specs.Locals.{Locals, no_locals}
use Rattle.mol_resolve_rules.specs.Outcomes.{mapped, beside, both, put_first}
use Rattle.mol_resolve_rules.specs.Readers.{Reader}
use Rattle.mol_resolve_rules.specs.ReadStatements as statements
use Rattle.mol_resolve_rules.specs.ReadStatements.{ReadOn, ReadsTo, each, ReadNode, ReadStatement, plain, statement_of, redeclared_faults, declaring, read_exprs, read_maybe, read_declarator, let_of, read_let, super_read, super_if, read_start, else_of, read_initial, read_body, block_reading}
use Rattle.mol_resolve_rules.specs.ReadTrees.{read_expr}
use Rattle.mol_resolve_rules.specs.ReadTypes.{ReadType, read_type, seen_type}
use Rattle.mol_values_types.specs.declared.iblock.IBlock.{IBlock}
use Rattle.mol_values_types.specs.declared.iblock.IBody.{IBody}
use Rattle.mol_values_types.specs.declared.iblock.IDeclarator.{IDeclarator}
use Rattle.mol_values_types.specs.declared.iblock.IElse.{IElse}
use Rattle.mol_values_types.specs.declared.iblock.IElse.TheVariants as elses
use Rattle.mol_values_types.specs.declared.iblock.IForStart.{IForStart}
use Rattle.mol_values_types.specs.declared.iblock.IForStart.TheVariants as starts
use Rattle.mol_values_types.specs.declared.iblock.IStmtNode.{IStmtNode}
use Rattle.mol_values_types.specs.declared.iblock.IStmtNode.TheVariants as nodes
use Rattle.mol_values_types.specs.declared.iexpr.IExpr.{IExpr}
use Rattle.mol_values_types.specs.declared.param.Param.{Param}
use Rattle.mol_resolve_laws.proofs.BlocksTidied.{MaybeTidied, DeclaratorTidied, DeclaratorsTidied, LetTidied, StartTidied, ElseTidied, BlockTidied, NodeTidied, StatementTidied, ItemsTidied, tidied-more, tidied-declarator, tidied-let, tidied-Block, tidied-Let, tidied-Do, tidied-While, tidied-For, tidied-Each, tidied-Return, tidied-Throw, tidied-Break, tidied-Continue, tidied-Empty, tidied-Super, tidied-SuperDefault, tidied-SuperOutside, tidied-no_else, tidied-else_block, tidied-If, tidied-block, tidied-statement, tidied-else, same-items}
use Rattle.mol_resolve_laws.proofs.ExpressionsTidied.{gives-expr}
use Rattle.mol_resolve_laws.proofs.Gives.{Gives, gives-fine, gives-refused, gives-with_faults, gives-mapped, gives-both, gives-beside, gives-given}
use Rattle.mol_resolve_laws.proofs.NamesRight.{answered}
use Rattle.mol_resolve_laws.proofs.NamesTidied.{ReadsTidily, Listed}
use Rattle.mol_resolve_laws.proofs.TreesTidied.{IsTidied, same-all}
use Rattle.mol_resolve_laws.proofs.TypesRight.{IsReadRightly, type-gives}

-- what is read from any locals on
abbrev GivesTo : {C A : Type 0} → (A → Type 0) → ReadsTo C A → Type 0
GivesTo {C} P part = (locals : Locals C) → Gives P (part locals).outcome

module _ {C M : Type 0} (present : Id → List Param) (bare : Id → Option Id) (reader : Reader C M)
    (tidy : ReadsTidily present bare reader) where
  abbrev Line : IExpr → Type 0
  Line = IsTidied present bare

  abbrev Values : ℕ → List IExpr → Type 0
  Values = Listed present bare reader tidy

  abbrev Maybe : Option IExpr → Type 0
  Maybe = MaybeTidied present bare

  abbrev Declarators : List IDeclarator → Type 0
  Declarators = DeclaratorsTidied present bare

  abbrev Inside : IBlock → Type 0
  Inside = BlockTidied present bare

  abbrev Node : ReadNode → Type 0
  Node = NodeTidied present bare

  abbrev SuperNode : IStmtNode → Type 0
  SuperNode n = Node (plain n)

  -- ---- expressions

  gives-line : (locals : Locals C) (e : Expr) → Gives Line (read_expr reader locals e)
  gives-line = gives-expr present bare reader tidy

  gives-maybe : (locals : Locals C) (e : Option Expr) → Gives Maybe (read_maybe reader locals e)
  gives-maybe locals None = gives-fine Maybe None refl
  gives-maybe locals (Some e) = gives-mapped Line Maybe (λ e. Some e) (read_expr reader locals e) (gives-line locals e)
      (λ read is. ap Some is)

  gives-exprs : (locals : Locals C) (es : List Expr) → Gives (Values (length es)) (read_exprs reader locals es)
  gives-exprs locals [] = gives-fine (Values 0) [] (record { each = tt {0}; as_many = refl })
  gives-exprs locals (e ∷ es) = gives-mapped (λ (pair : IExpr × List IExpr). Line pair.0 × Values (length es) pair.1)
      (Values (length (e ∷ es))) put_first (both (read_expr reader locals e) (read_exprs reader locals es))
      (gives-both Line (Values (length es)) (read_expr reader locals e) (read_exprs reader locals es) (gives-line locals e)
      (gives-exprs locals es))
      (λ pair is. record { each = (is.0, is.1.each); as_many = ap suc is.1.as_many })

  -- ---- declarations

  gives-declarators : (at : ℕ) (type : ViewType C) (ds : List Declarator)
      → GivesTo Declarators (each (map (read_declarator reader at type) ds))
  gives-declarators at type [] locals = gives-fine Declarators [] refl
  gives-declarators at type (d ∷ ds) locals =
      let inside = declaring reader type d.name locals in
      gives-mapped (λ (pair : IDeclarator × List IDeclarator). DeclaratorTidied present bare pair.0 × Declarators pair.1)
      Declarators put_first _
      (gives-both (DeclaratorTidied present bare) Declarators (read_declarator reader at type d locals).outcome _
      (gives-with_faults (DeclaratorTidied present bare) (redeclared_faults reader at d.name locals) _
      (gives-mapped Maybe (DeclaratorTidied present bare) _ (read_maybe reader inside d.init) (gives-maybe inside d.init)
      (λ init is. tidied-declarator present bare d.name init is)))
      (gives-declarators at type ds inside))
      (λ pair is. tidied-more present bare pair.0 pair.1 is.0 is.1)

  gives-let : (at : ℕ) (declared : Let) → GivesTo (LetTidied present bare) (read_let reader at declared)
  gives-let at declared locals = gives-mapped
      (λ (pair : ReadType C × List IDeclarator). IsReadRightly (λ mention. true) reader tidy.rightly declared.ty pair.0
      × Declarators pair.1)
      (LetTidied present bare) (let_of reader declared.is_final) _
      (gives-both (IsReadRightly (λ mention. true) reader tidy.rightly declared.ty) Declarators (read_type reader at declared.ty) _
      (type-gives (λ mention. true) reader tidy.rightly at declared.ty)
      (gives-declarators at (seen_type reader declared.ty) declared.names locals))
      (λ pair is. tidied-let present bare declared.is_final pair.0.tree pair.1 is.1)

  -- ---- `super(..)`

  gives-super : (at : ℕ) (arity : ℕ) (args : Option (List IExpr)) → ((es : List IExpr) → args ≡ Some es → Values arity es)
      → Gives SuperNode (super_read reader at args (super_constructor reader.view reader.class arity))
  gives-super at arity args listed = by (super_constructor reader.view reader.class arity) refl where
    declares : (above : C) (declared : ViewDeclaration C M)
        → IsConstructorIn reader.view above arity (declared_constructor declared)
        → Contains reader.view.declarations declared × (declared.arity ≡ arity)
    declares above declared (IsConstructorIn.is_declared stands of) = (stands, of.takes)

    by : (f : Found (Constructor C M)) → super_constructor reader.view reader.class arity ≡ f
        → Gives SuperNode (super_read reader at args f)
    by (found (declared_constructor declared)) is =
        let above = (names_stand C M).super_constructors reader.view reader.class arity (declared_constructor declared)
        (answered ((names_answered C M).super_constructors reader.view reader.class arity tidy.rightly.ordered)
        (found (declared_constructor declared)) is) in
        let of = declares above.0 declared above.2 in
        gives-given (Values arity) SuperNode args _ listed (λ es are. gives-fine SuperNode _
        (tidied-Super present bare (reader.ids.method_id declared) (reader.ids.param_ids declared) es
        (tidy.calls declared of.0 es (are.as_many ∙ sym of.1)) are.each))
    by (found (default_constructor class)) is = gives-fine SuperNode (nodes.SuperDefault (reader.ids.class_id class))
        (tidied-SuperDefault present bare (reader.ids.class_id class))
    by outside is = gives-given (Values arity) SuperNode args _ listed
        (λ es are. gives-fine SuperNode (nodes.SuperOutside es) (tidied-SuperOutside present bare es are.each))
    by not_found is = gives-refused SuperNode unknown_member at

  gives-super_if : (in_constructor : Bool) (at : ℕ) (arity : ℕ) (args : Option (List IExpr))
      → ((es : List IExpr) → args ≡ Some es → Values arity es)
      → Gives SuperNode (super_if reader in_constructor at args (super_constructor reader.view reader.class arity))
  gives-super_if true at arity args listed = gives-super at arity args listed
  gives-super_if false at arity args listed = gives-refused SuperNode unknown_member at

  gives-super_init : (es : List Expr) (at : ℕ) (locals : Locals C) → Gives Node (mapped plain (beside (read_exprs reader locals es)
      (λ values. super_if reader reader.in_constructor at values (super_constructor reader.view reader.class (length es)))))
  gives-super_init es at locals = gives-mapped SuperNode Node plain _
      (gives-beside (Values (length es)) SuperNode (read_exprs reader locals es)
      (λ values. super_if reader reader.in_constructor at values (super_constructor reader.view reader.class (length es)))
      (gives-exprs locals es)
      (λ args listed. gives-super_if reader.in_constructor at (length es) args listed)) (λ n is. is)

  -- ---- headers of `for`

  gives-start : (at : ℕ) (start : ForStart) → GivesTo (StartTidied present bare) (read_start reader at start)
  gives-start at for_start.None locals = gives-fine (StartTidied present bare) starts.None refl
  gives-start at (for_start.Let declared) locals = gives-mapped (LetTidied present bare) (StartTidied present bare)
      (λ declared. starts.Let declared) (read_let reader at declared locals).outcome (gives-let at declared locals)
      (λ l is. ap starts.Let is)
  gives-start at (for_start.Do es) locals = gives-mapped (Values (length es)) (StartTidied present bare) (λ es. starts.Do es)
      (read_exprs reader locals es) (gives-exprs locals es) (λ read are. ap starts.Do (same-all present bare read are.each))

  -- ---- all statements

  abbrev else_reading : Else → ReadsTo C IElse
  else_reading = fold-Else (ReadsTo C IElse) (ℕ → ReadsTo C ReadNode) (ReadsTo C IBlock) (ReadsTo C ReadStatement)
      (statements.else_step reader) (statements.node_step reader) (statements.block_step reader) (statements.stmt_step reader)

  abbrev node_reading : StmtNode → ℕ → ReadsTo C ReadNode
  node_reading = fold-StmtNode (ReadsTo C IElse) (ℕ → ReadsTo C ReadNode) (ReadsTo C IBlock) (ReadsTo C ReadStatement)
      (statements.else_step reader) (statements.node_step reader) (statements.block_step reader) (statements.stmt_step reader)

  abbrev stmt_reading : Stmt → ReadsTo C ReadStatement
  stmt_reading = fold-Stmt (ReadsTo C IElse) (ℕ → ReadsTo C ReadNode) (ReadsTo C IBlock) (ReadsTo C ReadStatement)
      (statements.else_step reader) (statements.node_step reader) (statements.block_step reader) (statements.stmt_step reader)

  abbrev ElseTo : ReadsTo C IElse → Type 0
  ElseTo read = GivesTo (ElseTidied present bare) read

  abbrev NodeTo : (ℕ → ReadsTo C ReadNode) → Type 0
  NodeTo read = (at : ℕ) → GivesTo Node (read at)

  abbrev BlockTo : ReadsTo C IBlock → Type 0
  BlockTo read = GivesTo Inside read

  abbrev StmtTo : ReadsTo C ReadStatement → Type 0
  StmtTo read = GivesTo (StatementTidied present bare) read

  abbrev IsElse : Else → Type 0
  IsElse e = ElseTo (else_reading e)

  abbrev IsNode : StmtNode → Type 0
  IsNode n = NodeTo (node_reading n)

  abbrev IsBlock : Block → Type 0
  IsBlock b = BlockTo (block_reading reader b)

  abbrev IsStmt : Stmt → Type 0
  IsStmt s = StmtTo (stmt_reading s)

  abbrev WithElse : Type 0
  WithElse = (e : Else) × IsElse e

  abbrev WithNode : Type 0
  WithNode = (n : StmtNode) × IsNode n

  abbrev WithBlock : Type 0
  WithBlock = (b : Block) × IsBlock b

  abbrev WithStmt : Type 0
  WithStmt = (s : Stmt) × IsStmt s

  node-from : (x : StmtNode-F Else StmtNode Block Stmt)
      → NodeTo (statements.node_step reader (map-StmtNode _ _ _ _ _ _ _ _ else_reading node_reading (block_reading reader) stmt_reading x))
      → IsNode (roll-StmtNode x)
  node-from x = subst NodeTo
      (sym (fold-roll-StmtNode (ReadsTo C IElse) (ℕ → ReadsTo C ReadNode) (ReadsTo C IBlock) (ReadsTo C ReadStatement)
      (statements.else_step reader) (statements.node_step reader) (statements.block_step reader) (statements.stmt_step reader) x))

  node_tidied : (y : StmtNode-F WithElse WithNode WithBlock WithStmt)
      → IsNode (roll-StmtNode (map-StmtNode _ _ _ _ _ _ _ _ (λ p. p.0) (λ p. p.0) (λ p. p.0) (λ p. p.0) y))
  node_tidied (StmtNode-F.StmtNode::Block b) = node-from (StmtNode-F.StmtNode::Block b.0) (λ at locals.
      gives-mapped Inside Node _ (block_reading reader b.0 locals).outcome (b.1 locals) (λ block is. tidied-Block present bare block is))
  node_tidied (StmtNode-F.Let declared) = node-from (StmtNode-F.Let declared) (λ at locals.
      gives-mapped (LetTidied present bare) Node _ (read_let reader at declared locals).outcome (gives-let at declared locals)
      (λ l is. tidied-Let present bare l is))
  node_tidied (StmtNode-F.Do e) = node-from (StmtNode-F.Do e) (λ at locals.
      gives-mapped Line Node _ (read_expr reader locals e) (gives-line locals e) (λ read is. tidied-Do present bare read is))
  node_tidied (StmtNode-F.StmtNode::If e b rest) = node-from (StmtNode-F.StmtNode::If e b.0 rest.0) (λ at locals.
      gives-mapped (λ (parts : (IExpr × IBlock) × IElse). (Line parts.0.0 × Inside parts.0.1) × ElseTidied present bare parts.1) Node _ _
      (gives-both (λ (parts : IExpr × IBlock). Line parts.0 × Inside parts.1) (ElseTidied present bare) _ _
      (gives-both Line Inside (read_expr reader locals e) _ (gives-line locals e) (b.1 locals)) (rest.1 _))
      (λ parts is. tidied-If present bare parts.0.0 parts.0.1 parts.1 is.0.0 is.0.1 is.1))
  node_tidied (StmtNode-F.While e b) = node-from (StmtNode-F.While e b.0) (λ at locals.
      gives-mapped (λ (parts : IExpr × IBlock). Line parts.0 × Inside parts.1) Node _ _
      (gives-both Line Inside (read_expr reader locals e) _ (gives-line locals e) (b.1 locals))
      (λ parts is. tidied-While present bare parts.0 parts.1 is.0 is.1))
  node_tidied (StmtNode-F.For start e steps b) = node-from (StmtNode-F.For start e steps b.0) (λ at locals.
      gives-mapped (λ (parts : (IForStart × (Option IExpr × List IExpr)) × IBlock).
      (StartTidied present bare parts.0.0 × (Maybe parts.0.1.0 × Values (length steps) parts.0.1.1)) × Inside parts.1) Node _ _
      (gives-both (λ (parts : IForStart × (Option IExpr × List IExpr)).
      StartTidied present bare parts.0 × (Maybe parts.1.0 × Values (length steps) parts.1.1)) Inside _ _
      (gives-both (StartTidied present bare) (λ (parts : Option IExpr × List IExpr). Maybe parts.0 × Values (length steps) parts.1)
      (read_start reader at start locals).outcome _ (gives-start at start locals)
      (gives-both Maybe (Values (length steps)) _ _ (gives-maybe _ e) (gives-exprs _ steps)))
      (b.1 _))
      (λ parts is. tidied-For present bare parts.0.0 parts.0.1.0 parts.0.1.1 parts.1 is.0.0 is.0.1.0 is.0.1.1.each is.1))
  node_tidied (StmtNode-F.Each is_final type name e b) = node-from (StmtNode-F.Each is_final type name e b.0) (λ at locals.
      gives-mapped (λ (parts : (ReadType C × IExpr) × IBlock).
      (IsReadRightly (λ mention. true) reader tidy.rightly type parts.0.0 × Line parts.0.1) × Inside parts.1) Node _ _
      (gives-both (λ (parts : ReadType C × IExpr). IsReadRightly (λ mention. true) reader tidy.rightly type parts.0 × Line parts.1)
      Inside _ _
      (gives-both (IsReadRightly (λ mention. true) reader tidy.rightly type) Line (read_type reader at type) (read_expr reader locals e)
      (type-gives (λ mention. true) reader tidy.rightly at type) (gives-line locals e))
      (gives-with_faults Inside (redeclared_faults reader at name locals) _ (b.1 _)))
      (λ parts is. tidied-Each present bare is_final parts.0.0.tree name parts.0.1 parts.1 is.0.1 is.1))
  node_tidied (StmtNode-F.Return e) = node-from (StmtNode-F.Return e) (λ at locals.
      gives-mapped Maybe Node _ (read_maybe reader locals e) (gives-maybe locals e) (λ read is. tidied-Return present bare read is))
  node_tidied (StmtNode-F.Throw e) = node-from (StmtNode-F.Throw e) (λ at locals.
      gives-mapped Line Node _ (read_expr reader locals e) (gives-line locals e) (λ read is. tidied-Throw present bare read is))
  node_tidied StmtNode-F.Break = node-from StmtNode-F.Break (λ at locals. gives-fine Node (plain nodes.Break) (tidied-Break present bare))
  node_tidied StmtNode-F.Continue = node-from StmtNode-F.Continue (λ at locals.
      gives-fine Node (plain nodes.Continue) (tidied-Continue present bare))
  node_tidied StmtNode-F.Empty = node-from StmtNode-F.Empty (λ at locals. gives-fine Node (plain nodes.Empty) (tidied-Empty present bare))
  node_tidied (StmtNode-F.SuperInit args) = node-from (StmtNode-F.SuperInit args) (λ at locals. gives-super_init args at locals)

  else-from : (x : Else-F Else StmtNode Block Stmt)
      → ElseTo (statements.else_step reader (map-Else _ _ _ _ _ _ _ _ else_reading node_reading (block_reading reader) stmt_reading x))
      → IsElse (roll-Else x)
  else-from x = subst ElseTo
      (sym (fold-roll-Else (ReadsTo C IElse) (ℕ → ReadsTo C ReadNode) (ReadsTo C IBlock) (ReadsTo C ReadStatement)
      (statements.else_step reader) (statements.node_step reader) (statements.block_step reader) (statements.stmt_step reader) x))

  else_tidied : (y : Else-F WithElse WithNode WithBlock WithStmt)
      → IsElse (roll-Else (map-Else _ _ _ _ _ _ _ _ (λ p. p.0) (λ p. p.0) (λ p. p.0) (λ p. p.0) y))
  else_tidied Else-F.None = else-from Else-F.None (λ locals.
      gives-fine (ElseTidied present bare) elses.None (tidied-no_else present bare))
  else_tidied (Else-F.Else::Block b) = else-from (Else-F.Else::Block b.0) (λ locals.
      gives-mapped Inside (ElseTidied present bare) (λ block. elses.Block block) (block_reading reader b.0 locals).outcome (b.1 locals)
      (λ block is. tidied-else_block present bare block is))
  else_tidied (Else-F.Else::If s) = else-from (Else-F.Else::If s.0) (λ locals.
      gives-mapped (StatementTidied present bare) (ElseTidied present bare) (else_of reader) (stmt_reading s.0 locals).outcome (s.1 locals)
      (λ read is. tidied-else present bare reader read is))

  abbrev trees : List WithStmt → List Stmt
  trees ss = map (λ p. p.0) ss

  gives-items : (ss : List WithStmt) → GivesTo (ItemsTidied present bare) (each (map stmt_reading (trees ss)))
  gives-items [] locals = gives-fine (ItemsTidied present bare) [] (tt {0})
  gives-items (s ∷ ss) locals = gives-mapped
      (λ (pair : ReadStatement × List ReadStatement). StatementTidied present bare pair.0 × ItemsTidied present bare pair.1)
      (ItemsTidied present bare) put_first _
      (gives-both (StatementTidied present bare) (ItemsTidied present bare) (stmt_reading s.0 locals).outcome _
      (s.1 locals) (gives-items ss (stmt_reading s.0 locals).locals))
      (λ pair is. is)

  block_tidied : (y : Block-F WithElse WithNode WithBlock WithStmt) → IsBlock (blocks.block_of (trees y.items) y.tail)
  block_tidied y = subst BlockTo
      (sym (fold-roll-Block (ReadsTo C IElse) (ℕ → ReadsTo C ReadNode) (ReadsTo C IBlock) (ReadsTo C ReadStatement)
      (statements.else_step reader) (statements.node_step reader) (statements.block_step reader) (statements.stmt_step reader)
      (record { items = trees y.items; tail = y.tail })))
      (λ locals. gives-mapped (ItemsTidied present bare) Inside _ (each (map stmt_reading (trees y.items)) locals).outcome
      (gives-items y.items locals)
      (λ reads are. tidied-block present bare (map (λ (read : ReadStatement). read.statement) reads) y.tail
      (same-items present bare reads are)))

  stmt_tidied : (y : Stmt-F WithElse WithNode WithBlock WithStmt) → IsStmt (record { notes = y.notes; at = y.at; node = y.node.0 })
  stmt_tidied y = subst StmtTo
      (sym (fold-roll-Stmt (ReadsTo C IElse) (ℕ → ReadsTo C ReadNode) (ReadsTo C IBlock) (ReadsTo C ReadStatement)
      (statements.else_step reader) (statements.node_step reader) (statements.block_step reader) (statements.stmt_step reader)
      (record { notes = y.notes; at = y.at; node = y.node.0 })))
      (λ locals. gives-mapped Node (StatementTidied present bare) (statement_of y.notes) (node_reading y.node.0 y.at locals).outcome
      (y.node.1 y.at locals) (λ read is. tidied-statement present bare y.notes read is))

  all_tidied : (b : Block) → IsBlock b
  all_tidied = ind-Block IsElse IsNode IsBlock IsStmt
      (λ x y is. subst (λ z. IsElse (roll-Else z)) is (else_tidied y))
      (λ x y is. subst (λ z. IsNode (roll-StmtNode z)) is (node_tidied y))
      (λ x y is. subst (λ z. IsBlock (roll-Block z)) is (block_tidied y))
      (λ x y is. subst (λ z. IsStmt (roll-Stmt z)) is (stmt_tidied y))

  -- ---- what members hold

  pub gives-initial : (init : Option Expr) → Gives Maybe (read_initial reader init)
  gives-initial init = gives-maybe no_locals init

  pub gives-body : (block : Block) → Gives (λ (body : IBody). Inside body.block) (read_body reader block)
  gives-body block = gives-mapped Inside (λ (body : IBody). Inside body.block) _ (block_reading reader block no_locals).outcome
      (all_tidied block no_locals) (λ read is. is)
