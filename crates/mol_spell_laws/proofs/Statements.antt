-- Statements of a program that have their forms, and mention what is known, are written as trees that are printable, and what they
-- name may be imported.
use Rattle.std.proofs.Common.{◌≡◌, ℕ, Bool, true, false, List, [], ◌∷◌, ◌++◌, map, length, drop, codes, Option, refl, sym, ◌∙◌, ap, subst, true≢false}
use Rattle.std.specs.Prelude.{◌&&◌, ◌||◌, not}
use Rattle.std.specs.List.{list_all}
use Rattle.std.proofs.lemmas.Bool.{and_parts}
use Rattle.mol_base.specs.declared.ident.Id.{Id}
use Rattle.mol_spell_rules.specs.references.References.{Target, method_target, default_target, outside_target}
use Rattle.jav_tree.specs.PrintableExpressions.{TypeUses}
use Rattle.jav_tree.specs.PrintableStatements.{is_value}
use Rattle.jav_tree.specs.TokenTexts.{is_name, are_comments}
use Rattle.jav_names.specs.DottedNames.{Name, Names}
use Rattle.mol_resolve_rules.specs.ProgramViews.{seen}
use Rattle.mol_spell_rules.specs.SpelledStatements.{SpelledPart, Spells, mapped, then_next, each, super_part, header, one_expr, exprs, declared_type, declaring, else_step, node_step, if_step, stmt_step, block_step}
use Rattle.mol_spell_rules.specs.SpelledExpressions.{plain}
use Rattle.mol_spell_rules.specs.Writers.{Writer, super_constructor_asked, Reference}
use Rattle.mol_table_rules.specs.ExpressionForms.{shape_of, are_arguments, is_expression, is_statement}
use Rattle.mol_table_rules.specs.Mentions as mention
use Rattle.mol_table_rules.specs.Mentions.{Mention, a_class, a_constructor, named, joined, type_mentions, expr_mentions, exprs_mentions, arguments_mentions, maybe_mentions, start_mentions, block_mentions}
use Rattle.mol_table_rules.specs.Rules.{IsProgram}
use Rattle.mol_table_rules.specs.StatementForms as forms
use Rattle.mol_table_rules.specs.StatementForms.{StatementShape, BlockShape, is_maybe, is_start, are_formed, has_super, block_shape}
use Rattle.mol_table_rules.specs.TypeForms.{is_type}
use Rattle.mol_values_types.specs.declared.iblock.IBlock.{IBlock}
use Rattle.mol_values_types.specs.declared.iblock.IElse.{IElse}
use Rattle.mol_values_types.specs.declared.iblock.IElse.TheFolds.{map-IElse, map-IStmtNode, ind-IBlock}
use Rattle.mol_values_types.specs.declared.iblock.IElse.TheOpen.{IElse-F, IStmtNode-F, IBlock-F, IIf-F, IStmt-F}
use Rattle.mol_values_types.specs.declared.iblock.IElse.TheViews.{roll-IElse, roll-IStmtNode, roll-IBlock, roll-IIf, roll-IStmt}
use Rattle.mol_values_types.specs.declared.iblock.IForStart.{IForStart}
use Rattle.mol_values_types.specs.declared.iblock.IIf.{IIf}
use Rattle.mol_values_types.specs.declared.iblock.IStmt.{IStmt}
use Rattle.mol_values_types.specs.declared.iblock.IStmtNode.{IStmtNode}
use Rattle.mol_values_types.specs.declared.iexpr.Argument.{Argument}
use Rattle.mol_values_types.specs.declared.iexpr.IExpr.{IExpr}
use Rattle.mol_values_types.specs.declared.itype.IType.{IType}
use Rattle.mol_spell_laws.proofs.StatementFolds.{else_shape, node_shape, if_shape, stmt_shape, else-shape-is, node-shape-is, block-shape-is, if-shape-is, stmt-shape-is, Mentions, else_mentions, node_mentions, if_mentions, stmt_mentions, else-mentions-are, node-mentions-are, block-mentions-are, if-mentions-are, stmt-mentions-are, SElse, SNode, SBlock, SStmt, of_else, of_node, of_block, of_if, of_stmt, else-written, node-written, block-written, if-written, stmt-written}
use Rattle.mol_spell_laws.proofs.StatementParts as parts
use Rattle.mol_spell_laws.proofs.StatementTrees.{ValueFits, EffectsFit, MaybeFits, StartFits, BlockFits, BodyFits, ElseFits, NodeFits, ChoiceFits, LineFits, LinesFit, BodyLinesFit, fits-Block, fits-Let, fits-Do, fits-If, fits-While, fits-For, fits-Each, fits-Return, fits-Throw, fits-Break, fits-Continue, fits-Empty, fits-SuperInit, fits-no-else, fits-else-block, fits-else-if, fits-stmt, no-lines, more-lines, no-body-lines, first-line, fits-block, fits-body}
use Rattle.mol_spell_laws.proofs.TypeTrees.{are_uses, both-use, are_known, both-known}

module _ (writer : Writer) (rules : IsProgram writer.program) (owner : Id) where
  abbrev all : List Mention → Bool
  all = are_known writer.program owner

  abbrev uses : List Reference → Bool
  uses = are_uses writer.program

  abbrev Written : {A : Type 0} → (A → Type 0) → SpelledPart A → Type 0
  Written holds part = parts.Written writer rules owner holds part

  abbrev Writes : {A : Type 0} → (A → Type 0) → Spells A → Type 0
  Writes holds part = parts.Writes writer rules owner holds part

  changed : {A B : Type 0} {P : A → Type 0} {Q : B → Type 0} (make : A → B) {part : SpelledPart A} → ((a : A) → P a → Q (make a))
      → Written P part → Written Q (mapped make part)
  changed {P = P} {Q = Q} make {part = part} gives written = parts.write-mapped writer rules owner P Q make gives part written

  next : {A B : Type 0} {P : A → Type 0} {Q : B → Type 0} {first : SpelledPart A} {then : Spells B} → Written P first → Writes Q then
      → Written (λ parts. P parts.0 × Q parts.1) (then_next first then)
  next {P = P} {Q = Q} {first = first} {then = then} written writes = parts.write-next writer rules owner P Q first then written writes

  abbrev to_else : IElse → SElse
  to_else = of_else writer

  abbrev to_node : IStmtNode → SNode
  to_node = of_node writer

  abbrev to_block : IBlock → SBlock
  to_block = of_block writer

  abbrev to_if : IIf → SNode
  to_if = of_if writer

  abbrev to_stmt : IStmt → SStmt
  to_stmt = of_stmt writer

  -- ---- what is proved, where a part has its form and mentions what is known

  abbrev ElseClaim : Bool → Mentions → SElse → Type 0
  ElseClaim formed mentions part = formed ≡ true → all mentions ≡ true → Writes ElseFits part

  abbrev NodeClaim : StatementShape → Mentions → SNode → Type 0
  NodeClaim shape mentions part = shape.formed ≡ true → all mentions ≡ true → Writes (NodeFits shape.is_super) part

  abbrev BlockClaim : BlockShape → Mentions → SBlock → Type 0
  BlockClaim shape mentions part =
      all mentions ≡ true → (shape.formed ≡ true → Writes BlockFits part) × (shape.body ≡ true → Writes BodyFits part)

  abbrev IfClaim : Bool → Mentions → SNode → Type 0
  IfClaim formed mentions part = formed ≡ true → all mentions ≡ true → Writes ChoiceFits part

  abbrev StmtClaim : StatementShape → Mentions → SStmt → Type 0
  StmtClaim shape mentions part = shape.formed ≡ true → all mentions ≡ true → Writes (LineFits shape.is_super) part

  abbrev ElseRight : IElse → Type 0
  ElseRight e = ElseClaim (else_shape e) (else_mentions e) (to_else e)

  abbrev NodeRight : IStmtNode → Type 0
  NodeRight n = NodeClaim (node_shape n) (node_mentions n) (to_node n)

  abbrev BlockRight : IBlock → Type 0
  BlockRight b = BlockClaim (block_shape b) (block_mentions b) (to_block b)

  abbrev IfRight : IIf → Type 0
  IfRight i = IfClaim (if_shape i) (if_mentions i) (to_if i)

  abbrev StmtRight : IStmt → Type 0
  StmtRight s = StmtClaim (stmt_shape s) (stmt_mentions s) (to_stmt s)

  abbrev WithElse : Type 0
  WithElse = (e : IElse) × ElseRight e

  abbrev WithNode : Type 0
  WithNode = (n : IStmtNode) × NodeRight n

  abbrev WithBlock : Type 0
  WithBlock = (b : IBlock) × BlockRight b

  abbrev WithIf : Type 0
  WithIf = (i : IIf) × IfRight i

  abbrev WithStmt : Type 0
  WithStmt = (s : IStmt) × StmtRight s

  -- ---- what follows `else`

  else-from : (x : IElse-F IElse IStmtNode IBlock IIf IStmt)
      → ElseClaim (forms.else_step (map-IElse _ _ _ _ _ _ _ _ _ _ else_shape node_shape block_shape if_shape stmt_shape x))
      (mention.else_step (map-IElse _ _ _ _ _ _ _ _ _ _ else_mentions node_mentions block_mentions if_mentions stmt_mentions x))
      (else_step writer (map-IElse _ _ _ _ _ _ _ _ _ _ to_else to_node to_block to_if to_stmt x))
      → ElseRight (roll-IElse x)
  else-from x claim = rw (else-shape-is x, else-mentions-are x, else-written writer x) claim

  else-layer : (y : IElse-F WithElse WithNode WithBlock WithIf WithStmt)
      → ElseRight (roll-IElse (map-IElse _ _ _ _ _ _ _ _ _ _ (λ p. p.0) (λ p. p.0) (λ p. p.0) (λ p. p.0) (λ p. p.0) y))
  else-layer IElse-F.None = else-from IElse-F.None (λ formed are locals named. record { tree = fits-no-else; names = refl; locals = named })
  else-layer (IElse-F.IElse::Block b) = else-from (IElse-F.IElse::Block b.0)
      (λ formed are locals named. changed _ fits-else-block ((b.1 are).0 formed locals named))
  else-layer (IElse-F.IElse::If i) = else-from (IElse-F.IElse::If i.0)
      (λ formed are locals named. changed _ fits-else-if (i.1 formed are locals named))

  -- ---- statements

  node-from : (x : IStmtNode-F IElse IStmtNode IBlock IIf IStmt)
      → NodeClaim (forms.node_step (map-IStmtNode _ _ _ _ _ _ _ _ _ _ else_shape node_shape block_shape if_shape stmt_shape x))
      (mention.node_step (map-IStmtNode _ _ _ _ _ _ _ _ _ _ else_mentions node_mentions block_mentions if_mentions stmt_mentions x))
      (node_step writer (map-IStmtNode _ _ _ _ _ _ _ _ _ _ to_else to_node to_block to_if to_stmt x))
      → NodeRight (roll-IStmtNode x)
  node-from x claim = rw (node-shape-is x, node-mentions-are x, node-written writer x) claim

  for-writes : (start : IForStart) (test : Option IExpr) (steps : List IExpr) (b : WithBlock)
      → (is_start start && is_maybe test && list_all is_statement steps && (block_shape b.0).formed) ≡ true
      → all (start_mentions start ++ maybe_mentions test ++ exprs_mentions steps ++ block_mentions b.0) ≡ true
      → Writes (NodeFits false) (node_step writer (IStmtNode-F.For start test steps (to_block b.0)))
  for-writes start test steps b formed are locals named =
      let last = and_parts (is_start start && is_maybe test && list_all is_statement steps) (block_shape b.0).formed formed in
      let middle = and_parts (is_start start && is_maybe test) (list_all is_statement steps) last.0 in
      let front = and_parts (is_start start) (is_maybe test) middle.0 in
      let four = both-known writer.program owner (start_mentions start ++ maybe_mentions test ++ exprs_mentions steps)
      (block_mentions b.0) are in
      let three = both-known writer.program owner (start_mentions start ++ maybe_mentions test) (exprs_mentions steps) four.0 in
      let two = both-known writer.program owner (start_mentions start) (maybe_mentions test) three.0 in
      let all = changed {P = λ p. StartFits p.0 × ((MaybeFits is_value p.1.0.0 × EffectsFit p.1.0.1) × BlockFits p.1.1)}
      {Q = NodeFits false} _ (λ p fits. fits-For p.0 p.1.0.0 p.1.0.1 p.1.1 fits.0 fits.1.0.0 fits.1.0.1 fits.1.1)
      (next (parts.write-start writer rules owner start front.0 two.0 locals named)
      (λ inside named. next {first = header writer test steps inside} (next
      (parts.write-maybe writer rules owner test front.1 two.1 inside named)
      (parts.write-effects writer rules owner steps middle.1 three.1)) ((b.1 four.1).0 last.1))) in
      record { tree = all.tree; names = all.names; locals = all.locals }

  each-writes : (is_final : Bool) (type : IType) (name : Name) (e : IExpr) (b : WithBlock)
      → (is_type type && is_name name && is_expression e && (block_shape b.0).formed) ≡ true
      → all (type_mentions type ++ expr_mentions e ++ block_mentions b.0) ≡ true
      → Writes (NodeFits false) (node_step writer (IStmtNode-F.Each is_final type name e (to_block b.0)))
  each-writes is_final type name e b formed are locals named =
      let last = and_parts (is_type type && is_name name && is_expression e) (block_shape b.0).formed formed in
      let middle = and_parts (is_type type && is_name name) (is_expression e) last.0 in
      let front = and_parts (is_type type) (is_name name) middle.0 in
      let three = both-known writer.program owner (type_mentions type ++ expr_mentions e) (block_mentions b.0) are in
      let two = both-known writer.program owner (type_mentions type) (expr_mentions e) three.0 in
      let typed = parts.type-here writer rules owner type front.0 two.0 locals in
      let value = parts.write-value writer rules owner e middle.1 two.1 locals named in
      let inside = declaring writer (seen type) name locals in
      let block = (b.1 three.1).0 last.1 inside (parts.declared-named writer rules owner (seen type) name locals named front.1) in
      record {
        tree = fits-Each is_final (declared_type writer locals type).tree name (one_expr writer e locals).tree (to_block b.0 inside).tree
            (ap (λ (u : TypeUses). u.is_type) typed.uses)
            (parts.narrow-here writer rules owner type front.0 locals typed) front.1 value.tree
            block.tree;
        names = both-use writer.program ((declared_type writer locals type).references ++ (one_expr writer e locals).references)
            (to_block b.0 inside).references (both-use writer.program (declared_type writer locals type).references
            (one_expr writer e locals).references typed.names value.names) block.names;
        locals = block.locals;
      }

  -- of an argument the value
  value-shapes : (args : List Argument)
      → map (λ (argument : Argument). shape_of argument.value) args ≡ map shape_of (map (λ (argument : Argument). argument.value) args)
  value-shapes [] = refl
  value-shapes (a ∷ args) = ap (λ rest. shape_of a.value ∷ rest) (value-shapes args)

  value-mentions : (args : List Argument) → arguments_mentions args ≡ exprs_mentions (map (λ (argument : Argument). argument.value) args)
  value-mentions [] = refl
  value-mentions (a ∷ args) = ap (λ rest. expr_mentions a.value ++ rest) (value-mentions args)

  super-writes : (target : Target) (arity : ℕ) (es : List IExpr) → are_arguments (map shape_of es) ≡ true → all (exprs_mentions es) ≡ true
      → Writes (NodeFits true) (λ locals. super_part writer (plain writer locals target (super_constructor_asked arity) ∷ []) es locals)
  super-writes target arity es arguments are locals named =
      let fits = parts.write-arguments writer rules owner es arguments are locals named in
      record {
        tree = fits-SuperInit (exprs writer es locals).tree fits.tree;
        names = fits.names;
        locals = named;
      }

  node-layer : (y : IStmtNode-F WithElse WithNode WithBlock WithIf WithStmt)
      → NodeRight (roll-IStmtNode (map-IStmtNode _ _ _ _ _ _ _ _ _ _ (λ p. p.0) (λ p. p.0) (λ p. p.0) (λ p. p.0) (λ p. p.0) y))
  node-layer (IStmtNode-F.IStmtNode::Block b) = node-from (IStmtNode-F.IStmtNode::Block b.0)
      (λ formed are locals named. changed _ fits-Block ((b.1 are).0 formed locals named))
  node-layer (IStmtNode-F.Let declared) = node-from (IStmtNode-F.Let declared)
      (λ formed are locals named. changed _ fits-Let (parts.write-let writer rules owner declared formed are locals named))
  node-layer (IStmtNode-F.Do e) = node-from (IStmtNode-F.Do e)
      (λ formed are locals named. changed _ fits-Do (parts.write-effect writer rules owner e formed are locals named))
  node-layer (IStmtNode-F.IStmtNode::If i) = node-from (IStmtNode-F.IStmtNode::If i.0)
      (λ formed are locals named.
      let fits = i.1 formed are locals named in record { tree = fits.tree.node; names = fits.names; locals = fits.locals })
  node-layer (IStmtNode-F.While test b) = node-from (IStmtNode-F.While test b.0) (λ formed are locals named.
      let form = and_parts (is_expression test) (block_shape b.0).formed formed in
      let mentioned = both-known writer.program owner (expr_mentions test) (block_mentions b.0) are in
      changed {P = λ p. ValueFits p.0 × BlockFits p.1} {Q = NodeFits false} _ (λ p fits. fits-While p.0 p.1 fits.0 fits.1)
      (next (parts.write-value writer rules owner test form.0 mentioned.0 locals named) ((b.1 mentioned.1).0 form.1)))
  node-layer (IStmtNode-F.For start test steps b) = node-from (IStmtNode-F.For start test steps b.0) (for-writes start test steps b)
  node-layer (IStmtNode-F.Each is_final type name e b) =
      node-from (IStmtNode-F.Each is_final type name e b.0) (each-writes is_final type name e b)
  node-layer (IStmtNode-F.Return e) = node-from (IStmtNode-F.Return e)
      (λ formed are locals named. changed _ fits-Return (parts.write-maybe writer rules owner e formed are locals named))
  node-layer (IStmtNode-F.Throw e) = node-from (IStmtNode-F.Throw e)
      (λ formed are locals named. changed _ fits-Throw (parts.write-value writer rules owner e formed are locals named))
  node-layer IStmtNode-F.Break = node-from IStmtNode-F.Break
      (λ formed are locals named. record { tree = fits-Break; names = refl; locals = named })
  node-layer IStmtNode-F.Continue =
      node-from IStmtNode-F.Continue (λ formed are locals named. record { tree = fits-Continue; names = refl; locals = named })
  node-layer IStmtNode-F.Empty = node-from IStmtNode-F.Empty
      (λ formed are locals named. record { tree = fits-Empty; names = refl; locals = named })
  node-layer (IStmtNode-F.Super constructor args) = node-from (IStmtNode-F.Super constructor args) (λ formed are locals named.
      let mentioned = both-known writer.program owner (mention.named a_constructor constructor) (arguments_mentions args) are in
      super-writes (method_target constructor) (length args) (map (λ (argument : Argument). argument.value) args)
      (sym (ap are_arguments (value-shapes args)) ∙ formed)
      (sym (ap all (value-mentions args)) ∙ mentioned.1) locals named)
  node-layer (IStmtNode-F.SuperDefault class) =
      node-from (IStmtNode-F.SuperDefault class) (λ formed are locals named. super-writes
      (default_target class) 0 [] refl refl locals named)
  node-layer (IStmtNode-F.SuperOutside args) =
      node-from (IStmtNode-F.SuperOutside args) (λ formed are locals named. super-writes (outside_target (codes "super"))
      (length args) args formed are locals named)

  -- ---- blocks

  abbrev statements : List WithStmt → List IStmt
  statements items = map (λ p. p.0) items

  lines-write : (items : List WithStmt) → are_formed (map stmt_shape (statements items)) ≡ true
      → not (has_super (map stmt_shape (statements items))) ≡ true → all (joined (map stmt_mentions (statements items))) ≡ true
      → Writes LinesFit (each (map to_stmt (statements items)))
  lines-write [] formed none are locals named = record { tree = no-lines; names = refl; locals = named }
  lines-write (s ∷ items) formed none are locals named =
      let form = and_parts (stmt_shape s.0).formed (are_formed (map stmt_shape (statements items))) formed in
      let mentioned = both-known writer.program owner (stmt_mentions s.0) (joined (map stmt_mentions (statements items))) are in
      let neither = none_of (stmt_shape s.0).is_super (has_super (map stmt_shape (statements items))) none in
      let first = s.1 form.0 mentioned.0 locals named in
      let rest = lines-write items form.1 neither.1 mentioned.1 (to_stmt s.0 locals).locals first.locals in
      record {
        tree = more-lines (to_stmt s.0 locals).tree (each (map to_stmt (statements items)) (to_stmt s.0 locals).locals).tree
            (subst (λ (is_super : Bool). LineFits is_super (to_stmt s.0 locals).tree) neither.0 first.tree) rest.tree;
        names = both-use writer.program (to_stmt s.0 locals).references
            (each (map to_stmt (statements items)) (to_stmt s.0 locals).locals).references first.names rest.names;
        locals = rest.locals;
      }
    where
      none_of : (a b : Bool) → not (a || b) ≡ true → (a ≡ false) × (not b ≡ true)
      none_of true b is = absurd (true≢false (sym is))
      none_of false b is = (refl, is)

  body-writes : (items : List WithStmt) → are_formed (map stmt_shape (statements items)) ≡ true
      → not (has_super (drop 1 (map stmt_shape (statements items)))) ≡ true → all (joined (map stmt_mentions (statements items))) ≡ true
      → Writes BodyLinesFit (each (map to_stmt (statements items)))
  body-writes [] formed none are locals named = record { tree = no-body-lines; names = refl; locals = named }
  body-writes (s ∷ items) formed none are locals named =
      let form = and_parts (stmt_shape s.0).formed (are_formed (map stmt_shape (statements items))) formed in
      let mentioned = both-known writer.program owner (stmt_mentions s.0) (joined (map stmt_mentions (statements items))) are in
      let first = s.1 form.0 mentioned.0 locals named in
      let rest = lines-write items form.1 none mentioned.1 (to_stmt s.0 locals).locals first.locals in
      record {
        tree = first-line (stmt_shape s.0).is_super (to_stmt s.0 locals).tree
            (each (map to_stmt (statements items)) (to_stmt s.0 locals).locals).tree first.tree rest.tree;
        names = both-use writer.program (to_stmt s.0 locals).references
            (each (map to_stmt (statements items)) (to_stmt s.0 locals).locals).references first.names rest.names;
        locals = rest.locals;
      }

  block-layer : (items : List WithStmt) (tail : Names) → BlockRight (roll-IBlock (record { items = statements items; tail = tail }))
  block-layer items tail = rw (block-shape-is block, block-mentions-are block, block-written writer block) claim where
    block : IBlock-F IElse IStmtNode IBlock IIf IStmt
    block = record { items = statements items; tail = tail }

    shapes : List StatementShape
    shapes = map stmt_shape (statements items)

    claim : BlockClaim (forms.block_step (record { items = map stmt_shape (statements items); tail = tail }))
        (mention.block_step (record { items = map stmt_mentions (statements items); tail = tail }))
        (block_step writer (record { items = map to_stmt (statements items); tail = tail }))
    claim are = (
      λ formed locals named.
          let last = and_parts (are_formed shapes && are_comments tail) (not (has_super shapes)) formed in
          let form = and_parts (are_formed shapes) (are_comments tail) last.0 in
          let fits = lines-write items form.0 last.1 are locals named in
          record {
            tree = fits-block (each (map to_stmt (statements items)) locals).tree tail fits.tree form.1;
            names = fits.names;
            locals = fits.locals;
          },
      λ formed locals named.
          let last = and_parts (are_formed shapes && are_comments tail) (not (has_super (drop 1 shapes))) formed in
          let form = and_parts (are_formed shapes) (are_comments tail) last.0 in
          let fits = body-writes items form.0 last.1 are locals named in
          record {
            tree = fits-body (each (map to_stmt (statements items)) locals).tree tail fits.tree form.1;
            names = fits.names;
            locals = fits.locals;
          },
    )

  if-layer : (test : IExpr) (then : WithBlock) (rest : WithElse)
      → IfRight (roll-IIf (record { test = test; then = then.0; rest = rest.0 }))
  if-layer test then rest = rw (if-shape-is branch, if-mentions-are branch, if-written writer branch) claim where
    branch : IIf-F IElse IStmtNode IBlock IIf IStmt
    branch = record { test = test; then = then.0; rest = rest.0 }

    claim : IfClaim (is_expression test && (block_shape then.0).formed && else_shape rest.0)
        (expr_mentions test ++ block_mentions then.0 ++ else_mentions rest.0)
        (if_step writer (record { test = test; then = to_block then.0; rest = to_else rest.0 }))
    claim formed are locals named =
        let last = and_parts (is_expression test && (block_shape then.0).formed) (else_shape rest.0) formed in
        let form = and_parts (is_expression test) (block_shape then.0).formed last.0 in
        let three = both-known writer.program owner (expr_mentions test ++ block_mentions then.0) (else_mentions rest.0) are in
        let two = both-known writer.program owner (expr_mentions test) (block_mentions then.0) three.0 in
        changed {P = λ p. (ValueFits p.0.0 × BlockFits p.0.1) × ElseFits p.1} {Q = ChoiceFits} _
        (λ p fits. fits-If p.0.0 p.0.1 p.1 fits.0.0 fits.0.1 fits.1)
        (next (next (parts.write-value writer rules owner test form.0 two.0 locals named) ((then.1 two.1).0 form.1))
        (rest.1 last.1 three.1))

  statement-layer : (notes : Names) (node : WithNode) → StmtRight (roll-IStmt (record { notes = notes; node = node.0 }))
  statement-layer notes node = rw (stmt-shape-is statement, stmt-mentions-are statement, stmt-written writer statement) claim where
    statement : IStmt-F IElse IStmtNode IBlock IIf IStmt
    statement = record { notes = notes; node = node.0 }

    claim : StmtClaim (forms.statement_step (record { notes = notes; node = node_shape node.0 }))
        (node_mentions node.0) (stmt_step writer (record { notes = notes; node = to_node node.0 }))
    claim formed are locals named =
        let form = and_parts (are_comments notes) (node_shape node.0).formed formed in
        changed _ (λ n fits. fits-stmt (node_shape node.0).is_super notes n form.0 fits) (node.1 form.1 are locals named)

  pub block-right : (b : IBlock) → BlockRight b
  block-right = ind-IBlock ElseRight NodeRight BlockRight IfRight StmtRight
      (λ x y is. subst (λ z. ElseRight (roll-IElse z)) is (else-layer y))
      (λ x y is. subst (λ z. NodeRight (roll-IStmtNode z)) is (node-layer y))
      (λ x y is. subst (λ z. BlockRight (roll-IBlock z)) is (block-layer y.items y.tail))
      (λ x y is. subst (λ z. IfRight (roll-IIf z)) is (if-layer y.test y.then y.rest))
      (λ x y is. subst (λ z. StmtRight (roll-IStmt z)) is (statement-layer y.notes y.node))
