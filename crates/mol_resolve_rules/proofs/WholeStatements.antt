-- What a body reads as has a value where it has no fault.
use Rattle.std.proofs.Common.{◌≡◌, ◌⊎◌, inl, inr, ℕ, Bool, true, false, List, [], ◌∷◌, map, length, Option, Some, None, Contains, refl, sym, ◌∙◌, ap, subst}
use Rattle.jav_tree.proofs.StatementFolds.{folded_else, folded_node, folded_block, folded_stmt, fold-node-Block, fold-node-Let, fold-node-Do, fold-node-If, fold-node-While, fold-node-For, fold-node-Each, fold-node-Return, fold-node-Throw, fold-node-Break, fold-node-Continue, fold-node-Empty, fold-node-SuperInit, fold-no-else, fold-else-block, fold-else-if, fold-block, fold-stmt}
use Rattle.jav_tree.specs.Blocks.{block_of}
use Rattle.jav_tree.specs.declared.expr.Expr.{Expr}
use Rattle.jav_tree.specs.declared.stmt.Block.{Block}
use Rattle.jav_tree.specs.declared.stmt.Declarator.{Declarator}
use Rattle.jav_tree.specs.declared.stmt.Else.{Else}
use Rattle.jav_tree.specs.declared.stmt.Else.TheFolds.{map-Else, map-StmtNode, ind-Block}
use Rattle.jav_tree.specs.declared.stmt.Else.TheOpen.{Else-F, StmtNode-F, Block-F, Stmt-F}
use Rattle.jav_tree.specs.declared.stmt.Else.TheVariants as otherwise
use Rattle.jav_tree.specs.declared.stmt.Else.TheViews.{roll-Else, roll-StmtNode, roll-Block, roll-Stmt}
use Rattle.jav_tree.specs.declared.stmt.ForStart.{ForStart}
use Rattle.jav_tree.specs.declared.stmt.ForStart.TheVariants as for_start
use Rattle.jav_tree.specs.declared.stmt.Let.{Let}
use Rattle.jav_tree.specs.declared.stmt.Stmt.{Stmt}
use Rattle.jav_tree.specs.declared.stmt.StmtNode.{StmtNode}
use Rattle.jav_tree.specs.declared.stmt.StmtNode.TheVariants as stmt
use Rattle.jav_names.specs.DottedNames.{Name}
use Rattle.jav_names.specs.LookUps.{super_constructor}
use Rattle.jav_names.specs.Members.{Constructor, declared_constructor, default_constructor}
use Rattle.jav_names.specs.StaticTypes.{is_unread}
use Rattle.jav_names.specs.Views.{ViewType, Found, found, outside, not_found}
use Rattle.mol_resolve_rules.specs.FaultKinds.{unknown_member}
use Rattle.mol_resolve_rules.specs.Locals.{Local, Locals, no_locals}
use Rattle.mol_resolve_rules.specs.Outcomes.{Outcome, fine, mapped, beside, both, put_first}
use Rattle.mol_resolve_rules.specs.Readers.{Reader}
use Rattle.mol_resolve_rules.specs.ReadStatements as statements
use Rattle.mol_resolve_rules.specs.ReadStatements.{ReadOn, ReadsTo, declaring_none, mapped_on, followed_by, then_next, each, in_block, ReadNode, ReadStatement, plain, statement_of, branching, redeclared_faults, declaring, read_exprs, read_maybe, read_declarator, let_of, read_let, super_read, super_if, read_start, read_header, read_each, else_of, read_initial, read_body, block_reading}
use Rattle.mol_resolve_rules.specs.ReadTrees.{read_expr}
use Rattle.mol_resolve_rules.specs.ReadTypes.{ReadType, read_type, seen_type}
use Rattle.mol_values_types.specs.declared.iblock.IBlock.{IBlock}
use Rattle.mol_values_types.specs.declared.iblock.IElse.{IElse}
use Rattle.mol_values_types.specs.declared.iblock.IForStart.TheVariants as starts
use Rattle.mol_values_types.specs.declared.iexpr.IExpr.{IExpr}
use Rattle.mol_resolve_rules.proofs.KnownTypes.{IsRead, type-whole}
use Rattle.mol_resolve_rules.proofs.ReadEquations.{statement}
use Rattle.mol_resolve_rules.proofs.Stands.{in_either}
use Rattle.jav_names.proofs.Lists.{stands_where, stands_nowhere}
use Rattle.mol_resolve_rules.proofs.Whole.{IsWhole, Any, none-first, none-last, whole-fine, whole-refused, whole-with_faults, whole-any, whole-mapped, whole-both, whole-beside, whole-all}
use Rattle.mol_resolve_rules.proofs.WholeExpressions.{whole-read_expr}
use Rattle.mol_resolve_rules.proofs.WholeNames.{ReadsKnown, KnownLocals}

-- ---- reading on

-- Where there is no fault there is a value, and the types of the locals after it are read.
pub record WholeOn {C A : Type 0} (on : ReadOn C A) : Type 0 where
  pub whole : IsWhole Any on.outcome
  pub locals : on.outcome.faults ≡ [] → KnownLocals on.locals

-- whatever is read with locals whose types are read
abbrev pub WholeTo : {C A : Type 0} → ReadsTo C A → Type 0
WholeTo {C} part = (locals : Locals C) → KnownLocals locals → WholeOn (part locals)

module _ {C A : Type 0} where
  on-none : (locals : Locals C) (o : Outcome A) → KnownLocals locals → IsWhole Any o → WholeOn (declaring_none locals o)
  on-none locals o known whole = record { whole = whole; locals = λ none. known }

  on-block : (before : Locals C) (on : ReadOn C A) → WholeOn on → WholeOn (in_block before on)
  on-block before on whole = record { whole = whole.whole; locals = λ none. whole.locals none }

module _ {C A B : Type 0} where
  on-mapped : (make : A → B) (on : ReadOn C A) → WholeOn on → WholeOn (mapped_on make on)
  on-mapped make on whole = record {
    whole = whole-mapped Any Any make on.outcome whole.whole (λ a is. tt);
    locals = λ none. whole.locals none;
  }

  on-followed : (P : A → Type 0) (first : ReadOn C A) (next : ReadOn C B) → IsWhole P first.outcome → ((a : A) → P a → WholeOn next)
      → WholeOn (followed_by first next)
  on-followed P first next whole more = record {
    whole = λ none.
        let here = whole (none-first first.outcome.faults next.outcome.faults none) in
        let there = (more here.0 here.2).whole (none-last first.outcome.faults next.outcome.faults none) in
        ((here.0, there.0), rw (here.1, there.1) refl, tt);
    locals = λ none.
        let here = whole (none-first first.outcome.faults next.outcome.faults none) in
        (more here.0 here.2).locals (none-last first.outcome.faults next.outcome.faults none);
  }

  on-then : (first : ReadOn C A) (next : ReadsTo C B) → WholeOn first → WholeTo next → WholeOn (then_next first next)
  on-then first next whole more = record {
    whole = λ none.
        let none_here = none-first first.outcome.faults (next first.locals).outcome.faults none in
        let here = whole.whole none_here in
        let there = (more first.locals (whole.locals none_here)).whole
        (none-last first.outcome.faults (next first.locals).outcome.faults none) in
        ((here.0, there.0), rw (here.1, there.1) refl, tt);
    locals = λ none.
        (more first.locals (whole.locals (none-first first.outcome.faults (next first.locals).outcome.faults none))).locals
        (none-last first.outcome.faults (next first.locals).outcome.faults none);
  }

on-each : {C X A : Type 0} (make : X → ReadsTo C A) → ((x : X) → WholeTo (make x)) → (xs : List X) → WholeTo (each (map make xs))
on-each make whole [] locals known = on-none locals (fine []) known (whole-fine Any [] tt)
on-each make whole (x ∷ xs) locals known = on-mapped put_first (then_next (make x locals) (each (map make xs)))
    (on-then (make x locals) (each (map make xs)) (whole x locals known) (on-each make whole xs))

module _ {C M : Type 0} (reader : Reader C M) (reads : ReadsKnown reader) where
  -- ---- declarations

  known-declared : (type : ViewType C) (name : Name) (locals : Locals C) → is_unread type ≡ false → KnownLocals locals
      → KnownLocals (declaring reader type name locals)
  known-declared type name locals is known local stands =
      by (in_either locals.declared (record { name = name; type = type } ∷ []) local stands) where
        last : (record { name = name; type = type } ≡ local) ⊎ Contains [] local → is_unread local.type ≡ false
        last (inl same) = ap (λ (l : Local C). is_unread l.type) (sym same) ∙ is
        last (inr nowhere) = absurd (stands_nowhere local nowhere)

        by : Contains locals.declared local ⊎ Contains (record { name = name; type = type } ∷ []) local → is_unread local.type ≡ false
        by (inl before) = known local before
        by (inr here) = last (stands_where (record { name = name; type = type }) local [] here)

  whole-read_maybe : (locals : Locals C) → KnownLocals locals → (e : Option Expr) → IsWhole Any (read_maybe reader locals e)
  whole-read_maybe locals known None = whole-fine Any None tt
  whole-read_maybe locals known (Some e) =
      whole-mapped Any Any (λ e. Some e) (read_expr reader locals e) (whole-read_expr reader reads locals known e) (λ e is. tt)

  whole-read_exprs : (locals : Locals C) → KnownLocals locals → (es : List Expr) → IsWhole Any (read_exprs reader locals es)
  whole-read_exprs locals known es = whole-all Any (read_expr reader locals) (whole-read_expr reader reads locals known) es

  whole-declarator : (at : ℕ) (type : ViewType C) → is_unread type ≡ false → (d : Declarator) → WholeTo (read_declarator reader at type d)
  whole-declarator at type is d locals known =
      let inside = known-declared type d.name locals is known in
      on-none (declaring reader type d.name locals) _ inside
      (whole-with_faults Any (redeclared_faults reader at d.name locals) _
      (whole-mapped Any Any _ (read_maybe reader (declaring reader type d.name locals) d.init)
      (whole-read_maybe (declaring reader type d.name locals) inside d.init) (λ init is. tt)))

  whole-let : (at : ℕ) (declared : Let) → WholeTo (read_let reader at declared)
  whole-let at declared locals known = on-mapped (let_of reader declared.is_final) _
      (on-followed (IsRead reader declared.ty) (declaring_none locals (read_type reader at declared.ty))
      (each (map (read_declarator reader at (seen_type reader declared.ty)) declared.names) locals) (type-whole reader at declared.ty)
      (λ type is. on-each (read_declarator reader at (seen_type reader declared.ty))
      (whole-declarator at (seen_type reader declared.ty) is.known) declared.names locals known))

  -- ---- statements

  whole-super_read : (at : ℕ) (args : List IExpr) (f : Found (Constructor C M)) → IsWhole Any (super_read reader at (Some args) f)
  whole-super_read at args (found (declared_constructor declared)) = whole-fine Any _ tt
  whole-super_read at args (found (default_constructor class)) = whole-fine Any _ tt
  whole-super_read at args outside = whole-fine Any _ tt
  whole-super_read at args not_found = whole-refused Any unknown_member at

  whole-super_if : (in_constructor : Bool) (at : ℕ) (args : List IExpr) (f : Found (Constructor C M))
      → IsWhole Any (super_if reader in_constructor at (Some args) f)
  whole-super_if true at args f = whole-super_read at args f
  whole-super_if false at args f = whole-refused Any unknown_member at

  whole-start : (at : ℕ) (start : ForStart) → WholeTo (read_start reader at start)
  whole-start at for_start.None locals known = on-none locals (fine starts.None) known (whole-fine Any starts.None tt)
  whole-start at (for_start.Let declared) locals known =
      on-mapped (λ declared. starts.Let declared) (read_let reader at declared locals) (whole-let at declared locals known)
  whole-start at (for_start.Do es) locals known = on-none locals _ known
      (whole-mapped Any Any (λ es. starts.Do es) (read_exprs reader locals es) (whole-read_exprs locals known es) (λ es is. tt))

  whole-header : (test : Option Expr) (steps : List Expr) (locals : Locals C) → KnownLocals locals
      → IsWhole Any (read_header reader locals test steps)
  whole-header test steps locals known = whole-any (λ (pair : Option IExpr × List IExpr). Any pair.0 × Any pair.1)
      (read_header reader locals test steps)
      (whole-both Any Any (read_maybe reader locals test) (read_exprs reader locals steps) (whole-read_maybe locals known test)
      (whole-read_exprs locals known steps))

  whole-each : (at : ℕ) (type : ViewType C) → is_unread type ≡ false → (name : Name) (block : ReadsTo C IBlock) → WholeTo block
      → WholeTo (read_each reader at type name block)
  whole-each at type is name block whole locals known =
      let body = whole (declaring reader type name locals) (known-declared type name locals is known) in
      let made = block (declaring reader type name locals) in
      record {
        whole = whole-with_faults Any (redeclared_faults reader at name locals) made.outcome body.whole;
        locals = λ none. body.locals (none-last (redeclared_faults reader at name locals) made.outcome.faults none);
      }

  abbrev node_step : StmtNode-F (ReadsTo C IElse) (ℕ → ReadsTo C ReadNode) (ReadsTo C IBlock) (ReadsTo C ReadStatement) → ℕ
      → ReadsTo C ReadNode
  node_step = statements.node_step reader

  abbrev ElseWhole : Else → Type 0
  ElseWhole e = WholeTo (folded_else (statement reader) node_step e)

  abbrev NodeWhole : StmtNode → Type 0
  NodeWhole n = (at : ℕ) → WholeTo (folded_node (statement reader) node_step n at)

  abbrev BlockWhole : Block → Type 0
  BlockWhole b = WholeTo (folded_block (statement reader) node_step b)

  abbrev StmtWhole : Stmt → Type 0
  StmtWhole s = WholeTo (folded_stmt (statement reader) node_step s)

  abbrev WithElse : Type 0
  WithElse = (e : Else) × ElseWhole e

  abbrev WithNode : Type 0
  WithNode = (n : StmtNode) × NodeWhole n

  abbrev WithBlock : Type 0
  WithBlock = (b : Block) × BlockWhole b

  abbrev WithStmt : Type 0
  WithStmt = (s : Stmt) × StmtWhole s

  -- an expression that stands alone
  whole-line : (locals : Locals C) → KnownLocals locals → (e : Expr) (make : IExpr → ReadNode)
      → WholeOn (declaring_none locals (mapped make (read_expr reader locals e)))
  whole-line locals known e make = on-none locals _ known
      (whole-mapped Any Any make (read_expr reader locals e) (whole-read_expr reader reads locals known e) (λ e is. tt))

  whole-test : (locals : Locals C) → KnownLocals locals → (test : Expr) → WholeOn (declaring_none locals (read_expr reader locals test))
  whole-test locals known test = on-none locals _ known (whole-read_expr reader reads locals known test)

  node : (n : StmtNode) (made : ℕ → ReadsTo C ReadNode) → folded_node (statement reader) node_step n ≡ made → ((at : ℕ) → WholeTo (made at))
      → NodeWhole n
  node n made is whole at = subst (λ (m : ℕ → ReadsTo C ReadNode). WholeTo (m at)) (sym is) (whole at)

  node_whole : (y : StmtNode-F WithElse WithNode WithBlock WithStmt)
      → NodeWhole (roll-StmtNode (map-StmtNode _ _ _ _ _ _ _ _ (λ p. p.0) (λ p. p.0) (λ p. p.0) (λ p. p.0) y))
  node_whole (StmtNode-F.StmtNode::Block b) = subst NodeWhole (sym (stmt.rolls-Block b.0))
      (node (stmt.Block b.0) _ (fold-node-Block (statement reader) node_step b.0)
      (λ at locals known. on-mapped _ _ (b.1 locals known)))
  node_whole (StmtNode-F.Let declared) = subst NodeWhole (sym (stmt.rolls-Let declared))
      (node (stmt.Let declared) _ (fold-node-Let (statement reader) node_step declared)
      (λ at locals known. on-mapped _ _ (whole-let at declared locals known)))
  node_whole (StmtNode-F.Do e) = subst NodeWhole (sym (stmt.rolls-Do e))
      (node (stmt.Do e) _ (fold-node-Do (statement reader) node_step e) (λ at locals known. whole-line locals known e _))
  node_whole (StmtNode-F.StmtNode::If test b rest) = subst NodeWhole (sym (stmt.rolls-If test b.0 rest.0))
      (node (stmt.If test b.0 rest.0) _ (fold-node-If (statement reader) node_step test b.0 rest.0)
      (λ at locals known. on-mapped _ _ (on-then _ _ (on-then _ _ (whole-test locals known test) b.1) rest.1)))
  node_whole (StmtNode-F.While test b) = subst NodeWhole (sym (stmt.rolls-While test b.0))
      (node (stmt.While test b.0) _ (fold-node-While (statement reader) node_step test b.0)
      (λ at locals known. on-mapped _ _ (on-then _ _ (whole-test locals known test) b.1)))
  node_whole (StmtNode-F.For start test steps b) = subst NodeWhole (sym (stmt.rolls-For start test steps b.0))
      (node (stmt.For start test steps b.0) _ (fold-node-For (statement reader) node_step start test steps b.0)
      (λ at locals known. on-block locals _
      (on-mapped _ _ (on-then _ _ (on-then _ (λ inside. declaring_none inside (read_header reader inside test steps))
      (whole-start at start locals known) (λ inside known. on-none inside _ known (whole-header test steps inside known))) b.1))))
  node_whole (StmtNode-F.Each is_final type name e b) = subst NodeWhole (sym (stmt.rolls-Each is_final type name e b.0))
      (node (stmt.Each is_final type name e b.0) _ (fold-node-Each (statement reader) node_step is_final type name e b.0)
      (λ at locals known. on-mapped _ _ (on-followed (λ (pair : ReadType C × IExpr). IsRead reader type pair.0 × Any pair.1)
      (declaring_none locals (both (read_type reader at type) (read_expr reader locals e))) _
      (whole-both (IsRead reader type) Any (read_type reader at type) (read_expr reader locals e) (type-whole reader at type)
      (whole-read_expr reader reads locals known e))
      (λ pair is. whole-each at (seen_type reader type) is.0.known name (folded_block (statement reader) node_step b.0) b.1 locals known))))
  node_whole (StmtNode-F.Return e) = subst NodeWhole (sym (stmt.rolls-Return e))
      (node (stmt.Return e) _ (fold-node-Return (statement reader) node_step e)
      (λ at locals known. on-none locals _ known
      (whole-mapped Any Any _ (read_maybe reader locals e) (whole-read_maybe locals known e) (λ e is. tt))))
  node_whole (StmtNode-F.Throw e) = subst NodeWhole (sym (stmt.rolls-Throw e))
      (node (stmt.Throw e) _ (fold-node-Throw (statement reader) node_step e) (λ at locals known. whole-line locals known e _))
  node_whole StmtNode-F.Break = subst NodeWhole (sym stmt.rolls-Break)
      (node stmt.Break _ (fold-node-Break (statement reader) node_step) (λ at locals known. on-none locals _ known (whole-fine Any _ tt)))
  node_whole StmtNode-F.Continue = subst NodeWhole (sym stmt.rolls-Continue)
      (node stmt.Continue _ (fold-node-Continue (statement reader) node_step)
      (λ at locals known. on-none locals _ known (whole-fine Any _ tt)))
  node_whole StmtNode-F.Empty = subst NodeWhole (sym stmt.rolls-Empty)
      (node stmt.Empty _ (fold-node-Empty (statement reader) node_step) (λ at locals known. on-none locals _ known (whole-fine Any _ tt)))
  node_whole (StmtNode-F.SuperInit args) = subst NodeWhole (sym (stmt.rolls-SuperInit args))
      (node (stmt.SuperInit args) _ (fold-node-SuperInit (statement reader) node_step args)
      (λ at locals known. on-none locals _ known
      (whole-mapped Any Any plain
      (beside (read_exprs reader locals args)
      (λ values. super_if reader reader.in_constructor at values (super_constructor reader.view reader.class (length args))))
      (whole-beside Any Any (read_exprs reader locals args)
      (λ values. super_if reader reader.in_constructor at values (super_constructor reader.view reader.class (length args)))
      (whole-read_exprs locals known args)
      (λ values is. whole-super_if reader.in_constructor at values (super_constructor reader.view reader.class (length args))))
      (λ n is. tt))))

  else_whole : (y : Else-F WithElse WithNode WithBlock WithStmt)
      → ElseWhole (roll-Else (map-Else _ _ _ _ _ _ _ _ (λ p. p.0) (λ p. p.0) (λ p. p.0) (λ p. p.0) y))
  else_whole Else-F.None = subst ElseWhole (sym otherwise.rolls-None)
      (subst (λ (made : ReadsTo C IElse). WholeTo made) (sym (fold-no-else (statement reader) node_step))
      (λ locals known. on-none locals _ known (whole-fine Any _ tt)))
  else_whole (Else-F.Else::Block b) = subst ElseWhole (sym (otherwise.rolls-Block b.0))
      (subst (λ (made : ReadsTo C IElse). WholeTo made) (sym (fold-else-block (statement reader) node_step b.0))
      (λ locals known. on-mapped _ _ (b.1 locals known)))
  else_whole (Else-F.Else::If s) = subst ElseWhole (sym (otherwise.rolls-If s.0))
      (subst (λ (made : ReadsTo C IElse). WholeTo made) (sym (fold-else-if (statement reader) node_step s.0))
      (λ locals known. on-mapped _ _ (s.1 locals known)))

  items_whole : (ss : List WithStmt) → WholeTo (each (map (folded_stmt (statement reader) node_step) (map (λ p. p.0) ss)))
  items_whole [] locals known = on-none locals _ known (whole-fine Any _ tt)
  items_whole (s ∷ ss) locals known = on-mapped put_first _ (on-then _ _ (s.1 locals known) (items_whole ss))

  block_whole : (y : Block-F WithElse WithNode WithBlock WithStmt) → BlockWhole (block_of (map (λ p. p.0) y.items) y.tail)
  block_whole y = subst (λ (made : ReadsTo C IBlock). WholeTo made)
      (sym (fold-block (statement reader) node_step (map (λ p. p.0) y.items) y.tail))
      (λ locals known. on-block locals _ (on-mapped _ _ (items_whole y.items locals known)))

  stmt_whole : (y : Stmt-F WithElse WithNode WithBlock WithStmt) → StmtWhole (record { notes = y.notes; at = y.at; node = y.node.0 })
  stmt_whole y = subst (λ (made : ReadsTo C ReadStatement). WholeTo made)
      (sym (fold-stmt (statement reader) node_step y.notes y.at y.node.0))
      (λ locals known. on-mapped _ _ (y.node.1 y.at locals known))

  all_whole : (b : Block) → BlockWhole b
  all_whole = ind-Block ElseWhole NodeWhole BlockWhole StmtWhole
      (λ x y is. subst (λ z. ElseWhole (roll-Else z)) is (else_whole y))
      (λ x y is. subst (λ z. NodeWhole (roll-StmtNode z)) is (node_whole y))
      (λ x y is. subst (λ z. BlockWhole (roll-Block z)) is (block_whole y))
      (λ x y is. subst (λ z. StmtWhole (roll-Stmt z)) is (stmt_whole y))

  -- ---- what members hold

  known-none : KnownLocals {C = C} no_locals
  known-none local stands = absurd (stands_nowhere local stands)

  pub whole-read_initial : (init : Option Expr) → IsWhole Any (read_initial reader init)
  whole-read_initial init = whole-read_maybe no_locals known-none init

  pub whole-read_body : (block : Block) → IsWhole Any (read_body reader block)
  whole-read_body block = whole-mapped Any Any _ (block_reading reader block no_locals).outcome (all_whole block no_locals known-none).whole
      (λ block is. tt)
