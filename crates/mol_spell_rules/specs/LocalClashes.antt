-- Local variables of one name in one scope (JLS 6.4).
use Rattle.std.specs.Prelude.{◌≡◌, List, [], ◌∷◌, ◌++◌, map, if◌then◌else◌}
use Rattle.std.specs.List.{list_any}
use Rattle.std.specs.Str.{bytes_eq}
use Rattle.mol_values_types.specs.declared.iblock.IBlock.{IBlock, fold-IBlock}
use Rattle.mol_values_types.specs.declared.iblock.IDeclarator.{IDeclarator}
use Rattle.mol_values_types.specs.declared.iblock.IElse.TheOpen.{IElse-F, IStmtNode-F, IBlock-F, IIf-F, IStmt-F}
use Rattle.mol_values_types.specs.declared.iblock.IForStart.{IForStart}
use Rattle.mol_values_types.specs.declared.iblock.IForStart.TheVariants as starts
use Rattle.mol_values_types.specs.declared.iblock.ILet.{ILet}
use Rattle.jav_names.specs.DottedNames.{Name, Names}

-- The names of the locals and parameters in scope after a part, and those that a local is declared with where they are in scope already.
pub record Scoped : Type 0 where
  pub in_scope : Names
  pub clashes : Names

-- going on from the names in scope before a part
abbrev pub Scopes : Type 0
Scopes = Names → Scoped

abbrev pub unscoped : Scopes
unscoped names = record { in_scope = names; clashes = [] }

abbrev pub followed_by : Scoped → Scoped → Scoped
followed_by first next = record { in_scope = next.in_scope; clashes = first.clashes ++ next.clashes }

abbrev pub then_next : Scoped → Scopes → Scoped
then_next first next = followed_by first (next first.in_scope)

abbrev pub each : List Scopes → Scopes
each [] names = unscoped names
each (part ∷ parts) names = then_next (part names) (each parts)

-- A name that is declared is in scope from there on, and a clash where it was before.
abbrev pub declaring : Name → Scopes
declaring name names = record {
  in_scope = names ++ name ∷ [];
  clashes = if list_any (bytes_eq name) names then name ∷ [] else [];
}

-- What is declared in a block, and in the header of a `for`, is in scope up to its end (JLS 6.3).
abbrev pub in_block : Names → Scoped → Scoped
in_block before part = record { in_scope = before; clashes = part.clashes }

abbrev pub let_scopes : ILet → Scopes
let_scopes declared = each (map (λ (declarator : IDeclarator). declaring declarator.name) declared.names)

abbrev pub start_scopes : IForStart → Scopes
start_scopes (starts.Let declared) names = let_scopes declared names
start_scopes start names = unscoped names

abbrev pub else_step : IElse-F Scopes Scopes Scopes Scopes Scopes → Scopes
else_step IElse-F.None names = unscoped names
else_step (IElse-F.IElse::Block block) names = block names
else_step (IElse-F.IElse::If branch) names = branch names

abbrev pub node_step : IStmtNode-F Scopes Scopes Scopes Scopes Scopes → Scopes
node_step (IStmtNode-F.IStmtNode::Block block) names = block names
node_step (IStmtNode-F.Let declared) names = let_scopes declared names
node_step (IStmtNode-F.IStmtNode::If branch) names = branch names
node_step (IStmtNode-F.While test block) names = block names
node_step (IStmtNode-F.For start test steps block) names = in_block names (then_next (start_scopes start names) block)
node_step (IStmtNode-F.Each is_final type name e block) names = in_block names (then_next (declaring name names) block)
node_step node names = unscoped names

abbrev pub if_step : IIf-F Scopes Scopes Scopes Scopes Scopes → Scopes
if_step branch names = then_next (branch.then names) branch.rest

abbrev pub stmt_step : IStmt-F Scopes Scopes Scopes Scopes Scopes → Scopes
stmt_step statement names = statement.node names

abbrev pub block_step : IBlock-F Scopes Scopes Scopes Scopes Scopes → Scopes
block_step block names = in_block names (each block.items names)

abbrev pub block_scopes : IBlock → Scopes
block_scopes = fold-IBlock Scopes Scopes Scopes Scopes Scopes else_step node_step block_step if_step stmt_step

-- The names with which a local is declared in the scope of another one or of a parameter, where these are the parameters.
abbrev pub clashes_in : Names → IBlock → Names
clashes_in params block = (block_scopes block params).clashes

-- a name stands twice in a list
pub record IsRepeated (names : Names) (name : Name) : Type 0 where
  pub before : Names
  pub between : Names
  pub after : Names
  pub stands : names ≡ before ++ name ∷ between ++ name ∷ after
