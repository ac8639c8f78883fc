-- A local with the name of a parameter: `int x = 1;` in the body of `:7`, whose method `:14` has the parameters `x` and `times`.
use Rattle.std.proofs.Common.{◌≡◌, inr, ℕ, true, false, List, [], ◌∷◌, Some, Contains, codes, refl, ap, sym, subst, arith, ◌∙◌}
use Rattle.std.specs.FinMap.{find}
use Rattle.mol_base.specs.declared.ident.Id.{Id}
use Rattle.mol_table_rules.specs.Program.{Program, value_at, cell}
use Rattle.mol_values_types.specs.Blocks.{block_of}
use Rattle.mol_values_types.specs.Order.{cell_cmp}
use Rattle.mol_values_types.specs.declared.cell.Cell.{Cell}
use Rattle.mol_values_types.specs.declared.cell.Slot.{Slot}
use Rattle.mol_values_types.specs.declared.cell.Slot.TheVariants as slots
use Rattle.mol_values_types.specs.declared.iblock.IBlock.{IBlock}
use Rattle.mol_values_types.specs.declared.iblock.IElse.TheFolds.{fold-roll-IBlock, fold-roll-IStmt, fold-roll-IStmtNode}
use Rattle.mol_values_types.specs.declared.iblock.IElse.TheOpen.{IStmtNode-F}
use Rattle.mol_values_types.specs.declared.iblock.ILet.{ILet}
use Rattle.mol_values_types.specs.declared.iblock.IStmt.{IStmt, fold-IStmt}
use Rattle.mol_values_types.specs.declared.iblock.IStmtNode.{IStmtNode, fold-IStmtNode}
use Rattle.mol_values_types.specs.declared.iblock.IStmtNode.TheVariants as nodes
use Rattle.mol_values_types.specs.declared.iexpr.IExpr.TheVariants as exprs
use Rattle.mol_values_types.specs.declared.itype.IType.TheVariants as types
use Rattle.mol_values_types.specs.declared.kind.MethodKind.TheVariants.{Instance}
use Rattle.mol_values_types.specs.declared.known.Known.{Known}
use Rattle.mol_values_types.specs.declared.known.Known.TheVariants as knowns
use Rattle.mol_values_types.specs.declared.param.Param.{Param}
use Rattle.mol_values_types.specs.declared.value.Value.{Value}
use Rattle.mol_values_types.specs.declared.value.Value.TheVariants as values
use Rattle.jav_names.specs.DottedNames.{Name}
use Rattle.mol_spell_rules.specs.FaultList.{IsFault, by_local, local_clash}
use Rattle.mol_spell_rules.specs.LocalClashes as scopes
use Rattle.mol_spell_rules.specs.LocalClashes.{Scopes, clashes_in}
use Rattle.mol_spell_rules.specs.NameFaults.{param_names}
use Rattle.mol_spell_rules.proofs.ExamplePrograms.{base, program_of, holds-in, known-in}

abbrev param : ℕ → Name → Param
param number name = record { id = base number; name = name; ty = types.Int; filler = codes "0" }

abbrev one_x : ILet
one_x = record {
  is_final = false;
  ty = types.Int;
  names = record { name = codes "x"; init = Some (exprs.Lit (codes "1")) } ∷ [];
}

abbrev statement : IStmt
statement = record { notes = []; node = nodes.Let one_x }

abbrev block : IBlock
block = block_of (statement ∷ []) []

abbrev known : List (Id × Known)
known = (base 7, knowns.Decl (base 14)) ∷ (base 14, knowns.Method Instance) ∷ []

abbrev cells : List (Cell × Value)
cells = (cell (base 7) slots.Live, values.Live true) ∷ (cell (base 7) slots.Body, values.Body (Some (record { block = block })))
    ∷ (cell (base 14) slots.Params, values.Params (param 15 (codes "x") ∷ param 16 (codes "times") ∷ [])) ∷ []

abbrev program : Program
program = program_of known cells

holds-at : (id : Id) (slot : Slot) → value_at program id slot ≡ find cell_cmp (cell id slot) cells
holds-at id slot = holds-in known cells tt id slot

abbrev of_node : IStmtNode → Scopes
of_node = fold-IStmtNode Scopes Scopes Scopes Scopes Scopes scopes.else_step scopes.node_step scopes.block_step scopes.if_step
    scopes.stmt_step

abbrev of_statement : IStmt → Scopes
of_statement = fold-IStmt Scopes Scopes Scopes Scopes Scopes scopes.else_step scopes.node_step scopes.block_step scopes.if_step
    scopes.stmt_step

node-scopes : of_node (nodes.Let one_x) ≡ scopes.node_step (IStmtNode-F.Let one_x)
node-scopes = ap of_node (sym (nodes.rolls-Let one_x)) ∙ fold-roll-IStmtNode Scopes Scopes Scopes Scopes Scopes scopes.else_step
    scopes.node_step scopes.block_step scopes.if_step scopes.stmt_step (IStmtNode-F.Let one_x)

statement-scopes : of_statement statement ≡ scopes.node_step (IStmtNode-F.Let one_x)
statement-scopes = fold-roll-IStmt Scopes Scopes Scopes Scopes Scopes scopes.else_step scopes.node_step scopes.block_step
    scopes.if_step scopes.stmt_step (record { notes = []; node = nodes.Let one_x }) ∙ node-scopes

block-clashes : clashes_in (codes "x" ∷ codes "times" ∷ []) block ≡ codes "x" ∷ []
block-clashes = ap (λ (part : Scopes). (part (codes "x" ∷ codes "times" ∷ [])).clashes)
    (fold-roll-IBlock Scopes Scopes Scopes Scopes Scopes scopes.else_step scopes.node_step scopes.block_step scopes.if_step
    scopes.stmt_step (record { items = statement ∷ []; tail = [] }))
    ∙ ap (λ (part : Scopes). (scopes.block_step (record { items = part ∷ []; tail = [] }) (codes "x" ∷ codes "times" ∷ [])).clashes)
    statement-scopes

params-are : param_names program (base 14) ≡ codes "x" ∷ codes "times" ∷ []
params-are = simp (holds-at (base 14) slots.Params) refl

is-fault : IsFault program (local_clash (cell (base 7) slots.Body) (codes "x"))
is-fault = by_local (record {
  declaration = base 7;
  method = base 14;
  is = refl;
  declares = known-in known cells tt (base 7);
  declaration_lives = simp (holds-at (base 7) slots.Live) refl;
  clashes = inr (record {
    body = record { block = block };
    holds = holds-at (base 7) slots.Body;
    clashes = subst (λ names. Contains names (codes "x")) (sym (ap (λ names. clashes_in names block) params-are ∙ block-clashes))
        (0, omega arith, refl);
  });
})
