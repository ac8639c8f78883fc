-- When statements of a program say what source text says: their types and expressions do, and all else is the same.
use Rattle.std.specs.Prelude.{◌≡◌, Bool, List, [], ◌∷◌, Option}
use Rattle.std.specs.List.{AllZip}
use Rattle.mol_base.specs.declared.ident.Id.{Id}
use Rattle.mol_resolve_rules.specs.Says.{SaysType, Says, SaysAll, SaysArguments, SaysMaybe}
use Rattle.mol_values_types.specs.Blocks.{block_of, branch_of}
use Rattle.mol_values_types.specs.declared.iblock.IBlock.{IBlock}
use Rattle.mol_values_types.specs.declared.iblock.IDeclarator.{IDeclarator}
use Rattle.mol_values_types.specs.declared.iblock.IElse.{IElse}
use Rattle.mol_values_types.specs.declared.iblock.IElse.TheVariants as elses
use Rattle.mol_values_types.specs.declared.iblock.IForStart.{IForStart}
use Rattle.mol_values_types.specs.declared.iblock.IForStart.TheVariants as starts
use Rattle.mol_values_types.specs.declared.iblock.IIf.{IIf}
use Rattle.mol_values_types.specs.declared.iblock.ILet.{ILet}
use Rattle.mol_values_types.specs.declared.iblock.IStmt.{IStmt}
use Rattle.mol_values_types.specs.declared.iblock.IStmtNode.{IStmtNode}
use Rattle.mol_values_types.specs.declared.iblock.IStmtNode.TheVariants as nodes
use Rattle.mol_values_types.specs.declared.iexpr.Argument.{Argument}
use Rattle.mol_values_types.specs.declared.iexpr.IExpr.{IExpr}
use Rattle.mol_values_types.specs.declared.itype.IType.{IType}
use Rattle.jav_names.specs.DottedNames.{Name}

pub record SaysDeclarator (said held : IDeclarator) : Type 0 where
  pub named : said.name ≡ held.name
  pub init : SaysMaybe said.init held.init

pub record SaysLet (said held : ILet) : Type 0 where
  pub final : said.is_final ≡ held.is_final
  pub type : SaysType said.ty held.ty
  pub names : AllZip SaysDeclarator said.names held.names

pub data SaysStart : IForStart → IForStart → Type 0 where
  no_start : SaysStart starts.None starts.None
  let_start : {said held : ILet} → SaysLet said held → SaysStart (starts.Let said) (starts.Let held)
  do_start : {all_said all_held : List IExpr} → SaysAll all_said all_held → SaysStart (starts.Do all_said) (starts.Do all_held)

mutual
  pub data SaysBlock : IBlock → IBlock → Type 0 where
    in_block : {all_said all_held : List IStmt} (tail : List Name) → SaysEach all_said all_held
        → SaysBlock (block_of all_said tail) (block_of all_held tail)

  pub data SaysEach : List IStmt → List IStmt → Type 0 where
    no_statements : SaysEach [] []
    more_statements : {notes : List Name} {said held : IStmtNode} {all_said all_held : List IStmt} → SaysStatement said held
        → SaysEach all_said all_held
        → SaysEach (record { notes = notes; node = said } ∷ all_said) (record { notes = notes; node = held } ∷ all_held)

  pub data SaysStatement : IStmtNode → IStmtNode → Type 0 where
    block : {said held : IBlock} → SaysBlock said held → SaysStatement (nodes.Block said) (nodes.Block held)
    let_of : {said held : ILet} → SaysLet said held → SaysStatement (nodes.Let said) (nodes.Let held)
    do_of : {said held : IExpr} → Says said held → SaysStatement (nodes.Do said) (nodes.Do held)
    if_of : {said held : IIf} → SaysIf said held → SaysStatement (nodes.If said) (nodes.If held)
    while_of : {said held : IExpr} {said_body held_body : IBlock} → Says said held → SaysBlock said_body held_body
        → SaysStatement (nodes.While said said_body) (nodes.While held held_body)
    for_of : {said held : IForStart} {said_test held_test : Option IExpr} {all_said all_held : List IExpr} {said_body held_body : IBlock}
        → SaysStart said held
        → SaysMaybe said_test held_test → SaysAll all_said all_held → SaysBlock said_body held_body
        → SaysStatement (nodes.For said said_test all_said said_body) (nodes.For held held_test all_held held_body)
    each_of : {is_final : Bool} {said_type held_type : IType} {name : Name} {said held : IExpr} {said_body held_body : IBlock}
        → SaysType said_type held_type
        → Says said held
        → SaysBlock said_body held_body
        → SaysStatement (nodes.Each is_final said_type name said said_body) (nodes.Each is_final held_type name held held_body)
    return_of : {said held : Option IExpr} → SaysMaybe said held → SaysStatement (nodes.Return said) (nodes.Return held)
    throw_of : {said held : IExpr} → Says said held → SaysStatement (nodes.Throw said) (nodes.Throw held)
    break_of : SaysStatement nodes.Break nodes.Break
    continue_of : SaysStatement nodes.Continue nodes.Continue
    empty_of : SaysStatement nodes.Empty nodes.Empty
    super_of : {constructor : Id} {all_said all_held : List Argument} → SaysArguments all_said all_held
        → SaysStatement (nodes.Super constructor all_said) (nodes.Super constructor all_held)
    default_super : {class : Id} → SaysStatement (nodes.SuperDefault class) (nodes.SuperDefault class)
    outside_super : {all_said all_held : List IExpr} → SaysAll all_said all_held
        → SaysStatement (nodes.SuperOutside all_said) (nodes.SuperOutside all_held)

  pub data SaysIf : IIf → IIf → Type 0 where
    branches : {said held : IExpr} {said_body held_body : IBlock} {said_rest held_rest : IElse} → Says said held
        → SaysBlock said_body held_body → SaysElse said_rest held_rest
        → SaysIf (branch_of said said_body said_rest) (branch_of held held_body held_rest)

  pub data SaysElse : IElse → IElse → Type 0 where
    no_else : SaysElse elses.None elses.None
    else_block : {said held : IBlock} → SaysBlock said held → SaysElse (elses.Block said) (elses.Block held)
    else_if : {said held : IIf} → SaysIf said held → SaysElse (elses.If said) (elses.If held)
