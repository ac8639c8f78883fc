-- In which order the references of the parts of an expression or a statement stand: that in which the parts print (JLS 14, 15).
use Rattle.std.specs.Prelude.{◌≡◌, ℕ, Bool, List, [], ◌∷◌, ◌++◌, Option, codes}
use Rattle.std.specs.List.{flat_map}
use Rattle.mol_base.specs.declared.ident.Id.{Id}
use Rattle.mol_values_types.specs.Blocks.{block_of, branch_of}
use Rattle.mol_values_types.specs.declared.iblock.IBlock.{IBlock}
use Rattle.mol_values_types.specs.declared.iblock.IElse.{IElse}
use Rattle.mol_values_types.specs.declared.iblock.IForStart.{IForStart}
use Rattle.mol_values_types.specs.declared.iblock.ILet.{ILet}
use Rattle.mol_values_types.specs.declared.iblock.IStmt.{IStmt}
use Rattle.mol_values_types.specs.declared.iblock.IStmtNode.TheVariants as nodes
use Rattle.mol_values_types.specs.declared.iexpr.Argument.{Argument}
use Rattle.mol_values_types.specs.declared.iexpr.IExpr.{IExpr}
use Rattle.mol_values_types.specs.declared.iexpr.IExpr.TheVariants as exprs
use Rattle.mol_values_types.specs.declared.itype.IType.{IType}
use Rattle.mol_spell_rules.specs.references.References.{field_target, method_target, outside_target, index_target, type_references, expr_references, exprs_references, arguments_references, maybe_references, let_references, start_references, node_references, else_references, block_references, if_references, statement_references}

-- The references of an expression that has several parts, or a part and a name.
pub record ExpressionsInOrder : Type 0 where
  pub member : (field : Id) (e : IExpr) → expr_references (exprs.Field field e) ≡ expr_references e ++ field_target field ∷ []
  pub call : (method : Id) (arguments : List Argument)
      → expr_references (exprs.Call method arguments) ≡ method_target method ∷ arguments_references arguments
  pub call_on : (method : Id) (e : IExpr) (arguments : List Argument)
      → expr_references (exprs.CallOn method e arguments) ≡ expr_references e ++ method_target method ∷ arguments_references arguments
  pub static_call : (method : Id) (arguments : List Argument)
      → expr_references (exprs.StaticCall method arguments) ≡ method_target method ∷ arguments_references arguments
  pub super_call : (method : Id) (arguments : List Argument)
      → expr_references (exprs.SuperCall method arguments) ≡ method_target method ∷ arguments_references arguments
  pub creation : (constructor : Id) (arguments : List Argument)
      → expr_references (exprs.New constructor arguments) ≡ method_target constructor ∷ arguments_references arguments
  pub outside_member : (name : List ℕ) (e : IExpr)
      → expr_references (exprs.OutsideField name e) ≡ expr_references e ++ outside_target name ∷ []
  pub outside_call : (name : List ℕ) (arguments : List IExpr)
      → expr_references (exprs.OutsideCall name arguments) ≡ outside_target name ∷ exprs_references arguments
  pub outside_super_call : (name : List ℕ) (arguments : List IExpr)
      → expr_references (exprs.OutsideSuperCall name arguments) ≡ outside_target name ∷ exprs_references arguments
  pub outside_call_on : (name : List ℕ) (e : IExpr) (arguments : List IExpr)
      → expr_references (exprs.OutsideCallOn name e arguments) ≡ expr_references e ++ outside_target name ∷ exprs_references arguments
  pub outside_creation : (type : IType) (arguments : List IExpr)
      → expr_references (exprs.NewOutside type arguments) ≡ type_references type ++ exprs_references arguments
  pub new_array : (type : IType) (sizes : List IExpr) (pairs : ℕ)
      → expr_references (exprs.NewArray type sizes pairs) ≡ type_references type ++ exprs_references sizes
  pub array : (type : IType) (items : List IExpr)
      → expr_references (exprs.ArrayLit type items) ≡ type_references type ++ exprs_references items
  pub braces : (items : List IExpr) → expr_references (exprs.Braces items) ≡ exprs_references items
  pub index : (e index : IExpr) → expr_references (exprs.Index e index) ≡ expr_references e ++ index_target ∷ expr_references index
  pub choice : (test first second : IExpr)
      → expr_references (exprs.Cond test first second) ≡ expr_references test ++ expr_references first ++ expr_references second
  pub operands : (operator : List ℕ) (left right : IExpr)
      → expr_references (exprs.Binary operator left right) ≡ expr_references left ++ expr_references right
  pub assignment : (operator : List ℕ) (left right : IExpr)
      → expr_references (exprs.Assign operator left right) ≡ expr_references left ++ expr_references right
  pub cast : (type : IType) (e : IExpr) → expr_references (exprs.Cast type e) ≡ type_references type ++ expr_references e
  pub instance : (e : IExpr) (type : IType) → expr_references (exprs.InstanceOf e type) ≡ expr_references e ++ type_references type

-- The references of a statement and of a block, from those of their parts.
pub record StatementsInOrder : Type 0 where
  pub statements : (items : List IStmt) (tail : List (List ℕ))
      → block_references (block_of items tail) ≡ flat_map statement_references items
  pub declaration : (declared : ILet) → node_references (nodes.Let declared) ≡ let_references declared
  pub while : (test : IExpr) (block : IBlock) → node_references (nodes.While test block) ≡ expr_references test ++ block_references block
  pub for : (start : IForStart) (test : Option IExpr) (steps : List IExpr) (block : IBlock)
      → node_references (nodes.For start test steps block)
      ≡ start_references start ++ maybe_references test ++ exprs_references steps ++ block_references block
  pub each : (is_final : Bool) (type : IType) (name : List ℕ) (e : IExpr) (block : IBlock)
      → node_references (nodes.Each is_final type name e block) ≡ type_references type ++ expr_references e ++ block_references block
  pub super : (constructor : Id) (arguments : List Argument)
      → node_references (nodes.Super constructor arguments) ≡ method_target constructor ∷ arguments_references arguments
  pub outside_super : (arguments : List IExpr)
      → node_references (nodes.SuperOutside arguments) ≡ outside_target (codes "super") ∷ exprs_references arguments
  pub branch : (test : IExpr) (then : IBlock) (rest : IElse)
      → if_references (branch_of test then rest) ≡ expr_references test ++ block_references then ++ else_references rest
