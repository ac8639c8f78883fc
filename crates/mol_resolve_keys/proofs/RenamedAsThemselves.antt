-- Renaming each identity as itself changes nothing.
use Rattle.std.proofs.Common.{◌≡◌, List, [], ◌∷◌, map, Option, Some, None, option_map, refl, sym, ◌∙◌, ap, subst}
use Rattle.mol_base.specs.declared.ident.Id.{Id}
use Rattle.mol_resolve_keys.specs.NumberLaws.{RenamedAsThemselves}
use Rattle.mol_values_types.specs.Blocks.{block_of, branch_of}
use Rattle.mol_values_types.specs.Renamed as rename
use Rattle.mol_values_types.specs.Renamed.{rename_type, rename_expr, rename_argument, rename_declarator, rename_let, rename_start, rename_else, rename_node, rename_block, rename_if, rename_statement}
use Rattle.mol_values_types.specs.declared.iblock.IBlock.{IBlock}
use Rattle.mol_values_types.specs.declared.iblock.IDeclarator.{IDeclarator}
use Rattle.mol_values_types.specs.declared.iblock.IElse.{IElse}
use Rattle.mol_values_types.specs.declared.iblock.IElse.TheFolds.{map-IElse, map-IStmtNode, ind-IBlock}
use Rattle.mol_values_types.specs.declared.iblock.IElse.TheOpen.{IElse-F, IStmtNode-F}
use Rattle.mol_values_types.specs.declared.iblock.IElse.TheVariants as elses
use Rattle.mol_values_types.specs.declared.iblock.IElse.TheViews.{roll-IElse, roll-IStmtNode, roll-IBlock, roll-IIf, roll-IStmt}
use Rattle.mol_values_types.specs.declared.iblock.IForStart.{IForStart}
use Rattle.mol_values_types.specs.declared.iblock.IForStart.TheVariants as starts
use Rattle.mol_values_types.specs.declared.iblock.IIf.{IIf}
use Rattle.mol_values_types.specs.declared.iblock.ILet.{ILet}
use Rattle.mol_values_types.specs.declared.iblock.IStmt.{IStmt}
use Rattle.mol_values_types.specs.declared.iblock.IStmtNode.{IStmtNode}
use Rattle.mol_values_types.specs.declared.iblock.IStmtNode.TheVariants as nodes
use Rattle.mol_values_types.specs.declared.iexpr.Argument.{Argument}
use Rattle.mol_values_types.specs.declared.iexpr.IExpr.{IExpr}
use Rattle.mol_values_types.specs.declared.iexpr.IExpr.TheFolds.{fold-roll-IExpr, ind-IExpr, map-IExpr}
use Rattle.mol_values_types.specs.declared.iexpr.IExpr.TheOpen.{IExpr-F}
use Rattle.mol_values_types.specs.declared.iexpr.IExpr.TheVariants as exprs
use Rattle.mol_values_types.specs.declared.iexpr.IExpr.TheViews.{roll-IExpr, roll-Argument}
use Rattle.mol_values_types.specs.declared.itype.IType.{IType}
use Rattle.mol_values_types.specs.declared.itype.IType.TheFolds.{fold-roll-IType, ind-IType, map-IType}
use Rattle.mol_values_types.specs.declared.itype.IType.TheOpen.{IType-F}
use Rattle.mol_values_types.specs.declared.itype.IType.TheVariants as types
use Rattle.mol_values_types.specs.declared.itype.IType.TheViews.{roll-IType}
use Rattle.mol_resolve_keys.proofs.RenamedStatements as statements
use Rattle.mol_resolve_keys.proofs.RenamedTrees as trees

abbrev itself : Id → Id
itself id = id

-- what is kept one by one is kept in a list
module _ {X : Type 0} (change : X → X) where
  abbrev Kept : X → Type 0
  Kept x = change x ≡ x

  all-kept : (xs : List ((x : X) × Kept x)) → map change (map (λ p. p.0) xs) ≡ map (λ p. p.0) xs
  all-kept [] = refl
  all-kept (x ∷ xs) = λ i. x.1 i ∷ all-kept xs i

  each-kept : ((x : X) → Kept x) → (xs : List X) → map change xs ≡ xs
  each-kept kept [] = refl
  each-kept kept (x ∷ xs) = λ i. kept x i ∷ each-kept kept xs i

  some-kept : ((x : X) → Kept x) → (o : Option X) → option_map change o ≡ o
  some-kept kept None = refl
  some-kept kept (Some x) = ap (λ (x : X). Some x) (kept x)

-- ---- types

type-from : (x : IType-F IType) → rename.type_step itself (map-IType _ _ (rename_type itself) x) ≡ roll-IType x
    → rename_type itself (roll-IType x) ≡ roll-IType x
type-from x same = fold-roll-IType IType (rename.type_step itself) x ∙ same

type-layer : (y : IType-F ((type : IType) × Kept (rename_type itself) type))
    → Kept (rename_type itself) (roll-IType (map-IType _ _ (λ p. p.0) y))
type-layer IType-F.Boolean = type-from IType-F.Boolean (sym types.rolls-Boolean)
type-layer IType-F.Byte = type-from IType-F.Byte (sym types.rolls-Byte)
type-layer IType-F.Short = type-from IType-F.Short (sym types.rolls-Short)
type-layer IType-F.Char = type-from IType-F.Char (sym types.rolls-Char)
type-layer IType-F.Int = type-from IType-F.Int (sym types.rolls-Int)
type-layer IType-F.Long = type-from IType-F.Long (sym types.rolls-Long)
type-layer IType-F.Void = type-from IType-F.Void (sym types.rolls-Void)
type-layer (IType-F.Class id) = type-from (IType-F.Class id) (sym (types.rolls-Class id))
type-layer (IType-F.Imported full rest) = type-from (IType-F.Imported full rest) (sym (types.rolls-Imported full rest))
type-layer (IType-F.Written text) = type-from (IType-F.Written text) (sym (types.rolls-Written text))
type-layer (IType-F.Array item) =
    type-from (IType-F.Array item.0) (ap (λ (t : IType). types.Array t) item.1 ∙ sym (types.rolls-Array item.0))

pub type-kept : (type : IType) → rename_type itself type ≡ type
type-kept = ind-IType (Kept (rename_type itself)) (λ x y is. subst (λ z. Kept (rename_type itself) (roll-IType z)) is (type-layer y))

-- ---- expressions

abbrev With : Type 0
With = (e : IExpr) × Kept (rename_expr itself) e

abbrev WithArgument : Type 0
WithArgument = (argument : Argument) × Kept (rename_argument itself) argument

abbrev bare : {X : Type 0} {P : X → Type 0} → List ((x : X) × P x) → List X
bare xs = map (λ p. p.0) xs

from : (x : IExpr-F IExpr Argument)
    → rename.expr_step itself (map-IExpr _ _ _ _ (rename_expr itself) (rename_argument itself) x) ≡ roll-IExpr x
    → Kept (rename_expr itself) (roll-IExpr x)
from x same = fold-roll-IExpr IExpr Argument (rename.expr_step itself) (rename.argument_step itself) x ∙ same

layer : (y : IExpr-F With WithArgument) → Kept (rename_expr itself) (roll-IExpr (map-IExpr _ _ _ _ (λ p. p.0) (λ p. p.0) y))
layer (IExpr-F.Lit text) = from (IExpr-F.Lit text) (sym (exprs.rolls-Lit text))
layer IExpr-F.This = from IExpr-F.This (sym exprs.rolls-This)
layer (IExpr-F.Local number) = from (IExpr-F.Local number) (sym (exprs.rolls-Local number))
layer (IExpr-F.Param id) = from (IExpr-F.Param id) (sym (exprs.rolls-Param id))
layer (IExpr-F.Own field) = from (IExpr-F.Own field) (sym (exprs.rolls-Own field))
layer (IExpr-F.StaticField field) = from (IExpr-F.StaticField field) (sym (exprs.rolls-StaticField field))
layer (IExpr-F.Field field e) = from (IExpr-F.Field field e.0) ((λ i. exprs.Field field (e.1 i)) ∙ sym (exprs.rolls-Field field e.0))
layer (IExpr-F.Call method args) =
    from (IExpr-F.Call method (bare args)) ((λ i. exprs.Call method (all-kept _ args i)) ∙ sym (exprs.rolls-Call method (bare args)))
layer (IExpr-F.StaticCall method args) =
    from (IExpr-F.StaticCall method (bare args)) ((λ i. exprs.StaticCall method (all-kept _ args i)) ∙ sym
    (exprs.rolls-StaticCall method (bare args)))
layer (IExpr-F.CallOn method e args) =
    from (IExpr-F.CallOn method e.0 (bare args)) ((λ i. exprs.CallOn method (e.1 i) (all-kept _ args i)) ∙ sym
    (exprs.rolls-CallOn method e.0 (bare args)))
layer (IExpr-F.SuperCall method args) =
    from (IExpr-F.SuperCall method (bare args)) ((λ i. exprs.SuperCall method (all-kept _ args i)) ∙ sym
    (exprs.rolls-SuperCall method (bare args)))
layer (IExpr-F.New constructor args) =
    from (IExpr-F.New constructor (bare args)) ((λ i. exprs.New constructor (all-kept _ args i)) ∙ sym
    (exprs.rolls-New constructor (bare args)))
layer (IExpr-F.NewDefault class) = from (IExpr-F.NewDefault class) (sym (exprs.rolls-NewDefault class))
layer (IExpr-F.Cond test a b) =
    from (IExpr-F.Cond test.0 a.0 b.0) ((λ i. exprs.Cond (test.1 i) (a.1 i) (b.1 i)) ∙ sym (exprs.rolls-Cond test.0 a.0 b.0))
layer (IExpr-F.OutsideName text) = from (IExpr-F.OutsideName text) (sym (exprs.rolls-OutsideName text))
layer (IExpr-F.OutsideClass full) = from (IExpr-F.OutsideClass full) (sym (exprs.rolls-OutsideClass full))
layer (IExpr-F.OutsideField text e) =
    from (IExpr-F.OutsideField text e.0) ((λ i. exprs.OutsideField text (e.1 i)) ∙ sym (exprs.rolls-OutsideField text e.0))
layer (IExpr-F.OutsideCall text args) =
    from (IExpr-F.OutsideCall text (bare args)) ((λ i. exprs.OutsideCall text (all-kept _ args i)) ∙ sym
    (exprs.rolls-OutsideCall text (bare args)))
layer (IExpr-F.OutsideCallOn text e args) =
    from (IExpr-F.OutsideCallOn text e.0 (bare args)) ((λ i. exprs.OutsideCallOn text (e.1 i) (all-kept _ args i)) ∙ sym
    (exprs.rolls-OutsideCallOn text e.0 (bare args)))
layer (IExpr-F.OutsideSuperCall text args) =
    from (IExpr-F.OutsideSuperCall text (bare args)) ((λ i. exprs.OutsideSuperCall text (all-kept _ args i)) ∙ sym
    (exprs.rolls-OutsideSuperCall text (bare args)))
layer (IExpr-F.NewOutside type args) =
    from (IExpr-F.NewOutside type (bare args)) ((λ i. exprs.NewOutside (type-kept type i) (all-kept _ args i)) ∙ sym
    (exprs.rolls-NewOutside type (bare args)))
layer (IExpr-F.NewArray type sizes pairs) =
    from (IExpr-F.NewArray type (bare sizes) pairs) ((λ i. exprs.NewArray (type-kept type i) (all-kept _ sizes i) pairs) ∙ sym
    (exprs.rolls-NewArray type (bare sizes) pairs))
layer (IExpr-F.ArrayLit type items) =
    from (IExpr-F.ArrayLit type (bare items)) ((λ i. exprs.ArrayLit (type-kept type i) (all-kept _ items i)) ∙ sym
    (exprs.rolls-ArrayLit type (bare items)))
layer (IExpr-F.Braces items) =
    from (IExpr-F.Braces (bare items)) ((λ i. exprs.Braces (all-kept _ items i)) ∙ sym (exprs.rolls-Braces (bare items)))
layer (IExpr-F.Index e k) = from (IExpr-F.Index e.0 k.0) ((λ i. exprs.Index (e.1 i) (k.1 i)) ∙ sym (exprs.rolls-Index e.0 k.0))
layer (IExpr-F.Unary op e) = from (IExpr-F.Unary op e.0) ((λ i. exprs.Unary op (e.1 i)) ∙ sym (exprs.rolls-Unary op e.0))
layer (IExpr-F.Post op e) = from (IExpr-F.Post op e.0) ((λ i. exprs.Post op (e.1 i)) ∙ sym (exprs.rolls-Post op e.0))
layer (IExpr-F.Binary op a b) =
    from (IExpr-F.Binary op a.0 b.0) ((λ i. exprs.Binary op (a.1 i) (b.1 i)) ∙ sym (exprs.rolls-Binary op a.0 b.0))
layer (IExpr-F.Assign op a b) =
    from (IExpr-F.Assign op a.0 b.0) ((λ i. exprs.Assign op (a.1 i) (b.1 i)) ∙ sym (exprs.rolls-Assign op a.0 b.0))
layer (IExpr-F.Cast type e) = from (IExpr-F.Cast type e.0) ((λ i. exprs.Cast (type-kept type i) (e.1 i)) ∙ sym (exprs.rolls-Cast type e.0))
layer (IExpr-F.InstanceOf e type) =
    from (IExpr-F.InstanceOf e.0 type) ((λ i. exprs.InstanceOf (e.1 i) (type-kept type i)) ∙ sym (exprs.rolls-InstanceOf e.0 type))

pub expr-kept : (e : IExpr) → rename_expr itself e ≡ e
expr-kept = ind-IExpr (Kept (rename_expr itself)) (Kept (rename_argument itself))
    (λ x y is. subst (λ z. Kept (rename_expr itself) (roll-IExpr z)) is (layer y))
    (λ x y is. subst (λ z. Kept (rename_argument itself) (roll-Argument z)) is
    (trees.renamed-argument itself y.param y.value.0 ∙ (λ i. record { param = y.param; value = y.value.1 i })))

argument-kept : (argument : Argument) → rename_argument itself argument ≡ argument
argument-kept argument = trees.renamed-argument itself argument.param argument.value
    ∙ (λ i. record { param = argument.param; value = expr-kept argument.value i })

-- ---- statements

declarator-kept : (d : IDeclarator) → rename_declarator itself d ≡ d
declarator-kept d = λ i. record { name = d.name; init = some-kept (rename_expr itself) expr-kept d.init i }

let-kept : (l : ILet) → rename_let itself l ≡ l
let-kept l = λ i. record {
  is_final = l.is_final;
  ty = type-kept l.ty i;
  names = each-kept (rename_declarator itself) declarator-kept l.names i;
}

start-kept : (start : IForStart) → rename_start itself start ≡ start
start-kept starts.None = refl
start-kept (starts.Let declared) = ap (λ (l : ILet). starts.Let l) (let-kept declared)
start-kept (starts.Do es) = ap (λ (es : List IExpr). starts.Do es) (each-kept (rename_expr itself) expr-kept es)

abbrev KeptElse : IElse → Type 0
KeptElse = Kept (rename_else itself)

abbrev KeptNode : IStmtNode → Type 0
KeptNode = Kept (rename_node itself)

abbrev KeptBlock : IBlock → Type 0
KeptBlock = Kept (rename_block itself)

abbrev KeptIf : IIf → Type 0
KeptIf = Kept (rename_if itself)

abbrev KeptStatement : IStmt → Type 0
KeptStatement = Kept (rename_statement itself)

node : (n : IStmtNode) (rolled : IStmtNode) → rolled ≡ n → rename_node itself n ≡ n → KeptNode rolled
node n rolled is kept = subst KeptNode (sym is) kept

node-layer : (y : IStmtNode-F ((e : IElse) × KeptElse e) ((n : IStmtNode) × KeptNode n) ((b : IBlock) × KeptBlock b) ((c : IIf) × KeptIf c)
    ((s : IStmt) × KeptStatement s))
    → KeptNode (roll-IStmtNode (map-IStmtNode _ _ _ _ _ _ _ _ _ _ (λ p. p.0) (λ p. p.0) (λ p. p.0) (λ p. p.0) (λ p. p.0) y))
node-layer (IStmtNode-F.IStmtNode::Block b) = node _ _ (nodes.rolls-Block b.0)
    (statements.renamed-Block itself b.0 ∙ ap (λ (b : IBlock). nodes.Block b) b.1)
node-layer (IStmtNode-F.Let l) = node _ _ (nodes.rolls-Let l)
    (statements.renamed-Let itself l ∙ ap (λ (l : ILet). nodes.Let l) (let-kept l))
node-layer (IStmtNode-F.Do e) = node _ _ (nodes.rolls-Do e)
    (statements.renamed-Do itself e ∙ ap (λ (e : IExpr). nodes.Do e) (expr-kept e))
node-layer (IStmtNode-F.IStmtNode::If c) = node _ _ (nodes.rolls-If c.0)
    (statements.renamed-If itself c.0 ∙ ap (λ (c : IIf). nodes.If c) c.1)
node-layer (IStmtNode-F.While test b) = node _ _ (nodes.rolls-While test b.0)
    (statements.renamed-While itself test b.0 ∙ (λ i. nodes.While (expr-kept test i) (b.1 i)))
node-layer (IStmtNode-F.For start test steps b) = node _ _ (nodes.rolls-For start test steps b.0)
    (statements.renamed-For itself start test steps b.0 ∙ (λ i. nodes.For (start-kept start i)
    (some-kept (rename_expr itself) expr-kept test i) (each-kept (rename_expr itself) expr-kept steps i) (b.1 i)))
node-layer (IStmtNode-F.Each is_final type text e b) = node _ _ (nodes.rolls-Each is_final type text e b.0)
    (statements.renamed-Each itself is_final type text e b.0 ∙ (λ i. nodes.Each is_final (type-kept type i) text (expr-kept e i) (b.1 i)))
node-layer (IStmtNode-F.Return e) = node _ _ (nodes.rolls-Return e)
    (statements.renamed-Return itself e ∙ ap (λ (e : Option IExpr). nodes.Return e) (some-kept (rename_expr itself) expr-kept e))
node-layer (IStmtNode-F.Throw e) = node _ _ (nodes.rolls-Throw e)
    (statements.renamed-Throw itself e ∙ ap (λ (e : IExpr). nodes.Throw e) (expr-kept e))
node-layer IStmtNode-F.Break = node _ _ nodes.rolls-Break (statements.renamed-Break itself)
node-layer IStmtNode-F.Continue = node _ _ nodes.rolls-Continue (statements.renamed-Continue itself)
node-layer IStmtNode-F.Empty = node _ _ nodes.rolls-Empty (statements.renamed-Empty itself)
node-layer (IStmtNode-F.Super constructor args) = node _ _ (nodes.rolls-Super constructor args)
    (statements.renamed-Super itself constructor args ∙ ap (nodes.Super constructor)
    (each-kept (rename_argument itself) argument-kept args))
node-layer (IStmtNode-F.SuperDefault class) = node _ _ (nodes.rolls-SuperDefault class) (statements.renamed-SuperDefault itself class)
node-layer (IStmtNode-F.SuperOutside args) = node _ _ (nodes.rolls-SuperOutside args)
    (statements.renamed-SuperOutside itself args
    ∙ ap (λ (es : List IExpr). nodes.SuperOutside es) (each-kept (rename_expr itself) expr-kept args))

else-layer : (y : IElse-F ((e : IElse) × KeptElse e) ((n : IStmtNode) × KeptNode n) ((b : IBlock) × KeptBlock b) ((c : IIf) × KeptIf c)
    ((s : IStmt) × KeptStatement s))
    → KeptElse (roll-IElse (map-IElse _ _ _ _ _ _ _ _ _ _ (λ p. p.0) (λ p. p.0) (λ p. p.0) (λ p. p.0) (λ p. p.0) y))
else-layer IElse-F.None = subst KeptElse (sym elses.rolls-None) (statements.renamed-no-else itself)
else-layer (IElse-F.IElse::Block b) = subst KeptElse (sym (elses.rolls-Block b.0))
    (statements.renamed-else-block itself b.0 ∙ ap (λ (b : IBlock). elses.Block b) b.1)
else-layer (IElse-F.IElse::If c) = subst KeptElse (sym (elses.rolls-If c.0))
    (statements.renamed-else-if itself c.0 ∙ ap (λ (c : IIf). elses.If c) c.1)

pub block-kept : (b : IBlock) → rename_block itself b ≡ b
block-kept = ind-IBlock KeptElse KeptNode KeptBlock KeptIf KeptStatement
    (λ x y is. subst (λ z. KeptElse (roll-IElse z)) is (else-layer y))
    (λ x y is. subst (λ z. KeptNode (roll-IStmtNode z)) is (node-layer y))
    (λ x y is. subst (λ z. KeptBlock (roll-IBlock z)) is (statements.renamed-block itself (map (λ p. p.0) y.items) y.tail
    ∙ ap (λ (items : List IStmt). block_of items y.tail) (all-kept (rename_statement itself) y.items)))
    (λ x y is. subst (λ z. KeptIf (roll-IIf z)) is (statements.renamed-branch itself y.test y.then.0 y.rest.0
    ∙ (λ i. branch_of (expr-kept y.test i) (y.then.1 i) (y.rest.1 i))))
    (λ x y is. subst (λ z. KeptStatement (roll-IStmt z)) is (statements.renamed-statement itself y.notes y.node.0
    ∙ (λ i. record { notes = y.notes; node = y.node.1 i })))

pub renamed_as_themselves : RenamedAsThemselves
renamed_as_themselves = record { types = type-kept; expressions = expr-kept; blocks = block-kept }
