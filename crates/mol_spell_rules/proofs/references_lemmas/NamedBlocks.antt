-- What a body mentions is what its references name.
use Rattle.std.proofs.Common.{ℕ, List, [], ◌∷◌, ◌++◌, map, Option, None, Some, refl, sym, subst, codes}
use Rattle.std.specs.List.{flat_map}
use Rattle.mol_table_rules.specs.Mentions as mention
use Rattle.mol_table_rules.specs.Mentions.{Mention, named, joined, type_mentions, expr_mentions, exprs_mentions, maybe_mentions, arguments_mentions, let_mentions, start_mentions, body_mentions}
use Rattle.mol_values_types.specs.declared.iblock.IBlock.{IBlock, fold-IBlock}
use Rattle.mol_values_types.specs.declared.iblock.IBody.{IBody}
use Rattle.mol_values_types.specs.declared.iblock.IDeclarator.{IDeclarator}
use Rattle.mol_values_types.specs.declared.iblock.IElse.{IElse, fold-IElse}
use Rattle.mol_values_types.specs.declared.iblock.IElse.TheFolds.{fold-roll-IElse, fold-roll-IStmtNode, fold-roll-IBlock, fold-roll-IIf, fold-roll-IStmt, map-IElse, map-IStmtNode, ind-IBlock}
use Rattle.mol_values_types.specs.declared.iblock.IElse.TheOpen.{IElse-F, IStmtNode-F, IBlock-F, IIf-F, IStmt-F}
use Rattle.mol_values_types.specs.declared.iblock.IElse.TheViews.{roll-IElse, roll-IStmtNode, roll-IBlock, roll-IIf, roll-IStmt}
use Rattle.mol_values_types.specs.declared.iblock.IForStart.{IForStart}
use Rattle.mol_values_types.specs.declared.iblock.IForStart.TheVariants as starts
use Rattle.mol_values_types.specs.declared.iblock.IIf.{IIf, fold-IIf}
use Rattle.mol_values_types.specs.declared.iblock.ILet.{ILet}
use Rattle.mol_values_types.specs.declared.iblock.IStmt.{IStmt, fold-IStmt}
use Rattle.mol_values_types.specs.declared.iblock.IStmtNode.{IStmtNode, fold-IStmtNode}
use Rattle.mol_values_types.specs.declared.iexpr.IExpr.{IExpr}
use Rattle.mol_values_types.specs.declared.param.Param.{Param}
use Rattle.mol_values_types.specs.declared.value.Value.{Value}
use Rattle.mol_values_types.specs.declared.value.Value.TheVariants as values
use Rattle.mol_spell_rules.specs.references.Named.{NameTheSame, printed_mentions, ReferencesName}
use Rattle.mol_spell_rules.specs.references.References as reference
use Rattle.mol_spell_rules.specs.references.References.{default_target, method_target, outside_target, References, type_references, expr_references, exprs_references, maybe_references, arguments_references, let_references, start_references, else_references, node_references, block_references, if_references, statement_references, body_references, references}
use Rattle.mol_spell_rules.proofs.references_lemmas.NamedExpressions.{both, outside, first, alone, nothing, types-name, expressions-name, all-name, arguments-name, maybe-name}

-- ---- declarations

declarators-name : (ds : List IDeclarator)
    → NameTheSame (flat_map (λ (d : IDeclarator). maybe_references d.init) ds) (flat_map (λ (d : IDeclarator). maybe_mentions d.init) ds)
declarators-name [] = nothing
declarators-name (d ∷ ds) = both (maybe_references d.init) _ (maybe_mentions d.init) _ (maybe-name d.init) (declarators-name ds)

let-name : (declared : ILet) → NameTheSame (let_references declared) (let_mentions declared)
let-name declared =
    both (type_references declared.ty) _ (type_mentions declared.ty) _ (types-name declared.ty) (declarators-name declared.names)

start-name : (start : IForStart) → NameTheSame (start_references start) (start_mentions start)
start-name starts.None = nothing
start-name (starts.Let declared) = let-name declared
start-name (starts.Do es) = all-name es

-- ---- what each part mentions

abbrev Mentioned : Type 0
Mentioned = List Mention

abbrev else_mentions : IElse → Mentioned
else_mentions = fold-IElse Mentioned Mentioned Mentioned Mentioned Mentioned mention.else_step mention.node_step mention.block_step
    mention.if_step mention.statement_step

abbrev node_mentions : IStmtNode → Mentioned
node_mentions = fold-IStmtNode Mentioned Mentioned Mentioned Mentioned Mentioned mention.else_step mention.node_step mention.block_step
    mention.if_step mention.statement_step

abbrev block_mentions : IBlock → Mentioned
block_mentions = fold-IBlock Mentioned Mentioned Mentioned Mentioned Mentioned mention.else_step mention.node_step mention.block_step
    mention.if_step mention.statement_step

abbrev if_mentions : IIf → Mentioned
if_mentions = fold-IIf Mentioned Mentioned Mentioned Mentioned Mentioned mention.else_step mention.node_step mention.block_step
    mention.if_step mention.statement_step

abbrev statement_mentions : IStmt → Mentioned
statement_mentions = fold-IStmt Mentioned Mentioned Mentioned Mentioned Mentioned mention.else_step mention.node_step mention.block_step
    mention.if_step mention.statement_step

abbrev ElseNames : IElse → Type 0
ElseNames e = NameTheSame (else_references e) (else_mentions e)

abbrev NodeNames : IStmtNode → Type 0
NodeNames n = NameTheSame (node_references n) (node_mentions n)

abbrev BlockNames : IBlock → Type 0
BlockNames b = NameTheSame (block_references b) (block_mentions b)

abbrev IfNames : IIf → Type 0
IfNames i = NameTheSame (if_references i) (if_mentions i)

abbrev StmtNames : IStmt → Type 0
StmtNames s = NameTheSame (statement_references s) (statement_mentions s)

-- ---- what follows `else`

else-from : (x : IElse-F IElse IStmtNode IBlock IIf IStmt)
    → NameTheSame (reference.else_step
    (map-IElse _ _ _ _ _ _ _ _ _ _ else_references node_references block_references if_references statement_references x))
    (mention.else_step (map-IElse _ _ _ _ _ _ _ _ _ _ else_mentions node_mentions block_mentions if_mentions statement_mentions x))
    → ElseNames (roll-IElse x)
else-from x same = subst (λ rs. NameTheSame rs (else_mentions (roll-IElse x)))
    (sym (fold-roll-IElse References References References References References reference.else_step reference.node_step
    reference.block_step reference.if_step reference.statement_step x))
    (subst (NameTheSame _)
    (sym (fold-roll-IElse Mentioned Mentioned Mentioned Mentioned Mentioned mention.else_step mention.node_step mention.block_step
    mention.if_step mention.statement_step x)) same)

abbrev WithElse : Type 0
WithElse = (e : IElse) × ElseNames e

abbrev WithNode : Type 0
WithNode = (n : IStmtNode) × NodeNames n

abbrev WithBlock : Type 0
WithBlock = (b : IBlock) × BlockNames b

abbrev WithIf : Type 0
WithIf = (i : IIf) × IfNames i

abbrev WithStmt : Type 0
WithStmt = (s : IStmt) × StmtNames s

else-layer : (y : IElse-F WithElse WithNode WithBlock WithIf WithStmt)
    → ElseNames (roll-IElse (map-IElse _ _ _ _ _ _ _ _ _ _ (λ p. p.0) (λ p. p.0) (λ p. p.0) (λ p. p.0) (λ p. p.0) y))
else-layer IElse-F.None = else-from IElse-F.None nothing
else-layer (IElse-F.IElse::Block b) = else-from (IElse-F.IElse::Block b.0) b.1
else-layer (IElse-F.IElse::If i) = else-from (IElse-F.IElse::If i.0) i.1

-- ---- statements

node-from : (x : IStmtNode-F IElse IStmtNode IBlock IIf IStmt)
    → NameTheSame (reference.node_step
    (map-IStmtNode _ _ _ _ _ _ _ _ _ _ else_references node_references block_references if_references statement_references x))
    (mention.node_step (map-IStmtNode _ _ _ _ _ _ _ _ _ _ else_mentions node_mentions block_mentions if_mentions statement_mentions x))
    → NodeNames (roll-IStmtNode x)
node-from x same = subst (λ rs. NameTheSame rs (node_mentions (roll-IStmtNode x)))
    (sym (fold-roll-IStmtNode References References References References References reference.else_step reference.node_step
    reference.block_step reference.if_step reference.statement_step x))
    (subst (NameTheSame _)
    (sym (fold-roll-IStmtNode Mentioned Mentioned Mentioned Mentioned Mentioned mention.else_step mention.node_step mention.block_step
    mention.if_step mention.statement_step x)) same)

node-layer : (y : IStmtNode-F WithElse WithNode WithBlock WithIf WithStmt)
    → NodeNames (roll-IStmtNode (map-IStmtNode _ _ _ _ _ _ _ _ _ _ (λ p. p.0) (λ p. p.0) (λ p. p.0) (λ p. p.0) (λ p. p.0) y))
node-layer (IStmtNode-F.IStmtNode::Block b) = node-from (IStmtNode-F.IStmtNode::Block b.0) b.1
node-layer (IStmtNode-F.Let declared) = node-from (IStmtNode-F.Let declared) (let-name declared)
node-layer (IStmtNode-F.Do e) = node-from (IStmtNode-F.Do e) (expressions-name e)
node-layer (IStmtNode-F.IStmtNode::If i) = node-from (IStmtNode-F.IStmtNode::If i.0) i.1
node-layer (IStmtNode-F.While test b) = node-from (IStmtNode-F.While test b.0) (both _ _ _ _ (expressions-name test) b.1)
node-layer (IStmtNode-F.For start test steps b) =
    node-from (IStmtNode-F.For start test steps b.0)
    (both _ _ _ _ (both _ _ _ _ (both _ _ _ _ (start-name start) (maybe-name test)) (all-name steps)) b.1)
node-layer (IStmtNode-F.Each is_final type name e b) =
    node-from (IStmtNode-F.Each is_final type name e b.0) (both _ _ _ _ (both _ _ _ _ (types-name type) (expressions-name e)) b.1)
node-layer (IStmtNode-F.Return e) = node-from (IStmtNode-F.Return e) (maybe-name e)
node-layer (IStmtNode-F.Throw e) = node-from (IStmtNode-F.Throw e) (expressions-name e)
node-layer IStmtNode-F.Break = node-from IStmtNode-F.Break nothing
node-layer IStmtNode-F.Continue = node-from IStmtNode-F.Continue nothing
node-layer IStmtNode-F.Empty = node-from IStmtNode-F.Empty nothing
node-layer (IStmtNode-F.Super constructor args) =
    node-from (IStmtNode-F.Super constructor args)
    (first method_target (λ id named. refl) mention.a_constructor constructor _ _ (arguments-name args))
node-layer (IStmtNode-F.SuperDefault class) =
    node-from (IStmtNode-F.SuperDefault class) (alone default_target (λ id named. refl) mention.a_class class)
node-layer (IStmtNode-F.SuperOutside args) = node-from (IStmtNode-F.SuperOutside args) (outside (codes "super") _ _ (all-name args))

-- ---- blocks

each_statement : (items : List WithStmt)
    → NameTheSame (reference.joined (map statement_references (map (λ p. p.0) items)))
    (joined (map statement_mentions (map (λ p. p.0) items)))
each_statement [] = nothing
each_statement (s ∷ items) = both (statement_references s.0) _ (statement_mentions s.0) _ s.1 (each_statement items)

block-layer : (items : List WithStmt) (tail : List (List ℕ))
    → BlockNames (roll-IBlock (record { items = map (λ p. p.0) items; tail = tail }))
block-layer items tail = subst (λ rs. NameTheSame rs (block_mentions (roll-IBlock block)))
    (sym (fold-roll-IBlock References References References References References reference.else_step reference.node_step
    reference.block_step reference.if_step reference.statement_step block))
    (subst (NameTheSame _)
    (sym (fold-roll-IBlock Mentioned Mentioned Mentioned Mentioned Mentioned mention.else_step mention.node_step mention.block_step
    mention.if_step mention.statement_step block))
    (each_statement items)) where
      block : IBlock-F IElse IStmtNode IBlock IIf IStmt
      block = record { items = map (λ p. p.0) items; tail = tail }

if-layer : (test : IExpr) (then : WithBlock) (rest : WithElse) → IfNames (roll-IIf (record { test = test; then = then.0; rest = rest.0 }))
if-layer test then rest = subst (λ rs. NameTheSame rs (if_mentions (roll-IIf branch)))
    (sym (fold-roll-IIf References References References References References reference.else_step reference.node_step reference.block_step
    reference.if_step reference.statement_step branch))
    (subst (NameTheSame _)
    (sym (fold-roll-IIf Mentioned Mentioned Mentioned Mentioned Mentioned mention.else_step mention.node_step mention.block_step
    mention.if_step mention.statement_step branch))
    (both (expr_references test ++ block_references then.0) (else_references rest.0) (expr_mentions test ++ block_mentions then.0)
    (else_mentions rest.0)
    (both (expr_references test) (block_references then.0) (expr_mentions test) (block_mentions then.0) (expressions-name test) then.1)
    rest.1)) where
      branch : IIf-F IElse IStmtNode IBlock IIf IStmt
      branch = record { test = test; then = then.0; rest = rest.0 }

statement-layer : (notes : List (List ℕ)) (node : WithNode) → StmtNames (roll-IStmt (record { notes = notes; node = node.0 }))
statement-layer notes node = subst (λ rs. NameTheSame rs (statement_mentions (roll-IStmt statement)))
    (sym (fold-roll-IStmt References References References References References reference.else_step reference.node_step
    reference.block_step reference.if_step reference.statement_step statement))
    (subst (NameTheSame _)
    (sym (fold-roll-IStmt Mentioned Mentioned Mentioned Mentioned Mentioned mention.else_step mention.node_step mention.block_step
    mention.if_step mention.statement_step statement))
    node.1) where
      statement : IStmt-F IElse IStmtNode IBlock IIf IStmt
      statement = record { notes = notes; node = node.0 }

blocks-name : (b : IBlock) → BlockNames b
blocks-name = ind-IBlock ElseNames NodeNames BlockNames IfNames StmtNames
    (λ x y is. subst (λ z. ElseNames (roll-IElse z)) is (else-layer y))
    (λ x y is. subst (λ z. NodeNames (roll-IStmtNode z)) is (node-layer y))
    (λ x y is. subst (λ z. BlockNames (roll-IBlock z)) is (block-layer y.items y.tail))
    (λ x y is. subst (λ z. IfNames (roll-IIf z)) is (if-layer y.test y.then y.rest))
    (λ x y is. subst (λ z. StmtNames (roll-IStmt z)) is (statement-layer y.notes y.node))

pub bodies-name : (body : Option IBody) → NameTheSame (body_references body) (body_mentions body)
bodies-name None = nothing
bodies-name (Some body) = blocks-name body.block

-- ---- values

params-name : (params : List Param)
    → NameTheSame (flat_map (λ (param : Param). type_references param.ty) params)
    (flat_map (λ (param : Param). type_mentions param.ty) params)
params-name [] = nothing
params-name (param ∷ params) = both (type_references param.ty) _ (type_mentions param.ty) _ (types-name param.ty) (params-name params)

values-name : (value : Value) → NameTheSame (references value) (printed_mentions value)
values-name (values.Super None) = nothing
values-name (values.Super (Some parent)) = types-name parent
values-name (values.Result type) = types-name type
values-name (values.Params params) = params-name params
values-name (values.Body body) = bodies-name body
values-name (values.Value type init) = both (type_references type) _ (type_mentions type) _ (types-name type) (maybe-name init)
values-name value = nothing

pub references_name : ReferencesName
references_name = record { types = types-name; expressions = expressions-name; bodies = bodies-name; values = values-name }
