-- Statements and bodies that have their form, and such that have none.
use Rattle.std.specs.Prelude.{◌≡◌, Bool, true, false, ◌&&◌, ◌||◌, not, nat_le, List, [], ◌∷◌, ℕ, map, length, None, Some, codes}
use Rattle.std.proofs.Common.{refl, sym, ap, ◌∙◌}
use Rattle.std.specs.List.{list_all}
use Rattle.mol_base.specs.declared.ident.Id.{Id}
use Rattle.mol_table_rules.specs.ExpressionForms.{Shape, is_statement, is_value, plain}
use Rattle.mol_table_rules.specs.Forms.{is_formed}
use Rattle.mol_table_rules.specs.StatementForms.{BlockShape, StatementShape, are_formed, block_shape, is_declarator, is_let, is_start}
use Rattle.mol_table_rules.specs.StatementForms.{block_step, else_step, if_step, node_step, statement_step}
use Rattle.mol_values_types.specs.TokenForms.{is_literal}
use Rattle.mol_table_rules.specs.TypeForms.{is_type}
use Rattle.mol_values_types.specs.Blocks.{block_of}
use Rattle.mol_values_types.specs.declared.iblock.IBlock.{IBlock}
use Rattle.mol_values_types.specs.declared.iblock.IDeclarator.{IDeclarator}
use Rattle.mol_values_types.specs.declared.iblock.IElse.{IElse}
use Rattle.mol_values_types.specs.declared.iblock.IElse.TheFolds.{fold-roll-IBlock, fold-roll-IStmt, fold-roll-IStmtNode, map-IStmtNode}
use Rattle.mol_values_types.specs.declared.iblock.IElse.TheOpen.{IStmtNode-F}
use Rattle.mol_values_types.specs.declared.iblock.IElse.TheViews.{roll-IStmt, roll-IStmtNode}
use Rattle.mol_values_types.specs.declared.iblock.IForStart.TheVariants as starts
use Rattle.mol_values_types.specs.declared.iblock.IIf.{IIf}
use Rattle.mol_values_types.specs.declared.iblock.IStmt.{IStmt}
use Rattle.mol_values_types.specs.declared.iblock.IStmtNode.{IStmtNode}
use Rattle.mol_values_types.specs.declared.iblock.IStmtNode.TheVariants as nodes
use Rattle.mol_values_types.specs.declared.iexpr.IExpr.TheVariants as exprs
use Rattle.mol_values_types.specs.declared.itype.IType.TheVariants as types
use Rattle.mol_values_types.specs.declared.known.Known.TheVariants as knowns
use Rattle.mol_values_types.specs.declared.value.Value.TheVariants as values
use Rattle.mol_table_rules.proofs.KeptBlocks.{else_form, if_form, node_shape, statement_shape}
use Rattle.test_table_rules.proofs.ExpressionForms.{braces_elsewhere, shape-Lit}
use Rattle.test_table_rules.proofs.Given.{base, never, never-then}
use Rattle.test_table_rules.proofs.TokenForms.{no_comment, no_name}
use Rattle.test_table_rules.proofs.TypeForms.{no_void}

-- the shape of a statement, by those of its parts
node-shaped : {node : IStmtNode} (x : IStmtNode-F IElse IStmtNode IBlock IIf IStmt) → roll-IStmtNode x ≡ node
    → node_shape node ≡ node_step (map-IStmtNode _ _ _ _ _ _ _ _ _ _ else_form node_shape block_shape if_form statement_shape x)
node-shaped x is =
    ap node_shape (sym is)
    ∙ fold-roll-IStmtNode Bool StatementShape BlockShape Bool StatementShape else_step node_step block_step if_step statement_step x

block-shaped : (items : List IStmt) (tail : List (List ℕ))
    → block_shape (block_of items tail) ≡ block_step (record { items = map statement_shape items; tail = tail })
block-shaped items tail =
    fold-roll-IBlock Bool StatementShape BlockShape Bool StatementShape else_step node_step block_step if_step statement_step
    (record { items = items; tail = tail })

-- a statement with these comments before it
abbrev noted : List (List ℕ) → IStmtNode → IStmt
noted notes node = roll-IStmt (record { notes = notes; node = node })

abbrev statement : IStmtNode → IStmt
statement node = noted [] node

statement-shaped : (notes : List (List ℕ)) (node : IStmtNode)
    → statement_shape (noted notes node) ≡ statement_step (record { notes = notes; node = node_shape node })
statement-shaped notes node =
    fold-roll-IStmt Bool StatementShape BlockShape Bool StatementShape else_step node_step block_step if_step statement_step
    (record { notes = notes; node = node })

-- ---- the parts of statements

-- `1;`
literal_as_a_statement : is_statement (exprs.Lit (codes "1")) ≡ false
literal_as_a_statement =
    ap (λ (shape : Shape). is_value shape && shape.statement) (shape-Lit (codes "1"))
    ∙ never (is_value (plain (is_literal (codes "1"))))

no_variable : is_let (record { is_final = false; ty = types.Int; names = [] }) ≡ false
no_variable = never-then (is_type types.Int) true

void_variable : (names : List IDeclarator) → is_let (record { is_final = false; ty = types.Void; names = names }) ≡ false
void_variable names = ap (λ b. (b && nat_le 1 (length names)) && list_all is_declarator names) no_void

nameless_variable : is_declarator (record { name = []; init = None }) ≡ false
nameless_variable = ap (λ b. b && true) no_name

no_start : is_start (starts.Do []) ≡ false
no_start = refl

bare_start : is_start starts.None ≡ true
bare_start = refl

abbrev has_form : IStmtNode → Bool
has_form node = (node_shape node).formed

-- `return {};`
braces_returned : has_form (nodes.Return (Some (exprs.Braces []))) ≡ false
braces_returned =
    ap (λ (shape : StatementShape). shape.formed)
    (node-shaped (IStmtNode-F.Return (Some (exprs.Braces []))) (nodes.rolls-Return (Some (exprs.Braces []))))
    ∙ braces_elsewhere

-- `return;`
nothing_returned : has_form (nodes.Return None) ≡ true
nothing_returned = ap (λ (shape : StatementShape). shape.formed) (node-shaped (IStmtNode-F.Return None) (nodes.rolls-Return None))

-- `throw {};`
braces_thrown : has_form (nodes.Throw (exprs.Braces [])) ≡ false
braces_thrown =
    ap (λ (shape : StatementShape). shape.formed)
    (node-shaped (IStmtNode-F.Throw (exprs.Braces [])) (nodes.rolls-Throw (exprs.Braces [])))
    ∙ braces_elsewhere

-- `while ({}) ..`
braces_tested : (block : IBlock) → has_form (nodes.While (exprs.Braces []) block) ≡ false
braces_tested block =
    ap (λ (shape : StatementShape). shape.formed)
    (node-shaped (IStmtNode-F.While (exprs.Braces []) block) (nodes.rolls-While (exprs.Braces []) block))
    ∙ ap (λ b. b && (block_shape block).formed) braces_elsewhere

-- ---- comments before statements and at the end of a block

no_note : (node : IStmtNode) → (statement_shape (noted ([] ∷ []) node)).formed ≡ false
no_note node =
    ap (λ (shape : StatementShape). shape.formed) (statement-shaped ([] ∷ []) node)
    ∙ ap (λ b. (b && true) && (node_shape node).formed) no_comment

no_last_note : (block_shape (block_of [] ([] ∷ []))).body ≡ false
no_last_note =
    ap (λ (shape : BlockShape). shape.body) (block-shaped [] ([] ∷ [])) ∙ ap (λ b. (true && (b && true)) && true) no_comment

-- ---- `super(..)` stands first in a body, and nowhere else

abbrev default_super : Id → IStmt
default_super class = statement (nodes.SuperDefault class)

super-shaped : (class : Id) → statement_shape (default_super class) ≡ record { formed = true; is_super = true }
super-shaped class =
    statement-shaped [] (nodes.SuperDefault class)
    ∙ ap (λ (shape : StatementShape). record { formed = true && shape.formed; is_super = shape.is_super })
    (node-shaped (IStmtNode-F.SuperDefault class) (nodes.rolls-SuperDefault class))

first_super : (class : Id) → (block_shape (block_of (default_super class ∷ []) [])).body ≡ true
first_super class =
    ap (λ (shape : BlockShape). shape.body) (block-shaped (default_super class ∷ []) [])
    ∙ ap (λ (shape : StatementShape). ((shape.formed && true) && true) && true) (super-shaped class)

inner_super : (class : Id) → (block_shape (block_of (default_super class ∷ []) [])).formed ≡ false
inner_super class =
    ap (λ (shape : BlockShape). shape.formed) (block-shaped (default_super class ∷ []) [])
    ∙ ap (λ (shape : StatementShape). ((shape.formed && true) && true) && not (shape.is_super || false)) (super-shaped class)

-- `; super();`
abbrev late : Id → List IStmt
late class = statement nodes.Empty ∷ default_super class ∷ []

late_super : (class : Id) → (block_shape (block_of (late class) [])).body ≡ false
late_super class =
    ap (λ (shape : BlockShape). shape.body) (block-shaped (late class) [])
    ∙ ap (λ (shape : StatementShape). (are_formed (map statement_shape (late class)) && true) && not (shape.is_super || false))
    (super-shaped class)
    ∙ never (are_formed (map statement_shape (late class)) && true)

-- the value of a cell
body_with_late_super : (class : Id)
    → is_formed (knowns.Decl (base 1)) (values.Body (Some (record { block = block_of (late class) [] }))) ≡ false
body_with_late_super class = late_super class
