-- The references of worked expressions and statements.
use Rattle.std.proofs.Common.{◌≡◌, ℕ, false, List, [], ◌∷◌, Some, codes, refl, sym, ap, ◌∙◌}
use Rattle.mol_base.specs.declared.ident.Id.{Id}
use Rattle.mol_values_types.specs.Blocks.{block_of}
use Rattle.mol_values_types.specs.declared.iblock.IElse.TheFolds.{fold-roll-IBlock}
use Rattle.mol_values_types.specs.declared.iblock.IForStart.TheVariants as starts
use Rattle.mol_values_types.specs.declared.iblock.ILet.{ILet}
use Rattle.mol_values_types.specs.declared.iblock.IStmtNode.TheVariants as nodes
use Rattle.mol_values_types.specs.declared.iexpr.Argument.{Argument}
use Rattle.mol_values_types.specs.declared.iexpr.IExpr.{IExpr}
use Rattle.mol_values_types.specs.declared.iexpr.IExpr.TheOpen.{IExpr-F}
use Rattle.mol_values_types.specs.declared.iexpr.IExpr.TheVariants as exprs
use Rattle.mol_values_types.specs.declared.itype.IType.TheFolds.{fold-roll-IType}
use Rattle.mol_values_types.specs.declared.itype.IType.TheOpen.{IType-F}
use Rattle.mol_values_types.specs.declared.itype.IType.TheVariants as types
use Rattle.mol_spell_rules.specs.references.References as reference
use Rattle.mol_spell_rules.specs.references.References.{method_target, local_target, outside_target, References, type_references, expr_references, block_references, node_references}
use Rattle.mol_spell_rules.proofs.references_lemmas.PartsInOrder.{rolled, expressions_in_order, statements_in_order}

abbrev base : ℕ → Id
base n = record { tag = []; num = n }

-- ---- how the least parts print

references-Local : (number : ℕ) → expr_references (exprs.Local number) ≡ local_target number ∷ []
references-Local number = ap expr_references (sym (exprs.rolls-Local number)) ∙ rolled (IExpr-F.Local number)

references-Lit : (text : List ℕ) → expr_references (exprs.Lit text) ≡ []
references-Lit text = ap expr_references (sym (exprs.rolls-Lit text)) ∙ rolled (IExpr-F.Lit text)

references-OutsideName : (text : List ℕ) → expr_references (exprs.OutsideName text) ≡ outside_target text ∷ []
references-OutsideName text = ap expr_references (sym (exprs.rolls-OutsideName text)) ∙ rolled (IExpr-F.OutsideName text)

references-Written : (text : List ℕ) → type_references (types.Written text) ≡ outside_target text ∷ []
references-Written text =
    ap type_references (sym (types.rolls-Written text)) ∙ fold-roll-IType References reference.type_step (IType-F.Written text)

references-Imported : (import rest : List ℕ)
    → type_references (types.Imported import rest) ≡ reference.type_step (IType-F.Imported import rest)
references-Imported import rest =
    ap type_references (sym (types.rolls-Imported import rest))
    ∙ fold-roll-IType References reference.type_step (IType-F.Imported import rest)

references-empty : block_references (block_of [] []) ≡ []
references-empty = fold-roll-IBlock References References References References References reference.else_step reference.node_step
    reference.block_step reference.if_step reference.statement_step (record { items = []; tail = [] })

-- the locals `a`, `b`, `c` and `d`
abbrev a : IExpr
a = exprs.Local 0

abbrev b : IExpr
b = exprs.Local 1

abbrev c : IExpr
c = exprs.Local 2

abbrev d : IExpr
d = exprs.Local 3

-- an argument for the parameter of this number
abbrev argument : ℕ → IExpr → Argument
argument number value = record { param = base number; value = value }

-- ---- expressions

-- `a[c].b(c)`: a, the brackets, c, b, c
array_then_call : expr_references (exprs.CallOn (base 5) (exprs.Index a c) (argument 6 c ∷ []))
    ≡ local_target 0 ∷ outside_target (codes "[]") ∷ local_target 2 ∷ method_target (base 5) ∷ local_target 2 ∷ []
array_then_call = rw (
  expressions_in_order.call_on (base 5) (exprs.Index a c) (argument 6 c ∷ []),
  expressions_in_order.index a c,
  references-Local 0,
  references-Local 2,
) refl

-- `Math.abs(1)`, outside: `Math` is the first reference, numbered 0
outside_call : expr_references (exprs.OutsideCallOn (codes "abs") (exprs.OutsideName (codes "Math")) (exprs.Lit (codes "1") ∷ []))
    ≡ outside_target (codes "Math") ∷ outside_target (codes "abs") ∷ []
outside_call = rw (
  expressions_in_order.outside_call_on (codes "abs") (exprs.OutsideName (codes "Math")) (exprs.Lit (codes "1") ∷ []),
  references-OutsideName (codes "Math"),
  references-Lit (codes "1"),
) refl

-- `a ? b : c`
choice : expr_references (exprs.Cond a b c) ≡ local_target 0 ∷ local_target 1 ∷ local_target 2 ∷ []
choice = rw (expressions_in_order.choice a b c, references-Local 0, references-Local 1, references-Local 2) refl

-- `a instanceof Date`: the value prints before the type
test_of_type : expr_references (exprs.InstanceOf a (types.Written (codes "Date"))) ≡ local_target 0 ∷ outside_target (codes "Date") ∷ []
test_of_type =
    rw (expressions_in_order.instance a (types.Written (codes "Date")), references-Local 0, references-Written (codes "Date")) refl

-- `(Map.Entry) a`, under `import java.util.Map`: the type is one reference, by its full name and what follows it
cast_to_imported : expr_references (exprs.Cast (types.Imported (codes "java.util.Map") (codes "Entry")) a)
    ≡ outside_target (codes "java.util.Map.Entry") ∷ local_target 0 ∷ []
cast_to_imported = rw (
  expressions_in_order.cast (types.Imported (codes "java.util.Map") (codes "Entry")) a,
  references-Imported (codes "java.util.Map") (codes "Entry"),
  references-Local 0,
) refl

-- `new C(b, a)`, by the constructor 5: the name after `new`, then the arguments as they print
creation : expr_references (exprs.New (base 5) (argument 6 b ∷ argument 7 a ∷ []))
    ≡ method_target (base 5) ∷ local_target 1 ∷ local_target 0 ∷ []
creation = rw (
  expressions_in_order.creation (base 5) (argument 6 b ∷ argument 7 a ∷ []),
  references-Local 1,
  references-Local 0,
) refl

-- ---- statements

-- `Date c = a, d = b;`: the type once, then the first values; the names that are declared are none
abbrev two_dates : ILet
two_dates = record {
  is_final = false;
  ty = types.Written (codes "Date");
  names = record { name = codes "c"; init = Some a } ∷ record { name = codes "d"; init = Some b } ∷ [];
}

declaration : node_references (nodes.Let two_dates) ≡ outside_target (codes "Date") ∷ local_target 0 ∷ local_target 1 ∷ []
declaration = rw (
  statements_in_order.declaration two_dates,
  references-Written (codes "Date"),
  references-Local 0,
  references-Local 1,
) refl

-- `for (Date c = a, d = b; d; c) {}`: the header as it prints, so the test before the step, and then the block
loop : node_references (nodes.For (starts.Let two_dates) (Some d) (c ∷ []) (block_of [] []))
    ≡ outside_target (codes "Date") ∷ local_target 0 ∷ local_target 1 ∷ local_target 3 ∷ local_target 2 ∷ []
loop = rw (
  statements_in_order.for (starts.Let two_dates) (Some d) (c ∷ []) (block_of [] []),
  references-Written (codes "Date"),
  references-Local 0,
  references-Local 1,
  references-Local 3,
  references-Local 2,
  references-empty,
) refl

-- `for (Date c : a) {}`
loop_over_items : node_references (nodes.Each false (types.Written (codes "Date")) (codes "c") a (block_of [] []))
    ≡ outside_target (codes "Date") ∷ local_target 0 ∷ []
loop_over_items = rw (
  statements_in_order.each false (types.Written (codes "Date")) (codes "c") a (block_of [] []),
  references-Written (codes "Date"),
  references-Local 0,
  references-empty,
) refl
