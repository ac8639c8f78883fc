-- Which faults are met where a part has one already. The class `shop.Desk` extends nothing and declares no constructor.
use Rattle.std.proofs.Common.{◌≡◌, ℕ, [], ◌∷◌, Some, codes, refl}
use Rattle.jav_tree.specs.Expressions.{expr_at}
use Rattle.jav_tree.specs.declared.expr.Expr.{Expr}
use Rattle.jav_tree.specs.declared.expr.ExprNode.TheVariants as node
use Rattle.jav_tree.specs.declared.stmt.Declarator.{Declarator}
use Rattle.jav_tree.specs.declared.stmt.Else.TheOpen.{StmtNode-F}
use Rattle.jav_tree.specs.declared.types.TypeName.TheVariants as types
use Rattle.jav_names.proofs.WrittenTypes.{type_in-Named}
use Rattle.mol_resolve_rules.specs.FaultKinds.{redeclared, unknown_name, unknown_member}
use Rattle.mol_resolve_rules.specs.Locals.{Locals, no_locals}
use Rattle.mol_resolve_rules.specs.ReadStatements as statements
use Rattle.mol_resolve_rules.specs.ReadStatements.{declaring, read_declarator}
use Rattle.mol_resolve_rules.specs.ReadTrees.{read_expr}
use Rattle.mol_resolve_rules.proofs.ExampleDesk.{int, in_desk, name}
use Rattle.mol_resolve_rules.proofs.ReadEquations.{reads-Name, reads-New, one-read, tree-Named}

-- Nothing is named `foo`.
abbrev foo : ℕ → Expr
foo at = name at "foo"

-- `new Desk(foo)`: no constructor takes one argument, whatever the argument means
abbrev new_desk : Expr
new_desk = expr_at 0 (node.New (types.Named (codes "Desk")) (foo 9 ∷ []))

argument_of_creation : (read_expr in_desk no_locals new_desk).faults
    ≡ record { kind = unknown_name; at = 9 } ∷ record { kind = unknown_member; at = 0 } ∷ []
argument_of_creation = rw (
  reads-New in_desk 0 (types.Named (codes "Desk")) (foo 9 ∷ []) _ (one-read in_desk (foo 9) _ (reads-Name in_desk 9 (codes "foo"))),
  tree-Named in_desk (codes "Desk"),
  type_in-Named in_desk.view.classes in_desk.header (codes "Desk"),
) refl

-- and so for `super(foo);` in a constructor
argument_of_super : (statements.node_step in_desk (StmtNode-F.SuperInit (foo 6 ∷ [])) 0 no_locals).outcome.faults
    ≡ record { kind = unknown_name; at = 6 } ∷ record { kind = unknown_member; at = 0 } ∷ []
argument_of_super = rw (reads-Name in_desk 6 (codes "foo")) refl

-- `new Desk.X(foo)`: the type is a part as the argument is, and each tells its own fault
abbrev new_x : Expr
new_x = expr_at 0 (node.New (types.Named (codes "Desk.X")) (foo 11 ∷ []))

type_and_argument : (read_expr in_desk no_locals new_x).faults
    ≡ record { kind = unknown_name; at = 11 } ∷ record { kind = unknown_member; at = 0 } ∷ []
type_and_argument = rw (
  reads-New in_desk 0 (types.Named (codes "Desk.X")) (foo 11 ∷ []) _ (one-read in_desk (foo 11) _ (reads-Name in_desk 11 (codes "foo"))),
  tree-Named in_desk (codes "Desk.X"),
) refl

-- `int a; int a = foo;`: that a local is declared again does not hang on its first value
abbrev again : Declarator
again = record { name = codes "a"; init = Some (foo 15) }

abbrev with_a : Locals ℕ
with_a = declaring in_desk int (codes "a") no_locals

redeclared_and_faulty : (read_declarator in_desk 7 int again with_a).outcome.faults
    ≡ record { kind = redeclared; at = 7 } ∷ record { kind = unknown_name; at = 15 } ∷ []
redeclared_and_faulty = rw (reads-Name in_desk 15 (codes "foo")) refl
