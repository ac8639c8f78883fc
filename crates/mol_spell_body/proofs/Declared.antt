-- How declarations of locals are written, from their parts (JLS 14.4).
use Rattle.std.proofs.Common.{◌≡◌, List, map, Option, Some, None, option_map, refl, sym, ap, ◌∙◌}
use Rattle.mol_base.specs.declared.ident.Id.{Id}
use Rattle.mol_spell_body.proofs.InTurn.{declared_stays, none_declared}
use Rattle.mol_spell_body.specs.GoesOn.{GoesOn}
use Rattle.mol_spell_body.specs.Made as made
use Rattle.jav_tree.specs.declared.expr.Expr.{Expr}
use Rattle.jav_tree.specs.declared.stmt.Declarator.{Declarator}
use Rattle.jav_tree.specs.declared.stmt.Let.{Let}
use Rattle.jav_tree.specs.declared.types.TypeName.{TypeName}
use Rattle.mol_resolve_rules.specs.Locals.{Locals, declare}
use Rattle.mol_resolve_rules.specs.ProgramViews.{seen}
use Rattle.mol_spell_rules.specs.SpelledExpressions.{spelled_expr}
use Rattle.mol_spell_rules.specs.SpelledStatements.{SpelledPart, declarator, declared_type, each, maybe_expr, spelled_let}
use Rattle.mol_spell_rules.specs.Writers.{Writer}
use Rattle.mol_values_types.specs.declared.iblock.IDeclarator.{IDeclarator}
use Rattle.mol_values_types.specs.declared.iblock.ILet.{ILet}
use Rattle.mol_values_types.specs.declared.iexpr.IExpr.{IExpr}
use Rattle.mol_values_types.specs.declared.itype.IType.{IType}

module _ (writer : Writer) (locals : Locals Id) where
  abbrev pub tree_of : IExpr → Expr
  tree_of e = (spelled_expr writer locals e).tree

  maybe-tree : (e : Option IExpr) → (maybe_expr writer e locals).tree ≡ option_map tree_of e
  maybe-tree None = refl
  maybe-tree (Some e) = refl

  maybe-locals : (e : Option IExpr) → (maybe_expr writer e locals).locals ≡ locals
  maybe-locals None = refl
  maybe-locals (Some e) = refl

  -- an expression, if there is one
  pub maybe-goes : (e : Option IExpr) (tree : Option Expr) → tree ≡ option_map tree_of e → GoesOn (maybe_expr writer e) tree locals locals
  maybe-goes e tree is = none_declared (maybe_expr writer e) tree locals (maybe-locals e) (is ∙ sym (maybe-tree e))

module _ (writer : Writer) where
  -- A variable: it is declared, and then its first value is written.
  pub declarator-goes : (type : IType) (d : IDeclarator) (init : Option Expr) (tree : Declarator) (locals after : Locals Id)
      → after ≡ declare (record { name = d.name; type = seen type }) locals → init ≡ option_map (tree_of writer after) d.init
      → tree ≡ made.declarator d.name init → GoesOn (declarator writer (seen type) d) tree locals after
  declarator-goes type d init tree locals after declared is written =
      let then : Locals Id = declare (record { name = d.name; type = seen type }) locals in
      record {
        is_written = written ∙ ap (made.declarator d.name) (is ∙ (λ i. option_map (tree_of writer (declared i)) d.init)
            ∙ sym (maybe-tree writer then d.init));
        are_declared = declared ∙ sym (maybe-locals writer then d.init);
        stay_in_scope = declared_stays (record { name = d.name; type = seen type }) locals after declared;
      }

  -- A declaration: its type, and then its variables, which may be found as another value.
  pub let-goes : (declared : ILet) (found : List IDeclarator) (type : TypeName) (names : List Declarator) (tree : Let)
      (locals after : Locals Id) → found ≡ declared.names → type ≡ (declared_type writer locals declared.ty).tree
      → GoesOn (each (map (declarator writer (seen declared.ty)) found)) names locals after
      → tree ≡ made.let_of declared.is_final type names → GoesOn (spelled_let writer declared) tree locals after
  let-goes declared found type names tree locals after same type_is goes is =
      let part : List IDeclarator → SpelledPart (List Declarator) =
      λ names. each (map (declarator writer (seen declared.ty)) names) locals in
      record {
        is_written = is ∙ (λ i. made.let_of declared.is_final (type_is i) ((goes.is_written ∙ (λ j. (part (same j)).tree)) i));
        are_declared = goes.are_declared ∙ (λ j. (part (same j)).locals);
        stay_in_scope = goes.stay_in_scope;
      }
