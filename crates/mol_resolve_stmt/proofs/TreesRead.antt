-- Expressions as parts of statements, without their static types.
use Rattle.std.proofs.Common.{◌≡◌, ℕ, List, Option, Some, None, option_map, refl, sym, ap, subst}
use Rattle.std.proofs.lemmas.Simd.{map-map}
use Rattle.jav_tree.specs.declared.expr.Expr.{Expr}
use Rattle.jav_names.specs.UnitViews.{MemberKey}
use Rattle.mol_resolve_expr.proofs.Outcomes.{made_read}
use Rattle.mol_resolve_expr.specs.Parts.{all_of, alone_of}
use Rattle.mol_resolve_readings.specs.reads.Reads.{Reads}
use Rattle.mol_resolve_rules.specs.Locals.{Locals}
use Rattle.mol_resolve_rules.specs.Outcomes.{TreeFault, Outcome, all, mapped}
use Rattle.mol_resolve_rules.specs.Readers.{Reader}
use Rattle.mol_resolve_rules.specs.ReadStatements.{read_exprs, read_maybe}
use Rattle.mol_resolve_rules.specs.ReadTrees.{Meant, Reading, alone, read_expr, reading}
use Rattle.mol_resolve_stmt.specs.Made.{tree_part}
use Rattle.mol_values_types.specs.declared.iexpr.IExpr.{IExpr}

module _ (reader : Reader ℕ MemberKey) (locals : Locals ℕ) where
  pub tree_read : (e : Expr) (value : Option (Meant ℕ)) (first next : Option TreeFault) → Reads (alone_of reader locals e) value first next
      → Reads (read_expr reader locals e) (tree_part value) first next
  tree_read e value first next read =
      made_read (λ (value : Meant ℕ). value.tree) (alone_of reader locals e) value (tree_part value) first next read refl

  -- of several; they may be found as another list
  pub all_read : (es : List Expr) (values : Option (List IExpr)) (first next : Option TreeFault)
      → Reads (all_of reader locals es) values first next → Reads (read_exprs reader locals es) values first next
  all_read es values first next =
      subst (λ (part : Outcome (List IExpr)). Reads part values first next)
      (ap (λ (parts : List (Outcome IExpr)). all parts)
      (map-map (λ (part : Reading ℕ). mapped (λ (value : Meant ℕ). value.tree) (alone reader locals part)) (reading reader) es))

  pub found_read : (es found : List Expr) (values : Option (List IExpr)) (first next : Option TreeFault) → found ≡ es
      → Reads (read_exprs reader locals found) values first next → Reads (read_exprs reader locals es) values first next
  found_read es found values first next same =
      subst (λ es. Reads (read_exprs reader locals es) values first next) same

  pub none_read : (e : Option Expr) (first : Option TreeFault) → e ≡ None → Reads (read_maybe reader locals e) (Some None) first first
  none_read e first is = subst (λ e. Reads (read_maybe reader locals e) (Some None) first first) (sym is)
      (record { value_read = refl; faults_noted = refl })

  pub some_read : (e : Option Expr) (inner : Expr) (value : Option (Meant ℕ)) (made : Option (Option IExpr)) (first next : Option TreeFault)
      → e ≡ Some inner → Reads (alone_of reader locals inner) value first next → made ≡ option_map (λ e. Some e) (tree_part value)
      → Reads (read_maybe reader locals e) made first next
  some_read e inner value made first next is read made_is =
      subst (λ e. Reads (read_maybe reader locals e) made first next) (sym is)
      (made_read (λ (e : IExpr). Some e) (read_expr reader locals inner) (tree_part value) made first next
      (tree_read inner value first next read) made_is)
