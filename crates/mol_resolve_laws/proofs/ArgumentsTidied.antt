-- Arguments that stand in the order of the parameters of a list, one for each, are tidied.
use Rattle.std.specs.Prelude.{◌≡◌, ◌||◌, Bool, true, false, if◌then◌else◌, not, List, [], ◌∷◌, length}
use Rattle.std.proofs.Common.{refl, sym, ◌∙◌, true≢false, arith}
use Rattle.std.proofs.lemmas.Bool.{and_parts}
use Rattle.std.specs.Cmp.{eq_by_cmp_equiv}
use Rattle.std.specs.List.{list_any}
use Rattle.mol_base.specs.Order.{id_cmp-total}
use Rattle.mol_resolve_rules.specs.ReadTrees.{with_params}
use Rattle.mol_table_rules.proofs.Living.{same_id-own}
use Rattle.mol_table_rules.proofs.TidiedExpressions.{ids, passed-over}
use Rattle.mol_table_rules.specs.Forms.{differ}
use Rattle.mol_table_rules.specs.Program.{same_id}
use Rattle.mol_table_rules.specs.Tidy.{value_of, arguments_for}
use Rattle.mol_values_types.specs.declared.iexpr.Argument.{Argument}
use Rattle.mol_values_types.specs.declared.iexpr.IExpr.{IExpr}
use Rattle.mol_values_types.specs.declared.param.Param.{Param}

is-false : (a : Bool) → not a ≡ true → a ≡ false
is-false true is = absurd (true≢false (sym is))
is-false false is = refl

pub found-in-order : (params : List Param) (es : List IExpr) → length es ≡ length params → differ (ids params) ≡ true
    → arguments_for params (with_params (ids params) es) ≡ with_params (ids params) es
found-in-order [] es as_many apart = refl
found-in-order (param ∷ params) [] as_many apart = absurd (omega (arith, as_many))
found-in-order (param ∷ params) (e ∷ es) as_many apart =
    let parts = and_parts (not (list_any (same_id param.id) (ids params))) (differ (ids params)) apart in
    let rest = passed-over (record { param = param.id; value = e }) (with_params (ids params) es) params (is-false _ parts.0)
    ∙ found-in-order params es (omega (arith, as_many)) parts.1 in
    λ i. record { param = param.id; value = if same_id-own param.id i then e else value_of (with_params (ids params) es) param } ∷ rest i
