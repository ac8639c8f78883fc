-- Going up along a path.
use Rattle.std.proofs.Common.{◌≡◌, ℕ, zero, suc, ◌+◌, List, Some, refl, sym, ◌∙◌, ap, subst, arith}
use Rattle.mol_base.specs.declared.ident.Id.{Id}
use Rattle.mol_table_rules.proofs.Counts.{some-same}
use Rattle.mol_table_rules.specs.Heights.{climb}
use Rattle.mol_table_rules.specs.Program.{Program}
use Rattle.mol_scope_classes.specs.hierarchy.Paths.{ArePaths, place_on, position_in}
use Rattle.mol_scope_classes.specs.declared.hierarchy.position.Position.{Position}

module _ (program : Program) (positions : List (Id × Position)) (are : ArePaths program positions) where
  -- a class that stands so many places before is reached in as many steps
  pub along : (steps depth : ℕ) (class top : Id) → position_in positions class ≡ place_on top (depth + steps)
      → (above : Id) × (climb program steps (Some class) ≡ Some above) × (position_in positions above ≡ place_on top depth)
  along zero depth class top is =
      let same : depth + 0 ≡ depth = omega arith in
      (class, refl, is ∙ ap (place_on top) same)
  along (suc steps) depth class top is =
      let same : depth + suc steps ≡ suc (depth + steps) = omega arith in
      let next = are.further class top (depth + steps) (is ∙ ap (place_on top) same) in
      let more = along steps depth next.above top next.stands in
      (more.0, ap (climb program steps) next.up ∙ more.1, more.2)

  pub climbs : (steps depth : ℕ) (class above top : Id) → position_in positions class ≡ place_on top (depth + steps)
      → position_in positions above ≡ place_on top depth → climb program steps (Some class) ≡ Some above
  climbs steps depth class above top is stands =
      let led = along steps depth class top is in
      led.1 ∙ ap (λ (id : Id). Some id) (are.apart led.0 above (led.2 ∙ sym stands))

  pub climbed-at : (steps depth : ℕ) (class above top : Id) → position_in positions class ≡ place_on top (depth + steps)
      → climb program steps (Some class) ≡ Some above → position_in positions above ≡ place_on top depth
  climbed-at steps depth class above top is reached =
      let led = along steps depth class top is in
      subst (λ (id : Id). position_in positions id ≡ place_on top depth) (some-same led.0 above (sym led.1 ∙ reached)) led.2

  -- the class that a path is named by stands first on it
  pub top-at : (depth : ℕ) (class top : Id) → position_in positions class ≡ place_on top depth
      → position_in positions top ≡ place_on top 0
  top-at depth class top is =
      let same : depth ≡ 0 + depth = omega arith in
      let led = along depth 0 class top (is ∙ ap (place_on top) same) in
      subst (λ (id : Id). position_in positions id ≡ place_on top 0) (are.first led.0 top led.2) led.2
