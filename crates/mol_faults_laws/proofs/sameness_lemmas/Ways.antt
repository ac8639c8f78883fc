-- From a class that lives on, following superclasses leads to the same classes in two such programs.
use Rattle.std.proofs.Common.{Bool, None, Option, Some, ap, false, refl, subst, suc, sym, true, zero, ℕ, ◌∙◌, ◌≡◌}
use Rattle.std.proofs.lemmas.Bool.Decides.{same_from_decides}
use Rattle.std.specs.Prelude.{if◌then◌else◌}
use Rattle.mol_base.specs.declared.ident.Id.{Id}
use Rattle.mol_table_rules.specs.Ancestors.{living_parent, is_on_way}
use Rattle.mol_table_rules.specs.Heights.{upward, climb}
use Rattle.mol_table_rules.specs.Life.{lives}
use Rattle.mol_table_rules.specs.Program.{Program, living_at, parent_at, parent_in}
use Rattle.mol_values_types.specs.declared.cell.Slot.TheVariants as slots
use Rattle.mol_scope_classes.proofs.hierarchy_lemmas.OnWays.{on_way-decides}
use Rattle.mol_faults_laws.proofs.sameness_lemmas.Alike.{Alike, cells-same, living-lives, living-same}

module _ (P Q : Program) (alike : Alike P Q) where
  parent-same : (class : Id) → living_at P class ≡ true → lives P class ≡ true → parent_at P class ≡ parent_at Q class
  parent-same class living alive = ap parent_in (cells-same P Q alike class slots.Super alive)

  module _ where
    up-same : (class : Id) → living_at P class ≡ true → upward P (Some class) ≡ upward Q (Some class)
    up-same class living = by (parent_at P class) ∙ ap (living_parent Q)
        (parent-same class living (living-lives P alike.rules class living)) where
          by : (o : Option Id) → living_parent P o ≡ living_parent Q o
          by None = refl
          by (Some parent) = ap (λ b. if b then Some parent else None) (living-same P Q alike parent)

    up-lives : (class above : Id) → upward P (Some class) ≡ Some above → living_at P above ≡ true
    up-lives class above is = by (parent_at P class) is where
      by : (o : Option Id) → living_parent P o ≡ Some above → living_at P above ≡ true
      by None is = absurd cc
      by (Some parent) is = at (living_at P parent) refl is where
        at : (b : Bool) → living_at P parent ≡ b → (if b then Some parent else None) ≡ Some above → living_at P above ≡ true
        at true living is = let same : parent ≡ above = cc in subst (λ (id : Id). living_at P id ≡ true) same living
        at false dead is = absurd cc

    climb-same : (steps : ℕ) (o : Option Id) → ((class : Id) → o ≡ Some class → living_at P class ≡ true)
        → climb P steps o ≡ climb Q steps o
    climb-same zero o living = refl
    climb-same (suc steps) None living = climb-same steps None (λ class is. absurd cc)
    climb-same (suc steps) (Some class) living =
        climb-same steps (upward P (Some class)) (λ above is. up-lives class above is)
        ∙ ap (climb Q steps) (up-same class (living class refl))

    pub on_way-same : (class above : Id) → living_at P class ≡ true → is_on_way P class above ≡ is_on_way Q class above
    on_way-same class above living =
        let same = λ (steps : ℕ). climb-same steps (Some class)
        (λ own is. let one : class ≡ own = cc in subst (λ (id : Id). living_at P id ≡ true) one living) in
        same_from_decides (is_on_way P class above) (is_on_way Q class above) (on_way-decides P alike.rules class above) (
          (λ on. let reaches = (on_way-decides Q alike.others class above).0 on in
              record { steps = reaches.steps; leads = same reaches.steps ∙ reaches.leads }),
          (λ reaches. (on_way-decides Q alike.others class above).1
              (record { steps = reaches.steps; leads = sym (same reaches.steps) ∙ reaches.leads })),
        )
