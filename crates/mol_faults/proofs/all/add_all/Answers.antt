use Rattle.std.proofs.Common.{[], ◌∷◌, ◌++◌, List, map, refl, sym, ap, ◌∙◌, subst}
use Rattle.std.specs.List.{flat_map}
use Rattle.std.proofs.lemmas.Result.{on_ok_weaker}
use Rattle.mol_faults_rules.proofs.ByKind.{faults_by_kind}
use Rattle.mol_faults_rules.specs.Kept.{kept_fault}
use Rattle.mol_faults_rules.specs.declared.fault.Fault.{Fault}
use Rattle.mol_faults_misread.proofs.misread_faults_lemmas.Found.{are-of-kind}
use Rattle.mol_spell_rules.specs.FaultList.{AreFaults}
use Rattle.mol_faults.proofs.Joined.{added-joined}
use Rattle.mol_faults.proofs.all.add_all.Goals as goal

pub returns : goal.returns
returns c =
    let program = c.args.table.now in
    let lists : List (List Fault) = c.in_ok-same_address.field-0 ∷ c.in_ok-false_override.field-0 ∷ c.in_ok-apart.field-0
    ∷ c.in_ok-outside_name.field-0 ∷ c.in_ok-missing.field-0 ∷ c.in_ok-misread.field-0 ∷ c.in_ok-local_clash.field-0
    ∷ c.in_ok-package_is_class.field-0 ∷ [] in
    let are = faults_by_kind program (map (map kept_fault) lists) (
      c.in_ok-same_address.ensures,
      (
        c.in_ok-false_override.ensures,
        (
          c.in_ok-apart.ensures,
          (
            c.in_ok-outside_name.ensures,
            (
              c.in_ok-missing.ensures,
              (
                are-of-kind program c.args.tidied.now c.requires.tidied (map kept_fault c.in_ok-misread.field-0) c.in_ok-misread.ensures,
                (
                  c.in_ok-local_clash.ensures,
                  (c.in_ok-package_is_class.ensures, refl),
                ),
              ),
            ),
          ),
        ),
      ),
    ) in
    on_ok_weaker c.add-8.result
    (λ last. subst (AreFaults program)
    (ap (λ before. map kept_fault before ++ flat_map (map kept_fault) lists) (sym c.requires.none)
    ∙ added-joined kept_fault c.args.all.now.items lists c.add-8.new.all.items (
      c.add.new.all.items,
      c.in_ok-add.ensures,
      (
        c.add-2.new.all.items,
        c.in_ok-add-2.ensures,
        (
          c.add-3.new.all.items,
          c.in_ok-add-3.ensures,
          (
            c.add-4.new.all.items,
            c.in_ok-add-4.ensures,
            (
              c.add-5.new.all.items,
              c.in_ok-add-5.ensures,
              (
                c.add-6.new.all.items,
                c.in_ok-add-6.ensures,
                (c.add-7.new.all.items, c.in_ok-add-7.ensures, (c.add-8.new.all.items, last, refl)),
              ),
            ),
          ),
        ),
      ),
    ))
    are)
    c.add-8.ensures
