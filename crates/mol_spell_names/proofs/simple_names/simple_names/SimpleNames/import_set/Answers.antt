use Rattle.std.proofs.Common.{◌≡◌, ◌∙◌, Option, ap, arith, drop, sym}
use Rattle.jav_names.specs.DottedNames.{Name}
use Rattle.mol_spell_names.proofs.simple_names_lemmas.ImportSets.{made_of, set-further, set-none, set_of}
use Rattle.mol_spell_names.proofs.simple_names.simple_names.SimpleNames.import_set.Goals as goal
use Rattle.mol_spell_names.specs.simple_names.Named.{uses_of_file}
use Rattle.mol_spell_rules.specs.SimpleNames.{import_of}
use Rattle.mol_spell_rules.specs.Writers.{Use}
use Rattle.mol_spell_uses.specs.uses.Kept.{kept_use}

pub loop-at-init : goal.loop-at-init
loop-at-init c =
    let names = c.args.self.now in
    (omega arith, set-none (import_of names.classes.now names.class (uses_of_file names)) names.uses.now _ c.new-set.ensures.empty)

pub loop-at-preserved : goal.loop-at-preserved
loop-at-preserved c =
    let names = c.args.self.now in
    let made : Use → Option Name = import_of names.classes.now names.class (uses_of_file names) in (
      omega arith,
      set-further made names.uses.now c.loop-at.at c.index-self-at.result _ _ _ (omega arith) (omega arith) c.index-self-at.is
          (c.in_ok-import.ensures ∙ ap (λ used. made (kept_use used)) (sym c.index-self-at.is)) c.loop-at.invariant.1
          c.in_ok-insert.ensures,
    )

pub returns : goal.returns
returns c =
    let names = c.args.self.now in
    let none : c.loop-at.at ≡ 0 = omega (arith, c.loop-at-test.false) in
    c.loop-at.invariant.1
    ∙ ap (λ at. set_of (made_of (import_of names.classes.now names.class (uses_of_file names)) (drop at names.uses.now))) none
