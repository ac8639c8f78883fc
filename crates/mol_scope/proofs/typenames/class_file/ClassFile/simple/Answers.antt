use Rattle.std.proofs.Common.{◌≡◌, ◌∙◌, ◌++◌, ◌∷◌, sym, ap}
use Rattle.jav_names.specs.DottedNames.{dot}
use Rattle.jav_names.specs.LookUps.{class_named, class_or_written}
use Rattle.mol_table_rules.specs.Program.{Program, package_at}
use Rattle.mol_scope.proofs.typenames_lemmas.SimpleTypes.{simple-imported, simple-own, simple-near}
use Rattle.mol_scope.specs.typenames.Readings.{classes_of}
use Rattle.mol_scope.proofs.typenames.class_file.ClassFile.simple.Goals as goal

pub returns-in-Some : goal.returns-in-Some
returns-in-Some c =
    let file = c.args.self.now in
    c.class_or_imported.ensures c.args.name.now
    ∙ simple-imported file.classes.now file.class file.imports.now c.args.name.now c.in-Some.full.now c.in-Some.ensures

pub returns-then-is_own : goal.returns-then-is_own
returns-then-is_own c =
    let file = c.args.self.now in
    simple-own file.classes.now file.class file.imports.now c.args.name.now c.in_default.ensures
    (sym c.is_own.ensures ∙ c.if-is_own.true)

pub returns : goal.returns
returns c =
    let file = c.args.self.now in
    let front : c.as_bytes.result.now ≡ package_at file.classes.now file.class =
    c.as_bytes.ensures.value ∙ c.package_of-package.ensures
    ∙ ap (λ (program : Program). package_at program file.class) c.table.ensures in
    c.class_or_written.ensures c.args.name.now
    ∙ (λ i. class_or_written (class_named (classes_of file) (front i ++ dot ∷ c.as_bytes-2.ensures.value i)) c.args.name.now)
    ∙ simple-near file.classes.now file.class file.imports.now c.args.name.now c.in_default.ensures
    (sym c.is_own.ensures ∙ c.if-is_own.false)
