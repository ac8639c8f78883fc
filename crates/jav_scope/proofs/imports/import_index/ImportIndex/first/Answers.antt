use Rattle.std.proofs.Common.{◌≡◌, ◌∙◌, Some, None, find, slice_get, sym, ap, arith}
use Rattle.jav_names.specs.index.Seeking.{is_sought}
use Rattle.jav_names.specs.DottedNames.{Name, Names}
use Rattle.jav_names.specs.LookUps.{import_of}
use Rattle.jav_scope.proofs.imports_lemmas.ImportsFound.{import-there, import-nowhere}
use Rattle.jav_scope.proofs.Finding.{lent-at}
use Rattle.jav_scope.proofs.imports.import_index.ImportIndex.first.Goals as goal

pub returns-in-Some : goal.returns-in-Some
returns-in-Some c =
    let name : Name = c.args.name.now in
    let imports : Names = c.self.inside.imports.now in
    let sought : find (is_sought 0 0 name) c.self.inside.simple_names ≡ Some c.in-Some.entry.now =
    sym (c.in-Some.ensures ∙ ap (λ text. find (is_sought 0 0 text) c.self.inside.simple_names) c.as_bytes.ensures.value) in
    let place = import-there name 0 imports c.in-Some.entry.now (sym (c.self.invariant 0 0 name) ∙ sought) in
    let there : c.in-Some.entry.now.place ≡ place.0 = omega (arith, place.1) in
    lent-at imports c.in-Some.entry.now.place c.get.result c.get.ensures.lookup
    ∙ ap (slice_get imports) there ∙ place.2 ∙ ap (λ (all : Names). import_of all name) c.self.view_is

pub returns-in-None : goal.returns-in-None
returns-in-None c =
    let name : Name = c.args.name.now in
    let imports : Names = c.self.inside.imports.now in
    let sought : find (is_sought 0 0 name) c.self.inside.simple_names ≡ None =
    sym (c.in-None.ensures ∙ ap (λ text. find (is_sought 0 0 text) c.self.inside.simple_names) c.as_bytes.ensures.value) in
    sym (import-nowhere name 0 imports (sym (c.self.invariant 0 0 name) ∙ sought))
    ∙ ap (λ (all : Names). import_of all name) c.self.view_is
