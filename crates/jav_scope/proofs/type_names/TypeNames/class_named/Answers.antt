use Rattle.std.proofs.Common.{◌∙◌, ℕ, List, ap, option_map}
use Rattle.jav_names.specs.LookUps.{class_named}
use Rattle.jav_names.specs.Views.{ViewClass}
use Rattle.jav_names.specs.index.Spelled.{spelled}
use Rattle.jav_names.specs.declared.index.entry.Entry.{Entry}
use Rattle.jav_scope.specs.Entries.{classes_in}
use Rattle.jav_scope.proofs.NamesFound.{found-class}
use Rattle.jav_scope.proofs.type_names.TypeNames.class_named.Goals as goal

pub returns-in-Some : goal.returns-in-Some
returns-in-Some c =
    let name : List ℕ = spelled c.args.name.now in
    ap (option_map (λ (entry : Entry). entry.place)) c.in-Some.ensures
    ∙ found-class c.self.inside.sources.now c.self.inside.full_names c.self.invariant.classes name
    ∙ ap (λ sources. option_map (λ (class : ViewClass ℕ). class.key) (class_named (classes_in sources) name)) c.self.view_is

pub returns-in-None : goal.returns-in-None
returns-in-None c =
    let name : List ℕ = spelled c.args.name.now in
    ap (option_map (λ (entry : Entry). entry.place)) c.in-None.ensures
    ∙ found-class c.self.inside.sources.now c.self.inside.full_names c.self.invariant.classes name
    ∙ ap (λ sources. option_map (λ (class : ViewClass ℕ). class.key) (class_named (classes_in sources) name)) c.self.view_is
