use Rattle.std.proofs.Common.{◌∙◌, ℕ, ap, option_map}
use Rattle.jav_names.specs.LookUps.{class_named}
use Rattle.jav_names.specs.Views.{ViewClass}
use Rattle.jav_names.specs.index.Spelled.{spelled}
use Rattle.jav_scope.specs.Entries.{classes_in}
use Rattle.jav_scope.proofs.scope.Scope.class_named.Goals as goal

pub returns : goal.returns
returns c =
    c.class_named.ensures
    ∙ ap (λ sources. option_map (λ (class : ViewClass ℕ). class.key) (class_named (classes_in sources) (spelled c.args.name.now)))
    c.self.view_is
