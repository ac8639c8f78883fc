use Rattle.std.proofs.Common.{◌<◌, ◌∙◌, ap, sym, subst, length, slice_get}
use Rattle.jav_names.specs.DottedNames.{cut}
use Rattle.jav_names.specs.LookUps.{type_named}
use Rattle.jav_names.specs.UnitViews.{header_of}
use Rattle.jav_scope.specs.Answers.{type_answered}
use Rattle.jav_scope.specs.Entries.{classes_in}
use Rattle.jav_scope.proofs.scope.Scope.type_named.Goals as goal

pub type_named-requires : goal.type_named-requires
type_named-requires c = subst (λ sources. c.args.unit < length sources) (sym c.self.view_is) c.requires

pub returns : goal.returns
returns c = λ source at.
    let text = cut c.args.name.now in
    c.type_named.ensures source (ap (λ sources. slice_get sources c.args.unit) c.self.view_is ∙ at)
    ∙ ap (λ sources. type_answered (type_named (classes_in sources) (header_of (c.args.unit, source.unit)) text.first text.rest))
    c.self.view_is
