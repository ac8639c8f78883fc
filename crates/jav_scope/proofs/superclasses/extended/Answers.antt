use Rattle.std.proofs.Common.{◌∙◌, ap, sym, Some}
use Rattle.jav_names.specs.DottedNames.{cut}
use Rattle.jav_names.specs.LookUps.{type_named}
use Rattle.jav_names.specs.TypeTexts.{type_in}
use Rattle.jav_names.specs.UnitViews.{header_of}
use Rattle.jav_names.proofs.WrittenTypes.{type_in-Prim, type_in-Named, type_in-ArrayOf, type_in-Void}
use Rattle.jav_scope.specs.Answers.{superclass_answered}
use Rattle.jav_scope.specs.Entries.{classes_in}
use Rattle.jav_scope.proofs.AboveClasses.{named-superclass}
use Rattle.jav_scope.proofs.superclasses.extended.Goals as goal

pub returns-in-Named : goal.returns-in-Named
returns-in-Named c = λ source at.
    let classes = classes_in c.args.names.now in
    let header = header_of (c.args.unit, source.unit) in
    let name = c.in-Named.name in
    c.type_named.ensures source at ∙ named-superclass (type_named classes header (cut name).first (cut name).rest)
    ∙ ap (λ type. superclass_answered (Some type)) (sym (type_in-Named classes header name))
    ∙ ap (λ ty. superclass_answered (Some (type_in classes header ty))) (sym c.in-Named.is)

pub returns-in-Prim : goal.returns-in-Prim
returns-in-Prim c = λ source at.
    let classes = classes_in c.args.names.now in
    let header = header_of (c.args.unit, source.unit) in
    sym (ap (λ ty. superclass_answered (Some (type_in classes header ty))) c.in-Prim.is
    ∙ ap (λ type. superclass_answered (Some type)) (type_in-Prim classes header c.in-Prim.field-0))

pub returns-in-ArrayOf : goal.returns-in-ArrayOf
returns-in-ArrayOf c = λ source at.
    let classes = classes_in c.args.names.now in
    let header = header_of (c.args.unit, source.unit) in
    sym (ap (λ ty. superclass_answered (Some (type_in classes header ty))) c.in-ArrayOf.is
    ∙ ap (λ type. superclass_answered (Some type)) (type_in-ArrayOf classes header c.in-ArrayOf.field-0))

pub returns-in-Void : goal.returns-in-Void
returns-in-Void c = λ source at.
    let classes = classes_in c.args.names.now in
    let header = header_of (c.args.unit, source.unit) in
    sym (ap (λ ty. superclass_answered (Some (type_in classes header ty))) c.in-Void.is
    ∙ ap (λ type. superclass_answered (Some type)) (type_in-Void classes header))
