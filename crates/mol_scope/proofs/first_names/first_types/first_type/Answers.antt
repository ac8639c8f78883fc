use Rattle.std.proofs.Common.{◌≡◌, ◌∙◌, ap, get_or}
use Rattle.jav_names.specs.DottedNames.{Names}
use Rattle.jav_names.specs.LookUps.{leftmost_type, simple_type}
use Rattle.mol_base.specs.declared.ident.Id.{Id}
use Rattle.mol_scope.specs.typenames.Readings.{classes_of, header_of}
use Rattle.mol_scope.proofs.first_names.first_types.first_type.Goals as goal

pub returns-in-Class : goal.returns-in-Class
returns-in-Class c = λ first rest is.
    let file = c.args.file.now in
    let name : c.as_str.result.now ≡ first =
    c.as_str.ensures ∙ c.index-names-0.is ∙ ap (λ (all : Names). get_or all 0 c.index-names-0.result) is in
    ap (leftmost_type {M = Id} (classes_of file) first rest)
    (c.in-Class.ensures ∙ ap (simple_type (classes_of file) (header_of file)) name)

pub returns-in-Imported : goal.returns-in-Imported
returns-in-Imported c = λ first rest is.
    let file = c.args.file.now in
    let name : c.as_str.result.now ≡ first =
    c.as_str.ensures ∙ c.index-names-0.is ∙ ap (λ (all : Names). get_or all 0 c.index-names-0.result) is in
    ap (leftmost_type {M = Id} (classes_of file) first rest)
    (c.in-Imported.ensures ∙ ap (simple_type (classes_of file) (header_of file)) name)

pub returns-in-Written : goal.returns-in-Written
returns-in-Written c = λ first rest is.
    let file = c.args.file.now in
    let name : c.as_str.result.now ≡ first =
    c.as_str.ensures ∙ c.index-names-0.is ∙ ap (λ (all : Names). get_or all 0 c.index-names-0.result) is in
    c.fewest.ensures first rest is
    ∙ ap (leftmost_type {M = Id} (classes_of file) first rest)
    (c.in-Written.ensures ∙ ap (simple_type (classes_of file) (header_of file)) name)

pub returns-in-Nothing : goal.returns-in-Nothing
returns-in-Nothing c = λ first rest is.
    let file = c.args.file.now in
    let name : c.as_str.result.now ≡ first =
    c.as_str.ensures ∙ c.index-names-0.is ∙ ap (λ (all : Names). get_or all 0 c.index-names-0.result) is in
    ap (leftmost_type {M = Id} (classes_of file) first rest)
    (c.in-Nothing.ensures ∙ ap (simple_type (classes_of file) (header_of file)) name)
