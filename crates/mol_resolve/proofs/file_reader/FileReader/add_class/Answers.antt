use Rattle.std.proofs.Common.{◌∙◌, ◌∷◌, ◌++◌, [], List, ap, option_map, sym}
use Rattle.std.specs.Option.{option_to_list}
use Rattle.std.proofs.lemmas.Result.{IfOk-weaker}
use Rattle.jav_scope.specs.declared.source.SourceUnit.{SourceUnit}
use Rattle.mol_resolve_entities.specs.Parts.{class_entity}
use Rattle.mol_resolve.proofs.file_reader.FileReader.add_class.Goals as goal
use Rattle.mol_resolve_members.specs.sources.Sources.{files_of}
use Rattle.mol_resolve_rules.specs.Numbering.{ids_of}

pub returns-clause-classes : goal.returns-clause-classes
returns-clause-classes c =
    let above = c.in-Some.above in
    let source = c.args.source.now in
    let id = c.class_id-id.ensures
    ∙ ap (λ (all : List SourceUnit). (ids_of (files_of all)).class_id c.args.unit) (c.self.invariant.numbers_see ∙ c.self.view_is) in
    IfOk-weaker c.add_class.result _ _ (λ done added.
    added ∙ ap (λ class. c.args.entities.now.classes.items ++ class ∷ [])
    (c.in_ok-class.ensures ∙ ap (λ id. class_entity id source.unit above) id)
    ∙ ap (λ some. c.args.entities.now.classes.items
    ++ option_to_list (option_map (class_entity ((ids_of (files_of c.args.self.now)).class_id c.args.unit) source.unit) some))
    (sym c.in-Some.is)) c.add_class.ensures.classes
