use Rattle.std.proofs.Common.{◌∙◌, ◌++◌, ap, option_map}
use Rattle.std.specs.Option.{option_to_list}
use Rattle.std.proofs.lemmas.Result.{IfOk-weaker}
use Rattle.mol_resolve_entities.specs.Parts.{class_entity}
use Rattle.mol_resolve_entities.proofs.file_entities_lemmas.ReadAtKeys.{entities_read}
use Rattle.mol_resolve_faults.specs.First.{all_noted}
use Rattle.mol_resolve.proofs.file_reader.FileReader.read_class.Goals as goal
use Rattle.mol_resolve_members.proofs.sources_lemmas.Sourced.{file-there}
use Rattle.mol_resolve_members.specs.sources.Sources.{file_of, files_of}
use Rattle.mol_resolve_rules.specs.Numbering.{ids_of}

pub returns-clause-faults : goal.returns-clause-faults
returns-clause-faults c =
    let source = c.args.source.now in
    let read = entities_read.class (files_of c.args.self.now) c.args.unit (file_of source)
    (file-there c.args.self.now c.args.unit source c.requires) in
    IfOk-weaker c.add_class.result _ _ (λ done _.
    (c.in_ok-above.ensures source c.requires).faults_noted ∙ ap (all_noted c.args.faults.now) read.faults_are) c.add_class.ensures.classes

pub returns-clause-added : goal.returns-clause-added
returns-clause-added c =
    let source = c.args.source.now in
    let files = files_of c.args.self.now in
    let read = entities_read.class files c.args.unit (file_of source) (file-there c.args.self.now c.args.unit source c.requires) in
    IfOk-weaker c.add_class.result _ _ (λ done added. record {
      classes = λ no_fault. added
          ∙ ap (λ above. c.args.entities.now.classes.items
          ++ option_to_list (option_map (class_entity ((ids_of files).class_id c.args.unit) source.unit) above))
          (c.in_ok-above.ensures source c.requires).value_read
          ∙ ap (λ items. c.args.entities.now.classes.items ++ items) (read.entity_is no_fault);
      members = ap (λ (all : _). all.items) c.add_class.ensures.members;
      methods = ap (λ (all : _). all.items) c.add_class.ensures.methods;
    }) c.add_class.ensures.classes
