use Rattle.std.proofs.Common.{List, ◌∙◌, ap}
use Rattle.jav_scope.specs.declared.source.SourceUnit.{SourceUnit}
use Rattle.mol_resolve_members.specs.sources.Sources.{files_of}
use Rattle.mol_resolve_rules.specs.Numbering.{ids_of}
use Rattle.mol_resolve_members.proofs.found.finder.Finder.class_id.Goals as goal

pub returns : goal.returns
returns c = c.class_id.ensures
    ∙ ap (λ (all : List SourceUnit). (ids_of (files_of all)).class_id c.args.class) (c.self.invariant.1 ∙ c.self.view_is)
