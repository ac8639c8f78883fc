use Rattle.std.proofs.Common.{◌∙◌, List, ap, subst, sym}
use Rattle.jav_scope.specs.declared.source.SourceUnit.{SourceUnit}
use Rattle.mol_resolve_members.specs.places.Listings.{HasMember, key_of}
use Rattle.mol_resolve.proofs.file_reader.FileReader.member_ids.Goals as goal
use Rattle.mol_resolve_members.specs.sources.Sources.{files_of}
use Rattle.mol_resolve_rules.specs.Numbering.{ids_of}

pub member_id-requires : goal.member_id-requires
member_id-requires c =
    subst (λ (all : List SourceUnit). HasMember all c.args.at) (sym (c.self.invariant.numbers_see ∙ c.self.view_is)) c.requires

pub returns : goal.returns
returns c =
    let numbered = c.self.invariant.numbers_see ∙ c.self.view_is in
    record {
      own = c.member_id.ensures ∙ ap (λ (all : List SourceUnit). (ids_of (files_of all)).member_id (key_of c.args.at)) numbered;
      class = c.class_id.ensures ∙ ap (λ (all : List SourceUnit). (ids_of (files_of all)).class_id c.args.at.unit) numbered;
    }
