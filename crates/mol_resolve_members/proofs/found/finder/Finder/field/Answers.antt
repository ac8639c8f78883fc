use Rattle.std.proofs.Common.{◌≡◌, List, Some, sym, ◌∙◌, ap, subst}
use Rattle.jav_scope.specs.declared.source.SourceUnit.{SourceUnit}
use Rattle.mol_resolve_members.specs.members.Rows.{kept_row}
use Rattle.mol_resolve_members.specs.members.Tables.{row_at}
use Rattle.mol_resolve_members.specs.places.Listings.{HasMember, key_of}
use Rattle.mol_resolve_members.specs.sources.Sources.{files_of}
use Rattle.mol_resolve_rules.specs.Numbering.{ids_of}
use Rattle.mol_resolve_members.proofs.found_lemmas.MemberRows.{field-key, field-static, field-type}
use Rattle.mol_resolve_members.proofs.found.finder.Finder.field.Goals as goal

pub row-row-requires : goal.row-row-requires
row-row-requires c = subst (λ (all : List SourceUnit). HasMember all c.args.at) (sym (c.self.invariant.0 ∙ c.self.view_is)) c.requires

pub member_id-requires : goal.member_id-requires
member_id-requires c = subst (λ (all : List SourceUnit). HasMember all c.args.at) (sym (c.self.invariant.1 ∙ c.self.view_is)) c.requires

pub returns : goal.returns
returns c = λ field stands same.
    let sources = c.args.self.now in
    let row = c.row-row.result.now in
    let is : Some (kept_row row) ≡ row_at sources c.args.at =
    c.row-row.ensures ∙ ap (λ (all : List SourceUnit). row_at all c.args.at) (c.self.invariant.0 ∙ c.self.view_is) in
    record {
      identity = c.member_id.ensures
          ∙ ap (λ (all : List SourceUnit). (ids_of (files_of all)).member_id (key_of c.args.at)) (c.self.invariant.1 ∙ c.self.view_is)
          ∙ ap (ids_of (files_of sources)).member_id (field-key sources c.args.at field stands same);
      type = field-type sources c.args.at field stands same row is;
      static = field-static sources c.args.at field stands same row is;
    }
