use Rattle.std.proofs.Common.{◌≡◌, List, Some, sym, ◌∙◌, ap, subst}
use Rattle.jav_scope.specs.Entries.{view_in}
use Rattle.jav_scope.specs.declared.source.SourceUnit.{SourceUnit}
use Rattle.mol_resolve_members.specs.members.Rows.{kept_row}
use Rattle.mol_resolve_members.specs.members.Tables.{row_at}
use Rattle.mol_resolve_members.proofs.numbers_lemmas.MemberKeys.{there-found}
use Rattle.mol_resolve_members.specs.places.Listings.{HasMember, key_of}
use Rattle.mol_resolve_members.specs.sources.Sources.{files_of}
use Rattle.mol_resolve_rules.specs.Files.{declaration_at}
use Rattle.mol_resolve_rules.specs.Numbering.{ids_of}
use Rattle.mol_resolve_members.proofs.found_lemmas.MemberRows.{declared-gives, declared-key, declared-static}
use Rattle.mol_resolve_members.proofs.found.finder.Finder.method.Goals as goal

pub row-row-requires : goal.row-row-requires
row-row-requires c = subst (λ (all : List SourceUnit). HasMember all c.args.at) (sym (c.self.invariant.0 ∙ c.self.view_is)) c.requires

pub method_id-requires : goal.method_id-requires
method_id-requires c = subst (λ (all : List SourceUnit). HasMember all c.args.at) (sym (c.self.invariant.1 ∙ c.self.view_is)) c.requires

pub returns : goal.returns
returns c = λ declared stands same takes.
    let sources = c.args.self.now in
    let row = c.row-row.result.now in
    let is : Some (kept_row row) ≡ row_at sources c.args.at =
    c.row-row.ensures ∙ ap (λ (all : List SourceUnit). row_at all c.args.at) (c.self.invariant.0 ∙ c.self.view_is) in
    let numbered = c.self.invariant.1 ∙ c.self.view_is in
    let there : declaration_at (view_in c.self.inside.numbers.now) (key_of c.args.at) ≡ Some declared =
    (λ i. declaration_at (view_in (numbered i)) (declared-key sources c.args.at declared stands same i))
    ∙ there-found sources declared stands in
    record {
      stands = stands;
      place = same;
      takes = takes;
      identity = c.method_id.ensures declared there
          ∙ ap (λ (all : List SourceUnit). (ids_of (files_of all)).method_id declared) numbered;
      gives = declared-gives sources c.args.at declared stands same row is;
      static = declared-static sources c.args.at declared stands same row is;
    }
