use Rattle.std.proofs.Common.{◌≡◌, List, Some, ◌∙◌, sym, ap, subst}
use Rattle.std.proofs.lemmas.Result.{IfOk-weaker}
use Rattle.jav_scope.specs.Entries.{view_in}
use Rattle.jav_scope.specs.declared.source.SourceUnit.{SourceUnit}
use Rattle.mol_resolve_members.proofs.found_lemmas.MemberRows.{declared-key, declared-there}
use Rattle.mol_resolve_members.proofs.found.finder.Finder.param_ids.Goals as goal
use Rattle.mol_resolve_members.proofs.numbers_lemmas.MemberKeys.{there-found}
use Rattle.mol_resolve_members.specs.places.Listings.{HasMember, key_of}
use Rattle.mol_resolve_members.specs.sources.Sources.{files_of}
use Rattle.mol_resolve_rules.specs.Files.{declaration_at}
use Rattle.mol_resolve_rules.specs.Numbering.{ids_of}

pub param_ids-requires : goal.param_ids-requires
param_ids-requires c =
    let sources = c.args.self.now in
    let at = c.args.method.now.at in
    let method = c.requires.is in
    let numbered = c.self.invariant.1 ∙ c.self.view_is in
    record {
      member = subst (λ (all : List SourceUnit). HasMember all at) (sym numbered)
          (declared-there sources at c.requires.declared method.stands method.place);
      arity = record {
        declared = c.requires.declared;
        stands = (λ i. declaration_at (view_in (numbered i)) (declared-key sources at c.requires.declared method.stands method.place i))
            ∙ there-found sources c.requires.declared method.stands;
        takes = sym method.takes;
      };
    }

pub returns : goal.returns
returns c =
    let sources = c.args.self.now in
    let at = c.args.method.now.at in
    let numbered = c.self.invariant.1 ∙ c.self.view_is in
    IfOk-weaker c.param_ids.result _ _
    (λ ids are declared method.
    let there : declaration_at (view_in c.self.inside.numbers.now) (key_of at) ≡ Some declared =
    (λ i. declaration_at (view_in (numbered i)) (declared-key sources at declared method.stands method.place i))
    ∙ there-found sources declared method.stands in
    are declared there ∙ ap (λ (all : List SourceUnit). (ids_of (files_of all)).param_ids declared) numbered)
    c.param_ids.ensures
