use Rattle.std.proofs.Common.{◌≡◌, ◌∙◌, ℕ, sym, ap}
use Rattle.std.proofs.lemmas.Result.{IfOk-weaker}
use Rattle.jav_scope.specs.Entries.{view_in}
use Rattle.jav_names.specs.seen.Kept.{view_value}
use Rattle.jav_names.specs.StaticTypes.{common}
use Rattle.jav_names.specs.UnitViews.{MemberKey}
use Rattle.jav_names.specs.Views.{View}
use Rattle.mol_resolve_names.proofs.names.names.MemberNamesNames.common.Goals as goal
use Rattle.mol_resolve_members.proofs.sources_lemmas.Sourced.{sources_viewed}
use Rattle.mol_resolve_members.specs.sources.Sources.{files_of}
use Rattle.mol_resolve_rules.specs.Files.{files_view}

pub returns : goal.returns
returns c =
    let sources = c.args.self.now.finder.now in
    let same : view_in c.scope.result.now ≡ files_view (files_of sources) =
    ap view_in c.scope.ensures ∙ sym (sources_viewed.same_view sources) in
    IfOk-weaker c.common.result _ _ (λ type is. is
    ∙ ap (λ (view : View ℕ MemberKey). common view (view_value c.args.first.now) (view_value c.args.second.now)) same) c.common.ensures
