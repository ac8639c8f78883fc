use Rattle.std.proofs.Common.{◌∙◌, sym}
use Rattle.mol_scope.proofs.choices_lemmas.EqualOrApart.{common-equal, common-known}
use Rattle.mol_scope.proofs.choices_lemmas.KnownValues.{values-known}
use Rattle.mol_resolve_rules.specs.ProgramViews.{program_view}
use Rattle.mol_scope.specs.types.Kept.{view_value}
use Rattle.mol_scope.proofs.choices.choice.common.Goals as goal

pub returns-then-same : goal.returns-then-same
returns-then-same c =
    c.copied.ensures
    ∙ common-equal (program_view c.args.members.now) (view_value c.args.first.now) (view_value c.args.second.now)
    (sym c.in_ok-same.ensures ∙ c.if-same.true)

pub returns : goal.returns
returns c =
    c.common_apart.ensures
    ∙ common-known (program_view c.args.members.now) (view_value c.args.first.now) (view_value c.args.second.now)
    (sym c.in_ok-same.ensures ∙ c.if-same.false) (values-known c.args.first.now c.args.second.now)
