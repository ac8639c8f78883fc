use Rattle.std.proofs.Common.{◌==◌, ◌&&◌, sym, ◌∙◌}
use Rattle.mol_faults_rules.specs.Kept.{kept_target}
use Rattle.mol_faults_misread.specs.misread_faults.Found.{same_target}
use Rattle.mol_values_types.proofs.Ties.{cell_ties}
use Rattle.mol_faults_misread.proofs.misread_faults.names.MisreadName.is.Goals as goal

pub returns-then-eq : goal.returns-then-eq
returns-then-eq c =
    let self = c.args.self.now in
    let cell = sym (cell_ties c.args.at.now self.at) ∙ sym c.eq.ensures ∙ c.if-eq.true in
    c.is_numbered.ensures ∙ (λ i. sym cell i && ((c.args.number == self.misread.number)
    && same_target (kept_target c.args.target.now) (kept_target self.misread.target)))

pub returns-else-eq : goal.returns-else-eq
returns-else-eq c =
    let self = c.args.self.now in
    let cell = sym (cell_ties c.args.at.now self.at) ∙ sym c.eq.ensures ∙ c.if-eq.false in
    c.if-eq.false ∙ (λ i. sym cell i && ((c.args.number == self.misread.number)
    && same_target (kept_target c.args.target.now) (kept_target self.misread.target)))
