use Rattle.std.proofs.Common.{refl}
use Rattle.jav_tree.specs.declared.stmt.StmtNode.TheVariants as node
use Rattle.mol_spell_body.proofs.InTurn.{made_on}
use Rattle.mol_spell_rules.specs.SpelledStatements.{spelled_let}
use Rattle.mol_spell_body.proofs.body_writer.BodyWriter.let_statement.Goals as goal

pub returns : goal.returns
returns g c =
    let writer = g.P.Places.writer c.args.self.now.places.now in
    made_on (λ declared. node.Let declared) (spelled_let writer c.args.declared.now) _ _ _ _ c.in_ok-declared.ensures refl
