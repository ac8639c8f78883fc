use Rattle.mol_spell_names.proofs.simple_names_lemmas.Shared.{taken-once-more}
use Rattle.mol_spell_names.proofs.simple_names.bearers.add_bearer.Goals as goal

pub returns : goal.returns
returns c = λ asked what.
    taken-once-more c.args.bearers.now.entries c.args.name.now asked _ _ c.args.bearer what
    (c.in_ok-insert.ensures.updates.0 (record c.args.name { now = asked })) (c.kept_at-kept.ensures what)
