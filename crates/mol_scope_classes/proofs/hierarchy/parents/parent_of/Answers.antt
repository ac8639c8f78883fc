use Rattle.std.proofs.Common.{◌∙◌, sym}
use Rattle.mol_scope_classes.proofs.hierarchy_lemmas.Asked.{no-class}
use Rattle.mol_scope_classes.proofs.hierarchy.parents.parent_of.Goals as goal

pub returns-else-is_class : goal.returns-else-is_class
returns-else-is_class c =
    sym (no-class c.args.table.now c.rules.ensures c.args.class.now (sym c.is_class.ensures ∙ c.if-is_class.false))
