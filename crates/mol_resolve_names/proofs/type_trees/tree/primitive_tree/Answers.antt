use Rattle.std.proofs.Common.{◌∙◌, sym, ap}
use Rattle.mol_resolve_rules.specs.ReadTypes.{primitive_tree}
use Rattle.mol_resolve_names.proofs.type_trees_lemmas.PrimitiveNames.{not-primitive}
use Rattle.mol_resolve_names.proofs.type_trees.tree.primitive_tree.Goals as goal

pub returns-in-boolean : goal.returns-in-boolean
returns-in-boolean c = ap primitive_tree (sym c.in-boolean.is ∙ c.as_str.ensures)

pub returns-in-byte : goal.returns-in-byte
returns-in-byte c = ap primitive_tree (sym c.in-byte.is ∙ c.as_str.ensures)

pub returns-in-short : goal.returns-in-short
returns-in-short c = ap primitive_tree (sym c.in-short.is ∙ c.as_str.ensures)

pub returns-in-char : goal.returns-in-char
returns-in-char c = ap primitive_tree (sym c.in-char.is ∙ c.as_str.ensures)

pub returns-in-int : goal.returns-in-int
returns-in-int c = ap primitive_tree (sym c.in-int.is ∙ c.as_str.ensures)

pub returns-in-long : goal.returns-in-long
returns-in-long c = ap primitive_tree (sym c.in-long.is ∙ c.as_str.ensures)

pub returns-in_default : goal.returns-in_default
returns-in_default c =
    let name = c.as_str.ensures in
    not-primitive c.args.name.now (λ is. c.in_default.not-boolean (name ∙ is)) (λ is. c.in_default.not-byte (name ∙ is))
    (λ is. c.in_default.not-short (name ∙ is)) (λ is. c.in_default.not-char (name ∙ is)) (λ is. c.in_default.not-int (name ∙ is))
    (λ is. c.in_default.not-long (name ∙ is))
