-- The laws, from what is proved of each production.
use Rattle.std.proofs.Common.{◌∙◌, ap}
use Rattle.jav_tree.specs.PrintableStatements.{block_uses}
use Rattle.jav_tree.specs.Widths.{block_width}
use Rattle.jav_print_laws.specs.printable.GrammarTrees.{UnitsArePrintable, MembersArePrintable, BodiesArePrintable, ExprsArePrintable, TypesArePrintable, UnitsAreNarrow, MembersAreNarrow, BodiesAreNarrow, ExprsAreNarrow, TypesAreNarrow}
use Rattle.jav_print_laws.proofs.printable_lemmas.Expressions.{of_expression}
use Rattle.jav_print_laws.proofs.printable_lemmas.Members.{declared_are}
use Rattle.jav_print_laws.proofs.printable_lemmas.Names.{known}
use Rattle.jav_print_laws.proofs.printable_lemmas.Statements.{constructor_is, constructor_block_is}
use Rattle.jav_print_laws.proofs.printable_lemmas.Types.{whole_is, whole_width}
use Rattle.jav_print_laws.proofs.printable_lemmas.Units.{unit_is}
use Rattle.jav_print_laws.proofs.printable_lemmas.Widths.{narrow, width_of_expression}
use Rattle.jav_print_laws.proofs.printable_lemmas.WidthsMembers.{width_of_declared, width_of_unit}
use Rattle.jav_print_laws.proofs.printable_lemmas.WidthsStatements.{width_of_body}

pub units_are_printable : UnitsArePrintable
units_are_printable limit max_height u tokens are is = unit_is is.2 (known tokens are)

pub members_are_printable : MembersArePrintable
members_are_printable limit max_height ms tokens are is = declared_are is.2 (known tokens are)

pub bodies_are_printable : BodiesArePrintable
bodies_are_printable limit max_height b tokens are is =
    let lines = constructor_is is.4 (known tokens are) in
    ap (λ x. (block_uses x).is_constructor_block) is.5 ∙ constructor_block_is is.1 is.2 lines.0 lines.1

pub exprs_are_printable : ExprsArePrintable
exprs_are_printable limit max_height e tokens are is = (of_expression is.2 (known tokens are)).value

pub types_are_printable : TypesArePrintable
types_are_printable limit to tokens are is = (whole_is is (known tokens are)).type

pub units_are_narrow : UnitsAreNarrow
units_are_narrow limit max_height u tokens is = width_of_unit is.2

pub members_are_narrow : MembersAreNarrow
members_are_narrow limit max_height ms tokens is = width_of_declared is.2

pub bodies_are_narrow : BodiesAreNarrow
bodies_are_narrow limit max_height b tokens is = narrow _ _ limit (ap block_width is.5) (width_of_body is.4)

pub exprs_are_narrow : ExprsAreNarrow
exprs_are_narrow limit max_height e tokens is = width_of_expression is.2

pub types_are_narrow : TypesAreNarrow
types_are_narrow limit to tokens is = whole_width is
