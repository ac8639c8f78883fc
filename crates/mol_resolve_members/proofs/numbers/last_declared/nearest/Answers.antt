use Rattle.std.proofs.Common.{◌||◌}
use Rattle.jav_scope.specs.Answers.{declaration_ref}
use Rattle.jav_scope.specs.Entries.{view_in}
use Rattle.jav_names.specs.LookUps.{ends_outside}
use Rattle.jav_names.specs.Members.{is_object_method}
use Rattle.mol_resolve_members.specs.numbers.Ways.{nearest_from}
use Rattle.mol_resolve_members.proofs.numbers_lemmas.Answered.{found-is, outside-is, nowhere-is}
use Rattle.mol_resolve_members.proofs.numbers.last_declared.nearest.Goals as goal

pub returns-in-Found : goal.returns-in-Found
returns-in-Found c =
    let view = view_in c.args.scope.now in
    found-is declaration_ref (nearest_from view c.args.name.now c.args.arity c.args.class)
    (ends_outside view c.args.class || is_object_method c.args.name.now c.args.arity) c.in-Found.declared c.in-Found.ensures

pub returns-in-Outside : goal.returns-in-Outside
returns-in-Outside c =
    let view = view_in c.args.scope.now in
    outside-is declaration_ref (nearest_from view c.args.name.now c.args.arity c.args.class)
    (ends_outside view c.args.class || is_object_method c.args.name.now c.args.arity) c.in-Outside.ensures

pub returns-in-NotFound : goal.returns-in-NotFound
returns-in-NotFound c =
    let view = view_in c.args.scope.now in
    nowhere-is declaration_ref (nearest_from view c.args.name.now c.args.arity c.args.class)
    (ends_outside view c.args.class || is_object_method c.args.name.now c.args.arity) c.in-NotFound.ensures
