use Rattle.std.proofs.Common.{◌∙◌, sym}
use Rattle.jav_names.specs.seen.Kept.{view_type}
use Rattle.mol_resolve_names.proofs.type_trees_lemmas.NamesTyped.{reader, seen_in_file}
use Rattle.mol_resolve_names.proofs.type_trees_lemmas.TypesRead.{type_there}
use Rattle.mol_resolve_names.proofs.type_trees.read.read_type.Goals as goal

pub returns-in_ok-ty-in-Some : goal.returns-in_ok-ty-in-Some
returns-in_ok-ty-in-Some c = λ source at.
    let sources = c.args.scope.now in
    let ty = c.args.ty.now in
    type_there (reader sources c.args.unit source) c.args.at ty c.in-Some.tree c.in_ok-ty-in-Some.ty c.args.faults.now
    (sym c.in-Some.is ∙ c.in_ok-tree.ensures source at)
    (seen_in_file sources c.args.unit source ty (view_type c.in_ok-ty-in-Some.ty) (c.in_ok-ty-in-Some.ensures source at))
