use Rattle.std.proofs.Common.{◌∙◌, ap, sym}
use Rattle.std.proofs.lemmas.Slice.Eq.{strip_prefix_is}
use Rattle.std.proofs.lemmas.Bool.Decides.{Decides-eqb}
use Rattle.std.specs.Prelude.{None, Some}
use Rattle.mol_outside.specs.Contents.{path_below}
use Rattle.mol_outside.proofs.Storing.{not_below, below-append}
use Rattle.mol_outside.proofs.mem_files.below.Goals as goal

pub returns-in-Some : goal.returns-in-Some
returns-in-Some c =
    c.behind_slash.ensures ∙ sym (below-append c.args.folder.now c.in-Some.rest.now) ∙ ap (path_below c.args.folder.now) (sym (strip_prefix_is Decides-eqb c.args.path.now c.args.folder.now (Some c.in-Some.rest) c.in-Some.ensures.cases))

pub returns-in-None : goal.returns-in-None
returns-in-None c = sym (not_below c.args.folder.now c.args.path.now (strip_prefix_is Decides-eqb c.args.path.now c.args.folder.now None c.in-None.ensures.cases))
