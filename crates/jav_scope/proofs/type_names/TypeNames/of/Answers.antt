use Rattle.std.proofs.Common.{◌∙◌, ap, find}
use Rattle.jav_names.specs.index.Seeking.{is_sought}
use Rattle.jav_scope.proofs.type_names.TypeNames.of.Goals as goal

pub invariant_of-result : goal.invariant_of-result
invariant_of-result c = record {
  classes = λ owner arity name. c.in_ok-full_names.ensures owner arity name
      ∙ ap (find (is_sought owner arity name)) c.in_ok-class_entries.ensures;
  imports = λ owner arity name. c.in_ok-imports.ensures owner arity name
      ∙ ap (find (is_sought owner arity name)) c.in_ok-import_entries.ensures;
}
