use Rattle.std.proofs.Common.{◌∙◌, ap, find}
use Rattle.jav_names.specs.index.Seeking.{is_sought}
use Rattle.jav_scope.proofs.members.Members.of.Goals as goal

pub returns : goal.returns
returns c =
    let listed = c.in_ok-fields.ensures in
    record {
      fields = λ owner arity name. c.in_ok-field_index.ensures owner arity name ∙ ap (find (is_sought owner arity name)) listed.fields;
      methods = λ owner arity name. c.in_ok-method_index.ensures owner arity name ∙ ap (find (is_sought owner arity name)) listed.methods;
      constructors = λ owner arity name.
          c.in_ok-constructor_index.ensures owner arity name ∙ ap (find (is_sought owner arity name)) listed.constructors;
      constructed = λ owner arity name.
          c.in_ok-constructed_index.ensures owner arity name ∙ ap (find (is_sought owner arity name)) listed.constructed;
    }
