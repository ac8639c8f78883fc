-- What is looked for from a class up.
use Rattle.std.specs.Prelude.{Option, option_map}
use Rattle.jav_names.specs.Views.{View}
use Rattle.mol_base.specs.declared.ident.Id.{Id}
use Rattle.mol_scope_members.specs.declaring.Indexed.{declared_field, declared_method}
use Rattle.mol_scope_members.specs.declared.inherited.sought.Sought.{Sought}
use Rattle.mol_scope_members.specs.declared.inherited.sought.Sought.TheVariants as soughts

-- what a class has itself: the first member of a name
abbrev pub found_in_class : View Id Id → Sought → Id → Option Id
found_in_class view (soughts.Field name) class = option_map (λ field. field.key) (declared_field view class name.now)
found_in_class view (soughts.Method name arity) class = option_map (λ declared. declared.key) (declared_method view class name.now arity)
