-- Keys that are those of nothing.
use Rattle.std.specs.Prelude.{◌≡◌, false, None}
use Rattle.std.specs.List.{list_any}
use Rattle.std.specs.Ordering.{is_eq}
use Rattle.jav_names.specs.Views.{View}

-- What has this key extends nothing, and no field and no declaration has it as its owner.
pub record IsStrange {C M : Type 0} (view : View C M) (class : C) : Type 0 where
  pub extends : view.superclass class ≡ None
  pub fields : list_any (λ field. is_eq (view.classes.cmp field.owner class)) view.fields ≡ false
  pub declarations : list_any (λ declared. is_eq (view.classes.cmp declared.owner class)) view.declarations ≡ false
