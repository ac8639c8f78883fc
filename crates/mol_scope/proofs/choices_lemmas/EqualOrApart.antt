-- What two static types have in common, where they are equal and where they are not.
use Rattle.std.proofs.Common.{◌≡◌, true, false, if◌then◌else◌, sym}
use Rattle.jav_names.specs.OnValues.{StaticType, unread_value}
use Rattle.jav_names.specs.StaticTypes.{same_value, are_unread, common, common_apart}
use Rattle.jav_names.specs.Views.{View}

module _ {C M : Type 0} (view : View C M) (first second : StaticType C) where
  pub common-equal : same_value view.classes.cmp first second ≡ true → first ≡ common view first second
  common-equal same = λ i.
      if sym same i then first else if are_unread first second then unread_value else common_apart view first second

  pub common-known : same_value view.classes.cmp first second ≡ false → are_unread first second ≡ false
      → common_apart view first second ≡ common view first second
  common-known differ known = λ i. if sym differ i then first else if sym known i then unread_value else common_apart view first second
