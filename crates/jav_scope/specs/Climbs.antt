-- Going up from a class, to the nearest that has what is looked for.
use Rattle.std.specs.Prelude.{ℕ, zero, suc, Option, Some, None}
use Rattle.jav_names.specs.LookUps.{class_above, is_outside, found_or}
use Rattle.jav_names.specs.Views.{View, Found, found, outside, not_found}

-- what there is above a class: a class of the view, something outside, or nothing that can be looked into
abbrev pub above : {C M : Type 0} → View C M → C → Found C
above view class = found_or (class_above view class) (is_outside (view.superclass class))

abbrev pub found_first : {A : Type 0} → Option A → Found A → Found A
found_first (Some x) further = found x
found_first None further = further

abbrev pub look_from : {C A : Type 0} → Found C → (C → Found A) → Found A
look_from (found class) look = look class
look_from outside look = outside
look_from not_found look = not_found

-- from this class up, through at most so many classes
abbrev pub climb : {C M A : Type 0} → ℕ → View C M → (C → Option A) → C → Found A
climb zero view here class = not_found
climb (suc steps) view here class = found_first (here class) (look_from (above view class) (climb steps view here))
