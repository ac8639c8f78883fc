-- What each simple name among uses may stand for, as a map has it.
use Rattle.std.specs.Prelude.{◌≡◌, Bool, true, false, ◌&&◌, not, List, Option, None, Some}
use Rattle.std.specs.Borrow.{Bor}
use Rattle.std.specs.Map.{lookup}
use Rattle.std.specs.Str.{bytes_eq}
use Rattle.jav_names.specs.DottedNames.{Name}
use Rattle.mol_spell_rules.specs.SimpleNames.{begins_written, is_no_rival, is_simple_beside, same_importable}
use Rattle.mol_spell_rules.specs.Writers.{Importable, Use, simple_of}
use Rattle.mol_table_rules.specs.Program.{Program}
use Rattle.mol_spell_expr.specs.Importables.{importable_of}
use Rattle.mol_spell_expr.specs.declared.importable.Importable.{Importable as Lent}

-- At each name that uses take stands what it may be for alone, or nothing where it may be for none.
abbrev pub Bearers : Type 0
Bearers = List (Bor Name × Option Lent)

abbrev pub bearer_at : Bearers → Name → Option (Option Lent)
bearer_at bearers name = lookup (λ key. bytes_eq name key.now) bearers

-- A name that no use takes may be for anything.
abbrev pub may_be : Option (Option Lent) → Importable → Bool
may_be None what = true
may_be (Some None) what = false
may_be (Some (Some bearer)) what = same_importable (importable_of bearer) what

-- a use leaves the simple name to this
abbrev pub leaves_name : Program → Importable → Use → Bool
leaves_name program what used = not (begins_written (simple_of program what) used) && is_no_rival program what used

-- The map answers as the rule does where no class near by has the name: whether a class or an imported type may have its simple name.
abbrev pub AreBearers : Program → List Use → Bearers → Type 0
AreBearers program uses bearers =
    (what : Importable) → may_be (bearer_at bearers (simple_of program what)) what ≡ is_simple_beside program uses what None
