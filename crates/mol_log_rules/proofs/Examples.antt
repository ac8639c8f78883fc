-- Worked histories: those of a merged log, in which `ann@9` renames the class `:2`, and then `bob@1` does.
use Rattle.std.proofs.Common.{◌≡◌, refl, ℕ, List, [], ◌∷◌, None, Some}
use Rattle.std.specs.FinMap.{get}
use Rattle.std.specs.Prelude.{codes}
use Rattle.mol_base.specs.declared.ident.Id.{Id}
use Rattle.mol_base.specs.declared.ident.Stamp.{Stamp}
use Rattle.mol_log_rules.specs.Histories.{Stamped, History, last, first_refused}
use Rattle.mol_log_rules.specs.Writers.{writer, entity_writer, IsCondensed}
use Rattle.mol_op.specs.Tests.{need_fault}
use Rattle.mol_op.specs.declared.conditions.Want.TheVariants as wants
use Rattle.mol_op.specs.declared.fault.OpFault.TheVariants.{Unknown}
use Rattle.mol_table_rules.specs.Program.{Program, cell}
use Rattle.mol_values_types.specs.declared.cell.Slot.TheVariants as slots
use Rattle.mol_values_types.specs.declared.value.Value.TheVariants as values

abbrev class : Id
class = record { tag = []; num = 2 }

abbrev ann_9 : Stamp
ann_9 = record { tag = codes "ann"; seq = 9 }

abbrev bob_1 : Stamp
bob_1 = record { tag = codes "bob"; seq = 1 }

abbrev renamed : Stamp → List ℕ → Stamped
renamed stamp name = record {
  stamp = stamp;
  change = record {
    fault = λ known. need_fault wants.Class class (get known class);
    writes = (cell class slots.Name, values.Name name) ∷ [];
    names = [];
  };
}

abbrev merged : History
merged = renamed ann_9 (codes "A") ∷ renamed bob_1 (codes "B") ∷ []

-- the last writer is the last one by its place, though its number is less
last_by_place : writer merged (cell class slots.Name) ≡ Some bob_1
last_by_place = refl

last_name : last merged (cell class slots.Name) ≡ Some (values.Name (codes "B"))
last_name = refl

last_of_entity : entity_writer merged class ≡ Some bob_1
last_of_entity = refl

package_stays : writer merged (cell class slots.Package) ≡ None
package_stays = refl

-- the first entry settles nothing, and the second one the name
condensed : IsCondensed merged bob_1
condensed = (cell class slots.Name, refl)

-- where the class is not known, the first one is refused
refused : (base : Program) → get base.known class ≡ None → first_refused base merged ≡ Some (ann_9, Unknown class)
refused base none = rw none
