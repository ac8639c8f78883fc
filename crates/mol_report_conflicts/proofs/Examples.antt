-- Lists of conflicts, worked out, over a base in which identities have these addresses.
use Rattle.std.proofs.Common.{◌≡◌, ℕ, List, [], ◌∷◌, codes, refl}
use Rattle.std.specs.Fmt.{digits}
use Rattle.json.specs.Print.{escape_byte}
use Rattle.mol_base.specs.declared.ident.Id.{Id}
use Rattle.mol_base.specs.declared.ident.Stamp.{Stamp}
use Rattle.mol_faults_rules.specs.declared.conflict.Conflict.{Conflict}
use Rattle.mol_faults_rules.specs.declared.conflict.ConflictKind.{ConflictKind}
use Rattle.mol_faults_rules.specs.declared.conflict.ConflictKind.TheVariants.{Twice, GoneChanged, GoneUsed, Bad}
use Rattle.mol_faults_rules.specs.declared.fault.Fault.TheVariants.{LocalClash}
use Rattle.mol_report.specs.Labels.{label}
use Rattle.mol_report_conflicts.specs.Conflicts.{conflicts_text}
use Rattle.mol_table_rules.specs.Program.{Program, cell}
use Rattle.mol_values_types.specs.declared.cell.Slot.TheVariants as slots
use Rattle.mol_values_types.specs.declared.value.Value.TheVariants.{Name}

abbrev base : ℕ → Id
base number = record { tag = []; num = number }

abbrev ann : Stamp
ann = record { tag = codes "ann"; seq = 1 }

abbrev bob : Stamp
bob = record { tag = codes "bob"; seq = 1 }

abbrev both : ConflictKind → List Conflict
both kind = record { kind = kind; stamps = ann ∷ bob ∷ [] } ∷ []

none : (program : Program) → conflicts_text program [] ≡ codes "conflicts 0\n"
unfolding digits
none program = refl

-- a class gets two names
renamed-twice : (program : Program) → label program (base 1) ≡ codes "shop.Cart"
    → conflicts_text program (both (Twice (cell (base 1) slots.Name) (Name (codes "Basket")) (Name (codes "Bag"))))
    ≡ codes "conflicts 1\ntwice :1[shop.Cart].name \"Basket\" \"Bag\" by ann@1 bob@1\n"
unfolding digits escape_byte
renamed-twice program cart = rw cart refl

-- a method is deleted that a body calls
gone-used : (program : Program) → label program (base 12) ≡ codes "shop.Cart.tax/1" → label program (base 10) ≡ codes "shop.Till.pay/1"
    → conflicts_text program (both (GoneUsed (base 12) (cell (base 10) slots.Body)))
    ≡ codes "conflicts 1\ngone-used :12[shop.Cart.tax/1] :10[shop.Till.pay/1].body by ann@1 bob@1\n"
unfolding digits
gone-used program tax pay = rw (tax, pay) refl

-- a class is deleted that the other log changes
gone-changed : (program : Program) → label program (base 1) ≡ codes "shop.Cart"
    → conflicts_text program (both (GoneChanged (base 1))) ≡ codes "conflicts 1\ngone-changed :1[shop.Cart] by ann@1 bob@1\n"
unfolding digits
gone-changed program cart = rw cart refl

-- a parameter gets the name of a local
clash : (program : Program) → label program (base 7) ≡ codes "shop.Cart.add/2"
    → conflicts_text program (both (Bad (LocalClash (cell (base 7) slots.Body) (codes "x"))))
    ≡ codes "conflicts 1\nfault local-clash :7[shop.Cart.add/2].body x by ann@1 bob@1\n"
unfolding digits
clash program add = rw add refl
