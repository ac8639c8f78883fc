-- Indexes of last writers: for each key the stamp of the last entry that writes a cell which counts for the key.
use Rattle.std.specs.FinMap.{from_entries, get}
use Rattle.std.specs.List.{list_any}
use Rattle.std.specs.Prelude.{◌≡◌, ◌||◌, Bool, List, Option, None, Some, if◌then◌else◌}
use Rattle.std.specs.declared.cmp.Ordering.{Ordering}
use Rattle.mol_base.specs.Order.{id_cmp}
use Rattle.mol_base.specs.declared.ident.Id.{Id}
use Rattle.mol_base.specs.declared.ident.Stamp.{Stamp}
use Rattle.mol_log_rules.specs.Histories.{History}
use Rattle.mol_log_rules.specs.Living.{is_known_decl}
use Rattle.mol_log_rules.specs.Writers.{last_writer}
use Rattle.mol_table_rules.specs.Program.{Program, same_id}
use Rattle.mol_values_types.specs.declared.cell.Cell.{Cell}
use Rattle.mol_values_types.specs.declared.known.Known.{Known}
use Rattle.mol_values_types.specs.declared.known.Known.TheVariants as knowns

-- each cell of an entity counts for it
abbrev pub is_in_entity : Id → Cell → Bool
is_in_entity id at = same_id id at.id

-- the method of which something that may be known is known as a declaration
abbrev pub method_of_decl : Option Known → Option Id
method_of_decl (Some (knowns.Decl method)) = Some method
method_of_decl other = None

-- whether an entity is this, or a method of which this is known as a declaration
abbrev pub lives_by : Program → Id → Id → Bool
lives_by program id own = same_id id own || is_known_decl id (get program.known own)

-- what an index has for a key
abbrev pub stamp_in : {K : Type 0} → (K → K → Ordering) → List (K × Stamp) → K → Option Stamp
stamp_in compare entries key = get (from_entries {R = compare} entries) key

-- an entity, and the method of which it is a declaration, have this stamp now
abbrev pub IsLifeNoted : Program → Id → Stamp → List (Id × Stamp) → List (Id × Stamp) → Type 0
IsLifeNoted program own stamp was entries =
    (id : Id) → stamp_in id_cmp entries id ≡ (if lives_by program id own then Some stamp else stamp_in id_cmp was id)

module _ {K : Type 0} (compare : K → K → Ordering) (counts : K → Cell → Bool) where
  abbrev pub AreLastWriters : History → List (K × Stamp) → Type 0
  AreLastWriters history entries = (key : K) → stamp_in compare entries key ≡ last_writer (counts key) history

  -- the stamp for the keys for which one of the cells counts, and for the others what was there
  abbrev pub noted : List Cell → Stamp → List (K × Stamp) → K → Option Stamp
  noted cells stamp was key = if list_any (counts key) cells then Some stamp else stamp_in compare was key

  abbrev pub AreNoted : List Cell → Stamp → List (K × Stamp) → List (K × Stamp) → Type 0
  AreNoted cells stamp was entries = (key : K) → stamp_in compare entries key ≡ noted cells stamp was key
