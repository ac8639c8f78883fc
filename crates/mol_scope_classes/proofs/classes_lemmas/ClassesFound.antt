-- What an index of full names finds.
use Rattle.std.proofs.Common.{◌≡◌, ℕ, Bool, true, false, cond, ◌&&◌, List, [], ◌∷◌, map, find, Some, option_map, refl, ◌∙◌, ap, bytes_eq}
use Rattle.std.specs.Ordering.{is_eq}
use Rattle.std.proofs.lemmas.Cmp.{tied_itself}
use Rattle.jav_names.specs.DottedNames.{Name}
use Rattle.jav_names.specs.LookUps.{class_named}
use Rattle.jav_names.specs.Types.{full_name}
use Rattle.jav_names.specs.Views.{ViewClass}
use Rattle.mol_base.specs.Order.{id_cmp-total}
use Rattle.mol_base.specs.declared.ident.Id.{Id}
use Rattle.jav_names.proofs.id_index_lemmas.Sought.{sought-is}
use Rattle.jav_names.specs.id_index.Seeking.{is_sought}
use Rattle.jav_names.specs.declared.id_index.entry.Entry.{Entry}
use Rattle.mol_resolve_rules.specs.ProgramViews.{program_view}
use Rattle.mol_table_rules.specs.Program.{Program}
use Rattle.mol_scope_classes.specs.classes.ClassEntries.{no_owner, class_entry, AreIndexed}

abbrev id_of : Entry → Id
id_of entry = entry.id

abbrev key_of : ViewClass Id → Id
key_of class = class.key

class-sought : (name : Name) (class : ViewClass Id) → is_sought no_owner 0 name (class_entry class) ≡ bytes_eq (full_name class) name
class-sought name class = sought-is no_owner 0 name (class_entry class)
    ∙ ap (λ o. is_eq o && bytes_eq (full_name class) name) (tied_itself id_cmp-total no_owner)

found-among : (name : Name) (classes : List (ViewClass Id))
    → option_map id_of (find (is_sought no_owner 0 name) (map class_entry classes))
    ≡ option_map key_of (find (λ class. bytes_eq (full_name class) name) classes)
found-among name [] = refl
found-among name (class ∷ classes) =
    ap (λ b. option_map id_of (cond b (Some (class_entry class)) (find (is_sought no_owner 0 name) (map class_entry classes))))
    (class-sought name class)
    ∙ by (bytes_eq (full_name class) name) (found-among name classes) where
      by : (b : Bool) → option_map id_of (find (is_sought no_owner 0 name) (map class_entry classes))
          ≡ option_map key_of (find (λ class. bytes_eq (full_name class) name) classes)
          → option_map id_of (cond b (Some (class_entry class)) (find (is_sought no_owner 0 name) (map class_entry classes)))
          ≡ option_map key_of (cond b (Some class) (find (λ class. bytes_eq (full_name class) name) classes))
      by true more = refl
      by false more = more

pub class-found : (program : Program) (entries : List Entry) (count : ℕ) → AreIndexed program entries count → (name : Name)
    → option_map id_of (find (is_sought no_owner 0 name) entries) ≡ option_map key_of (class_named (program_view program).classes name)
class-found program entries count indexed name =
    ap (option_map id_of) (indexed.classes no_owner 0 name) ∙ found-among name (program_view program).classes.items
