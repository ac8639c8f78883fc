-- The files of the keys of a program are its files.
use Rattle.std.proofs.Common.{◌≡◌, List, [], ◌∷◌, ◌++◌, map, Contains, Result, refl, sym, ◌∙◌, ap, subst}
use Rattle.std.proofs.lemmas.List.{map_push}
use Rattle.std.specs.Prelude.{IfOk}
use Rattle.jav_tree.specs.declared.unit.Unit.{Unit as Source}
use Rattle.jav_names.proofs.Lists.{stands_first, stands_later}
use Rattle.jav_names.specs.DottedNames.{Names}
use Rattle.mol_base.specs.declared.ident.Id.{Id}
use Rattle.mol_spell_names.specs.simple_names.Named.{imports_of_file, simple_in_file}
use Rattle.mol_spell_names.specs.declared.simple_names.simple_names.SimpleNames.{SimpleNames}
use Rattle.mol_resolve_rules.proofs.Stands.{from_map}
use Rattle.mol_spell_rules.proofs.SetItems.{set-has}
use Rattle.mol_spell_rules.specs.Sets.{as_set}
use Rattle.mol_spell_rules.specs.SimpleNames.{imports_by, is_simple_by}
use Rattle.mol_spell_rules.specs.SpelledUnits.{SpelledUnit, UnitKey, key_at, living_classes, spelled_unit, spelling, unit_key_cmp, unit_tree, units_of}
use Rattle.mol_spell.specs.NamesOf.{AreNamesOf}
use Rattle.mol_spell.specs.Spelt.{spelled_of, unit_at}
use Rattle.mol_spell.specs.declared.spelt_unit.SpeltUnit.{SpeltUnit}
use Rattle.mol_table_rules.specs.Program.{Program}
use Rattle.mol_table_rules.specs.Renumber.{path_at}
use Rattle.mol_table_rules.specs.Tidy.{tidy}
use Rattle.mol_spell.proofs.keys_lemmas.KeysOrdered.{unit_key_cmp-IsKeyOrder}
use Rattle.mol_spell.specs.keys.Keys.{key_of}
use Rattle.mol_spell.specs.declared.keys.unit_key.UnitKey.{UnitKey as Kept}
use Rattle.mol_spell.specs.units.Files.{IsFileOf}

-- ---- one file

-- What is simple by the uses of a file, and the imports by them, are those of the file.
pub file-named : (program : Program) (class : Id) (names : SimpleNames) (imports : Names) → AreNamesOf program class names
    → imports ≡ imports_of_file names → IsFileOf program class imports (simple_in_file names)
file-named program class names imports of_file are = record {
  are_imports = are ∙ (λ i. imports_by (of_file.in_program i) (of_file.of_class i) (of_file.by_uses i));
  are_simple = λ i what. is_simple_by (of_file.in_program i) (of_file.of_class i) (of_file.by_uses i) what;
}

pub tree-as : {E : Type 0} (result : Result Source E) (first second : Program) (one next : Id) → first ≡ second → one ≡ next
    → IfOk result (λ unit. unit ≡ unit_tree first one) → IfOk result (λ unit. unit ≡ unit_tree second next)
tree-as result first second one next table class is =
    subst (λ (tree : Source). IfOk result (λ unit. unit ≡ tree)) (λ i. unit_tree (table i) (class i)) is

-- ---- one file further

pub one-more : (program : Program) (keys : List Kept) (key : Kept) (units more : List SpeltUnit) (unit : SpeltUnit)
    → map spelled_of units ≡ map (unit_at program) (map key_of keys) → spelled_of unit ≡ unit_at program (key_of key)
    → more ≡ units ++ unit ∷ [] → map spelled_of more ≡ map (unit_at program) (map key_of (keys ++ key ∷ []))
one-more program keys key units more unit before is added =
    ap (map spelled_of) added ∙ map_push spelled_of units unit
    ∙ (λ k. before k ++ is k ∷ [])
    ∙ sym (ap (map (unit_at program)) (map_push key_of keys key) ∙ map_push (unit_at program) (map key_of keys) (key_of key))

-- ---- all files

module _ (program : Program) where
  abbrev listed : List UnitKey
  listed = map (key_at program) (living_classes program)

  -- a key of the set is that of its class
  key-kept : (key : UnitKey) → Contains (as_set unit_key_cmp listed) key → path_at program key.class ≡ key.path
  key-kept key stands =
      let found = from_map (key_at program) (living_classes program) key
      ((set-has unit_key_cmp unit_key_cmp-IsKeyOrder listed key).0 stands) in
      subst (λ (key : UnitKey). path_at program key.class ≡ key.path) found.2 refl

  same-files : (keys : List UnitKey) → ((key : UnitKey) → Contains keys key → path_at program key.class ≡ key.path)
      → map (unit_at program) keys ≡ map (λ (key : UnitKey). spelled_unit program key.class) keys
  same-files [] kept = refl
  same-files (key ∷ keys) kept = λ i.
      record (unit_at program key) { path = sym (kept key (stands_first key keys)) i }
      ∷ same-files keys (λ x stands. kept x (stands_later key x keys stands)) i

  pub files-spelt : (keys : List UnitKey) → keys ≡ as_set unit_key_cmp listed → map (unit_at program) keys ≡ units_of program
  files-spelt keys are = ap (map (unit_at program)) are ∙ same-files (as_set unit_key_cmp listed) key-kept

-- The spelling of a program once it is tidied is its spelling.
pub spelled-once_tidied : {E : Type 0} (result : Result (List SpeltUnit) E) (program tidied : Program) → tidied ≡ tidy program
    → tidy tidied ≡ tidied → IfOk result (λ units. map spelled_of units ≡ spelling tidied)
    → IfOk result (λ units. map spelled_of units ≡ spelling program)
spelled-once_tidied result program tidied is once made =
    subst (λ (files : List SpelledUnit). IfOk result (λ units. map spelled_of units ≡ files)) (ap units_of (once ∙ is)) made
