-- Which simple names uses leave to what may be imported, one use further.
use Rattle.std.proofs.Common.{◌≡◌, ℕ, ◌+◌, ◌<◌, ◌≤◌, Bool, true, false, ◌&&◌, ◌||◌, not, List, [], ◌∷◌, ◌++◌, map, length, take, get_or, None, if◌then◌else◌, refl, sym, ap, ◌∙◌, subst, bytes_eq}
use Rattle.std.proofs.lemmas.List.{map_push, take_all, take_more}
use Rattle.std.specs.List.{list_all, list_any}
use Rattle.jav_names.specs.DottedNames.{Name, cut, simple_name}
use Rattle.mol_base.specs.declared.ident.Id.{Id}
use Rattle.mol_spell_names.specs.simple_names.Bearers.{AreBearers, Bearers, bearer_at, leaves_name, may_be}
use Rattle.mol_spell_rules.specs.SimpleNames.{begins_written, is_no_rival, is_simple_beside, same_importable}
use Rattle.mol_spell_rules.specs.Writers.{Importable, Use, importable_use, outside_import, program_class, simple_of}
use Rattle.mol_table_rules.specs.Program.{Program, name_at}
use Rattle.mol_spell_uses.specs.uses.Kept.{kept_use}
use Rattle.mol_spell_uses.specs.declared.uses.used.Use.{Use as Kept}
use Rattle.mol_spell_uses.specs.declared.uses.used.Use.TheVariants as kept

-- ---- one use further

one : (written alone : Bool) → not (written || false) && (alone && true) ≡ not written && alone
one true alone = refl
one false true = refl
one false false = refl

further : (written alone any more all whole leaves : Bool) → not more && whole ≡ (not any && all) && leaves
    → not (written || more) && (alone && whole) ≡ (not (written || any) && (alone && all)) && leaves
further true alone any more all whole leaves is = refl
further false true any more all whole leaves is = is
further false false true true all whole leaves is = refl
further false false true false all whole leaves is = refl
further false false false true all whole leaves is = refl
further false false false false all whole leaves is = refl

module _ (program : Program) (what : Importable) where
  left-more : (uses : List Use) (used : Use)
      → is_simple_beside program (uses ++ used ∷ []) what None ≡ is_simple_beside program uses what None && leaves_name program what used
  left-more [] used = one (begins_written (simple_of program what) used) (is_no_rival program what used)
  left-more (first ∷ uses) used =
      let begins = begins_written (simple_of program what) in
      let alone = is_no_rival program what in
      further (begins first) (alone first) (list_any begins uses) (list_any begins (uses ++ used ∷ [])) (list_all alone uses)
      (list_all alone (uses ++ used ∷ [])) (leaves_name program what used) (left-more uses used)

-- ---- the map

module _ (program : Program) where
  pub none-taken : AreBearers program [] []
  none-taken what = refl

  -- one use of several further
  pub taken-further : (uses : List Kept) (i : ℕ) (used : Kept) (old new : Bearers) → i < length uses → used ≡ get_or uses i used
      → AreBearers program (map kept_use (take i uses)) old
      → ((what : Importable) → may_be (bearer_at new (simple_of program what)) what
      ≡ may_be (bearer_at old (simple_of program what)) what && leaves_name program what (kept_use used))
      → AreBearers program (map kept_use (take (i + 1) uses)) new
  taken-further uses i used old new within at before adds what =
      let longer : map kept_use (take (i + 1) uses) ≡ map kept_use (take i uses) ++ kept_use used ∷ [] =
      ap (map kept_use) (take_more uses i used within ∙ ap (λ used. take i uses ++ used ∷ []) (sym at))
      ∙ map_push kept_use (take i uses) used
      in
      adds what ∙ ap (λ left. left && leaves_name program what (kept_use used)) (before what)
      ∙ sym (ap (λ uses. is_simple_beside program uses what None) longer
      ∙ left-more program what (map kept_use (take i uses)) (kept_use used))

  pub taken-whole : (uses : List Kept) (i : ℕ) (bearers : Bearers) → length uses ≤ i
      → AreBearers program (map kept_use (take i uses)) bearers → AreBearers program (map kept_use uses) bearers
  taken-whole uses i bearers past are = subst (λ uses. AreBearers program (map kept_use uses) bearers) (take_all i uses past) are

  -- ---- what a use leaves

  importable-leaves : (what used : Importable) (hidden : Bool) (name : Name) → name ≡ simple_of program used
      → (if bytes_eq name (simple_of program what) then same_importable used what else true)
      ≡ leaves_name program what (importable_use used hidden)
  importable-leaves what used hidden name is =
      ap (λ name. if bytes_eq name (simple_of program what) then same_importable used what else true) is

  pub class-leaves : (what : Importable) (used : Kept) (class : Id) (hidden : Bool) (name : Name) → used ≡ kept.Class class hidden
      → name ≡ name_at program class
      → (if bytes_eq name (simple_of program what) then same_importable (program_class class) what else true)
      ≡ leaves_name program what (kept_use used)
  class-leaves what used class hidden name is named =
      importable-leaves what (program_class class) hidden name named ∙ ap (λ used. leaves_name program what (kept_use used)) (sym is)

  pub import-leaves : (what : Importable) (used : Kept) (full : Name) (hidden : Bool) (name : Name) → used ≡ kept.Import full hidden
      → name ≡ simple_name full
      → (if bytes_eq name (simple_of program what) then same_importable (outside_import full) what else true)
      ≡ leaves_name program what (kept_use used)
  import-leaves what used full hidden name is named =
      importable-leaves what (outside_import full) hidden name named ∙ ap (λ used. leaves_name program what (kept_use used)) (sym is)

  left : (b : Bool) → (if b then false else true) ≡ not b && true
  left true = refl
  left false = refl

  pub written-leaves : (what : Importable) (used : Kept) (text name : Name) → used ≡ kept.Written text → name ≡ (cut text).first
      → (if bytes_eq name (simple_of program what) then false else true) ≡ leaves_name program what (kept_use used)
  written-leaves what used text name is named =
      ap (λ name. if bytes_eq name (simple_of program what) then false else true) named
      ∙ left (bytes_eq (cut text).first (simple_of program what)) ∙ ap (λ used. leaves_name program what (kept_use used)) (sym is)
