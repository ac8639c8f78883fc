-- The keys of the classes that live, one identity further.
use Rattle.std.proofs.Common.{◌≡◌, ℕ, ◌+◌, ◌<◌, ◌≤◌, Bool, true, false, cond, if◌then◌else◌, List, [], ◌∷◌, ◌++◌, map, filter, take, length, get_or, filter_map, Option, Some, None, refl, sym, ◌∙◌, ap}
use Rattle.std.specs.FinMap.{keys}
use Rattle.std.specs.List.{cons_option}
use Rattle.std.specs.Option.{option_to_list}
use Rattle.std.proofs.lemmas.List.{map-append, take_all}
use Rattle.mol_base.specs.declared.ident.Id.{Id}
use Rattle.mol_scope_classes.proofs.classes_lemmas.KnownIds.{ids-are, made-more, mapped-one}
use Rattle.mol_spell_rules.specs.SpelledUnits.{UnitKey as Key, key_at, living_classes}
use Rattle.mol_table_rules.specs.Identities.{AreKnown, IsAscending}
use Rattle.mol_table_rules.specs.Program.{Program}
use Rattle.mol_table_rules.specs.Renumber.{is_living_class}
use Rattle.mol_spell.specs.keys.Keys.{key_of, maybe_key}
use Rattle.mol_spell.specs.declared.keys.unit_key.UnitKey.{UnitKey}

module _ {X : Type 0} (test : X → Bool) (f : X → Key) where
  abbrev pub keyed : X → Option Key
  keyed x = if test x then Some (f x) else None

  -- what passes, and is mapped
  pub keyed-all : (xs : List X) → filter_map keyed xs ≡ map f (filter test xs)
  keyed-all [] = refl
  keyed-all (x ∷ xs) = by (test x) (keyed-all xs) where
    by : (b : Bool) → filter_map keyed xs ≡ map f (filter test xs)
        → cons_option (if b then Some (f x) else None) (filter_map keyed xs) ≡ map f (cond b (x ∷ filter test xs) (filter test xs))
    by true more = ap (λ rest. f x ∷ rest) more
    by false more = more

module _ (program : Program) where
  abbrev pub living_key : Id → Option Key
  living_key = keyed (is_living_class program) (key_at program)

  pub keys-more : (ids : List Id) (i : ℕ) (id : Id) (known more : List UnitKey) (key : Option UnitKey) → i < length ids
      → id ≡ get_or ids i id
      → map key_of known ≡ filter_map living_key (take i ids) → maybe_key key ≡ living_key id → more ≡ known ++ option_to_list key
      → map key_of more ≡ filter_map living_key (take (i + 1) ids)
  keys-more ids i id known more key within at before is added =
      ap (map key_of) added
      ∙ map-append key_of known (option_to_list key)
      ∙ (λ k. before k ++ (sym (mapped-one key_of key) ∙ ap option_to_list is) k)
      ∙ sym (made-more living_key ids i id within at)

  pub keys-all : (ids : List Id) (i : ℕ) (found : List UnitKey) → IsAscending ids → AreKnown program ids → length ids ≤ i
      → map key_of found ≡ filter_map living_key (take i ids) → map key_of found ≡ map (key_at program) (living_classes program)
  keys-all ids i found ascending known past are =
      are ∙ ap (filter_map living_key) (take_all i ids past ∙ ids-are program ids ascending known)
      ∙ keyed-all (is_living_class program) (key_at program) (keys program.known)
