-- The lines of the known identities, one after the other.
use Rattle.std.proofs.Common.{◌≡◌, ℕ, ◌+◌, ◌<◌, ◌≤◌, List, [], ◌∷◌, ◌++◌, map, length, get_or, take, Option, Some, refl, sym, ap, ◌∙◌}
use Rattle.std.specs.FinMap.{get, keys, entries}
use Rattle.std.specs.List.{AllByRecursion, flat_map}
use Rattle.std.specs.Option.{option_map_or}
use Rattle.std.proofs.lemmas.List.{take_more, take_all, flat_map_more}
use Rattle.mol_base.specs.Order.{id_cmp-total, id_cmp-IsAntisymmetric}
use Rattle.mol_base.specs.declared.ident.Id.{Id}
use Rattle.mol_report.specs.Ids.{id_line, ids_text, line_at}
use Rattle.mol_scope_classes.proofs.classes_lemmas.KnownIds.{ids-are}
use Rattle.mol_table_rules.proofs.Counts.{each_found}
use Rattle.mol_table_rules.specs.Identities.{AreKnown, IsAscending}
use Rattle.mol_table_rules.specs.Program.{Program}
use Rattle.mol_values_types.specs.declared.known.Known.{Known}

module _ (base : Program) where
  lines-of : (es : List (Id × Known)) → AllByRecursion (λ (e : Id × Known). get base.known e.0 ≡ Some e.1) es
      → flat_map (line_at base) (map (λ (e : Id × Known). e.0) es) ≡ flat_map (id_line base) es
  lines-of [] all = refl
  lines-of (e ∷ es) all =
      ap (λ (o : Option Known). option_map_or (λ (known : Known). id_line base (e.0, known)) o []
      ++ flat_map (line_at base) (map (λ (d : Id × Known). d.0) es)) all.0
      ∙ ap (λ text. id_line base e ++ text) (lines-of es all.1)

  -- one line more
  pub lines-more : (ids : List Id) (i : ℕ) (id : Id) (start before after : List ℕ) → i < length ids → id ≡ get_or ids i id
      → before ≡ start ++ flat_map (line_at base) (take i ids) → after ≡ before ++ line_at base id
      → after ≡ start ++ flat_map (line_at base) (take (i + 1) ids)
  lines-more ids i id start before after within is was now =
      now ∙ ap (λ text. text ++ line_at base id) was
      ∙ flat_map_more (line_at base) start (take i ids) id
      ∙ ap (λ more. start ++ flat_map (line_at base) more) (ap (λ x. take i ids ++ x ∷ []) is ∙ sym (take_more ids i id within))

  -- all lines
  pub lines-all : (ids : List Id) (i : ℕ) (start text : List ℕ) → IsAscending ids → AreKnown base ids → length ids ≤ i
      → text ≡ start ++ flat_map (line_at base) (take i ids) → text ≡ start ++ ids_text base
  lines-all ids i start text ascending known past was =
      was
      ∙ ap (λ more. start ++ flat_map (line_at base) more) (take_all i ids past ∙ ids-are base ids ascending known)
      ∙ ap (λ more. start ++ more)
      (lines-of (entries base.known) (each_found id_cmp-total id_cmp-IsAntisymmetric base.known))
