-- The pairs that are found are those of the program.
use Rattle.std.proofs.Common.{◌≡◌, ℕ, ◌+◌, ◌<◌, Bool, true, false, cond, List, [], ◌∷◌, ◌++◌, take, length, get_or, flat_map, filter_map, Option, Some, None, Contains, refl, sym, ◌∙◌, ap, subst, arith, true≢false}
use Rattle.std.specs.Prelude.{IsTrue, is_some}
use Rattle.std.specs.FinMap.{get}
use Rattle.std.proofs.lemmas.List.{take_more, append-nil}
use Rattle.std.proofs.lemmas.List.Concat.{flat_map-append}
use Rattle.std.proofs.lemmas.Bool.{and_parts}
use Rattle.jav_names.specs.DottedNames.{Name}
use Rattle.mol_base.specs.declared.ident.Id.{Id}
use Rattle.mol_resolve_rules.proofs.Stands.{in_each, from_each, in_some, from_some}
use Rattle.mol_spell_rules.specs.NameFaults.{PackageIsClass}
use Rattle.mol_spell_rules.specs.Writers.{program_class, full_of}
use Rattle.mol_table_rules.proofs.Counts.{none-some, some-same}
use Rattle.mol_table_rules.specs.Identities.{AreKnown}
use Rattle.mol_table_rules.specs.Program.{Program, package_at, living_at}
use Rattle.mol_table_rules.specs.Renumber.{is_class, is_living_class}
use Rattle.mol_values_types.specs.declared.known.Known.{Known}
use Rattle.mol_faults_entities.specs.package_faults.Packages.{begins, dotted_package, dotted_name, living_row, IsRow, HasRows}
use Rattle.mol_faults_entities.specs.package_faults.Pairs.{inside_of, pairs_at, HasPairs}
use Rattle.mol_faults_entities.specs.declared.package_faults.inside.Inside.{Inside}
use Rattle.mol_faults_entities.specs.declared.package_faults.package_rows.PackageRow.{PackageRow}
use Rattle.mol_faults_entities.proofs.package_faults_lemmas.Fronts.{inside-if_begins, begins-if_inside}

-- ---- rows and pairs

class-known : (program : Program) (id : Id) → is_living_class program id ≡ true → IsTrue (is_some (get program.known id))
class-known program id lives = by (get program.known id) refl where
  by : (o : Option Known) → get program.known id ≡ o → IsTrue (is_some (get program.known id))
  by None none = absurd (true≢false (sym (and_parts (is_class (get program.known id)) (living_at program id) lives).0 ∙ ap is_class none))
  by (Some known) is = ap is_some is

module _ (program : Program) (ids : List Id) (known : AreKnown program ids) where
  pub rows-made : HasRows program (filter_map (living_row program) ids)
  rows-made row = (
    λ stands. let from = from_some (living_row program) ids row stands in is-row from.0 (is_living_class program from.0) refl from.2,
    λ is. in_some (living_row program) ids row.class row ((known row.class).1 (class-known program row.class is.lives))
        (ap (λ b. cond b (Some (record { dotted = dotted_package program row.class; class = row.class })) None) is.lives ∙ same-row is),
  ) where
    is-row : (id : Id) (b : Bool) → is_living_class program id ≡ b
        → cond b (Some (record { dotted = dotted_package program id; class = id })) None ≡ Some row → IsRow program row
    is-row id true lives is =
        let made : PackageRow = record { dotted = dotted_package program id; class = id } in
        subst (IsRow program) (some-same made row is) (record { lives = lives; named = refl })
    is-row id false dead is = absurd (none-some row is)

    same-row : IsRow program row → Some (record { dotted = dotted_package program row.class; class = row.class }) ≡ Some row
    same-row is = λ i. Some (record { dotted = sym is.named i; class = row.class })

  -- ---- pairs

  module _ (rows : List PackageRow) (has : HasRows program rows) where
    full : Id → Name
    full class = full_of program (program_class class)

    from-row : (class : Id) (row : PackageRow) (pair : Inside) → is_living_class program class ≡ true → Contains rows row
        → inside_of class (dotted_name program class) row ≡ Some pair → PackageIsClass program pair.class pair.inside
    from-row class row pair lives stands is = by (begins (dotted_name program class) row.dotted) refl is where
      of-row : IsRow program row
      of-row = (has row).0 stands

      by : (b : Bool) → begins (dotted_name program class) row.dotted ≡ b
          → cond b (Some (record { class = class; inside = row.class })) None ≡ Some pair → PackageIsClass program pair.class pair.inside
      by true begun same =
          let made : Inside = record { class = class; inside = row.class } in
          subst (λ (p : Inside). PackageIsClass program p.class p.inside) (some-same made pair same) (record {
            class_lives = lives;
            inside_lives = of-row.lives;
            is = inside-if_begins (full_of program (program_class class)) (package_at program row.class)
                (sym (ap (begins (dotted_name program class)) of-row.named) ∙ begun);
          })
      by false fails none = absurd (none-some pair none)

    from-pairs : (class : Id) (pair : Inside) (b : Bool) → is_living_class program class ≡ b
        → Contains (cond b (filter_map (inside_of class (dotted_name program class)) rows) []) pair
        → PackageIsClass program pair.class pair.inside
    from-pairs class pair true lives stands =
        let from = from_some (inside_of class (dotted_name program class)) rows pair stands in
        from-row class from.0 pair lives from.1 from.2
    from-pairs class pair false dead stands = absurd (omega (arith, stands.1))

    to-pairs : (pair : Inside) → PackageIsClass program pair.class pair.inside → Contains (pairs_at program rows pair.class) pair
    to-pairs pair is =
        let row : PackageRow = record { dotted = dotted_package program pair.inside; class = pair.inside } in
        let begun : begins (dotted_name program pair.class) row.dotted ≡ true =
        begins-if_inside (full_of program (program_class pair.class)) (package_at program pair.inside) is.is in
        subst (λ b. Contains (cond b (filter_map (inside_of pair.class (dotted_name program pair.class)) rows) []) pair)
        (sym is.class_lives)
        (in_some (inside_of pair.class (dotted_name program pair.class)) rows row pair
        ((has row).1 (record { lives = is.inside_lives; named = refl }))
        (ap (λ b. cond b (Some (record { class = pair.class; inside = pair.inside })) None) begun))

    pub pairs-made : HasPairs program (flat_map (pairs_at program rows) ids)
    pairs-made pair = (
      λ stands. let from = from_each (pairs_at program rows) ids pair stands in from-pairs from.0 pair
          (is_living_class program from.0) refl from.2,
      λ is. in_each (pairs_at program rows) ids pair.class pair ((known pair.class).1 (class-known program pair.class is.class_lives))
          (to-pairs pair is),
    )

-- one more list
pub listed-more : {X Y : Type 0} (make : X → List Y) (xs : List X) (i : ℕ) (x : X) → i < length xs → x ≡ get_or xs i x
    → flat_map make (take (i + 1) xs) ≡ flat_map make (take i xs) ++ make x
listed-more make xs i x within is =
    ap (flat_map make) (take_more xs i x within) ∙ flat_map-append make (take i xs) (get_or xs i x ∷ [])
    ∙ ap (λ y. flat_map make (take i xs) ++ flat_map make (y ∷ [])) (sym is)
    ∙ ap (λ ys. flat_map make (take i xs) ++ ys) (append-nil (make x))
