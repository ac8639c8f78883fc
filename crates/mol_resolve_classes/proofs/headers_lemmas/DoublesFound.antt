-- A class has the full name of another where one of the two is not the first of it.
use Rattle.std.proofs.Common.{◌≡◌, ◌⊎◌, inl, inr, ℕ, ◌==◌, Bool, true, false, ◌&&◌, ◌||◌, not, List, Option, Some, None, Contains, slice_get, refl, sym, ◌∙◌, ap, true≢false}
use Rattle.std.specs.Bool.{Decides}
use Rattle.std.specs.List.{list_any}
use Rattle.std.specs.Option.{option_map_or}
use Rattle.std.specs.Str.{bytes_eq}
use Rattle.std.proofs.lemmas.Bool.{cases_eq}
use Rattle.std.proofs.lemmas.Bool.Decides.{Decides-and, Decides-eqb, Decides-not, Decides-or, same_from_decides}
use Rattle.std.proofs.lemmas.Option.{same_Some}
use Rattle.std.proofs.lemmas.Slice.Eq.{bytes_eq-Decides}
use Rattle.jav_scope.specs.declared.source.SourceUnit.{SourceUnit}
use Rattle.jav_names.specs.UnitViews.{numbered}
use Rattle.jav_names.proofs.Lists.{list_any-decides}
use Rattle.mol_resolve_rules.specs.FaultKinds.{duplicate_class}
use Rattle.mol_resolve_rules.specs.FaultLists.{has_fault, is_namesake}
use Rattle.mol_resolve_rules.specs.Files.{File, Files, class_name}
use Rattle.mol_resolve_rules.proofs.Stands.{from_numbered, in_numbered}
use Rattle.mol_resolve_classes.specs.headers.Doubles.{shows_double}
use Rattle.mol_resolve_members.specs.sources.Sources.{file_of, files_of}
use Rattle.mol_resolve_members.proofs.sources_lemmas.Sourced.{file-there, source-there}
use Rattle.mol_resolve_classes.specs.headers.Headers.{name_of, first_named}
use Rattle.mol_resolve_classes.proofs.headers_lemmas.FirstNamed.{first-is, first-there}

module _ (sources : List SourceUnit) (place : ℕ) (source : SourceUnit) (at : slice_get sources place ≡ Some source) where
  abbrev files : Files
  files = files_of sources

  abbrev Namesake : ℕ × File → Type 0
  Namesake other = (¬ (place ≡ other.0)) × (name_of source ≡ class_name other.1)

  namesakes : Decides (has_fault files (place, file_of source) duplicate_class)
      ((other : ℕ × File) × Contains (numbered files) other × Namesake other)
  namesakes = list_any-decides Namesake (is_namesake (place, file_of source))
      (λ other. Decides-and (not (place == other.0)) (bytes_eq (name_of source) (class_name other.1))
      (Decides-not (place == other.0) (Decides-eqb place other.0)) (bytes_eq-Decides (name_of source) (class_name other.1)))
      (numbered files)

  abbrev Tells : ℕ × SourceUnit → ℕ → Type 0
  Tells later first = (¬ (first ≡ later.0)) × ((first ≡ place) ⊎ (later.0 ≡ place))

  abbrev Shows : ℕ × SourceUnit → Type 0
  Shows later = (first : ℕ) × (first_named sources (name_of later.1) ≡ Some first) × Tells later first

  abbrev tells : ℕ × SourceUnit → ℕ → Bool
  tells later first = not (first == later.0) && (first == place || later.0 == place)

  tells-decides : (later : ℕ × SourceUnit) (first : ℕ) → Decides (tells later first) (Tells later first)
  tells-decides later first =
      Decides-and (not (first == later.0)) (first == place || later.0 == place)
      (Decides-not (first == later.0) (Decides-eqb first later.0))
      (Decides-or (first == place) (later.0 == place) (Decides-eqb first place) (Decides-eqb later.0 place))

  shows-decides : (later : ℕ × SourceUnit) → Decides (shows_double sources place later) (Shows later)
  shows-decides later = (to (first_named sources (name_of later.1)) refl, from) where
    to : (found : Option ℕ) → first_named sources (name_of later.1) ≡ found → option_map_or (tells later) found false ≡ true → Shows later
    to None is fails = absurd (true≢false (sym fails))
    to (Some first) is holds = (first, is, (tells-decides later first).0 holds)

    from : Shows later → shows_double sources place later ≡ true
    from some = ap (λ (found : Option ℕ). option_map_or (tells later) found false) some.1 ∙ (tells-decides later some.0).1 some.2

  abbrev Others : Type 0
  Others = (other : ℕ × File) × Contains (numbered files) other × Namesake other

  abbrev Laters : Type 0
  Laters = (later : ℕ × SourceUnit) × Contains (numbered sources) later × Shows later

  from : Laters → Others
  from some = by some.2.2.1 where
    later : ℕ × SourceUnit
    later = some.0

    there : slice_get sources later.0 ≡ Some later.1
    there = from_numbered sources later some.1

    known : (first : SourceUnit) × (slice_get sources some.2.0 ≡ Some first) × (name_of first ≡ name_of later.1)
    known = first-is sources (name_of later.1) some.2.0 some.2.1

    by : (some.2.0 ≡ place) ⊎ (later.0 ≡ place) → Others
    by (inl first) =
        let same : known.0 ≡ source = same_Some known.0 source (sym known.1 ∙ ap (slice_get sources) first ∙ at) in (
          (later.0, file_of later.1),
          in_numbered files later.0 (file_of later.1) (file-there sources later.0 later.1 there),
          (λ is. some.2.2.0 (first ∙ is), ap name_of (sym same) ∙ known.2),
        )
    by (inr own) =
        let same : later.1 ≡ source = same_Some later.1 source (sym there ∙ ap (slice_get sources) own ∙ at) in (
          (some.2.0, file_of known.0),
          in_numbered files some.2.0 (file_of known.0) (file-there sources some.2.0 known.0 known.1),
          (λ is. some.2.2.0 (sym (own ∙ is)), ap name_of (sym same) ∙ sym known.2),
        )

  to : Others → Laters
  to some = by (cases_eq first.0 place) where
    other : ℕ × File
    other = some.0

    known : (there : SourceUnit) × (slice_get sources other.0 ≡ Some there) × (file_of there ≡ other.1)
    known = source-there sources other.0 other.1 (from_numbered files other some.1)

    first : (first : ℕ) × (first_named sources (name_of source) ≡ Some first)
    first = first-there sources place source at

    named : name_of source ≡ name_of known.0
    named = some.2.1 ∙ ap class_name (sym known.2)

    by : (first.0 ≡ place) ⊎ (first.0 ≡ place → ⊥) → Laters
    by (inl own) = (
      (other.0, known.0),
      in_numbered sources other.0 known.0 known.1,
      (first.0, ap (first_named sources) (sym named) ∙ first.1, (λ is. some.2.0 (sym own ∙ is), inl own)),
    )
    by (inr apart) = ((place, source), in_numbered sources place source at, (first.0, first.1, (apart, inr refl)))

  pub double-is : list_any (shows_double sources place) (numbered sources) ≡ has_fault files (place, file_of source) duplicate_class
  double-is =
      let laters = list_any-decides Shows (shows_double sources place) shows-decides (numbered sources) in
      same_from_decides (list_any (shows_double sources place) (numbered sources)) (has_fault files (place, file_of source) duplicate_class)
      laters (λ is. to (namesakes.0 is), λ some. namesakes.1 (from some))
