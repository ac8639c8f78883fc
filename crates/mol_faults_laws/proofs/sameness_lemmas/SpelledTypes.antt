-- What may be imported, and types, are written alike in two such programs.
use Rattle.std.proofs.Common.{Bool, List, [], ap, false, refl, subst, sym, ◌∙◌, ◌∷◌, ◌≡◌}
use Rattle.std.specs.Prelude.{if◌then◌else◌, not, ◌&&◌}
use Rattle.jav_names.specs.DottedNames.{Name, Names, cut, joined}
use Rattle.jav_names.specs.TypeTexts.{imported_text}
use Rattle.jav_tree.specs.declared.types.TypeName.TheVariants as types
use Rattle.mol_base.specs.declared.ident.Id.{Id}
use Rattle.mol_resolve_rules.specs.Locals.{Locals}
use Rattle.mol_resolve_rules.specs.Readers.{Parameter}
use Rattle.mol_spell_rules.specs.NameFaults.{is_gone}
use Rattle.mol_spell_rules.specs.SpelledTypes as typing
use Rattle.mol_spell_rules.specs.SpelledTypes.{SpelledType, spelled_type, type_step}
use Rattle.mol_spell_rules.specs.Writers.{Importable, program_class, outside_import, full_of, simple_of, Writer, spelled, text_of, importable_use, use_of}
use Rattle.mol_spell_rules.specs.references.References.{class_target, outside_target}
use Rattle.mol_table_rules.specs.Mentions as mentioning
use Rattle.mol_table_rules.specs.Mentions.{Mention, type_mentions}
use Rattle.mol_table_rules.specs.Program.{Program}
use Rattle.mol_values_types.specs.declared.itype.IType.{IType}
use Rattle.mol_values_types.specs.declared.itype.IType.TheFolds.{fold-roll-IType, ind-IType, map-IType}
use Rattle.mol_values_types.specs.declared.itype.IType.TheOpen.{IType-F}
use Rattle.mol_values_types.specs.declared.itype.IType.TheViews.{roll-IType}
use Rattle.mol_faults_laws.proofs.sameness_lemmas.Alike.{class-lives, name-same, package-same}
use Rattle.mol_faults_laws.proofs.sameness_lemmas.Goodness.{AreGoodReferences, IsGoodImportable}
use Rattle.mol_faults_laws.proofs.sameness_lemmas.Places.{reader_of}
use Rattle.mol_faults_laws.proofs.sameness_lemmas.Twins.{AreGood, IsGoodClass, Twins, good-class}

-- where a cell is written in the file of a class
abbrev pub writer_of : Program → Names → Id → List (Parameter Id) → Bool → (Importable → Bool) → Writer
writer_of program imports class params in_constructor is_simple =
    record { program = program; reader = reader_of program imports class params in_constructor; is_simple = is_simple }

module _ (P Q : Program) (twins : Twins P Q) where
  pub simple_of-same : (what : Importable) → IsGoodImportable P what → simple_of P what ≡ simple_of Q what
  simple_of-same (program_class class) good = name-same P Q twins.alike class (class-lives P Q twins.alike class good)
  simple_of-same (outside_import full) good = refl

  pub full_of-same : (what : Importable) → IsGoodImportable P what → full_of P what ≡ full_of Q what
  full_of-same (program_class class) good =
      let packages = package-same P Q twins.alike class (class-lives P Q twins.alike class good) in
      let names = name-same P Q twins.alike class (class-lives P Q twins.alike class good) in
      λ i. joined (packages i) (names i ∷ [])
  full_of-same (outside_import full) good = refl

  pub class_target-good : (class : Id) → IsGoodClass P class → is_gone P (class_target class) ≡ false
  class_target-good class good = ap not (class-lives P Q twins.alike class good)

module _ (P Q : Program) (twins : Twins P Q) (class : Id) (good : IsGoodClass P class) (imports : Names) (params : List (Parameter Id))
    (in_constructor : Bool) (first_simple second_simple : Importable → Bool)
    (simple : (what : Importable) → IsGoodImportable P what → first_simple what ≡ second_simple what) where
  abbrev here : Writer
  here = writer_of P imports class params in_constructor first_simple

  abbrev there : Writer
  there = writer_of Q imports class params in_constructor second_simple

  pub spelled-same : (hides others : Name → Bool) → hides ≡ others → (what : Importable) → IsGoodImportable P what
      → spelled here hides what ≡ spelled there others what
  spelled-same hides others hide what is =
      let simples = simple what is in
      let names = simple_of-same P Q twins what is in
      let fulls = full_of-same P Q twins what is in
      λ i. if simples i && not (hide i (names i)) then record { first = names i; rest = [] } else cut (fulls i)

  pub use-same : (hides others : Name → Bool) → hides ≡ others → (what : Importable) → IsGoodImportable P what
      → use_of here hides what ≡ use_of there others what
  use-same hides others hide what is = let names = simple_of-same P Q twins what is in λ i. importable_use what (hide i (names i))

  module _ (hides others : Name → Bool) (hide : hides ≡ others) (locals : Locals Id) where
    abbrev TypeAlike : SpelledType → SpelledType → Type 0
    TypeAlike s t = (s ≡ t) × AreGoodReferences P s.references

    abbrev ta : IType → SpelledType
    ta = spelled_type here hides locals

    abbrev tb : IType → SpelledType
    tb = spelled_type there others locals

    abbrev IsAlike : IType → Type 0
    IsAlike type = AreGood P (type_mentions type) → TypeAlike (ta type) (tb type)

    from : (x : IType-F IType)
        → (AreGood P (mentioning.type_step (map-IType _ _ type_mentions x))
        → TypeAlike (type_step here hides locals (map-IType _ _ ta x)) (type_step there others locals (map-IType _ _ tb x)))
        → IsAlike (roll-IType x)
    from x alike all =
        let same = alike (subst (AreGood P) (fold-roll-IType (List Mention) mentioning.type_step x) all) in
        let one = fold-roll-IType SpelledType (type_step here hides locals) x in
        let two = fold-roll-IType SpelledType (type_step there others locals) x in
        (one ∙ same.0 ∙ sym two, subst (λ (s : SpelledType). AreGoodReferences P s.references) (sym one) same.1)

    layer : (y : IType-F ((type : IType) × IsAlike type)) → IsAlike (roll-IType (map-IType _ _ (λ p. p.0) y))
    layer IType-F.Boolean = from IType-F.Boolean (λ all. (refl, tt {0}))
    layer IType-F.Byte = from IType-F.Byte (λ all. (refl, tt {0}))
    layer IType-F.Short = from IType-F.Short (λ all. (refl, tt {0}))
    layer IType-F.Char = from IType-F.Char (λ all. (refl, tt {0}))
    layer IType-F.Int = from IType-F.Int (λ all. (refl, tt {0}))
    layer IType-F.Long = from IType-F.Long (λ all. (refl, tt {0}))
    layer IType-F.Void = from IType-F.Void (λ all. (refl, tt {0}))
    layer (IType-F.Class own) = from (IType-F.Class own) (λ all.
        let lives = good-class P own all.0 in
        let names = spelled-same hides others hide (program_class own) lives in
        let uses = use-same hides others hide (program_class own) lives in (
          (λ i. typing.named here hides locals (class_target own) (imported_text (text_of (names i)) []) (uses i)),
          (record { target = class_target-good P Q twins own lives; asked = tt {0}; uses = lives }, tt {0}),
        ))
    layer (IType-F.Imported import rest) = from (IType-F.Imported import rest) (λ all.
        let names = spelled-same hides others hide (outside_import import) (tt {0}) in
        let uses = use-same hides others hide (outside_import import) (tt {0}) in (
          (λ i. typing.named here hides locals (outside_target (imported_text import rest)) (imported_text (text_of (names i)) rest)
              (uses i)),
          (record { target = refl; asked = tt {0}; uses = tt {0} }, tt {0}),
        ))
    layer (IType-F.Written text) = from (IType-F.Written text) (λ all.
        (refl, (record { target = refl; asked = tt {0}; uses = tt {0} }, tt {0})))
    layer (IType-F.Array one) = from (IType-F.Array one.0) (λ all.
        let same = one.1 all in
        ((λ i. record { tree = types.ArrayOf (same.0 i).tree; references = (same.0 i).references }), same.1))

    -- a type is written alike, and its names are good
    pub type-alike : (type : IType) → IsAlike type
    type-alike = ind-IType IsAlike (λ x y is. subst (λ z. IsAlike (roll-IType z)) is (layer y))
