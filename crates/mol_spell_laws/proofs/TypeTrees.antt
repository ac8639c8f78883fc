-- Types as they are written are printable, as wide as they are, and name what may be imported.
use Rattle.std.proofs.Common.{◌≡◌, inl, inr, ℕ, suc, ◌+◌, ◌≤◌, Bool, true, false, List, [], ◌∷◌, ◌++◌, codes, Option, Some, None, refl, sym, ◌∙◌, ap, subst, true≢false, arith}
use Rattle.std.specs.Prelude.{◌&&◌, ◌||◌, not, nat_le, if◌then◌else◌}
use Rattle.std.specs.List.{list_all}
use Rattle.std.proofs.lemmas.List.Folds.{list_all-append}
use Rattle.std.proofs.lemmas.Bool.{and_from, and_parts, leb-true, or_cases, or_left, or_right}
use Prim.Native.String.{String}
use Rattle.mol_base.specs.Among.{among}
use Rattle.mol_base.specs.declared.ident.Id.{Id}
use Rattle.jav_tree.specs.PrintableExpressions.{TypeUses, type_uses, type_uses_step}
use Rattle.jav_tree.specs.TokenTexts.{is_dotted_name}
use Rattle.jav_tree.specs.Widths.{type_width, type_width_step}
use Rattle.jav_tree.specs.declared.types.TypeName.{TypeName}
use Rattle.jav_tree.specs.declared.types.TypeName.TheFolds.{fold-roll-TypeName}
use Rattle.jav_tree.specs.declared.types.TypeName.TheOpen.{TypeName-F}
use Rattle.jav_tree.specs.declared.types.TypeName.TheVariants as tree
use Rattle.jav_names.specs.DottedNames.{Name, cut}
use Rattle.jav_names.specs.TypeTexts.{imported_text}
use Rattle.mol_resolve_rules.specs.Locals.{Locals}
use Rattle.mol_spell_rules.specs.SpelledTypes.{SpelledType, type_step, spelled_type}
use Rattle.mol_spell_rules.specs.Writers.{Importable, program_class, outside_import, full_of, simple_of, Writer, spelled, text_of, Use, importable_use, written_use, use_of, Reference}
use Rattle.mol_table_rules.specs.Mentions as mentions
use Rattle.mol_table_rules.specs.Mentions.{Mention, a_class, type_mentions}
use Rattle.mol_table_rules.specs.Program.{Program}
use Rattle.mol_table_rules.specs.Rules.{IsProgram, fills}
use Rattle.mol_values_types.specs.TokenForms.{is_empty}
use Rattle.mol_table_rules.specs.TypeForms.{named_step, dimensions_step, dimensions, is_type, void_step, is_void, array_step, is_array, outside_step, class_step, is_class}
use Rattle.mol_values_types.specs.declared.itype.IType.{IType, fold-IType}
use Rattle.mol_values_types.specs.declared.itype.IType.TheFolds.{fold-roll-IType, ind-IType, map-IType}
use Rattle.mol_values_types.specs.declared.itype.IType.TheOpen.{IType-F}
use Rattle.mol_values_types.specs.declared.itype.IType.TheViews.{roll-IType}
use Rattle.std.specs.FinMap.{get}
use Rattle.mol_spell_laws.proofs.KnownNames.{class-fills, MayBeImported, full-dotted, simple-named}
use Rattle.mol_spell_laws.proofs.Names.{AreNames, one-name, cut-names, dotted-imported}

-- ---- uses

-- what is used may be imported by its full name
abbrev pub is_use : Program → Option Use → Bool
is_use program (Some (importable_use what hidden)) = is_dotted_name (full_of program what)
is_use program (Some (written_use text)) = true
is_use program None = true

abbrev pub are_uses : Program → List Reference → Bool
are_uses program references = list_all (λ (reference : Reference). is_use program reference.uses) references

pub both-use : (program : Program) (xs ys : List Reference) → are_uses program xs ≡ true → are_uses program ys ≡ true
    → are_uses program (xs ++ ys) ≡ true
both-use program xs ys first second = list_all-append (λ (reference : Reference). is_use program reference.uses) xs ys
    ∙ and_from (are_uses program xs) (are_uses program ys) first second

-- ---- mentions

-- what a cell of `owner` mentions is known, and of the right kind
abbrev pub are_known : Program → (owner : Id) → List Mention → Bool
are_known program owner = list_all (λ (mention : Mention). fills owner mention.role (get program.known mention.id))

pub both-known : (program : Program) (owner : Id) (xs ys : List Mention) → are_known program owner (xs ++ ys) ≡ true
    → (are_known program owner xs ≡ true) × (are_known program owner ys ≡ true)
both-known program owner xs ys are = and_parts (are_known program owner xs) (are_known program owner ys)
    (sym (list_all-append (λ (mention : Mention). fills owner mention.role (get program.known mention.id)) xs ys) ∙ are)

-- ---- trees of types

uses-Prim : (text : Name) → type_uses (tree.Prim text) ≡ type_uses_step (TypeName-F.Prim text)
uses-Prim text = ap type_uses (sym (tree.rolls-Prim text)) ∙ fold-roll-TypeName _ type_uses_step (TypeName-F.Prim text)

pub uses-Named : (text : Name) → type_uses (tree.Named text) ≡ type_uses_step (TypeName-F.Named text)
uses-Named text = ap type_uses (sym (tree.rolls-Named text)) ∙ fold-roll-TypeName _ type_uses_step (TypeName-F.Named text)

uses-ArrayOf : (item : TypeName) → type_uses (tree.ArrayOf item) ≡ type_uses_step (TypeName-F.ArrayOf (type_uses item))
uses-ArrayOf item = ap type_uses (sym (tree.rolls-ArrayOf item)) ∙ fold-roll-TypeName _ type_uses_step (TypeName-F.ArrayOf item)

width-Prim : (text : Name) → type_width (tree.Prim text) ≡ 0
width-Prim text = ap type_width (sym (tree.rolls-Prim text)) ∙ fold-roll-TypeName _ type_width_step (TypeName-F.Prim text)

width-Named : (text : Name) → type_width (tree.Named text) ≡ 0
width-Named text = ap type_width (sym (tree.rolls-Named text)) ∙ fold-roll-TypeName _ type_width_step (TypeName-F.Named text)

width-ArrayOf : (item : TypeName) → type_width (tree.ArrayOf item) ≡ suc (type_width item)
width-ArrayOf item = ap type_width (sym (tree.rolls-ArrayOf item)) ∙ fold-roll-TypeName _ type_width_step (TypeName-F.ArrayOf item)

-- ---- what is proved of a type

-- what a type may be that is an array or none, and a class or none
abbrev pub uses_of_type : (array class : Bool) → TypeUses
uses_of_type array class = record { is_base = not array; is_class = class; is_array = array; is_type = true; is_result = true }

-- It is written as such a type, with as many pairs of brackets, and what it names may be imported.
pub record TypeFits (program : Program) (array class : Bool) (pairs : ℕ) (type : SpelledType) : Type 0 where
  pub uses : type_uses type.tree ≡ uses_of_type array class
  pub wide : type_width type.tree ≡ pairs
  pub names : are_uses program type.references ≡ true

abbrev pub is_named : IType → Bool
is_named = fold-IType Bool named_step

-- a class of the program, or one outside
abbrev pub is_class_type : IType → Bool
is_class_type type = fold-IType Bool class_step type || fold-IType Bool outside_step type

-- What a method gives is written as such, a type or `void`.
pub record ResultFits (program : Program) (pairs : ℕ) (type : SpelledType) : Type 0 where
  pub result : (type_uses type.tree).is_result ≡ true
  pub wide : type_width type.tree ≤ pairs
  pub names : are_uses program type.references ≡ true

module _ (writer : Writer) (rules : IsProgram writer.program) where
  -- ---- what may be imported, as it is written

  pub names-spelled : (hides : Name → Bool) (what : Importable) → MayBeImported writer.program what → AreNames (spelled writer hides what)
  names-spelled hides what may = by (writer.is_simple what && not (hides (simple_of writer.program what))) where
    by : (b : Bool) → AreNames (if b then record { first = simple_of writer.program what; rest = [] } else cut
        (full_of writer.program what))
    by true = one-name (simple_of writer.program what) (simple-named writer.program rules what may)
    by false = cut-names (full_of writer.program what) (full-dotted writer.program rules what may)

  module _ (owner : Id) (hides : Name → Bool) (locals : Locals Id) where
    abbrev written : IType → SpelledType
    written = spelled_type writer hides locals

    abbrev step : IType-F SpelledType → SpelledType
    step = type_step writer hides locals

    -- of a type that is `void` or has its form, and mentions what is known
    record Claim (formed alone array own outside : Bool) (pairs : ℕ) (mentioned : List Mention) (type : SpelledType) : Type 0 where
      typed : formed ≡ true → are_known writer.program owner mentioned ≡ true → TypeFits writer.program array (own || outside) pairs type
      void : alone ≡ true → ResultFits writer.program 0 type
      own_named : own ≡ true → formed ≡ true

    abbrev Right : IType → Type 0
    Right type = Claim (is_named type) (is_void type) (is_array type) (fold-IType Bool class_step type) (fold-IType Bool outside_step type)
        (dimensions type) (type_mentions type) (written type)

    from : (x : IType-F IType)
        → Claim (named_step (map-IType _ _ is_named x)) (void_step (map-IType _ _ is_void x)) (array_step (map-IType _ _ is_array x))
        (class_step (map-IType _ _ (fold-IType Bool class_step) x)) (outside_step (map-IType _ _ (fold-IType Bool outside_step) x))
        (dimensions_step (map-IType _ _ dimensions x)) (mentions.type_step (map-IType _ _ type_mentions x)) (step (map-IType _ _ written x))
        → Right (roll-IType x)
    from x claim = rw (
      fold-roll-IType Bool named_step x,
      fold-roll-IType Bool void_step x,
      fold-roll-IType Bool array_step x,
      fold-roll-IType Bool class_step x,
      fold-roll-IType Bool outside_step x,
      fold-roll-IType ℕ dimensions_step x,
      fold-roll-IType (List Mention) mentions.type_step x,
      fold-roll-IType SpelledType step x,
    ) claim

    no-void : {A : Type 0} → false ≡ true → A
    no-void h = absurd (true≢false (sym h))

    -- ---- names

    base-fits : (to : TypeName) (array class : Bool) (names : List Reference) → type_uses to ≡ uses_of_type array class → type_width to ≡ 0
        → are_uses writer.program names ≡ true → TypeFits writer.program array class 0 (record { tree = to; references = names })
    base-fits to array class names uses wide are = record { uses = uses; wide = wide; names = are }

    primitive-fits : (word : String) → among ("boolean" ∷ "byte" ∷ "short" ∷ "char" ∷ "int" ∷ "long" ∷ []) (codes word) ≡ true
        → TypeFits writer.program false false 0 (record { tree = tree.Prim (codes word); references = [] })
    primitive-fits word is = base-fits (tree.Prim (codes word)) false false []
        (uses-Prim (codes word)
        ∙ ap (λ (b : Bool). record { is_base = b; is_class = false; is_array = false; is_type = b; is_result = b }) is)
        (width-Prim (codes word)) refl

    named-fits : (text : Name) (names : List Reference) → is_dotted_name text ≡ true → are_uses writer.program names ≡ true
        → TypeFits writer.program false true 0 (record { tree = tree.Named text; references = names })
    named-fits text names dotted are = base-fits (tree.Named text) false true names
        (uses-Named text
        ∙ ap (λ (b : Bool). record { is_base = b; is_class = b; is_array = false; is_type = b; is_result = b }) dotted)
        (width-Named text) are

    -- what may be imported, and the names that follow it
    importable-fits : (what : Importable) (rest : Name) (reference : Reference) → reference.uses ≡ Some (use_of writer hides what)
        → MayBeImported writer.program what → (is_empty rest || is_dotted_name rest) ≡ true
        → TypeFits writer.program false true 0
        (record { tree = tree.Named (imported_text (text_of (spelled writer hides what)) rest); references = reference ∷ [] })
    importable-fits what rest reference uses may follows =
        named-fits (imported_text (text_of (spelled writer hides what)) rest) (reference ∷ [])
        (dotted-imported (text_of (spelled writer hides what)) rest (names-spelled hides what may).joined follows)
        (and_from (is_use writer.program reference.uses) true (ap (is_use writer.program) uses
        ∙ full-dotted writer.program rules what may) refl)

    array-fits : (array class : Bool) (pairs : ℕ) (item : SpelledType) → TypeFits writer.program array class pairs item
        → TypeFits writer.program true false (pairs + 1) (record { tree = tree.ArrayOf item.tree; references = item.references })
    array-fits array class pairs item fits = record {
      uses = uses-ArrayOf item.tree ∙ ap (λ (uses : TypeUses). type_uses_step (TypeName-F.ArrayOf uses)) fits.uses;
      wide = width-ArrayOf item.tree ∙ omega (arith, fits.wide);
      names = fits.names;
    }

    void-fits : ResultFits writer.program 0 (record { tree = tree.Void; references = [] })
    void-fits = record {
      result = ap (λ (t : TypeName). (type_uses t).is_result) (sym tree.rolls-Void)
          ∙ ap (λ (u : TypeUses). u.is_result) (fold-roll-TypeName _ type_uses_step TypeName-F.Void);
      wide = let none : type_width tree.Void ≡ 0 = ap type_width (sym tree.rolls-Void)
          ∙ fold-roll-TypeName _ type_width_step TypeName-F.Void in
          omega (arith, none);
      names = refl;
    }

    layer : (y : IType-F ((type : IType) × Right type)) → Right (roll-IType (map-IType _ _ (λ p. p.0) y))
    layer IType-F.Boolean = from IType-F.Boolean
        (record { typed = λ named are. primitive-fits "boolean" refl; void = no-void; own_named = no-void })
    layer IType-F.Byte = from IType-F.Byte (record { typed = λ named are. primitive-fits "byte" refl; void = no-void; own_named = no-void })
    layer IType-F.Short = from IType-F.Short
        (record { typed = λ named are. primitive-fits "short" refl; void = no-void; own_named = no-void })
    layer IType-F.Char = from IType-F.Char (record { typed = λ named are. primitive-fits "char" refl; void = no-void; own_named = no-void })
    layer IType-F.Int = from IType-F.Int (record { typed = λ named are. primitive-fits "int" refl; void = no-void; own_named = no-void })
    layer IType-F.Long = from IType-F.Long (record { typed = λ named are. primitive-fits "long" refl; void = no-void; own_named = no-void })
    layer IType-F.Void = from IType-F.Void (record { typed = λ named are. no-void named; void = λ is. void-fits; own_named = no-void })
    layer (IType-F.Class class) = from (IType-F.Class class) (record {
      typed = λ named are. importable-fits (program_class class) [] _ refl
          (class-fills owner (get writer.program.known class)
          (and_parts (fills owner a_class (get writer.program.known class)) true are).0) refl;
      void = no-void;
      own_named = λ is. refl;
    })
    layer (IType-F.Imported full rest) = from (IType-F.Imported full rest) (record {
      typed = λ named are.
          let parts = and_parts (is_dotted_name full) (is_empty rest || is_dotted_name rest) named in
          importable-fits (outside_import full) rest _ refl parts.0 parts.1;
      void = no-void;
      own_named = no-void;
    })
    layer (IType-F.Written text) = from (IType-F.Written text) (record {
      typed = λ named are. named-fits text _ named refl;
      void = no-void;
      own_named = no-void;
    })
    layer (IType-F.Array item) = from (IType-F.Array item.0) (record {
      typed = λ named are. array-fits (is_array item.0) (is_class_type item.0) (dimensions item.0) (written item.0)
          (item.1.typed named are);
      void = no-void;
      own_named = no-void;
    })

    right : (type : IType) → Right type
    right = ind-IType Right (λ x y is. subst (λ z. Right (roll-IType z)) is (layer y))

    -- ---- types, and results of methods

    pub type-fits : (type : IType) → (is_named type && nat_le (dimensions type) 255) ≡ true
        → are_known writer.program owner (type_mentions type) ≡ true
        → TypeFits writer.program (is_array type) (is_class_type type) (dimensions type) (written type)
    type-fits type formed are = (right type).typed (and_parts (is_named type) (nat_le (dimensions type) 255) formed).0 are

    pub narrow-type : (array class : Bool) (pairs : ℕ) (type : SpelledType) → TypeFits writer.program array class pairs type
        → nat_le pairs 255 ≡ true → type_width type.tree ≤ 255
    narrow-type array class pairs type fits few = let within = leb-true pairs 255 few in omega (arith, fits.wide)

    pub result-fits : (type : IType) → (is_void type || (is_named type && nat_le (dimensions type) 255)) ≡ true
        → are_known writer.program owner (type_mentions type) ≡ true → ResultFits writer.program 255 (written type)
    result-fits type formed are = elim (or_cases (is_void type) (is_named type && nat_le (dimensions type) 255) formed) [
      | inl void ↦ (let fits = (right type).void void in record {
        result = fits.result;
        wide = omega
            (arith, fits.wide);
        names = fits.names;
      })
      | inr typed ↦ (let fits = type-fits type typed are in record {
        result = ap (λ (u : TypeUses). u.is_result) fits.uses;
        wide = narrow-type (is_array type) (is_class_type type) (dimensions type) (written type) fits
            (and_parts (is_named type) (nat_le (dimensions type) 255) typed).1;
        names = fits.names;
      })
    ]

    -- what may follow `extends`
    pub record ParentFits (type : SpelledType) : Type 0 where
      pub class : (type_uses type.tree).is_class ≡ true
      pub names : are_uses writer.program type.references ≡ true

    pub parent-fits : (type : IType) → is_class type ≡ true → are_known writer.program owner (type_mentions type) ≡ true
        → ParentFits (written type)
    parent-fits type formed are =
        elim (or_cases (fold-IType Bool class_step type) (fold-IType Bool outside_step type && is_type type) formed) [
          | inl own ↦ (let fits = (right type).typed ((right type).own_named own) are in record {
            class = ap (λ (u : TypeUses). u.is_class) fits.uses ∙ or_left (fold-IType Bool class_step type)
                (fold-IType Bool outside_step type) own;
            names = fits.names;
          })
          | inr outside ↦ (
              let parts = and_parts (fold-IType Bool outside_step type) (is_type type) outside in
              let fits = type-fits type parts.1 are in record {
                class = ap (λ (u : TypeUses). u.is_class) fits.uses ∙ or_right (fold-IType Bool class_step type)
                    (fold-IType Bool outside_step type) parts.0;
                names = fits.names;
              })
        ]
