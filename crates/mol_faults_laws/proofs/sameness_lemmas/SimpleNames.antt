-- The file of a class that lives imports the same in two such programs, and the same have their simple names in it.
use Rattle.std.proofs.Common.{Contains, List, None, Option, Some, [], ap, false, option_map, refl, sym, true, ◌∙◌, ◌∷◌, ◌≡◌}
use Rattle.std.specs.Cmp.Lexicographic.{slice_cmp}
use Rattle.std.specs.List.{AllByRecursion, cons_option, filter_map, flat_map, list_any}
use Rattle.std.specs.Ordering.{nat_cmp}
use Rattle.std.specs.Prelude.{if◌then◌else◌, is_none, not, ◌&&◌}
use Rattle.std.specs.Str.{bytes_eq}
use Rattle.jav_names.specs.DottedNames.{Name, Names, joined}
use Rattle.jav_names.specs.LookUps.{class_named}
use Rattle.jav_names.specs.Views.{ViewClass}
use Rattle.jav_tree.specs.declared.stmt.Block.{Block}
use Rattle.mol_base.specs.declared.ident.Id.{Id}
use Rattle.mol_resolve_rules.specs.Locals.{no_locals}
use Rattle.mol_spell_rules.specs.Answers.{answered}
use Rattle.mol_spell_rules.specs.NameFaults.{unit_reader}
use Rattle.mol_spell_rules.specs.Sets.{as_set}
use Rattle.mol_spell_rules.specs.SimpleNames.{same_importable, uses_at, uses_in, near_class, begins_written, is_no_rival, is_simple_beside, is_simple_by, is_simple_in, import_of, imports_by, imports_in, unit_writer, unit_references}
use Rattle.mol_spell_rules.specs.SpelledExpressions.{SpelledExpr, spelled_expr}
use Rattle.mol_spell_rules.specs.SpelledStatements.{declared_type, spelled_body, SpelledPart}
use Rattle.mol_spell_rules.specs.SpelledTypes.{SpelledType}
use Rattle.mol_spell_rules.specs.UnitCells.{printed_cells, cell_reader, cell_writer, references_at}
use Rattle.mol_spell_rules.specs.Writers.{Importable, simple_of, Writer, Use, importable_use, written_use, Reference}
use Rattle.mol_table_rules.specs.Life.{lives}
use Rattle.mol_table_rules.specs.Mentions.{type_mentions, expr_mentions, block_mentions}
use Rattle.mol_table_rules.specs.Program.{Program}
use Rattle.mol_values_types.specs.declared.cell.Cell.{Cell}
use Rattle.mol_values_types.specs.declared.iblock.IBody.{IBody}
use Rattle.mol_values_types.specs.declared.iexpr.IExpr.{IExpr}
use Rattle.mol_values_types.specs.declared.itype.IType.{IType}
use Rattle.jav_names.proofs.Lists.{stands_first, stands_later}
use Rattle.mol_faults_laws.proofs.sameness_lemmas.Alike.{class-lives, name-same, package-same}
use Rattle.mol_faults_laws.proofs.sameness_lemmas.Cells.{answered-same, body-at, cell-lives, expr-at, printed-same, refs-at, type-at}
use Rattle.mol_faults_laws.proofs.sameness_lemmas.Goodness.{AreGoodReferences, AreGoodUses, IsGoodImportable, IsGoodReference, IsGoodUse, all-both}
use Rattle.mol_faults_laws.proofs.sameness_lemmas.Lists.{each-of-all, filter_map-same, flat_map-same, list_all-same}
use Rattle.mol_faults_laws.proofs.sameness_lemmas.LivingViews.{view-same}
use Rattle.mol_faults_laws.proofs.sameness_lemmas.SpelledTypes.{full_of-same, simple_of-same}
use Rattle.mol_faults_laws.proofs.sameness_lemmas.Twins.{AreGood, IsGoodClass, Twins}

module _ (P Q : Program) (twins : Twins P Q) where
  abbrev GoodUses : List Use → Type 0
  GoodUses = AllByRecursion (IsGoodUse P)

  uses-good : (rs : List Reference) → AreGoodReferences P rs → GoodUses (filter_map (λ (reference : Reference). reference.uses) rs)
  uses-good [] all = tt {0}
  uses-good (r ∷ rs) all = by r.uses all.0.uses (uses-good rs all.1) where
    by : (o : Option Use) → AreGoodUses P o → GoodUses (filter_map (λ (reference : Reference). reference.uses) rs)
        → GoodUses (cons_option o (filter_map (λ (reference : Reference). reference.uses) rs))
    by None good rest = rest
    by (Some used) good rest = (good, rest)

  joined-good : (f : Cell → List Use) (cells : List Cell) → ((at : Cell) → Contains cells at → GoodUses (f at))
      → GoodUses (flat_map f cells)
  joined-good f [] each = tt {0}
  joined-good f (at ∷ cells) each =
      all-both (IsGoodUse P) (f at) (flat_map f cells) (each at (stands_first at cells))
      (joined-good f cells (λ other stands. each other (stands_later at other cells stands)))

module _ (P Q : Program) (twins : Twins P Q) (class : Id) (good : IsGoodClass P class) where
  uses_at-alike : (at : Cell) → Contains (printed_cells P class) at
      → (uses_at P class at ≡ uses_at Q class at) × AllByRecursion (IsGoodUse P) (uses_at P class at)
  uses_at-alike at stands =
      let refs = refs-at P Q twins class good [] (λ what. true) (λ what. true) (λ what is. refl) at
      (cell-lives P Q twins class good at stands) in
      (ap (filter_map (λ (reference : Reference). reference.uses)) refs.0, uses-good P Q twins _ refs.1)

  uses_in-same : uses_in P class ≡ uses_in Q class
  uses_in-same =
      flat_map-same (uses_at P class) (uses_at Q class) (printed_cells P class) (λ at stands. (uses_at-alike at stands).0)
      ∙ ap (flat_map (uses_at Q class)) (printed-same P Q twins class)

  uses_in-good : AllByRecursion (IsGoodUse P) (uses_in P class)
  uses_in-good = joined-good P Q twins (uses_at P class) (printed_cells P class) (λ at stands. (uses_at-alike at stands).1)

  near-same : (name : Name) → near_class P class name ≡ near_class Q class name
  near-same name =
      let lives = class-lives P Q twins.alike class good in
      let names = name-same P Q twins.alike class lives in
      let packages = package-same P Q twins.alike class lives in
      let view = view-same P Q twins in
      λ i. if bytes_eq (names i) name then Some class
      else option_map (λ (near : ViewClass Id). near.key) (class_named (sym view i).classes (joined (packages i) (name ∷ [])))

  module _ (uses : List Use) (all : AllByRecursion (IsGoodUse P) uses) where
    rival-same : (what : Importable) → IsGoodImportable P what → (used : Use) → IsGoodUse P used
        → is_no_rival P what used ≡ is_no_rival Q what used
    rival-same what is (importable_use other hidden) used =
        let first = simple_of-same P Q twins other used in
        let second = simple_of-same P Q twins what is in
        λ i. if bytes_eq (first i) (second i) then same_importable other what else true
    rival-same what is (written_use text) used = refl

    beside-same : (what : Importable) → IsGoodImportable P what → (near : Option Id)
        → is_simple_beside P uses what near ≡ is_simple_beside Q uses what near
    beside-same what is (Some near) = refl
    beside-same what is None =
        let written = ap (λ (name : Name). not (list_any (begins_written name) uses)) (simple_of-same P Q twins what is) in
        let rivals = list_all-same (is_no_rival P what) (is_no_rival Q what) uses
        (λ used stands. rival-same what is used (each-of-all (IsGoodUse P) uses all used stands)) in
        λ i. written i && rivals i

    near_simple : (what : Importable) → IsGoodImportable P what
        → near_class P class (simple_of P what) ≡ near_class Q class (simple_of Q what)
    near_simple what is = ap (near_class P class) (simple_of-same P Q twins what is) ∙ near-same (simple_of Q what)

    simple_by-same : (what : Importable) → IsGoodImportable P what → is_simple_by P class uses what ≡ is_simple_by Q class uses what
    simple_by-same what is = beside-same what is (near_class P class (simple_of P what))
        ∙ ap (is_simple_beside Q uses what) (near_simple what is)

    import-same : (used : Use) → IsGoodUse P used → import_of P class uses used ≡ import_of Q class uses used
    import-same (importable_use what false) is =
        let simples = simple_by-same what is in
        let nears = near_simple what is in
        let fulls = full_of-same P Q twins what is in
        λ i. if simples i && is_none (nears i) then Some (fulls i) else None
    import-same (importable_use what true) is = refl
    import-same (written_use text) is = refl

    imports_by-same : imports_by P class uses ≡ imports_by Q class uses
    imports_by-same = ap (as_set (slice_cmp nat_cmp)) (filter_map-same (import_of P class uses) (import_of Q class uses) uses
        (λ used stands. import-same used (each-of-all (IsGoodUse P) uses all used stands)))

  pub imports-same : imports_in P class ≡ imports_in Q class
  imports-same = imports_by-same (uses_in P class) uses_in-good ∙ ap (imports_by Q class) uses_in-same

  pub simple-same : (what : Importable) → IsGoodImportable P what → is_simple_in P class what ≡ is_simple_in Q class what
  simple-same what is =
      simple_by-same (uses_in P class) uses_in-good what is ∙ ap (λ (uses : List Use). is_simple_by Q class uses what) uses_in-same

  -- ---- what prints in the file

  module _ (at : Cell) (living : lives P at.id ≡ true) where
    abbrev among : Names → Writer
    among imports = cell_writer Q imports (is_simple_in Q class) class at

    pub unit-refs : (unit_references P class at ≡ unit_references Q class at) × AreGoodReferences P (unit_references P class at)
    unit-refs =
        let same = refs-at P Q twins class good (imports_in P class) (is_simple_in P class) (is_simple_in Q class) simple-same at living in
        (same.0 ∙ ap (λ (imports : Names). references_at (among imports) at) imports-same, same.1)

    pub unit-answered : (reference : Reference) → IsGoodReference P reference
        → answered (unit_reader P class at) reference ≡ answered (unit_reader Q class at) reference
    unit-answered reference is =
        answered-same P Q twins class good (imports_in P class) (is_simple_in P class)
        (is_simple_in Q class) simple-same at living reference is
        ∙ ap (λ (imports : Names). answered (cell_reader Q imports class at) reference) imports-same

    pub unit-type : (type : IType) → AreGood P (type_mentions type)
        → (declared_type (unit_writer P class at) no_locals type).tree ≡ (declared_type (unit_writer Q class at) no_locals type).tree
    unit-type type all =
        ap (λ (t : SpelledType). t.tree)
        ((type-at P Q twins class good (imports_in P class) (is_simple_in P class)
        (is_simple_in Q class) simple-same at living type all).0
        ∙ ap (λ (imports : Names). declared_type (among imports) no_locals type) imports-same)

    pub unit-expr : (e : IExpr) → AreGood P (expr_mentions e)
        → (spelled_expr (unit_writer P class at) no_locals e).tree ≡ (spelled_expr (unit_writer Q class at) no_locals e).tree
    unit-expr e all =
        ap (λ (s : SpelledExpr). s.tree)
        ((expr-at P Q twins class good (imports_in P class) (is_simple_in P class) (is_simple_in Q class) simple-same at living e all).0
        ∙ ap (λ (imports : Names). spelled_expr (among imports) no_locals e) imports-same)

    pub unit-body : (body : IBody) → AreGood P (block_mentions body.block)
        → (spelled_body (unit_writer P class at) body).tree ≡ (spelled_body (unit_writer Q class at) body).tree
    unit-body body all =
        ap (λ (s : SpelledPart Block). s.tree)
        ((body-at P Q twins class good (imports_in P class) (is_simple_in P class)
        (is_simple_in Q class) simple-same at living body all).0
        ∙ ap (λ (imports : Names). spelled_body (among imports) body) imports-same)
