-- The parts of statements of a program are written as trees that are printable where they have their forms and mention what is known, and
-- what they name may be imported.
use Rattle.std.proofs.Common.{◌≡◌, ◌≤◌, Bool, true, List, [], ◌∷◌, map, length, flat_map, Option, Some, None, refl, sym, ◌∙◌, ap, true≢false, arith}
use Rattle.std.specs.Prelude.{◌&&◌, nat_le}
use Rattle.std.specs.List.{list_all}
use Rattle.std.specs.Option.{option_map_or}
use Rattle.std.proofs.lemmas.Bool.{and_from, and_parts, leb-true}
use Rattle.std.proofs.lemmas.List.Folds.{list_all-append}
use Rattle.mol_base.specs.declared.ident.Id.{Id}
use Rattle.jav_tree.specs.PrintableExpressions.{ExprUses, TypeUses, is_not_empty}
use Rattle.jav_tree.specs.PrintableStatements.{is_value, is_first_value}
use Rattle.jav_tree.specs.TokenTexts.{is_name}
use Rattle.jav_tree.specs.Widths.{type_width}
use Rattle.jav_tree.specs.declared.expr.Expr.{Expr}
use Rattle.jav_tree.specs.declared.stmt.ForStart.TheVariants as for_start
use Rattle.jav_print_laws.proofs.printable_lemmas.Expressions.{both}
use Rattle.jav_print_laws.proofs.printable_lemmas.Widths.{max_within}
use Rattle.jav_names.specs.DottedNames.{Name}
use Rattle.jav_names.specs.Views.{ViewType}
use Rattle.mol_resolve_rules.specs.Locals.{Local, Locals}
use Rattle.mol_resolve_rules.specs.ProgramViews.{seen}
use Rattle.mol_spell_rules.specs.SpelledExpressions.{spelled_expr}
use Rattle.mol_spell_rules.specs.SpelledStatements.{SpelledPart, Spells, mapped, then_next, each, one_expr, exprs, maybe_expr, declared_type, declaring, declarator, spelled_let, spelled_start}
use Rattle.mol_spell_rules.specs.Writers.{Writer, hides_none, Reference}
use Rattle.mol_table_rules.specs.ExpressionForms as shapes
use Rattle.mol_table_rules.specs.ExpressionForms.{Shape, shape_of, are_values, are_arguments, is_initial, is_expression, is_statement}
use Rattle.mol_table_rules.specs.Mentions.{Mention, type_mentions, expr_mentions, exprs_mentions, maybe_mentions, let_mentions, start_mentions}
use Rattle.mol_table_rules.specs.Program.{Program}
use Rattle.mol_table_rules.specs.Rules.{IsProgram}
use Rattle.mol_table_rules.specs.StatementForms.{is_maybe, is_declarator, is_let, is_start}
use Rattle.mol_table_rules.specs.TypeForms.{is_type, is_array, dimensions}
use Rattle.mol_values_types.specs.declared.iblock.IDeclarator.{IDeclarator}
use Rattle.mol_values_types.specs.declared.iblock.IForStart.{IForStart}
use Rattle.mol_values_types.specs.declared.iblock.IForStart.TheVariants as starts
use Rattle.mol_values_types.specs.declared.iblock.ILet.{ILet}
use Rattle.mol_values_types.specs.declared.iexpr.IExpr.{IExpr}
use Rattle.mol_values_types.specs.declared.itype.IType.{IType}
use Rattle.mol_spell_laws.proofs.ExpressionTrees.{Fits}
use Rattle.mol_spell_laws.proofs.ExpressionParts.{are_named, uses_of, value-parts, PartFits}
use Rattle.mol_spell_laws.proofs.Expressions.{expr-fits}
use Rattle.mol_spell_laws.proofs.StatementTrees.{ValueFits, EffectFits, EffectsFit, ArgumentsFit, MaybeFits, DeclaratorsFit, LetFits, StartFits}
use Rattle.mol_spell_laws.proofs.TypeTrees.{are_uses, both-use, are_known, both-known, TypeFits, is_named, is_class_type, type-fits, narrow-type}

module _ (writer : Writer) (rules : IsProgram writer.program) (owner : Id) where
  abbrev program : Program
  program = writer.program

  abbrev all : List Mention → Bool
  all = are_known program owner

  abbrev uses : List Reference → Bool
  uses = are_uses program

  -- ---- writing on

  -- A part of which this holds, whose names may be imported, and after which each local has a name.
  pub record Written {A : Type 0} (holds : A → Type 0) (part : SpelledPart A) : Type 0 where
    pub tree : holds part.tree
    pub names : uses part.references ≡ true
    pub locals : are_named part.locals ≡ true

  -- so it is from wherever each local has a name
  abbrev pub Writes : {A : Type 0} → (A → Type 0) → Spells A → Type 0
  Writes holds part = (locals : Locals Id) → are_named locals ≡ true → Written holds (part locals)

  pub write-mapped : {A B : Type 0} (P : A → Type 0) (Q : B → Type 0) (make : A → B) → ((a : A) → P a → Q (make a)) → (part : SpelledPart A)
      → Written P part → Written Q (mapped make part)
  write-mapped P Q make gives part written =
      record { tree = gives part.tree written.tree; names = written.names; locals = written.locals }

  pub write-next : {A B : Type 0} (P : A → Type 0) (Q : B → Type 0) (first : SpelledPart A) (next : Spells B) → Written P first
      → Writes Q next
      → Written (λ parts. P parts.0 × Q parts.1) (then_next first next)
  write-next P Q first next written writes =
      let rest = writes first.locals written.locals in record {
        tree = (written.tree, rest.tree);
        names = both-use program first.references (next first.locals).references written.names rest.names;
        locals = rest.locals;
      }

  -- ---- expressions

  part-of : (e : IExpr) → (shape_of e).formed ≡ true → all (expr_mentions e) ≡ true → (locals : Locals Id) (named : are_named locals ≡ true)
      → PartFits program (shape_of e) (spelled_expr writer locals e)
  part-of e formed are locals named = expr-fits writer rules owner locals named e formed are

  value-tree : (shape : Shape) (e : Expr) → Fits (uses_of shape) e → shapes.is_value shape ≡ true → ValueFits e
  value-tree shape e fits value = record {
    value = ap (λ (u : ExprUses). u.is_value) fits.uses ∙ (value-parts shape value).1;
    narrow = fits.narrow;
    bare = fits.bare;
  }

  pub write-value : (e : IExpr) → is_expression e ≡ true → all (expr_mentions e) ≡ true → Writes ValueFits (one_expr writer e)
  write-value e value are locals named =
      let fits = part-of e (value-parts (shape_of e) value).0 are locals named in
      record { tree = value-tree (shape_of e) (spelled_expr writer locals e).tree fits.tree value; names = fits.names None; locals = named }

  effect-tree : (e : IExpr) (tree : Expr) → Fits (uses_of (shape_of e)) tree → is_statement e ≡ true → EffectFits tree
  effect-tree e tree fits stated = record {
    effect = ap (λ (u : ExprUses). u.is_statement) fits.uses ∙ (and_parts (shapes.is_value (shape_of e)) (shape_of e).statement stated).1;
    narrow = fits.narrow;
    bare = fits.bare;
  }

  effect-formed : (e : IExpr) → is_statement e ≡ true → (shape_of e).formed ≡ true
  effect-formed e stated = (value-parts (shape_of e) (and_parts (shapes.is_value (shape_of e)) (shape_of e).statement stated).0).0

  pub write-effect : (e : IExpr) → is_statement e ≡ true → all (expr_mentions e) ≡ true → Writes EffectFits (one_expr writer e)
  write-effect e stated are locals named =
      let fits = part-of e (effect-formed e stated) are locals named in
      record { tree = effect-tree e (spelled_expr writer locals e).tree fits.tree stated; names = fits.names None; locals = named }

  pub write-effects : (es : List IExpr) → list_all is_statement es ≡ true → all (exprs_mentions es) ≡ true
      → Writes EffectsFit (exprs writer es)
  write-effects [] stated are locals named =
      record { tree = record { effects = refl; narrow = omega arith; bare = refl }; names = refl; locals = named }
  write-effects (e ∷ es) stated are locals named =
      let parts = and_parts (is_statement e) (list_all is_statement es) stated in
      let mentioned = both-known program owner (expr_mentions e) (exprs_mentions es) are in
      let fits = part-of e (effect-formed e parts.0) mentioned.0 locals named in
      let here = effect-tree e (spelled_expr writer locals e).tree fits.tree parts.0 in
      let rest = write-effects es parts.1 mentioned.1 locals named in
      record {
        tree = record {
          effects = both here.effect rest.tree.effects;
          narrow = max_within _ _ 255 here.narrow rest.tree.narrow;
          bare = λ i. here.bare i ∷ rest.tree.bare i;
        };
        names = both-use program ((spelled_expr writer locals e).references None) (exprs writer es locals).references
            (fits.names None) rest.names;
        locals = named;
      }

  write-values : (es : List IExpr) → are_values (map shape_of es) ≡ true → length es ≤ 255 → all (exprs_mentions es) ≡ true
      → Writes ArgumentsFit (exprs writer es)
  write-values [] values few are locals named =
      record { tree = record { values = refl; few = omega arith; narrow = omega arith; bare = refl }; names = refl; locals = named }
  write-values (e ∷ es) values few are locals named =
      let parts = and_parts (shapes.is_value (shape_of e)) (are_values (map shape_of es)) values in
      let mentioned = both-known program owner (expr_mentions e) (exprs_mentions es) are in
      let fits = part-of e (value-parts (shape_of e) parts.0).0 mentioned.0 locals named in
      let here = value-tree (shape_of e) (spelled_expr writer locals e).tree fits.tree parts.0 in
      let rest = write-values es parts.1 (omega (arith, few)) mentioned.1 locals named in
      record {
        tree = record {
          values = both here.value rest.tree.values;
          few = let same = as_many es locals in omega (arith, same, few);
          narrow = max_within _ _ 255 here.narrow rest.tree.narrow;
          bare = λ i. here.bare i ∷ rest.tree.bare i;
        };
        names = both-use program ((spelled_expr writer locals e).references None) (exprs writer es locals).references
            (fits.names None) rest.names;
        locals = named;
      }
    where
      as_many : (es : List IExpr) (locals : Locals Id) → length (exprs writer es locals).tree ≡ length es
      as_many [] locals = refl
      as_many (e ∷ es) locals = omega (arith, as_many es locals)

  few-of : (es : List IExpr) → nat_le (length (map shape_of es)) 255 ≡ true → length es ≤ 255
  few-of es within = let less = leb-true _ 255 within in let same = count es in omega (arith, less, same) where
    count : (es : List IExpr) → length (map shape_of es) ≡ length es
    count [] = refl
    count (e ∷ es) = omega (arith, count es)

  pub write-arguments : (es : List IExpr) → are_arguments (map shape_of es) ≡ true → all (exprs_mentions es) ≡ true
      → Writes ArgumentsFit (exprs writer es)
  write-arguments es arguments are =
      let parts = and_parts (are_values (map shape_of es)) (nat_le (length (map shape_of es)) 255) arguments in
      write-values es parts.0 (few-of es parts.1) are

  pub write-maybe : (e : Option IExpr) → is_maybe e ≡ true → all (maybe_mentions e) ≡ true
      → Writes (MaybeFits is_value) (maybe_expr writer e)
  write-maybe None value are locals named =
      record { tree = record { value = refl; narrow = omega arith; bare = refl }; names = refl; locals = named }
  write-maybe (Some e) value are locals named =
      let fits = write-value e value are locals named in
      record {
        tree = record { value = fits.tree.value; narrow = fits.tree.narrow; bare = ap (λ e. Some e) fits.tree.bare };
        names = fits.names;
        locals = named;
      }

  -- a first value, or none
  pub write-first : (e : Option IExpr) → option_map_or is_initial e true ≡ true → all (maybe_mentions e) ≡ true
      → Writes (MaybeFits is_first_value) (maybe_expr writer e)
  write-first None formed are locals named =
      record { tree = record { value = refl; narrow = omega arith; bare = refl }; names = refl; locals = named }
  write-first (Some e) formed are locals named =
      let fits = part-of e formed are locals named in
      record {
        tree = record {
          value = ap (λ (u : ExprUses). u.is_first_value) fits.tree.uses;
          narrow = fits.tree.narrow;
          bare = ap
              (λ e. Some e) fits.tree.bare;
        };
        names = fits.names None;
        locals = named;
      }

  -- ---- declarations

  pub declared-named : (type : ViewType Id) (name : Name) (locals : Locals Id) → are_named locals ≡ true → is_name name ≡ true
      → are_named (declaring writer type name locals) ≡ true
  declared-named type name locals named is =
      list_all-append (λ (local : Local Id). is_name local.name) locals.declared (record { name = name; type = type } ∷ [])
      ∙ and_from (are_named locals) (is_name name && true) named (and_from (is_name name) true is refl)

  pub type-here : (type : IType) → is_type type ≡ true → all (type_mentions type) ≡ true → (locals : Locals Id)
      → TypeFits program (is_array type) (is_class_type type) (dimensions type) (declared_type writer locals type)
  type-here type formed are locals = type-fits writer rules owner hides_none locals type formed are

  pub narrow-here : (type : IType) → is_type type ≡ true → (locals : Locals Id)
      → TypeFits program (is_array type) (is_class_type type) (dimensions type) (declared_type writer locals type)
      → type_width (declared_type writer locals type).tree ≤ 255
  narrow-here type formed locals fits =
      narrow-type writer rules owner hides_none locals (is_array type) (is_class_type type) (dimensions type)
      (declared_type writer locals type) fits (and_parts (is_named type) (nat_le (dimensions type) 255) formed).1

  abbrev declarators_mentions : List IDeclarator → List Mention
  declarators_mentions ds = flat_map (λ (d : IDeclarator). maybe_mentions d.init) ds

  write-declarators : (type : ViewType Id) (ds : List IDeclarator) → list_all is_declarator ds ≡ true → all (declarators_mentions ds) ≡ true
      → Writes DeclaratorsFit (each (map (declarator writer type) ds))
  write-declarators type [] formed are locals named =
      record { tree = record { declare = refl; narrow = omega arith; bare = refl }; names = refl; locals = named }
  write-declarators type (d ∷ ds) formed are locals named =
      let parts = and_parts (is_declarator d) (list_all is_declarator ds) formed in
      let form = and_parts (is_name d.name) (option_map_or is_initial d.init true) parts.0 in
      let mentioned = both-known program owner (maybe_mentions d.init) (declarators_mentions ds) are in
      let first = write-first d.init form.1 mentioned.0 (declaring writer type d.name locals)
      (declared-named type d.name locals named form.0) in
      let rest = write-declarators type ds parts.1 mentioned.1 (declarator writer type d locals).locals first.locals in
      record {
        tree = record {
          declare = both (both form.0 first.tree.value) rest.tree.declare;
          narrow = max_within _ _ 255 first.tree.narrow rest.tree.narrow;
          bare = λ i. record { name = d.name; init = first.tree.bare i } ∷ rest.tree.bare i;
        };
        names = both-use program (maybe_expr writer d.init (declaring writer type d.name locals)).references
            (each (map (declarator writer type) ds) (declarator writer type d locals).locals).references first.names rest.names;
        locals = rest.locals;
      }

  some-declared : (type : ViewType Id) (ds : List IDeclarator) (locals : Locals Id) → nat_le 1 (length ds) ≡ true
      → is_not_empty (each (map (declarator writer type) ds) locals).tree ≡ true
  some-declared type [] locals some = absurd (true≢false (sym some))
  some-declared type (d ∷ ds) locals some = refl

  pub write-let : (declared : ILet) → is_let declared ≡ true → all (let_mentions declared) ≡ true
      → Writes LetFits (spelled_let writer declared)
  write-let declared formed are locals named =
      let last = and_parts (is_type declared.ty && nat_le 1 (length declared.names)) (list_all is_declarator declared.names) formed in
      let front = and_parts (is_type declared.ty) (nat_le 1 (length declared.names)) last.0 in
      let mentioned = both-known program owner (type_mentions declared.ty) (declarators_mentions declared.names) are in
      let type = type-here declared.ty front.0 mentioned.0 locals in
      let names = write-declarators (seen declared.ty) declared.names last.1 mentioned.1 locals named in
      record {
        tree = record {
          declares = both (both (ap (λ (u : TypeUses). u.is_type) type.uses)
              (some-declared (seen declared.ty) declared.names locals front.1))
              names.tree.declare;
          narrow = max_within _ _ 255 (narrow-here declared.ty front.0 locals type) names.tree.narrow;
          bare = λ i. record {
            is_final = declared.is_final;
            ty =
                (declared_type writer locals declared.ty).tree;
            names = names.tree.bare i;
          };
        };
        names = both-use program (declared_type writer locals declared.ty).references
            (each (map (declarator writer (seen declared.ty)) declared.names) locals).references type.names names.names;
        locals = names.locals;
      }

  pub write-start : (start : IForStart) → is_start start ≡ true → all (start_mentions start) ≡ true
      → Writes StartFits (spelled_start writer start)
  write-start starts.None formed are locals named =
      record { tree = record { starts = refl; narrow = omega arith; bare = refl }; names = refl; locals = named }
  write-start (starts.Let declared) formed are locals named =
      let fits = write-let declared formed are locals named in
      record {
        tree = record { starts = fits.tree.declares; narrow = fits.tree.narrow; bare = ap (λ l. for_start.Let l) fits.tree.bare };
        names = fits.names;
        locals = fits.locals;
      }
  write-start (starts.Do es) formed are locals named =
      let parts = and_parts (nat_le 1 (length es)) (list_all is_statement es) formed in
      let fits = write-effects es parts.1 are locals named in
      record {
        tree = record {
          starts = both (some es parts.0) fits.tree.effects;
          narrow = fits.tree.narrow;
          bare = ap
              (λ es. for_start.Do es) fits.tree.bare;
        };
        names = fits.names;
        locals = named;
      }
    where
      some : (es : List IExpr) → nat_le 1 (length es) ≡ true → is_not_empty (exprs writer es locals).tree ≡ true
      some [] is = absurd (true≢false (sym is))
      some (e ∷ es) is = refl
